-- What the setter of a key, and of a word, has done.
use Rattle.std.specs.Prelude.{◌≡◌, ℕ, List, Bool, Option, Some, None, is_some, option_map}
use Rattle.std.specs.Fmt.{decimal}
use Rattle.cc_build.specs.Build.{BuildSeen, Sets}
use Rattle.cc_command.specs.Read.{is, level_of, cause_unless, key_cause, cause_among, word_cause, first_bad, settings_of}
use Rattle.cc_command.specs.Step.{with_key, with_word}
use Rattle.cc_command.specs.declared.words.WordCause.{WordCause}

-- This is wrong with the key or its value, or nothing is, and it is set.
abbrev pub SetsKey : BuildSeen → BuildSeen → List ℕ → List ℕ → Option WordCause → Type 0
SetsKey old new key value cause = (cause ≡ key_cause key value) × (cause ≡ None → new ≡ with_key old key value)

-- the truth value is set, whatever its text
abbrev pub SetsTruth : BuildSeen → BuildSeen → List ℕ → Bool → Type 0
SetsTruth old new key on = (value : List ℕ) → is value "true" ≡ on → new ≡ with_key old key value

-- the value is no level, or it is set
abbrev pub SetsLevel : BuildSeen → BuildSeen → List ℕ → Option WordCause → Type 0
SetsLevel old new value cause =
    (cause ≡ cause_unless (is_some (level_of value)))
    × (cause ≡ None → Sets old new (λ c. record c { opt_level = option_map decimal (level_of value) }))

-- the same, where a database may be asked for or not; its key sets nothing
abbrev pub SetsAmong : Bool → BuildSeen → BuildSeen → List ℕ → List ℕ → Option WordCause → Type 0
SetsAmong recorded old new key value cause =
    (cause ≡ cause_among recorded key value) × (cause ≡ None → new ≡ with_key old key value)

-- This is wrong with the word, or nothing is, and it is set.
abbrev pub SetsWord : Bool → BuildSeen → BuildSeen → List ℕ → Option WordCause → Type 0
SetsWord recorded old new word cause = (cause ≡ word_cause recorded word) × (cause ≡ None → new ≡ with_word old word)

-- none of these words is bad, of which the first has this place, and this is what they set
abbrev pub ReadsSettings : Bool → ℕ → List (List ℕ) → BuildSeen → Type 0
ReadsSettings recorded from words build = (first_bad recorded from words ≡ None) × (build ≡ settings_of words)
