-- One word more, in the order of the words.
use Rattle.std.proofs.Common.{◌≡◌, ℕ, suc, ◌+◌, ◌<◌, List, [], ◌∷◌, ◌++◌, length, take, drop, get_or, map, Bool, true, false, ◌&&◌, if◌then◌else◌, nat_lt, ◌^◌, Option, Some, None, Ok, refl, sym, ◌∙◌, ap, ap₂, subst, add-one, arith}
use Rattle.std.proofs.Math.Seq.{drop-cons}
use Rattle.std.specs.Str.Parse.{digits_value}
use Rattle.std.proofs.lemmas.Fmt.{decimal_is_IsNumeral}
use Rattle.std.proofs.lemmas.Grind.{take_at_read}
use Rattle.std.proofs.lemmas.List.{map-append}
use Rattle.cc_flags.specs.Settings.{unset_settings}
use Rattle.cc_build.specs.Build.{BuildSeen}
use Rattle.cc_command.specs.Read.{bad_at, bad_or, bad_word, first_bad, word_cause, values, levels, settings_of, IsJobOf, is, database_of, wish_by, wish_of, is_count, IsCountOf, IsNumberOf, taken, further, read_named, read_count, read_build, refusal_of}
use Rattle.cc_command.specs.SetsKey.{ReadsSettings}
use Rattle.cc_command.specs.Step.{with_word}
use Rattle.cc_command.specs.declared.words.BadWord.{BadWord}
use Rattle.cc_command.specs.declared.words.Job.{Job}
use Rattle.cc_command.specs.declared.words.ReadError.{ReadError}
use Rattle.cc_command.specs.declared.words.ReadError.TheVariants.{Bad}
use Rattle.cc_command.specs.declared.words.WordCause.{WordCause}
use Rattle.cc_command.specs.declared.words.WordCause.TheVariants.{BadValue}
use Rattle.cc_command.specs.Read.Wish.{Generates, Expands, Shows}
use Rattle.cc_command.proofs.SettingLaws.{next_settings}

-- before the first word nothing is set but that lines are repeated
pub fresh_settings : (old new : BuildSeen) → old ≡ record { config = unset_settings; env = record { inherited = []; explicit = [] } } → new ≡ record old { config = record old.config { repeat_lines = true } } → new ≡ settings_of []
unfolding values levels
fresh_settings old new fresh set = set ∙ rw fresh refl

module _ {A : Type 0} (text : A → List ℕ) (recorded : Bool) (words : List A) (from i : ℕ) (word : A) where
  next_bad : (n : ℕ) → i < length words → word ≡ get_or words i word → first_bad recorded n (map text (drop i words)) ≡ bad_or n (word_cause recorded (text word)) (first_bad recorded (n + 1) (map text (drop (i + 1) words)))
  next_bad n within is =
      let d : drop i words ≡ word ∷ drop (i + 1) words = drop-cons words i word within ∙ ap (λ w. w ∷ drop (suc i) words) (sym is) ∙ ap (λ k. word ∷ drop k words) (sym (add-one i)) in
      ap (λ l. first_bad recorded n (map text l)) d

  -- something is wrong with the word, and with none before it
  pub bad_here : (all : Option BadWord) (cause : WordCause) (e : ReadError) → i < length words → word ≡ get_or words i word → first_bad recorded (from + i) (map text (drop i words)) ≡ all → word_cause recorded (text word) ≡ Some cause → e ≡ Bad (bad_at (i + from) cause) → bad_word all ≡ Some e
  bad_here all cause e within is rest wrong made =
      ap bad_word (sym rest ∙ next_bad (from + i) within is ∙ ap (λ c. bad_or (from + i) c (first_bad recorded (from + i + 1) (map text (drop (i + 1) words)))) wrong ∙ ap (λ n. Some (bad_at n cause)) (omega arith)) ∙ ap Some (sym made)

  -- nothing is wrong with it
  pub good_here : (all : Option BadWord) → i < length words → word ≡ get_or words i word → first_bad recorded (from + i) (map text (drop i words)) ≡ all → word_cause recorded (text word) ≡ None → first_bad recorded (from + (i + 1)) (map text (drop (i + 1) words)) ≡ all
  good_here all within is rest fine =
      ap (λ n. first_bad recorded n (map text (drop (i + 1) words))) (omega arith)
      ∙ ap (λ c. bad_or (from + i) c (first_bad recorded (from + i + 1) (map text (drop (i + 1) words)))) (sym fine) ∙ sym (next_bad (from + i) within is) ∙ rest

  pub set_here : (old new : BuildSeen) → i < length words → word ≡ get_or words i word → old ≡ settings_of (map text (take i words)) → new ≡ with_word old (text word) → new ≡ settings_of (map text (take (i + 1) words))
  set_here old new within is before set =
      let more : take (i + 1) words ≡ take i words ++ word ∷ [] = (take_at_read words i word within).1 ∙ ap (λ w. take i words ++ w ∷ []) (sym is) in
      set ∙ ap (λ s. with_word s (text word)) before ∙ sym (next_settings (map text (take i words)) (text word)) ∙ ap settings_of (sym (ap (map text) more ∙ map-append text (take i words) (word ∷ [])))

-- words with such a job, which are good
pub reads_so : (command name : List ℕ) (words : List (List ℕ)) (job : Job) (build : BuildSeen) (database : Option (List ℕ)) → IsJobOf command name job → ReadsSettings (is command "compile") 2 words build → database ≡ database_of words → read_named command name words ≡ Ok (wish_of job database build)
reads_so command name words job build database k r d =
    rw (k.0, r.0) (ap Ok (ap (λ (b : BuildSeen). wish_by command (database_of words) (name, b)) (sym r.1) ∙ ap (λ (p : Option (List ℕ)). wish_by command p (name, build)) (sym d) ∙ sym (k.1 database build)))

-- the settings of words repeat their lines
pub repeats_so : (recorded : Bool) (from : ℕ) (words : List (List ℕ)) (build : BuildSeen) → ReadsSettings recorded from words build → build.config.repeat_lines ≡ true
repeats_so recorded from words build r = ap (λ (b : BuildSeen). b.config.repeat_lines) r.1

-- ---- a large run

-- a number that is taken is the one of its decimal form
pub taken_is : (text : List ℕ) (n : ℕ) (r : Option ℕ) → n < 2 ^ 64 → IsNumberOf text (Some n) → r ≡ taken n → IsCountOf text r
taken_is text n r small number is = subst (IsCountOf text) (sym is) (by_test (nat_lt 0 n && nat_lt n 10001) refl)
  where
    value : digits_value 10 text ≡ n
    value = ap (digits_value 10) (sym number.1) ∙ (decimal_is_IsNumeral n small).1

    test_is : is_count text ≡ (nat_lt 0 n && nat_lt n 10001)
    test_is = ap₂ (λ a d. a && (nat_lt 0 d && nat_lt d 10001)) number.0 value

    by_test : (b : Bool) → (nat_lt 0 n && nat_lt n 10001) ≡ b → IsCountOf text (if b then Some n else None)
    by_test true t = (test_is ∙ t, value)
    by_test false f = test_is ∙ f

pub none_taken : (text : List ℕ) → IsNumberOf text None → IsCountOf text None
none_taken text number = ap (λ b. b && (nat_lt 0 (digits_value 10 text) && nat_lt (digits_value 10 text) 10001)) number

-- such a number with no word behind it
pub counts_so : (number : List ℕ) (words : List (List ℕ)) (n : ℕ) → IsCountOf number (Some n) → words ≡ [] → read_count number words ≡ Ok (Generates n)
counts_so number words n k none = rw (k.0, none) (ap (λ m. Ok (Generates m)) k.1)

pub counts_further : (number : List ℕ) (words : List (List ℕ)) (n : ℕ) (e : ReadError) → IsCountOf number (Some n) → bad_word (further words) ≡ Some e → refusal_of (read_count number words) ≡ Some e
counts_further number [] n e k bad = absurd (cc)
counts_further number (word ∷ words) n e k bad = rw k.0 bad

pub counts_none : (number : List ℕ) (words : List (List ℕ)) (e : ReadError) → IsCountOf number None → e ≡ Bad (bad_at 1 BadValue) → refusal_of (read_count number words) ≡ Some e
counts_none number words e k is = rw k (ap Some (sym is))

-- ---- the tools of a build

-- words of settings that are good
pub shows_so : (words : List (List ℕ)) (build : BuildSeen) → ReadsSettings false 1 words build → read_build Shows words ≡ Ok (Shows build)
shows_so words build r = rw r.0 (ap (λ b. Ok (Shows b)) (sym r.1))

pub expands_so : (words : List (List ℕ)) (build : BuildSeen) → ReadsSettings false 1 words build → read_build Expands words ≡ Ok (Expands build)
expands_so words build r = rw r.0 (ap (λ b. Ok (Expands b)) (sym r.1))
