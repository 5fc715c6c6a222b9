-- The flags of Rust code that Cargo hands down.
use Rattle.std.specs.Prelude.{ℕ, Bool, true, not, List, [], ◌++◌, Option, Some, None, filter, map, is_none, codes, if◌then◌else◌}
use Rattle.std.specs.Option.{option_and_then, option_map_or}
use Rattle.cc_env.specs.Snapshot.{last_value}
use Rattle.cc_flags.specs.DefaultWords.{value_or_empty}
use Rattle.cc_flags.specs.Fields.{flags_of, refusal_of}
use Rattle.cc_flags.specs.MapWords.{cargo_maps, trim_pairs}
use Rattle.cc_flags.specs.Pairs.{pairs_of}
use Rattle.cc_flags.specs.Wanted.{wanted}
use Rattle.cc_flags.specs.declared.error.FlagError.{FlagError}
use Rattle.cc_flags.specs.declared.flags.RustcCodegenFlags.{RustcCodegenFlags}
use Rattle.cc_target.specs.Targets.{Info}
use Rattle.cc_text.specs.Quoted.{quoted}
use Rattle.cc_text.specs.declared.family.ToolFamily.{ToolFamily}
use Rattle.cc_text.specs.Words.{is_among}
use Rattle.cc_flags.specs.declared.inherited.Handed.{Handed}
use Rattle.cc_flags.specs.declared.inherited.Rustflags.{Rustflags}

-- the text of the flags, where they are taken
abbrev pub inherited_text : Bool → List (List ℕ × List ℕ) → Option (List ℕ)
inherited_text inherits env = if inherits then last_value env (codes "CARGO_ENCODED_RUSTFLAGS") else None

-- the flags of a text that has no wrong one
abbrev pub sound_flags : List ℕ → Option RustcCodegenFlags
sound_flags text = if is_none (refusal_of text) then Some (flags_of (pairs_of text)) else None

-- the flags; those with a wrong one count as none
unfoldable pub inherited_flags : Bool → List (List ℕ × List ℕ) → Option RustcCodegenFlags
inherited_flags inherits env = option_and_then sound_flags (inherited_text inherits env)

-- what is wrong with them
abbrev pub inherited_wrong : Bool → List (List ℕ × List ℕ) → Option FlagError
inherited_wrong inherits env = option_and_then refusal_of (inherited_text inherits env)

-- the flags and what is wrong with them, as they are read once a run, whether or not they are taken
abbrev pub rustflags : List (List ℕ × List ℕ) → Rustflags
rustflags env = record { flags = inherited_flags true env; wrong = inherited_wrong true env }

-- what Cargo hands down, as it is read once a run, whether or not it is taken: these flags, and paths that are shown as others
abbrev pub handed : List (List ℕ × List ℕ) → Handed
handed env = record {
  rustflags = rustflags env;
  maps = cargo_maps env;
  pairs = trim_pairs (value_or_empty env (codes "CARGO_TRIM_PATHS_REMAP"));
}

-- the processor that they name
unfoldable pub inherited_cpu : Bool → List (List ℕ × List ℕ) → Option (List ℕ)
inherited_cpu inherits env = option_and_then (λ flags. flags.target_cpu) (inherited_flags inherits env)

-- the words of a compiler that say the same
unfoldable pub inherited_words : Bool → List (List ℕ × List ℕ) → ToolFamily → Info → List (List ℕ)
inherited_words inherits env family target =
    option_map_or (λ flags. wanted flags family target) (inherited_flags inherits env) []

-- those that the compiler takes
abbrev pub taken_words : List (List ℕ) → List (List ℕ) → List (List ℕ)
taken_words supported words = filter (is_among supported) words

-- a warning of one that it doesn't take
abbrev pub lost_word : List ℕ → List ℕ
lost_word text = codes "Inherited flag " ++ quoted text ++ codes " is not supported by the currently used CC"

-- the warnings of those that it doesn't take
abbrev pub lost_words : List (List ℕ) → List (List ℕ) → List (List ℕ)
lost_words supported words = map lost_word (filter (λ w. not (is_among supported w)) words)
