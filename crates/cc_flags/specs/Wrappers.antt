-- The words of a tool, and the wrapper that it is run through.
use Rattle.std.specs.Prelude.{ℕ, Bool, false, ◌||◌, List, [], ◌∷◌, Option, Some, None, is_none, option_and_then, map, codes, bytes_eq, if◌then◌else◌}
use Rattle.std.specs.List.{list_any}
use Rattle.std.specs.Option.{option_map_or}
use Rattle.std.specs.Path.{path_file_stem}
use Rattle.cc_env.specs.Env.{EnvSeen}
use Rattle.cc_env.specs.Snapshot.{last_value}
use Rattle.cc_text.specs.Case.{lowered}
use Rattle.cc_flags.specs.declared.choice.Choice.{Choice}

-- the texts are equal, whatever the case of ASCII letters
abbrev pub is_same_name : List ℕ → List ℕ → Bool
is_same_name a b = bytes_eq (lowered a) (lowered b)

-- the stem is one of some names
abbrev pub is_name_among : List (List ℕ) → List ℕ → Bool
is_name_among names stem = list_any (λ name. is_same_name stem name) names

-- the file stem of the path is one of some names
unfoldable pub has_stem_among : List (List ℕ) → List ℕ → Bool
has_stem_among names path = option_map_or (is_name_among names) (path_file_stem path) false

-- programs that run a compiler
unfoldable pub wrapper_names : List (List ℕ)
wrapper_names = map codes ("ccache" ∷ "distcc" ∷ "sccache" ∷ "icecc" ∷ "cachepot" ∷ "buildcache" ∷ "kache" ∷ [])

-- those of them that run the compiler of Rust too
unfoldable pub rustc_wrapper_names : List (List ℕ)
rustc_wrapper_names = map codes ("sccache" ∷ "cachepot" ∷ "buildcache" ∷ "kache" ∷ [])

-- the program is the one that the environment names as a wrapper
unfoldable pub is_custom_wrapper : EnvSeen → List ℕ → Bool
is_custom_wrapper env path = option_map_or (λ name. has_stem_among (name ∷ []) path) (last_value env.inherited (codes "CC_KNOWN_WRAPPER_CUSTOM")) false

-- the program is known to run compilers
unfoldable pub is_wrapper : EnvSeen → List ℕ → Bool
is_wrapper env path = has_stem_among wrapper_names path || is_custom_wrapper env path

-- the wrapper, if it serves other compilers
abbrev pub if_serving : List ℕ → Option (List ℕ)
if_serving wrapper = if has_stem_among rustc_wrapper_names wrapper then Some wrapper else None

-- the wrapper of Rust's compiler, where it serves other compilers
unfoldable pub rustc_wrapper : EnvSeen → Option (List ℕ)
rustc_wrapper env = option_and_then if_serving (last_value env.inherited (codes "RUSTC_WRAPPER"))

-- a tool with its words, run through the wrapper of Rust's compiler
unfoldable pub in_rustc_wrapper : EnvSeen → List ℕ → List (List ℕ) → Choice
in_rustc_wrapper env path words = record { path = path; wrapper = rustc_wrapper env; words = words }

-- a wrapper with the tool behind it
abbrev pub behind_wrapper : List ℕ → List ℕ → List (List ℕ) → Choice
behind_wrapper wrapper path words = record { path = path; wrapper = Some wrapper; words = words }

-- the first word is the tool, unless it is a wrapper and a second word follows
unfoldable pub tool_of_words : EnvSeen → List ℕ → List (List ℕ) → Choice
tool_of_words env first [] = in_rustc_wrapper env first []
tool_of_words env first (second ∷ rest) = if is_wrapper env first then behind_wrapper first second rest else in_rustc_wrapper env first (second ∷ rest)

-- a first word without a file stem names no tool
unfoldable pub tool_in_words : EnvSeen → List (List ℕ) → Option Choice
tool_in_words env [] = None
tool_in_words env (first ∷ rest) = if is_none (path_file_stem first) then None else Some (tool_of_words env first rest)
