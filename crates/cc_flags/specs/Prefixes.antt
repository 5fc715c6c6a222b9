-- The prefix of the GNU tools' names, as far as no question decides it.
use Rattle.std.specs.Prelude.{ℕ, Bool, true, false, not, ◌&&◌, ◌==◌, List, [], ◌∷◌, ◌++◌, Option, Some, None, map, option_map, option_and_then, codes, bytes_eq, if◌then◌else◌}
use Rattle.std.specs.List.{flat_map}
use Rattle.std.specs.Option.{option_or}
use Rattle.std.specs.Path.{path_join}
use Rattle.cc_env.specs.Env.{EnvSeen}
use Rattle.cc_env.specs.Snapshot.{last_value}
use Rattle.cc_target.specs.Targets.{prefix_of}
use Rattle.cc_text.specs.Cuts.{before_suffix}
use Rattle.cc_flags.specs.Given.{target_of, host_of}
use Rattle.cc_flags.specs.Languages.{gnu_name}
use Rattle.cc_flags.specs.declared.settings.BuildConfig.{BuildConfig}

-- both are set, and differ
abbrev pub differ : Option (List ℕ) → Option (List ℕ) → Bool
differ None host = false
differ (Some target) None = false
differ (Some target) (Some host) = not (bytes_eq target host)

-- code is built for another target than the host
unfoldable pub is_cross : BuildConfig → EnvSeen → Bool
is_cross set env = differ (target_of set env) (host_of set env)

-- the text has no byte
abbrev pub is_blank : List ℕ → Bool
is_blank [] = true
is_blank (b ∷ text) = false

-- the text without the `-` signs at its end
unfoldable pub without_last_dashes : List ℕ → List ℕ
without_last_dashes [] = []
without_last_dashes (b ∷ text) = if b == 45 && is_blank (without_last_dashes text) then [] else b ∷ without_last_dashes text

-- the prefix that the environment names outright
unfoldable pub named_prefix : EnvSeen → Option (List ℕ)
named_prefix env = option_map without_last_dashes (last_value env.inherited (codes "CROSS_COMPILE"))

-- the prefix of the linker that Rust's compiler is given
unfoldable pub linker_prefix : EnvSeen → Option (List ℕ)
linker_prefix env = option_and_then (λ linker. before_suffix linker (codes "-gcc")) (last_value env.inherited (codes "RUSTC_LINKER"))

-- a compiler with a candidate as its prefix
abbrev pub tried_path : Bool → List ℕ → List ℕ → List ℕ
tried_path cpp folder candidate = path_join folder (candidate ++ codes "-" ++ gnu_name cpp)

-- the same with the candidate
abbrev pub tried_compiler : Bool → List ℕ → List ℕ → List ℕ × List ℕ
tried_compiler cpp folder candidate = (tried_path cpp folder candidate, candidate)

-- the compilers that are looked for, folder by folder and then candidate by candidate
unfoldable pub tried_compilers : Bool → List (List ℕ) → List (List ℕ) → List (List ℕ × List ℕ)
tried_compilers cpp folders candidates = flat_map (λ folder. map (tried_compiler cpp folder) candidates) folders

abbrev pub first_text : List (List ℕ) → Option (List ℕ)
first_text [] = None
first_text (text ∷ texts) = Some text

-- the prefix that is known without a question
unfoldable pub known_prefix : EnvSeen → List ℕ → Option (List ℕ)
known_prefix env name = option_or (named_prefix env) (option_or (linker_prefix env) (prefix_of name))
