-- The prefix of the GNU tools' names for a target, when the host is another.
use Rattle.std.specs.Prelude.{ℕ, List, [], ◌∷◌, Option, Some, None, codes}
use Rattle.std.specs.Option.{option_or}
use Rattle.cc_env.specs.Env.{EnvSeen}
use Rattle.cc_target.specs.Targets.{candidates_of}
use Rattle.cc_tool.specs.Notes.{named}
use Rattle.cc_tool.specs.Plans.{Plan, bind, done, note}
use Rattle.cc_tool.specs.Seeking.{first_shown}
use Rattle.cc_flags.specs.Folders.{path_folders}
use Rattle.cc_flags.specs.declared.settings.BuildConfig.{BuildConfig}
use Rattle.cc_flags.specs.Prefixes.{first_text, known_prefix, tried_compilers}

-- the candidate of the first compiler that is there, else the first candidate
unfoldable pub candidate_prefix : BuildConfig → EnvSeen → List (List ℕ) → Plan (Option (List ℕ))
candidate_prefix set env candidates =
    bind (first_shown (tried_compilers set.cpp (path_folders env) candidates))
    (λ shown. done (option_or shown (first_text candidates)))

-- the one that is known, else that of a candidate
unfoldable pub known_or_candidate : BuildConfig → EnvSeen → List ℕ → Option (List ℕ) → Plan (Option (List ℕ))
known_or_candidate set env name (Some prefix) = done (Some prefix)
known_or_candidate set env name None = candidate_prefix set env (candidates_of name)

-- the prefix, where there is one; the environment may name it
unfoldable pub gnu_prefix : BuildConfig → EnvSeen → List ℕ → Plan (Option (List ℕ))
gnu_prefix set env name =
    bind (note (named (codes "CROSS_COMPILE" ∷ []))) (λ noted. known_or_candidate set env name (known_prefix env name))
