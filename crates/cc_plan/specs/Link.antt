-- The link lines: what a build script prints so that Cargo links the library.
use Rattle.std.specs.Prelude.{ℕ, Bool, not, ◌||◌, List, [], ◌∷◌, ◌++◌, map, filter}
use Rattle.cc_env.specs.Env.{EnvSeen}
use Rattle.cc_host.specs.Question.{Look}
use Rattle.cc_plan.specs.Stdlib.{linked_library}
use Rattle.cc_flags.specs.declared.link_line.LinkLine.{LinkLine}
use Rattle.cc_flags.specs.declared.settings.BuildConfig.{BuildConfig}
use Rattle.cc_flags.specs.LinkLines.{lines_by}

unfoldable pub link_lines : BuildConfig → EnvSeen → List ℕ → List ℕ → Look → List LinkLine
link_lines set env name folder look = lines_by set env name folder (linked_library set env look)

-- A line that is printed once for all builds that share what they know is left out where another printed it, unless
-- lines are repeated. `is_first` says whether no other did.
abbrev pub is_printed : Bool → LinkLine → Bool
is_printed is_first line = not line.once || is_first

-- the texts of those that are printed
abbrev pub printed_links : Bool → List LinkLine → List (List ℕ)
printed_links is_first lines = map (λ line. line.text) (filter (is_printed is_first) lines)

-- a line as it is printed
abbrev pub printed_line : List ℕ → List ℕ
printed_line text = text ++ 10 ∷ []
