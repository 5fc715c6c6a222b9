-- A source that is expanded: its compiler is found, and one command is run, whose output is the answer.
use Rattle.std.specs.Prelude.{◌≡◌, ◌⊎◌, ◌==◌, ℕ, Bool, true, not, List, [], ◌∷◌, ◌++◌, length, Option, Some, None, Result, Ok, Err, if◌then◌else◌}
use Rattle.std.specs.Path.{path_file_name}
use Rattle.cc_text.specs.Families.{is_cl}
use Rattle.cc_text.specs.declared.family.ToolFamily.{ToolFamily}
use Rattle.cc_env.specs.Env.{EnvSeen}
use Rattle.cc_host.specs.Question.{Look}
use Rattle.cc_host.specs.declared.event.Event.{Event}
use Rattle.cc_host.specs.declared.event.OutputKind.TheVariants.{Capture}
use Rattle.cc_host.specs.declared.event.Role.TheVariants.{Expand}
use Rattle.cc_tool.specs.Tool.{ToolSeen}
use Rattle.cc_plan.specs.Compile.{expand_of}
use Rattle.cc_flags.specs.Given.{is_disabled}
use Rattle.cc_plan.specs.Planned.{tool_of}
use Rattle.cc_flags.specs.declared.settings.BuildConfig.{BuildConfig}
use Rattle.cc_run.specs.Output.{IsOutput}
use Rattle.cc_run.specs.declared.error.RunError.{RunError}
use Rattle.cc_run.specs.declared.planned.Planned.{Planned}
use Rattle.cc_run.specs.declared.planned.Shows.{Shows}
use Rattle.cc_build.specs.Attempts.{FirstOf}
use Rattle.cc_build.specs.Build.{BuildSeen}
use Rattle.cc_build.specs.Compiler.{ToolEnds}
use Rattle.cc_build.specs.Error.{ErrorSeen, no_memory}
use Rattle.cc_build.specs.Refusal.{source_at, number_error, disabled_error}
use Rattle.cc_build.specs.RunErrors.{run_error}
use Rattle.cc_build.specs.Shows.{shows_of}
use Rattle.cc_build.specs.Told.{expand_reads, NamesTold}
use Rattle.cc_build.specs.Went.{IsOf}

abbrev pub is_single : List (List ℕ) → Bool
is_single files = length files == 1

-- the error of the checks before: the number of sources, and whether commands may run
abbrev pub unexpanded_error : BuildConfig → EnvSeen → Option ErrorSeen
unexpanded_error set env =
    if not (is_single set.files) then Some number_error else if is_disabled env then Some disabled_error else None

-- the source
abbrev pub source_of : BuildConfig → List ℕ
source_of set = source_at set 0

-- the command that expands it with a tool
abbrev pub expansion : BuildConfig → ToolSeen → Planned
expansion set tool = record { role = Expand; cmd = expand_of set tool (source_of set); message = None }

-- the line of its standard error that is no warning: Visual Studio's compiler names the source there
abbrev pub ignored_line : ToolFamily → List ℕ → Option (List ℕ)
ignored_line family source = if is_cl family then path_file_name source else None

-- a command was run once, to its end, and its output is the answer; or the error has its cause
abbrev pub Gives : Shows → Planned → Option (List ℕ) → Result (List ℕ) ErrorSeen → List Event → Type 0
Gives shows p ignored (Ok output) part = IsOutput shows p Capture true ignored (Ok output) part
Gives shows p ignored (Err e) part =
    (error : RunError) × (IsOutput shows p Capture true ignored (Err error) part × IsOf (run_error (p ∷ []) error) e)

-- the command of the planned tool gave this
abbrev pub GivesBy : BuildSeen → Bool → ToolSeen → Result (List ℕ) ErrorSeen → List Event → Type 0
GivesBy b listens tool result part =
    Gives (shows_of b.config b.env listens) (expansion b.config tool)
    (ignored_line tool.family (source_of b.config)) result part

-- the compiler was found and the warnings of its plan were given to the host, and then the one command was run
pub record RunsTool (b : BuildSeen) (listens : Bool) (result : Result (List ℕ) ErrorSeen) (look : Look)
    (part : List Event) : Type 0 where
  pub asking : List Event
  pub run : List Event
  pub cut : part ≡ asking ++ run
  pub found : ToolEnds {T = Unit {0}} b.config b.env listens (Ok tt) look asking
  pub gives : GivesBy b listens (tool_of b.config b.env look) result run

-- Ok: nothing is refused, and the bytes are the output of the command. Else the checks refused it and nothing was done,
-- no compiler was found, or the command gave none; and the error has its cause.
abbrev pub ExpandEnds : BuildSeen → Bool → Result (List ℕ) ErrorSeen → Look → List Event → Type 0
ExpandEnds b listens (Ok output) look part =
    (unexpanded_error b.config b.env ≡ None) × RunsTool b listens (Ok output) look part
ExpandEnds b listens (Err e) look part =
    ((part ≡ []) × ((e ≡ no_memory) ⊎ (unexpanded_error b.config b.env ≡ Some e)))
    ⊎ ((unexpanded_error b.config b.env ≡ None)
    × (ToolEnds {T = Unit {0}} b.config b.env listens (Err e) look part ⊎ RunsTool b listens (Err e) look part))

-- the source was expanded, and then the lines of the variables that were read for it were printed
pub record ExpandsAndTells (b : BuildSeen) (listens : Bool) (output : List ℕ) (result : Result (List ℕ) ErrorSeen)
    (look : Look) (part : List Event) : Type 0 where
  pub expanding : List Event
  pub telling : List Event
  pub cut : part ≡ expanding ++ telling
  pub expands : ExpandEnds b listens (Ok output) look expanding
  pub told : NamesTold expand_reads b.config b.env result look telling

-- so it was; or the source couldn't be expanded, and the error has its cause
abbrev pub ExpandedEnds : BuildSeen → Bool → Result (List ℕ) ErrorSeen → Look → List Event → Type 0
ExpandedEnds b listens (Ok output) look part = ExpandsAndTells b listens output (Ok output) look part
ExpandedEnds b listens (Err e) look part =
    ExpandEnds b listens (Err e) look part ⊎ ((output : List ℕ) × ExpandsAndTells b listens output (Err e) look part)

-- no command but the planned one, with one attempt at most
abbrev pub ExpandsFirst : BuildSeen → Look → List Event → Type 0
ExpandsFirst b look part = FirstOf (expansion b.config (tool_of b.config b.env look) ∷ []) part
