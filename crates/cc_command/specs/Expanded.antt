-- The job that expands a source: what the program does for it, and what it answers.
use Rattle.std.specs.Prelude.{◌≡◌, ◌≢◌, ◌⊎◌, ℕ, List, [], ◌∷◌, ◌++◌, Bool, true, false, Option, None, Result, Ok, Err}
use Rattle.std.specs.List.{list_any}
use Rattle.cc_host.specs.Part.{IsWhole}
use Rattle.cc_host.specs.Part.Step.{Prints}
use Rattle.cc_host.specs.Question.{Look, Agrees, answers}
use Rattle.cc_host.specs.Status.{is_success}
use Rattle.cc_host.specs.declared.event.Event.{Event}
use Rattle.cc_host.specs.declared.event.Event.TheVariants.{Listed, Printed}
use Rattle.cc_host.specs.declared.event.LineKind.TheVariants.{Expanded as ExpandedLine}
use Rattle.cc_host.specs.declared.event.OutputKind.TheVariants.{Capture}
use Rattle.cc_host.specs.declared.event.Status.{Status}
use Rattle.cc_host.specs.declared.question.Outcome.{Outcome as Verdicts}
use Rattle.cc_host.specs.declared.question.Question.{Question}
use Rattle.cc_plan.specs.Asking.{is_of_children}
use Rattle.cc_plan.specs.Planned.{tool_of}
use Rattle.cc_flags.specs.Given.{first_of}
use Rattle.cc_run.specs.Output.{IsRanTo}
use Rattle.cc_run.specs.Part.{missing}
use Rattle.cc_run.specs.declared.planned.Planned.{Planned}
use Rattle.cc_build.specs.Attempts.{attempts, to_attempt, FirstOf}
use Rattle.cc_build.specs.Build.{BuildSeen, AsksByPlan}
use Rattle.cc_build.specs.Captured.{with_vars, CaptureEnds}
use Rattle.cc_build.specs.Compiler.{tool_error, tool_steps}
use Rattle.cc_build.specs.Course.{CallsEnd}
use Rattle.cc_build.specs.Error.{ErrorSeen}
use Rattle.cc_build.specs.Expand.{unexpanded_error, source_of, expansion, ignored_line, ExpandedEnds}
use Rattle.cc_build.specs.Failed.{HasFault, ran_badly}
use Rattle.cc_build.specs.Shows.{shows_of}
use Rattle.cc_build.specs.Told.{expand_reads, name_steps}
use Rattle.cc_build.specs.Way.{all_firsts}
use Rattle.cc_command.specs.Answer.{ended_well, ended_wanting}
use Rattle.cc_command.specs.Archived.{Says}
use Rattle.cc_command.specs.Shown.{listed_build}
use Rattle.cc_command.specs.declared.ended.Ended.{Ended}

-- the source was expanded, the lines of the variables that were read for it were printed, and then the output of its
-- command, as it is
pub record PrintsOutput (listens : Bool) (b : BuildSeen) (result : Result (Unit {0}) ErrorSeen) (look : Look)
    (part : List Event) : Type 0 where
  pub output : List ℕ
  pub run : List Event
  pub printed : List Event
  pub cut : part ≡ run ++ printed
  pub expands : ExpandedEnds b listens (Ok output) look run
  -- each variable has its line
  pub all : expands.told.0 ≡ all_firsts
  pub prints : CallsEnd (Prints ExpandedLine output ∷ []) printed result

-- so it was; or the source couldn't be expanded, and the error has its cause
abbrev pub ExpandsSource : Bool → BuildSeen → Result (Unit {0}) ErrorSeen → Look → List Event → Type 0
ExpandsSource listens b (Ok done) look part = PrintsOutput listens b (Ok done) look part
ExpandsSource listens b (Err e) look part =
    ExpandedEnds b listens (Err e) look part ⊎ PrintsOutput listens b (Err e) look part

-- that, with the questions of the part; no child was started
pub record Expanding (listens steady : Bool) (world : Question → Verdicts) (b : BuildSeen) (part : List Event)
    (result : Result (Unit {0}) ErrorSeen) : Type 0 where
  pub asks : AsksByPlan steady world b part
  pub childless : list_any is_of_children part ≡ false
  pub ends : (look : Look) → Agrees look (answers part) → ExpandsSource listens b result look part

-- the host listed its variables, and the source was expanded with their snapshot
pub record ListsThenExpands (listens : Bool) (b : BuildSeen) (result : Result (Unit {0}) ErrorSeen) (look : Look)
    (part : List Event) : Type 0 where
  pub vars : List (List ℕ × List ℕ)
  pub rest : List Event
  pub cut : part ≡ Listed vars ∷ rest
  pub expands : ExpandsSource listens (record b { env = with_vars b.env vars }) result look rest

-- so it was; or the variables couldn't be listed, and the error has its cause
abbrev pub ExpandJobEnds : Bool → BuildSeen → Result (Unit {0}) ErrorSeen → Look → List Event → Type 0
ExpandJobEnds listens b (Ok done) look part = ListsThenExpands listens b (Ok done) look part
ExpandJobEnds listens b (Err e) look part = CaptureEnds part (Err e) ⊎ ListsThenExpands listens b (Err e) look part

-- the same with the line behind it
pub record Expanded (listens steady : Bool) (world : Question → Verdicts) (b : BuildSeen) (part : List Event)
    (ended : Ended) : Type 0 where
  pub asks : AsksByPlan steady world (listed_build b part) part
  pub run : List Event
  pub line : List Event
  pub cut : part ≡ run ++ line
  pub childless : list_any is_of_children run ≡ false
  pub result : Result (Unit {0}) ErrorSeen
  pub ends : (look : Look) → Agrees look (answers part) → ExpandJobEnds listens b result look run
  pub says : Says result line ended

-- the error of a build whose source isn't expanded
abbrev pub expand_error : BuildSeen → Look → Option ErrorSeen
expand_error b look = first_of (unexpanded_error b.config b.env) (tool_error b.config b.env look)

-- the planned command that expands the source of a build
abbrev pub expansion_in : BuildSeen → Look → Planned
expansion_in b look = expansion b.config (tool_of b.config b.env look)

-- the line of its standard error that is no warning
abbrev pub ignored_in : BuildSeen → Look → Option (List ℕ)
ignored_in b look = ignored_line (tool_of b.config b.env look).family (source_of b.config)

-- Nothing is refused. The host listed its variables, questions were asked and the warnings of the compiler's plan were
-- printed; then the planned command ended with 0, among the lines of its run; then a line was printed for each variable
-- that was read; and then the command's output, as it is. No other command was run.
pub record IsExpanded (listens : Bool) (b : BuildSeen) (look : Look) (part : List Event) : Type 0 where
  pub accepted : expand_error b look ≡ None
  pub vars : List (List ℕ × List ℕ)
  pub asking : List Event
  pub run : List Event
  pub telling : List Event
  pub output : List ℕ
  pub cut : part ≡ Listed vars ∷ (asking ++ (run ++ (telling ++ Printed ExpandedLine output ∷ [])))
  pub warns_of_link : Bool
  pub warned : IsWhole (tool_steps b.config b.env listens warns_of_link look) asking
  pub status : Status
  pub success : is_success status ≡ true
  pub ran : IsRanTo (shows_of b.config b.env listens) (expansion_in b look) Capture true
      (ignored_in b look) status output run
  pub told : IsWhole (name_steps expand_reads b.config b.env all_firsts look) telling
  pub alone : attempts part ≡ to_attempt (expansion_in b look) ∷ []

-- a command of the part is missing, or it ended with another status than 0
abbrev pub IsFailed : List Event → Type 0
IsFailed part = (missing part ≢ []) ⊎ (list_any ran_badly part ≡ true)

-- no command but this one was attempted, and this one no more than once
abbrev pub IsSole : Planned → List Event → Type 0
IsSole p part = FirstOf (p ∷ []) part

-- What expanding a source promises of its answer and its part.
pub record ExpandPromises (listens steady : Bool) (world : Question → Verdicts) (b : BuildSeen) (part : List Event)
    (ended : Ended) : Type 0 where
  -- the whole answer: each status with its cause
  pub answer : Expanded listens steady world b part ended
  -- status 0: the source was expanded, and what its command made of it was printed, behind the lines of the variables
  pub expanded : ended.status ≡ 0 → (look : Look) → Agrees look (answers part)
      → IsExpanded listens (listed_build b part) look part
  -- no command but the planned one, and that at most once
  pub sole : (look : Look) → Agrees look (answers part) → IsSole (expansion_in (listed_build b part) look) part
  -- where nothing is refused, the command didn't fail, and no call of the host did: it is done, or memory was wanted
  pub complete : (look : Look) → Agrees look (answers part) → expand_error (listed_build b part) look ≡ None
      → (IsFailed part → ⊥) → (HasFault part → ⊥) → (ended ≡ ended_well) ⊎ (ended ≡ ended_wanting)
