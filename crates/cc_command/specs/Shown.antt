-- The job that shows the tools of a build: what the program does for it, and what it answers.
use Rattle.std.specs.Prelude.{◌≡◌, ◌⊎◌, ℕ, List, [], ◌∷◌, ◌++◌, Bool, false, Option, None, Result, codes}
use Rattle.std.specs.List.{list_any}
use Rattle.std.specs.Option.{option_map}
use Rattle.cc_text.specs.declared.family.ToolFamily.{ToolFamily}
use Rattle.cc_text.specs.declared.family.ToolFamily.TheVariants.{Gnu, Clang, Msvc}
use Rattle.cc_host.specs.Command.{CommandSeen}
use Rattle.cc_host.specs.CommandLine.{command_line}
use Rattle.cc_host.specs.Part.{Step, IsWhole}
use Rattle.cc_host.specs.Part.Step.{Lists}
use Rattle.cc_host.specs.Question.{Look, Agrees, answers}
use Rattle.cc_host.specs.declared.event.Event.{Event}
use Rattle.cc_host.specs.declared.question.Outcome.{Outcome as Verdicts}
use Rattle.cc_host.specs.declared.question.Question.{Question}
use Rattle.cc_plan.specs.Archive.{archiver_of, ranlib_cmd_of}
use Rattle.cc_plan.specs.Asking.{is_of_children}
use Rattle.cc_plan.specs.Planned.{tool_of}
use Rattle.cc_plan.specs.Refusal.{archiver_refusal, ranlib_refusal}
use Rattle.cc_flags.specs.Given.{first_of}
use Rattle.cc_flags.specs.declared.variables.Reads.{Reads}
use Rattle.cc_tool.specs.Asked.{question_events}
use Rattle.cc_tool.specs.Tool.{ToolSeen, tool_command}
use Rattle.cc_build.specs.Build.{BuildSeen, AsksByPlan}
use Rattle.cc_build.specs.Captured.{with_vars}
use Rattle.cc_build.specs.Compiler.{tool_error, tool_steps}
use Rattle.cc_build.specs.Error.{ErrorSeen}
use Rattle.cc_build.specs.Failed.{HasFault}
use Rattle.cc_build.specs.Outcome.{Outcome}
use Rattle.cc_build.specs.Refusal.{plan_error}
use Rattle.cc_build.specs.Told.{compiler_reads, archiver_reads, ranlib_reads, name_steps}
use Rattle.cc_build.specs.Tools.{AsksForArchiver, AsksForRanlib}
use Rattle.cc_build.specs.Way.{all_firsts}
use Rattle.cc_command.specs.Answer.{heard, ended_well, ended_wanting}
use Rattle.cc_command.specs.Archived.{Says}
use Rattle.cc_command.specs.Lines.{shows}
use Rattle.cc_command.specs.declared.ended.Ended.{Ended}

abbrev pub family_name : ToolFamily → List ℕ
family_name Gnu = codes "Gnu"
family_name (Clang zig_cc) = codes "Clang"
family_name (Msvc clang_cl) = codes "Msvc"

-- a value behind its name
abbrev pub named_line : List ℕ → List ℕ → List ℕ
named_line name value = name ++ codes " " ++ value ++ 10 ∷ []

-- the lines that show these tools: the compiler's family, and then each as its command
abbrev pub tool_lines : ToolSeen → CommandSeen → CommandSeen → List (List ℕ)
tool_lines tool archiver ranlib =
    named_line (codes "family") (family_name tool.family)
    ∷ named_line (codes "compiler") (command_line (tool_command tool))
    ∷ named_line (codes "archiver") (command_line archiver) ∷ named_line (codes "ranlib") (command_line ranlib) ∷ []

-- the verdicts of the three calls that find the tools
pub record Looks : Type 0 where
  pub compiler : Look
  pub archiver : Look
  pub ranlib : Look

-- the lines that show the tools of a build
abbrev pub lines_of : BuildSeen → Looks → List (List ℕ)
lines_of b looks =
    tool_lines (tool_of b.config b.env looks.compiler) (archiver_of b.config b.env looks.archiver).cmd
    (ranlib_cmd_of b.config b.env looks.ranlib)

-- a line is printed for each variable that such a call reads
abbrev pub read_steps : Reads → BuildSeen → Look → List Step
read_steps reads b look = name_steps reads b.config b.env all_firsts look

-- the warnings of how the compiler was found are printed, and the lines of the variables that were read for it
abbrev pub compiler_steps : Bool → BuildSeen → Bool → Look → List Step
compiler_steps listens b warns_of_link look =
    tool_steps b.config b.env listens warns_of_link look ++ read_steps compiler_reads b look

-- so they are, then those that were read for the archiver and for the tool that writes an index, and then the lines
-- that show the tools
abbrev pub tools_steps : Bool → BuildSeen → Bool → Looks → List Step
tools_steps listens b warns_of_link looks =
    compiler_steps listens b warns_of_link looks.compiler
    ++ (read_steps archiver_reads b looks.archiver
    ++ (read_steps ranlib_reads b looks.ranlib ++ shows (lines_of b looks)))

-- the host lists its variables before
abbrev pub show_steps : Bool → BuildSeen → Bool → Looks → List Step
show_steps listens b warns_of_link looks = Lists ∷ tools_steps listens b warns_of_link looks

-- the error of settings that have no compiler, no archiver, or no tool that writes an index
abbrev pub show_error : BuildSeen → Looks → Option ErrorSeen
show_error b looks =
    first_of (tool_error b.config b.env looks.compiler)
    (first_of (option_map (plan_error b.config b.env []) (archiver_refusal b.config b.env looks.archiver))
    (option_map (plan_error b.config b.env []) (ranlib_refusal b.config b.env looks.ranlib)))

-- the questions of a part, by the three calls that ask, with what stands before and behind them
pub record AsksTools (steady : Bool) (world : Question → Verdicts) (b : BuildSeen) (part : List Event) : Type 0 where
  pub compiler : List Event
  pub archiver : List Event
  pub ranlib : List Event
  pub rest : List Event
  pub cut : part ≡ compiler ++ (archiver ++ (ranlib ++ rest))
  pub compiler_asks : AsksByPlan steady world b compiler
  pub archiver_asks : AsksForArchiver steady world b archiver
  pub ranlib_asks : AsksForRanlib steady world b ranlib
  pub quiet : question_events rest ≡ []

-- these verdicts agree with the answers of each call
abbrev pub Agree : List Event → List Event → List Event → Looks → Type 0
Agree compiler archiver ranlib looks =
    Agrees looks.compiler (answers compiler) × Agrees looks.archiver (answers archiver)
    × Agrees looks.ranlib (answers ranlib)

-- the tools were found and shown, or the error has its cause; no child was started
pub record Showing (listens steady : Bool) (world : Question → Verdicts) (b : BuildSeen) (part : List Event)
    (result : Result (Unit {0}) ErrorSeen) : Type 0 where
  pub asks : AsksTools steady world b part
  pub childless : list_any is_of_children part ≡ false
  pub ends : (looks : Looks) → Agree asks.compiler asks.archiver asks.ranlib looks
      → (warns_of_link : Bool)
      × Outcome (show_error b looks) (tools_steps listens b warns_of_link looks) part result

-- a build with the variables that the host listed
abbrev pub listed_build : BuildSeen → List Event → BuildSeen
listed_build b part = record b { env = with_vars b.env (heard part) }

-- the same behind the listing of the variables, and with the line behind it
pub record Shown (listens steady : Bool) (world : Question → Verdicts) (b : BuildSeen) (part : List Event)
    (ended : Ended) : Type 0 where
  pub asks : AsksTools steady world (listed_build b part) part
  pub run : List Event
  pub line : List Event
  pub cut : part ≡ run ++ line
  pub childless : list_any is_of_children run ≡ false
  pub result : Result (Unit {0}) ErrorSeen
  pub ends : (looks : Looks) → Agree asks.compiler asks.archiver asks.ranlib looks
      → (warns_of_link : Bool)
      × Outcome (show_error (listed_build b part) looks)
      (show_steps listens (listed_build b part) warns_of_link looks) run result
  pub says : Says result line ended

-- What showing the tools of a build promises of its answer and its part.
pub record ShowPromises (listens steady : Bool) (world : Question → Verdicts) (b : BuildSeen) (part : List Event)
    (ended : Ended) : Type 0 where
  -- the whole answer: each status with its cause
  pub answer : Shown listens steady world b part ended
  -- status 0: nothing is refused, and exactly the variables were listed, the warnings and the lines of the variables
  -- printed, and the tools shown
  pub shown : ended.status ≡ 0 → (looks : Looks)
      → Agree answer.asks.compiler answer.asks.archiver answer.asks.ranlib looks
      → (warns_of_link : Bool)
      × ((show_error (listed_build b part) looks ≡ None)
      × IsWhole (show_steps listens (listed_build b part) warns_of_link looks) part)
  -- where nothing is refused, and no call of the host failed: it is done, or memory was wanted
  pub complete : (looks : Looks) → Agree answer.asks.compiler answer.asks.archiver answer.asks.ranlib looks
      → show_error (listed_build b part) looks ≡ None → (HasFault part → ⊥)
      → (ended ≡ ended_well) ⊎ (ended ≡ ended_wanting)
