-- What is planned by the answers to the questions of a run.
use Rattle.std.specs.Prelude.{◌≡◌, ◌⊎◌, ℕ, Bool, List, Option, Some, None, true}
use Rattle.std.specs.List.{list_all}
use Rattle.std.specs.Option.{option_map}
use Rattle.cc_host.specs.Question.{Look}
use Rattle.cc_host.specs.declared.event.Event.{Event}
use Rattle.cc_plan.specs.Archive.{archiver_of}
use Rattle.cc_plan.specs.Plan.{plan_warnings, compiles_of}
use Rattle.cc_plan.specs.Refusal.{late_refusal, archiver_refusal, link_refusal}
use Rattle.cc_plan.specs.declared.archiver.Archiver.{Archiver}
use Rattle.cc_plan.specs.Quiet.{quiet_warnings}
use Rattle.cc_plan.specs.Reruns.{rerun_names}
use Rattle.cc_flags.specs.declared.variables.Reads.{Reads}
use Rattle.cc_flags.specs.declared.settings.BuildConfig.{BuildConfig}
use Rattle.cc_plan.specs.declared.error.PlanError.{PlanError}
use Rattle.cc_plan.specs.declared.link.LinkPlan.{LinkPlan}
use Rattle.cc_plan.specs.declared.plan.Plan.{Plan}
use Rattle.cc_tool.specs.Probing.{is_asked}
use Rattle.cc_build.specs.Error.{ErrorSeen, no_memory}
use Rattle.cc_build.specs.Refusal.{plan_error}
use Rattle.cc_build.specs.Stage.{Stage, links_of, printed_stages}
use Rattle.cc_build.specs.Way.{Firsts, Repeats}
use Rattle.cc_build.specs.declared.directives.Lines.{Lines}
use Rattle.cc_build.specs.declared.task.Task.{Task}

-- nothing is refused behind the folder, and these are the warnings and the compile commands
pub record Plans (task : Task) (plan : Plan) (look : Look) : Type 0 where
  pub allowed : late_refusal task.set.now task.env.now look ≡ None
  pub warnings : plan.warnings ≡ plan_warnings task.set.now task.env.now plan.warns_of_link look
  pub compiles : plan.compiles.items ≡ compiles_of task.set.now task.env.now look

-- no archiver is refused behind the sources, and this is the one
pub record Archives (task : Task) (archiver : Archiver) (look : Look) : Type 0 where
  pub allowed : archiver_refusal task.set.now task.env.now look ≡ None
  pub is : archiver ≡ archiver_of task.set.now task.env.now look

-- nothing is refused behind the library of this name and path, and these are the link lines and the warnings of the
-- quiet plan
pub record Links (task : Task) (name library : List ℕ) (plan : LinkPlan) (look : Look) : Type 0 where
  pub allowed : link_refusal task.set.now task.env.now look ≡ None
  pub are : plan.lines.items ≡ links_of task.set.now task.env.now name library look
  pub warnings : plan.warnings ≡ quiet_warnings task.set.now task.env.now look

-- nothing is refused behind the library, and these are the lines for Cargo
pub record AreLines (task : Task) (reads : Reads) (name library : List ℕ) (lines : Lines) (look : Look) : Type 0 where
  pub links : Links task name library lines.links look
  pub names : lines.names ≡ rerun_names reads task.set.now task.env.now look

-- these stages print them: all where lines are repeated, and else those that no other run printed; and right before a
-- host that listens is told of the warnings
abbrev pub AreFirst : BuildConfig → Bool → Lines → List Stage → Type 0
AreFirst set listens lines stages =
    (firsts : Firsts)
    × (Repeats set firsts
    × (stages ≡ printed_stages listens lines.links.warnings firsts lines.links.lines.items lines.names))

-- the settings are refused with this error, or memory was wanted
abbrev pub IsRefusedBy : (Look → Option PlanError) → Task → ErrorSeen → Look → Type 0
IsRefusedBy refusal task e look =
    (e ≡ no_memory) ⊎ (option_map (plan_error task.set.now task.env.now task.output.now) (refusal look) ≡ Some e)

-- questions alone were asked
abbrev pub AsksOnly : List Event → Type 0
AsksOnly part = list_all is_asked part ≡ true
