-- What a build is seen as, and what its setters do.
use Rattle.std.specs.Prelude.{◌≡◌, ℕ, Bool, List, [], ◌∷◌, ◌++◌, Option, unwrap_or}
use Rattle.cc_env.specs.Env.{EnvSeen}
use Rattle.cc_env.specs.Snapshot.{snapshot_of}
use Rattle.cc_host.specs.declared.event.Event.{Event}
use Rattle.cc_host.specs.declared.question.Outcome.{Outcome}
use Rattle.cc_host.specs.declared.question.Question.{Question}
use Rattle.cc_flags.specs.Given.{variable_flags, probe_folder}
use Rattle.cc_plan.specs.Questions.{PlanAsks, RunAsks, SupportAsks}
use Rattle.cc_flags.specs.Settings.{unset_settings}
use Rattle.cc_flags.specs.declared.build_flags.Definition.{Definition}
use Rattle.cc_flags.specs.declared.settings.BuildConfig.{BuildConfig}
use Rattle.cc_tool.specs.Asked.{Asked}

-- its plain settings, and the variables that it inherits and sets
pub record BuildSeen : Type 0 where
  pub config : BuildConfig
  pub env : EnvSeen

-- the one with these settings in this environment
abbrev pub build_in : BuildConfig → EnvSeen → BuildSeen
build_in set env = record { config = set; env = env }

-- the settings are changed so, and all else stays
abbrev pub Sets : BuildSeen → BuildSeen → (BuildConfig → BuildConfig) → Type 0
Sets old new change = new ≡ record old { config = change old.config }

-- the commands are given one variable more, and all else stays
abbrev pub AddsVariable : BuildSeen → BuildSeen → List ℕ → List ℕ → Type 0
AddsVariable old new name value =
    new ≡ record old { env = record old.env { explicit = old.env.explicit ++ (name, value) ∷ [] } }

-- these variables are inherited, and all else stays
abbrev pub TakesVars : BuildSeen → BuildSeen → List (List ℕ × List ℕ) → Type 0
TakesVars old new vars = new ≡ record old { env = record old.env { inherited = snapshot_of vars } }

-- a macro, with its value where it has one
abbrev pub defined : List ℕ → Option (List ℕ) → Definition
defined name value = record { name = name; value = value }

-- the flags of a variable, where one of its names is set
abbrev pub flags_in : BuildSeen → List ℕ → List (List ℕ)
flags_in b name = unwrap_or (variable_flags b.config b.env name) []

-- the folder of the probe files of a build's questions
abbrev pub probes : BuildSeen → List ℕ
probes b = probe_folder b.config b.env

-- each question of a part is one that the plan of a build asks, with its probe files in their folder
abbrev pub AsksByPlan : Bool → (Question → Outcome) → BuildSeen → List Event → Type 0
AsksByPlan steady world b part = Asked steady world (probes b) (PlanAsks b.config b.env) part

-- the same of one that a compile run asks
abbrev pub AsksByRun : Bool → (Question → Outcome) → BuildSeen → List Event → Type 0
AsksByRun steady world b part = Asked steady world (probes b) (RunAsks b.config b.env) part

-- the same of one that is asked to learn whether its compiler takes a flag
abbrev pub AsksByFlag : Bool → (Question → Outcome) → BuildSeen → List ℕ → List Event → Type 0
AsksByFlag steady world b flag part = Asked steady world (probes b) (SupportAsks b.config b.env flag) part

-- no source, nothing set and an empty environment
abbrev pub fresh_build : BuildSeen
fresh_build = record { config = unset_settings; env = record { inherited = []; explicit = [] } }
