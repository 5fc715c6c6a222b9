-- A call that asks with answers of its own.
use Rattle.std.proofs.Common.{◌≡◌, ◌⊎◌, inl, inr, ℕ, List, Bool, Option, Some, refl, subst}
use Rattle.std.specs.Option.{option_map}
use Rattle.cc_env.specs.Env.{EnvSeen}
use Rattle.cc_host.specs.declared.event.Event.{Event}
use Rattle.cc_host.specs.declared.question.Outcome.{Outcome}
use Rattle.cc_host.specs.declared.question.Question.{Question}
use Rattle.cc_host.specs.Question.{Look, Answer, Agrees, Settles, Holds}
use Rattle.cc_tool.specs.Asked.{Asked}
use Rattle.cc_plan.specs.declared.error.PlanError.{PlanError}
use Rattle.cc_plan.specs.declared.error.PlanError.TheVariants.{NoMemory as WantsMemory}
use Rattle.cc_flags.specs.declared.settings.BuildConfig.{BuildConfig}
use Rattle.cc_build.specs.Build.{BuildSeen, build_in, probes}
use Rattle.cc_build.specs.Error.{ErrorSeen, no_memory}
use Rattle.cc_build.specs.Refusal.{plan_error}
use Rattle.cc_build.proofs.Stages.{plan_cause}

-- what the fields of a build are seen as is what the build is seen as
pub asked_seen : (steady : Bool) (world : Question → Outcome) (asks : BuildSeen → Look → Question → Type 0) (part : List Event) (inside seen : BuildSeen) → inside ≡ seen → Asked steady world (probes inside) (asks inside) part → Asked steady world (probes seen) (asks seen) part
asked_seen steady world asks part inside seen same asked = subst (λ (b : BuildSeen). Asked steady world (probes b) (asks b) part) same asked

pub holds_seen : (known : List Answer) (P : BuildSeen → Look → Type 0) (inside seen : BuildSeen) → inside ≡ seen → Holds known (P inside) → Holds known (P seen)
holds_seen known P inside seen same h = subst (λ (b : BuildSeen). Holds known (P b)) same h

pub ends_seen : (known : List Answer) (part : List Event) (P : BuildSeen → Look → List Event → Type 0) (inside seen : BuildSeen) → inside ≡ seen → Holds known (λ look. P inside look part) → Holds known (λ look. P seen look part)
ends_seen known part P inside seen same h = subst (λ (b : BuildSeen). Holds known (λ look. P b look part)) same h

-- a build is the one with its settings in its environment
pub build_is : (b : BuildSeen) (set : BuildConfig) (env : EnvSeen) → set ≡ b.config → env ≡ b.env → build_in set env ≡ b
build_is b set env p q = rw (p, q) refl

-- the error of a refused plan, by its cause under the answers
pub plan_cause_under : (set : BuildConfig) (env : EnvSeen) (output : List ℕ) (error : PlanError) (e : ErrorSeen) (known : List Answer) (r : Look → Option PlanError) (look : Look) → Agrees look known → (e ≡ no_memory) ⊎ (e ≡ plan_error set env output error) → (error ≡ WantsMemory) ⊎ Settles known r (Some error) → (e ≡ no_memory) ⊎ (option_map (plan_error set env output) (r look) ≡ Some e)
plan_cause_under set env output error e known r look agree made (inl wants) = plan_cause set env output error e (r look) made (inl wants)
plan_cause_under set env output error e known r look agree made (inr settled) = plan_cause set env output error e (r look) made (inr (settled.is look agree))
