-- What follows from a fact about an answer.
use Rattle.std.proofs.Common.{◌≡◌, ◌⊎◌, inl, inr, ℕ, Bool, List, Option, Some, Result, Ok, Err, IfOk, IfErr, OnOk, sym, ap, true, false, []}
use Rattle.cc_host.specs.Command.{CommandSeen}
use Rattle.cc_host.specs.Question.{Answer, Settles}
use Rattle.cc_tool.proofs.SettleLemmas.{settles_so}
use Rattle.cc_env.specs.Env.{EnvSeen}
use Rattle.cc_plan.specs.Plan.{compiles_of, plan_warnings}
use Rattle.cc_plan.specs.Planned.{warnings_of}
use Rattle.cc_plan.specs.Refusal.{tool_refusal, platform_refusal, late_refusal, is_empty}
use Rattle.cc_plan.specs.declared.error.PlanError.{PlanError}
use Rattle.cc_plan.specs.declared.error.PlanError.TheVariants.{NoMemory as WantsMemory}
use Rattle.cc_flags.specs.declared.settings.BuildConfig.{BuildConfig}

pub ok_so : {T E : Type 0} {P Q : T → Type 0} (r : Result T E) → IfOk r P → ((x : T) → P x → Q x) → IfOk r Q
ok_so (Ok x) h so = so x h
ok_so (Err e) h so = tt

pub on_ok_so : {T E P Q : Type 0} (r : Result T E) → OnOk r P → (P → Q) → OnOk r Q
on_ok_so (Ok x) h so = so h
on_ok_so (Err e) h so = tt

pub err_so : {T E : Type 0} {P Q : E → Type 0} (r : Result T E) → IfErr r P → ((e : E) → P e → Q e) → IfErr r Q
err_so (Ok x) h so = tt
err_so (Err e) h so = so e h

-- ---- plans without sources, and with some

pub no_warnings : {known : List Answer} {lines : List (List ℕ)} (set : BuildConfig) (env : EnvSeen) (warns_of_link : Bool) → set.files ≡ [] → lines ≡ [] → Settles known (plan_warnings set env warns_of_link) lines
no_warnings set env warns_of_link none is = record { is = λ look a. let e : is_empty set.files ≡ true = ap is_empty none in rw e (sym is) }

pub no_compiles : {known : List Answer} {cmds : List CommandSeen} (set : BuildConfig) (env : EnvSeen) → set.files ≡ [] → cmds ≡ [] → Settles known (compiles_of set env) cmds
no_compiles set env none is = record { is = λ look a. rw none (sym is) }

pub no_refusal : {known : List Answer} {refusal : Option PlanError} (set : BuildConfig) (env : EnvSeen) → set.files ≡ [] → platform_refusal set env ≡ refusal → Settles known (late_refusal set env) refusal
unfolding late_refusal
no_refusal set env none is = record { is = λ look a. let e : is_empty set.files ≡ true = ap is_empty none in rw e is }

pub no_refused : {known : List Answer} (set : BuildConfig) (env : EnvSeen) (e : PlanError) → set.files ≡ [] → (e ≡ WantsMemory) ⊎ (platform_refusal set env ≡ Some e) → (e ≡ WantsMemory) ⊎ Settles known (late_refusal set env) (Some e)
no_refused set env e none (inl memory) = inl memory
no_refused set env e none (inr refused) = inr (no_refusal set env none refused)

pub some_warnings : {known : List Answer} {lines : List (List ℕ)} (set : BuildConfig) (env : EnvSeen) (warns_of_link : Bool) → is_empty set.files ≡ false → Settles known (warnings_of set env warns_of_link) lines → Settles known (plan_warnings set env warns_of_link) lines
some_warnings set env warns_of_link some settled = settles_so settled (λ look is. rw some is)

pub some_refusal : {known : List Answer} {refusal : Option PlanError} (set : BuildConfig) (env : EnvSeen) → is_empty set.files ≡ false → Settles known (tool_refusal set env) refusal → Settles known (late_refusal set env) refusal
unfolding late_refusal
some_refusal set env some settled = settles_so settled (λ look is. rw some is)

pub some_refused : {known : List Answer} (set : BuildConfig) (env : EnvSeen) (e : PlanError) → is_empty set.files ≡ false → (e ≡ WantsMemory) ⊎ Settles known (tool_refusal set env) (Some e) → (e ≡ WantsMemory) ⊎ Settles known (late_refusal set env) (Some e)
some_refused set env e some (inl memory) = inl memory
some_refused set env e some (inr refused) = inr (some_refusal set env some refused)
