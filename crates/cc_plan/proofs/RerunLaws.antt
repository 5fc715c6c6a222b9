-- Laws on passes over plans that are made for what they note.
use Rattle.std.proofs.Common.{◌≡◌, Bool, true, false, List, Result, Ok, Err, sym, subst}
use Rattle.cc_host.specs.Question.{Answer}
use Rattle.cc_tool.specs.Notes.{Noted}
use Rattle.cc_tool.specs.Plans.{Plan, Passes, done}
use Rattle.cc_tool.specs.declared.want.Want.{Want}
use Rattle.cc_tool.proofs.PassLemmas.{pass_done, pass_err, pass_ok}
use Rattle.cc_plan.specs.Halts.{outcome_of}
use Rattle.cc_plan.specs.Reruns.{noted_by, noted_of, where_made}
use Rattle.cc_plan.specs.declared.error.PlanError.{PlanError}
use Rattle.cc_plan.specs.declared.halt.Halt.{Halt}

-- a refusal is a value
pub by_outcome : {X : Type 0} {known : List Answer} {before after : Noted} {p : Plan (Result X PlanError)} (r : Result X Halt) (o : Result (Result X PlanError) Want) → Passes known before after p (outcome_of r) → o ≡ outcome_of r → Passes known before after p o
by_outcome {X} {known} {before} {after} {p} r o h e = subst (λ (v : Result (Result X PlanError) Want). Passes known before after p v) (sym e) h

noted : {X : Type 0} {known : List Answer} {before after : Noted} {p : Plan X} (o : Result X Want) → Passes known before after p o → Passes known before after (noted_by p) (noted_of o)
unfolding noted_by
noted {p = p} (Ok x) h = pass_ok p (λ y. done tt) h pass_done
noted {p = p} (Err want) h = pass_err p (λ y. done tt) h

-- a plan for what it notes alone
pub by_noted : {X : Type 0} {known : List Answer} {before after : Noted} {p : Plan (Result X PlanError)} (r : Result X Halt) (n : Result (Unit {0}) Want) → Passes known before after p (outcome_of r) → n ≡ noted_of (outcome_of r) → Passes known before after (noted_by p) n
by_noted {X} {known} {before} {after} {p} r n h e = subst (λ (v : Result (Unit {0}) Want). Passes known before after (noted_by p) v) (sym e) (noted (outcome_of r) h)

-- a plan that is made
pub by_made : {known : List Answer} {before after : Noted} {made : Bool} {p : Plan (Unit {0})} {r : Result (Unit {0}) Want} → made ≡ true → Passes known before after p r → Passes known before after (where_made made p) r
unfolding where_made
by_made {known} {before} {after} {made} {p} {r} e h = subst (λ (b : Bool). Passes known before after (where_made b p) r) (sym e) h

-- one that isn't
pub by_unmade : {known : List Answer} {notes : Noted} (made : Bool) (p : Plan (Unit {0})) → made ≡ false → Passes known notes notes (where_made made p) (Ok tt)
unfolding where_made
by_unmade {known} {notes} made p e = subst (λ (b : Bool). Passes known notes notes (where_made b p) (Ok tt)) (sym e) pass_done
