-- Laws on passes over plans that may be refused, where what a call answers is by an equation a step of the plan.
use Rattle.std.proofs.Common.{◌≡◌, ◌⊎◌, inl, inr, List, Option, Some, None, Result, Ok, Err, sym, ap, ◌∙◌, subst}
use Rattle.std.specs.Result.{IsErrAnd}
use Rattle.std.proofs.lemmas.Result.{err_from_is_err_and}
use Rattle.cc_host.specs.Question.{Answer}
use Rattle.cc_tool.specs.Notes.{Noted}
use Rattle.cc_tool.specs.Plans.{Plan, Passes, bind}
use Rattle.cc_tool.specs.declared.want.Want.{Want}
use Rattle.cc_tool.specs.declared.want.Want.TheVariants.{NoMemory as WantsMemory}
use Rattle.cc_tool.proofs.PassLemmas.{pass_done, pass_ok, pass_err, pass_memory}
use Rattle.cc_plan.specs.Halts.{halt_of, outcome_of, allowed, unless, on_ok, bind_ok}
use Rattle.cc_plan.specs.declared.error.PlanError.{PlanError}
use Rattle.cc_plan.specs.declared.error.PlanError.TheVariants.{Argument, NotSet, UnknownTarget, QnxArch, Flag, Host, NoMemory}
use Rattle.cc_plan.specs.declared.halt.Halt.{Halt}
use Rattle.cc_plan.specs.declared.halt.Halt.TheVariants.{Want as Wants, Refused}
use Rattle.cc_plan.proofs.PassBy.{by_plan, by_done, by_ok, by_case}

module _ {X : Type 0} {known : List Answer} where
  pub by_allowed : {notes : Noted} {x y : X} → y ≡ x → Passes known notes notes (allowed x) (Ok (Ok y))
  unfolding allowed
  by_allowed e = by_done (ap Ok e)

  -- nothing is refused
  pub by_unless : {before after : Noted} {refusal : Option PlanError} {p : Plan (Result X PlanError)} {r : Result (Result X PlanError) Want} → refusal ≡ None → Passes known before after p r → Passes known before after (unless refusal p) r
  unfolding unless
  by_unless {before} {after} {refusal} {p} {r} none h = subst (λ (o : Option PlanError). Passes known before after (unless o p) r) (sym none) h

  refused_by : {notes : Noted} (p : Plan (Result X PlanError)) (refusal : Option PlanError) (e : PlanError) → (e ≡ NoMemory) ⊎ (refusal ≡ Some e) → Passes known notes notes (unless refusal p) (outcome_of (Err (halt_of e)))
  unfolding unless
  refused_by {notes} p refusal NoMemory h = pass_memory
  refused_by {notes} p refusal (Argument cause) (inr is) = subst (λ (o : Option PlanError). Passes known notes notes (unless o p) (Ok (Err (Argument cause)))) (sym is) pass_done
  refused_by {notes} p refusal (NotSet name) (inr is) = subst (λ (o : Option PlanError). Passes known notes notes (unless o p) (Ok (Err (NotSet name)))) (sym is) pass_done
  refused_by {notes} p refusal (UnknownTarget name) (inr is) = subst (λ (o : Option PlanError). Passes known notes notes (unless o p) (Ok (Err (UnknownTarget name)))) (sym is) pass_done
  refused_by {notes} p refusal (QnxArch arch) (inr is) = subst (λ (o : Option PlanError). Passes known notes notes (unless o p) (Ok (Err (QnxArch arch)))) (sym is) pass_done
  refused_by {notes} p refusal (Flag flag) (inr is) = subst (λ (o : Option PlanError). Passes known notes notes (unless o p) (Ok (Err (Flag flag)))) (sym is) pass_done
  refused_by {notes} p refusal (Host call why) (inr is) = subst (λ (o : Option PlanError). Passes known notes notes (unless o p) (Ok (Err (Host call why)))) (sym is) pass_done
  refused_by p refusal e (inl is) = absurd (cc)

  ended : {before after : Noted} {p : Plan (Result X PlanError)} (h : Halt) (r : Result X Halt) → IsErrAnd r (λ x. x ≡ h) → Passes known before after p (outcome_of (Err h)) → Passes known before after p (outcome_of r)
  ended {before} {after} {p} e r is h =
      let at = err_from_is_err_and r is in
      subst (λ (v : Result X Halt). Passes known before after p (outcome_of v)) (sym (at.1 ∙ ap Err at.2)) h

  -- a check refuses it
  pub by_refused : {notes : Noted} {found : Option PlanError} {e : PlanError} (refusal : Option PlanError) (p : Plan (Result X PlanError)) (r : Result X Halt) → (e ≡ NoMemory) ⊎ (found ≡ Some e) → found ≡ refusal → IsErrAnd r (λ h. h ≡ halt_of e) → Passes known notes notes (unless refusal p) (outcome_of r)
  by_refused {notes} {found} {e} refusal p r why same is =
      subst (λ (o : Option PlanError). Passes known notes notes (unless o p) (outcome_of r)) same (ended (halt_of e) r is (refused_by p found e why))

  -- memory is wanted
  pub by_memory : {before after : Noted} {p : Plan (Result X PlanError)} (r : Result X Halt) → IsErrAnd r (λ h. h ≡ Wants WantsMemory) → Passes known before after p (outcome_of r)
  by_memory r is = ended (Wants WantsMemory) r is pass_memory

module _ {X Y : Type 0} {known : List Answer} (p : Plan X) (k : X → Plan (Result Y PlanError)) where
  -- what the first wants
  pub by_want : {before after : Noted} {q : Plan X} {e : Want} (r : Result Y Halt) → Passes known before after q (Err e) → q ≡ p → IsErrAnd r (λ h. h ≡ Wants e) → Passes known before after (bind p k) (outcome_of r)
  by_want {e} r h same is = ended (Wants e) r is (pass_err p k (by_plan h same))

module _ {X Y : Type 0} {known : List Answer} (p : Plan (Result X PlanError)) (k : X → Plan (Result Y PlanError)) where
  pub by_allowing : {before mid after : Noted} {q : Plan (Result X PlanError)} {x : X} {r : Result (Result Y PlanError) Want} → Passes known before mid q (Ok (Ok x)) → q ≡ p → Passes known mid after (k x) r → Passes known before after (bind_ok p k) r
  unfolding bind_ok
  by_allowing h e t = pass_ok p (on_ok k) (by_plan h e) t

  halted : {before after : Noted} (e : Halt) → Passes known before after p (outcome_of (Err e)) → Passes known before after (bind_ok p k) (outcome_of (Err e))
  unfolding bind_ok
  halted (Wants want) h = pass_err p (on_ok k) h
  halted (Refused error) h = pass_ok p (on_ok k) h pass_done

  -- what ends the first
  pub by_halt : {before after : Noted} {q : Plan (Result X PlanError)} (e : Halt) (r : Result Y Halt) → Passes known before after q (outcome_of (Err e)) → q ≡ p → IsErrAnd r (λ h. h ≡ e) → Passes known before after (bind_ok p k) (outcome_of r)
  by_halt e r h same is = ended e r is (halted e (by_plan h same))

pub ruleset halt_by = (by_allowed, by_unless, by_refused, by_memory, by_want, by_allowing, by_halt, by_ok, by_case)
