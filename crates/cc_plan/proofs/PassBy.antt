-- Laws on passes over plans, where what a call answers is by an equation a step of the plan.
use Rattle.std.proofs.Common.{◌≡◌, List, Result, Ok, Err, subst}
use Rattle.std.specs.Result.{IsErrAnd}
use Rattle.cc_host.specs.Question.{Answer}
use Rattle.cc_tool.specs.Notes.{Noted}
use Rattle.cc_tool.specs.Plans.{Plan, Passes, bind, done}
use Rattle.cc_tool.specs.declared.want.Want.{Want}
use Rattle.cc_tool.proofs.PassLemmas.{pass_done, pass_ok, pass_try, pass_memory}

module _ {X : Type 0} {known : List Answer} where
  -- the same plan
  pub by_plan : {before after : Noted} {q p : Plan X} {r : Result X Want} → Passes known before after q r → q ≡ p → Passes known before after p r
  by_plan {before} {after} {q} {p} {r} h e = subst (λ (a : Plan X). Passes known before after a r) e h

  pub by_done : {notes : Noted} {x y : X} → y ≡ x → Passes known notes notes (done x) (Ok y)
  by_done {notes} {x} {y} e = subst (λ (a : X). Passes known notes notes (done a) (Ok y)) e pass_done

module _ {X Y : Type 0} {known : List Answer} (p : Plan X) (k : X → Plan Y) where
  pub by_ok : {before mid after : Noted} {q : Plan X} {x : X} {r : Result Y Want} → Passes known before mid q (Ok x) → q ≡ p → Passes known mid after (k x) r → Passes known before after (bind p k) r
  by_ok h e t = pass_ok p k (by_plan h e) t

  -- the same where the value is one of several cases
  pub by_case : {before mid after : Noted} {q : Plan X} {x y : X} {r : Result Y Want} → Passes known before mid q (Ok y) → q ≡ p → y ≡ x → Passes known mid after (k x) r → Passes known before after (bind p k) r
  by_case {before} {mid} {q} h e is t = by_ok (subst (λ (v : X). Passes known before mid q (Ok v)) is h) e t

  -- what ends the first, where it comes by `?`
  pub by_try : {before after : Noted} {q : Plan X} {e : Want} (r : Result Y Want) → Passes known before after q (Err e) → q ≡ p → IsErrAnd r (λ y. y ≡ e) → Passes known before after (bind p k) r
  by_try r h e is = pass_try p k r is (by_plan h e)

pub ruleset pass_by = (by_done, by_ok, by_case, by_try, pass_memory)
