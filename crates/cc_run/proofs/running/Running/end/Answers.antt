use Rattle.std.proofs.Common.{◌≡◌, map, subst, sym, ◌∙◌, ap, arith}
use Rattle.std.specs.Prelude.{None}
use Rattle.std.proofs.lemmas.Grind.{common_steps}
use Rattle.cc_run.specs.Children.{IsFirst, seat}
use Rattle.cc_run.specs.Hearing.{of_some}
use Rattle.cc_run.specs.Run.{place_of}
use Rattle.cc_run.proofs.ChildLemmas.{first_of, none_of}
use Rattle.cc_run.proofs.running.Running.end.Goals as goal

pub returns-in_err-at-clause-own : goal.returns-in_err-at-clause-own
returns-in_err-at-clause-own c =
    let e : c.deref.result.now ≡ c.args.self.now.children = c.deref.ensures.value ∙ ap (λ k. k.children) c.self.view_is in
    let none : c.from_residual.result ≡ None = grind (arith, common_steps) in
    λ f. none_of c.args.id f c.args.self.now.children (subst (λ l. place_of c.args.id (map seat l) ≡ None) e c.in_err-at.ensures.0) ∙ ap (of_some f) (sym none)

pub returns-clause-own : goal.returns-clause-own
returns-clause-own c =
    let e : c.deref.result.now ≡ c.args.self.now.children = c.deref.ensures.value ∙ ap (λ k. k.children) c.self.view_is in
    let h = subst (λ l. IsFirst c.args.id l c.in_ok-at.at) e c.in_ok-at.ensures in
    λ f. first_of c.args.id f c.args.self.now.children c.in_ok-at.at c.remove-child.result h ∙ ap f (grind (arith, common_steps))
