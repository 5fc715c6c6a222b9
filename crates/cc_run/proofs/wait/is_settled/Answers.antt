use Rattle.std.proofs.Common.{◌≡◌, ◌∙◌, ℕ, List, [], ◌∷◌, length, Some, None, sym, ap, refl, arith}
use Rattle.cc_run.specs.declared.running.Child.{Child}
use Rattle.cc_run.specs.Children.{seat}
use Rattle.cc_run.proofs.Firsts.{next_is}
use Rattle.cc_run.proofs.WorkLemmas.{no_seats}
use Rattle.cc_run.proofs.wait.is_settled.Goals as goal

pub returns-in-Some-clause-no : goal.returns-in-Some-clause-no
returns-in-Some-clause-no g c = λ _ s. let e : Some c.in-Some.field-0 ≡ None = sym (next_is (g.Q.Queue.plan c.args.queue.now) c.args.running.now.marks (Some c.in-Some.field-0) (c.in-Some.ensures c.args.running.now.marks c.requires)) ∙ s.1 in cc

pub returns-in-None-clause-yes : goal.returns-in-None-clause-yes
returns-in-None-clause-yes g c = λ _. (no_seats c.args.running.now.children (omega arith), next_is (g.Q.Queue.plan c.args.queue.now) c.args.running.now.marks None (c.in-None.ensures c.args.running.now.marks c.requires))
