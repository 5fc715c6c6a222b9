use Rattle.std.proofs.Common.{◌+◌, ap, subst, sym, arith, List}
use Rattle.std.proofs.lemmas.Grind.{common_steps}
use Rattle.cc_host.specs.ChildLog.{ChildLogSeen, AreRunning}
use Rattle.cc_host.specs.Children.{IsFresh}
use Rattle.cc_host.specs.Journal.{JournalSeen}
use Rattle.cc_host.specs.declared.event.Event.{Event}
use Rattle.cc_host.specs.declared.event.Start.TheVariants.{Child}
use Rattle.cc_host.proofs.ChildLogLemmas.{alive_start, alive_fresh}
use Rattle.cc_host.proofs.child_log.ChildLog.note_child.Goals as goal

pub invariant_of-self : goal.invariant_of-self
invariant_of-self c = record {
  alive = subst (AreRunning c.note_child.new.self.log (c.self.inside.next + 1)) (sym c.push_reserved.ensures.items) (alive_start c.self.inside.journal.log _ c.self.inside.next c.self.inside.children.items c.args.role c.args.cmd c.args.pipes c.args.held c.args.place (ap (λ (j : JournalSeen). j.log) c.note_child.ensures.same) c.self.invariant.alive);
  kept = grind (arith, common_steps);
}

pub returns-clause-fresh : goal.returns-clause-fresh
returns-clause-fresh c = subst (λ (l : List Event). IsFresh l (Child c.self.inside.next)) (ap (λ (s : ChildLogSeen). s.log) c.self.view_is) (alive_fresh c.self.inside.journal.log c.self.inside.next c.self.inside.children.items c.self.invariant.alive)
