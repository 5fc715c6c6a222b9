use Rattle.std.proofs.Common.{◌≡◌, ◌∙◌, ap, subst, sym, arith, List}
use Rattle.std.specs.List.{remove, Contains}
use Rattle.std.proofs.lemmas.Grind.{common_steps}
use Rattle.cc_host.specs.Children.{running}
use Rattle.cc_host.specs.ChildLog.{ChildLogSeen, without_child}
use Rattle.cc_host.specs.Journal.{JournalSeen}
use Rattle.cc_host.specs.declared.event.Event.{Event}
use Rattle.cc_host.specs.declared.child.RunningChild.{RunningChild}
use Rattle.cc_host.proofs.ChildLogLemmas.{alive_gone, child_missing}
use Rattle.cc_host.proofs.child_log.ChildLog.abandon.Goals as goal

pub invariant_of-self : goal.invariant_of-self
invariant_of-self c =
    let gone = c.in-Some.ensures in
    let left : c.remove.new.self.items ≡ without_child c.args.id c.self.inside.children.items = c.remove.ensures.items ∙ sym (subst (λ (l : List RunningChild). without_child c.args.id l ≡ remove l c.in-Some.place) c.deref.ensures.value gone.1) in
    record {
      alive = alive_gone c.self.inside.journal.log _ c.self.inside.next c.args.id c.self.inside.children.items _ (ap (λ (j : JournalSeen). j.log) c.note_gone.ensures) left c.self.invariant.alive;
      kept = grind (arith, common_steps);
    }

pub unreachable-requires : goal.unreachable-requires
unreachable-requires c =
    child_missing c.self.inside.journal.log c.self.inside.next c.args.id c.self.inside.children.items c.self.invariant.alive
    (subst (λ (l : List Event). Contains (running l) c.args.id) (sym (ap (λ (s : ChildLogSeen). s.log) c.self.view_is)) c.requires)
    (subst (λ (l : List RunningChild). without_child c.args.id l ≡ l) c.deref.ensures.value c.in-None.ensures)
