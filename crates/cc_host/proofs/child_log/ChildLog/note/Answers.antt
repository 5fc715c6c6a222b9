use Rattle.std.proofs.Common.{◌++◌, ◌∙◌, ap, arith}
use Rattle.std.proofs.lemmas.Grind.{common_steps}
use Rattle.cc_host.specs.Journal.{JournalSeen}
use Rattle.cc_host.proofs.ChildLogLemmas.{alive_after}
use Rattle.cc_host.proofs.child_log.ChildLog.note.Goals as goal

pub invariant_of-self : goal.invariant_of-self
invariant_of-self c = record {
  alive = alive_after c.self.inside.journal.log _ c.self.inside.next c.self.inside.children.items c.args.event (ap (λ (j : JournalSeen). j.log) c.note.ensures.same ∙ ap (λ l. c.self.inside.journal.log ++ l) c.requires.idle.0) c.requires.idle c.self.invariant.alive;
  kept = grind (arith, common_steps);
}
