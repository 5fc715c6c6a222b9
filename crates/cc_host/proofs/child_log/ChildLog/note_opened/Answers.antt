use Rattle.std.proofs.Common.{ap, refl, arith}
use Rattle.std.proofs.lemmas.Grind.{common_steps}
use Rattle.cc_host.specs.Journal.{JournalSeen}
use Rattle.cc_host.specs.declared.event.Event.TheVariants.{Opened}
use Rattle.cc_host.proofs.ChildLogLemmas.{alive_after}
use Rattle.cc_host.proofs.child_log.ChildLog.note_opened.Goals as goal

pub invariant_of-self : goal.invariant_of-self
invariant_of-self c = record {
  alive = alive_after c.self.inside.journal.log _ c.self.inside.next c.self.inside.children.items (Opened c.args.path c.args.bytes) (ap (λ (j : JournalSeen). j.log) c.note_opened.ensures) (refl, refl, refl, λ l. refl) c.self.invariant.alive;
  kept = grind (arith, common_steps);
}
