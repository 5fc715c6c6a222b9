use Rattle.std.proofs.Common.{arith}
use Rattle.std.proofs.lemmas.Grind.{common_steps}
use Rattle.cc_host.proofs.JournalLemmas.{joined_note, kept_note}
use Rattle.cc_host.proofs.journal.Journal.note_all.Goals as goal

pub invariant_of-self : goal.invariant_of-self
invariant_of-self c = record {
  kept = kept_note c.self.inside.events.items _ c.args.events.items c.self.inside.probes.items (rw c.in-Ok.is at c.append.ensures.items) c.requires.quiet c.self.invariant.kept;
  joined = joined_note c.self.inside.events.items _ c.args.events.items (rw c.in-Ok.is at c.append.ensures.items) c.requires.quiet.2 c.self.invariant.joined;
  room = grind (arith, common_steps);
}
