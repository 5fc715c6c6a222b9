use Rattle.std.proofs.Common.{arith, flat_map}
use Rattle.std.proofs.lemmas.Grind.{common_steps}
use Rattle.cc_host.specs.Event.{apart}
use Rattle.cc_host.proofs.JournalLemmas.{kept_turn}
use Rattle.cc_host.proofs.journal.Journal.note_turn.Goals as goal

pub invariant_of-self : goal.invariant_of-self
invariant_of-self c = record {
  kept = kept_turn (flat_map apart c.self.inside.events.items) _ c.self.inside.probes.items c.add_turn.ensures.log c.self.invariant.kept;
  joined = c.add_turn.ensures.joined c.self.invariant.joined;
  room = grind (arith, common_steps);
}
