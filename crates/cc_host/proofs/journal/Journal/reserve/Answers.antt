use Rattle.std.proofs.Common.{arith, refl}
use Rattle.std.proofs.lemmas.Grind.{common_steps}
use Rattle.cc_host.proofs.JournalLemmas.{joined_same, kept_same}
use Rattle.cc_host.proofs.journal.Journal.reserve.Goals as goal

pub invariant_of-self : goal.invariant_of-self
invariant_of-self c = record {
  kept = kept_same c.self.inside.events.items _ c.self.inside.probes.items _ c.reserve.ensures.items refl c.self.invariant.kept;
  joined = joined_same c.self.inside.events.items _ c.reserve.ensures.items c.self.invariant.joined;
  room = grind (arith, common_steps);
}

pub invariant_of-self-2 : goal.invariant_of-self-2
invariant_of-self-2 c = record {
  kept = kept_same c.self.inside.events.items _ c.self.inside.probes.items _ c.reserve.ensures.items refl c.self.invariant.kept;
  joined = joined_same c.self.inside.events.items _ c.reserve.ensures.items c.self.invariant.joined;
  room = grind (arith, common_steps);
}
