use Rattle.std.proofs.Common.{arith, refl}
use Rattle.std.proofs.lemmas.Grind.{common_steps}
use Rattle.cc_host.proofs.JournalLemmas.{kept_same}
use Rattle.cc_host.proofs.journal.Journal.reserve_probe.Goals as goal

pub invariant_of-self : goal.invariant_of-self
invariant_of-self c = record {
  kept = kept_same c.self.inside.events.items _ c.self.inside.probes.items _ refl c.reserve-2.ensures.items c.self.invariant.kept;
  joined = c.self.invariant.joined;
  room = grind (arith, common_steps);
}

pub invariant_of-self-2 : goal.invariant_of-self-2
invariant_of-self-2 c = record {
  kept = kept_same c.self.inside.events.items _ c.self.inside.probes.items _ refl c.reserve-2.ensures.items c.self.invariant.kept;
  joined = c.self.invariant.joined;
  room = grind (arith, common_steps);
}
