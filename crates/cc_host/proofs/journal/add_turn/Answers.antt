use Rattle.std.proofs.Common.{subst}
use Rattle.cc_host.specs.Journal.{AreJoined}
use Rattle.cc_host.proofs.JournalLemmas.{joined_turn}
use Rattle.cc_host.proofs.journal.add_turn.Goals as goal

pub returns-in-None-turns_in-clause-joined : goal.returns-in-None-turns_in-clause-joined
returns-in-None-turns_in-clause-joined c = λ joined. joined_turn c.pop.new.self.items _ _ c.in-Some.event 1 c.in-None-turns_in.ensures c.push_reserved.ensures.items c.push_reserved-in-None-turns_in.ensures.items (subst AreJoined c.in-Some.ensures.items joined)
