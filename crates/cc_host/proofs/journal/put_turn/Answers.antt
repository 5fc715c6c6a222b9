use Rattle.std.proofs.Common.{◌≡◌, ◌-◌, ◌^◌, arith, refl}
use Rattle.std.proofs.lemmas.Grind.{common_steps}
use Rattle.cc_host.proofs.JournalLemmas.{joined_count, joined_full}
use Rattle.cc_host.proofs.journal.put_turn.Goals as goal

pub returns-in-Some-clause-joined : goal.returns-in-Some-clause-joined
returns-in-Some-clause-joined c = joined_count c.args.events.now.items _ c.args.count c.in-Some.count c.push_reserved.ensures.items

pub returns-in-None-clause-joined : goal.returns-in-None-clause-joined
returns-in-None-clause-joined c =
    let full : c.args.count ≡ 2 ^ 64 - 1 = grind (arith, common_steps) in
    joined_full c.args.events.now.items _ _ c.args.count 1 full c.push_reserved-in-None.ensures.items c.push_reserved-in-None-2.ensures.items
