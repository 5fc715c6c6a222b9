use Rattle.std.proofs.Common.{refl}
use Rattle.cc_host.specs.Call.{part}
use Rattle.cc_tool.proofs.AskLemmas.{asked_exists, asked_command, settles_asked}
use Rattle.cc_tool.proofs.KnownLemmas.{isnt}
use Rattle.cc_tool.proofs.OwnLemmas.{own_looks, own_is, why, asks_founded}
use Rattle.cc_tool.proofs.asking.ask.Goals as goal

pub returns-then-is_exists-clause-settles : goal.returns-then-is_exists-clause-settles
returns-then-is_exists-clause-settles g c = settles_asked _ c.ask_exists.result _ c.args.q.now (asked_exists c.args.q.now c.as_str.result.now c.as_str.ensures (c.if-is_exists.ensures.0 refl)) c.ask_exists.ensures.settles

pub returns-else-is_exists-clause-settles : goal.returns-else-is_exists-clause-settles
returns-else-is_exists-clause-settles g c = settles_asked _ c.ask_command.result _ c.args.q.now (asked_command c.args.q.now (isnt c.if-is_exists.ensures)) c.ask_command.ensures.settles

pub returns-then-is_exists-clause-own : goal.returns-then-is_exists-clause-own
returns-then-is_exists-clause-own g c = own_is _ _ c.ask_exists.result _ _ (asked_exists c.args.q.now c.as_str.result.now c.as_str.ensures (c.if-is_exists.ensures.0 refl)) (own_looks _ c.args.answers.now (part g.H.Host.log c.args.host.now c.ask_exists.new.host) c.ask_exists.result c.ask_exists.ensures.looks)

pub returns-else-is_exists-clause-cause : goal.returns-else-is_exists-clause-cause
returns-else-is_exists-clause-cause g c =
    let log = g.H.Host.log in
    let it = asked_command c.args.q.now (isnt c.if-is_exists.ensures) in
    why _ _ (part log c.args.host.now c.ask_command.new.host) c.ask_command.result (own_is _ _ c.ask_command.result _ _ it c.ask_command.ensures.own) (asks_founded c.ask_command.ensures.asks)
