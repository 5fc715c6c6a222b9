use Rattle.std.proofs.Common.{sym}
use Rattle.cc_build.proofs.Growing.{asking_then, agrees_earlier}
use Rattle.cc_build.proofs.phases.plan_lines.Goals as goal

pub returns-in-Ok-clause-asks : goal.returns-in-Ok-clause-asks
returns-in-Ok-clause-asks g c = asking_then _ _ _ _ g.H.Host.log g.H.Host.patience c.args.host.now c.plan_names.new.host c.plan_links.new.host _ _ _ c.plan_names.ensures.asks c.plan_links.ensures.asks

pub returns-in-Ok-clause-planned : goal.returns-in-Ok-clause-planned
returns-in-Ok-clause-planned g c = record {
  under = λ look agree. record {
    links = c.in-Ok.ensures.planned.under look agree;
    names = sym (c.in_ok-names.ensures.planned.is look (agrees_earlier look _ _ _ c.plan_links.ensures.asks.asks.answered agree));
  };
}

pub returns-in-Err-clause-asks : goal.returns-in-Err-clause-asks
returns-in-Err-clause-asks g c = asking_then _ _ _ _ g.H.Host.log g.H.Host.patience c.args.host.now c.plan_names.new.host c.plan_links.new.host _ _ _ c.plan_names.ensures.asks c.plan_links.ensures.asks
