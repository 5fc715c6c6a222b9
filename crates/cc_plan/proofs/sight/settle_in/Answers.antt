use Rattle.std.proofs.Common.{refl}
use Rattle.cc_plan.proofs.sight.settle_in.Goals as goal

pub returns-clause-asks : goal.returns-clause-asks
returns-clause-asks g c = record {
  same_host = refl;
  same_answers = refl;
  same_dir = refl;
  asks = c.settle.ensures.asks.asks;
  own = c.settle.ensures.asks.own;
  patient = c.settle.ensures.patient;
}
