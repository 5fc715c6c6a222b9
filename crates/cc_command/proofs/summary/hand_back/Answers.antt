use Rattle.cc_host.specs.Part.{since}
use Rattle.cc_command.proofs.SummedLaws.{lent_sums}
use Rattle.cc_command.proofs.summary.hand_back.Goals as goal

pub returns-clause-sums : goal.returns-clause-sums
returns-clause-sums g c =
    lent_sums c.args.count c.args.generated.bench.log c.log.result.now c.args.generated.result (since (g.H.Host.log c.args.host.now) (g.H.Host.log c.sum_up-result.new.host)) c.sum_up-result.result c.log.ensures.events c.sum_up-result.ensures.outcome
