use Rattle.std.proofs.Common.{Option, sym, subst}
use Rattle.cc_host.specs.Bench.{BenchSeen}
use Rattle.cc_host.specs.Part.{since}
use Rattle.cc_command.specs.Summary.{Generating}
use Rattle.cc_command.proofs.SummedLaws.{summed_up}
use Rattle.cc_command.proofs.summary.generate_alone.Goals as goal

pub returns-in-Ok-clause-ends : goal.returns-in-Ok-clause-ends
returns-in-Ok-clause-ends g c =
    let made = c.in-Ok.generated in
    let part = since (g.H.Host.log c.args.host.now) (g.H.Host.log c.hand_back.new.host) in
    subst (λ (b : Option BenchSeen). Generating c.args.count c.args.turns part c.hand_back.result.result b) (sym c.hand_back.ensures.back)
    (made.result, (c.in-Ok.ensures.ran, summed_up c.args.count c.args.turns made.bench.log made.result part c.hand_back.result.result c.in-Ok.ensures.ran c.hand_back.ensures.sums))
