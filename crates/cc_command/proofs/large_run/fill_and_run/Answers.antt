use Rattle.std.proofs.Common.{arith}
use Rattle.cc_command.proofs.GeneratedRunLaws.{generated_run}
use Rattle.cc_command.proofs.large_run.fill_and_run.Goals as goal

pub returns : goal.returns
returns g c =
    record { ran = generated_run c.args.count c.args.turns c.fill.new.build _ _ (omega (arith, c.ranges.count)) c.in_ok-fill.ensures c.in_ok-generated.ensures.ran }
