use Rattle.cc_command.proofs.GeneratedRunLaws.{plain_run}
use Rattle.cc_command.proofs.large_run.run_plain.Goals as goal

pub returns : goal.returns
returns g c =
    record {
      ran = plain_run _ _ c.args.build.now c.args.turns _ _ c.into_bench.result _ _ _ _ _ c.try_compile-result.result c.in_ok-host.ensures c.new-2.ensures.total c.new-2.ensures.none.1 c.new-2.ensures.none.2
          c.into_bench.ensures.same c.into_bench.ensures.log c.try_compile-result.ensures.asked c.try_compile-result.ensures.promises c.try_compile-result.ensures.built;
    }
