use Rattle.std.proofs.Common.{◌∙◌, ap, arith}
use Rattle.cc_host.specs.Bench.{BenchSeen}
use Rattle.cc_host.specs.Script.{patience_of}
use Rattle.cc_host.proofs.ScriptLemmas.{patience_same}
use Rattle.cc_host.proofs.bench_host.BenchHostHostBench.start.Goals as goal

pub returns-clause-keeps : goal.returns-clause-keeps
returns-clause-keeps c =
    let same = ap (λ (s : BenchSeen). s.faults) c.in_ok-id.ensures.ok.2 in
    (omega (arith, same), ap (λ (s : BenchSeen). patience_of s.scripts) c.in_ok-id.ensures.ok.2 ∙ patience_same c.args.cmd.now c.args.self.now.scripts)
