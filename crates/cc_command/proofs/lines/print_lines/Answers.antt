use Rattle.std.proofs.Common.{arith}
use Rattle.std.proofs.lemmas.Result.{err_from_is_err_and}
use Rattle.cc_build.proofs.Keeping.{aside_none, aside_then}
use Rattle.cc_command.proofs.ShowLaws.{shown_none, shown_all, shown_more, shown_refused}
use Rattle.cc_command.proofs.lines.print_lines.Goals as goal

pub loop-line-init : goal.loop-line-init
loop-line-init g c = record { aside = aside_none g.H.Host.log g.H.Host.patience c.args.host.now; shown = shown_none c.args.lines.now (g.H.Host.log c.args.host.now) }

pub loop-line-preserved : goal.loop-line-preserved
loop-line-preserved g c = record {
  aside = aside_then g.H.Host.log g.H.Host.patience c.args.host.now c.loop-line.host c.print_line.new.host c.loop-line.invariant.aside c.print_line.ensures.aside;
  shown = shown_more c.args.lines.now c.loop-line.line-index c.line-item.result c.loop-line-test.true c.line-item.is (g.H.Host.log c.args.host.now) (g.H.Host.log c.loop-line.host) (g.H.Host.log c.print_line.new.host) c.loop-line.invariant.aside.extends c.print_line.ensures.aside.extends c.loop-line.invariant.shown c.in_ok-print_line.ensures.outcome;
}

pub returns-in_err-print_line-clause-outcome : goal.returns-in_err-print_line-clause-outcome
returns-in_err-print_line-clause-outcome g c =
    let p = err_from_is_err_and c.from_residual.result c.from_residual.ensures.1 in
    rw (p.1, p.2) (shown_refused c.args.lines.now c.loop-line.line-index c.line-item.result c.loop-line-test.true c.line-item.is (g.H.Host.log c.args.host.now) (g.H.Host.log c.loop-line.host) (g.H.Host.log c.print_line.new.host) c.loop-line.invariant.aside.extends c.print_line.ensures.aside.extends c.loop-line.invariant.shown c.in_err-print_line.field-0.0 c.in_err-print_line.ensures.outcome)

pub returns-clause-outcome : goal.returns-clause-outcome
returns-clause-outcome g c = shown_all c.args.lines.now c.loop-line.line-index _ (grind (arith, c.loop-line-test.false)) c.loop-line.invariant.shown
