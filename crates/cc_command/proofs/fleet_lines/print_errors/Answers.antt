use Rattle.std.proofs.Common.{arith, ap, append-nil, sym, ◌∙◌, []}
use Rattle.std.proofs.lemmas.Result.{err_from_is_err_and}
use Rattle.cc_host.specs.Part.{since}
use Rattle.cc_host.proofs.Parts.{since_append, since_extends}
use Rattle.cc_tool.specs.Asked.{question_events}
use Rattle.cc_tool.proofs.Asides.{none_since}
use Rattle.cc_command.proofs.FleetLineLaws.{log_kept, quiet_kept, printed_none, printed_more, printed_some, printed_all}
use Rattle.cc_command.proofs.fleet_lines.print_errors.Goals as goal

pub loop-error-init : goal.loop-error-init
loop-error-init g c = record {
  extends = log_kept (g.H.Host.log c.args.host.now);
  quiet = quiet_kept (g.H.Host.log c.args.host.now);
  printed = printed_none c.args.errors.now (g.H.Host.log c.args.host.now);
}

pub loop-error-preserved : goal.loop-error-preserved
loop-error-preserved g c =
    let old = g.H.Host.log c.args.host.now in
    let mid = g.H.Host.log c.loop-error.host in
    let new = g.H.Host.log c.print_error.new.host in
    record {
      extends = since_extends old mid new c.loop-error.invariant.extends c.print_error.ensures.extends;
      quiet = none_since old mid new c.loop-error.invariant.extends c.print_error.ensures.extends c.loop-error.invariant.quiet c.print_error.ensures.asks_none;
      printed = printed_more c.args.errors.now c.loop-error.error-index c.error-item.result c.loop-error-test.true c.error-item.is old mid new c.loop-error.invariant.extends c.print_error.ensures.extends c.loop-error.invariant.printed c.in_ok-print_error.ensures.printed;
    }

pub returns-clause-printed : goal.returns-clause-printed
returns-clause-printed g c = printed_all c.args.errors.now c.loop-error.error-index _ (grind (arith, c.loop-error-test.false)) c.loop-error.invariant.printed

pub returns-in_err-print_error-clause-some : goal.returns-in_err-print_error-clause-some
returns-in_err-print_error-clause-some g c =
    let old = g.H.Host.log c.args.host.now in
    let mid = g.H.Host.log c.loop-error.host in
    let new = g.H.Host.log c.print_error.new.host in
    let p = err_from_is_err_and c.from_residual.result c.from_residual.ensures.1 in
    rw p.1 (printed_some c.args.errors.now c.loop-error.error-index old mid new c.loop-error.invariant.extends c.print_error.ensures.extends c.loop-error.invariant.printed c.in_err-print_error.ensures.wanting)
