use Rattle.std.proofs.Common.{sym, append-nil}
use Rattle.cc_host.specs.Part.{since}
use Rattle.cc_build.proofs.Going.{part_is}
use Rattle.cc_command.specs.Summary.{log_lines}
use Rattle.cc_command.proofs.ShowLaws.{sums_done, sums_kept}
use Rattle.cc_command.proofs.summary.sum_up.Goals as goal

pub returns-in-Ok-clause-outcome : goal.returns-in-Ok-clause-outcome
returns-in-Ok-clause-outcome g c =
    sums_done (log_lines c.args.count c.args.log.now) c.args.run (since (g.H.Host.log c.args.host.now) (g.H.Host.log c.print_summary.new.host)) c.print_summary.result c.in-Ok.is c.print_summary.ensures.outcome

pub returns-in-Err-clause-outcome : goal.returns-in-Err-clause-outcome
returns-in-Err-clause-outcome g c =
    let log = g.H.Host.log c.args.host.now in
    sums_kept (log_lines c.args.count c.args.log.now) c.args.run (since log log) c.in-Err.error c.in-Err.is (part_is log log _ (sym (append-nil log)))
