use Rattle.std.proofs.Common.{◌≡◌, ◌⊎◌, List, Ok, Err, subst}
use Rattle.std.specs.Option.{option_copied}
use Rattle.cc_host.specs.Part.{since}
use Rattle.cc_run.specs.declared.planned.Planned.{Planned}
use Rattle.cc_build.specs.Error.{no_memory}
use Rattle.cc_build.specs.RunErrors.{run_error}
use Rattle.cc_build.proofs.ExpandLaws.{gives_shape, shape_asks_none}
use Rattle.cc_build.proofs.Running.{cause_of}
use Rattle.cc_build.proofs.expand.output_of.Goals as goal

pub returns-in-Ok-clause-aside : goal.returns-in-Ok-clause-aside
returns-in-Ok-clause-aside g c =
    let part = since (g.H.Host.log c.args.host.now) (g.H.Host.log c.run_output.new.host) in
    record {
      patient = c.run_output.ensures.patient;
      extends = c.run_output.ensures.extends;
      asks_none = shape_asks_none c.args.cmd.now part (gives_shape c.args.reporting.shows c.args.cmd.now (option_copied c.args.ignored) part (Ok c.in-Ok.bytes) c.in-Ok.ensures.part);
    }

pub returns-in-Err-clause-outcome : goal.returns-in-Err-clause-outcome
returns-in-Err-clause-outcome g c =
    (c.in-Err.e, (c.in-Err.ensures.part, cause_of c.args.cmd.now c.in-Err.e c.of_run.result (subst (λ (l : List Planned). (c.of_run.result ≡ run_error l c.in-Err.e) ⊎ (c.of_run.result ≡ no_memory)) c.from_ref.ensures.value c.of_run.ensures)))

pub returns-in-Err-clause-aside : goal.returns-in-Err-clause-aside
returns-in-Err-clause-aside g c =
    let part = since (g.H.Host.log c.args.host.now) (g.H.Host.log c.run_output.new.host) in
    let cause = cause_of c.args.cmd.now c.in-Err.e c.of_run.result (subst (λ (l : List Planned). (c.of_run.result ≡ run_error l c.in-Err.e) ⊎ (c.of_run.result ≡ no_memory)) c.from_ref.ensures.value c.of_run.ensures) in
    record {
      patient = c.run_output.ensures.patient;
      extends = c.run_output.ensures.extends;
      asks_none = shape_asks_none c.args.cmd.now part (gives_shape c.args.reporting.shows c.args.cmd.now (option_copied c.args.ignored) part (Err c.of_run.result) (c.in-Err.e, (c.in-Err.ensures.part, cause)));
    }
