use Rattle.std.proofs.Common.{◌≡◌, ◌⊎◌, [], List, true, false, None, refl, sym, ◌∙◌, subst}
use Rattle.cc_host.specs.Part.{since}
use Rattle.cc_run.specs.declared.planned.Planned.{Planned}
use Rattle.cc_build.specs.Error.{no_memory}
use Rattle.cc_build.specs.RunErrors.{run_error}
use Rattle.cc_build.specs.Stage.Stage.{Tries}
use Rattle.cc_build.specs.Went.{terms}
use Rattle.cc_build.proofs.Going.{went_one, halted_at}
use Rattle.cc_build.proofs.Running.{tried_asks_none, broken_asks_none, cause_of}
use Rattle.cc_build.proofs.run.try_form.Goals as goal

pub returns-in-Ok-clause-aside : goal.returns-in-Ok-clause-aside
returns-in-Ok-clause-aside g c = record {
  patient = c.run_silent.ensures.patient;
  extends = c.run_silent.ensures.extends;
  asks_none = tried_asks_none c.args.reporting.shows c.args.cmd.now false (since (g.H.Host.log c.args.host.now) (g.H.Host.log c.run_silent.new.host)) c.in-Ok.ensures.part;
}

pub returns-in-Ok-clause-outcome : goal.returns-in-Ok-clause-outcome
returns-in-Ok-clause-outcome g c = λ total patience x.
    went_one (terms c.args.reporting.shows total patience) (Tries false c.args.cmd.now) (since (g.H.Host.log c.args.host.now) (g.H.Host.log c.run_silent.new.host)) x x (c.in-Ok.ensures.part, refl)

pub returns-then-is_refusal-clause-aside : goal.returns-then-is_refusal-clause-aside
returns-then-is_refusal-clause-aside g c = record {
  patient = c.run_silent.ensures.patient;
  extends = c.run_silent.ensures.extends;
  asks_none = tried_asks_none c.args.reporting.shows c.args.cmd.now true (since (g.H.Host.log c.args.host.now) (g.H.Host.log c.run_silent.new.host)) (c.in-Err.e, (sym c.is_refusal.ensures ∙ c.if-is_refusal.true, c.in-Err.ensures.part));
}

pub returns-then-is_refusal-clause-outcome : goal.returns-then-is_refusal-clause-outcome
returns-then-is_refusal-clause-outcome g c = λ total patience x.
    went_one (terms c.args.reporting.shows total patience) (Tries true c.args.cmd.now) (since (g.H.Host.log c.args.host.now) (g.H.Host.log c.run_silent.new.host)) x x
    ((c.in-Err.e, (sym c.is_refusal.ensures ∙ c.if-is_refusal.true, c.in-Err.ensures.part)), refl)

pub returns-else-is_refusal-clause-aside : goal.returns-else-is_refusal-clause-aside
returns-else-is_refusal-clause-aside g c = record {
  patient = c.run_silent.ensures.patient;
  extends = c.run_silent.ensures.extends;
  asks_none = broken_asks_none c.args.reporting.shows c.args.cmd.now (since (g.H.Host.log c.args.host.now) (g.H.Host.log c.run_silent.new.host)) c.in-Err.e (sym c.is_refusal.ensures ∙ c.if-is_refusal.false) c.in-Err.ensures.part;
}

pub returns-else-is_refusal-clause-outcome : goal.returns-else-is_refusal-clause-outcome
returns-else-is_refusal-clause-outcome g c = λ total patience refused x.
    halted_at (terms c.args.reporting.shows total patience) None (Tries refused c.args.cmd.now) [] (since (g.H.Host.log c.args.host.now) (g.H.Host.log c.run_silent.new.host)) c.of_run.result x x
    (c.in-Err.e, (sym c.is_refusal.ensures ∙ c.if-is_refusal.false, c.in-Err.ensures.part, cause_of c.args.cmd.now c.in-Err.e c.of_run.result (subst (λ (l : List Planned). (c.of_run.result ≡ run_error l c.in-Err.e) ⊎ (c.of_run.result ≡ no_memory)) c.from_ref.ensures.value c.of_run.ensures), refl))
