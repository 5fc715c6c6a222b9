use Rattle.std.proofs.Common.{◌≡◌, ◌++◌, ◌∙◌, ap, sym, inr, refl, map}
use Rattle.std.proofs.lemmas.Result.{err_from_is_err_and, IfErr-weaker}
use Rattle.cc_fleet.specs.Fleet.{members_seen}
use Rattle.cc_command.proofs.FleetJobLaws.{takes_listed, on_ok_map}
use Rattle.cc_command.proofs.fleet.list_vars.Goals as goal

pub returns-in_err-capture-clause-refused : goal.returns-in_err-capture-clause-refused
returns-in_err-capture-clause-refused g c =
    let p = err_from_is_err_and c.from_residual-in_err-capture.result c.from_residual-in_err-capture.ensures.1 in
    rw (p.1, p.2) c.in_err-capture.ensures.outcome

pub returns-clause-listed : goal.returns-clause-listed
returns-clause-listed g c =
    on_ok_map c.take_vars.result (λ is. takes_listed _ _ _ (members_seen c.args.members.now.items) (members_seen c.take_vars.new.members.items) c.vars.result.now c.in_ok-capture.ensures.captured (c.vars.ensures.vars ∙ (c.inherited.ensures ∙ ap (λ e. e.inherited) c.environment.ensures)) is) c.take_vars.ensures.taken

pub returns-clause-refused : goal.returns-clause-refused
returns-clause-refused g c =
    IfErr-weaker c.take_vars.result _ _ (λ e is. inr (is, c.in_ok-capture.ensures.outcome)) c.take_vars.ensures.refused
