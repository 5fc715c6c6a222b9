use Rattle.std.proofs.Common.{◌∙◌, ap₂, refl, ℕ, List, Option}
use Rattle.std.proofs.lemmas.Result.{err_from_is_err_and}
use Rattle.cc_host.specs.Command.{CommandSeen}
use Rattle.cc_host.specs.Part.{since}
use Rattle.cc_build.specs.Error.{no_memory}
use Rattle.cc_build.specs.Seen.{compiles_by}
use Rattle.cc_build.proofs.PlanningLaws.{commands_unopened, commands_wanting, commands_made}
use Rattle.cc_build.proofs.compiles.open_commands.Goals as goal

pub returns-in_err-here-clause-outcome : goal.returns-in_err-here-clause-outcome
returns-in_err-here-clause-outcome g c =
    let p = err_from_is_err_and c.from_residual.result c.from_residual.ensures.1 in
    let part = since (g.H.Host.log c.args.host.now) (g.H.Host.log c.open.new.host) in
    rw (p.1, p.2) (commands_unopened c.args.task.now c.args.plan.now c.args.objects.now part c.in_err-here.field-0.0 c.in_err-here.ensures.outcome)

pub returns-in_err-commands-clause-outcome : goal.returns-in_err-commands-clause-outcome
returns-in_err-commands-clause-outcome g c =
    let p = err_from_is_err_and c.from_residual-in_err-commands.result c.from_residual-in_err-commands.ensures.1 in
    let part = since (g.H.Host.log c.args.host.now) (g.H.Host.log c.open.new.host) in
    rw (p.1, p.2) (commands_wanting c.args.task.now c.args.plan.now c.args.objects.now c.in_ok-here.here part c.in_ok-here.ensures.outcome no_memory refl)

pub returns-clause-outcome : goal.returns-clause-outcome
returns-clause-outcome g c =
    let part = since (g.H.Host.log c.args.host.now) (g.H.Host.log c.open.new.host) in
    commands_made c.args.task.now c.args.plan.now c.args.objects.now c.in_ok-here.here part c.in_ok-here.ensures.outcome c.in_ok-commands.commands
    (c.in_ok-commands.ensures ∙ ap₂ (λ (folder : Option (List ℕ)) (cmds : List CommandSeen). compiles_by folder c.args.objects.now cmds) c.known.ensures c.as_slice-cmds.ensures.value)
