use Rattle.std.proofs.Common.{◌≡◌, Some, ◌∙◌, sym, ap}
use Rattle.std.specs.Option.{option_map}
use Rattle.cc_command.specs.Failing.{unwatched, failed_last}
use Rattle.cc_command.specs.Graphed.{failure_error}
use Rattle.cc_command.proofs.FailingLaws.{watched_apart}
use Rattle.cc_command.proofs.graph.find_failure.Goals as goal

pub returns-in_ok-failure_error-in-Some : goal.returns-in_ok-failure_error-in-Some
returns-in_ok-failure_error-in-Some g c =
    let same : failed_last (g.H.Host.log c.args.host.now) ≡ failed_last c.log.result.now = ap failed_last (sym c.log.ensures.events) ∙ ap (λ w. w.last) (watched_apart unwatched c.log.result.now) in
    ap Some c.in_ok-failure_error-in-Some.ensures ∙ ap (option_map failure_error) (sym c.in-Some.is ∙ c.in_ok-failure.ensures ∙ sym same)

pub returns-in-None : goal.returns-in-None
returns-in-None g c =
    let same : failed_last (g.H.Host.log c.args.host.now) ≡ failed_last c.log.result.now = ap failed_last (sym c.log.ensures.events) ∙ ap (λ w. w.last) (watched_apart unwatched c.log.result.now) in
    ap (option_map failure_error) (sym c.in-None.is ∙ c.in_ok-failure.ensures ∙ sym same)
