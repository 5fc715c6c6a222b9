use Rattle.std.proofs.Common.{◌≡◌, ◌∙◌, ap, sym, reverse, Some}
use Rattle.std.specs.List.{find}
use Rattle.std.specs.Option.{option_copied}
use Rattle.cc_host.specs.Given.{is_answered, fits_question}
use Rattle.cc_host.proofs.GivenLemmas.{found_passes, carried}
use Rattle.cc_host.proofs.given.GivenList.outcome_of.Goals as goal

pub returns-in-Some-clause-answered : goal.returns-in-Some-clause-answered
returns-in-Some-clause-answered c =
    let found : find (fits_question c.args.q.now) (reverse c.self.inside.list.items) ≡ Some c.in-Some.given.now = ap (λ l. find (fits_question c.args.q.now) (reverse l)) (sym c.deref.ensures.value) ∙ sym c.last_given.ensures ∙ ap option_copied c.in-Some.is in
    carried c.try_clone.result c.in-Some.given.now.outcome c.try_clone.ensures (found_passes (λ g. is_answered g.outcome) (fits_question c.args.q.now) c.in-Some.given.now (reverse c.self.inside.list.items) c.self.invariant found)
