use Rattle.std.proofs.Common.{ℕ, List, ◌∷◌, [], subst}
use Rattle.std.proofs.lemmas.Result.{err_from_is_err_and}
use Rattle.cc_host.specs.Part.{since}
use Rattle.cc_host.specs.Part.Step.{Prints}
use Rattle.cc_host.specs.declared.event.LineKind.TheVariants.{Expanded}
use Rattle.cc_host.proofs.Parts.{since_since}
use Rattle.cc_build.specs.Course.{CallsEnd}
use Rattle.cc_command.proofs.ExpandedLaws.{unexpanding, expanding}
use Rattle.cc_command.proofs.expand.expand.Goals as goal

pub returns-in_err-output-clause-expanding : goal.returns-in_err-output-clause-expanding
returns-in_err-output-clause-expanding g c =
    let part = since (g.H.Host.log c.args.host.now) (g.H.Host.log c.try_expand.new.host) in
    let p = err_from_is_err_and c.from_residual.result c.from_residual.ensures.1 in
    rw (p.1, p.2)
    (unexpanding (g.H.Host.listens c.args.host.now) g.W.World.steady g.W.World.answer c.args.build.now part c.in_err-output.field-0.0 c.try_expand.ensures.asked c.try_expand.ensures.childless c.in_err-output.ensures.outcome)

pub returns-clause-expanding : goal.returns-clause-expanding
returns-clause-expanding g c =
    let old = g.H.Host.log c.args.host.now in
    let mid = g.H.Host.log c.try_expand.new.host in
    let new = g.H.Host.log c.print_bytes.new.host in
    expanding (g.H.Host.listens c.args.host.now) g.W.World.steady g.W.World.answer c.args.build.now c.requires.repeats c.in_ok-output.output (since old mid) (since mid new) (since old new) c.print_bytes.result
    (since_since old mid new c.try_expand.ensures.extends c.print_bytes.ensures.aside.extends) c.try_expand.ensures.asked c.try_expand.ensures.childless c.in_ok-output.ensures.outcome c.print_bytes.ensures.aside.asks_none
    (subst (λ (bytes : List ℕ). CallsEnd (Prints Expanded bytes ∷ []) (since mid new) c.print_bytes.result) c.as_slice.ensures c.print_bytes.ensures.outcome)
