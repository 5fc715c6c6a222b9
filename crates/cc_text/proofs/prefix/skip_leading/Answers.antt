use Rattle.std.proofs.Common.{◌+◌, ◌-◌, subst, arith}
use Rattle.std.specs.Str.{IsCharBoundary}
use Rattle.std.proofs.lemmas.Str.{IsCharBoundary-after_ascii}
use Rattle.cc_text.proofs.prefix.skip_leading.Goals as goal

pub range_from-requires : goal.range_from-requires
range_from-requires c =
    let text = c.args.text.now in
    let start = c.loop-start.start in
    λ some. subst (IsCharBoundary text) {x = (start - 1) + 1} {y = start} (omega arith) (IsCharBoundary-after_ascii text (start - 1) c.utf8.text (omega arith) (c.loop-start.invariant.2 some))
