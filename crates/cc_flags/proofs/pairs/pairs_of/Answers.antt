use Rattle.std.proofs.Common.{ap, ◌∙◌}
use Rattle.cc_text.specs.Words.{texts}
use Rattle.cc_flags.specs.Pairs.{pairs, pairs_of}
use Rattle.cc_flags.proofs.PairLemmas.{goes_on, ends}
use Rattle.cc_flags.proofs.pairs.pairs_of.Goals as goal

pub loop-part-preserved : goal.loop-part-preserved
loop-part-preserved c = goes_on c.deref-part-items.result.now c.loop-part.part-index _ _ _ _ _ _ c.loop-part-test.true c.in_ok-pending.ensures c.loop-part.invariant

pub returns : goal.returns
unfolding pairs_of
returns c =
    ends c.deref-part-items.result.now c.loop-part.part-index _ _ _ c.loop-part-test.false c.loop-part.invariant
    ∙ ap (λ t. pairs (texts t)) c.deref-part-items.ensures.value ∙ ap pairs c.in_ok-parts.ensures
