use Rattle.std.proofs.Common.{rules, tests}
use Rattle.std.proofs.lemmas.Iterator.Consumers.{map_from_collect}
use Rattle.std.proofs.lemmas.Iterator.Splits.{YieldsList-from_slice_split}
use Rattle.std.proofs.lemmas.Result.{IfOk-at_ok}
use Rattle.cc_run.specs.Lines.{is_feed}
use Rattle.cc_run.proofs.forwarder.pieces_of.Goals as goal

pub returns : goal.returns
returns c =
    let h = map_from_collect _ c.collect.ensures.ran (YieldsList-from_slice_split _ is_feed c.args.text.now c.split.ensures.rest c.split.ensures.done c.split.ensures.closure (λ x r q k. search (rules, tests))) in
    IfOk-at_ok _ c.in_ok-parts.was h
