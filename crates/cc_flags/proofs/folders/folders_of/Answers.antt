use Rattle.std.proofs.lemmas.Iterator.Consumers.{map_from_collect}
use Rattle.std.proofs.lemmas.Iterator.Splits.{YieldsList-from_str_split}
use Rattle.std.proofs.lemmas.Result.{IfOk-at_ok}
use Rattle.std.proofs.Common.{lit<}
use Rattle.cc_flags.specs.Folders.{folders_of}
use Rattle.cc_flags.proofs.folders.folders_of.Goals as goal

pub returns : goal.returns
unfolding folders_of
returns c =
    let h = map_from_collect _ c.collect.ensures.ran (YieldsList-from_str_split 58 c.args.list.now (lit< tt) c.split.ensures.text c.split.ensures.has_more c.split.ensures.pattern) in
    IfOk-at_ok _ c.in_ok-folders.was h
