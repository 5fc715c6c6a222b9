use Rattle.std.proofs.Common.{rules}
use Rattle.cc_jobs.proofs.SharedLemmas.{at_most}
use Rattle.cc_jobs.proofs.shared.SharedPool.close.Goals as goal

pub returns : goal.returns
returns c = at_most _ _ _ _ _ _ c.args.seat.live c.close_with-closed.ensures.values.2 c.word-word.ensures
