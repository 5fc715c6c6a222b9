use Rattle.std.proofs.Common.{rules}
use Rattle.cc_jobs.proofs.SharedLemmas.{splits}
use Rattle.cc_jobs.proofs.shared.SharedPool.split.Goals as goal

pub split_seat-other-requires : goal.split_seat-other-requires
split_seat-other-requires c = (search rules, search rules, splits _ _ _)
