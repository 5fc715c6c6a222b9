use Rattle.std.proofs.Common.{rules}
use Rattle.cc_jobs.proofs.SharedLemmas.{joins}
use Rattle.cc_jobs.proofs.shared.SharedPool.join.Goals as goal

pub join_seat-requires : goal.join_seat-requires
join_seat-requires c = (search rules, search rules, search rules, search rules, joins _ _ _ _ _ (search rules))
