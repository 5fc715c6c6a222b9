use Rattle.std.proofs.Common.{rules}
use Rattle.cc_jobs.proofs.SharedLemmas.{looks, trades}
use Rattle.cc_jobs.proofs.shared.SharedPoolJobs.take.Goals as goal

pub load-seen-requires : goal.load-seen-requires
load-seen-requires c = (search rules, search rules, looks _ _ _ _)

pub compare_exchange-found-requires : goal.compare_exchange-found-requires
compare_exchange-found-requires c = (search rules, search rules, trades _ _ _ _ _ (search rules) (search rules))
