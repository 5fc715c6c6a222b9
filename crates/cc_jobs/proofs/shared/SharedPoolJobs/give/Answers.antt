use Rattle.std.proofs.Common.{rules}
use Rattle.cc_jobs.proofs.SharedLemmas.{returns}
use Rattle.cc_jobs.proofs.shared.SharedPoolJobs.give.Goals as goal

pub fetch_add-requires : goal.fetch_add-requires
fetch_add-requires c = (search rules, search rules, returns _ _ _ _ (search rules))
