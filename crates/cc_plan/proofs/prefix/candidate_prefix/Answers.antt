use Rattle.std.proofs.Common.{rules}
use Rattle.cc_plan.specs.Prefix.{candidate_prefix}
use Rattle.cc_plan.proofs.PassBy.{by_ok, pass_by}
use Rattle.cc_plan.proofs.prefix.candidate_prefix.Goals as goal

pub returns-in-Some : goal.returns-in-Some
unfolding candidate_prefix
returns-in-Some c = by_ok _ _ c.in_ok-candidate.ensures (search rules) (rw c.in-Some.is (search (pass_by, rules)))

pub returns : goal.returns
unfolding candidate_prefix
returns c = by_ok _ _ c.in_ok-candidate.ensures (search rules) (rw c.in-None.is (search (pass_by, rules)))
