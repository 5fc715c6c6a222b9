use Rattle.std.proofs.Common.{rules}
use Rattle.cc_plan.specs.Prefix.{gnu_prefix}
use Rattle.cc_plan.proofs.PassBy.{by_ok, by_try}
use Rattle.cc_plan.proofs.prefix.prefix_for.Goals as goal

pub returns-in_err-note_name : goal.returns-in_err-note_name
unfolding gnu_prefix
returns-in_err-note_name c = by_try _ _ c.from_residual.result c.in_err-note_name.ensures (search rules) c.from_residual.ensures.1

pub returns : goal.returns
unfolding gnu_prefix
returns c = by_ok _ _ c.in_ok-note_name.ensures (search rules) c.known_or_candidate.ensures
