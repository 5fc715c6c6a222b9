use Rattle.std.proofs.Common.{rules}
use Rattle.cc_plan.specs.EnvTool.{words_tool}
use Rattle.cc_plan.proofs.PassBy.{by_ok, by_done}
use Rattle.cc_plan.proofs.env_tool.words_tool.Goals as goal

pub returns : goal.returns
unfolding words_tool
returns c = by_ok _ _ c.in_ok-note_name.ensures (search rules) (by_done (search rules))
