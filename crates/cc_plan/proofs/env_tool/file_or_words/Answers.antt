use Rattle.std.proofs.Common.{rules}
use Rattle.cc_plan.specs.EnvTool.{file_or_words}
use Rattle.cc_plan.proofs.PassBy.{by_ok, pass_by}
use Rattle.cc_plan.proofs.env_tool.file_or_words.Goals as goal

pub returns-in_ok-choice : goal.returns-in_ok-choice
unfolding file_or_words
returns-in_ok-choice c = by_ok _ _ c.in_ok-is_there.ensures (search rules) (search (pass_by, rules))
