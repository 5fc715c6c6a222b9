use Rattle.std.proofs.Common.{◌≡◌, ◌++◌, take}
use Rattle.cc_plan.proofs.tool.push_args.Given as goal

abbrev pub invariant-loop-word : goal.invariant-loop-word
invariant-loop-word l = l.tool ≡ record l.fn.tool { args = l.fn.tool.args ++ take l.word-index l.word-items }
