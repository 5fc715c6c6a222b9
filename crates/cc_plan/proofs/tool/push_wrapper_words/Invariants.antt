use Rattle.std.proofs.Common.{◌≡◌, ◌++◌, take}
use Rattle.cc_plan.proofs.tool.push_wrapper_words.Given as goal

abbrev pub invariant-loop-word : goal.invariant-loop-word
invariant-loop-word l = l.tool ≡ record l.fn.tool { wrapper_words = l.fn.tool.wrapper_words ++ take l.word-index l.word-items }
