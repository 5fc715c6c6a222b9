use Rattle.std.proofs.Common.{map, take}
use Rattle.cc_host.specs.Question.{Settles}
use Rattle.cc_tool.proofs.verdicts.verdicts_of.Given as goal

abbrev pub invariant-loop-place : goal.invariant-loop-place
invariant-loop-place l = Settles l.seen (λ look. map look (take l.place l.questions.items)) l.verdicts
