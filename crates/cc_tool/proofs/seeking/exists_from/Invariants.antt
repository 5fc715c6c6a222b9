use Rattle.std.proofs.Common.{◌≡◌, ◌++◌, map, drop}
use Rattle.cc_host.specs.Question.{exists_question}
use Rattle.cc_tool.proofs.seeking.exists_from.Given as goal

abbrev pub invariant-loop-place : goal.invariant-loop-place
invariant-loop-place l = l.questions.items ++ map exists_question (drop l.place l.paths) ≡ map exists_question (drop l.from l.paths)
