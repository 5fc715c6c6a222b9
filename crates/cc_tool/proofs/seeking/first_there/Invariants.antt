use Rattle.std.proofs.Common.{None, find, take}
use Rattle.cc_host.specs.Question.{Settles, exists_question}
use Rattle.cc_tool.specs.Plans.{says_yes}
use Rattle.cc_tool.proofs.seeking.first_there.Given as goal

abbrev pub invariant-loop-place : goal.invariant-loop-place
invariant-loop-place l = Settles l.seen (λ look. find (says_yes exists_question look) (take l.place l.paths)) None
