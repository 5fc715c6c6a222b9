use Rattle.std.proofs.Common.{None, find, take}
use Rattle.cc_host.specs.Question.{Settles}
use Rattle.cc_tool.specs.Plans.{says_yes}
use Rattle.cc_tool.specs.Seeking.{by_first}
use Rattle.cc_tool.proofs.seeking.first_shown.Given as goal

abbrev pub invariant-loop-place : goal.invariant-loop-place
invariant-loop-place l = Settles l.seen (λ look. find (says_yes by_first look) (take l.place l.pairs)) None
