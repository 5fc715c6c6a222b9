use Rattle.std.proofs.Common.{◌≡◌, take}
use Rattle.cc_plan.specs.Libtool.{list_text}
use Rattle.cc_plan.proofs.libtool.list_text.Given as goal

-- the lines of the paths so far
abbrev pub invariant-loop-path : goal.invariant-loop-path
invariant-loop-path l = l.text ≡ list_text (take l.path-index l.paths)
