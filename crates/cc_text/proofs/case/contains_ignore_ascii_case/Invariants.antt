use Rattle.std.proofs.Common.{◌↔◌, length}
use Rattle.std.specs.Str.Iter.{HasSubslice}
use Rattle.cc_text.specs.Case.{lowered}
use Rattle.cc_text.proofs.case.contains_ignore_ascii_case.Given as goal

-- the needle stands in the text just where it stands in the rest
abbrev pub invariant-loop-needle : goal.invariant-loop-needle
invariant-loop-needle l = HasSubslice (lowered l.rest) (lowered l.needle) ↔ HasSubslice (lowered l.s) (lowered l.needle)

abbrev pub decreases-loop-needle : goal.decreases-loop-needle
decreases-loop-needle l = length l.rest
