use Rattle.std.proofs.Common.{◌≡◌, ◌++◌, length}
use denote.Text.{Utf8}
use denote.Shadow.{shadow}
use Rattle.cc_flags.specs.AndroidNames.{replaced}
use Rattle.cc_flags.proofs.android.replaced.Given as goal

-- the text so far, and what is left with each needle replaced
abbrev pub invariant-loop-before : goal.invariant-loop-before
invariant-loop-before l = shadow (Utf8 l.rest) × (l.out ++ replaced l.needle l.to l.rest ≡ replaced l.needle l.to l.text)

abbrev pub decreases-loop-before : goal.decreases-loop-before
decreases-loop-before l = length l.rest
