use Rattle.std.proofs.Common.{◌≡◌, take}
use Rattle.cc_shim.specs.Shim.{lines}
use Rattle.cc_shim.proofs.words.lines.Given as goal

abbrev pub invariant-loop-word : goal.invariant-loop-word
invariant-loop-word l = l.text ≡ lines (take l.word-index l.words)
