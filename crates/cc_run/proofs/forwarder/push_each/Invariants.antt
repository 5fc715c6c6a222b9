use Rattle.std.proofs.Common.{◌≡◌, ◌++◌, take, map}
use Rattle.cc_run.proofs.forwarder.push_each.Given as goal

-- the lines so far
abbrev pub invariant-loop-part : goal.invariant-loop-part
invariant-loop-part l = l.lines.items ≡ l.fn.lines.items ++ map (λ p. p.now) (take l.part-index l.parts)
