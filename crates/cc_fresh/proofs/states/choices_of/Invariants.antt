use Rattle.std.proofs.Common.{◌≡◌, map, take}
use Rattle.cc_fresh.specs.Choice.{is_compiled}
use Rattle.cc_fresh.proofs.states.choices_of.Given as goal

-- those of the reasons so far
abbrev pub invariant-loop-reason : goal.invariant-loop-reason
invariant-loop-reason l = l.choices.items ≡ map is_compiled (take l.reason-index l.reasons)
