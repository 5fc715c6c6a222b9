use Rattle.std.proofs.Common.{◌≡◌, ◌++◌, drop}
use Rattle.cc_flags.specs.Variables.{looked_at}
use Rattle.cc_flags.proofs.variables.looked_at.Given as goal

-- what was read so far, with what is looked at from here on, is all that is looked at
abbrev pub invariant-loop-name : goal.invariant-loop-name
invariant-loop-name l = l.read ++ looked_at l.env (drop l.name-index l.names) ≡ looked_at l.env l.names
