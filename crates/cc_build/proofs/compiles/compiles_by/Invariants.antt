use Rattle.std.proofs.Common.{◌≡◌, ◌++◌, drop}
use Rattle.std.specs.Option.{option_copied}
use Rattle.cc_build.specs.Seen.{compiles_by}
use Rattle.cc_build.proofs.compiles.compiles_by.Given as goal

-- the commands so far, and those of the rest
abbrev pub invariant-loop-place : goal.invariant-loop-place
invariant-loop-place l = l.planned.items ++ compiles_by (option_copied l.here) (drop l.place l.objects) (drop l.place l.cmds) ≡ compiles_by (option_copied l.here) l.objects l.cmds
