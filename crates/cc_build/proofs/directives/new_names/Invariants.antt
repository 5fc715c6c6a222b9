use Rattle.std.proofs.Common.{◌≡◌, Bool, List, length, take}
use Rattle.cc_build.specs.Way.{chosen}
use Rattle.cc_build.proofs.directives.new_names.Given as goal

-- each of the names so far was chosen or left out
abbrev pub invariant-loop-name : goal.invariant-loop-name
invariant-loop-name g l = (choices : List Bool) × ((length choices ≡ l.name-index) × (l.printed ≡ chosen choices (take l.name-index l.names)))
