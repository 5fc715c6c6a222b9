use Rattle.std.proofs.Common.{◌≡◌, ◌++◌}
use Rattle.std.specs.Path.{path_components}
use Rattle.std.specs.Path.Iter.{path_iter_remaining}
use Rattle.cc_fleet.specs.Clash.{key_of as key_by}
use Rattle.cc_fleet.proofs.clash.key_of.Given as goal

-- the key so far, and that of the components that are left
abbrev pub invariant-loop-component : goal.invariant-loop-component
invariant-loop-component l = l.key ++ key_by (path_iter_remaining l.component-iterator) ≡ key_by (path_components l.path)
