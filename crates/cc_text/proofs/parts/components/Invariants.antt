use Rattle.std.proofs.Common.{◌≡◌, ◌++◌, map}
use Rattle.std.specs.Path.{path_components, components_remaining}
use Rattle.cc_text.specs.Components.{component_of}
use Rattle.cc_text.proofs.parts.components.Given as goal

-- the components so far, and those of what is left
abbrev pub invariant-loop-part : goal.invariant-loop-part
invariant-loop-part l = l.parts.items ++ map component_of (components_remaining l.part-iterator) ≡ map component_of (path_components l.path)
