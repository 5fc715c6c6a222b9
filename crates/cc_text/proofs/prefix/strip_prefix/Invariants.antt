use denote.Shadow.{shadow}
use denote.Text.{Utf8}
use Rattle.std.proofs.Common.{◌≡◌, length}
use Rattle.std.specs.Path.{path_components, components_remaining, trim_trailing}
use Rattle.cc_text.specs.Components.{from_component}
use Rattle.cc_text.proofs.prefix.strip_prefix.Given as goal

-- what is left, after as many components as the base has left
abbrev pub invariant-loop-part : goal.invariant-loop-part
invariant-loop-part l = (from_component (length (components_remaining l.part-iterator)) l.rest ≡ from_component (length (path_components l.base)) (trim_trailing l.path)) × shadow (Utf8 l.rest)
