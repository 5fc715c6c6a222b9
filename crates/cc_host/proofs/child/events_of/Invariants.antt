use Rattle.std.proofs.Common.{◌≡◌, take}
use Rattle.std.specs.List.{flat_map}
use Rattle.cc_host.specs.Event.{reported}
use Rattle.cc_host.proofs.child.events_of.Given as goal

abbrev pub invariant-loop-item : goal.invariant-loop-item
invariant-loop-item l = l.events.items ≡ flat_map reported (take l.item-index l.news)
