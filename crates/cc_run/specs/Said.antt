-- The messages that were said.
use Rattle.std.specs.Prelude.{◌≡◌, false, List, [], ◌∷◌}
use Rattle.std.specs.List.{flat_map}
use Rattle.cc_host.specs.declared.event.Event.{Event}
use Rattle.cc_host.specs.declared.event.Event.TheVariants.{Said}
use Rattle.cc_host.specs.declared.event.Message.{Message}
use Rattle.cc_run.specs.declared.planned.Shows.{Shows}
use Rattle.cc_run.specs.declared.print.Notice.{Notice}
use Rattle.cc_run.specs.declared.print.Notice.TheVariants.{Told}

abbrev pub said_of : Event → List Message
said_of (Said message) = message ∷ []
said_of _ = []

-- the messages that were said, in order
abbrev pub said : List Event → List Message
said = flat_map said_of

abbrev pub told_of : Notice → List Message
told_of (Told message) = message ∷ []
told_of _ = []

-- the messages among these lines and messages
abbrev pub told : List Notice → List Message
told = flat_map told_of

-- nothing is said to a host that doesn't listen
abbrev pub SaysNone : Shows → List Event → Type 0
SaysNone shows part = shows.listens ≡ false → said part ≡ []
