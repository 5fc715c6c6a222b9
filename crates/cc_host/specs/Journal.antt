-- The log of a host, with the places that it reserved.
use Rattle.std.specs.Prelude.{◌≡◌, ℕ, ◌+◌, ◌-◌, ◌^◌, ◌<◌, List, [], ◌∷◌, ◌++◌, length}
use Rattle.std.specs.List.{flat_map, slice_index_or}
use Rattle.cc_host.specs.declared.event.Event.{Event}
use Rattle.cc_host.specs.declared.event.Event.TheVariants.{Fault, Turn}
use Rattle.cc_host.specs.declared.event.HostCall.{HostCall}
use Rattle.cc_host.specs.declared.event.Why.{Why}
use Rattle.cc_host.specs.Calls.{plus_one}
use Rattle.cc_host.specs.Probe.{times, opens, drops}

-- what a journal is seen as: its events, turn by turn, how often its host failed, the children that keep a place, how many events
-- more have a place, and how many probe files more
pub record JournalSeen : Type 0 where
  pub log : List Event
  pub faults : ℕ
  pub children : ℕ
  pub places : ℕ
  pub probe_places : ℕ

-- these are the probe files that were made and not yet dropped
abbrev pub IsKept : List Event → List (List ℕ) → Type 0
IsKept log files = (path : List ℕ) → times path files + times path (drops log) ≡ times path (opens log)

abbrev pub turn_of : Event → List ℕ
turn_of (Turn count) = count ∷ []
turn_of _ = []

-- the turns among these events
abbrev pub turns : List Event → List ℕ
turns = flat_map turn_of

-- an event may stand behind another: a turn stands behind a turn only where that one's count is at its last value
abbrev pub MayFollow : Event → Event → Type 0
MayFollow (Turn count) (Turn more) = count ≡ 2 ^ 64 - 1
MayFollow _ _ = Unit {0}

-- turns one after another stand as one event
abbrev pub AreJoined : List Event → Type 0
AreJoined [] = Unit {0}
AreJoined (event ∷ []) = Unit {0}
AreJoined (event ∷ next ∷ events) = MayFollow event next × AreJoined (next ∷ events)

-- these events are of no probe file and no turn
abbrev pub IsQuiet : List Event → Type 0
IsQuiet events = (opens events ≡ []) × (drops events ≡ []) × (turns events ≡ [])

-- the path stands at this place
abbrev pub IsPlaceOf : List ℕ → List (List ℕ) → ℕ → Type 0
IsPlaceOf path files at = (at < length files) × (slice_index_or files at path ≡ path)

-- places were reserved, and nothing else
abbrev pub Reserves : JournalSeen → JournalSeen → Type 0
Reserves old new = new ≡ record old { places = new.places; probe_places = new.probe_places }

-- these events were added last
abbrev pub Adds : List Event → JournalSeen → JournalSeen → Type 0
Adds events old new = new ≡ record old { log = old.log ++ events; places = new.places }

-- these events were added last, and so many children keep a place now
abbrev pub AddsKeeping : ℕ → List Event → JournalSeen → JournalSeen → Type 0
AddsKeeping children events old new =
    new ≡ record old { log = old.log ++ events; children = children; places = new.places }

-- the event of a probe file was added last
abbrev pub AddsProbe : Event → JournalSeen → JournalSeen → Type 0
AddsProbe event old new =
    new ≡ record old { log = old.log ++ event ∷ []; places = new.places; probe_places = new.probe_places }

-- a fault was added last, and counted
abbrev pub AddsFault : HostCall → Why → JournalSeen → JournalSeen → Type 0
AddsFault call why old new =
    new ≡ record old { log = old.log ++ Fault call why ∷ []; faults = plus_one old.faults; places = new.places }
