-- The children of a log: those that were started, those that run, and how often each was polled.
use Rattle.std.specs.Prelude.{◌≡◌, ◌<◌, ◌⊎◌, ℕ, ◌+◌, List, [], ◌∷◌, ◌++◌, ◌==◌, length, map, Option, Some, None, if◌then◌else◌}
use Rattle.std.specs.List.{flat_map, All, Contains}
use Rattle.cc_host.specs.declared.event.Event.{Event}
use Rattle.cc_host.specs.declared.event.Event.TheVariants.{Started, Ended, Abandoned, Unread, Turn}
use Rattle.cc_host.specs.declared.event.News.{News}
use Rattle.cc_host.specs.declared.event.Start.{Start}
use Rattle.cc_host.specs.declared.event.Start.TheVariants.{Child, Missing as Absent}

abbrev pub id_of : Event → List ℕ
id_of (Started id role cmd pipes held) = id ∷ []
id_of _ = []

-- the ids of the children that were started, in order
abbrev pub started_ids : List Event → List ℕ
started_ids = flat_map id_of

-- ids are drawn upwards from 0 and never again
abbrev pub IsFresh : List Event → Start → Type 0
IsFresh log (Child id) = (id ≡ length (started_ids log)) × All (λ n. n < id) (started_ids log)
IsFresh log Absent = Unit {0}

-- a child that runs: its id, and how many turns were made since it was started
pub record Live : Type 0 where
  pub id : ℕ
  pub polls : ℕ

abbrev pub polled : ℕ → Live → Live
polled count child = record { id = child.id; polls = child.polls + count }

-- the children without the first of that id
abbrev pub without : ℕ → List Live → List Live
without id [] = []
without id (c ∷ cs) = if c.id == id then cs else c ∷ without id cs

abbrev pub live_after : List Live → Event → List Live
live_after live (Started id role cmd pipes held) = live ++ record { id = id; polls = 0 } ∷ []
live_after live (Ended id status) = without id live
live_after live (Abandoned id) = without id live
live_after live (Turn count) = map (polled count) live
live_after live _ = live

-- the children that run after these events, in start order
abbrev pub live_from : List Live → List Event → List Live
live_from live [] = live
live_from live (e ∷ es) = live_from (live_after live e) es

abbrev pub live : List Event → List Live
live = live_from []

-- the ids of the children that run, in start order
abbrev pub running : List Event → List ℕ
running log = map (λ c. c.id) (live log)

abbrev pub unread_of : Event → List ℕ
unread_of (Unread id) = id ∷ []
unread_of _ = []

-- the children whose standard error failed to be read
abbrev pub unreads : List Event → List ℕ
unreads = flat_map unread_of

-- these ids stand among those, in the same order
abbrev pub InOrder : List ℕ → List ℕ → Type 0
InOrder [] ids = Unit {0}
InOrder (n ∷ ns) [] = ⊥
InOrder (n ∷ ns) (id ∷ ids) = ((n ≡ id) × InOrder ns ids) ⊎ InOrder (n ∷ ns) ids

-- a piece isn't empty, and none comes after the standard error failed to be read
abbrev pub IsPiece : List Event → News → Option (List ℕ) → Type 0
IsPiece log news None = Unit {0}
IsPiece log news (Some piece) = (piece ≡ [] → ⊥) × (Contains (unreads log) news.id → ⊥)

-- the news of a turn are of children that run, at most one item each, in start order
pub record IsNews (log : List Event) (news : List News) : Type 0 where
  pub own : InOrder (map (λ n. n.id) news) (running log)
  pub pieces : All (λ n. IsPiece log n n.piece) news

-- where patience is known, each child that runs was polled fewer times than that
abbrev pub Waits : Option ℕ → List Event → Type 0
Waits None log = Unit {0}
Waits (Some most) log = All (λ c. c.polls < most) (live log)
