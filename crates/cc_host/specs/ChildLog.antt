-- The log of a host with the children that run: what a child does in a turn, and those that are left after it.
use Rattle.std.specs.Prelude.{◌≡◌, ◌≢◌, ◌<◌, ℕ, ◌+◌, pos, List, [], ◌∷◌, ◌++◌, length, map, filter, slice_get, Bool, false, ◌&&◌, ◌||◌, ◌==◌, nat_le, is_some, Option, Some, None, if◌then◌else◌}
use Rattle.std.specs.List.{flat_map, remove, Contains}
use Rattle.cc_host.specs.Calls.{plus_one}
use Rattle.cc_host.specs.Children.{Live, live, live_after, id_of, started_ids, unread_of, unreads}
use Rattle.cc_host.specs.Event.{apart}
use Rattle.cc_host.specs.Script.{script_at, is_met, turns_out}
use Rattle.cc_host.specs.declared.event.Event.{Event}
use Rattle.cc_host.specs.declared.event.Event.TheVariants.{Fault}
use Rattle.cc_host.specs.declared.event.HostCall.{HostCall}
use Rattle.cc_host.specs.declared.event.News.{News}
use Rattle.cc_host.specs.declared.event.Status.TheVariants.{Code}
use Rattle.cc_host.specs.declared.event.Why.{Why}
use Rattle.cc_host.specs.declared.script.Scripted.{Scripted}
use Rattle.cc_host.specs.declared.child.RunningChild.{RunningChild}

-- what the log knows of a child
abbrev pub live_of : RunningChild → Live
live_of child = record { id = child.id; polls = child.polls }

abbrev pub ids : List RunningChild → List ℕ
ids = map (λ k. k.id)

-- a piece that isn't empty
abbrev pub full : Option (List ℕ) → Option (List ℕ)
full None = None
full (Some []) = None
full (Some (b ∷ bs)) = Some (b ∷ bs)

-- the piece that a child gives next, where its standard error can be read
abbrev pub piece_next : RunningChild → Scripted → Option (List ℕ)
piece_next child script = if child.mute then None else full (slice_get script.script.pieces.items child.polls)

-- the standard error of a child fails to be read right after its pieces
abbrev pub unread_next : RunningChild → Scripted → Bool
unread_next child script = script.script.unread && (child.polls == length script.script.pieces.items)

-- a child ends at its turn at which its output is out, and which is late enough, where nothing is waited for any more
abbrev pub ends_next : RunningChild → Scripted → Bool
ends_next child script = nat_le (turns_out script) (child.polls + 1) && nat_le script.script.turns (child.polls + 1) && is_met script

-- a child without a script ends with 0 at its first turn
abbrev pub quiet_end : RunningChild → News
quiet_end child = record { id = child.id; piece = None; unread = false; ended = Some (Code (pos 0)) }

-- what a child does in its next turn
abbrev pub news_by : RunningChild → Option Scripted → News
news_by child None = quiet_end child
news_by child (Some script) = record { id = child.id; piece = piece_next child script; unread = unread_next child script; ended = if ends_next child script then Some script.script.status else None }

abbrev pub news_of : List Scripted → RunningChild → News
news_of scripts child = news_by child (script_at scripts child.place)

-- a child did something
abbrev pub has_news : News → Bool
has_news n = is_some n.piece || n.unread || is_some n.ended

-- what the children do in a turn
abbrev pub news_in : List Scripted → List RunningChild → List News
news_in scripts children = filter has_news (map (news_of scripts) children)

-- a child after a turn in which it did this, where it runs on
abbrev pub child_after : RunningChild → News → List RunningChild
child_after child n = if is_some n.ended then [] else record { id = child.id; polls = child.polls + 1; mute = child.mute || n.unread; place = child.place } ∷ []

-- the children that run on after a turn
abbrev pub left_in : List Scripted → List RunningChild → List RunningChild
left_in scripts = flat_map (λ k. child_after k (news_of scripts k))

-- the children without the first of that id
abbrev pub without_child : ℕ → List RunningChild → List RunningChild
without_child id [] = []
without_child id (k ∷ ks) = if k.id == id then ks else k ∷ without_child id ks

-- each of these is below n
abbrev pub Below : List ℕ → ℕ → Type 0
Below [] n = Unit {0}
Below (m ∷ ms) n = (m < n) × Below ms n

-- each of these is above n
abbrev pub Above : ℕ → List ℕ → Type 0
Above n [] = Unit {0}
Above n (m ∷ ms) = (n < m) × Above n ms

abbrev pub Rising : List ℕ → Type 0
Rising [] = Unit {0}
Rising (n ∷ ns) = Above n ns × Rising ns

-- a child whose standard error failed to be read is mute
abbrev pub Heeds : List ℕ → List RunningChild → Type 0
Heeds mutes [] = Unit {0}
Heeds mutes (k ∷ ks) = (k.mute ≡ false → Contains mutes k.id → ⊥) × Heeds mutes ks

-- an event that is of no child and no turn
abbrev pub IsIdle : Event → Type 0
IsIdle event = (apart event ≡ event ∷ []) × (id_of event ≡ []) × (unread_of event ≡ []) × ((l : List Live) → live_after l event ≡ l)

-- the children that run by the log are these, and their ids were drawn upwards from 0
pub record AreRunning (log : List Event) (next : ℕ) (children : List RunningChild) : Type 0 where
  pub run : live log ≡ map live_of children
  pub count : next ≡ length (started_ids log)
  pub drawn : Below (started_ids log) next
  pub rising : Rising (ids children)
  pub below : Below (ids children) next
  pub heard : Below (unreads log) next
  pub heeds : Heeds (unreads log) children

-- a child that was just started, with the place of its script
abbrev pub begun : ℕ → Option ℕ → RunningChild
begun id place = record { id = id; polls = 0; mute = false; place = place }

-- the piece that a child gives, where its standard error can be read
abbrev pub piece_by : Bool → List ℕ → Option (List ℕ)
piece_by mute bytes = if mute then None else full (Some bytes)

-- a piece, where there is one, isn't empty, and is of a child whose standard error can be read
abbrev pub IsPieceBy : Bool → Option (List ℕ) → Type 0
IsPieceBy mute None = Unit {0}
IsPieceBy mute (Some piece) = (piece ≢ []) × (mute ≡ false)

-- what each of these children did in a turn, one item for each in their order
abbrev pub AreTold : List RunningChild → List News → Type 0
AreTold [] [] = Unit {0}
AreTold [] (news ∷ told) = ⊥
AreTold (child ∷ children) [] = ⊥
AreTold (child ∷ children) (news ∷ told) =
    (news.id ≡ child.id) × IsPieceBy child.mute news.piece × AreTold children told

-- the children that run on after a turn in which each did what is told
abbrev pub left_by : List RunningChild → List News → List RunningChild
left_by [] told = []
left_by (child ∷ children) [] = []
left_by (child ∷ children) (news ∷ told) = child_after child news ++ left_by children told

-- the first child of that id is at this place
abbrev pub IsChildAt : ℕ → List RunningChild → ℕ → Type 0
IsChildAt id children at =
    (at < length children) × (without_child id children ≡ remove children at)

-- what the children of a host are seen as, with its log: its events, how often it failed, the children that run in start order, the
-- id of the next child, and how many events, probe files and children more have a place
pub record ChildLogSeen : Type 0 where
  pub log : List Event
  pub faults : ℕ
  pub children : List RunningChild
  pub next : ℕ
  pub places : ℕ
  pub probe_places : ℕ
  pub child_places : ℕ

-- places for probe files were reserved, and nothing else
abbrev pub Reserves : ChildLogSeen → ChildLogSeen → Type 0
Reserves old new = new ≡ record old { places = new.places; probe_places = new.probe_places }

-- places for a child were reserved, and nothing else
abbrev pub ReservesChild : ChildLogSeen → ChildLogSeen → Type 0
ReservesChild old new = new ≡ record old { places = new.places; child_places = new.child_places }

-- this event was added last
abbrev pub Adds : Event → ChildLogSeen → ChildLogSeen → Type 0
Adds event old new = new ≡ record old { log = old.log ++ event ∷ []; places = new.places }

-- the event of a probe file was added last
abbrev pub AddsProbe : Event → ChildLogSeen → ChildLogSeen → Type 0
AddsProbe event old new =
    new ≡ record old { log = old.log ++ event ∷ []; places = new.places; probe_places = new.probe_places }

-- a fault was added last, and counted
abbrev pub AddsFault : HostCall → Why → ChildLogSeen → ChildLogSeen → Type 0
AddsFault call why old new =
    new ≡ record old { log = old.log ++ Fault call why ∷ []; faults = plus_one old.faults; places = new.places }
