-- The events of one child, one after another.
use Rattle.std.specs.Prelude.{◌≡◌, ◌<◌, ℕ, List, [], ◌∷◌, ◌==◌, if◌then◌else◌, count_by}
use Rattle.cc_host.specs.Children.{started_ids, running, unreads, IsFresh}
use Rattle.cc_host.specs.Part.{since}
use Rattle.cc_host.specs.declared.event.Event.{Event}
use Rattle.cc_host.specs.declared.event.Event.TheVariants.{Started, Heard, Unread, Ended, Abandoned}
use Rattle.cc_host.specs.declared.event.Start.TheVariants.{Child}

-- Where a child is: not started yet; it runs; it runs, and its standard error can't be read any more; closed, as it
-- ended or was abandoned; started by somebody else. Where its events come in another order it is amiss.
pub data Life : Type 0 where
  Unstarted : Life
  Runs : Life
  Unreadable : Life
  Closed : Life
  Foreign : Life
  Amiss : Life

-- it is started once
abbrev pub on_start : Life → Life
on_start Unstarted = Runs
on_start _ = Amiss

-- it gives a piece of its standard error only where that can be read
abbrev pub on_piece : Life → Life
on_piece Runs = Runs
on_piece Foreign = Foreign
on_piece _ = Amiss

-- its standard error can't be read any more
abbrev pub on_unread : Life → Life
on_unread Runs = Unreadable
on_unread Unreadable = Unreadable
on_unread Foreign = Foreign
on_unread _ = Amiss

-- it ends, or is abandoned, once
abbrev pub on_close : Life → Life
on_close Runs = Closed
on_close Unreadable = Closed
on_close Foreign = Foreign
on_close _ = Amiss

abbrev pub life_after : ℕ → Life → Event → Life
life_after id life (Started n role cmd pipes held) = if n == id then on_start life else life
life_after id life (Heard n piece) = if n == id then on_piece life else life
life_after id life (Unread n) = if n == id then on_unread life else life
life_after id life (Ended n status) = if n == id then on_close life else life
life_after id life (Abandoned n) = if n == id then on_close life else life
life_after id life _ = life

-- where the child of that id is after these events
abbrev pub life_from : ℕ → Life → List Event → Life
life_from id life [] = life
life_from id life (e ∷ es) = life_from id (life_after id life e) es

-- how often an id stands among these
abbrev pub times : ℕ → List ℕ → ℕ
times id = count_by (λ n. n == id)

-- a child by how often it was started, runs, and couldn't be read
abbrev pub IsBy : Life → ℕ → ℕ → ℕ → Type 0
IsBy Unstarted started runs unread = started ≡ 0
IsBy Runs started runs unread = (0 < started) × (runs ≡ 1)
IsBy Unreadable started runs unread = (0 < started) × (runs ≡ 1) × (0 < unread)
IsBy Closed started runs unread = (0 < started) × (runs ≡ 0)
IsBy Foreign started runs unread = 0 < started
IsBy Amiss started runs unread = ⊥

-- by its log, the child of that id is there
abbrev pub IsAt : List Event → ℕ → Life → Type 0
IsAt log id life = IsBy life (times id (started_ids log)) (times id (running log)) (times id (unreads log))

-- what a log grew by takes each child on, and none amiss
abbrev pub LivesOn : List Event → List Event → Type 0
LivesOn old new = (id : ℕ) (life : Life) → IsAt old id life → IsAt new id (life_from id life (since old new))

-- no child of that id was started before
abbrev pub IsNewcomer : List Event → ℕ → Type 0
IsNewcomer log id = IsFresh log (Child id)
