-- What the news of a turn give, one after another: lines and messages.
use Rattle.std.specs.Prelude.{◌≡◌, ℕ, Bool, List, [], ◌∷◌, ◌++◌, ◌==◌, drop, take, flat_map, if◌then◌else◌, Option, None, Some, Result, OnOk}
use Rattle.std.specs.List.{slice_get}
use Rattle.cc_host.specs.Event.{heard, unread, reported}
use Rattle.cc_host.specs.declared.event.Event.{Event}
use Rattle.cc_host.specs.declared.event.Event.TheVariants.{Heard, Unread, Ended}
use Rattle.cc_host.specs.declared.event.News.{News}
use Rattle.cc_host.specs.declared.event.Status.{Status}
use Rattle.cc_run.specs.Children.{without_child}
use Rattle.cc_run.specs.Forwarded.{fed, emptied, heard_lines, unread_lines, ended_lines}
use Rattle.cc_run.specs.declared.planned.Planned.{Planned}
use Rattle.cc_run.specs.declared.planned.Shows.{Shows}
use Rattle.cc_run.specs.declared.print.Notice.{Notice}
use Rattle.cc_run.specs.declared.running.Child.{Child}

-- the first child of that id is changed
abbrev pub at_child : ℕ → (Child → Child) → List Child → List Child
at_child id f [] = []
at_child id f (c ∷ cs) = if c.id == id then f c ∷ cs else c ∷ at_child id f cs

-- the lines of the first child of that id
abbrev pub of_child : ℕ → (Child → List Notice) → List Child → List Notice
of_child id f [] = []
of_child id f (c ∷ cs) = if c.id == id then f c else of_child id f cs

-- the lines of a child, where there is one
abbrev pub of_some : (Child → List Notice) → Option Child → List Notice
of_some f None = []
of_some f (Some c) = f c

-- the children after an event
abbrev pub children_after : List Child → Event → List Child
children_after cs (Heard id piece) = at_child id (fed piece) cs
children_after cs (Unread id) = at_child id emptied cs
children_after cs (Ended id status) = without_child id cs
children_after cs _ = cs

abbrev pub children_from : List Child → List Event → List Child
children_from cs [] = cs
children_from cs (e ∷ es) = children_from (children_after cs e) es

-- the lines that a piece of a child ends, and those where it can't be read any more, by its command
abbrev pub heard_at : Shows → List Planned → List ℕ → Child → List Notice
heard_at shows cmds piece c = heard_lines shows (slice_get cmds c.place) c piece

abbrev pub unread_at : Shows → List Planned → Child → List Notice
unread_at shows cmds c = unread_lines shows (slice_get cmds c.place) c

-- the lines of the end of a child, by its command
abbrev pub end_lines : Shows → Bool → List Planned → Status → Child → List Notice
end_lines shows warns cmds status c =
    flat_map (λ p. ended_lines shows warns p status c) (take 1 (drop c.place cmds))

-- the lines that an event gives
abbrev pub owed : Shows → Bool → List Planned → List Child → Event → List Notice
owed shows warns cmds cs (Heard id piece) = of_child id (heard_at shows cmds piece) cs
owed shows warns cmds cs (Unread id) = of_child id (unread_at shows cmds) cs
owed shows warns cmds cs (Ended id status) = of_child id (end_lines shows warns cmds status) cs
owed shows warns cmds cs _ = []

-- the lines that these events give, in order
abbrev pub owed_from : Shows → Bool → List Planned → List Child → List Event → List Notice
owed_from shows warns cmds cs [] = []
owed_from shows warns cmds cs (e ∷ es) = owed shows warns cmds cs e
    ++ owed_from shows warns cmds (children_after cs e) es

-- what the news of a turn come to, as events
abbrev pub reports : List News → List Event
reports = flat_map reported

-- what a child wrote in a turn, as events
abbrev pub wrote : News → List Event
wrote news = heard news.id news.piece ++ unread news.id news.unread

-- on Ok the lines of these events were added, which are the same whether or not a failure is warned of
abbrev pub AddsWritten : {T E : Type 0} → Shows → List Planned → List Child → List Event → Result T E → List Notice
    → List Notice → Type 0
AddsWritten shows cmds cs events result old new =
    (warns : Bool) → OnOk result (new ≡ old ++ owed_from shows warns cmds cs events)
