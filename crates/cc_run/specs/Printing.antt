-- The lines that a run prints and the messages that it says, read from its part.
use Rattle.std.specs.Prelude.{◌≡◌, ℕ, List, [], ◌∷◌, ◌++◌, take, map, Option, None, Some, Result, Ok, Err}
use Rattle.std.specs.List.{flat_map}
use Rattle.cc_host.specs.Command.{CommandSeen}
use Rattle.cc_host.specs.declared.event.Event.{Event}
use Rattle.cc_host.specs.declared.event.Event.TheVariants.{Started, Heard, Unread, Ended, Abandoned, Printed, Said}
use Rattle.cc_host.specs.declared.event.Pipes.{Pipes}
use Rattle.cc_host.specs.declared.event.Role.{Role}
use Rattle.cc_run.specs.Children.{Kept, seat, without_child}
use Rattle.cc_run.specs.Forwarded.{fed, emptied}
use Rattle.cc_run.specs.Hearing.{at_child, owed}
use Rattle.cc_run.specs.Plan.{Plan, next_place, next_planned}
use Rattle.cc_run.specs.Rules.{Rules}
use Rattle.cc_run.specs.Run.{Run, run_after, place_of, over}
use Rattle.cc_run.specs.Messages.{before, compiles}
use Rattle.cc_run.specs.Texts.{announced}
use Rattle.cc_run.specs.declared.mark.Mark.TheVariants.{Began}
use Rattle.cc_run.specs.declared.error.RunError.{RunError}
use Rattle.cc_run.specs.declared.error.RunError.TheVariants.{ToolNotFound, StartFault, HostFault, NoMemory}
use Rattle.cc_run.specs.declared.print.Notice.{Notice}
use Rattle.cc_run.specs.declared.print.Notice.TheVariants.{Shown, Told}

abbrev pub printed_of : Event → List Notice
printed_of (Printed kind bytes) = Shown kind bytes ∷ []
printed_of (Said message) = Told message ∷ []
printed_of _ = []

-- the lines that were printed and the messages that were said, in order
abbrev pub printed : List Event → List Notice
printed = flat_map printed_of

-- what is kept after the start of the command at a place, as the child of this id
abbrev pub with_child : ℕ → Option ℕ → Kept → Kept
with_child id None kept = kept
with_child id (Some p) kept = record {
  children = kept.children ++ record { id = id; place = p; rest = [] } ∷ [];
  marks = kept.marks ++ Began p ∷ [];
}

-- what is kept of a run after an event: its children, each with what it gave since its last line feed, and the marks
abbrev pub kept_after : Plan → Kept → Event → Kept
kept_after plan kept (Started id role cmd pipes held) = with_child id (next_place plan kept.marks) kept
kept_after plan kept (Heard id piece) = record kept { children = at_child id (fed piece) kept.children }
kept_after plan kept (Unread id) = record kept { children = at_child id emptied kept.children }
kept_after plan kept (Ended id status) = record {
  children = without_child id kept.children;
  marks = over status (place_of id (map seat kept.children)) kept.marks;
}
kept_after plan kept (Abandoned id) = record kept { children = without_child id kept.children }
kept_after plan kept _ = kept

abbrev pub kept_from : Plan → Kept → List Event → Kept
kept_from plan kept [] = kept
kept_from plan kept (e ∷ es) = kept_from plan (kept_after plan kept e) es

-- what an event gives: a start the line and the message before its command, news what the child wrote and how it ended
abbrev pub due : Rules → Kept → Event → List Notice
due rules kept (Started id role cmd pipes held) = announced rules.shows cmd
    ++ flat_map (compiles rules.shows) (next_planned rules.plan kept.marks)
due rules kept e = owed rules.shows rules.warns rules.plan.cmds kept.children e

-- what these events give, in order
abbrev pub due_from : Rules → Kept → List Event → List Notice
due_from rules kept [] = []
due_from rules kept (e ∷ es) = due rules kept e ++ due_from rules (kept_after rules.plan kept e) es

-- lines that each event gives to one who knows the run right before it
abbrev pub lines_along : Plan → (Run → Event → List Notice) → Run → List Event → List Notice
lines_along plan f r [] = []
lines_along plan f r (e ∷ es) = f r e ++ lines_along plan f (run_after plan r e) es

-- what comes before the next command, where one is left
abbrev pub next_lines : Rules → Kept → List Notice
next_lines rules kept = flat_map (before rules.shows) (next_planned rules.plan kept.marks)

-- what these events give, and what comes before the next command
abbrev pub due_next : Rules → Kept → List Event → List Notice
due_next rules kept part = due_from rules kept part ++ next_lines rules (kept_from rules.plan kept part)

-- What was printed and said, by the answer: all that the events give, with what comes before a command that couldn't be
-- started. Where a line, a message or memory was refused, the first of these.
abbrev pub PrintsAll : {T : Type 0} → Rules → Kept → Result T RunError → List Event → Type 0
PrintsAll rules kept (Ok _) part = printed part ≡ due_from rules kept part
PrintsAll rules kept (Err (ToolNotFound place)) part = printed part ≡ due_next rules kept part
PrintsAll rules kept (Err (StartFault place)) part = printed part ≡ due_next rules kept part
PrintsAll rules kept (Err (HostFault call why)) part = (count : ℕ)
    × (printed part ≡ take count (due_next rules kept part))
PrintsAll rules kept (Err NoMemory) part = (count : ℕ)
    × (printed part ≡ take count (due_next rules kept part))
PrintsAll rules kept (Err _) part = printed part ≡ due_from rules kept part

-- At each start of the part, all that the events before it give was printed and said, and what comes before its
-- command: so between two starts stands the message that the second one's command compiles, once.
unfoldable pub PrintsInTime : Rules → Kept → List Event → Type 0
PrintsInTime rules kept part =
    (front back : List Event) (id : ℕ) (role : Role) (cmd : CommandSeen) (pipes : Pipes) (held : ℕ)
    → part ≡ front ++ Started id role cmd pipes held ∷ back
    → printed front ≡ due_from rules kept (front ++ Started id role cmd pipes held ∷ [])

-- both: what was printed and said, and when
abbrev pub IsPrinted : {T : Type 0} → Rules → Kept → Result T RunError → List Event → Type 0
IsPrinted rules kept result part = PrintsAll rules kept result part × PrintsInTime rules kept part
