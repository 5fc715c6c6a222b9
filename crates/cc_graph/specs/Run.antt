-- What a run of commands with prerequisites leaves.
use Rattle.std.specs.Prelude.{◌≡◌, ◌<◌, ◌++◌, ℕ, List, [], ◌∷◌, length, not, true, Result, Ok, Err, Option, None, Some}
use Rattle.std.specs.List.{list_all, Contains, slice_get}
use Rattle.cc_host.specs.Command.{CommandSeen}
use Rattle.cc_host.specs.declared.event.Event.{Event}
use Rattle.cc_host.specs.declared.event.Event.TheVariants.{Started}
use Rattle.cc_host.specs.declared.event.Pipes.{Pipes}
use Rattle.cc_host.specs.declared.event.Role.{Role}
use Rattle.cc_host.specs.declared.event.Status.{Status}
use Rattle.cc_run.specs.Children.{nothing_kept}
use Rattle.cc_run.specs.Follows.{Follows}
use Rattle.cc_run.specs.Marks.{has_begun, has_succeeded}
use Rattle.cc_run.specs.Part.{Along}
use Rattle.cc_run.specs.Printing.{IsPrinted}
use Rattle.cc_run.specs.Rules.{Rules}
use Rattle.cc_run.specs.Run.{nothing, run_from}
use Rattle.cc_run.specs.Seat.{SeatSeen}
use Rattle.cc_run.specs.State.{State, state}
use Rattle.cc_run.specs.Whole.{RanAll}
use Rattle.cc_run.specs.declared.error.RunError.{RunError}
use Rattle.cc_run.specs.declared.error.RunError.TheVariants.{TurnsSpent, NoMemory as WantsMemory}
use Rattle.cc_run.specs.declared.mark.Mark.{Mark}
use Rattle.cc_run.specs.declared.mark.Mark.TheVariants.{Over}
use Rattle.cc_run.specs.declared.planned.Turns.{Turns as TurnsSeen}
use Rattle.cc_graph.specs.Ends.{ends_of, went_well, is_skipped, end_at}
use Rattle.cc_graph.specs.Graph.{Graph, graph_of, needs_of, off, IsOrder, IsCycle}
use Rattle.cc_graph.specs.declared.ends.NodeEnd.{NodeEnd}
use Rattle.cc_graph.specs.declared.ends.NodeEnd.TheVariants.{Ended}
use Rattle.cc_graph.specs.declared.error.GraphError.{GraphError}
use Rattle.cc_graph.specs.declared.error.GraphError.TheVariants.{OutOfRange, Cycle, Run, NoMemory}
use Rattle.cc_graph.specs.declared.node.Node.{Node}

-- ---- why there is an answer

-- each need is a place, and there is an order
abbrev pub HasOrder : Graph → Type 0
HasOrder g = (off g ≡ None) × ((order : List ℕ) × IsOrder g order)

-- commands are run only in an order
abbrev pub IsChecked : Graph → Result (List NodeEnd) GraphError → Type 0
IsChecked g (Ok ends) = HasOrder g
IsChecked g (Err (OutOfRange node need)) = off g ≡ Some (node, need)
IsChecked g (Err (Cycle cycle)) = IsCycle g cycle × (off g ≡ None)
IsChecked g (Err (Run e)) = HasOrder g
IsChecked g (Err NoMemory) = Unit {0}

-- want of memory is one error
abbrev pub error_of : RunError → GraphError
error_of WantsMemory = NoMemory
error_of e = Run e

-- ---- what was done

-- the nodes were run as a queue, and each has the end that its command had
pub record RanWell (count : ℕ) (rules : Rules) (total : Option ℕ) (old : State) (ends : List NodeEnd)
    (log : List Event) (patience : Option ℕ) (seat : SeatSeen) (turns : TurnsSeen) : Type 0 where
  pub marks : List Mark
  pub ran : RanAll rules total old (Ok marks) log patience seat turns
  pub ends_are : ends ≡ ends_of count marks

-- nothing was done
pub record Untouched (old : State) (log : List Event) (patience : Option ℕ) (seat : SeatSeen)
    (turns : TurnsSeen) : Type 0 where
  pub same_log : log ≡ old.log
  pub same_patience : patience ≡ old.patience
  pub same_seat : seat ≡ old.seat
  pub same_turns : turns ≡ old.turns

-- so many nodes were run as a queue, but not where they have no order
abbrev pub RanGraph : ℕ → Rules → Option ℕ → State → Result (List NodeEnd) GraphError
    → List Event → Option ℕ → SeatSeen → TurnsSeen → Type 0
RanGraph count rules total old (Ok ends) log patience seat turns =
    RanWell count rules total old ends log patience seat turns
RanGraph count rules total old (Err (Run e)) log patience seat turns =
    RanAll rules total old (Err e) log patience seat turns
RanGraph count rules total old (Err NoMemory) log patience seat turns =
    RanAll rules total old (Err WantsMemory) log patience seat turns
RanGraph count rules total old (Err _) log patience seat turns = Untouched old log patience seat turns

-- the same, of a host, a seat and turns before and after a call
abbrev pub HasRunGraph : {X S : Type 0} → (X → List Event) → (X → Option ℕ) → (S → SeatSeen) → ℕ → Rules → Option ℕ
    → X → S → TurnsSeen → Result (List NodeEnd) GraphError → X → S → TurnsSeen → Type 0
HasRunGraph log patience seen count rules total host seat turns result host' seat' turns' =
    RanGraph count rules total (state log patience seen host nothing_kept seat turns) result
    (log host') (patience host') (seen seat') turns'

-- what was printed and said is as for any run; nothing, where there is no order
abbrev pub PrintsGraph : Rules → Result (List NodeEnd) GraphError → List Event → Type 0
PrintsGraph rules (Ok ends) part = IsPrinted {T = List NodeEnd} rules nothing_kept (Ok ends) part
PrintsGraph rules (Err (Run e)) part = IsPrinted {T = List NodeEnd} rules nothing_kept (Err e) part
PrintsGraph rules (Err NoMemory) part = IsPrinted {T = List NodeEnd} rules nothing_kept (Err WantsMemory) part
PrintsGraph rules (Err _) part = part ≡ []

-- it went well, or spent its turns, or wanted memory
abbrev pub EndsFairly : Result (List Mark) RunError → Type 0
EndsFairly (Ok marks) = Unit {0}
EndsFairly (Err TurnsSpent) = Unit {0}
EndsFairly (Err WantsMemory) = Unit {0}
EndsFairly (Err _) = ⊥

-- ---- a whole run

-- at each start of the part it is a node's command that starts, and all that the node needs had ended with 0
abbrev pub MeetsNeeds : List Node → Rules → List Event → Type 0
MeetsNeeds nodes rules part =
    (before after : List Event) (id : ℕ) (role : Role) (cmd : CommandSeen) (pipes : Pipes) (held : ℕ)
    → part ≡ before ++ Started id role cmd pipes held ∷ after
    → (p : ℕ) × ((node : Node) × ((slice_get nodes p ≡ Some node) × (node.cmd.cmd ≡ cmd)
    × (list_all (has_succeeded (run_from rules.plan nothing before).marks) node.needs ≡ true)))

-- Each event is good: what is started is the least node that is ready, and carries how many run. No node is started
-- twice, and each start follows the ends of its needs. A node that was started has the end that its command had, and
-- the others are skipped: exactly those of which a need was skipped or ended with another status than 0.
pub record GraphRun (nodes : List Node) (rules : Rules) (total : Option ℕ) (part : List Event)
    (ends : List NodeEnd) : Type 0 where
  pub good : Along rules total nothing part
  pub marks : List Mark
  pub follows : Follows rules.plan [] marks
  pub are : (run_from rules.plan nothing part).marks ≡ marks
  pub met : MeetsNeeds nodes rules part
  pub size : length ends ≡ length nodes
  pub told : (p : ℕ) → p < length nodes → has_begun marks p ≡ true
      → (status : Status) × ((end_at ends p ≡ Some (Ended status)) × Contains marks (Over p status))
  pub skips : (p : ℕ) → p < length nodes → is_skipped (end_at ends p) ≡ not (has_begun marks p)
  pub behind : (p : ℕ) → p < length nodes
      → is_skipped (end_at ends p) ≡ not (list_all (λ k. went_well (end_at ends k)) (needs_of (graph_of nodes) p))
