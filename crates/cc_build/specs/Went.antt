-- What a part says of the stages of a run.
use Rattle.std.specs.Prelude.{◌≡◌, ◌⊎◌, ◌≤◌, ℕ, Bool, true, false, List, [], ◌∷◌, ◌++◌, Option, Some, None, IfSome, is_some, Result, Ok, Err}
use Rattle.std.specs.List.{list_all}
use Rattle.cc_host.specs.Part.{step_of, Refuses}
use Rattle.cc_host.specs.declared.event.Event.{Event}
use Rattle.cc_run.specs.Children.{nothing_kept}
use Rattle.cc_run.specs.Listed.{listed_plan}
use Rattle.cc_run.specs.Output.{IsSilentRun}
use Rattle.cc_run.specs.Printing.{IsPrinted}
use Rattle.cc_run.specs.Rules.{Rules, rules, lone_rules}
use Rattle.cc_run.specs.Seat.{SeatSeen}
use Rattle.cc_run.specs.State.{State}
use Rattle.cc_run.specs.Whole.{RanList}
use Rattle.cc_run.specs.declared.error.RunError.{RunError}
use Rattle.cc_run.specs.declared.error.RunError.TheVariants.{ToolNotFound, Failed}
use Rattle.cc_run.specs.declared.planned.Planned.{Planned}
use Rattle.cc_run.specs.declared.planned.Shows.{Shows}
use Rattle.cc_run.specs.declared.planned.Turns.{Turns}
use Rattle.cc_tool.specs.Probing.{is_asked}
use Rattle.cc_build.specs.Error.{ErrorSeen, no_memory}
use Rattle.cc_build.specs.RunErrors.{run_error}
use Rattle.cc_build.specs.Stage.{Stage}
use Rattle.cc_build.specs.Stage.Stage.{Calls, Asks, Tries, RunsOne, RunsAll}
use Rattle.cc_build.specs.Stop.{stop_error}

-- what a run is given: what it shows, the total of its pool where one caller owns it, and the patience of its host
-- where it is known
pub record Terms : Type 0 where
  pub shows : Shows
  pub total : Option ℕ
  pub patience : Option ℕ

-- what a run uses up: the turns that are left, and the counts of its seat
pub record Means : Type 0 where
  pub left : ℕ
  pub faults : ℕ
  pub taken : ℕ
  pub load : ℕ

abbrev pub terms : Shows → Option ℕ → Option ℕ → Terms
terms shows total patience = record { shows = shows; total = total; patience = patience }

abbrev pub means : ℕ → ℕ → ℕ → ℕ → Means
means left faults taken load = record { left = left; faults = faults; taken = taken; load = load }

-- the rules by which commands run beside each other: each under a token, and a failure is warned of
abbrev pub beside_rules : Terms → List Planned → Rules
beside_rules t ps = rules (listed_plan t.shows.stop ps) t.shows

-- the rules by which a command runs alone: without a token, and a failure is no warning
abbrev pub alone_rules : Terms → Planned → Rules
alone_rules t p = lone_rules (listed_plan false (p ∷ [])) t.shows

-- a seat that holds nothing, with these counts
abbrev pub idle_seat : Option ℕ → Means → SeatSeen
idle_seat total x = record { held = 0; total = total; taken = x.taken; load = x.load; faults = x.faults }

-- the turns that are left, and how many were made
abbrev pub turns_at : Means → ℕ → Turns
turns_at x used = record { left = x.left; used = used }

-- a run of which nothing was started
abbrev pub begins : Terms → List Event → SeatSeen → Turns → State
begins t log seat turns = record { log = log; patience = t.patience; kept = nothing_kept; seat = seat; turns = turns }

-- these commands were run beside each other, from a log on by this part, and the lines are those that its events give
pub record RanAll (t : Terms) (ps : List Planned) (part : List Event) (result : Result (Unit {0}) RunError)
    (x y : Means) : Type 0 where
  pub log : List Event
  pub before : ℕ
  pub behind : ℕ
  pub least : IfSome t.patience (λ most. 1 ≤ most)
  pub run : RanList (beside_rules t ps) t.total (begins t log (idle_seat t.total x) (turns_at x before)) result
      (log ++ part) t.patience
      (idle_seat t.total y) (turns_at y behind)
  pub lines : IsPrinted (beside_rules t ps) nothing_kept result part

-- this command was run alone, on a seat of a pool of one, which never fails
pub record RanOne (t : Terms) (p : Planned) (part : List Event) (result : Result (Unit {0}) RunError)
    (x y : Means) : Type 0 where
  pub log : List Event
  pub before : ℕ
  pub behind : ℕ
  pub old : SeatSeen
  pub new : SeatSeen
  pub sound : (old.faults ≡ 0) × (new.faults ≡ 0)
  pub least : IfSome t.patience (λ most. 1 ≤ most)
  pub run : RanList (alone_rules t p) (Some 1) (begins t log old (turns_at x before)) result
      (log ++ part) t.patience new (turns_at y behind)
  pub lines : IsPrinted (alone_rules t p) nothing_kept result part
  pub seat : (y.faults ≡ x.faults) × (y.taken ≡ x.taken) × (y.load ≡ x.load)

-- the command is missing, or it ended with another status than 0
abbrev pub is_refusal : RunError → Bool
is_refusal (ToolNotFound place) = true
is_refusal (Failed place status) = true
is_refusal _ = false

-- this command was run to its end, in one call of the host, and whether it was refused
abbrev pub Tried : Terms → Planned → Bool → List Event → Type 0
Tried t p false part = IsSilentRun t.shows p (Ok tt) part
Tried t p true part = (error : RunError) × ((is_refusal error ≡ true) × IsSilentRun t.shows p (Err error) part)

-- the part did this stage
abbrev pub Did : Terms → Stage → List Event → Means → Means → Type 0
Did t (Calls step) part x y = (event : Event) × ((part ≡ event ∷ []) × (step_of event ≡ step ∷ []) × (y ≡ x))
Did t Asks part x y = (list_all is_asked part ≡ true) × (y ≡ x)
Did t (Tries refused p) part x y = Tried t p refused part × (y ≡ x)
Did t (RunsOne p) part x y = RanOne t p part (Ok tt) x y
Did t (RunsAll ps) part x y = RanAll t ps part (Ok tt) x y

-- the part did these stages, one after another
abbrev pub Went : Terms → List Stage → List Event → Means → Means → Type 0
Went t [] part x y = (part ≡ []) × (y ≡ x)
Went t (s ∷ ss) part x z =
    (front rest : List Event) × (y : Means) × ((part ≡ front ++ rest) × Did t s front x y × Went t ss rest y z)

-- this is the error, or memory for its texts was wanted
abbrev pub IsOf : ErrorSeen → ErrorSeen → Type 0
IsOf is e = (e ≡ no_memory) ⊎ (e ≡ is)

-- The part refused this stage. Questions are refused for want of memory alone.
abbrev pub Stops : Terms → Stage → List Event → ErrorSeen → Means → Means → Type 0
Stops t (Calls step) part e x y =
    (event : Event) × ((part ≡ event ∷ []) × Refuses step event × IsOf (stop_error step event) e × (y ≡ x))
Stops t Asks part e x y = (e ≡ no_memory) × (list_all is_asked part ≡ true) × (y ≡ x)
Stops t (Tries refused p) part e x y =
    (error : RunError)
    × ((is_refusal error ≡ false) × IsSilentRun t.shows p (Err error) part × IsOf (run_error (p ∷ []) error) e
    × (y ≡ x))
Stops t (RunsOne p) part e x y =
    (error : RunError) × (RanOne t p part (Err error) x y × IsOf (run_error (p ∷ []) error) e)
Stops t (RunsAll ps) part e x y = (error : RunError) × (RanAll t ps part (Err error) x y × IsOf (run_error ps error) e)

-- The run ended before these stages, since memory was wanted, or the first of them was refused. Behind the last one it
-- ended since the settings are refused.
abbrev pub Halts : Terms → Option ErrorSeen → List Stage → List Event → ErrorSeen → Means → Means → Type 0
Halts t refusal [] part e x y =
    ((e ≡ no_memory) ⊎ (refusal ≡ Some e)) × (part ≡ []) × (y ≡ x) × (is_some refusal ≡ true)
Halts t refusal (s ∷ ss) part e x y = ((e ≡ no_memory) × (part ≡ []) × (y ≡ x)) ⊎ Stops t s part e x y

-- the first stages were done, and there the run ended
pub record Halted (t : Terms) (refusal : Option ErrorSeen) (stages : List Stage) (part : List Event)
    (e : ErrorSeen) (x z : Means) : Type 0 where
  pub before : List Stage
  pub after : List Stage
  pub front : List Event
  pub rest : List Event
  pub y : Means
  pub stages_are : stages ≡ before ++ after
  pub cut : part ≡ front ++ rest
  pub went : Went t before front x y
  pub halts : Halts t refusal after rest e y z

-- Ok: nothing is refused, and all stages were done. Else the first ones were, and the error has its cause.
abbrev pub Ends : {T : Type 0} → Terms → Option ErrorSeen → List Stage → List Event → Result T ErrorSeen → Means
    → Means → Type 0
Ends t refusal stages part (Ok _) x y = (refusal ≡ None) × Went t stages part x y
Ends t refusal stages part (Err e) x y = Halted t refusal stages part e x y

-- the first of these stages were done, and the next one was refused, or not begun
abbrev pub Partly : Terms → List Stage → List Event → Means → Means → Type 0
Partly t [] part x z = (part ≡ []) × (z ≡ x)
Partly t (s ∷ ss) part x z =
    ((part ≡ []) × (z ≡ x))
    ⊎ (((e : ErrorSeen) × Stops t s part e x z)
    ⊎ ((front rest : List Event) × (y : Means)
    × ((part ≡ front ++ rest) × Did t s front x y × Partly t ss rest y z)))

-- the same, from and to whatever is left
abbrev pub Goes : Terms → List Stage → List Event → Type 0
Goes t stages part = (x y : Means) × Went t stages part x y
