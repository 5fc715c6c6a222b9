-- The run of the commands of all members.
use Rattle.std.specs.Prelude.{◌≡◌, ◌≤◌, ◌<◌, ℕ, List, [], ◌∷◌, ◌++◌, length, false, Option, None, Some, Result, Ok, Err, IfSome}
use Rattle.std.specs.List.{slice_index_or}
use Rattle.std.specs.Global.{Vec}
use Rattle.cc_host.specs.Call.{part}
use Rattle.cc_host.specs.declared.event.Event.{Event}
use Rattle.cc_host.specs.declared.event.OutputKind.TheVariants.{Discard}
use Rattle.cc_run.specs.Children.{nothing_kept}
use Rattle.cc_run.specs.Printing.{IsPrinted}
use Rattle.cc_run.specs.Whole.{RanAll}
use Rattle.cc_run.specs.declared.error.RunError.{RunError}
use Rattle.cc_run.specs.declared.error.RunError.TheVariants.{Failed, NoMemory}
use Rattle.cc_run.specs.declared.mark.Mark.{Mark}
use Rattle.cc_run.specs.declared.mark.Mark.TheVariants.{Over}
use Rattle.cc_run.specs.declared.planned.Planned.{Planned}
use Rattle.cc_build.specs.Course.{Course}
use Rattle.cc_build.specs.Error.{ErrorSeen, no_memory}
use Rattle.cc_build.specs.RunErrors.{run_error}
use Rattle.cc_build.specs.Went.{Terms, Means, IsOf, RanOne, terms, means, beside_rules, begins, idle_seat, turns_at}
use Rattle.cc_run.specs.declared.planned.Shows.{Shows}
use Rattle.cc_fleet.specs.Failures.{Failure, failure_of}
use Rattle.cc_fleet.specs.declared.joined.Joined.{Joined}

-- several commands were run beside each other, as a list, and these are the marks of what began and ended
pub record RanSeveral (t : Terms) (ps : List Planned) (part : List Event) (answer : Result (List Mark) RunError)
    (x y : Means) : Type 0 where
  pub log : List Event
  pub before : ℕ
  pub behind : ℕ
  pub least : IfSome t.patience (λ most. 1 ≤ most)
  pub run : RanAll (beside_rules t ps) t.total (begins t log (idle_seat t.total x) (turns_at x before)) answer
      (log ++ part) t.patience (idle_seat t.total y) (turns_at y behind)
  pub lines : IsPrinted (beside_rules t ps) nothing_kept answer part

-- of one that is run alone it only counts whether it failed
abbrev pub marks_of : Result (Unit {0}) RunError → Result (List Mark) RunError
marks_of (Ok done) = Ok []
marks_of (Err (Failed place status)) = Ok (Over 0 status ∷ [])
marks_of (Err error) = Err error

-- commands were run: several beside each other, one alone, and without any nothing is done
abbrev pub RanJoined : Terms → List Planned → List Event → Result (List Mark) RunError → Means → Means → Type 0
RanJoined t [] part answer x y = (part ≡ []) × (answer ≡ Ok []) × (y ≡ x)
RanJoined t (p ∷ []) part answer x y =
    (own : Result (Unit {0}) RunError) × (RanOne t p part own x y × (answer ≡ marks_of own))
RanJoined t (p ∷ q ∷ ps) part answer x y = RanSeveral t (p ∷ q ∷ ps) part answer x y

-- ---- what is answered

-- for each member the last of its commands that failed
pub record AreFailures (all : Joined) (marks : List Mark) (failures : List (Option Failure)) : Type 0 where
  pub size : length failures ≡ length all.objects.items
  pub each : (member : ℕ) → member < length all.objects.items
      → slice_index_or failures member None ≡ failure_of all.owners.items marks member

-- the commands were run to their ends, and these are the failures
pub record RanTo (t : Terms) (cmds : List Planned) (all : Joined) (failures : List (Option Failure))
    (part : List Event) (x y : Means) : Type 0 where
  pub marks : List Mark
  pub ran : RanJoined t cmds part (Ok marks) x y
  pub are : AreFailures all marks failures

-- the run was refused with this error, or memory was wanted behind it
abbrev pub IsRefusal : RunError → Result (List Mark) RunError → Type 0
IsRefusal e (Ok marks) = e ≡ NoMemory
IsRefusal e (Err error) = error ≡ e

-- as they were found, or memory was wanted
abbrev pub FailuresBy : Joined → List Mark → Result (Vec (Option Failure)) RunError → Type 0
FailuresBy all marks (Ok failures) = AreFailures all marks failures.items
FailuresBy all marks (Err e) = e ≡ NoMemory

-- the same of a run that answered so
abbrev pub FailuresAfter : Joined → Result (List Mark) RunError → Result (Vec (Option Failure)) RunError → Type 0
FailuresAfter all (Ok marks) answer = FailuresBy all marks answer
FailuresAfter all (Err e) answer = answer ≡ Err e

abbrev pub RunsTo : Terms → List Planned → Joined → Result (Vec (Option Failure)) RunError → List Event → Means
    → Means → Type 0
RunsTo t cmds all (Ok failures) part x y = RanTo t cmds all failures.items part x y
RunsTo t cmds all (Err e) part x y =
    (answer : Result (List Mark) RunError) × (RanJoined t cmds part answer x y × IsRefusal e answer)

-- this command was run alone, without a token, whatever the pool and its seat
abbrev pub RunsAlone : {X : Type 0} → (X → List Event) → (X → Option ℕ) → ℕ → ℕ → X → X → Shows → Planned → Joined
    → Result (Vec (Option Failure)) RunError → Type 0
RunsAlone log patience given left host host' shows cmd all answer = (total : Option ℕ) (faults taken load : ℕ)
    → RunsTo (terms shows total (patience host)) (cmd ∷ []) all answer (part log host host')
    (means given faults taken load) (means left faults taken load)

-- several were run in this course
abbrev pub RunsBeside : Shows → Joined → Result (Vec (Option Failure)) RunError → List Event → Course → Type 0
RunsBeside shows all (Ok failures) part c = (marks : List Mark)
    × (RanSeveral (terms shows c.total c.patience) all.commands.items part (Ok marks) c.before c.after
    × AreFailures all marks failures.items)
RunsBeside shows all (Err e) part c = (answer : Result (List Mark) RunError)
    × (RanSeveral (terms shows c.total c.patience) all.commands.items part answer c.before c.after × IsRefusal e answer)

-- so many as there are
abbrev pub RunsAll : Shows → Joined → Result (Vec (Option Failure)) RunError → List Event → Course → Type 0
RunsAll shows all answer part c =
    RunsTo (terms shows c.total c.patience) all.commands.items all answer part c.before c.after

-- why a run ended the call: it was refused, or memory was wanted behind it
abbrev pub StopsRun : List Planned → Result (List Mark) RunError → ErrorSeen → Type 0
StopsRun cmds (Ok marks) e = e ≡ no_memory
StopsRun cmds (Err error) e = IsOf (run_error cmds error) e

-- the same, with the error of a build
abbrev pub RunEnds : Terms → Joined → Result (Vec (Option Failure)) ErrorSeen → List Event → Means → Means → Type 0
RunEnds t all (Ok failures) part x y = RanTo t all.commands.items all failures.items part x y
RunEnds t all (Err e) part x y = (answer : Result (List Mark) RunError)
    × (RanJoined t all.commands.items part answer x y × StopsRun all.commands.items answer e)

-- what is shown is what the first member shows, and no failure stops another command; without a member nothing is
abbrev pub shown_by : Option Shows → Shows
shown_by None = record { warnings = false; debug = false; out = Discard; listens = false; stop = false }
shown_by (Some shows) = record shows { stop = false }

-- the same of a call in this course
abbrev pub RunsOn : Joined → Result (Vec (Option Failure)) ErrorSeen → List Event → Course → Type 0
RunsOn all answer part c = RunEnds (terms (shown_by all.shows) c.total c.patience) all answer part c.before c.after
