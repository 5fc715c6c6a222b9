-- Several builds under one pool: each is planned, their commands are run as one list, and libraries are written.
use Rattle.std.specs.Prelude.{◌≡◌, ◌⊎◌, ◌+◌, ℕ, suc, List, [], ◌∷◌, ◌++◌, map, Bool, true, false, Option, None, Some, Result, Ok, Err, IfOk, codes}
use Rattle.std.specs.Fmt.{decimal}
use Rattle.std.specs.List.{flat_map}
use Rattle.cc_host.specs.Question.{answers, Holds}
use Rattle.cc_host.specs.declared.event.Event.{Event}
use Rattle.cc_host.specs.declared.question.Outcome.{Outcome}
use Rattle.cc_host.specs.declared.question.Question.{Question}
use Rattle.cc_plan.specs.Archive.{paths_of}
use Rattle.cc_plan.specs.Plan.{objects_of, library_of}
use Rattle.cc_run.specs.Part.{turns}
use Rattle.cc_run.specs.declared.error.RunError.{RunError}
use Rattle.cc_run.specs.declared.error.RunError.TheVariants.{Failed}
use Rattle.cc_run.specs.declared.mark.Mark.{Mark}
use Rattle.cc_run.specs.declared.planned.Planned.{Planned}
use Rattle.cc_run.specs.declared.planned.Shows.{Shows}
use Rattle.cc_build.specs.Archiving.{with_objects, Creates}
use Rattle.cc_build.specs.Build.{BuildSeen, AsksByRun}
use Rattle.cc_build.specs.Course.{Course, OnCourse}
use Rattle.cc_build.specs.Error.{ErrorSeen, no_memory}
use Rattle.cc_build.specs.Linking.{DirectivesEnd}
use Rattle.cc_build.specs.Planning.{PlanningEnds}
use Rattle.cc_build.specs.RunErrors.{run_error}
use Rattle.cc_build.specs.Went.{Terms, Means, terms}
use Rattle.cc_build.specs.declared.error.ErrorKind.{ErrorKind}
use Rattle.cc_build.specs.declared.error.ErrorKind.TheVariants.{InvalidArgument, TurnsSpent, NoMemory}
use Rattle.cc_build.specs.declared.planning.CompilePlan.{CompilePlan}
use Rattle.cc_fleet.specs.Clash.{NoClash, IsFirstClash}
use Rattle.cc_fleet.specs.Failures.{Failure, owners_of, failure_of}
use Rattle.cc_fleet.specs.Joined.{Adds}
use Rattle.cc_fleet.specs.Run.{RanJoined, StopsRun, shown_by}
use Rattle.cc_fleet.specs.declared.joined.Joined.{Joined}
use Rattle.cc_fleet.specs.declared.members.FleetEnd.{FleetEnd}
use Rattle.cc_fleet.specs.declared.members.FleetEnd.TheVariants.{Built, Refused}
use Rattle.cc_fleet.specs.declared.members.Member.{Member}

-- a member: the name of its library, and its build
pub record MemberSeen : Type 0 where
  pub output : List ℕ
  pub build : BuildSeen

abbrev pub member_seen : {W : Type 0} → Member W → MemberSeen
member_seen m = record { output = m.output; build = m.build }

abbrev pub members_seen : {W : Type 0} → List (Member W) → List MemberSeen
members_seen = map member_seen

-- what is known of a host: whether its world is steady, each answer there, and its patience, where it is known
pub record Site : Type 0 where
  pub steady : Bool
  pub world : Question → Outcome
  pub patience : Option ℕ

abbrev pub site : Bool → (Question → Outcome) → Option ℕ → Site
site steady world patience = record { steady = steady; world = world; patience = patience }

-- ---- what members write

-- the paths of the objects of a member
abbrev pub objects_at : MemberSeen → List (List ℕ)
objects_at m = paths_of (objects_of m.build.config m.build.env)

-- the path of its library
abbrev pub library_at : MemberSeen → List ℕ
library_at m = library_of m.build.config m.build.env m.output

abbrev pub files_of : MemberSeen → List (List ℕ)
files_of m = objects_at m ++ library_at m ∷ []

-- the error of two members that write one file, by their places
abbrev pub clash_error : ℕ → ℕ → ErrorSeen
clash_error first second = record {
  kind = InvalidArgument;
  subject = [];
  message = codes "members " ++ (decimal first ++ (codes " and " ++ (decimal second ++ codes " write the same file")));
}

-- two members write one file, or memory was wanted
abbrev pub IsClash : List MemberSeen → ErrorSeen → Type 0
IsClash ms e = (e ≡ no_memory)
    ⊎ ((pair : ℕ × ℕ) × (IsFirstClash (map files_of ms) pair × (e ≡ clash_error pair.0 pair.1)))

-- ---- plans

-- the call that plans a member answered so, and this is its part; the host listens, or it doesn't
pub record IsPlanned (s : Site) (m : MemberSeen) (answer : Result CompilePlan ErrorSeen) (part : List Event)
    : Type 0 where
  pub listens : Bool
  pub asked : AsksByRun s.steady s.world m.build part
  pub ends : Holds (answers part) (λ look. PlanningEnds m.build listens m.output answer look part)

-- each member was planned, one after another
abbrev pub PlansEach : Site → List MemberSeen → List CompilePlan → List Event → Type 0
PlansEach s [] [] part = part ≡ []
PlansEach s (m ∷ ms) (p ∷ ps) part = (front rest : List Event)
    × ((part ≡ front ++ rest) × IsPlanned s m (Ok p) front × PlansEach s ms ps rest)
PlansEach s _ _ part = ⊥

-- the first members were planned, and then the plan of the next one was refused, or memory was wanted
abbrev pub PlansUntil : Site → List MemberSeen → ErrorSeen → List Event → Type 0
PlansUntil s [] e part = (e ≡ no_memory) × (part ≡ [])
PlansUntil s (m ∷ ms) e part = ((e ≡ no_memory) × (part ≡ []))
    ⊎ (IsPlanned s m (Err e) part
    ⊎ ((p : CompilePlan) × (front rest : List Event)
    × ((part ≡ front ++ rest) × IsPlanned s m (Ok p) front × PlansUntil s ms e rest)))

-- ---- the plans, put together

abbrev pub commands_of : CompilePlan → List Planned
commands_of plan = plan.commands.items

-- the commands of all members, in order
abbrev pub joined : List CompilePlan → List Planned
joined = flat_map commands_of

-- for each of them its member
abbrev pub owners : List CompilePlan → List ℕ
owners plans = owners_of (map commands_of plans)

-- the paths of the objects of a plan
abbrev pub objects_in : CompilePlan → List (List ℕ)
objects_in plan = paths_of plan.objects.items

-- what the first member shows
abbrev pub shown_first : List CompilePlan → Option Shows
shown_first [] = None
shown_first (plan ∷ plans) = Some plan.shows

-- these are the plans, put together
pub record Gathers (all : Joined) (plans : List CompilePlan) : Type 0 where
  pub commands_are : all.commands.items ≡ joined plans
  pub owners_are : all.owners.items ≡ owners plans
  pub objects_are : all.objects.items ≡ map objects_in plans
  pub shows_are : all.shows ≡ shown_first plans

-- one plan more
abbrev pub Joins : Joined → Joined → CompilePlan → Type 0
Joins old new plan = Adds old new plan.commands.items (objects_in plan) plan.shows

-- each member was planned, and these are the plans; or one was refused
abbrev pub PlansTo : Site → List MemberSeen → Result Joined ErrorSeen → List Event → Type 0
PlansTo s ms (Ok all) part = (plans : List CompilePlan) × (Gathers all plans × PlansEach s ms plans part)
PlansTo s ms (Err e) part = PlansUntil s ms e part

-- ---- libraries

-- the link lines come where the library was written
abbrev pub LinksBehind : Site → Bool → MemberSeen → Result (List ℕ) ErrorSeen → Result (Unit {0}) ErrorSeen
    → List Event → Type 0
LinksBehind s listens m (Err e) answer part = (answer ≡ Err e) × (part ≡ [])
LinksBehind s listens m (Ok library) answer part = AsksByRun s.steady s.world m.build part
    × Holds (answers part) (λ look. DirectivesEnd m.build listens library answer look part)

-- With so many turns the library of a member was written from the objects of its sources and the added ones, and then
-- its link lines were printed; or one of the two was refused. Each asks its own questions.
pub record Segment (s : Site) (m : MemberSeen) (answer : Result (Unit {0}) ErrorSeen) (part : List Event) (given : ℕ)
    : Type 0 where
  pub listens : Bool
  pub made : List Event
  pub linked : List Event
  pub cut : part ≡ made ++ linked
  pub written : Result (List ℕ) ErrorSeen
  pub path : IfOk written (λ path. path ≡ library_at m)
  pub made_asks : AsksByRun s.steady s.world (with_objects m.build (objects_at m)) made
  pub creates : Holds (answers made)
      (λ look. Creates (with_objects m.build (objects_at m)) listens s.patience given m.output written look made)
  pub links : LinksBehind s listens m written answer linked

-- want of turns and want of memory end the whole call
abbrev pub ends_call : ErrorKind → Bool
ends_call TurnsSpent = true
ends_call NoMemory = true
ends_call _ = false

-- what the answer of its library makes of a member
abbrev pub EndsBy : Result (Unit {0}) ErrorSeen → Result FleetEnd ErrorSeen → Type 0
EndsBy (Ok done) answer = answer ≡ Ok Built
EndsBy (Err e) (Ok end) = (end ≡ Refused e) × (ends_call e.kind ≡ false)
EndsBy (Err e) (Err error) = (error ≡ e) × (ends_call e.kind ≡ true)

-- What became of a member by its library, with so many turns given and left: it is built, or refused; or the refusal
-- ended the call.
abbrev pub EndsBuilt : Site → MemberSeen → Result FleetEnd ErrorSeen → List Event → ℕ → ℕ → Type 0
EndsBuilt s m (Ok Built) part given left = Segment s m (Ok tt) part given × (left + turns part ≡ given)
EndsBuilt s m (Ok (Refused e)) part given left =
    Segment s m (Err e) part given × (ends_call e.kind ≡ false) × (left + turns part ≡ given)
EndsBuilt s m (Err e) part given left =
    Segment s m (Err e) part given × (ends_call e.kind ≡ true) × (left + turns part ≡ given)

-- of one with a failed command it is that one's error, for whose texts memory may be wanted
abbrev pub EndsFailed : List Planned → Failure → Result FleetEnd ErrorSeen → Type 0
EndsFailed cmds failure (Ok Built) = ⊥
EndsFailed cmds failure (Ok (Refused e)) = e ≡ run_error cmds (Failed failure.0 failure.1)
EndsFailed cmds failure (Err e) = e ≡ no_memory

-- of a member with a failed command no library is written
abbrev pub EndsMember : Site → List Planned → MemberSeen → Option Failure → Result FleetEnd ErrorSeen
    → List Event → ℕ → ℕ → Type 0
EndsMember s cmds m (Some failure) answer part given left =
    EndsFailed cmds failure answer × (part ≡ []) × (left ≡ given)
EndsMember s cmds m None answer part given left = EndsBuilt s m answer part given left

-- each member has its end, one after another; the first of them has that place
abbrev pub EndsEach : Site → List Planned → (ℕ → Option Failure) → ℕ → List MemberSeen → List FleetEnd
    → List Event → ℕ → ℕ → Type 0
EndsEach s cmds failure place [] [] part given left = (part ≡ []) × (left ≡ given)
EndsEach s cmds failure place (m ∷ ms) (end ∷ ends) part given left = (front rest : List Event) × (mid : ℕ)
    × ((part ≡ front ++ rest) × EndsMember s cmds m (failure place) (Ok end) front given mid
    × EndsEach s cmds failure (suc place) ms ends rest mid left)
EndsEach s cmds failure place _ _ part given left = ⊥

-- the first members have their ends, and then the next one ended the call, or memory was wanted
abbrev pub EndsUntil : Site → List Planned → (ℕ → Option Failure) → ℕ → List MemberSeen → ErrorSeen
    → List Event → ℕ → ℕ → Type 0
EndsUntil s cmds failure place [] e part given left = (e ≡ no_memory) × (part ≡ []) × (left ≡ given)
EndsUntil s cmds failure place (m ∷ ms) e part given left = ((e ≡ no_memory) × (part ≡ []) × (left ≡ given))
    ⊎ (EndsMember s cmds m (failure place) (Err e) part given left
    ⊎ ((end : FleetEnd) × (front rest : List Event) × (mid : ℕ) × ((part ≡ front ++ rest)
    × EndsMember s cmds m (failure place) (Ok end) front given mid
    × EndsUntil s cmds failure (suc place) ms e rest mid left)))

abbrev pub EndsTo : Site → List Planned → (ℕ → Option Failure) → List MemberSeen → Result (List FleetEnd) ErrorSeen
    → List Event → ℕ → ℕ → Type 0
EndsTo s cmds failure ms (Ok ends) part given left = EndsEach s cmds failure 0 ms ends part given left
EndsTo s cmds failure ms (Err e) part given left = EndsUntil s cmds failure 0 ms e part given left

-- ---- a whole fleet

-- the terms of the run of all commands
abbrev pub fleet_terms : Site → Option ℕ → List CompilePlan → Terms
fleet_terms s total plans = terms (shown_by (shown_first plans)) total s.patience

-- the seat's counts are those behind the run, which alone takes tokens
abbrev pub IsBehind : Means → Means → Type 0
IsBehind mid y = y ≡ record mid { left = y.left }

-- each member was planned by this part, and no two write one file
pub record Prepared (s : Site) (ms : List MemberSeen) (plans : List CompilePlan) (part : List Event) : Type 0 where
  pub planned : PlansEach s ms plans part
  pub apart : NoClash (map files_of ms)

-- Behind the plans the commands of all members were run to their ends as one list, each under a token of the one pool
-- and none stopped by the failure of another. Then came the ends of the members, in order: the library was written and
-- linked of each of which no command failed.
pub record Finished (s : Site) (total : Option ℕ) (ms : List MemberSeen) (answer : Result (List FleetEnd) ErrorSeen)
    (part : List Event) (x y : Means) : Type 0 where
  pub planning : List Event
  pub running : List Event
  pub segments : List Event
  pub cut : part ≡ planning ++ (running ++ segments)
  pub plans : List CompilePlan
  pub prepared : Prepared s ms plans planning
  pub marks : List Mark
  pub mid : Means
  pub ran : RanJoined (fleet_terms s total plans) (joined plans) running (Ok marks) x mid
  pub ended : EndsTo s (joined plans) (failure_of (owners plans) marks) ms answer segments mid.left y.left
  pub seat : IsBehind mid y

-- the plans were made, and were refused together
pub record Clashes (s : Site) (ms : List MemberSeen) (e : ErrorSeen) (part : List Event) (x y : Means) : Type 0 where
  pub plans : List CompilePlan
  pub planned : PlansEach s ms plans part
  pub clash : IsClash ms e
  pub same : y ≡ x

-- the run of the commands was refused, but not by a failed one
pub record RunStops (s : Site) (total : Option ℕ) (ms : List MemberSeen) (e : ErrorSeen) (part : List Event)
    (x y : Means) : Type 0 where
  pub planning : List Event
  pub running : List Event
  pub cut : part ≡ planning ++ running
  pub plans : List CompilePlan
  pub prepared : Prepared s ms plans planning
  pub answer : Result (List Mark) RunError
  pub ran : RanJoined (fleet_terms s total plans) (joined plans) running answer x y
  pub cause : StopsRun (joined plans) answer e

-- Ok: each member has its end. Else a plan was refused; or two members write one file; or the run of the commands was
-- refused; or a library ended the call.
abbrev pub Fleet : Site → Option ℕ → List MemberSeen → Result (List FleetEnd) ErrorSeen → List Event → Means → Means
    → Type 0
Fleet s total ms (Ok ends) part x y = Finished s total ms (Ok ends) part x y
Fleet s total ms (Err e) part x y = (PlansUntil s ms e part × (y ≡ x))
    ⊎ (Clashes s ms e part x y ⊎ (RunStops s total ms e part x y ⊎ Finished s total ms (Err e) part x y))

-- the same of a call in this course
abbrev pub IsFleet : Bool → (Question → Outcome) → List MemberSeen → Result (List FleetEnd) ErrorSeen → List Event
    → Course → Type 0
IsFleet steady world ms answer part c = Fleet (site steady world c.patience) c.total ms answer part c.before c.after

-- the same of a call that is given so many turns, and leaves some of them
abbrev pub OnTurns : {X S : Type 0} → (X → List Event) → (X → Option ℕ) → (S → Option ℕ) → (S → ℕ) → (S → ℕ)
    → (S → ℕ) → ℕ → X → X → S → S
    → (List Event → Course → Type 0) → Type 0
OnTurns log patience total faults taken load given host host' seat seat' fact =
    (left : ℕ) × OnCourse log patience total faults taken load given left host host' seat seat' fact
