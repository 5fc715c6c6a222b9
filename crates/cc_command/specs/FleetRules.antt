-- What the program promises of a fleet: its answer, and the rules that its part keeps.
use Rattle.std.specs.Prelude.{◌≡◌, ◌⊎◌, ℕ, suc, List, [], ◌∷◌, ◌++◌, length, map, true, false, Option, None, Some, Result, Ok, Err}
use Rattle.std.specs.List.{list_all}
use Rattle.cc_host.specs.Command.{CommandSeen}
use Rattle.cc_host.specs.Part.{is_probing}
use Rattle.cc_host.specs.Question.{answers, Holds}
use Rattle.cc_host.specs.declared.event.Event.{Event}
use Rattle.cc_host.specs.declared.event.Event.TheVariants.{Listed, Fault, Abandoned}
use Rattle.cc_host.specs.declared.event.HostCall.{HostCall}
use Rattle.cc_host.specs.declared.event.Role.{Role}
use Rattle.cc_host.specs.declared.event.Why.{Why}
use Rattle.cc_run.specs.declared.mark.Mark.{Mark}
use Rattle.cc_run.specs.declared.planned.Planned.{Planned}
use Rattle.cc_build.specs.Archiving.{ArchivesFirst, with_objects}
use Rattle.cc_build.specs.Attempts.{attempts, to_attempt}
use Rattle.cc_build.specs.Error.{ErrorSeen}
use Rattle.cc_build.specs.Order.{is_archive_event}
use Rattle.cc_build.specs.Went.{Means}
use Rattle.cc_build.specs.declared.planning.CompilePlan.{CompilePlan}
use Rattle.cc_fleet.specs.Failures.{Failure, failure_of}
use Rattle.cc_fleet.specs.Fleet.{Site, MemberSeen, Prepared, Finished, EndsEach, EndsUntil, fleet_terms, joined, objects_at, owners, site}
use Rattle.cc_fleet.specs.Run.{RanJoined}
use Rattle.cc_fleet.specs.declared.members.FleetEnd.{FleetEnd}
use Rattle.cc_fleet.specs.declared.members.FleetEnd.TheVariants.{Built, Refused}
use Rattle.cc_command.specs.Call.{Call, means_of}
use Rattle.cc_command.specs.Fleets.{AnswersFleet, TellsFleet, listed_members}
use Rattle.cc_command.specs.Promises.{is_own_line}
use Rattle.cc_command.specs.declared.ended.Ended.{Ended}

-- what is known of the host of a call
abbrev pub site_of : Call → Site
site_of c = site c.steady c.world c.patience

-- each of these is built
abbrev pub AreBuilt : List FleetEnd → Type 0
AreBuilt [] = Unit {0}
AreBuilt (Built ∷ ends) = AreBuilt ends
AreBuilt (Refused e ∷ ends) = ⊥

-- so is each member, as the answer tells
abbrev pub IsAllBuilt : Ended → Type 0
IsAllBuilt ended = (ends : List FleetEnd) × ((ended.fleet ≡ Some ends) × AreBuilt ends)

-- These ends are told: behind the listing the members were planned, their commands were run to their ends as one list,
-- each member came to its end, and then a line of kind Fault was printed for each that was refused.
pub record ToldFleet (c : Call) (ms : List MemberSeen) (ends : List FleetEnd) (ended : Ended) : Type 0 where
  pub vars : List (List ℕ × List ℕ)
  pub run : List Event
  pub lines : List Event
  pub cut : c.part ≡ Listed vars ∷ (run ++ lines)
  pub left : ℕ
  pub finished : Finished (site_of c) c.total (listed_members vars ms) (Ok ends) run (means_of c.turns c.before)
      (means_of left c.after)
  pub told : TellsFleet ends lines ended

-- the members were planned, and their commands were run to their ends
pub record HasRun (c : Call) (ms : List MemberSeen) (part : List Event) : Type 0 where
  pub vars : List (List ℕ × List ℕ)
  pub planning : List Event
  pub running : List Event
  pub cut : part ≡ Listed vars ∷ (planning ++ running)
  pub plans : List CompilePlan
  pub prepared : Prepared (site_of c) (listed_members vars ms) plans planning
  pub marks : List Mark
  pub mid : Means
  pub ran : RanJoined (fleet_terms (site_of c) c.total plans) (joined plans) running (Ok marks)
      (means_of c.turns c.before) mid

-- A place behind that, in the library of a member, which has its place among all; no command of it failed.
pub record InLibrary (c : Call) (ms : List MemberSeen) (before : List Event) : Type 0 where
  pub front : List Event
  pub rest : List Event
  pub cut : before ≡ front ++ rest
  pub run : HasRun c ms front
  pub earlier : List MemberSeen
  pub member : MemberSeen
  pub later : List MemberSeen
  pub are : listed_members run.vars ms ≡ earlier ++ member ∷ later
  pub sound : failure_of (owners run.plans) run.marks (length earlier) ≡ None

-- before each command of an archive in the part all commands were run to their ends, and it is one of a member of which
-- none failed
abbrev pub ArchivesBehind : Call → List MemberSeen → Type 0
ArchivesBehind c ms =
    (before after : List Event) (event : Event) → c.part ≡ before ++ event ∷ after → is_archive_event event ≡ true
    → InLibrary c ms before

-- the libraries of these members, of which the first has that place: each came to its end, or one ended the call
abbrev pub EndsFrom : Site → List Planned → (ℕ → Option Failure) → ℕ → List MemberSeen
    → Result (List FleetEnd) ErrorSeen → List Event → ℕ → ℕ → Type 0
EndsFrom s cmds failure place ms (Ok ends) part given left = EndsEach s cmds failure place ms ends part given left
EndsFrom s cmds failure place ms (Err e) part given left = EndsUntil s cmds failure place ms e part given left

-- the libraries of the members behind the one at this place of the part
pub record LaterLibraries (c : Call) (ms : List MemberSeen) (before part : List Event) : Type 0 where
  pub at : InLibrary c ms before
  pub result : Result (List FleetEnd) ErrorSeen
  pub given : ℕ
  pub left : ℕ
  pub ends : EndsFrom (site_of c) (joined at.run.plans) (failure_of (owners at.run.plans) at.run.marks)
      (suc (length at.earlier)) at.later result part given left

-- Behind a fault children are abandoned. A fault in a library ends that one alone, so that the libraries of later
-- members may follow; any other ends the call. Then come lines of kind Fault, or the faults of their print.
pub record FaultEnds (c : Call) (ms : List MemberSeen) (before after : List Event) : Type 0 where
  pub ids : List ℕ
  pub later : List Event
  pub lines : List Event
  pub cut : after ≡ map Abandoned ids ++ (later ++ lines)
  pub stands : (later ≡ []) ⊎ LaterLibraries c ms before later
  pub own : list_all is_own_line lines ≡ true

-- so it is behind each fault in the part, but one of what a question wants
abbrev pub EndsAtFaults : Call → List MemberSeen → Type 0
EndsAtFaults c ms =
    (before after : List Event) (call : HostCall) (why : Why) → is_probing call ≡ false
    → c.part ≡ before ++ Fault call why ∷ after → FaultEnds c ms before after

-- the first of the commands of planned members, one attempt for each; none where the members weren't planned
pub record FirstJoined (c : Call) (ms : List MemberSeen) (tried : List (Role × CommandSeen)) : Type 0 where
  pub vars : List (List ℕ × List ℕ)
  pub planning : List Event
  pub plans : List CompilePlan
  pub prepared : Prepared (site_of c) (listed_members vars ms) plans planning
  pub rest : List (Role × CommandSeen)
  pub first : map to_attempt (joined plans) ≡ tried ++ rest

-- The commands of the libraries of these members, in order: of each the first of those that its plan has by the answers
-- to its own questions, one attempt for each.
abbrev pub AreArchived : List MemberSeen → List (Role × CommandSeen) → Type 0
AreArchived [] tried = tried ≡ []
AreArchived (m ∷ ms) tried = (made : List Event) × (rest : List (Role × CommandSeen))
    × ((tried ≡ attempts made ++ rest)
    × Holds (answers made) (λ look. ArchivesFirst (with_objects m.build (objects_at m)) m.output look made)
    × AreArchived ms rest)

-- All commands of planned members were tried, and then those of their libraries.
pub record AllJoined (c : Call) (ms : List MemberSeen) (tried : List (Role × CommandSeen)) : Type 0 where
  pub vars : List (List ℕ × List ℕ)
  pub planning : List Event
  pub plans : List CompilePlan
  pub prepared : Prepared (site_of c) (listed_members vars ms) plans planning
  pub archived : List (Role × CommandSeen)
  pub cut : tried ≡ map to_attempt (joined plans) ++ archived
  pub libraries : AreArchived (listed_members vars ms) archived

-- the commands of the part, those that are missing among them
abbrev pub IsPrefix : Call → List MemberSeen → Type 0
IsPrefix c ms = (attempts c.part ≡ []) ⊎ (FirstJoined c ms (attempts c.part) ⊎ AllJoined c ms (attempts c.part))

-- What a fleet promises of its answer and its call.
pub record FleetPromises (c : Call) (ms : List MemberSeen) (ended : Ended) : Type 0 where
  -- the whole answer: each status with its cause
  pub answer : AnswersFleet c ms ended
  -- status 0: each member is built
  pub built : ended.status ≡ 0 → IsAllBuilt ended
  -- where the ends are there, each member came to its end
  pub told : (ends : List FleetEnd) → ended.fleet ≡ Some ends → ToldFleet c ms ends ended
  -- no archive command stands before the last end of a compile command, nor one of a member of which one failed
  pub order : ArchivesBehind c ms
  -- a fault in a library ends that one alone, and any other the call
  pub faults : EndsAtFaults c ms
  -- one attempt for each of the first commands of all members, and then of those of each library
  pub prefix : IsPrefix c ms
