-- A fleet: what the program does for several builds under one pool, and what it answers.
use Rattle.std.specs.Prelude.{◌≡◌, ◌⊎◌, ℕ, List, [], ◌∷◌, ◌++◌, map, Bool, Option, None, Some, Result, Ok, Err}
use Rattle.std.specs.List.{flat_map, Contains}
use Rattle.cc_host.specs.declared.event.Event.{Event}
use Rattle.cc_host.specs.declared.event.Event.TheVariants.{Listed}
use Rattle.cc_host.specs.declared.question.Outcome.{Outcome}
use Rattle.cc_host.specs.declared.question.Question.{Question}
use Rattle.cc_tool.specs.Asked.{question_events}
use Rattle.cc_build.specs.Archiving.{with_objects}
use Rattle.cc_build.specs.Build.{BuildSeen, AsksByRun}
use Rattle.cc_build.specs.Captured.{with_vars}
use Rattle.cc_build.specs.Error.{ErrorSeen}
use Rattle.cc_fleet.specs.Fleet.{MemberSeen, IsFleet, objects_at}
use Rattle.cc_fleet.specs.declared.members.FleetEnd.{FleetEnd}
use Rattle.cc_fleet.specs.declared.members.FleetEnd.TheVariants.{Built, Refused}
use Rattle.cc_command.specs.Answer.{AnswersError, PrintsLine, Unlisted, error_line, ended_well, ended_refused, ended_wanting}
use Rattle.cc_command.specs.Call.{Call, KeepsSeat, course_of}
use Rattle.cc_command.specs.declared.ended.Ended.{Ended}

-- a member with the snapshot of these variables
abbrev pub listed_member : List (List ℕ × List ℕ) → MemberSeen → MemberSeen
listed_member vars m = record { output = m.output; build = record m.build { env = with_vars m.build.env vars } }

-- members share the snapshot
abbrev pub listed_members : List (List ℕ × List ℕ) → List MemberSeen → List MemberSeen
listed_members vars = map (listed_member vars)

-- the host listed its variables, and did nothing else, and members took their snapshot
abbrev pub TakesListed : List MemberSeen → List MemberSeen → List Event → Type 0
TakesListed old new part =
    (vars : List (List ℕ × List ℕ)) × ((part ≡ Listed vars ∷ []) × (new ≡ listed_members vars old))

-- ---- questions

-- the builds that ask for members: each as it is, and, for its library, with the objects of its sources in their place
abbrev pub askers_of : MemberSeen → List BuildSeen
askers_of m = m.build ∷ with_objects m.build (objects_at m) ∷ []

abbrev pub askers : List MemberSeen → List BuildSeen
askers = flat_map askers_of

-- this asks nothing, or what a run of one of these builds asks, each question once
abbrev pub AsksOne : Bool → (Question → Outcome) → List BuildSeen → List Event → Type 0
AsksOne steady world builds part =
    (question_events part ≡ []) ⊎ ((b : BuildSeen) × (Contains builds b × AsksByRun steady world b part))

-- each of these stretches does, and they make up the part
abbrev pub AreStretches : (List Event → Type 0) → List (List Event) → List Event → Type 0
AreStretches asks [] part = part ≡ []
AreStretches asks (stretch ∷ stretches) part =
    (rest : List Event) × ((part ≡ stretch ++ rest) × asks stretch × AreStretches asks stretches rest)

-- the part is made up of such stretches
abbrev pub AsksInTurn : Bool → (Question → Outcome) → List BuildSeen → List Event → Type 0
AsksInTurn steady world builds part =
    (stretches : List (List Event)) × AreStretches (AsksOne steady world builds) stretches part

-- ---- its end

-- the error of a member, where it was refused
abbrev pub refused_error : FleetEnd → List ErrorSeen
refused_error Built = []
refused_error (Refused e) = e ∷ []

-- the errors of members that were refused, in order
abbrev pub refusals : List FleetEnd → List ErrorSeen
refusals = flat_map refused_error

-- the answer that tells what became of each: status 0, or 1 with the error of the first that was refused
abbrev pub ended_fleet : List FleetEnd → List ErrorSeen → Ended
ended_fleet ends [] = record ended_well { fleet = Some ends }
ended_fleet ends (e ∷ es) = record (ended_refused e) { fleet = Some ends }

-- the line of each of these errors was printed, or its print faulted, in order
abbrev pub PrintsEach : List ErrorSeen → List Event → Type 0
PrintsEach [] part = part ≡ []
PrintsEach (e ∷ es) part =
    (line rest : List Event) × ((part ≡ line ++ rest) × PrintsLine (error_line e) line × PrintsEach es rest)

-- the same of the first of them
abbrev pub PrintsSome : List ErrorSeen → List Event → Type 0
PrintsSome es part = (first more : List ErrorSeen) × ((es ≡ first ++ more) × PrintsEach first part)

-- A line of kind Fault for each member that was refused, in order; memory for one, or for the answer, may be wanted.
abbrev pub TellsFleet : List FleetEnd → List Event → Ended → Type 0
TellsFleet ends lines ended = ((ended ≡ ended_fleet ends (refusals ends)) × PrintsEach (refusals ends) lines)
    ⊎ ((ended ≡ ended_wanting) × PrintsSome (refusals ends) lines)

-- what the program answers to what the fleet came to, with the lines that it prints
abbrev pub SaysFleet : Result (List FleetEnd) ErrorSeen → List Event → Ended → Type 0
SaysFleet (Ok ends) lines ended = TellsFleet ends lines ended
SaysFleet (Err e) lines ended = AnswersError e lines ended

-- ---- the whole of it

-- The host listed its variables, which all members take; then the fleet came to this, and then the lines were printed.
pub record RanFleet (c : Call) (ms : List MemberSeen) (ended : Ended) : Type 0 where
  pub vars : List (List ℕ × List ℕ)
  pub run : List Event
  pub lines : List Event
  pub cut : c.part ≡ Listed vars ∷ (run ++ lines)
  pub left : ℕ
  pub result : Result (List FleetEnd) ErrorSeen
  pub fleet : IsFleet c.steady c.world (listed_members vars ms) result run (course_of c left)
  pub says : SaysFleet result lines ended

-- the same, or the variables weren't listed: nothing was asked, and no token was taken
abbrev pub AnswersFleet : Call → List MemberSeen → Ended → Type 0
AnswersFleet c ms ended = RanFleet c ms ended ⊎ (KeepsSeat c × (question_events c.part ≡ []) × Unlisted c.part ended)
