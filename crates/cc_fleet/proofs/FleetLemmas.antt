-- A whole fleet, put together from its plans, its run and the ends of its members.
use Rattle.std.proofs.Common.{◌≡◌, inl, inr, ℕ, Bool, ◌+◌, ◌<◌, List, ◌++◌, length, map, Option, None, Result, Ok, Err, refl, ◌∙◌, ap, subst, arith}
use Rattle.std.specs.List.{slice_index_or}
use Rattle.std.proofs.lemmas.List.{length-map}
use Rattle.cc_host.specs.declared.event.Event.{Event}
use Rattle.cc_host.specs.declared.question.Outcome.{Outcome}
use Rattle.cc_host.specs.declared.question.Question.{Question}
use Rattle.cc_run.specs.declared.error.RunError.{RunError}
use Rattle.cc_run.specs.declared.mark.Mark.{Mark}
use Rattle.cc_run.specs.declared.planned.Planned.{Planned}
use Rattle.cc_run.specs.declared.planned.Shows.{Shows}
use Rattle.cc_build.specs.Error.{ErrorSeen}
use Rattle.cc_build.specs.Went.{Terms, Means, terms}
use Rattle.cc_build.specs.declared.planning.CompilePlan.{CompilePlan}
use Rattle.cc_fleet.specs.Clash.{NoClash}
use Rattle.cc_fleet.specs.Failures.{Failure, failure_of}
use Rattle.cc_fleet.specs.Fleet.{Site, MemberSeen, PlansTo, PlansUntil, EndsTo, IsClash, Fleet, Finished, joined, owners, objects_at, files_of, shown_first, fleet_terms, site}
use Rattle.cc_fleet.specs.Run.{RanJoined, RanTo, RunEnds, StopsRun, shown_by}
use Rattle.cc_fleet.specs.declared.joined.Joined.{Joined}
use Rattle.cc_fleet.specs.declared.members.FleetEnd.{FleetEnd}
use Rattle.cc_fleet.proofs.EndLemmas.{each_by, until_by}
use Rattle.cc_fleet.proofs.JoinLemmas.{plans_objects}

-- ---- what the plans are, put together

module _ (s : Site) (ms : List MemberSeen) (all : Joined) (part : List Event) (planned : PlansTo s ms (Ok all) part) where
  -- for each member the paths of its objects
  pub planned_objects : all.objects.items ≡ map objects_at ms
  planned_objects = planned.1.0.objects_are ∙ plans_objects s ms planned.0 part planned.1.1

-- the members are ended by the failures that the run has for them
module _ (s : Site) (cmds : List Planned) (f g : ℕ → Option Failure) (ms : List MemberSeen) (same : (k : ℕ) → k < length ms → f k ≡ g k) where
  below : (k : ℕ) → k < 0 + length ms → f k ≡ g k
  below k l = same k (omega (arith, l))

  pub ends_by : (answer : Result (List FleetEnd) ErrorSeen) (part : List Event) (given left : ℕ) → EndsTo s cmds f ms answer part given left → EndsTo s cmds g ms answer part given left
  ends_by (Ok ends) part given left h = each_by s cmds f g 0 ms ends part given left below h
  ends_by (Err e) part given left h = until_by s cmds f g 0 ms e part given left below h

-- on a host of the same patience, and by the same failures
pub all_ended_so : (steady : Bool) (world : Question → Outcome) (p q : Option ℕ) (cmds : List Planned) (fs gs : List (Option Failure)) (ms : List MemberSeen) (answer : Result (List FleetEnd) ErrorSeen) (part : List Event) (given left : ℕ) → p ≡ q → fs ≡ gs → EndsTo (site steady world p) cmds (λ place. slice_index_or fs place None) ms answer part given left → EndsTo (site steady world q) cmds (λ place. slice_index_or gs place None) ms answer part given left
all_ended_so steady world p q cmds fs gs ms answer part given left same are h =
    subst (λ (o : Option ℕ). EndsTo (site steady world o) cmds (λ place. slice_index_or gs place None) ms answer part given left) same
    (subst (λ (l : List (Option Failure)). EndsTo (site steady world p) cmds (λ place. slice_index_or l place None) ms answer part given left) are h)

-- ---- how it ends

module _ (s : Site) (total : Option ℕ) (ms : List MemberSeen) (x : Means) where
  -- a plan was refused
  pub fleet_unplanned : (e : ErrorSeen) (part : List Event) → PlansUntil s ms e part → Fleet s total ms (Err e) part x x
  fleet_unplanned e part stops = inl (stops, refl)

  module _ (all : Joined) (planning : List Event) (planned : PlansTo s ms (Ok all) planning) where
    -- two members write one file
    pub fleet_clashes : (e : ErrorSeen) → IsClash ms e → Fleet s total ms (Err e) planning x x
    fleet_clashes e clash = inr (inl (record { plans = planned.0; planned = planned.1.1; clash = clash; same = refl }))

    module _ (apart : NoClash (map files_of ms)) (running : List Event) (patience : Option ℕ) (same : patience ≡ s.patience) (y : Means) where
      abbrev plans : List CompilePlan
      plans = planned.0

      abbrev as_shown : Option ℕ → Option Shows → Terms
      as_shown p shows = terms (shown_by shows) total p

      -- the commands are those of the plans, and what is shown is what the first of these shows
      its_run : (answer : Result (List Mark) RunError) → RanJoined (as_shown patience all.shows) all.commands.items running answer x y → RanJoined (fleet_terms s total plans) (joined plans) running answer x y
      its_run answer ran =
          subst (λ (cmds : List Planned). RanJoined (as_shown s.patience (shown_first plans)) cmds running answer x y) planned.1.0.commands_are
          (subst (λ (shows : Option Shows). RanJoined (as_shown s.patience shows) all.commands.items running answer x y) planned.1.0.shows_are
          (subst (λ (p : Option ℕ). RanJoined (as_shown p all.shows) all.commands.items running answer x y) same ran))

      -- their run was refused
      pub fleet_stops : (e : ErrorSeen) (part : List Event) → part ≡ planning ++ running → RunEnds (as_shown patience all.shows) all (Err e) running x y → Fleet s total ms (Err e) part x y
      fleet_stops e part cut stops = inr (inr (inl (record {
        planning = planning;
        running = running;
        cut = cut;
        plans = plans;
        prepared = record { planned = planned.1.1; apart = apart };
        answer = stops.0;
        ran = its_run stops.0 stops.1.0;
        cause = subst (λ (cmds : List Planned). StopsRun cmds stops.0 e) planned.1.0.commands_are stops.1.1;
      })))

      module _ (failures : List (Option Failure)) (ran : RanTo (as_shown patience all.shows) all.commands.items all failures running x y) where
        -- there is one for each member
        pub failures_count : length failures ≡ length ms
        failures_count =
            let size : length failures ≡ length all.objects.items = ran.are.size in
            let objects : length all.objects.items ≡ length ms = ap length (planned_objects s ms all planning planned) ∙ length-map ms objects_at in
            size ∙ objects

        same_failures : (k : ℕ) → k < length ms → slice_index_or failures k None ≡ failure_of (owners plans) ran.marks k
        same_failures k l =
            let objects : length all.objects.items ≡ length ms = ap length (planned_objects s ms all planning planned) ∙ length-map ms objects_at in
            ran.are.each k (omega (arith, objects, l)) ∙ ap (λ o. failure_of o ran.marks k) planned.1.0.owners_are

        -- they were run, and the members have their ends
        finished : (answer : Result (List FleetEnd) ErrorSeen) (segments part : List Event) (left : ℕ) → part ≡ planning ++ (running ++ segments) → EndsTo s all.commands.items (λ place. slice_index_or failures place None) ms answer segments y.left left → Finished s total ms answer part x (record y { left = left })
        finished answer segments part left cut ended = record {
          planning = planning;
          running = running;
          segments = segments;
          cut = cut;
          plans = plans;
          prepared = record { planned = planned.1.1; apart = apart };
          marks = ran.marks;
          mid = y;
          ran = its_run (Ok ran.marks) ran.ran;
          ended =
              subst (λ (cmds : List Planned). EndsTo s cmds (failure_of (owners plans) ran.marks) ms answer segments y.left left) planned.1.0.commands_are
              (ends_by s all.commands.items (λ place. slice_index_or failures place None) (failure_of (owners plans) ran.marks) ms same_failures answer segments y.left left ended);
          seat = refl;
        }

        pub fleet_ends : (answer : Result (List FleetEnd) ErrorSeen) (segments part : List Event) (left : ℕ) → part ≡ planning ++ (running ++ segments) → EndsTo s all.commands.items (λ place. slice_index_or failures place None) ms answer segments y.left left → Fleet s total ms answer part x (record y { left = left })
        fleet_ends (Ok ends) segments part left cut ended = finished (Ok ends) segments part left cut ended
        fleet_ends (Err e) segments part left cut ended = inr (inr (inr (finished (Err e) segments part left cut ended)))
