-- What holds of the plan of a member, of the run and of a segment holds of a whole fleet; so do its turns.
use Rattle.std.proofs.Common.{◌≡◌, inl, inr, ℕ, suc, ◌+◌, List, [], ◌∷◌, ◌++◌, Option, None, Some, Result, Ok, Err, refl, sym, ◌∙◌, ap, subst, arith}
use Rattle.std.proofs.lemmas.List.Sums.{sum_by-append}
use Rattle.cc_host.specs.declared.event.Event.{Event}
use Rattle.cc_run.specs.Part.{turns, turns_of}
use Rattle.cc_run.specs.declared.error.RunError.{RunError}
use Rattle.cc_run.specs.declared.mark.Mark.{Mark}
use Rattle.cc_run.specs.declared.planned.Planned.{Planned}
use Rattle.cc_build.specs.Error.{ErrorSeen}
use Rattle.cc_build.specs.Promises.{NothingRuns}
use Rattle.cc_build.specs.Went.{Terms, Means}
use Rattle.cc_build.specs.declared.planning.CompilePlan.{CompilePlan}
use Rattle.cc_build.proofs.ChildLaws.{running_behind}
use Rattle.cc_fleet.specs.Failures.{Failure}
use Rattle.cc_fleet.specs.Fleet.{Site, MemberSeen, IsPlanned, PlansEach, PlansUntil, Segment, EndsBuilt, EndsMember, EndsEach, EndsUntil, EndsTo, Finished, Fleet}
use Rattle.cc_fleet.specs.Run.{RanJoined}
use Rattle.cc_fleet.specs.declared.members.FleetEnd.{FleetEnd}
use Rattle.cc_fleet.specs.declared.members.FleetEnd.TheVariants.{Built, Refused}
use Rattle.cc_fleet.proofs.JoinedLaws.{joined_settled, joined_turns}
use Rattle.cc_fleet.proofs.PlannedLaws.{planned_settled, planned_still, segment_settled}

-- ---- a fact of parts

module _ (s : Site) (P : List Event → Type 0) (none : P []) (both : (a b : List Event) → P a → P b → P (a ++ b)) where
  nothing : (part : List Event) → part ≡ [] → P part
  nothing part is = subst P (sym is) none

  two : (part a b : List Event) → part ≡ a ++ b → P a → P b → P part
  two part a b cut p q = subst P (sym cut) (both a b p q)

  module _ (planned : (m : MemberSeen) (answer : Result CompilePlan ErrorSeen) (part : List Event) → IsPlanned s m answer part → P part) where
    pub of_plans : (ms : List MemberSeen) (plans : List CompilePlan) (part : List Event) → PlansEach s ms plans part → P part
    of_plans [] [] part h = nothing part h
    of_plans [] (p ∷ plans) part h = absurd h
    of_plans (m ∷ ms) [] part h = absurd h
    of_plans (m ∷ ms) (p ∷ plans) part h = two part h.0 h.1 h.2.0 (planned m (Ok p) h.0 h.2.1) (of_plans ms plans h.1 h.2.2)

    pub of_refused : (ms : List MemberSeen) (e : ErrorSeen) (part : List Event) → PlansUntil s ms e part → P part
    of_refused [] e part h = nothing part h.1
    of_refused (m ∷ ms) e part (inl h) = nothing part h.1
    of_refused (m ∷ ms) e part (inr (inl h)) = planned m (Err e) part h
    of_refused (m ∷ ms) e part (inr (inr h)) = two part h.1 h.2 h.3.0 (planned m (Ok h.0) h.1 h.3.1) (of_refused ms e h.2 h.3.2)

  module _ (segment : (m : MemberSeen) (answer : Result (Unit {0}) ErrorSeen) (part : List Event) (given : ℕ) → Segment s m answer part given → P part) (cmds : List Planned) (failure : ℕ → Option Failure) where
    of_library : (m : MemberSeen) (answer : Result FleetEnd ErrorSeen) (part : List Event) (given left : ℕ) → EndsBuilt s m answer part given left → P part
    of_library m (Ok Built) part given left h = segment m (Ok tt) part given h.0
    of_library m (Ok (Refused e)) part given left h = segment m (Err e) part given h.0
    of_library m (Err e) part given left h = segment m (Err e) part given h.0

    of_member : (m : MemberSeen) (failed : Option Failure) (answer : Result FleetEnd ErrorSeen) (part : List Event) (given left : ℕ) → EndsMember s cmds m failed answer part given left → P part
    of_member m (Some f) answer part given left h = nothing part h.1
    of_member m None answer part given left h = of_library m answer part given left h

    pub of_ends : (place : ℕ) (ms : List MemberSeen) (ends : List FleetEnd) (part : List Event) (given left : ℕ) → EndsEach s cmds failure place ms ends part given left → P part
    of_ends place [] [] part given left h = nothing part h.0
    of_ends place [] (end ∷ ends) part given left h = absurd h
    of_ends place (m ∷ ms) [] part given left h = absurd h
    of_ends place (m ∷ ms) (end ∷ ends) part given left h =
        two part h.0 h.1 h.3.0 (of_member m (failure place) (Ok end) h.0 given h.2 h.3.1) (of_ends (suc place) ms ends h.1 h.2 left h.3.2)

    pub of_end : (place : ℕ) (ms : List MemberSeen) (e : ErrorSeen) (part : List Event) (given left : ℕ) → EndsUntil s cmds failure place ms e part given left → P part
    of_end place [] e part given left h = nothing part h.1
    of_end place (m ∷ ms) e part given left (inl h) = nothing part h.1
    of_end place (m ∷ ms) e part given left (inr (inl h)) = of_member m (failure place) (Err e) part given left h
    of_end place (m ∷ ms) e part given left (inr (inr h)) =
        two part h.1 h.2 h.4.0 (of_member m (failure place) (Ok h.0) h.1 given h.3 h.4.1) (of_end (suc place) ms e h.2 h.3 left h.4.2)

    pub of_all_ends : (ms : List MemberSeen) (answer : Result (List FleetEnd) ErrorSeen) (part : List Event) (given left : ℕ) → EndsTo s cmds failure ms answer part given left → P part
    of_all_ends ms (Ok ends) part given left h = of_ends 0 ms ends part given left h
    of_all_ends ms (Err e) part given left h = of_end 0 ms e part given left h

-- the same of a whole fleet
module _ (s : Site) (P : List Event → Type 0) (none : P []) (both : (a b : List Event) → P a → P b → P (a ++ b)) (planned : (m : MemberSeen) (answer : Result CompilePlan ErrorSeen) (part : List Event) → IsPlanned s m answer part → P part) (ran : (t : Terms) (cmds : List Planned) (part : List Event) (answer : Result (List Mark) RunError) (x y : Means) → RanJoined t cmds part answer x y → P part) (segment : (m : MemberSeen) (answer : Result (Unit {0}) ErrorSeen) (part : List Event) (given : ℕ) → Segment s m answer part given → P part) (total : Option ℕ) (ms : List MemberSeen) where
  of_finished : (answer : Result (List FleetEnd) ErrorSeen) (part : List Event) (x y : Means) → Finished s total ms answer part x y → P part
  of_finished answer part x y h =
      subst P (sym h.cut)
      (both h.planning (h.running ++ h.segments) (of_plans s P none both planned ms h.plans h.planning h.prepared.planned)
      (both h.running h.segments (ran _ _ h.running (Ok h.marks) x h.mid h.ran) (of_all_ends s P none both segment _ _ ms answer h.segments h.mid.left y.left h.ended)))

  pub of_fleet : (answer : Result (List FleetEnd) ErrorSeen) (part : List Event) (x y : Means) → Fleet s total ms answer part x y → P part
  of_fleet (Ok ends) part x y h = of_finished (Ok ends) part x y h
  of_fleet (Err e) part x y (inl h) = of_refused s P none both planned ms e part h.0
  of_fleet (Err e) part x y (inr (inl h)) = of_plans s P none both planned ms h.plans part h.planned
  of_fleet (Err e) part x y (inr (inr (inl h))) =
      subst P (sym h.cut) (both h.planning h.running (of_plans s P none both planned ms h.plans h.planning h.prepared.planned) (ran _ _ h.running h.answer x y h.ran))
  of_fleet (Err e) part x y (inr (inr (inr h))) = of_finished (Err e) part x y h

-- ---- no command runs

-- behind each answer each command that was started has ended or was left alone
pub fleet_settled : (s : Site) (total : Option ℕ) (ms : List MemberSeen) (answer : Result (List FleetEnd) ErrorSeen) (part : List Event) (x y : Means) → Fleet s total ms answer part x y → NothingRuns part
fleet_settled s total ms answer part x y h =
    of_fleet s NothingRuns refl (λ a b p q. running_behind a b p ∙ q) (planned_settled s)
    (λ t cmds run result v w ran. joined_settled t run v w cmds result ran) (segment_settled s) total ms answer part x y h

-- ---- turns

both_turns : (part a b : List Event) → part ≡ a ++ b → turns part ≡ turns a + turns b
both_turns part a b cut = ap turns cut ∙ sum_by-append turns_of a b

-- plans make none
pub plans_still : (s : Site) (ms : List MemberSeen) (plans : List CompilePlan) (part : List Event) → PlansEach s ms plans part → turns part ≡ 0
plans_still s ms plans part h = of_plans s (λ l. turns l ≡ 0) refl (λ a b p q. let e = both_turns (a ++ b) a b refl in omega (arith, e, p, q)) (planned_still s) ms plans part h

refused_still : (s : Site) (ms : List MemberSeen) (e : ErrorSeen) (part : List Event) → PlansUntil s ms e part → turns part ≡ 0
refused_still s ms e part h = of_refused s (λ l. turns l ≡ 0) refl (λ a b p q. let k = both_turns (a ++ b) a b refl in omega (arith, k, p, q)) (planned_still s) ms e part h

module _ (s : Site) (cmds : List Planned) (failure : ℕ → Option Failure) where
  member_turns : (m : MemberSeen) (failed : Option Failure) (answer : Result FleetEnd ErrorSeen) (part : List Event) (given left : ℕ) → EndsMember s cmds m failed answer part given left → left + turns part ≡ given
  member_turns m (Some f) answer part given left h = let none : turns part ≡ 0 = ap turns h.1 in let same : left ≡ given = h.2 in omega (arith, none, same)
  member_turns m None (Ok Built) part given left h = h.1
  member_turns m None (Ok (Refused e)) part given left h = h.2
  member_turns m None (Err e) part given left h = h.2

  unmoved : (part : List Event) (given left : ℕ) → part ≡ [] → left ≡ given → left + turns part ≡ given
  unmoved part given left none same = let zero : turns part ≡ 0 = ap turns none in omega (arith, zero, same)

  more : (part a b : List Event) (given mid left : ℕ) → part ≡ a ++ b → mid + turns a ≡ given → left + turns b ≡ mid → left + turns part ≡ given
  more part a b given mid left cut p q = let e = both_turns part a b cut in omega (arith, e, p, q)

  pub ends_turns : (place : ℕ) (ms : List MemberSeen) (ends : List FleetEnd) (part : List Event) (given left : ℕ) → EndsEach s cmds failure place ms ends part given left → left + turns part ≡ given
  ends_turns place [] [] part given left h = unmoved part given left h.0 h.1
  ends_turns place [] (end ∷ ends) part given left h = absurd h
  ends_turns place (m ∷ ms) [] part given left h = absurd h
  ends_turns place (m ∷ ms) (end ∷ ends) part given left h =
      more part h.0 h.1 given h.2 left h.3.0 (member_turns m (failure place) (Ok end) h.0 given h.2 h.3.1) (ends_turns (suc place) ms ends h.1 h.2 left h.3.2)

  pub end_turns : (place : ℕ) (ms : List MemberSeen) (e : ErrorSeen) (part : List Event) (given left : ℕ) → EndsUntil s cmds failure place ms e part given left → left + turns part ≡ given
  end_turns place [] e part given left h = unmoved part given left h.1 h.2
  end_turns place (m ∷ ms) e part given left (inl h) = unmoved part given left h.1 h.2
  end_turns place (m ∷ ms) e part given left (inr (inl h)) = member_turns m (failure place) (Err e) part given left h
  end_turns place (m ∷ ms) e part given left (inr (inr h)) =
      more part h.1 h.2 given h.3 left h.4.0 (member_turns m (failure place) (Ok h.0) h.1 given h.3 h.4.1) (end_turns (suc place) ms e h.2 h.3 left h.4.2)

  all_turns : (ms : List MemberSeen) (answer : Result (List FleetEnd) ErrorSeen) (part : List Event) (given left : ℕ) → EndsTo s cmds failure ms answer part given left → left + turns part ≡ given
  all_turns ms (Ok ends) part given left h = ends_turns 0 ms ends part given left h
  all_turns ms (Err e) part given left h = end_turns 0 ms e part given left h

module _ (s : Site) (total : Option ℕ) (ms : List MemberSeen) where
  finished_turns : (answer : Result (List FleetEnd) ErrorSeen) (part : List Event) (x y : Means) → Finished s total ms answer part x y → y.left + turns part ≡ x.left
  finished_turns answer part x y h =
      let plans : turns h.planning ≡ 0 = plans_still s ms h.plans h.planning h.prepared.planned in
      let run : h.mid.left + turns h.running ≡ x.left = joined_turns _ h.running x h.mid _ (Ok h.marks) h.ran in
      let libraries : y.left + turns h.segments ≡ h.mid.left = all_turns s _ _ ms answer h.segments h.mid.left y.left h.ended in
      let first = both_turns part h.planning (h.running ++ h.segments) h.cut in
      let rest = both_turns (h.running ++ h.segments) h.running h.segments refl in
      omega (arith, plans, run, libraries, first, rest)

  -- what is left of the turns, and those of the part, are what was given
  pub fleet_turns : (answer : Result (List FleetEnd) ErrorSeen) (part : List Event) (x y : Means) → Fleet s total ms answer part x y → y.left + turns part ≡ x.left
  fleet_turns (Ok ends) part x y h = finished_turns (Ok ends) part x y h
  fleet_turns (Err e) part x y (inl h) =
      let none : turns part ≡ 0 = refused_still s ms e part h.0 in
      let same : y.left ≡ x.left = ap (λ m. m.left) h.1 in
      omega (arith, none, same)
  fleet_turns (Err e) part x y (inr (inl h)) =
      let none : turns part ≡ 0 = plans_still s ms h.plans part h.planned in
      let same : y.left ≡ x.left = ap (λ m. m.left) h.same in
      omega (arith, none, same)
  fleet_turns (Err e) part x y (inr (inr (inl h))) =
      let plans : turns h.planning ≡ 0 = plans_still s ms h.plans h.planning h.prepared.planned in
      let run : y.left + turns h.running ≡ x.left = joined_turns _ h.running x y _ h.answer h.ran in
      let all = both_turns part h.planning h.running h.cut in
      omega (arith, plans, run, all)
  fleet_turns (Err e) part x y (inr (inr (inr h))) = finished_turns (Err e) part x y h
