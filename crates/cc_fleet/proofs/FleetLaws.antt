-- What follows of a fleet from how it ended: its run, where its archives stand, why it ended, and where each member has an
-- end.
use Rattle.std.proofs.Common.{◌≡◌, ◌⊎◌, inl, inr, ℕ, suc, ◌+◌, ◌*◌, ◌<◌, ◌≤◌, List, [], ◌∷◌, ◌++◌, length, filter, map, Bool, true, false, ◌||◌, Option, None, Some, Result, Ok, Err, refl, sym, ◌∙◌, ap, append_assoc, arith, subst}
use Rattle.std.specs.Prelude.{◌≢◌, sum_by}
use Rattle.std.specs.List.{Contains, list_all, list_any}
use Rattle.std.proofs.lemmas.Bool.{and_parts, and_from, or_parts}
use Rattle.std.proofs.lemmas.Grind.{flat_map-append}
use Rattle.std.proofs.lemmas.List.{length-append}
use Rattle.std.proofs.lemmas.List.Folds.{list_all-append, list_any-append}
use Rattle.std.proofs.lemmas.List.Sums.{sum_by-append, sum_by-cons}
use Rattle.std.proofs.Math.Nat.{mul-add}
use Rattle.cc_jobs.specs.Seats.{Rose}
use Rattle.cc_host.specs.Command.{CommandSeen}
use Rattle.cc_host.specs.Question.{Look, Agrees, answers}
use Rattle.cc_host.specs.declared.event.Event.{Event}
use Rattle.cc_host.specs.declared.event.Event.TheVariants.{Started, Ran, Missing, Fault}
use Rattle.cc_host.specs.declared.event.Role.{Role}
use Rattle.cc_host.specs.declared.event.Role.TheVariants.{Compile, Archive, Index}
use Rattle.cc_run.specs.Marks.{has_failed}
use Rattle.cc_run.specs.Part.{started, abandoned, faults, missing, missing_of, turns, turns_of}
use Rattle.cc_run.specs.Planned.{asked}
use Rattle.cc_run.specs.declared.error.RunError.{RunError}
use Rattle.cc_run.specs.declared.mark.Mark.{Mark}
use Rattle.cc_run.specs.declared.planned.Planned.{Planned}
use Rattle.cc_run.specs.declared.planned.Shows.{Shows}
use Rattle.cc_run.proofs.ListLaws.{well_of}
use Rattle.cc_build.specs.Archiving.{with_objects, creation_stages}
use Rattle.cc_build.specs.Attempts.{attempts, to_attempt}
use Rattle.cc_build.specs.Error.{ErrorSeen, no_memory}
use Rattle.cc_build.specs.Failed.{HasFault, is_fault}
use Rattle.cc_build.specs.Order.{is_archive_role, is_archive_event}
use Rattle.cc_build.specs.Planning.{planning_error, planning_stages}
use Rattle.cc_build.specs.Promises.{is_compile_role, is_compiling, FaultsEnd}
use Rattle.cc_build.specs.Stage.{commands_in}
use Rattle.cc_build.specs.Way.{Firsts, Writing}
use Rattle.cc_build.specs.Went.{Terms, Means, means}
use Rattle.cc_build.specs.declared.error.ErrorKind.{ErrorKind}
use Rattle.cc_build.specs.declared.error.ErrorKind.TheVariants.{InvalidArgument, TurnsSpent as SpendsTurns, NoMemory}
use Rattle.cc_build.specs.declared.planning.CompilePlan.{CompilePlan}
use Rattle.cc_fleet.specs.Clash.{NoClash, IsFirstClash}
use Rattle.cc_fleet.specs.Failures.{Failure, failure_of, is_of}
use Rattle.cc_fleet.specs.Fleet.{Site, MemberSeen, IsPlanned, PlansEach, PlansUntil, EndsMember, EndsUntil, RunStops, Finished, Fleet, clash_error, ends_call, files_of, fleet_terms, joined, objects_at, owners, shown_first}
use Rattle.cc_fleet.specs.Run.{RanJoined, shown_by}
use Rattle.cc_fleet.specs.declared.members.FleetEnd.{FleetEnd}
use Rattle.cc_fleet.specs.declared.members.FleetEnd.TheVariants.{Built, Refused}
use Rattle.cc_build.proofs.FaultLaws.{nothing_faults, then_faults}
use Rattle.cc_build.proofs.PlanningLaws.{still_planning}
use Rattle.cc_build.proofs.StopLaws.{or_right}
use Rattle.cc_build.proofs.TurnLaws.{halted_spent}
use Rattle.cc_fleet.proofs.CauseLaws.{planning_unspent, run_cause, still_cause}
use Rattle.cc_fleet.proofs.EndLemmas.{no_terms, no_means}
use Rattle.cc_fleet.proofs.JoinedLaws.{joined_through, joined_first, joined_faults, joined_sound, joined_most, stopped_fewer}
use Rattle.cc_fleet.proofs.PartLaws.{of_plans, of_refused, plans_still, fleet_turns}
use Rattle.cc_fleet.proofs.PlannedLaws.{is_compile_command, planned_ends, its_look, its_agrees, plain_planning, planned_untried, planned_faults, plan_compiles, plan_count, plan_sound, segment_spent, segment_most, segment_fewer}

-- ---- the failures of a member

-- where a member has no failure, none of its commands ended with another status than 0
pub unfailed_well : (of_each : List ℕ) (marks : List Mark) (member : ℕ) → failure_of of_each marks member ≡ None → has_failed (filter (is_of of_each member) marks) ≡ false
unfailed_well of_each marks member none = well_of None (filter (is_of of_each member) marks) none

-- ---- the run of the commands of all members

no_stop : (o : Option Shows) → (shown_by o).stop ≡ false
no_stop None = refl
no_stop (Some shows) = refl

module _ (s : Site) (total : Option ℕ) (ms : List MemberSeen) (answer : Result (List FleetEnd) ErrorSeen) (part : List Event) (x y : Means) (h : Finished s total ms answer part x y) where
  abbrev its_terms : Terms
  its_terms = fleet_terms s total h.plans

  -- the commands of all members were started in order, as one list, and each of them has ended
  pub fleet_compiled : (started h.running ≡ asked its_terms.shows (joined h.plans)) × (abandoned h.running ≡ [])
  fleet_compiled = joined_through its_terms h.running x h.mid (joined h.plans) h.marks (no_stop (shown_first h.plans)) h.ran

-- how many sources a member has
abbrev pub sources : MemberSeen → ℕ
sources m = length m.build.config.files

-- ---- archives stand behind the run

-- an attempt to write a library or its index
abbrev writes_library : Role × CommandSeen → Bool
writes_library attempt = is_archive_role attempt.0

or_of : (a b c : Bool) → (a || b) ≡ false → (b ≡ false → c ≡ false) → (a || c) ≡ false
or_of true b c h f = absurd (cc)
or_of false b c h f = f h

-- the events of archive commands are their attempts
silent_by : (part : List Event) → list_any writes_library (attempts part) ≡ false → list_any is_archive_event part ≡ false
silent_by [] h = refl
silent_by (Started id role cmd pipes held ∷ part) h = or_of (is_archive_role role) (list_any writes_library (attempts part)) (list_any is_archive_event part) h (silent_by part)
silent_by (Missing role cmd ∷ part) h = or_of (is_archive_role role) (list_any writes_library (attempts part)) (list_any is_archive_event part) h (silent_by part)
silent_by (Ran role cmd pipes status out err ∷ part) h = or_of (is_archive_role role) (list_any writes_library (attempts part)) (list_any is_archive_event part) h (silent_by part)
silent_by (event ∷ part) h = silent_by part h

either_none : (a b : Bool) → a ≡ false → b ≡ false → (a || b) ≡ false
either_none true b p q = absurd (cc)
either_none false b p q = q

both_silent : (a b : List Event) → list_any is_archive_event a ≡ false → list_any is_archive_event b ≡ false → list_any is_archive_event (a ++ b) ≡ false
both_silent a b p q = list_any-append is_archive_event a b ∙ either_none (list_any is_archive_event a) (list_any is_archive_event b) p q

compile_writes_none : (role : Role) → is_compile_role role ≡ true → is_archive_role role ≡ false
compile_writes_none Compile h = refl
compile_writes_none Archive h = absurd (cc)
compile_writes_none Index h = absurd (cc)
compile_writes_none _ h = refl

compiles_write_none : (cmds : List Planned) → list_all is_compile_command cmds ≡ true → list_any writes_library (map to_attempt cmds) ≡ false
compiles_write_none [] h = refl
compiles_write_none (p ∷ cmds) h =
    let k = and_parts (is_compile_command p) (list_all is_compile_command cmds) h in
    either_none (is_archive_role p.role) (list_any writes_library (map to_attempt cmds)) (compile_writes_none p.role k.0) (compiles_write_none cmds k.1)

first_none : (f : Role × CommandSeen → Bool) (a b : List (Role × CommandSeen)) → list_any f (a ++ b) ≡ false → list_any f a ≡ false
first_none f [] b h = refl
first_none f (x ∷ a) b h = or_of (f x) (list_any f (a ++ b)) (list_any f a) h (first_none f a b)

module _ (s : Site) where
  -- the commands of all members compile
  joined_compiles : (ms : List MemberSeen) (plans : List CompilePlan) (part : List Event) → PlansEach s ms plans part → list_all is_compile_command (joined plans) ≡ true
  joined_compiles [] [] part h = refl
  joined_compiles [] (p ∷ plans) part h = absurd h
  joined_compiles (m ∷ ms) [] part h = absurd h
  joined_compiles (m ∷ ms) (p ∷ plans) part h =
      list_all-append is_compile_command p.commands.items (joined plans)
      ∙ and_from (list_all is_compile_command p.commands.items) (list_all is_compile_command (joined plans)) (plan_compiles s m p h.0 h.2.1) (joined_compiles ms plans h.1 h.2.2)

  -- there is one for each source of each
  joined_count : (ms : List MemberSeen) (plans : List CompilePlan) (part : List Event) → PlansEach s ms plans part → length (joined plans) ≡ sum_by sources ms
  joined_count [] [] part h = refl
  joined_count [] (p ∷ plans) part h = absurd h
  joined_count (m ∷ ms) [] part h = absurd h
  joined_count (m ∷ ms) (p ∷ plans) part h =
      let all : length (joined (p ∷ plans)) ≡ length p.commands.items + length (joined plans) = length-append p.commands.items (joined plans) in
      let own : length p.commands.items ≡ sources m = plan_count s m p h.0 h.2.1 in
      let rest : length (joined plans) ≡ sum_by sources ms = joined_count ms plans h.1 h.2.2 in
      let sum : sum_by sources (m ∷ ms) ≡ sources m + sum_by sources ms = sum_by-cons sources m ms in
      omega (arith, all, own, rest, sum)

  planned_silent : (m : MemberSeen) (answer : Result CompilePlan ErrorSeen) (part : List Event) → IsPlanned s m answer part → list_any is_archive_event part ≡ false
  planned_silent m answer part is = silent_by part (ap (list_any writes_library) (planned_untried s m answer part is))

  -- neither plans nor the run of their commands write a library
  pub plans_silent : (ms : List MemberSeen) (plans : List CompilePlan) (part : List Event) → PlansEach s ms plans part → list_any is_archive_event part ≡ false
  plans_silent ms plans part h = of_plans s (λ l. list_any is_archive_event l ≡ false) refl both_silent planned_silent ms plans part h

  run_silent : (t : Terms) (ms : List MemberSeen) (plans : List CompilePlan) (planning running : List Event) (answer : Result (List Mark) RunError) (x y : Means) → PlansEach s ms plans planning → RanJoined t (joined plans) running answer x y → list_any is_archive_event running ≡ false
  run_silent t ms plans planning running answer x y planned ran =
      let first = joined_first t running x y (joined plans) answer ran in
      silent_by running (first_none writes_library (attempts running) first.0 (ap (list_any writes_library) (sym first.1) ∙ compiles_write_none (joined plans) (joined_compiles ms plans planning planned)))

  -- a plan that is refused leaves no command of a library
  pub refused_silent : (ms : List MemberSeen) (e : ErrorSeen) (part : List Event) → PlansUntil s ms e part → list_any is_archive_event part ≡ false
  refused_silent ms e part h = of_refused s (λ l. list_any is_archive_event l ≡ false) refl both_silent planned_silent ms e part h

  -- nor does a run that is refused
  pub stopped_silent : (total : Option ℕ) (ms : List MemberSeen) (e : ErrorSeen) (part : List Event) (x y : Means) → RunStops s total ms e part x y → list_any is_archive_event part ≡ false
  stopped_silent total ms e part x y h =
      ap (list_any is_archive_event) h.cut
      ∙ both_silent h.planning h.running (plans_silent ms h.plans h.planning h.prepared.planned)
      (run_silent (fleet_terms s total h.plans) ms h.plans h.planning h.running h.answer x y h.prepared.planned h.ran)

past : (front rest before after : List Event) (event : Event) → list_any is_archive_event front ≡ false → is_archive_event event ≡ true → front ++ rest ≡ before ++ event ∷ after → (more : List Event) × (before ≡ front ++ more)
past [] rest before after event none is e = (before, refl)
past (f ∷ front) rest [] after event none is e =
    let k = or_parts (is_archive_event f) (list_any is_archive_event front) none in
    let same : f ≡ event = cc in
    let both : true ≡ false = sym is ∙ ap is_archive_event (sym same) ∙ k.0 in
    absurd (cc)
past (f ∷ front) rest (b ∷ before) after event none is e =
    let k = or_parts (is_archive_event f) (list_any is_archive_event front) none in
    let same : b ≡ f = cc in
    let tail : front ++ rest ≡ before ++ event ∷ after = cc in
    let r = past front rest before after event k.1 is tail in
    (r.0, ap (λ l. b ∷ l) r.1 ∙ ap (λ x. x ∷ (front ++ r.0)) same)

module _ (s : Site) (total : Option ℕ) (ms : List MemberSeen) (answer : Result (List FleetEnd) ErrorSeen) (part : List Event) (x y : Means) (h : Finished s total ms answer part x y) where
  -- a command of a library stands behind the plans and the whole run
  pub archives_last : (before after : List Event) (event : Event) → part ≡ before ++ event ∷ after → is_archive_event event ≡ true → (rest : List Event) × (before ≡ (h.planning ++ h.running) ++ rest)
  archives_last before after event is archives =
      past (h.planning ++ h.running) h.segments before after event
      (both_silent h.planning h.running (plans_silent s ms h.plans h.planning h.prepared.planned)
      (run_silent s (fleet_terms s total h.plans) ms h.plans h.planning h.running (Ok h.marks) x h.mid h.prepared.planned h.ran))
      archives (append_assoc h.planning h.running h.segments ∙ sym h.cut ∙ is)

-- the segment of a member has an event only where none of its commands failed
pub archived_well : (s : Site) (cmds : List Planned) (of_each : List ℕ) (marks : List Mark) (member : ℕ) (m : MemberSeen) (answer : Result FleetEnd ErrorSeen) (segment : List Event) (given left : ℕ) → EndsMember s cmds m (failure_of of_each marks member) answer segment given left → segment ≢ [] → has_failed (filter (is_of of_each member) marks) ≡ false
archived_well s cmds of_each marks member m answer segment given left ends some = by_failure (failure_of of_each marks member) refl ends
  where
    by_failure : (f : Option Failure) → failure_of of_each marks member ≡ f → EndsMember s cmds m f answer segment given left → has_failed (filter (is_of of_each member) marks) ≡ false
    by_failure (Some f) is k = absurd (some k.1)
    by_failure None is k = unfailed_well of_each marks member is

-- ---- faults

no_fault : (part : List Event) → faults part ≡ [] → list_any is_fault part ≡ false
no_fault [] h = refl
no_fault (Fault call why ∷ part) h = absurd (cc)
no_fault (_ ∷ part) h = no_fault part h

both_sound : (a b : List Event) → list_any is_fault a ≡ false → list_any is_fault b ≡ false → list_any is_fault (a ++ b) ≡ false
both_sound a b p q = list_any-append is_fault a b ∙ either_none (list_any is_fault a) (list_any is_fault b) p q

module _ (s : Site) where
  plans_sound : (ms : List MemberSeen) (plans : List CompilePlan) (part : List Event) → PlansEach s ms plans part → list_any is_fault part ≡ false
  plans_sound [] [] part h = ap (list_any is_fault) h
  plans_sound [] (p ∷ plans) part h = absurd h
  plans_sound (m ∷ ms) [] part h = absurd h
  plans_sound (m ∷ ms) (p ∷ plans) part h = ap (list_any is_fault) h.2.0 ∙ both_sound h.0 h.1 (plan_sound s m p h.0 h.2.1) (plans_sound ms plans h.1 h.2.2)

  -- a fault of a call that plans ends the whole call
  pub refused_faults : (ms : List MemberSeen) (e : ErrorSeen) (part : List Event) → PlansUntil s ms e part → FaultsEnd part
  refused_faults [] e part h = subst FaultsEnd (sym h.1) nothing_faults
  refused_faults (m ∷ ms) e part (inl h) = subst FaultsEnd (sym h.1) nothing_faults
  refused_faults (m ∷ ms) e part (inr (inl h)) = planned_faults s m (Err e) part h
  refused_faults (m ∷ ms) e part (inr (inr h)) = subst FaultsEnd (sym h.3.0) (then_faults h.1 h.2 (plan_sound s m h.0 h.1 h.3.1) (refused_faults ms e h.2 h.3.2))

  -- so does one of the run: behind it children are abandoned, and nothing else is done
  pub stopped_faults : (total : Option ℕ) (ms : List MemberSeen) (e : ErrorSeen) (part : List Event) (x y : Means) → RunStops s total ms e part x y → FaultsEnd part
  stopped_faults total ms e part x y h =
      subst FaultsEnd (sym h.cut)
      (then_faults h.planning h.running (plans_sound ms h.plans h.planning h.prepared.planned)
      (joined_faults (fleet_terms s total h.plans) h.running x y (joined h.plans) h.answer h.ran))

  -- where segments stand no call faulted before them
  pub fleet_sound : (total : Option ℕ) (ms : List MemberSeen) (answer : Result (List FleetEnd) ErrorSeen) (part : List Event) (x y : Means) (h : Finished s total ms answer part x y) → list_any is_fault (h.planning ++ h.running) ≡ false
  fleet_sound total ms answer part x y h =
      both_sound h.planning h.running (plans_sound ms h.plans h.planning h.prepared.planned)
      (no_fault h.running (joined_sound (fleet_terms s total h.plans) h.running x h.mid (joined h.plans) h.marks h.ran))

-- ---- why it has no answer for each member

-- the plan of a member was refused by the settings, under verdicts that agree with its answers
pub record RefusedPlan (ms : List MemberSeen) (e : ErrorSeen) (part : List Event) : Type 0 where
  pub before : List Event
  pub asked : List Event
  pub cut : part ≡ before ++ asked
  pub member : MemberSeen
  pub within : Contains ms member
  pub look : Look
  pub agrees : Agrees look (answers asked)
  pub refused : planning_error member.build.config member.build.env look member.output ≡ Some e

-- its cause: want of memory; a refused plan; a clash; a fault; a missing program; a fault of the pool; or want of turns, of
-- which none is left
abbrev pub IsFleetCause : List MemberSeen → List Event → ErrorSeen → Means → Means → Type 0
IsFleetCause ms part e x y = (e.kind ≡ NoMemory)
    ⊎ (RefusedPlan ms e part
    ⊎ (((pair : ℕ × ℕ) × (IsFirstClash (map files_of ms) pair × (e ≡ clash_error pair.0 pair.1)))
    ⊎ (HasFault part
    ⊎ ((list_any is_compiling (missing part) ≡ true)
    ⊎ (Rose x.faults y.faults
    ⊎ ((e.kind ≡ SpendsTurns) × (y.left ≡ 0)))))))

-- where all attempts compile, a program that is missing is one of a command that compiles
missing_compiles : (part : List Event) → list_all is_compiling (attempts part) ≡ true → missing part ≢ [] → list_any is_compiling (missing part) ≡ true
missing_compiles [] all some = absurd (some refl)
missing_compiles (Started id role cmd pipes held ∷ part) all some = missing_compiles part (and_parts (is_compile_role role) (list_all is_compiling (attempts part)) all).1 some
missing_compiles (Ran role cmd pipes status out err ∷ part) all some = missing_compiles part (and_parts (is_compile_role role) (list_all is_compiling (attempts part)) all).1 some
missing_compiles (Missing role cmd ∷ part) all some = ap (λ b. b || list_any is_compiling (missing part)) (and_parts (is_compile_role role) (list_all is_compiling (attempts part)) all).0
missing_compiles (event ∷ part) all some = missing_compiles part all some

tried_compile : (cmds : List Planned) (tried rest : List (Role × CommandSeen)) → list_all is_compile_command cmds ≡ true → map to_attempt cmds ≡ tried ++ rest → list_all is_compiling tried ≡ true
tried_compile cmds tried rest all first = (and_parts (list_all is_compiling tried) (list_all is_compiling rest) (sym (list_all-append is_compiling tried rest) ∙ ap (list_all is_compiling) (sym first) ∙ mapped cmds all)).0
  where
    mapped : (ps : List Planned) → list_all is_compile_command ps ≡ true → list_all is_compiling (map to_attempt ps) ≡ true
    mapped [] h = refl
    mapped (p ∷ ps) h =
        let k = and_parts (is_compile_command p) (list_all is_compile_command ps) h in
        and_from (is_compile_role p.role) (list_all is_compiling (map to_attempt ps)) k.0 (mapped ps k.1)

fault_behind : (part a b : List Event) → part ≡ a ++ b → HasFault b → HasFault part
fault_behind part a b cut fault = ap (list_any is_fault) cut ∙ list_any-append is_fault a b ∙ or_right (list_any is_fault a) (list_any is_fault b) fault

first_within : {X : Type 0} (x : X) (xs : List X) → Contains (x ∷ xs) x
first_within x xs = (0, (let l : 0 < length (x ∷ xs) = omega arith in l), refl)

later_within : {X : Type 0} (x : X) (xs : List X) (y : X) → Contains xs y → Contains (x ∷ xs) y
later_within x xs y c = (suc c.0, (let l = c.1 in let m : suc c.0 < length (x ∷ xs) = omega (arith, l) in m), c.2)

memory_kind : (e : ErrorSeen) → e ≡ no_memory → e.kind ≡ NoMemory
memory_kind e is = ap (λ (o : ErrorSeen). o.kind) is

module _ (s : Site) where
  -- one plan was refused
  planned_cause : (m : MemberSeen) (e : ErrorSeen) (part : List Event) (is : IsPlanned s m (Err e) part) → (e ≡ no_memory) ⊎ ((planning_error m.build.config m.build.env (its_look s m (Err e) part is) m.output ≡ Some e) ⊎ HasFault part)
  planned_cause m e part is =
      let its = planned_ends s m (Err e) part is in
      let look = its_look s m (Err e) part is in
      still_cause no_terms (planning_error m.build.config m.build.env look m.output) (planning_stages m.build.config m.build.env its.0 look its.1 m.output) part e no_means no_means
      (still_planning m.build.config m.build.env look m.output its.0 its.1) (plain_planning m.build.config m.build.env its.0 look its.1 m.output) (its.2.3 no_terms no_means)

  unplanned_cause : (ms : List MemberSeen) (e : ErrorSeen) (part : List Event) → PlansUntil s ms e part → (e ≡ no_memory) ⊎ (RefusedPlan ms e part ⊎ HasFault part)
  unplanned_cause [] e part h = inl h.0
  unplanned_cause (m ∷ ms) e part (inl h) = inl h.0
  unplanned_cause (m ∷ ms) e part (inr (inl h)) = elim (planned_cause m e part h) [
    | inl memory ↦ inl memory
    | inr (inl is) ↦ inr (inl (record {
      before = [];
      asked = part;
      cut = refl;
      member = m;
      within = first_within m ms;
      look = its_look s m (Err e) part h;
      agrees = its_agrees s m (Err e) part h;
      refused = is;
    }))
    | inr (inr fault) ↦ inr (inr fault)
  ]
  unplanned_cause (m ∷ ms) e part (inr (inr h)) = elim (unplanned_cause ms e h.2 h.3.2) [
    | inl memory ↦ inl memory
    | inr (inl r) ↦ inr (inl (record {
      before = h.1 ++ r.before;
      asked = r.asked;
      cut = h.3.0 ∙ ap (λ l. h.1 ++ l) r.cut ∙ sym (append_assoc h.1 r.before r.asked);
      member = r.member;
      within = later_within m ms r.member r.within;
      look = r.look;
      agrees = r.agrees;
      refused = r.refused;
    }))
    | inr (inr fault) ↦ inr (inr (fault_behind part h.1 h.2 h.3.0 fault))
  ]

  -- refused settings spend no turns
  unplanned_unspent : (ms : List MemberSeen) (e : ErrorSeen) (part : List Event) → e.kind ≡ SpendsTurns → PlansUntil s ms e part → ⊥
  unplanned_unspent [] e part kind h = let k : no_memory.kind ≡ SpendsTurns = ap (λ (o : ErrorSeen). o.kind) (sym h.0) ∙ kind in cc
  unplanned_unspent (m ∷ ms) e part kind (inl h) = let k : no_memory.kind ≡ SpendsTurns = ap (λ (o : ErrorSeen). o.kind) (sym h.0) ∙ kind in cc
  unplanned_unspent (m ∷ ms) e part kind (inr (inl h)) =
      let its = planned_ends s m (Err e) part h in
      let look = its_look s m (Err e) part h in
      let one = means 1 0 0 0 in
      let none : 1 ≡ 0 = halted_spent no_terms (planning_error m.build.config m.build.env look m.output) (planning_stages m.build.config m.build.env its.0 look its.1 m.output) part e one one (planning_unspent m.build.config m.build.env look m.output) (its.2.3 no_terms one) kind in
      omega (arith, none)
  unplanned_unspent (m ∷ ms) e part kind (inr (inr h)) = unplanned_unspent ms e h.2 kind h.3.2

  -- the end of a member ended the call
  ending_kind : (kind : ErrorKind) → ends_call kind ≡ true → (kind ≡ NoMemory) ⊎ (kind ≡ SpendsTurns)
  ending_kind SpendsTurns h = inr refl
  ending_kind NoMemory h = inl refl
  ending_kind _ h = absurd (cc)

  module _ (cmds : List Planned) (failure : ℕ → Option Failure) where
    member_cause : (m : MemberSeen) (failed : Option Failure) (e : ErrorSeen) (part : List Event) (given left : ℕ) → EndsMember s cmds m failed (Err e) part given left → (e.kind ≡ NoMemory) ⊎ ((e.kind ≡ SpendsTurns) × (left ≡ 0))
    member_cause m (Some f) e part given left h = inl (memory_kind e h.0)
    member_cause m None e part given left h = elim (ending_kind e.kind h.1) [
      | inl memory ↦ inl memory
      | inr kind ↦ inr (kind, segment_spent s m (Err e) part given h.0 e left refl kind h.2)
    ]

    end_cause : (place : ℕ) (ms : List MemberSeen) (e : ErrorSeen) (part : List Event) (given left : ℕ) → EndsUntil s cmds failure place ms e part given left → (e.kind ≡ NoMemory) ⊎ ((e.kind ≡ SpendsTurns) × (left ≡ 0))
    end_cause place [] e part given left h = inl (memory_kind e h.0)
    end_cause place (m ∷ ms) e part given left (inl h) = inl (memory_kind e h.0)
    end_cause place (m ∷ ms) e part given left (inr (inl h)) = member_cause m (failure place) e part given left h
    end_cause place (m ∷ ms) e part given left (inr (inr h)) = end_cause (suc place) ms e h.2 h.3 left h.4.2

  module _ (total : Option ℕ) (ms : List MemberSeen) (e : ErrorSeen) (part : List Event) (x y : Means) where
    abbrev ItsCause : Type 0
    ItsCause = IsFleetCause ms part e x y

    stopped_cause : (h : RunStops s total ms e part x y) → ItsCause
    stopped_cause h = elim (run_cause (fleet_terms s total h.plans) h.running e x y (joined h.plans) h.answer h.ran h.cause) [
      | inl memory ↦ inl (memory_kind e memory)
      | inr (inl fault) ↦ inr (inr (inr (inl (fault_behind part h.planning h.running h.cut fault))))
      | inr (inr (inl some)) ↦ inr (inr (inr (inr (inl (missing_in some)))))
      | inr (inr (inr (inl rose))) ↦ inr (inr (inr (inr (inr (inl rose)))))
      | inr (inr (inr (inr spent))) ↦ inr (inr (inr (inr (inr (inr spent)))))
    ]
      where
        missing_in : missing h.running ≢ [] → list_any is_compiling (missing part) ≡ true
        missing_in some =
            let first = joined_first (fleet_terms s total h.plans) h.running x y (joined h.plans) h.answer h.ran in
            let all = tried_compile (joined h.plans) (attempts h.running) first.0 (joined_compiles s ms h.plans h.planning h.prepared.planned) first.1 in
            ap (λ l. list_any is_compiling (missing l)) h.cut
            ∙ ap (list_any is_compiling) (flat_map-append missing_of h.planning h.running)
            ∙ list_any-append is_compiling (missing h.planning) (missing h.running)
            ∙ or_right (list_any is_compiling (missing h.planning)) (list_any is_compiling (missing h.running)) (missing_compiles h.running all some)

    -- why a fleet has no answer for each member
    pub fleet_cause : Fleet s total ms (Err e) part x y → ItsCause
    fleet_cause (inl h) = elim (unplanned_cause ms e part h.0) [
      | inl memory ↦ inl (memory_kind e memory)
      | inr (inl refused) ↦ inr (inl refused)
      | inr (inr fault) ↦ inr (inr (inr (inl fault)))
    ]
    fleet_cause (inr (inl h)) = elim h.clash [ inl memory ↦ inl (memory_kind e memory) | inr clash ↦ inr (inr (inl clash)) ]
    fleet_cause (inr (inr (inl h))) = stopped_cause h
    fleet_cause (inr (inr (inr h))) = elim (end_cause (joined h.plans) (failure_of (owners h.plans) h.marks) 0 ms e h.segments h.mid.left y.left h.ended) [
      | inl memory ↦ inl memory
      | inr spent ↦ inr (inr (inr (inr (inr (inr spent)))))
    ]

-- ---- where it has one

module _ (s : Site) (n p : ℕ) (patient : s.patience ≡ Some p) (most : MemberSeen → ℕ) (few : (m : MemberSeen) (look : Look) (writing : Writing) (firsts : Firsts) → length (commands_in (creation_stages (with_objects m.build (objects_at m)).config m.build.env writing look firsts m.output)) ≤ most m) where
  abbrev all_most : List MemberSeen → ℕ
  all_most = sum_by most

  one_more : (m : MemberSeen) (ms : List MemberSeen) → p * all_most (m ∷ ms) ≡ p * most m + p * all_most ms
  one_more m ms = ap (λ k. p * k) (sum_by-cons most m ms) ∙ mul-add p (most m) (all_most ms)

  module _ (cmds : List Planned) (failure : ℕ → Option Failure) where
    member_most : (m : MemberSeen) (failed : Option Failure) (end : FleetEnd) (part : List Event) (given left : ℕ) → EndsMember s cmds m failed (Ok end) part given left → turns part ≤ p * most m
    member_most m (Some f) end part given left h = let none : turns part ≡ 0 = ap turns h.1 in omega (arith, none)
    member_most m None Built part given left h = segment_most s m (Ok tt) part given h.0 p (most m) patient (few m)
    member_most m None (Refused e) part given left h = segment_most s m (Err e) part given h.0 p (most m) patient (few m)

    -- the member that wants turns makes fewer than that
    end_fewer : (place : ℕ) (ms : List MemberSeen) (e : ErrorSeen) (part : List Event) (given left : ℕ) → e.kind ≡ SpendsTurns → EndsUntil s cmds failure place ms e part given left → turns part < p * all_most ms
    end_fewer place [] e part given left kind h = absurd (let k : no_memory.kind ≡ SpendsTurns = ap (λ (o : ErrorSeen). o.kind) (sym h.0) ∙ kind in cc)
    end_fewer place (m ∷ ms) e part given left kind (inl h) = absurd (let k : no_memory.kind ≡ SpendsTurns = ap (λ (o : ErrorSeen). o.kind) (sym h.0) ∙ kind in cc)
    end_fewer place (m ∷ ms) e part given left kind (inr (inl h)) =
        let own : turns part < p * most m = by_failure (failure place) h in
        let sum = one_more m ms in
        omega (arith, own, sum)
      where
        by_failure : (f : Option Failure) → EndsMember s cmds m f (Err e) part given left → turns part < p * most m
        by_failure (Some f) k = absurd (let same : no_memory.kind ≡ SpendsTurns = ap (λ (o : ErrorSeen). o.kind) (sym k.0) ∙ kind in cc)
        by_failure None k = segment_fewer s m (Err e) part given k.0 p (most m) patient (few m) e refl kind
    end_fewer place (m ∷ ms) e part given left kind (inr (inr h)) =
        let own : turns h.1 ≤ p * most m = member_most m (failure place) h.0 h.1 given h.3 h.4.1 in
        let rest : turns h.2 < p * all_most ms = end_fewer (suc place) ms e h.2 h.3 left kind h.4.2 in
        let both : turns part ≡ turns h.1 + turns h.2 = ap turns h.4.0 ∙ sum_by-append turns_of h.1 h.2 in
        let sum = one_more m ms in
        omega (arith, own, rest, both, sum)

  -- Members of which none is refused and no two write one file, on a host whose programs are there and that doesn't fault,
  -- under a pool of one caller that doesn't fail, and with the patience for each command: each member has its end, or memory
  -- was wanted.
  pub fleet_complete : (ms : List MemberSeen) (e : ErrorSeen) (part : List Event) (x y : Means)
      → ((m : MemberSeen) (look : Look) → Contains ms m → planning_error m.build.config m.build.env look m.output ≡ None)
      → NoClash (map files_of ms)
      → list_any is_compiling (missing part) ≡ false
      → (HasFault part → ⊥)
      → (Rose x.faults y.faults → ⊥)
      → p * (sum_by sources ms + all_most ms) ≤ x.left
      → Fleet s (Some n) ms (Err e) part x y
      → e.kind ≡ NoMemory
  fleet_complete ms e part x y valid apart found sound kept enough h = elim (fleet_cause s (Some n) ms e part x y h) [
    | inl memory ↦ memory
    | inr (inl refused) ↦ absurd (let none : Some e ≡ None = sym refused.refused ∙ valid refused.member refused.look refused.within in cc)
    | inr (inr (inl clash)) ↦ absurd (apart clash.0.0 clash.0.1 clash.1.0.clash)
    | inr (inr (inr (inl fault))) ↦ absurd (sound fault)
    | inr (inr (inr (inr (inl lacking)))) ↦ absurd (let both : true ≡ false = sym lacking ∙ found in cc)
    | inr (inr (inr (inr (inr (inl rose))))) ↦ absurd (kept rose)
    | inr (inr (inr (inr (inr (inr spent))))) ↦ absurd (unspent h spent.0 spent.1)
  ]
    where
      sums : p * (sum_by sources ms + all_most ms) ≡ p * sum_by sources ms + p * all_most ms
      sums = mul-add p (sum_by sources ms) (all_most ms)

      total_turns : y.left ≡ 0 → turns part ≡ x.left
      total_turns none = let all = fleet_turns s (Some n) ms (Err e) part x y h in omega (arith, all, none)

      unspent : Fleet s (Some n) ms (Err e) part x y → e.kind ≡ SpendsTurns → y.left ≡ 0 → ⊥
      unspent (inl k) kind none = unplanned_unspent s ms e part kind k.0
      unspent (inr (inl k)) kind none = elim k.clash [
        | inl memory ↦ (let same : no_memory.kind ≡ SpendsTurns = ap (λ (o : ErrorSeen). o.kind) (sym memory) ∙ kind in cc)
        | inr clash ↦ (let same : InvalidArgument ≡ SpendsTurns = ap (λ (o : ErrorSeen). o.kind) (sym clash.1.1) ∙ kind in cc)
      ]
      unspent (inr (inr (inl k))) kind none =
          let run : turns k.running < p * length (joined k.plans) = stopped_fewer (fleet_terms s (Some n) k.plans) k.running x y n p refl patient (joined k.plans) k.answer k.ran e k.cause kind in
          let plans : turns k.planning ≡ 0 = plans_still s ms k.plans k.planning k.prepared.planned in
          let both : turns part ≡ turns k.planning + turns k.running = ap turns k.cut ∙ sum_by-append turns_of k.planning k.running in
          let count : length (joined k.plans) ≡ sum_by sources ms = joined_count s ms k.plans k.planning k.prepared.planned in
          let wide : p * length (joined k.plans) ≡ p * sum_by sources ms = ap (λ c. p * c) count in
          let all = total_turns none in
          omega (arith, run, plans, both, wide, all, enough, sums)
      unspent (inr (inr (inr k))) kind none =
          let run : turns k.running ≤ p * length (joined k.plans) = joined_most (fleet_terms s (Some n) k.plans) k.running x k.mid n p refl patient (joined k.plans) (Ok k.marks) k.ran in
          let libraries : turns k.segments < p * all_most ms = end_fewer (joined k.plans) (failure_of (owners k.plans) k.marks) 0 ms e k.segments k.mid.left y.left kind k.ended in
          let plans : turns k.planning ≡ 0 = plans_still s ms k.plans k.planning k.prepared.planned in
          let first : turns part ≡ turns k.planning + turns (k.running ++ k.segments) = ap turns k.cut ∙ sum_by-append turns_of k.planning (k.running ++ k.segments) in
          let rest : turns (k.running ++ k.segments) ≡ turns k.running + turns k.segments = sum_by-append turns_of k.running k.segments in
          let count : length (joined k.plans) ≡ sum_by sources ms = joined_count s ms k.plans k.planning k.prepared.planned in
          let wide : p * length (joined k.plans) ≡ p * sum_by sources ms = ap (λ c. p * c) count in
          let all = total_turns none in
          omega (arith, run, libraries, plans, first, rest, wide, all, enough, sums)
