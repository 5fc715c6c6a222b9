-- Where an event stands in the part of a fleet, and what stands in its stretches.
use Rattle.std.proofs.Common.{◌≡◌, ◌⊎◌, inl, inr, ℕ, suc, ◌+◌, List, [], ◌∷◌, ◌++◌, length, map, Bool, true, false, if◌then◌else◌, is_some, Option, Some, None, Result, Ok, Err, refl, sym, ◌∙◌, ap, subst, append-nil}
use Rattle.std.specs.List.{list_any}
use Rattle.std.proofs.lemmas.Bool.{or_parts, or_from}
use Rattle.std.proofs.lemmas.Grind.{flat_map-append}
use Rattle.std.proofs.lemmas.List.Folds.{list_any-append}
use Rattle.cc_host.specs.declared.event.Event.{Event}
use Rattle.cc_host.specs.declared.event.Event.TheVariants.{Fault}
use Rattle.cc_host.specs.declared.event.LineKind.TheVariants.{Rerun}
use Rattle.cc_flags.specs.Given.{is_disabled}
use Rattle.cc_flags.specs.declared.settings.BuildConfig.{BuildConfig}
use Rattle.cc_env.specs.Env.{EnvSeen}
use Rattle.cc_host.specs.Question.{Look, answers}
use Rattle.cc_plan.specs.Plan.{objects_of, compile_in}
use Rattle.cc_plan.specs.Refusal.{early_refusal, late_refusal}
use Rattle.cc_plan.specs.Reruns.{rerun_names}
use Rattle.cc_flags.specs.declared.object.Object.{Object}
use Rattle.cc_host.specs.Command.{CommandSeen}
use Rattle.cc_run.specs.Outcome.{by_failure, list_result}
use Rattle.cc_run.specs.Marks.{last_failure}
use Rattle.cc_run.specs.Book.{faults_by}
use Rattle.cc_run.specs.Part.{faults}
use Rattle.cc_host.specs.declared.event.Status.{Status}
use Rattle.cc_tool.proofs.SomeLemmas.{some_agree}
use Rattle.cc_run.specs.declared.error.RunError.{RunError}
use Rattle.cc_run.specs.declared.error.RunError.TheVariants.{Failed}
use Rattle.cc_run.specs.declared.mark.Mark.{Mark}
use Rattle.cc_run.specs.declared.planned.Planned.{Planned}
use Rattle.cc_build.specs.Error.{ErrorSeen}
use Rattle.cc_build.specs.Failed.{is_fault}
use Rattle.cc_build.specs.Intermediates.{source_reads}
use Rattle.cc_build.specs.Order.{is_archive_event, is_archive_role}
use Rattle.cc_build.specs.Planning.{planning_stages}
use Rattle.cc_build.specs.RunErrors.{run_error}
use Rattle.cc_build.specs.Stage.{Stage, asked_then, beside, calls, compile_planned, compiles_planned, folder_stages, name_stages, opening_steps, rerun_lines}
use Rattle.cc_build.specs.Stage.Stage.{Asks, RunsOne, RunsAll}
use Rattle.cc_build.specs.Way.{Found, Firsts, chosen}
use Rattle.cc_build.specs.Went.{Terms, Means, Partly, RanAll, RanOne}
use Rattle.cc_build.specs.declared.planning.CompilePlan.{CompilePlan}
use Rattle.cc_build.proofs.OrderLaws.{IsSilent, NoArchive, no_archive_then, no_folder_archives, no_line_archives, no_note_archives, partly_silent}
use Rattle.cc_build.proofs.RanLaws.{said_all, said_one}
use Rattle.cc_build.proofs.SourceLaws.{opening_notes}
use Rattle.cc_build.proofs.StopLaws.{went_faultless}
use Rattle.cc_fleet.specs.Fleet.{Site, MemberSeen, IsPlanned, PlansEach, commands_of, joined}
use Rattle.cc_fleet.specs.Run.{RanJoined, marks_of}
use Rattle.cc_command.proofs.FleetLaws.{IsBegun, as_list, no_terms, no_means, planned_begun}

-- ---- an event in one of two parts

-- an event that passes a test stands behind a part in which none does
pub past : (test : Event → Bool) (front rest before after : List Event) (event : Event) → list_any test front ≡ false → test event ≡ true → front ++ rest ≡ before ++ event ∷ after → (more : List Event) × ((before ≡ front ++ more) × (rest ≡ more ++ event ∷ after))
past test [] rest before after event none is e = (before, (refl, e))
past test (f ∷ front) rest [] after event none is e =
    let k = or_parts (test f) (list_any test front) none in
    let same : f ≡ event = cc in
    let both : true ≡ false = sym is ∙ ap test (sym same) ∙ k.0 in
    absurd (cc)
past test (f ∷ front) rest (b ∷ before) after event none is e =
    let k = or_parts (test f) (list_any test front) none in
    let same : b ≡ f = cc in
    let tail : front ++ rest ≡ before ++ event ∷ after = cc in
    let r = past test front rest before after event k.1 is tail in
    (r.0, (ap (λ l. b ∷ l) r.1.0 ∙ ap (λ x. x ∷ (front ++ r.0)) same, r.1.1))

-- it stands in no such part
pub nowhere : (test : Event → Bool) (part before after : List Event) (event : Event) → list_any test part ≡ false → test event ≡ true → part ≡ before ++ event ∷ after → ⊥
nowhere test part before after event none is e =
    let r = past test part [] before after event none is (append-nil part ∙ e) in
    empty r.0 r.1.1
  where
    empty : (more : List Event) → [] ≡ more ++ event ∷ after → ⊥
    empty [] h = cc
    empty (m ∷ more) h = cc

-- it stands in the first of two parts, or behind that
pub which : (a b before after : List Event) (event : Event) → a ++ b ≡ before ++ event ∷ after → ((rest : List Event) × ((a ≡ before ++ event ∷ rest) × (after ≡ rest ++ b))) ⊎ ((more : List Event) × ((before ≡ a ++ more) × (b ≡ more ++ event ∷ after)))
which [] b before after event e = inr (before, (refl, e))
which (x ∷ a) b [] after event e =
    let same : x ≡ event = cc in
    let rest : a ++ b ≡ after = cc in
    inl (a, (ap (λ v. v ∷ a) same, sym rest))
which (x ∷ a) b (y ∷ before) after event e = step (which a b before after event tail)
  where
    same : x ≡ y
    same = cc

    tail : a ++ b ≡ before ++ event ∷ after
    tail = cc

    step : ((rest : List Event) × ((a ≡ before ++ event ∷ rest) × (after ≡ rest ++ b))) ⊎ ((more : List Event) × ((before ≡ a ++ more) × (b ≡ more ++ event ∷ after))) → ((rest : List Event) × ((x ∷ a ≡ y ∷ (before ++ event ∷ rest)) × (after ≡ rest ++ b))) ⊎ ((more : List Event) × ((y ∷ before ≡ x ∷ (a ++ more)) × (b ≡ more ++ event ∷ after)))
    step (inl r) = inl (r.0, (ap (λ v. v ∷ a) same ∙ ap (λ l. y ∷ l) r.1.0, r.1.1))
    step (inr r) = inr (r.0, (ap (λ v. v ∷ before) (sym same) ∙ ap (λ l. x ∷ l) r.1.0, r.1.1))

-- a test that none passes in two parts
pub none_both : (test : Event → Bool) (a b : List Event) → list_any test a ≡ false → list_any test b ≡ false → list_any test (a ++ b) ≡ false
none_both test a b p q = list_any-append test a b ∙ or_from (list_any test a) (list_any test b) p q

-- ---- a plan

-- no stage of a plan archives
no_planning_archives : (set : BuildConfig) (env : EnvSeen) (found : Found) (look : Look) (firsts : Firsts) (output : List ℕ) → NoArchive (planning_stages set env found look firsts output)
no_planning_archives set env found look firsts output = by_checks (is_some (early_refusal set env output)) (is_disabled env) (is_some (late_refusal set env look))
  where
    opening : List Stage
    opening = calls (opening_steps set env found look)

    names : List Stage
    names = name_stages set env (source_reads set) look firsts

    told : NoArchive (calls (opening_steps set env found look) ++ Asks ∷ name_stages set env (source_reads set) look firsts)
    told =
        no_archive_then opening (Asks ∷ names) (no_note_archives (opening_steps set env found look) (opening_notes set env found look))
        (no_line_archives Rerun (rerun_lines (chosen firsts.names (rerun_names (source_reads set) set env look))))

    by_late : (late : Bool) → NoArchive (Asks ∷ (if late then [] else (calls (opening_steps set env found look) ++ Asks ∷ name_stages set env (source_reads set) look firsts)))
    by_late true = refl
    by_late false = told

    by_disabled : (disabled late : Bool) → NoArchive (if disabled then [] else Asks ∷ (if late then [] else (calls (opening_steps set env found look) ++ Asks ∷ name_stages set env (source_reads set) look firsts)))
    by_disabled true late = refl
    by_disabled false late = by_late late

    by_checks : (early disabled late : Bool) → NoArchive (if early then [] else folder_stages set env ++ (if disabled then [] else Asks ∷ (if late then [] else (calls (opening_steps set env found look) ++ Asks ∷ name_stages set env (source_reads set) look firsts))))
    by_checks true disabled late = refl
    by_checks false disabled late =
        no_archive_then (folder_stages set env) (if disabled then [] else Asks ∷ (if late then [] else (calls (opening_steps set env found look) ++ Asks ∷ name_stages set env (source_reads set) look firsts))) (no_folder_archives set env) (by_disabled disabled late)

pub planned_silent : (s : Site) (m : MemberSeen) (answer : Result CompilePlan ErrorSeen) (part : List Event) → IsPlanned s m answer part → IsSilent part
planned_silent s m answer part p =
    let b : IsBegun m part = planned_begun s m answer part p in
    partly_silent no_terms (planning_stages m.build.config m.build.env b.found b.look b.firsts m.output) part no_means no_means (no_planning_archives m.build.config m.build.env b.found b.look b.firsts m.output) b.partly

-- where a member was planned no call of the host failed
pub planned_sound : (s : Site) (m : MemberSeen) (plan : CompilePlan) (part : List Event) → IsPlanned s m (Ok plan) part → list_any is_fault part ≡ false
planned_sound s m plan part p =
    let some = some_agree (answers part) p.asked.once in
    let h = p.ends.under some.0 some.1 in
    went_faultless no_terms (planning_stages m.build.config m.build.env h.0 some.0 h.1 m.output) part no_means no_means (h.2.3 no_terms no_means).1

pub plans_sound : (s : Site) (ms : List MemberSeen) (plans : List CompilePlan) (part : List Event) → PlansEach s ms plans part → list_any is_fault part ≡ false
plans_sound s [] [] part h = ap (list_any is_fault) h
plans_sound s [] (p ∷ ps) part h = absurd h
plans_sound s (m ∷ ms) [] part h = absurd h
plans_sound s (m ∷ ms) (p ∷ ps) part h = ap (list_any is_fault) h.2.0 ∙ none_both is_fault h.0 h.1 (planned_sound s m p h.0 h.2.1) (plans_sound s ms ps h.1 h.2.2)

pub plans_silent : (s : Site) (ms : List MemberSeen) (plans : List CompilePlan) (part : List Event) → PlansEach s ms plans part → IsSilent part
plans_silent s [] [] part h = ap (list_any is_archive_event) h
plans_silent s [] (p ∷ ps) part h = absurd h
plans_silent s (m ∷ ms) [] part h = absurd h
plans_silent s (m ∷ ms) (p ∷ ps) part h = ap (list_any is_archive_event) h.2.0 ∙ none_both is_archive_event h.0 h.1 (planned_silent s m (Ok p) h.0 h.2.1) (plans_silent s ms ps h.1 h.2.2)

-- ---- the run of all commands

-- it is one of stages
pub ran_partly : (t : Terms) (ps : List Planned) (part : List Event) (answer : Result (List Mark) RunError) (x y : Means) → RanJoined t ps part answer x y → Partly t (beside ps) part x y
ran_partly t [] part answer x y h = (h.0, h.2)
ran_partly t (p ∷ []) part answer x y h = by_end h.0 h.1.0
  where
    by_end : (own : Result (Unit {0}) RunError) → RanOne t p part own x y → Partly t (RunsOne p ∷ []) part x y
    by_end (Ok done) r = inr (inr (part, [], y, (sym (append-nil part), r, (refl, refl))))
    by_end (Err error) r = inr (inl (run_error (p ∷ []) error, (error, (r, inr refl))))
ran_partly t (p ∷ q ∷ ps) part answer x y h = by_end (list_result answer) (as_list t (p ∷ q ∷ ps) part answer x y h)
  where
    by_end : (own : Result (Unit {0}) RunError) → RanAll t (p ∷ q ∷ ps) part own x y → Partly t (RunsAll (p ∷ q ∷ ps) ∷ []) part x y
    by_end (Ok done) r = inr (inr (part, [], y, (sym (append-nil part), r, (refl, refl))))
    by_end (Err error) r = inr (inl (run_error (p ∷ q ∷ ps) error, (error, (r, inr refl))))

-- without a fault of any call none counts
no_fault : (part : List Event) → faults part ≡ [] → list_any is_fault part ≡ false
no_fault [] h = refl
no_fault (Fault call why ∷ part) h = absurd (cc)
no_fault (event ∷ part) h = no_fault part h

failed_faultless : (o : Option (ℕ × Status)) (part : List Event) → faults part ≡ faults_by (by_failure o) → list_any is_fault part ≡ false
failed_faultless None part is = no_fault part is
failed_faultless (Some f) part is = no_fault part is

lone_faultless : (own : Result (Unit {0}) RunError) (marks : List Mark) (part : List Event) → Ok marks ≡ marks_of own → faults part ≡ faults_by own → list_any is_fault part ≡ false
lone_faultless (Ok done) marks part is none = no_fault part none
lone_faultless (Err (Failed place status)) marks part is none = no_fault part none
lone_faultless (Err error) marks part is none = absurd (cc)

-- where it was run to its end no call of the host failed
pub ran_sound : (t : Terms) (ps : List Planned) (part : List Event) (marks : List Mark) (x y : Means) → RanJoined t ps part (Ok marks) x y → list_any is_fault part ≡ false
ran_sound t [] part marks x y h = ap (list_any is_fault) h.0
ran_sound t (p ∷ []) part marks x y h = lone_faultless h.0 marks part h.1.1 (said_one t p part h.0 x y h.1.0).faults_are
ran_sound t (p ∷ q ∷ ps) part marks x y h = failed_faultless (last_failure marks) part (said_all t (p ∷ q ∷ ps) part (list_result (Ok marks)) x y (as_list t (p ∷ q ∷ ps) part (Ok marks) x y h)).faults_are

abbrev archives : Planned → Bool
archives p = is_archive_role p.role

compiles_alone : (here : Option (List ℕ)) (f : Object → CommandSeen) (objects : List Object) → list_any archives (map (λ object. compile_planned here object (f object)) objects) ≡ false
compiles_alone here f [] = refl
compiles_alone here f (object ∷ objects) = compiles_alone here f objects

planned_compiles : (set : BuildConfig) (env : EnvSeen) (here : Option (List ℕ)) (look : Look) → list_any archives (compiles_planned set env here look) ≡ false
unfolding compiles_planned
planned_compiles set env here look = compiles_alone here (compile_in set env look) (objects_of set env)

plan_compiles : (s : Site) (m : MemberSeen) (plan : CompilePlan) (part : List Event) → IsPlanned s m (Ok plan) part → list_any archives (commands_of plan) ≡ false
plan_compiles s m plan part p =
    let some = some_agree (answers part) p.asked.once in
    let h = p.ends.under some.0 some.1 in
    ap (list_any archives) h.2.2.commands ∙ planned_compiles m.build.config m.build.env h.0.here some.0

-- all of them compile
pub joined_compile : (s : Site) (ms : List MemberSeen) (plans : List CompilePlan) (part : List Event) → PlansEach s ms plans part → list_any archives (joined plans) ≡ false
joined_compile s [] [] part h = refl
joined_compile s [] (p ∷ ps) part h = absurd h
joined_compile s (m ∷ ms) [] part h = absurd h
joined_compile s (m ∷ ms) (p ∷ ps) part h =
    list_any-append archives (commands_of p) (joined ps) ∙ or_from (list_any archives (commands_of p)) (list_any archives (joined ps)) (plan_compiles s m p h.0 h.2.1) (joined_compile s ms ps h.1 h.2.2)

no_beside_archives : (ps : List Planned) → list_any archives ps ≡ false → NoArchive (beside ps)
no_beside_archives [] h = refl
no_beside_archives (p ∷ []) h = h
no_beside_archives (p ∷ q ∷ ps) h = or_from (list_any archives (p ∷ q ∷ ps)) false h refl

pub ran_silent : (t : Terms) (ps : List Planned) (part : List Event) (answer : Result (List Mark) RunError) (x y : Means) → list_any archives ps ≡ false → RanJoined t ps part answer x y → IsSilent part
ran_silent t ps part answer x y none h = partly_silent t (beside ps) part x y (no_beside_archives ps none) (ran_partly t ps part answer x y h)
