-- The library of a member is linked by the path that it was written to, which is never refused: no answer of a fleet is
-- about the path of a library.
use Rattle.std.proofs.Common.{◌≡◌, ◌⊎◌, inl, inr, refl, sym, ◌∙◌, ap, subst, ℕ, suc, List, [], ◌∷◌, ◌++◌, get_or, Bool, true, false, Option, Some, None, option_map, Result, Ok, Err, if◌then◌else◌, arith}
use Rattle.std.specs.Prelude.{IfOk, codes}
use Rattle.cc_env.specs.Env.{EnvSeen}
use Rattle.cc_host.specs.Question.{Look, Agrees, answers}
use Rattle.cc_host.specs.declared.event.Event.{Event}
use Rattle.cc_flags.specs.Given.{is_disabled, first_of}
use Rattle.cc_flags.specs.declared.settings.BuildConfig.{BuildConfig}
use Rattle.cc_plan.specs.Refusal.{name_refusal, early_refusal, path_refusal}
use Rattle.cc_plan.specs.declared.error.PlanError.{PlanError}
use Rattle.cc_plan.proofs.LinkedLaws.{path_accepted}
use Rattle.cc_run.specs.declared.error.RunError.{RunError}
use Rattle.cc_run.specs.declared.error.RunError.TheVariants.{Failed}
use Rattle.cc_run.specs.declared.mark.Mark.{Mark}
use Rattle.cc_run.specs.declared.planned.Planned.{Planned}
use Rattle.cc_tool.proofs.SomeLemmas.{some_agree}
use Rattle.cc_build.specs.Archiving.{with_objects, unarchived_error, Creates, creation_error, creation_stages}
use Rattle.cc_build.specs.Build.{BuildSeen}
use Rattle.cc_build.specs.Course.{course_alone}
use Rattle.cc_build.specs.Error.{ErrorSeen, no_memory}
use Rattle.cc_build.specs.Linking.{directive_error, directive_stages}
use Rattle.cc_build.specs.Planning.{planning_error, planning_stages}
use Rattle.cc_build.specs.Promises.{terms_for}
use Rattle.cc_build.specs.Refusal.{disabled_error, plan_error, early_error, late_error, archive_error, link_error}
use Rattle.cc_build.specs.RunErrors.{run_error}
use Rattle.cc_build.specs.Went.{Means}
use Rattle.cc_build.specs.declared.planning.CompilePlan.{CompilePlan}
use Rattle.cc_build.proofs.CauseLaws.{IsPathless, ArePathless, memory_pathless, run_pathless, ends_pathless, first_pathless, archive_pathless, links_pathless, run_refusal_pathless, unarchived_pathless}
use Rattle.cc_fleet.specs.Failures.{Failure}
use Rattle.cc_fleet.specs.Fleet.{Site, MemberSeen, IsPlanned, PlansUntil, Segment, LinksBehind, EndsBuilt, EndsMember, EndsEach, EndsUntil, Finished, Fleet, IsClash, clash_error, objects_at, library_at}
use Rattle.cc_fleet.specs.Run.{StopsRun}
use Rattle.cc_fleet.specs.declared.members.FleetEnd.{FleetEnd}
use Rattle.cc_fleet.specs.declared.members.FleetEnd.TheVariants.{Built, Refused}
use Rattle.cc_fleet.proofs.EndLemmas.{no_terms, no_means}

-- ---- settings

first_part : (a b c : Option ErrorSeen) → ArePathless (first_of a (first_of b c)) → ArePathless (first_of a b)
first_part (Some x) b c h e is = h e is
first_part None (Some y) c h e is = h e is
first_part None None c h e is = absurd (cc)

planning_pathless : (set : BuildConfig) (env : EnvSeen) (look : Look) (output : List ℕ) → ArePathless (planning_error set env look output)
planning_pathless set env look output =
    first_part (early_error set env output) (late_error set env look output) (first_of (archive_error set env look output) (link_error set env look output))
    (run_refusal_pathless set env look output)

creation_pathless : (set : BuildConfig) (env : EnvSeen) (look : Look) (output : List ℕ) → ArePathless (creation_error set env look output)
creation_pathless set env look output =
    first_pathless (unarchived_error set env output) (archive_error set env look output) (unarchived_pathless set env look output) (archive_pathless set env look output)

directive_pathless : (set : BuildConfig) (env : EnvSeen) (look : Look) (library : List ℕ) → path_refusal set env library ≡ None → ArePathless (directive_error set env look library)
directive_pathless set env look library accepted = by_path (path_refusal set env library) accepted
  where
    by_path : (refusal : Option PlanError) → refusal ≡ None → ArePathless (first_of (option_map (plan_error set env library) refusal) (link_error set env look library))
    by_path None h = links_pathless set env look library
    by_path (Some error) h = absurd (cc)

-- where an archive isn't refused, neither are its settings
passed : (set : BuildConfig) (env : EnvSeen) (look : Look) (output : List ℕ) → creation_error set env look output ≡ None → early_refusal set env output ≡ None
passed set env look output h = by_checks (name_refusal output) (is_disabled env) (early_refusal set env output) (archive_error set env look output) h
  where
    f : PlanError → ErrorSeen
    f = plan_error set env output

    by_checks : (name : Option PlanError) (disabled : Bool) (early : Option PlanError) (later : Option ErrorSeen) → first_of (first_of (option_map f name) (if disabled then Some disabled_error else option_map f early)) later ≡ None → early ≡ None
    by_checks (Some x) disabled early later k = absurd (cc)
    by_checks None true early later k = absurd (cc)
    by_checks None false None later k = refl
    by_checks None false (Some x) later k = absurd (cc)

-- ---- one member

module _ (s : Site) (m : MemberSeen) where
  abbrev b : BuildSeen
  b = with_objects m.build (objects_at m)

  planned_pathless : (e : ErrorSeen) (part : List Event) → IsPlanned s m (Err e) part → IsPathless e
  planned_pathless e part p =
      let some = some_agree (answers part) p.asked.once in
      let its = p.ends.under some.0 some.1 in
      ends_pathless {T = CompilePlan} no_terms (planning_error m.build.config m.build.env some.0 m.output) (planning_stages m.build.config m.build.env its.0 some.0 its.1 m.output) part (Err e) no_means no_means
      (planning_pathless m.build.config m.build.env some.0 m.output) (its.2.3 no_terms no_means) e refl

  segment_pathless : (e : ErrorSeen) (part : List Event) (given : ℕ) → Segment s m (Err e) part given → IsPathless e
  segment_pathless e part given g = by_library g.written g.path g.links (λ look. g.creates.under look)
    where
      by_library : (written : Result (List ℕ) ErrorSeen) → IfOk written (λ path. path ≡ library_at m) → LinksBehind s g.listens m written (Err e) g.linked → ((look : Look) → Agrees look (answers g.made) → Creates b g.listens s.patience given m.output written look g.made) → IsPathless e
      by_library (Err f) at links creates =
          let some = some_agree (answers g.made) g.made_asks.once in
          let made = creates some.0 some.1 in
          let c = course_alone s.patience given made.0 in
          let both : Err e ≡ Err f = links.0 in
          let own : e ≡ f = cc in
          subst IsPathless (sym own)
          (ends_pathless {T = List ℕ} (terms_for b g.listens c) (creation_error b.config b.env some.0 m.output) (creation_stages b.config b.env made.1.0 some.0 made.1.1 m.output) g.made (Err f) c.before c.after
          (creation_pathless b.config b.env some.0 m.output) made.1.2.1 f refl)
      by_library (Ok library) at links creates =
          let first = some_agree (answers g.made) g.made_asks.once in
          let made = creates first.0 first.1 in
          let fine : early_refusal b.config b.env m.output ≡ None = passed b.config b.env first.0 m.output made.1.2.1.0 in
          let some = some_agree (answers g.linked) links.0.once in
          let ends = links.1.under some.0 some.1 in
          let accepted : path_refusal m.build.config m.build.env library ≡ None = subst (λ (l : List ℕ). path_refusal m.build.config m.build.env l ≡ None) (sym at) (path_accepted b.config b.env m.output fine m.build.config) in
          ends_pathless {T = Unit {0}} no_terms (directive_error m.build.config m.build.env some.0 library) (directive_stages m.build.config m.build.env g.listens some.0 ends.0 library) g.linked (Err e) no_means no_means
          (directive_pathless m.build.config m.build.env some.0 library accepted) (ends.1.1 no_terms no_means) e refl

-- ---- all members

-- no member was refused so
abbrev pub EndPathless : List FleetEnd → Type 0
EndPathless [] = Unit {0}
EndPathless (Built ∷ ends) = EndPathless ends
EndPathless (Refused e ∷ ends) = IsPathless e × EndPathless ends

module _ (s : Site) where
  until_pathless : (ms : List MemberSeen) (e : ErrorSeen) (part : List Event) → PlansUntil s ms e part → IsPathless e
  until_pathless [] e part h = memory_pathless e h.0
  until_pathless (m ∷ ms) e part (inl h) = memory_pathless e h.0
  until_pathless (m ∷ ms) e part (inr (inl h)) = planned_pathless s m e part h
  until_pathless (m ∷ ms) e part (inr (inr h)) = until_pathless ms e h.2 h.3.2

  module _ (cmds : List Planned) (failure : ℕ → Option Failure) where
    refused_pathless : (m : MemberSeen) (failed : Option Failure) (e : ErrorSeen) (part : List Event) (given left : ℕ) → EndsMember s cmds m failed (Ok (Refused e)) part given left → IsPathless e
    refused_pathless m (Some f) e part given left h = run_pathless cmds (Failed f.0 f.1) e (inr h.0)
    refused_pathless m None e part given left h = segment_pathless s m e part given h.0

    ended_pathless : (m : MemberSeen) (failed : Option Failure) (e : ErrorSeen) (part : List Event) (given left : ℕ) → EndsMember s cmds m failed (Err e) part given left → IsPathless e
    ended_pathless m (Some f) e part given left h = memory_pathless e h.0
    ended_pathless m None e part given left h = segment_pathless s m e part given h.0

    each_pathless : (place : ℕ) (ms : List MemberSeen) (ends : List FleetEnd) (part : List Event) (given left : ℕ) → EndsEach s cmds failure place ms ends part given left → EndPathless ends
    each_pathless place [] [] part given left h = tt
    each_pathless place [] (end ∷ ends) part given left h = absurd h
    each_pathless place (m ∷ ms) [] part given left h = absurd h
    each_pathless place (m ∷ ms) (Built ∷ ends) part given left h = each_pathless (suc place) ms ends h.1 h.2 left h.3.2
    each_pathless place (m ∷ ms) (Refused e ∷ ends) part given left h =
        (refused_pathless m (failure place) e h.0 given h.2 h.3.1, each_pathless (suc place) ms ends h.1 h.2 left h.3.2)

    end_pathless : (place : ℕ) (ms : List MemberSeen) (e : ErrorSeen) (part : List Event) (given left : ℕ) → EndsUntil s cmds failure place ms e part given left → IsPathless e
    end_pathless place [] e part given left h = memory_pathless e h.0
    end_pathless place (m ∷ ms) e part given left (inl h) = memory_pathless e h.0
    end_pathless place (m ∷ ms) e part given left (inr (inl h)) = ended_pathless m (failure place) e part given left h
    end_pathless place (m ∷ ms) e part given left (inr (inr h)) = end_pathless (suc place) ms e h.2 h.3 left h.4.2

clash_pathless : (first second : ℕ) → IsPathless (clash_error first second)
clash_pathless first second path is =
    let m : get_or (clash_error first second).message 0 0 ≡ 101 = ap (λ (e : ErrorSeen). get_or e.message 0 0) is in
    omega (arith, m)

stops_pathless : (cmds : List Planned) (answer : Result (List Mark) RunError) (e : ErrorSeen) → StopsRun cmds answer e → IsPathless e
stops_pathless cmds (Ok marks) e h = memory_pathless e h
stops_pathless cmds (Err error) e h = run_pathless cmds error e h

-- ---- a whole fleet

module _ (s : Site) (total : Option ℕ) (ms : List MemberSeen) (part : List Event) (x y : Means) where
  pub members_pathless : (ends : List FleetEnd) → Fleet s total ms (Ok ends) part x y → EndPathless ends
  members_pathless ends h = each_pathless s _ _ 0 ms ends h.segments h.mid.left y.left h.ended

  pub fleet_pathless : (e : ErrorSeen) → Fleet s total ms (Err e) part x y → IsPathless e
  fleet_pathless e (inl h) = until_pathless s ms e part h.0
  fleet_pathless e (inr (inl h)) = by_clash h.clash
    where
      by_clash : IsClash ms e → IsPathless e
      by_clash (inl memory) = memory_pathless e memory
      by_clash (inr pair) = subst IsPathless (sym pair.1.1) (clash_pathless pair.0.0 pair.0.1)
  fleet_pathless e (inr (inr (inl h))) = stops_pathless _ h.answer e h.cause
  fleet_pathless e (inr (inr (inr h))) = end_pathless s _ _ 0 ms e h.segments h.mid.left y.left h.ended
