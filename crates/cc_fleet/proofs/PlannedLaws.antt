-- What the plan of one member and the segment of one member leave.
use Rattle.std.proofs.Common.{◌≡◌, ℕ, ◌+◌, ◌*◌, ◌<◌, ◌≤◌, List, [], ◌∷◌, ◌++◌, length, map, Bool, true, if◌then◌else◌, is_some, Option, Some, Result, Ok, Err, refl, sym, ◌∙◌, ap, subst, arith, append-nil, false}
use Rattle.std.specs.List.{list_all, list_any}
use Rattle.std.proofs.lemmas.List.{length-map}
use Rattle.std.proofs.lemmas.List.Sums.{sum_by-append}
use Rattle.std.proofs.Math.Nat.{mul-le-mul_left}
use Rattle.cc_env.specs.Env.{EnvSeen}
use Rattle.cc_host.specs.Children.{running}
use Rattle.cc_host.specs.Question.{Look, Agrees, answers}
use Rattle.cc_host.specs.declared.event.Event.{Event}
use Rattle.cc_host.specs.declared.event.LineKind.TheVariants.{Rerun}
use Rattle.cc_flags.specs.Given.{is_disabled}
use Rattle.cc_flags.specs.declared.settings.BuildConfig.{BuildConfig}
use Rattle.cc_flags.specs.declared.object.Object.{Object}
use Rattle.cc_plan.specs.Plan.{compile_in, objects_of}
use Rattle.cc_plan.specs.Refusal.{early_refusal, late_refusal}
use Rattle.cc_plan.specs.Reruns.{rerun_names}
use Rattle.cc_run.specs.Part.{turns, turns_of}
use Rattle.cc_run.specs.declared.planned.Planned.{Planned}
use Rattle.cc_tool.proofs.SomeLemmas.{some_agree}
use Rattle.cc_build.specs.Archiving.{with_objects, Creates, creation_error, creation_stages}
use Rattle.cc_build.specs.Attempts.{attempts, to_attempt}
use Rattle.cc_build.specs.Build.{BuildSeen}
use Rattle.cc_build.specs.Course.{course_alone}
use Rattle.cc_build.specs.Error.{ErrorSeen}
use Rattle.cc_build.specs.Failed.{is_fault}
use Rattle.cc_build.specs.Intermediates.{source_reads}
use Rattle.cc_build.specs.Linking.{directive_error, directive_stages}
use Rattle.cc_build.specs.Planning.{PlanningEnds, planning_error, planning_stages}
use Rattle.cc_build.specs.Promises.{terms_for, is_compile_role, NothingRuns, FaultsEnd}
use Rattle.cc_build.specs.Stage.{Stage, calls, commands_in, compile_planned, compiles_planned, opening_steps, folder_stages, name_stages, rerun_lines}
use Rattle.cc_build.specs.Stage.Stage.{Calls, Asks, Tries, RunsOne, RunsAll}
use Rattle.cc_build.specs.Way.{Found, Firsts, Writing, chosen}
use Rattle.cc_build.specs.Went.{means, Halted, Ends, Partly}
use Rattle.cc_build.specs.declared.error.ErrorKind.TheVariants.{TurnsSpent as SpendsTurns}
use Rattle.cc_build.specs.declared.planning.CompilePlan.{CompilePlan}
use Rattle.cc_build.proofs.AloneLaws.{AreStill}
use Rattle.cc_build.proofs.ArchivingLaws.{creates_settled, creates_faults}
use Rattle.cc_build.proofs.ChildLaws.{running_behind}
use Rattle.cc_build.proofs.FaultLaws.{then_faults}
use Rattle.cc_build.proofs.OrderLaws.{ended_partly}
use Rattle.cc_build.proofs.PlanningLaws.{still_planning}
use Rattle.cc_build.proofs.PromiseLaws.{fault_ends}
use Rattle.cc_build.proofs.SettledLaws.{partly_settled, partly_first}
use Rattle.cc_build.proofs.SourceLaws.{opening_notes, planned_count}
use Rattle.cc_build.proofs.StopLaws.{ArePlain, plain_then, plain_notes, plain_lines, plain_unless, plain_folder, went_faultless}
use Rattle.cc_build.proofs.TurnLaws.{ended_turns, ended_most, halted_bound, halted_spent}
use Rattle.cc_fleet.specs.Fleet.{Site, MemberSeen, IsPlanned, Segment, LinksBehind, objects_at}
use Rattle.cc_fleet.proofs.CauseLaws.{creation_unspent, directive_unspent}
use Rattle.cc_fleet.proofs.EndLemmas.{no_terms, no_means, links_still}

-- a command that compiles
abbrev pub is_compile_command : Planned → Bool
is_compile_command p = is_compile_role p.role

-- ---- the stages of a plan

-- stages that only call the host and ask have no command
still_commands : (stages : List Stage) → AreStill stages → commands_in stages ≡ []
still_commands [] still = refl
still_commands (Calls step ∷ stages) still = still_commands stages still.1
still_commands (Asks ∷ stages) still = still_commands stages still.1
still_commands (Tries refused p ∷ stages) still = absurd still.0
still_commands (RunsOne p ∷ stages) still = absurd still.0
still_commands (RunsAll ps ∷ stages) still = absurd still.0

pub plain_planning : (set : BuildConfig) (env : EnvSeen) (found : Found) (look : Look) (firsts : Firsts) (output : List ℕ) → ArePlain (planning_stages set env found look firsts output)
plain_planning set env found look firsts output =
    let opening = opening_steps set env found look in
    let names : List Stage = name_stages set env (source_reads set) look firsts in
    let told : List Stage = calls opening ++ Asks ∷ names in
    let asked : List Stage = Asks ∷ (if is_some (late_refusal set env look) then [] else told) in
    let rest : List Stage = if is_disabled env then [] else asked in
    let behind : ArePlain (Asks ∷ names) = (tt, plain_lines Rerun (rerun_lines (chosen firsts.names (rerun_names (source_reads set) set env look)))) in
    plain_unless (is_some (early_refusal set env output)) (folder_stages set env ++ rest)
    (plain_then (folder_stages set env) rest (plain_folder set env)
    (plain_unless (is_disabled env) asked (
      tt,
      plain_unless (is_some (late_refusal set env look)) told
          (plain_then (calls opening) (Asks ∷ names) (plain_notes opening (opening_notes set env found look)) behind),
    )))

-- ---- a member that is planned, or refused

module _ (s : Site) (m : MemberSeen) (answer : Result CompilePlan ErrorSeen) (part : List Event) (is : IsPlanned s m answer part) where
  -- the verdicts of its answers
  pub its_look : Look
  its_look = (some_agree (answers part) is.asked.once).0

  pub its_agrees : Agrees its_look (answers part)
  unfolding its_look
  its_agrees = (some_agree (answers part) is.asked.once).1

  pub planned_ends : PlanningEnds m.build is.listens m.output answer its_look part
  unfolding its_look
  planned_ends = let some = some_agree (answers part) is.asked.once in is.ends.under some.0 some.1

  abbrev its_stages : List Stage
  its_stages = planning_stages m.build.config m.build.env planned_ends.0 its_look planned_ends.1 m.output

  pub planned_partly : Partly no_terms its_stages part no_means no_means
  planned_partly = ended_partly no_terms (planning_error m.build.config m.build.env its_look m.output) its_stages part answer no_means no_means (planned_ends.2.3 no_terms no_means)

  pub planned_settled : NothingRuns part
  planned_settled = partly_settled no_terms its_stages part no_means no_means planned_partly

  pub planned_still : turns part ≡ 0
  planned_still =
      let sum : no_means.left + turns part ≡ no_means.left = ended_turns no_terms (planning_error m.build.config m.build.env its_look m.output) its_stages part answer no_means no_means (planned_ends.2.3 no_terms no_means) in
      omega (arith, sum)

  pub planned_faults : FaultsEnd part
  planned_faults before after call why real at = fault_ends no_terms its_stages part no_means no_means before after call why real at planned_partly

  -- no command was tried but those of questions
  pub planned_untried : attempts part ≡ []
  planned_untried =
      let first = partly_first no_terms its_stages part no_means no_means (plain_planning m.build.config m.build.env planned_ends.0 its_look planned_ends.1 m.output) planned_partly in
      let none : commands_in its_stages ≡ [] = still_commands its_stages (still_planning m.build.config m.build.env its_look m.output planned_ends.0 planned_ends.1) in
      front_none (attempts part) first.0 (sym first.1 ∙ ap (map to_attempt) none)
    where
      front_none : {X : Type 0} (a b : List X) → a ++ b ≡ [] → a ≡ []
      front_none [] b h = refl
      front_none (x ∷ a) b h = absurd (cc)

-- ---- the commands of a plan

-- each of them compiles
compile_roles : (set : BuildConfig) (env : EnvSeen) (here : Option (List ℕ)) (look : Look) → list_all is_compile_command (compiles_planned set env here look) ≡ true
unfolding compiles_planned
compile_roles set env here look = each (objects_of set env)
  where
    each : (objects : List Object) → list_all is_compile_command (map (λ object. compile_planned here object (compile_in set env look object)) objects) ≡ true
    each [] = refl
    each (object ∷ objects) = each objects

module _ (s : Site) (m : MemberSeen) (plan : CompilePlan) (part : List Event) (is : IsPlanned s m (Ok plan) part) where
  pub plan_compiles : list_all is_compile_command plan.commands.items ≡ true
  plan_compiles =
      let its = planned_ends s m (Ok plan) part is in
      ap (list_all is_compile_command) its.2.2.commands ∙ compile_roles m.build.config m.build.env its.0.here (its_look s m (Ok plan) part is)

  -- no call faulted
  pub plan_sound : list_any is_fault part ≡ false
  plan_sound =
      let its = planned_ends s m (Ok plan) part is in
      went_faultless no_terms (planning_stages m.build.config m.build.env its.0 (its_look s m (Ok plan) part is) its.1 m.output) part no_means no_means (its.2.3 no_terms no_means).1

  -- there is one for each source
  pub plan_count : length plan.commands.items ≡ length m.build.config.files
  plan_count =
      let its = planned_ends s m (Ok plan) part is in
      ap length its.2.2.commands ∙ planned_count m.build.config m.build.env its.0.here (its_look s m (Ok plan) part is)
      ∙ length-map (objects_of m.build.config m.build.env) _ ∙ length-map m.build.config.files _

-- ---- the segment of a member

module _ (s : Site) (m : MemberSeen) where
  -- link lines start no child
  links_settled : (listens : Bool) (written : Result (List ℕ) ErrorSeen) (answer : Result (Unit {0}) ErrorSeen) (part : List Event) → LinksBehind s listens m written answer part → NothingRuns part
  links_settled listens (Err e) answer part links = ap running links.1
  links_settled listens (Ok library) answer part links =
      let some = some_agree (answers part) links.0.once in
      let ends = links.1.under some.0 some.1 in
      let stages = directive_stages m.build.config m.build.env listens some.0 ends.0 library in
      partly_settled no_terms stages part no_means no_means (ended_partly no_terms (directive_error m.build.config m.build.env some.0 library) stages part answer no_means no_means (ends.1.1 no_terms no_means))

  links_turns : (listens : Bool) (written : Result (List ℕ) ErrorSeen) (answer : Result (Unit {0}) ErrorSeen) (part : List Event) → LinksBehind s listens m written answer part → turns part ≡ 0
  links_turns listens (Err e) answer part links = ap turns links.1
  links_turns listens (Ok library) answer part links = links_still s m listens library answer part links.0 links.1

  module _ (answer : Result (Unit {0}) ErrorSeen) (part : List Event) (given : ℕ) (g : Segment s m answer part given) where
    -- behind it no command runs
    pub segment_settled : NothingRuns part
    segment_settled =
        let some = some_agree (answers g.made) g.made_asks.once in
        let made : NothingRuns g.made = creates_settled (with_objects m.build (objects_at m)) g.listens s.patience given m.output some.0 g.made g.written (g.creates.under some.0 some.1) in
        ap running g.cut ∙ running_behind g.made g.linked made ∙ links_settled g.listens g.written answer g.linked g.links

    -- a fault ends it: behind that children are abandoned, and nothing else is done
    pub segment_faults : FaultsEnd part
    segment_faults = by_library g.written g.links (λ look. g.creates.under look)
      where
        by_library : (written : Result (List ℕ) ErrorSeen) → LinksBehind s g.listens m written answer g.linked → ((look : Look) → Agrees look (answers g.made) → Creates (with_objects m.build (objects_at m)) g.listens s.patience given m.output written look g.made) → FaultsEnd part
        by_library (Err f) links creates =
            let some = some_agree (answers g.made) g.made_asks.once in
            subst FaultsEnd (sym (g.cut ∙ ap (λ l. g.made ++ l) links.1 ∙ append-nil g.made)) (creates_faults {T = List ℕ} (with_objects m.build (objects_at m)) g.listens s.patience given m.output some.0 g.made (Err f) (creates some.0 some.1))
        by_library (Ok library) links creates =
            let look = some_agree (answers g.made) g.made_asks.once in
            let b = with_objects m.build (objects_at m) in
            let made = creates look.0 look.1 in
            let c = course_alone s.patience given made.0 in
            let sound = went_faultless (terms_for b g.listens c) (creation_stages b.config b.env made.1.0 look.0 made.1.1 m.output) g.made c.before c.after made.1.2.1.1 in
            let some = some_agree (answers g.linked) links.0.once in
            let ends = links.1.under some.0 some.1 in
            let stages = directive_stages m.build.config m.build.env g.listens some.0 ends.0 library in
            let partly = ended_partly no_terms (directive_error m.build.config m.build.env some.0 library) stages g.linked answer no_means no_means (ends.1.1 no_terms no_means) in
            subst FaultsEnd (sym g.cut) (then_faults g.made g.linked sound (λ before after call why real at. fault_ends no_terms stages g.linked no_means no_means before after call why real at partly))

    -- for want of turns it ends with none left
    pub segment_spent : (e : ErrorSeen) (left : ℕ) → answer ≡ Err e → e.kind ≡ SpendsTurns → left + turns part ≡ given → left ≡ 0
    segment_spent e left is kind sum = by_library g.written g.links (λ look. g.creates.under look)
      where
        all : turns part ≡ turns g.made + turns g.linked
        all = ap turns g.cut ∙ sum_by-append turns_of g.made g.linked

        by_library : (written : Result (List ℕ) ErrorSeen) → LinksBehind s g.listens m written answer g.linked → ((look : Look) → Agrees look (answers g.made) → Creates (with_objects m.build (objects_at m)) g.listens s.patience given m.output written look g.made) → left ≡ 0
        by_library (Err f) links creates =
            let some = some_agree (answers g.made) g.made_asks.once in
            let b = with_objects m.build (objects_at m) in
            let made = creates some.0 some.1 in
            let c = course_alone s.patience given made.0 in
            let stages = creation_stages b.config b.env made.1.0 some.0 made.1.1 m.output in
            let same : Err f ≡ Err e = sym links.0 ∙ is in
            let own : f ≡ e = cc in
            let none : made.0 ≡ 0 = halted_spent (terms_for b g.listens c) (creation_error b.config b.env some.0 m.output) stages g.made f c.before c.after (creation_unspent b.config b.env some.0 m.output) made.1.2.1 (ap (λ (o : ErrorSeen). o.kind) own ∙ kind) in
            let turned : made.0 + turns g.made ≡ given = ended_turns {T = List ℕ} (terms_for b g.listens c) (creation_error b.config b.env some.0 m.output) stages g.made (Err f) c.before c.after made.1.2.1 in
            let still : turns g.linked ≡ 0 = ap turns links.1 in
            omega (arith, all, none, turned, still, sum)
        by_library (Ok library) links creates =
            let some = some_agree (answers g.linked) links.0.once in
            let ends = links.1.under some.0 some.1 in
            let one = means 1 0 0 0 in
            let refusal = directive_error m.build.config m.build.env some.0 library in
            let stages = directive_stages m.build.config m.build.env g.listens some.0 ends.0 library in
            let halted : Halted no_terms refusal stages g.linked e one one = subst (λ (r : Result (Unit {0}) ErrorSeen). Ends no_terms refusal stages g.linked r one one) is (ends.1.1 no_terms one) in
            absurd (let none : 1 ≡ 0 = halted_spent no_terms refusal stages g.linked e one one (directive_unspent m.build.config m.build.env some.0 library) halted kind in omega (arith, none))

    -- where its commands are no more than that, the patience for each of them is turns enough
    module _ (p most : ℕ) (patient : s.patience ≡ Some p) (few : (look : Look) (writing : Writing) (firsts : Firsts) → length (commands_in (creation_stages (with_objects m.build (objects_at m)).config m.build.env writing look firsts m.output)) ≤ most) where
      abbrev b : BuildSeen
      b = with_objects m.build (objects_at m)

      all_of : turns part ≡ turns g.made + turns g.linked
      all_of = ap turns g.cut ∙ sum_by-append turns_of g.made g.linked

      pub segment_most : turns part ≤ p * most
      segment_most =
          let some = some_agree (answers g.made) g.made_asks.once in
          let made = g.creates.under some.0 some.1 in
          let c = course_alone s.patience given made.0 in
          let stages = creation_stages b.config b.env made.1.0 some.0 made.1.1 m.output in
          let bound : turns g.made ≤ p * length (commands_in stages) = ended_most (terms_for b g.listens c) (creation_error b.config b.env some.0 m.output) stages g.made g.written c.before c.after 1 p refl patient made.1.2.1 in
          let wide : p * length (commands_in stages) ≤ p * most = mul-le-mul_left p (few some.0 made.1.0 made.1.1) in
          let still : turns g.linked ≡ 0 = links_turns g.listens g.written answer g.linked g.links in
          let all = all_of in
          omega (arith, bound, wide, still, all)

      pub segment_fewer : (e : ErrorSeen) → answer ≡ Err e → e.kind ≡ SpendsTurns → turns part < p * most
      segment_fewer e is kind = by_library g.written g.links (λ look. g.creates.under look)
        where
          by_library : (written : Result (List ℕ) ErrorSeen) → LinksBehind s g.listens m written answer g.linked → ((look : Look) → Agrees look (answers g.made) → Creates b g.listens s.patience given m.output written look g.made) → turns part < p * most
          by_library (Err f) links creates =
              let some = some_agree (answers g.made) g.made_asks.once in
              let made = creates some.0 some.1 in
              let c = course_alone s.patience given made.0 in
              let stages = creation_stages b.config b.env made.1.0 some.0 made.1.1 m.output in
              let same : Err f ≡ Err e = sym links.0 ∙ is in
              let own : f ≡ e = cc in
              let bound : turns g.made < p * length (commands_in stages) = halted_bound (terms_for b g.listens c) (creation_error b.config b.env some.0 m.output) stages g.made f c.before c.after 1 p refl patient (creation_unspent b.config b.env some.0 m.output) made.1.2.1 (ap (λ (o : ErrorSeen). o.kind) own ∙ kind) in
              let wide : p * length (commands_in stages) ≤ p * most = mul-le-mul_left p (few some.0 made.1.0 made.1.1) in
              let still : turns g.linked ≡ 0 = ap turns links.1 in
              let all = all_of in
              omega (arith, bound, wide, still, all)
          by_library (Ok library) links creates =
              let some = some_agree (answers g.linked) links.0.once in
              let ends = links.1.under some.0 some.1 in
              let one = means 1 0 0 0 in
              let refusal = directive_error m.build.config m.build.env some.0 library in
              let stages = directive_stages m.build.config m.build.env g.listens some.0 ends.0 library in
              let halted : Halted no_terms refusal stages g.linked e one one = subst (λ (r : Result (Unit {0}) ErrorSeen). Ends no_terms refusal stages g.linked r one one) is (ends.1.1 no_terms one) in
              absurd (let none : 1 ≡ 0 = halted_spent no_terms refusal stages g.linked e one one (directive_unspent m.build.config m.build.env some.0 library) halted kind in omega (arith, none))
