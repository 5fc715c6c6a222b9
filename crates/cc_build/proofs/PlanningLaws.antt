-- How a run is planned: its opening, the commands that it makes, and the lines of the variables that were read.
use Rattle.std.specs.Global.{Vec}
use Rattle.std.proofs.Common.{◌≡◌, ◌⊎◌, inl, inr, ℕ, List, [], ◌∷◌, ◌++◌, Bool, true, false, if◌then◌else◌, is_some, Option, Some, None, option_map, Result, Ok, Err, refl, sym, ◌∙◌, ap, ap₂, subst}
use Rattle.std.specs.List.{list_any}
use Rattle.cc_env.specs.Env.{EnvSeen}
use Rattle.cc_host.specs.Command.{CommandSeen}
use Rattle.cc_host.specs.Part.{Step, since, Refuses}
use Rattle.cc_host.specs.Part.Step.{Runs, Makes, Removes, Writes, Copies, Finds, Says, Prints, Lists}
use Rattle.cc_host.specs.Question.{Look}
use Rattle.cc_host.specs.declared.event.Event.{Event}
use Rattle.cc_host.specs.declared.event.Event.TheVariants.{Ran, Missing, Fault}
use Rattle.cc_host.specs.declared.event.LineKind.TheVariants.{Rerun}
use Rattle.cc_plan.specs.Asking.{is_of_children}
use Rattle.cc_flags.specs.Given.{is_disabled, first_of}
use Rattle.cc_plan.specs.Plan.{folder_steps, objects_of, prints}
use Rattle.cc_plan.specs.Refusal.{early_refusal, late_refusal}
use Rattle.cc_plan.specs.Reruns.{rerun_names}
use Rattle.cc_plan.specs.declared.error.PlanError.{PlanError}
use Rattle.cc_plan.specs.declared.error.PlanError.TheVariants.{NoMemory as WantsMemory}
use Rattle.cc_plan.specs.declared.plan.Plan.{Plan}
use Rattle.cc_flags.specs.declared.object.Object.{Object}
use Rattle.cc_flags.specs.declared.settings.BuildConfig.{BuildConfig}
use Rattle.cc_flags.specs.declared.variables.Reads.{Reads}
use Rattle.cc_run.specs.declared.planned.Planned.{Planned}
use Rattle.cc_run.specs.declared.planned.Shows.{Shows}
use Rattle.cc_build.specs.Build.{BuildSeen, build_in}
use Rattle.cc_build.specs.Error.{ErrorSeen, no_memory}
use Rattle.cc_build.specs.Intermediates.{source_reads}
use Rattle.cc_build.specs.Phases.{OpensEnd, CommandsEnd, OpenedEnds, OpeningEnds}
use Rattle.cc_build.specs.Planning.{planning_stages, planning_error, PlanningEnds}
use Rattle.cc_build.specs.Questions.{Plans, AsksOnly}
use Rattle.cc_build.specs.Refusal.{plan_error, disabled_error, early_error, late_error}
use Rattle.cc_build.specs.RunPlan.{opened_then, RunOpens, PlanRunEnds}
use Rattle.cc_build.specs.Seen.{opening_of, compiles_by}
use Rattle.cc_build.specs.Shows.{shows_of}
use Rattle.cc_build.specs.Stage.{Stage, calls, asked_then, opening_steps, compiles_planned, folder_stages, name_stages, rerun_lines}
use Rattle.cc_build.specs.Stage.Stage.{Calls, Asks, Tries, RunsOne, RunsAll}
use Rattle.cc_build.specs.Way.{Found, Firsts, Hears, Repeats, all_firsts, chosen}
use Rattle.cc_build.specs.Went.{Terms, Means, terms, means, Did, Went, Stops, Halts, Halted, Ends}
use Rattle.cc_build.specs.declared.planning.CompilePlan.{CompilePlan}
use Rattle.cc_build.specs.declared.run_plan.RunPlan.{RunPlan}
use Rattle.cc_build.specs.declared.task.Task.{Task}
use Rattle.cc_build.proofs.AloneLaws.{IsStill, AreStill, still_calls, still_then, still_before, still_behind, still_unless, ends_still}
use Rattle.cc_build.proofs.Going.{went_from, halted_more, halted_among, halted_join, asked_halted}
use Rattle.cc_build.proofs.OpeningLaws.{phase_from, went_behind}
use Rattle.cc_build.proofs.PhaseLaws.{found_of}
use Rattle.cc_build.proofs.PrintedLaws.{IsChildless, or_false, childless_then, stepped_childless, asked_whole}
use Rattle.cc_build.proofs.RerunLaws.{first_alone}
use Rattle.cc_build.proofs.RunPlanLaws.{opened_open, unfoldered, stopped, stopped_behind, unchecked, checked_ends, opened_so}
use Rattle.cc_build.proofs.SourceLaws.{compiles_are, unfound, unfound_hears}
use Rattle.cc_build.proofs.Stages.{folder_is, plan_cause}

-- ---- the commands of a plan

module _ (task : Task) (plan : Plan) (objects : List Object) where
  abbrev opened_by : Bool → Option (List ℕ) → List Stage
  opened_by listens here = Asks ∷ calls (opening_of task.set.now listens plan.warnings here)

  -- it wasn't opened
  pub commands_unopened : (part : List Event) (e : ErrorSeen) → OpensEnd task plan.warnings (Err e) part → CommandsEnd task plan objects (Err e) part
  commands_unopened part e h =
      let here = (unfound task.reporting.shows.listens).here in
      let hears : is_some here ≡ task.reporting.shows.listens = unfound_hears task.reporting.shows.listens in (
        here,
        (
          hears,
          λ t x refusal more some.
              halted_more t refusal (opened_by (is_some here) here) more part e x x (subst (λ (b : Bool). Halted t None (opened_by b here) part e x x) (sym hears) (h here hears t x)),
        ),
      )

  module _ (here : Option (List ℕ)) (part : List Event) (opened : OpensEnd task plan.warnings (Ok here) part) where
    went_opening : (t : Terms) (x : Means) → Went t (opened_by (is_some here) here) part x x
    went_opening t x = subst (λ (b : Bool). Went t (opened_by b here) part x x) (sym opened.0) (opened.1 t x)

    -- memory was wanted for the commands
    pub commands_wanting : (e : ErrorSeen) → e ≡ no_memory → CommandsEnd task plan objects (Err e) part
    commands_wanting e memory =
        (here, (opened.0, λ t x refusal more some. halted_among t refusal (opened_by (is_some here) here) more part e x x (went_opening t x) memory (λ none. absurd (some none))))

    -- they were made
    pub commands_made : (cmds : Vec Planned) → cmds.items ≡ compiles_by here objects plan.compiles.items → CommandsEnd task plan objects (Ok cmds) part
    commands_made cmds are = (here, (opened.0, are, went_opening))

-- ---- questions before the opening

module _ (task : Task) (plan : Plan) (look : Look) (objects : List Object) (h : Plans task plan look) where
  opening_is : (here : Option (List ℕ)) → opening_of task.set.now (is_some here) plan.warnings here ≡ opening_steps task.set.now task.env.now (found_of plan.warns_of_link here) look
  opening_is here = ap (λ texts. opening_of task.set.now (is_some here) texts here) h.warnings

  commands_are : (here : Option (List ℕ)) (cmds : List Planned) → objects ≡ objects_of task.set.now task.env.now → cmds ≡ compiles_by here objects plan.compiles.items → cmds ≡ compiles_planned task.set.now task.env.now here look
  commands_are here cmds same are =
      are ∙ ap₂ (λ (os : List Object) (cs : List CommandSeen). compiles_by here os cs) same h.compiles ∙ compiles_are task.set.now task.env.now here look

  abbrev late : Option PlanError
  late = late_refusal task.set.now task.env.now look

  module _ (old mid new : List Event) (first : mid ≡ old ++ since old mid) (last : new ≡ mid ++ since mid new) (asked : AsksOnly (since old mid)) where
    -- the run was opened, and the commands were made; or it ended so
    pub opening_ends : objects ≡ objects_of task.set.now task.env.now → (r : Result (Vec Planned) ErrorSeen) → CommandsEnd task plan objects r (since mid new) → OpenedEnds task r look (since old new)
    opening_ends same (Ok cmds) o =
        let found = found_of plan.warns_of_link o.0 in
        let these : List Stage = calls (opening_of task.set.now (is_some o.0) plan.warnings o.0) in
        let those : List Stage = calls (opening_steps task.set.now task.env.now found look) in
        (found, (o.1.0, h.allowed, commands_are o.0 cmds.items same o.1.1, λ t x. went_behind t those these old mid new x x first last asked (ap calls (opening_is o.0)) (o.1.2 t x)))
    opening_ends same (Err e) o =
        let found = found_of plan.warns_of_link o.0 in
        let these : List Stage = calls (opening_of task.set.now (is_some o.0) plan.warnings o.0) in
        let those : List Stage = calls (opening_steps task.set.now task.env.now found look) in (
          found,
          (
            o.1.0,
            λ t x refusal more some.
                phase_from {T = Unit {0}} t (plan_error task.set.now task.env.now task.output.now) late refusal (those ++ more) (these ++ more) old mid new (Err e) x x first last asked h.allowed (ap (λ steps. calls steps ++ more) (opening_is o.0)) (o.1.1 t x refusal more some),
          ),
        )

-- the settings are refused by the answers, or memory was wanted
pub opening_refused : (task : Task) (look : Look) (part : List Event) (e : ErrorSeen) → AsksOnly part → (e ≡ no_memory) ⊎ (option_map (plan_error task.set.now task.env.now task.output.now) (late_refusal task.set.now task.env.now look) ≡ Some e) → OpenedEnds task (Err e) look part
opening_refused task look part e quiet cause =
    let found = unfound task.reporting.shows.listens in
    let error_of = plan_error task.set.now task.env.now task.output.now in
    let late = late_refusal task.set.now task.env.now look in
    let opening : List Stage = calls (opening_steps task.set.now task.env.now found look) in
    (found, (unfound_hears task.reporting.shows.listens, λ t x refusal more some. halted_join t error_of late refusal opening more part e x x (asked_halted t error_of late opening part e x quiet cause)))

-- ---- the folder before it

module _ (task : Task) (look : Look) where
  abbrev error_in : PlanError → ErrorSeen
  error_in = plan_error task.set.now task.env.now task.output.now

  abbrev folder : List Stage
  folder = folder_stages task.set.now task.env.now

  abbrev opening : Found → List Stage
  opening found = calls (opening_steps task.set.now task.env.now found look)

  abbrev nothing : Found
  nothing = unfound task.reporting.shows.listens

  -- it wasn't made
  pub opening_unfoldered : (part : List Event) (e : ErrorSeen) → ((t : Terms) (x : Means) → Halted t None (calls (folder_steps task.set.now task.env.now)) part e x x) → OpeningEnds task (Err e) look part
  opening_unfoldered part e h = (
    nothing,
    (
      unfound_hears task.reporting.shows.listens,
      λ t x refusal more some.
          unfoldered t error_in folder (opening nothing) more refusal (is_disabled task.env.now) (late_refusal task.set.now task.env.now look) part e x
          (subst (λ (s : List Stage). Halted t None s part e x x) (sym (folder_is task.set.now task.env.now)) (h t x)),
    ),
  )

  module _ (old made : List Event) (went : (t : Terms) (x : Means) → Went t (calls (folder_steps task.set.now task.env.now)) (since old made) x x) where
    made_so : (t : Terms) (x : Means) → Went t folder (since old made) x x
    made_so t x = subst (λ (s : List Stage). Went t s (since old made) x x) (sym (folder_is task.set.now task.env.now)) (went t x)

    -- no command may run
    pub opening_disabled : (e : ErrorSeen) → is_disabled task.env.now ≡ true → (e ≡ no_memory) ⊎ (e ≡ disabled_error) → OpeningEnds task (Err e) look (since old made)
    opening_disabled e disabled of = (
      nothing,
      (
        unfound_hears task.reporting.shows.listens,
        λ t x refusal more some.
            stopped t error_in folder (opening nothing) more refusal (is_disabled task.env.now) (late_refusal task.set.now task.env.now look) (since old made) e x disabled (made_so t x) of,
      ),
    )

    module _ (new : List Event) (first : made ≡ old ++ since old made) (last : new ≡ made ++ since made new) (enabled : is_disabled task.env.now ≡ false) where
      -- the run was opened behind it, or ended so
      pub opening_behind : (r : Result (Vec Planned) ErrorSeen) → OpenedEnds task r look (since made new) → OpeningEnds task r look (since old new)
      opening_behind (Ok cmds) o = (
        o.0,
        (
          o.1.0,
          record {
            enabled = enabled;
            allowed = o.1.1;
            commands = o.1.2;
            went = λ t x. went_from t old made new folder (Asks ∷ opening o.0) x x x first last (made_so t x) (o.1.3 t x);
          },
        ),
      )
      opening_behind (Err e) o = (
        o.0,
        (
          o.1.0,
          λ t x refusal more some.
              stopped_behind t error_in folder (opening o.0) more refusal (is_disabled task.env.now) (late_refusal task.set.now task.env.now look) old made new e x enabled first last (made_so t x) (o.1.1 t x refusal more some),
        ),
      )

-- ---- the first checks before that

-- they refuse the settings, or memory was wanted
pub plan_unchecked : (set : BuildConfig) (env : EnvSeen) (listens : Bool) (output : List ℕ) (look : Look) (part : List Event) (e : ErrorSeen) (error : PlanError) → part ≡ [] → (e ≡ no_memory) ⊎ (e ≡ plan_error set env output error) → (error ≡ WantsMemory) ⊎ (early_refusal set env output ≡ Some error) → PlanRunEnds (build_in set env) listens output (Err e) look part
plan_unchecked set env listens output look part e error none made cause =
    let error_of = plan_error set env output in
    let steps : List Stage = calls (opening_steps set env (unfound listens) look) in (
      unfound listens,
      (
        unfound_hears listens,
        λ t x refusal more some.
            unchecked t error_of (first_of (late_error set env look output) refusal) (opened_then set env (unfound listens) look more) (early_refusal set env output) part e x
            (opened_open t error_of (folder_stages set env) steps more refusal (is_disabled env) (late_refusal set env look)) none (plan_cause set env output error e (early_refusal set env output) made cause),
      ),
    )

module _ (b : BuildSeen) (output : List ℕ) (shows : Shows) (listens : Bool) (look : Look) (part : List Event) (passed : early_refusal b.config b.env output ≡ None) (are : shows ≡ shows_of b.config b.env listens) where
  hears_so : (found : Found) → Hears shows.listens found → Hears listens found
  hears_so found h = subst (λ (s : Shows). Hears s.listens found) are h

  -- they pass, and the run ended at its opening
  pub plan_stopped : (e : ErrorSeen) → RunOpens b output shows.listens (Err e) look part → PlanRunEnds b listens output (Err e) look part
  plan_stopped e h = (
    h.0,
    (
      hears_so h.0 h.1.0,
      λ t x refusal more some.
          checked_ends t (plan_error b.config b.env output) (first_of (late_error b.config b.env look output) refusal) (opened_then b.config b.env h.0 look more) {T = Unit {0}} (early_refusal b.config b.env output) part (Err e) x x passed (h.1.1 t x refusal more some),
    ),
  )

  -- they pass, and it was opened
  pub plan_opened : (plan : RunPlan) → plan.shows ≡ shows → RunOpens b output shows.listens (Ok plan.commands) look part → PlanRunEnds b listens output (Ok plan) look part
  plan_opened plan shown h = (h.0, (hears_so h.0 h.1.0, passed, shown ∙ are, h.1.1))

-- ---- the lines of the variables behind it

module _ (b : BuildSeen) (listens : Bool) (output : List ℕ) (look : Look) where
  abbrev early_in : Option ErrorSeen
  early_in = early_error b.config b.env output

  abbrev late_in : Option ErrorSeen
  late_in = late_error b.config b.env look output

  abbrev named : Firsts → List Stage
  named firsts = Asks ∷ name_stages b.config b.env (source_reads b.config) look firsts

  abbrev stages : Found → Firsts → List Stage
  stages found firsts = planning_stages b.config b.env found look firsts output

  still_named : (firsts : Firsts) → AreStill (named firsts)
  still_named firsts = (tt, still_calls (prints Rerun (rerun_lines (chosen firsts.names (rerun_names (source_reads b.config) b.config b.env look)))))

  -- the run ended at its opening
  pub planning_stopped : (part : List Event) (e : ErrorSeen) → PlanRunEnds b listens output (Err e) look part → PlanningEnds b listens output (Err e) look part
  planning_stopped part e p = (
    p.0,
    all_firsts,
    (
      p.1.0,
      (λ _. refl),
      tt,
      λ t x. subst (λ (c : Option ErrorSeen). Halted t (first_of early_in c) (stages p.0 all_firsts) part e x x) (first_alone late_in) (p.1.1 t x None (named all_firsts) (λ none. absurd (cc))),
    ),
  )

  module _ (plan : RunPlan) (u : Terms) (reads : Reads) (old mid new : List Event) (y z : Means) (first : mid ≡ old ++ since old mid) (last : new ≡ mid ++ since mid new) (those : reads ≡ source_reads b.config) (p : PlanRunEnds b listens output (Ok plan) look (since old mid)) where
    -- the lines were printed so
    abbrev Lines : {T : Type 0} → Result T ErrorSeen → Type 0
    Lines r = (firsts : Firsts) × (Repeats b.config firsts × Ends u None (Asks ∷ name_stages b.config b.env reads look firsts) (since mid new) r y z)

    whole : {T : Type 0} (r : Result T ErrorSeen) (lines : Lines r) (t : Terms) (x : Means) → Ends t (planning_error b.config b.env look output) (stages p.0 lines.0) (since old new) r x x
    whole r lines t x =
        let told : Ends u None (named lines.0) (since mid new) r y z = subst (λ (rd : Reads). Ends u None (Asks ∷ name_stages b.config b.env rd look lines.0) (since mid new) r y z) those lines.1.1 in
        let opened = opened_so b.config b.env look output p.0 t plan.commands.items None (named lines.0) old mid new r x x first last p.1.3 (ends_still u t x None (named lines.0) (since mid new) r y z (still_named lines.0) told) in
        subst (λ (c : Option ErrorSeen). Ends t (first_of early_in c) (stages p.0 lines.0) (since old new) r x x) (first_alone late_in)
        (checked_ends t (plan_error b.config b.env output) (first_of late_in None) (opened_then b.config b.env p.0 look (named lines.0)) (early_refusal b.config b.env output) (since old new) r x x p.1.1 opened)

    -- one wasn't
    pub planning_untold : (e : ErrorSeen) → Lines {T = Unit {0}} (Err e) → PlanningEnds b listens output (Err e) look (since old new)
    planning_untold e lines = (p.0, lines.0, (p.1.0, lines.1.0, tt, whole {T = Unit {0}} (Err e) lines))

    -- all of them were
    pub planning_told : (made : CompilePlan) (v : Unit {0}) → made.objects.items ≡ objects_of b.config b.env → made.commands ≡ plan.commands → made.shows ≡ plan.shows → Lines (Ok v) → PlanningEnds b listens output (Ok made) look (since old new)
    planning_told made v objects commands shown lines = (
      p.0,
      lines.0,
      (
        p.1.0,
        lines.1.0,
        record { objects = objects; commands = ap (λ (c : Vec Planned). c.items) commands ∙ p.1.3.commands; shows = shown ∙ p.1.2 },
        whole (Ok v) lines,
      ),
    )

-- ---- nothing is started

pub still_planning : (set : BuildConfig) (env : EnvSeen) (look : Look) (output : List ℕ) (found : Found) (firsts : Firsts) → AreStill (planning_stages set env found look firsts output)
still_planning set env look output found firsts =
    let names = prints Rerun (rerun_lines (chosen firsts.names (rerun_names (source_reads set) set env look))) in
    let opening = opening_steps set env found look in
    let run : List Stage = calls opening ++ Asks ∷ calls names in
    let asked = asked_then (late_refusal set env look) run in
    let rest : List Stage = if is_disabled env then [] else asked in
    let made : AreStill (folder_stages set env) = subst AreStill (sym (folder_is set env)) (still_calls (folder_steps set env)) in
    let still : AreStill asked = (tt, still_unless (is_some (late_refusal set env look)) run (still_then (calls opening) (Asks ∷ calls names) (still_calls opening) (tt, still_calls names))) in
    still_unless (is_some (early_refusal set env output)) (folder_stages set env ++ rest) (still_then (folder_stages set env) rest made (still_unless (is_disabled env) asked still))

refused_childless : (step : Step) (event : Event) → Refuses step event → is_of_children event ≡ false
refused_childless (Runs role cmd) (Ran r c pipes status out err) h = refl
refused_childless (Runs role cmd) (Missing r c) h = refl
refused_childless (Runs role cmd) (Fault call why) h = refl
refused_childless (Makes scope path) (Fault call why) h = refl
refused_childless (Removes path) (Fault call why) h = refl
refused_childless (Writes path bytes) (Fault call why) h = refl
refused_childless (Copies from to) (Fault call why) h = refl
refused_childless (Finds path) (Fault call why) h = refl
refused_childless (Says message) (Fault call why) h = refl
refused_childless (Prints kind bytes) (Fault call why) h = refl
refused_childless Lists (Fault call why) h = refl
refused_childless _ _ h = absurd h

one_childless : (event : Event) (part : List Event) → part ≡ event ∷ [] → is_of_children event ≡ false → IsChildless part
one_childless event part one none = ap (list_any is_of_children) one ∙ or_false (is_of_children event) false none refl

module _ (t : Terms) where
  did_childless : (s : Stage) (part : List Event) (x y : Means) → IsStill s → Did t s part x y → IsChildless part
  did_childless (Calls step) part x y still d = one_childless d.0 part d.1.0 (stepped_childless d.0 step d.1.1)
  did_childless Asks part x y still d = (asked_whole part d.0).1
  did_childless (Tries refused p) part x y still d = absurd still
  did_childless (RunsOne p) part x y still d = absurd still
  did_childless (RunsAll ps) part x y still d = absurd still

  went_childless : (stages : List Stage) (part : List Event) (x z : Means) → AreStill stages → Went t stages part x z → IsChildless part
  went_childless [] part x z still w = ap (list_any is_of_children) w.0
  went_childless (s ∷ ss) part x z still w =
      ap (list_any is_of_children) w.3.0 ∙ childless_then w.0 w.1 (did_childless s w.0 x w.2 still.0 w.3.1) (went_childless ss w.1 w.2 z still.1 w.3.2)

  stops_childless : (s : Stage) (part : List Event) (e : ErrorSeen) (x y : Means) → IsStill s → Stops t s part e x y → IsChildless part
  stops_childless (Calls step) part e x y still d = one_childless d.0 part d.1.0 (refused_childless step d.0 d.1.1)
  stops_childless Asks part e x y still d = (asked_whole part d.1).1
  stops_childless (Tries refused p) part e x y still d = absurd still
  stops_childless (RunsOne p) part e x y still d = absurd still
  stops_childless (RunsAll ps) part e x y still d = absurd still

  halts_childless : (error : Option ErrorSeen) (stages : List Stage) (part : List Event) (e : ErrorSeen) (x y : Means) → AreStill stages → Halts t error stages part e x y → IsChildless part
  halts_childless error [] part e x y still h = ap (list_any is_of_children) h.1
  halts_childless error (s ∷ ss) part e x y still (inl h) = ap (list_any is_of_children) h.1
  halts_childless error (s ∷ ss) part e x y still (inr stop) = stops_childless s part e x y still.0 stop

  -- stages that call the host or ask start no child, wherever they end
  pub ends_childless : {T : Type 0} (error : Option ErrorSeen) (stages : List Stage) (part : List Event) (r : Result T ErrorSeen) (x z : Means) → AreStill stages → Ends t error stages part r x z → IsChildless part
  ends_childless error stages part (Ok v) x z still o = went_childless stages part x z still o.1
  ends_childless error stages part (Err e) x z still o =
      let all : AreStill (o.before ++ o.after) = subst AreStill o.stages_are still in
      ap (list_any is_of_children) o.cut
      ∙ childless_then o.front o.rest (went_childless o.before o.front x o.y (still_before o.before o.after all) o.went) (halts_childless error o.after o.rest e o.y z (still_behind o.before o.after all) o.halts)

-- no child is started where a run is planned
pub planning_childless : (b : BuildSeen) (listens : Bool) (output : List ℕ) (r : Result CompilePlan ErrorSeen) (look : Look) (part : List Event) → PlanningEnds b listens output r look part → IsChildless part
planning_childless b listens output r look part h =
    let t = terms (shows_of b.config b.env listens) None None in
    let x = means 0 0 0 0 in
    ends_childless t (planning_error b.config b.env look output) (planning_stages b.config b.env h.0 look h.1 output) part r x x (still_planning b.config b.env look output h.0 h.1) (h.2.3 t x)
