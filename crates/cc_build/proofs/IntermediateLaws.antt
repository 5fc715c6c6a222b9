-- How a run that compiles the sources alone ends, by what it checked and did.
use Rattle.std.specs.Global.{Vec}
use Rattle.std.proofs.Common.{◌≡◌, ◌≢◌, ◌⊎◌, ℕ, List, [], ◌∷◌, ◌++◌, Bool, true, false, if◌then◌else◌, is_some, Option, Some, None, option_map, Result, Ok, Err, refl, sym, ◌∙◌, ap, ap₂, subst, append_assoc, append-nil}
use Rattle.cc_env.specs.Env.{EnvSeen}
use Rattle.cc_host.specs.Part.{since}
use Rattle.cc_host.specs.Question.{Look}
use Rattle.cc_host.specs.declared.event.Event.{Event}
use Rattle.cc_host.proofs.Parts.{since_extends}
use Rattle.cc_flags.specs.Given.{is_disabled}
use Rattle.cc_plan.specs.Refusal.{intermediate_refusal, late_refusal}
use Rattle.cc_flags.specs.Given.{first_of}
use Rattle.cc_plan.specs.declared.error.PlanError.{PlanError}
use Rattle.cc_flags.specs.declared.settings.BuildConfig.{BuildConfig}
use Rattle.cc_flags.specs.declared.variables.Reads.{Reads}
use Rattle.cc_run.specs.declared.planned.Planned.{Planned}
use Rattle.cc_run.specs.declared.planned.Shows.{Shows}
use Rattle.cc_build.specs.Build.{BuildSeen, build_in}
use Rattle.cc_build.specs.Course.{Course, course}
use Rattle.cc_build.specs.Error.{ErrorSeen, no_memory}
use Rattle.cc_build.specs.Intermediates.{source_reads, intermediate_stages, intermediate_error, IntermediateEnds, Compiled, AreCompiled}
use Rattle.cc_build.specs.Promises.{terms_for, NothingRuns, FaultsEnd}
use Rattle.cc_build.specs.Phases.{OpeningEnds, NamesEnd, CompiledEnds}
use Rattle.cc_build.specs.Refusal.{plan_error, disabled_error, late_error}
use Rattle.cc_build.specs.RunPlan.{opened_then, checked_then}
use Rattle.cc_build.specs.Shows.{shows_of}
use Rattle.cc_build.specs.Stage.{Stage, calls, beside, compiles_planned, asked_then, opening_steps, folder_stages, compile_stages, name_stages, children_in}
use Rattle.cc_build.specs.Stage.Stage.{Asks}
use Rattle.cc_build.specs.Way.{Found, Firsts, Hears, Repeats, all_firsts}
use Rattle.cc_build.specs.Went.{Terms, Means, terms, Went, Halted, Ends}
use Rattle.cc_build.proofs.BuiltLaws.{folder_children, compile_children, started_from}
use Rattle.cc_build.proofs.SourceLaws.{asked_planned, unfound, unfound_hears}
use Rattle.cc_build.specs.declared.task.Task.{Task}
use Rattle.cc_build.proofs.Going.{halted_more, ends_from, same_patience}
use Rattle.cc_build.proofs.OrderLaws.{ended_partly}
use Rattle.cc_build.proofs.PromiseLaws.{fault_ends}
use Rattle.cc_build.proofs.RerunLaws.{name_children, first_alone}
use Rattle.cc_build.proofs.RunLaws.{children_then, went_split, went_well}
use Rattle.cc_build.proofs.RunPlanLaws.{opened_open, unchecked, checked_ends, opened_so}
use Rattle.cc_build.proofs.SettledLaws.{partly_settled}
use Rattle.cc_build.proofs.Stages.{both_none}

-- ---- behind its opening

module _ (task : Task) (reads : Reads) (look : Look) (total patience : Option ℕ) where
  abbrev own_set : BuildConfig
  own_set = task.set.now

  abbrev own_env : EnvSeen
  own_env = task.env.now

  abbrev shown : Terms
  shown = terms task.reporting.shows total patience

  abbrev late_own : Option ErrorSeen
  late_own = late_error own_set own_env look task.output.now

  abbrev run_of : Found → Firsts → List Stage
  run_of found firsts = beside (compiles_planned own_set own_env found.here look) ++ Asks ∷ name_stages own_set own_env reads look firsts

  abbrev whole : Found → Firsts → List Stage
  whole found firsts = opened_then own_set own_env found look (run_of found firsts)

  some_run : (found : Found) (firsts : Firsts) → run_of found firsts ≢ []
  some_run found firsts = λ none. let last : Asks ∷ name_stages own_set own_env reads look firsts ≡ [] = both_none (beside (compiles_planned own_set own_env found.here look)) (Asks ∷ name_stages own_set own_env reads look firsts) none in absurd (cc)

  -- the run ended at its opening
  pub compiling_unopened : (part : List Event) (e : ErrorSeen) (x : Means) → OpeningEnds task (Err e) look part → CompiledEnds {T = Unit {0}} task reads (Err e) look part (course total patience x x)
  compiling_unopened part e x h = (
    h.0,
    all_firsts,
    (
      h.1.0,
      (λ _. refl),
      subst (λ (c : Option ErrorSeen). Halted shown c (whole h.0 all_firsts) part e x x) (first_alone late_own) (h.1.1 shown x None (run_of h.0 all_firsts) (some_run h.0 all_firsts)),
    ),
  )

  module _ (cmds : Vec Planned) (old mid : List Event) (first : mid ≡ old ++ since old mid) (h : OpeningEnds task (Ok cmds) look (since old mid)) where
    opened : {T : Type 0} (firsts : Firsts) (new : List Event) (r : Result T ErrorSeen) (x z : Means) → new ≡ mid ++ since mid new → Ends shown None (beside cmds.items ++ Asks ∷ name_stages own_set own_env reads look firsts) (since mid new) r x z → Ends shown late_own (whole h.0 firsts) (since old new) r x z
    opened firsts new r x z last o =
        let there : Ends shown None (run_of h.0 firsts) (since mid new) r x z =
        subst (λ (c : List Planned). Ends shown None (beside c ++ Asks ∷ name_stages own_set own_env reads look firsts) (since mid new) r x z) h.1.1.commands o in
        subst (λ (c : Option ErrorSeen). Ends shown c (whole h.0 firsts) (since old new) r x z) (first_alone late_own)
        (opened_so own_set own_env look task.output.now h.0 shown cmds.items None (run_of h.0 firsts) old mid new r x z first last h.1.1 there)

    -- it ended among the commands
    pub compiling_stopped : (patience' : Option ℕ) (new : List Event) (e : ErrorSeen) (x z : Means) → patience' ≡ patience → new ≡ mid ++ since mid new → Halted (terms task.reporting.shows total patience') None (beside cmds.items) (since mid new) e x z → CompiledEnds {T = Unit {0}} task reads (Err e) look (since old new) (course total patience x z)
    compiling_stopped patience' new e x z patient last o =
        let ran : Halted shown None (beside cmds.items) (since mid new) e x z = same_patience {T = Unit {0}} task.reporting.shows total patience' patience None (beside cmds.items) (since mid new) (Err e) x z patient o in (
          h.0,
          all_firsts,
          (h.1.0, (λ _. refl), opened {T = Unit {0}} all_firsts new (Err e) x z last (halted_more shown None (beside cmds.items) (Asks ∷ name_stages own_set own_env reads look all_firsts) (since mid new) e x z ran)),
        )

    -- the sources were compiled, and the lines of the variables were printed so
    pub compiling_told : {T : Type 0} (patience' total'' patience'' : Option ℕ) (made new : List Event) (r : Result T ErrorSeen) (x y z : Means) → patience' ≡ patience → total'' ≡ total → patience'' ≡ patience → made ≡ mid ++ since mid made → new ≡ made ++ since made new → Went (terms task.reporting.shows total patience') (beside cmds.items) (since mid made) x y → NamesEnd task reads r look (since made new) (course total'' patience'' y z) → CompiledEnds task reads r look (since old new) (course total patience x z)
    compiling_told patience' total'' patience'' made new r x y z patient same patient' next last w k =
        let ran : Went shown (beside cmds.items) (since mid made) x y = subst (λ (n : Option ℕ). Went (terms task.reporting.shows total n) (beside cmds.items) (since mid made) x y) patient w in
        let told : NamesEnd task reads r look (since made new) (course total patience y z) =
        subst (λ (n : Option ℕ). NamesEnd task reads r look (since made new) (course n patience y z)) same
        (subst (λ (n : Option ℕ). NamesEnd task reads r look (since made new) (course total'' n y z)) patient' k) in
        let names : List Stage = Asks ∷ name_stages own_set own_env reads look told.0 in (
          h.0,
          told.0,
          (
            h.1.0,
            told.1.0,
            opened told.0 new r x z (since_extends mid made new next last) (ends_from shown None mid made new (beside cmds.items) names r x y z next last ran told.1.1),
          ),
        )

-- ---- the run of some settings

-- its stages are those of its opening, its commands, and the lines
intermediate_are : (set : BuildConfig) (env : EnvSeen) (found : Found) (look : Look) (firsts : Firsts)
    → checked_then (intermediate_refusal set env) set env found look (beside (compiles_planned set env found.here look) ++ Asks ∷ name_stages set env (source_reads set) look firsts) ≡ intermediate_stages set env found look firsts
unfolding compile_stages
intermediate_are set env found look firsts =
    ap (λ (l : List Stage). if is_some (intermediate_refusal set env) then [] else folder_stages set env ++ (if is_disabled env then [] else asked_then (late_refusal set env look) l))
    (sym (append_assoc (calls (opening_steps set env found look)) (beside (compiles_planned set env found.here look)) (Asks ∷ name_stages set env (source_reads set) look firsts)))

module _ (set : BuildConfig) (env : EnvSeen) (listens : Bool) (look : Look) (total patience : Option ℕ) where
  abbrev in_run : Terms
  in_run = terms (shows_of set env listens) total patience

  abbrev early_in : Option ErrorSeen
  early_in = option_map (plan_error set env []) (intermediate_refusal set env)

  abbrev late_in : Option ErrorSeen
  late_in = late_error set env look []

  abbrev behind : Found → Firsts → List Stage
  behind found firsts = beside (compiles_planned set env found.here look) ++ Asks ∷ name_stages set env (source_reads set) look firsts

  -- the settings are refused before the folder is made, or memory was wanted
  pub alone_unchecked : (part : List Event) (e : ErrorSeen) (x : Means) → part ≡ [] → (e ≡ no_memory) ⊎ (option_map (plan_error set env []) (intermediate_refusal set env) ≡ Some e) → IntermediateEnds {T = Unit {0}} (build_in set env) listens (Err e) look part (course total patience x x)
  alone_unchecked part e x none cause =
      let found = unfound listens in
      let error_of = plan_error set env [] in
      let rest = behind found all_firsts in
      let steps : List Stage = calls (opening_steps set env found look) in
      let ended = unchecked in_run error_of (first_of late_in None) (opened_then set env found look rest) (intermediate_refusal set env) part e x
      (opened_open in_run error_of (folder_stages set env) steps rest None (is_disabled env) (late_refusal set env look)) none cause in (
        found,
        all_firsts,
        (
          unfound_hears listens,
          (λ _. refl),
          subst (λ (l : List Stage). Halted in_run (first_of early_in late_in) l part e x x) (intermediate_are set env found look all_firsts)
              (subst (λ (c : Option ErrorSeen). Halted in_run (first_of early_in c) (checked_then (intermediate_refusal set env) set env found look rest) part e x x) (first_alone late_in) ended),
        ),
      )

  -- they pass, and the rest of the run ended so
  pub alone_behind : {T : Type 0} (shows : Shows) (reads : Reads) (part : List Event) (r : Result T ErrorSeen) (x z : Means) → intermediate_refusal set env ≡ None → shows ≡ shows_of set env listens → reads ≡ source_reads set
      → (found : Found) × (firsts : Firsts) × (Hears shows.listens found × Repeats set firsts × Ends (terms shows total patience) late_in (opened_then set env found look (beside (compiles_planned set env found.here look) ++ Asks ∷ name_stages set env reads look firsts)) part r x z)
      → IntermediateEnds (build_in set env) listens r look part (course total patience x z)
  alone_behind shows reads part r x z passed is those h =
      let rest = behind h.0 h.1 in
      let ends : Ends in_run late_in (opened_then set env h.0 look rest) part r x z =
      subst (λ (s : Shows). Ends (terms s total patience) late_in (opened_then set env h.0 look rest) part r x z) is
      (subst (λ (rd : Reads). Ends (terms shows total patience) late_in (opened_then set env h.0 look (beside (compiles_planned set env h.0.here look) ++ Asks ∷ name_stages set env rd look h.1)) part r x z) those h.2.2) in (
        h.0,
        h.1,
        (
          subst (λ (s : Shows). Hears s.listens h.0) is h.2.0,
          h.2.1,
          subst (λ (l : List Stage). Ends in_run (first_of early_in late_in) l part r x z) (intermediate_are set env h.0 look h.1)
              (checked_ends in_run (plan_error set env []) late_in (opened_then set env h.0 look rest) (intermediate_refusal set env) part r x z passed ends),
        ),
      )

-- ---- what follows from how it ends

-- none where the first checks refuse, and the folder alone where no command may run
abbrev checked : Option PlanError → Bool → List Stage → List Stage → List Stage
checked early disabled folder run = if is_some early then [] else folder ++ (if disabled then [] else Asks ∷ run)

abbrev error_by : (PlanError → ErrorSeen) → Option PlanError → Bool → Option ErrorSeen → Option ErrorSeen
error_by f early disabled late = first_of (option_map f early) (if disabled then Some disabled_error else late)

checked_all : (f : PlanError → ErrorSeen) (early : Option PlanError) (disabled : Bool) (late : Option PlanError) (folder stages : List Stage) → error_by f early disabled (option_map f late) ≡ None → checked early disabled folder (if is_some late then [] else stages) ≡ folder ++ Asks ∷ stages
checked_all f None false None folder stages h = refl
checked_all f None false (Some error) folder stages h = absurd (cc)
checked_all f None true late folder stages h = absurd (cc)
checked_all f (Some error) disabled late folder stages h = absurd (cc)

compiled_by : (t : Terms) (b : BuildSeen) (look : Look) (part : List Event) (x y : Means) (found : Found) (firsts : Firsts) → Repeats b.config firsts → intermediate_error b.config b.env look ≡ None → Went t (intermediate_stages b.config b.env found look firsts) part x y → Compiled t b look part
compiled_by t b look part x y found firsts repeats h w =
    let cmds = compiles_planned b.config b.env found.here look in
    let folder = folder_stages b.config b.env in
    let compiles = compile_stages b.config b.env found look in
    let sources : List Stage = folder ++ Asks ∷ compiles in
    let told : List Stage = Asks ∷ name_stages b.config b.env (source_reads b.config) look firsts in
    let stages_are : intermediate_stages b.config b.env found look firsts ≡ sources ++ told =
    checked_all (plan_error b.config b.env []) (intermediate_refusal b.config b.env) (is_disabled b.env) (late_refusal b.config b.env look) folder (compiles ++ told) h
    ∙ sym (append_assoc folder (Asks ∷ compiles) told) in
    let all : Went t (sources ++ told) part x y = subst (λ (stages : List Stage). Went t stages part x y) stages_are w in
    let own : children_in (sources ++ told) ≡ cmds =
    children_then sources told
    ∙ ap₂ (λ u v. u ++ v) (children_then folder (Asks ∷ compiles) ∙ ap₂ (λ u v. u ++ v) (folder_children b.config b.env) (compile_children b.config b.env found look)) (name_children b.config b.env (source_reads b.config) look firsts)
    ∙ append-nil cmds in
    let halves = went_split t sources told part x y all in
    record {
      compiles = started_from t (sources ++ told) part x y cmds all own ∙ asked_planned t.shows b.config b.env found.here look;
      ended = went_well t (sources ++ told) part x y all;
      runs = halves.0;
      lines = halves.1;
      cut = halves.3.0;
      firsts = firsts;
      repeats = repeats;
      told = (halves.2, y, halves.3.2);
    }

module _ {T : Type 0} (b : BuildSeen) (listens : Bool) (look : Look) (part : List Event) (c : Course) where
  pub alone_compiled : (result : Result T ErrorSeen) → IntermediateEnds b listens result look part c → AreCompiled b listens result look part c
  alone_compiled (Ok v) h = compiled_by (terms_for b listens c) b look part c.before c.after h.0 h.1 h.2.1 h.2.2.0 h.2.2.1
  alone_compiled (Err e) h = tt

  pub alone_settled : (result : Result T ErrorSeen) → IntermediateEnds b listens result look part c → NothingRuns part
  alone_settled result h =
      let stages = intermediate_stages b.config b.env h.0 look h.1 in
      partly_settled (terms_for b listens c) stages part c.before c.after (ended_partly (terms_for b listens c) (intermediate_error b.config b.env look) stages part result c.before c.after h.2.2)

  pub alone_faults : (result : Result T ErrorSeen) → IntermediateEnds b listens result look part c → FaultsEnd part
  alone_faults result h before after call why real is =
      let stages = intermediate_stages b.config b.env h.0 look h.1 in
      fault_ends (terms_for b listens c) stages part c.before c.after before after call why real is (ended_partly (terms_for b listens c) (intermediate_error b.config b.env look) stages part result c.before c.after h.2.2)
