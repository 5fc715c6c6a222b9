-- How a run in two calls makes up the whole run: its opening, and the stages behind it.
use Rattle.std.proofs.Common.{◌≡◌, ◌≢◌, ◌⊎◌, inl, inr, ℕ, zero, suc, ◌+◌, ◌<◌, ◌≤◌, List, [], ◌∷◌, ◌++◌, length, drop, get_or, Bool, true, false, if◌then◌else◌, Option, Some, None, is_some, unwrap_or, slice_get, Result, Ok, Err, refl, sym, ◌∙◌, ap, ap₂, subst, add-one, append_assoc, append-nil, arith, option_map}
use Rattle.std.proofs.lemmas.Option.{slice_get_read}
use Rattle.cc_text.specs.Words.{when}
use Rattle.cc_env.specs.Env.{EnvSeen}
use Rattle.cc_host.specs.Part.{since}
use Rattle.cc_host.specs.Question.{Look}
use Rattle.cc_host.specs.declared.event.Event.{Event}
use Rattle.cc_flags.specs.Given.{is_disabled, first_of}
use Rattle.cc_flags.specs.declared.settings.BuildConfig.{BuildConfig}
use Rattle.cc_plan.specs.Refusal.{early_refusal, late_refusal}
use Rattle.cc_plan.specs.declared.error.PlanError.{PlanError}
use Rattle.cc_run.specs.declared.planned.Planned.{Planned}
use Rattle.cc_run.specs.declared.planned.Shows.{Shows}
use Rattle.cc_build.specs.Build.{BuildSeen}
use Rattle.cc_build.specs.Course.{course}
use Rattle.cc_build.specs.Error.{ErrorSeen, no_memory}
use Rattle.cc_build.specs.Promises.{RunEnds}
use Rattle.cc_build.specs.Refusal.{plan_error, disabled_error, early_error, late_error, archive_error, link_error}
use Rattle.cc_build.specs.RunPlan.{Opened, opened_then, checked_then, PlanRunEnds, BehindOpening}
use Rattle.cc_build.specs.Shows.{shows_of}
use Rattle.cc_build.specs.Stage.{Stage, calls, beside, asked_then, opening_steps, compiles_planned, folder_stages, compile_stages, later_stages, late_stages, planned_stages}
use Rattle.cc_build.specs.Stage.Stage.{Asks}
use Rattle.cc_build.specs.Way.{Way, Found, all_firsts, chosen, way_of, writing_of}
use Rattle.cc_build.specs.Went.{Terms, Means, terms, Went, Halted, Ends}
use Rattle.cc_build.specs.declared.run_plan.RunPlan.{RunPlan}
use Rattle.cc_build.proofs.Going.{IsOpen, went_none, halted_none, halted_more, halted_among, halted_end, halted_from, ends_from}
use Rattle.cc_build.proofs.Stages.{both_none}

-- ---- the stages of a run up to its opening, by their parts

abbrev opened_by : Bool → Option PlanError → List Stage → List Stage → List Stage → List Stage
opened_by disabled late folder opening more = folder ++ (if disabled then [] else asked_then late (opening ++ more))

abbrev error_by : (PlanError → ErrorSeen) → Bool → Option PlanError → Option ErrorSeen
error_by f disabled late = if disabled then Some disabled_error else option_map f late

module _ (t : Terms) (f : PlanError → ErrorSeen) (folder opening more : List Stage) (refusal : Option ErrorSeen) where
  rest_open : (disabled : Bool) (late : Option PlanError) → IsOpen (first_of (error_by f disabled late) refusal) (if disabled then [] else asked_then late (opening ++ more))
  rest_open true late none = refl
  rest_open false late none = absurd (cc)

  -- where there is no stage, the settings are refused
  pub opened_open : (disabled : Bool) (late : Option PlanError) → IsOpen (first_of (error_by f disabled late) refusal) (opened_by disabled late folder opening more)
  opened_open disabled late none = rest_open disabled late (both_none folder (if disabled then [] else asked_then late (opening ++ more)) none)

  -- the folder wasn't made
  pub unfoldered : (disabled : Bool) (late : Option PlanError) (part : List Event) (e : ErrorSeen) (x : Means) → Halted t None folder part e x x → Halted t (first_of (error_by f disabled late) refusal) (opened_by disabled late folder opening more) part e x x
  unfoldered disabled late part e x h = halted_more t (first_of (error_by f disabled late) refusal) folder (if disabled then [] else asked_then late (opening ++ more)) part e x x h

  -- no command may run
  pub stopped : (disabled : Bool) (late : Option PlanError) (part : List Event) (e : ErrorSeen) (x : Means) → disabled ≡ true → Went t folder part x x → (e ≡ no_memory) ⊎ (e ≡ disabled_error) → Halted t (first_of (error_by f disabled late) refusal) (opened_by disabled late folder opening more) part e x x
  stopped disabled late part e x on w (inl memory) = halted_among t (first_of (error_by f disabled late) refusal) folder (if disabled then [] else asked_then late (opening ++ more)) part e x x w memory (rest_open disabled late)
  stopped true late part e x on w (inr is) = halted_end t (Some disabled_error) (folder ++ []) part e x x (subst (λ (l : List Stage). Went t l part x x) (sym (append-nil folder)) w) (ap Some (sym is))
  stopped false late part e x on w (inr is) = absurd (cc)

  -- the folder was made, and the run ended behind it
  pub stopped_behind : (disabled : Bool) (late : Option PlanError) (old made new : List Event) (e : ErrorSeen) (x : Means) → disabled ≡ false → made ≡ old ++ since old made → new ≡ made ++ since made new → Went t folder (since old made) x x → Halted t (first_of (option_map f late) refusal) (asked_then late (opening ++ more)) (since made new) e x x → Halted t (first_of (error_by f disabled late) refusal) (opened_by disabled late folder opening more) (since old new) e x x
  stopped_behind false late old made new e x off first last w h = halted_from t (first_of (option_map f late) refusal) old made new folder (asked_then late (opening ++ more)) e x x x first last w h
  stopped_behind true late old made new e x off first last w h = absurd (cc)

  -- it was opened, and the stages behind that ended so
  pub opened_ends : {T : Type 0} (disabled : Bool) (late : Option PlanError) (old mid new : List Event) (r : Result T ErrorSeen) (x z : Means) → disabled ≡ false → late ≡ None → mid ≡ old ++ since old mid → new ≡ mid ++ since mid new → Went t (folder ++ Asks ∷ opening) (since old mid) x x → Ends t refusal more (since mid new) r x z → Ends t (first_of (error_by f disabled late) refusal) (opened_by disabled late folder opening more) (since old new) r x z
  opened_ends false None old mid new r x z off allowed first last w o =
      subst (λ (l : List Stage). Ends t refusal l (since old new) r x z) (append_assoc folder (Asks ∷ opening) more) (ends_from t refusal old mid new (folder ++ Asks ∷ opening) more r x x z first last w o)
  opened_ends true late old mid new r x z off allowed first last w o = absurd (cc)
  opened_ends false (Some error) old mid new r x z off allowed first last w o = absurd (cc)

-- ---- the first checks

module _ (t : Terms) (f : PlanError → ErrorSeen) (rest : Option ErrorSeen) (stages : List Stage) where
  -- they refuse the settings, or memory was wanted
  pub unchecked : (early : Option PlanError) (part : List Event) (e : ErrorSeen) (x : Means) → IsOpen rest stages → part ≡ [] → (e ≡ no_memory) ⊎ (option_map f early ≡ Some e) → Halted t (first_of (option_map f early) rest) (if is_some early then [] else stages) part e x x
  unchecked None part e x owed none (inl memory) = halted_none t rest stages part e x none memory owed
  unchecked (Some error) part e x owed none (inl memory) = halted_none t (Some (f error)) [] part e x none memory (λ _. refl)
  unchecked None part e x owed none (inr refused) = absurd (cc)
  unchecked (Some error) part e x owed none (inr refused) = halted_end t (Some (f error)) [] part e x x (went_none t part x none) refused

  -- they pass
  pub checked_ends : {T : Type 0} (early : Option PlanError) (part : List Event) (r : Result T ErrorSeen) (x z : Means) → early ≡ None → Ends t rest stages part r x z → Ends t (first_of (option_map f early) rest) (if is_some early then [] else stages) part r x z
  checked_ends None part r x z passed o = o
  checked_ends (Some error) part r x z passed o = absurd (cc)

-- ---- behind the opening of some settings

-- a run was opened, and the stages behind that ended so
pub opened_so : {T : Type 0} (set : BuildConfig) (env : EnvSeen) (look : Look) (output : List ℕ) (found : Found) (t : Terms) (cmds : List Planned) (refusal : Option ErrorSeen) (more : List Stage) (old mid new : List Event) (r : Result T ErrorSeen) (x z : Means) → mid ≡ old ++ since old mid → new ≡ mid ++ since mid new → Opened set env look found cmds (since old mid) → Ends t refusal more (since mid new) r x z → Ends t (first_of (late_error set env look output) refusal) (opened_then set env found look more) (since old new) r x z
opened_so set env look output found t cmds refusal more old mid new r x z first last o ends =
    opened_ends t (plan_error set env output) (folder_stages set env) (calls (opening_steps set env found look)) more refusal (is_disabled env) (late_refusal set env look) old mid new r x z o.enabled o.allowed first last (o.went t x) ends

-- ---- the whole of a compile run

some_behind : (set : BuildConfig) (env : EnvSeen) (way : Way) (look : Look) (output : List ℕ) (front : List Stage) → front ++ later_stages set env way look output ≢ []
unfolding later_stages
some_behind set env way look output front = λ none. let last : later_stages set env way look output ≡ [] = both_none front (later_stages set env way look output) none in absurd (cc)

-- its stages are those of its opening, its commands, and those behind them
planned_are : (set : BuildConfig) (env : EnvSeen) (way : Way) (look : Look) (output : List ℕ)
    → checked_then (early_refusal set env output) set env way.found look (beside (compiles_planned set env way.found.here look) ++ later_stages set env way look output) ≡ planned_stages set env way look output
unfolding planned_stages late_stages compile_stages
planned_are set env way look output =
    ap (λ (l : List Stage). if is_some (early_refusal set env output) then [] else folder_stages set env ++ (if is_disabled env then [] else asked_then (late_refusal set env look) l))
    (sym (append_assoc (calls (opening_steps set env way.found look)) (beside (compiles_planned set env way.found.here look)) (later_stages set env way look output)))

module _ (b : BuildSeen) (listens : Bool) (output : List ℕ) (look : Look) (total patience : Option ℕ) where
  abbrev in_run : Terms
  in_run = terms (shows_of b.config b.env listens) total patience

  abbrev early : Option ErrorSeen
  early = early_error b.config b.env output

  abbrev late : Option ErrorSeen
  late = late_error b.config b.env look output

  abbrev behind : Option ErrorSeen
  behind = first_of (archive_error b.config b.env look output) (link_error b.config b.env look output)

  abbrev later : Way → List Stage
  later way = later_stages b.config b.env way look output

  -- it ended at its opening
  pub whole_unopened : (part : List Event) (e : ErrorSeen) (x : Means) → PlanRunEnds b listens output (Err e) look part → RunEnds {T = Unit {0}} b listens output (Err e) look part (course total patience x x)
  whole_unopened part e x p =
      let way = way_of p.0 (writing_of false []) all_firsts in
      let cmds = beside (compiles_planned b.config b.env p.0.here look) in
      let ended = p.1.1 in_run x behind (cmds ++ later way) (some_behind b.config b.env way look output cmds) in
      (way, (p.1.0, (λ _. refl), subst (λ (l : List Stage). Halted in_run (first_of early (first_of late behind)) l part e x x) (planned_are b.config b.env way look output) ended))

  -- it was opened, and the rest of it ended so
  pub whole_ends : {T : Type 0} (plan : RunPlan) (old mid new : List Event) (r : Result T ErrorSeen) (x z : Means) (total' patience' : Option ℕ) → mid ≡ old ++ since old mid → new ≡ mid ++ since mid new → total' ≡ total → patience' ≡ patience → PlanRunEnds b listens output (Ok plan) look (since old mid) → BehindOpening b output plan.shows plan.commands.items r look (since mid new) (course total' patience' x z) → RunEnds b listens output r look (since old new) (course total patience x z)
  whole_ends {T} plan old mid new r x z total' patience' first last same patient p k =
      let opened = p.1.3 in
      let there : BehindOpening b output (shows_of b.config b.env listens) (compiles_planned b.config b.env p.0.here look) r look (since mid new) (course total patience x z) =
      subst (λ (c : List Planned). BehindOpening b output (shows_of b.config b.env listens) c r look (since mid new) (course total patience x z)) opened.commands
      (subst (λ (s : Shows). BehindOpening b output s plan.commands.items r look (since mid new) (course total patience x z)) p.1.2
      (subst (λ (n : Option ℕ). BehindOpening b output plan.shows plan.commands.items r look (since mid new) (course n patience x z)) same
      (subst (λ (n : Option ℕ). BehindOpening b output plan.shows plan.commands.items r look (since mid new) (course total' n x z)) patient k))) in
      let rest = there p.0 p.1.0 in
      let way = way_of p.0 rest.0 rest.1 in
      let stages = beside (compiles_planned b.config b.env p.0.here look) ++ later way in
      let all : Ends in_run (first_of late behind) (opened_then b.config b.env p.0 look stages) (since old new) r x z =
      opened_so b.config b.env look output p.0 in_run plan.commands.items behind stages old mid new r x z first last opened rest.2.1 in (
        way,
        (
          p.1.0,
          rest.2.0,
          subst (λ (l : List Stage). Ends in_run (first_of early (first_of late behind)) l (since old new) r x z) (planned_are b.config b.env way look output)
              (checked_ends in_run (plan_error b.config b.env output) (first_of late behind) (opened_then b.config b.env p.0 look stages) (early_refusal b.config b.env output) (since old new) r x z p.1.1 all),
        ),
      )

-- memory was wanted behind the opening
pub behind_wanting : (b : BuildSeen) (output : List ℕ) (shows : Shows) (cmds : List Planned) (look : Look) (total patience : Option ℕ) (part : List Event) (e : ErrorSeen) (x : Means) → part ≡ [] → e ≡ no_memory → BehindOpening {T = Unit {0}} b output shows cmds (Err e) look part (course total patience x x)
behind_wanting b output shows cmds look total patience part e x none memory = λ found hears.
    let way = way_of found (writing_of false []) all_firsts in
    let refused = first_of (archive_error b.config b.env look output) (link_error b.config b.env look output) in
    let stages = beside cmds ++ later_stages b.config b.env way look output in (
      writing_of false [],
      all_firsts,
      ((λ _. refl), halted_none (terms shows total patience) refused stages part e x none memory (λ empty. absurd (some_behind b.config b.env way look output (beside cmds) empty))),
    )

-- ---- those that are chosen

drop_at : {X : Type 0} (xs : List X) (i : ℕ) (x : X) → slice_get xs i ≡ Some x → drop i xs ≡ x ∷ drop (suc i) xs
drop_at [] i x at = absurd (cc)
drop_at (y ∷ xs) zero x at = let same : y ≡ x = cc in ap (λ z. z ∷ xs) same
drop_at (y ∷ xs) (suc i) x at = drop_at xs i x at

chosen_at : {X : Type 0} (choices : List Bool) (xs : List X) (i : ℕ) (x : X) → slice_get xs i ≡ Some x → chosen (drop i choices) (drop i xs) ≡ when (unwrap_or (slice_get choices i) true) (x ∷ []) ++ chosen (drop (suc i) choices) (drop (suc i) xs)
chosen_at choices [] i x at = absurd (cc)
chosen_at [] (y ∷ xs) zero x at = drop_at (y ∷ xs) zero x at
chosen_at [] (y ∷ xs) (suc i) x at = drop_at (y ∷ xs) (suc i) x at
chosen_at (c ∷ choices) (y ∷ xs) zero x at = let same : y ≡ x = cc in ap (λ z. when c (z ∷ []) ++ chosen choices xs) same
chosen_at (c ∷ choices) (y ∷ xs) (suc i) x at = chosen_at choices xs i x at

-- the next one goes behind those so far, where it is chosen
pub chosen_next : {X : Type 0} (choices : List Bool) (xs : List X) (i : ℕ) (x : X) (is_chosen : Bool) (old new all : List X) → i < length xs → x ≡ get_or xs i x → is_chosen ≡ unwrap_or (slice_get choices i) true → new ≡ old ++ when is_chosen (x ∷ []) → old ++ chosen (drop i choices) (drop i xs) ≡ all → new ++ chosen (drop (i + 1) choices) (drop (i + 1) xs) ≡ all
chosen_next choices xs i x is_chosen old new all within is told made so_far =
    ap₂ (λ l k. l ++ chosen (drop k choices) (drop k xs)) made (add-one i)
    ∙ append_assoc old (when is_chosen (x ∷ [])) (chosen (drop (suc i) choices) (drop (suc i) xs))
    ∙ ap (λ b. old ++ (when b (x ∷ []) ++ chosen (drop (suc i) choices) (drop (suc i) xs))) told
    ∙ ap (λ l. old ++ l) (sym (chosen_at choices xs i x (slice_get_read xs (length xs) i x refl within is)))
    ∙ so_far

none_chosen : {X : Type 0} (choices : List Bool) → chosen {X = X} choices [] ≡ []
none_chosen [] = refl
none_chosen (c ∷ choices) = refl

past_end : {X : Type 0} (xs : List X) (i : ℕ) → length xs ≤ i → drop i xs ≡ []
past_end [] zero past = refl
past_end [] (suc i) past = refl
past_end (x ∷ xs) zero past = absurd (omega (arith, past))
past_end (x ∷ xs) (suc i) past = past_end xs i (omega (arith, past))

-- behind the last one these are all
pub chosen_all : {X : Type 0} (choices : List Bool) (xs : List X) (i : ℕ) (old all : List X) → length xs ≤ i → old ++ chosen (drop i choices) (drop i xs) ≡ all → old ≡ all
chosen_all choices xs i old all past so_far =
    sym (append-nil old) ∙ ap (λ l. old ++ l) (sym (none_chosen (drop i choices)) ∙ ap (chosen (drop i choices)) (sym (past_end xs i past))) ∙ so_far
