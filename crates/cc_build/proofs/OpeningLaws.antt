-- How a run is opened: questions that refuse nothing, then the warnings and the folder; and how its commands are stages.
use Rattle.std.proofs.Common.{◌≡◌, ◌≢◌, ◌<◌, ◌≤◌, inl, inr, ℕ, List, [], ◌∷◌, ◌++◌, length, Bool, true, false, nat_eq, eqb-true, arith, Option, Some, None, Result, Ok, Err, IfErr, refl, sym, ◌∙◌, ap, subst, append_assoc, option_map}
use Rattle.std.specs.List.{list_all, flat_map}
use Rattle.std.specs.Cmp.Derive.{both_true}
use Rattle.std.proofs.lemmas.List.{map-append}
use Rattle.std.proofs.lemmas.List.Folds.{list_all-append}
use Rattle.cc_host.specs.Part.{since}
use Rattle.cc_host.specs.declared.event.Event.{Event}
use Rattle.cc_host.proofs.Parts.{since_since}
use Rattle.cc_plan.specs.Plan.{warned_steps, warning_steps}
use Rattle.cc_plan.specs.declared.error.PlanError.{PlanError}
use Rattle.cc_flags.specs.declared.settings.BuildConfig.{BuildConfig}
use Rattle.cc_tool.specs.Probing.{is_asked}
use Rattle.cc_build.specs.Error.{ErrorSeen, no_memory}
use Rattle.cc_build.specs.Phases.{HereEnds, OpensEnd}
use Rattle.cc_build.specs.Seen.{opening_of}
use Rattle.cc_run.specs.declared.planned.Planned.{Planned}
use Rattle.cc_build.specs.Stage.{Stage, calls, beside, in_turn, asked_then, finding_steps}
use Rattle.cc_build.specs.Stage.Stage.{Calls, Asks, Tries, RunsOne, RunsAll}
use Rattle.cc_build.specs.Went.{Terms, Means, Went, Halts, Halted, Ends}
use Rattle.cc_build.specs.declared.task.Task.{Task}
use Rattle.cc_flags.specs.Given.{first_of}
use Rattle.cc_build.proofs.AloneLaws.{AreStill, still_calls, went_still, halted_still}
use Rattle.cc_build.proofs.Going.{went_one, went_then, went_from, halted_none, halted_at, halted_more, halted_then, halted_from}

-- ---- questions before questions

module _ (t : Terms) (a : List Event) (asked : list_all is_asked a ≡ true) where
  both_asked : (b : List Event) → list_all is_asked b ≡ true → list_all is_asked (a ++ b) ≡ true
  both_asked b rest = list_all-append is_asked a b ∙ both_true asked rest

  -- they are asked as one stage
  pub went_asked : (ss : List Stage) (part : List Event) (x z : Means) → Went t (Asks ∷ ss) part x z → Went t (Asks ∷ ss) (a ++ part) x z
  went_asked ss part x z w = (a ++ w.0, w.1, w.2, (ap (λ l. a ++ l) w.3.0 ∙ sym (append_assoc a w.0 w.1), (both_asked w.0 w.3.1.0, w.3.1.1), w.3.2))

  head_is : {s : Stage} {k l : List Stage} → Asks ∷ k ≡ s ∷ l → s ≡ Asks
  head_is same = cc

  -- the run ended at them, since memory was wanted
  halts_asked : (refusal : Option ErrorSeen) (s : Stage) (after : List Stage) (rest : List Event) (e : ErrorSeen) (x z : Means) → s ≡ Asks → Halts t refusal (s ∷ after) rest e x z → (e ≡ no_memory) × (list_all is_asked rest ≡ true) × (z ≡ x)
  halts_asked refusal Asks after rest e x z is (inl h) = (h.0, ap (list_all is_asked) h.1, h.2)
  halts_asked refusal Asks after rest e x z is (inr h) = h
  halts_asked refusal (Calls step) after rest e x z is h = absurd (cc)
  halts_asked refusal (Tries refused p) after rest e x z is h = absurd (cc)
  halts_asked refusal (RunsOne p) after rest e x z is h = absurd (cc)
  halts_asked refusal (RunsAll ps) after rest e x z is h = absurd (cc)

  pub halted_asked : (refusal : Option ErrorSeen) (ss : List Stage) (part : List Event) (e : ErrorSeen) (x z : Means) → Halted t refusal (Asks ∷ ss) part e x z → Halted t refusal (Asks ∷ ss) (a ++ part) e x z
  halted_asked refusal ss part e x z h = by_place h.before h.after h.front h.rest h.y h.stages_are h.cut h.went h.halts
    where
      by_place : (before after : List Stage) (front rest : List Event) (y : Means) → Asks ∷ ss ≡ before ++ after → part ≡ front ++ rest → Went t before front x y → Halts t refusal after rest e y z → Halted t refusal (Asks ∷ ss) (a ++ part) e x z
      by_place [] [] front rest y is cut w halts = absurd (cc)
      by_place [] (s ∷ after) front rest y is cut w halts =
          let stop = halts_asked refusal s after rest e y z (head_is is) halts in
          halted_at t refusal Asks ss (a ++ part) e x z (stop.0, both_asked part (ap (list_all is_asked) (cut ∙ ap (λ l. l ++ rest) w.0) ∙ stop.1), stop.2 ∙ w.1)
      by_place (s ∷ before) after front rest y is cut w halts = record {
        before = Asks ∷ before;
        after = after;
        front = a ++ front;
        rest = rest;
        y = y;
        stages_are = is ∙ ap (λ k. k ∷ before ++ after) (head_is is);
        cut = ap (λ l. a ++ l) cut ∙ sym (append_assoc a front rest);
        went = went_asked before front x y (subst (λ (k : Stage). Went t (k ∷ before) front x y) (head_is is) w);
        halts = halts;
      }

  pub ends_asked : {T : Type 0} (refusal : Option ErrorSeen) (ss : List Stage) (part : List Event) (r : Result T ErrorSeen) (x z : Means) → Ends t refusal (Asks ∷ ss) part r x z → Ends t refusal (Asks ∷ ss) (a ++ part) r x z
  ends_asked refusal ss part (Ok v) x z o = (o.0, went_asked ss part x z o.1)
  ends_asked refusal ss part (Err e) x z h = halted_asked refusal ss part e x z h

  -- questions were asked that refuse nothing, and then the stages of a phase ended so behind questions
  pub phase_asked : {T : Type 0} (f : PlanError → ErrorSeen) (p : Option PlanError) (refusal : Option ErrorSeen) (stages these : List Stage) (part : List Event) (r : Result T ErrorSeen) (x z : Means) → p ≡ None → these ≡ stages → Ends t refusal (Asks ∷ these) part r x z → Ends t (first_of (option_map f p) refusal) (asked_then p stages) (a ++ part) r x z
  phase_asked f None refusal stages these part r x z allowed same o = subst (λ (s : List Stage). Ends t refusal (Asks ∷ s) (a ++ part) r x z) same (ends_asked refusal these part r x z o)
  phase_asked f (Some error) refusal stages these part r x z allowed same o = absurd (cc)

-- the same of the parts of two calls
pub phase_from : {T : Type 0} (t : Terms) (f : PlanError → ErrorSeen) (p : Option PlanError) (refusal : Option ErrorSeen) (stages these : List Stage) (old mid new : List Event) (r : Result T ErrorSeen) (x z : Means) → mid ≡ old ++ since old mid → new ≡ mid ++ since mid new → list_all is_asked (since old mid) ≡ true → p ≡ None → these ≡ stages → Ends t refusal (Asks ∷ these) (since mid new) r x z → Ends t (first_of (option_map f p) refusal) (asked_then p stages) (since old new) r x z
phase_from t f p refusal stages these old mid new r x z first last asked allowed same o =
    subst (λ (part : List Event). Ends t (first_of (option_map f p) refusal) (asked_then p stages) part r x z) (sym (since_since old mid new first last))
    (phase_asked t (since old mid) asked f p refusal stages these (since mid new) r x z allowed same o)

-- and of stages that were done
pub went_behind : (t : Terms) (stages these : List Stage) (old mid new : List Event) (x z : Means) → mid ≡ old ++ since old mid → new ≡ mid ++ since mid new → list_all is_asked (since old mid) ≡ true → these ≡ stages → Went t (Asks ∷ these) (since mid new) x z → Went t (Asks ∷ stages) (since old new) x z
went_behind t stages these old mid new x z first last asked same w =
    subst (λ (part : List Event). Went t (Asks ∷ stages) part x z) (sym (since_since old mid new first last))
    (went_asked t (since old mid) asked stages (since mid new) x z (subst (λ (s : List Stage). Went t (Asks ∷ s) (since mid new) x z) same w))

-- no question was asked
asks_none : (t : Terms) (x : Means) → Went t (Asks ∷ []) [] x x
asks_none t x = went_one t Asks [] x x (refl, refl)

-- ---- the warnings and the folder

pub seen_warned : (set : BuildConfig) (listens : Bool) (texts : List (List ℕ)) → calls (flat_map (warning_steps set.cargo_warnings listens) texts) ≡ calls (warned_steps set listens texts)
unfolding warned_steps
seen_warned set listens texts = refl

module _ (task : Task) (texts : List (List ℕ)) where
  abbrev warned : List Stage
  warned = calls (warned_steps task.set.now task.reporting.shows.listens texts)

  abbrev opening : Option (List ℕ) → List Stage
  opening here = calls (opening_of task.set.now task.reporting.shows.listens texts here)

  split_opening : (here : Option (List ℕ)) → Asks ∷ warned ++ calls (finding_steps here) ≡ Asks ∷ opening here
  split_opening here = ap (λ l. Asks ∷ l) (sym (map-append Calls (warned_steps task.set.now task.reporting.shows.listens texts) (finding_steps here)))

  still_warned : AreStill warned
  still_warned = still_calls (warned_steps task.set.now task.reporting.shows.listens texts)

  -- memory was wanted for them
  pub open_wanting : (part : List Event) (e : ErrorSeen) → part ≡ [] → e ≡ no_memory → OpensEnd task texts (Err e) part
  open_wanting part e none memory = λ here hears t x. halted_none t None (Asks ∷ opening here) part e x none memory (λ empty. absurd (cc))

  -- the run ended among the warnings
  pub open_unwarned : (u : Terms) (stages : List Stage) (part : List Event) (e : ErrorSeen) (y z : Means) → stages ≡ warned → Halted u None stages part e y z → OpensEnd task texts (Err e) part
  open_unwarned u stages part e y z is h = λ here hears t x.
      let still : Halted t None warned part e x x =
      halted_still u t x None warned part e y z still_warned (subst (λ (l : List Stage). Halted u None l part e y z) is h) in
      subst (λ (l : List Stage). Halted t None l part e x x) (split_opening here)
      (halted_then t None (Asks ∷ []) (warned ++ calls (finding_steps here)) [] part e x x x (asks_none t x) (halted_more t None warned (calls (finding_steps here)) part e x x still))

  -- they were given, and the folder was told or not
  module _ (u : Terms) (stages : List Stage) (old mid new : List Event) (y z : Means) (is : stages ≡ warned) (first : mid ≡ old ++ since old mid) (last : new ≡ mid ++ since mid new) (went : Went u stages (since old mid) y z) where
    went_warned : (t : Terms) (x : Means) → Went t (Asks ∷ warned) (since old mid) x x
    went_warned t x =
        let still : Went t warned (since old mid) x x =
        went_still u t x warned (since old mid) y z still_warned (subst (λ (l : List Stage). Went u l (since old mid) y z) is went) in
        went_then t (Asks ∷ []) warned [] (since old mid) x x x (asks_none t x) still

    pub open_ends : (r : Result (Option (List ℕ)) ErrorSeen) → HereEnds task.reporting.shows.listens r (since mid new) → OpensEnd task texts r (since old new)
    open_ends (Ok here) h = (
      h.0,
      λ t x.
          subst (λ (l : List Stage). Went t l (since old new) x x) (split_opening here)
          (went_from t old mid new (Asks ∷ warned) (calls (finding_steps here)) x x x first last (went_warned t x) (h.1 t x).1),
    )
    open_ends (Err e) h = λ here hears t x.
        subst (λ (l : List Stage). Halted t None l (since old new) e x x) (split_opening here)
        (halted_from t None old mid new (Asks ∷ warned) (calls (finding_steps here)) e x x x first last (went_warned t x) (h here hears t x))

-- ---- commands beside each other

-- a list is empty as the code says
pub nothing_in : {X : Type 0} (xs : List X) (is_empty : Bool) → is_empty ≡ nat_eq (length xs) 0 → is_empty ≡ true → xs ≡ []
nothing_in [] is_empty tells empty = refl
nothing_in (x ∷ xs) is_empty tells empty =
    let none : length (x ∷ xs) ≡ 0 = eqb-true (length (x ∷ xs)) 0 (sym tells ∙ empty) in
    absurd (omega (arith, none))

-- a fact that holds without a result
pub whichever : {T E : Type 0} (P : Type 0) (r : Result T E) → P → IfErr r (λ _. P)
whichever P (Ok v) p = tt
whichever P (Err e) p = p

-- there is a stage where there is a command
pub some_beside : (cmds : List Planned) (is_empty : Bool) → is_empty ≡ nat_eq (length cmds) 0 → is_empty ≡ false → beside cmds ≢ []
some_beside [] is_empty tells filled = λ none. absurd (let clash : true ≡ false = sym tells ∙ filled in cc)
some_beside (p ∷ []) is_empty tells filled = λ none. absurd (cc)
some_beside (p ∷ q ∷ ps) is_empty tells filled = λ none. absurd (cc)

-- one command is one stage
pub one_beside : (cmds : List Planned) → length cmds < 2 → in_turn cmds ≡ beside cmds
one_beside [] few = refl
one_beside (p ∷ []) few = refl
one_beside (p ∷ q ∷ ps) few = absurd (omega (arith, few))

-- more are one stage, too
pub more_beside : (cmds : List Planned) → 2 ≤ length cmds → RunsAll cmds ∷ [] ≡ beside cmds
more_beside [] many = absurd (omega (arith, many))
more_beside (p ∷ []) many = absurd (omega (arith, many))
more_beside (p ∷ q ∷ ps) many = refl
