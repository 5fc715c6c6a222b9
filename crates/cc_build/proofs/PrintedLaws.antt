-- Calls of the host that list and print, and questions: by which steps they are seen, and that they start no child.
use Rattle.std.proofs.Common.{◌≡◌, ◌⊎◌, inl, inr, ◌∙◌, refl, sym, ap, subst, ℕ, List, [], ◌∷◌, ◌++◌, map, Bool, true, false, if◌then◌else◌, ◌||◌, ◌&&◌, Option, Some, None, Result, Ok, Err}
use Rattle.std.specs.List.{list_all, list_any, flat_map}
use Rattle.std.specs.Cmp.Derive.{both_true}
use Rattle.std.proofs.lemmas.Bool.{and_parts}
use Rattle.std.proofs.lemmas.List.Folds.{list_all-append, list_any-append}
use Rattle.cc_host.specs.Part.{Step, step_of, stop_of, stops, done, left, is_probing, Refuses, IsWhole}
use Rattle.cc_host.specs.Part.Step.{Runs, Makes, Removes, Writes, Copies, Finds, Says, Prints, Lists}
use Rattle.cc_host.specs.declared.event.Event.{Event}
use Rattle.cc_host.specs.declared.event.Event.TheVariants.{Started, Missing, Ended as EndedChild, Abandoned, Ran, Heard, Unread, Turn, Fault, Printed, Removed, Wrote, Copied, Here, Said, Made, Listed}
use Rattle.cc_host.specs.declared.event.HostCall.{HostCall}
use Rattle.cc_host.specs.declared.event.LineKind.{LineKind}
use Rattle.cc_host.specs.declared.event.Scope.TheVariants.{Build as Building, Probe as ForProbes}
use Rattle.cc_host.specs.declared.event.Why.{Why}
use Rattle.cc_host.proofs.Parts.{kind_is, IsKind, stops_stop, left_more, left_stop, partly_more, partly_stop, partly_whole, partly_none, whole_step, whole_then}
use Rattle.cc_plan.specs.Asking.{is_of_children}
use Rattle.cc_plan.specs.Plan.{prints, warning_steps, warned_steps}
use Rattle.cc_flags.specs.declared.settings.BuildConfig.{BuildConfig}
use Rattle.cc_tool.specs.Probing.{is_asked}
use Rattle.cc_build.specs.Build.{BuildSeen}
use Rattle.cc_build.specs.Course.{CallsEnd}
use Rattle.cc_build.specs.Error.{ErrorSeen, no_memory}
use Rattle.cc_build.specs.Failed.{is_fault}
use Rattle.cc_build.specs.Outcome.{Outcome, IsRefused, IsCausedBy}
use Rattle.cc_build.specs.Questions.{AsksOnly}
use Rattle.cc_build.specs.Shows.{shows_of}
use Rattle.cc_build.specs.Stage.{Stage, calls}
use Rattle.cc_build.specs.Stage.Stage.{Calls}
use Rattle.cc_build.specs.Stop.{stop_error, stopped_by}
use Rattle.cc_build.specs.Went.{Terms, Means, terms, means, Went, Halted, Halts, Ends, IsOf}
use Rattle.cc_build.proofs.Outcomes.{outcome_then}

-- ---- lines, messages and listings

-- a line is printed, a message is said, or the variables are listed
abbrev pub is_told : Step → Bool
is_told (Prints kind bytes) = true
is_told (Says message) = true
is_told Lists = true
is_told _ = false

pub told_both : (a b : List Step) → list_all is_told a ≡ true → list_all is_told b ≡ true → list_all is_told (a ++ b) ≡ true
told_both a b p q = list_all-append is_told a b ∙ ap (λ v. v && list_all is_told b) p ∙ q

pub told_prints : (kind : LineKind) (lines : List (List ℕ)) → list_all is_told (map (Prints kind) lines) ≡ true
told_prints kind [] = refl
told_prints kind (line ∷ lines) = told_prints kind lines

pub told_printed : (kind : LineKind) (lines : List (List ℕ)) → list_all is_told (prints kind lines) ≡ true
unfolding prints
told_printed kind [] = refl
told_printed kind (line ∷ lines) = told_printed kind lines

told_warning : (prints listens : Bool) (text : List ℕ) → list_all is_told (warning_steps prints listens text) ≡ true
told_warning true true text = refl
told_warning true false text = refl
told_warning false true text = refl
told_warning false false text = refl

told_each : (prints listens : Bool) (texts : List (List ℕ)) → list_all is_told (flat_map (warning_steps prints listens) texts) ≡ true
told_each prints listens [] = refl
told_each prints listens (text ∷ texts) =
    list_all-append is_told (warning_steps prints listens text) (flat_map (warning_steps prints listens) texts)
    ∙ both_true (told_warning prints listens text) (told_each prints listens texts)

pub told_warned : (set : BuildConfig) (listens : Bool) (texts : List (List ℕ)) → list_all is_told (warned_steps set listens texts) ≡ true
unfolding warned_steps
told_warned set listens texts = told_each set.cargo_warnings listens texts

-- what refuses such a step is a fault, and no question's
abbrev pub IsRealFault : Event → Type 0
IsRealFault event = (call : HostCall) × (why : Why) × ((event ≡ Fault call why) × (is_probing call ≡ false))

pub told_refused : (step : Step) (event : Event) → is_told step ≡ true → Refuses step event → IsRealFault event
told_refused (Prints kind bytes) (Fault call why) told refuses = (call, why, (refl, ap is_probing refuses))
told_refused (Says message) (Fault call why) told refuses = (call, why, (refl, ap is_probing refuses))
told_refused Lists (Fault call why) told refuses = (call, why, (refl, ap is_probing refuses))
told_refused (Prints kind bytes) event told refuses = absurd refuses
told_refused (Says message) event told refuses = absurd refuses
told_refused Lists event told refuses = absurd refuses
told_refused (Runs role cmd) event told refuses = absurd (cc)
told_refused (Makes scope path) event told refuses = absurd (cc)
told_refused (Removes path) event told refuses = absurd (cc)
told_refused (Writes path bytes) event told refuses = absurd (cc)
told_refused (Copies from to) event told refuses = absurd (cc)
told_refused (Finds path) event told refuses = absurd (cc)

pub fault_stops : (event : Event) → IsRealFault event → stop_of event ≡ event ∷ []
fault_stops event f = ap stop_of f.2.0 ∙ by_test (is_probing f.0) f.2.1 ∙ ap (λ e. e ∷ []) (sym f.2.0)
  where
    by_test : (b : Bool) → b ≡ false → (if b then [] else Fault f.0 f.1 ∷ []) ≡ Fault f.0 f.1 ∷ []
    by_test true h = absurd (cc)
    by_test false h = refl

pub fault_childless : (event : Event) → IsRealFault event → is_of_children event ≡ false
fault_childless event f = ap is_of_children f.2.0

pub fault_is : (event : Event) → IsRealFault event → is_fault event ≡ true
fault_is event f = ap is_fault f.2.0 ∙ rw f.2.1 refl

-- an event that did a step ended no run, and is of no child
pub stepped_calm : (event : Event) (step : Step) → step_of event ≡ step ∷ [] → IsKind event → stop_of event ≡ []
stepped_calm event step did (inl k) = k.0
stepped_calm event step did (inr (inl k)) = k.0
stepped_calm event step did (inr (inr k)) = absurd (cc)

pub stepped_childless : (event : Event) (step : Step) → step_of event ≡ step ∷ [] → is_of_children event ≡ false
stepped_childless (Started id role cmd pipes held) step did = absurd (cc)
stepped_childless (EndedChild id status) step did = absurd (cc)
stepped_childless (Abandoned id) step did = absurd (cc)
stepped_childless (Heard id bytes) step did = absurd (cc)
stepped_childless (Unread id) step did = absurd (cc)
stepped_childless (Turn count) step did = absurd (cc)
stepped_childless event step did = refl

pub or_false : (a b : Bool) → a ≡ false → b ≡ false → (a || b) ≡ false
or_false true b p q = absurd (cc)
or_false false b p q = q

pub neither : (a b : Bool) → (a || b) ≡ false → (a ≡ false) × (b ≡ false)
neither true b h = absurd (cc)
neither false b h = (refl, h)

abbrev pub IsChildless : List Event → Type 0
IsChildless part = list_any is_of_children part ≡ false

pub childless_then : (a b : List Event) → IsChildless a → IsChildless b → IsChildless (a ++ b)
childless_then a b p q = list_any-append is_of_children a b ∙ or_false (list_any is_of_children a) (list_any is_of_children b) p q

-- ---- calls of the host that list and print

-- calls that are cut in two are the calls of their steps
pub record Cut (steps : List Step) (before after : List Stage) : Type 0 where
  pub front : List Step
  pub back : List Step
  pub whole : steps ≡ front ++ back
  pub first : before ≡ calls front
  pub second : after ≡ calls back

pub cut_calls : (steps : List Step) (before after : List Stage) → calls steps ≡ before ++ after → Cut steps before after
cut_calls steps [] after e = record { front = []; back = steps; whole = refl; first = refl; second = sym e }
cut_calls [] (s ∷ before) after e = absurd (cc)
cut_calls (step ∷ steps) (s ∷ before) after e =
    let rest : calls steps ≡ before ++ after = cc in
    let same : Calls step ≡ s = cc in
    let k = cut_calls steps before after rest in
    record { front = step ∷ k.front; back = k.back; whole = ap (λ l. step ∷ l) k.whole; first = ap (λ l. s ∷ l) k.first ∙ ap (λ v. v ∷ calls k.front) (sym same); second = k.second }

module _ (t : Terms) where
  pub went_whole : (steps : List Step) (part : List Event) (x y : Means) → Went t (calls steps) part x y → IsWhole steps part × IsChildless part
  went_whole [] part x y w = (subst (λ (l : List Event). IsWhole [] l) (sym w.0) (record { done_all = refl; unstopped = refl }), ap (list_any is_of_children) w.0)
  went_whole (step ∷ steps) part x y w =
      let event = w.3.1.0 in
      let calm_so : stop_of event ≡ [] = stepped_calm event step w.3.1.1.1 (kind_is event) in
      let rest = went_whole steps w.1 w.2 y w.3.2 in
      let one : IsWhole (step ∷ []) w.0 = subst (λ (l : List Event). IsWhole (step ∷ []) l) (sym w.3.1.1.0) (whole_step step event w.3.1.1.1 calm_so) in
      let alone : IsChildless w.0 = ap (list_any is_of_children) w.3.1.1.0 ∙ or_false (is_of_children event) false (stepped_childless event step w.3.1.1.1) refl in (
        subst (λ (l : List Event). IsWhole (step ∷ steps) l) (sym w.3.0) (whole_then (step ∷ []) steps w.0 w.1 one rest.0),
        ap (list_any is_of_children) w.3.0 ∙ childless_then w.0 w.1 alone rest.1,
      )

  -- they were not all made, and the error has its cause
  module _ (refusal : Option ErrorSeen) (steps : List Step) (told : list_all is_told steps ≡ true) (part : List Event) (e : ErrorSeen) (x y : Means) (h : Halted t None (calls steps) part e x y) where
    abbrev k : Cut steps h.before h.after
    k = cut_calls steps h.before h.after h.stages_are

    front_done : IsWhole k.front h.front × IsChildless h.front
    front_done = went_whole k.front h.front x h.y (subst (λ (s : List Stage). Went t s h.front x h.y) k.first h.went)

    told_back : list_all is_told k.back ≡ true
    told_back = (and_parts (list_all is_told k.front) (list_all is_told k.back) (sym (list_all-append is_told k.front k.back) ∙ sym (ap (list_all is_told) k.whole) ∙ told)).1

    back_refused : (back : List Step) → list_all is_told back ≡ true → Halts t None (calls back) h.rest e h.y y → IsRefused refusal back h.rest e × IsChildless h.rest
    back_refused [] all halts = absurd (let clash : false ≡ true = halts.3 in cc)
    back_refused (step ∷ back) all (inl memory) =
        (subst (λ (l : List Event). IsRefused refusal (step ∷ back) l e) (sym memory.1) (partly_none (step ∷ back), inl memory.0), ap (list_any is_of_children) memory.1)
    back_refused (step ∷ back) all (inr stop) =
        let event = stop.0 in
        let fault = told_refused step event (and_parts (is_told step) (list_all is_told back) all).0 stop.1.1 in
        let stops_so : stop_of event ≡ event ∷ [] = fault_stops event fault in
        let cause : IsCausedBy refusal (step ∷ back) (event ∷ []) e = by_cause step back event stops_so stop.1.2 in (
          subst (λ (l : List Event). IsRefused refusal (step ∷ back) l e) (sym stop.1.0) (partly_stop step back event stops_so stop.1.1, cause),
          ap (list_any is_of_children) stop.1.0 ∙ or_false (is_of_children event) false (fault_childless event fault) refl,
        )
      where
        by_cause : (step : Step) (back : List Step) (event : Event) → stop_of event ≡ event ∷ [] → IsOf (stop_error step event) e → IsCausedBy refusal (step ∷ back) (event ∷ []) e
        by_cause step back event stops_so (inl memory) = inl memory
        by_cause step back event stops_so (inr is) =
            inr (inr (ap (λ l. stopped_by l (stops (event ∷ []))) (left_stop step back event stops_so) ∙ ap (λ s. stopped_by (step ∷ back) s) (stops_stop event stops_so) ∙ ap Some (sym is)))

    halted_refused : IsRefused refusal steps part e × IsChildless part
    halted_refused =
        let rest = back_refused k.back told_back (subst (λ (s : List Stage). Halts t None s h.rest e h.y y) k.second h.halts) in
        let both : IsRefused refusal (k.front ++ k.back) (h.front ++ h.rest) e = outcome_then {T = Unit {0}} refusal k.front k.back h.front h.rest (Err e) front_done.0 rest.0 in (
          subst (λ (l : List Event). IsRefused refusal steps l e) (sym h.cut) (subst (λ (s : List Step). IsRefused refusal s (h.front ++ h.rest) e) (sym k.whole) both),
          ap (list_any is_of_children) h.cut ∙ childless_then h.front h.rest front_done.1 rest.1,
        )

-- calls that list and print have their outcome, on whatever terms they were made
pub ends_outcome : {T : Type 0} (t : Terms) (refusal : Option ErrorSeen) (steps : List Step) (part : List Event) (r : Result T ErrorSeen) (x y : Means) → refusal ≡ None → list_all is_told steps ≡ true → Ends t None (calls steps) part r x y → Outcome refusal steps part r × IsChildless part
ends_outcome t refusal steps part (Ok v) x y none told ends = let w = went_whole t steps part x y ends.1 in ((none, w.0), w.1)
ends_outcome t refusal steps part (Err e) x y none told ends = halted_refused t refusal steps told part e x y ends

pub calls_outcome : {T : Type 0} (b : BuildSeen) (refusal : Option ErrorSeen) (steps : List Step) (part : List Event) (r : Result T ErrorSeen) → refusal ≡ None → list_all is_told steps ≡ true → CallsEnd steps part r → Outcome refusal steps part r × IsChildless part
calls_outcome b refusal steps part r none told ends =
    ends_outcome (terms (shows_of b.config b.env false) None None) refusal steps part r (means 0 0 0 0) (means 0 0 0 0) none told (ends (terms (shows_of b.config b.env false) None None) (means 0 0 0 0))

-- ---- questions

pub asked_step : (event : Event) → is_asked event ≡ true → step_of event ≡ []
asked_step (Ran role cmd pipes status out err) h = absurd (cc)
asked_step (Removed path how) h = absurd (cc)
asked_step (Wrote path bytes) h = absurd (cc)
asked_step (Copied a_file to_file) h = absurd (cc)
asked_step (Here here) h = absurd (cc)
asked_step (Said message) h = absurd (cc)
asked_step (Made Building path) h = absurd (cc)
asked_step (Made ForProbes path) h = refl
asked_step (Printed kind bytes) h = absurd (cc)
asked_step (Listed vars) h = absurd (cc)
asked_step event h = refl

pub asked_stop : (event : Event) → is_asked event ≡ true → stop_of event ≡ []
asked_stop (Ran role cmd pipes status out err) h = absurd (cc)
asked_stop (Missing role cmd) h = absurd (cc)
asked_stop (Fault call why) h = rw h refl
asked_stop event h = refl

pub asked_childless : (event : Event) → is_asked event ≡ true → is_of_children event ≡ false
asked_childless (Started id role cmd pipes held) h = absurd (cc)
asked_childless (EndedChild id status) h = absurd (cc)
asked_childless (Abandoned id) h = absurd (cc)
asked_childless (Heard id bytes) h = absurd (cc)
asked_childless (Unread id) h = absurd (cc)
asked_childless (Turn count) h = absurd (cc)
asked_childless event h = refl

-- questions do no step, end no run, and start no child
pub asked_whole : (part : List Event) → AsksOnly part → IsWhole [] part × IsChildless part
asked_whole [] h = (record { done_all = refl; unstopped = refl }, refl)
asked_whole (event ∷ part) h =
    let k = and_parts (is_asked event) (list_all is_asked part) h in
    let rest = asked_whole part k.1 in (
      record {
        done_all = ap (λ l. l ++ done part) (asked_step event k.0) ∙ rest.0.done_all;
        unstopped = ap (λ l. l ++ stops part) (asked_stop event k.0) ∙ rest.0.unstopped;
      },
      or_false (is_of_children event) (list_any is_of_children part) (asked_childless event k.0) rest.1,
    )

-- ---- outcomes of more steps

pub stopped_more : (steps more : List Step) (events : List Event) (e : ErrorSeen) → stopped_by steps events ≡ Some e → stopped_by (steps ++ more) events ≡ Some e
stopped_more [] more events e h = absurd (cc)
stopped_more (step ∷ steps) more [] e h = absurd (cc)
stopped_more (step ∷ steps) more (event ∷ []) e h = h
stopped_more (step ∷ steps) more (event ∷ other ∷ events) e h = absurd (cc)

-- a run that was refused among these steps is refused among more, for a cause that has its refusal
pub refused_more : (refusal wider : Option ErrorSeen) (steps more : List Step) (part : List Event) (e : ErrorSeen) → (refusal ≡ Some e → wider ≡ Some e) → IsRefused refusal steps part e → IsRefused wider (steps ++ more) part e
refused_more refusal wider steps more part e carries r = (partly_more steps more part r.0, by_cause r.1)
  where
    by_cause : IsCausedBy refusal steps part e → IsCausedBy wider (steps ++ more) part e
    by_cause (inl memory) = inl memory
    by_cause (inr (inl refused)) = inr (inl (carries refused))
    by_cause (inr (inr stopped)) = inr (inr (ap (λ l. stopped_by l (stops part)) (left_more steps more part r.0) ∙ stopped_more (left steps part) more (stops part) e stopped))

-- questions alone, and then a refusal by their answers
pub asked_refused : (refusal : Option ErrorSeen) (steps : List Step) (part : List Event) (e : ErrorSeen) → AsksOnly part → (e ≡ no_memory) ⊎ (refusal ≡ Some e) → IsRefused refusal steps part e
asked_refused refusal steps part e quiet cause = (partly_more [] steps part (partly_whole [] part (asked_whole part quiet).0), by_cause cause)
  where
    by_cause : (e ≡ no_memory) ⊎ (refusal ≡ Some e) → IsCausedBy refusal steps part e
    by_cause (inl memory) = inl memory
    by_cause (inr refused) = inr (inl refused)
