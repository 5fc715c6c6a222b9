-- Where a call of the host failed: nowhere in a part that nothing ended, else at its end.
use Rattle.std.proofs.Common.{◌≡◌, ◌∙◌, refl, sym, ap, subst, List, [], ◌∷◌, ◌++◌, Bool, true, false, not, if◌then◌else◌, ◌||◌, Some, append_assoc}
use Rattle.std.specs.List.{list_all, list_any}
use Rattle.std.proofs.lemmas.Bool.{and_parts}
use Rattle.std.proofs.lemmas.List.{append_cancel_left}
use Rattle.std.proofs.lemmas.List.Folds.{list_all-append, list_any-append}
use Rattle.cc_host.specs.Part.{Step, stop_of, calm_of, stops, calm, done, left, is_probing, StopsAt, IsPartly}
use Rattle.cc_host.specs.declared.event.Event.{Event}
use Rattle.cc_host.specs.declared.event.Event.TheVariants.{Fault}
use Rattle.cc_host.proofs.Parts.{stops_both, calm_then, calm_whole}
use Rattle.cc_build.specs.Error.{ErrorSeen}
use Rattle.cc_build.specs.Failed.{HasFault, is_fault}
use Rattle.cc_build.specs.Promises.{FaultsEnd}
use Rattle.cc_build.specs.Stop.{stopped_by}
use Rattle.cc_build.proofs.PrintedLaws.{is_told, IsRealFault, told_refused, fault_stops, fault_is}
use Rattle.cc_build.proofs.Trying.{beyond, no_such_fault}

-- one event alone ends a run
stop_alone : (steps : List Step) (before after : List Event) (event : Event) → StopsAt steps (before ++ event ∷ after) → (before ≡ []) × (after ≡ [])
stop_alone [] [] after event stop = absurd stop
stop_alone [] (x ∷ before) after event stop = absurd stop
stop_alone (step ∷ steps) [] [] event stop = (refl, refl)
stop_alone (step ∷ steps) [] (x ∷ after) event stop = absurd stop
stop_alone (step ∷ steps) (x ∷ []) after event stop = absurd stop
stop_alone (step ∷ steps) (x ∷ y ∷ before) after event stop = absurd stop

-- an event that ends a run is none of those that end none
none_follows : (after : List Event) (event : Event) → stop_of event ≡ event ∷ [] → stops after ≡ [] → event ∷ after ≡ after ++ event ∷ [] → after ≡ []
none_follows [] event stop none e = refl
none_follows (x ∷ after) event stop none e =
    let same : event ≡ x = cc in
    let some : event ∷ stops after ≡ [] = ap (λ l. l ++ stops after) (sym stop) ∙ ap (λ v. stop_of v ++ stops after) same ∙ none in
    absurd (cc)

-- a run whose first steps were done has its fault last
pub partly_faults : (steps : List Step) (part : List Event) → IsPartly steps part → FaultsEnd part
partly_faults steps part p before after call why real is = ([], nothing_behind)
  where
    fault : Event
    fault = Fault call why

    real_fault : IsRealFault fault
    real_fault = (call, why, (refl, real))

    stops_are : stops part ≡ stops before ++ fault ∷ stops after
    stops_are = ap stops is ∙ stops_both before (fault ∷ after) ∙ ap (λ l. stops before ++ (l ++ stops after)) (fault_stops fault real_fault)

    alone : (stops before ≡ []) × (stops after ≡ [])
    alone = stop_alone (left steps part) (stops before) (stops after) fault (subst (λ (l : List Event). StopsAt (left steps part) l) stops_are p.stop)

    no_calm : calm_of fault ≡ []
    no_calm = rw real refl

    calm_are : calm part ≡ before ++ after
    calm_are =
        ap calm is ∙ calm_then before (fault ∷ after) ∙ ap (λ l. l ++ calm (fault ∷ after)) (sym (calm_whole before alone.0))
        ∙ ap (λ l. before ++ (l ++ calm after)) no_calm ∙ ap (λ l. before ++ l) (sym (calm_whole after alone.1))

    stop_is : stops part ≡ fault ∷ []
    stop_is = stops_are ∙ ap (λ l. l ++ fault ∷ stops after) alone.0 ∙ ap (λ l. fault ∷ l) alone.1

    both : before ++ fault ∷ after ≡ before ++ (after ++ fault ∷ [])
    both = sym is ∙ p.last ∙ ap (λ l. l ++ stops part) calm_are ∙ ap (λ l. (before ++ after) ++ l) stop_is ∙ append_assoc before after (fault ∷ [])

    nothing_behind : after ≡ []
    nothing_behind = none_follows after fault (fault_stops fault real_fault) alone.1 (append_cancel_left before (fault ∷ after) (after ++ fault ∷ []) both)

-- a step that was refused faulted
pub stopped_fault : (steps : List Step) (part : List Event) (e : ErrorSeen) → list_all is_told steps ≡ true → IsPartly steps part → stopped_by (left steps part) (stops part) ≡ Some e → HasFault part
stopped_fault steps part e told p stopped = by_left (left steps part) (stops part) told_left p.stop refl stopped
  where
    told_left : list_all is_told (left steps part) ≡ true
    told_left = (and_parts (list_all is_told (done part)) (list_all is_told (left steps part)) (sym (list_all-append is_told (done part) (left steps part)) ∙ sym (ap (list_all is_told) p.begun) ∙ told)).1

    by_left : (rest : List Step) (events : List Event) → list_all is_told rest ≡ true → StopsAt rest events → stops part ≡ events → stopped_by rest events ≡ Some e → HasFault part
    by_left [] events all stop are h = absurd (cc)
    by_left (step ∷ rest) [] all stop are h = absurd (cc)
    by_left (step ∷ rest) (event ∷ []) all stop are h =
        let fault = told_refused step event (and_parts (is_told step) (list_all is_told rest) all).0 stop in
        ap (list_any is_fault) (p.last ∙ ap (λ l. calm part ++ l) are) ∙ list_any-append is_fault (calm part) (event ∷ []) ∙ or_last (list_any is_fault (calm part)) (is_fault event) (fault_is event fault)
      where
        or_last : (a b : Bool) → b ≡ true → (a || (b || false)) ≡ true
        or_last true b h = refl
        or_last false true h = refl
        or_last false false h = absurd (cc)
    by_left (step ∷ rest) (event ∷ other ∷ events) all stop are h = absurd stop

empty_behind : {X : Type 0} (a b : List X) → a ++ b ≡ [] → b ≡ []
empty_behind [] b h = h
empty_behind (x ∷ a) b h = absurd (cc)

-- where nothing ended it, no call of the host failed
pub unstopped : (part : List Event) → stops part ≡ [] → list_any is_fault part ≡ false
unstopped [] h = refl
unstopped (Fault call why ∷ part) h = by_test (is_probing call) h (unstopped part (empty_behind (stop_of (Fault call why)) (stops part) h))
  where
    by_test : (b : Bool) → (if b then [] else Fault call why ∷ []) ++ stops part ≡ [] → list_any is_fault part ≡ false → (not b || list_any is_fault part) ≡ false
    by_test true k rest = rest
    by_test false k rest = absurd (cc)
unstopped (event ∷ part) h = unstopped part (empty_behind (stop_of event) (stops part) h)

pub nothing_faults : FaultsEnd []
nothing_faults before after call why real here = absurd (no_such_fault [] before after call why refl real here)

pub then_faults : (front rest : List Event) → list_any is_fault front ≡ false → FaultsEnd rest → FaultsEnd (front ++ rest)
then_faults front rest none h before after call why real here =
    let k = beyond front rest before after (Fault call why) none (ap not real) here in
    h k.0 after call why real k.1
