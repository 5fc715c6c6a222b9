-- How the outcomes of one stage of a run after another make up that of the run.
use Rattle.std.proofs.Common.{MatchResult, IfOk, IfErr, ◌≡◌, ◌⊎◌, inl, inr, List, [], ◌∷◌, ◌++◌, Option, Result, Ok, Err, sym, ◌∙◌, ap, subst}
use Rattle.cc_host.specs.Part.{Step, since, stops, left, IsWhole}
use Rattle.cc_host.proofs.Parts.{since_since, partly_then, left_then, stops_then, whole_then}
use Rattle.cc_host.specs.declared.event.Event.{Event}
use Rattle.cc_host.specs.Part.Step.{Lists}
use Rattle.cc_build.specs.Captured.{CaptureEnds}
use Rattle.cc_build.specs.Course.{CallsEnd}
use Rattle.cc_build.specs.Error.{ErrorSeen, no_memory}
use Rattle.cc_build.specs.Stop.{stopped_by}
use Rattle.cc_build.specs.Outcome.{IsCausedBy, Outcome}

caused_then : (refusal : Option ErrorSeen) (first second : List Step) (a b : List Event) (e : ErrorSeen) → IsWhole first a → IsCausedBy refusal second b e → IsCausedBy refusal (first ++ second) (a ++ b) e
caused_then refusal first second a b e w (inl memory) = inl memory
caused_then refusal first second a b e w (inr (inl refused)) = inr (inl refused)
caused_then refusal first second a b e w (inr (inr stopped)) =
    inr (inr (ap (λ l. stopped_by l (stops (a ++ b))) (left_then first second a b w) ∙ ap (λ s. stopped_by (left second b) s) (stops_then first a b w) ∙ stopped))

-- a stage that was done, and then another
pub outcome_then : {T : Type 0} (refusal : Option ErrorSeen) (first second : List Step) (a b : List Event) (r : Result T ErrorSeen) → IsWhole first a → Outcome refusal second b r → Outcome refusal (first ++ second) (a ++ b) r
outcome_then refusal first second a b (Ok x) w o = (o.0, whole_then first second a b w o.1)
outcome_then refusal first second a b (Err e) w o = (partly_then first second a b w o.0, caused_then refusal first second a b e w o.1)

-- the same of the parts of two calls
pub outcome_from : {T : Type 0} (refusal : Option ErrorSeen) (old mid new : List Event) (first second : List Step) (r : Result T ErrorSeen) → mid ≡ old ++ since old mid → new ≡ mid ++ since mid new → IsWhole first (since old mid) → Outcome refusal second (since mid new) r → Outcome refusal (first ++ second) (since old new) r
outcome_from refusal old mid new first second r e f w o =
    subst (λ part. Outcome refusal (first ++ second) part r) (sym (since_since old mid new e f)) (outcome_then refusal first second (since old mid) (since mid new) r w o)

-- an error that was made, or the want of memory for it
pub made_or_memory : {E : Type 0} (made : Result ErrorSeen E) (e is : ErrorSeen) → MatchResult made (λ x. e ≡ x) (λ _. e ≡ no_memory) → IfOk made (λ x. x ≡ is) → (e ≡ no_memory) ⊎ (e ≡ is)
made_or_memory (Ok x) e is h k = inr (h ∙ k)
made_or_memory (Err x) e is h k = inl h

-- the variables were listed; memory may be wanted behind it
pub captured : (part : List Event) (r : Result (Unit {0}) ErrorSeen) → CallsEnd {T = Unit {0}} (Lists ∷ []) part (Ok tt) → IfErr r (λ e. e ≡ no_memory) → CaptureEnds part r
captured part (Ok done) listed memory = listed
captured part (Err e) listed memory = inr (memory, listed)
