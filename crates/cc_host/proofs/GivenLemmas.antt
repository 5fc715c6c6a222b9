-- Outcomes that were given are answers.
use Rattle.std.proofs.Common.{◌≡◌, ◌≢◌, Bool, true, false, List, [], ◌∷◌, Some, Result, Ok, Err, refl, ◌∙◌, ap, IfOk}
use Rattle.std.specs.List.{find, list_all}
use Rattle.std.proofs.lemmas.Bool.{and_parts}
use Rattle.cc_host.specs.Event.{probed}
use Rattle.cc_host.specs.Given.{is_answered}
use Rattle.cc_host.specs.declared.given.Given.{Given}
use Rattle.cc_host.specs.declared.event.Event.TheVariants.{Answered}
use Rattle.cc_host.specs.declared.event.Why.{Why}
use Rattle.cc_host.specs.declared.question.Outcome.{Outcome}
use Rattle.cc_host.specs.declared.question.Outcome.TheVariants.{Unanswered, Missing, Exists, Done}
use Rattle.cc_host.specs.declared.question.ProbeFiles.{ProbeFiles}
use Rattle.cc_host.specs.declared.question.Question.{Question}

found_by : (p t : Given → Bool) (g h : Given) (gs : List Given) (b : Bool) → t g ≡ b → list_all p (g ∷ gs) ≡ true → find t (g ∷ gs) ≡ Some h → (list_all p gs ≡ true → find t gs ≡ Some h → p h ≡ true) → p h ≡ true
found_by p t g h gs true e all f rest = let first = (and_parts (p g) (list_all p gs) all).0 in rw (← same) first
  where
    same : g ≡ h
    same = cc (rw e at f)
found_by p t g h gs false e all f rest = rest (and_parts (p g) (list_all p gs) all).1 (rw e at f)

-- what is found among those that pass a test passes it
pub found_passes : (p t : Given → Bool) (h : Given) (gs : List Given) → list_all p gs ≡ true → find t gs ≡ Some h → p h ≡ true
found_passes p t h [] all f = absurd (cc)
found_passes p t h (g ∷ gs) all f = found_by p t g h gs (t g) refl all f (found_passes p t h gs)

pub carried : {E : Type 0} (r : Result Outcome E) (o : Outcome) → IfOk r (λ x. x ≡ o) → is_answered o ≡ true → IfOk r (λ x. is_answered x ≡ true)
carried (Ok x) o e h = ap is_answered e ∙ h
carried (Err e) o h g = tt

-- an answer is noted without a fault
pub answered_event : (q : Question) (files : ProbeFiles) (why : Why) (o : Outcome) → is_answered o ≡ true → probed q files why (Ok o) ≡ Answered q (Some files) o ∷ []
answered_event q files why Unanswered h = absurd (cc)
answered_event q files why Missing h = refl
answered_event q files why (Exists there) h = refl
answered_event q files why (Done status out err) h = refl

pub answered_is : (o : Outcome) → is_answered o ≡ true → o ≢ Unanswered
answered_is Unanswered h = absurd (cc)
answered_is Missing h = λ e. cc e
answered_is (Exists there) h = λ e. cc e
answered_is (Done status out err) h = λ e. cc e
