-- A question whether a path is there.
use Rattle.std.proofs.Common.{◌≡◌, ◌⊎◌, inl, inr, ℕ, List, [], ◌∷◌, Result, Ok, Err, Bool, true, refl, sym, ◌∙◌, ap, subst}
use Rattle.std.specs.List.{All, list_all}
use Rattle.std.proofs.lemmas.List.Elements.{All-nil, All-cons}
use Rattle.cc_text.specs.declared.memory.NoMemory.{NoMemory}
use Rattle.cc_host.specs.Part.{since}
use Rattle.cc_host.specs.Question.{Answer, answers, exists_question, Holds}
use Rattle.cc_host.specs.declared.event.Event.{Event}
use Rattle.cc_host.specs.declared.question.Outcome.{Outcome}
use Rattle.cc_host.specs.declared.question.Question.{Question}
use Rattle.cc_host.specs.declared.question.Verdict.{Verdict}
use Rattle.cc_tool.specs.Asks.{Asks}
use Rattle.cc_tool.specs.Known.{asked}
use Rattle.cc_tool.specs.Own.{AnswersAmong, AnswersOnly}
use Rattle.cc_tool.specs.Probing.{is_asked}
use Rattle.cc_build.proofs.Going.{part_is}

no_answer : (q : Question) (l : List Answer) → l ≡ [] → All (λ a. a.0 ≡ q) l
no_answer q l none = subst (λ (k : List Answer). All (λ a. a.0 ≡ q) k) (sym none) (All-nil (λ a. a.0 ≡ q))

one_answer : (q : Question) (v : Verdict) (l : List Answer) → l ≡ (q, v) ∷ [] → All (λ a. a.0 ≡ q) l
one_answer q v l one = subst (λ (k : List Answer). All (λ a. a.0 ≡ q) k) (sym one) (All-cons (λ a. a.0 ≡ q) (q, v) [] refl (All-nil (λ a. a.0 ≡ q)))

own_answers : (q : Question) (known : List Answer) (part : List Event) (r : Result Verdict NoMemory) → AnswersOnly q known part r → All (λ a. a.0 ≡ q) (answers part)
own_answers q known part (Ok v) (inl told) = no_answer q (answers part) (ap answers told.1)
own_answers q known part (Ok v) (inr new) = one_answer q v (answers part) new.1
own_answers q known part (Err e) (inl none) = no_answer q (answers part) none
own_answers q known part (Err e) (inr new) = one_answer q new.1.0 (answers part) new.1.1

-- it is the only one that is asked
pub only_path : (path : List ℕ) (q : Question) (known after : List Answer) (part : List Event) (r : Result Verdict NoMemory) → q ≡ exists_question path → AnswersOnly (asked q) known part r → Holds after (λ look. AnswersAmong (λ p. p ≡ exists_question path) part)
only_path path q known after part r is own = record {
  under = λ look agree. subst (λ (p : Question). All (λ a. a.0 ≡ p) (answers part)) (ap asked is) (own_answers (asked q) known part r own);
}

-- questions alone were asked
pub quiet_so : (steady : Bool) (world : Question → Outcome) (dir : List ℕ) (old new : List Event) (known after : List Answer) → Asks steady world dir old new known after → list_all is_asked (since old new) ≡ true
quiet_so steady world dir old new known after k = ap (list_all is_asked) (part_is old new k.part k.extends) ∙ k.asked
