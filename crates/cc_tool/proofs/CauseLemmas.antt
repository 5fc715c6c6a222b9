-- Laws on the causes of questions without an answer, and on the files of questions.
use Rattle.std.proofs.Common.{◌≡◌, ◌⊎◌, inl, inr, ℕ, suc, Bool, true, false, ◌||◌, List, [], ◌∷◌, ◌++◌, Result, Ok, Err, OnOk, refl, sym, ap, subst, ◌∙◌, arith}
use Rattle.std.specs.List.{All, Contains, list_any}
use Rattle.std.proofs.lemmas.Grind.{flat_map-append}
use Rattle.std.proofs.lemmas.List.Elements.{All-append}
use Rattle.std.proofs.lemmas.List.Folds.{list_any-append}
use Rattle.cc_text.specs.declared.memory.NoMemory.{NoMemory}
use Rattle.cc_host.specs.declared.event.Event.{Event}
use Rattle.cc_host.specs.declared.event.Event.TheVariants.{Answered, Reused, Unasked}
use Rattle.cc_host.specs.declared.question.Outcome.{Outcome}
use Rattle.cc_host.specs.declared.question.Question.{Question}
use Rattle.cc_host.specs.declared.question.Verdict.{Verdict}
use Rattle.cc_host.specs.declared.question.Verdict.TheVariants.{Unanswered as NoVerdict}
use Rattle.cc_host.specs.Part.{since}
use Rattle.cc_host.specs.Question.{Answer, answers, answer_of}
use Rattle.cc_host.proofs.Parts.{since_since}
use Rattle.cc_tool.specs.Asks.{Asks}
use Rattle.cc_tool.specs.Files.{needs_files}
use Rattle.cc_tool.specs.Founded.{Founded, IsFounded, is_probe_fault}
use Rattle.cc_tool.specs.Known.{MayKeep}
use Rattle.cc_tool.specs.Own.{AnswersOnly, AllCaused, is_for_files, OnlyForFiles, OnlyWithFiles}
use Rattle.cc_tool.proofs.Asides.{asks_extends}
use Rattle.cc_tool.proofs.OwnLemmas.{since_none, asks_founded, no_outcome}

-- ---- files only with a question that needs them

either : (b c : Bool) → (b || c) ≡ true → (b ≡ true) ⊎ (c ≡ true)
either true c h = inl refl
either false c h = inr h

with_more : (b c : Bool) → b ≡ true → (b || c) ≡ true
with_more true c h = refl
with_more false c h = absurd (cc)

behind_some : (b c : Bool) → c ≡ true → (b || c) ≡ true
behind_some true c h = refl
behind_some false c h = h

abbrev asks_files : Answer → Bool
asks_files a = needs_files a.0.ask

pub with_files_none : (log : List Event) → OnlyWithFiles (since log log)
with_files_none log = subst OnlyWithFiles (sym (since_none log)) (λ h. absurd (cc))

with_files_both : (part more : List Event) → OnlyWithFiles part → OnlyWithFiles more → OnlyWithFiles (part ++ more)
with_files_both part more f g = λ h. ap (list_any asks_files) (flat_map-append answer_of part more) ∙ list_any-append asks_files (answers part) (answers more) ∙ both (either _ _ (sym (list_any-append is_for_files part more) ∙ h))
  where
    both : (list_any is_for_files part ≡ true) ⊎ (list_any is_for_files more ≡ true) → (list_any asks_files (answers part) || list_any asks_files (answers more)) ≡ true
    both (inl here) = with_more (list_any asks_files (answers part)) (list_any asks_files (answers more)) (f here)
    both (inr there) = behind_some (list_any asks_files (answers part)) (list_any asks_files (answers more)) (g there)

-- some questions, and then some more
pub with_files_then : {steady : Bool} {world : Question → Outcome} {dir : List ℕ} {l m n : List Event} {a b c : List Answer} → Asks steady world dir l m a b → Asks steady world dir m n b c → OnlyWithFiles (since l m) → OnlyWithFiles (since m n) → OnlyWithFiles (since l n)
with_files_then {steady} {world} {dir} {l} {m} {n} {a} {b} {c} s t f g =
    subst OnlyWithFiles (sym (since_since l m n (asks_extends steady world dir l m a b s) (asks_extends steady world dir m n b c t))) (with_files_both (since l m) (since m n) f g)

pub bare_is : (part : List Event) (p q : Question) → p ≡ q → OnlyForFiles p part → OnlyForFiles q part
bare_is part p q e bare = subst (λ (x : Question). OnlyForFiles x part) e bare

-- one question that has a verdict
pub with_files_one : (q : Question) (known : List Answer) (part : List Event) (v : Verdict) → AnswersOnly q known part (Ok v) → OnlyForFiles q part → OnlyWithFiles part
with_files_one q known part v (inl had) bare = subst OnlyWithFiles (sym had.1) (λ h. absurd (cc))
with_files_one q known part v (inr own) bare = λ h. ap (list_any asks_files) own.1 ∙ with_more (needs_files q.ask) false (bare h)

-- the same of a question that may be refused
pub with_files_result : (q : Question) (known : List Answer) (part : List Event) (r : Result Verdict NoMemory) → AnswersOnly q known part r → OnlyForFiles q part → OnOk r (OnlyWithFiles part)
with_files_result q known part (Ok v) own bare = with_files_one q known part v own bare
with_files_result q known part (Err e) own bare = tt

-- behind some questions
pub with_files_last : {steady : Bool} {world : Question → Outcome} {dir : List ℕ} {l m n : List Event} {a b c : List Answer} (q : Question) (known : List Answer) (r : Result Verdict NoMemory) → Asks steady world dir l m a b → Asks steady world dir m n b c → OnlyWithFiles (since l m) → AnswersOnly q known (since m n) r → OnlyForFiles q (since m n) → OnOk r (OnlyWithFiles (since l n))
with_files_last {steady} {world} {dir} {l} {m} {n} q known (Ok v) s t f own bare = with_files_then s t f (with_files_one q known (since m n) v own bare)
with_files_last q known (Err e) s t f own bare = tt

-- ---- why questions have no answer

abbrev Cause : Bool → List Event → Answer → Type 0
Cause failed part a = a.1 ≡ NoVerdict → (failed ≡ true) ⊎ ((list_any is_probe_fault part ≡ true) ⊎ Contains part (Unasked a.0))

-- a cause behind an event is one of the whole
behind : (failed : Bool) (e : Event) (part : List Event) (a : Answer) → Cause (is_probe_fault e) part a → Cause failed (e ∷ part) a
behind failed e part a cause none = on (cause none)
  where
    on : (is_probe_fault e ≡ true) ⊎ ((list_any is_probe_fault part ≡ true) ⊎ Contains part (Unasked a.0)) → (failed ≡ true) ⊎ ((list_any is_probe_fault (e ∷ part) ≡ true) ⊎ Contains (e ∷ part) (Unasked a.0))
    on (inl fault) = inr (inl (with_more (is_probe_fault e) (list_any is_probe_fault part) fault))
    on (inr (inl fault)) = inr (inl (behind_some (is_probe_fault e) (list_any is_probe_fault part) fault))
    on (inr (inr here)) = inr (inr (suc here.0, (let l = here.1 in omega (arith, l)), here.2))

-- the answer that an event gives has its cause
cause_here : (failed : Bool) (e : Event) (part : List Event) → IsFounded failed e → All (Cause failed (e ∷ part)) (answer_of e)
cause_here failed (Answered q files o) part h = λ k d l. let z : k ≡ 0 = omega (arith, l) in rw z (λ none. inl (subst (λ (x : Outcome). IsFounded failed (Answered q files x)) (no_outcome q o none) h))
cause_here failed (Reused q v) part h = λ k d l. let z : k ≡ 0 = omega (arith, l) in rw z (λ none. absurd (kept q (subst (λ (x : Verdict). MayKeep q x) none h)))
  where
    kept : (p : Question) → MayKeep p NoVerdict → ⊥
    kept p m = let off = m.0 in (cc)
cause_here failed (Unasked q) part h = λ k d l. let z : k ≡ 0 = omega (arith, l) in rw z (λ none. inr (inr (0, omega arith, refl)))
cause_here failed e part h = λ k d l. absurd (omega (arith, l))

all_causes : (failed : Bool) (part : List Event) → Founded failed part → All (Cause failed part) (answers part)
all_causes failed [] h = λ k d l. absurd (omega (arith, l))
all_causes failed (e ∷ part) h = All-append (Cause failed (e ∷ part)) (answer_of e) (answers part) (cause_here failed e part h.0) (λ k d l. behind failed e part _ (all_causes (is_probe_fault e) part h.1 k d l))

caused : (part : List Event) → Founded false part → AllCaused part
caused part h = λ k d l none. on part _ (all_causes false part h k d l none)
  where
    on : (part : List Event) (q : Question) → (false ≡ true) ⊎ ((list_any is_probe_fault part ≡ true) ⊎ Contains part (Unasked q)) → (list_any is_probe_fault part ≡ true) ⊎ Contains part (Unasked q)
    on part q (inl off) = absurd (cc)
    on part q (inr cause) = cause

-- questions leave none without its cause
pub asks_caused : {steady : Bool} {world : Question → Outcome} {dir : List ℕ} {before after : List Event} {old new : List Answer} → Asks steady world dir before after old new → AllCaused (since before after)
asks_caused {steady} {world} {dir} {before} {after} s = caused (since before after) (asks_founded s)
