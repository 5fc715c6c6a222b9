-- Laws on what a call does for its one question.
use Rattle.std.proofs.Common.{◌≡◌, ◌⊎◌, inl, inr, ℕ, suc, Bool, true, false, ◌||◌, if◌then◌else◌, List, [], ◌∷◌, ◌++◌, Option, Some, None, is_some, Result, Ok, Err, IfOk, refl, sym, ap, subst, ◌∙◌, append-nil, arith}
use Rattle.std.specs.List.{All, Contains, list_any}
use Rattle.std.proofs.lemmas.List.Elements.{All-append}
use Rattle.std.proofs.lemmas.Grind.{flat_map-append}
use Rattle.cc_text.specs.declared.memory.NoMemory.{NoMemory}
use Rattle.cc_host.specs.declared.event.Event.{Event}
use Rattle.cc_host.specs.declared.event.Event.TheVariants.{Answered, Reused, Unasked, Fault}
use Rattle.cc_host.specs.declared.event.HostCall.TheVariants.{Probe}
use Rattle.cc_host.specs.declared.event.Status.{Status}
use Rattle.cc_host.specs.declared.event.Why.{Why}
use Rattle.cc_host.specs.declared.question.Ask.{Ask}
use Rattle.cc_host.specs.declared.question.Ask.TheVariants.{Preprocess, PreprocessDashes, HelpFlag, Version, Flag, Libcxx, SearchDirs, ToolVersion, Starts, Exists as AsksExists}
use Rattle.cc_host.specs.declared.question.Marks.{Marks}
use Rattle.cc_host.specs.declared.question.Outcome.{Outcome}
use Rattle.cc_host.specs.declared.question.Outcome.TheVariants.{Unanswered as NoAnswer, Missing as NoTool, Exists, Done}
use Rattle.cc_host.specs.declared.question.ProbeFiles.{ProbeFiles}
use Rattle.cc_host.specs.declared.question.Question.{Question}
use Rattle.cc_host.specs.declared.question.Verdict.{Verdict}
use Rattle.cc_host.specs.declared.question.Verdict.TheVariants.{Unanswered as NoVerdict, No, Marks as Shows}
use Rattle.cc_host.specs.Event.{probed, reused}
use Rattle.cc_host.specs.Part.{since}
use Rattle.cc_host.specs.Status.{is_success}
use Rattle.cc_host.specs.Question.{Answer, answers, answer_of, exists_question}
use Rattle.cc_host.specs.Verdict as verdicts
use Rattle.cc_host.specs.Verdict.{verdict_of, yes_if, existence, ended_verdict, dirs_in, read_as_option, marks_of}
use Rattle.cc_host.proofs.Parts.{since_append, since_since}
use Rattle.cc_tool.proofs.Asides.{asks_extends}
use Rattle.cc_tool.specs.declared.kinds.FileKind.{FileKind}
use Rattle.cc_tool.specs.Asks.{Asks}
use Rattle.cc_tool.specs.Files.{source_of}
use Rattle.cc_tool.specs.Founded.{Founded, IsFounded, is_probe_fault}
use Rattle.cc_tool.specs.Known.{Has, MayKeep}
use Rattle.cc_tool.specs.Own.{AnswersOnly, AnswersAmong, WhyUnanswered, is_for_files, OnlyForFiles, Looks}
use Rattle.cc_tool.specs.Probing.{File, Probes}

-- ---- the part of a call

pub since_none : (log : List Event) → since log log ≡ []
since_none log = ap (since log) (sym (append-nil log)) ∙ since_append log []

pub part_is : (before after part : List Event) → after ≡ before ++ part → since before after ≡ part
part_is before after part e = ap (since before) e ∙ since_append before part

-- what a part of a question answers
pub answers_since : {dir : List ℕ} {before after : List Event} {from to : List File} {given : List Answer} {excuse : ℕ} → Probes dir before after from to given excuse → answers (since before after) ≡ given
answers_since {dir} {before} {after} p = ap answers (part_is before after p.part p.extends) ∙ p.answered

pub asks_founded : {steady : Bool} {world : Question → Outcome} {dir : List ℕ} {before after : List Event} {old new : List Answer} → Asks steady world dir before after old new → Founded false (since before after)
asks_founded {steady} {world} {dir} {before} {after} s = subst (λ (p : List Event). Founded false p) (sym (part_is before after s.part s.extends)) s.founded

-- ---- files only for questions that need them

-- a part in which none is made
pub bare_part : (q : Question) (before after part : List Event) → after ≡ before ++ part → list_any is_for_files part ≡ false → OnlyForFiles q (since before after)
bare_part q before after part e none = λ h. let n : list_any is_for_files (since before after) ≡ false = ap (list_any is_for_files) (part_is before after part e) ∙ none in absurd (cc)

pub bare_none : (q : Question) (log : List Event) → OnlyForFiles q (since log log)
bare_none q log = bare_part q log log [] (sym (append-nil log)) refl

pub bare_probed : (q : Question) (files : ProbeFiles) (why : Why) (r : Result Outcome NoMemory) → list_any is_for_files (probed q files why r) ≡ false
bare_probed q files why (Ok NoAnswer) = refl
bare_probed q files why (Ok NoTool) = refl
bare_probed q files why (Ok (Exists there)) = refl
bare_probed q files why (Ok (Done status out err)) = refl
bare_probed q files why (Err e) = refl

pub bare_reused : {T : Type 0} (q : Question) (v : Verdict) (r : Result T NoMemory) → list_any is_for_files (reused q v r) ≡ false
bare_reused q v (Ok x) = refl
bare_reused q v (Err e) = refl

-- a question that needs them
pub bare_needed : (q : Question) (kind : FileKind) (part : List Event) → source_of q.ask ≡ Some kind → OnlyForFiles q part
bare_needed q kind part s = λ h. ap is_some s

-- ---- one question

-- the disk was looked at for a file, and for nothing else
pub own_looks : (path : List ℕ) (known : List Answer) (part : List Event) (r : Result Verdict NoMemory) → Looks path known part r → AnswersOnly (exists_question path) known part r
unfolding verdicts.verdict_of
own_looks path known part (Ok v) (inl had) = inl had
own_looks path known part (Ok v) (inr looked) = inr (looked.0, ap answers looked.1.2 ∙ ap (λ w. (exists_question path, w) ∷ []) (sym looked.1.1))
own_looks path known part (Err e) none = inl (ap answers none)

pub own_is : (known : List Answer) (part : List Event) (r : Result Verdict NoMemory) (p q : Question) → p ≡ q → AnswersOnly p known part r → AnswersOnly q known part r
own_is known part r p q e own = subst (λ (x : Question). AnswersOnly x known part r) e own

-- ---- why a question has no answer

neither : (b c : Bool) (x y : Marks) → (if b then Shows x else (if c then Shows y else No)) ≡ NoVerdict → ⊥
neither true c x y e = cc
neither false true x y e = cc
neither false false x y e = cc

shows : (b : Bool) (x : Marks) → (if b then Shows x else No) ≡ NoVerdict → ⊥
shows true x e = cc
shows false x e = cc

yes_or_no : (b : Bool) → yes_if b ≡ NoVerdict → ⊥
yes_or_no true e = cc
yes_or_no false e = cc

dirs : (b : Bool) (line : Option (List ℕ)) → (if b then dirs_in line else No) ≡ NoVerdict → ⊥
dirs true None e = cc
dirs true (Some line) e = cc
dirs false line e = cc

-- a command that ended gives a verdict
ended_some : (ask : Ask) (status : Status) (out err : List ℕ) → ended_verdict ask status out err ≡ NoVerdict → ⊥
unfolding verdicts.ended_verdict verdicts.preprocessed verdicts.search_dirs
ended_some Preprocess status out err e = neither (read_as_option out err) (is_success status) (marks_of true out) (marks_of false out) e
ended_some PreprocessDashes status out err e = shows (is_success status) (marks_of false out) e
ended_some HelpFlag status out err e = yes_or_no _ e
ended_some Version status out err e = yes_or_no _ e
ended_some (Flag cpp family) status out err e = yes_or_no _ e
ended_some Libcxx status out err e = yes_or_no _ e
ended_some SearchDirs status out err e = dirs _ _ e
ended_some ToolVersion status out err e = yes_or_no _ e
ended_some Starts status out err e = cc
ended_some AsksExists status out err e = cc

exists_some : (ask : Ask) (there : Bool) → existence ask there ≡ NoVerdict → ⊥
exists_some AsksExists there e = yes_or_no there e
exists_some ask there e = cc

-- an outcome without a verdict is none
pub no_outcome : (q : Question) (o : Outcome) → verdict_of q o ≡ NoVerdict → o ≡ NoAnswer
unfolding verdicts.verdict_of
no_outcome q NoAnswer e = refl
no_outcome q NoTool e = absurd (cc)
no_outcome q (Exists there) e = absurd (exists_some q.ask there e)
no_outcome q (Done status out err) e = absurd (ended_some q.ask status out err e)

abbrev Cause : Bool → List Event → Question → Type 0
Cause failed part q = (failed ≡ true) ⊎ ((list_any is_probe_fault part ≡ true) ⊎ Contains part (Unasked q))

later : (e : Event) (part : List Event) (q : Question) → is_probe_fault e ≡ false → Cause false part q → Cause false (e ∷ part) q
later e part q other (inl off) = absurd (cc)
later e part q other (inr (inl fault)) = inr (inl (ap (λ b. b || list_any is_probe_fault part) other ∙ fault))
later e part q other (inr (inr here)) = inr (inr (suc here.0, (let l = here.1 in omega (arith, l)), here.2))

behind : (failed : Bool) (e : Event) (part : List Event) (q : Question) → Cause false (e ∷ part) q → Cause failed (e ∷ part) q
behind failed e part q (inl off) = absurd (cc)
behind failed e part q (inr cause) = inr cause

same_first : (a b : Answer) (rest more : List Answer) → a ∷ rest ≡ b ∷ more → a ≡ b
same_first a b rest more e = cc

-- a part that answers a question in vain, and no other question, has the cause
cause_in : (failed : Bool) (part : List Event) (q : Question) → Founded failed part → answers part ≡ (q, NoVerdict) ∷ [] → Cause failed part q
cause_in failed [] q h e = absurd (cc)
cause_in failed (Answered p files o ∷ part) q h e =
    let none : verdict_of p o ≡ NoVerdict = ap (λ (a : Answer). a.1) (same_first (p, verdict_of p o) (q, NoVerdict) (answers part) [] e) in
    inl (subst (λ (x : Outcome). IsFounded failed (Answered p files x)) (no_outcome p o none) h.0)
cause_in failed (Reused p v ∷ part) q h e =
    let none : v ≡ NoVerdict = ap (λ (a : Answer). a.1) (same_first (p, v) (q, NoVerdict) (answers part) [] e) in
    absurd (kept p (subst (λ (x : Verdict). MayKeep p x) none h.0))
  where
    kept : (p : Question) → MayKeep p NoVerdict → ⊥
    kept p m = let off = m.0 in (cc)
cause_in failed (Unasked p ∷ part) q h e = let same : p ≡ q = ap (λ (a : Answer). a.0) (same_first (p, NoVerdict) (q, NoVerdict) (answers part) [] e) in inr (inr (0, omega arith, ap Unasked same))
cause_in failed (Fault Probe why ∷ part) q h e = inr (inl refl)
cause_in failed (event ∷ part) q h e = behind failed event part q (later event part q refl (cause_in false part q h.1 e))

-- a question that was asked alone
pub why : (known : List Answer) (q : Question) (part : List Event) (r : Result Verdict NoMemory) → AnswersOnly q known part r → Founded false part → IfOk r (WhyUnanswered q known part)
why known q part (Ok v) (inl had) h = λ none. inl (subst (λ (x : Verdict). Has known q x) none had.0)
why known q part (Ok v) (inr own) h = λ none. inr (now (cause_in false part q h (own.1 ∙ ap (λ w. (q, w) ∷ []) none)))
  where
    now : Cause false part q → (list_any is_probe_fault part ≡ true) ⊎ Contains part (Unasked q)
    now (inl off) = absurd (cc)
    now (inr cause) = cause
why known q part (Err e) own h = tt

-- ---- some questions, and no other ones

module _ (P : Question → Type 0) where
  pub among_none : (log : List Event) → AnswersAmong P (since log log)
  among_none log = subst (λ (p : List Event). AnswersAmong P p) (sym (since_none log)) (λ k d l. absurd (omega (arith, l)))

  of_none : (l : List Answer) → l ≡ [] → All (λ a. P a.0) l
  of_none l e = subst (λ (x : List Answer). All (λ a. P a.0) x) (sym e) (λ k d l. absurd (omega (arith, l)))

  of_one : (q : Question) (v : Verdict) (l : List Answer) → P q → l ≡ (q, v) ∷ [] → All (λ a. P a.0) l
  of_one q v l h e = subst (λ (x : List Answer). All (λ a. P a.0) x) (sym e) (λ k d l. let z : k ≡ 0 = omega (arith, l) in rw z h)

  -- one question
  pub among_own : (q : Question) (known : List Answer) (part : List Event) (r : Result Verdict NoMemory) → P q → AnswersOnly q known part r → AnswersAmong P part
  among_own q known part (Ok v) h (inl had) = of_none (answers part) (ap answers had.1)
  among_own q known part (Ok v) h (inr own) = of_one q v (answers part) h own.1
  among_own q known part (Err e) h (inl none) = of_none (answers part) none
  among_own q known part (Err e) h (inr own) = of_one q own.1.0 (answers part) h own.1.1

  -- some questions, and then some more
  pub among_then : (steady : Bool) (world : Question → Outcome) (dir : List ℕ) (l m n : List Event) (a b c : List Answer) → Asks steady world dir l m a b → Asks steady world dir m n b c → AnswersAmong P (since l m) → AnswersAmong P (since m n) → AnswersAmong P (since l n)
  among_then steady world dir l m n a b c s t h k =
      subst (λ (p : List Event). AnswersAmong P p) (sym (since_since l m n (asks_extends steady world dir l m a b s) (asks_extends steady world dir m n b c t)))
      (subst (λ (x : List Answer). All (λ a. P a.0) x) (sym (flat_map-append answer_of (since l m) (since m n))) (All-append (λ a. P a.0) (answers (since l m)) (answers (since m n)) h k))

  pub among_more : (Q : Question → Type 0) (part : List Event) → ((q : Question) → P q → Q q) → AnswersAmong P part → AnswersAmong Q part
  among_more Q part so h = λ k d l. so _ (h k d l)
