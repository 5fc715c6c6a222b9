-- Laws on calls that ask.
use Rattle.std.proofs.Common.{◌≡◌, ◌≢◌, ℕ, Bool, true, false, if◌then◌else◌, List, [], ◌∷◌, ◌++◌, None, Result, Ok, Err, IfOk, refl, sym, ap, subst, ◌∙◌, append_assoc, append-nil, arith}
use Rattle.std.specs.List.{All, list_all}
use Rattle.std.proofs.lemmas.List.Elements.{All-append}
use Rattle.std.proofs.lemmas.List.Folds.{list_all-append}
use Rattle.std.proofs.lemmas.Grind.{flat_map-append}
use Rattle.std.proofs.lemmas.Bool.{and_parts, and_from}
use Rattle.cc_host.specs.declared.event.Event.{Event}
use Rattle.cc_host.specs.declared.event.Event.TheVariants.{Answered, Reused, Unasked, Drawn, Opened, Taken, Dropped, Made, Fault}
use Rattle.cc_host.specs.declared.event.Scope.TheVariants.{Probe as ForProbes}
use Rattle.cc_text.specs.declared.memory.NoMemory.{NoMemory}
use Rattle.cc_host.specs.declared.question.Ask.{Ask}
use Rattle.cc_host.specs.declared.question.Ask.TheVariants.{Exists as AsksExists}
use Rattle.cc_host.specs.declared.question.Outcome.{Outcome}
use Rattle.cc_host.specs.declared.question.Outcome.TheVariants.{Unanswered as NoAnswer, Exists}
use Rattle.cc_host.specs.declared.question.Verdict.{Verdict}
use Rattle.cc_host.specs.declared.question.Verdict.TheVariants.{Unanswered as NoVerdict}
use Rattle.cc_host.specs.Verdict as verdicts
use Rattle.cc_host.specs.Verdict.{verdict_of, yes_if}
use Rattle.cc_host.specs.declared.question.Question.{Question}
use Rattle.cc_host.specs.Part.{done, stops, step_of, stop_of, is_probing, IsWhole}
use Rattle.cc_host.specs.Probe.{opens, drops, open_of, drop_of}
use Rattle.cc_host.specs.Question.{Answer, Settles, answers, answer_of, NoTwice, Lacks, exists_question}
use Rattle.cc_tool.specs.Known.{Has, as_asked, asked}
use Rattle.cc_tool.specs.Asks.{Asks, IsWorlds}
use Rattle.cc_tool.specs.Probing.{is_asked, Probes}
use Rattle.cc_tool.proofs.KnownLemmas.{once_last, settles_has, settles_last}
use Rattle.cc_tool.proofs.ProbingLemmas.{follows_then, excused_then, founded_then, probes_found}

-- no question
pub asks_none : {steady : Bool} {world : Question → Outcome} {dir : List ℕ} (log : List Event) (known : List Answer) → Asks steady world dir log log known known
asks_none log known = record {
  part = [];
  extends = sym (append-nil log);
  answered = sym (append-nil known);
  once = λ n. n;
  asked = refl;
  closed = refl;
  excused = tt;
  founded = tt;
  probing = tt;
  dropped = refl;
  honest = λ s k d l. absurd (omega (arith, l));
}

-- a part of a question that ends with no file open
pub asks_of : {steady : Bool} {world : Question → Outcome} {dir : List ℕ} {before after : List Event} {old new given : List Answer} {excuse : ℕ} → Probes dir before after [] [] given excuse → new ≡ old ++ given → (NoTwice old → NoTwice new) → (steady ≡ true → All (IsWorlds world) given) → Asks steady world dir before after old new
asks_of {steady} {world} {dir} {before} {after} {old} {new} {given} p e once honest = record {
  part = p.part;
  extends = p.extends;
  answered = e ∙ ap (λ l. old ++ l) (sym p.answered);
  once = once;
  asked = p.asked;
  closed = sym (append-nil (drops p.part)) ∙ sym p.queue;
  excused = p.excused;
  founded = p.founded;
  probing = p.follows;
  dropped = p.files;
  honest = λ s. subst (λ (l : List Answer). All (IsWorlds world) l) (sym p.answered) (honest s);
}

all_one : (P : Answer → Type 0) (a : Answer) → P a → All P (a ∷ [])
all_one P a h = λ k d l. let e : k ≡ 0 = omega (arith, l) in rw e h

-- one question that wasn't asked before
pub asks_one : {steady : Bool} {world : Question → Outcome} {dir : List ℕ} {before after : List Event} {old new : List Answer} {excuse : ℕ} (a : Answer) → Probes dir before after [] [] (a ∷ []) excuse → new ≡ old ++ a ∷ [] → Lacks old a.0 → (steady ≡ true → IsWorlds world a) → Asks steady world dir before after old new
asks_one {steady} {world} {dir} {before} {after} {old} {new} a p e lacks honest =
    asks_of p e (λ n. subst NoTwice (sym e) (once_last old a lacks n)) (λ s. all_one (IsWorlds world) a (honest s))

-- a part that told nothing, as where memory was refused
pub asks_quietly : {steady : Bool} {world : Question → Outcome} {dir : List ℕ} {before after : List Event} {old new : List Answer} {excuse : ℕ} → Probes dir before after [] [] [] excuse → new ≡ old → Asks steady world dir before after old new
asks_quietly {steady} {world} {dir} {before} {after} {old} {new} p e = asks_of p (e ∙ sym (append-nil old)) (λ n. subst NoTwice (sym e) n) (λ s k d l. absurd (omega (arith, l)))

-- some questions, and then some more
pub asks_then : {steady : Bool} {world : Question → Outcome} {dir : List ℕ} {l m n : List Event} {a b c : List Answer} → Asks steady world dir l m a b → Asks steady world dir m n b c → Asks steady world dir l n a c
asks_then {steady} {world} {dir} {l} {m} {n} {a} {b} {c} s t =
    let f = follows_then dir [] [] [] s.part t.part s.probing s.dropped t.probing t.dropped in
    record {
      part = s.part ++ t.part;
      extends = t.extends ∙ ap (λ x. x ++ t.part) s.extends ∙ append_assoc l s.part t.part;
      answered = t.answered ∙ ap (λ x. x ++ answers t.part) s.answered ∙ append_assoc a (answers s.part) (answers t.part) ∙ ap (λ x. a ++ x) (sym (flat_map-append answer_of s.part t.part));
      once = λ x. t.once (s.once x);
      asked = list_all-append is_asked s.part t.part ∙ and_from _ _ s.asked t.asked;
      closed = flat_map-append drop_of s.part t.part ∙ ap (λ x. x ++ drops t.part) s.closed ∙ ap (λ x. opens s.part ++ x) t.closed ∙ sym (flat_map-append open_of s.part t.part);
      excused = excused_then s.part t.part s.excused t.excused;
      founded = founded_then s.part t.part s.founded t.founded;
      probing = f.0;
      dropped = f.1;
      honest = λ e. subst (λ (x : List Answer). All (IsWorlds world) x) (sym (flat_map-append answer_of s.part t.part)) (All-append (IsWorlds world) (answers s.part) (answers t.part) (s.honest e) (t.honest e));
    }

-- answers only grow
pub asks_grows : {steady : Bool} {world : Question → Outcome} {dir : List ℕ} {l m : List Event} {a b : List Answer} → Asks steady world dir l m a b → (more : List Answer) × (b ≡ a ++ more)
asks_grows s = (answers s.part, s.answered)

-- ---- the answer of one call

-- a verdict that isn't `Unanswered` is the world's, where the outcome is
pub verdict_steady : (q : Question) (o w : Outcome) (v : Verdict) → v ≡ verdict_of q o → v ≢ NoVerdict → (o ≢ NoAnswer → o ≡ w) → v ≡ verdict_of q w
unfolding verdicts.verdict_of
verdict_steady q o w v e n same = e ∙ ap (verdict_of q) (same (λ none. n (e ∙ ap (verdict_of q) none)))

-- a question for a file that wasn't asked before
pub exists_asks : {steady : Bool} {world : Question → Outcome} {dir : List ℕ} {before after : List Event} {old new : List Answer} (path : List ℕ) (there : Bool) (q : Question) (v : Verdict) → after ≡ before ++ Answered (exists_question path) None (Exists there) ∷ [] → Lacks old q → q ≡ exists_question path → v ≡ yes_if there → new ≡ old ++ (q, v) ∷ [] → Asks steady world dir before after old new
unfolding verdicts.verdict_of
exists_asks {steady} {world} {dir} {before} {after} {old} {new} path there q v adds lacks is says e =
    let lacks2 : Lacks old (exists_question path) = subst (λ (p : Question). Lacks old p) is lacks in
    let e2 : new ≡ old ++ (exists_question path, verdict_of (exists_question path) (Exists there)) ∷ [] = e ∙ ap (λ p. old ++ (p, v) ∷ []) is ∙ ap (λ w. old ++ (exists_question path, w) ∷ []) says in
    asks_one (exists_question path, verdict_of (exists_question path) (Exists there)) (probes_found path there adds) e2 lacks2 (λ s n m. absurd (m refl))

-- a question for a command that wasn't asked before
pub command_asks : {steady : Bool} {world : Question → Outcome} {dir : List ℕ} {before after : List Event} {old new : List Answer} (q : Question) (v : Verdict) → Probes dir before after [] [] ((q, v) ∷ []) 0 → Lacks old q → (v ≢ NoVerdict → steady ≡ true → v ≡ verdict_of q (world q)) → new ≡ old ++ (q, v) ∷ [] → Asks steady world dir before after old new
command_asks q v p lacks honest e = asks_one (q, v) p e lacks (λ s n m. honest n s)

-- a copy of a verdict that is there
pub copy_settles : {known : List Answer} (r : Result Verdict NoMemory) (q p : Question) (v : Verdict) → IfOk r (λ w. w ≡ v) → Has known q v → q ≡ p → IfOk r (λ w. Settles known (λ look. look p) w)
copy_settles {known} (Ok w) q p v same has is = subst (λ (x : Verdict). Settles known (λ look. look p) x) (sym same) (subst (λ (x : Question). Settles known (λ look. look x) v) is (settles_has has))
copy_settles (Err e) q p v same has is = tt

-- a copy of the last verdict
pub last_settles : (known : List Answer) {new : List Answer} (r : Result Verdict NoMemory) (q : Question) (v : Verdict) → IfOk r (λ w. w ≡ v) → new ≡ known ++ (q, v) ∷ [] → IfOk r (λ w. Settles new (λ look. look q) w)
last_settles known {new} (Ok w) q v same e = subst (λ (x : Verdict). Settles new (λ look. look q) x) (sym same) (settles_last known e)
last_settles known (Err e) q v same is = tt

pub asked_exists : (q : Question) (path : List ℕ) → path ≡ q.program → q.ask ≡ AsksExists → exists_question path ≡ asked q
asked_exists q path same is = ap exists_question same ∙ sym (ap (λ a. as_asked a q) is)

as_itself : (ask : Ask) (q : Question) → ask ≢ AsksExists → q ≡ as_asked ask q
as_itself AsksExists q n = absurd (n refl)
as_itself ask q n = refl

pub asked_command : (q : Question) → q.ask ≢ AsksExists → q ≡ asked q
asked_command q n = as_itself q.ask q n

pub settles_asked : (known : List Answer) (r : Result Verdict NoMemory) (p : Question) (q : Question) → p ≡ asked q → IfOk r (λ v. Settles known (λ look. look p) v) → IfOk r (λ v. Settles known (λ look. look (asked q)) v)
settles_asked known r p q is s = subst (λ (x : Question). IfOk r (λ v. Settles known (λ look. look x) v)) is s

-- ---- a call that asks is quiet

quiet_fault : (b : Bool) (e : Event) → b ≡ true → (if b then [] else e ∷ []) ≡ []
quiet_fault true e t = refl
quiet_fault false e t = absurd (cc)

quiet_event : (e : Event) → is_asked e ≡ true → (step_of e ≡ []) × (stop_of e ≡ [])
quiet_event (Answered q f o) a = (refl, refl)
quiet_event (Reused q v) a = (refl, refl)
quiet_event (Unasked q) a = (refl, refl)
quiet_event (Drawn word) a = (refl, refl)
quiet_event (Opened path bytes) a = (refl, refl)
quiet_event (Taken path) a = (refl, refl)
quiet_event (Dropped path) a = (refl, refl)
quiet_event (Made ForProbes path) a = (refl, refl)
quiet_event (Fault call why) a = (refl, quiet_fault (is_probing call) (Fault call why) a)
quiet_event e a = absurd (cc)

-- a part of events that questions leave has no step and no stop
pub asked_quiet : (part : List Event) → list_all is_asked part ≡ true → IsWhole [] part
asked_quiet [] a = record { done_all = refl; unstopped = refl }
asked_quiet (e ∷ part) a =
    let both = list_all_parts e part a in
    let q = quiet_event e both.0 in
    let rest = asked_quiet part both.1 in
    record { done_all = ap (λ l. l ++ done part) q.0 ∙ rest.done_all; unstopped = ap (λ l. l ++ stops part) q.1 ∙ rest.unstopped }
  where
    list_all_parts : (e : Event) (part : List Event) → list_all is_asked (e ∷ part) ≡ true → (is_asked e ≡ true) × (list_all is_asked part ≡ true)
    list_all_parts e part a = and_parts (is_asked e) (list_all is_asked part) a

-- so has a call that asks
pub asks_quiet : {steady : Bool} {world : Question → Outcome} {dir : List ℕ} {before after : List Event} {old new : List Answer} (s : Asks steady world dir before after old new) → IsWhole [] s.part
asks_quiet s = asked_quiet s.part s.asked
