-- Laws on the questions that a pass wants.
use Rattle.std.proofs.Common.{◌≡◌, inl, inr, ℕ, zero, suc, ◌<◌, ◌≤◌, ◌+◌, Bool, true, false, cond, ◌&&◌, if◌then◌else◌, List, [], ◌∷◌, ◌++◌, Some, None, Result, Ok, find, take, length, slice_get, slice_index_or, refl, sym, ap, ◌∙◌, subst, arith}
use Rattle.std.proofs.lemmas.List.{length-append}
use Rattle.std.specs.List.{Contains}
use Rattle.cc_text.specs.declared.memory.NoMemory.{NoMemory}
use Rattle.cc_host.specs.Part.{since}
use Rattle.cc_host.specs.Question.{Look, Answer, Settles, Holds, Lacks, answers, is_yes}
use Rattle.cc_host.specs.declared.event.Event.{Event}
use Rattle.cc_host.specs.declared.question.Outcome.{Outcome}
use Rattle.cc_host.specs.declared.question.Question.{Question}
use Rattle.cc_host.specs.declared.question.Verdict.{Verdict}
use Rattle.cc_tool.specs.Asks.{Asks}
use Rattle.cc_tool.specs.AsksAmong.{AsksAmong}
use Rattle.cc_tool.specs.Known.{asked}
use Rattle.cc_tool.specs.Own.{AnswersOnly, OnlyForFiles, OnlyWithFiles, WordsUsed}
use Rattle.cc_tool.specs.Plans.{Plan, PlanAsks, Among, Opens, Wants, IsFound, until_yes, says_yes}
use Rattle.cc_tool.specs.declared.planner.Found.{Found}
use Rattle.cc_tool.proofs.AskLemmas.{asks_none, asks_then, asks_grows}
use Rattle.cc_tool.proofs.CauseLemmas.{with_files_one, with_files_then}
use Rattle.cc_tool.proofs.FindLemmas.{find_more}
use Rattle.cc_tool.proofs.OwnLemmas.{among_none, among_own, among_then, own_is, part_is}
use Rattle.cc_tool.proofs.SettleLemmas.{holds_on, holds_all, agrees_on}
use Rattle.cc_tool.proofs.UsedLemmas.{used_parts}

module _ {steady : Bool} {world : Question → Outcome} {dir : List ℕ} {questions : Look → Question → Type 0} where
  -- no question
  pub asks_nothing : (log : List Event) (known : List Answer) → AsksAmong steady world dir questions log log known known
  asks_nothing log known = record { asks = asks_none log known; own = holds_all (λ look. among_none (questions look) log) }

  -- some questions, and then some more
  pub asks_both : {l m n : List Event} {a b c : List Answer} → AsksAmong steady world dir questions l m a b → AsksAmong steady world dir questions m n b c → AsksAmong steady world dir questions l n a c
  asks_both {l} {m} {n} {a} {b} {c} f g = record {
    asks = asks_then f.asks g.asks;
    own = record { under = λ look s. among_then (questions look) steady world dir l m n a b c f.asks g.asks ((holds_on (asks_grows g.asks) f.own).under look s) (g.own.under look s) };
  }

  -- one question
  pub asks_single : {m n : List Event} {b c : List Answer} (q : Question) (r : Result Verdict NoMemory) → Asks steady world dir m n b c → AnswersOnly (asked q) b (since m n) r → asked q ≡ q → Holds c (λ look. questions look q) → AsksAmong steady world dir questions m n b c
  asks_single {m} {n} {b} q r asks own plain here = record {
    asks = asks;
    own = record { under = λ look s. among_own (questions look) q b (since m n) r (here.under look s) (own_is b (since m n) r (asked q) q plain own) };
  }

-- ---- files and words

module _ {steady : Bool} {world : Question → Outcome} {dir : List ℕ} {l m n : List Event} {a b c : List Answer} (s : Asks steady world dir l m a b) (t : Asks steady world dir m n b c) where
  -- files only with questions that need them
  pub files_next : (q : Question) (v : Verdict) → AnswersOnly (asked q) b (since m n) (Ok v) → OnlyForFiles (asked q) (since m n) → OnlyWithFiles (since l m) → OnlyWithFiles (since l n)
  files_next q v own bare h = with_files_then s t h (with_files_one (asked q) b (since m n) v own bare)

  -- each word that is drawn is used
  pub words_both : WordsUsed (since l m) → WordsUsed (since m n) → WordsUsed (since l n)
  words_both h k = used_parts l m n (s.part, s.extends) (t.part, t.extends) h k

-- ---- which questions

among_at : (all qs : List Question) (i : ℕ) (q : Question) → i < length qs → q ≡ slice_index_or qs i q → Among all qs → Contains all q
among_at all [] i q l e h = absurd (omega arith)
among_at all (p ∷ qs) zero q l e h = subst (λ (x : Question). Contains all x) (sym e) h.0
among_at all (p ∷ qs) (suc i) q l e h = among_at all qs i q (omega arith) e h.1

abbrev itself : Question → Question
itself q = q

among_until : (look : Look) (all qs : List Question) (i : ℕ) (q : Question) → i < length qs → q ≡ slice_index_or qs i q → find (says_yes itself look) (take i qs) ≡ None → Among all (until_yes look qs) → Contains all q
among_until look all [] i q l e n h = absurd (omega arith)
among_until look all (p ∷ qs) zero q l e n h = subst (λ (x : Question). Contains all x) (sym e) h.0
among_until look all (p ∷ qs) (suc i) q l e n h = go (is_yes (look p)) (among_until look all qs i q (omega arith) e) n h.1
  where
    go : (b : Bool) → (find (says_yes itself look) (take i qs) ≡ None → Among all (until_yes look qs) → Contains all q) → cond b (Some p) (find (says_yes itself look) (take i qs)) ≡ None → Among all (if b then [] else until_yes look qs) → Contains all q
    go true next n h = absurd (cc)
    go false next n h = next n h

-- no question of a search said yes so far
abbrev pub Quiet : Bool → List Answer → List Question → Type 0
Quiet first known qs = first ≡ true → Holds known (λ look. find (says_yes itself look) qs ≡ None)

-- the next question is one that the plan asks
pub asks_next : {X : Type 0} (p : Plan X) (first : Bool) (start mid new : List Answer) (qs : List Question) (i : ℕ) (q : Question) → Wants start p first qs → (more : List Answer) × (mid ≡ start ++ more) → (more : List Answer) × (new ≡ mid ++ more) → Quiet first mid (take i qs) → i < length qs → q ≡ slice_index_or qs i q → Holds new (λ look. PlanAsks p look q)
asks_next p true start mid new qs i q wanted g h quiet l e = record {
  under = λ look a.
      let before = agrees_on look mid h a in
      among_until look (p.asks look) qs i q l e ((quiet refl).under look before) (wanted.own look (agrees_on look start g before));
}
asks_next p false start mid new qs i q wanted g h quiet l e = record {
  under = λ look a. among_at (p.asks look) qs i q l e (wanted.own look (agrees_on look start g (agrees_on look mid h a)));
}

-- it says no
pub quiet_next : (first : Bool) (mid new : List Answer) (qs : List Question) (i : ℕ) (q : Question) (v : Verdict) → (more : List Answer) × (new ≡ mid ++ more) → Quiet first mid (take i qs) → q ≡ slice_index_or qs i q → asked q ≡ q → Settles new (λ look. look (asked q)) v → (first && is_yes v) ≡ false → Quiet first new (take (i + 1) qs)
quiet_next true mid new qs i q v h quiet e plain s off = λ f. record {
  under = λ look a. find_more (says_yes itself look) qs i q e ((quiet refl).under look (agrees_on look mid h a)) (ap (λ x. is_yes (look x)) (sym plain) ∙ ap is_yes (s.is look a) ∙ off);
}
quiet_next false mid new qs i q v h quiet e plain s off = λ f. absurd (cc)

-- ---- answers get more

lacks_place : (known : List Answer) (q : Question) (k : ℕ) (v : Verdict) → slice_get known k ≡ Some (q, v) → Lacks known q → ⊥
lacks_place [] q k v e l = cc
lacks_place (a ∷ known) q zero v e l = let same : a ≡ (q, v) = (cc) in l.0 (ap (λ (x : Answer). x.0) same)
lacks_place (a ∷ known) q (suc k) v e l = lacks_place known q k v e l.1

-- a question without an answer gets one
gets : (known new : List Answer) (part : List Event) (q : Question) (v : Verdict) → new ≡ known ++ answers part → Lacks known q → AnswersOnly q known part (Ok v) → length known < length new
gets known new part q v e l (inl had) = absurd (lacks_place known q had.0.place v had.0.here l)
gets known new part q v e l (inr own) = let n : length new ≡ length known + 1 = ap length (e ∙ ap (λ x. known ++ x) own.1) ∙ length-append known ((q, v) ∷ []) in omega arith

opens_first : (known : List Answer) (qs : List Question) (q : Question) → 0 < length qs → q ≡ slice_index_or qs 0 q → Opens known qs → Lacks known q
opens_first known [] q l e h = absurd (omega arith)
opens_first known (p ∷ qs) q l e h = subst (λ (x : Question). Lacks known x) (sym e) h

pub opens_some : (known : List Answer) (qs : List Question) → Opens known qs → 0 < length qs
opens_some known [] h = absurd h
opens_some known (q ∷ qs) h = omega arith

longer : (a b more : List Answer) → b ≡ a ++ more → length a ≤ length b
longer a b more e = let n : length b ≡ length a + length more = ap length e ∙ length-append a more in omega arith

-- behind each question they are more than at the start
pub more_next : {steady : Bool} {world : Question → Outcome} {dir : List ℕ} (start mid new : List Answer) (before after : List Event) (qs : List Question) (i : ℕ) (q : Question) (v : Verdict) → (i ≡ 0 → mid ≡ start) → (0 < i → length start < length mid) → Asks steady world dir before after mid new → AnswersOnly (asked q) mid (since before after) (Ok v) → asked q ≡ q → Opens start qs → i < length qs → q ≡ slice_index_or qs i q → length start < length new
more_next start mid new before after qs zero q v same more asks own plain opens l e =
    let s : mid ≡ start = same refl in
    let lacks : Lacks mid q = subst (λ (k : List Answer). Lacks k q) (sym s) (opens_first start qs q l e opens) in
    let mine : AnswersOnly q mid (since before after) (Ok v) = own_is mid (since before after) (Ok v) (asked q) q plain own in
    let grown : new ≡ mid ++ answers (since before after) = asks.answered ∙ ap (λ p. mid ++ answers p) (sym (part_is before after asks.part asks.extends)) in
    let n : length mid < length new = gets mid new (since before after) q v grown lacks mine in
    let k : length mid ≡ length start = ap length s in
    omega arith
more_next start mid new before after qs (suc i) q v same more asks own plain opens l e =
    let h : length start < length mid = more (omega arith) in
    let k : length mid ≤ length new = longer mid new (answers asks.part) asks.answered in
    omega arith

-- ---- what came of it

-- the answers settle the value
pub settles_value : {X : Type 0} {known : List Answer} {p : Plan X} (found : Found X) → IsFound known p found → Settles known p.value found.value
settles_value found h = record { is = h.is }
