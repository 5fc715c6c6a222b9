-- Laws on what a pass sees.
use Rattle.std.proofs.Common.{◌≡◌, ℕ, zero, suc, ◌<◌, ◌+◌, Bool, true, false, cond, if◌then◌else◌, List, [], ◌∷◌, ◌++◌, Option, Some, None, Ok, Err, map, find, take, drop, length, slice_index_or, refl, sym, ap, ◌∙◌, subst, arith}
use Rattle.std.specs.List.{Contains}
use Rattle.std.proofs.lemmas.Grind.{common_steps}
use Rattle.cc_host.specs.Question.{Look, Answer, Settles, Lacks, is_yes}
use Rattle.cc_host.specs.declared.question.Ask.{Ask as Kind}
use Rattle.cc_host.specs.declared.question.Ask.TheVariants.{Exists as AsksExists}
use Rattle.cc_host.specs.declared.question.Question.{Question}
use Rattle.cc_host.specs.declared.question.Verdict.{Verdict}
use Rattle.cc_tool.specs.Known.{Has, as_asked, asked}
use Rattle.cc_tool.specs.Notes.{Noted}
use Rattle.cc_tool.specs.Plans.{Plan, Among, ArePlain, IsKnown, Opens, Passes, Wants, until_yes, says_yes, ask, ask_all, seek}
use Rattle.cc_tool.specs.declared.want.Want.TheVariants.{Ask as AsksFor}
use Rattle.cc_tool.specs.declared.want.Wanted.{Wanted}
use Rattle.cc_tool.proofs.FindLemmas.{find_more, find_here}
use Rattle.cc_tool.proofs.KnownLemmas.{settles_has}
use Rattle.cc_tool.proofs.PassLemmas.{among_right, pass_memory}

-- ---- one question

plain_by : (kind : Kind) (q : Question) → kind ≡ q.ask → asked (as_asked kind q) ≡ as_asked kind q
plain_by AsksExists q e = refl
plain_by kind q e = ap (λ k. as_asked k q) (sym e)

-- a question that is asked as it is
pub asked_twice : (q : Question) → asked (asked q) ≡ asked q
asked_twice q = plain_by q.ask q refl

contains_one : (q : Question) → Contains (q ∷ []) q
contains_one q = (0, omega arith, refl)

module _ {known : List Answer} where
  pub seen_has : (notes : Noted) (q p : Question) (v : Verdict) → p ≡ asked q → Has known p v → Passes known notes notes (ask q) (Ok v)
  unfolding ask
  seen_has notes q p v e h = record { answers = record { noted = []; added = refl; is = λ look a. ap look (sym e) ∙ (settles_has h).is look a; notes = λ look a. refl } }

  pub wants_one : (q p : Question) (qs : List Question) → p ≡ asked q → qs ≡ p ∷ [] → Lacks known p → Wants known (ask q) false qs
  unfolding ask
  wants_one q p qs e is l =
      let here : qs ≡ asked q ∷ [] = is ∙ ap (λ x. x ∷ []) e in
      subst (λ (l : List Question). Wants known (ask q) false l) (sym here) (record { opens = subst (λ (x : Question). Lacks known x) e l; plain = (asked_twice q, tt); own = λ look a. (contains_one (asked q), tt) })

-- ---- lists of questions

pub among_self : (qs : List Question) → Among qs qs
among_self [] = tt
among_self (q ∷ qs) = ((0, omega arith, refl), among_right (q ∷ []) qs qs (among_self qs))

plain_behind : (i : ℕ) (qs : List Question) → ArePlain qs → ArePlain (drop i qs)
plain_behind zero qs h = h
plain_behind (suc i) [] h = tt
plain_behind (suc i) (q ∷ qs) h = plain_behind i qs h.1

pub plain_at : (qs : List Question) (i : ℕ) (q : Question) → i < length qs → q ≡ slice_index_or qs i q → ArePlain qs → asked q ≡ q
plain_at [] i q l e h = absurd (omega arith)
plain_at (p ∷ qs) zero q l e h = subst (λ (x : Question). asked x ≡ x) (sym e) h.0
plain_at (p ∷ qs) (suc i) q l e h = plain_at qs i q (omega arith) e h.1

parts : {X : Type 0} (i : ℕ) (xs : List X) → xs ≡ take i xs ++ drop i xs
parts zero xs = refl
parts (suc i) [] = refl
parts (suc i) (x ∷ xs) = ap (λ l. x ∷ l) (parts i xs)

opens_at : (known : List Answer) (qs : List Question) (i : ℕ) (q : Question) → i < length qs → q ≡ slice_index_or qs i q → Lacks known q → Opens known (drop i qs)
opens_at known [] i q l e h = absurd (omega arith)
opens_at known (p ∷ qs) zero q l e h = subst (λ (x : Question). Lacks known x) e h
opens_at known (p ∷ qs) (suc i) q l e h = opens_at known qs i q (omega arith) e h

-- ---- verdicts of a list

-- those from a place on are wanted
pub wants_rest : (known : List Answer) (qs : List Question) (i : ℕ) (q : Question) → i < length qs → q ≡ slice_index_or qs i q → ArePlain qs → Lacks known q → Wants known (ask_all qs) false (drop i qs)
unfolding ask_all
wants_rest known qs i q l e plain h = record {
  opens = opens_at known qs i q l e h;
  plain = plain_behind i qs plain;
  own = λ look a. subst (λ (all : List Question). Among all (drop i qs)) (sym (parts i qs)) (among_right (take i qs) (drop i qs) (drop i qs) (among_self (drop i qs)));
}

-- all are known
pub seen_all : (known : List Answer) (notes : Noted) (qs : List Question) (verdicts : List Verdict) → Settles known (λ look. map look qs) verdicts → Passes known notes notes (ask_all qs) (Ok verdicts)
unfolding ask_all
seen_all known notes qs verdicts s = record { answers = record { noted = []; added = refl; is = λ look a. s.is look a; notes = λ look a. refl } }

-- one more is known
pub one_known : (known : List Answer) (qs : List Question) (i : ℕ) (q : Question) (v : Verdict) (old new : List Verdict) → i < length qs → q ≡ slice_index_or qs i q → Has known q v → new ≡ old ++ v ∷ [] → Settles known (λ look. map look (take i qs)) old → Settles known (λ look. map look (take (i + 1) qs)) new
one_known known qs i q v old new l e h more s = record {
  is = λ look a.
      let here : look q ≡ v = (settles_has h).is look a in
      let front : map look (take i qs) ≡ old = s.is look a in
      grind (arith, common_steps, here, front, more, e, l);
}

-- ---- a search

-- what is wanted of it
pub pass_search : {X : Type 0} {known : List Answer} {before after : Noted} {p : Plan X} (wanted : Wanted) (qs : List Question) → wanted.first ≡ true → wanted.from ≡ 0 → wanted.questions.items ≡ qs → Wants known p true qs → Passes known before after p (Err (AsksFor wanted))
pass_search {X} {known} {before} {after} {p} wanted qs first from is h = record { answers = subst (λ (b : Bool). Wants known p b (drop wanted.from wanted.questions.items)) (sym first) (subst (λ (n : ℕ). Wants known p true (drop n wanted.questions.items)) (sym from) (subst (λ (l : List Question). Wants known p true l) (sym is) h)) }

known_some : {known : List Answer} (q : Question) (told : Option Bool) (b : Bool) → IsKnown known q told → told ≡ Some b → (v : Verdict) × (Has known q v × (b ≡ is_yes v))
known_some q (Some there) b h e = let same : there ≡ b = (cc) in (h.0, (h.1.0, sym same ∙ h.1.1))
known_some q None b h e = absurd (cc)

known_none : (known : List Answer) (q : Question) (told : Option Bool) → IsKnown known q told → told ≡ None → Lacks known q
known_none known q None h e = h
known_none known q (Some there) h e = absurd (cc)

module _ {X : Type 0} (question : X → Question) where
  -- it comes to those behind which none says yes
  comes_to : (look : Look) (xs rest : List X) → find (says_yes question look) xs ≡ None → until_yes look (map question (xs ++ rest)) ≡ map question xs ++ until_yes look (map question rest)
  comes_to look [] rest e = refl
  comes_to look (x ∷ xs) rest e = go (is_yes (look (question x))) (comes_to look xs rest) e
    where
      go : (b : Bool) → (find (says_yes question look) xs ≡ None → until_yes look (map question (xs ++ rest)) ≡ map question xs ++ until_yes look (map question rest)) → cond b (Some x) (find (says_yes question look) xs) ≡ None → question x ∷ (if b then [] else until_yes look (map question (xs ++ rest))) ≡ question x ∷ (map question xs ++ until_yes look (map question rest))
      go true next e = absurd (cc)
      go false next e = ap (λ l. question x ∷ l) (next e)

  plain_map : ((x : X) → asked (question x) ≡ question x) → (xs : List X) → ArePlain (map question xs)
  plain_map plain [] = tt
  plain_map plain (x ∷ xs) = (plain x, plain_map plain xs)

  opens_map : (known : List Answer) (xs : List X) (i : ℕ) (x : X) → i < length xs → x ≡ slice_index_or xs i x → Lacks known (question x) → Opens known (map question (drop i xs))
  opens_map known [] i x l e h = absurd (omega arith)
  opens_map known (y ∷ xs) zero x l e h = subst (λ (z : X). Lacks known (question z)) e h
  opens_map known (y ∷ xs) (suc i) x l e h = opens_map known xs i x (omega arith) e h

  -- those from a place on are wanted, before which none says yes
  pub wants_search : (known : List Answer) (xs : List X) (i : ℕ) (x : X) (qs : List Question) → ((y : X) → asked (question y) ≡ question y) → i < length xs → x ≡ slice_index_or xs i x → Lacks known (question x) → Settles known (λ look. find (says_yes question look) (take i xs)) None → qs ≡ map question (drop i xs) → Wants known (seek question xs) true qs
  unfolding seek
  wants_search known xs i x qs plain l e h none is = subst (λ (all : List Question). Wants known (seek question xs) true all) (sym is) (record {
    opens = opens_map known xs i x l e h;
    plain = plain_map plain (drop i xs);
    own = λ look a.
        let rest = until_yes look (map question (drop i xs)) in
        let whole : until_yes look (map question xs) ≡ map question (take i xs) ++ rest = ap (λ (all : List X). until_yes look (map question all)) (parts i xs) ∙ comes_to look (take i xs) (drop i xs) (none.is look a) in
        subst (λ (all : List Question). Among all rest) (sym whole) (among_right (map question (take i xs)) rest rest (among_self rest));
  })

  -- it is found
  pub seen_there : (known : List Answer) (notes : Noted) (xs : List X) (i : ℕ) (x : X) (v : Verdict) → i < length xs → x ≡ slice_index_or xs i x → Has known (question x) v → true ≡ is_yes v → Settles known (λ look. find (says_yes question look) (take i xs)) None → Passes known notes notes (seek question xs) (Ok (Some x))
  unfolding seek
  seen_there known notes xs i x v l e h there none = record {
    answers = record {
      noted = [];
      added = refl;
      is = λ look a. find_here (says_yes question look) xs i x l e (none.is look a) (ap is_yes ((settles_has h).is look a) ∙ sym there);
      notes = λ look a. refl;
    };
  }

  -- it isn't this one
  pub not_there : (known : List Answer) (xs : List X) (i : ℕ) (x : X) (v : Verdict) → x ≡ slice_index_or xs i x → Has known (question x) v → false ≡ is_yes v → Settles known (λ look. find (says_yes question look) (take i xs)) None → Settles known (λ look. find (says_yes question look) (take (i + 1) xs)) None
  not_there known xs i x v e h off none = record { is = λ look a. find_more (says_yes question look) xs i x e (none.is look a) (ap is_yes ((settles_has h).is look a) ∙ sym off) }

  -- the same by what is known of it
  pub known_there : (known : List Answer) (notes : Noted) (xs : List X) (i : ℕ) (x : X) (q : Question) (told : Option Bool) (b : Bool) → i < length xs → x ≡ slice_index_or xs i x → IsKnown known q told → q ≡ question x → told ≡ Some b → b ≡ true → Settles known (λ look. find (says_yes question look) (take i xs)) None → Passes known notes notes (seek question xs) (Ok (Some x))
  known_there known notes xs i x q told b l e h same is so none =
      let k = known_some q told b h is in
      seen_there known notes xs i x k.0 l e (subst (λ (p : Question). Has known p k.0) same k.1.0) (sym so ∙ k.1.1) none

  pub known_off : (known : List Answer) (xs : List X) (i : ℕ) (x : X) (q : Question) (told : Option Bool) (b : Bool) → x ≡ slice_index_or xs i x → IsKnown known q told → q ≡ question x → told ≡ Some b → b ≡ false → Settles known (λ look. find (says_yes question look) (take i xs)) None → Settles known (λ look. find (says_yes question look) (take (i + 1) xs)) None
  known_off known xs i x q told b e h same is off none =
      let k = known_some q told b h is in
      not_there known xs i x k.0 e (subst (λ (p : Question). Has known p k.0) same k.1.0) (sym off ∙ k.1.1) none

  -- it isn't known
  pub wants_known : (known : List Answer) (xs : List X) (i : ℕ) (x : X) (q : Question) (told : Option Bool) (qs : List Question) → ((y : X) → asked (question y) ≡ question y) → i < length xs → x ≡ slice_index_or xs i x → IsKnown known q told → q ≡ question x → told ≡ None → Settles known (λ look. find (says_yes question look) (take i xs)) None → qs ≡ map question (drop i xs) → Wants known (seek question xs) true qs
  wants_known known xs i x q told qs plain l e h same is none all = wants_search known xs i x qs plain l e (subst (λ (p : Question). Lacks known p) same (known_none known q told h is)) none all

  -- it is none of them
  pub nowhere : (known : List Answer) (notes : Noted) (xs : List X) → Settles known (λ look. find (says_yes question look) xs) None → Passes known notes notes (seek question xs) (Ok None)
  unfolding seek
  nowhere known notes xs none = record { answers = record { noted = []; added = refl; is = λ look a. none.is look a; notes = λ look a. refl } }

pub ruleset seen_laws = (seen_has, wants_one, pass_memory)
