-- The places of a digest, as the list grows and as it is searched.
use Rattle.std.proofs.Common.{◌≡◌, ◌≢◌, ℕ, zero, suc, ◌+◌, ◌<◌, ◌==◌, Bool, true, false, List, [], ◌∷◌, ◌++◌, length, get_or, set, Option, Some, None, slice_get, sym, refl, ap, ◌∙◌, subst, arith, eq-eqb, ne_eqb, append-nil}
use mathlib.Core.Logic.{dite}
use native.Mathlib.Decide.{ℕ_discrete}
use Rattle.std.proofs.lemmas.Option.{slice_get_read}
use Rattle.cc_host.specs.declared.question.Question.{Question}
use Rattle.cc_host.specs.Question.{Answer, Lacks}
use Rattle.cc_tool.specs.Known.{Has}
use Rattle.cc_tool.specs.Digest.{question_digest}
use Rattle.cc_tool.specs.Places.{place_if, places_from, if_any, bucket, with_place, IsIndexed}
use Rattle.cc_tool.proofs.KnownLemmas.{lacks_all, has_first}

place_if-append : (b : Bool) (k : ℕ) (r s : List ℕ) → place_if b k (r ++ s) ≡ place_if b k r ++ s
place_if-append true k r s = refl
place_if-append false k r s = refl

-- one more entry has the next place
pub places_snoc : (k d : ℕ) (es : List Answer) (a : Answer) (p : ℕ) → p ≡ k + length es → places_from k d (es ++ a ∷ []) ≡ places_from k d es ++ place_if (question_digest a.0 == d) p []
places_snoc k d [] a p is = ap (λ (n : ℕ). place_if (question_digest a.0 == d) n []) (let same : k ≡ p = omega arith in same)
places_snoc k d (x ∷ es) a p is =
    ap (λ (r : List ℕ). place_if (question_digest x.0 == d) k r) (places_snoc (k + 1) d es a p (omega arith))
    ∙ place_if-append (question_digest x.0 == d) k (places_from (k + 1) d es) (place_if (question_digest a.0 == d) p [])

place_if-below : (b : Bool) (k n : ℕ) (r : List ℕ) (j : ℕ) → ((i : ℕ) → i < length r → get_or r i 0 < n) → k < n → j < length (place_if b k r) → get_or (place_if b k r) j 0 < n
place_if-below true k n r zero below here h = here
place_if-below true k n r (suc j) below here h = below j (omega arith)
place_if-below false k n r j below here h = below j h

-- a place is below the length
pub places_below : (k d : ℕ) (es : List Answer) (n : ℕ) → n ≡ k + length es → (j : ℕ) → j < length (places_from k d es) → get_or (places_from k d es) j 0 < n
places_below k d [] n is j h = absurd (omega arith)
places_below k d (x ∷ es) n is j h = place_if-below (question_digest x.0 == d) k n (places_from (k + 1) d es) j (places_below (k + 1) d es n (omega arith)) (omega arith) h

some_same : (x a : Answer) → slice_get (x ∷ []) 0 ≡ Some a → x ≡ a
some_same x a h = cc

-- this place is among the first i
abbrev Before : List ℕ → ℕ → ℕ → Type 0
Before r i p = (j : ℕ) × (j < i) × (get_or r j 0 ≡ p)

abbrev IsBelow : List ℕ → ℕ → ℕ → Type 0
IsBelow r i p = i < length r → p < get_or r i 0

before_first : (k p : ℕ) (r : List ℕ) (i : ℕ) → p ≡ k → IsBelow (k ∷ r) i p → Before (k ∷ r) i p
before_first k p r zero is below = absurd (let l = below (omega arith) in omega (arith, l))
before_first k p r (suc i) is below = (zero, omega arith, sym is)

before_later : (b : Bool) (k p : ℕ) (r : List ℕ) (i : ℕ) → k < p → IsBelow (place_if b k r) i p → ((i : ℕ) → IsBelow r i p → Before r i p) → Before (place_if b k r) i p
before_later true k p r zero more below then = absurd (let l = below (omega arith) in omega (arith, l))
before_later true k p r (suc i) more below then = let at = then i (λ h. below (omega (arith, h))) in (suc at.0, (let l = at.1 in omega (arith, l)), at.2)
before_later false k p r i more below then = then i below

-- an entry that stands before the place at i has its own among the first i
pub places_before : (k d : ℕ) (es : List Answer) (m : ℕ) (a : Answer) (p i : ℕ) → p ≡ k + m → slice_get es m ≡ Some a → question_digest a.0 ≡ d → IsBelow (places_from k d es) i p → Before (places_from k d es) i p
places_before k d [] m a p i is h same below = absurd (cc)
places_before k d (x ∷ es) zero a p i is h same below =
    let b : (question_digest x.0 == d) ≡ true = eq-eqb _ _ (ap (λ (o : Answer). question_digest o.0) (some_same x a h) ∙ same) in
    let it : Before (k ∷ places_from (k + 1) d es) i p = before_first k p (places_from (k + 1) d es) i (omega (arith, is)) (subst (λ (b : Bool). IsBelow (place_if b k (places_from (k + 1) d es)) i p) b below) in
    subst (λ (b : Bool). Before (place_if b k (places_from (k + 1) d es)) i p) (sym b) it
places_before k d (x ∷ es) (suc m) a p i is h same below =
    before_later (question_digest x.0 == d) k p (places_from (k + 1) d es) i (omega (arith, is)) below (λ n l. places_before (k + 1) d es m a p n (omega (arith, is)) h same l)

-- none of the entries at the first i places has the question
abbrev pub NoneAt : List Answer → List ℕ → ℕ → Question → Type 0
NoneAt es places i q = (j : ℕ) (a : Answer) → j < i → slice_get es (get_or places j 0) ≡ Some a → a.0 ≢ q

no_earlier : (es : List Answer) (q : Question) (places : List ℕ) (i m : ℕ) (a : Answer) → places ≡ places_from 0 (question_digest q) es → NoneAt es places i q → IsBelow places i m → slice_get es m ≡ Some a → a.0 ≢ q
no_earlier es q places i m a are none below h same =
    let at : Before places i m = subst (λ (r : List ℕ). Before r i m) (sym are) (places_before 0 (question_digest q) es m a m i (omega arith) h (ap question_digest same) (subst (λ (r : List ℕ). IsBelow r i m) are below)) in
    none at.0 a at.1 (subst (λ (n : ℕ). slice_get es n ≡ Some a) (sym at.2) h) same

-- where no entry at the places of its digest has the question, none has
pub absent : (es : List Answer) (q : Question) (places : List ℕ) (i : ℕ) → places ≡ places_from 0 (question_digest q) es → (i < length places → ⊥) → NoneAt es places i q → Lacks es q
absent es q places i are all none = lacks_all es q (λ k a h. no_earlier es q places i k a are none (λ l. absurd (all l)) h)

-- what is read at a place stands there
pub stands : (es : List Answer) (places : List ℕ) (q : Question) (i : ℕ) (x : Answer) → places ≡ places_from 0 (question_digest q) es → i < length places → x ≡ get_or es (get_or places i 0) x → slice_get es (get_or places i 0) ≡ Some x
stands es places q i x are h is =
    let below : get_or places i 0 < length es = subst (λ (r : List ℕ). (j : ℕ) → j < length r → get_or r j 0 < length es) (sym are) (places_below 0 (question_digest q) es (length es) (omega arith)) i h in
    slice_get_read es (length es) (get_or places i 0) x refl below is

-- the first of these entries with the question is the first of all
pub first_found : (es : List Answer) (q : Question) (places : List ℕ) (i : ℕ) (x : Answer) → places ≡ places_from 0 (question_digest q) es → NoneAt es places i q → slice_get es (get_or places i 0) ≡ Some x → x.0 ≡ q → Has es q x.1
first_found es q places i x are none there same = has_first es q (get_or places i 0) x there same (λ m b less h. no_earlier es q places i m b are none (λ _. less) h)

pub none_more_at : (es : List Answer) (places : List ℕ) (q : Question) (i : ℕ) (x : Answer) → NoneAt es places i q → slice_get es (get_or places i 0) ≡ Some x → x.0 ≢ q → NoneAt es places (i + 1) q
none_more_at es places q i x before at other j a h there same = grind arith

if_any-snoc : (places : List ℕ) (p : ℕ) → if_any (places ++ p ∷ []) ≡ Some (places ++ p ∷ [])
if_any-snoc [] p = refl
if_any-snoc (x ∷ places) p = refl

with_place-if_any : (places : List ℕ) (p : ℕ) → with_place (if_any places) p ≡ if_any (places ++ p ∷ [])
with_place-if_any [] p = refl
with_place-if_any (x ∷ places) p = refl

-- what has no bucket is in no list
pub no_bucket : (es : List Answer) (q : Question) (d : ℕ) → d ≡ question_digest q → None ≡ bucket d es → Lacks es q
no_bucket es q d is e = absent es q (places_from 0 d es) 0 (ap (λ (n : ℕ). places_from 0 n es) is) (λ l. none (places_from 0 d es) e l) (λ j a l. absurd (omega (arith, l)))
  where
    none : (places : List ℕ) → None ≡ if_any places → 0 < length places → ⊥
    none [] e l = absurd (omega (arith, l))
    none (x ∷ places) e l = absurd (cc)

pub bucket_is : (d : ℕ) (es : List Answer) (places : List ℕ) → Some places ≡ bucket d es → places ≡ places_from 0 d es
bucket_is d es places e = same (places_from 0 d es) places e
  where
    same : (found places : List ℕ) → Some places ≡ if_any found → places ≡ found
    same [] places e = absurd (cc)
    same (x ∷ found) places e = cc

snoc_same : (d : ℕ) (es : List Answer) (a : Answer) → question_digest a.0 ≡ d → places_from 0 d (es ++ a ∷ []) ≡ places_from 0 d es ++ length es ∷ []
snoc_same d es a is = places_snoc 0 d es a (length es) (omega arith) ∙ ap (λ (b : Bool). places_from 0 d es ++ place_if b (length es) []) (eq-eqb _ _ is)

snoc_other : (d : ℕ) (es : List Answer) (a : Answer) → question_digest a.0 ≢ d → places_from 0 d (es ++ a ∷ []) ≡ places_from 0 d es
snoc_other d es a other = places_snoc 0 d es a (length es) (omega arith) ∙ ap (λ (b : Bool). places_from 0 d es ++ place_if b (length es) []) (ne_eqb _ _ other) ∙ append-nil (places_from 0 d es)

-- the buckets f become g as the list grows by an entry
pub grown : (es after : List Answer) (a : Answer) (key p : ℕ) (f g : ℕ → Option (List ℕ)) → after ≡ es ++ a ∷ [] → key ≡ question_digest a.0 → p ≡ length es → IsIndexed es f → g key ≡ with_place (f key) p → ((d : ℕ) → d ≢ key → g d ≡ f d) → IsIndexed after g
grown es after a key p f g all is at before here there d = subst (λ (l : List Answer). g d ≡ bucket d l) (sym all) (dite (ℕ_discrete d key)
    (λ same. subst (λ (n : ℕ). g n ≡ bucket n (es ++ a ∷ [])) (sym same)
    (here ∙ ap (λ (o : Option (List ℕ)). with_place o p) (before key) ∙ with_place-if_any (places_from 0 key es) p ∙ ap (λ (n : ℕ). if_any (places_from 0 key es ++ n ∷ [])) at ∙ ap if_any (sym (snoc_same key es a (sym is)))))
    (λ other. there d other ∙ before d ∙ ap if_any (sym (snoc_other d es a (λ h. other (sym h ∙ sym is))))))

-- and f as it loses its last
pub shrunk : (es all : List Answer) (a : Answer) (key : ℕ) (f g : ℕ → Option (List ℕ)) → all ≡ es ++ a ∷ [] → key ≡ question_digest a.0 → IsIndexed all f → ((places : List ℕ) (p : ℕ) → f key ≡ Some (places ++ p ∷ []) → g key ≡ if_any places) → ((d : ℕ) → d ≢ key → g d ≡ f d) → IsIndexed es g
shrunk es all a key f g is at before here there d =
    let had : IsIndexed (es ++ a ∷ []) f = subst (λ (l : List Answer). IsIndexed l f) is before in
    dite (ℕ_discrete d key)
    (λ same. subst (λ (n : ℕ). g n ≡ bucket n es) (sym same) (here (places_from 0 key es) (length es) (had key ∙ ap if_any (snoc_same key es a (sym at)) ∙ if_any-snoc (places_from 0 key es) (length es))))
    (λ other. there d other ∙ had d ∙ ap if_any (snoc_other d es a (λ h. other (sym h ∙ sym at))))

-- another verdict leaves every place
pub places_set : (k d : ℕ) (es : List Answer) (i : ℕ) (x new : Answer) → x ≡ get_or es i x → new.0 ≡ x.0 → places_from k d (set es i new) ≡ places_from k d es
places_set k d [] i x new is same = refl
places_set k d (e ∷ es) zero x new is same = ap (λ (q : Question). place_if (question_digest q == d) k (places_from (k + 1) d es)) (same ∙ ap (λ (o : Answer). o.0) is)
places_set k d (e ∷ es) (suc i) x new is same = ap (λ (r : List ℕ). place_if (question_digest e.0 == d) k r) (places_set (k + 1) d es i x new is same)

-- a place that is read is within the list
pub places_bound : (list es : List Answer) → list ≡ es → (places : List ℕ) (q : Question) (i : ℕ) → places ≡ places_from 0 (question_digest q) es → i < length places → get_or places i 0 < length list
places_bound list es same places q i are h =
    let bound : (j : ℕ) → j < length places → get_or places j 0 < length es = subst (λ (r : List ℕ). (j : ℕ) → j < length r → get_or r j 0 < length es) (sym are) (places_below 0 (question_digest q) es (length es) (omega arith)) in
    subst (λ (l : List Answer). get_or places i 0 < length l) (sym same) (bound i h)
