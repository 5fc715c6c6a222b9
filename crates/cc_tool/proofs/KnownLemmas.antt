-- Laws on lists of answers.
use Rattle.std.proofs.Common.{◌≡◌, ◌≢◌, ◌⊎◌, inl, inr, ◌↔◌, IsTrue, Bool, true, false, if◌then◌else◌, ℕ, zero, suc, ◌<◌, ◌+◌, ◌-◌, get_or, set, List, [], ◌∷◌, ◌++◌, Some, length, slice_get, take, refl, sym, ap, subst, ◌∙◌, arith}
use Rattle.std.proofs.lemmas.Grind.{common_steps}
use Rattle.std.proofs.lemmas.List.{length-append}
use Rattle.std.proofs.lemmas.Option.{slice_get_read}
use Rattle.cc_host.specs.declared.question.Question.{Question}
use Rattle.cc_host.specs.declared.question.Verdict.{Verdict}
use Rattle.cc_host.specs.Question.{Look, Answer, Agrees, Settles, Lacks, NoTwice}
use Rattle.cc_tool.specs.Known.{Has, IsSteady, AllSteady, MayKeep, AllKept}
use Rattle.cc_host.specs.declared.question.Outcome.{Outcome}
use Rattle.cc_host.specs.Verdict.{verdict_of}
use Rattle.std.specs.List.{All, slice_index_or}
use Rattle.std.specs.Prelude.{Result, Ok, Err, OnOk, OnErr}
use Rattle.std.specs.Result.{is_ok}
use Rattle.std.proofs.lemmas.List.Elements.{All-append}

-- a question that no answer has
pub lacks_all : (known : List Answer) (q : Question) → ((k : ℕ) (a : Answer) → slice_get known k ≡ Some a → a.0 ≢ q) → Lacks known q
lacks_all [] q none = tt
lacks_all (a ∷ known) q none = (none zero a refl, lacks_all known q (λ k b e. none (suc k) b e))

lacks_before : (known : List Answer) (k : ℕ) (q : Question) → ((j : ℕ) (a : Answer) → j < k → slice_get known j ≡ Some a → a.0 ≢ q) → Lacks (take k known) q
lacks_before known zero q none = tt
lacks_before [] (suc k) q none = tt
lacks_before (a ∷ known) (suc k) q none = (none zero a (omega arith) refl, lacks_before known k q (λ j b l e. none (suc j) b (omega (arith, l)) e))

-- the first answer to a question
pub has_first : (known : List Answer) (q : Question) (k : ℕ) (a : Answer) → slice_get known k ≡ Some a → a.0 ≡ q → ((j : ℕ) (b : Answer) → j < k → slice_get known j ≡ Some b → b.0 ≢ q) → Has known q a.1
has_first known q k a e same none = record { place = k; here = e ∙ ap (λ p. Some (p, a.1)) same; first = lacks_before known k q none }

abbrev NoneBefore : List Answer → ℕ → Question → Type 0
NoneBefore known i q = (k : ℕ) (a : Answer) → k < i → slice_get known k ≡ Some a → a.0 ≢ q

here : (known : List Answer) (i : ℕ) (x a : Answer) → x ≡ get_or known i x → slice_get known i ≡ Some a → x ≡ a
here [] i x a e h = absurd (cc)
here (b ∷ known) zero x a e h = cc
here (b ∷ known) (suc i) x a e h = here known i x a e h

at_last : (known : List Answer) (q : Question) (i k : ℕ) (x a : Answer) → k < i + 1 → NoneBefore known i q → x ≡ get_or known i x → x.0 ≢ q → slice_get known k ≡ Some a → (k < i ⊎ k ≡ i) → a.0 ≢ q
at_last known q i k x a l none e n h (inl less) = none k a less h
at_last known q i k x a l none e n h (inr same) = λ s. n (ap (λ (y : Answer). y.0) (here known i x a e (ap (slice_get known) (sym same) ∙ h)) ∙ s)

-- no answer up to a place has the question
pub none_more : (known : List Answer) (q : Question) (i : ℕ) (x : Answer) → NoneBefore known i q → x ≡ get_or known i x → x.0 ≢ q → NoneBefore known (i + 1) q
none_more known q i x none e n = λ k a l h. at_last known q i k x a l none e n h (below_or_at k i l)
  where
    below_or_at : (k i : ℕ) → k < i + 1 → k < i ⊎ k ≡ i
    below_or_at zero zero l = inr refl
    below_or_at zero (suc i) l = inl (omega arith)
    below_or_at (suc k) zero l = absurd (omega (arith, l))
    below_or_at (suc k) (suc i) l = up (below_or_at k i (omega (arith, l)))
      where
        up : (k < i ⊎ k ≡ i) → (suc k < suc i) ⊎ (suc k ≡ suc i)
        up (inl less) = inl (omega (arith, less))
        up (inr same) = inr (ap suc same)

-- the answer at a place is the first to its question
pub has_here : (known : List Answer) (q : Question) (i : ℕ) (x : Answer) (items : List Answer) → items ≡ known → i < length items → NoneBefore known i q → x ≡ get_or items i x → x.0 ≡ q → Has known q x.1
has_here known q i x items all l none e same = has_first known q i x (ap (λ m. slice_get m i) (sym all) ∙ slice_get_read items (length items) i x refl l e) same none

-- what a test denies
pub isnt : {P : Type 0} → (IsTrue false ↔ P) → P → ⊥
isnt both p = let t = both.1 p in (cc)

agrees_at : (look : Look) (known : List Answer) (k : ℕ) (a : Answer) → slice_get known k ≡ Some a → Agrees look known → look a.0 ≡ a.1
agrees_at look [] k a e s = cc
agrees_at look (b ∷ known) zero a e s = let same : b ≡ a = (cc) in subst (λ (x : Answer). look x.0 ≡ x.1) same s.0
agrees_at look (b ∷ known) (suc k) a e s = agrees_at look known k a e s.1

-- an answer that is there settles its question
pub settles_has : {known : List Answer} {q : Question} {v : Verdict} → Has known q v → Settles known (λ look. look q) v
settles_has {known} {q} {v} h = record { is = λ look s. agrees_at look known h.place (q, v) h.here s }

agrees_last : (look : Look) (known : List Answer) (a : Answer) → Agrees look (known ++ a ∷ []) → look a.0 ≡ a.1
agrees_last look [] a s = s.0
agrees_last look (b ∷ known) a s = agrees_last look known a s.1

-- so does the last one
pub settles_last : (known : List Answer) {new : List Answer} {q : Question} {v : Verdict} → new ≡ known ++ (q, v) ∷ [] → Settles new (λ look. look q) v
settles_last known {new} {q} {v} e = record { is = λ look s. agrees_last look known (q, v) (subst (λ (l : List Answer). Agrees look l) e s) }

lacks_last : (known : List Answer) (a : Answer) (q : Question) → a.0 ≢ q → Lacks known q → Lacks (known ++ a ∷ []) q
lacks_last [] a q n l = (n, tt)
lacks_last (b ∷ known) a q n l = (l.0, lacks_last known a q n l.1)

-- one more question that wasn't asked
pub once_last : (known : List Answer) (a : Answer) → Lacks known a.0 → NoTwice known → NoTwice (known ++ a ∷ [])
once_last [] a l n = (tt, tt)
once_last (b ∷ known) a l n = (lacks_last known a b.0 (λ s. l.0 (sym s)) n.0, once_last known a l.1 n.1)

abbrev only : Question → Verdict → List Answer
only q v = (q, v) ∷ []

-- one more verdict of the world
pub steady_more : {steady : Bool} (world : Question → Outcome) (known : List Answer) {new : List Answer} (q : Question) (v : Verdict) → AllSteady steady world known → IsSteady steady world q v → new ≡ known ++ (q, v) ∷ [] → AllSteady steady world new
steady_more world known q v all one e = λ s. subst (λ (l : List Answer). All (λ a. a.1 ≡ verdict_of a.0 (world a.0)) l) (sym e) (All-append (λ a. a.1 ≡ verdict_of a.0 (world a.0)) known (only q v) (all s) (λ k d l. last k d l (one s)))
  where
    last : (k : ℕ) (d : Answer) → k < 1 → v ≡ verdict_of q (world q) → (slice_index_or (only q v) k d).1 ≡ verdict_of (slice_index_or (only q v) k d).0 (world (slice_index_or (only q v) k d).0)
    last k d l h = let e : k ≡ 0 = omega (arith, l) in rw e h

-- a place where an answer stands is within the list
pub below : (known : List Answer) (k : ℕ) (a : Answer) → slice_get known k ≡ Some a → k < length known
below [] k a e = cc
below (b ∷ known) zero a e = omega arith
below (b ∷ known) (suc k) a e = let l = below known k a e in omega (arith, l)

set_at : (known : List Answer) (a b : Answer) → set (known ++ a ∷ []) (length known) b ≡ known ++ b ∷ []
set_at [] a b = refl
set_at (c ∷ known) a b = ap (λ l. c ∷ l) (set_at known a b)

get_at : (known : List Answer) (a d : Answer) → get_or (known ++ a ∷ []) (length known) d ≡ a
get_at known a d = grind (arith, common_steps)

-- another verdict for the last answer
pub set_last : (items known : List Answer) (a x new : Answer) (v : Verdict) (i : ℕ) → items ≡ known ++ a ∷ [] → i ≡ length items - 1 → x ≡ get_or items i x → new ≡ (x.0, v) → set items i new ≡ known ++ (a.0, v) ∷ []
set_last items known a x new v i e n g m =
    let l : length items ≡ length known + 1 = ap length e ∙ length-append known (a ∷ []) in
    let j : i ≡ length known = omega (arith, n, l) in
    let y : x ≡ a = g ∙ ap (λ l. get_or l i x) e ∙ ap (λ k. get_or (known ++ a ∷ []) k x) j ∙ get_at known a x in
    ap (λ l. set l i new) e ∙ ap (λ k. set (known ++ a ∷ []) k new) j ∙ set_at known a new ∙ ap (λ b. known ++ b ∷ []) (m ∙ ap (λ (b : Answer). (b.0, v)) y)

-- one more verdict of the world, where there was memory
pub steady_push : {steady : Bool} (world : Question → Outcome) (known : List Answer) {new : List Answer} (ok : Bool) (q p : Question) (v w : Verdict) → AllSteady steady world known → IsSteady steady world q v → new ≡ (if ok then known ++ (p, w) ∷ [] else known) → p ≡ q → w ≡ v → AllSteady steady world new
steady_push world known true q p v w all one e f g = steady_more world known q v all one (e ∙ ap (λ x. known ++ (x, w) ∷ []) f ∙ ap (λ x. known ++ (q, x) ∷ []) g)
steady_push {steady} world known false q p v w all one e f g = subst (λ (l : List Answer). AllSteady steady world l) (sym e) all

-- one more verdict that the caches may keep, where there was memory
pub kept_push : (known : List Answer) {new : List Answer} (ok : Bool) (q p : Question) (v w : Verdict) → AllKept known → MayKeep q v → new ≡ (if ok then known ++ (p, w) ∷ [] else known) → p ≡ q → w ≡ v → AllKept new
kept_push known true q p v w all may e f g =
    let here : MayKeep p w = subst (λ (x : Question). MayKeep x w) (sym f) (subst (λ (x : Verdict). MayKeep q x) (sym g) may) in
    subst AllKept (sym e) (All-append (λ a. MayKeep a.0 a.1) known (only p w) all (λ k d l. let z : k ≡ 0 = omega (arith, l) in rw z here))
kept_push known false q p v w all may e f g = subst AllKept (sym e) all

-- what a list is after one more was added, or refused
pub as_told : {X E : Type 0} (r : Result X E) (new more old : List Answer) → OnOk r (new ≡ more) → OnErr r (new ≡ old) → new ≡ (if is_ok r then more else old)
as_told (Ok x) new more old done kept = done
as_told (Err e) new more old done kept = kept
