-- Words that are asked about, and their questions.
use Rattle.std.proofs.Common.{◌≡◌, ℕ, ◌+◌, ◌<◌, Bool, true, false, cond, Some, None, List, [], ◌∷◌, ◌++◌, if◌then◌else◌, map, take, length, slice_index_or, sym, ap, ◌∙◌}
use Rattle.std.specs.List.{filter}
use Rattle.std.proofs.lemmas.List.{append-nil, map-append}
use Rattle.std.proofs.lemmas.List.Elements.{filter_more}
use Rattle.cc_text.specs.Words.{when}

chosen : {X : Type 0} (b : Bool) (x : X) {q : X} → Some q ≡ (if b then Some x else None) → q ≡ x
chosen true x e = cc
chosen false x e = absurd (cc)

-- the first elements that pass a test, with the next one
pub keep_more : {X : Type 0} (p : X → Bool) (xs : List X) (i : ℕ) (x : X) (kept more : List X) (b : Bool) → i < length xs → x ≡ slice_index_or xs i x → filter p (take i xs) ≡ kept → p x ≡ b → more ≡ kept ++ when b (x ∷ []) → filter p (take (i + 1) xs) ≡ more
keep_more p xs i x kept more b l e f h k =
    filter_more p xs i x l ∙ ap (λ y. filter p (take i xs) ++ cond (p y) (y ∷ []) []) (sym e) ∙ ap (λ z. z ++ cond (p x) (x ∷ []) []) f ∙ ap (λ c. kept ++ cond c (x ∷ []) []) h ∙ sym k

-- what is made of the elements that are kept, with that of the next ones
pub made_more : {X Y : Type 0} (f : X → Y) (kept next more : List X) (old new : List Y) → old ≡ map f kept → more ≡ kept ++ next → new ≡ old ++ map f next → new ≡ map f more
made_more f kept next more old new e m n = n ∙ ap (λ l. l ++ map f next) e ∙ sym (map-append f kept next) ∙ ap (map f) (sym m)

-- an element with what is made of it is added where it is chosen
pub added_if : {X Y : Type 0} (b : Bool) (x : X) (f : X → Y) {q : Y} (old new : List X) (made more : List Y) → Some q ≡ (if b then Some (f x) else None) → new ≡ old ++ x ∷ [] → more ≡ made ++ q ∷ [] → (new ≡ old ++ when b (x ∷ [])) × (more ≡ made ++ map f (when b (x ∷ [])))
added_if true x f old new made more e n m = (n, m ∙ ap (λ y. made ++ y ∷ []) (chosen true (f x) e))
added_if false x f old new made more e n m = absurd (cc)

pub kept_if : {X Y : Type 0} (b : Bool) (x : X) (f : X → Y) (old : List X) (made : List Y) → None ≡ (if b then Some (f x) else None) → (old ≡ old ++ when b (x ∷ [])) × (made ≡ made ++ map f (when b (x ∷ [])))
kept_if true x f old made e = absurd (cc)
kept_if false x f old made e = (sym (append-nil old), sym (append-nil made))
