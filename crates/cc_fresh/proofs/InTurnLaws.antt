-- What comes of some things in turn, one after another.
use Rattle.std.proofs.Common.{◌≡◌, ◌≤◌, ◌<◌, ◌+◌, ℕ, zero, suc, List, [], ◌∷◌, ◌++◌, length, drop, get_or, map, Option, Some, None, slice_get, refl, sym, ◌∙◌, ap, subst, add-one, append_assoc, append-nil, arith}
use Rattle.cc_fresh.specs.InTurn.{InTurn, InTurnSome, pairs}
use Rattle.cc_fresh.specs.Reads.{Read, Adds, AddsFirst}
use Rattle.cc_fresh.specs.declared.file.ReadError.{ReadError}
use Rattle.cc_fresh.specs.declared.file.ReadError.TheVariants.{NoMemory}
use Rattle.cc_fresh.proofs.FirstReads.{first_of_more, first_behind, first_wanting}
use Rattle.cc_fresh.proofs.Places.{drop_at, past_end}

module _ {X Y : Type 0} (fact : X → List Y → List Read → Type 0) where
  -- what comes of the rest makes up what comes of all
  abbrev pub Going : List X → ℕ → List Y → List Read → Type 0
  Going xs i ys told = (more : List Y) (rest : List Read) → InTurn fact (drop i xs) more rest → InTurn fact xs (ys ++ more) (told ++ rest)

  -- whatever comes of one
  abbrev pub Comes : X → List Read → Type 0
  Comes x told = (made : List Y) × fact x made told

  -- something comes of each
  abbrev pub May : Type 0
  May = (x : X) → (told : List Read) × Comes x told

  pub going_none : (xs : List X) → Going xs 0 [] []
  going_none [] more rest h = h
  going_none (x ∷ xs) more rest h = h

  -- so something comes of all
  pub may_all : May → (xs : List X) → (told : List Read) × InTurnSome fact xs told
  may_all may [] = ([], ([], (refl, refl)))
  may_all may (x ∷ xs) =
      let first = may x in
      let rest = may_all may xs in
      (first.0 ++ rest.0, (first.1.0 ++ rest.1.0, (first.1.0, rest.1.0, first.0, rest.0, (refl, refl, first.1.1, rest.1.1))))

  module _ (xs : List X) (i : ℕ) (ys : List Y) (told : List Read) (g : Going xs i ys told) where
    -- none is left
    pub going_end : length xs ≤ i → InTurn fact xs ys told
    going_end past =
        subst (λ (l : List Y). InTurn fact xs l told) (append-nil ys)
        (subst (λ (l : List Read). InTurn fact xs (ys ++ []) l) (append-nil told) (g [] [] (subst (λ (l : List X). InTurn fact l [] []) (sym (past_end xs i past)) (refl, refl))))

    -- nothing more comes
    pub going_stop : drop i xs ≡ [] → InTurn fact xs ys told
    going_stop none =
        subst (λ (l : List Y). InTurn fact xs l told) (append-nil ys)
        (subst (λ (l : List Read). InTurn fact xs (ys ++ []) l) (append-nil told) (g [] [] (subst (λ (l : List X). InTurn fact l [] []) (sym none) (refl, refl))))

    -- it may go on
    pub going_some : May → (rest : List Read) × InTurnSome fact xs (told ++ rest)
    going_some may = let k = may_all may (drop i xs) in (k.0, (ys ++ k.1.0, g k.1.0 k.0 k.1.1))

    module _ (x : X) (here : drop i xs ≡ x ∷ drop (suc i) xs) where
      from_here : (more : List Y) (rest : List Read) → InTurn fact (x ∷ drop (suc i) xs) more rest → InTurn fact xs (ys ++ more) (told ++ rest)
      from_here more rest h = g more rest (subst (λ (l : List X). InTurn fact l more rest) (sym here) h)

      going_suc : (made : List Y) (first : List Read) → fact x made first → Going xs (suc i) (ys ++ made) (told ++ first)
      going_suc made first h more rest k =
          subst (λ (l : List Y). InTurn fact xs l ((told ++ first) ++ rest)) (sym (append_assoc ys made more))
          (subst (λ (l : List Read). InTurn fact xs (ys ++ (made ++ more)) l) (sym (append_assoc told first rest))
          (from_here (made ++ more) (first ++ rest) (made, more, first, rest, (refl, refl, h, k))))

      -- the next one
      pub going_more : (made : List Y) (first : List Read) → fact x made first → Going xs (i + 1) (ys ++ made) (told ++ first)
      going_more made first h = rw add-one (going_suc made first h)

      -- what begins the next one begins what comes of all
      pub going_first : May → (l : List Read) → Comes x l → (rest : List Read) × InTurnSome fact xs (told ++ (l ++ rest))
      going_first may l one =
          let k = may_all may (drop (suc i) xs) in
          (k.0, (ys ++ (one.0 ++ k.1.0), from_here (one.0 ++ k.1.0) (l ++ k.0) (one.0, k.1.0, l, k.0, (refl, refl, one.1, k.1.1))))

  -- ---- the reads of a call

  pub none_read : (old : List Read) (xs : List X) (ys : List Y) → ys ≡ [] → Adds old old (Going xs 0 ys)
  none_read old xs ys none = ([], (sym (append-nil old), subst (λ (l : List Y). Going xs 0 l []) (sym none) (going_none xs)))

  pub all_read : (old new : List Read) (xs : List X) (i : ℕ) (ys : List Y) → length xs ≤ i → Adds old new (Going xs i ys) → Adds old new (InTurn fact xs ys)
  all_read old new xs i ys past so = (so.0, (so.1.0, going_end xs i ys so.0 so.1.1 past))

  pub all_stopped : (old new : List Read) (xs : List X) (i : ℕ) (ys : List Y) → drop i xs ≡ [] → Adds old new (Going xs i ys) → Adds old new (InTurn fact xs ys)
  all_stopped old new xs i ys none so = (so.0, (so.1.0, going_stop xs i ys so.0 so.1.1 none))

  pub all_wanting : May → (old new : List Read) (xs : List X) (i : ℕ) (ys : List Y) (e : ReadError) (x y : ℕ) → e ≡ NoMemory → Adds old new (Going xs i ys) → AddsFirst old new (InTurnSome fact xs) e x y
  all_wanting may old new xs i ys e x y memory so = first_wanting (InTurnSome fact xs) old new so.0 e x y memory so.1.0 (going_some xs i ys so.0 so.1.1 may)

  module _ (old mid new : List Read) (xs : List X) (i : ℕ) (ys : List Y) (x : X) (here : drop i xs ≡ x ∷ drop (suc i) xs) (so : Adds old mid (Going xs i ys)) where
    pub one_more : (made now : List Y) → now ≡ ys ++ made → Adds mid new (fact x made) → Adds old new (Going xs (i + 1) now)
    one_more made now put one = (
      so.0 ++ one.0,
      (
        one.1.0 ∙ ap (λ l. l ++ one.0) so.1.0 ∙ append_assoc old so.0 one.0,
        subst (λ (l : List Y). Going xs (i + 1) l (so.0 ++ one.0)) (sym put) (going_more xs i ys so.0 so.1.1 x here made one.0 one.1.1),
      ),
    )

    pub one_refused : May → (e : ReadError) (b m n : ℕ) → b ≤ m → AddsFirst mid new (Comes x) e m n → AddsFirst old new (InTurnSome fact xs) e b n
    one_refused may e b m n least h =
        first_behind (λ l. InTurnSome fact xs (so.0 ++ l)) (InTurnSome fact xs) old mid new so.0 e b m n so.1.0 least (λ l k. k)
        (first_of_more (Comes x) (λ l. InTurnSome fact xs (so.0 ++ l)) mid new e m n (going_first xs i ys so.0 so.1.1 x here may) h)

    -- memory was wanted behind the next one
    pub one_wanting : May → (made : List Y) (e : ReadError) (b n : ℕ) → e ≡ NoMemory → Adds mid new (fact x made) → AddsFirst old new (InTurnSome fact xs) e b n
    one_wanting may made e b n memory one =
        let k = going_first xs i ys so.0 so.1.1 x here may one.0 (made, one.1.1) in
        first_wanting (InTurnSome fact xs) old new (so.0 ++ one.0) e b n memory (one.1.0 ∙ ap (λ l. l ++ one.0) so.1.0 ∙ append_assoc old so.0 one.0)
        (k.0, subst (InTurnSome fact xs) (sym (append_assoc so.0 one.0 k.0)) k.1)

-- ---- things side by side

module _ {X Y : Type 0} where
  pub pair_at : (xs : List X) (ys : List Y) (i : ℕ) (x : X) (y : Y) → slice_get xs i ≡ Some x → slice_get ys i ≡ Some y → drop i (pairs xs ys) ≡ (x, y) ∷ drop (suc i) (pairs xs ys)
  pair_at [] ys i x y h k = absurd (cc)
  pair_at (a ∷ xs) [] zero x y h k = absurd (cc)
  pair_at (a ∷ xs) [] (suc i) x y h k = absurd (cc)
  pair_at (a ∷ xs) (b ∷ ys) zero x y h k =
      let same : a ≡ x = cc in
      let also : b ≡ y = cc in
      ap (λ z. (z, b) ∷ pairs xs ys) same ∙ ap (λ z. (x, z) ∷ pairs xs ys) also
  pair_at (a ∷ xs) (b ∷ ys) (suc i) x y h k = pair_at xs ys i x y h k

  nil_right : (xs : List X) (i : ℕ) → drop i (pairs {X = X} {Y = Y} xs []) ≡ []
  nil_right [] zero = refl
  nil_right [] (suc i) = refl
  nil_right (x ∷ xs) zero = refl
  nil_right (x ∷ xs) (suc i) = refl

  pub pair_none : (xs : List X) (ys : List Y) (i : ℕ) → slice_get ys i ≡ None → drop i (pairs xs ys) ≡ []
  pair_none xs [] i h = nil_right xs i
  pair_none [] (y ∷ ys) zero h = refl
  pair_none [] (y ∷ ys) (suc i) h = refl
  pair_none (x ∷ xs) (y ∷ ys) zero h = absurd (cc)
  pair_none (x ∷ xs) (y ∷ ys) (suc i) h = pair_none xs ys i h

  pub pair_end : (xs : List X) (ys : List Y) (i : ℕ) → length xs ≤ i → drop i (pairs xs ys) ≡ []
  pair_end [] ys zero past = refl
  pair_end [] ys (suc i) past = refl
  pair_end (x ∷ xs) [] i past = nil_right (x ∷ xs) i
  pair_end (x ∷ xs) (y ∷ ys) zero past = absurd (omega (arith, past))
  pair_end (x ∷ xs) (y ∷ ys) (suc i) past = pair_end xs ys i (omega (arith, past))
