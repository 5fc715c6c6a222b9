-- Lemmas on members that write one file.
use Rattle.std.proofs.Common.{◌≡◌, ◌⊎◌, inl, inr, ◌<◌, ◌≤◌, ◌+◌, ℕ, zero, suc, List, [], ◌∷◌, ◌++◌, length, get_or, Option, None, Some, true, false, Bool, bytes_eq, if◌then◌else◌, MatchOption, refl, sym, ◌∙◌, ap, subst, arith, ltb, ltb-true, ltb-false}
use Rattle.std.specs.List.{Contains}
use Rattle.std.specs.Map.{update}
use Rattle.std.specs.Path.{path_components}
use Rattle.std.proofs.lemmas.Bool.{cases_eq, cond_both}
use Rattle.std.proofs.lemmas.Slice.Eq.{bytes_eq-Decides}
use Rattle.cc_text.specs.Places.{place_at}
use Rattle.cc_text.specs.declared.places.PathPlaces.{PathPlaces}
use Rattle.cc_fleet.specs.Clash.{Share, Clash, NoClash, IsFirstClash, ComesBefore, Owns, OwnBoth, IsFirstOfOwners, IsNoted, files_at, key_of, first_of_two, first_with}
use Rattle.cc_fleet.proofs.KeyLemmas.{same_components}

same_element : {X : Type 0} (xs : List X) (k : ℕ) (d e : X) → k < length xs → get_or xs k d ≡ get_or xs k e
same_element [] k d e l = absurd (omega (arith, l))
same_element (x ∷ xs) zero d e l = refl
same_element (x ∷ xs) (suc k) d e l = same_element xs k d e (omega (arith, l))

-- an element by its place, with whatever default
pub item_is : {X : Type 0} (xs : List X) (i : ℕ) (d item x : X) → i < length xs → item ≡ get_or xs i item → x ≡ item → get_or xs i d ≡ x
item_is xs i d item x l is same = same_element xs i d item l ∙ sym is ∙ sym same

-- ---- one owner more

module _ (Own Next : ℕ → List ℕ → Type 0) (place : ℕ) (key : List ℕ) (old new : PathPlaces) (pair : Option (ℕ × ℕ)) (noted : IsNoted Own place old pair) (kept : (p : ℕ) (k : List ℕ) → Own p k → Next p k) (here : Next place key) (from : (p : ℕ) (k : List ℕ) → Next p k → Own p k ⊎ ((p ≡ place) × (key ≡ k))) (put : (k : List ℕ) → place_at new k ≡ update bytes_eq (place_at old) key (Some place) k) where
  put_here : (k : List ℕ) → key ≡ k → place_at new k ≡ Some place
  put_here k is = put k ∙ ap (λ b. if b then Some place else place_at old k) ((bytes_eq-Decides key k).1 is)

  put_kept : (k : List ℕ) → (key ≡ k → ⊥) → place_at new k ≡ place_at old k
  put_kept k differ = put k ∙ cond_both (bytes_eq key k) (Some place) (place_at old k) (λ r. r ≡ place_at old k) (λ e. absurd (differ ((bytes_eq-Decides key k).0 e))) (λ e. refl)

  by_key : {G : Type 0} (k : List ℕ) → (key ≡ k → G) → ((key ≡ k → ⊥) → G) → G
  by_key {G} k same other = elim (bytes_eq key k) as (λ b. (b ≡ true → key ≡ k) → (key ≡ k → b ≡ true) → G) [
    | true ↦ λ f g. same (f refl)
    | false ↦ λ f g. other (λ is. let h : false ≡ true = g is in cc)
  ] (bytes_eq-Decides key k).0 (bytes_eq-Decides key k).1

  up_to : (p : ℕ) (k : List ℕ) → Next p k → p ≤ place
  up_to p k n = elim (from p k n) [ inl o ↦ noted.up_to p k o | inr is ↦ omega (arith, is.0) ]

  owned : (p : ℕ) (k : List ℕ) → place_at new k ≡ Some p → Next p k
  owned p k at = by_key k
      (λ is. let h : Some place ≡ Some p = sym (put_here k is) ∙ at in let e : place ≡ p = cc in subst (λ q. Next q k) e (subst (λ l. Next place l) is here))
      (λ differ. kept p k (noted.owned p k (sym (put_kept k differ) ∙ at)))

  last : (p : ℕ) (k : List ℕ) → Next p k → (other : ℕ) × (p ≤ other) × (place_at new k ≡ Some other)
  last p k n = by_key k
      (λ is. (place, up_to p k n, put_here k is))
      (λ differ. elim (from p k n) [
        | inl o ↦ let l = noted.last p k o in (l.0, l.1, put_kept k differ ∙ l.2)
        | inr is ↦ absurd (differ is.1)
      ])

  -- a pair that is new has the key and the place
  both_from : (a b : ℕ) → OwnBoth Next a b → OwnBoth Own a b ⊎ (Own a key × (b ≡ place) × (a < place))
  both_from a b both = elim (from a both.0 both.2) [
    | inl o ↦ elim (from b both.0 both.3) [
      | inl p ↦ inl (both.0, both.1, o, p)
      | inr is ↦ inr (subst (Own a) (sym is.1) o, is.0, (let l = both.1 in let e = is.0 in omega (arith, l, e)))
    ]
    | inr is ↦ absurd (let l = both.1 in let e = is.0 in let u = up_to b both.0 both.3 in omega (arith, l, e, u))
  ]

  both_kept : (a b : ℕ) → OwnBoth Own a b → OwnBoth Next a b
  both_kept a b both = (both.0, both.1, kept a both.0 both.2, kept b both.0 both.3)

  -- where no pair is new, the first stays
  same_first : (p : Option (ℕ × ℕ)) → ((a b : ℕ) → OwnBoth Next a b → OwnBoth Own a b) → MatchOption p ((a b : ℕ) → OwnBoth Own a b → ⊥) (IsFirstOfOwners Own) → MatchOption p ((a b : ℕ) → OwnBoth Next a b → ⊥) (IsFirstOfOwners Next)
  same_first None back none = λ a b both. none a b (back a b both)
  same_first (Some f) back is = record { both = both_kept f.0 f.1 is.both; first = λ a b before both. is.first a b before (back a b both) }

  -- the last owner of the key
  module _ (owner : ℕ) (was : place_at old key ≡ Some owner) where
    up_to_owner : (a : ℕ) → Own a key → a ≤ owner
    up_to_owner a o = let l = noted.last a key o in let h : Some l.0 ≡ Some owner = sym l.2 ∙ was in let e : l.0 ≡ owner = cc in let u = l.1 in omega (arith, e, u)

    -- a new pair that isn't the owner's comes behind one that isn't new
    new_pair : {G : Type 0} (a : ℕ) → Own a key → (a ≡ owner → G) → (OwnBoth Own a owner → G) → G
    new_pair a o same other = elim (cases_eq a owner) [
      | inl e ↦ same e
      | inr d ↦ other (key, (let u = up_to_owner a o in omega (arith, u, d)), o, noted.owned owner key was)
    ]

    new_both : owner < place → OwnBoth Next owner place
    new_both l = (key, l, kept owner key (noted.owned owner key was), here)

    -- it is the first, where no pair with a lower first place was there
    is_first : owner < place → ((a b : ℕ) → OwnBoth Own a b → a < owner → ⊥) → ((b : ℕ) → OwnBoth Own owner b → ⊥) → IsFirstOfOwners Next (owner, place)
    is_first l lower level = record {
      both = new_both l;
      first = λ a b before both. elim (both_from a b both) [
        | inl o ↦ elim before [
          | inl less ↦ lower a b o less
          | inr is ↦ level b (subst (λ q. OwnBoth Own q b) is.0 o)
        ]
        | inr n ↦ elim before [
          | inl less ↦ new_pair a n.0 (λ e. omega (arith, less, e)) (λ o. lower a owner o less)
          | inr is ↦ (let e = n.1 in let m = is.1 in omega (arith, e, m))
        ]
      ];
    }

    first_two : owner < place → (p : Option (ℕ × ℕ)) → MatchOption p ((a b : ℕ) → OwnBoth Own a b → ⊥) (IsFirstOfOwners Own) → IsFirstOfOwners Next (first_of_two p owner place)
    first_two l None none = is_first l (λ a b o _. none a b o) (λ b o. none owner b o)
    first_two l (Some f) is =
        cond_both (ltb owner f.0) (owner, place) f (IsFirstOfOwners Next)
        (λ e.
        let less : owner < f.0 = ltb-true owner f.0 e in
        is_first l (λ a b o m. is.first a b (inl (omega (arith, less, m))) o) (λ b o. is.first owner b (inl less) o))
        (λ e.
        let more : f.0 ≤ owner = ltb-false owner f.0 e in
        let end : f.1 ≤ place = noted.up_to f.1 is.both.0 is.both.3 in
        record {
          both = both_kept f.0 f.1 is.both;
          first = λ a b before both. elim (both_from a b both) [
            | inl o ↦ is.first a b before o
            | inr n ↦ elim before [
              | inl less ↦ new_pair a n.0 (λ same. omega (arith, less, same, more)) (λ o. is.first a owner (inl less) o)
              | inr at ↦ (let e = n.1 in let m = at.1 in omega (arith, e, m, end))
            ]
          ];
        })

    -- the owner is the member at the place itself, and no pair is new
    own_again : place ≤ owner → (a b : ℕ) → OwnBoth Next a b → OwnBoth Own a b
    own_again l a b both = elim (both_from a b both) [
      | inl o ↦ o
      | inr n ↦
          let mine = noted.owned owner key was in
          let u = noted.up_to owner key mine in
          let e : owner ≡ place = omega (arith, l, u) in
          (key, both.1, n.0, subst (λ q. Own q key) (e ∙ sym n.1) mine)
    ]

    first_some : MatchOption (first_with pair (Some owner) place) ((a b : ℕ) → OwnBoth Next a b → ⊥) (IsFirstOfOwners Next)
    first_some = cond_both (ltb owner place) (Some (first_of_two pair owner place)) pair (λ r. MatchOption r ((a b : ℕ) → OwnBoth Next a b → ⊥) (IsFirstOfOwners Next))
        (λ e. first_two (ltb-true owner place e) pair noted.first)
        (λ e. same_first pair (own_again (ltb-false owner place e)) noted.first)

  first_by : (owner : Option ℕ) → place_at old key ≡ owner → MatchOption (first_with pair owner place) ((a b : ℕ) → OwnBoth Next a b → ⊥) (IsFirstOfOwners Next)
  first_by None was = same_first pair (λ a b both. elim (both_from a b both) [
    | inl o ↦ o
    | inr n ↦ absurd (let l = noted.last a key n.0 in let h : Some l.0 ≡ None = sym l.2 ∙ was in cc)
  ]) noted.first
  first_by (Some owner) was = first_some owner was

  pub noted_more : (owner : Option ℕ) → place_at old key ≡ owner → IsNoted Next place new (first_with pair owner place)
  noted_more owner was = record { up_to = up_to; owned = owned; last = last; first = first_by owner was }

-- ---- the owners of the files so far

-- the same owners, at the same place or a later one
noted_as : (Own Next : ℕ → List ℕ → Type 0) (place next : ℕ) (at : PathPlaces) (pair : Option (ℕ × ℕ)) → place ≤ next → ((p : ℕ) (k : List ℕ) → Own p k → Next p k) → ((p : ℕ) (k : List ℕ) → Next p k → Own p k) → IsNoted Own place at pair → IsNoted Next next at pair
noted_as Own Next place next at pair l into back noted = record {
  up_to = λ p k n. (let u = noted.up_to p k (back p k n) in omega (arith, l, u));
  owned = λ p k e. into p k (noted.owned p k e);
  last = λ p k n. noted.last p k (back p k n);
  first = by_pair pair noted.first;
}
  where
    both_back : (a b : ℕ) → OwnBoth Next a b → OwnBoth Own a b
    both_back a b both = (both.0, both.1, back a both.0 both.2, back b both.0 both.3)

    by_pair : (p : Option (ℕ × ℕ)) → MatchOption p ((a b : ℕ) → OwnBoth Own a b → ⊥) (IsFirstOfOwners Own) → MatchOption p ((a b : ℕ) → OwnBoth Next a b → ⊥) (IsFirstOfOwners Next)
    by_pair None none = λ a b both. none a b (both_back a b both)
    by_pair (Some f) is = record {
      both = (is.both.0, is.both.1, into f.0 is.both.0 is.both.2, into f.1 is.both.0 is.both.3);
      first = λ a b before both. is.first a b before (both_back a b both);
    }

pub noted_none : (members : List (List (List ℕ))) (at : PathPlaces) → ((k : List ℕ) → place_at at k ≡ None) → IsNoted (Owns members 0 0) 0 at None
noted_none members at empty = record {
  up_to = λ p k o. absurd (nobody p k o);
  owned = λ p k e. absurd (let h : Some p ≡ None = sym e ∙ empty k in cc);
  last = λ p k o. absurd (nobody p k o);
  first = λ a b both. nobody a both.0 both.2;
}
  where
    nobody : (p : ℕ) (k : List ℕ) → Owns members 0 0 p k → ⊥
    nobody p k o = elim o.2 [ inl l ↦ omega (arith, l) | inr e ↦ (let l = e.1 in omega (arith, l)) ]

-- one file more
pub noted_file : (members : List (List (List ℕ))) (place i : ℕ) (files : List (List ℕ)) (item file key : List ℕ) (old new : PathPlaces) (pair : Option (ℕ × ℕ)) (owner : Option ℕ) → files_at members place ≡ files → i < length files → item ≡ get_or files i item → file ≡ item → key ≡ key_of (path_components file) → IsNoted (Owns members place i) place old pair → ((k : List ℕ) → place_at new k ≡ update bytes_eq (place_at old) key (Some place) k) → place_at old key ≡ owner → IsNoted (Owns members place (i + 1)) place new (first_with pair owner place)
noted_file members place i files item file key old new pair owner files_is l is same key_is noted put was =
    noted_more (Owns members place i) (Owns members place (i + 1)) place key old new pair noted kept here from put owner was
  where
    within : i < length (files_at members place)
    within = let e = ap length files_is in omega (arith, l, e)

    mine : key_of (path_components (get_or (files_at members place) i [])) ≡ key
    mine = ap (λ f. key_of (path_components f)) (ap (λ fs. get_or fs i []) files_is ∙ item_is files i [] item file l is same) ∙ sym key_is

    before_more : (p k : ℕ) → ComesBefore (p, k) (place, i) → ComesBefore (p, k) (place, i + 1)
    before_more p k (inl m) = inl m
    before_more p k (inr e) = inr (e.0, (let m = e.1 in omega (arith, m)))

    kept : (p : ℕ) (k : List ℕ) → Owns members place i p k → Owns members place (i + 1) p k
    kept p k o = (o.0, o.1, before_more p o.0 o.2, o.3)

    here : Owns members place (i + 1) place key
    here = (i, within, inr (refl, omega arith), mine)

    from : (p : ℕ) (k : List ℕ) → Owns members place (i + 1) p k → Owns members place i p k ⊎ ((p ≡ place) × (key ≡ k))
    from p k o = elim o.2 [
      | inl m ↦ inl (o.0, o.1, inl m, o.3)
      | inr e ↦ elim (cases_eq o.0 i) [
        | inl at ↦ inr (e.0, (sym mine ∙ ap (λ q. key_of (path_components (get_or (files_at members q) i []))) (sym e.0) ∙ ap (λ j. key_of (path_components (get_or (files_at members p) j []))) (sym at) ∙ o.3))
        | inr d ↦ inl (o.0, o.1, inr (e.0, (let m = e.1 in omega (arith, m, d))), o.3)
      ]
    ]

-- one member more, where all its files are there
pub noted_member : (members : List (List (List ℕ))) (place i : ℕ) (at : PathPlaces) (pair : Option (ℕ × ℕ)) → length (files_at members place) ≤ i → IsNoted (Owns members place i) place at pair → IsNoted (Owns members (place + 1) 0) (place + 1) at pair
noted_member members place i at pair l noted = noted_as (Owns members place i) (Owns members (place + 1) 0) place (place + 1) at pair (omega arith) into back noted
  where
    before_next : (p k : ℕ) → ComesBefore (p, k) (place, i) → p < place + 1
    before_next p k (inl m) = omega (arith, m)
    before_next p k (inr e) = let s = e.0 in omega (arith, s)

    into : (p : ℕ) (k : List ℕ) → Owns members place i p k → Owns members (place + 1) 0 p k
    into p k o = (o.0, o.1, inl (before_next p o.0 o.2), o.3)

    back : (p : ℕ) (k : List ℕ) → Owns members (place + 1) 0 p k → Owns members place i p k
    back p k o = elim o.2 [
      | inl m ↦ elim (cases_eq p place) [
        | inl e ↦ (o.0, o.1, inr (e, (let w = o.1 in let s = ap (λ q. length (files_at members q)) e in omega (arith, w, s, l))), o.3)
        | inr d ↦ (o.0, o.1, inl (omega (arith, m, d)), o.3)
      ]
      | inr e ↦ absurd (let m = e.1 in omega (arith, m))
    ]

-- ---- owners of one key are a clash

module _ (members : List (List (List ℕ))) (count : ℕ) (all : count ≡ length members) where
  clash_of : (a b : ℕ) → OwnBoth (Owns members count 0) a b → Clash members a b
  clash_of a b both =
      let mine = both.2 in
      let other = both.3 in
      let file = get_or (files_at members a) mine.0 [] in
      let that = get_or (files_at members b) other.0 [] in
      record {
        ordered = both.1;
        within = elim other.2 [ inl m ↦ omega (arith, m, all) | inr e ↦ absurd (let m = e.1 in omega (arith, m)) ];
        shared = (file, ((mine.0, mine.1, same_element (files_at members a) mine.0 file [] mine.1), (that, ((other.0, other.1, same_element (files_at members b) other.0 that [] other.1), same_components that file (other.3 ∙ sym mine.3)))));
      }

  owner_of : (a : ℕ) (file key : List ℕ) → a < length members → Contains (files_at members a) file → key_of (path_components file) ≡ key → Owns members count 0 a key
  owner_of a file key l c is = (c.0, c.1, inl (omega (arith, l, all)), ap (λ f. key_of (path_components f)) (same_element (files_at members a) c.0 [] file c.1 ∙ c.2) ∙ is)

  both_of : (a b : ℕ) → Clash members a b → OwnBoth (Owns members count 0) a b
  both_of a b clash =
      let file = clash.shared.0 in
      let key = key_of (path_components file) in
      let that = clash.shared.1.1.0 in
      let o = clash.ordered in
      let w = clash.within in
      (key, o, owner_of a file key (omega (arith, o, w)) clash.shared.1.0 refl, owner_of b that key w clash.shared.1.1.1.0 (ap key_of clash.shared.1.1.1.1))

  pub first_clash : (at : PathPlaces) (pair : Option (ℕ × ℕ)) → IsNoted (Owns members count 0) count at pair → MatchOption pair (NoClash members) (IsFirstClash members)
  first_clash at pair noted = by_pair pair noted.first
    where
      by_pair : (p : Option (ℕ × ℕ)) → MatchOption p ((a b : ℕ) → OwnBoth (Owns members count 0) a b → ⊥) (IsFirstOfOwners (Owns members count 0)) → MatchOption p (NoClash members) (IsFirstClash members)
      by_pair None none = λ a b clash. none a b (both_of a b clash)
      by_pair (Some f) is = record {
        clash = clash_of f.0 f.1 is.both;
        first = λ a b before clash. is.first a b before (both_of a b clash);
      }
