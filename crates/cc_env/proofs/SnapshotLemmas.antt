-- Snapshots, by one pair more at the end: each name once, and the last value given of it.
use Rattle.std.proofs.Common.{◌≡◌, ℕ, suc, ◌+◌, ◌-◌, ◌<◌, List, [], ◌∷◌, ◌++◌, Bool, true, false, not, ◌||◌, cond, Option, Some, None, map, reverse, take, length, get_or, bytes_eq, refl, sym, ap, ap₂, subst, ◌∙◌, arith, append_assoc, append-nil}
use Rattle.std.specs.List.{filter, list_any, position}
use Rattle.std.specs.Option.{option_map, option_or}
use Rattle.std.proofs.lemmas.List.{reverse-append, map-append, get_or_append_left, get_or-append_right, length_push}
use Rattle.std.proofs.lemmas.List.Elements.{filter-append}
use Rattle.std.proofs.lemmas.List.Folds.{list_any_none}
use Rattle.std.proofs.lemmas.Grind.{take_at_read}
use Rattle.std.proofs.lemmas.Bool.{false_from_ne_true, or_parts}
use Rattle.std.proofs.lemmas.Slice.Eq.{bytes_eq-Decides}
use Rattle.cc_text.specs.Vars.{is_named, lookup}
use Rattle.cc_text.specs.Map.{with_pair, is_key, HasDistinctKeys}
use Rattle.cc_text.proofs.MapLemmas.{distinct_kept, distinct_added, with_pair_at, with_pair_added}
use Rattle.cc_env.specs.Snapshot.{last_value, first_pairs, with_last_value, snapshot_of, child_of}

abbrev pub Pair : Type 0
Pair = List ℕ × List ℕ

abbrev pub Distinct : List Pair → Type 0
Distinct vars = HasDistinctKeys bytes_eq vars

same : (a b : List ℕ) → bytes_eq a b ≡ true → a ≡ b
same a b h = (bytes_eq-Decides a b).0 h

itself : (a : List ℕ) → bytes_eq a a ≡ true
itself a = (bytes_eq-Decides a a).1 refl

swapped : (a b : List ℕ) (t : Bool) → bytes_eq a b ≡ t → bytes_eq b a ≡ t
swapped a b true h = (bytes_eq-Decides b a).1 (sym (same a b h))
swapped a b false h = false_from_ne_true _ (λ t. let e : bytes_eq a b ≡ true = (bytes_eq-Decides a b).1 (sym (same b a t)) in cc)

-- look-ups in a list

pub lookup-append : (xs ys : List Pair) (name : List ℕ) → lookup (xs ++ ys) name ≡ option_or (lookup xs name) (lookup ys name)
lookup-append [] ys name = refl
lookup-append (x ∷ xs) ys name = step (lookup-append xs ys name) (bytes_eq x.0 name) refl
  where
    step : lookup (xs ++ ys) name ≡ option_or (lookup xs name) (lookup ys name) → (b : Bool) → bytes_eq x.0 name ≡ b → lookup ((x ∷ xs) ++ ys) name ≡ option_or (lookup (x ∷ xs) name) (lookup ys name)
    step later true h = rw h refl
    step later false h = rw h later

lookup_nowhere : (xs : List Pair) (name : List ℕ) → list_any (is_named name) xs ≡ false → lookup xs name ≡ None
lookup_nowhere [] name h = refl
lookup_nowhere (x ∷ xs) name h =
    let both = or_parts (bytes_eq x.0 name) (list_any (is_named name) xs) h in
    let here : bytes_eq x.0 name ≡ false = both.0 in
    rw here (lookup_nowhere xs name both.1)

pub last-append : (xs ys : List Pair) (name : List ℕ) → last_value (xs ++ ys) name ≡ option_or (last_value ys name) (last_value xs name)
unfolding last_value
last-append xs ys name = ap (λ l. lookup l name) (reverse-append xs ys) ∙ lookup-append (reverse ys) (reverse xs) name

last_none : (name : List ℕ) → last_value [] name ≡ None
unfolding last_value
last_none name = refl

of_one : (b : Bool) (pair : Pair) → option_map (λ (p : Pair). p.1) (cond b (Some pair) None) ≡ cond b (Some pair.1) None
of_one true pair = refl
of_one false pair = refl

last_one : (pair : Pair) (name : List ℕ) → last_value (pair ∷ []) name ≡ cond (bytes_eq pair.0 name) (Some pair.1) None
unfolding last_value
last_one pair name = of_one (bytes_eq pair.0 name) pair

one_first : (b : Bool) (value : List ℕ) (o : Option (List ℕ)) → option_or (cond b (Some value) None) o ≡ cond b (Some value) o
one_first true value o = refl
one_first false value o = refl

last_more : (vars : List Pair) (pair : Pair) (name : List ℕ) → last_value (vars ++ pair ∷ []) name ≡ cond (bytes_eq pair.0 name) (Some pair.1) (last_value vars name)
last_more vars pair name =
    last-append vars (pair ∷ []) name
    ∙ ap (λ o. option_or o (last_value vars name)) (last_one pair name)
    ∙ one_first (bytes_eq pair.0 name) pair.1 (last_value vars name)

-- the first pairs, with one pair more

abbrev other : Pair → Pair → Bool
other pair later = not (is_named pair.0 later)

first_step : (x pair : Pair) (ys : List Pair) (b any : Bool) → bytes_eq x.0 pair.0 ≡ b → x ∷ filter (other x) (cond any ys (ys ++ pair ∷ [])) ≡ cond (b || any) (x ∷ filter (other x) ys) (x ∷ (filter (other x) ys ++ pair ∷ []))
first_step x pair ys true true h = refl
first_step x pair ys false true h = refl
first_step x pair ys true false h =
    ap (λ l. x ∷ l) (filter-append (other x) ys (pair ∷ []) ∙ ap (λ t. filter (other x) ys ++ cond (not t) (pair ∷ []) []) (swapped x.0 pair.0 true h) ∙ append-nil (filter (other x) ys))
first_step x pair ys false false h =
    ap (λ l. x ∷ l) (filter-append (other x) ys (pair ∷ []) ∙ ap (λ t. filter (other x) ys ++ cond (not t) (pair ∷ []) []) (swapped x.0 pair.0 false h))

first_more : (vars : List Pair) (pair : Pair) → first_pairs (vars ++ pair ∷ []) ≡ cond (list_any (is_named pair.0) vars) (first_pairs vars) (first_pairs vars ++ pair ∷ [])
unfolding first_pairs
first_more [] pair = refl
first_more (x ∷ vars) pair =
    ap (λ l. x ∷ filter (other x) l) (first_more vars pair)
    ∙ first_step x pair (first_pairs vars) (bytes_eq x.0 pair.0) (list_any (is_named pair.0) vars) refl

-- which names there are

any_other : (x : Pair) (name : List ℕ) (ys : List Pair) → bytes_eq x.0 name ≡ false → list_any (is_named name) (filter (other x) ys) ≡ list_any (is_named name) ys
any_other x name [] h = refl
any_other x name (y ∷ ys) h = step (any_other x name ys h) (bytes_eq y.0 x.0) refl
  where
    step : list_any (is_named name) (filter (other x) ys) ≡ list_any (is_named name) ys → (b : Bool) → bytes_eq y.0 x.0 ≡ b → list_any (is_named name) (filter (other x) (y ∷ ys)) ≡ list_any (is_named name) (y ∷ ys)
    step later true e =
        let n : bytes_eq y.0 name ≡ false = ap (λ t. bytes_eq t name) (same y.0 x.0 e) ∙ h in
        rw (e, n) later
    step later false e = rw e (ap (λ t. bytes_eq y.0 name || t) later)

any_first : (vars : List Pair) (name : List ℕ) → list_any (is_named name) (first_pairs vars) ≡ list_any (is_named name) vars
unfolding first_pairs
any_first [] name = refl
any_first (x ∷ vars) name = step (any_first vars name) (bytes_eq x.0 name) refl
  where
    step : list_any (is_named name) (first_pairs vars) ≡ list_any (is_named name) vars → (b : Bool) → bytes_eq x.0 name ≡ b → (bytes_eq x.0 name || list_any (is_named name) (filter (other x) (first_pairs vars))) ≡ (bytes_eq x.0 name || list_any (is_named name) vars)
    step later true e = rw e refl
    step later false e = rw e (any_other x name (first_pairs vars) e ∙ later)

any_kept : (f : Pair → Pair) (ys : List Pair) (name : List ℕ) → ((y : Pair) → (f y).0 ≡ y.0) → list_any (is_named name) (map f ys) ≡ list_any (is_named name) ys
any_kept f [] name h = refl
any_kept f (y ∷ ys) name h = ap₂ (λ a b. bytes_eq a name || b) (h y) (any_kept f ys name h)

any_snapshot : (vars : List Pair) (name : List ℕ) → list_any (is_named name) (snapshot_of vars) ≡ list_any (is_named name) vars
unfolding snapshot_of
any_snapshot vars name = any_kept (with_last_value vars) (first_pairs vars) name (λ y. refl) ∙ any_first vars name

-- a value given to each pair of a name

abbrev given : List ℕ → List ℕ → Pair → Pair
given name value pair = (pair.0, cond (bytes_eq pair.0 name) value pair.1)

given_nowhere : (ys : List Pair) (name value : List ℕ) → list_any (is_named name) ys ≡ false → map (given name value) ys ≡ ys
given_nowhere [] name value h = refl
given_nowhere (y ∷ ys) name value h =
    let both = or_parts (bytes_eq y.0 name) (list_any (is_named name) ys) h in
    let here : bytes_eq y.0 name ≡ false = both.0 in
    rw here (ap (λ l. y ∷ l) (given_nowhere ys name value both.1))

rest_distinct : (y : Pair) (ys : List Pair) → Distinct (y ∷ ys) → Distinct ys
rest_distinct y ys h = λ i j d l m. h (suc i) (suc j) d (omega arith) (omega arith)

no_other : (y : Pair) (ys : List Pair) (name : List ℕ) → Distinct (y ∷ ys) → bytes_eq y.0 name ≡ true → list_any (is_named name) ys ≡ false
no_other y ys name h e = list_any_none (is_named name) ys (λ k d l.
    swapped name (get_or ys k d).0 false (ap (λ t. bytes_eq t (get_or ys k d).0) (sym (same y.0 name e)) ∙ h 0 (suc k) d (omega arith) (omega arith)))

put_once : (ys : List Pair) (name value : List ℕ) → Distinct ys → with_pair bytes_eq ys name value ≡ cond (list_any (is_named name) ys) (map (given name value) ys) (ys ++ (name, value) ∷ [])
put_once [] name value h = refl
put_once (y ∷ ys) name value h = step (put_once ys name value (rest_distinct y ys h)) (bytes_eq y.0 name) refl
  where
    later : (any : Bool) → with_pair bytes_eq ys name value ≡ cond any (map (given name value) ys) (ys ++ (name, value) ∷ []) → y ∷ with_pair bytes_eq ys name value ≡ cond any (y ∷ map (given name value) ys) (y ∷ (ys ++ (name, value) ∷ []))
    later true is = ap (λ l. y ∷ l) is
    later false is = ap (λ l. y ∷ l) is

    step : with_pair bytes_eq ys name value ≡ cond (list_any (is_named name) ys) (map (given name value) ys) (ys ++ (name, value) ∷ []) → (b : Bool) → bytes_eq y.0 name ≡ b → with_pair bytes_eq (y ∷ ys) name value ≡ cond (list_any (is_named name) (y ∷ ys)) (map (given name value) (y ∷ ys)) ((y ∷ ys) ++ (name, value) ∷ [])
    step is true e = let once : ys ≡ map (given name value) ys = sym (given_nowhere ys name value (no_other y ys name h e)) in rw e (ap (λ l. (y.0, value) ∷ l) once)
    step is false e = rw e (later (list_any (is_named name) ys) is)

pub distinct_put : (xs : List Pair) (name value : List ℕ) → Distinct xs → Distinct (with_pair bytes_eq xs name value)
distinct_put xs name value h = step (position (is_key bytes_eq name) xs) refl
  where
    step : (r : Option ℕ) → r ≡ position (is_key bytes_eq name) xs → Distinct (with_pair bytes_eq xs name value)
    step None e = subst Distinct (with_pair_added bytes_eq xs name value e) (distinct_added bytes_eq xs name value e h)
    step (Some place) e = subst Distinct (with_pair_at bytes_eq xs name value place e) (distinct_kept bytes_eq xs place value h)

-- a snapshot, with one pair more

last_given : (vars : List Pair) (pair y : Pair) → with_last_value (vars ++ pair ∷ []) y ≡ given pair.0 pair.1 (with_last_value vars y)
last_given vars pair y = step (bytes_eq y.0 pair.0) refl
  where
    step : (b : Bool) → bytes_eq y.0 pair.0 ≡ b → with_last_value (vars ++ pair ∷ []) y ≡ given pair.0 pair.1 (with_last_value vars y)
    step true e = rw (last_more, e, swapped y.0 pair.0 true e) refl
    step false e = rw (last_more, e, swapped y.0 pair.0 false e) refl

all_given : (vars : List Pair) (pair : Pair) (ys : List Pair) → map (with_last_value (vars ++ pair ∷ [])) ys ≡ map (given pair.0 pair.1) (map (with_last_value vars) ys)
all_given vars pair [] = refl
all_given vars pair (y ∷ ys) = ap₂ (λ a b. a ∷ b) (last_given vars pair y) (all_given vars pair ys)

new_pair : (vars : List Pair) (pair : Pair) → with_last_value (vars ++ pair ∷ []) pair ≡ (pair.0, pair.1)
new_pair vars pair = rw (last_more, itself pair.0) refl

more_of : (vars : List Pair) (pair : Pair) (any : Bool) → list_any (is_named pair.0) vars ≡ any → map (with_last_value (vars ++ pair ∷ [])) (cond any (first_pairs vars) (first_pairs vars ++ pair ∷ [])) ≡ cond any (map (given pair.0 pair.1) (snapshot_of vars)) (snapshot_of vars ++ (pair.0, pair.1) ∷ [])
unfolding snapshot_of
more_of vars pair true h = all_given vars pair (first_pairs vars)
more_of vars pair false h =
    map-append (with_last_value (vars ++ pair ∷ [])) (first_pairs vars) (pair ∷ [])
    ∙ ap₂ (λ a b. a ++ b ∷ []) (all_given vars pair (first_pairs vars) ∙ given_nowhere (map (with_last_value vars) (first_pairs vars)) pair.0 pair.1 (any_snapshot vars pair.0 ∙ h)) (new_pair vars pair)

more_whole : (vars : List Pair) (pair : Pair) → snapshot_of (vars ++ pair ∷ []) ≡ cond (list_any (is_named pair.0) vars) (map (given pair.0 pair.1) (snapshot_of vars)) (snapshot_of vars ++ (pair.0, pair.1) ∷ [])
unfolding snapshot_of
more_whole vars pair = ap (map (with_last_value (vars ++ pair ∷ []))) (first_more vars pair) ∙ more_of vars pair (list_any (is_named pair.0) vars) refl

more_distinct : (vars : List Pair) (pair : Pair) → Distinct (snapshot_of vars) → snapshot_of (vars ++ pair ∷ []) ≡ with_pair bytes_eq (snapshot_of vars) pair.0 pair.1
more_distinct vars pair h = more_whole vars pair ∙ sym (put_once (snapshot_of vars) pair.0 pair.1 h ∙ ap (λ any. cond any (map (given pair.0 pair.1) (snapshot_of vars)) (snapshot_of vars ++ (pair.0, pair.1) ∷ [])) (any_snapshot vars pair.0))

-- what a look-up finds after a value is put

lookup_put : (xs : List Pair) (key value name : List ℕ) → lookup (with_pair bytes_eq xs key value) name ≡ cond (bytes_eq key name) (Some value) (lookup xs name)
lookup_put [] key value name = step (bytes_eq key name) refl
  where
    step : (b : Bool) → bytes_eq key name ≡ b → lookup ((key, value) ∷ []) name ≡ cond b (Some value) None
    step true e = rw e refl
    step false e = rw e refl
lookup_put (x ∷ xs) key value name = step (lookup_put xs key value name) (bytes_eq x.0 key) refl
  where
    here : (b : Bool) → bytes_eq key name ≡ b → bytes_eq x.0 name ≡ b → lookup ((x.0, value) ∷ xs) name ≡ cond b (Some value) (lookup (x ∷ xs) name)
    here true e f = rw f refl
    here false e f = rw f refl

    there : lookup (with_pair bytes_eq xs key value) name ≡ cond (bytes_eq key name) (Some value) (lookup xs name) → (b : Bool) → bytes_eq x.0 name ≡ b → bytes_eq x.0 key ≡ false → lookup (x ∷ with_pair bytes_eq xs key value) name ≡ cond (bytes_eq key name) (Some value) (lookup (x ∷ xs) name)
    there later true f e =
        let differs : bytes_eq key name ≡ false = false_from_ne_true _ (λ t. let k : bytes_eq x.0 key ≡ true = ap (bytes_eq x.0) (same key name t) ∙ f in cc) in
        rw (f, differs) refl
    there later false f e = rw f later

    step : lookup (with_pair bytes_eq xs key value) name ≡ cond (bytes_eq key name) (Some value) (lookup xs name) → (b : Bool) → bytes_eq x.0 key ≡ b → lookup (with_pair bytes_eq (x ∷ xs) key value) name ≡ cond (bytes_eq key name) (Some value) (lookup (x ∷ xs) name)
    step later true e = rw e (here (bytes_eq key name) refl (ap (λ t. bytes_eq t name) (same x.0 key e)))
    step later false e = rw e (there later (bytes_eq x.0 name) refl e)

or_none : (o : Option (List ℕ)) → option_or o None ≡ o
or_none None = refl
or_none (Some x) = refl

-- where names are distinct, the last value is the first
pub last_distinct : (xs : List Pair) (name : List ℕ) → Distinct xs → last_value xs name ≡ lookup xs name
last_distinct [] name h = last_none name
last_distinct (x ∷ xs) name h =
    last-append (x ∷ []) xs name
    ∙ ap₂ option_or (last_distinct xs name (rest_distinct x xs h)) (last_one x name)
    ∙ step (bytes_eq x.0 name) refl
  where
    step : (b : Bool) → bytes_eq x.0 name ≡ b → option_or (lookup xs name) (cond (bytes_eq x.0 name) (Some x.1) None) ≡ lookup (x ∷ xs) name
    step true e = rw (lookup_nowhere xs name (no_other x xs name h e), e) refl
    step false e = rw e (or_none (lookup xs name))

-- what holds of the first pairs, and of one pair more, holds of all

along : (Q : List Pair → Type 0) → ((xs : List Pair) (pair : Pair) → Q xs → Q (xs ++ pair ∷ [])) → (xs ys : List Pair) → Q xs → Q (xs ++ ys)
along Q step xs [] q = subst Q (sym (append-nil xs)) q
along Q step xs (y ∷ ys) q = subst Q (append_assoc xs (y ∷ []) ys) (along Q step (xs ++ y ∷ []) ys (step xs y q))

record IsGood (vars : List Pair) : Type 0 where
  distinct : Distinct (snapshot_of vars)
  last : (name : List ℕ) → last_value (snapshot_of vars) name ≡ last_value vars name

good_more : (vars : List Pair) (pair : Pair) → IsGood vars → IsGood (vars ++ pair ∷ [])
good_more vars pair h =
    let is = more_distinct vars pair h.distinct in
    let distinct = distinct_put (snapshot_of vars) pair.0 pair.1 h.distinct in
    record {
      distinct = subst Distinct (sym is) distinct;
      last = λ name.
          ap (λ l. last_value l name) is
          ∙ last_distinct (with_pair bytes_eq (snapshot_of vars) pair.0 pair.1) name distinct
          ∙ lookup_put (snapshot_of vars) pair.0 pair.1 name
          ∙ ap (cond (bytes_eq pair.0 name) (Some pair.1)) (sym (last_distinct (snapshot_of vars) name h.distinct) ∙ h.last name)
          ∙ sym (last_more vars pair name);
    }

snapshot_none : snapshot_of [] ≡ []
unfolding snapshot_of first_pairs
snapshot_none = refl

good_none : IsGood []
good_none = record { distinct = distinct; last = last }
  where
    distinct : Distinct (snapshot_of [])
    distinct = λ i j d l m. let n : j < 0 = subst (λ xs. j < length xs) snapshot_none m in absurd (omega arith)

    last : (name : List ℕ) → last_value (snapshot_of []) name ≡ last_value [] name
    last name = ap (λ xs. last_value xs name) snapshot_none

good : (vars : List Pair) → IsGood vars
good vars = along IsGood good_more [] vars good_none

-- no name is twice in a snapshot
pub snapshot_distinct : (vars : List Pair) → HasDistinctKeys bytes_eq (snapshot_of vars)
snapshot_distinct vars = (good vars).distinct

-- a snapshot has the last value given of each name
pub snapshot_last : (vars : List Pair) (name : List ℕ) → last_value (snapshot_of vars) name ≡ last_value vars name
snapshot_last vars name = (good vars).last name

pub snapshot_more : (vars : List Pair) (pair : Pair) → snapshot_of (vars ++ pair ∷ []) ≡ with_pair bytes_eq (snapshot_of vars) pair.0 pair.1
snapshot_more vars pair = more_distinct vars pair (snapshot_distinct vars)

-- a list without a name twice is its own snapshot

front_distinct : (xs : List Pair) (pair : Pair) → Distinct (xs ++ pair ∷ []) → Distinct xs
front_distinct xs pair h = λ i j d l m.
    let both = h i j d l (omega (arith, length_push xs pair)) in
    rw (get_or_append_left xs (pair ∷ []) d i (omega arith), get_or_append_left xs (pair ∷ []) d j m) at both

last_is_new : (xs : List Pair) (pair : Pair) → Distinct (xs ++ pair ∷ []) → list_any (is_named pair.0) xs ≡ false
last_is_new xs pair h = list_any_none (is_named pair.0) xs (λ k d l.
    let both = h k (length xs) d l (omega (arith, length_push xs pair)) in
    let none : length xs - length xs ≡ 0 = omega arith in
    rw (get_or_append_left xs (pair ∷ []) d k l, get_or-append_right xs (pair ∷ []) (length xs) (length xs) d refl (omega arith), none) at both)

abbrev IsOwn : List Pair → Type 0
IsOwn xs = Distinct xs → snapshot_of xs ≡ xs

own_more : (xs : List Pair) (pair : Pair) → IsOwn xs → IsOwn (xs ++ pair ∷ [])
own_more xs pair own h =
    let front = front_distinct xs pair h in
    snapshot_more xs pair
    ∙ ap (λ l. with_pair bytes_eq l pair.0 pair.1) (own front)
    ∙ put_once xs pair.0 pair.1 front
    ∙ ap (λ any. cond any (map (given pair.0 pair.1) xs) (xs ++ (pair.0, pair.1) ∷ [])) (last_is_new xs pair h)

pub snapshot_own : (xs : List Pair) → HasDistinctKeys bytes_eq xs → snapshot_of xs ≡ xs
snapshot_own xs = along IsOwn own_more [] xs (λ h. snapshot_none)

-- a child

pub child_none : (vars : List Pair) → HasDistinctKeys bytes_eq vars → child_of vars [] ≡ vars
unfolding child_of
child_none vars h = ap snapshot_of (append-nil vars) ∙ snapshot_own vars h

pub child_empty : (vars : List Pair) → child_of [] vars ≡ snapshot_of vars
unfolding child_of
child_empty vars = refl

pub child_more : (vars entries : List Pair) (pair : Pair) → child_of vars (entries ++ pair ∷ []) ≡ with_pair bytes_eq (child_of vars entries) pair.0 pair.1
unfolding child_of
child_more vars entries pair = ap snapshot_of (sym (append_assoc vars entries (pair ∷ []))) ∙ snapshot_more (vars ++ entries) pair

pub child_last : (vars entries : List Pair) (name : List ℕ) → last_value (child_of vars entries) name ≡ last_value (vars ++ entries) name
unfolding child_of
child_last vars entries name = snapshot_last (vars ++ entries) name

-- a name that no entry sets has in the child the value that is inherited
pub child_inherits : (vars entries : List Pair) (name : List ℕ) → last_value entries name ≡ None → last_value (child_of vars entries) name ≡ last_value vars name
child_inherits vars entries name h =
    child_last vars entries name ∙ last-append vars entries name ∙ ap (λ o. option_or o (last_value vars name)) h

-- the child after one entry more of a list
pub child_step : (vars entries now after : List Pair) (place : ℕ) (pair : Pair) (name value : List ℕ) → place < length entries → pair ≡ get_or entries place pair → name ≡ pair.0 → value ≡ pair.1 → now ≡ child_of vars (take place entries) → after ≡ with_pair bytes_eq now name value → after ≡ child_of vars (take (place + 1) entries)
child_step vars entries now after place pair name value l is n v so_far e =
    e
    ∙ ap₂ (λ a b. with_pair bytes_eq now a b) n v
    ∙ ap (λ xs. with_pair bytes_eq xs pair.0 pair.1) so_far
    ∙ sym (child_more vars (take place entries) pair)
    ∙ ap (λ p. child_of vars (take place entries ++ p ∷ [])) is
    ∙ ap (child_of vars) (sym (take_at_read entries place pair l).1)
