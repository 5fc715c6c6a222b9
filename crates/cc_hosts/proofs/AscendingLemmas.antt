-- Variables whose names ascend, set from the last one on.
use Rattle.std.proofs.Common.{◌≡◌, ◌≢◌, ℕ, zero, suc, ◌+◌, ◌<◌, Bool, true, false, List, [], ◌∷◌, ◌++◌, length, take, drop, get_or, Option, Some, None, Ordering, Less, Equal, Greater, option_map, bytes_eq, reverse, refl, sym, ◌∙◌, ap, subst, add-one, arith}
use Rattle.std.specs.Ordering.{nat_cmp, is_lt, is_eq}
use Rattle.std.specs.Option.{option_or}
use Rattle.std.specs.List.{find}
use Rattle.std.specs.Cmp.Lexicographic.{slice_cmp}
use Rattle.std.proofs.Math.Seq.{drop-cons, take-add}
use Rattle.std.proofs.lemmas.Bool.{and_parts}
use Rattle.std.proofs.lemmas.Bool.Decides.{not_from_Decides}
use Rattle.std.proofs.lemmas.Cmp.{nat_list_cmp_total}
use Rattle.std.proofs.lemmas.List.{reverse-append}
use Rattle.std.proofs.lemmas.List.Folds.{find-append}
use Rattle.std.proofs.lemmas.Map.Text.{is_eq-slice_cmp}
use Rattle.std.proofs.lemmas.Slice.Eq.{bytes_eq-Decides}
use Rattle.cc_text.specs.Vars.{is_named, lookup, names_ascend}
use Rattle.cc_hosts.specs.Child.{child_value, value_over}
use Rattle.cc_hosts.proofs.CommandLemmas.{value_more}

abbrev cmp : List ℕ → List ℕ → Ordering
cmp a b = slice_cmp nat_cmp a b

less_is : (r : Ordering) → is_lt r ≡ true → r ≡ Less
less_is Less h = refl
less_is Equal h = cc
less_is Greater h = cc

-- a text that is below another differs from it
apart : (a b : List ℕ) → cmp a b ≡ Less → bytes_eq b a ≡ false
apart a b less =
    elim (bytes_eq b a) as (λ x. (x ≡ true → b ≡ a) → x ≡ false) [
      | true ↦ λ f.
          let same : is_eq (cmp a a) ≡ true = is_eq-slice_cmp a a ∙ (bytes_eq-Decides a a).1 refl in
          let below : cmp a a ≡ Less = ap (λ t. cmp a t) (sym (f refl)) ∙ less in
          absurd (let no : is_eq Less ≡ true = ap is_eq (sym below) ∙ same in cc)
      | false ↦ λ f. refl
    ] (bytes_eq-Decides b a).0

mapped : (a b : Option (List ℕ × List ℕ)) → option_map Some (option_map (λ p. p.1) (option_or a b)) ≡ option_or (option_map Some (option_map (λ p. p.1) a)) (option_map Some (option_map (λ p. p.1) b))
mapped None b = refl
mapped (Some x) b = refl

-- the values of pairs behind others are set over theirs
pub over_others : (run base : List (List ℕ × List ℕ)) (name : List ℕ) → value_over run (child_value base) name ≡ child_value (base ++ run) name
over_others run base name =
    sym (ap (λ l. option_map Some (lookup l name)) (reverse-append base run)
    ∙ ap (λ f. option_map Some (option_map (λ p. p.1) f)) (find-append (is_named name) (reverse run) (reverse base))
    ∙ mapped (find (is_named name) (reverse run)) (find (is_named name) (reverse base)))

one : (pair : List ℕ × List ℕ) (name : List ℕ) → bytes_eq pair.0 name ≡ false → child_value (pair ∷ []) name ≡ None
one pair name differ = value_more [] pair name ∙ rw differ refl

this : (pair : List ℕ × List ℕ) (name : List ℕ) → bytes_eq pair.0 name ≡ true → child_value (pair ∷ []) name ≡ Some (Some pair.1)
this pair name same = value_more [] pair name ∙ rw same refl

rest_ascends : (pair : List ℕ × List ℕ) (pairs : List (List ℕ × List ℕ)) → names_ascend (pair ∷ pairs) ≡ true → names_ascend pairs ≡ true
rest_ascends pair [] h = refl
rest_ascends pair (next ∷ pairs) h = (and_parts (is_lt (cmp pair.0 next.0)) (names_ascend (next ∷ pairs)) h).1

skipped : (pair next : List ℕ × List ℕ) (pairs : List (List ℕ × List ℕ)) → names_ascend (pair ∷ next ∷ pairs) ≡ true → names_ascend (pair ∷ pairs) ≡ true
skipped pair next [] h = refl
skipped pair next (third ∷ pairs) h =
    let first = and_parts (is_lt (cmp pair.0 next.0)) (names_ascend (next ∷ third ∷ pairs)) h in
    let second = and_parts (is_lt (cmp next.0 third.0)) (names_ascend (third ∷ pairs)) first.1 in
    let less : cmp pair.0 third.0 ≡ Less = nat_list_cmp_total.trans pair.0 next.0 third.0 (less_is _ first.0) (less_is _ second.0) in
    rw (less, second.1) refl

-- the first of ascending names is none of the others
unnamed : (pair : List ℕ × List ℕ) (pairs : List (List ℕ × List ℕ)) → names_ascend (pair ∷ pairs) ≡ true → child_value pairs pair.0 ≡ None
unnamed pair [] h = refl
unnamed pair (next ∷ pairs) h =
    let parts = and_parts (is_lt (cmp pair.0 next.0)) (names_ascend (next ∷ pairs)) h in
    sym (over_others pairs (next ∷ []) pair.0)
    ∙ ap (λ o. option_or o (child_value (next ∷ []) pair.0)) (unnamed pair pairs (skipped pair next pairs h))
    ∙ one next pair.0 (apart pair.0 next.0 (less_is _ parts.0))

or_none : {X : Type 0} (a : Option X) → option_or a None ≡ a
or_none None = refl
or_none (Some x) = refl

-- a pair that is set after those behind it, whose names are above its own
put_first : (pair : List ℕ × List ℕ) (pairs : List (List ℕ × List ℕ)) (init old new : List ℕ → Option (Option (List ℕ))) → names_ascend (pair ∷ pairs) ≡ true → ((name : List ℕ) → old name ≡ value_over pairs init name) → new pair.0 ≡ Some (Some pair.1) → ((k : List ℕ) → k ≢ pair.0 → new k ≡ old k) → (name : List ℕ) → new name ≡ value_over (pair ∷ pairs) init name
put_first pair pairs init old new h before set others name =
    by_test (bytes_eq pair.0 name) refl
    ∙ ap (λ o. option_or o (init name)) (over_others pairs (pair ∷ []) name)
  where
    by_test : (b : Bool) → bytes_eq pair.0 name ≡ b → new name ≡ option_or (option_or (child_value pairs name) (child_value (pair ∷ []) name)) (init name)
    by_test true e =
        let is : pair.0 ≡ name = (bytes_eq-Decides pair.0 name).0 e in
        let none : child_value pairs name ≡ None = ap (child_value pairs) (sym is) ∙ unnamed pair pairs h in
        ap new (sym is) ∙ set ∙ sym (ap (λ o. option_or (option_or o (child_value (pair ∷ []) name)) (init name)) none ∙ ap (λ o. option_or o (init name)) (this pair name e))
    by_test false e =
        let differ : name ≢ pair.0 = λ same. not_from_Decides (bytes_eq pair.0 name) (bytes_eq-Decides pair.0 name) e (sym same) in
        others name differ ∙ before name
        ∙ sym (ap (λ o. option_or (option_or (child_value pairs name) o) (init name)) (one pair name e) ∙ ap (λ o. option_or o (init name)) (or_none (child_value pairs name)))

drop_ascends : (vars : List (List ℕ × List ℕ)) (i : ℕ) → names_ascend vars ≡ true → names_ascend (drop i vars) ≡ true
drop_ascends [] zero h = refl
drop_ascends [] (suc i) h = refl
drop_ascends (pair ∷ vars) zero h = h
drop_ascends (pair ∷ vars) (suc i) h = drop_ascends vars i (rest_ascends pair vars h)

-- the pair at a place is set after those behind it
pub put_before : (vars : List (List ℕ × List ℕ)) (left : ℕ) (pair : List ℕ × List ℕ) (init old new : List ℕ → Option (Option (List ℕ))) → left < length vars → pair ≡ get_or vars left pair → names_ascend vars ≡ true → ((name : List ℕ) → old name ≡ value_over (drop (left + 1) vars) init name) → new pair.0 ≡ Some (Some pair.1) → ((k : List ℕ) → k ≢ pair.0 → new k ≡ old k) → (name : List ℕ) → new name ≡ value_over (drop left vars) init name
put_before vars left pair init old new within is h before set others name =
    let d : drop left vars ≡ pair ∷ drop (left + 1) vars = drop-cons vars left pair within ∙ ap (λ p. p ∷ drop (suc left) vars) (sym is) ∙ ap (λ n. pair ∷ drop n vars) (sym (add-one left)) in
    put_first pair (drop (left + 1) vars) init old new (subst (λ l. names_ascend l ≡ true) d (drop_ascends vars left h)) before set others name
    ∙ ap (λ l. value_over l init name) (sym d)

more : (vars : List (List ℕ × List ℕ)) (n : ℕ) (d e : List ℕ × List ℕ) → suc n < length vars → names_ascend (take (suc n) vars) ≡ true → is_lt (cmp (get_or vars n d).0 (get_or vars (suc n) e).0) ≡ true → names_ascend (take (suc (suc n)) vars) ≡ true
more [] n d e within h less = absurd (omega arith)
more (p ∷ []) n d e within h less = absurd (omega arith)
more (p ∷ q ∷ vars) zero d e within h less = rw less refl
more (p ∷ q ∷ vars) (suc n) d e within h less =
    let parts = and_parts (is_lt (cmp p.0 q.0)) (names_ascend (q ∷ take n vars)) h in
    let tail : names_ascend (q ∷ take (suc n) vars) ≡ true = more (q ∷ vars) n d e (omega arith) parts.1 less in
    rw (parts.0, tail) refl

pub one_ascends : (vars : List (List ℕ × List ℕ)) → names_ascend (take 1 vars) ≡ true
one_ascends [] = refl
one_ascends (pair ∷ vars) = refl

-- one name more that ascends
pub ascends_more : (vars : List (List ℕ × List ℕ)) (last : ℕ) (a b : List ℕ × List ℕ) → last + 1 < length vars → a ≡ get_or vars last a → b ≡ get_or vars (last + 1) b → names_ascend (take (last + 1) vars) ≡ true → is_lt (cmp a.0 b.0) ≡ true → names_ascend (take (last + 1 + 1) vars) ≡ true
ascends_more vars last a b within first second h less =
    let n : last + 1 ≡ suc last = add-one last in
    let m : last + 1 + 1 ≡ suc (suc last) = add-one (last + 1) ∙ ap suc n in
    let next : b ≡ get_or vars (suc last) b = second ∙ ap (λ k. get_or vars k b) n in
    let below : is_lt (cmp (get_or vars last a).0 (get_or vars (suc last) b).0) ≡ true = ap (λ p. is_lt (cmp p.0 (get_or vars (suc last) b).0)) (sym first) ∙ ap (λ p. is_lt (cmp a.0 p.0)) (sym next) ∙ less in
    ap (λ k. names_ascend (take k vars)) m ∙ more vars last a b (subst (λ k. k < length vars) n within) (ap (λ k. names_ascend (take k vars)) (sym n) ∙ h) below

-- what is set behind the pairs up to a place
pub run_put : (vars : List (List ℕ × List ℕ)) (start count : ℕ) (old new : List ℕ → Option (Option (List ℕ))) → ((name : List ℕ) → old name ≡ child_value (take start vars) name) → ((name : List ℕ) → new name ≡ value_over (take count (drop start vars)) old name) → (name : List ℕ) → new name ≡ child_value (take (start + count) vars) name
run_put vars start count old new before now name =
    now name
    ∙ ap (λ o. option_or (child_value (take count (drop start vars)) name) o) (before name)
    ∙ over_others (take count (drop start vars)) (take start vars) name
    ∙ ap (λ l. child_value l name) (sym (take-add start count vars))
