-- The place of each name, after a value is put.
use Rattle.std.proofs.Common.{◌≡◌, ℕ, zero, suc, ◌+◌, ◌≤◌, List, [], ◌∷◌, ◌++◌, Bool, true, false, not, cond, Option, Some, None, nat_eq, nat_lt, length, bytes_eq, refl, sym, ap, ◌∙◌, arith}
use Rattle.std.specs.List.{position_or_len, slice_get}
use Rattle.std.specs.Option.{option_or, option_map}
use Rattle.std.proofs.lemmas.Bool.Decides.{nat_tests}
use Rattle.std.proofs.lemmas.List.{length_push}
use Rattle.std.proofs.lemmas.List.Folds.{position_or_len_push}
use Rattle.std.proofs.lemmas.List.Sums.{prefix_len-le-length}
use Rattle.std.proofs.lemmas.Slice.Eq.{bytes_eq-Decides}
use Rattle.cc_text.specs.Vars.{is_named, place_of}
use Rattle.cc_text.specs.Map.{with_value_at, HasDistinctKeys}
use Rattle.cc_text.proofs.MapLemmas.{value_at, no_value, with_pair_at, with_pair_added}
use Rattle.cc_env.specs.Index.{IsIndexed}
use Rattle.cc_env.specs.Snapshot.{last_value}
use Rattle.cc_env.proofs.SnapshotLemmas.{Pair, distinct_put, last_distinct}

length_kept : (xs : List Pair) (place : ℕ) (value : List ℕ) → length (with_value_at xs place value) ≡ length xs
length_kept [] place value = refl
length_kept (x ∷ xs) zero value = refl
length_kept (x ∷ xs) (suc place) value = ap (λ n. suc n) (length_kept xs place value)

first_kept : (xs : List Pair) (place : ℕ) (value name : List ℕ) → position_or_len (is_named name) (with_value_at xs place value) ≡ position_or_len (is_named name) xs
first_kept [] place value name = refl
first_kept (x ∷ xs) zero value name = refl
first_kept (x ∷ xs) (suc place) value name = ap (λ n. cond (not (bytes_eq x.0 name)) (1 + n) 0) (first_kept xs place value name)

place_kept : (xs : List Pair) (place : ℕ) (value name : List ℕ) → place_of (with_value_at xs place value) name ≡ place_of xs name
place_kept xs place value name = rw (first_kept xs place value name, length_kept xs place value) refl

numbers : (m n : ℕ) (b : Bool) → m ≤ n → cond (nat_lt (cond (nat_eq m n) (n + cond b 0 1) m) (n + 1)) (Some (cond (nat_eq m n) (n + cond b 0 1) m)) None ≡ option_or (cond (nat_lt m n) (Some m) None) (cond b (Some n) None)
numbers m n true h = grind (arith, nat_tests)
numbers m n false h = grind (arith, nat_tests)

place_added : (xs : List Pair) (name value other : List ℕ) → place_of (xs ++ (name, value) ∷ []) other ≡ option_or (place_of xs other) (cond (bytes_eq name other) (Some (length xs)) None)
place_added xs name value other =
    rw (position_or_len_push (is_named other) xs (name, value), length_push xs (name, value))
    (numbers (position_or_len (is_named other) xs) (length xs) (bytes_eq name other) (prefix_len-le-length (λ x. not (is_named other x)) xs))

or_none : (o : Option ℕ) → o ≡ option_or o None
or_none None = refl
or_none (Some x) = refl

noted : (base more : Option ℕ) (t : Bool) (place : ℕ) → (t ≡ true → option_or base more ≡ None) → option_or base (cond t (Some place) more) ≡ option_or (option_or base more) (cond t (Some place) None)
noted (Some x) more true place h = let e : Some x ≡ None = h refl in cc
noted (Some x) more false place h = refl
noted None more true place h = let e : more ≡ None = h refl in rw e refl
noted None more false place h = or_none more

module _ (base more : List ℕ → Option ℕ) (vars : List Pair) where
  -- a value put at the place of its name
  pub indexed_set : (place : ℕ) (name value : List ℕ) → IsIndexed vars (λ text. option_or (base text) (more text)) → Some place ≡ option_or (base name) (more name) → IsIndexed (with_value_at vars place value) (λ text. option_or (base text) (more text))
  indexed_set place name value h e = record {
    distinct = rw (with_pair_at bytes_eq vars name value place (e ∙ h.places_is name)) (distinct_put vars name value h.distinct);
    places_is = λ text. h.places_is text ∙ sym (place_kept vars place value text);
  }

  -- a pair that is added last, with its place noted
  pub indexed_added : (after : List ℕ → Option ℕ) (name value : List ℕ) → IsIndexed vars (λ text. option_or (base text) (more text)) → None ≡ option_or (base name) (more name) → ((text : List ℕ) → after text ≡ cond (bytes_eq name text) (Some (length vars)) (more text)) → IsIndexed (vars ++ (name, value) ∷ []) (λ text. option_or (base text) (after text))
  indexed_added after name value h e is = record {
    distinct = rw (with_pair_added bytes_eq vars name value (e ∙ h.places_is name)) (distinct_put vars name value h.distinct);
    places_is = λ text.
        ap (option_or (base text)) (is text)
        ∙ noted (base text) (more text) (bytes_eq name text) (length vars) (λ t. ap (λ k. option_or (base k) (more k)) (sym ((bytes_eq-Decides name text).0 t)) ∙ sym e)
        ∙ ap (λ o. option_or o (cond (bytes_eq name text) (Some (length vars)) None)) (h.places_is text)
        ∙ sym (place_added vars name value text);
  }

-- the value at the place of a name is the last one given of it
pub value_found : (vars : List Pair) (name : List ℕ) (place : ℕ) → HasDistinctKeys bytes_eq vars → Some place ≡ place_of vars name → option_map (λ (pair : Pair). pair.1) (slice_get vars place) ≡ last_value vars name
value_found vars name place h e = value_at bytes_eq vars name place e ∙ sym (last_distinct vars name h)

pub value_missing : (vars : List Pair) (name : List ℕ) → HasDistinctKeys bytes_eq vars → None ≡ place_of vars name → None ≡ last_value vars name
value_missing vars name h e = no_value bytes_eq vars name e ∙ sym (last_distinct vars name h)
