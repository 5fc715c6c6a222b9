-- The values of names in turn, from the first on and from the last on.
use Rattle.std.proofs.Common.{◌≡◌, ℕ, ◌+◌, ◌<◌, List, [], ◌∷◌, ◌++◌, Bool, true, cond, Some, None, flat_map, reverse, length, get_or, drop, nat_lt, refl, sym, ap, ◌∙◌, arith, lt-ltb}
use Rattle.std.proofs.lemmas.Grind.{flat_map-append}
use Rattle.std.proofs.lemmas.List.{drop_more, reverse-append, append-nil}
use Rattle.cc_env.specs.Names.{set_values, flag_words, flags_in}
use Rattle.cc_env.specs.Snapshot.{last_value}

abbrev Pairs : Type 0
Pairs = List (List ℕ × List ℕ)

cons_set : (env : Pairs) (name value : List ℕ) (names : List (List ℕ)) → Some value ≡ last_value env name → set_values env (name ∷ names) ≡ value ∷ set_values env names
unfolding set_values
cons_set env name value names e = rw (← e) refl

cons_unset : (env : Pairs) (name : List ℕ) (names : List (List ℕ)) → None ≡ last_value env name → set_values env (name ∷ names) ≡ set_values env names
unfolding set_values
cons_unset env name names e = rw (← e) refl

-- the values from a place on, where that name is set
pub set_here : (env : Pairs) (names : List (List ℕ)) (place : ℕ) (name value : List ℕ) → place < length names → name ≡ get_or names place name → Some value ≡ last_value env name → set_values env (drop place names) ≡ value ∷ set_values env (drop (place + 1) names)
set_here env names place name value l is e =
    ap (set_values env) (drop_more names place name l ∙ ap (λ n. n ∷ drop (place + 1) names) (sym is)) ∙ cons_set env name value (drop (place + 1) names) e

-- the same, where it isn't
pub unset_here : (env : Pairs) (names : List (List ℕ)) (place : ℕ) (name : List ℕ) → place < length names → name ≡ get_or names place name → None ≡ last_value env name → set_values env (drop place names) ≡ set_values env (drop (place + 1) names)
unset_here env names place name l is e =
    ap (set_values env) (drop_more names place name l ∙ ap (λ n. n ∷ drop (place + 1) names) (sym is)) ∙ cons_unset env name (drop (place + 1) names) e

pub no_values : (env : Pairs) → set_values env [] ≡ []
unfolding set_values
no_values env = refl

-- the words of the values, with those of one value before them
pub words_more : (shell : Bool) (values : List (List ℕ)) (value : List ℕ) → flat_map (flag_words shell) (reverse (value ∷ values)) ≡ flat_map (flag_words shell) (reverse values) ++ flag_words shell value
words_more shell values value =
    ap (flat_map (flag_words shell)) (reverse-append (value ∷ []) values)
    ∙ flat_map-append (flag_words shell) (reverse values) (value ∷ [])
    ∙ ap (λ l. flat_map (flag_words shell) (reverse values) ++ l) (append-nil (flag_words shell value))

-- the answer: none where there is no value
pub answer : (shell found : Bool) (values words : List (List ℕ)) → found ≡ nat_lt 0 (length values) → words ≡ flat_map (flag_words shell) (reverse values) → cond found (Some words) None ≡ flags_in shell values
answer shell found [] words f e = rw f refl
answer shell found (value ∷ values) words f e =
    let t : found ≡ true = f ∙ some_value in
    rw t (ap (λ w. Some w) e)
  where
    some_value : nat_lt 0 (length (value ∷ values)) ≡ true
    some_value = lt-ltb 0 (length (value ∷ values)) (omega arith)
