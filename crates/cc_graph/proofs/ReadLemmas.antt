-- Entries that are nodes so far, and the first that is none.
use Rattle.std.proofs.Common.{◌≡◌, ℕ, suc, ◌<◌, ◌≤◌, List, [], ◌∷◌, ◌++◌, map, length, take, drop, get_or, Option, Some, None, Result, Ok, Err, true, false, arith, refl, sym, ap, ◌∙◌, take_all, drop-cons, take-append-drop}
use Rattle.std.specs.Prelude.{nat_lt, option_and_then}
use Rattle.std.proofs.lemmas.Grind.{common_steps}
use Rattle.std.proofs.lemmas.List.{map-append, length-map, take-map}
use Rattle.serde_json.specs.Data.{Data}
use Rattle.serde_json.specs.Find.{as_array}
use Rattle.serde_json.specs.View.{view, items_of, items_view}
use Rattle.serde_json.specs.declared.value.Value.{Value}
use Rattle.cc_graph.specs.Read.{Env, values, all_some, first_none, place_of, places_of, command_of, node_of, nodes_of, bounded, nodes_upto, array_nodes}
use Rattle.cc_graph.specs.declared.node.Node.{Node}
use Rattle.cc_graph.specs.declared.read.GraphFileError.{GraphFileError}
use Rattle.cc_graph.specs.declared.read.GraphFileError.TheVariants.{Entry}

-- the values of an array, as they are listed
pub values_listed : (ds : List Data) → values (items_of ds) ≡ ds
values_listed [] = refl
values_listed (d ∷ ds) = ap (λ rest. d ∷ rest) (values_listed ds)

-- all are there
pub all_there : {X : Type 0} (xs : List X) → all_some (map Some xs) ≡ Some xs
all_there [] = refl
all_there (x ∷ xs) = rw (all_there xs) refl

-- the first that isn't there comes after these
pub none_after : {X : Type 0} (xs : List X) (os : List (Option X)) → (all_some (map Some xs ++ None ∷ os) ≡ None) × (first_none (map Some xs ++ None ∷ os) ≡ length xs)
none_after [] os = (refl, refl)
none_after (x ∷ xs) os = let r = none_after xs os in (rw r.0 refl, ap suc r.1)

-- a list by its front, the element at a place, and the rest
cut_at : {A : Type 0} (vs : List A) (n : ℕ) (x : A) → n < length vs → x ≡ get_or vs n x → vs ≡ take n vs ++ x ∷ drop (suc n) vs
cut_at vs n x within is = sym (take-append-drop n vs) ∙ ap (λ rest. take n vs ++ rest) (drop-cons vs n x within ∙ ap (λ s. s ∷ drop (suc n) vs) (sym is))

-- those before a place are there, and the one at that place isn't
pub first_refused : {A B Y : Type 0} (v : A → B) (f : B → Option Y) (vs : List A) (n : ℕ) (x : A) (ys : List Y) → n < length vs → x ≡ get_or vs n x → map f (map v (take n vs)) ≡ map Some ys → f (v x) ≡ None → (all_some (map f (map v vs)) ≡ None) × (first_none (map f (map v vs)) ≡ length ys)
first_refused v f vs n x ys within is so_far none =
    let rest = map f (map v (drop (suc n) vs)) in
    let whole : map f (map v vs) ≡ map Some ys ++ None ∷ rest =
    ap (λ l. map f (map v l)) (cut_at vs n x within is)
    ∙ ap (map f) (map-append v (take n vs) (x ∷ drop (suc n) vs))
    ∙ map-append f (map v (take n vs)) (v x ∷ map v (drop (suc n) vs))
    ∙ ap (λ l. l ++ f (v x) ∷ rest) so_far
    ∙ ap (λ o. map Some ys ++ o ∷ rest) none in
    let cut = none_after ys rest in
    (ap all_some whole ∙ cut.0, ap first_none whole ∙ cut.1)

-- each is there
pub all_read : {A B Y : Type 0} (v : A → B) (f : B → Option Y) (vs : List A) (n : ℕ) (ys : List Y) → length vs ≤ n → map f (map v (take n vs)) ≡ map Some ys → all_some (map f (map v vs)) ≡ Some ys
all_read v f vs n ys past so_far = ap (λ l. all_some (map f (map v l))) (sym (take_all n vs past)) ∙ ap all_some so_far ∙ all_there ys

-- the places of an array
pub places_there : (d : Data) (vs : List Value) → Some (items_view vs) ≡ as_array d → places_of d ≡ all_some (map place_of (map view vs))
places_there d vs e = rw (← e) (ap (λ l. all_some (map place_of l)) (values_listed (map view vs)))

-- the command of an array
pub command_there : (env : Env) (d : Data) (vs : List Value) → Some (items_view vs) ≡ as_array d → option_and_then (λ ds. command_of env (values ds)) (as_array d) ≡ command_of env (map view vs)
command_there env d vs e = rw (← e) (ap (command_of env) (values_listed (map view vs)))

-- the nodes of an array
pub nodes_there : (env : Env) (most : ℕ) (d : Data) (vs : List Value) → Some (items_view vs) ≡ as_array d → array_nodes env most (as_array d) ≡ nodes_upto env most (map view vs)
nodes_there env most d vs e = rw (← e) (ap (nodes_upto env most) (values_listed (map view vs)))

-- each entry is a node
pub nodes_read : (env : Env) (ds : List Data) (nodes : List Node) → all_some (map (node_of env) ds) ≡ Some nodes → nodes_of env ds ≡ Ok nodes
unfolding nodes_of
nodes_read env ds nodes e = rw e refl

-- an entry is none
pub nodes_refused : (env : Env) (ds : List Data) (n k : ℕ) → (all_some (map (node_of env) ds) ≡ None) × (first_none (map (node_of env) ds) ≡ n) → k ≡ n → nodes_of env ds ≡ Err (Entry k)
unfolding nodes_of
nodes_refused env ds n k e is = rw (e.0, e.1, is) refl

-- no more than so many
pub few_bounded : (most count : ℕ) (r : Result (List Node) GraphFileError) → count ≤ most → bounded most count r ≡ r
few_bounded most count (Ok nodes) l = let n : nat_lt most count ≡ false = grind (arith, common_steps) in cc
few_bounded most count (Err e) l = refl

pub few_nodes : (env : Env) (most : ℕ) (vs : List Value) → length vs ≤ most → nodes_upto env most (map view vs) ≡ nodes_of env (map view vs)
few_nodes env most vs l =
    let size : length (map view vs) ≡ length vs = length-map vs view in
    few_bounded most (length (map view vs)) (nodes_of env (take most (map view vs))) (omega (arith, size, l)) ∙ ap (nodes_of env) (take_all most (map view vs) (omega (arith, size, l)))

-- and more
pub many_refused : (env : Env) (most : ℕ) (vs : List Value) (e : GraphFileError) → nodes_of env (map view (take most vs)) ≡ Err e → nodes_upto env most (map view vs) ≡ Err e
many_refused env most vs e h = ap (bounded most (length (map view vs))) (ap (nodes_of env) (take-map view most vs) ∙ h)

pub many_nodes : (env : Env) (most : ℕ) (vs : List Value) (nodes : List Node) → most < length vs → nodes_of env (map view (take most vs)) ≡ Ok nodes → nodes_upto env most (map view vs) ≡ Err (Entry most)
many_nodes env most vs nodes l h =
    let size : length (map view vs) ≡ length vs = length-map vs view in
    let n : nat_lt most (length (map view vs)) ≡ true = grind (arith, common_steps) in
    ap (bounded most (length (map view vs))) (ap (nodes_of env) (take-map view most vs) ∙ h) ∙ (let r : bounded most (length (map view vs)) (Ok nodes) ≡ Err (Entry most) = cc in r)
