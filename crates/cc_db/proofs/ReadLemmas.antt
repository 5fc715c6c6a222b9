-- Entries that are commands so far, and the first that is none.
use Rattle.std.proofs.Common.{◌≡◌, ℕ, suc, ◌<◌, ◌≤◌, List, [], ◌∷◌, ◌++◌, map, length, take, drop, get_or, Option, Some, None, Ok, Err, refl, sym, ap, ◌∙◌, take_all, drop-cons, take-append-drop}
use Rattle.std.proofs.lemmas.List.{map-append}
use Rattle.serde_json.specs.Data.{Data}
use Rattle.serde_json.specs.Find.{as_str, as_array}
use Rattle.serde_json.specs.View.{view, items_of, items_view}
use Rattle.serde_json.specs.declared.value.Value.{Value}
use Rattle.cc_host.specs.CompileCommand.{CompileCommandSeen}
use Rattle.cc_db.specs.Read.{values, all_some, first_none, texts_of, command_of, entries, array_commands}
use Rattle.cc_db.specs.declared.read.DatabaseError.TheVariants.{Entry}

-- the values of an array, as they are listed
pub values_listed : (ds : List Data) → values (items_of ds) ≡ ds
values_listed [] = refl
values_listed (d ∷ ds) = ap (λ rest. d ∷ rest) (values_listed ds)

-- all are there
pub all_there : {X : Type 0} (xs : List X) → all_some (map Some xs) ≡ Some xs
all_there [] = refl
all_there (x ∷ xs) = rw (all_there xs) refl

-- the first that isn't there comes after these
pub none_after : {X : Type 0} (xs : List X) (os : List (Option X)) → (all_some (map Some xs ++ None ∷ os) ≡ None) × (first_none (map Some xs ++ None ∷ os) ≡ length xs)
none_after [] os = (refl, refl)
none_after (x ∷ xs) os = let r = none_after xs os in (rw r.0 refl, ap suc r.1)

-- a list by its front, the element at a place, and the rest
cut_at : {A : Type 0} (vs : List A) (n : ℕ) (x : A) → n < length vs → x ≡ get_or vs n x → vs ≡ take n vs ++ x ∷ drop (suc n) vs
cut_at vs n x within is = sym (take-append-drop n vs) ∙ ap (λ rest. take n vs ++ rest) (drop-cons vs n x within ∙ ap (λ s. s ∷ drop (suc n) vs) (sym is))

-- those before a place are there, and the one at that place isn't
pub first_refused : {A B Y : Type 0} (v : A → B) (f : B → Option Y) (vs : List A) (n : ℕ) (x : A) (ys : List Y) → n < length vs → x ≡ get_or vs n x → map f (map v (take n vs)) ≡ map Some ys → f (v x) ≡ None → (all_some (map f (map v vs)) ≡ None) × (first_none (map f (map v vs)) ≡ length ys)
first_refused v f vs n x ys within is so_far none =
    let rest = map f (map v (drop (suc n) vs)) in
    let whole : map f (map v vs) ≡ map Some ys ++ None ∷ rest =
    ap (λ l. map f (map v l)) (cut_at vs n x within is)
    ∙ ap (map f) (map-append v (take n vs) (x ∷ drop (suc n) vs))
    ∙ map-append f (map v (take n vs)) (v x ∷ map v (drop (suc n) vs))
    ∙ ap (λ l. l ++ f (v x) ∷ rest) so_far
    ∙ ap (λ o. map Some ys ++ o ∷ rest) none in
    let cut = none_after ys rest in
    (ap all_some whole ∙ cut.0, ap first_none whole ∙ cut.1)

-- each is there
pub all_read : {A B Y : Type 0} (v : A → B) (f : B → Option Y) (vs : List A) (n : ℕ) (ys : List Y) → length vs ≤ n → map f (map v (take n vs)) ≡ map Some ys → all_some (map f (map v vs)) ≡ Some ys
all_read v f vs n ys past so_far = ap (λ l. all_some (map f (map v l))) (sym (take_all n vs past)) ∙ ap all_some so_far ∙ all_there ys

-- the texts of an array
pub texts_there : (d : Data) (vs : List Value) → Some (items_view vs) ≡ as_array d → texts_of d ≡ all_some (map as_str (map view vs))
texts_there d vs e = rw (← e) (ap (λ l. all_some (map as_str l)) (values_listed (map view vs)))

-- the commands of an array
pub commands_there : (d : Data) (vs : List Value) → Some (items_view vs) ≡ as_array d → array_commands (as_array d) ≡ entries (map view vs)
commands_there d vs e = rw (← e) (ap entries (values_listed (map view vs)))

-- each entry is a command
pub entries_read : (ds : List Data) (commands : List CompileCommandSeen) → all_some (map command_of ds) ≡ Some commands → entries ds ≡ Ok commands
unfolding entries
entries_read ds commands e = rw e refl

-- an entry is none
pub entries_refused : (ds : List Data) (n k : ℕ) → (all_some (map command_of ds) ≡ None) × (first_none (map command_of ds) ≡ n) → k ≡ n → entries ds ≡ Err (Entry k)
unfolding entries
entries_refused ds n k e is = rw (e.0, e.1, is) refl
