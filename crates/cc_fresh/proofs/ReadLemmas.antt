-- Values that have the shape so far, and the first that hasn't.
use Rattle.std.proofs.Common.{◌≡◌, ℕ, suc, ◌<◌, ◌≤◌, List, [], ◌∷◌, ◌++◌, map, length, take, drop, get_or, eqb, Option, Some, None, Bool, true, false, IsUtf8, IsTrue, ◌↔◌, arith, refl, sym, ap, ◌∙◌, take_all, drop-cons, take-append-drop}
use Rattle.std.proofs.lemmas.List.{map-append}
use Rattle.std.proofs.lemmas.Str.{is_utf8-from_IsUtf8, IsUtf8-from_is_utf8}
use Rattle.std.specs.Str.{is_utf8}
use Rattle.serde_json.specs.Data.{Data}
use Rattle.std.specs.declared.alloc.Global.{Global}
use Rattle.std.specs.Prelude.{String}
use Rattle.serde_json.specs.Find.{get, as_array, as_object}
use Rattle.serde_json.specs.Read.{read}
use Rattle.serde_json.specs.View.{view, items_of, items_view, members_view}
use Rattle.serde_json.specs.declared.value.Value.{Value}
use Rattle.serde_json.proofs.Views.{members_len-members_view}
use Rattle.cc_fresh.specs.Record.{values, all_some, has_members, values_at, pair_of, record_of, record_in_text}
use Rattle.cc_fresh.specs.declared.record.Entry.{Entry}

-- the values of an array, as they are listed
pub values_listed : (ds : List Data) → values (items_of ds) ≡ ds
values_listed [] = refl
values_listed (d ∷ ds) = ap (λ rest. d ∷ rest) (values_listed ds)

-- all are there
pub all_there : {X : Type 0} (xs : List X) → all_some (map Some xs) ≡ Some xs
all_there [] = refl
all_there (x ∷ xs) = rw (all_there xs) refl

-- one isn't there
none_after : {X : Type 0} (xs : List X) (os : List (Option X)) → all_some (map Some xs ++ None ∷ os) ≡ None
none_after [] os = refl
none_after (x ∷ xs) os = rw (none_after xs os) refl

-- a list by its front, the element at a place, and the rest
cut_at : {A : Type 0} (vs : List A) (n : ℕ) (x : A) → n < length vs → x ≡ get_or vs n x → vs ≡ take n vs ++ x ∷ drop (suc n) vs
cut_at vs n x within is = sym (take-append-drop n vs) ∙ ap (λ rest. take n vs ++ rest) (drop-cons vs n x within ∙ ap (λ s. s ∷ drop (suc n) vs) (sym is))

-- those before a place have the shape, and the one at that place hasn't
pub first_refused : {A B Y : Type 0} (v : A → B) (f : B → Option Y) (vs : List A) (n : ℕ) (x : A) (ys : List Y) → n < length vs → x ≡ get_or vs n x → map f (map v (take n vs)) ≡ map Some ys → f (v x) ≡ None → all_some (map f (map v vs)) ≡ None
first_refused v f vs n x ys within is so_far none =
    let rest = map f (map v (drop (suc n) vs)) in
    let whole : map f (map v vs) ≡ map Some ys ++ None ∷ rest =
    ap (λ l. map f (map v l)) (cut_at vs n x within is)
    ∙ ap (map f) (map-append v (take n vs) (x ∷ drop (suc n) vs))
    ∙ map-append f (map v (take n vs)) (v x ∷ map v (drop (suc n) vs))
    ∙ ap (λ l. l ++ f (v x) ∷ rest) so_far
    ∙ ap (λ o. map Some ys ++ o ∷ rest) none in
    ap all_some whole ∙ none_after ys rest

-- each has it
pub all_read : {A B Y : Type 0} (v : A → B) (f : B → Option Y) (vs : List A) (n : ℕ) (ys : List Y) → length vs ≤ n → map f (map v (take n vs)) ≡ map Some ys → all_some (map f (map v vs)) ≡ Some ys
all_read v f vs n ys past so_far = ap (λ l. all_some (map f (map v l))) (sym (take_all n vs past)) ∙ ap all_some so_far ∙ all_there ys

-- the values of an array under a key
pub values_there : (d found : Data) (key : List ℕ) (vs : List Value) → Some found ≡ get key d → Some (items_view vs) ≡ as_array found → Some (map view vs) ≡ values_at key d
values_there d found key vs e a = rw (← e, ← a) (ap Some (sym (values_listed (map view vs))))

-- how many members there are
pub counted : (d : Data) (es : List (String Global × Value)) (n count : ℕ) → Some (members_view es) ≡ as_object d → n ≡ length es → eqb n count ≡ has_members count d
counted d es n count e l = rw (← e, members_len-members_view es, l) refl

-- other than two values are no pair
pub no_pair : (ds : List Data) → (length ds ≡ 2 → ⊥) → pair_of (items_of ds) ≡ None
no_pair [] h = refl
no_pair (a ∷ []) h = refl
no_pair (a ∷ b ∷ []) h = absurd (h refl)
no_pair (a ∷ b ∷ c ∷ ds) h = refl

-- ---- bytes

pub text_read : (text : List ℕ) (d : Data) (entries : Option (List Entry)) → IsUtf8 text × (read text ≡ Some d) → entries ≡ record_of d → entries ≡ record_in_text text
text_read text d entries t e = rw (is_utf8-from_IsUtf8 text t.0, t.1) e

none_by : (b : Bool) (text : List ℕ) → is_utf8 text ≡ b → (IsUtf8 text → read text ≡ None) → None ≡ record_in_text text
none_by true text e h = rw (e, h (IsUtf8-from_is_utf8 text e)) refl
none_by false text e h = rw e refl

pub none_read_of : (text : List ℕ) → (IsUtf8 text → read text ≡ None) → None ≡ record_in_text text
none_read_of text h = none_by (is_utf8 text) text refl h

pub no_memory : {M : Type 0} (b : Bool) → IsTrue b ↔ M → b ≡ false → M → ⊥
no_memory true h e m = grind (arith, e)
no_memory false h e m = let yes = h.1 m in grind (arith, yes)
