-- The path without the components of a base: its cut at the end, its cut at the front, and its parts in turn.
use Rattle.std.proofs.Common.{◌≡◌, ℕ, zero, suc, ◌+◌, ◌-◌, ◌<◌, ◌≤◌, List, [], ◌∷◌, ◌++◌, true, false, ◌&&◌, ◌||◌, Option, Some, None, eqb, ltb, length, get_or, take, drop, bytes_eq, refl, sym, ap, ap₂, ◌∙◌, ⊎_elim, arith, eqb-true, ne_eqb, get_or-drop}
use Rattle.std.specs.List.{starts_with}
use Rattle.std.specs.declared.path.components.Component.{Component}
use Rattle.std.specs.Path.{slash, dot, is_trailing, is_leading, trimmed_len, trim_trailing, first_piece, path_components, IsNextComponent, PathStartsWith}
use Rattle.std.proofs.lemmas.Bool.{cond-true, cond-false, and_parts, or_cases, false_from_ne_true}
use Rattle.std.proofs.lemmas.List.{drop_more}
use Rattle.std.proofs.lemmas.Slice.Eq.{bytes_eq-Decides, starts_is}
use Rattle.cc_text.specs.Components.{skip_leading, after_first, from_component, strip_prefix}

-- what is trimmed off the end

pub trimmed_more : (path : List ℕ) (n : ℕ) → 0 < n → is_trailing path (n - 1) ≡ true → trimmed_len path n ≡ trimmed_len path (n - 1)
trimmed_more path n some e = ap (trimmed_len path) {x = n} {y = suc (n - 1)} (omega arith) ∙ cond-true _ _ _ e

pub trimmed_here : (path : List ℕ) (n : ℕ) → 0 < n → is_trailing path (n - 1) ≡ false → trimmed_len path n ≡ n
trimmed_here path n some e = ap (trimmed_len path) {x = n} {y = suc (n - 1)} (omega arith) ∙ cond-false _ _ _ e ∙ omega arith

pub trailing_ascii : (path : List ℕ) (i : ℕ) → is_trailing path i ≡ true → get_or path i 0 < 128
trailing_ascii path i e =
    let b = get_or path i 0 in
    let before = eqb (get_or path (i - 1) 0) slash in
    ⊎_elim (λ is_slash. omega (arith, eqb-true b slash is_slash)) (λ is_dot. omega (arith, eqb-true b dot (and_parts (eqb b dot) before is_dot).0))
    (or_cases (eqb b slash) (eqb b dot && before) (and_parts (ltb 0 i) (eqb b slash || (eqb b dot && before)) e).1)

pub trimmed_is : (path : List ℕ) (n : ℕ) → trimmed_len path (length path) ≡ n → take n path ≡ trim_trailing path
unfolding trim_trailing
trimmed_is path n e = ap (λ k. take k path) (sym e)

-- what is skipped at the front

pub leading_ascii : (path : List ℕ) (i : ℕ) → is_leading path i ≡ true → get_or path i 0 < 128
leading_ascii path i e =
    let b = get_or path i 0 in
    let next = eqb (get_or path (i + 1) slash) slash in
    ⊎_elim (λ is_slash. omega (arith, eqb-true b slash is_slash)) (λ is_dot. omega (arith, eqb-true b dot (and_parts (eqb b dot) next is_dot).0)) (or_cases (eqb b slash) (eqb b dot && next) e)

is_leading-drop : (path : List ℕ) (i : ℕ) → is_leading (drop i path) 0 ≡ is_leading path i
is_leading-drop path i =
    let here : get_or (drop i path) 0 0 ≡ get_or path i 0 = get_or-drop i path 0 0 ∙ ap (λ k. get_or path k 0) {x = i + 0} {y = i} (omega arith) in
    ap₂ (λ b next. eqb b slash || (eqb b dot && eqb next slash)) here (get_or-drop i path 1 slash)

skip_here : (text : List ℕ) → is_leading text 0 ≡ false → skip_leading text ≡ text
skip_here [] e = refl
skip_here (b ∷ rest) e = cond-false _ _ _ e

skip_more : (text : List ℕ) (b : ℕ) (rest : List ℕ) → text ≡ b ∷ rest → is_leading text 0 ≡ true → skip_leading text ≡ skip_leading rest
skip_more text b rest is e = ap skip_leading is ∙ cond-true _ _ _ (ap (λ t. is_leading t 0) (sym is) ∙ e)

pub skipped_more : (text : List ℕ) (i : ℕ) → i < length text → is_leading text i ≡ true → skip_leading (drop (i + 1) text) ≡ skip_leading (drop i text)
skipped_more text i l e = sym (skip_more (drop i text) (get_or text i 0) (drop (i + 1) text) (drop_more text i 0 l) (is_leading-drop text i ∙ e))

pub skipped_here : (text : List ℕ) (i : ℕ) → is_leading text i ≡ false → skip_leading (drop i text) ≡ drop i text
skipped_here text i e = skip_here (drop i text) (is_leading-drop text i ∙ e)

pub skipped_all : (text : List ℕ) (i : ℕ) → length text ≤ i → skip_leading (drop i text) ≡ drop i text
skipped_all [] zero l = refl
skipped_all [] (suc i) l = refl
skipped_all (b ∷ text) zero l = absurd (omega arith)
skipped_all (b ∷ text) (suc i) l = skipped_all text i (omega arith)

-- the first part

abbrev Lacks : ℕ → List ℕ → Type 0
Lacks c text = (i : ℕ) → i < length text → get_or text i 0 ≡ c → ⊥

first_whole : (xs : List ℕ) → Lacks slash xs → first_piece xs ≡ xs
first_whole [] h = refl
first_whole (x ∷ xs) h = cond-false _ _ _ (ne_eqb x slash (h 0 (omega arith))) ∙ ap (λ l. x ∷ l) (first_whole xs (λ i l. h (suc i) (omega arith)))

first_split : (xs ys : List ℕ) → Lacks slash xs → first_piece (xs ++ slash ∷ ys) ≡ xs
first_split [] ys h = refl
first_split (x ∷ xs) ys h = cond-false _ _ _ (ne_eqb x slash (h 0 (omega arith))) ∙ ap (λ l. x ∷ l) (first_split xs ys (λ i l. h (suc i) (omega arith)))

drop_front : (xs ys : List ℕ) → drop (length xs) (xs ++ ys) ≡ ys
drop_front [] ys = refl
drop_front (x ∷ xs) ys = drop_front xs ys

pub after_split : (path first rest : List ℕ) → path ≡ first ++ slash ∷ rest → ((i : ℕ) → i < length first → get_or first i 0 ≡ slash → ⊥) → skip_leading rest ≡ after_first path
unfolding after_first
after_split path first rest is none =
    rw is (sym (ap (λ p. skip_leading (drop (length p) (first ++ slash ∷ rest))) (first_split first rest none) ∙ ap skip_leading (drop_front first (slash ∷ rest))))

all_dropped : (xs : List ℕ) → drop (length xs) xs ≡ []
all_dropped [] = refl
all_dropped (x ∷ xs) = all_dropped xs

pub after_whole : (path : List ℕ) → ((i : ℕ) → i < length path → get_or path i 0 ≡ slash → ⊥) → [] ≡ after_first path
unfolding after_first
after_whole path none = sym (ap (λ p. skip_leading (drop (length p) path)) (first_whole path none) ∙ ap skip_leading (all_dropped path))

-- the base's components in turn

pub parts_passed : (before after : List (List ℕ)) (r : Option Component) (rest all : List ℕ) → r ≡ None → IsNextComponent before r after → from_component (length before) rest ≡ all → rest ≡ all
parts_passed before after r rest all e h so_far =
    let k = rw e at h in
    ap (λ parts. from_component (length parts) rest) (sym k.0) ∙ so_far

begins : (path base : List ℕ) → PathStartsWith path base → starts_with bytes_eq (path_components path) (path_components base) ≡ true
begins path base h = (starts_is bytes_eq-Decides (path_components path) (path_components base) _ refl).1 h.0 h.1

pub stripped : (path base rest : List ℕ) → PathStartsWith path base → rest ≡ from_component (length (path_components base)) (trim_trailing path) → Some rest ≡ strip_prefix path base
unfolding strip_prefix
stripped path base rest h e = let b = begins path base h in rw b (ap (λ text. Some text) e)

pub not_stripped : (path base : List ℕ) → (PathStartsWith path base → ⊥) → None ≡ strip_prefix path base
unfolding strip_prefix
not_stripped path base n =
    let b : starts_with bytes_eq (path_components path) (path_components base) ≡ false =
    false_from_ne_true _ (λ t. n (drop (length (path_components base)) (path_components path), (starts_is bytes_eq-Decides (path_components path) (path_components base) _ refl).0 t)) in
    rw b refl
