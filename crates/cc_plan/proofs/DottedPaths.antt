-- A path whose name ends with a dot and a byte, and the same path with another extension.
use Rattle.std.proofs.Common.{◌≡◌, ◌≢◌, ◌∙◌, refl, sym, ap, ℕ, zero, suc, ◌+◌, ◌-◌, ◌<◌, List, [], ◌∷◌, ◌++◌, length, take, drop, get_or, Bool, true, false, ◌&&◌, Some, arith, codes, bytes_eq, append_assoc, eq-eqb, ne_eqb, ⊎_elim, ltb}
use Rattle.std.proofs.Math.Seq.{take-append_seam, drop-append-add, get_or-append_seam}
use Rattle.std.proofs.lemmas.Bool.{cond-true, cond-false, cases_eq}
use Rattle.std.proofs.lemmas.List.{get_or-append-add, length-append}
use Rattle.std.proofs.lemmas.Slice.Eq.{bytes_eq-Decides}
use Rattle.std.specs.Path.{slash, dot, root_dir, is_trailing, trimmed_len, trim_trailing, rfind_below, rsplit_once, parent_before_slash, split_last_component, path_file_name, path_extension, stem_end}
use Rattle.cc_text.specs.Paths.{with_extension}

-- no byte is c
abbrev pub Free : ℕ → List ℕ → Type 0
Free c [] = Unit {0}
Free c (b ∷ bs) = (b ≢ c) × Free c bs

pub free_both : (c : ℕ) (xs ys : List ℕ) → Free c xs → Free c ys → Free c (xs ++ ys)
free_both c [] ys p q = q
free_both c (x ∷ xs) ys p q = (p.0, free_both c xs ys p.1 q)

pub free_at : (c : ℕ) (bs : List ℕ) (i : ℕ) → Free c bs → i < length bs → get_or bs i 0 ≢ c
free_at c [] i p l = absurd (omega arith)
free_at c (b ∷ bs) zero p l = p.0
free_at c (b ∷ bs) (suc i) p l = free_at c bs i p.1 (omega arith)

-- the last c below n stands at k, where none stands behind it
last_at : (c : ℕ) (text : List ℕ) (k n : ℕ) → k < n → get_or text k 0 ≡ c → ((i : ℕ) → k < i → i < n → get_or text i 0 ≢ c) → rfind_below c text n ≡ Some k
last_at c text k zero l at h = absurd (omega arith)
last_at c text k (suc n) l at h =
    ⊎_elim
    (λ e. cond-true _ _ _ (eq-eqb _ c (ap (λ j. get_or text j 0) (sym e) ∙ at)) ∙ ap (λ j. Some j) (sym e))
    (λ other. cond-false _ _ _ (ne_eqb _ c (h n (omega arith) (omega arith))) ∙ last_at c text k n (omega arith) at (λ i a b. h i a (omega arith)))
    (cases_eq k n)

-- a text is cut at its last c
pub cut_last : (c : ℕ) (front rest : List ℕ) → Free c rest → rsplit_once c (front ++ c ∷ rest) ≡ Some (front, rest)
unfolding rsplit_once
cut_last c front rest free =
    let text = front ++ c ∷ rest in
    let long : length text ≡ length front + suc (length rest) = length-append front (c ∷ rest) in
    let behind : (i : ℕ) → length front < i → i < length text → get_or text i 0 ≢ c = λ i a b e.
    free_at c rest (i - suc (length front)) free (omega (arith, long))
    (sym (get_or-append-add front (c ∷ rest) (suc (i - suc (length front))) 0) ∙ ap (λ k. get_or text k 0) {x = length front + suc (i - suc (length front))} {y = i} (omega arith) ∙ e) in
    let found : rfind_below c text (length text) ≡ Some (length front) = last_at c text (length front) (length text) (omega (arith, long)) (get_or-append_seam front c rest 0) behind in
    let before : take (length front) text ≡ front = take-append_seam front (c ∷ rest) in
    let after : drop (length front + 1) text ≡ rest = drop-append-add front (c ∷ rest) 1 in
    rw (found, before, after) refl

differs : (xs ys : List ℕ) → length ys < length xs → bytes_eq xs ys ≡ false
differs xs ys longer =
    elim (bytes_eq xs ys) as (λ b. (b ≡ true → xs ≡ ys) → b ≡ false) [ true ↦ λ f. absurd (omega (arith, longer, ap length (f refl))) | false ↦ λ f. refl ] ((bytes_eq-Decides xs ys).0)

-- a text that ends with another byte than a slash or a dot has nothing to trim
trimmed : (text : List ℕ) (c : ℕ) → c ≢ slash → c ≢ dot → trim_trailing (text ++ c ∷ []) ≡ text ++ c ∷ []
unfolding trim_trailing
trimmed text c s d =
    let path = text ++ c ∷ [] in
    let last : get_or path (length text) 0 ≡ c = get_or-append_seam text c [] 0 in
    let long : length path ≡ suc (length text) = length-append text (c ∷ []) ∙ omega arith in
    let kept : is_trailing path (length text) ≡ false = rw (last, ne_eqb c slash s, ne_eqb c dot d) (and_false (ltb 0 (length text))) in
    let all : trimmed_len path (length path) ≡ length path = ap (trimmed_len path) long ∙ cond-false _ _ _ kept ∙ sym long in
    ap (λ k. take k path) all ∙ take_whole path
  where
    and_false : (b : Bool) → (b && false) ≡ false
    and_false true = refl
    and_false false = refl

    take_whole : (xs : List ℕ) → take (length xs) xs ≡ xs
    take_whole [] = refl
    take_whole (x ∷ xs) = ap (λ l. x ∷ l) (take_whole xs)

-- a name with an extension of one byte, and its path in a folder
abbrev pub dotted : List ℕ → ℕ → List ℕ
dotted base c = base ++ dot ∷ c ∷ []

abbrev pub path_of : List ℕ → List ℕ → ℕ → List ℕ
path_of front base c = front ++ slash ∷ dotted base c

module _ (front base : List ℕ) (c : ℕ) (no_slash : c ≢ slash) (no_dot : c ≢ dot) (free : Free slash base) (some : 0 < length base) where
  as_last : path_of front base c ≡ (front ++ slash ∷ (base ++ dot ∷ [])) ++ c ∷ []
  as_last = ap (λ l. front ++ slash ∷ l) (sym (append_assoc base (dot ∷ []) (c ∷ []))) ∙ sym (append_assoc front (slash ∷ (base ++ dot ∷ [])) (c ∷ []))

  whole : trim_trailing (path_of front base c) ≡ path_of front base c
  whole = ap trim_trailing as_last ∙ trimmed (front ++ slash ∷ (base ++ dot ∷ [])) c no_slash no_dot ∙ sym as_last

  long_name : length (dotted base c) ≡ length base + 2
  long_name = length-append base (dot ∷ c ∷ [])

  long_path : length (path_of front base c) ≡ length front + suc (length base + 2)
  long_path = length-append front (slash ∷ dotted base c) ∙ ap (λ n. length front + suc n) long_name

  pub split_name : split_last_component (path_of front base c) ≡ Some (parent_before_slash front, dotted base c)
  unfolding split_last_component
  split_name =
      let free_name : Free slash (dotted base c) = free_both slash base (dot ∷ c ∷ []) free ((λ e. omega (arith, e)), (no_slash, tt)) in
      let split : rsplit_once slash (path_of front base c) ≡ Some (front, dotted base c) = cut_last slash front (dotted base c) free_name in
      rw (whole, differs (path_of front base c) root_dir (omega (arith, some, long_path)), ne_eqb (length (path_of front base c)) 0 (λ e. omega (arith, long_path, e)), split) refl

  pub name_is : path_file_name (path_of front base c) ≡ Some (dotted base c)
  unfolding path_file_name
  name_is = rw (split_name, differs (dotted base c) (dot ∷ []) (omega (arith, some, long_name)), differs (dotted base c) (dot ∷ dot ∷ []) (omega (arith, some, long_name))) refl

  extension_is : path_extension (path_of front base c) ≡ Some (c ∷ [])
  unfolding path_extension
  extension_is =
      let cut : rsplit_once dot (dotted base c) ≡ Some (base, c ∷ []) = cut_last dot base (c ∷ []) (no_dot, tt) in
      rw (name_is, cut, ne_eqb (length base) 0 (λ e. omega (arith, some, e))) refl

  -- the name up to its dot stays
  pub extended_path : (ext : List ℕ) → with_extension (path_of front base c) ext ≡ front ++ slash ∷ (base ++ (codes "." ++ ext))
  unfolding with_extension
  extended_path ext =
      let stem : stem_end (path_of front base c) ≡ length (front ++ slash ∷ base) = rw (whole, extension_is) (omega (arith, long_path, length-append front (slash ∷ base))) in
      let parts : path_of front base c ≡ (front ++ slash ∷ base) ++ dot ∷ c ∷ [] = sym (append_assoc front (slash ∷ base) (dot ∷ c ∷ [])) in
      let kept : take (stem_end (path_of front base c)) (path_of front base c) ≡ front ++ slash ∷ base = ap (λ n. take n (path_of front base c)) stem ∙ ap (take (length (front ++ slash ∷ base))) parts ∙ take-append_seam (front ++ slash ∷ base) (dot ∷ c ∷ []) in
      rw (name_is, kept) (append_assoc (front ++ slash ∷ base) (codes ".") ext ∙ append_assoc front (slash ∷ base) (codes "." ++ ext))
