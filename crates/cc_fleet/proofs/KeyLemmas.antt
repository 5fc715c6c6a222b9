-- Paths of one key have the same components: a slash ends each, and only the root has one.
use Rattle.std.proofs.Common.{◌≡◌, ◌≢◌, ◌⊎◌, inl, inr, ◌<◌, ◌+◌, ℕ, zero, suc, List, [], ◌∷◌, ◌++◌, length, get_or, drop, filter, Bool, true, false, eqb, refl, sym, ◌∙◌, ap, ap₂, subst, arith, if◌then◌else◌, append_assoc, length-append}
use Rattle.std.specs.Path.{slash, root_dir, cur_dir, first_piece, later_pieces, is_name, is_dot_at, path_names, leading_components, path_components}
use Rattle.std.proofs.lemmas.Bool.{cond_both, eqb-false}
use Rattle.cc_fleet.specs.Clash.{key_of}

-- no byte is a slash
abbrev Free : List ℕ → Type 0
Free [] = Unit {0}
Free (b ∷ bs) = (b ≢ slash) × Free bs

abbrev AllFree : List (List ℕ) → Type 0
AllFree [] = Unit {0}
AllFree (p ∷ ps) = Free p × AllFree ps

-- each has a byte, and none that is a slash
abbrev Named : List (List ℕ) → Type 0
Named [] = Unit {0}
Named (n ∷ ns) = (0 < length n) × Free n × Named ns

first_free : (path : List ℕ) → Free (first_piece path)
first_free [] = tt
first_free (b ∷ rest) = cond_both (eqb b slash) [] (b ∷ first_piece rest) Free (λ e. tt) (λ e. (eqb-false b slash e, first_free rest))

later_free : (path : List ℕ) → AllFree (later_pieces path)
later_free [] = tt
later_free (b ∷ rest) = cond_both (eqb b slash) (first_piece rest ∷ later_pieces rest) (later_pieces rest) AllFree (λ e. (first_free rest, later_free rest)) (λ e. later_free rest)

name_long : (name : List ℕ) → is_name name ≡ true → 0 < length name
name_long [] e = absurd (let h : false ≡ true = e in cc)
name_long (a ∷ rest) e = omega arith

filter_named : (pieces : List (List ℕ)) → AllFree pieces → Named (filter is_name pieces)
filter_named [] h = tt
filter_named (p ∷ ps) h = cond_both (is_name p) (p ∷ filter is_name ps) (filter is_name ps) Named (λ e. (name_long p e, h.0, filter_named ps h.1)) (λ e. filter_named ps h.1)

names_named : (path : List ℕ) → Named (path_names path)
unfolding path_names
names_named path = filter_named (first_piece path ∷ later_pieces path) (first_free path, later_free path)

-- names, or the root and names
abbrev Parts : List (List ℕ) → Type 0
Parts parts = Named parts ⊎ ((names : List (List ℕ)) × ((parts ≡ root_dir ∷ names) × Named names))

dot_named : (0 < length cur_dir) × Free cur_dir
dot_named = (omega arith, ((λ e. omega (arith, e)), tt))

leading_parts : (path : List ℕ) (names : List (List ℕ)) → Named names → Parts (leading_components path ++ names)
leading_parts path names h =
    cond_both (eqb (get_or path 0 0) slash) (root_dir ∷ []) (if is_dot_at path 0 then cur_dir ∷ [] else []) (λ front. Parts (front ++ names))
    (λ e. inr (names, (refl, h)))
    (λ e. cond_both (is_dot_at path 0) (cur_dir ∷ []) [] (λ front. Parts (front ++ names)) (λ e. inl (dot_named.0, dot_named.1, h)) (λ e. inl h))

parts_of : (path : List ℕ) → Parts (path_components path)
unfolding path_components
parts_of path = leading_parts path (path_names path) (names_named path)

-- what stands before the first slash, and behind it
cut_same : (a b xs ys : List ℕ) → Free a → Free b → a ++ slash ∷ xs ≡ b ++ slash ∷ ys → (a ≡ b) × (xs ≡ ys)
cut_same [] [] xs ys p q e = (refl, ap (drop 1) e)
cut_same [] (b ∷ bs) xs ys p q e = absurd (q.0 (sym (ap (λ l. get_or l 0 0) e)))
cut_same (a ∷ rs) [] xs ys p q e = absurd (p.0 (ap (λ l. get_or l 0 0) e))
cut_same (a ∷ rs) (b ∷ bs) xs ys p q e =
    let rest = cut_same rs bs xs ys p.1 q.1 (ap (drop 1) e) in
    (ap₂ (λ c l. c ∷ l) (ap (λ l. get_or l 0 0) e) rest.0, rest.1)

key_long : (x : List ℕ) (xs : List (List ℕ)) → 0 < length (key_of (x ∷ xs))
key_long x xs = omega (arith, length-append (x ++ slash ∷ []) (key_of xs), length-append x (slash ∷ []))

named_same : (xs ys : List (List ℕ)) → Named xs → Named ys → key_of xs ≡ key_of ys → xs ≡ ys
named_same [] [] p q e = refl
named_same [] (y ∷ ys) p q e = absurd (omega (arith, ap length e, key_long y ys))
named_same (x ∷ xs) [] p q e = absurd (omega (arith, ap length e, key_long x xs))
named_same (x ∷ xs) (y ∷ ys) p q e =
    let cut = cut_same x y (key_of xs) (key_of ys) p.1 q.1 (sym (append_assoc x (slash ∷ []) (key_of xs)) ∙ e ∙ append_assoc y (slash ∷ []) (key_of ys)) in
    ap₂ (λ c l. c ∷ l) cut.0 (named_same xs ys p.2 q.2 cut.1)

-- the key of names doesn't begin with a slash
named_start : (names : List (List ℕ)) → Named names → get_or (key_of names) 0 0 ≡ slash → ⊥
named_start [] h e = omega (arith, e)
named_start ([] ∷ ns) h e = omega (arith, h.0)
named_start ((b ∷ bs) ∷ ns) h e = h.1.0 e

root_start : (parts names : List (List ℕ)) → parts ≡ root_dir ∷ names → get_or (key_of parts) 0 0 ≡ slash
root_start parts names is = ap (λ p. get_or (key_of p) 0 0) is

parts_same : (xs ys : List (List ℕ)) → Parts xs → Parts ys → key_of xs ≡ key_of ys → xs ≡ ys
parts_same xs ys (inl p) (inl q) e = named_same xs ys p q e
parts_same xs ys (inl p) (inr q) e = absurd (named_start xs p (ap (λ k. get_or k 0 0) e ∙ root_start ys q.0 q.1.0))
parts_same xs ys (inr p) (inl q) e = absurd (named_start ys q (sym (ap (λ k. get_or k 0 0) e) ∙ root_start xs p.0 p.1.0))
parts_same xs ys (inr p) (inr q) e =
    let keys : key_of (root_dir ∷ p.0) ≡ key_of (root_dir ∷ q.0) = ap key_of (sym p.1.0) ∙ e ∙ ap key_of q.1.0 in
    let rest : key_of p.0 ≡ key_of q.0 = ap (drop 2) keys in
    p.1.0 ∙ ap (λ names. root_dir ∷ names) (named_same p.0 q.0 p.1.1 q.1.1 rest) ∙ sym q.1.0

-- two paths of one key have the same components
pub same_components : (a b : List ℕ) → key_of (path_components a) ≡ key_of (path_components b) → path_components a ≡ path_components b
same_components a b e = parts_same (path_components a) (path_components b) (parts_of a) (parts_of b) e
