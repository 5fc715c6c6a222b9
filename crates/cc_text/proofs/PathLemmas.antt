-- Paths: the text up to the stem, and equality by prefixes both ways.
use Rattle.std.proofs.Common.{◌≡◌, ◌↔◌, ℕ, List, [], ◌∷◌, ◌++◌, Bool, true, false, take, length, codes, is_some, IsTrue, IsSome, refl, sym, ap, ◌∙◌, append-nil, arith, length-append}
use Rattle.std.specs.Path.{path_components, path_file_name, path_set_extension, stem_end, PathStartsWith}
use Rattle.cc_text.specs.Paths.{with_extension}

stem_of_path : (path : List ℕ) → is_some (path_file_name path) ≡ true → path_set_extension path [] ≡ take (stem_end path) path
unfolding path_set_extension
stem_of_path path named = rw (named, append-nil (take (stem_end path) path ++ []), append-nil (take (stem_end path) path))

whole_path : (path : List ℕ) → is_some (path_file_name path) ≡ false → path_set_extension path [] ≡ path
unfolding path_set_extension
whole_path path unnamed = rw unnamed

pub named_extension : (is_named : Bool) (path ext stem dotted text : List ℕ) → (IsTrue is_named ↔ IsSome (path_file_name path)) → is_named ≡ true → stem ≡ path_set_extension path [] → dotted ≡ stem ++ codes "." → text ≡ dotted ++ ext → text ≡ with_extension path ext
unfolding with_extension
named_extension is_named path ext stem dotted text iff named s d t =
    let some : is_some (path_file_name path) ≡ true = iff.0 named in
    rw some (t ∙ ap (λ x. x ++ ext) (d ∙ ap (λ x. x ++ codes ".") (s ∙ stem_of_path path some)))

unnamed : (b some : Bool) → (some ≡ true → b ≡ true) → b ≡ false → some ≡ false
unnamed b false f e = refl
unnamed b true f e = let t : b ≡ true = f refl in cc

pub unnamed_extension : (is_named : Bool) (path ext stem : List ℕ) → (IsTrue is_named ↔ IsSome (path_file_name path)) → is_named ≡ false → stem ≡ path_set_extension path [] → stem ≡ with_extension path ext
unfolding with_extension
unnamed_extension is_named path ext stem iff e s =
    let none : is_some (path_file_name path) ≡ false = unnamed is_named (is_some (path_file_name path)) iff.1 e in
    rw none (s ∙ whole_path path none)

both : (xs ys front back : List (List ℕ)) → xs ≡ ys ++ front → ys ≡ xs ++ back → xs ≡ ys
both xs ys [] back e d = e ∙ append-nil ys
both xs ys (x ∷ front) back e d = absurd (omega (arith, ap length e, ap length d, length-append {A = List ℕ}))

pub same_by_both : (a b : List ℕ) → PathStartsWith a b → PathStartsWith b a → path_components a ≡ path_components b
same_by_both a b s t = both (path_components a) (path_components b) s.0 t.0 s.1 t.1

pub starts_by_same : (a b : List ℕ) → path_components a ≡ path_components b → PathStartsWith a b
starts_by_same a b e = ([], e ∙ sym (append-nil (path_components b)))
