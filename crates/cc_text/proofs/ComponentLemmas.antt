-- The components of a path, and the text from one of them on.
use Rattle.std.proofs.Common.{◌≡◌, ◌≢◌, ℕ, List, [], ◌++◌, true, false, IsTrue, bytes_eq, codes, refl, sym, ap, subst, ◌∙◌, ne_eqb}
use Rattle.std.specs.Path.{slash, is_name, parent_dir, HasNoSlash, is_dot_at, path_components, path_names, leading_components, path_join, IsRelative}
use Rattle.std.proofs.lemmas.Bool.{cond-false, false≢true}
use Rattle.std.proofs.lemmas.Paths.{path_components_join}
use Rattle.std.proofs.lemmas.Slice.Eq.{bytes_eq-Decides}
use Rattle.cc_text.specs.declared.parts.Component.TheVariants.{Normal}
use Rattle.cc_text.specs.Components.{component_of, KeepsComponents}

apart : (xs ys : List ℕ) → (xs ≡ ys → ⊥) → bytes_eq xs ys ≡ false
apart xs ys differ =
    elim (bytes_eq xs ys) as (λ b. (b ≡ true → xs ≡ ys) → b ≡ false) [ true ↦ λ f. absurd (differ (f refl)) | false ↦ λ f. refl ] ((bytes_eq-Decides xs ys).0)

pub name_is_normal : (name : List ℕ) → IsTrue (is_name name) → name ≢ parent_dir → HasNoSlash name → component_of name ≡ Normal name
name_is_normal name some other none =
    rw (apart name (codes "/") (λ e. subst (λ n. HasNoSlash n) e none), apart name (codes ".") (λ e. false≢true (subst (λ n. IsTrue (is_name n)) e some)), apart name (codes "..") other)

no_leading : (path : List ℕ) → IsRelative path → is_dot_at path 0 ≡ false → leading_components path ≡ []
no_leading path relative no_dot = cond-false _ _ _ (ne_eqb _ slash relative) ∙ cond-false _ _ _ no_dot

only_names : (path : List ℕ) → leading_components path ≡ [] → path_components path ≡ path_names path
unfolding path_components
only_names path e = ap (λ front. front ++ path_names path) e

pub joined_components : (base path : List ℕ) → KeepsComponents base path → path_components (path_join base path) ≡ path_components base ++ path_components path
joined_components base path h =
    path_components_join base path h.0 h.1
    ∙ ap (λ names. path_components base ++ names) (sym (only_names path (no_leading path h.1 h.2)))
