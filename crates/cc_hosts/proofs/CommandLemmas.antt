-- The variables of a child, set one after the other.
use Rattle.std.proofs.Common.{◌≡◌, ℕ, Bool, true, false, List, [], ◌∷◌, ◌++◌, Some, option_map, bytes_eq, if◌then◌else◌, reverse, refl, ◌∙◌, ap}
use Rattle.std.proofs.lemmas.List.{reverse-append}
use Rattle.cc_text.specs.Vars.{is_named, lookup}
use Rattle.cc_hosts.specs.Child.{child_value}

first_is : (b : Bool) (pair : List ℕ × List ℕ) (vars : List (List ℕ × List ℕ)) (name : List ℕ) → is_named name pair ≡ b → option_map Some (lookup (pair ∷ vars) name) ≡ (if b then Some (Some pair.1) else option_map Some (lookup vars name))
first_is true pair vars name e = rw e refl
first_is false pair vars name e = rw e refl

-- the last pair of the name counts
pub value_more : (vars : List (List ℕ × List ℕ)) (pair : List ℕ × List ℕ) (name : List ℕ) → child_value (vars ++ pair ∷ []) name ≡ (if bytes_eq pair.0 name then Some (Some pair.1) else child_value vars name)
value_more vars pair name =
    ap (λ l. option_map Some (lookup l name)) (reverse-append vars (pair ∷ [])) ∙ first_is (bytes_eq pair.0 name) pair (reverse vars) name refl
