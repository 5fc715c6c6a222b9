-- Words that are added one group after another.
use Rattle.std.proofs.Common.{◌≡◌, ℕ, Bool, List, [], ◌∷◌, ◌++◌, refl, sym, ap, ◌∙◌, append_assoc}
use Rattle.cc_text.specs.Words.{when}

nothing_behind : (words : List (List ℕ)) → words ++ [] ≡ words
nothing_behind [] = refl
nothing_behind (word ∷ words) = ap (λ ws. word ∷ ws) (nothing_behind words)

-- two groups, each where it is wanted
pub two_chosen : (front : List (List ℕ)) (a b : Bool) (x y : List (List ℕ)) → (front ++ when a x) ++ when b y ≡ front ++ (when a x ++ (when b y ++ []))
two_chosen front a b x y = append_assoc front (when a x) (when b y) ∙ ap (λ ws. front ++ (when a x ++ ws)) (sym (nothing_behind (when b y)))
