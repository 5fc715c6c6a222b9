-- What stands before the last `-` of a text.
use Rattle.std.proofs.Common.{◌≡◌, ℕ, suc, ◌<◌, Bool, true, false, ◌||◌, nat_eq, List, [], ◌∷◌, ◌++◌, length, get_or, take, drop, Option, Some, None, MatchOption, Bor, refl, ap, sym, ◌∙◌, arith, ne_eqb, take-append-drop}
use Rattle.std.specs.Option.{option_map_or}
use Rattle.std.specs.Str.Pattern.{RFindsChar, SplitsAroundMatch}
use Rattle.std.proofs.lemmas.Str.Pattern.{NoCharPasses-char, drop_at_char}
use Rattle.cc_flags.specs.CompilerNames.{has_dash, before_last_dash}

-- a text none of whose bytes is a `-`
no_dash : (text : List ℕ) → ((i : ℕ) → i < length text → get_or text i 0 ≡ 45 → ⊥) → has_dash text ≡ false
no_dash [] absent = refl
no_dash (b ∷ text) absent =
    let here : nat_eq b 45 ≡ false = ne_eqb b 45 (absent 0 (omega arith)) in
    rw here (no_dash text (λ i below. absent (suc i) (omega arith)))

or_true : (x y : Bool) → y ≡ true → (x || y) ≡ true
or_true true y e = refl
or_true false y e = e

dash_between : (before after : List ℕ) → has_dash (before ++ 45 ∷ after) ≡ true
dash_between [] after = refl
dash_between (b ∷ before) after = or_true (nat_eq b 45) _ (dash_between before after)

rest_without : (x y : Bool) → (x || y) ≡ false → y ≡ false
rest_without true y e = cc
rest_without false y e = e

nothing_before : (text : List ℕ) → has_dash text ≡ false → before_last_dash text ≡ []
unfolding before_last_dash
nothing_before [] none = refl
nothing_before (b ∷ text) none = let rest : has_dash text ≡ false = rest_without (nat_eq b 45) _ none in rw rest refl

before_dash : (before after : List ℕ) → has_dash after ≡ false → before_last_dash (before ++ 45 ∷ after) ≡ before
unfolding before_last_dash
before_dash [] after none = rw none refl
before_dash (b ∷ before) after none = rw (dash_between before after) (ap (λ t. b ∷ t) (before_dash before after none))

pub splits_at_dash : (text : List ℕ) (r : Option (Bor (List ℕ) × Bor (List ℕ))) → MatchOption r (RFindsChar 45 text None) (λ x. SplitsAroundMatch (RFindsChar 45) text x.0.now x.1.now) → option_map_or (λ (x : Bor (List ℕ) × Bor (List ℕ)). x.0.now) r [] ≡ before_last_dash text
splits_at_dash text None h = sym (nothing_before text (no_dash text (λ i below. NoCharPasses-char 45 text i h (omega arith) below)))
splits_at_dash text (Some x) h =
    let i = h.0 in
    let j = h.1 in
    let after : drop i text ≡ 45 ∷ drop j text = drop_at_char 45 text i j h.2.1 (omega arith) in
    let whole : text ≡ take i text ++ 45 ∷ drop j text = sym (take-append-drop i text) ∙ ap (λ t. take i text ++ t) after in
    let none : has_dash (drop j text) ≡ false = no_dash (drop j text) (λ k below. NoCharPasses-char 45 (drop j text) k h.2.0 (omega arith) below) in
    h.3 ∙ sym (before_dash (take i text) (drop j text) none) ∙ ap before_last_dash (sym whole)
