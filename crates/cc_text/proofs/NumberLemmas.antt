-- A number that Rust reads, as a definition that computes.
use Rattle.std.proofs.Common.{◌≡◌, ℕ, ◌<◌, ◌^◌, Bool, true, false, cond, ◌&&◌, List, [], ◌∷◌, Some, None, Result, Ok, Err, length, nat_lt, refl, ap}
use Rattle.std.specs.Bool.{Decides}
use Rattle.std.specs.Char.{digit_value}
use Rattle.std.specs.List.{list_all}
use Rattle.std.specs.Result.{OkIff, result_ok}
use Rattle.std.specs.Str.Parse.{AllDigits, IsNumeral, ParsesUnsigned, digits_value, without_leading_plus}
use Rattle.std.proofs.lemmas.Bool.{and_parts, and_from}
use Rattle.std.proofs.lemmas.Bool.Decides.{Decides-ltb}
use Rattle.cc_text.specs.Numbers.{is_numeral, u32_of}

is_digit : ℕ → Bool
is_digit c = nat_lt (digit_value c) 10

all_digits : (ds : List ℕ) → Decides (list_all (λ c. nat_lt (digit_value c) 10) ds) (AllDigits 10 ds)
all_digits [] = (λ _. tt, λ _. refl)
all_digits (c ∷ cs) =
    let rest = all_digits cs in
    let first = Decides-ltb (digit_value c) 10 in
    (λ h. let p = and_parts _ _ h in (first.0 p.0, rest.0 p.1), λ p. and_from _ _ (first.1 p.0) (rest.1 p.1))

numeral : (ds : List ℕ) → Decides (is_numeral ds) (IsNumeral 10 ds)
numeral ds =
    let some = Decides-ltb 0 (length ds) in
    let all = all_digits ds in
    (λ h. let p = and_parts _ _ h in (some.0 p.0, all.0 p.1), λ p. and_from _ _ (some.1 p.0) (all.1 p.1))

fits : (ds : List ℕ) → Decides (is_numeral ds && nat_lt (digits_value 10 ds) (2 ^ 32)) (IsNumeral 10 ds × (digits_value 10 ds < 2 ^ 32))
fits ds =
    let form = numeral ds in
    let small = Decides-ltb (digits_value 10 ds) (2 ^ 32) in
    (λ h. let p = and_parts _ _ h in (form.0 p.0, small.0 p.1), λ p. and_from _ _ (form.1 p.0) (small.1 p.1))

-- an answer that is there where a test holds
answer : {E : Type 0} (P : Type 0) (t : Bool) (v : ℕ) (r : Result ℕ E) → Decides t P → OkIff r P v → result_ok r ≡ cond t (Some v) None
answer P true v (Ok x) d h = ap Some h.1
answer P false v (Ok x) d h = let e = d.1 h.0 in cc
answer P true v (Err x) d h = absurd (h (d.0 refl))
answer P false v (Err x) d h = refl

pub parse_is_u32_of : {E : Type 0} (bs : List ℕ) (r : Result ℕ E) → ParsesUnsigned 32 10 bs r → result_ok r ≡ u32_of bs
unfolding u32_of
parse_is_u32_of bs r h = answer _ _ _ r (fits (without_leading_plus bs)) h
