-- A number with a sign that Rust reads, as a definition that computes.
use Rattle.std.proofs.Common.{◌≡◌, ℕ, ℤ, zero, suc, pos, ◌<◌, ◌^◌, Bool, true, false, cond, ◌&&◌, List, [], ◌∷◌, Some, None, Result, Ok, Err, length, nat_lt, refl, ap, w32, arith, lit<, if◌then◌else◌}
use Rattle.std.specs.Bool.{Decides}
use Rattle.std.specs.Char.{digit_value}
use Rattle.std.specs.List.{list_all}
use Rattle.std.specs.Result.{OkIff, result_ok}
use Rattle.std.specs.Str.Parse.{AllDigits, IsNumeral, ParsesSigned, digits_value, signed_digits_value, starts_with_minus, without_leading_sign}
use Rattle.std.proofs.lemmas.Bool.{and_parts, and_from}
use Rattle.std.proofs.lemmas.Bool.Decides.{Decides-ltb}
use Rattle.cc_text.specs.Numbers.{is_numeral}
use Rattle.cc_flags.specs.Predefine.{most_after, i32_of}
use lib.IntN.{neg_ℤ}
use mir.Val.{SFits}

all_digits : (ds : List ℕ) → Decides (list_all (λ c. nat_lt (digit_value c) 10) ds) (AllDigits 10 ds)
all_digits [] = (λ _. tt, λ _. refl)
all_digits (c ∷ cs) =
    let rest = all_digits cs in
    let first = Decides-ltb (digit_value c) 10 in
    (λ h. let p = and_parts _ _ h in (first.0 p.0, rest.0 p.1), λ p. and_from _ _ (first.1 p.0) (rest.1 p.1))

numeral : (ds : List ℕ) → Decides (is_numeral ds) (IsNumeral 10 ds)
numeral ds =
    let some = Decides-ltb 0 (length ds) in
    let all = all_digits ds in
    (λ h. let p = and_parts _ _ h in (some.0 p.0, all.0 p.1), λ p. and_from _ _ (some.1 p.0) (all.1 p.1))

-- there is one number more below zero
fits_signed : (minus : Bool) (n : ℕ) → Decides (nat_lt n (most_after minus)) (SFits w32 (cond minus (neg_ℤ (pos n)) (pos n)))
fits_signed false n = let d = Decides-ltb n (2 ^ 31) in (λ h. record { sfits = d.0 h }, λ s. d.1 s.sfits)
fits_signed true zero = (λ _. record { sfits = lit< tt }, λ _. refl)
fits_signed true (suc n) =
    let d = Decides-ltb (suc n) (most_after true) in
    (λ h. let e = d.0 h in record { sfits = omega arith }, λ s. let e = s.sfits in d.1 (omega arith))

fits : (text : List ℕ) → Decides (is_numeral (without_leading_sign text) && nat_lt (digits_value 10 (without_leading_sign text)) (most_after (starts_with_minus text))) (IsNumeral 10 (without_leading_sign text) × SFits w32 (signed_digits_value 10 text))
fits text =
    let form = numeral (without_leading_sign text) in
    let small = fits_signed (starts_with_minus text) (digits_value 10 (without_leading_sign text)) in
    (λ h. let p = and_parts _ _ h in (form.0 p.0, small.0 p.1), λ p. and_from _ _ (form.1 p.0) (small.1 p.1))

-- an answer that is there where a test holds
answer : {E : Type 0} (P : Type 0) (t : Bool) (v : ℤ) (r : Result ℤ E) → Decides t P → OkIff r P v → result_ok r ≡ cond t (Some v) None
answer P true v (Ok x) d h = ap Some h.1
answer P false v (Ok x) d h = let e = d.1 h.0 in cc
answer P true v (Err x) d h = absurd (h (d.0 refl))
answer P false v (Err x) d h = refl

pub parse_is_i32_of : {E : Type 0} (text : List ℕ) (r : Result ℤ E) → ParsesSigned w32 10 text r → result_ok r ≡ i32_of text
unfolding i32_of
parse_is_i32_of text r h = answer _ _ _ r (fits text) h
