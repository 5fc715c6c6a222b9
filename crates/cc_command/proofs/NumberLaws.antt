-- Decimal numbers below 2^32.
use Rattle.std.proofs.Common.{◌≡◌, ◌≢◌, ◌<◌, ◌^◌, ℕ, List, Bool, true, false, ◌&&◌, nat_lt, bytes_eq, Result, Ok, Err, refl, sym, ◌∙◌, ap, subst, arith}
use Rattle.std.specs.Fmt.{decimal}
use Rattle.std.specs.Str.Parse.{digits_value, ParsesUnsigned}
use Rattle.std.proofs.lemmas.Fmt.{decimal_is_IsNumeral, parse-decimal}
use Rattle.std.proofs.lemmas.Bool.Decides.{nat_tests}
use Rattle.std.proofs.lemmas.Slice.Eq.{bytes_eq-Decides}
use Rattle.cc_command.specs.Read.{is_number}

both : (a b : Bool) → (a && b) ≡ true → (a ≡ true) × (b ≡ true)
both true b h = (refl, h)
both false b h = absurd (cc)

lt_true : (m n : ℕ) → m < n → nat_lt m n ≡ true
lt_true m n h = grind (arith, nat_tests)

true_lt : (m n : ℕ) → nat_lt m n ≡ true → m < n
true_lt m n h = grind (arith, nat_tests)

-- the decimal form of a number is a number
pub decimal_is_number : (text : List ℕ) (n : ℕ) → n < 2 ^ 32 → decimal n ≡ text → is_number text ≡ true
unfolding is_number
decimal_is_number text n small is =
    let value : digits_value 10 text ≡ n = ap (digits_value 10) (sym is) ∙ (decimal_is_IsNumeral n (omega arith)).1 in
    let fits : nat_lt (digits_value 10 text) (2 ^ 32) ≡ true = rw value (lt_true n (2 ^ 32) small) in
    let same : bytes_eq text (decimal (digits_value 10 text)) ≡ true = (bytes_eq-Decides text (decimal (digits_value 10 text))).1 (sym is ∙ ap decimal (sym value)) in
    rw (fits, same) refl

-- a number is the decimal form of what `parse` reads
pub number_is_decimal : {E : Type 0} (text : List ℕ) (r : Result ℕ E) → ParsesUnsigned 32 10 text r → is_number text ≡ true → r ≡ Ok (digits_value 10 text)
unfolding is_number
number_is_decimal text r parses number =
    let b = both (nat_lt (digits_value 10 text) (2 ^ 32)) (bytes_eq text (decimal (digits_value 10 text))) number in
    let small : digits_value 10 text < 2 ^ 32 = true_lt (digits_value 10 text) (2 ^ 32) b.0 in
    let is : text ≡ decimal (digits_value 10 text) = (bytes_eq-Decides text (decimal (digits_value 10 text))).0 b.1 in
    parse-decimal 32 (digits_value 10 text) text r small (omega arith) is parses

pub is_decimal : (text : List ℕ) → is_number text ≡ true → text ≡ decimal (digits_value 10 text)
unfolding is_number
is_decimal text number =
    let b = both (nat_lt (digits_value 10 text) (2 ^ 32)) (bytes_eq text (decimal (digits_value 10 text))) number in
    (bytes_eq-Decides text (decimal (digits_value 10 text))).0 b.1

not_true : (b : Bool) → (b ≡ true → ⊥) → b ≡ false
not_true true h = absurd (h refl)
not_true false h = refl

-- what `parse` refuses is no number
pub refused_number : {E : Type 0} (text : List ℕ) (e : E) (r : Result ℕ E) → ParsesUnsigned 32 10 text r → r ≡ Err e → is_number text ≡ false
refused_number text e r parses read = not_true (is_number text) (λ number. let s : r ≡ Ok (digits_value 10 text) = number_is_decimal text r parses number in cc)

-- what `parse` reads is below 2^32
pub read_fits : {E : Type 0} (text : List ℕ) (n : ℕ) (r : Result ℕ E) → ParsesUnsigned 32 10 text r → r ≡ Ok n → n < 2 ^ 32
read_fits text n (Ok m) parses read = let same : m ≡ n = cc in subst (λ (k : ℕ). k < 2 ^ 32) (sym parses.1 ∙ same) parses.0.1
read_fits text n (Err e) parses read = absurd (cc)

-- a test of two texts that passed, or not
pub tested_true : (xs ys : List ℕ) → true ≡ bytes_eq xs ys → xs ≡ ys
tested_true xs ys h = (bytes_eq-Decides xs ys).0 (sym h)

pub tested_false : (xs ys : List ℕ) → false ≡ bytes_eq xs ys → xs ≢ ys
tested_false xs ys h e = let t : bytes_eq xs ys ≡ true = (bytes_eq-Decides xs ys).1 e in let f : true ≡ false = sym t ∙ sym h in cc

-- what `parse` reads otherwise than it is written is no number
pub other_form : {E : Type 0} (text : List ℕ) (n : ℕ) (r : Result ℕ E) → ParsesUnsigned 32 10 text r → r ≡ Ok n → decimal n ≢ text → is_number text ≡ false
other_form text n r parses read differs = not_true (is_number text) (λ number.
    let s : r ≡ Ok (digits_value 10 text) = number_is_decimal text r parses number in
    let same : n ≡ digits_value 10 text = cc in
    differs (ap decimal same ∙ sym (is_decimal text number)))
