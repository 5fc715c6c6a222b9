-- How a character stands in a string, by its bytes.
use Rattle.std.proofs.Common.{◌≡◌, ℕ, ◌+◌, ◌/◌, ◌%◌, ◌<◌, ◌≤◌, Bool, true, false, List, [], ◌∷◌, ◌++◌, nat_lt, codes, if◌then◌else◌, refl, sym, ap, ◌∙◌, arith, append_assoc, append-nil}
use Rattle.std.specs.Char.{encode_utf8}
use Rattle.std.specs.Str.{encode_utf8_all}
use Rattle.std.proofs.lemmas.Bool.Decides.{nat_tests}
use Rattle.std.proofs.lemmas.Str.{encode_ascii, encodes-append}
use Rattle.std.proofs.lemmas.Grind.{flat_map-append}
use Rattle.cc_db.specs.Database.{control, escape, escaped}

-- a byte that needs no escape
pub plain_byte : (b : ℕ) → 32 ≤ b → (b ≡ 34 → ⊥) → (b ≡ 92 → ⊥) → escape b ≡ b ∷ []
unfolding escape
plain_byte b l q s = grind (arith, nat_tests)

-- the byte of a control character
pub control_byte : (b : ℕ) → b < 32 → escape b ≡ control b
unfolding escape
control_byte b l = grind (arith, nat_tests)

-- a byte past ASCII
high_byte : (b : ℕ) → 128 ≤ b → escape b ≡ b ∷ []
high_byte b l = plain_byte b (omega (arith, l)) (λ e. omega (arith, l, e)) (λ e. omega (arith, l, e))

two_bytes : (x y : ℕ) → 128 ≤ x → 128 ≤ y → escaped (x ∷ y ∷ []) ≡ x ∷ y ∷ []
two_bytes x y a b = rw (high_byte x a, high_byte y b) refl

three_bytes : (x y z : ℕ) → 128 ≤ x → 128 ≤ y → 128 ≤ z → escaped (x ∷ y ∷ z ∷ []) ≡ x ∷ y ∷ z ∷ []
three_bytes x y z a b c = rw (high_byte x a, high_byte y b, high_byte z c) refl

four_bytes : (x y z w : ℕ) → 128 ≤ x → 128 ≤ y → 128 ≤ z → 128 ≤ w → escaped (x ∷ y ∷ z ∷ w ∷ []) ≡ x ∷ y ∷ z ∷ w ∷ []
four_bytes x y z w a b c d = rw (high_byte x a, high_byte y b, high_byte z c, high_byte w d) refl

by_size : (p q r : Bool) (a b c d : List ℕ) → escaped a ≡ a → escaped b ≡ b → escaped c ≡ c → escaped d ≡ d → escaped (if p then a else (if q then b else (if r then c else d))) ≡ (if p then a else (if q then b else (if r then c else d)))
by_size true q r a b c d ea eb ec ed = ea
by_size false true r a b c d ea eb ec ed = eb
by_size false false true a b c d ea eb ec ed = ec
by_size false false false a b c d ea eb ec ed = ed

one_byte : (c : ℕ) → escape c ≡ c ∷ [] → escaped (c ∷ []) ≡ c ∷ []
one_byte c e = rw e refl

-- a character that needs no escape
pub plain_char : (c : ℕ) → 32 ≤ c → (c ≡ 34 → ⊥) → (c ≡ 92 → ⊥) → escaped (encode_utf8 c) ≡ encode_utf8 c
unfolding encode_utf8
plain_char c l q s =
    by_size (nat_lt c 128) (nat_lt c 2048) (nat_lt c 65536) (c ∷ []) ((192 + c / 64) ∷ (128 + c % 64) ∷ [])
    ((224 + c / 4096) ∷ (128 + c / 64 % 64) ∷ (128 + c % 64) ∷ [])
    ((240 + c / 262144) ∷ (128 + c / 4096 % 64) ∷ (128 + c / 64 % 64) ∷ (128 + c % 64) ∷ [])
    (one_byte c (plain_byte c l q s))
    (two_bytes (192 + c / 64) (128 + c % 64) (omega arith) (omega arith))
    (three_bytes (224 + c / 4096) (128 + c / 64 % 64) (128 + c % 64) (omega arith) (omega arith) (omega arith))
    (four_bytes (240 + c / 262144) (128 + c / 4096 % 64) (128 + c / 64 % 64) (128 + c % 64) (omega arith) (omega arith) (omega arith) (omega arith))

pub quote_char : (c : ℕ) → c ≡ 34 → escaped (encode_utf8 c) ≡ codes "\\\""
unfolding escape encode_utf8
quote_char c e = rw e refl

pub backslash_char : (c : ℕ) → c ≡ 92 → escaped (encode_utf8 c) ≡ codes "\\\\"
unfolding escape encode_utf8
backslash_char c e = rw e refl

-- a control character
pub control_char : (c : ℕ) → c < 32 → escaped (encode_utf8 c) ≡ control c
unfolding control
control_char c l = rw (encode_ascii c (omega (arith, l)), control_byte c l) refl

-- a character more
pub more_escaped : (text old : List ℕ) (cs : List ℕ) (c : ℕ) (after : List ℕ) → text ≡ old ++ escaped (encode_utf8_all cs) → after ≡ text ++ escaped (encode_utf8 c) → after ≡ old ++ escaped (encode_utf8_all (cs ++ c ∷ []))
more_escaped text old cs c after h e =
    e
    ∙ ap (λ s. s ++ escaped (encode_utf8 c)) h
    ∙ append_assoc old (escaped (encode_utf8_all cs)) (escaped (encode_utf8 c))
    ∙ ap (λ s. old ++ s) (sym (flat_map-append escape (encode_utf8_all cs) (encode_utf8 c)))
    ∙ ap (λ s. old ++ escaped s) (ap (λ l. encode_utf8_all cs ++ l) (sym (append-nil (encode_utf8 c))) ∙ sym (encodes-append cs (c ∷ [])))

-- each kind of character
pub ruleset escapes = (quote_char, backslash_char, control_char, plain_char)
