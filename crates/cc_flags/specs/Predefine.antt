-- The symbols that an assembler for Arm knows before it reads a source: each is a number, a text or a truth value.
use Rattle.std.specs.Prelude.{ℕ, ℤ, ◌+◌, ◌^◌, Bool, nat_eq, nat_lt, ◌&&◌, List, [], ◌∷◌, ◌++◌, Option, Some, None, codes, if◌then◌else◌}
use Rattle.std.specs.Fmt.{signed_decimal}
use Rattle.std.specs.List.{flat_map, starts_with, ends_with}
use Rattle.std.specs.Str.Parse.{digits_value, signed_digits_value, starts_with_minus, without_leading_sign}
use Rattle.cc_text.specs.Numbers.{is_numeral}
use Rattle.cc_flags.specs.declared.build_flags.Definition.{Definition}

-- as many numbers of 32 bits are there on this side of zero, without a sign, and one more below it
abbrev pub most_after : Bool → ℕ
most_after is_below = if is_below then 2 ^ 31 + 1 else 2 ^ 31

-- the number of 32 bits with a sign that Rust reads from a text: digits, after one `+` or `-` at most
unfoldable pub i32_of : List ℕ → Option ℤ
i32_of text =
    let digits = without_leading_sign text in
    if is_numeral digits && nat_lt (digits_value 10 digits) (most_after (starts_with_minus text)) then Some (signed_digits_value 10 text) else None

-- the text stands between quotes
unfoldable pub is_quoted : List ℕ → Bool
is_quoted text = starts_with nat_eq text (codes "\"") && ends_with nat_eq text (codes "\"")

-- a text, between quotes
abbrev pub between_quotes : List ℕ → List ℕ
between_quotes text = if is_quoted text then text else codes "\"" ++ text ++ codes "\""

-- a number in decimal, or else a text
abbrev pub number_or_text : List ℕ → Option ℤ → List ℕ
number_or_text value (Some n) = codes " SETA " ++ signed_decimal n
number_or_text value None = codes " SETS " ++ between_quotes value

-- what a symbol is set to: without a value it is true
abbrev pub setting : Option (List ℕ) → List ℕ
setting None = codes " SETL {TRUE}"
setting (Some value) = number_or_text value (i32_of value)

-- the words of one
abbrev pub predefined : Definition → List (List ℕ)
predefined definition = codes "-PreDefine" ∷ (definition.name ++ setting definition.value) ∷ []

unfoldable pub predefine_words : List Definition → List (List ℕ)
predefine_words definitions = flat_map predefined definitions
