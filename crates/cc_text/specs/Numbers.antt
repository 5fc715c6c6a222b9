-- Numbers that a text tells.
use Rattle.std.specs.Prelude.{ℕ, Bool, List, ◌^◌, Option, Some, None, length, nat_lt, ◌&&◌, if◌then◌else◌}
use Rattle.std.specs.List.{list_all}
use Rattle.std.specs.Char.{digit_value}
use Rattle.std.specs.Str.Parse.{digits_value, without_leading_plus}

-- one decimal digit or more, and nothing else
abbrev pub is_numeral : List ℕ → Bool
is_numeral digits = nat_lt 0 (length digits) && list_all (λ c. nat_lt (digit_value c) 10) digits

-- the number of 32 bits that Rust reads from a text: digits, after one `+` at most
unfoldable pub u32_of : List ℕ → Option ℕ
u32_of text =
    let digits = without_leading_plus text in
    if is_numeral digits && nat_lt (digits_value 10 digits) (2 ^ 32) then Some (digits_value 10 digits) else None
