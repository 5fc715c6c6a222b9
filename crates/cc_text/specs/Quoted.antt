-- Texts in double quotes.
use Rattle.std.specs.Prelude.{ℕ, ◌/◌, ◌%◌, List, [], ◌∷◌, ◌++◌, ◌==◌, ◌||◌, nat_lt, flat_map, codes, encode_utf8, if◌then◌else◌}
use Rattle.std.specs.Str.{chars}
use Rattle.cc_text.specs.Hex.{hex_digit}

-- a number below 256 in hexadecimal, without leading zeros
abbrev pub short_hex : ℕ → List ℕ
short_hex code = if nat_lt code 16 then hex_digit code ∷ [] else hex_digit (code / 16) ∷ hex_digit (code % 16) ∷ []

-- `\u{h}`
unfoldable pub escaped : ℕ → List ℕ
escaped code = codes "\\u{" ++ short_hex code ++ codes "}"

-- a character as it stands in quotes
unfoldable pub quoted_char : ℕ → List ℕ
quoted_char c =
    if c == 34 then codes "\\\""
    else (if c == 92 then codes "\\\\"
    else (if c == 10 then codes "\\n"
    else (if c == 13 then codes "\\r"
    else (if c == 9 then codes "\\t"
    else (if c == 0 then codes "\\0"
    else (if nat_lt c 32 || c == 127 then escaped c
    else encode_utf8 c))))))

-- a text in quotes
unfoldable pub quoted : List ℕ → List ℕ
quoted s = codes "\"" ++ flat_map quoted_char (chars s) ++ codes "\""
