-- Words of a text between ASCII blanks.
use Rattle.std.specs.Prelude.{ℕ, Bool, List, length, nat_lt}
use Rattle.std.specs.Char.{is_ascii_whitespace}
use Rattle.std.specs.List.{filter, slice_split}

-- the word has a byte
abbrev pub has_bytes : List ℕ → Bool
has_bytes word = nat_lt 0 (length word)

-- the parts between blanks (space, tab, line feed, form feed, carriage return) that have a byte
unfoldable pub ascii_words : List ℕ → List (List ℕ)
ascii_words s = filter has_bytes (slice_split is_ascii_whitespace s)
