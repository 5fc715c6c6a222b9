-- Words between white space, and texts that have a byte.
use Rattle.std.specs.Prelude.{ℕ, List, [], ◌∷◌, Option, Some, None, map}
use Rattle.std.specs.Char.{is_whitespace}
use Rattle.std.specs.List.{filter, slice_split}
use Rattle.std.specs.Str.{chars, encode_utf8_all}
use Rattle.cc_text.specs.Pieces.{has_bytes}

-- the text, where there is one and it has a byte
abbrev pub nonempty : Option (List ℕ) → Option (List ℕ)
nonempty None = None
nonempty (Some []) = None
nonempty (Some (b ∷ text)) = Some (b ∷ text)

-- the parts between the characters that Unicode counts as white space, less the empty ones
unfoldable pub white_words : List ℕ → List (List ℕ)
white_words text = filter has_bytes (map encode_utf8_all (slice_split is_whitespace (chars text)))
