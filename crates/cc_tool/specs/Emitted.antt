-- Lists of distinct texts.
use Rattle.std.specs.Prelude.{ℕ, Bool, true, not, ◌&&◌, List, [], ◌∷◌}
use Rattle.cc_text.specs.Words.{is_among}

-- no text is there twice
abbrev pub is_distinct : List (List ℕ) → Bool
is_distinct [] = true
is_distinct (text ∷ texts) = not (is_among texts text) && is_distinct texts
