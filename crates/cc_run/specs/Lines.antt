-- Lines of bytes.
use Rattle.std.specs.Prelude.{◌≡◌, ℕ, Bool, false, List, [], ◌∷◌, ◌++◌, ◌==◌, length, map, filter, nat_lt, not, bytes_eq, ◌&&◌, Option, Some, None}
use Rattle.std.specs.List.{slice_split}
use Rattle.std.specs.Str.Lines.{strip_carriage_return}

abbrev pub is_feed : ℕ → Bool
is_feed b = b == 10

-- no line feed
abbrev pub IsUncut : List ℕ → Type 0
IsUncut [] = Unit {0}
IsUncut (b ∷ bytes) = (is_feed b ≡ false) × IsUncut bytes

-- the pieces between line feeds
abbrev pub pieces : List ℕ → List (List ℕ)
pieces = slice_split is_feed

-- all but the last
abbrev pub front : {X : Type 0} → List X → List X
front [] = []
front (x ∷ []) = []
front (x ∷ y ∷ ys) = x ∷ front (y ∷ ys)

-- the last piece
abbrev pub back : List (List ℕ) → List ℕ
back [] = []
back (x ∷ []) = x
back (x ∷ y ∷ ys) = back (y ∷ ys)

-- the lines that end at a line feed, without it
abbrev pub whole_lines : List ℕ → List (List ℕ)
whole_lines bytes = front (pieces bytes)

-- the bytes after the last line feed
abbrev pub rest_of : List ℕ → List ℕ
rest_of bytes = back (pieces bytes)

-- a rest without a line feed is a line, if it has a byte
abbrev pub last_line : List ℕ → Option (List ℕ)
last_line [] = None
last_line (b ∷ bytes) = Some (b ∷ bytes)

abbrev pub some_line : List ℕ → List (List ℕ)
some_line [] = []
some_line (b ∷ bytes) = (b ∷ bytes) ∷ []

-- one split of all bytes at line feeds, an empty last piece dropped
abbrev pub lines : List ℕ → List (List ℕ)
lines bytes = whole_lines bytes ++ some_line (rest_of bytes)

-- a line that isn't to be left out
abbrev pub is_other : Option (List ℕ) → List ℕ → Bool
is_other None line = nat_lt 0 (length line)
is_other (Some ignored) line = nat_lt 0 (length line) && not (bytes_eq line ignored)

-- the lines of a standard error that are warnings: those that have a byte, without one carriage return at the end, and
-- without an ignored line
abbrev pub warnings : Option (List ℕ) → List ℕ → List (List ℕ)
warnings ignored bytes = filter (is_other ignored) (map strip_carriage_return (pieces bytes))
