-- What the words of the stand-in ask for.
use Rattle.std.specs.Prelude.{ℕ, ◌+◌, ◌*◌, ◌-◌, ◌%◌, ◌^◌, min, zero, suc, List, [], ◌∷◌, ◌++◌, Bool, true, false, Option, Some, None, find, drop, length, slice_get, fold, flat_map, nat_eq, codes, bytes_eq, ◌||◌, if◌then◌else◌}
use Prim.Native.String.{String}
use Rattle.std.specs.List.{position, list_any, starts_with}
use Rattle.std.specs.Option.{option_and_then, option_or, option_map_or}
use Rattle.cc_text.specs.Cuts.{after_prefix}

abbrev pub is : String → List ℕ → Bool
is literal word = bytes_eq word (codes literal)

-- the word is given
abbrev pub has : List (List ℕ) → String → Bool
has words literal = list_any (is literal) words

-- what follows the prefix in the first word that begins with it
unfoldable pub value_of : List (List ℕ) → List ℕ → Option (List ℕ)
value_of words prefix = option_and_then (λ word. after_prefix word prefix) (find (λ word. starts_with nat_eq word prefix) words)

-- the word behind the first one that is this
unfoldable pub next_to : List (List ℕ) → List ℕ → Option (List ℕ)
next_to words name = option_and_then (λ place. slice_get words (place + 1)) (position (λ word. bytes_eq word name) words)

-- decimal digits as a number, and the greatest of 32 bits where the number is above it
abbrev pub with_digit : ℕ → ℕ → ℕ
with_digit n digit = min (min (n * 10) (2 ^ 32 - 1) + (digit - 48)) (2 ^ 32 - 1)

unfoldable pub number_of : List ℕ → ℕ
number_of digits = fold with_digit 0 digits

-- a word as a line
abbrev pub line : List ℕ → List ℕ
line word = word ++ 10 ∷ []

abbrev pub lines : List (List ℕ) → List ℕ
lines = flat_map line

-- so many lines `x`
abbrev pub x_lines : ℕ → List ℕ
x_lines zero = []
x_lines (suc n) = x_lines n ++ 120 ∷ 10 ∷ []

-- the lines that a word asks for on standard error
unfoldable pub lines_asked : List ℕ → List ℕ
lines_asked word = option_map_or (λ digits. x_lines (number_of digits)) (after_prefix word (codes "--shim-lines=")) []

-- the text that a word asks for there
unfoldable pub text_asked : List ℕ → List ℕ
text_asked word = option_map_or (λ said. line said) (after_prefix word (codes "--shim-err=")) []

-- what is written to standard error
unfoldable pub heard : List (List ℕ) → List ℕ
heard words = flat_map lines_asked words ++ flat_map text_asked words

-- the file that is copied to standard output
unfoldable pub copied : List (List ℕ) → Option (List ℕ)
copied words = if has words "-E" then slice_get words (length words - 1) else None

-- the file that the words are written to
unfoldable pub output : List (List ℕ) → Option (List ℕ)
output words = option_or (next_to words (codes "-o")) (value_of words (codes "-Fo"))

abbrev pub is_archiving : List ℕ → Bool
is_archiving word = is "cqD" word || is "cq" word

-- the words behind the one that asks for an archive: the library, and its members
unfoldable pub archived : List (List ℕ) → List (List ℕ)
archived words = option_map_or (λ place. drop (place + 1) words) (position is_archiving words) []

abbrev pub code_or : Option (List ℕ) → ℕ → ℕ
code_or None other = other
code_or (Some digits) other = number_of digits % 256

-- the number that the stand-in ends with
unfoldable pub status : List (List ℕ) → Bool → ℕ
status words failed = code_or (value_of words (codes "--shim-status=")) (if has words "-?" then 1 else (if failed then 2 else 0))
