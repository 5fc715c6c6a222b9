-- Tests of a text against a literal. Case counts.
use Rattle.std.specs.Prelude.{ℕ, Bool, nat_eq, List, [], ◌∷◌, codes, bytes_eq}
use Rattle.std.specs.List.{starts_with}
use Rattle.cc_text.specs.Within.{is_within}
use Prim.Native.String.{String}

-- the text is the literal
abbrev pub is : List ℕ → String → Bool
is text literal = bytes_eq text (codes literal)

-- the text begins with the prefix
unfoldable pub begins_with : List ℕ → List ℕ → Bool
begins_with text prefix = starts_with nat_eq text prefix

-- the text begins with the literal
abbrev pub begins : List ℕ → String → Bool
begins text literal = begins_with text (codes literal)

-- the literal stands in the text
abbrev pub has : List ℕ → String → Bool
has text literal = is_within (codes literal) text

-- one word
abbrev pub word : String → List (List ℕ)
word literal = codes literal ∷ []
