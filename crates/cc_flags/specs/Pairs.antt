-- Rustflags as a list of pairs of a key and its value.
use Rattle.std.specs.Prelude.{ℕ, Bool, List, [], ◌∷◌, ◌++◌, ◌==◌, Option, Some, None, map, codes, bytes_eq, if◌then◌else◌}
use Rattle.std.specs.Option.{option_map_or}
use Rattle.std.specs.List.{slice_split}
use Prim.Native.String.{String}
use Rattle.cc_text.specs.Words.{is_one_of}
use Rattle.cc_text.specs.Cuts.{after_prefix, key_and_value}
use Rattle.cc_flags.specs.declared.pairs.Pair.{Pair}

-- the text is this literal
abbrev pub is : List ℕ → String → Bool
is text literal = bytes_eq text (codes literal)

-- a part that stands before the part it belongs to
unfoldable pub is_prefix : List ℕ → Bool
is_prefix part =
    is_one_of (map codes ("-Z" ∷ "-C" ∷ "--codegen" ∷ "-L" ∷ "-l" ∷ "-o" ∷ "-W" ∷ "--warn" ∷ "-A" ∷ "--allow" ∷ "-D" ∷ "--deny" ∷ "-F" ∷ "--forbid" ∷ [])) part

-- the short form of a prefix
unfoldable pub short_form : List ℕ → List ℕ
short_form prefix =
    if is prefix "--codegen" then codes "-C"
    else (if is prefix "--warn" then codes "-W"
    else (if is prefix "--allow" then codes "-A"
    else (if is prefix "--deny" then codes "-D"
    else (if is prefix "--forbid" then codes "-F"
    else prefix))))

-- what begins the key of a part, by the prefix before it (empty where there is none), and the rest of the part
unfoldable pub prefix_and_rest : List ℕ → List ℕ → List ℕ × List ℕ
prefix_and_rest prefix part =
    let front = short_form prefix in
    if is front "-C" then (front, part)
    else option_map_or (λ rest. (codes "-C", rest)) (after_prefix part (codes "--codegen=")) (front, part)

-- the pair of a part after its prefix: the rest is parted at its first `=`
unfoldable pub pair_of : List ℕ → List ℕ → Pair
pair_of prefix part =
    let p = prefix_and_rest prefix part in
    option_map_or (λ kv. record { key = p.0 ++ kv.0; value = Some kv.1 }) (key_and_value p.1) (record { key = p.0 ++ p.1; value = None })

-- a pair for each part; a prefix goes with the part after it, and the last part gives none where it is a prefix
unfoldable pub pairs : List (List ℕ) → List Pair
pairs [] = []
pairs (part ∷ []) = if is_prefix part then [] else pair_of [] part ∷ []
pairs (part ∷ next ∷ parts) = if is_prefix part then pair_of part next ∷ pairs parts else pair_of [] part ∷ pairs (next ∷ parts)

-- the pairs that parts give after what may be a prefix
abbrev pub left_of : Option (List ℕ) → List (List ℕ) → List Pair
left_of None parts = pairs parts
left_of (Some prefix) [] = []
left_of (Some prefix) (part ∷ parts) = pair_of prefix part ∷ pairs parts

-- the pairs of encoded rustflags, whose parts end at U+001F
unfoldable pub pairs_of : List ℕ → List Pair
pairs_of encoded = pairs (slice_split (λ b. b == 31) encoded)
