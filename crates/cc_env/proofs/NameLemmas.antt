-- `-` and `.` as `_`, character by character.
use Rattle.std.proofs.Common.{◌≡◌, ℕ, ◌<◌, ◌≤◌, List, [], ◌∷◌, ◌++◌, Bool, true, false, cond, map, flat_map, encode_utf8, refl, sym, ap, ap₂, ◌∙◌, ⊎_elim, arith, ltb}
use Rattle.std.proofs.lemmas.Bool.{cases_lt}
use Rattle.std.proofs.lemmas.Bool.Decides.{nat_tests}
use Rattle.std.proofs.lemmas.List.{map-append}
use Rattle.std.proofs.lemmas.Str.{encodes-chars}
use Rattle.std.proofs.lemmas.Str.Ascii.{encode_ascii}
use Rattle.std.specs.Str.{IsUtf8, chars}
use lib.Utf8.{encode, encodes}
use Rattle.cc_env.specs.Names.{underscore, underscored}

plain : (b : ℕ) → 128 ≤ b → underscore b ≡ b
plain b h = grind (arith, nat_tests)

small : (c : ℕ) → c < 128 → underscore c < 128
small c h = grind (arith, nat_tests)

two : (a b : ℕ) → 128 ≤ a → 128 ≤ b → map underscore (a ∷ b ∷ []) ≡ a ∷ b ∷ []
two a b h i = ap₂ (λ x y. x ∷ y ∷ []) (plain a h) (plain b i)

three : (a b d : ℕ) → 128 ≤ a → 128 ≤ b → 128 ≤ d → map underscore (a ∷ b ∷ d ∷ []) ≡ a ∷ b ∷ d ∷ []
three a b d h i j = ap₂ (λ x l. x ∷ l) (plain a h) (two b d i j)

four : (a b d e : ℕ) → 128 ≤ a → 128 ≤ b → 128 ≤ d → 128 ≤ e → map underscore (a ∷ b ∷ d ∷ e ∷ []) ≡ a ∷ b ∷ d ∷ e ∷ []
four a b d e h i j k = ap₂ (λ x l. x ∷ l) (plain a h) (three b d e i j k)

chosen : (s t : Bool) (xs ys zs : List ℕ) → map underscore xs ≡ xs → map underscore ys ≡ ys → map underscore zs ≡ zs → map underscore (cond s xs (cond t ys zs)) ≡ cond s xs (cond t ys zs)
chosen true t xs ys zs x y z = x
chosen false true xs ys zs x y z = y
chosen false false xs ys zs x y z = z

past : (t : Bool) (xs ys : List ℕ) → t ≡ false → map underscore ys ≡ ys → map underscore (cond t xs ys) ≡ cond t xs ys
past true xs ys e h = cc
past false xs ys e h = h

large : (c : ℕ) → 128 ≤ c → map underscore (encode c) ≡ encode c
unfolding encode
large c h = past (ltb c 128) _ _ (grind (arith, nat_tests)) (chosen (ltb c 2048) (ltb c 65536) _ _ _ (two _ _ (omega arith) (omega arith)) (three _ _ _ (omega arith) (omega arith) (omega arith)) (four _ _ _ _ (omega arith) (omega arith) (omega arith) (omega arith)))

one : (c : ℕ) → map underscore (encode c) ≡ encode (underscore c)
one c = ⊎_elim
    (λ l. ap (map underscore) (encode_ascii c l) ∙ sym (encode_ascii (underscore c) (small c l)))
    (λ h. large c h ∙ ap encode (sym (plain c h)))
    (cases_lt c 128)

all : (cs : List ℕ) → map underscore (encodes cs) ≡ flat_map (λ c. encode_utf8 (underscore c)) cs
all [] = refl
all (c ∷ cs) = map-append underscore (encode c) (encodes cs) ∙ ap₂ (λ a b. a ++ b) (one c) (all cs)

-- a text with its characters in turn
pub underscored_chars : (text : List ℕ) → IsUtf8 text → underscored text ≡ flat_map (λ c. encode_utf8 (underscore c)) (chars text)
unfolding underscored
underscored_chars text u = ap (map underscore) (sym (encodes-chars text u)) ∙ all (chars text)
