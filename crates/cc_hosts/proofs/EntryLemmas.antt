-- Entries of an environment: which are text, and which have a name.
use Rattle.std.proofs.Common.{◌≡◌, ℕ, Bool, true, false, List, [], ◌∷◌, Option, Some, None, refl, sym, ap}
use Rattle.std.specs.Str.{IsUtf8, is_utf8}
use Rattle.std.proofs.lemmas.Str.{is_utf8-from_IsUtf8, IsUtf8-from_is_utf8}
use Rattle.cc_text.specs.Cuts.{key_and_value}
use Rattle.cc_hosts.specs.Entry.{text_of, with_name, behind_equals}

text_by : (b : Bool) (bs : List ℕ) → is_utf8 bs ≡ b → ¬ (IsUtf8 bs) → b ≡ false
text_by true bs e h = absurd (h (IsUtf8-from_is_utf8 bs e))
text_by false bs e h = refl

pub text_is : (bs t : List ℕ) → IsUtf8 bs → t ≡ bs → Some t ≡ text_of bs
unfolding text_of
text_is bs t h e = rw (is_utf8-from_IsUtf8 bs h) (ap Some e)

pub no_text : (bs : List ℕ) → ¬ (IsUtf8 bs) → text_of bs ≡ None
unfolding text_of
no_text bs h = rw (text_by (is_utf8 bs) bs refl h) refl

pub nameless : (pair : Option (List ℕ × List ℕ)) (name rest : List ℕ) → Some (name, rest) ≡ pair → name ≡ [] → with_name pair ≡ behind_equals (key_and_value rest)
nameless pair [] rest e n = sym (ap with_name e)
nameless pair (b ∷ name) rest e n = absurd (cc)

pub named : (pair : Option (List ℕ × List ℕ)) (name value : List ℕ) → Some (name, value) ≡ pair → ¬ (name ≡ []) → with_name pair ≡ Some (name, value)
named pair [] value e n = absurd (n refl)
named pair (b ∷ name) value e n = sym (ap with_name e)
