-- The second character of an arg.
use Rattle.std.proofs.Common.{◌≡◌, ℕ, List, ◌++◌, Option, Some, None, MatchOption, length, drop, encode_utf8, slice_get, sym, ap, ◌∙◌}
use Rattle.std.specs.Str.{chars}
use Rattle.std.proofs.Math.Seq.{drop-append_seam}
use Rattle.cc_tool.specs.Tool.{behind}

pub behind_is : (arg rest : List ℕ) (r s : Option ℕ) → r ≡ slice_get (chars arg) 0 → MatchOption r (rest ≡ arg) (λ c. arg ≡ encode_utf8 c ++ rest) → s ≡ slice_get (chars rest) 0 → s ≡ behind arg (slice_get (chars arg) 0)
behind_is arg rest None s e same f = f ∙ ap (λ l. slice_get (chars l) 0) same ∙ sym e ∙ ap (behind arg) e
behind_is arg rest (Some c) s e cut f = f ∙ ap (λ l. slice_get (chars l) 0) (sym (ap (drop (length (encode_utf8 c))) cut ∙ drop-append_seam (encode_utf8 c) rest)) ∙ ap (behind arg) e

-- a step of the characters of a text
pub step_is : {X : Type 0} (rest : X → List ℕ) (arg : List ℕ) (r : Option ℕ) (s t : X) → rest s ≡ arg → MatchOption r ((length (rest s) ≡ 0) × (t ≡ s)) (λ c. rest s ≡ encode_utf8 c ++ rest t) → MatchOption r (rest t ≡ arg) (λ c. arg ≡ encode_utf8 c ++ rest t)
step_is rest arg None s t e h = ap rest h.1 ∙ e
step_is rest arg (Some c) s t e h = sym e ∙ h
