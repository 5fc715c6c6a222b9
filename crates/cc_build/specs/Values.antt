-- The values of single settings.
use Rattle.std.specs.Prelude.{ℕ, List, Bool, true, false, not, ◌==◌, codes}
use Rattle.std.specs.List.{list_any}

-- no `=` stands in the text
abbrev pub lacks_equals : List ℕ → Bool
lacks_equals text = not (list_any (λ b. b == 61) text)

-- the text of a truth value
abbrev pub truth_text : Bool → List ℕ
truth_text true = codes "true"
truth_text false = codes "false"
