-- Cuts of a text.
use Rattle.std.specs.Prelude.{ℕ, List, length, take, drop, ◌-◌, Option, Some, None, nat_eq, nat_lt, ◌==◌, if◌then◌else◌}
use Rattle.std.specs.List.{starts_with, ends_with, before_first, after_first, position_or_len}

-- what follows a prefix
unfoldable pub after_prefix : List ℕ → List ℕ → Option (List ℕ)
after_prefix text prefix = if starts_with nat_eq text prefix then Some (drop (length prefix) text) else None

-- what stands before a suffix
unfoldable pub before_suffix : List ℕ → List ℕ → Option (List ℕ)
before_suffix text suffix = if ends_with nat_eq text suffix then Some (take (length text - length suffix) text) else None

-- what stands before and after the first `=`
unfoldable pub key_and_value : List ℕ → Option (List ℕ × List ℕ)
key_and_value text =
    if nat_lt (position_or_len (λ b. b == 61) text) (length text) then Some (before_first (λ b. b == 61) text, after_first (λ b. b == 61) text) else None
