-- The entries of an environment.
use Rattle.std.specs.Prelude.{ℕ, List, [], ◌∷◌, Option, Some, None, option_to_list, if◌then◌else◌}
use Rattle.std.specs.Str.{is_utf8}
use Rattle.cc_text.specs.Cuts.{key_and_value}

-- the text of an entry that is UTF-8
unfoldable pub text_of : List ℕ → Option (List ℕ)
text_of entry = if is_utf8 entry then Some entry else None

-- a variable whose name has an `=` before it
abbrev pub behind_equals : Option (List ℕ × List ℕ) → Option (List ℕ × List ℕ)
behind_equals None = None
behind_equals (Some (name, value)) = Some (61 ∷ name, value)

-- a variable that has a name: an `=` in the first place belongs to the name, so that the rest is parted at its own first `=`
abbrev pub with_name : Option (List ℕ × List ℕ) → Option (List ℕ × List ℕ)
with_name None = None
with_name (Some ([], rest)) = behind_equals (key_and_value rest)
with_name (Some (b ∷ name, value)) = Some (b ∷ name, value)

-- the name and the value of an entry NAME=VALUE, which is parted at the first `=` behind its first byte
unfoldable pub variable_of : List ℕ → Option (List ℕ × List ℕ)
variable_of entry = with_name (key_and_value entry)

abbrev pub variables_of : Option (List ℕ) → List (List ℕ × List ℕ)
variables_of None = []
variables_of (Some text) = option_to_list (variable_of text)

-- the variable of an entry that is text and has one
abbrev pub entry_vars : List ℕ → List (List ℕ × List ℕ)
entry_vars entry = variables_of (text_of entry)
