-- Digests: SHA-256 in hexadecimal, and the bytes of a command that its digest is taken of.
use Rattle.std.specs.Prelude.{ℕ, ◌/◌, ◌%◌, List, [], ◌∷◌, ◌++◌, flat_map, Option, unwrap_or}
use Rattle.sha2.specs.Sha256.{sha256}
use Rattle.cc_text.specs.Hex.{hex_digit}
use Rattle.cc_host.specs.Command.{CommandSeen}

-- a byte as two digits
abbrev pub two_digits : ℕ → List ℕ
two_digits byte = hex_digit (byte / 16) ∷ hex_digit (byte % 16) ∷ []

abbrev pub hex : List ℕ → List ℕ
hex bytes = flat_map two_digits bytes

unfoldable pub digest : List ℕ → List ℕ
digest bytes = hex (sha256 bytes)

-- ---- commands

-- a text, closed by a byte that no text has
abbrev pub closed : List ℕ → List ℕ
closed text = text ++ 0xFF ∷ []

-- a variable's name and value
abbrev pub closed_pair : List ℕ × List ℕ → List ℕ
closed_pair var = closed var.0 ++ closed var.1

-- the folder, or nothing
abbrev pub or_nothing : Option (List ℕ) → List ℕ
or_nothing dir = unwrap_or dir []

-- the program, the words, the environment and the folder; another such byte closes the words, and the environment
abbrev pub command_bytes : CommandSeen → List ℕ
command_bytes c =
    closed c.program ++ flat_map closed c.args ++ 0xFE ∷ (flat_map closed_pair c.env ++ 0xFE ∷ or_nothing c.dir)

unfoldable pub command_digest : CommandSeen → List ℕ
command_digest c = digest (command_bytes c)
