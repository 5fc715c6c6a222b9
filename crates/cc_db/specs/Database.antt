-- The text of a JSON compilation database: an array of entries, one for each compile command. An entry is an object of
-- three strings and an array of strings.
use Rattle.std.specs.Prelude.{ℕ, ◌/◌, ◌%◌, ◌==◌, List, [], ◌∷◌, ◌++◌, nat_lt, flat_map, codes, if◌then◌else◌}
use Rattle.std.specs.List.{join_by}
use Rattle.cc_text.specs.Hex.{hex_digit}
use Rattle.cc_host.specs.CompileCommand.{CompileCommandSeen}

-- the escape of a control character: `\u` and four digits
unfoldable pub control : ℕ → List ℕ
control b = codes "\\u00" ++ hex_digit (b / 16) ∷ hex_digit (b % 16) ∷ []

-- a byte as it stands in a string: a backslash before `"` and `\`, control characters as their escapes
unfoldable pub escape : ℕ → List ℕ
escape b =
    if b == 34 then codes "\\\""
    else (if b == 92 then codes "\\\\"
    else (if nat_lt b 32 then control b
    else b ∷ []))

-- bytes as they stand in a string
abbrev pub escaped : List ℕ → List ℕ
escaped s = flat_map escape s

-- a string
unfoldable pub string : List ℕ → List ℕ
string s = codes "\"" ++ escaped s ++ codes "\""

-- a string of an array, after another
abbrev pub next_string : List ℕ → List ℕ
next_string s = codes ", " ++ string s

-- an array of strings, on one line
unfoldable pub array : List (List ℕ) → List ℕ
array words = codes "[" ++ join_by string (codes ", ") words ++ codes "]"

-- an entry: an object, with a line for each member
unfoldable pub entry : CompileCommandSeen → List ℕ
entry c =
    codes "  {\n    \"directory\": " ++ string c.directory
    ++ codes ",\n    \"file\": " ++ string c.file
    ++ codes ",\n    \"arguments\": " ++ array c.arguments
    ++ codes ",\n    \"output\": " ++ string c.output
    ++ codes "\n  }"

-- an entry, on lines of its own
abbrev pub entry_line : CompileCommandSeen → List ℕ
entry_line c = codes "\n" ++ entry c

-- an entry on lines of its own, after another
abbrev pub next_entry : CompileCommandSeen → List ℕ
next_entry c = codes "," ++ entry_line c

-- the database of a list of compile commands
unfoldable pub database : List CompileCommandSeen → List ℕ
database commands = codes "[" ++ join_by entry_line (codes ",") commands ++ codes "\n]\n"
