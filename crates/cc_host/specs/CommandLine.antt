-- A command as one line.
use Rattle.std.specs.Prelude.{ℕ, List, ◌∷◌, ◌++◌, flat_map}
use Rattle.cc_text.specs.Quoted.{quoted}
use Rattle.cc_host.specs.Command.{CommandSeen}

-- a word in quotes, with a space before it
abbrev pub spaced : List ℕ → List ℕ
spaced word = 32 ∷ quoted word

-- the program and the words, each in quotes, one space between
unfoldable pub command_line : CommandSeen → List ℕ
command_line cmd = quoted cmd.program ++ flat_map spaced cmd.args
