use Rattle.std.proofs.Common.{◌≡◌, map, take, string_bytes}
use Rattle.std.specs.Option.{option_copied}
use Rattle.cc_command.specs.Read.{database_of}
use Rattle.cc_command.proofs.settings.database_of.Given as goal

-- the last path so far
abbrev pub invariant-loop-word : goal.invariant-loop-word
invariant-loop-word l = option_copied l.last ≡ database_of (map string_bytes (take l.word-index l.words))
