use Rattle.std.proofs.Common.{◌≡◌, ◌++◌, take, flat_map}
use Rattle.cc_db.specs.Database.{next_string}
use Rattle.cc_db.proofs.database.push_next_strings.Given as goal

-- each string so far, after a comma and a space
abbrev pub invariant-loop-word : goal.invariant-loop-word
invariant-loop-word l = l.text ≡ l.fn.text ++ flat_map next_string (take l.word-index l.words)
