use Rattle.std.proofs.Common.{◌≡◌, ◌++◌, codes}
use Rattle.std.specs.Str.{encode_utf8_all}
use Rattle.cc_db.specs.Database.{escaped}
use Rattle.cc_db.proofs.database.push_string.Given as goal

-- the quote mark, and the characters so far as they stand in a string
abbrev pub invariant-loop-c : goal.invariant-loop-c
invariant-loop-c l = l.text ≡ (l.fn.text ++ codes "\"") ++ escaped (encode_utf8_all l.yielded)
