use Rattle.std.proofs.Common.{◌≡◌, ◌++◌, take, flat_map}
use Rattle.cc_db.specs.Database.{next_entry}
use Rattle.cc_db.proofs.database.push_next_entries.Given as goal

-- each entry so far, after a comma and a line feed
abbrev pub invariant-loop-command : goal.invariant-loop-command
invariant-loop-command l = l.text ≡ l.fn.text ++ flat_map next_entry (take l.command-index l.commands)
