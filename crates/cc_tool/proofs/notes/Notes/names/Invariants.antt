use Rattle.std.proofs.Common.{◌≡◌, fold, take}
use Rattle.cc_tool.specs.Notes.{add_note, named}
use Rattle.cc_tool.proofs.notes.Notes.names.Given as goal

abbrev pub invariant-loop-name : goal.invariant-loop-name
invariant-loop-name l = l.self ≡ fold add_note l.fn.self (named (take l.name-index l.names))
