use Rattle.std.proofs.Common.{◌≡◌, fold, take}
use Rattle.cc_tool.specs.Notes.{add_note, warned}
use Rattle.cc_tool.proofs.notes.Notes.warnings.Given as goal

abbrev pub invariant-loop-text : goal.invariant-loop-text
invariant-loop-text l = l.self ≡ fold add_note l.fn.self (warned (take l.text-index l.texts))
