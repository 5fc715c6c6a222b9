use Rattle.std.proofs.Common.{◌≡◌, ◌++◌, take, map}
use Rattle.cc_run.specs.Messages.{warned_of}
use Rattle.cc_run.proofs.messages.push_warned.Given as goal

-- the messages so far
abbrev pub invariant-loop-text : goal.invariant-loop-text
invariant-loop-text l = l.notices.items ≡ l.fn.notices.items ++ map (warned_of l.cmd) (take l.text-index l.texts)
