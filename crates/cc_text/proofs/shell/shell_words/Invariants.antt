use Rattle.std.proofs.Common.{◌≡◌, ◌++◌, length, drop, None}
use Rattle.std.specs.Str.{chars}
use Rattle.cc_text.specs.Shell.{words_of, marks}
use Rattle.cc_text.specs.declared.shell.Mode.TheVariants.{Between}
use Rattle.cc_text.proofs.shell.shell_words.Given as goal

-- the words so far, and those of what is left
abbrev pub invariant-loop-c : goal.invariant-loop-c
invariant-loop-c l = l.words ++ words_of (marks l.mode (drop (length l.yielded) (chars l.s))) l.word ≡ words_of (marks Between (chars l.s)) None
