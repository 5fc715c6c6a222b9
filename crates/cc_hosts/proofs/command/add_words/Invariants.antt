use Rattle.std.proofs.Common.{◌≡◌, ◌++◌, take}
use Rattle.std.specs.Process.{command_program, command_args, SameEnv, SameDir}
use Rattle.cc_hosts.proofs.command.add_words.Given as goal

abbrev pub invariant-loop-word : goal.invariant-loop-word
invariant-loop-word l =
    (command_args l.child ≡ command_args l.initial.child ++ take l.word-index l.word-items) × (command_program l.child ≡ command_program l.initial.child) × SameEnv l.initial.child l.child × SameDir l.initial.child l.child
