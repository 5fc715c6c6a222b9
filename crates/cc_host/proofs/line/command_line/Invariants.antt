use Rattle.std.proofs.Common.{◌≡◌, ◌++◌, take, flat_map}
use Rattle.cc_text.specs.Quoted.{quoted}
use Rattle.cc_host.specs.CommandLine.{spaced}
use Rattle.cc_host.proofs.line.command_line.Given as goal

abbrev pub invariant-loop-word : goal.invariant-loop-word
invariant-loop-word l = l.line ≡ quoted l.cmd.program ++ flat_map spaced (take l.word-index l.word-items)
