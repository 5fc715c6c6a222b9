use Rattle.std.proofs.Common.{◌≡◌, ◌++◌, take, map}
use Rattle.cc_text.specs.Words.{texts}
use Rattle.cc_flags.specs.Prefixes.{tried_compiler}
use Rattle.cc_flags.proofs.prefixes.push_tried.Given as goal

abbrev pub invariant-loop-candidate : goal.invariant-loop-candidate
invariant-loop-candidate l = l.tries ≡ l.fn.tries ++ map (tried_compiler l.cpp l.folder) (texts (take l.candidate-index l.candidates))
