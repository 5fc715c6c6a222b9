use Rattle.std.proofs.Common.{◌≡◌, take}
use Rattle.cc_text.specs.Words.{texts}
use Rattle.cc_flags.specs.Prefixes.{tried_compilers}
use Rattle.cc_flags.proofs.prefixes.tried_compilers.Given as goal

abbrev pub invariant-loop-folder : goal.invariant-loop-folder
invariant-loop-folder l = l.tries ≡ tried_compilers l.cpp (take l.folder-index l.folders) (texts l.candidates)
