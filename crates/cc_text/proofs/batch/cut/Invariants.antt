use Rattle.std.proofs.Common.{◌≡◌, ◌++◌, ◌∷◌, drop}
use Rattle.cc_text.specs.Batches.{cut_from, batches_of}
use Rattle.cc_text.proofs.batch.cut.Given as goal

-- the batches so far, and those of the paths that are left, are all
abbrev pub invariant-loop-path : goal.invariant-loop-path
invariant-loop-path l = l.batches.items ++ cut_from l.last.paths l.last.left (drop l.path-index l.rest) ≡ batches_of (l.first ∷ l.rest)
