use Rattle.std.proofs.Common.{◌≡◌, ◌++◌, take, map}
use Rattle.cc_plan.specs.Archive.{archive_of}
use Rattle.cc_plan.proofs.ar_form.push_batches.Given as goal

-- the commands so far are those of the batches so far
abbrev pub invariant-loop-batch : goal.invariant-loop-batch
invariant-loop-batch l = l.cmds.items ≡ l.initial.cmds.items ++ map (archive_of l.archiver l.env l.library l.plain) (take l.batch-index l.batches)
