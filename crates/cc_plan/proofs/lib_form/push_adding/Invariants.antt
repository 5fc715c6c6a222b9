use Rattle.std.proofs.Common.{◌≡◌, ◌++◌, take, map, true}
use Rattle.cc_plan.specs.Archive.{lib_of}
use Rattle.cc_plan.proofs.lib_form.push_adding.Given as goal

-- the commands so far add the batches so far
abbrev pub invariant-loop-batch : goal.invariant-loop-batch
invariant-loop-batch l = l.cmds.items ≡ l.initial.cmds.items ++ map (lib_of l.archiver l.library l.here true) (take l.batch-index l.batches)
