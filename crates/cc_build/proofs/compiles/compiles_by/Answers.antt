use Rattle.std.proofs.Common.{◌++◌, map, Option, ◌∙◌, ap}
use Rattle.std.specs.Prelude.{option_to_list}
use Rattle.std.specs.Option.{option_copied}
use Rattle.cc_host.specs.Command.{CommandSeen}
use Rattle.cc_build.specs.Stage.{compile_planned}
use Rattle.cc_build.proofs.SourceLaws.{compiles_next}
use Rattle.cc_build.proofs.compiles.compiles_by.Goals as goal

pub loop-place-preserved : goal.loop-place-preserved
loop-place-preserved c =
    compiles_next (option_copied c.args.here) c.args.objects.now c.args.cmds.now c.loop-place.place c.index-objects-place.result c.loop-place.planned.items c.push_compile.new.planned.items _ c.loop-place-test.true c.index-objects-place.is
    (c.in_ok-push_compile.ensures ∙ ap (λ (o : Option CommandSeen). c.loop-place.planned.items ++ map (compile_planned (option_copied c.args.here) c.index-objects-place.result) (option_to_list o)) c.command_at.ensures) c.loop-place.invariant
