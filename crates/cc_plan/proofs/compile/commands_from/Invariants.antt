use Rattle.std.proofs.Common.{◌≡◌, ◌++◌, drop, map}
use Rattle.cc_target.specs.Targets.{info_seen}
use Rattle.cc_plan.specs.Compile.{begun_with}
use Rattle.cc_plan.proofs.compile.commands_from.Given as goal

-- the commands so far and those of the objects that are left are all
abbrev pub invariant-loop-object : goal.invariant-loop-object
invariant-loop-object l =
    l.cmds.items ++ map (begun_with l.set (info_seen l.target) l.family l.start l.assembling) (drop l.object-index l.objects)
    ≡ map (begun_with l.set (info_seen l.target) l.family l.start l.assembling) l.objects
