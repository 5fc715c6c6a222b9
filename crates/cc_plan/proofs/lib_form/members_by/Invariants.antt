use Rattle.std.proofs.Common.{◌≡◌, map, take}
use Rattle.cc_plan.specs.LibForm.{member_in}
use Rattle.cc_plan.proofs.lib_form.members_by.Given as goal

abbrev pub invariant-loop-path : goal.invariant-loop-path
invariant-loop-path l = l.words ≡ map (member_in l.folder l.here) (take l.path-index l.paths)
