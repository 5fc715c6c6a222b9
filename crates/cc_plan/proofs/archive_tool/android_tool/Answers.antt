use Rattle.std.proofs.Common.{rules, arith}
use Rattle.std.proofs.lemmas.Grind.{common_steps}
use Rattle.cc_plan.proofs.PassBy.{by_ok, by_try, pass_by}
use Rattle.cc_plan.specs.ArchiveTool.{android_tool}
use Rattle.cc_plan.proofs.archive_tool.android_tool.Goals as goal

pub returns-in_err-is_versioned : goal.returns-in_err-is_versioned
unfolding android_tool
returns-in_err-is_versioned c = by_try _ _ _ c.in_err-is_versioned.ensures (first_of (search rules, cc, grind (arith, common_steps))) c.from_residual-in_err-is_versioned.ensures.1

pub returns-then-branch : goal.returns-then-branch
unfolding android_tool
returns-then-branch c = by_ok _ _ c.in_ok-is_versioned.ensures (first_of (search rules, cc, grind (arith, common_steps))) (search (pass_by, rules))

pub returns : goal.returns
unfolding android_tool
returns c = by_ok _ _ c.in_ok-is_versioned.ensures (first_of (search rules, cc, grind (arith, common_steps))) (search (pass_by, rules))
