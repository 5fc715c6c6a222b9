use Rattle.std.proofs.Common.{rules}
use Rattle.cc_tool.specs.Plans.{or_else}
use Rattle.cc_plan.proofs.PassBy.{by_ok, pass_by}
use Rattle.cc_plan.specs.ArchiveTool.{wasm_or_target}
use Rattle.cc_plan.proofs.archive_tool.wasm_or_target.Goals as goal

pub returns-in-Some : goal.returns-in-Some
unfolding wasm_or_target or_else
returns-in-Some c = by_ok _ _ c.in_ok-path.ensures (search rules) (rw c.in-Some.is (search (pass_by, rules)))
