use Rattle.std.proofs.Common.{◌≡◌, false, rules, arith}
use Rattle.std.proofs.lemmas.Grind.{common_steps}
use Rattle.cc_tool.proofs.SettleLemmas.{holds_all}
use Rattle.cc_plan.specs.Refusal.{is_empty}
use Rattle.cc_plan.proofs.AskingLemmas.{only_more}
use Rattle.cc_plan.proofs.QuestionLemmas.{tools_for_compile}
use Rattle.cc_plan.proofs.plan.plan_commands.Goals as goal

pub returns-else-is_empty-clause-asks : goal.returns-else-is_empty-clause-asks
returns-else-is_empty-clause-asks g c =
    let some : is_empty c.args.set.now.files ≡ false = first_of (search rules, cc, grind (arith, common_steps)) in
    only_more c.tool_compiles.ensures.asks (holds_all (tools_for_compile c.args.set.now c.args.env.now some))
