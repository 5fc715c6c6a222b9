use Rattle.cc_plan.specs.Refusal.{name_refusal, early_refusal}
use Rattle.cc_build.proofs.ArchivingLaws.{name_stops, then_stops}
use Rattle.cc_build.proofs.Outcomes.{made_or_memory}
use Rattle.cc_build.proofs.Stages.{plan_cause}
use Rattle.std.proofs.Common.{sym}
use Rattle.cc_build.proofs.archiving.check_archive.Goals as goal

pub returns-in-Err-clause-refused : goal.returns-in-Err-clause-refused
returns-in-Err-clause-refused c =
    name_stops c.args.set.now c.args.env.now c.args.output.now c.or_no_memory.result
    (plan_cause c.args.set.now c.args.env.now c.args.output.now c.in-Err.error c.or_no_memory.result (name_refusal c.args.output.now)
    (made_or_memory c.plan_error.result c.or_no_memory.result _ c.or_no_memory.ensures c.plan_error.ensures) c.in-Err.ensures.refused)

pub returns-in-Err-plan_sources-clause-refused : goal.returns-in-Err-plan_sources-clause-refused
returns-in-Err-plan_sources-clause-refused c =
    then_stops c.args.set.now c.args.env.now c.args.output.now c.or_no_memory-in-Err-plan_sources.result c.in-Ok.ensures.allowed (sym c.if-is_disabled.ensures)
    (plan_cause c.args.set.now c.args.env.now c.args.output.now c.in-Err-plan_sources.error c.or_no_memory-in-Err-plan_sources.result (early_refusal c.args.set.now c.args.env.now c.args.output.now)
    (made_or_memory c.plan_error-in-Err-plan_sources.result c.or_no_memory-in-Err-plan_sources.result _ c.or_no_memory-in-Err-plan_sources.ensures c.plan_error-in-Err-plan_sources.ensures) c.in-Err-plan_sources.ensures.refused)
