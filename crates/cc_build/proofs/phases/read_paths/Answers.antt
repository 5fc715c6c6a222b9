use Rattle.std.proofs.Common.{◌≡◌, ◌⊎◌, ℕ, List, ◌++◌, Some, ◌∙◌, ap, subst}
use Rattle.cc_plan.specs.Archive.{paths_of}
use Rattle.cc_plan.specs.Plan.{archived_of, archived_refusal}
use Rattle.cc_plan.specs.declared.error.PlanError.TheVariants.{NoMemory as WantsMemory}
use Rattle.cc_build.proofs.Stages.{plan_cause}
use Rattle.cc_build.proofs.phases.read_paths.Goals as goal

pub returns-in-Err-clause-refused : goal.returns-in-Err-clause-refused
returns-in-Err-clause-refused c =
    let set = c.args.task.now.set.now in
    let env = c.args.task.now.env.now in
    let paths : c.in_ok-paths.paths ≡ archived_of set env = c.in_ok-paths.ensures ∙ ap (λ o. paths_of o ++ c.args.task.now.set.now.objects) (c.deref.ensures.value ∙ c.requires.objects) in
    plan_cause set env c.args.task.now.output.now c.in-Err.error c.refused.result (archived_refusal set env c.args.archiver.now (archived_of set env)) c.refused.ensures
    (subst (λ (l : List (List ℕ)). (c.in-Err.error ≡ WantsMemory) ⊎ (archived_refusal set env c.args.archiver.now l ≡ Some c.in-Err.error)) paths c.in-Err.ensures.refused)
