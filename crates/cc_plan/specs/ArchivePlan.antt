-- The plan of a tool of archives, with what it is refused for, and of its flags.
use Rattle.std.specs.Prelude.{ℕ, List, Option, Some, None, Result}
use Rattle.cc_env.specs.Env.{EnvSeen}
use Rattle.cc_tool.specs.Notes.{named}
use Rattle.cc_tool.specs.Plans.{Plan, bind, note}
use Rattle.cc_flags.specs.ArchiveNames.{set_program}
use Rattle.cc_flags.specs.Compilers.{bare}
use Rattle.cc_flags.specs.Target.{target_info}
use Rattle.cc_flags.specs.Variables.{flags_names, tool_flags}
use Rattle.cc_flags.specs.declared.archive_names.ArchiveTool.{ArchiveTool}
use Rattle.cc_flags.specs.declared.choice.Choice.{Choice}
use Rattle.cc_flags.specs.declared.settings.BuildConfig.{BuildConfig}
use Rattle.cc_plan.specs.ArchiveTool.{named_choice, own_choice}
use Rattle.cc_plan.specs.Halts.{allowed, bind_ok, unless}
use Rattle.cc_plan.specs.Refusal.{look_up_refusal, qnx_arch_refusal, target_refusal}
use Rattle.cc_plan.specs.declared.error.PlanError.{PlanError}

-- the one that the environment names, else the target's own, which is refused where it has no name
unfoldable pub named_or_own : ArchiveTool → BuildConfig → EnvSeen → Option Choice → Plan (Result Choice PlanError)
named_or_own tool set env (Some choice) = allowed choice
named_or_own tool set env None =
    unless (qnx_arch_refusal (target_info set env)) (bind (own_choice tool set env) allowed)

unfoldable pub found_tool : ArchiveTool → BuildConfig → EnvSeen → Plan (Result Choice PlanError)
found_tool tool set env = bind (named_choice tool set env) (named_or_own tool set env)

-- the set one, else that one for a target that is known
unfoldable pub set_or_found : ArchiveTool → BuildConfig → EnvSeen → Option (List ℕ) → Plan (Result Choice PlanError)
set_or_found tool set env (Some path) = allowed (bare path)
set_or_found tool set env None = unless (target_refusal set env) (found_tool tool set env)

unfoldable pub chosen_tool : ArchiveTool → BuildConfig → EnvSeen → Plan (Result Choice PlanError)
chosen_tool tool set env = set_or_found tool set env (set_program tool set)

-- its flags can be looked up
unfoldable pub with_flags : ArchiveTool → BuildConfig → EnvSeen → Choice → Plan (Result Choice PlanError)
with_flags tool set env choice =
    unless (look_up_refusal set env)
    (bind (note (named (flags_names set env (tool_flags tool)))) (λ noted. allowed choice))

-- the plan
unfoldable pub tool_plan : ArchiveTool → BuildConfig → EnvSeen → Plan (Result Choice PlanError)
tool_plan tool set env = bind_ok (chosen_tool tool set env) (with_flags tool set env)
