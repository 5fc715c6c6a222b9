-- The questions that a call asks, under these verdicts: those that its own plan wants.
use Rattle.std.specs.Prelude.{◌≡◌, ◌⊎◌, ℕ, false, List}
use Rattle.cc_env.specs.Env.{EnvSeen}
use Rattle.cc_host.specs.Question.{Look}
use Rattle.cc_host.specs.declared.question.Question.{Question}
use Rattle.cc_tool.specs.Plans as plans
use Rattle.cc_tool.specs.Tool.{ToolSeen}
use Rattle.cc_flags.specs.Target.{target_info}
use Rattle.cc_flags.specs.declared.archive_names.ArchiveTool.{ArchiveTool}
use Rattle.cc_flags.specs.declared.archive_names.ArchiveTool.TheVariants.{Archiver, Ranlib}
use Rattle.cc_flags.specs.declared.settings.BuildConfig.{BuildConfig}
use Rattle.cc_flags.specs.declared.variables.Reads.{Reads}
use Rattle.cc_plan.specs.ArchivePlan as archive
use Rattle.cc_plan.specs.Assembler.{assembler_by}
use Rattle.cc_plan.specs.FlagSupport.{support_plan}
use Rattle.cc_plan.specs.Refusal.{is_empty}
use Rattle.cc_plan.specs.Reruns.{names_plan}
use Rattle.cc_plan.specs.Stdlib.{library_plan}
use Rattle.cc_plan.specs.ToolPlan.{tool_plan, tools_plan}

-- for the tool
unfoldable pub PlanAsks : BuildConfig → EnvSeen → Look → Question → Type 0
PlanAsks set env look q = plans.PlanAsks (tool_plan set env) look q

-- for the assembler that goes with this tool
unfoldable pub AssemblerAsks : BuildConfig → EnvSeen → ToolSeen → Look → Question → Type 0
AssemblerAsks set env tool look q =
    plans.PlanAsks (assembler_by set env (target_info set env) tool.family tool.path) look q

-- for the tool and the assembler that the sources want
unfoldable pub ToolsAsks : BuildConfig → EnvSeen → Look → Question → Type 0
ToolsAsks set env look q = plans.PlanAsks (tools_plan set env) look q

-- for the commands that compile: the same, where there is a source
unfoldable pub CompileAsks : BuildConfig → EnvSeen → Look → Question → Type 0
CompileAsks set env look q = (is_empty set.files ≡ false) × ToolsAsks set env look q

-- for a tool of archives
unfoldable pub ArchiveToolAsks : ArchiveTool → BuildConfig → EnvSeen → Look → Question → Type 0
ArchiveToolAsks tool set env look q = plans.PlanAsks (archive.tool_plan tool set env) look q

-- for the archiver
unfoldable pub ArchiverAsks : BuildConfig → EnvSeen → Look → Question → Type 0
ArchiverAsks set env look q = ArchiveToolAsks Archiver set env look q

-- for the tool that writes an archive's index
unfoldable pub RanlibAsks : BuildConfig → EnvSeen → Look → Question → Type 0
RanlibAsks set env look q = ArchiveToolAsks Ranlib set env look q

-- for the names of variables
unfoldable pub NameAsks : Reads → BuildConfig → EnvSeen → Look → Question → Type 0
NameAsks reads set env look q = plans.PlanAsks (names_plan reads set env) look q

-- for the link lines: for the C++ library that decides on them
unfoldable pub LinkAsks : BuildConfig → EnvSeen → Look → Question → Type 0
LinkAsks set env look q = plans.PlanAsks (library_plan set env) look q

-- to learn whether the compiler takes a flag
unfoldable pub SupportAsks : BuildConfig → EnvSeen → List ℕ → Look → Question → Type 0
SupportAsks set env flag look q = plans.PlanAsks (support_plan set env flag) look q

-- one that a run asks: for the commands that compile, for those that archive, or for the link lines
unfoldable pub RunAsks : BuildConfig → EnvSeen → Look → Question → Type 0
RunAsks set env look q = CompileAsks set env look q ⊎ (ArchiverAsks set env look q ⊎ LinkAsks set env look q)
