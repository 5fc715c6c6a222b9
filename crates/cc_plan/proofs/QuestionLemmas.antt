-- Laws on the questions that the plan of a call wants.
use Rattle.std.proofs.Common.{◌≡◌, ◌⊎◌, inl, inr, ℕ, Bool, true, false, List, [], refl, subst, arith}
use Rattle.std.specs.List.{Contains}
use Rattle.std.proofs.lemmas.List.Elements.{Contains-append_left, Contains-append_cases}
use Rattle.cc_env.specs.Env.{EnvSeen}
use Rattle.cc_host.specs.Question.{Look}
use Rattle.cc_host.specs.declared.question.Question.{Question}
use Rattle.cc_target.specs.Targets.{Info}
use Rattle.cc_text.specs.declared.family.ToolFamily.{ToolFamily}
use Rattle.cc_flags.specs.Target.{target_info}
use Rattle.cc_flags.specs.declared.archive_names.ArchiveTool.{ArchiveTool}
use Rattle.cc_flags.specs.declared.archive_names.ArchiveTool.TheVariants.{Archiver, Ranlib}
use Rattle.cc_flags.specs.declared.settings.BuildConfig.{BuildConfig}
use Rattle.cc_flags.specs.declared.variables.Reads.{Reads}
use Rattle.cc_plan.specs.ArchivePlan as archive
use Rattle.cc_plan.specs.Assembler.{assembler_by}
use Rattle.cc_plan.specs.FlagSupport as support
use Rattle.cc_plan.specs.Halts as halts
use Rattle.cc_plan.specs.Questions.{ArchiveToolAsks, ArchiverAsks, AssemblerAsks, CompileAsks, NameAsks, PlanAsks, RanlibAsks, SupportAsks, ToolsAsks}
use Rattle.cc_plan.specs.Refusal.{is_empty}
use Rattle.cc_plan.specs.Reruns as reruns
use Rattle.cc_plan.specs.Reruns.{plans_assembler}
use Rattle.cc_plan.specs.ToolPlan as tool
use Rattle.cc_tool.specs.Plans as plans
use Rattle.cc_tool.specs.Plans.{Plan}
use Rattle.cc_tool.specs.Tool.{ToolSeen}

-- what the plan of a tool of archives wants
pub archive_tool_asks : (tool : ArchiveTool) (set : BuildConfig) (env : EnvSeen) (look : Look) (q : Question) → plans.PlanAsks (archive.tool_plan tool set env) look q → ArchiveToolAsks tool set env look q
unfolding ArchiveToolAsks
archive_tool_asks tool set env look q h = h

module _ (set : BuildConfig) (env : EnvSeen) where
  -- what the plan of a tool wants
  pub plan_asks : (look : Look) (q : Question) → plans.PlanAsks (tool.tool_plan set env) look q → PlanAsks set env look q
  unfolding PlanAsks
  plan_asks look q h = h

  pub tools_asks : (look : Look) (q : Question) → plans.PlanAsks (tool.tools_plan set env) look q → ToolsAsks set env look q
  unfolding ToolsAsks
  tools_asks look q h = h

  -- what the plan of a verdict on a flag wants
  pub support_asks : (flag : List ℕ) (look : Look) (q : Question) → plans.PlanAsks (support.support_plan set env flag) look q → SupportAsks set env flag look q
  unfolding SupportAsks
  support_asks flag look q h = h

  -- what finds the archiver is what its plan wants
  pub archiver_asks : (look : Look) (q : Question) → ArchiveToolAsks Archiver set env look q → ArchiverAsks set env look q
  unfolding ArchiverAsks
  archiver_asks look q h = h

  -- the same of the tool that writes the index
  pub ranlib_asks : (look : Look) (q : Question) → ArchiveToolAsks Ranlib set env look q → RanlibAsks set env look q
  unfolding RanlibAsks
  ranlib_asks look q h = h

  -- where there is a source, the commands that compile want the tool and the assembler
  pub tools_for_compile : is_empty set.files ≡ false → (look : Look) (q : Question) → ToolsAsks set env look q → CompileAsks set env look q
  unfolding CompileAsks
  tools_for_compile some look q h = (some, h)

  -- what the plan of an assembler wants
  pub assembler_asks : (target : Info) (family : ToolFamily) (path : List ℕ) (compiler : ToolSeen) → target ≡ target_info set env → family ≡ compiler.family → path ≡ compiler.path → (look : Look) (q : Question) → plans.PlanAsks (assembler_by set env target family path) look q → AssemblerAsks set env compiler look q
  unfolding AssemblerAsks
  assembler_asks target family path compiler e f p look q h =
      subst (λ (t : Info). plans.PlanAsks (assembler_by set env t compiler.family compiler.path) look q) e
      (subst (λ (x : ToolFamily). plans.PlanAsks (assembler_by set env target x compiler.path) look q) f
      (subst (λ (x : List ℕ). plans.PlanAsks (assembler_by set env target family x) look q) p h))

  -- what those of names want
  pub names_asks : (reads : Reads) (look : Look) (q : Question) → plans.PlanAsks (reruns.names_plan reads set env) look q → NameAsks reads set env look q
  unfolding NameAsks
  names_asks reads look q h = h

-- ---- names of variables

module _ (look : Look) (q : Question) where
  none : Contains [] q → ⊥
  none h = let l = h.1 in absurd (omega (arith, l))

  both_cases : (a b : Plan (Unit {0})) → Contains ((reruns.both a b).asks look) q → Contains (a.asks look) q ⊎ Contains (b.asks look) q
  unfolding reruns.both plans.bind
  both_cases a b h = Contains-append_cases (a.asks look) (b.asks look) q h

  noted_case : {X : Type 0} (p : Plan X) → Contains ((reruns.noted_by p).asks look) q → Contains (p.asks look) q
  unfolding reruns.noted_by plans.bind plans.done
  noted_case p h = here (Contains-append_cases (p.asks look) [] q h)
    where
      here : Contains (p.asks look) q ⊎ Contains [] q → Contains (p.asks look) q
      here (inl c) = c
      here (inr c) = absurd (none c)

  made_case : {X : Type 0} (made : Bool) (p : Plan X) → Contains ((reruns.where_made made (reruns.noted_by p)).asks look) q → (made ≡ true) × Contains (p.asks look) q
  unfolding reruns.where_made plans.done
  made_case true p h = (refl, noted_case p h)
  made_case false p h = absurd (none h)

  -- what is planned for a tool is a part of what is planned for more
  first_of_both : {X Y : Type 0} (p : Plan X) (k : X → Plan Y) → Contains (p.asks look) q → Contains ((plans.bind p k).asks look) q
  unfolding plans.bind
  first_of_both p k h = Contains-append_left (p.asks look) ((k (p.value look)).asks look) q h

  module _ (set : BuildConfig) (env : EnvSeen) where
    pub compiler_in_plan : Contains ((tool.compiler_plan set env).asks look) q → PlanAsks set env look q
    unfolding PlanAsks tool.tool_plan halts.bind_ok
    compiler_in_plan h = first_of_both (tool.compiler_plan set env) (halts.on_ok (tool.tool_with set env)) h

    pub plan_in_tools : PlanAsks set env look q → ToolsAsks set env look q
    unfolding PlanAsks ToolsAsks tool.tools_plan halts.bind_ok
    plan_in_tools h = first_of_both (tool.tool_plan set env) (halts.on_ok (tool.with_assembler set env)) h

    pub pair_in_support : (flag : List ℕ) → Contains ((support.pair_plan set env).asks look) q → SupportAsks set env flag look q
    unfolding SupportAsks support.support_plan halts.bind_ok
    pair_in_support flag h = first_of_both (support.pair_plan set env) (halts.on_ok (support.support_with set env flag)) h

    -- which plan a question for names is of
    abbrev pub NameCase : Reads → Type 0
    NameCase reads =
        ((reads.compiler ≡ true) × Contains ((tool.compiler_plan set env).asks look) q)
        ⊎ (((reads.flag ≡ true) × Contains ((support.pair_plan set env).asks look) q)
        ⊎ (((plans_assembler reads set env ≡ true) × ToolsAsks set env look q)
        ⊎ (((reads.archiver ≡ true) × ArchiverAsks set env look q)
        ⊎ ((reads.ranlib ≡ true) × RanlibAsks set env look q))))

    pub name_cases : (reads : Reads) → NameAsks reads set env look q → NameCase reads
    unfolding NameAsks ToolsAsks ArchiverAsks RanlibAsks ArchiveToolAsks reruns.names_plan reruns.tools_notes reruns.compiling_notes reruns.archiving_notes plans.bind plans.note
    name_cases reads h = by_tools (both_cases _ _ h)
      where
        by_compiler : Contains ((reruns.where_made reads.compiler (reruns.noted_by (tool.compiler_plan set env))).asks look) q ⊎ Contains ((reruns.where_made reads.flag (reruns.noted_by (support.pair_plan set env))).asks look) q → NameCase reads
        by_compiler (inl c) = inl (made_case reads.compiler (tool.compiler_plan set env) c)
        by_compiler (inr c) = inr (inl (made_case reads.flag (support.pair_plan set env) c))

        by_archive : Contains ((reruns.where_made reads.archiver (reruns.noted_by (archive.tool_plan Archiver set env))).asks look) q ⊎ Contains ((reruns.where_made reads.ranlib (reruns.noted_by (archive.tool_plan Ranlib set env))).asks look) q → NameCase reads
        by_archive (inl c) = inr (inr (inr (inl (made_case reads.archiver (archive.tool_plan Archiver set env) c))))
        by_archive (inr c) = inr (inr (inr (inr (made_case reads.ranlib (archive.tool_plan Ranlib set env) c))))

        by_later : Contains ((reruns.where_made (plans_assembler reads set env) (reruns.noted_by (tool.tools_plan set env))).asks look) q ⊎ Contains ((reruns.archiving_notes reads set env).asks look) q → NameCase reads
        by_later (inl c) = inr (inr (inl (made_case (plans_assembler reads set env) (tool.tools_plan set env) c)))
        by_later (inr c) = by_archive (both_cases _ _ c)

        by_tools : Contains ((reruns.compiling_notes reads set env).asks look) q ⊎ Contains ((reruns.both (reruns.where_made (plans_assembler reads set env) (reruns.noted_by (tool.tools_plan set env))) (reruns.archiving_notes reads set env)).asks look) q → NameCase reads
        by_tools (inl c) = by_compiler (both_cases _ _ c)
        by_tools (inr c) = by_later (both_cases _ _ c)
