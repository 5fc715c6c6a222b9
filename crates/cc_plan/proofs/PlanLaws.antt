-- What the plans of public calls come to: a value, unless it is refused.
use Rattle.std.proofs.Common.{◌≡◌, ◌⊎◌, inl, inr, ℕ, Bool, true, false, List, fold, Option, Some, None, Result, Ok, Err, IfOk, OnOk, IfErr, is_none, unwrap_or, if◌then◌else◌, refl, sym, ap, ◌∙◌}
use Rattle.cc_env.specs.Env.{EnvSeen}
use Rattle.cc_host.specs.Command.{CommandSeen}
use Rattle.cc_host.specs.Question.{Look, Answer, Settles}
use Rattle.cc_target.specs.Targets.{Info}
use Rattle.cc_text.specs.declared.family.ToolFamily.{ToolFamily}
use Rattle.cc_tool.proofs.SettleLemmas.{settles_is}
use Rattle.cc_tool.specs.Plans as plans
use Rattle.cc_tool.specs.Plans.{Plan, IsFound, bind, note}
use Rattle.cc_tool.specs.declared.planner.Found.{Found}
use Rattle.cc_flags.specs.ArchiveNames.{set_program}
use Rattle.cc_host.specs.declared.question.Verdict.{Verdict}
use Rattle.cc_host.specs.declared.question.Verdict.TheVariants.{No}
use Rattle.cc_flags.specs.Compilation.{CompilationSeen}
use Rattle.cc_flags.specs.declared.compiler.Compiler.{Compiler}
use Rattle.cc_flags.specs.Given.{first_of}
use Rattle.cc_flags.specs.Target.{target_info}
use Rattle.cc_flags.specs.Variables.{flags_names, tool_flags, wants_reruns}
use Rattle.cc_flags.specs.Warnings.{link_warnings}
use Rattle.cc_tool.specs.Notes.{Note, Noted, add_note, named, no_notes}
use Rattle.cc_tool.specs.Tool.{ToolSeen}
use Rattle.cc_flags.specs.declared.archive_names.ArchiveTool.{ArchiveTool}
use Rattle.cc_flags.specs.declared.choice.Choice.{Choice}
use Rattle.cc_flags.specs.declared.object.Object.{Object}
use Rattle.cc_flags.specs.declared.variables.Reads.{Reads}
use Rattle.cc_flags.specs.declared.settings.BuildConfig.{BuildConfig}
use Rattle.cc_plan.specs.ArchivePlan as archive
use Rattle.cc_plan.specs.ArchiveTool.{archive_tool, found_tool, own_choice, tool_by, variable_tool}
use Rattle.cc_plan.specs.Assembler.{assembler_by, assembler_of, wanted_assembler}
use Rattle.cc_plan.specs.Compile.{compiles_of}
use Rattle.cc_plan.specs.Compiler.{compiler_of}
use Rattle.cc_plan.specs.FlagSupport as support
use Rattle.cc_plan.specs.FlagSupport.{flag_verdict, question_refusal, support_refusal, support_warnings, supported_by, verdict_on, verdict_refusal}
use Rattle.cc_plan.specs.Halts as halts
use Rattle.cc_plan.specs.Halts.{by_refusal, on_ok}
use Rattle.cc_plan.specs.Plan as plan
use Rattle.cc_plan.specs.Planned.{planned, supported_of, tool_of, warnings_of}
use Rattle.cc_plan.specs.Refusal.{archive_tool_refusal, found_refusal, given_refusal, known_refusal, look_up_refusal, qnx_arch_refusal, refusal_by, target_refusal, tool_refusal}
use Rattle.cc_plan.specs.Reruns.{names_plan, rerun_names}
use Rattle.cc_plan.specs.Support.{bare_compiler, bare_of, flag_question, is_for_linker}
use Rattle.cc_plan.specs.Tool.{marked_by, quiet_by}
use Rattle.cc_plan.specs.ToolPlan as tool
use Rattle.cc_plan.specs.declared.error.PlanError.{PlanError}
use Rattle.cc_plan.specs.declared.error.PlanError.TheVariants.{NoMemory}
use Rattle.cc_plan.specs.declared.flag_verdict.Support.{Support}
use Rattle.cc_plan.specs.declared.plan.Tools.{Tools}
use Rattle.cc_plan.specs.declared.tool.QuietTool.{QuietTool}
use Rattle.cc_plan.proofs.CompileLemmas.{planned_commands}

-- ---- what is settled of a value that may be refused

pub found_value : {X : Type 0} {known : List Answer} {p : Plan X} {found : Found X} → IsFound known p found → Settles known p.value found.value
found_value f = record { is = f.is }

-- by another spelling of the same plan
pub found_as : {X : Type 0} {known : List Answer} {p : Plan X} {found : Found X} (f : Look → X) → ((look : Look) → p.value look ≡ f look) → IsFound known p found → Settles known f found.value
found_as f same h = record { is = λ look a. sym (same look) ∙ h.is look a }

module _ {X : Type 0} where
  none_allowed : (o : Option PlanError) (x v : X) → by_refusal o x ≡ Ok v → o ≡ None
  none_allowed None x v e = refl
  none_allowed (Some error) x v e = absurd (cc)

  value_allowed : (o : Option PlanError) (x v : X) → by_refusal o x ≡ Ok v → x ≡ v
  value_allowed None x v e = cc
  value_allowed (Some error) x v e = absurd (cc)

  error_refused : (o : Option PlanError) (x : X) (e : PlanError) → by_refusal o x ≡ Err e → o ≡ Some e
  error_refused None x e is = absurd (cc)
  error_refused (Some error) x e is = cc

  module _ {known : List Answer} (refusal : Look → Option PlanError) (value : Look → X) where
    pub refusal_none : {v : X} → Settles known (λ look. by_refusal (refusal look) (value look)) (Ok v) → Settles known refusal None
    refusal_none s = record { is = λ look a. none_allowed (refusal look) (value look) _ (s.is look a) }

    pub value_some : {v : X} → Settles known (λ look. by_refusal (refusal look) (value look)) (Ok v) → Settles known value v
    value_some s = record { is = λ look a. value_allowed (refusal look) (value look) _ (s.is look a) }

    pub refusal_some : {e : PlanError} → Settles known (λ look. by_refusal (refusal look) (value look)) (Err e) → Settles known refusal (Some e)
    refusal_some s = record { is = λ look a. error_refused (refusal look) (value look) _ (s.is look a) }

-- what a public call says of such a value
module _ {X : Type 0} {known : List Answer} (refusal : Look → Option PlanError) (value : Look → X) where
  pub result_value : (r : Result X PlanError) → Settles known (λ look. by_refusal (refusal look) (value look)) r → IfOk r (Settles known value)
  result_value (Ok v) s = value_some refusal value s
  result_value (Err e) s = tt

  pub result_allowed : (r : Result X PlanError) → Settles known (λ look. by_refusal (refusal look) (value look)) r → OnOk r (Settles known refusal None)
  result_allowed (Ok v) s = refusal_none refusal value s
  result_allowed (Err e) s = tt

  pub result_refused : (r : Result X PlanError) → Settles known (λ look. by_refusal (refusal look) (value look)) r → IfErr r (λ e. (e ≡ NoMemory) ⊎ Settles known refusal (Some e))
  result_refused (Ok v) s = tt
  result_refused (Err e) s = inr (refusal_some refusal value s)

-- the same, where a fault of a host would be want of memory
module _ {X : Type 0} {known : List Answer} (refusal : Look → Option PlanError) (value : Look → X) where
  pub own_ok : (r v : Result X PlanError) → (r ≡ Err NoMemory) ⊎ (r ≡ v) → Settles known (λ look. by_refusal (refusal look) (value look)) v → IfOk r (Settles known value)
  own_ok r v (inl memory) s = rw memory tt
  own_ok r v (inr same) s = rw same (result_value refusal value v s)

  pub own_allowed : (r v : Result X PlanError) → (r ≡ Err NoMemory) ⊎ (r ≡ v) → Settles known (λ look. by_refusal (refusal look) (value look)) v → OnOk r (Settles known refusal None)
  own_allowed r v (inl memory) s = rw memory tt
  own_allowed r v (inr same) s = rw same (result_allowed refusal value v s)

  pub own_refused : (r v : Result X PlanError) → (r ≡ Err NoMemory) ⊎ (r ≡ v) → Settles known (λ look. by_refusal (refusal look) (value look)) v → IfErr r (λ e. (e ≡ NoMemory) ⊎ Settles known refusal (Some e))
  own_refused r v (inl memory) s = rw memory (inl refl)
  own_refused r v (inr same) s = rw same (result_refused refusal value v s)

-- ---- a tool of archives

module _ (tool : ArchiveTool) (set : BuildConfig) (env : EnvSeen) (look : Look) where
  flags_value : (choice : Choice) → (archive.with_flags tool set env choice).value look ≡ by_refusal (look_up_refusal set env) choice
  unfolding archive.with_flags halts.unless halts.allowed plans.bind plans.done plans.note
  flags_value choice = go (look_up_refusal set env)
    where
      go : (o : Option PlanError) → (halts.unless o (bind (note (named (flags_names set env (tool_flags tool)))) (λ noted. halts.allowed choice))).value look ≡ by_refusal o choice
      go None = refl
      go (Some error) = refl

  own_value : (o : Option Choice) → (archive.named_or_own tool set env o).value look ≡ by_refusal (if is_none o then qnx_arch_refusal (target_info set env) else None) (unwrap_or o ((own_choice tool set env).value look))
  unfolding archive.named_or_own halts.unless halts.allowed plans.bind plans.done
  own_value (Some choice) = refl
  own_value None = go (qnx_arch_refusal (target_info set env))
    where
      go : (o : Option PlanError) → (halts.unless o (bind (own_choice tool set env) halts.allowed)).value look ≡ by_refusal o ((own_choice tool set env).value look)
      go None = refl
      go (Some error) = refl

  found_is : (archive.found_tool tool set env).value look ≡ by_refusal (found_refusal tool set env look) (found_tool tool set env look)
  unfolding archive.found_tool plans.bind
  found_is = own_value (variable_tool tool set env look)

  chosen_value : (o : Option (List ℕ)) → (archive.set_or_found tool set env o).value look ≡ by_refusal (if is_none o then known_refusal tool set env look else None) (tool_by tool set env look o)
  unfolding archive.set_or_found halts.unless halts.allowed plans.done
  chosen_value (Some path) = refl
  chosen_value None = go (target_refusal set env)
    where
      go : (o : Option PlanError) → (halts.unless o (archive.found_tool tool set env)).value look ≡ by_refusal (first_of o (found_refusal tool set env look)) (found_tool tool set env look)
      go None = found_is
      go (Some error) = refl

  -- its choice, and then its flags
  both_value : (r : Result Choice PlanError) (refusal : Option PlanError) (choice : Choice) → r ≡ by_refusal refusal choice → (on_ok (archive.with_flags tool set env) r).value look ≡ by_refusal (first_of refusal (look_up_refusal set env)) choice
  unfolding plans.done
  both_value r None choice e = ap (λ x. (on_ok (archive.with_flags tool set env) x).value look) e ∙ flags_value choice
  both_value r (Some error) choice e = ap (λ x. (on_ok (archive.with_flags tool set env) x).value look) e

  pub archive_value : (archive.tool_plan tool set env).value look ≡ by_refusal (archive_tool_refusal tool set env look) (archive_tool tool set env look)
  unfolding archive.tool_plan archive.chosen_tool halts.bind_ok plans.bind
  archive_value = both_value ((archive.chosen_tool tool set env).value look) _ _ (chosen_value (set_program tool set))

-- ---- the tool

module _ (set : BuildConfig) (env : EnvSeen) (look : Look) where
  compiler_value : (tool.noted_compiler set env).value look ≡ compiler_of set env look
  unfolding tool.noted_compiler tool.noted_words plans.bind plans.note plans.done
  compiler_value = refl

  -- unless the level or the target is refused
  compiler_is : (tool.compiler_plan set env).value look ≡ by_refusal (given_refusal set env) (compiler_of set env look)
  unfolding tool.compiler_plan halts.unless halts.allowed plans.bind plans.done
  compiler_is = go (given_refusal set env)
    where
      go : (o : Option PlanError) → (halts.unless o (bind (tool.noted_compiler set env) halts.allowed)).value look ≡ by_refusal o (compiler_of set env look)
      go None = ap Ok compiler_value
      go (Some error) = refl

  abbrev pub quiet_of : QuietTool
  quiet_of = quiet_by (planned set env look) (supported_of set env look)

  with_value : (tool.tool_with set env (compiler_of set env look)).value look ≡ by_refusal (refusal_by set env (compiler_of set env look)) quiet_of
  unfolding tool.tool_with tool.quiet_tool halts.unless halts.allowed plans.bind plans.done
  with_value = go (refusal_by set env (compiler_of set env look))
    where
      go : (o : Option PlanError) → (halts.unless o (tool.quiet_tool (planned set env look))).value look ≡ by_refusal o quiet_of
      go None = refl
      go (Some error) = refl

  pub tool_value : (tool.tool_plan set env).value look ≡ by_refusal (tool_refusal set env look) quiet_of
  unfolding tool.tool_plan halts.bind_ok plans.bind plans.done
  tool_value = go (given_refusal set env) _ compiler_is
    where
      go : (o : Option PlanError) (r : Result _ PlanError) → r ≡ by_refusal o (compiler_of set env look) → (on_ok (tool.tool_with set env) r).value look ≡ by_refusal (first_of o (refusal_by set env (compiler_of set env look))) quiet_of
      go None r e = ap (λ x. (on_ok (tool.tool_with set env) x).value look) e ∙ with_value
      go (Some error) r e = ap (λ x. (on_ok (tool.tool_with set env) x).value look) e

  -- with the assembler that the sources want
  abbrev pub tools_of : Tools
  tools_of = record { quiet = quiet_of; assembler = (wanted_assembler set env (target_info set env) quiet_of.tool.family quiet_of.tool.path).value look }

  pub tools_value : (tool.tools_plan set env).value look ≡ by_refusal (tool_refusal set env look) tools_of
  unfolding tool.tools_plan tool.with_assembler halts.bind_ok halts.allowed plans.bind plans.done
  tools_value = go (tool_refusal set env look) _ tool_value
    where
      go : (o : Option PlanError) (r : Result QuietTool PlanError) → r ≡ by_refusal o quiet_of → (on_ok (tool.with_assembler set env) r).value look ≡ by_refusal o tools_of
      go None r e = ap (λ x. (on_ok (tool.with_assembler set env) x).value look) e
      go (Some error) r e = ap (λ x. (on_ok (tool.with_assembler set env) x).value look) e

-- what is settled of it
module _ (set : BuildConfig) (env : EnvSeen) {known : List Answer} where
  pub tool_found : {found : Found (Result QuietTool PlanError)} → IsFound known (tool.tool_plan set env) found → Settles known (λ look. by_refusal (tool_refusal set env look) (quiet_of set env look)) found.value
  tool_found f = found_as (λ look. by_refusal (tool_refusal set env look) (quiet_of set env look)) (tool_value set env) f

  pub tools_found : {found : Found (Result Tools PlanError)} → IsFound known (tool.tools_plan set env) found → Settles known (λ look. by_refusal (tool_refusal set env look) (tools_of set env look)) found.value
  tools_found f = found_as (λ look. by_refusal (tool_refusal set env look) (tools_of set env look)) (tools_value set env) f

  pub quiet_in : (tools : Tools) → Settles known (tools_of set env) tools → Settles known (quiet_of set env) tools.quiet
  quiet_in tools s = record { is = λ look a. ap (λ (t : Tools). t.quiet) (s.is look a) }

  pub tool_in : (quiet : QuietTool) → Settles known (quiet_of set env) quiet → Settles known (tool_of set env) quiet.tool
  tool_in quiet s = record { is = λ look a. ap (λ (q : QuietTool). q.tool) (s.is look a) }

  -- with the one that the caches decide on
  pub warnings_in : (quiet : QuietTool) (is_first : Bool) (texts : List (List ℕ)) → texts ≡ marked_by set quiet.unmarked is_first → Settles known (quiet_of set env) quiet → Settles known (warnings_of set env is_first) texts
  unfolding link_warnings
  warnings_in quiet is_first texts e s = record { is = λ look a. ap (λ (q : QuietTool). marked_by set q.unmarked is_first) (s.is look a) ∙ sym e }

  -- the tool with the assembler that the sources want, unless it is refused
  module _ {found : Found (Result Tools PlanError)} (h : IsFound known (tool.tools_plan set env) found) where
    pub tools_ok : (tools : Tools) → found.value ≡ Ok tools → Settles known (tools_of set env) tools
    tools_ok tools e = value_some (tool_refusal set env) (tools_of set env) (settles_is (tools_found h) e)

    pub tools_allowed : (tools : Tools) → found.value ≡ Ok tools → Settles known (tool_refusal set env) None
    tools_allowed tools e = refusal_none (tool_refusal set env) (tools_of set env) (settles_is (tools_found h) e)

    pub tools_refused : (error : PlanError) → found.value ≡ Err error → Settles known (tool_refusal set env) (Some error)
    tools_refused error e = refusal_some (tool_refusal set env) (tools_of set env) (settles_is (tools_found h) e)

  -- the commands of their objects
  pub tools_compile : (tools : Tools) (target : Info) (assembler : Option ToolSeen) (objects : List Object) (cmds : List CommandSeen) → target ≡ target_info set env → assembler ≡ tools.assembler → objects ≡ plan.objects_of set env → cmds ≡ compiles_of set target tools.quiet.tool assembler objects → Settles known (tools_of set env) tools → Settles known (plan.compiles_of set env) cmds
  tools_compile tools target assembler objects cmds info has placed made s = record {
    is = λ look a.
        let is : tools_of set env look ≡ tools = s.is look a in
        let own : tool_of set env look ≡ tools.quiet.tool = ap (λ (t : Tools). t.quiet.tool) is in
        let wanted : (wanted_assembler set env (target_info set env) tools.quiet.tool.family tools.quiet.tool.path).value look ≡ tools.assembler =
        ap (λ (t : Tools). (wanted_assembler set env (target_info set env) t.quiet.tool.family t.quiet.tool.path).value look) (sym is) ∙ ap (λ (t : Tools). t.assembler) is in
        let known : cmds ≡ compiles_of set (target_info set env) tools.quiet.tool tools.assembler objects =
        made ∙ ap (λ (t : Info). compiles_of set t tools.quiet.tool assembler objects) info ∙ ap (λ (b : Option ToolSeen). compiles_of set (target_info set env) tools.quiet.tool b objects) has in
        planned_commands set env look tools.quiet.tool tools.assembler objects cmds own wanted placed known;
  }

  -- ---- an assembler

  pub assembler_found : {found : Found ToolSeen} (target : Info) (family : ToolFamily) (path : List ℕ) (compiler : ToolSeen) → target ≡ target_info set env → family ≡ compiler.family → path ≡ compiler.path → IsFound known (assembler_by set env target family path) found → Settles known (assembler_of set env compiler) found.value
  assembler_found target family path compiler e f p h = record {
    is = λ look a.
        ap (λ (t : Info). (assembler_by set env t compiler.family compiler.path).value look) (sym e)
        ∙ ap (λ (x : ToolFamily). (assembler_by set env target x compiler.path).value look) (sym f)
        ∙ ap (λ (x : List ℕ). (assembler_by set env target family x).value look) (sym p)
        ∙ h.is look a;
  }

  -- ---- names of variables

  pub names_found : {found : Found (Unit {0})} (reads : Reads) (names : List (List ℕ)) → wants_reruns set ≡ true → names ≡ found.notes.names → IsFound known (names_plan reads set env) found → Settles known (rerun_names reads set env) names
  unfolding rerun_names
  names_found reads names wants e h = record {
    is = λ look a. rw wants (ap (λ (n : List Note). (fold add_note no_notes n).names) (h.notes look a) ∙ sym (ap (λ (n : Noted). n.names) h.added) ∙ sym e);
  }

-- ---- a verdict on a flag

module _ (set : BuildConfig) (env : EnvSeen) (flag : List ℕ) (look : Look) where
  abbrev pair_of : Compiler × Compiler
  pair_of = (compiler_of set env look, (bare_compiler env (compiler_of set env look).choice.path).value look)

  pair_is : (support.pair_plan set env).value look ≡ by_refusal (target_refusal set env) pair_of
  unfolding support.pair_plan support.found_pair support.with_asked support.noted_pair halts.unless halts.allowed plans.bind plans.note plans.done
  pair_is = go (target_refusal set env)
    where
      go : (o : Option PlanError) → (halts.unless o (bind (support.found_pair set env) halts.allowed)).value look ≡ by_refusal o pair_of
      go None = refl
      go (Some error) = refl

  abbrev asked_of : CompilationSeen
  asked_of = bare_of (planned set env look) look

  verdict_is : (support.verdict_plan asked_of flag).value look ≡ by_refusal (verdict_refusal asked_of flag) (flag_verdict set env flag look)
  unfolding support.verdict_plan verdict_refusal verdict_on halts.unless halts.allowed plans.bind plans.ask plans.done
  verdict_is = go (is_for_linker asked_of.compiler.family flag) (question_refusal asked_of flag)
    where
      go : (b : Bool) (o : Option PlanError) → (if b then halts.allowed No else halts.unless o (bind (plans.ask (flag_question asked_of flag)) halts.allowed)).value look ≡ by_refusal (if b then None else o) (if b then No else look (flag_question asked_of flag))
      go true o = refl
      go false None = refl
      go false (Some error) = refl

  abbrev pub support_of : Support
  support_of = supported_by set env (compiler_of set env look) (flag_verdict set env flag look)

  pub support_value : (support.support_plan set env flag).value look ≡ by_refusal (support_refusal set env flag look) support_of
  unfolding support.support_plan support.support_with halts.bind_ok halts.allowed plans.bind plans.done
  support_value = go (target_refusal set env) _ pair_is
    where
      last : (o : Option PlanError) (r : Result Verdict PlanError) → r ≡ by_refusal o (flag_verdict set env flag look) → (on_ok (λ verdict. halts.allowed (supported_by set env (compiler_of set env look) verdict)) r).value look ≡ by_refusal o support_of
      last None r e = ap (λ x. (on_ok (λ verdict. halts.allowed (supported_by set env (compiler_of set env look) verdict)) x).value look) e
      last (Some error) r e = ap (λ x. (on_ok (λ verdict. halts.allowed (supported_by set env (compiler_of set env look) verdict)) x).value look) e

      go : (o : Option PlanError) (r : Result (Compiler × Compiler) PlanError) → r ≡ by_refusal o pair_of → (on_ok (support.support_with set env flag) r).value look ≡ by_refusal (first_of o (verdict_refusal asked_of flag)) support_of
      go None r e = ap (λ x. (on_ok (support.support_with set env flag) x).value look) e ∙ last (verdict_refusal asked_of flag) _ verdict_is
      go (Some error) r e = ap (λ x. (on_ok (support.support_with set env flag) x).value look) e

-- what is settled of it
module _ (set : BuildConfig) (env : EnvSeen) (flag : List ℕ) {known : List Answer} where
  pub support_found : {found : Found (Result Support PlanError)} → IsFound known (support.support_plan set env flag) found → Settles known (λ look. by_refusal (support_refusal set env flag look) (support_of set env flag look)) found.value
  support_found f = found_as (λ look. by_refusal (support_refusal set env flag look) (support_of set env flag look)) (support_value set env flag) f

  pub verdict_found : (s : Support) → Settles known (support_of set env flag) s → Settles known (flag_verdict set env flag) s.found.verdict
  verdict_found s h = record { is = λ look a. ap (λ (x : Support). x.found.verdict) (h.is look a) }

  pub compiler_found : (s : Support) → Settles known (support_of set env flag) s → Settles known (compiler_of set env) s.found.compiler
  compiler_found s h = record { is = λ look a. ap (λ (x : Support). x.found.compiler) (h.is look a) }

  pub warnings_found : (s : Support) → Settles known (support_of set env flag) s → Settles known (support_warnings set env) s.warnings
  warnings_found s h = record { is = λ look a. ap (λ (x : Support). x.warnings) (h.is look a) }
