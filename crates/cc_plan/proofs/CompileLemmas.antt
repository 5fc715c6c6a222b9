-- The commands of objects.
use Rattle.std.proofs.Common.{◌≡◌, refl, sym, ap, ◌∙◌, Bool, true, false, Option, Some, None, List, [], ◌∷◌, ℕ, ◌||◌, map, unwrap_or, if◌then◌else◌}
use Rattle.cc_host.specs.Command.{CommandSeen}
use Rattle.cc_target.specs.Targets.{Info}
use Rattle.cc_tool.specs.Tool.{ToolSeen, tool_command}
use Rattle.cc_env.specs.Env.{EnvSeen}
use Rattle.cc_host.specs.Question.{Look}
use Rattle.cc_text.specs.declared.family.ToolFamily.{ToolFamily}
use Rattle.cc_tool.specs.Plans as plans
use Rattle.cc_plan.specs.Assembler.{assembler_by, wanted_assembler}
use Rattle.cc_flags.specs.AssemblerWords.{want_assembler}
use Rattle.cc_plan.specs.Compile.{with_object, begun_with, compile_of, compiles_of}
use Rattle.cc_flags.specs.CompileWords.{is_masm}
use Rattle.cc_flags.specs.Object.{object_of, objects_of}
use Rattle.cc_plan.specs.Plan as plan
use Rattle.cc_plan.specs.Planned.{tool_of}
use Rattle.cc_flags.specs.Target.{target_info}
use Rattle.cc_flags.specs.declared.object.Object.{Object}
use Rattle.cc_flags.specs.declared.settings.BuildConfig.{BuildConfig}

either_of : {X Y : Type 0} (f : X → Y) (b : Bool) (x y : X) → (if b then f x else f y) ≡ f (if b then x else y)
either_of f true x y = refl
either_of f false x y = refl

-- it begins with the command of the assembler or with that of the tool
command_of : (set : BuildConfig) (info : Info) (tool : ToolSeen) (assembler : Option ToolSeen) (object : Object) → with_object set info tool.family object (if is_masm info object.src then tool_command (unwrap_or assembler tool) else tool_command tool) ≡ compile_of set info tool assembler object
command_of set info tool assembler object =
    ap (with_object set info tool.family object) (either_of tool_command (is_masm info object.src) (unwrap_or assembler tool) tool)

pub commands_begun : (set : BuildConfig) (info : Info) (tool : ToolSeen) (assembler : Option ToolSeen) (objects : List Object) → map (begun_with set info tool.family (tool_command tool) (tool_command (unwrap_or assembler tool))) objects ≡ compiles_of set info tool assembler objects
commands_begun set info tool assembler [] = refl
commands_begun set info tool assembler (object ∷ objects) =
    ap (λ cmd. cmd ∷ map (begun_with set info tool.family (tool_command tool) (tool_command (unwrap_or assembler tool))) objects) (command_of set info tool assembler object)
    ∙ ap (λ cmds. compile_of set info tool assembler object ∷ cmds) (commands_begun set info tool assembler objects)

either_false : (a b : Bool) → (a || b) ≡ false → (a ≡ false) × (b ≡ false)
either_false true b h = absurd (cc)
either_false false b h = (refl, h)

module _ (set : BuildConfig) (info : Info) (tool assembler : ToolSeen) where
  -- no source is for an assembler
  without : (b : Bool) (object : Object) → is_masm info object.src ≡ false → compile_of set info tool None object ≡ compile_of set info tool (Some assembler) object
  without b object h = rw h refl

  none_wants : (env : List (List ℕ × List ℕ)) (root : Option (List ℕ)) (dir : List ℕ) (sources : List (List ℕ)) → want_assembler info sources ≡ false → compiles_of set info tool None (objects_of env root dir sources) ≡ compiles_of set info tool (Some assembler) (objects_of env root dir sources)
  none_wants env root dir [] h = refl
  none_wants env root dir (source ∷ sources) h =
      let parts = either_false (is_masm info source) (want_assembler info sources) h in
      let rest = none_wants env root dir sources parts.1 in
      let here = without false (object_of env root dir source) parts.0 in
      rw (here, rest) refl

  either_wants : (env : List (List ℕ × List ℕ)) (root : Option (List ℕ)) (dir : List ℕ) (sources : List (List ℕ)) (b : Bool) → want_assembler info sources ≡ b → compiles_of set info tool (if b then Some assembler else None) (objects_of env root dir sources) ≡ compiles_of set info tool (Some assembler) (objects_of env root dir sources)
  either_wants env root dir sources true h = refl
  either_wants env root dir sources false h = none_wants env root dir sources h

  -- the assembler is wanted only for sources in its language
  pub wanted_alone : (env : List (List ℕ × List ℕ)) (root : Option (List ℕ)) (dir : List ℕ) (sources : List (List ℕ)) → compiles_of set info tool (if want_assembler info sources then Some assembler else None) (objects_of env root dir sources) ≡ compiles_of set info tool (Some assembler) (objects_of env root dir sources)
  wanted_alone env root dir sources = either_wants env root dir sources (want_assembler info sources) refl

-- the assembler that the sources want, if any
wanted_is : (set : BuildConfig) (env : EnvSeen) (target : Info) (family : ToolFamily) (path : List ℕ) (look : Look) → (wanted_assembler set env target family path).value look ≡ (if want_assembler target set.files then Some ((assembler_by set env target family path).value look) else None)
unfolding wanted_assembler plans.bind plans.done
wanted_is set env target family path look = go (want_assembler target set.files)
  where
    go : (b : Bool) → (if b then plans.bind (assembler_by set env target family path) (λ tool. plans.done (Some tool)) else plans.done None).value look ≡ (if b then Some ((assembler_by set env target family path).value look) else None)
    go true = refl
    go false = refl

-- the commands of a plan, of which the tool, the assembler and the objects are known
pub planned_commands : (set : BuildConfig) (env : EnvSeen) (look : Look) (tool : ToolSeen) (assembler : Option ToolSeen) (objects : List Object) (cmds : List CommandSeen) → tool_of set env look ≡ tool → (wanted_assembler set env (target_info set env) tool.family tool.path).value look ≡ assembler → objects ≡ plan.objects_of set env → cmds ≡ compiles_of set (target_info set env) tool assembler objects → plan.compiles_of set env look ≡ cmds
planned_commands set env look tool assembler objects cmds is wanted placed made =
    let info = target_info set env in
    let own = tool_of set env look in
    let behind : assembler ≡ (if want_assembler info set.files then Some (plan.assembler_in set env look) else None) =
    sym wanted ∙ ap (λ (t : ToolSeen). (wanted_assembler set env info t.family t.path).value look) (sym is) ∙ wanted_is set env info own.family own.path look in
    sym (made
    ∙ ap (λ t. compiles_of set info t assembler objects) (sym is)
    ∙ ap (λ a. compiles_of set info own a objects) behind
    ∙ ap (compiles_of set info own (if want_assembler info set.files then Some (plan.assembler_in set env look) else None)) placed
    ∙ wanted_alone set info own (plan.assembler_in set env look) env.inherited set.source_root (plan.dir_of set env) set.files)
