-- The assembler of sources in the languages of Visual Studio, MASM and that of its assembler for Arm: which one it is,
-- and its words.
use Rattle.std.specs.Prelude.{ℕ, false, List, Option, Some, None, is_some, unwrap_or, codes, if◌then◌else◌}
use Rattle.cc_env.specs.Env.{EnvSeen, overridable}
use Rattle.cc_host.specs.Question.{Look}
use Rattle.cc_target.specs.Targets.{Info}
use Rattle.cc_text.specs.declared.family.ToolFamily.{ToolFamily}
use Rattle.cc_text.specs.declared.family.ToolFamily.TheVariants.{Msvc}
use Rattle.cc_tool.specs.Notes.{named}
use Rattle.cc_tool.specs.Plans.{Plan, bind, done, note, or_else}
use Rattle.cc_tool.specs.Tool.{ToolSeen, new_tool}
use Rattle.cc_plan.specs.Beside.{beside}
use Rattle.cc_flags.specs.Compilers.{bare}
use Rattle.cc_plan.specs.EnvTool.{env_tool}
use Rattle.cc_plan.specs.Search.{which_in}
use Rattle.cc_flags.specs.Target.{target_info}
use Rattle.cc_flags.specs.Variables.{option_names}
use Rattle.cc_flags.specs.declared.choice.Choice.{Choice}
use Rattle.cc_flags.specs.declared.settings.BuildConfig.{BuildConfig}
use Rattle.cc_flags.specs.AssemblerWords.{assembler_words, is_x86, studio_assembler, want_assembler}

-- ---- which one

-- where a tool is that a command would find: its `PATH` may be another than the one that was inherited
unfoldable pub which_in_command : EnvSeen → List ℕ → Plan (Option (List ℕ))
which_in_command env tool = which_in env (overridable env (codes "PATH")) tool

-- that of LLVM: next to clang-cl, else where a command would find it
unfoldable pub or_in_command : EnvSeen → Option (List ℕ) → Plan (Option (List ℕ))
or_in_command env (Some found) = done (Some found)
or_in_command env None = which_in_command env (codes "llvm-ml")

unfoldable pub llvm_assembler : EnvSeen → ToolFamily → List ℕ → Plan (Option (List ℕ))
llvm_assembler env family path = bind (beside env family path (codes "llvm-ml")) (or_in_command env)

-- that of LLVM, where a command wouldn't find this one
unfoldable pub unless_found : EnvSeen → ToolFamily → List ℕ → List ℕ → Plan (Option (List ℕ))
unless_found env family path name =
    bind (which_in_command env name) (λ found. if is_some found then done None else llvm_assembler env family path)

-- it stands in for that of Visual Studio
unfoldable pub stand_in : EnvSeen → Info → ToolFamily → List ℕ → Plan (Option (List ℕ))
stand_in env target family path =
    if is_x86 target then unless_found env family path (studio_assembler target) else done None

unfoldable pub own_assembler : EnvSeen → Info → ToolFamily → List ℕ → Plan (List ℕ)
own_assembler env target family path =
    bind (stand_in env target family path) (λ found. done (unwrap_or found (studio_assembler target)))

-- the one where the environment names none
unfoldable pub own_choice : EnvSeen → Info → ToolFamily → List ℕ → Plan Choice
own_choice env target family path = bind (own_assembler env target family path) (λ path. done (bare path))

-- the choice, for the compiler of a family and a path: its wrapper isn't used
unfoldable pub assembler_choice : BuildConfig → EnvSeen → Info → ToolFamily → List ℕ → Plan Choice
assembler_choice set env target family path =
    bind (env_tool set env (codes "CC_MASM_ASM")) (or_else (own_choice env target family path))

-- ---- the tool

-- a choice with its words, in the environment of a child
abbrev pub chosen_assembler : BuildConfig → EnvSeen → Info → Choice → ToolSeen
chosen_assembler set env target choice =
    record (new_tool choice.path (Msvc false) env.inherited)
    { args = assembler_words set env target choice; entries = env.explicit }

-- the same, which may take words from a variable
unfoldable pub noted_assembler : BuildConfig → EnvSeen → Info → Choice → Plan ToolSeen
noted_assembler set env target choice =
    bind (note (named (option_names target choice.path))) (λ noted. done (chosen_assembler set env target choice))

-- the assembler for a target and the compiler of a family and a path
unfoldable pub assembler_by : BuildConfig → EnvSeen → Info → ToolFamily → List ℕ → Plan ToolSeen
assembler_by set env target family path =
    bind (assembler_choice set env target family path) (noted_assembler set env target)

-- the assembler for this compiler
abbrev pub assembler_of : BuildConfig → EnvSeen → ToolSeen → Look → ToolSeen
assembler_of set env tool look = (assembler_by set env (target_info set env) tool.family tool.path).value look

-- ---- where it is wanted

-- the one that the sources want, if any
unfoldable pub wanted_assembler : BuildConfig → EnvSeen → Info → ToolFamily → List ℕ → Plan (Option ToolSeen)
wanted_assembler set env target family path =
    if want_assembler target set.files
    then bind (assembler_by set env target family path) (λ tool. done (Some tool)) else done None
