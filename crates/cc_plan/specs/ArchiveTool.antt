-- The tools of archives, the archiver and the one that writes their index, and how they are found: one table, in which
-- each has its own name.
use Rattle.std.specs.Prelude.{ℕ, Bool, List, [], Option, Some, None, unwrap_or, codes, if◌then◌else◌}
use Rattle.cc_env.specs.Env.{EnvSeen}
use Rattle.cc_host.specs.Question.{Look, is_yes}
use Rattle.cc_host.specs.declared.question.Ask.TheVariants.{ToolVersion}
use Rattle.cc_host.specs.declared.question.Question.{Question}
use Rattle.cc_text.specs.Families.{is_clang}
use Rattle.cc_tool.specs.Family.{child_vars, question}
use Rattle.cc_tool.specs.Plans.{Plan, ask, bind, done, or_else}
use Rattle.cc_plan.specs.Beside.{beside}
use Rattle.cc_plan.specs.Choice.{cross_prefix}
use Rattle.cc_flags.specs.Compilers.{bare, is_wasm}
use Rattle.cc_plan.specs.Compiler.{compiler}
use Rattle.cc_plan.specs.EnvTool.{env_tool}
use Rattle.cc_plan.specs.Searched.{searched}
use Rattle.cc_flags.specs.Texts.{is}
use Rattle.cc_flags.specs.Target.{target_info, target_name}
use Rattle.cc_flags.specs.declared.archive_names.ArchiveTool.{ArchiveTool}
use Rattle.cc_flags.specs.declared.choice.Choice.{Choice}
use Rattle.cc_flags.specs.declared.compiler.Compiler.{Compiler}
use Rattle.cc_flags.specs.declared.settings.BuildConfig.{BuildConfig}
use Rattle.cc_flags.specs.ArchiveNames.{android_name, behind, gcc_name, is_msvc, llvm_name, machine_words, plain_name, set_program, system_name, tool_name, tool_variable}

-- ---- questions

-- whether a program prints its version, with these variables
abbrev pub version_question : List (List ℕ × List ℕ) → List ℕ → Question
version_question vars program = question ToolVersion program [] vars

-- it does
unfoldable pub is_versioned : List (List ℕ × List ℕ) → List ℕ → Plan Bool
is_versioned vars program = bind (ask (version_question vars program)) (λ verdict. done (is_yes verdict))

-- the program, where it prints its version in the environment that was inherited
unfoldable pub if_versioned : EnvSeen → List ℕ → Plan (Option (List ℕ))
if_versioned env program =
    bind (is_versioned env.inherited program) (λ there. done (if there then Some program else None))

-- ---- the table

-- LLVM's tool where Clang looks for programs
unfoldable pub tool_of_clang : ArchiveTool → EnvSeen → Compiler → Plan (Option (List ℕ))
tool_of_clang tool env compiler =
    if is_clang compiler.family then searched env compiler.choice.path (llvm_name tool) else done None

unfoldable pub compiler_tool : ArchiveTool → BuildConfig → EnvSeen → Plan (Option (List ℕ))
compiler_tool tool set env = bind (compiler set env) (tool_of_clang tool env)

-- for WebAssembly, where the compiler is Clang
unfoldable pub wasm_tool : ArchiveTool → BuildConfig → EnvSeen → Plan (Option (List ℕ))
wasm_tool tool set env = if is_wasm (target_info set env) then compiler_tool tool set env else done None

-- for Android: LLVM's, where it prints its version in the environment of a child
unfoldable pub android_tool : ArchiveTool → BuildConfig → EnvSeen → Plan (List ℕ)
android_tool tool set env =
    bind (is_versioned (child_vars env) (llvm_name tool))
    (λ there. done (if there then llvm_name tool else android_name tool (target_name set env)))

-- behind the prefix of the GNU tools: the first that prints its version
unfoldable pub plain_or_gcc : ArchiveTool → EnvSeen → List ℕ → Option (List ℕ) → Plan (Option (List ℕ))
plain_or_gcc tool env prefix (Some name) = done (Some name)
plain_or_gcc tool env prefix None = if_versioned env (gcc_name tool prefix)

unfoldable pub prefixed_tool : ArchiveTool → EnvSeen → List ℕ → Plan (Option (List ℕ))
prefixed_tool tool env prefix = bind (if_versioned env (plain_name tool prefix)) (plain_or_gcc tool env prefix)

unfoldable pub tool_behind : ArchiveTool → EnvSeen → Option (List ℕ) → Plan (Option (List ℕ))
tool_behind tool env None = done None
tool_behind tool env (Some prefix) = prefixed_tool tool env prefix

-- for another target than the host, where there is a prefix
unfoldable pub cross_tool : ArchiveTool → BuildConfig → EnvSeen → Plan (Option (List ℕ))
cross_tool tool set env = bind (cross_prefix set env) (tool_behind tool env)

-- behind a prefix, else by its name alone
unfoldable pub gnu_tool : ArchiveTool → BuildConfig → EnvSeen → Plan (List ℕ)
gnu_tool tool set env = bind (cross_tool tool set env) (λ found. done (unwrap_or found (tool_name tool)))

-- LLVM's in the place of Visual Studio's, next to a compiler
unfoldable pub lib_beside : EnvSeen → Compiler → Plan (Option (List ℕ))
lib_beside env compiler = beside env compiler.family compiler.choice.path (codes "llvm-lib")

unfoldable pub compiler_lib : BuildConfig → EnvSeen → Plan (Option (List ℕ))
compiler_lib set env = bind (compiler set env) (lib_beside env)

-- for Visual Studio: LLVM's next to clang-cl, else Microsoft's library manager, which stands for both tools, as an
-- index needs none there
unfoldable pub studio_tool : BuildConfig → EnvSeen → Plan (List ℕ)
studio_tool set env = bind (compiler_lib set env) (λ found. done (unwrap_or found (codes "lib.exe")))

-- that of the system, else one of GNU's
unfoldable pub named_tool : ArchiveTool → BuildConfig → EnvSeen → Plan (List ℕ)
named_tool tool set env = or_else (gnu_tool tool set env) (system_name tool (target_info set env))

-- that of Visual Studio, of a system or of GNU's
unfoldable pub studio_or_named : ArchiveTool → BuildConfig → EnvSeen → Plan (List ℕ)
studio_or_named tool set env = if is_msvc (target_info set env) then studio_tool set env else named_tool tool set env

-- the one that the target wants
unfoldable pub target_tool : ArchiveTool → BuildConfig → EnvSeen → Plan (List ℕ)
target_tool tool set env =
    if is (target_info set env).os "android" then android_tool tool set env else studio_or_named tool set env

-- that of Clang for WebAssembly comes before
unfoldable pub wasm_or_target : ArchiveTool → BuildConfig → EnvSeen → Plan (List ℕ)
wasm_or_target tool set env = bind (wasm_tool tool set env) (or_else (target_tool tool set env))

-- the one where neither settings nor environment name one
unfoldable pub own_tool : ArchiveTool → BuildConfig → EnvSeen → Plan (List ℕ)
own_tool tool set env =
    if is (target_info set env).os "emscripten" then done (behind (codes "em") tool) else wasm_or_target tool set env

-- the same with its words
abbrev pub with_machine : BuildConfig → EnvSeen → List ℕ → Choice
with_machine set env path = record (bare path) { words = machine_words (target_info set env) path }

unfoldable pub own_choice : ArchiveTool → BuildConfig → EnvSeen → Plan Choice
own_choice tool set env = bind (own_tool tool set env) (λ path. done (with_machine set env path))

-- the one that the environment names, with its words
unfoldable pub named_choice : ArchiveTool → BuildConfig → EnvSeen → Plan (Option Choice)
named_choice tool set env = env_tool set env (tool_variable tool)

abbrev pub variable_tool : ArchiveTool → BuildConfig → EnvSeen → Look → Option Choice
variable_tool tool set env look = (named_choice tool set env).value look

-- the one where the settings name none
abbrev pub found_tool : ArchiveTool → BuildConfig → EnvSeen → Look → Choice
found_tool tool set env look = unwrap_or (variable_tool tool set env look) ((own_choice tool set env).value look)

abbrev pub tool_by : ArchiveTool → BuildConfig → EnvSeen → Look → Option (List ℕ) → Choice
tool_by tool set env look None = found_tool tool set env look
tool_by tool set env look (Some path) = bare path

-- the choice, where nothing is refused
abbrev pub archive_tool : ArchiveTool → BuildConfig → EnvSeen → Look → Choice
archive_tool tool set env look = tool_by tool set env look (set_program tool set)
