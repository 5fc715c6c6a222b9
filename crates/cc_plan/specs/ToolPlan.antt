-- The plan of the tool that compiles, with what it is refused for, and of the assembler that goes with it.
use Rattle.std.specs.Prelude.{Result}
use Rattle.cc_env.specs.Env.{EnvSeen}
use Rattle.cc_tool.specs.Notes.{named}
use Rattle.cc_tool.specs.Plans.{Plan, bind, done, note}
use Rattle.cc_flags.specs.Compilation.{CompilationSeen, compilation_of}
use Rattle.cc_flags.specs.Target.{target_info}
use Rattle.cc_flags.specs.Variables.{words_names}
use Rattle.cc_flags.specs.declared.compiler.Compiler.{Compiler}
use Rattle.cc_flags.specs.declared.settings.BuildConfig.{BuildConfig}
use Rattle.cc_plan.specs.Assembler.{wanted_assembler}
use Rattle.cc_plan.specs.Compiler.{compiler}
use Rattle.cc_plan.specs.Halts.{allowed, bind_ok, unless}
use Rattle.cc_plan.specs.Refusal.{given_refusal}
use Rattle.cc_plan.specs.Support.{compiler_refusal, supported_words}
use Rattle.cc_plan.specs.Tool.{quiet_by}
use Rattle.cc_plan.specs.declared.error.PlanError.{PlanError}
use Rattle.cc_plan.specs.declared.plan.Tools.{Tools}
use Rattle.cc_plan.specs.declared.tool.QuietTool.{QuietTool}

-- the compiler, with the variables that its words are planned by and that it reads by itself
unfoldable pub noted_words : BuildConfig → EnvSeen → Compiler → Plan Compiler
noted_words set env compiler =
    bind (note (named (words_names set env (target_info set env) compiler))) (λ noted. done compiler)

unfoldable pub noted_compiler : BuildConfig → EnvSeen → Plan Compiler
noted_compiler set env = bind (compiler set env) (noted_words set env)

-- the tool of a compilation, with what a user may be warned of
unfoldable pub quiet_tool : CompilationSeen → Plan (Result QuietTool PlanError)
quiet_tool c = bind (supported_words c) (λ supported. allowed (quiet_by c supported))

unfoldable pub tool_with : BuildConfig → EnvSeen → Compiler → Plan (Result QuietTool PlanError)
tool_with set env compiler =
    unless (compiler_refusal (compilation_of set env compiler)) (quiet_tool (compilation_of set env compiler))

-- the plan of the compiler that a tool is made of
unfoldable pub compiler_plan : BuildConfig → EnvSeen → Plan (Result Compiler PlanError)
compiler_plan set env = unless (given_refusal set env) (bind (noted_compiler set env) allowed)

-- the plan of the tool
unfoldable pub tool_plan : BuildConfig → EnvSeen → Plan (Result QuietTool PlanError)
tool_plan set env = bind_ok (compiler_plan set env) (tool_with set env)

-- the same with the assembler that the sources want, if any
unfoldable pub with_assembler : BuildConfig → EnvSeen → QuietTool → Plan (Result Tools PlanError)
with_assembler set env quiet =
    bind (wanted_assembler set env (target_info set env) quiet.tool.family quiet.tool.path)
    (λ assembler. allowed (record { quiet = quiet; assembler = assembler }))

unfoldable pub tools_plan : BuildConfig → EnvSeen → Plan (Result Tools PlanError)
tools_plan set env = bind_ok (tool_plan set env) (with_assembler set env)
