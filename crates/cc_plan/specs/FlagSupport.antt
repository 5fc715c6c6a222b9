-- Whether the compiler of these settings takes a flag.
use Rattle.std.specs.Prelude.{ℕ, List, [], Option, None, Result, if◌then◌else◌}
use Rattle.cc_env.specs.Env.{EnvSeen}
use Rattle.cc_host.specs.Question.{Look}
use Rattle.cc_host.specs.declared.question.Verdict.{Verdict}
use Rattle.cc_host.specs.declared.question.Verdict.TheVariants.{No}
use Rattle.cc_tool.specs.Notes.{named}
use Rattle.cc_tool.specs.Plans.{Plan, ask, bind, done, note}
use Rattle.cc_flags.specs.Compilation.{CompilationSeen, compilation_of}
use Rattle.cc_flags.specs.Target.{target_info}
use Rattle.cc_flags.specs.Variables.{words_names}
use Rattle.cc_plan.specs.Compiler.{compiler, compiler_of}
use Rattle.cc_plan.specs.Halts.{allowed, bind_ok, unless}
use Rattle.cc_flags.specs.Given.{first_of}
use Rattle.cc_plan.specs.Planned.{planned}
use Rattle.cc_plan.specs.Refusal.{target_refusal}
use Rattle.cc_plan.specs.Support.{bare_compiler, bare_of, compiler_refusal, flag_question, flag_settings, is_for_linker, plain_of}
use Rattle.cc_plan.specs.Tool.{found_warnings}
use Rattle.cc_flags.specs.declared.compiler.Compiler.{Compiler}
use Rattle.cc_plan.specs.declared.error.PlanError.{PlanError}
use Rattle.cc_plan.specs.declared.flag_verdict.Support.{Support}
use Rattle.cc_flags.specs.declared.settings.BuildConfig.{BuildConfig}

-- why there is no command that tries a flag
abbrev pub question_refusal : CompilationSeen → List ℕ → Option PlanError
question_refusal c flag = compiler_refusal (plain_of c flag)

-- the verdict on a flag. What the linker is told isn't asked about.
unfoldable pub verdict_on : CompilationSeen → List ℕ → Look → Verdict
verdict_on c flag look = if is_for_linker c.compiler.family flag then No else look (flag_question c flag)

-- why it can't be asked
unfoldable pub verdict_refusal : CompilationSeen → List ℕ → Option PlanError
verdict_refusal c flag = if is_for_linker c.compiler.family flag then None else question_refusal c flag

-- the variables that a question on a flag is planned by: its settings name the compiler that was found, and bring its
-- words
abbrev pub question_names : BuildConfig → EnvSeen → Compiler × Compiler → List (List ℕ)
question_names set env compilers =
    words_names (flag_settings set compilers.0.choice.path []) env (target_info set env) compilers.1

-- a compiler, and the one that is asked, that of its path alone
unfoldable pub noted_pair : BuildConfig → EnvSeen → Compiler × Compiler → Plan (Compiler × Compiler)
noted_pair set env pair = bind (note (named (question_names set env pair))) (λ noted. done pair)

unfoldable pub with_asked : BuildConfig → EnvSeen → Compiler → Plan (Compiler × Compiler)
with_asked set env compiler =
    bind (bare_compiler env compiler.choice.path) (λ bare. noted_pair set env (compiler, bare))

unfoldable pub found_pair : BuildConfig → EnvSeen → Plan (Compiler × Compiler)
found_pair set env = bind (compiler set env) (with_asked set env)

-- the verdict on a flag, unless it is refused
unfoldable pub verdict_plan : CompilationSeen → List ℕ → Plan (Result Verdict PlanError)
verdict_plan c flag =
    if is_for_linker c.compiler.family flag then allowed No
    else unless (question_refusal c flag) (bind (ask (flag_question c flag)) allowed)

-- the same with the compiler, and the warnings of how it was found
abbrev pub supported_by : BuildConfig → EnvSeen → Compiler → Verdict → Support
supported_by set env compiler verdict =
    record {
      found = record { compiler = compiler; verdict = verdict };
      warnings = found_warnings (compilation_of set env compiler);
    }

unfoldable pub support_with : BuildConfig → EnvSeen → List ℕ → Compiler × Compiler → Plan (Result Support PlanError)
support_with set env flag pair =
    bind_ok (verdict_plan (compilation_of set env pair.1) flag)
    (λ verdict. allowed (supported_by set env pair.0 verdict))

-- the plan of the compilers
unfoldable pub pair_plan : BuildConfig → EnvSeen → Plan (Result (Compiler × Compiler) PlanError)
pair_plan set env = unless (target_refusal set env) (bind (found_pair set env) allowed)

-- the plan of the verdict
unfoldable pub support_plan : BuildConfig → EnvSeen → List ℕ → Plan (Result Support PlanError)
support_plan set env flag = bind_ok (pair_plan set env) (support_with set env flag)

-- the path of the compiler
abbrev pub path_of : BuildConfig → EnvSeen → Look → List ℕ
path_of set env look = (compiler_of set env look).choice.path

-- the verdict on a flag
abbrev pub flag_verdict : BuildConfig → EnvSeen → List ℕ → Look → Verdict
flag_verdict set env flag look = verdict_on (bare_of (planned set env look) look) flag look

-- why there is none
abbrev pub support_refusal : BuildConfig → EnvSeen → List ℕ → Look → Option PlanError
support_refusal set env flag look =
    first_of (target_refusal set env) (verdict_refusal (bare_of (planned set env look) look) flag)

-- the warnings of how the compiler was found
abbrev pub support_warnings : BuildConfig → EnvSeen → Look → List (List ℕ)
support_warnings set env look = found_warnings (planned set env look)
