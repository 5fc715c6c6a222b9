-- The chosen compiler with its family.
use Rattle.cc_env.specs.Env.{EnvSeen}
use Rattle.cc_host.specs.Question.{Look}
use Rattle.cc_text.specs.declared.family.Detected.{Detected}
use Rattle.cc_text.specs.declared.family.ToolFamily.{ToolFamily}
use Rattle.cc_tool.specs.Family.{child_vars, family}
use Rattle.cc_tool.specs.Plans.{Plan, bind, done}
use Rattle.cc_plan.specs.Choice.{choice}
use Rattle.cc_flags.specs.declared.choice.Choice.{Choice}
use Rattle.cc_flags.specs.declared.compiler.Compiler.{Compiler}
use Rattle.cc_flags.specs.declared.settings.BuildConfig.{BuildConfig}

abbrev pub with_family : Choice → ToolFamily × Detected → Compiler
with_family choice found = record { choice = choice; family = found.0; detected = found.1 }

-- a chosen compiler, which is asked for its family with the words that it is given first
unfoldable pub asked_compiler : EnvSeen → Choice → Plan Compiler
asked_compiler env choice =
    bind (family choice.path choice.words (child_vars env)) (λ found. done (with_family choice found))

unfoldable pub compiler : BuildConfig → EnvSeen → Plan Compiler
compiler set env = bind (choice set env) (asked_compiler env)

abbrev pub compiler_of : BuildConfig → EnvSeen → Look → Compiler
compiler_of set env look = (compiler set env).value look
