-- The warnings of the compiler that decides on the C++ library. A host that listens is told of them, and none of them
-- is printed.
use Rattle.std.specs.Prelude.{ℕ, List}
use Rattle.cc_env.specs.Env.{EnvSeen}
use Rattle.cc_host.specs.Question.{Look}
use Rattle.cc_flags.specs.declared.settings.BuildConfig.{BuildConfig}
use Rattle.cc_plan.specs.Stdlib.{library_plan}

-- the warnings where the compiler is planned for it
abbrev pub quiet_warnings : BuildConfig → EnvSeen → Look → List (List ℕ)
quiet_warnings set env look = ((library_plan set env).value look).warnings
