-- The compiler for Android.
use Rattle.std.specs.Prelude.{ℕ, Bool, List, [], Option, Some, None, if◌then◌else◌}
use Rattle.cc_env.specs.Env.{EnvSeen}
use Rattle.cc_host.specs.Question.{is_yes}
use Rattle.cc_host.specs.declared.question.Ask.TheVariants.{Starts}
use Rattle.cc_host.specs.declared.question.Question.{Question}
use Rattle.cc_tool.specs.Plans.{Plan, ask, bind, done, or_else}
use Rattle.cc_flags.specs.Languages.{gnu_name, clang_name}
use Rattle.cc_flags.specs.AndroidNames.{kit_compiler, older_name}

-- whether a program can be run at all
abbrev pub starts_question : EnvSeen → List ℕ → Question
starts_question env program = record { ask = Starts; program = program; words = []; vars = env.inherited }

-- the program can be run
unfoldable pub can_start : EnvSeen → List ℕ → Plan Bool
can_start env program = bind (ask (starts_question env program)) (λ verdict. done (is_yes verdict))

-- GCC by the target's name where it can be run, else Clang
unfoldable pub older_compiler : Bool → EnvSeen → List ℕ → Plan (List ℕ)
older_compiler cpp env name =
    bind (can_start env (older_name name (gnu_name cpp)))
    (λ starts. done (if starts then older_name name (gnu_name cpp) else older_name name (clang_name cpp)))

-- a program, where it can be run
unfoldable pub if_started : EnvSeen → Option (List ℕ) → Plan (Option (List ℕ))
if_started env None = done None
if_started env (Some program) = bind (can_start env program) (λ starts. done (if starts then Some program else None))

-- the compiler for a target: the kit's where it can be run, else an older one
unfoldable pub android_compiler : Bool → EnvSeen → List ℕ → Plan (List ℕ)
android_compiler cpp env name = bind (if_started env (kit_compiler name)) (or_else (older_compiler cpp env name))
