-- Programs where a compiler looks for those that it runs.
use Rattle.std.specs.Prelude.{ℕ, List, [], Option, Some, None}
use Rattle.cc_env.specs.Env.{EnvSeen}
use Rattle.cc_host.specs.declared.question.Ask.TheVariants.{SearchDirs}
use Rattle.cc_host.specs.declared.question.Question.{Question}
use Rattle.cc_host.specs.declared.question.Verdict.{Verdict}
use Rattle.cc_host.specs.declared.question.Verdict.TheVariants.{Dirs}
use Rattle.cc_tool.specs.Family.{child_vars, question}
use Rattle.cc_tool.specs.Plans.{Plan, ask, bind, done}
use Rattle.cc_plan.specs.Search.{which_in}

-- where the compiler of a path looks for programs
abbrev pub search_question : EnvSeen → List ℕ → Question
search_question env path = question SearchDirs path [] (child_vars env)

-- a program in the folders that a compiler names, where it names some
unfoldable pub in_dirs : EnvSeen → List ℕ → Verdict → Plan (Option (List ℕ))
in_dirs env name (Dirs list) = which_in env (Some list) name
in_dirs env name verdict = done None

-- a program in the folders that the compiler of a path names
unfoldable pub searched : EnvSeen → List ℕ → List ℕ → Plan (Option (List ℕ))
searched env path name = bind (ask (search_question env path)) (in_dirs env name)
