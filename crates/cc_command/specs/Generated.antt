-- A large run from a number: its settings, what it comes to, and the lines that sum it up.
use Rattle.std.specs.Prelude.{◌≡◌, ◌⊎◌, ◌≤◌, ◌+◌, ◌*◌, ℕ, zero, suc, List, [], ◌∷◌, ◌++◌, Some, true, length, codes, Result, Ok, Err, false}
use Rattle.std.specs.Fmt.{decimal}
use Rattle.cc_env.specs.Env.{EnvSeen}
use Rattle.cc_host.specs.Question.{Look, answers, Holds, NoTwice}
use Rattle.cc_host.specs.declared.event.Event.{Event}
use Rattle.cc_hosts.specs.Plain.{IsPlainLog}
use Rattle.cc_text.specs.Batches.{batches_of}
use Rattle.cc_plan.specs.Plan.{archived_of}
use Rattle.cc_flags.specs.Settings.{unset_settings}
use Rattle.cc_flags.specs.declared.settings.BuildConfig.{BuildConfig}
use Rattle.cc_run.specs.Part.{turns as turns_of}
use Rattle.cc_build.specs.Build.{BuildSeen}
use Rattle.cc_build.specs.Course.{Course, course}
use Rattle.cc_build.specs.Error.{ErrorSeen, no_memory}
use Rattle.cc_build.specs.Promises.{IsBuilt, Promises}
use Rattle.cc_build.specs.Went.{means}
use Rattle.cc_build.specs.declared.error.ErrorKind.TheVariants.{TurnsSpent}

-- the source of a number
abbrev pub gen_source : ℕ → List ℕ
gen_source i = codes "src/f" ++ decimal i ++ codes ".c"

-- so many sources, numbered from 0
unfoldable pub gen_sources : ℕ → List (List ℕ)
gen_sources zero = []
gen_sources (suc i) = gen_sources i ++ gen_source i ∷ []

-- the name of the library
abbrev pub gen_name : List ℕ
gen_name = codes "gen"

-- the target, which is the host too
abbrev pub gen_target : List ℕ
gen_target = codes "x86_64-unknown-linux-gnu"

-- the settings of so many sources
abbrev pub gen_settings : ℕ → BuildConfig
gen_settings count = record unset_settings {
  files = gen_sources count;
  out_dir = Some (codes "/gen");
  target = Some gen_target;
  host = Some gen_target;
  opt_level = Some (codes "0");
  compiler = Some (codes "cc");
  archiver = Some (codes "ar");
  repeat_lines = true;
}

-- no variable is inherited or set
abbrev pub no_variables : EnvSeen
no_variables = record { inherited = []; explicit = [] }

-- the build of so many sources
abbrev pub gen_build : ℕ → BuildSeen
gen_build count = record { config = gen_settings count; env = no_variables }

-- the course of a run with four tokens, over a host on which each child ends at its first turn
abbrev pub gen_course : ℕ → ℕ → ℕ → ℕ → Course
gen_course turns left taken load = course (Some 4) (Some 1) (means turns 0 0 0) (means left 0 taken load)

-- a fact of a log and its course, whichever verdicts agree with its answers
abbrev pub OnGenerated : ℕ → List Event → (Look → List Event → Course → Type 0) → Type 0
OnGenerated turns log fact =
    Holds (answers log)
    (λ look. (left : ℕ) × (taken : ℕ) × (load : ℕ) × fact look log (gen_course turns left taken load))

-- What a run of this build comes to, over a host on which nothing is set.
pub record PlainRun (b : BuildSeen) (turns : ℕ) (log : List Event) (result : Result (Unit {0}) ErrorSeen) : Type 0 where
  -- no call faulted, no program was missing, and each command ended with 0
  pub plain : IsPlainLog log
  -- no question has two answers
  pub once : NoTwice (answers log)
  -- what each compile run promises
  pub promises : OnGenerated turns log (Promises b false gen_name result)
  -- Ok: the library is built
  pub built : OnGenerated turns log (IsBuilt b false gen_name result)

-- What a run of so many sources comes to.
pub record GeneratedRun (count turns : ℕ) (log : List Event) (result : Result (Unit {0}) ErrorSeen) : Type 0 where
  pub run : PlainRun (gen_build count) turns log result
  -- with two turns for each source and two more it is done, or memory was wanted
  pub enough : 2 * count + 2 ≤ turns → (result ≡ Ok tt) ⊎ (result ≡ Err no_memory)
  -- where the turns are spent, as many were made
  pub spent : (e : ErrorSeen) → result ≡ Err e → e.kind ≡ TurnsSpent → turns_of log ≡ turns

-- the paths of the objects, in order
abbrev pub gen_objects : ℕ → List (List ℕ)
gen_objects count = archived_of (gen_settings count) no_variables

-- a name with its number, as it is printed
abbrev pub counted_line : List ℕ → ℕ → List ℕ
counted_line name count = name ++ codes " " ++ decimal count ++ 10 ∷ []

-- five numbers, each with its name
abbrev pub counted_lines : ℕ → ℕ → ℕ → ℕ → ℕ → List (List ℕ)
counted_lines sources compiles archives indexes links =
    counted_line (codes "sources") sources ∷ counted_line (codes "compiles") compiles
    ∷ counted_line (codes "archives") archives
    ∷ counted_line (codes "indexes") indexes ∷ counted_line (codes "links") links ∷ []

-- the lines that sum up a run that is done: its sources, and the commands and the link lines that they come to
unfoldable pub summary : ℕ → List (List ℕ)
summary count = counted_lines count count (length (batches_of (gen_objects count))) 1 2
