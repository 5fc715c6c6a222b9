-- Whether the compiler of a build takes a flag: what it answers, and why there is no answer.
use Rattle.std.specs.Prelude.{◌≡◌, ℕ, List, [], ◌++◌, Bool, true, false, Option, Some, None, Result, codes, if◌then◌else◌}
use Rattle.std.specs.Option.{option_map}
use Rattle.cc_env.specs.Env.{EnvSeen}
use Rattle.cc_host.specs.Part.{Step}
use Rattle.cc_host.specs.Question.{Look, is_yes}
use Rattle.cc_host.specs.declared.event.Event.{Event}
use Rattle.cc_host.specs.declared.question.Verdict.{Verdict}
use Rattle.cc_host.specs.declared.question.Verdict.TheVariants.{Unanswered, Missing}
use Rattle.cc_text.specs.Quoted.{quoted}
use Rattle.cc_plan.specs.FlagSupport.{path_of, flag_verdict, support_refusal, support_warnings}
use Rattle.cc_plan.specs.Plan.{warned_steps}
use Rattle.cc_flags.specs.Given.{first_of}
use Rattle.cc_flags.specs.declared.settings.BuildConfig.{BuildConfig}
use Rattle.cc_build.specs.Error.{ErrorSeen}
use Rattle.cc_build.specs.Outcome.{Outcome}
use Rattle.cc_build.specs.Refusal.{plan_error}
use Rattle.cc_build.specs.Told.{flag_reads, DoesAndTells}
use Rattle.cc_build.specs.declared.error.ErrorKind.TheVariants.{IOError}

-- the flag wasn't tried: there is no answer, or no compiler
abbrev pub is_untried : Verdict → Bool
is_untried Unanswered = true
is_untried Missing = true
is_untried _ = false

-- the compiler at a path couldn't try a flag
unfoldable pub untried_error : List ℕ → ErrorSeen
untried_error path =
    record {
      kind = IOError;
      subject = path;
      message = codes "the flag check of " ++ quoted path ++ codes " could not be run";
    }

abbrev pub verdict_error : List ℕ → Verdict → Option ErrorSeen
verdict_error path verdict = if is_untried verdict then Some (untried_error path) else None

-- the error of a question that has no answer
abbrev pub support_error : BuildConfig → EnvSeen → List ℕ → Look → Option ErrorSeen
support_error set env flag look =
    first_of (option_map (plan_error set env []) (support_refusal set env flag look))
    (verdict_error (path_of set env look) (flag_verdict set env flag look))

-- the warnings of how the compiler was found are given to the host
abbrev pub support_steps : BuildConfig → EnvSeen → Bool → Look → List Step
support_steps set env listens look = warned_steps set listens (support_warnings set env look)

-- the answer is the verdict on the flag
abbrev pub IsVerdict : BuildConfig → EnvSeen → List ℕ → Bool → Look → Type 0
IsVerdict set env flag answer look = answer ≡ is_yes (flag_verdict set env flag look)

-- the question was answered and the warnings were given to the host, or the error has its cause
abbrev pub SupportEnds : {T : Type 0} → BuildConfig → EnvSeen → Bool → List ℕ → Result T ErrorSeen → Look
    → List Event → Type 0
SupportEnds set env listens flag result look part =
    Outcome (support_error set env flag look) (support_steps set env listens look) part result

-- the same, and behind the warnings the lines of the variables that were read were printed
abbrev pub TrialEnds : {T : Type 0} → BuildConfig → EnvSeen → Bool → List ℕ → Result T ErrorSeen → Look
    → List Event → Type 0
TrialEnds set env listens flag result look part =
    DoesAndTells flag_reads set env (support_error set env flag look)
    (support_steps set env listens look) result look part
