-- The lines of the variables that a call read, which it prints as its last act.
use Rattle.std.specs.Prelude.{◌≡◌, ℕ, List, [], ◌++◌, Bool, true, false, Option, None, Result, is_some, if◌then◌else◌}
use Rattle.cc_env.specs.Env.{EnvSeen}
use Rattle.cc_host.specs.Part.{Step}
use Rattle.cc_host.specs.Question.{Look}
use Rattle.cc_host.specs.declared.event.Event.{Event}
use Rattle.cc_host.specs.declared.event.LineKind.TheVariants.{Rerun}
use Rattle.cc_plan.specs.Plan.{prints}
use Rattle.cc_plan.specs.Reruns.{rerun_names}
use Rattle.cc_flags.specs.declared.settings.BuildConfig.{BuildConfig}
use Rattle.cc_flags.specs.declared.variables.Reads.{Reads}
use Rattle.cc_build.specs.Error.{ErrorSeen}
use Rattle.cc_build.specs.Outcome.{Outcome}
use Rattle.cc_build.specs.Stage.{rerun_lines}
use Rattle.cc_build.specs.Way.{Firsts, Repeats, chosen}

-- what finding the compiler reads variables for
abbrev pub compiler_reads : Reads
compiler_reads =
    record {
      disabled = false;
      debug = false;
      compiler = true;
      assembler = false;
      flag = false;
      archiver = false;
      ranlib = false;
      links = false;
    }

-- what asking whether it takes a flag does
abbrev pub flag_reads : Reads
flag_reads =
    record {
      disabled = false;
      debug = false;
      compiler = false;
      assembler = false;
      flag = true;
      archiver = false;
      ranlib = false;
      links = false;
    }

-- what finding the archiver does
abbrev pub archiver_reads : Reads
archiver_reads =
    record {
      disabled = false;
      debug = false;
      compiler = false;
      assembler = false;
      flag = false;
      archiver = true;
      ranlib = false;
      links = false;
    }

-- what finding the tool that writes an index does
abbrev pub ranlib_reads : Reads
ranlib_reads =
    record {
      disabled = false;
      debug = false;
      compiler = false;
      assembler = false;
      flag = false;
      archiver = false;
      ranlib = true;
      links = false;
    }

-- what expanding a source does: it runs a command, unless commands are off
abbrev pub expand_reads : Reads
expand_reads =
    record {
      disabled = true;
      debug = true;
      compiler = true;
      assembler = false;
      flag = false;
      archiver = false;
      ranlib = false;
      links = false;
    }

-- a line is printed for each of these variables that no other call told of where lines are printed once
abbrev pub line_steps : List (List ℕ) → Firsts → List Step
line_steps names firsts = prints Rerun (rerun_lines (chosen firsts.names names))

-- those lines were printed, or the error has its cause
abbrev pub LinesTold : {T : Type 0} → BuildConfig → List (List ℕ) → Result T ErrorSeen → List Event → Type 0
LinesTold set names result part =
    (firsts : Firsts) × (Repeats set firsts × Outcome None (line_steps names firsts) part result)

-- those of the variables that such a call reads
abbrev pub name_steps : Reads → BuildConfig → EnvSeen → Firsts → Look → List Step
name_steps reads set env firsts look = line_steps (rerun_names reads set env look) firsts

-- those lines were printed, or the error has its cause
abbrev pub NamesTold : {T : Type 0} → Reads → BuildConfig → EnvSeen → Result T ErrorSeen → Look → List Event → Type 0
NamesTold reads set env result look part =
    (firsts : Firsts) × (Repeats set firsts × Outcome None (name_steps reads set env firsts look) part result)

-- some steps, unless the settings are refused
abbrev pub unless_refused : Option ErrorSeen → List Step → List Step
unless_refused refusal steps = if is_some refusal then [] else steps

-- These steps were done, and behind them exactly those lines were printed; or the error has its cause. Where the
-- settings are refused none is.
abbrev pub DoesAndTells : {T : Type 0} → Reads → BuildConfig → EnvSeen → Option ErrorSeen → List Step
    → Result T ErrorSeen → Look → List Event → Type 0
DoesAndTells reads set env refusal steps result look part =
    (firsts : Firsts)
    × (Repeats set firsts
    × Outcome refusal (steps ++ unless_refused refusal (name_steps reads set env firsts look)) part result)
