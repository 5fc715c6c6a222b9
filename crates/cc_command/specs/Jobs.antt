-- What each job does with a build that has its variables.
use Rattle.std.specs.Prelude.{◌≡◌, ℕ, List, [], Option, None, Some, Result}
use Rattle.cc_host.specs.Bench.{BenchSeen}
use Rattle.cc_tool.specs.Asked.{question_events}
use Rattle.cc_build.specs.Build.{BuildSeen, AsksByRun}
use Rattle.cc_build.specs.Error.{ErrorSeen}
use Rattle.cc_build.specs.Promises.{IsBuilt, Promises}
use Rattle.cc_command.specs.Archived.{Archiving}
use Rattle.cc_command.specs.Call.{Call, ByVerdicts, KeepsSeat}
use Rattle.cc_command.specs.Expanded.{Expanding}
use Rattle.cc_command.specs.Recording.{IsRecord}
use Rattle.cc_command.specs.Shown.{Showing}
use Rattle.cc_command.specs.Summary.{Generating}
use Rattle.cc_command.specs.declared.words.Job.{Job}
use Rattle.cc_command.specs.declared.words.Job.TheVariants.{Compile, Archive, Generate, Expand, Show}

-- the library was built, with its database where one is asked for; or the error has its cause
abbrev pub CompileJob : Call → Option (List ℕ) → List ℕ → BuildSeen → Result (Unit {0}) ErrorSeen → Type 0
CompileJob c None name b result =
    ByVerdicts c (IsBuilt b c.listens name result) × ByVerdicts c (Promises b c.listens name result)
CompileJob c (Some path) name b result = ByVerdicts c (IsRecord c.listens name path b result)

-- A job ended so: with this result, and with this host in memory, if it had one.
abbrev pub JobEnds : Call → Job → Option (List ℕ) → BuildSeen → Result (Unit {0}) ErrorSeen → Option BenchSeen → Type 0
JobEnds c (Compile name) database b result bench =
    (bench ≡ None) × AsksByRun c.steady c.world b c.part × CompileJob c database name b result
JobEnds c (Archive name) database b result bench =
    (bench ≡ None) × KeepsSeat c × Archiving c.listens c.steady c.world b c.patience c.turns name c.part result
JobEnds c (Generate count) database b result bench =
    (question_events c.part ≡ []) × KeepsSeat c × Generating count c.turns c.part result bench
JobEnds c Expand database b result bench =
    (bench ≡ None) × KeepsSeat c × Expanding c.listens c.steady c.world b c.part result
JobEnds c Show database b result bench =
    (bench ≡ None) × KeepsSeat c × Showing c.listens c.steady c.world b c.part result
