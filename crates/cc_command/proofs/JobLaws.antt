-- A job ends as what it calls does.
use Rattle.std.proofs.Common.{◌≡◌, List, ℕ, Option, None, Some, Result, sym, subst}
use Rattle.cc_host.specs.Bench.{BenchSeen}
use Rattle.cc_build.specs.Build.{BuildSeen}
use Rattle.cc_build.specs.Error.{ErrorSeen}
use Rattle.cc_build.specs.Promises.{IsBuilt, Promises}
use Rattle.cc_command.specs.Call.{Call, ByVerdicts}
use Rattle.cc_command.specs.Jobs.{CompileJob, JobEnds}
use Rattle.cc_command.specs.Recording.{IsRecord}
use Rattle.cc_command.specs.declared.words.Job.{Job}

-- it is this job, with this result
pub job_ends : (c : Call) (job is : Job) (database : Option (List ℕ)) (b : BuildSeen) (r ran : Result (Unit {0}) ErrorSeen) (bench : Option BenchSeen) → job ≡ is → r ≡ ran → JobEnds c is database b ran bench → JobEnds c job database b r bench
job_ends c job is database b r ran bench same told h =
    subst (λ (j : Job). JobEnds c j database b r bench) (sym same) (subst (λ (v : Result (Unit {0}) ErrorSeen). JobEnds c is database b v bench) (sym told) h)

-- a compile run is recorded where a database is asked for
pub recorded_ends : (c : Call) (database : Option (List ℕ)) (asked path name named : List ℕ) (b : BuildSeen) (r : Result (Unit {0}) ErrorSeen) → database ≡ Some asked → path ≡ asked → name ≡ named → ByVerdicts c (IsRecord c.listens name path b r) → CompileJob c database named b r
recorded_ends c database asked path name named b r is there same h =
    subst (λ (d : Option (List ℕ)). CompileJob c d named b r) (sym is)
    (subst (λ (n : List ℕ). CompileJob c (Some asked) n b r) same (subst (λ (p : List ℕ). CompileJob c (Some p) name b r) there h))

-- and else not
pub plain_ends : (c : Call) (database : Option (List ℕ)) (name named : List ℕ) (b : BuildSeen) (r : Result (Unit {0}) ErrorSeen) → database ≡ None → name ≡ named → ByVerdicts c (IsBuilt b c.listens name r) → ByVerdicts c (Promises b c.listens name r) → CompileJob c database named b r
plain_ends c database name named b r is same built promises =
    subst (λ (d : Option (List ℕ)). CompileJob c d named b r) (sym is) (subst (λ (n : List ℕ). CompileJob c None n b r) same (built, promises))
