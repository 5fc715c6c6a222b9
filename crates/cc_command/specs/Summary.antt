-- The job of a large run from a number: what the program answers to it, and the lines that it prints.
use Rattle.cc_command.specs.declared.summary.Counted.TheVariants.{Commands, Links}
use Rattle.cc_command.specs.declared.summary.Counted.{Counted}
use Rattle.std.specs.Prelude.{◌≡◌, ◌⊎◌, ◌≤◌, ◌+◌, ◌*◌, ℕ, List, [], ◌∷◌, ◌++◌, length, map, filter, Bool, true, false, Option, Some, None, Result, Ok, Err}
use Rattle.cc_host.specs.Bench.{BenchSeen}
use Rattle.cc_host.specs.Script.{same_role}
use Rattle.cc_host.specs.declared.event.Event.{Event}
use Rattle.cc_host.specs.declared.event.Event.TheVariants.{Started, Ran, Printed, Listed}
use Rattle.cc_host.specs.declared.event.LineKind.TheVariants.{Link, Shown}
use Rattle.cc_host.specs.declared.event.Role.{Role}
use Rattle.cc_host.specs.declared.event.Role.TheVariants.{Compile, Archive, Index}
use Rattle.cc_run.specs.Part.{turns}
use Rattle.cc_build.specs.Built.{Built}
use Rattle.cc_build.specs.Course.{CallsEnd}
use Rattle.cc_build.specs.Error.{ErrorSeen, no_memory}
use Rattle.cc_build.specs.Failed.{HasFault}
use Rattle.cc_build.specs.Promises.{terms_for}
use Rattle.cc_build.specs.declared.error.ErrorKind.TheVariants.{TurnsSpent}
use Rattle.cc_command.specs.Answer.{Unlisted, told, ended_refused, ended_wanting}
use Rattle.cc_command.specs.Archived.{Says}
use Rattle.cc_command.specs.Lines.{shows}
use Rattle.cc_command.specs.Generated.{gen_build, gen_settings, gen_name, no_variables, OnGenerated, GeneratedRun, counted_lines, summary}
use Rattle.cc_command.specs.declared.ended.Ended.{Ended}

-- a command of this role begins: it is started, or run to its end
abbrev pub begins : Role → Event → Bool
begins wanted (Started id role cmd pipes held) = same_role role wanted
begins wanted (Ran role cmd pipes status out err) = same_role role wanted
begins wanted _ = false

-- a line that has Cargo link is printed
abbrev pub links : Event → Bool
links (Printed Link bytes) = true
links _ = false

-- what is counted
abbrev pub counts : Counted → Event → Bool
counts (Commands role) event = begins role event
counts Links event = links event

-- how many of a list pass a test
abbrev pub number : {X : Type 0} → (X → Bool) → List X → ℕ
number test xs = length (filter test xs)

-- the lines that sum up a run of so many sources, by its log
unfoldable pub log_lines : ℕ → List Event → List (List ℕ)
log_lines count log =
    counted_lines count (number (counts (Commands Compile)) log) (number (counts (Commands Archive)) log)
    (number (counts (Commands Index)) log) (number (counts Links) log)

-- a run that is done is summed up: its lines are printed, or the error has its cause; that of another run is kept
abbrev pub SumsUp : List (List ℕ) → Result (Unit {0}) ErrorSeen → List Event → Result (Unit {0}) ErrorSeen → Type 0
SumsUp lines (Ok done) part result = CallsEnd (shows lines) part result
SumsUp lines (Err e) part result = (result ≡ Err e) × (part ≡ [])

-- So many sources were compiled on a host in memory, which is handed back, and then the run was summed up; or memory
-- was wanted before the run.
abbrev pub Generating : ℕ → ℕ → List Event → Result (Unit {0}) ErrorSeen → Option BenchSeen → Type 0
Generating count turned part result (Some bench) =
    (run : Result (Unit {0}) ErrorSeen)
    × (GeneratedRun count turned bench.log run × SumsUp (summary count) run part result)
Generating count turned part result None = (result ≡ Err no_memory) × (part ≡ [])

-- the host listed its variables, so the job was done, and the line of an error is printed last
pub record Summed (count turned : ℕ) (part : List Event) (ended : Ended) : Type 0 where
  pub vars : List (List ℕ × List ℕ)
  pub shown : List Event
  pub line : List Event
  pub cut : part ≡ Listed vars ∷ (shown ++ line)
  pub result : Result (Unit {0}) ErrorSeen
  pub generating : Generating count turned shown result ended.bench
  pub says : Says result line (told ended)

-- the same, or the variables weren't listed
abbrev pub Sums : ℕ → ℕ → List Event → Ended → Type 0
Sums count turned part ended = Summed count turned part ended ⊎ Unlisted part ended

-- Over the whole log of the host that is handed back, which was empty before it, the library of so many sources is
-- built. On the other host the variables were listed, exactly the lines that sum the run up were printed, and nothing
-- else was done.
pub record BuiltAlone (count turned : ℕ) (part : List Event) (ended : Ended) : Type 0 where
  pub bench : BenchSeen
  pub back : ended.bench ≡ Some bench
  pub run : GeneratedRun count turned bench.log (Ok tt)
  pub built : OnGenerated turned bench.log
      (λ look log c. Built (terms_for (gen_build count) false c)
      (gen_settings count) no_variables look gen_name log)
  pub vars : List (List ℕ × List ℕ)
  pub shown : part ≡ Listed vars ∷ map (Printed Shown) (summary count)

-- the turns of the run were spent: the host that is handed back has made as many as there are
pub record SpentAlone (turned : ℕ) (ended : Ended) : Type 0 where
  pub bench : BenchSeen
  pub back : ended.bench ≡ Some bench
  pub spent : turns bench.log ≡ turned

-- What a large run from a number promises of its answer and its part.
pub record GeneratePromises (count turned : ℕ) (part : List Event) (ended : Ended) : Type 0 where
  -- the whole answer: each status with its cause
  pub answer : Sums count turned part ended
  -- status 0: the library was built, and the lines that sum it up were printed
  pub built : ended.status ≡ 0 → BuiltAlone count turned part ended
  -- where the turns are spent, as many were made
  pub spent : (e : ErrorSeen) → told ended ≡ ended_refused e → e.kind ≡ TurnsSpent → SpentAlone turned ended
  -- with two turns for each source and two more, and no fault of the host, it is done, or memory was wanted
  pub complete : 2 * count + 2 ≤ turned → (HasFault part → ⊥) → (ended.status ≡ 0) ⊎ (told ended ≡ ended_wanting)
