-- What a compile run promises, each in one sentence.
use Rattle.std.specs.Prelude.{◌≡◌, ◌⊎◌, ◌≤◌, ◌<◌, ◌+◌, ℕ, List, [], ◌∷◌, ◌++◌, length, map, take, Bool, true, false, Option, IfSome, Result, Err, OnOk}
use Rattle.std.specs.List.{list_any}
use Rattle.cc_host.specs.Children.{running}
use Rattle.cc_host.specs.Command.{CommandSeen}
use Rattle.cc_host.specs.Part.{is_probing}
use Rattle.cc_host.specs.Question.{Look}
use Rattle.cc_host.specs.declared.event.Event.{Event}
use Rattle.cc_host.specs.declared.event.Event.TheVariants.{Started, Turn, Fault, Abandoned}
use Rattle.cc_host.specs.declared.event.HostCall.{HostCall}
use Rattle.cc_host.specs.declared.event.Pipes.{Pipes}
use Rattle.cc_host.specs.declared.event.Role.{Role}
use Rattle.cc_host.specs.declared.event.Role.TheVariants.{Compile}
use Rattle.cc_host.specs.declared.event.Why.{Why}
use Rattle.cc_plan.specs.Plan.{compiles_of}
use Rattle.cc_run.specs.Part.{started, turns, abandoned}
use Rattle.cc_run.specs.Planned.{Asked, asked}
use Rattle.cc_run.specs.declared.planned.Shows.{Shows}
use Rattle.cc_build.specs.Attempts.{attempts, FirstOf}
use Rattle.cc_build.specs.Build.{BuildSeen}
use Rattle.cc_build.specs.Built.{Built}
use Rattle.cc_build.specs.Children.{has_failure}
use Rattle.cc_build.specs.Course.{Course}
use Rattle.cc_build.specs.Error.{ErrorSeen}
use Rattle.cc_build.specs.Failed.{HasFault}
use Rattle.cc_build.specs.Order.{ArchivesLast}
use Rattle.cc_build.specs.Refusal.{refusal_error}
use Rattle.cc_build.specs.Shows.{shows_of}
use Rattle.cc_build.specs.Stage.{Stage, planned, planned_stages, commands_in}
use Rattle.cc_build.specs.Way.{Way, Hears, Repeats}
use Rattle.cc_build.specs.Went.{Terms, terms, Ends}
use Rattle.cc_build.specs.declared.error.ErrorKind.TheVariants.{ToolExecError}

-- the terms of a build's run with this course, on a host that listens or not
abbrev pub terms_for : BuildSeen → Bool → Course → Terms
terms_for b listens c = terms (shows_of b.config b.env listens) c.total c.patience

-- the stages of a build's run
abbrev pub stages_for : BuildSeen → Way → Look → List ℕ → List Stage
stages_for b way look output = planned_stages b.config b.env way look output

-- Ok: nothing is refused, and all stages were done. Else the first ones were, and the error has its cause.
abbrev pub RunEnds : {T : Type 0} → BuildSeen → Bool → List ℕ → Result T ErrorSeen → Look → List Event → Course → Type 0
RunEnds b listens output result look part c =
    (way : Way)
    × (Hears listens way.found × Repeats b.config way.firsts
    × Ends (terms_for b listens c) (refusal_error b.config b.env look output)
    (stages_for b way look output) part result c.before c.after)

-- Ok: the library is built.
abbrev pub IsBuilt : {T : Type 0} → BuildSeen → Bool → List ℕ → Result T ErrorSeen → Look → List Event → Course → Type 0
IsBuilt b listens output result look part c =
    OnOk result (Built (terms_for b listens c) b.config b.env look output part)

-- the commands of the part are the first of those of these stages
abbrev pub AreFirst : List Stage → List Event → Type 0
AreFirst stages part = FirstOf (commands_in stages) part

abbrev pub is_compile_role : Role → Bool
is_compile_role Compile = true
is_compile_role _ = false

-- an attempt to compile
abbrev pub is_compiling : Role × CommandSeen → Bool
is_compiling attempt = is_compile_role attempt.0

-- at each start: of the events before it, and of the number that it carries
abbrev pub AtStarts : (List Event → ℕ → Type 0) → List Event → Type 0
AtStarts fact part = (before after : List Event) (id : ℕ) (role : Role) (cmd : CommandSeen) (pipes : Pipes) (held : ℕ)
    → part ≡ before ++ Started id role cmd pipes held ∷ after → fact before held

-- at each turn: of the events before it
abbrev pub AtTurns : (List Event → Type 0) → List Event → Type 0
AtTurns fact part = (before after : List Event) (count : ℕ) → part ≡ before ++ Turn count ∷ after → fact before

-- that is the number of those that run, itself counted, and no more than the tokens of the pool
abbrev pub IsCounted : Option ℕ → List Event → ℕ → Type 0
IsCounted total before held = (held ≡ length (running before) + 1) × IfSome total (λ t. held ≤ t)

-- one runs, and as many as there are tokens, or all were started, or one failed where a failure stops the run
abbrev pub IsBusy : Option ℕ → Bool → ℕ → List Event → Type 0
IsBusy total stop count before = IfSome total (λ t. (0 < length (running before)) × ((length (running before) ≡ t)
    ⊎ ((length (started before) ≡ count) ⊎ ((stop ≡ true) × (has_failure before ≡ true)))))

-- So many compile commands run beside each other, in one stretch of the part. Each start there carries the number of
-- those that run, itself counted, which is no more than the tokens of the pool. At each turn one runs, and as many as
-- there are tokens, or all were started. Where a failure stops the run, none is started behind one, and a turn may be
-- made with fewer.
pub record RunBeside (total : Option ℕ) (stop : Bool) (count : ℕ) (part : List Event) : Type 0 where
  pub front : List Event
  pub run : List Event
  pub rest : List Event
  pub cut : part ≡ front ++ (run ++ rest)
  -- before it no command is tried and no turn is made
  pub idle : attempts front ≡ []
  pub still : turns front ≡ 0
  pub within : AtStarts (IsCounted total) run
  pub greedy : AtTurns (IsBusy total stop count) run
  pub stops : stop ≡ true → AtStarts (λ before held. has_failure before ≡ false) run
  -- behind it nothing is compiled
  pub others : list_any is_compiling (attempts rest) ≡ false

-- the compile command of every source was started, and none was left alone
abbrev pub AllStarted : Shows → List CommandSeen → List Event → Type 0
AllStarted shows cmds part =
    ((more : List Asked) × (started part ≡ asked shows (planned Compile cmds) ++ more)) × (abandoned part ≡ [])

-- The same where a failure stops the run: that of every source was, or the first of these alone, and one of them
-- failed. None was left alone.
abbrev pub StartsTill : Shows → List CommandSeen → List Event → Type 0
StartsTill shows cmds part =
    AllStarted shows cmds part ⊎ (((count : ℕ) × (started part ≡ take count (asked shows (planned Compile cmds))))
    × (has_failure part ≡ true) × (abandoned part ≡ []))

-- on every exit each command that was started has ended or was left alone
abbrev pub NothingRuns : List Event → Type 0
NothingRuns part = running part ≡ []

-- behind a fault, but one of what a question wants, children are abandoned, and nothing else is done
abbrev pub FaultsEnd : List Event → Type 0
FaultsEnd part =
    (before after : List Event) (call : HostCall) (why : Why) → is_probing call ≡ false
    → part ≡ before ++ Fault call why ∷ after → (ids : List ℕ) × (after ≡ map Abandoned ids)

-- What a compile run promises of its answer, its part and its course.
pub record Promises {T : Type 0} (b : BuildSeen) (listens : Bool) (output : List ℕ) (result : Result T ErrorSeen)
    (look : Look) (part : List Event) (c : Course) : Type 0 where
  -- what the run finds out as it goes; where lines are repeated, all of them are printed, and a host that listens is
  -- asked for the current folder
  pub way : Way
  pub repeats : Repeats b.config way.firsts
  pub hears : Hears listens way.found
  -- Ok: nothing is refused, and all stages were done. Else the first ones were, and the error has its cause.
  pub outcome : Ends (terms_for b listens c) (refusal_error b.config b.env look output)
      (stages_for b way look output) part result c.before c.after
  -- no command of the archive stands in the part unless every source was compiled before it
  pub order : ArchivesLast (terms_for b listens c) b.config b.env way.found look part
  -- one attempt for each of the first planned commands, and no other
  pub prefix : AreFirst (stages_for b way look output) part
  -- two sources or more are compiled beside each other, each under a token, and as many at once as there are tokens
  pub beside : 2 ≤ length b.config.files → RunBeside c.total b.config.stop_on_failure (length b.config.files) part
  -- unless the settings say so a failed child stops no later start: where a command ended badly and the host is sound,
  -- every source's command was started and has ended
  pub failed : b.config.stop_on_failure ≡ false → (e : ErrorSeen) → 2 ≤ length b.config.files → result ≡ Err e
      → e.kind ≡ ToolExecError → (HasFault part → ⊥)
      → AllStarted (shows_of b.config b.env listens) (compiles_of b.config b.env look) part
  -- where they do, each command that was started has ended, and where a source's command was not started one of these
  -- failed
  pub stopped : b.config.stop_on_failure ≡ true → (e : ErrorSeen) → 2 ≤ length b.config.files → result ≡ Err e
      → e.kind ≡ ToolExecError → (HasFault part → ⊥)
      → StartsTill (shows_of b.config b.env listens) (compiles_of b.config b.env look) part
