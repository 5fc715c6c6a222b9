-- An error about the path of a library is that of a refusal, and no settings are refused so but those of link lines by
-- a path.
use Rattle.std.proofs.Common.{◌≡◌, ◌≢◌, ◌⊎◌, inl, inr, ◌∙◌, sym, ap, ℕ, List, [], ◌∷◌, get_or, Bool, true, false, not, refl, Option, Some, None, Result, Ok, Err, arith, if◌then◌else◌}
use Rattle.std.specs.Option.{option_map}
use Rattle.cc_env.specs.Env.{EnvSeen}
use Rattle.cc_host.specs.Command.{CommandSeen}
use Rattle.cc_host.specs.Part.{Step, left, stops}
use Rattle.cc_host.specs.Part.Step.{Runs, Makes, Removes, Writes, Copies, Finds, Says, Prints, Lists}
use Rattle.cc_host.specs.Question.{Look}
use Rattle.cc_host.specs.declared.event.Event.{Event}
use Rattle.cc_host.specs.declared.event.Event.TheVariants.{Ran, Missing, Fault}
use Rattle.cc_flags.specs.Given.{is_disabled, first_of}
use Rattle.cc_flags.specs.declared.settings.BuildConfig.{BuildConfig}
use Rattle.cc_plan.specs.Plan.{archive_refusal}
use Rattle.cc_plan.specs.Refusal.{name_refusal, early_refusal, late_refusal, link_refusal, tool_refusal, archiver_refusal, ranlib_refusal}
use Rattle.cc_plan.specs.declared.error.ArgumentCause.TheVariants.{Output, OutDir, NoFileName, SameObject, LibraryIsObject, LineFeed, FileCount, Library}
use Rattle.cc_plan.specs.declared.error.PlanError.{PlanError}
use Rattle.cc_plan.specs.declared.error.PlanError.TheVariants.{Argument, NotSet, UnknownTarget, QnxArch, Flag, Host, NoMemory as WantsMemory}
use Rattle.cc_plan.proofs.CauseLaws.{IsOther, name_other, early_other, late_other, archive_other, link_other, tool_other, archiver_other, ranlib_other}
use Rattle.cc_run.specs.declared.error.RunError.{RunError}
use Rattle.cc_run.specs.declared.error.RunError.TheVariants.{ToolNotFound, Failed, StartFault, WaitFault, HostFault, JobFault, TurnsSpent, NoMemory}
use Rattle.cc_run.specs.declared.planned.Planned.{Planned}
use Rattle.cc_build.specs.Archiving.{unarchived_error}
use Rattle.cc_build.specs.Compiler.{tool_error}
use Rattle.cc_build.specs.Error.{ErrorSeen, no_memory}
use Rattle.cc_build.specs.Expand.{is_single, unexpanded_error}
use Rattle.cc_build.specs.Outcome.{IsCausedBy, Outcome}
use Rattle.cc_build.specs.Refusal.{no_library_error, number_error, disabled_error, plan_error, early_error, late_error, archive_error, link_error, refusal_error}
use Rattle.cc_build.specs.RunErrors.{command_at, error_of, run_error}
use Rattle.cc_build.specs.Stage.{Stage}
use Rattle.cc_build.specs.Stage.Stage.{Calls, Asks, Tries, RunsOne, RunsAll}
use Rattle.cc_build.specs.Stop.{missing_error, failed_error, unstarted_error, fault_error, stop_error, stopped_by}
use Rattle.cc_build.specs.Tools.{archiver_error, ranlib_error}
use Rattle.cc_build.specs.Went.{Terms, Means, IsOf, Stops, Halts, Halted, Ends}
use Rattle.cc_build.specs.declared.error.ErrorKind.TheVariants.{InvalidArgument}

-- the error isn't about the path of a library
abbrev pub IsPathless : ErrorSeen → Type 0
IsPathless e = (path : List ℕ) → e ≢ no_library_error path

-- no such error refuses the settings
abbrev pub ArePathless : Option ErrorSeen → Type 0
ArePathless refusal = (e : ErrorSeen) → refusal ≡ Some e → IsPathless e

-- ---- errors of what a run does

-- one of another kind isn't
abbrev IsFaultless : ErrorSeen → Type 0
IsFaultless e = e.kind ≢ InvalidArgument

pub pathless : (e : ErrorSeen) → IsFaultless e → IsPathless e
pathless e other path is = other (ap (λ (x : ErrorSeen). x.kind) is)

pub memory_pathless : (e : ErrorSeen) → e ≡ no_memory → IsPathless e
memory_pathless e memory = pathless e (λ kind. let clash : no_memory.kind ≡ InvalidArgument = ap (λ (x : ErrorSeen). x.kind) (sym memory) ∙ kind in cc)

stop_kind : (step : Step) (event : Event) → IsFaultless (stop_error step event)
unfolding missing_error failed_error unstarted_error fault_error
stop_kind (Runs role cmd) (Ran r c pipes status out err) kind = cc
stop_kind (Runs role cmd) (Missing r c) kind = cc
stop_kind (Runs role cmd) (Fault call why) kind = cc
stop_kind (Makes scope path) (Fault call why) kind = cc
stop_kind (Removes path) (Fault call why) kind = cc
stop_kind (Writes path bytes) (Fault call why) kind = cc
stop_kind (Copies from to) (Fault call why) kind = cc
stop_kind (Finds path) (Fault call why) kind = cc
stop_kind (Says message) (Fault call why) kind = cc
stop_kind (Prints of_kind bytes) (Fault call why) kind = cc
stop_kind Lists (Fault call why) kind = cc
stop_kind step event kind = cc

command_kind : (f : CommandSeen → ErrorSeen) → ((cmd : CommandSeen) → IsFaultless (f cmd)) → (cmd : Option CommandSeen) → IsFaultless (error_of f cmd)
command_kind f h (Some cmd) = h cmd
command_kind f h None = λ kind. cc

run_kind : (ps : List Planned) (error : RunError) → IsFaultless (run_error ps error)
unfolding missing_error failed_error unstarted_error fault_error
run_kind ps (ToolNotFound place) = command_kind missing_error (λ cmd kind. cc) (command_at ps place)
run_kind ps (Failed place status) = command_kind (failed_error status) (λ cmd kind. cc) (command_at ps place)
run_kind ps (StartFault place) = command_kind unstarted_error (λ cmd kind. cc) (command_at ps place)
run_kind ps WaitFault = λ kind. cc
run_kind ps (HostFault call why) = λ kind. cc
run_kind ps JobFault = λ kind. cc
run_kind ps TurnsSpent = λ kind. cc
run_kind ps NoMemory = λ kind. cc

pub of_pathless : (is e : ErrorSeen) → IsPathless is → IsOf is e → IsPathless e
of_pathless is e h (inl memory) = memory_pathless e memory
of_pathless is e h (inr same) = λ path at. h path (sym same ∙ at)

pub run_pathless : (ps : List Planned) (error : RunError) (e : ErrorSeen) → IsOf (run_error ps error) e → IsPathless e
run_pathless ps error e h = of_pathless (run_error ps error) e (pathless (run_error ps error) (run_kind ps error)) h

pub fault_pathless : (step : Step) (event : Event) (e : ErrorSeen) → IsOf (stop_error step event) e → IsPathless e
fault_pathless step event e h = of_pathless (stop_error step event) e (pathless (stop_error step event) (stop_kind step event)) h

stops_pathless : (t : Terms) (s : Stage) (part : List Event) (e : ErrorSeen) (x y : Means) → Stops t s part e x y → IsPathless e
stops_pathless t (Calls step) part e x y d = fault_pathless step d.0 e d.1.2
stops_pathless t Asks part e x y d = memory_pathless e d.0
stops_pathless t (Tries refused p) part e x y d = run_pathless (p ∷ []) d.0 e d.1.2
stops_pathless t (RunsOne p) part e x y d = run_pathless (p ∷ []) d.0 e d.1.1
stops_pathless t (RunsAll ps) part e x y d = run_pathless ps d.0 e d.1.1

-- a run that ended before all of its stages were done
pub halted_pathless : (t : Terms) (refusal : Option ErrorSeen) (stages : List Stage) (part : List Event) (e : ErrorSeen) (x z : Means) → ArePathless refusal → Halted t refusal stages part e x z → IsPathless e
halted_pathless t refusal stages part e x z never h = by_stages h.after h.halts
  where
    by_stages : (after : List Stage) → Halts t refusal after h.rest e h.y z → IsPathless e
    by_stages [] k = by_cause k.0
      where
        by_cause : (e ≡ no_memory) ⊎ (refusal ≡ Some e) → IsPathless e
        by_cause (inl memory) = memory_pathless e memory
        by_cause (inr refused) = never e refused
    by_stages (s ∷ after) (inl memory) = memory_pathless e memory.0
    by_stages (s ∷ after) (inr stopped) = stops_pathless t s h.rest e h.y z stopped

stopped_pathless : (steps : List Step) (events : List Event) (e : ErrorSeen) → stopped_by steps events ≡ Some e → IsPathless e
stopped_pathless [] events e h = absurd (cc)
stopped_pathless (step ∷ steps) [] e h = absurd (cc)
stopped_pathless (step ∷ steps) (event ∷ []) e h = fault_pathless step event e (inr (let same : stop_error step event ≡ e = cc in sym same))
stopped_pathless (step ∷ steps) (event ∷ other ∷ events) e h = absurd (cc)

-- a call that ended before all of its steps were done
pub caused_pathless : (refusal : Option ErrorSeen) (steps : List Step) (part : List Event) (e : ErrorSeen) → ArePathless refusal → IsCausedBy refusal steps part e → IsPathless e
caused_pathless refusal steps part e never (inl memory) = memory_pathless e memory
caused_pathless refusal steps part e never (inr (inl refused)) = never e refused
caused_pathless refusal steps part e never (inr (inr stopped)) = stopped_pathless (left steps part) (stops part) e stopped

-- the same by what is told of an answer
pub ends_pathless : {T : Type 0} (t : Terms) (refusal : Option ErrorSeen) (stages : List Stage) (part : List Event) (r : Result T ErrorSeen) (x z : Means) → ArePathless refusal → Ends t refusal stages part r x z → (e : ErrorSeen) → r ≡ Err e → IsPathless e
ends_pathless t refusal stages part (Ok v) x z never o e is = absurd (cc)
ends_pathless t refusal stages part (Err error) x z never o e is =
    let same : error ≡ e = cc in
    λ path at. halted_pathless t refusal stages part error x z never o path (same ∙ at)

pub outcome_pathless : {T : Type 0} (refusal : Option ErrorSeen) (steps : List Step) (part : List Event) (r : Result T ErrorSeen) → ArePathless refusal → Outcome refusal steps part r → (e : ErrorSeen) → r ≡ Err e → IsPathless e
outcome_pathless refusal steps part (Ok v) never o e is = absurd (cc)
outcome_pathless refusal steps part (Err error) never o e is =
    let same : error ≡ e = cc in
    λ path at. caused_pathless refusal steps part error never o.1 path (same ∙ at)

-- ---- errors of settings

abbrev initial : ErrorSeen → ℕ
initial e = get_or e.message 0 0

plan_pathless : (set : BuildConfig) (env : EnvSeen) (output : List ℕ) (error : PlanError) → error ≢ Argument Library → IsPathless (plan_error set env output error)
unfolding plan_error fault_error
plan_pathless set env output (Argument Output) other path is = let m : initial (plan_error set env output (Argument Output)) ≡ 101 = ap initial is in omega (arith, m)
plan_pathless set env output (Argument OutDir) other path is = let m : initial (plan_error set env output (Argument OutDir)) ≡ 101 = ap initial is in omega (arith, m)
plan_pathless set env output (Argument (NoFileName place)) other path is = let m : initial (plan_error set env output (Argument (NoFileName place))) ≡ 101 = ap initial is in omega (arith, m)
plan_pathless set env output (Argument (SameObject first second)) other path is = let m : initial (plan_error set env output (Argument (SameObject first second))) ≡ 101 = ap initial is in omega (arith, m)
plan_pathless set env output (Argument (LibraryIsObject place)) other path is = let m : initial (plan_error set env output (Argument (LibraryIsObject place))) ≡ 101 = ap initial is in omega (arith, m)
plan_pathless set env output (Argument (LineFeed place)) other path is = let m : initial (plan_error set env output (Argument (LineFeed place))) ≡ 101 = ap initial is in omega (arith, m)
plan_pathless set env output (Argument FileCount) other path is = let m : initial (plan_error set env output (Argument FileCount)) ≡ 101 = ap initial is in omega (arith, m)
plan_pathless set env output (Argument Library) other path is = absurd (other refl)
plan_pathless set env output (NotSet name) other path is = let kind = ap (λ (x : ErrorSeen). x.kind) is in cc
plan_pathless set env output (UnknownTarget target) other path is = let kind = ap (λ (x : ErrorSeen). x.kind) is in cc
plan_pathless set env output (QnxArch arch) other path is = let kind = ap (λ (x : ErrorSeen). x.kind) is in cc
plan_pathless set env output (Flag flag) other path is = let kind = ap (λ (x : ErrorSeen). x.kind) is in cc
plan_pathless set env output (Host call why) other path is = let kind = ap (λ (x : ErrorSeen). x.kind) is in cc
plan_pathless set env output WantsMemory other path is = let kind = ap (λ (x : ErrorSeen). x.kind) is in cc

pub mapped_pathless : (set : BuildConfig) (env : EnvSeen) (output : List ℕ) (refusal : Option PlanError) → IsOther refusal → ArePathless (option_map (plan_error set env output) refusal)
mapped_pathless set env output None other e is = absurd (cc)
mapped_pathless set env output (Some error) other e is =
    let same : plan_error set env output error ≡ e = cc in
    λ path at. plan_pathless set env output error (λ library. other (ap (λ x. Some x) library)) path (same ∙ at)

pub first_pathless : (a b : Option ErrorSeen) → ArePathless a → ArePathless b → ArePathless (first_of a b)
first_pathless None b f g = g
first_pathless (Some x) b f g = f

pub none_pathless : ArePathless None
none_pathless e is = absurd (cc)

disabled_pathless : (b : Bool) (refusal : Option ErrorSeen) → ArePathless refusal → ArePathless (if b then Some disabled_error else refusal)
disabled_pathless true refusal h = λ e is. let same : disabled_error ≡ e = cc in λ path at. let kind : disabled_error.kind ≡ InvalidArgument = ap (λ (x : ErrorSeen). x.kind) (same ∙ at) in cc
disabled_pathless false refusal h = h

module _ (set : BuildConfig) (env : EnvSeen) (look : Look) (output : List ℕ) where
  pub archive_pathless : ArePathless (archive_error set env look output)
  archive_pathless = mapped_pathless set env output (archive_refusal set env look) (archive_other set env look)

  pub links_pathless : ArePathless (link_error set env look output)
  links_pathless = mapped_pathless set env output (link_refusal set env look) (link_other set env look)

  -- a compile run
  pub run_refusal_pathless : ArePathless (refusal_error set env look output)
  run_refusal_pathless =
      first_pathless (early_error set env output) _ (mapped_pathless set env output (early_refusal set env output) (early_other set env output))
      (first_pathless (late_error set env look output) _ (disabled_pathless (is_disabled env) _ (mapped_pathless set env output (late_refusal set env look) (late_other set env look)))
      (first_pathless (archive_error set env look output) (link_error set env look output) archive_pathless links_pathless))

  -- the checks before an archive
  pub unarchived_pathless : ArePathless (unarchived_error set env output)
  unarchived_pathless =
      first_pathless (option_map (plan_error set env output) (name_refusal output)) _ (mapped_pathless set env output (name_refusal output) (name_other output))
      (disabled_pathless (is_disabled env) _ (mapped_pathless set env output (early_refusal set env output) (early_other set env output)))

-- the compiler, and the tools of archives
module _ (set : BuildConfig) (env : EnvSeen) (look : Look) where
  pub tool_pathless : ArePathless (tool_error set env look)
  tool_pathless = mapped_pathless set env [] (tool_refusal set env look) (tool_other set env look)

  pub archiver_pathless : ArePathless (archiver_error set env look)
  archiver_pathless = mapped_pathless set env [] (archiver_refusal set env look) (archiver_other set env look)

  pub ranlib_pathless : ArePathless (ranlib_error set env look)
  ranlib_pathless = mapped_pathless set env [] (ranlib_refusal set env look) (ranlib_other set env look)

-- a source that is expanded
pub unexpanded_pathless : (set : BuildConfig) (env : EnvSeen) → ArePathless (unexpanded_error set env)
unexpanded_pathless set env = by_number (is_single set.files)
  where
    by_number : (single : Bool) → ArePathless (if (not single) then Some number_error else if is_disabled env then Some disabled_error else None)
    by_number true = disabled_pathless (is_disabled env) None none_pathless
    by_number false = λ e is. let same : number_error ≡ e = cc in λ path at. let m : initial number_error ≡ 101 = ap initial (same ∙ at) in omega (arith, m)
