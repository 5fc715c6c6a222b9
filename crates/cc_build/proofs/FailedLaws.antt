-- A failed child stops no later start, unless the run is to stop by it.
use Rattle.std.proofs.Common.{◌≡◌, ◌⊎◌, inl, inr, ℕ, List, [], ◌∷◌, ◌++◌, take, Bool, true, false, if◌then◌else◌, Option, Some, None, option_map, Err, refl, sym, ◌∙◌, ap, ap₂, subst, append_assoc, append-nil}
use Rattle.std.specs.List.{list_any}
use Rattle.std.proofs.lemmas.List.Folds.{list_any-append}
use Rattle.std.proofs.lemmas.Grind.{flat_map-append}
use Rattle.std.proofs.lemmas.List.{map-append}
use Rattle.cc_env.specs.Env.{EnvSeen}
use Rattle.cc_host.specs.Command.{CommandSeen}
use Rattle.cc_host.specs.Part.{Step, Refuses}
use Rattle.cc_host.specs.Part.Step.{Runs, Makes, Removes, Writes, Copies, Finds, Says, Prints, Lists}
use Rattle.cc_host.specs.Question.{Look}
use Rattle.cc_host.specs.declared.event.Event.{Event}
use Rattle.cc_host.specs.declared.event.Event.TheVariants.{Fault}
use Rattle.cc_host.specs.declared.event.HostCall.TheVariants.{Start, Turn as Turning}
use Rattle.cc_flags.specs.Given.{is_disabled}
use Rattle.cc_plan.specs.Plan.{archive_refusal}
use Rattle.cc_plan.specs.Refusal.{early_refusal, late_refusal, link_refusal}
use Rattle.cc_flags.specs.Given.{first_of}
use Rattle.cc_plan.specs.declared.error.ArgumentCause.TheVariants.{Output, OutDir, NoFileName, SameObject, LibraryIsObject, LineFeed, FileCount, Library}
use Rattle.cc_plan.specs.declared.error.PlanError.{PlanError}
use Rattle.cc_plan.specs.declared.error.PlanError.TheVariants.{Argument, NotSet, UnknownTarget, QnxArch, Flag, Host, NoMemory as WantsMemory}
use Rattle.cc_flags.specs.declared.settings.BuildConfig.{BuildConfig}
use Rattle.cc_run.specs.Part.{started, started_of, abandoned, abandoned_of}
use Rattle.cc_run.specs.Planned.{Asked, asked, asked_by}
use Rattle.cc_run.specs.Run.{ids}
use Rattle.cc_run.specs.declared.error.RunError.{RunError}
use Rattle.cc_run.specs.declared.error.RunError.TheVariants.{ToolNotFound, Failed, StartFault, WaitFault, HostFault, JobFault, TurnsSpent, NoMemory}
use Rattle.cc_run.specs.declared.planned.Planned.{Planned}
use Rattle.cc_run.specs.declared.planned.Shows.{Shows}
use Rattle.cc_build.specs.Children.{has_failure}
use Rattle.cc_build.specs.Error.{ErrorSeen, no_memory}
use Rattle.cc_build.specs.Failed.{HasFault, is_fault}
use Rattle.cc_build.specs.Refusal.{plan_error, disabled_error, early_error, late_error, archive_error, link_error, refusal_error}
use Rattle.cc_build.specs.RunErrors.{command_at, error_of, run_error}
use Rattle.cc_build.specs.Stage.{Stage, children_of, children_in}
use Rattle.cc_build.specs.Stage.Stage.{Calls, Asks, Tries, RunsOne, RunsAll}
use Rattle.cc_build.specs.Stop.{missing_error, failed_error, unstarted_error, fault_error, stop_error}
use Rattle.cc_build.specs.Went.{Terms, Means, IsOf, Stops, Halts, Halted}
use Rattle.cc_build.specs.declared.error.ErrorKind.TheVariants.{ToolExecError}
use Rattle.cc_build.proofs.BesideLaws.{is_quiet, AreQuiet, Shape}
use Rattle.cc_build.proofs.ChildLaws.{failure_behind}
use Rattle.cc_build.proofs.RanLaws.{Said, said_all, said_one}
use Rattle.cc_build.proofs.RunLaws.{went_started, went_well}
use Rattle.cc_build.proofs.Trying.{broken_fault}
use Rattle.cc_build.proofs.StopLaws.{IsPlain, ArePlain, plain_behind, or_right, some_fault, went_kept}

-- ---- the error of a command that ended badly

-- an error of that kind is no want of memory
ended_badly : (is e : ErrorSeen) → e.kind ≡ ToolExecError → IsOf is e → is.kind ≡ ToolExecError
ended_badly is e h (inl memory) = absurd (let k : no_memory.kind ≡ ToolExecError = ap (λ o. o.kind) (sym memory) ∙ h in cc)
ended_badly is e h (inr same) = ap (λ o. o.kind) (sym same) ∙ h

call_kind : (step : Step) (event : Event) → IsPlain (Calls step) → Refuses step event → (stop_error step event).kind ≡ ToolExecError → ⊥
unfolding missing_error failed_error unstarted_error fault_error
call_kind (Runs role cmd) event plain r h = absurd plain
call_kind (Makes scope path) (Fault call why) plain r h = cc
call_kind (Removes path) (Fault call why) plain r h = cc
call_kind (Writes path bytes) (Fault call why) plain r h = cc
call_kind (Copies from to) (Fault call why) plain r h = cc
call_kind (Finds path) (Fault call why) plain r h = cc
call_kind (Says message) (Fault call why) plain r h = cc
call_kind (Prints kind bytes) (Fault call why) plain r h = cc
call_kind Lists (Fault call why) plain r h = cc
call_kind _ _ plain r h = absurd r

of_kind : (f : CommandSeen → ErrorSeen) → ((cmd : CommandSeen) → (f cmd).kind ≡ ToolExecError → ⊥) → (o : Option CommandSeen) → (error_of f o).kind ≡ ToolExecError → ⊥
of_kind f h (Some cmd) e = h cmd e
of_kind f h None e = cc

-- What a part says of commands of which one failed: the first ones were started, none was left alone, and all were started, unless a failure stops
-- them.
record Badly (shows : Shows) (stop : Bool) (ps : List Planned) (part : List Event) : Type 0 where
  kept : abandoned part ≡ []
  failure : has_failure part ≡ true
  count : ℕ
  first : started part ≡ take count (asked shows ps)
  all : stop ≡ false → started part ≡ asked shows ps

-- so is a run of commands that ended for such an error, and without a fault
run_badly : (shows : Shows) (stop : Bool) (ps : List Planned) (part : List Event) (error : RunError) → Said shows stop ps part (Err error) → (run_error ps error).kind ≡ ToolExecError → (HasFault part → ⊥) → Badly shows stop ps part
unfolding missing_error failed_error unstarted_error fault_error
run_badly shows stop ps part (ToolNotFound place) s h sound = absurd (of_kind missing_error (λ cmd k. cc) (command_at ps place) h)
run_badly shows stop ps part (Failed place status) s h sound = record { kept = s.left ∙ ap ids s.ends.1; failure = s.ends.2; count = s.count; first = s.begun; all = s.ends.3 }
run_badly shows stop ps part (StartFault place) s h sound = absurd (sound (some_fault part Start [] s.faults_are refl))
run_badly shows stop ps part WaitFault s h sound = absurd (sound (some_fault part Turning [] s.faults_are refl))
run_badly shows stop ps part (HostFault call why) s h sound = absurd (cc)
run_badly shows stop ps part JobFault s h sound = absurd (cc)
run_badly shows stop ps part TurnsSpent s h sound = absurd (cc)
run_badly shows stop ps part NoMemory s h sound = absurd (cc)

-- such a stage is one of commands
stop_badly : (t : Terms) (s : Stage) (part : List Event) (e : ErrorSeen) (x y : Means) → IsPlain s → Stops t s part e x y → e.kind ≡ ToolExecError → (HasFault part → ⊥) → (is_quiet s ≡ false) × Badly t.shows t.shows.stop (children_of s) part
stop_badly t (Calls step) part e x y plain d h sound = absurd (call_kind step d.0 plain d.1.1 (ended_badly (stop_error step d.0) e h d.1.2))
stop_badly t Asks part e x y plain d h sound = absurd (let k : no_memory.kind ≡ ToolExecError = ap (λ o. o.kind) (sym d.0) ∙ h in cc)
stop_badly t (Tries refused p) part e x y plain d h sound = absurd (tried_sound p d.0 (ended_badly (run_error (p ∷ []) d.0) e h d.1.2) sound (broken_fault t.shows p part d.0 d.1.0 d.1.1))
  where
    tried_sound : (p : Planned) (error : RunError) → (run_error (p ∷ []) error).kind ≡ ToolExecError → (HasFault part → ⊥) → (error ≡ NoMemory) ⊎ (list_any is_fault part ≡ true) → ⊥
    tried_sound p error k sound (inl wanted) = let kind : no_memory.kind ≡ ToolExecError = ap (λ (o : RunError). (run_error (p ∷ []) o).kind) (sym wanted) ∙ k in cc
    tried_sound p error k sound (inr fault) = sound fault
stop_badly t (RunsOne p) part e x y plain d h sound =
    let r = run_badly t.shows false (p ∷ []) part d.0 (said_one t p part (Err d.0) x y d.1.0) (ended_badly (run_error (p ∷ []) d.0) e h d.1.1) sound in
    (refl, record { kept = r.kept; failure = r.failure; count = r.count; first = r.first; all = λ going. r.all refl })
stop_badly t (RunsAll ps) part e x y plain d h sound =
    (refl, run_badly t.shows t.shows.stop ps part d.0 (said_all t ps part (Err d.0) x y d.1.0) (ended_badly (run_error ps d.0) e h d.1.1) sound)

-- ---- no refusal of settings is such an error

abbrev pub NeverRan : Option ErrorSeen → Type 0
NeverRan refusal = (e : ErrorSeen) → refusal ≡ Some e → e.kind ≡ ToolExecError → ⊥

plan_kind : (set : BuildConfig) (env : EnvSeen) (output : List ℕ) (error : PlanError) → (plan_error set env output error).kind ≡ ToolExecError → ⊥
unfolding plan_error fault_error
plan_kind set env output (Argument Output) h = cc
plan_kind set env output (Argument OutDir) h = cc
plan_kind set env output (Argument (NoFileName place)) h = cc
plan_kind set env output (Argument (SameObject first second)) h = cc
plan_kind set env output (Argument (LibraryIsObject place)) h = cc
plan_kind set env output (Argument (LineFeed place)) h = cc
plan_kind set env output (Argument FileCount) h = cc
plan_kind set env output (Argument Library) h = cc
plan_kind set env output (NotSet name) h = cc
plan_kind set env output (UnknownTarget target) h = cc
plan_kind set env output (QnxArch arch) h = cc
plan_kind set env output (Flag flag) h = cc
plan_kind set env output (Host call why) h = cc
plan_kind set env output WantsMemory h = cc

mapped : (set : BuildConfig) (env : EnvSeen) (output : List ℕ) (refusal : Option PlanError) → NeverRan (option_map (plan_error set env output) refusal)
mapped set env output None e is h = cc
mapped set env output (Some error) e is h =
    let same : plan_error set env output error ≡ e = cc in
    plan_kind set env output error (ap (λ (x : ErrorSeen). x.kind) same ∙ h)

disabled_or : (b : Bool) (refusal : Option ErrorSeen) → NeverRan refusal → NeverRan (if b then Some disabled_error else refusal)
disabled_or true refusal f e is h =
    let same : disabled_error ≡ e = cc in
    let kind : disabled_error.kind ≡ ToolExecError = ap (λ (x : ErrorSeen). x.kind) same ∙ h in
    cc
disabled_or false refusal f e is h = f e is h

first_never : (a b : Option ErrorSeen) → NeverRan a → NeverRan b → NeverRan (first_of a b)
first_never None b f g e is h = g e is h
first_never (Some x) b f g e is h = f e is h

pub never_ran : (set : BuildConfig) (env : EnvSeen) (look : Look) (output : List ℕ) → NeverRan (refusal_error set env look output)
never_ran set env look output =
    first_never (early_error set env output) _ (mapped set env output (early_refusal set env output)) (
    first_never (late_error set env look output) _ (disabled_or (is_disabled env) _ (mapped set env output (late_refusal set env look))) (
    first_never (archive_error set env look output) (link_error set env look output) (mapped set env output (archive_refusal set env look)) (mapped set env output (link_refusal set env look))
    )
    )

-- ---- the stage at which it ended

unmemory : (refusal : Option ErrorSeen) (e : ErrorSeen) → NeverRan refusal → (e ≡ no_memory) ⊎ (refusal ≡ Some e) → e.kind ≡ ToolExecError → ⊥
unmemory refusal e f (inl memory) h = let k : no_memory.kind ≡ ToolExecError = ap (λ o. o.kind) (sym memory) ∙ h in cc
unmemory refusal e f (inr refused) h = f e refused h

-- the stages up to the one that ended badly
record Reached (t : Terms) (before after : List Stage) (rest : List Event) : Type 0 where
  stage : Stage
  more : List Stage
  are : after ≡ stage ∷ more
  loud : is_quiet stage ≡ false
  badly : Badly t.shows t.shows.stop (children_of stage) rest

reached : (t : Terms) (refusal : Option ErrorSeen) (before after : List Stage) (rest : List Event) (e : ErrorSeen) (x y : Means) → NeverRan refusal → ArePlain after → Halts t refusal after rest e x y → e.kind ≡ ToolExecError → (HasFault rest → ⊥) → Reached t before after rest
reached t refusal before [] rest e x y f plain h k sound = absurd (unmemory refusal e f h.0 k)
reached t refusal before (s ∷ ss) rest e x y f plain (inl h) k sound = absurd (unmemory refusal e f (inl h.0) k)
reached t refusal before (s ∷ ss) rest e x y f plain (inr stop) k sound =
    let r = stop_badly t s rest e x y plain.0 stop k sound in
    record { stage = s; more = ss; are = refl; loud = r.0; badly = r.1 }

loud_in : (before more : List Stage) (s : Stage) → is_quiet s ≡ false → AreQuiet (before ++ s ∷ more) → ⊥
loud_in [] more s loud q = let k : false ≡ true = sym loud ∙ q.0 in cc
loud_in (b ∷ before) more s loud q = loud_in before more s loud q.1

first_eq : {X : Type 0} (x y : X) (xs ys : List X) → x ∷ xs ≡ y ∷ ys → x ≡ y
first_eq x y xs ys e = cc

rest_eq : {X : Type 0} (x y : X) (xs ys : List X) → x ∷ xs ≡ y ∷ ys → xs ≡ ys
rest_eq x y xs ys e = cc

quiet_none : (s : Stage) → is_quiet s ≡ true → children_of s ≡ []
quiet_none (Calls step) q = refl
quiet_none Asks q = refl
quiet_none (Tries refused p) q = absurd (let k : false ≡ true = q in cc)
quiet_none (RunsOne p) q = absurd (let k : false ≡ true = q in cc)
quiet_none (RunsAll ps) q = absurd (let k : false ≡ true = q in cc)

-- a stage of commands is the first one of these, or stands behind it
behind_shape : (ps : List Planned) (first more before after : List Stage) (s : Stage) → AreQuiet first → is_quiet s ≡ false → before ++ s ∷ after ≡ first ++ RunsAll ps ∷ more → ((children_in before ≡ []) × (children_of s ≡ ps)) ⊎ ((rest : List Planned) × (children_in before ≡ ps ++ rest))
behind_shape ps [] more [] after s q loud e = inl (refl, ap children_of (first_eq s (RunsAll ps) after more e))
behind_shape ps [] more (b ∷ before) after s q loud e =
    let same : b ≡ RunsAll ps = first_eq b (RunsAll ps) (before ++ s ∷ after) more e in
    inr (children_in before, ap (λ l. l ++ children_in before) (ap children_of same))
behind_shape ps (f ∷ first) more [] after s q loud e =
    let same : s ≡ f = first_eq s f after (first ++ RunsAll ps ∷ more) e in
    let k : false ≡ true = sym loud ∙ ap is_quiet same ∙ q.0 in
    absurd (cc)
behind_shape ps (f ∷ first) more (b ∷ before) after s q loud e =
    let same : b ≡ f = first_eq b f (before ++ s ∷ after) (first ++ RunsAll ps ∷ more) e in
    let none : children_of b ≡ [] = quiet_none b (ap is_quiet same ∙ q.0) in
    elim (behind_shape ps first more before after s q.1 loud (rest_eq b f (before ++ s ∷ after) (first ++ RunsAll ps ∷ more) e)) [
      | inl k ↦ inl (ap (λ l. l ++ children_in before) none ∙ k.0, k.1)
      | inr k ↦ inr (k.0, ap (λ l. l ++ children_in before) none ∙ k.1)
    ]

module _ (t : Terms) (ps : List Planned) (refusal : Option ErrorSeen) (stages : List Stage) (part : List Event) (e : ErrorSeen) (x z : Means) (never : NeverRan refusal) (plain : ArePlain stages) (shape : AreQuiet stages ⊎ Shape ps stages) (h : Halted t refusal stages part e x z) (badly : e.kind ≡ ToolExecError) where
  -- these were started, and none was left alone
  abbrev AreStarted : Type 0
  AreStarted = ((more : List Asked) × (started part ≡ asked t.shows ps ++ more)) × (abandoned part ≡ [])

  -- or the first of these alone, and one failed
  abbrev AreStopped : Type 0
  AreStopped = AreStarted ⊎ (((count : ℕ) × (started part ≡ take count (asked t.shows ps))) × (has_failure part ≡ true) × (abandoned part ≡ []))

  module _ (r : Reached t h.before h.after h.rest) where
    both : started part ≡ asked t.shows (children_in h.before) ++ started h.rest
    both = ap started h.cut ∙ flat_map-append started_of h.front h.rest ∙ ap (λ l. l ++ started h.rest) (went_started t h.before h.front x h.y h.went)

    kept : abandoned part ≡ []
    kept = ap abandoned h.cut ∙ flat_map-append abandoned_of h.front h.rest ∙ ap₂ (λ u v. u ++ v) (went_kept t h.before h.front x h.y h.went) r.badly.kept

    failure : has_failure part ≡ true
    failure = ap has_failure h.cut ∙ failure_behind h.front h.rest (went_well t h.before h.front x h.y h.went).settled ∙ or_right (has_failure h.front) (has_failure h.rest) r.badly.failure

    by_place : ((children_in h.before ≡ []) × (children_of r.stage ≡ ps)) ⊎ ((rest : List Planned) × (children_in h.before ≡ ps ++ rest)) → AreStopped × (t.shows.stop ≡ false → AreStarted)
    by_place (inl (none, are)) =
        let front : started part ≡ started h.rest = both ∙ ap (λ l. asked t.shows l ++ started h.rest) none in (
          inr ((r.badly.count, front ∙ r.badly.first ∙ ap (λ l. take r.badly.count (asked t.shows l)) are), failure, kept),
          λ going. (([], front ∙ r.badly.all going ∙ ap (asked t.shows) are ∙ sym (append-nil (asked t.shows ps))), kept),
        )
    by_place (inr (rest, are)) =
        let all : AreStarted = (
          (
            asked t.shows rest ++ started h.rest,
            both ∙ ap (λ l. asked t.shows l ++ started h.rest) are ∙ ap (λ l. l ++ started h.rest) (map-append (asked_by t.shows) ps rest) ∙ append_assoc (asked t.shows ps) (asked t.shows rest) (started h.rest),
          ),
          kept,
        ) in
        (inl all, λ going. all)

    all_by : AreQuiet stages ⊎ Shape ps stages → AreStopped × (t.shows.stop ≡ false → AreStarted)
    all_by (inl q) = absurd (loud_in h.before r.more r.stage r.loud (subst AreQuiet (h.stages_are ∙ ap (λ l. h.before ++ l) r.are) q))
    all_by (inr s) = by_place (behind_shape ps s.first s.more h.before r.more r.stage s.quiet r.loud (sym (h.stages_are ∙ ap (λ l. h.before ++ l) r.are) ∙ s.are))

  found : (HasFault part → ⊥) → AreStopped × (t.shows.stop ≡ false → AreStarted)
  found sound =
      all_by (reached t refusal h.before h.after h.rest e h.y z never (plain_behind h.before h.after (subst ArePlain h.stages_are plain)) h.halts badly (λ fault. sound (ap (list_any is_fault) h.cut ∙ list_any-append is_fault h.front h.rest ∙ or_right (list_any is_fault h.front) (list_any is_fault h.rest) fault)))
      shape

  -- where a command ended badly and the host is sound, each of the commands was started, and none was left alone, unless a failure stops the run
  pub all_started : t.shows.stop ≡ false → (HasFault part → ⊥) → AreStarted
  all_started going sound = (found sound).1 going

  -- where it does, none was left alone, and where not each was started one failed
  pub all_stopped : (HasFault part → ⊥) → AreStopped
  all_stopped sound = (found sound).0
