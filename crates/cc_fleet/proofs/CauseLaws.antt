-- Why a fleet has no answer for each member, and where it has one.
use Rattle.std.proofs.Common.{◌≡◌, ◌⊎◌, inl, inr, ℕ, zero, suc, List, [], ◌∷◌, map, take, drop, Bool, true, false, if◌then◌else◌, Option, None, Some, option_map, Result, Ok, Err, refl, sym, ◌∙◌, ap, subst}
use Rattle.std.specs.Prelude.{◌≢◌}
use Rattle.std.specs.List.{list_any, slice_get}
use Rattle.std.proofs.lemmas.List.Folds.{list_any-append}
use Rattle.cc_env.specs.Env.{EnvSeen}
use Rattle.cc_jobs.specs.Seats.{Rose}
use Rattle.cc_host.specs.Command.{CommandSeen}
use Rattle.cc_host.specs.Part.{is_probing}
use Rattle.cc_host.specs.Question.{Look}
use Rattle.cc_host.specs.declared.event.Event.{Event}
use Rattle.cc_host.specs.declared.event.HostCall.{HostCall}
use Rattle.cc_host.specs.declared.event.HostCall.TheVariants.{Start, Turn as Turning}
use Rattle.cc_host.specs.declared.event.Role.{Role}
use Rattle.cc_flags.specs.Given.{is_disabled, first_of}
use Rattle.cc_flags.specs.declared.settings.BuildConfig.{BuildConfig}
use Rattle.cc_plan.specs.Plan.{archive_refusal}
use Rattle.cc_plan.specs.Refusal.{name_refusal, path_refusal, early_refusal, late_refusal, link_refusal}
use Rattle.cc_plan.specs.declared.error.ArgumentCause.TheVariants.{Output, OutDir, NoFileName, SameObject, LibraryIsObject, LineFeed, FileCount, Library}
use Rattle.cc_plan.specs.declared.error.PlanError.{PlanError}
use Rattle.cc_plan.specs.declared.error.PlanError.TheVariants.{Argument, NotSet, UnknownTarget, QnxArch, Flag, Host, NoMemory as WantsMemory}
use Rattle.cc_run.specs.Outcome.{IsNotice}
use Rattle.cc_run.specs.Part.{missing}
use Rattle.cc_run.specs.declared.error.RunError.{RunError}
use Rattle.cc_run.specs.declared.error.RunError.TheVariants.{ToolNotFound, Failed, StartFault, WaitFault, HostFault, JobFault, TurnsSpent, NoMemory}
use Rattle.cc_run.specs.declared.mark.Mark.{Mark}
use Rattle.cc_run.specs.declared.planned.Planned.{Planned}
use Rattle.cc_run.specs.declared.planned.Shows.{Shows}
use Rattle.cc_build.specs.Archiving.{unarchived_error, creation_error}
use Rattle.cc_build.specs.Error.{ErrorSeen, no_memory}
use Rattle.cc_build.specs.Failed.{HasFault, is_fault}
use Rattle.cc_build.specs.Linking.{directive_error}
use Rattle.cc_build.specs.Planning.{planning_error}
use Rattle.cc_build.specs.Refusal.{plan_error, disabled_error, early_error, late_error, archive_error}
use Rattle.cc_build.specs.RunErrors.{run_error}
use Rattle.cc_build.specs.Stage.{Stage}
use Rattle.cc_build.specs.Stage.Stage.{Calls, Asks, Tries, RunsOne, RunsAll}
use Rattle.cc_build.specs.Stop.{fault_error}
use Rattle.cc_build.specs.Went.{Terms, Means, IsOf, Stops, Halts, Halted, RanOne, RanAll}
use Rattle.cc_build.specs.declared.error.ErrorKind.TheVariants.{TurnsSpent as SpendsTurns}
use Rattle.cc_build.proofs.AloneLaws.{IsStill, AreStill, still_behind}
use Rattle.cc_build.proofs.RanLaws.{Said, said_all, said_one, all_spent, all_rose, one_spent, one_sound}
use Rattle.cc_build.proofs.StopLaws.{IsPlain, ArePlain, plain_behind, or_right, some_fault, call_cause}
use Rattle.cc_fleet.specs.Run.{RanSeveral, RanJoined, StopsRun, marks_of}
use Rattle.cc_fleet.proofs.JoinedLaws.{several_all}

-- ---- refused settings spend no turns

abbrev pub NeverSpent : Option ErrorSeen → Type 0
NeverSpent refusal = (e : ErrorSeen) → refusal ≡ Some e → e.kind ≡ SpendsTurns → ⊥

plan_kind : (set : BuildConfig) (env : EnvSeen) (output : List ℕ) (error : PlanError) → (plan_error set env output error).kind ≡ SpendsTurns → ⊥
unfolding plan_error fault_error
plan_kind set env output (Argument Output) h = cc
plan_kind set env output (Argument OutDir) h = cc
plan_kind set env output (Argument (NoFileName place)) h = cc
plan_kind set env output (Argument (SameObject first second)) h = cc
plan_kind set env output (Argument (LibraryIsObject place)) h = cc
plan_kind set env output (Argument (LineFeed place)) h = cc
plan_kind set env output (Argument FileCount) h = cc
plan_kind set env output (Argument Library) h = cc
plan_kind set env output (NotSet name) h = cc
plan_kind set env output (UnknownTarget target) h = cc
plan_kind set env output (QnxArch arch) h = cc
plan_kind set env output (Flag flag) h = cc
plan_kind set env output (Host call why) h = cc
plan_kind set env output WantsMemory h = cc

mapped : (set : BuildConfig) (env : EnvSeen) (output : List ℕ) (refusal : Option PlanError) → NeverSpent (option_map (plan_error set env output) refusal)
mapped set env output None e is h = cc
mapped set env output (Some error) e is h =
    let same : plan_error set env output error ≡ e = cc in
    plan_kind set env output error (ap (λ (x : ErrorSeen). x.kind) same ∙ h)

disabled_or : (b : Bool) (refusal : Option ErrorSeen) → NeverSpent refusal → NeverSpent (if b then Some disabled_error else refusal)
disabled_or true refusal f e is h =
    let same : disabled_error ≡ e = cc in
    let kind : disabled_error.kind ≡ SpendsTurns = ap (λ (x : ErrorSeen). x.kind) same ∙ h in
    cc
disabled_or false refusal f e is h = f e is h

first_never : (a b : Option ErrorSeen) → NeverSpent a → NeverSpent b → NeverSpent (first_of a b)
first_never None b f g e is h = g e is h
first_never (Some x) b f g e is h = f e is h

-- neither those of a plan, nor those of a library, nor those of link lines
module _ (set : BuildConfig) (env : EnvSeen) (look : Look) (output : List ℕ) where
  pub planning_unspent : NeverSpent (planning_error set env look output)
  planning_unspent = first_never (early_error set env output) (late_error set env look output) (mapped set env output (early_refusal set env output)) (disabled_or (is_disabled env) _ (mapped set env output (late_refusal set env look)))

  pub creation_unspent : NeverSpent (creation_error set env look output)
  creation_unspent =
      first_never (unarchived_error set env output) (archive_error set env look output)
      (first_never (option_map (plan_error set env output) (name_refusal output)) _ (mapped set env output (name_refusal output)) (disabled_or (is_disabled env) _ (mapped set env output (early_refusal set env output))))
      (mapped set env output (archive_refusal set env look))

  pub directive_unspent : NeverSpent (directive_error set env look output)
  directive_unspent = first_never (option_map (plan_error set env output) (path_refusal set env output)) _ (mapped set env output (path_refusal set env output)) (mapped set env output (link_refusal set env look))

-- ---- stages that call the host and ask

still_stop : (t : Terms) (s : Stage) (part : List Event) (e : ErrorSeen) (x y : Means) → IsStill s → IsPlain s → Stops t s part e x y → (e ≡ no_memory) ⊎ HasFault part
still_stop t (Calls step) part e x y still plain d = inr (subst HasFault (sym d.1.0) (call_cause step d.0 plain d.1.1))
still_stop t Asks part e x y still plain d = inl d.0
still_stop t (Tries refused p) part e x y still plain d = absurd still
still_stop t (RunsOne p) part e x y still plain d = absurd still
still_stop t (RunsAll ps) part e x y still plain d = absurd still

-- such a run ends for want of memory, since the settings are refused, or by a fault
pub still_cause : (t : Terms) (refusal : Option ErrorSeen) (stages : List Stage) (part : List Event) (e : ErrorSeen) (x z : Means) → AreStill stages → ArePlain stages → Halted t refusal stages part e x z → (e ≡ no_memory) ⊎ ((refusal ≡ Some e) ⊎ HasFault part)
still_cause t refusal stages part e x z still plain h =
    at h.after (still_behind h.before h.after (subst AreStill h.stages_are still)) (plain_behind h.before h.after (subst ArePlain h.stages_are plain)) h.halts
  where
    in_part : HasFault h.rest → HasFault part
    in_part fault = ap (list_any is_fault) h.cut ∙ list_any-append is_fault h.front h.rest ∙ or_right (list_any is_fault h.front) (list_any is_fault h.rest) fault

    at : (after : List Stage) → AreStill after → ArePlain after → Halts t refusal after h.rest e h.y z → (e ≡ no_memory) ⊎ ((refusal ≡ Some e) ⊎ HasFault part)
    at [] s p k = elim k.0 [ inl memory ↦ inl memory | inr refused ↦ inr (inl refused) ]
    at (a ∷ after) s p (inl k) = inl k.0
    at (a ∷ after) s p (inr k) = elim (still_stop t a h.rest e h.y z s.0 p.0 k) [ inl memory ↦ inl memory | inr fault ↦ inr (inr (in_part fault)) ]

-- ---- the run of the commands of all members

-- for what cause it was refused: want of memory, a fault, a missing program, a fault of the pool, or want of turns
abbrev pub IsRunCause : List Event → ErrorSeen → Means → Means → Type 0
IsRunCause part e x y = (e ≡ no_memory) ⊎ (HasFault part ⊎ ((missing part ≢ []) ⊎ (Rose x.faults y.faults ⊎ ((e.kind ≡ SpendsTurns) × (y.left ≡ 0)))))

some_missing : (ps : List Planned) (place : ℕ) (p : Planned) → slice_get ps place ≡ Some p → map {B = Role × CommandSeen} (λ p. (p.role, p.cmd)) (take 1 (drop place ps)) ≢ []
some_missing [] place p is h = cc
some_missing (q ∷ ps) zero p is h = cc
some_missing (q ∷ ps) (suc place) p is h = some_missing ps place p is h

notice_unprobed : (call : HostCall) → IsNotice call → is_probing call ≡ false
notice_unprobed call (inl is) = ap is_probing is
notice_unprobed call (inr is) = ap is_probing is

-- no command failed
abbrev IsNoFailure : RunError → Type 0
IsNoFailure (Failed place status) = ⊥
IsNoFailure _ = Unit {0}

said_cause : (shows : Shows) (stop : Bool) (ps : List Planned) (part : List Event) (e : ErrorSeen) (x y : Means) (error : RunError) → IsNoFailure error → Said shows stop ps part (Err error) → IsOf (run_error ps error) e → (error ≡ JobFault → Rose x.faults y.faults) → (error ≡ TurnsSpent → y.left ≡ 0) → IsRunCause part e x y
said_cause shows stop ps part e x y error other s (inl memory) job spent = inl memory
said_cause shows stop ps part e x y (ToolNotFound place) other s (inr is) job spent = inr (inr (inl (λ none. some_missing ps place s.ends.0.0 s.ends.0.1.0 (sym s.missing_is ∙ none))))
said_cause shows stop ps part e x y (Failed place status) other s (inr is) job spent = absurd other
said_cause shows stop ps part e x y (StartFault place) other s (inr is) job spent = inr (inl (some_fault part Start [] s.faults_are refl))
said_cause shows stop ps part e x y WaitFault other s (inr is) job spent = inr (inl (some_fault part Turning [] s.faults_are refl))
said_cause shows stop ps part e x y (HostFault call why) other s (inr is) job spent = inr (inl (some_fault part call [] s.faults_are (notice_unprobed call s.ends.1)))
said_cause shows stop ps part e x y JobFault other s (inr is) job spent = inr (inr (inr (inl (job refl))))
said_cause shows stop ps part e x y TurnsSpent other s (inr is) job spent = inr (inr (inr (inr (ap (λ o. o.kind) is, spent refl))))
said_cause shows stop ps part e x y NoMemory other s (inr is) job spent = inl is

-- a run that is refused isn't by a failed command
all_unfailed : (t : Terms) (ps : List Planned) (part : List Event) (error : RunError) (x y : Means) → RanSeveral t ps part (Err error) x y → IsNoFailure error
all_unfailed t ps part (Failed place status) x y r = absurd (r.run.ends.0)
all_unfailed t ps part (ToolNotFound place) x y r = tt
all_unfailed t ps part (StartFault place) x y r = tt
all_unfailed t ps part WaitFault x y r = tt
all_unfailed t ps part (HostFault call why) x y r = tt
all_unfailed t ps part JobFault x y r = tt
all_unfailed t ps part TurnsSpent x y r = tt
all_unfailed t ps part NoMemory x y r = tt

-- one that is run alone and refused: it is the refusal, and no failure
lone_unfailed : (own : Result (Unit {0}) RunError) (error : RunError) → Err error ≡ marks_of own → (own ≡ Err error) × IsNoFailure error
lone_unfailed (Ok done) error is = absurd (cc)
lone_unfailed (Err (Failed place status)) error is = absurd (cc)
lone_unfailed (Err (ToolNotFound place)) error is = let same : ToolNotFound place ≡ error = cc in (ap Err same, subst IsNoFailure same tt)
lone_unfailed (Err (StartFault place)) error is = let same : StartFault place ≡ error = cc in (ap Err same, subst IsNoFailure same tt)
lone_unfailed (Err WaitFault) error is = let same : WaitFault ≡ error = cc in (ap Err same, subst IsNoFailure same tt)
lone_unfailed (Err (HostFault call why)) error is = let same : HostFault call why ≡ error = cc in (ap Err same, subst IsNoFailure same tt)
lone_unfailed (Err JobFault) error is = let same : JobFault ≡ error = cc in (ap Err same, subst IsNoFailure same tt)
lone_unfailed (Err TurnsSpent) error is = let same : TurnsSpent ≡ error = cc in (ap Err same, subst IsNoFailure same tt)
lone_unfailed (Err NoMemory) error is = let same : NoMemory ≡ error = cc in (ap Err same, subst IsNoFailure same tt)

module _ (t : Terms) (part : List Event) (e : ErrorSeen) (x y : Means) where
  refused_cause : (ps : List Planned) (error : RunError) → RanJoined t ps part (Err error) x y → IsOf (run_error ps error) e → IsRunCause part e x y
  refused_cause [] error ran of = absurd (let none : Err error ≡ Ok [] = ran.1 in cc)
  refused_cause (p ∷ []) error ran of =
      let k = lone_unfailed ran.0 error ran.1.1 in
      let r : RanOne t p part (Err error) x y = subst (λ (o : Result (Unit {0}) RunError). RanOne t p part o x y) k.0 ran.1.0 in
      said_cause t.shows false (p ∷ []) part e x y error k.1 (said_one t p part (Err error) x y r) of
      (λ is. absurd (one_sound t p part (Err error) x y r (ap Err is))) (λ is. one_spent t p part (Err error) x y r (ap Err is))
  refused_cause (p ∷ q ∷ ps) error ran of =
      let r : RanAll t (p ∷ q ∷ ps) part (Err error) x y = several_all t (p ∷ q ∷ ps) part (Err error) x y ran in
      said_cause t.shows t.shows.stop (p ∷ q ∷ ps) part e x y error (all_unfailed t (p ∷ q ∷ ps) part error x y ran) (said_all t (p ∷ q ∷ ps) part (Err error) x y r) of
      (λ is. all_rose t (p ∷ q ∷ ps) part (Err error) x y r (ap Err is)) (λ is. all_spent t (p ∷ q ∷ ps) part (Err error) x y r (ap Err is))

  -- why the run of the commands of all members ended the call
  pub run_cause : (ps : List Planned) (answer : Result (List Mark) RunError) → RanJoined t ps part answer x y → StopsRun ps answer e → IsRunCause part e x y
  run_cause ps (Ok marks) ran stops = inl stops
  run_cause ps (Err error) ran stops = refused_cause ps error ran stops
