-- What stands behind a fault, and for what cause a run stopped.
use Rattle.cc_plan.specs.Reruns.{rerun_names}
use Rattle.std.proofs.Common.{◌≡◌, ◌≢◌, ◌⊎◌, inl, inr, ℕ, zero, suc, ◌+◌, ◌<◌, ◌≤◌, List, [], ◌∷◌, ◌++◌, length, map, take, drop, Bool, true, false, not, ◌||◌, if◌then◌else◌, is_some, Option, Some, Result, Ok, Err, refl, sym, ◌∙◌, ap, subst, arith, append-nil}
use Rattle.std.proofs.lemmas.Bool.{and_parts, true≢false}
use Rattle.std.proofs.lemmas.Grind.{flat_map-append}
use Rattle.std.proofs.lemmas.List.{length-append}
use Rattle.std.proofs.lemmas.List.Folds.{list_any-append}
use Rattle.std.specs.List.{list_all, list_any, slice_get}
use Rattle.cc_env.specs.Env.{EnvSeen}
use Rattle.cc_host.specs.Command.{CommandSeen}
use Rattle.cc_host.specs.Part.{Step, step_of, Refuses, is_probing}
use Rattle.cc_host.specs.Part.Step.{Runs, Makes, Removes, Writes, Copies, Finds, Says, Prints, Lists}
use Rattle.cc_host.specs.Question.{Look}
use Rattle.cc_host.specs.declared.event.Event.{Event}
use Rattle.cc_host.specs.declared.event.Event.TheVariants.{Abandoned, Ran, Missing, Fault}
use Rattle.cc_host.specs.declared.event.HostCall.{HostCall}
use Rattle.cc_host.specs.declared.event.HostCall.TheVariants.{Start, Turn as Turning}
use Rattle.cc_host.specs.declared.event.LineKind.{LineKind}
use Rattle.cc_host.specs.declared.event.Role.{Role}
use Rattle.cc_host.specs.declared.event.Scope.TheVariants.{Build, Probe as ForProbes}
use Rattle.cc_host.specs.declared.event.Why.{Why}
use Rattle.cc_jobs.specs.Seats.{Rose}
use Rattle.cc_flags.specs.Given.{is_disabled}
use Rattle.cc_plan.specs.Quiet.{quiet_warnings}
use Rattle.cc_plan.specs.Plan.{dir_of, link_lines, lists_of_run, archive_refusal, prints, folder_steps, removal_steps, run_has_one_form, run_asks_folder, copy_steps, copy_by, copy_of, library_of}
use Rattle.cc_plan.specs.Refusal.{early_refusal, late_refusal, link_refusal, is_empty}
use Rattle.cc_flags.specs.declared.settings.BuildConfig.{BuildConfig}
use Rattle.cc_run.specs.Part.{missing, missing_of, faults, fault_of, abandoned, abandoned_of}
use Rattle.cc_run.specs.Run.{ids, gone}
use Rattle.cc_run.specs.declared.error.RunError.{RunError}
use Rattle.cc_run.specs.declared.error.RunError.TheVariants.{ToolNotFound, Failed as Fails, StartFault, WaitFault, HostFault, JobFault, TurnsSpent, NoMemory}
use Rattle.cc_run.specs.declared.planned.Planned.{Planned}
use Rattle.cc_run.specs.declared.planned.Shows.{Shows}
use Rattle.cc_tool.specs.Probing.{is_asked}
use Rattle.cc_flags.specs.ArchiveNames.{is_msvc}
use Rattle.cc_flags.specs.Target.{target_info}
use Rattle.cc_build.specs.Children.{has_failure}
use Rattle.cc_build.specs.Error.{ErrorSeen, no_memory}
use Rattle.cc_build.specs.Failed.{Failed, is_fault, is_form, form_aside, unforgiven, HasFault}
use Rattle.cc_build.specs.Order.{is_archive_role, is_archive_event}
use Rattle.cc_build.specs.RunErrors.{run_error}
use Rattle.cc_build.specs.Stage.{Stage, calls, beside, compiles_planned, opening_steps, in_turn, tried, written, writings, asking_steps, folder_stages, compile_stages, removal_stages, library_commands, ready_stages, archive_stages, copy_stages, writing_stages, link_stages, library_stages, ending_stages, later_stages, asked_stages, late_stages, planned_stages, run_reads, ending_steps}
use Rattle.cc_build.specs.Stage.Stage.{Calls, Asks, Tries, RunsOne, RunsAll}
use Rattle.cc_build.specs.Way.{Way, Found, Firsts, Writing}
use Rattle.cc_build.proofs.SourceLaws.{AreNotes, opening_notes, ending_notes}
use Rattle.cc_build.specs.Went.{Terms, Means, Did, Went, IsOf, Stops, Halts}
use Rattle.cc_build.specs.declared.error.ErrorKind.TheVariants.{TurnsSpent as SpendsTurns}
use Rattle.cc_build.proofs.ChildLaws.{failure_behind}
use Rattle.cc_build.proofs.RanLaws.{Said, said_all, said_one, all_spent, all_rose, one_spent, one_sound}
use Rattle.cc_build.proofs.RunLaws.{went_well}
use Rattle.cc_build.proofs.Trying.{notice_unprobed, done_of, done_sole, done_faultless, done_forms, broken_of, broken_fault, broken_last, sole_kept, no_such_fault}
use Rattle.cc_build.proofs.TurnLaws.{went_faults}

-- ---- faults

or_none : (x y : Bool) → x ≡ false → y ≡ false → (x || y) ≡ false
or_none true y p q = absurd (true≢false p)
or_none false y p q = q

pub or_right : (x y : Bool) → y ≡ true → (x || y) ≡ true
or_right true y h = refl
or_right false y h = h

asked_faultless : (event : Event) → is_asked event ≡ true → is_fault event ≡ false
asked_faultless (Fault call why) h = ap not h
asked_faultless _ h = refl

asked_kept : (event : Event) → is_asked event ≡ true → abandoned_of event ≡ []
asked_kept (Abandoned id) h = absurd (cc)
asked_kept _ h = refl

all_faultless : (part : List Event) → list_all is_asked part ≡ true → list_any is_fault part ≡ false
all_faultless [] h = refl
all_faultless (event ∷ part) h =
    let k = and_parts (is_asked event) (list_all is_asked part) h in
    or_none (is_fault event) (list_any is_fault part) (asked_faultless event k.0) (all_faultless part k.1)

all_kept : (part : List Event) → list_all is_asked part ≡ true → abandoned part ≡ []
all_kept [] h = refl
all_kept (event ∷ part) h =
    let k = and_parts (is_asked event) (list_all is_asked part) h in
    flat_map-append abandoned_of (event ∷ []) part ∙ ap (λ l. l ++ abandoned part) (append-nil (abandoned_of event) ∙ asked_kept event k.0) ∙ all_kept part k.1

step_faultless : (step : Step) (event : Event) → step_of event ≡ step ∷ [] → list_any is_fault (event ∷ []) ≡ false
step_faultless step (Fault call why) h = absurd (cc)
step_faultless step _ h = refl

step_kept : (step : Step) (event : Event) → step_of event ≡ step ∷ [] → abandoned (event ∷ []) ≡ []
step_kept step (Abandoned id) h = absurd (cc)
step_kept step _ h = refl

no_fault : (part : List Event) → faults part ≡ [] → list_any is_fault part ≡ false
no_fault [] h = refl
no_fault (Fault call why ∷ part) h = absurd (cc)
no_fault (_ ∷ part) h = no_fault part h

-- a fault of this call, but of none of what a question wants
pub some_fault : (part : List Event) (call : HostCall) (more : List HostCall) → faults part ≡ call ∷ more → is_probing call ≡ false → HasFault part
some_fault [] call more h k = absurd (cc)
some_fault (Fault c why ∷ part) call more h k =
    let same : c ≡ call = cc in
    ap (λ b. b || list_any is_fault part) (ap (λ o. not (is_probing o)) same ∙ ap not k)
some_fault (_ ∷ part) call more h k = some_fault part call more h k

-- how many faults a part has
count : List Event → ℕ
count part = length (faults part)

-- ---- runs

run_kept : (shows : Shows) (stop : Bool) (ps : List Planned) (part : List Event) → Said shows stop ps part (Ok tt) → abandoned part ≡ []
run_kept shows stop ps part s = s.left ∙ ap ids s.ends.1

did_faultless : (t : Terms) (s : Stage) (part : List Event) (x y : Means) → Did t s part x y → list_any is_fault part ≡ false
did_faultless t (Calls step) part x y d = ap (list_any is_fault) d.1.0 ∙ step_faultless step d.0 d.1.1
did_faultless t Asks part x y d = all_faultless part d.0
did_faultless t (Tries refused p) part x y d = done_faultless p refused part (done_of t p part refused d.0)
did_faultless t (RunsOne p) part x y d = no_fault part (said_one t p part (Ok tt) x y d).faults_are
did_faultless t (RunsAll ps) part x y d = no_fault part (said_all t ps part (Ok tt) x y d).faults_are

-- stages that were done have no fault, but those of what questions want
pub went_faultless : (t : Terms) (stages : List Stage) (part : List Event) (x y : Means) → Went t stages part x y → list_any is_fault part ≡ false
went_faultless t [] part x y w = ap (list_any is_fault) w.0
went_faultless t (s ∷ ss) part x y w =
    ap (list_any is_fault) w.3.0 ∙ list_any-append is_fault w.0 w.1 ∙ or_none (list_any is_fault w.0) (list_any is_fault w.1) (did_faultless t s w.0 x w.2 w.3.1) (went_faultless t ss w.1 w.2 y w.3.2)

did_kept : (t : Terms) (s : Stage) (part : List Event) (x y : Means) → Did t s part x y → abandoned part ≡ []
did_kept t (Calls step) part x y d = ap abandoned d.1.0 ∙ step_kept step d.0 d.1.1
did_kept t Asks part x y d = all_kept part d.0
did_kept t (Tries refused p) part x y d = sole_kept part (done_sole p refused part (done_of t p part refused d.0))
did_kept t (RunsOne p) part x y d = run_kept t.shows false (p ∷ []) part (said_one t p part (Ok tt) x y d)
did_kept t (RunsAll ps) part x y d = run_kept t.shows t.shows.stop ps part (said_all t ps part (Ok tt) x y d)

-- and no child was abandoned in them
pub went_kept : (t : Terms) (stages : List Stage) (part : List Event) (x y : Means) → Went t stages part x y → abandoned part ≡ []
went_kept t [] part x y w = ap abandoned w.0
went_kept t (s ∷ ss) part x y w =
    ap abandoned w.3.0 ∙ flat_map-append abandoned_of w.0 w.1 ∙ ap (λ l. l ++ abandoned w.1) (did_kept t s w.0 x w.2 w.3.1) ∙ went_kept t ss w.1 w.2 y w.3.2

-- ---- behind a fault

count_append : (a b : List Event) → count (a ++ b) ≡ count a + count b
unfolding count
count_append a b = ap length (flat_map-append fault_of a b) ∙ length-append (faults a) (faults b)

count_fault : (call : HostCall) (why : Why) (a b : List Event) → count (a ++ Fault call why ∷ b) ≡ count a + (1 + count b)
unfolding count
count_fault call why a b =
    let one : count (Fault call why ∷ b) ≡ 1 + count b = length-append (call ∷ []) (faults b) in
    let both : count (a ++ Fault call why ∷ b) ≡ count a + count (Fault call why ∷ b) = count_append a (Fault call why ∷ b) in
    omega arith

-- where there is one fault, and what follows it has none, this is what follows it
module _ (call c : HostCall) (why w : Why) (after q : List Event) (none : count q ≡ 0) where
  one_behind : (before b : List Event) → count (before ++ Fault call why ∷ after) ≤ 1 → before ++ Fault call why ∷ after ≡ b ++ Fault c w ∷ q → after ≡ q
  one_behind [] [] few e = cc
  one_behind [] (y ∷ b) few e =
      let tail : after ≡ b ++ Fault c w ∷ q = cc in
      let more : count after ≡ count b + (1 + count q) = ap count tail ∙ count_fault c w b q in
      let all : count (Fault call why ∷ after) ≡ count [] + (1 + count after) = count_fault call why [] after in
      absurd (omega arith)
  one_behind (x ∷ before) [] few e =
      let tail : before ++ Fault call why ∷ after ≡ q = cc in
      let some : count (before ++ Fault call why ∷ after) ≡ count before + (1 + count after) = count_fault call why before after in
      let same : count (before ++ Fault call why ∷ after) ≡ count q = ap count tail in
      absurd (omega arith)
  one_behind (x ∷ before) (y ∷ b) few e =
      let tail : before ++ Fault call why ∷ after ≡ b ++ Fault c w ∷ q = cc in
      let all : count ((x ∷ before) ++ Fault call why ∷ after) ≡ count (x ∷ []) + count (before ++ Fault call why ∷ after) = count_append (x ∷ []) (before ++ Fault call why ∷ after) in
      one_behind before b (omega arith) tail

gone_ids : (live : List (ℕ × ℕ)) → gone live ≡ map Abandoned (ids live)
gone_ids [] = refl
gone_ids (c ∷ cs) = ap (λ l. Abandoned c.0 ∷ l) (gone_ids cs)

gone_count : (live : List (ℕ × ℕ)) → count (gone live) ≡ 0
unfolding count
gone_count [] = refl
gone_count (c ∷ cs) = gone_count cs

module _ (shows : Shows) (stop : Bool) (ps : List Planned) (part : List Event) (before after : List Event) (call : HostCall) (why : Why) (here : part ≡ before ++ Fault call why ∷ after) where
  -- a run whose answer tells no fault has none
  no_fault_told : faults part ≡ [] → ⊥
  unfolding count
  no_fault_told none =
      let a : count part ≡ 0 = ap length none in
      let b : count part ≡ count before + (1 + count after) = ap count here ∙ count_fault call why before after in
      omega arith

  -- behind the one that it tells children are abandoned
  fault_told : (result : Result (Unit {0}) RunError) (s : Said shows stop ps part result) (c : HostCall) (w : Why) → faults part ≡ c ∷ [] → s.tail ≡ Fault c w ∷ [] → (ids : List ℕ) × (after ≡ map Abandoned ids)
  unfolding count
  fault_told result s c w one last =
      let few : count part ≡ 1 = ap length one in
      let same : count part ≡ count (before ++ Fault call why ∷ after) = ap count here in
      let whole : before ++ Fault call why ∷ after ≡ s.work ++ Fault c w ∷ gone s.live = sym here ∙ s.cut ∙ ap (λ l. s.work ++ (l ++ gone s.live)) last in
      (ids s.live, one_behind call c why w after (gone s.live) (gone_count s.live) before s.work (omega arith) whole ∙ gone_ids s.live)

  run_faults : (error : RunError) → Said shows stop ps part (Err error) → (ids : List ℕ) × (after ≡ map Abandoned ids)
  run_faults (StartFault place) s = fault_told (Err (StartFault place)) s Start s.ends.0.0 s.faults_are s.ends.0.1
  run_faults WaitFault s = fault_told (Err WaitFault) s Turning s.ends.0.0 s.faults_are s.ends.0.1
  run_faults (HostFault c w) s = fault_told (Err (HostFault c w)) s c w s.faults_are s.ends.0
  run_faults (ToolNotFound place) s = absurd (no_fault_told s.faults_are)
  run_faults (Fails place status) s = absurd (no_fault_told s.faults_are)
  run_faults JobFault s = absurd (no_fault_told s.faults_are)
  run_faults TurnsSpent s = absurd (no_fault_told s.faults_are)
  run_faults NoMemory s = absurd (no_fault_told s.faults_are)

alone_after : (before after : List Event) (e f : Event) → e ∷ [] ≡ before ++ f ∷ after → after ≡ []
alone_after [] after e f h = cc
alone_after (x ∷ []) after e f h = absurd (cc)
alone_after (x ∷ y ∷ before) after e f h = absurd (cc)

-- behind a fault of a stage that was refused, but one of what a question wants, children are abandoned
pub stop_faults : (t : Terms) (s : Stage) (part : List Event) (e : ErrorSeen) (x y : Means) → Stops t s part e x y → (before after : List Event) (call : HostCall) (why : Why) → is_probing call ≡ false → part ≡ before ++ Fault call why ∷ after → (ids : List ℕ) × (after ≡ map Abandoned ids)
stop_faults t (Calls step) part e x y d before after call why p here = ([], alone_after before after d.0 (Fault call why) (sym d.1.0 ∙ here))
stop_faults t Asks part e x y d before after call why p here = absurd (no_such_fault part before after call why (all_faultless part d.1) p here)
stop_faults t (Tries refused c) part e x y d before after call why p here = ([], broken_last c part before after call why (broken_of t.shows c part d.0 d.1.0 d.1.1) p here)
stop_faults t (RunsOne c) part e x y d before after call why p here = run_faults t.shows false (c ∷ []) part before after call why here d.0 (said_one t c part (Err d.0) x y d.1.0)
stop_faults t (RunsAll ps) part e x y d before after call why p here = run_faults t.shows t.shows.stop ps part before after call why here d.0 (said_all t ps part (Err d.0) x y d.1.0)

-- ---- the causes

-- what refuses a stage of a run is a missing program, a command that failed or a fault that no question made
abbrev pub IsPlain : Stage → Type 0
IsPlain (Calls (Runs role cmd)) = ⊥
IsPlain (Calls (Makes ForProbes path)) = ⊥
IsPlain _ = Unit {0}

abbrev pub ArePlain : List Stage → Type 0
ArePlain [] = Unit {0}
ArePlain (s ∷ ss) = IsPlain s × ArePlain ss

-- for what cause a stage was refused
abbrev pub IsCause : List Event → ErrorSeen → Means → Means → Type 0
IsCause part e x y = (e ≡ no_memory) ⊎ (HasFault part ⊎ ((missing part ≢ []) ⊎ ((has_failure part ≡ true) ⊎ (Rose x.faults y.faults ⊎ ((e.kind ≡ SpendsTurns) × (y.left ≡ 0))))))

some_missing : (ps : List Planned) (place : ℕ) (p : Planned) → slice_get ps place ≡ Some p → map {B = Role × CommandSeen} (λ p. (p.role, p.cmd)) (take 1 (drop place ps)) ≢ []
some_missing [] place p is h = cc
some_missing (q ∷ ps) zero p is h = cc
some_missing (q ∷ ps) (suc place) p is h = some_missing ps place p is h

module _ (shows : Shows) (stop : Bool) (ps : List Planned) (part : List Event) (e : ErrorSeen) (x y : Means) where
  run_cause : (error : RunError) → Said shows stop ps part (Err error) → IsOf (run_error ps error) e → (error ≡ JobFault → Rose x.faults y.faults) → (error ≡ TurnsSpent → y.left ≡ 0) → IsCause part e x y
  run_cause error s (inl memory) job spent = inl memory
  run_cause (ToolNotFound place) s (inr is) job spent = inr (inr (inl (λ none. some_missing ps place s.ends.0.0 s.ends.0.1.0 (sym s.missing_is ∙ none))))
  run_cause (Fails place status) s (inr is) job spent = inr (inr (inr (inl s.ends.2)))
  run_cause (StartFault place) s (inr is) job spent = inr (inl (some_fault part Start [] s.faults_are refl))
  run_cause WaitFault s (inr is) job spent = inr (inl (some_fault part Turning [] s.faults_are refl))
  run_cause (HostFault call why) s (inr is) job spent = inr (inl (some_fault part call [] s.faults_are (notice_unprobed call s.ends.1)))
  run_cause JobFault s (inr is) job spent = inr (inr (inr (inr (inl (job refl)))))
  run_cause TurnsSpent s (inr is) job spent = inr (inr (inr (inr (inr (ap (λ o. o.kind) is, spent refl)))))
  run_cause NoMemory s (inr is) job spent = inl is

-- a call that was refused
pub call_cause : (step : Step) (event : Event) → IsPlain (Calls step) → Refuses step event → HasFault (event ∷ [])
call_cause (Runs role cmd) event plain r = absurd plain
call_cause (Makes ForProbes path) event plain r = absurd plain
call_cause (Makes Build path) (Fault call why) plain r = some_fault (Fault call why ∷ []) call [] refl (ap is_probing r)
call_cause (Removes path) (Fault call why) plain r = some_fault (Fault call why ∷ []) call [] refl (ap is_probing r)
call_cause (Writes path bytes) (Fault call why) plain r = some_fault (Fault call why ∷ []) call [] refl (ap is_probing r)
call_cause (Copies from to) (Fault call why) plain r = some_fault (Fault call why ∷ []) call [] refl (ap is_probing r)
call_cause (Finds path) (Fault call why) plain r = some_fault (Fault call why ∷ []) call [] refl (ap is_probing r)
call_cause (Says message) (Fault call why) plain r = some_fault (Fault call why ∷ []) call [] refl (ap is_probing r)
call_cause (Prints kind bytes) (Fault call why) plain r = some_fault (Fault call why ∷ []) call [] refl (ap is_probing r)
call_cause Lists (Fault call why) plain r = some_fault (Fault call why ∷ []) call [] refl (ap is_probing r)
call_cause _ _ plain r = absurd r

-- a stage is refused for one of these causes
pub stop_cause : (t : Terms) (s : Stage) (part : List Event) (e : ErrorSeen) (x y : Means) → IsPlain s → Stops t s part e x y → (e ≡ no_memory) ⊎ (HasFault part ⊎ ((missing part ≢ []) ⊎ ((has_failure part ≡ true) ⊎ (Rose x.faults y.faults ⊎ ((e.kind ≡ SpendsTurns) × (y.left ≡ 0))))))
stop_cause t (Calls step) part e x y plain d = inr (inl (subst HasFault (sym d.1.0) (call_cause step d.0 plain d.1.1)))
stop_cause t Asks part e x y plain d = inl d.0
stop_cause t (Tries refused p) part e x y plain d = tried_cause p e d.0 d.1.2 (broken_fault t.shows p part d.0 d.1.0 d.1.1)
  where
    tried_cause : (p : Planned) (e : ErrorSeen) (error : RunError) → IsOf (run_error (p ∷ []) error) e → (error ≡ NoMemory) ⊎ (list_any is_fault part ≡ true) → IsCause part e x y
    tried_cause p e error (inl memory) cause = inl memory
    tried_cause p e error (inr is) (inl wanted) = inl (is ∙ ap (run_error (p ∷ [])) wanted)
    tried_cause p e error (inr is) (inr fault) = inr (inl fault)
stop_cause t (RunsOne p) part e x y plain d =
    let r = d.1.0 in
    run_cause t.shows false (p ∷ []) part e x y d.0 (said_one t p part (Err d.0) x y r) d.1.1
    (λ is. absurd (one_sound t p part (Err d.0) x y r (ap Err is))) (λ is. one_spent t p part (Err d.0) x y r (ap Err is))
stop_cause t (RunsAll ps) part e x y plain d =
    let r = d.1.0 in
    run_cause t.shows t.shows.stop ps part e x y d.0 (said_all t ps part (Err d.0) x y r) d.1.1 (λ is. all_rose t ps part (Err d.0) x y r (ap Err is)) (λ is. all_spent t ps part (Err d.0) x y r (ap Err is))

-- ---- the stages of a plan

pub plain_then : (a b : List Stage) → ArePlain a → ArePlain b → ArePlain (a ++ b)
plain_then [] b p q = q
plain_then (s ∷ a) b p q = (p.0, plain_then a b p.1 q)

-- so are those that are left
pub plain_behind : (a b : List Stage) → ArePlain (a ++ b) → ArePlain b
plain_behind [] b p = p
plain_behind (s ∷ a) b p = plain_behind a b p.1

pub plain_lines : (kind : LineKind) (lines : List (List ℕ)) → ArePlain (calls (prints kind lines))
unfolding prints
plain_lines kind [] = tt
plain_lines kind (line ∷ lines) = (tt, plain_lines kind lines)

pub plain_notes : (steps : List Step) → AreNotes steps → ArePlain (calls steps)
plain_notes [] h = tt
plain_notes (Runs role cmd ∷ steps) h = absurd (cc)
plain_notes (Makes scope path ∷ steps) h = absurd (cc)
plain_notes (Removes path ∷ steps) h = absurd (cc)
plain_notes (Writes path bytes ∷ steps) h = absurd (cc)
plain_notes (Copies from to ∷ steps) h = absurd (cc)
plain_notes (Finds path ∷ steps) h = (tt, plain_notes steps h)
plain_notes (Says message ∷ steps) h = (tt, plain_notes steps h)
plain_notes (Prints kind bytes ∷ steps) h = (tt, plain_notes steps h)
plain_notes (Lists ∷ steps) h = absurd (cc)

plain_beside : (ps : List Planned) → ArePlain (beside ps)
plain_beside [] = tt
plain_beside (p ∷ []) = (tt, tt)
plain_beside (p ∷ q ∷ ps) = (tt, tt)

plain_in_turn : (ps : List Planned) → ArePlain (in_turn ps)
plain_in_turn [] = tt
plain_in_turn (p ∷ ps) = (tt, plain_in_turn ps)

plain_tried : (refused : Bool) (ps : List Planned) → ArePlain (tried refused ps)
plain_tried refused [] = tt
plain_tried refused (p ∷ ps) = (tt, plain_in_turn ps)

plain_written : (one_form refused : Bool) (ps : List Planned) → ArePlain (written one_form refused ps)
plain_written true refused ps = plain_in_turn ps
plain_written false refused ps = plain_tried refused ps

plain_writings : (files : List (List ℕ × List ℕ)) (more : List Step) → ArePlain (calls more) → ArePlain (calls (writings files ++ more))
plain_writings [] more plain = plain
plain_writings (file ∷ files) more plain = (tt, plain_writings files more plain)

plain_asking : (asks : Bool) (here : List ℕ) → ArePlain (calls (asking_steps asks here))
plain_asking true here = (tt, tt)
plain_asking false here = tt

plain_copying : (copies : Bool) (from to : List ℕ) → ArePlain (calls (copy_by copies from to))
plain_copying true from to = (tt, (tt, tt))
plain_copying false from to = tt

pub plain_unless : (b : Bool) (stages : List Stage) → ArePlain stages → ArePlain (if b then [] else stages)
plain_unless true stages p = tt
plain_unless false stages p = p

module _ (set : BuildConfig) (env : EnvSeen) where
  pub plain_folder : ArePlain (folder_stages set env)
  unfolding folder_stages folder_steps
  plain_folder = by_files (is_empty set.files)
    where
      by_files : (empty : Bool) → ArePlain (calls (if empty then [] else Makes Build (dir_of set env) ∷ []))
      by_files true = tt
      by_files false = (tt, tt)

  pub plain_compile : (found : Found) (look : Look) → ArePlain (compile_stages set env found look)
  unfolding compile_stages
  plain_compile found look =
      plain_then (calls (opening_steps set env found look)) (beside (compiles_planned set env found.here look))
      (plain_notes (opening_steps set env found look) (opening_notes set env found look)) (plain_beside (compiles_planned set env found.here look))

  plain_removal : (output : List ℕ) → ArePlain (removal_stages set env output)
  unfolding removal_stages removal_steps
  plain_removal output = (tt, tt)

  pub plain_archive : (look : Look) (writing : Writing) (output : List ℕ) → ArePlain (archive_stages set env look writing output)
  unfolding archive_stages
  plain_archive look writing output = plain_written (run_has_one_form set env look) writing.is_plain (library_commands set env look writing output)

  pub plain_ready : (look : Look) (here output : List ℕ) → ArePlain (ready_stages set env look here output)
  unfolding ready_stages
  plain_ready look here output =
      let asks = run_asks_folder set env look output in
      plain_writings (lists_of_run set env look output) (asking_steps asks here) (plain_asking asks here)

  pub plain_copy : (output : List ℕ) → ArePlain (copy_stages set env output)
  unfolding copy_stages copy_steps
  plain_copy output = plain_copying (is_msvc (target_info set env)) (library_of set env output) (copy_of set env output)

  plain_link : (listens : Bool) (look : Look) (firsts : Firsts) (output : List ℕ) → ArePlain (link_stages set env listens look firsts output)
  unfolding link_stages
  plain_link listens look firsts output =
      let names = rerun_names (run_reads set) set env look in
      let texts = quiet_warnings set env look in
      plain_notes (ending_steps listens texts firsts (link_lines set env look output) names) (ending_notes listens texts firsts (link_lines set env look output) names)

  plain_ending : (way : Way) (look : Look) (output : List ℕ) → ArePlain (ending_stages set env way look output)
  plain_ending way look output = (tt, plain_unless (is_some (link_refusal set env look)) (link_stages set env (is_some way.found.here) look way.firsts output) (plain_link (is_some way.found.here) look way.firsts output))

  pub plain_library : (writing : Writing) (look : Look) (output : List ℕ) (more : List Stage) → ArePlain more → ArePlain (library_stages set env writing look output ++ more)
  plain_library writing look output more plain =
      plain_then (library_stages set env writing look output) more
      (plain_then (removal_stages set env output) (writing_stages set env writing look output) (plain_removal output)
      (plain_then (ready_stages set env look writing.here output) (archive_stages set env look writing output ++ copy_stages set env output) (plain_ready look writing.here output)
      (plain_then (archive_stages set env look writing output) (copy_stages set env output) (plain_archive look writing output) (plain_copy output))))
      plain

  plain_later : (way : Way) (look : Look) (output : List ℕ) → ArePlain (later_stages set env way look output)
  unfolding later_stages
  plain_later way look output = (tt, plain_unless (is_some (archive_refusal set env look)) (library_stages set env way.writing look output ++ ending_stages set env way look output) (plain_library way.writing look output (ending_stages set env way look output) (plain_ending way look output)))

  plain_asked : (way : Way) (look : Look) (output : List ℕ) → ArePlain (asked_stages set env way look output)
  plain_asked way look output = (
    tt,
    plain_unless (is_some (late_refusal set env look)) (compile_stages set env way.found look ++ later_stages set env way look output)
        (plain_then (compile_stages set env way.found look) (later_stages set env way look output) (plain_compile way.found look) (plain_later way look output)),
  )

  plain_late : (way : Way) (look : Look) (output : List ℕ) → ArePlain (late_stages set env way look output)
  unfolding late_stages
  plain_late way look output = plain_unless (is_disabled env) (asked_stages set env way look output) (plain_asked way look output)

  -- the stages of a compile run are so
  pub planned_plain : (way : Way) (look : Look) (output : List ℕ) → ArePlain (planned_stages set env way look output)
  unfolding planned_stages
  planned_plain way look output =
      plain_unless (is_some (early_refusal set env output)) (folder_stages set env ++ late_stages set env way look output)
      (plain_then (folder_stages set env) (late_stages set env way look output) plain_folder (plain_late way look output))

-- ---- the causes of a whole run

-- for what cause a run ended before all of its stages were done; `one_form` says whether its archiver has one form alone
abbrev pub HasCause : Bool → Option ErrorSeen → List Event → ErrorSeen → Means → Means → Type 0
HasCause one_form refusal part e x y = (e ≡ no_memory) ⊎ ((refusal ≡ Some e) ⊎ (HasFault part ⊎ (Failed one_form part ⊎ (Rose x.faults y.faults ⊎ ((e.kind ≡ SpendsTurns) × (y.left ≡ 0))))))

-- ---- the first form of the archive

either_false : (a b : Bool) → (a || b) ≡ false → (a ≡ false) × (b ≡ false)
either_false true b h = absurd (cc)
either_false false b h = (refl, h)

either_true : (a b : Bool) → (a || b) ≡ true → (a ≡ true) ⊎ (b ≡ true)
either_true true b h = inl refl
either_true false b h = inr h

form_archives : (event : Event) → is_archive_event event ≡ false → is_form event ≡ false
form_archives (Ran role cmd pipes status out err) h = h
form_archives (Missing role cmd) h = h
form_archives event h = refl

-- a part without a command of the archive has no such form
no_form : (part : List Event) → list_any is_archive_event part ≡ false → form_aside part ≡ part
no_form [] h = refl
no_form (event ∷ part) h =
    let k = either_false (is_archive_event event) (list_any is_archive_event part) h in
    ap (λ b. if b then part else event ∷ form_aside part) (form_archives event k.0) ∙ ap (λ l. event ∷ l) (no_form part k.1)

-- where the first events have one, those behind them stay
form_before : (front rest : List Event) → list_any is_form front ≡ true → form_aside (front ++ rest) ≡ form_aside front ++ rest
form_before [] rest h = absurd (cc)
form_before (event ∷ front) rest h = by_form (is_form event) h (λ k. form_before front rest k)
  where
    by_form : (b : Bool) → (b || list_any is_form front) ≡ true → (list_any is_form front ≡ true → form_aside (front ++ rest) ≡ form_aside front ++ rest) → (if b then front ++ rest else event ∷ form_aside (front ++ rest)) ≡ (if b then front else event ∷ form_aside front) ++ rest
    by_form true k more = refl
    by_form false k more = ap (λ l. event ∷ l) (more k)

-- the stage tries a command of the archive
abbrev pub tries_form : Stage → Bool
tries_form (Tries refused p) = is_archive_role p.role
tries_form _ = false

did_form : (t : Terms) (s : Stage) (part : List Event) (x y : Means) → tries_form s ≡ true → Did t s part x y → list_any is_form part ≡ true
did_form t (Tries refused p) part x y h d = done_forms p refused part h (done_of t p part refused d.0)
did_form t (Calls step) part x y h d = absurd (cc)
did_form t Asks part x y h d = absurd (cc)
did_form t (RunsOne p) part x y h d = absurd (cc)
did_form t (RunsAll ps) part x y h d = absurd (cc)

either_form : (a b : List Event) → (list_any is_form a ≡ true) ⊎ (list_any is_form b ≡ true) → list_any is_form (a ++ b) ≡ true
either_form a b (inl here) = list_any-append is_form a b ∙ ap (λ x. x || list_any is_form b) here
either_form a b (inr there) = list_any-append is_form a b ∙ or_right (list_any is_form a) (list_any is_form b) there

pub went_form : (t : Terms) (stages : List Stage) (part : List Event) (x y : Means) → list_any tries_form stages ≡ true → Went t stages part x y → list_any is_form part ≡ true
went_form t [] part x y h w = absurd (cc)
went_form t (s ∷ ss) part x y h w =
    ap (list_any is_form) w.3.0
    ∙ either_form w.0 w.1 (by_stage (either_true (tries_form s) (list_any tries_form ss) h) (λ here. did_form t s w.0 x w.2 here w.3.1) (λ there. went_form t ss w.1 w.2 y there w.3.2))
  where
    by_stage : (tries_form s ≡ true) ⊎ (list_any tries_form ss ≡ true) → (tries_form s ≡ true → list_any is_form w.0 ≡ true) → (list_any tries_form ss ≡ true → list_any is_form w.1 ≡ true) → (list_any is_form w.0 ≡ true) ⊎ (list_any is_form w.1 ≡ true)
    by_stage (inl here) f g = inl (f here)
    by_stage (inr there) f g = inr (g there)

-- What was tried before a stage: the first form of the archive, or else no command of it, and then the stage tries it or has none either.
abbrev pub IsFormed : List Event → List Event → Type 0
IsFormed front rest = (list_any is_form front ≡ true) ⊎ ((list_any is_archive_event front ≡ false) × (list_any is_archive_event rest ≡ false))

last_none : (a b : List (Role × CommandSeen)) → a ++ b ≡ [] → b ≡ []
last_none [] b e = e
last_none (m ∷ a) b e = absurd (cc)

-- a program that is missing behind the first form is so in the part without it
missing_aside : (front rest : List Event) → IsFormed front rest → missing rest ≢ [] → missing (form_aside (front ++ rest)) ≢ []
missing_aside front rest (inl before) some none =
    some (last_none (missing (form_aside front)) (missing rest) (sym (flat_map-append missing_of (form_aside front) rest) ∙ sym (ap missing (form_before front rest before)) ∙ none))
missing_aside front rest (inr silent) some none =
    let whole : form_aside (front ++ rest) ≡ front ++ rest = no_form (front ++ rest) (list_any-append is_archive_event front rest ∙ or_none (list_any is_archive_event front) (list_any is_archive_event rest) silent.0 silent.1) in
    some (last_none (missing front) (missing rest) (sym (flat_map-append missing_of front rest) ∙ sym (ap missing whole) ∙ none))

-- the same, whether the archiver has one form, where none is aside
missing_unforgiven : (one_form : Bool) (front rest : List Event) → (one_form ≡ false → IsFormed front rest) → missing rest ≢ [] → missing (unforgiven one_form (front ++ rest)) ≢ []
missing_unforgiven true front rest formed some none = some (last_none (missing front) (missing rest) (sym (flat_map-append missing_of front rest) ∙ none))
missing_unforgiven false front rest formed some none = missing_aside front rest (formed refl) some none

module _ (t : Terms) (one_form : Bool) (refusal : Option ErrorSeen) (before : List Stage) (front rest part : List Event) (e : ErrorSeen) (x y z : Means) (cut : part ≡ front ++ rest) (w : Went t before front x y) (formed : missing rest ≢ [] → one_form ≡ false → IsFormed front rest) where
  behind_cause : IsCause rest e y z → HasCause one_form refusal part e x z
  behind_cause (inl memory) = inl memory
  behind_cause (inr (inl fault)) = inr (inr (inl (ap (list_any is_fault) cut ∙ list_any-append is_fault front rest ∙ or_right (list_any is_fault front) (list_any is_fault rest) fault)))
  behind_cause (inr (inr (inl absent))) = inr (inr (inr (inl (inl (subst (λ (l : List Event). missing (unforgiven one_form l) ≢ []) (sym cut) (missing_unforgiven one_form front rest (formed absent) absent))))))
  behind_cause (inr (inr (inr (inl failed)))) =
      inr (inr (inr (inl (inr (inl (ap has_failure cut ∙ failure_behind front rest (went_well t before front x y w).settled ∙ or_right (has_failure front) (has_failure rest) failed))))))
  behind_cause (inr (inr (inr (inr (inl rose))))) = let first : x.faults ≤ y.faults = went_faults t before front x y w in inr (inr (inr (inr (inl (λ below. let more : y.faults < z.faults = rose below in omega arith)))))
  behind_cause (inr (inr (inr (inr (inr spent))))) = inr (inr (inr (inr (inr spent))))

  unbegun_cause : (e ≡ no_memory) ⊎ (refusal ≡ Some e) → HasCause one_form refusal part e x z
  unbegun_cause (inl memory) = inl memory
  unbegun_cause (inr refused) = inr (inl refused)

  pub halts_cause : (after : List Stage) → ArePlain after → Halts t refusal after rest e y z → HasCause one_form refusal part e x z
  halts_cause [] plain h = unbegun_cause h.0
  halts_cause (s ∷ ss) plain (inl h) = inl h.0
  halts_cause (s ∷ ss) plain (inr stop) = behind_cause (stop_cause t s rest e y z plain.0 stop)
