-- How many turns the stages of a run take, and how many faults of its pool they count.
use Rattle.std.proofs.Common.{◌≡◌, ◌⊎◌, inl, inr, ℕ, ◌+◌, ◌*◌, ◌<◌, ◌≤◌, List, [], ◌∷◌, ◌++◌, length, Bool, true, Option, Some, None, Result, Ok, Err, IfSome, refl, sym, ◌∙◌, ap, subst, arith}
use Rattle.std.proofs.lemmas.Bool.{and_parts}
use Rattle.std.proofs.lemmas.List.{length-append}
use Rattle.std.proofs.lemmas.List.Sums.{sum_by-cons, sum_by-append}
use Rattle.std.proofs.Math.Nat.{mul-add}
use Rattle.std.specs.List.{list_all}
use Rattle.cc_host.specs.Command.{CommandSeen}
use Rattle.cc_host.specs.Part.{Step, step_of, Refuses}
use Rattle.cc_host.specs.Part.Step.{Runs, Makes, Removes, Writes, Copies, Finds, Says, Prints, Lists}
use Rattle.cc_host.specs.declared.event.Event.{Event}
use Rattle.cc_host.specs.declared.event.Event.TheVariants.{Turn, Ran, Missing, Fault}
use Rattle.cc_run.specs.Part.{turns, turns_of}
use Rattle.cc_run.specs.Output.{IsSilentRun}
use Rattle.cc_run.specs.Patience.{Bounded, Unspent}
use Rattle.cc_run.specs.declared.error.RunError.{RunError}
use Rattle.cc_run.specs.declared.error.RunError.TheVariants.{ToolNotFound, Failed, StartFault, WaitFault, HostFault, JobFault, TurnsSpent, NoMemory}
use Rattle.cc_run.specs.declared.planned.Planned.{Planned}
use Rattle.cc_tool.specs.Probing.{is_asked}
use Rattle.cc_build.specs.Error.{ErrorSeen, no_memory}
use Rattle.cc_build.specs.RunErrors.{run_error, error_of, command_at}
use Rattle.cc_build.specs.Stage.{Stage, commands_of, commands_in}
use Rattle.cc_build.specs.Stage.Stage.{Calls, Asks, Tries, RunsOne, RunsAll}
use Rattle.cc_build.specs.Stop.{stop_error, missing_error, failed_error, unstarted_error, fault_error}
use Rattle.cc_build.specs.Went.{Terms, Means, Tried, Did, Went, IsOf, Stops, Halts, Halted, Ends}
use Rattle.cc_build.specs.declared.error.ErrorKind.TheVariants.{TurnsSpent as SpendsTurns}
use Rattle.cc_build.proofs.RanLaws.{all_turned, all_later, all_bound, all_enough, all_spent, one_turned, one_bound, one_enough, one_spent}
use Rattle.cc_build.proofs.RunLaws.{commands_then}
use Rattle.cc_build.proofs.Trying.{done_of, done_sole, broken_of, broken_sole, sole_turns}

-- ---- the turns that are left

asked_still : (event : Event) → is_asked event ≡ true → turns_of event ≡ 0
asked_still (Turn n) h = absurd (cc)
asked_still _ h = refl

pub asked_turns : (part : List Event) → list_all is_asked part ≡ true → turns part ≡ 0
asked_turns [] h = refl
asked_turns (event ∷ part) h =
    let k = and_parts (is_asked event) (list_all is_asked part) h in
    let both : turns (event ∷ part) ≡ turns_of event + turns part = sum_by-cons turns_of event part in
    let one : turns_of event ≡ 0 = asked_still event k.0 in
    let more : turns part ≡ 0 = asked_turns part k.1 in
    omega arith

pub step_turns : (step : Step) (event : Event) → step_of event ≡ step ∷ [] → turns (event ∷ []) ≡ 0
step_turns step (Turn n) h = absurd (cc)
step_turns step _ h = refl

pub refused_turns : (step : Step) (event : Event) → Refuses step event → turns (event ∷ []) ≡ 0
refused_turns (Runs role cmd) (Turn n) h = absurd h
refused_turns (Makes scope path) (Turn n) h = absurd h
refused_turns (Removes path) (Turn n) h = absurd h
refused_turns (Writes path bytes) (Turn n) h = absurd h
refused_turns (Copies from to) (Turn n) h = absurd h
refused_turns (Finds path) (Turn n) h = absurd h
refused_turns (Says message) (Turn n) h = absurd h
refused_turns (Prints kind bytes) (Turn n) h = absurd h
refused_turns Lists (Turn n) h = absurd h
refused_turns _ _ h = refl

both_turns : (part front rest : List Event) → part ≡ front ++ rest → turns part ≡ turns front + turns rest
both_turns part front rest cut = ap turns cut ∙ sum_by-append turns_of front rest

-- a command that is tried makes no turn
tried_turns : (t : Terms) (p : Planned) (refused : Bool) (part : List Event) → Tried t p refused part → turns part ≡ 0
tried_turns t p refused part d = sole_turns part (done_sole p refused part (done_of t p part refused d))

did_turns : (t : Terms) (s : Stage) (part : List Event) (x y : Means) → Did t s part x y → y.left + turns part ≡ x.left
did_turns t (Calls step) part x y d =
    let none : turns part ≡ 0 = ap turns d.1.0 ∙ step_turns step d.0 d.1.1 in
    let same : y.left ≡ x.left = ap (λ m. m.left) d.1.2 in
    omega arith
did_turns t Asks part x y d =
    let none : turns part ≡ 0 = asked_turns part d.0 in
    let same : y.left ≡ x.left = ap (λ m. m.left) d.1 in
    omega arith
did_turns t (Tries refused p) part x y d =
    let none : turns part ≡ 0 = tried_turns t p refused part d.0 in
    let same : y.left ≡ x.left = ap (λ m. m.left) d.1 in
    omega arith
did_turns t (RunsOne p) part x y d = one_turned t p part (Ok tt) x y d
did_turns t (RunsAll ps) part x y d = all_turned t ps part (Ok tt) x y d

-- the turns of the stages are taken from those that are left
pub went_turns : (t : Terms) (stages : List Stage) (part : List Event) (x y : Means) → Went t stages part x y → y.left + turns part ≡ x.left
went_turns t [] part x y w =
    let none : turns part ≡ 0 = ap turns w.0 in
    let same : y.left ≡ x.left = ap (λ m. m.left) w.1 in
    omega arith
went_turns t (s ∷ ss) part x y w =
    let both : turns part ≡ turns w.0 + turns w.1 = both_turns part w.0 w.1 w.3.0 in
    let first : w.2.left + turns w.0 ≡ x.left = did_turns t s w.0 x w.2 w.3.1 in
    let more : y.left + turns w.1 ≡ w.2.left = went_turns t ss w.1 w.2 y w.3.2 in
    omega arith

stops_turns : (t : Terms) (s : Stage) (part : List Event) (e : ErrorSeen) (x y : Means) → Stops t s part e x y → y.left + turns part ≡ x.left
stops_turns t (Calls step) part e x y d =
    let none : turns part ≡ 0 = ap turns d.1.0 ∙ refused_turns step d.0 d.1.1 in
    let same : y.left ≡ x.left = ap (λ m. m.left) d.1.3 in
    omega arith
stops_turns t Asks part e x y d =
    let none : turns part ≡ 0 = asked_turns part d.1 in
    let same : y.left ≡ x.left = ap (λ m. m.left) d.2 in
    omega arith
stops_turns t (Tries refused p) part e x y d =
    let none : turns part ≡ 0 = sole_turns part (broken_sole p part (broken_of t.shows p part d.0 d.1.0 d.1.1)) in
    let same : y.left ≡ x.left = ap (λ m. m.left) d.1.3 in
    omega arith
stops_turns t (RunsOne p) part e x y d = one_turned t p part (Err d.0) x y d.1.0
stops_turns t (RunsAll ps) part e x y d = all_turned t ps part (Err d.0) x y d.1.0

unmoved_turns : (part : List Event) (x y : Means) → part ≡ [] → y ≡ x → y.left + turns part ≡ x.left
unmoved_turns part x y none is =
    let zero : turns part ≡ 0 = ap turns none in
    let same : y.left ≡ x.left = ap (λ m. m.left) is in
    omega arith

halts_turns : (t : Terms) (refusal : Option ErrorSeen) (stages : List Stage) (part : List Event) (e : ErrorSeen) (x y : Means) → Halts t refusal stages part e x y → y.left + turns part ≡ x.left
halts_turns t refusal [] part e x y h = unmoved_turns part x y h.1 h.2
halts_turns t refusal (s ∷ ss) part e x y (inl h) = unmoved_turns part x y h.1 h.2
halts_turns t refusal (s ∷ ss) part e x y (inr h) = stops_turns t s part e x y h

-- so it is where the run ended among them
pub halted_turns : (t : Terms) (refusal : Option ErrorSeen) (stages : List Stage) (part : List Event) (e : ErrorSeen) (x y : Means) → Halted t refusal stages part e x y → y.left + turns part ≡ x.left
halted_turns t refusal stages part e x y h =
    let both : turns part ≡ turns h.front + turns h.rest = both_turns part h.front h.rest h.cut in
    let first : h.y.left + turns h.front ≡ x.left = went_turns t h.before h.front x h.y h.went in
    let more : y.left + turns h.rest ≡ h.y.left = halts_turns t refusal h.after h.rest e h.y y h.halts in
    omega arith

-- so it is where they were done or the run ended among them
pub ended_turns : {T : Type 0} (t : Terms) (refusal : Option ErrorSeen) (stages : List Stage) (part : List Event) (r : Result T ErrorSeen) (x y : Means) → Ends t refusal stages part r x y → y.left + turns part ≡ x.left
ended_turns t refusal stages part (Ok v) x y ends = went_turns t stages part x y ends.1
ended_turns t refusal stages part (Err e) x y ends = halted_turns t refusal stages part e x y ends

-- ---- the faults of the pool

did_faults : (t : Terms) (s : Stage) (part : List Event) (x y : Means) → Did t s part x y → x.faults ≤ y.faults
did_faults t (Calls step) part x y d = let same : y.faults ≡ x.faults = ap (λ m. m.faults) d.1.2 in omega arith
did_faults t Asks part x y d = let same : y.faults ≡ x.faults = ap (λ m. m.faults) d.1 in omega arith
did_faults t (Tries refused p) part x y d = let same : y.faults ≡ x.faults = ap (λ m. m.faults) d.1 in omega arith
did_faults t (RunsOne p) part x y d = let same : y.faults ≡ x.faults = d.seat.0 in omega arith
did_faults t (RunsAll ps) part x y d = all_later t ps part (Ok tt) x y d

-- the count of faults never falls
pub went_faults : (t : Terms) (stages : List Stage) (part : List Event) (x y : Means) → Went t stages part x y → x.faults ≤ y.faults
went_faults t [] part x y w = let same : y.faults ≡ x.faults = ap (λ m. m.faults) w.1 in omega arith
went_faults t (s ∷ ss) part x y w =
    let first : x.faults ≤ w.2.faults = did_faults t s w.0 x w.2 w.3.1 in
    let more : w.2.faults ≤ y.faults = went_faults t ss w.1 w.2 y w.3.2 in
    omega arith

stops_faults : (t : Terms) (s : Stage) (part : List Event) (e : ErrorSeen) (x y : Means) → Stops t s part e x y → x.faults ≤ y.faults
stops_faults t (Calls step) part e x y d = let same : y.faults ≡ x.faults = ap (λ m. m.faults) d.1.3 in omega arith
stops_faults t Asks part e x y d = let same : y.faults ≡ x.faults = ap (λ m. m.faults) d.2 in omega arith
stops_faults t (Tries refused p) part e x y d = let same : y.faults ≡ x.faults = ap (λ m. m.faults) d.1.3 in omega arith
stops_faults t (RunsOne p) part e x y d = let same : y.faults ≡ x.faults = d.1.0.seat.0 in omega arith
stops_faults t (RunsAll ps) part e x y d = all_later t ps part (Err d.0) x y d.1.0

halts_faults : (t : Terms) (refusal : Option ErrorSeen) (stages : List Stage) (part : List Event) (e : ErrorSeen) (x y : Means) → Halts t refusal stages part e x y → x.faults ≤ y.faults
halts_faults t refusal [] part e x y h = let same : y.faults ≡ x.faults = ap (λ m. m.faults) h.2 in omega arith
halts_faults t refusal (s ∷ ss) part e x y (inl h) = let same : y.faults ≡ x.faults = ap (λ m. m.faults) h.2 in omega arith
halts_faults t refusal (s ∷ ss) part e x y (inr h) = stops_faults t s part e x y h

pub halted_faults : (t : Terms) (refusal : Option ErrorSeen) (stages : List Stage) (part : List Event) (e : ErrorSeen) (x y : Means) → Halted t refusal stages part e x y → x.faults ≤ y.faults
halted_faults t refusal stages part e x y h =
    let first : x.faults ≤ h.y.faults = went_faults t h.before h.front x h.y h.went in
    let more : h.y.faults ≤ y.faults = halts_faults t refusal h.after h.rest e h.y y h.halts in
    omega arith

-- ---- the bound by patience

bounded : (patience : Option ℕ) (p n : ℕ) (part : List Event) → patience ≡ Some p → Bounded patience n part → turns part ≤ p * n
bounded patience p n part is b = subst (λ (o : Option ℕ). Bounded o n part) is b

unspent : (patience : Option ℕ) (p n : ℕ) (part : List Event) → patience ≡ Some p → Unspent patience n part → turns part < p * n
unspent patience p n part is u = subst (λ (o : Option ℕ). Unspent o n part) is u

where_some : (P : ℕ → Type 0) (o : Option ℕ) (n : ℕ) → o ≡ Some n → IfSome o P → P n
where_some P o n is h = subst (λ (o : Option ℕ). IfSome o P) is h

module _ (t : Terms) (total p : ℕ) (owned : t.total ≡ Some total) (patient : t.patience ≡ Some p) where
  did_bound : (s : Stage) (part : List Event) (x y : Means) → Did t s part x y → turns part ≤ p * length (commands_of s)
  did_bound (Calls step) part x y d = let none : turns part ≡ 0 = ap turns d.1.0 ∙ step_turns step d.0 d.1.1 in omega arith
  did_bound Asks part x y d = let none : turns part ≡ 0 = asked_turns part d.0 in omega arith
  did_bound (Tries refused c) part x y d = let none : turns part ≡ 0 = tried_turns t c refused part d.0 in omega arith
  did_bound (RunsOne c) part x y d = bounded t.patience p 1 part patient (one_bound t c part (Ok tt) x y d)
  did_bound (RunsAll ps) part x y d = bounded t.patience p (length ps) part patient (where_some (λ _. Bounded t.patience (length ps) part) t.total total owned (all_bound t ps part (Ok tt) x y d))

  stages_bound : (stages : List Stage) (part : List Event) (x y : Means) → Went t stages part x y → turns part ≤ p * length (commands_in stages)
  stages_bound [] part x y w = let none : turns part ≡ 0 = ap turns w.0 in omega arith
  stages_bound (s ∷ ss) part x y w =
      let both : turns part ≡ turns w.0 + turns w.1 = both_turns part w.0 w.1 w.3.0 in
      let first : turns w.0 ≤ p * length (commands_of s) = did_bound s w.0 x w.2 w.3.1 in
      let more : turns w.1 ≤ p * length (commands_in ss) = stages_bound ss w.1 w.2 y w.3.2 in
      let sum : p * length (commands_in (s ∷ ss)) ≡ p * length (commands_of s) + p * length (commands_in ss) = ap (λ n. p * n) (length-append (commands_of s) (commands_in ss)) ∙ mul-add p (length (commands_of s)) (length (commands_in ss)) in
      omega arith

-- where one caller owns the pool and patience is known, the stages take no more turns than that, for each command
pub went_bound : (t : Terms) (stages : List Stage) (part : List Event) (x y : Means) (total p : ℕ) → t.total ≡ Some total → t.patience ≡ Some p → Went t stages part x y → turns part ≤ p * length (commands_in stages)
went_bound t stages part x y total p owned patient w = stages_bound t total p owned patient stages part x y w

stops_most : (t : Terms) (s : Stage) (part : List Event) (e : ErrorSeen) (x y : Means) (total p : ℕ) → t.total ≡ Some total → t.patience ≡ Some p → Stops t s part e x y → turns part ≤ p * length (commands_of s)
stops_most t (Calls step) part e x y total p owned patient d = let none : turns part ≡ 0 = ap turns d.1.0 ∙ refused_turns step d.0 d.1.1 in omega arith
stops_most t Asks part e x y total p owned patient d = let none : turns part ≡ 0 = asked_turns part d.1 in omega arith
stops_most t (Tries refused c) part e x y total p owned patient d = let none : turns part ≡ 0 = sole_turns part (broken_sole c part (broken_of t.shows c part d.0 d.1.0 d.1.1)) in omega arith
stops_most t (RunsOne c) part e x y total p owned patient d = bounded t.patience p 1 part patient (one_bound t c part (Err d.0) x y d.1.0)
stops_most t (RunsAll ps) part e x y total p owned patient d = bounded t.patience p (length ps) part patient (where_some (λ _. Bounded t.patience (length ps) part) t.total total owned (all_bound t ps part (Err d.0) x y d.1.0))

halts_most : (t : Terms) (refusal : Option ErrorSeen) (stages : List Stage) (part : List Event) (e : ErrorSeen) (x y : Means) (total p : ℕ) → t.total ≡ Some total → t.patience ≡ Some p → Halts t refusal stages part e x y → turns part ≤ p * length (commands_in stages)
halts_most t refusal [] part e x y total p owned patient h = let none : turns part ≡ 0 = ap turns h.1 in omega arith
halts_most t refusal (s ∷ ss) part e x y total p owned patient (inl h) = let none : turns part ≡ 0 = ap turns h.1 in omega arith
halts_most t refusal (s ∷ ss) part e x y total p owned patient (inr h) =
    let first : turns part ≤ p * length (commands_of s) = stops_most t s part e x y total p owned patient h in
    let sum : p * length (commands_in (s ∷ ss)) ≡ p * length (commands_of s) + p * length (commands_in ss) = ap (λ n. p * n) (length-append (commands_of s) (commands_in ss)) ∙ mul-add p (length (commands_of s)) (length (commands_in ss)) in
    omega arith

-- so it is of stages that were done, or among which the run ended
pub ended_most : {T : Type 0} (t : Terms) (refusal : Option ErrorSeen) (stages : List Stage) (part : List Event) (r : Result T ErrorSeen) (x y : Means) (total p : ℕ) → t.total ≡ Some total → t.patience ≡ Some p → Ends t refusal stages part r x y → turns part ≤ p * length (commands_in stages)
ended_most t refusal stages part (Ok v) x y total p owned patient h = went_bound t stages part x y total p owned patient h.1
ended_most t refusal stages part (Err e) x y total p owned patient h =
    let both : turns part ≡ turns h.front + turns h.rest = both_turns part h.front h.rest h.cut in
    let first : turns h.front ≤ p * length (commands_in h.before) = went_bound t h.before h.front x h.y total p owned patient h.went in
    let more : turns h.rest ≤ p * length (commands_in h.after) = halts_most t refusal h.after h.rest e h.y y total p owned patient h.halts in
    let sum : p * length (commands_in stages) ≡ p * length (commands_in h.before) + p * length (commands_in h.after) = ap (λ l. p * length (commands_in l)) h.stages_are ∙ ap (λ l. p * length l) (commands_then h.before h.after) ∙ ap (λ n. p * n) (length-append (commands_in h.before) (commands_in h.after)) ∙ mul-add p (length (commands_in h.before)) (length (commands_in h.after)) in
    omega arith

-- ---- the turns were spent

stop_kind : (step : Step) (event : Event) → (stop_error step event).kind ≡ SpendsTurns → ⊥
unfolding missing_error failed_error unstarted_error fault_error
stop_kind (Runs role cmd) (Ran r c pipes status out err) h = cc
stop_kind (Runs role cmd) (Missing r c) h = cc
stop_kind (Runs role cmd) (Fault call why) h = cc
stop_kind (Makes scope path) (Fault call why) h = cc
stop_kind (Removes path) (Fault call why) h = cc
stop_kind (Writes path bytes) (Fault call why) h = cc
stop_kind (Copies from to) (Fault call why) h = cc
stop_kind (Finds path) (Fault call why) h = cc
stop_kind (Says message) (Fault call why) h = cc
stop_kind (Prints kind bytes) (Fault call why) h = cc
stop_kind Lists (Fault call why) h = cc
stop_kind _ _ h = cc

of_kind : (f : CommandSeen → ErrorSeen) → ((cmd : CommandSeen) → (f cmd).kind ≡ SpendsTurns → ⊥) → (o : Option CommandSeen) → (error_of f o).kind ≡ SpendsTurns → ⊥
of_kind f h (Some cmd) e = h cmd e
of_kind f h None e = cc

pub run_kind : (ps : List Planned) (error : RunError) → (run_error ps error).kind ≡ SpendsTurns → error ≡ TurnsSpent
unfolding missing_error failed_error unstarted_error fault_error
run_kind ps (ToolNotFound place) h = absurd (of_kind missing_error (λ cmd k. cc) (command_at ps place) h)
run_kind ps (Failed place status) h = absurd (of_kind (failed_error status) (λ cmd k. cc) (command_at ps place) h)
run_kind ps (StartFault place) h = absurd (of_kind unstarted_error (λ cmd k. cc) (command_at ps place) h)
run_kind ps WaitFault h = absurd (cc)
run_kind ps (HostFault call why) h = absurd (cc)
run_kind ps JobFault h = absurd (cc)
run_kind ps TurnsSpent h = refl
run_kind ps NoMemory h = absurd (cc)

-- an error of that kind is no want of memory
pub spends : (is e : ErrorSeen) → e.kind ≡ SpendsTurns → IsOf is e → is.kind ≡ SpendsTurns
spends is e h (inl memory) = absurd (let k : no_memory.kind ≡ SpendsTurns = ap (λ o. o.kind) (sym memory) ∙ h in cc)
spends is e h (inr same) = ap (λ o. o.kind) (sym same) ∙ h

-- no command that is tried spends turns
not_tried : (t : Terms) (c : Planned) (part : List Event) (error : RunError) → error ≡ TurnsSpent → IsSilentRun t.shows c (Err error) part → ⊥
not_tried t c part error is h = subst (λ (o : RunError). IsSilentRun t.shows c (Err o) part) is h

module _ (t : Terms) (total p : ℕ) (owned : t.total ≡ Some total) (patient : t.patience ≡ Some p) where
  stops_bound : (s : Stage) (part : List Event) (e : ErrorSeen) (x y : Means) → Stops t s part e x y → e.kind ≡ SpendsTurns → turns part < p * length (commands_of s)
  stops_bound (Calls step) part e x y d h = absurd (stop_kind step d.0 (spends (stop_error step d.0) e h d.1.2))
  stops_bound Asks part e x y d h = absurd (let k : no_memory.kind ≡ SpendsTurns = ap (λ o. o.kind) (sym d.0) ∙ h in cc)
  stops_bound (Tries refused c) part e x y d h = absurd (not_tried t c part d.0 (run_kind (c ∷ []) d.0 (spends (run_error (c ∷ []) d.0) e h d.1.2)) d.1.1)
  stops_bound (RunsOne c) part e x y d h =
      let is : d.0 ≡ TurnsSpent = run_kind (c ∷ []) d.0 (spends (run_error (c ∷ []) d.0) e h d.1.1) in
      unspent t.patience p 1 part patient (one_enough t c part (Err d.0) x y d.1.0 (ap Err is))
  stops_bound (RunsAll ps) part e x y d h =
      let is : d.0 ≡ TurnsSpent = run_kind ps d.0 (spends (run_error ps d.0) e h d.1.1) in
      unspent t.patience p (length ps) part patient (where_some (λ _. Unspent t.patience (length ps) part) t.total total owned (all_enough t ps part (Err d.0) x y d.1.0 (ap Err is)))

  unspent_refusal : (refusal : Option ErrorSeen) (e : ErrorSeen) → ((e' : ErrorSeen) → refusal ≡ Some e' → e'.kind ≡ SpendsTurns → ⊥) → (e ≡ no_memory) ⊎ (refusal ≡ Some e) → e.kind ≡ SpendsTurns → ⊥
  unspent_refusal refusal e other (inl memory) h = let k : no_memory.kind ≡ SpendsTurns = ap (λ o. o.kind) (sym memory) ∙ h in cc
  unspent_refusal refusal e other (inr refused) h = other e refused h

  halts_bound : (refusal : Option ErrorSeen) (stages : List Stage) (part : List Event) (e : ErrorSeen) (x y : Means) → ((e' : ErrorSeen) → refusal ≡ Some e' → e'.kind ≡ SpendsTurns → ⊥) → Halts t refusal stages part e x y → e.kind ≡ SpendsTurns → turns part < p * length (commands_in stages)
  halts_bound refusal [] part e x y other h k = absurd (unspent_refusal refusal e other h.0 k)
  halts_bound refusal (s ∷ ss) part e x y other (inl h) k = absurd (unspent_refusal refusal e other (inl h.0) k)
  halts_bound refusal (s ∷ ss) part e x y other (inr h) k =
      let first : turns part < p * length (commands_of s) = stops_bound s part e x y h k in
      let sum : p * length (commands_in (s ∷ ss)) ≡ p * length (commands_of s) + p * length (commands_in ss) = ap (λ n. p * n) (length-append (commands_of s) (commands_in ss)) ∙ mul-add p (length (commands_of s)) (length (commands_in ss)) in
      omega arith

-- a run that ended for want of turns made fewer than that
pub halted_bound : (t : Terms) (refusal : Option ErrorSeen) (stages : List Stage) (part : List Event) (e : ErrorSeen) (x y : Means) (total p : ℕ) → t.total ≡ Some total → t.patience ≡ Some p → ((e' : ErrorSeen) → refusal ≡ Some e' → e'.kind ≡ SpendsTurns → ⊥) → Halted t refusal stages part e x y → e.kind ≡ SpendsTurns → turns part < p * length (commands_in stages)
halted_bound t refusal stages part e x y total p owned patient other h k =
    let both : turns part ≡ turns h.front + turns h.rest = both_turns part h.front h.rest h.cut in
    let first : turns h.front ≤ p * length (commands_in h.before) = went_bound t h.before h.front x h.y total p owned patient h.went in
    let more : turns h.rest < p * length (commands_in h.after) = halts_bound t total p owned patient refusal h.after h.rest e h.y y other h.halts k in
    let sum : p * length (commands_in stages) ≡ p * length (commands_in h.before) + p * length (commands_in h.after) = ap (λ l. p * length (commands_in l)) h.stages_are ∙ ap (λ l. p * length l) (commands_then h.before h.after) ∙ ap (λ n. p * n) (length-append (commands_in h.before) (commands_in h.after)) ∙ mul-add p (length (commands_in h.before)) (length (commands_in h.after)) in
    omega arith

stops_spent : (t : Terms) (s : Stage) (part : List Event) (e : ErrorSeen) (x y : Means) → Stops t s part e x y → e.kind ≡ SpendsTurns → y.left ≡ 0
stops_spent t (Calls step) part e x y d h = absurd (stop_kind step d.0 (spends (stop_error step d.0) e h d.1.2))
stops_spent t Asks part e x y d h = absurd (let k : no_memory.kind ≡ SpendsTurns = ap (λ o. o.kind) (sym d.0) ∙ h in cc)
stops_spent t (Tries refused c) part e x y d h = absurd (not_tried t c part d.0 (run_kind (c ∷ []) d.0 (spends (run_error (c ∷ []) d.0) e h d.1.2)) d.1.1)
stops_spent t (RunsOne c) part e x y d h = one_spent t c part (Err d.0) x y d.1.0 (ap Err (run_kind (c ∷ []) d.0 (spends (run_error (c ∷ []) d.0) e h d.1.1)))
stops_spent t (RunsAll ps) part e x y d h = all_spent t ps part (Err d.0) x y d.1.0 (ap Err (run_kind ps d.0 (spends (run_error ps d.0) e h d.1.1)))

-- it has none left
pub halted_spent : (t : Terms) (refusal : Option ErrorSeen) (stages : List Stage) (part : List Event) (e : ErrorSeen) (x y : Means) → ((e' : ErrorSeen) → refusal ≡ Some e' → e'.kind ≡ SpendsTurns → ⊥) → Halted t refusal stages part e x y → e.kind ≡ SpendsTurns → y.left ≡ 0
halted_spent t refusal stages part e x y other h kind = behind h.after h.halts
  where
    wanted : (e ≡ no_memory) ⊎ (refusal ≡ Some e) → ⊥
    wanted (inl memory) = let k : no_memory.kind ≡ SpendsTurns = ap (λ o. o.kind) (sym memory) ∙ kind in cc
    wanted (inr refused) = other e refused kind

    behind : (after : List Stage) → Halts t refusal after h.rest e h.y y → y.left ≡ 0
    behind [] k = absurd (wanted k.0)
    behind (s ∷ ss) (inl k) = absurd (wanted (inl k.0))
    behind (s ∷ ss) (inr k) = stops_spent t s h.rest e h.y y k kind
