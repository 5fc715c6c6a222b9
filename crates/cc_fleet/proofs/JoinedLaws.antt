-- What the run of the commands of all members says of its part.
use Rattle.std.proofs.Common.{◌≡◌, inr, ℕ, ◌+◌, ◌*◌, ◌<◌, ◌≤◌, List, [], ◌∷◌, ◌++◌, length, map, Bool, false, Option, None, Some, Result, Ok, Err, refl, sym, ◌∙◌, ap, subst, arith}
use Rattle.std.specs.Prelude.{IfSome}
use Rattle.cc_host.specs.Command.{CommandSeen}
use Rattle.cc_host.specs.declared.event.Event.{Event}
use Rattle.cc_host.specs.declared.event.Role.{Role}
use Rattle.cc_host.proofs.Parts.{since_append}
use Rattle.cc_host.specs.declared.event.Status.{Status}
use Rattle.cc_run.specs.Book.{IsPaid}
use Rattle.cc_run.specs.Children.{run_of, nothing_kept}
use Rattle.cc_run.specs.Listed.{listed_plan}
use Rattle.cc_run.specs.Marks.{last_failure}
use Rattle.cc_run.specs.Outcome.{by_failure, list_result}
use Rattle.cc_run.specs.Part.{started, abandoned, faults, turns}
use Rattle.cc_run.specs.Patience.{Unspent}
use Rattle.cc_run.specs.Planned.{asked}
use Rattle.cc_run.specs.Run.{ids}
use Rattle.cc_run.specs.declared.error.RunError.{RunError}
use Rattle.cc_run.specs.declared.error.RunError.TheVariants.{ToolNotFound, Failed, StartFault, WaitFault, HostFault, JobFault, TurnsSpent, NoMemory}
use Rattle.cc_run.specs.declared.mark.Mark.{Mark}
use Rattle.cc_run.specs.declared.planned.Planned.{Planned}
use Rattle.cc_run.proofs.Payments.{ran_paid}
use Rattle.cc_run.proofs.PrintingLemmas.{printed_list}
use Rattle.cc_build.specs.Attempts.{attempts, to_attempt}
use Rattle.cc_build.specs.Error.{ErrorSeen, no_memory}
use Rattle.cc_build.specs.Promises.{AtStarts, AtTurns, IsCounted, IsBusy, NothingRuns, FaultsEnd}
use Rattle.cc_build.specs.RunErrors.{run_error}
use Rattle.cc_build.specs.Stage.{Stage, beside, commands_in}
use Rattle.cc_build.specs.Stage.Stage.{RunsOne, RunsAll}
use Rattle.cc_build.specs.Went.{Terms, Means, RanAll, RanOne, Ends, Partly, beside_rules, begins, idle_seat, turns_at}
use Rattle.cc_build.specs.declared.error.ErrorKind.TheVariants.{TurnsSpent as SpendsTurns}
use Rattle.cc_build.proofs.Going.{went_one, halted_at}
use Rattle.cc_build.proofs.OrderLaws.{ended_partly}
use Rattle.cc_build.proofs.PromiseLaws.{fault_ends}
use Rattle.cc_build.proofs.RanLaws.{Said, said_all, said_one, all_enough, one_enough}
use Rattle.cc_build.proofs.RunLaws.{commands_beside}
use Rattle.cc_build.proofs.SettledLaws.{partly_settled, partly_first}
use Rattle.cc_build.proofs.StopLaws.{ArePlain}
use Rattle.cc_build.proofs.TogetherLaws.{all_counted, all_busy}
use Rattle.cc_build.proofs.TurnLaws.{ended_turns, ended_most, run_kind, spends}
use Rattle.cc_fleet.specs.Run.{RanSeveral, RanJoined, StopsRun, marks_of}

-- ---- the run as a stage

-- several commands as a list
pub several_all : (t : Terms) (ps : List Planned) (part : List Event) (general : Result (List Mark) RunError) (x y : Means) → RanSeveral t ps part general x y → RanAll t ps part (list_result general) x y
several_all t ps part general x y r = record {
  log = r.log;
  before = r.before;
  behind = r.behind;
  least = r.least;
  run = record { general = general; answer = refl; ran = r.run };
  lines = printed_list (beside_rules t ps) nothing_kept general part r.lines;
}

-- one alone that counts as spent was
lone_spent : (own : Result (Unit {0}) RunError) → Err TurnsSpent ≡ marks_of own → own ≡ Err TurnsSpent
lone_spent (Ok done) is = absurd (cc)
lone_spent (Err (Failed place status)) is = absurd (cc)
lone_spent (Err (ToolNotFound place)) is = absurd (cc)
lone_spent (Err (StartFault place)) is = absurd (cc)
lone_spent (Err WaitFault) is = absurd (cc)
lone_spent (Err (HostFault call why)) is = absurd (cc)
lone_spent (Err JobFault) is = absurd (cc)
lone_spent (Err TurnsSpent) is = refl
lone_spent (Err NoMemory) is = absurd (cc)

module _ (t : Terms) (part : List Event) (x y : Means) where
  -- these stages were done, or refused by an error
  abbrev pub EndsSomehow : List Stage → Type 0
  EndsSomehow stages = (r : Result (Unit {0}) ErrorSeen) × Ends t None stages part r x y

  one_ends : (p : Planned) (own : Result (Unit {0}) RunError) → RanOne t p part own x y → EndsSomehow (RunsOne p ∷ [])
  one_ends p (Ok done) ran = (Ok tt, (refl, went_one t (RunsOne p) part x y ran))
  one_ends p (Err error) ran = (Err (run_error (p ∷ []) error), halted_at t None (RunsOne p) [] part (run_error (p ∷ []) error) x y (error, (ran, inr refl)))

  all_ends : (ps : List Planned) (own : Result (Unit {0}) RunError) → RanAll t ps part own x y → EndsSomehow (RunsAll ps ∷ [])
  all_ends ps (Ok done) ran = (Ok tt, (refl, went_one t (RunsAll ps) part x y ran))
  all_ends ps (Err error) ran = (Err (run_error ps error), halted_at t None (RunsAll ps) [] part (run_error ps error) x y (error, (ran, inr refl)))

  -- the commands of all members are a stage of commands beside each other, of one alone, or none
  pub joined_ends : (ps : List Planned) (answer : Result (List Mark) RunError) → RanJoined t ps part answer x y → EndsSomehow (beside ps)
  joined_ends [] answer ran = (Ok tt, (refl, (ran.0, ran.2)))
  joined_ends (p ∷ []) answer ran = one_ends p ran.0 ran.1.0
  joined_ends (p ∷ q ∷ ps) answer ran = all_ends (p ∷ q ∷ ps) (list_result answer) (several_all t (p ∷ q ∷ ps) part answer x y ran)

  -- ---- what follows

  module _ (ps : List Planned) (answer : Result (List Mark) RunError) (ran : RanJoined t ps part answer x y) where
    pub joined_partly : Partly t (beside ps) part x y
    joined_partly = ended_partly t None (beside ps) part (joined_ends ps answer ran).0 x y (joined_ends ps answer ran).1

    -- behind it no command runs
    pub joined_settled : NothingRuns part
    joined_settled = partly_settled t (beside ps) part x y joined_partly

    -- its turns are taken from those that are left
    pub joined_turns : y.left + turns part ≡ x.left
    joined_turns = ended_turns t None (beside ps) part (joined_ends ps answer ran).0 x y (joined_ends ps answer ran).1

    -- a fault ends it: behind that children are abandoned, and nothing else is done
    pub joined_faults : FaultsEnd part
    joined_faults before after call why real is = fault_ends t (beside ps) part x y before after call why real is joined_partly

    -- the commands that were tried, one that is missing among them, are the first of these
    pub joined_first : (rest : List (Role × CommandSeen)) × (map to_attempt ps ≡ attempts part ++ rest)
    joined_first =
        let first = partly_first t (beside ps) part x y (plain_beside ps) joined_partly in
        (first.0, ap (map to_attempt) (sym (commands_beside ps)) ∙ first.1)
      where
        plain_beside : (cmds : List Planned) → ArePlain (beside cmds)
        plain_beside [] = tt
        plain_beside (p ∷ []) = (tt, tt)
        plain_beside (p ∷ q ∷ cmds) = (tt, tt)

  -- ---- a run to the ends of all commands

  -- each of them was started, and none was left alone
  abbrev pub AreThrough : List Planned → Type 0
  AreThrough ps = (started part ≡ asked t.shows ps) × (abandoned part ≡ [])

  said_through : (ps : List Planned) (stop : Bool) (f : Option (ℕ × Status)) → stop ≡ false → Said t.shows stop ps part (by_failure f) → AreThrough ps
  said_through ps stop None going s = (s.ends.2, s.left ∙ ap ids s.ends.1)
  said_through ps stop (Some f) going s = (s.ends.3 going, s.left ∙ ap ids s.ends.1)

  lone_through : (p : Planned) (marks : List Mark) (own : Result (Unit {0}) RunError) → Ok marks ≡ marks_of own → Said t.shows false (p ∷ []) part own → AreThrough (p ∷ [])
  lone_through p marks (Ok done) is s = (s.ends.2, s.left ∙ ap ids s.ends.1)
  lone_through p marks (Err (Failed place status)) is s = (s.ends.3 refl, s.left ∙ ap ids s.ends.1)
  lone_through p marks (Err (ToolNotFound place)) is s = absurd (cc)
  lone_through p marks (Err (StartFault place)) is s = absurd (cc)
  lone_through p marks (Err WaitFault) is s = absurd (cc)
  lone_through p marks (Err (HostFault call why)) is s = absurd (cc)
  lone_through p marks (Err JobFault) is s = absurd (cc)
  lone_through p marks (Err TurnsSpent) is s = absurd (cc)
  lone_through p marks (Err NoMemory) is s = absurd (cc)

  -- where no failure stops it, a run that ends by its marks started each command, and each of them has ended
  pub joined_through : (ps : List Planned) (marks : List Mark) → t.shows.stop ≡ false → RanJoined t ps part (Ok marks) x y → AreThrough ps
  joined_through [] marks going ran = (ap started ran.0, ap abandoned ran.0)
  joined_through (p ∷ []) marks going ran = lone_through p marks ran.0 ran.1.1 (said_one t p part ran.0 x y ran.1.0)
  joined_through (p ∷ q ∷ ps) marks going ran =
      said_through (p ∷ q ∷ ps) t.shows.stop (last_failure marks) going
      (said_all t (p ∷ q ∷ ps) part (by_failure (last_failure marks)) x y (several_all t (p ∷ q ∷ ps) part (Ok marks) x y ran))

  -- such a run has no fault
  failed_sound : (ps : List Planned) (stop : Bool) (f : Option (ℕ × Status)) → Said t.shows stop ps part (by_failure f) → faults part ≡ []
  failed_sound ps stop None s = s.faults_are
  failed_sound ps stop (Some f) s = s.faults_are

  lone_sound : (p : Planned) (marks : List Mark) (own : Result (Unit {0}) RunError) → Ok marks ≡ marks_of own → Said t.shows false (p ∷ []) part own → faults part ≡ []
  lone_sound p marks (Ok done) is s = s.faults_are
  lone_sound p marks (Err (Failed place status)) is s = s.faults_are
  lone_sound p marks (Err (ToolNotFound place)) is s = absurd (cc)
  lone_sound p marks (Err (StartFault place)) is s = absurd (cc)
  lone_sound p marks (Err WaitFault) is s = absurd (cc)
  lone_sound p marks (Err (HostFault call why)) is s = absurd (cc)
  lone_sound p marks (Err JobFault) is s = absurd (cc)
  lone_sound p marks (Err TurnsSpent) is s = absurd (cc)
  lone_sound p marks (Err NoMemory) is s = absurd (cc)

  pub joined_sound : (ps : List Planned) (marks : List Mark) → RanJoined t ps part (Ok marks) x y → faults part ≡ []
  joined_sound [] marks ran = ap faults ran.0
  joined_sound (p ∷ []) marks ran = lone_sound p marks ran.0 ran.1.1 (said_one t p part ran.0 x y ran.1.0)
  joined_sound (p ∷ q ∷ ps) marks ran =
      failed_sound (p ∷ q ∷ ps) t.shows.stop (last_failure marks)
      (said_all t (p ∷ q ∷ ps) part (by_failure (last_failure marks)) x y (several_all t (p ∷ q ∷ ps) part (Ok marks) x y ran))

  -- ---- several commands under the tokens of one pool

  module _ (p q : Planned) (ps : List Planned) (answer : Result (List Mark) RunError) (ran : RanSeveral t (p ∷ q ∷ ps) part answer x y) where
    abbrev as_all : RanAll t (p ∷ q ∷ ps) part (list_result answer) x y
    as_all = several_all t (p ∷ q ∷ ps) part answer x y ran

    -- each start carries how many commands run, itself among them, and no more than there are tokens
    pub several_within : AtStarts (IsCounted t.total) part
    several_within = all_counted t (p ∷ q ∷ ps) part (list_result answer) x y as_all

    -- at each turn as many run as there are tokens, or all were started
    pub several_greedy : AtTurns (IsBusy t.total t.shows.stop (length (p ∷ q ∷ ps))) part
    several_greedy = all_busy t (p ∷ q ∷ ps) part (list_result answer) x y as_all

    -- the tokens that were taken are those of the starts, and where a start was refused its own
    pub several_paid : IsPaid (listed_plan t.shows.stop (p ∷ q ∷ ps)) (run_of ran.run.done.kept) answer part (idle_seat t.total x) (idle_seat t.total y)
    several_paid =
        subst (λ (l : List Event). IsPaid (listed_plan t.shows.stop (p ∷ q ∷ ps)) (run_of ran.run.done.kept) answer l (idle_seat t.total x) (idle_seat t.total y)) (since_append ran.log part)
        (ran_paid (beside_rules t (p ∷ q ∷ ps)) t.total (begins t ran.log (idle_seat t.total x) (turns_at x ran.before)) answer (ran.log ++ part) t.patience (idle_seat t.total y) (turns_at y ran.behind) ran.run refl)

  -- ---- its turns, where one caller owns the pool and the patience of the host is known

  module _ (total p : ℕ) (owned : t.total ≡ Some total) (patient : t.patience ≡ Some p) where
    -- no more than the patience for each command
    pub joined_most : (ps : List Planned) (answer : Result (List Mark) RunError) → RanJoined t ps part answer x y → turns part ≤ p * length ps
    joined_most ps answer ran =
        let ends = joined_ends ps answer ran in
        let most : turns part ≤ p * length (commands_in (beside ps)) = ended_most t None (beside ps) part ends.0 x y total p owned patient ends.1 in
        let same : p * length (commands_in (beside ps)) ≡ p * length ps = ap (λ (l : List Planned). p * length l) (commands_beside ps) in
        omega (arith, most, same)

    some_bound : (o : Option ℕ) (B : Type 0) → o ≡ Some total → IfSome o (λ _. B) → B
    some_bound o B is h = subst (λ (k : Option ℕ). IfSome k (λ _. B)) is h

    below_patience : (o : Option ℕ) (count : ℕ) → o ≡ Some p → Unspent o count part → turns part < p * count
    below_patience o count is h = subst (λ (k : Option ℕ). Unspent k count part) is h

    refused_fewer : (ps : List Planned) (error : RunError) → error ≡ TurnsSpent → RanJoined t ps part (Err error) x y → turns part < p * length ps
    refused_fewer [] error is ran = absurd (let none : Err error ≡ Ok [] = ran.1 in cc)
    refused_fewer (c ∷ []) error is ran =
        let own : ran.0 ≡ Err TurnsSpent = lone_spent ran.0 (ap Err (sym is) ∙ ran.1.1) in
        below_patience t.patience 1 patient (one_enough t c part ran.0 x y ran.1.0 own)
    refused_fewer (c ∷ d ∷ ps) error is ran =
        below_patience t.patience (length (c ∷ d ∷ ps)) patient
        (some_bound t.total (Unspent t.patience (length (c ∷ d ∷ ps)) part) owned
        (all_enough t (c ∷ d ∷ ps) part (Err error) x y (several_all t (c ∷ d ∷ ps) part (Err error) x y ran) (ap Err is)))

    -- fewer, where it ended for want of them
    pub stopped_fewer : (ps : List Planned) (answer : Result (List Mark) RunError) → RanJoined t ps part answer x y → (e : ErrorSeen) → StopsRun ps answer e → e.kind ≡ SpendsTurns → turns part < p * length ps
    stopped_fewer ps (Ok marks) ran e stops kind = absurd (let k : no_memory.kind ≡ SpendsTurns = ap (λ (o : ErrorSeen). o.kind) (sym stops) ∙ kind in cc)
    stopped_fewer ps (Err error) ran e stops kind = refused_fewer ps error (run_kind ps error (spends (run_error ps error) e kind stops)) ran
