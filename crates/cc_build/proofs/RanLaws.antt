-- What a run of commands says of its part, by its answer.
use Rattle.std.proofs.Common.{◌≡◌, ◌⊎◌, inl, inr, ℕ, ◌+◌, ◌<◌, ◌≤◌, List, [], ◌∷◌, ◌++◌, ◌==◌, length, map, take, Bool, true, false, not, ◌&&◌, ◌||◌, if◌then◌else◌, is_some, Option, None, Some, IfSome, Result, Ok, Err, refl, sym, ◌∙◌, ap, subst, append_assoc, arith}
use Rattle.std.specs.List.{list_all, slice_get}
use Rattle.std.proofs.lemmas.List.{length-map}
use Rattle.std.proofs.lemmas.Grind.{common_steps}
use Rattle.cc_jobs.specs.Seats.{Rose}
use Rattle.cc_host.specs.Children.{Live, live_after, live_from, running}
use Rattle.cc_host.specs.Command.{CommandSeen}
use Rattle.cc_host.specs.Part.{since}
use Rattle.cc_host.specs.Status.{is_success}
use Rattle.cc_host.specs.declared.event.Event.{Event}
use Rattle.cc_host.specs.declared.event.Event.TheVariants.{Started, Heard, Unread, Ended, Abandoned, Turn, Printed, Said as Says, Missing, Fault}
use Rattle.cc_host.specs.declared.event.Status.{Status}
use Rattle.cc_host.proofs.ChildLogLemmas.{live_then}
use Rattle.cc_host.proofs.Parts.{since_append}
use Rattle.cc_run.specs.Book.{missing_by, faults_by, IsPrefix, IsAllWell}
use Rattle.cc_run.specs.Children.{run_of, nothing_kept}
use Rattle.cc_run.specs.Listed.{listed_plan, BeganBelow}
use Rattle.cc_run.specs.Marks.{has_begun, has_failed, last_failure, failure_from}
use Rattle.cc_run.specs.Outcome.{IsCause, IsNotice, Reason, by_failure, list_result}
use Rattle.cc_run.specs.Own.{is_of_run}
use Rattle.cc_run.specs.Part.{Good, Along, started, missing, faults, abandoned, turns}
use Rattle.cc_run.specs.Patience.{Bounded, Unspent}
use Rattle.cc_run.specs.Plan.{Plan, next_place}
use Rattle.cc_run.specs.Planned.{asked, asked_by}
use Rattle.cc_run.specs.Rules.{Rules}
use Rattle.cc_run.specs.Run.{Run, nothing, place_of, began, over, run_after, run_from, ids, gone}
use Rattle.cc_run.specs.Seat.{SeatSeen}
use Rattle.cc_run.specs.State.{State}
use Rattle.cc_run.specs.Whole.{RanAll as RunsWhole, RanList, EndsBy}
use Rattle.cc_run.specs.declared.error.RunError.{RunError}
use Rattle.cc_run.specs.declared.error.RunError.TheVariants.{ToolNotFound, Failed, StartFault, WaitFault, HostFault, JobFault, TurnsSpent, NoMemory}
use Rattle.cc_run.specs.declared.mark.Mark.{Mark}
use Rattle.cc_run.specs.declared.mark.Mark.TheVariants.{Began, Over}
use Rattle.cc_run.specs.declared.planned.Planned.{Planned}
use Rattle.cc_run.specs.declared.planned.Shows.{Shows}
use Rattle.cc_run.specs.declared.planned.Turns.{Turns as TurnsSeen}
use Rattle.cc_run.proofs.Ends.{along_missing, along_faults, same_along, ran_part, ran_missing, ran_faults, ran_abandoned, ran_started, ran_own, ran_idle, ran_turns, ran_spent, ran_later, ran_job_fault, list_missing, list_faults}
use Rattle.cc_run.proofs.Firsts.{next_some}
use Rattle.cc_run.proofs.Laws.{fresh_good, fresh_run}
use Rattle.cc_run.proofs.ListLaws.{listing, ran_prefix, all_started, well_of}
use Rattle.cc_run.proofs.ListedLaws.{place_is}
use Rattle.cc_run.proofs.MarkLemmas.{failed_began, failed_over}
use Rattle.cc_run.proofs.PatienceLemmas.{ran_bound, ran_unspent}
use Rattle.cc_build.specs.Children.{runs, fails, fails_from, has_failure}
use Rattle.cc_build.specs.Went.{Terms, Means, RanAll, RanOne, beside_rules, alone_rules, begins, idle_seat, turns_at}
use Rattle.cc_build.proofs.ChildLaws.{fails_then}

-- ---- a failed end, in the part and in the marks

runs_place : (id : ℕ) (cs : List (ℕ × ℕ)) (ls : List Live) → ids cs ≡ map (λ c. c.id) ls → runs id ls ≡ is_some (place_of id cs)
runs_place id [] [] e = refl
runs_place id [] (l ∷ ls) e = absurd (cc)
runs_place id (c ∷ cs) [] e = absurd (cc)
runs_place id (c ∷ cs) (l ∷ ls) e =
    let head : l.id ≡ c.0 = cc in
    let tail : ids cs ≡ map (λ c. c.id) ls = cc in
    ap (λ n. (n == id) || runs id ls) head ∙ step (c.0 == id) (runs_place id cs ls tail)
  where
    step : (b : Bool) → runs id ls ≡ is_some (place_of id cs) → (b || runs id ls) ≡ is_some (if b then Some c.1 else place_of id cs)
    step true k = refl
    step false k = k

or_none : (b : Bool) → b ≡ (b || false)
or_none true = refl
or_none false = refl

began_failed : (o : Option ℕ) (marks : List Mark) → has_failed (began o marks) ≡ (has_failed marks || false)
began_failed None marks = or_none (has_failed marks)
began_failed (Some p) marks = failed_began marks p ∙ or_none (has_failed marks)

over_failed : (status : Status) (o : Option ℕ) (marks : List Mark) (b : Bool) → b ≡ is_some o → has_failed (over status o marks) ≡ (has_failed marks || (b && not (is_success status)))
over_failed status None marks b e = or_none (has_failed marks) ∙ ap (λ x. has_failed marks || (x && not (is_success status))) (sym e)
over_failed status (Some p) marks b e = failed_over marks p status ∙ ap (λ x. has_failed marks || (x && not (is_success status))) (sym e)

failed_step : (rules : Rules) (t : Option ℕ) (r : Run) (ls : List Live) (e : Event) → Good rules t r e → ids r.live ≡ map (λ c. c.id) ls → has_failed (run_after rules.plan r e).marks ≡ (has_failed r.marks || fails ls e)
failed_step rules t r ls (Started id role cmd pipes held) h k = began_failed (next_place rules.plan r.marks) r.marks
failed_step rules t r ls (Ended id status) h k = over_failed status (place_of id r.live) r.marks (runs id ls) (runs_place id r.live ls k)
failed_step rules t r ls (Heard id piece) h k = or_none (has_failed r.marks)
failed_step rules t r ls (Unread id) h k = or_none (has_failed r.marks)
failed_step rules t r ls (Turn count) h k = or_none (has_failed r.marks)
failed_step rules t r ls (Printed kind bytes) h k = or_none (has_failed r.marks)
failed_step rules t r ls (Says message) h k = or_none (has_failed r.marks)
failed_step rules t r ls _ h k = absurd h

or_three : (a b c : Bool) → ((a || b) || c) ≡ (a || (b || c))
or_three true b c = refl
or_three false b c = refl

failed_along : (rules : Rules) (t : Option ℕ) (r : Run) (ls : List Live) (part : List Event) → Along rules t r part → ids r.live ≡ map (λ c. c.id) ls → has_failed (run_from rules.plan r part).marks ≡ (has_failed r.marks || fails_from ls part)
failed_along rules t r ls [] h k = or_none (has_failed r.marks)
failed_along rules t r ls (e ∷ es) h k =
    failed_along rules t (run_after rules.plan r e) (live_after ls e) es h.1 (same_along rules t r ls (e ∷ []) (h.0, tt) k)
    ∙ ap (λ b. b || fails_from (live_after ls e) es) (failed_step rules t r ls e h.0 k) ∙ or_three (has_failed r.marks) (fails ls e) (fails_from (live_after ls e) es)

-- a child of a run failed exactly where its marks say so
pub failure_along : (rules : Rules) (t : Option ℕ) (part : List Event) → Along rules t nothing part → has_failure part ≡ has_failed (run_from rules.plan nothing part).marks
failure_along rules t part h = sym (failed_along rules t nothing [] part h refl)

-- ---- a whole run

cause_sound : (cmds : List Planned) (e : RunError) (ls : List Live) (tail : List Event) → IsCause cmds e tail → fails_from ls tail ≡ false
cause_sound cmds (ToolNotFound place) ls tail (p, k) = ap (fails_from ls) k.1
cause_sound cmds (StartFault place) ls tail (why, k) = ap (fails_from ls) k
cause_sound cmds WaitFault ls tail (why, k) = ap (fails_from ls) k
cause_sound cmds (HostFault call why) ls tail k = ap (fails_from ls) k
cause_sound cmds _ ls tail k = ap (fails_from ls) k

gone_sound : (ls : List Live) (cs : List (ℕ × ℕ)) → fails_from ls (gone cs) ≡ false
gone_sound ls [] = refl
gone_sound ls (c ∷ cs) = gone_sound (live_after ls (Abandoned c.0)) cs

-- what the reason and the cause of an end are, where so many commands were started
abbrev pub IsReason : ℕ → RunError → Type 0
IsReason count (ToolNotFound place) = place ≡ count
IsReason count (HostFault call why) = IsNotice call
IsReason count _ = Unit {0}

-- How a run of a list ended. Where it went well, all were started, none failed, and none was left alone. Where one failed, all were started, unless
-- a failure stops the list. Else there is a cause.
abbrev pub IsEnd : Shows → Bool → List Planned → ℕ → List Event → List Event → List (ℕ × ℕ) → Result (Unit {0}) RunError → Type 0
IsEnd shows stop ps count part tail live (Ok _) = (tail ≡ []) × (live ≡ []) × (started part ≡ asked shows ps) × (has_failure part ≡ false)
IsEnd shows stop ps count part tail live (Err (Failed place status)) =
    (tail ≡ []) × (live ≡ []) × (has_failure part ≡ true) × (stop ≡ false → started part ≡ asked shows ps)
IsEnd shows stop ps count part tail live (Err e) = IsCause ps e tail × IsReason count e

-- The part of a run: so many of its commands were started, from the first on. Behind that stands the cause of its end, where there is one, and then
-- the children that were left alone.
pub record Said (shows : Shows) (stop : Bool) (ps : List Planned) (part : List Event) (result : Result (Unit {0}) RunError) : Type 0 where
  pub work : List Event
  pub tail : List Event
  pub live : List (ℕ × ℕ)
  pub cut : part ≡ work ++ (tail ++ gone live)
  pub own : list_all is_of_run part ≡ true
  pub count : ℕ
  pub begun : started part ≡ take count (asked shows ps)
  pub begun_work : started work ≡ take count (asked shows ps)
  pub found : missing work ≡ []
  pub sound : faults work ≡ []
  pub missing_is : missing part ≡ missing_by ps result
  pub faults_are : faults part ≡ faults_by result
  pub left : abandoned part ≡ ids live
  pub idle : running part ≡ []
  pub ends : IsEnd shows stop ps count part tail live result

-- without a failure the last one is that before
failure_kept : (last : Option (ℕ × Status)) (marks : List Mark) → has_failed marks ≡ false → failure_from last marks ≡ last
failure_kept last [] h = refl
failure_kept last (Began p ∷ ms) h = failure_kept last ms h
failure_kept last (Over p status ∷ ms) h = step (is_success status) h (λ k. failure_kept last ms k)
  where
    step : (b : Bool) → (not b || has_failed ms) ≡ false → (has_failed ms ≡ false → failure_from last ms ≡ last) → failure_from (if b then last else Some (p, status)) ms ≡ last
    step true k f = f k
    step false k f = absurd (cc)

some_failed : (marks : List Mark) (f : ℕ × Status) → last_failure marks ≡ Some f → has_failed marks ≡ true
some_failed marks f e = at (has_failed marks) refl
  where
    at : (b : Bool) → has_failed marks ≡ b → b ≡ true
    at true k = refl
    at false k = absurd (let n : failure_from None marks ≡ None = failure_kept None marks k in cc)

pub take_whole : (shows : Shows) (ps : List Planned) (n : ℕ) → length ps ≤ n → take n (asked shows ps) ≡ asked shows ps
take_whole shows ps n l = let k : length (asked shows ps) ≡ length ps = length-map ps (asked_by shows) in grind (arith, common_steps)

module _ (shows : Shows) (stop : Bool) (ps : List Planned) (warns counted : Bool) (t : Option ℕ) (old : State) (log : List Event) (patience : Option ℕ) (seat : SeatSeen) (made : TurnsSeen) (fresh : old.kept ≡ nothing_kept) where
  abbrev its : Rules
  its = listing stop ps shows warns counted

  module _ (general : Result (List Mark) RunError) (whole : RunsWhole (listing stop ps shows warns counted) t old general log patience seat made) where
    its_prefix : IsPrefix shows ps whole.done.kept.marks whole.works.part
    its_prefix = ran_prefix stop ps shows warns counted t old whole.done whole.works fresh

    its_started : started (since old.log log) ≡ take its_prefix.count (asked shows ps)
    its_started = ran_started its t old general log patience seat made whole ∙ its_prefix.prefix

    tail_sound : (ls : List Live) (g : Result (List Mark) RunError) (tail : List Event) → EndsBy its whole.done g tail → fails_from ls tail ≡ false
    tail_sound ls (Ok marks) tail h = ap (fails_from ls) h.2
    tail_sound ls (Err e) tail h = cause_sound ps e ls tail h.1

    -- a child of it failed where its marks say so
    its_failure : has_failure (since old.log log) ≡ has_failed whole.done.kept.marks
    its_failure =
        let part : List Event = whole.works.part in
        let rest : List Event = whole.tail ++ gone (run_of whole.done.kept).live in
        let calm : fails_from (live_from [] part) rest ≡ false = fails_then (live_from [] part) whole.tail (gone (run_of whole.done.kept).live)
        ∙ ap (λ b. b || fails_from (live_from (live_from [] part) whole.tail) (gone (run_of whole.done.kept).live)) (tail_sound (live_from [] part) general whole.tail whole.ends)
        ∙ gone_sound (live_from (live_from [] part) whole.tail) (run_of whole.done.kept).live in
        ap has_failure (ran_part its t old general log patience seat made whole) ∙ fails_then [] part rest ∙ ap (λ b. has_failure part || b) calm ∙ sym (or_none (has_failure part))
        ∙ failure_along its t part (fresh_good its t old whole.done whole.works fresh) ∙ ap (λ r. has_failed r.marks) (fresh_run its t old whole.done whole.works fresh)

    -- settled, and not stopped: all were started
    its_all : next_place (listed_plan stop ps) whole.done.kept.marks ≡ None → (stop && has_failed whole.done.kept.marks) ≡ false → started (since old.log log) ≡ asked shows ps
    its_all next going = its_started ∙ take_whole shows ps its_prefix.count (all_started stop ps its_prefix.count whole.done.kept.marks its_prefix.began next going)

    abbrev Ended_so : Result (Unit {0}) RunError → Type 0
    Ended_so = IsEnd shows stop ps its_prefix.count (since old.log log) whole.tail (run_of whole.done.kept).live

    unstopped : (b : Bool) → b ≡ false → (stop && b) ≡ false
    unstopped b e = at stop
      where
        at : (s : Bool) → (s && b) ≡ false
        at true = e
        at false = refl

    going_on : stop ≡ false → (stop && has_failed whole.done.kept.marks) ≡ false
    going_on e = ap (λ s. s && has_failed whole.done.kept.marks) e

    well_end : (marks : List Mark) → EndsBy its whole.done (Ok marks) whole.tail → (o : Option (ℕ × Status)) → last_failure marks ≡ o → Ended_so (by_failure o)
    well_end marks h None e =
        let none : has_failed whole.done.kept.marks ≡ false = ap has_failed (sym h.1) ∙ well_of None marks e in
        (h.2, h.0.0, its_all h.0.1 (unstopped (has_failed whole.done.kept.marks) none), its_failure ∙ none)
    well_end marks h (Some f) e = (h.2, h.0.0, its_failure ∙ ap has_failed (sym h.1) ∙ some_failed marks f e, λ on. its_all h.0.1 (going_on on))

    place_next : (place : ℕ) → next_place (listed_plan stop ps) whole.done.kept.marks ≡ Some place → place ≡ its_prefix.count
    place_next place next = place_is stop false ps its_prefix.count whole.done.kept.marks place its_prefix.began (next_some (listed_plan stop ps) whole.done.kept.marks place next)

    bad_end : (e : RunError) → EndsBy its whole.done (Err e) whole.tail → Ended_so (Err e)
    bad_end (ToolNotFound place) h = (h.1, place_next place h.0)
    bad_end (Failed place status) h = absurd h.0
    bad_end (StartFault place) h = (h.1, tt)
    bad_end WaitFault h = (h.1, tt)
    bad_end (HostFault call why) h = (h.1, h.0)
    bad_end JobFault h = (h.1, tt)
    bad_end TurnsSpent h = (h.1, tt)
    bad_end NoMemory h = (h.1, tt)

    by_end : (g : Result (List Mark) RunError) → EndsBy its whole.done g whole.tail → Ended_so (list_result g)
    by_end (Ok marks) h = well_end marks h (last_failure marks) refl
    by_end (Err e) h = bad_end e h

    said_whole : (result : Result (Unit {0}) RunError) → result ≡ list_result general → Said shows stop ps (since old.log log) result
    said_whole result answer = record {
      work = whole.works.part;
      tail = whole.tail;
      live = (run_of whole.done.kept).live;
      cut = ran_part its t old general log patience seat made whole;
      own = ran_own its t old general log patience seat made whole;
      count = its_prefix.count;
      begun = its_started;
      begun_work = its_prefix.prefix;
      found = along_missing its t (run_of old.kept) whole.works.part whole.works.good;
      sound = along_faults its t (run_of old.kept) whole.works.part whole.works.good;
      missing_is = ran_missing its t old general log patience seat made whole ∙ sym (list_missing ps general) ∙ ap (missing_by ps) (sym answer);
      faults_are = ran_faults its t old general log patience seat made whole ∙ sym (list_faults general) ∙ ap faults_by (sym answer);
      left = ran_abandoned its t old general log patience seat made whole;
      idle = ran_idle its t old general log patience seat made whole fresh;
      ends = subst Ended_so (sym answer) (by_end general whole.ends);
    }

said_list : (shows : Shows) (stop : Bool) (ps : List Planned) (warns counted : Bool) (t : Option ℕ) (old : State) (part : List Event) (patience : Option ℕ) (seat : SeatSeen) (made : TurnsSeen) (result : Result (Unit {0}) RunError) → old.kept ≡ nothing_kept → RanList (listing stop ps shows warns counted) t old result (old.log ++ part) patience seat made → Said shows stop ps part result
said_list shows stop ps warns counted t old part patience seat made result fresh ran =
    subst (λ (l : List Event). Said shows stop ps l result) (since_append old.log part) (said_whole shows stop ps warns counted t old (old.log ++ part) patience seat made fresh ran.general ran.ran result ran.answer)

-- what a run of commands beside each other says, and one of a command alone
pub said_all : (t : Terms) (ps : List Planned) (part : List Event) (result : Result (Unit {0}) RunError) (x y : Means) → RanAll t ps part result x y → Said t.shows t.shows.stop ps part result
said_all t ps part result x y r = said_list t.shows t.shows.stop ps true true t.total (begins t r.log (idle_seat t.total x) (turns_at x r.before)) part t.patience (idle_seat t.total y) (turns_at y r.behind) result refl r.run

pub said_one : (t : Terms) (p : Planned) (part : List Event) (result : Result (Unit {0}) RunError) (x y : Means) → RanOne t p part result x y → Said t.shows false (p ∷ []) part result
said_one t p part result x y r = said_list t.shows false (p ∷ []) false false (Some 1) (begins t r.log r.old (turns_at x r.before)) part t.patience r.new (turns_at y r.behind) result refl r.run

-- ---- turns, and faults of the pool

spent_general : (general : Result (List Mark) RunError) (result : Result (Unit {0}) RunError) → result ≡ list_result general → result ≡ Err TurnsSpent → general ≡ Err TurnsSpent
spent_general (Err e) result a b = let k : e ≡ TurnsSpent = cc in ap Err k
spent_general (Ok marks) result a b = absurd (at (last_failure marks) (sym a ∙ b))
  where
    at : (o : Option (ℕ × Status)) → by_failure o ≡ Err TurnsSpent → ⊥
    at None k = cc
    at (Some f) k = cc

fault_general : (general : Result (List Mark) RunError) (result : Result (Unit {0}) RunError) → result ≡ list_result general → result ≡ Err JobFault → general ≡ Err JobFault
fault_general (Err e) result a b = let k : e ≡ JobFault = cc in ap Err k
fault_general (Ok marks) result a b = absurd (at (last_failure marks) (sym a ∙ b))
  where
    at : (o : Option (ℕ × Status)) → by_failure o ≡ Err JobFault → ⊥
    at None k = cc
    at (Some f) k = cc

-- of the part of a run
same_part : {X : Type 0} (f : List Event → X) (log part : List Event) → f (since log (log ++ part)) ≡ f part
same_part f log part = ap f (since_append log part)

module _ (t : Terms) (ps : List Planned) (part : List Event) (result : Result (Unit {0}) RunError) (x y : Means) (r : RanAll t ps part result x y) where
  abbrev all_old : State
  all_old = begins t r.log (idle_seat t.total x) (turns_at x r.before)

  -- its turns are taken from those that are left
  pub all_turned : y.left + turns part ≡ x.left
  all_turned =
      let m : y.left + turns (since r.log (r.log ++ part)) ≡ x.left = (ran_turns (beside_rules t ps) t.total all_old r.run.general (r.log ++ part) t.patience (idle_seat t.total y) (turns_at y r.behind) r.run.ran).left in
      ap (λ n. y.left + n) (sym (same_part turns r.log part)) ∙ m

  pub all_spent : result ≡ Err TurnsSpent → y.left ≡ 0
  all_spent e = ran_spent (beside_rules t ps) t.total all_old r.run.general (r.log ++ part) t.patience (idle_seat t.total y) (turns_at y r.behind) r.run.ran (spent_general r.run.general result r.run.answer e)

  -- where one caller owns the pool it made no more than the patience for each command, and fewer where they were spent
  pub all_bound : IfSome t.total (λ _. Bounded t.patience (length ps) part)
  all_bound = subst (λ (l : List Event). IfSome t.total (λ _. Bounded t.patience (length ps) l)) (since_append r.log part) (ran_bound (beside_rules t ps) t.total all_old r.run.general (r.log ++ part) t.patience (idle_seat t.total y) (turns_at y r.behind) r.run.ran refl r.least)

  pub all_enough : result ≡ Err TurnsSpent → IfSome t.total (λ _. Unspent t.patience (length ps) part)
  all_enough e = subst (λ (l : List Event). IfSome t.total (λ _. Unspent t.patience (length ps) l)) (since_append r.log part) (ran_unspent (beside_rules t ps) t.total all_old r.run.general (r.log ++ part) t.patience (idle_seat t.total y) (turns_at y r.behind) r.run.ran refl r.least (spent_general r.run.general result r.run.answer e))

  -- the count of faults never falls, and rose where the pool failed
  pub all_later : x.faults ≤ y.faults
  all_later = ran_later (beside_rules t ps) t.total all_old r.run.general (r.log ++ part) t.patience (idle_seat t.total y) (turns_at y r.behind) r.run.ran

  pub all_rose : result ≡ Err JobFault → Rose x.faults y.faults
  all_rose e = ran_job_fault (beside_rules t ps) t.total all_old r.run.general (r.log ++ part) t.patience (idle_seat t.total y) (turns_at y r.behind) r.run.ran (fault_general r.run.general result r.run.answer e)

module _ (t : Terms) (p : Planned) (part : List Event) (result : Result (Unit {0}) RunError) (x y : Means) (r : RanOne t p part result x y) where
  abbrev one_old : State
  one_old = begins t r.log r.old (turns_at x r.before)

  pub one_turned : y.left + turns part ≡ x.left
  one_turned =
      let m : y.left + turns (since r.log (r.log ++ part)) ≡ x.left = (ran_turns (alone_rules t p) (Some 1) one_old r.run.general (r.log ++ part) t.patience r.new (turns_at y r.behind) r.run.ran).left in
      ap (λ n. y.left + n) (sym (same_part turns r.log part)) ∙ m

  pub one_spent : result ≡ Err TurnsSpent → y.left ≡ 0
  one_spent e = ran_spent (alone_rules t p) (Some 1) one_old r.run.general (r.log ++ part) t.patience r.new (turns_at y r.behind) r.run.ran (spent_general r.run.general result r.run.answer e)

  pub one_bound : Bounded t.patience 1 part
  one_bound = subst (λ (l : List Event). Bounded t.patience 1 l) (since_append r.log part) (ran_bound (alone_rules t p) (Some 1) one_old r.run.general (r.log ++ part) t.patience r.new (turns_at y r.behind) r.run.ran refl r.least)

  pub one_enough : result ≡ Err TurnsSpent → Unspent t.patience 1 part
  one_enough e = subst (λ (l : List Event). Unspent t.patience 1 l) (since_append r.log part) (ran_unspent (alone_rules t p) (Some 1) one_old r.run.general (r.log ++ part) t.patience r.new (turns_at y r.behind) r.run.ran refl r.least (spent_general r.run.general result r.run.answer e))

  -- a pool of one never fails
  pub one_sound : result ≡ Err JobFault → ⊥
  one_sound e =
      let rose : Rose r.old.faults r.new.faults = ran_job_fault (alone_rules t p) (Some 1) one_old r.run.general (r.log ++ part) t.patience r.new (turns_at y r.behind) r.run.ran (fault_general r.run.general result r.run.answer e) in
      let a : r.old.faults ≡ 0 = r.sound.0 in
      let b : r.new.faults ≡ 0 = r.sound.1 in
      let low : r.old.faults < r.new.faults = rose (grind arith) in
      omega arith
