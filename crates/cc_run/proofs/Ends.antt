-- What the part of a whole run says, by the run's answer.
use Rattle.std.proofs.Common.{◌≡◌, inl, inr, ℕ, zero, suc, ◌+◌, ◌≤◌, List, [], ◌∷◌, ◌++◌, ◌==◌, map, take, drop, refl, sym, ◌∙◌, ap, subst, append_assoc, arith, Bool, true, false, if◌then◌else◌}
use Rattle.std.specs.Prelude.{Option, None, Some, Result, Ok, Err, sum_by}
use Rattle.std.specs.List.{list_all, flat_map, slice_get}
use Rattle.std.proofs.lemmas.Bool.{and_from}
use Rattle.std.proofs.lemmas.List.{append-nil, map-append}
use Rattle.std.proofs.lemmas.List.Sums.{sum_by-append}
use Rattle.std.proofs.lemmas.Grind.{common_steps, flat_map-append}
use Rattle.cc_jobs.specs.Seats.{Rose}
use Rattle.cc_host.specs.Children.{Live, live_from, live_after, polled, running, without as without_live}
use Rattle.cc_host.specs.Part.{since}
use Rattle.cc_host.proofs.Parts.{since_append}
use Rattle.cc_host.specs.declared.event.Event.{Event}
use Rattle.cc_host.specs.declared.event.Event.TheVariants.{Started, Missing, Heard, Unread, Ended, Turn, Printed, Said, Fault, Abandoned}
use Rattle.cc_host.specs.declared.event.Status.{Status}
use Rattle.cc_run.specs.Book.{missing_in, missing_by, faults_in, faults_by}
use Rattle.cc_run.specs.Children.{run_of, nothing_kept}
use Rattle.cc_run.specs.Keeping.{TurnsMade}
use Rattle.cc_run.specs.Marks.{last_failure}
use Rattle.cc_run.specs.Outcome.{IsCause, Reason, by_failure, list_result}
use Rattle.cc_run.specs.Own.{is_of_run}
use Rattle.cc_run.specs.Paid.{starts, starts_of, loads, held_of}
use Rattle.cc_run.specs.Part.{Good, Along, started, started_of, missing, missing_of, faults, fault_of, abandoned, abandoned_of, turns, turns_of}
use Rattle.cc_run.specs.Plan.{Plan, next_place}
use Rattle.cc_run.specs.Rules.{Rules}
use Rattle.cc_run.specs.Run.{Run, nothing, run_after, run_from, without, joined, ids, gone}
use Rattle.cc_run.specs.Seat.{SeatSeen, FaultsBy}
use Rattle.cc_run.specs.State.{State}
use Rattle.cc_run.specs.Whole.{RanAll, EndsBy, SeatBy}
use Rattle.cc_run.specs.declared.error.RunError.{RunError}
use Rattle.cc_run.specs.declared.error.RunError.TheVariants.{ToolNotFound, StartFault, WaitFault, HostFault, JobFault, TurnsSpent}
use Rattle.cc_run.specs.declared.mark.Mark.{Mark}
use Rattle.cc_run.specs.declared.planned.Planned.{Planned}
use Rattle.cc_run.specs.declared.planned.Turns.{Turns as TurnsSeen}
use Rattle.cc_run.proofs.Laws.{fresh_good, fresh_run}
use Rattle.cc_run.proofs.OwnLemmas.{own_both, own_gone}

-- ---- good events

none_along : {X : Type 0} (f : Event → List X) (rules : Rules) (t : Option ℕ) → ((r : Run) (e : Event) → Good rules t r e → f e ≡ []) → (r : Run) (part : List Event) → Along rules t r part → flat_map f part ≡ []
none_along f rules t g r [] h = refl
none_along f rules t g r (e ∷ es) h = ap (λ l. l ++ flat_map f es) (g r e h.0) ∙ none_along f rules t g (run_after rules.plan r e) es h.1

module _ (rules : Rules) (t : Option ℕ) (r : Run) where
  good_missing : (e : Event) → Good rules t r e → missing_of e ≡ []
  good_missing (Missing role cmd) h = absurd h
  good_missing _ h = refl

  good_faults : (e : Event) → Good rules t r e → fault_of e ≡ []
  good_faults (Fault call why) h = absurd h
  good_faults _ h = refl

  good_abandoned : (e : Event) → Good rules t r e → abandoned_of e ≡ []
  good_abandoned (Abandoned id) h = absurd h
  good_abandoned _ h = refl

  good_own : (e : Event) → Good rules t r e → is_of_run e ≡ true
  good_own (Started id role cmd pipes held) h = refl
  good_own (Ended id status) h = refl
  good_own (Heard id piece) h = refl
  good_own (Unread id) h = refl
  good_own (Turn count) h = refl
  good_own (Printed kind bytes) h = h
  good_own (Said message) h = refl
  good_own _ h = absurd h

along_own : (rules : Rules) (t : Option ℕ) (r : Run) (part : List Event) → Along rules t r part → list_all is_of_run part ≡ true
along_own rules t r [] h = refl
along_own rules t r (e ∷ es) h = and_from (is_of_run e) (list_all is_of_run es) (good_own rules t r e h.0) (along_own rules t (run_after rules.plan r e) es h.1)

-- no program was missing while a run went on, no fault stands there, and no child was abandoned
pub along_missing : (rules : Rules) (t : Option ℕ) (r : Run) (part : List Event) → Along rules t r part → missing part ≡ []
along_missing rules t = none_along missing_of rules t (good_missing rules t)

pub along_faults : (rules : Rules) (t : Option ℕ) (r : Run) (part : List Event) → Along rules t r part → faults part ≡ []
along_faults rules t = none_along fault_of rules t (good_faults rules t)

pub along_abandoned : (rules : Rules) (t : Option ℕ) (r : Run) (part : List Event) → Along rules t r part → abandoned part ≡ []
along_abandoned rules t = none_along abandoned_of rules t (good_abandoned rules t)

-- ---- the children that run, by their ids

same_without : (id : ℕ) (cs : List (ℕ × ℕ)) (ls : List Live) → ids cs ≡ map (λ c. c.id) ls → ids (without id cs) ≡ map (λ c. c.id) (without_live id ls)
same_without id [] [] e = refl
same_without id [] (l ∷ ls) e = absurd (cc)
same_without id (c ∷ cs) [] e = absurd (cc)
same_without id (c ∷ cs) (l ∷ ls) e =
    let head : c.0 ≡ l.id = cc in
    let tail : ids cs ≡ map (λ c. c.id) ls = cc in
    subst (λ n. ids (if c.0 == id then cs else c ∷ without id cs) ≡ map (λ c. c.id) (if n == id then ls else l ∷ without_live id ls)) head (step (c.0 == id) head tail (same_without id cs ls tail))
  where
    step : (b : Bool) → c.0 ≡ l.id → ids cs ≡ map (λ c. c.id) ls → ids (without id cs) ≡ map (λ c. c.id) (without_live id ls) → ids (if b then cs else c ∷ without id cs) ≡ map (λ c. c.id) (if b then ls else l ∷ without_live id ls)
    step true h k i = k
    step false h k i = ap (λ n. n ∷ ids (without id cs)) h ∙ ap (λ ns. l.id ∷ ns) i

same_polled : (count : ℕ) (ls : List Live) → map (λ c. c.id) (map (polled count) ls) ≡ map (λ c. c.id) ls
same_polled count [] = refl
same_polled count (l ∷ ls) = ap (λ ns. l.id ∷ ns) (same_polled count ls)

same_joined : (id : ℕ) (o : Option ℕ) (p : ℕ) (cs : List (ℕ × ℕ)) (ls : List Live) → o ≡ Some p → ids cs ≡ map (λ c. c.id) ls → ids (joined id o cs) ≡ map (λ c. c.id) (ls ++ record { id = id; polls = 0 } ∷ [])
same_joined id None p cs ls n e = absurd (cc)
same_joined id (Some q) p cs ls n e = map-append (λ c. c.0) cs ((id, q) ∷ []) ∙ ap (λ l. l ++ id ∷ []) e ∙ sym (map-append (λ c. c.id) ls (record { id = id; polls = 0 } ∷ []))

same_step : (rules : Rules) (t : Option ℕ) (r : Run) (ls : List Live) (e : Event) → Good rules t r e → ids r.live ≡ map (λ c. c.id) ls → ids (run_after rules.plan r e).live ≡ map (λ c. c.id) (live_after ls e)
same_step rules t r ls (Started id role cmd pipes held) h k = same_joined id (next_place rules.plan r.marks) h.place r.live ls h.next k
same_step rules t r ls (Ended id status) h k = same_without id r.live ls k
same_step rules t r ls (Turn count) h k = k ∙ sym (same_polled count ls)
same_step rules t r ls (Heard id piece) h k = k
same_step rules t r ls (Unread id) h k = k
same_step rules t r ls (Printed kind bytes) h k = k
same_step rules t r ls (Said message) h k = k
same_step rules t r ls _ h k = absurd h

-- the children of the run are those that the part started and that run
pub same_along : (rules : Rules) (t : Option ℕ) (r : Run) (ls : List Live) (part : List Event) → Along rules t r part → ids r.live ≡ map (λ c. c.id) ls → ids (run_from rules.plan r part).live ≡ map (λ c. c.id) (live_from ls part)
same_along rules t r ls [] h k = k
same_along rules t r ls (e ∷ es) h k = same_along rules t (run_after rules.plan r e) (live_after ls e) es h.1 (same_step rules t r ls e h.0 k)

-- after all were abandoned none runs
gone_live : (cs : List (ℕ × ℕ)) (ls : List Live) → ids cs ≡ map (λ c. c.id) ls → live_from ls (gone cs) ≡ []
gone_live [] [] e = refl
gone_live [] (l ∷ ls) e = absurd (cc)
gone_live (c ∷ cs) [] e = absurd (cc)
gone_live (c ∷ cs) (l ∷ ls) e =
    let head : l.id ≡ c.0 = cc in
    let tail : ids cs ≡ map (λ c. c.id) ls = cc in
    let first : (l.id == c.0) ≡ true = grind (arith, common_steps) in
    ap (λ (b : Bool). live_from (if b then ls else l ∷ without_live c.0 ls) (gone cs)) first ∙ gone_live cs ls tail

pub live_both : (ls : List Live) (a b : List Event) → live_from ls (a ++ b) ≡ live_from (live_from ls a) b
live_both ls [] b = refl
live_both ls (e ∷ a) b = live_both (live_after ls e) a b

-- ---- the cause of an end

one_at : (cmds : List Planned) (place : ℕ) (p : Planned) → slice_get cmds place ≡ Some p → take 1 (drop place cmds) ≡ p ∷ []
one_at [] place p e = absurd (cc)
one_at (c ∷ cmds) zero p e = ap (λ x. x ∷ []) (let k : c ≡ p = cc in k)
one_at (c ∷ cmds) (suc place) p e = one_at cmds place p e

cause_missing : (cmds : List Planned) (e : RunError) (tail : List Event) → IsCause cmds e tail → missing tail ≡ missing_in cmds e
cause_missing cmds (ToolNotFound place) tail (p, k) = ap missing k.1 ∙ ap (map (λ p. (p.role, p.cmd))) (sym (one_at cmds place p k.0))
cause_missing cmds (StartFault place) tail (why, k) = ap missing k
cause_missing cmds WaitFault tail (why, k) = ap missing k
cause_missing cmds (HostFault call why) tail k = ap missing k
cause_missing cmds _ tail k = ap missing k

cause_faults : (cmds : List Planned) (e : RunError) (tail : List Event) → IsCause cmds e tail → faults tail ≡ faults_in e
cause_faults cmds (ToolNotFound place) tail (p, k) = ap faults k.1
cause_faults cmds (StartFault place) tail (why, k) = ap faults k
cause_faults cmds WaitFault tail (why, k) = ap faults k
cause_faults cmds (HostFault call why) tail k = ap faults k
cause_faults cmds _ tail k = ap faults k

cause_own : (plan : Plan) (r : Run) (left : ℕ) (e : RunError) (tail : List Event) → Reason plan r left e → IsCause plan.cmds e tail → list_all is_of_run tail ≡ true
cause_own plan r left (ToolNotFound place) tail why (p, k) = ap (list_all is_of_run) k.1
cause_own plan r left (StartFault place) tail why (reason, k) = ap (list_all is_of_run) k
cause_own plan r left WaitFault tail why (reason, k) = ap (list_all is_of_run) k
cause_own plan r left (HostFault call reason) tail (inl n) k = ap (list_all is_of_run) (k ∙ ap (λ c. Fault c reason ∷ []) n)
cause_own plan r left (HostFault call reason) tail (inr n) k = ap (list_all is_of_run) (k ∙ ap (λ c. Fault c reason ∷ []) n)
cause_own plan r left _ tail why k = ap (list_all is_of_run) k

-- the cause of an end starts, ends and counts nothing
cause_turns : (cmds : List Planned) (e : RunError) (tail : List Event) → IsCause cmds e tail → turns tail ≡ 0
cause_turns cmds (ToolNotFound place) tail (p, k) = ap turns k.1
cause_turns cmds (StartFault place) tail (why, k) = ap turns k
cause_turns cmds WaitFault tail (why, k) = ap turns k
cause_turns cmds (HostFault call why) tail k = ap turns k
cause_turns cmds _ tail k = ap turns k

cause_started : (cmds : List Planned) (e : RunError) (tail : List Event) → IsCause cmds e tail → started tail ≡ []
cause_started cmds (ToolNotFound place) tail (p, k) = ap started k.1
cause_started cmds (StartFault place) tail (why, k) = ap started k
cause_started cmds WaitFault tail (why, k) = ap started k
cause_started cmds (HostFault call why) tail k = ap started k
cause_started cmds _ tail k = ap started k

cause_starts : (cmds : List Planned) (e : RunError) (tail : List Event) → IsCause cmds e tail → (starts tail ≡ 0) × (loads tail ≡ 0)
cause_starts cmds (ToolNotFound place) tail (p, k) = (ap starts k.1, ap loads k.1)
cause_starts cmds (StartFault place) tail (why, k) = (ap starts k, ap loads k)
cause_starts cmds WaitFault tail (why, k) = (ap starts k, ap loads k)
cause_starts cmds (HostFault call why) tail k = (ap starts k, ap loads k)
cause_starts cmds _ tail k = (ap starts k, ap loads k)

cause_abandoned : (cmds : List Planned) (e : RunError) (tail : List Event) → IsCause cmds e tail → abandoned tail ≡ []
cause_abandoned cmds (ToolNotFound place) tail (p, k) = ap abandoned k.1
cause_abandoned cmds (StartFault place) tail (why, k) = ap abandoned k
cause_abandoned cmds WaitFault tail (why, k) = ap abandoned k
cause_abandoned cmds (HostFault call why) tail k = ap abandoned k
cause_abandoned cmds _ tail k = ap abandoned k

cause_live : (cmds : List Planned) (e : RunError) (tail : List Event) (ls : List Live) → IsCause cmds e tail → live_from ls tail ≡ ls
cause_live cmds (ToolNotFound place) tail ls (p, k) = ap (live_from ls) k.1
cause_live cmds (StartFault place) tail ls (why, k) = ap (live_from ls) k
cause_live cmds WaitFault tail ls (why, k) = ap (live_from ls) k
cause_live cmds (HostFault call why) tail ls k = ap (live_from ls) k
cause_live cmds _ tail ls k = ap (live_from ls) k

-- ---- children that were abandoned

pub gone_missing : (cs : List (ℕ × ℕ)) → missing (gone cs) ≡ []
gone_missing [] = refl
gone_missing (c ∷ cs) = gone_missing cs

pub gone_faults : (cs : List (ℕ × ℕ)) → faults (gone cs) ≡ []
gone_faults [] = refl
gone_faults (c ∷ cs) = gone_faults cs

pub gone_abandoned : (cs : List (ℕ × ℕ)) → abandoned (gone cs) ≡ ids cs
gone_abandoned [] = refl
gone_abandoned (c ∷ cs) = ap (λ l. c.0 ∷ l) (gone_abandoned cs)

pub gone_started : (cs : List (ℕ × ℕ)) → started (gone cs) ≡ []
gone_started [] = refl
gone_started (c ∷ cs) = gone_started cs

pub gone_turns : (cs : List (ℕ × ℕ)) → turns (gone cs) ≡ 0
gone_turns [] = refl
gone_turns (c ∷ cs) = gone_turns cs

pub gone_starts : (cs : List (ℕ × ℕ)) → (starts (gone cs) ≡ 0) × (loads (gone cs) ≡ 0)
gone_starts [] = (refl, refl)
gone_starts (c ∷ cs) = gone_starts cs

-- ---- a whole run

module _ (rules : Rules) (t : Option ℕ) (old : State) (result : Result (List Mark) RunError) (log : List Event) (patience : Option ℕ) (seat : SeatSeen) (made : TurnsSeen) (ran : RanAll rules t old result log patience seat made) where
  -- its part: good events, the cause of the end, and the children that were abandoned
  pub ran_part : since old.log log ≡ ran.works.part ++ (ran.tail ++ gone (run_of ran.done.kept).live)
  ran_part = ap (since old.log) (ran.adds ∙ ap (λ l. l ++ (ran.tail ++ gone (run_of ran.done.kept).live)) ran.works.adds ∙ append_assoc old.log ran.works.part (ran.tail ++ gone (run_of ran.done.kept).live)) ∙ since_append old.log (ran.works.part ++ (ran.tail ++ gone (run_of ran.done.kept).live))

  pub ran_extends : log ≡ old.log ++ since old.log log
  ran_extends = ran.adds ∙ ap (λ l. l ++ (ran.tail ++ gone (run_of ran.done.kept).live)) ran.works.adds ∙ append_assoc old.log ran.works.part (ran.tail ++ gone (run_of ran.done.kept).live) ∙ ap (λ l. old.log ++ l) (sym ran_part)

  pub ran_patient : patience ≡ old.patience
  ran_patient = ran.patient ∙ ran.works.patient

  split : {X : Type 0} (f : Event → List X) → flat_map f (since old.log log) ≡ flat_map f ran.works.part ++ (flat_map f ran.tail ++ flat_map f (gone (run_of ran.done.kept).live))
  split f = ap (flat_map f) ran_part ∙ flat_map-append f ran.works.part (ran.tail ++ gone (run_of ran.done.kept).live) ∙ ap (λ l. flat_map f ran.works.part ++ l) (flat_map-append f ran.tail (gone (run_of ran.done.kept).live))

  sums : (f : Event → ℕ) → sum_by f (since old.log log) ≡ sum_by f ran.works.part + (sum_by f ran.tail + sum_by f (gone (run_of ran.done.kept).live))
  sums f =
      let a : sum_by f (ran.works.part ++ (ran.tail ++ gone (run_of ran.done.kept).live)) ≡ sum_by f ran.works.part + sum_by f (ran.tail ++ gone (run_of ran.done.kept).live) = sum_by-append f ran.works.part (ran.tail ++ gone (run_of ran.done.kept).live) in
      let b : sum_by f (ran.tail ++ gone (run_of ran.done.kept).live) ≡ sum_by f ran.tail + sum_by f (gone (run_of ran.done.kept).live) = sum_by-append f ran.tail (gone (run_of ran.done.kept).live) in
      ap (sum_by f) ran_part ∙ a ∙ ap (λ n. sum_by f ran.works.part + n) b

  tail_missing : (r : Result (List Mark) RunError) (tail : List Event) → EndsBy rules ran.done r tail → missing tail ≡ missing_by rules.plan.cmds r
  tail_missing (Ok marks) tail h = ap missing h.2
  tail_missing (Err e) tail h = cause_missing rules.plan.cmds e tail h.1

  tail_faults : (r : Result (List Mark) RunError) (tail : List Event) → EndsBy rules ran.done r tail → faults tail ≡ faults_by r
  tail_faults (Ok marks) tail h = ap faults h.2
  tail_faults (Err e) tail h = cause_faults rules.plan.cmds e tail h.1

  tail_abandoned : (r : Result (List Mark) RunError) (tail : List Event) → EndsBy rules ran.done r tail → abandoned tail ≡ []
  tail_abandoned (Ok marks) tail h = ap abandoned h.2
  tail_abandoned (Err e) tail h = cause_abandoned rules.plan.cmds e tail h.1

  tail_started : (r : Result (List Mark) RunError) (tail : List Event) → EndsBy rules ran.done r tail → started tail ≡ []
  tail_started (Ok marks) tail h = ap started h.2
  tail_started (Err e) tail h = cause_started rules.plan.cmds e tail h.1

  tail_turns : (r : Result (List Mark) RunError) (tail : List Event) → EndsBy rules ran.done r tail → turns tail ≡ 0
  tail_turns (Ok marks) tail h = ap turns h.2
  tail_turns (Err e) tail h = cause_turns rules.plan.cmds e tail h.1

  tail_starts : (r : Result (List Mark) RunError) (tail : List Event) → EndsBy rules ran.done r tail → (starts tail ≡ 0) × (loads tail ≡ 0)
  tail_starts (Ok marks) tail h = (ap starts h.2, ap loads h.2)
  tail_starts (Err e) tail h = cause_starts rules.plan.cmds e tail h.1

  tail_own : (r : Result (List Mark) RunError) (tail : List Event) → EndsBy rules ran.done r tail → list_all is_of_run tail ≡ true
  tail_own (Ok marks) tail h = ap (list_all is_of_run) h.2
  tail_own (Err e) tail h = cause_own rules.plan (run_of ran.done.kept) ran.done.turns.left e tail h.0 h.1

  tail_live : (r : Result (List Mark) RunError) (tail : List Event) (ls : List Live) → EndsBy rules ran.done r tail → live_from ls tail ≡ ls
  tail_live (Ok marks) tail ls h = ap (live_from ls) h.2
  tail_live (Err e) tail ls h = cause_live rules.plan.cmds e tail ls h.1

  -- the one missing command that the answer names is all that was missing
  pub ran_missing : missing (since old.log log) ≡ missing_by rules.plan.cmds result
  ran_missing =
      split missing_of ∙ ap (λ l. l ++ (missing ran.tail ++ missing (gone (run_of ran.done.kept).live))) (along_missing rules t (run_of old.kept) ran.works.part ran.works.good)
      ∙ ap (λ l. missing ran.tail ++ l) (gone_missing (run_of ran.done.kept).live) ∙ append-nil (missing ran.tail) ∙ tail_missing result ran.tail ran.ends

  -- the one fault that the answer names is all that failed
  pub ran_faults : faults (since old.log log) ≡ faults_by result
  ran_faults =
      split fault_of ∙ ap (λ l. l ++ (faults ran.tail ++ faults (gone (run_of ran.done.kept).live))) (along_faults rules t (run_of old.kept) ran.works.part ran.works.good)
      ∙ ap (λ l. faults ran.tail ++ l) (gone_faults (run_of ran.done.kept).live) ∙ append-nil (faults ran.tail) ∙ tail_faults result ran.tail ran.ends

  -- those that ran at the end were abandoned, and no others
  pub ran_abandoned : abandoned (since old.log log) ≡ ids (run_of ran.done.kept).live
  ran_abandoned =
      split abandoned_of ∙ ap (λ l. l ++ (abandoned ran.tail ++ abandoned (gone (run_of ran.done.kept).live))) (along_abandoned rules t (run_of old.kept) ran.works.part ran.works.good)
      ∙ ap (λ l. l ++ abandoned (gone (run_of ran.done.kept).live)) (tail_abandoned result ran.tail ran.ends) ∙ gone_abandoned (run_of ran.done.kept).live

  -- behind its good events nothing was started
  pub ran_started : started (since old.log log) ≡ started ran.works.part
  ran_started =
      split started_of ∙ ap (λ l. started ran.works.part ++ (l ++ started (gone (run_of ran.done.kept).live))) (tail_started result ran.tail ran.ends)
      ∙ ap (λ l. started ran.works.part ++ l) (gone_started (run_of ran.done.kept).live) ∙ append-nil (started ran.works.part)

  pub ran_starts : starts (since old.log log) ≡ starts ran.works.part
  ran_starts =
      let a : starts (since old.log log) ≡ starts ran.works.part + (starts ran.tail + starts (gone (run_of ran.done.kept).live)) = sums starts_of in
      let b : starts ran.tail ≡ 0 = (tail_starts result ran.tail ran.ends).0 in
      let d : starts (gone (run_of ran.done.kept).live) ≡ 0 = (gone_starts (run_of ran.done.kept).live).0 in
      omega arith

  pub ran_loads : loads (since old.log log) ≡ loads ran.works.part
  ran_loads =
      let a : loads (since old.log log) ≡ loads ran.works.part + (loads ran.tail + loads (gone (run_of ran.done.kept).live)) = sums held_of in
      let b : loads ran.tail ≡ 0 = (tail_starts result ran.tail ran.ends).1 in
      let d : loads (gone (run_of ran.done.kept).live) ≡ 0 = (gone_starts (run_of ran.done.kept).live).1 in
      omega arith

  same_turns : turns (since old.log log) ≡ turns ran.works.part
  same_turns =
      let a : turns (since old.log log) ≡ turns ran.works.part + (turns ran.tail + turns (gone (run_of ran.done.kept).live)) = sums turns_of in
      let b : turns ran.tail ≡ 0 = tail_turns result ran.tail ran.ends in
      let d : turns (gone (run_of ran.done.kept).live) ≡ 0 = gone_turns (run_of ran.done.kept).live in
      omega arith

  -- the turns are those of the part
  pub ran_turns : TurnsMade old.turns made (since old.log log)
  ran_turns = subst (λ x. TurnsMade old.turns x (since old.log log)) (sym ran.made) (record {
    left = (let a : ran.done.turns.left + turns ran.works.part ≡ old.turns.left = ran.works.made.left in let b : turns (since old.log log) ≡ turns ran.works.part = same_turns in omega arith);
    used = (let a : ran.done.turns.used ≡ old.turns.used + turns ran.works.part = ran.works.made.used in let b : turns (since old.log log) ≡ turns ran.works.part = same_turns in omega arith);
  })

  -- all its events are a run's
  pub ran_own : list_all is_of_run (since old.log log) ≡ true
  ran_own = ap (list_all is_of_run) ran_part
      ∙ own_both ran.works.part (ran.tail ++ gone (run_of ran.done.kept).live) (along_own rules t (run_of old.kept) ran.works.part ran.works.good)
      (own_both ran.tail (gone (run_of ran.done.kept).live) (tail_own result ran.tail ran.ends) (own_gone (run_of ran.done.kept).live))

  -- turns are spent only where none is left
  pub ran_spent : result ≡ Err TurnsSpent → made.left ≡ 0
  ran_spent e = ap (λ x. x.left) ran.made ∙ at result e ran.ends
    where
      at : (r : Result (List Mark) RunError) → r ≡ Err TurnsSpent → EndsBy rules ran.done r ran.tail → ran.done.turns.left ≡ 0
      at (Ok marks) e h = absurd (cc)
      at (Err TurnsSpent) e h = h.0.0
      at (Err x) e h = (subst (λ y. Reason rules.plan (run_of ran.done.kept) ran.done.turns.left y) (let k : x ≡ TurnsSpent = cc in k) h.0).0

  same_by : (r : Result (List Mark) RunError) (mid : SeatSeen) → SeatBy rules ran.done r mid → (mid.total ≡ ran.done.seat.total) × (ran.done.seat.faults ≤ mid.faults)
  same_by (Ok marks) mid h = (h.same_total, h.later)
  same_by (Err e) mid h = (h.same_total, h.later)

  -- the seat has the total that it had, and its count of faults never falls
  pub ran_total : seat.total ≡ old.seat.total
  ran_total = ran.back.same_total ∙ (same_by result ran.mid ran.seat_by).0 ∙ ran.works.pays.same_total

  pub ran_later : old.seat.faults ≤ seat.faults
  ran_later =
      let a : old.seat.faults ≤ ran.done.seat.faults = ran.works.pays.later in
      let b : ran.done.seat.faults ≤ ran.mid.faults = (same_by result ran.mid ran.seat_by).1 in
      let d : ran.mid.faults ≤ seat.faults = ran.back.later in
      omega arith

  -- where the pool failed, it rose
  pub ran_job_fault : result ≡ Err JobFault → Rose old.seat.faults seat.faults
  ran_job_fault e = λ low.
      let a : old.seat.faults ≤ ran.done.seat.faults = ran.works.pays.later in
      let b : Rose ran.done.seat.faults ran.mid.faults = at result ran.seat_by e in
      let d : ran.mid.faults ≤ seat.faults = ran.back.later in
      grind arith
    where
      at : (r : Result (List Mark) RunError) → SeatBy rules ran.done r ran.mid → r ≡ Err JobFault → Rose ran.done.seat.faults ran.mid.faults
      at (Ok marks) h e = absurd (cc)
      at (Err x) h e = subst (λ y. FaultsBy y ran.done.seat.faults ran.mid.faults) (let k : x ≡ JobFault = cc in k) h.by_fault

  -- where the answer is Ok nothing was left to abandon
  pub ran_whole : (marks : List Mark) → result ≡ Ok marks → since old.log log ≡ ran.works.part
  ran_whole marks e =
      let h : EndsBy rules ran.done (Ok marks) ran.tail = subst (λ r. EndsBy rules ran.done r ran.tail) e ran.ends in
      ran_part ∙ ap (λ l. ran.works.part ++ (l ++ gone (run_of ran.done.kept).live)) h.2 ∙ ap (λ l. ran.works.part ++ gone l) h.0.0 ∙ append-nil ran.works.part

  -- after it no child that it started runs
  pub ran_idle : old.kept ≡ nothing_kept → running (since old.log log) ≡ []
  ran_idle fresh =
      let same : ids (run_of ran.done.kept).live ≡ map (λ c. c.id) (live_from [] ran.works.part) = ap (λ r. ids r.live) (sym (fresh_run rules t old ran.done ran.works fresh)) ∙ same_along rules t nothing [] ran.works.part (fresh_good rules t old ran.done ran.works fresh) refl in
      let none : live_from (live_from [] ran.works.part) (gone (run_of ran.done.kept).live) ≡ [] = gone_live (run_of ran.done.kept).live (live_from [] ran.works.part) same in
      let at : live_from [] (since old.log log) ≡ [] = ap (live_from []) ran_part ∙ live_both [] ran.works.part (ran.tail ++ gone (run_of ran.done.kept).live)
      ∙ live_both (live_from [] ran.works.part) ran.tail (gone (run_of ran.done.kept).live) ∙ ap (λ l. live_from l (gone (run_of ran.done.kept).live)) (tail_live result ran.tail (live_from [] ran.works.part) ran.ends) ∙ none in
      ap (map (λ c. c.id)) at

-- ---- a list

-- a list's answer names the same
pub list_missing : (cmds : List Planned) (r : Result (List Mark) RunError) → missing_by cmds (list_result r) ≡ missing_by cmds r
list_missing cmds (Err e) = refl
list_missing cmds (Ok marks) = at (last_failure marks)
  where
    at : (o : Option (ℕ × Status)) → missing_by cmds (by_failure o) ≡ []
    at None = refl
    at (Some f) = refl

pub list_faults : (r : Result (List Mark) RunError) → faults_by (list_result r) ≡ faults_by r
list_faults (Err e) = refl
list_faults (Ok marks) = at (last_failure marks)
  where
    at : (o : Option (ℕ × Status)) → faults_by (by_failure o) ≡ []
    at None = refl
    at (Some f) = refl
