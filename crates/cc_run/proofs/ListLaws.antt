-- Laws on the run of a list.
use Rattle.std.proofs.Common.{◌≡◌, ℕ, ◌+◌, ◌<◌, ◌≤◌, List, [], ◌∷◌, ◌++◌, length, map, take, refl, sym, ◌∙◌, ap, subst, append_assoc, arith, Bool, true, false, not, ◌&&◌, ◌||◌}
use Rattle.std.specs.Prelude.{Option, None, Some, Result, Ok, Err, ◌==◌, if◌then◌else◌}
use Rattle.std.specs.List.{slice_get}
use Rattle.std.proofs.lemmas.List.{append-nil, length-map, map-append, take_more, take-map}
use Rattle.std.proofs.lemmas.Option.{get_or_from_slice_get, slice_get_within}
use Rattle.std.proofs.lemmas.Grind.{common_steps}
use Rattle.cc_host.specs.Command.{CommandSeen}
use Rattle.cc_host.specs.Part.{since}
use Rattle.cc_host.specs.Status.{is_success}
use Rattle.cc_host.specs.declared.event.Event.{Event}
use Rattle.cc_host.specs.declared.event.Event.TheVariants.{Started, Heard, Unread, Ended, Turn, Printed, Said}
use Rattle.cc_host.specs.declared.event.Pipes.{Pipes}
use Rattle.cc_host.specs.declared.event.Role.{Role}
use Rattle.cc_host.specs.declared.event.Status.{Status}
use Rattle.cc_run.specs.Book.{Followed, IsPrefix, IsAllWell}
use Rattle.cc_run.specs.Children.{run_of, nothing_kept}
use Rattle.cc_run.specs.Listed.{listed_plan, BeganBelow}
use Rattle.cc_run.specs.Marks.{has_begun, has_ended, has_succeeded, has_failed, failure_from, last_failure}
use Rattle.cc_run.specs.Outcome.{IsSettled, by_failure, list_result}
use Rattle.cc_run.specs.Part.{Good, Along, started, started_of}
use Rattle.cc_run.specs.Plan.{may, next_place}
use Rattle.cc_run.specs.Planned.{asked, asked_by}
use Rattle.cc_run.specs.Rules.{Rules}
use Rattle.cc_run.specs.Run.{Run, nothing, place_of, run_after, run_from}
use Rattle.cc_run.specs.Seat.{SeatSeen}
use Rattle.cc_run.specs.State.{State, Works}
use Rattle.cc_run.specs.Whole.{RanAll, RanList}
use Rattle.cc_run.specs.declared.error.RunError.{RunError}
use Rattle.cc_run.specs.declared.mark.Mark.{Mark}
use Rattle.cc_run.specs.declared.mark.Mark.TheVariants.{Began, Over}
use Rattle.cc_run.specs.declared.planned.Planned.{Planned}
use Rattle.cc_run.specs.declared.planned.Shows.{Shows}
use Rattle.cc_run.specs.declared.planned.Turns.{Turns as TurnsSeen}
use Rattle.cc_run.proofs.Ends.{ran_started}
use Rattle.cc_run.proofs.Firsts.{next_is, next_some, next_none}
use Rattle.cc_run.proofs.Laws.{begun_run, over_run, along_at, fresh_good, fresh_run, ran_follows, all_over}
use Rattle.cc_run.proofs.ListedLaws.{place_is, begun_more, begun_same, may_of, may_halted_no, halted_no}

-- the rules of a list's run
abbrev pub listing : Bool → List Planned → Shows → Bool → Bool → Rules
listing stop cmds shows warns counted = record { plan = listed_plan stop cmds; shows = shows; warns = warns; counted = counted }

-- ---- the started commands are the list's, in order

-- so many of the list began, and behind n of these the part started the others
record Prefixes (shows : Shows) (cmds : List Planned) (n : ℕ) (marks : List Mark) (part : List Event) : Type 0 where
  count : ℕ
  began : BeganBelow count marks
  prefix : take n (asked shows cmds) ++ started part ≡ take count (asked shows cmds)

begun_start : (stop : Bool) (cmds : List Planned) (n : ℕ) (r : Run) (id : ℕ) (o : Option ℕ) (p : ℕ) → next_place (listed_plan stop cmds) r.marks ≡ o → o ≡ Some p → BeganBelow n r.marks → (p ≡ n) × BeganBelow (n + 1) (begun_run id o r).marks
begun_start stop cmds n r id None p e f b = absurd (cc)
begun_start stop cmds n r id (Some q) p e f b =
    let k : q ≡ n = place_is stop false cmds n r.marks q b (next_some (listed_plan stop cmds) r.marks q e) in
    (let g : p ≡ n = (let h : q ≡ p = cc in sym h ∙ k) in g, subst (λ x. BeganBelow (n + 1) (r.marks ++ Began x ∷ [])) (sym k) (begun_more n r.marks b))

begun_end : (n : ℕ) (r : Run) (id : ℕ) (status : Status) (o : Option ℕ) → BeganBelow n r.marks → BeganBelow n (over_run id status o r).marks
begun_end n r id status None b = b
begun_end n r id status (Some p) b = begun_same n r.marks p status b

prefix_start : (shows : Shows) (cmds : List Planned) (n p : ℕ) (planned : Planned) → p ≡ n → slice_get cmds p ≡ Some planned → take n (asked shows cmds) ++ asked_by shows planned ∷ [] ≡ take (n + 1) (asked shows cmds)
prefix_start shows cmds n p planned e its =
    let f : slice_get cmds n ≡ Some planned = ap (slice_get cmds) (sym e) ∙ its in
    let l : n < length cmds = slice_get_within cmds n planned f in
    let one : take n cmds ++ planned ∷ [] ≡ take (n + 1) cmds = ap (λ c. take n cmds ++ c ∷ []) (sym (get_or_from_slice_get cmds n planned planned f)) ∙ sym (take_more cmds n planned l) in
    ap (λ l. l ++ asked_by shows planned ∷ []) (take-map (asked_by shows) n cmds) ∙ sym (map-append (asked_by shows) (take n cmds) (planned ∷ [])) ∙ ap (map (asked_by shows)) one ∙ sym (take-map (asked_by shows) (n + 1) cmds)

module _ (stop : Bool) (cmds : List Planned) (shows : Shows) (warns counted : Bool) (t : Option ℕ) where
  prefix_still : (n : ℕ) (r' : Run) (e : Event) (es : List Event) → started_of e ≡ [] → Prefixes shows cmds n r'.marks es → Prefixes shows cmds n r'.marks (e ∷ es)
  prefix_still n r' e es z i = record { count = i.count; began = i.began; prefix = ap (λ l. take n (asked shows cmds) ++ (l ++ started es)) z ∙ i.prefix }

  prefix_step : (r r' : Run) (n : ℕ) (e : Event) (es : List Event) → BeganBelow n r.marks → Good (listing stop cmds shows warns counted) t r e → ((m : ℕ) → BeganBelow m (run_after (listed_plan stop cmds) r e).marks → Prefixes shows cmds m r'.marks es) → Prefixes shows cmds n r'.marks (e ∷ es)
  prefix_step r r' n (Started id role cmd pipes held) es b h k =
      let s : (h.place ≡ n) × BeganBelow (n + 1) (run_after (listed_plan stop cmds) r (Started id role cmd pipes held)).marks = begun_start stop cmds n r id (next_place (listed_plan stop cmds) r.marks) h.place refl h.next b in
      let i : Prefixes shows cmds (n + 1) r'.marks es = k (n + 1) s.1 in
      record {
        count = i.count;
        began = i.began;
        prefix = ap (λ a. take n (asked shows cmds) ++ a ∷ started es) (sym h.asks) ∙ sym (append_assoc (take n (asked shows cmds)) (asked_by shows h.planned ∷ []) (started es)) ∙ ap (λ l. l ++ started es) (prefix_start shows cmds n h.place h.planned s.0 h.its) ∙ i.prefix;
      }
  prefix_step r r' n (Ended id status) es b h k = prefix_still n r' (Ended id status) es refl (k n (begun_end n r id status (place_of id r.live) b))
  prefix_step r r' n (Heard id piece) es b h k = prefix_still n r' (Heard id piece) es refl (k n b)
  prefix_step r r' n (Unread id) es b h k = prefix_still n r' (Unread id) es refl (k n b)
  prefix_step r r' n (Turn count) es b h k = prefix_still n r' (Turn count) es refl (k n b)
  prefix_step r r' n (Printed kind bytes) es b h k = prefix_still n r' (Printed kind bytes) es refl (k n b)
  prefix_step r r' n (Said message) es b h k = prefix_still n r' (Said message) es refl (k n b)
  prefix_step r r' n _ es b h k = absurd h

  prefixes : (r : Run) (part : List Event) (n : ℕ) → BeganBelow n r.marks → Along (listing stop cmds shows warns counted) t r part → Prefixes shows cmds n (run_from (listed_plan stop cmds) r part).marks part
  prefixes r [] n b h = record { count = n; began = b; prefix = append-nil (take n (asked shows cmds)) }
  prefixes r (e ∷ es) n b h = prefix_step r (run_from (listed_plan stop cmds) r (e ∷ es)) n e es b h.0 (λ m x. prefixes (run_after (listed_plan stop cmds) r e) es m x h.1)

  -- the started commands of a list are so many, from the first on
  pub list_prefix : (part : List Event) → Along (listing stop cmds shows warns counted) t nothing part → IsPrefix shows cmds (run_from (listed_plan stop cmds) nothing part).marks part
  list_prefix part h =
      let i : Prefixes shows cmds 0 (run_from (listed_plan stop cmds) nothing part).marks part = prefixes nothing part 0 (record { yes = λ p l. absurd (omega arith); no = λ p l. refl }) h in
      record { count = i.count; began = i.began; prefix = i.prefix }

  pub ran_prefix : (old done : State) (w : Works (listing stop cmds shows warns counted) t old done) → old.kept ≡ nothing_kept → IsPrefix shows cmds done.kept.marks w.part
  ran_prefix old done w fresh = subst (λ r. IsPrefix shows cmds r.marks w.part) (fresh_run (listing stop cmds shows warns counted) t old done w fresh) (list_prefix w.part (fresh_good (listing stop cmds shows warns counted) t old done w fresh))

-- ---- a list that stops

-- no command is started after one failed, where the list stops
pub list_stops : (cmds : List Planned) (shows : Shows) (warns counted : Bool) (t : Option ℕ) (before after : List Event) (id : ℕ) (role : Role) (cmd : CommandSeen) (pipes : Pipes) (held : ℕ) → Along (listing true cmds shows warns counted) t nothing (before ++ Started id role cmd pipes held ∷ after) → has_failed (run_from (listed_plan true cmds) nothing before).marks ≡ false
list_stops cmds shows warns counted t before after id role cmd pipes held h =
    let s : Good (listing true cmds shows warns counted) t (run_from (listed_plan true cmds) nothing before) (Started id role cmd pipes held) = along_at (listing true cmds shows warns counted) t nothing before (Started id role cmd pipes held) after h in
    halted_no true cmds (run_from (listed_plan true cmds) nothing before).marks s.place (next_some (listed_plan true cmds) (run_from (listed_plan true cmds) nothing before).marks s.place s.next).holds

-- where it stopped, turns are spent only where a child runs
pub list_spent : (cmds : List Planned) (r : Run) → has_failed r.marks ≡ true → (IsSettled (listed_plan true cmds) r → ⊥) → r.live ≡ [] → ⊥
list_spent cmds r f unsettled e =
    unsettled (e, next_is (listed_plan true cmds) r.marks None (λ q l. may_halted_no (has_begun r.marks q) (true && has_failed r.marks) f))

-- ---- the last failure

-- a failure is never forgotten
kept : (last : Option (ℕ × Status)) (marks : List Mark) → failure_from last marks ≡ None → last ≡ None
kept last [] e = e
kept last (Began p ∷ ms) e = kept last ms e
kept last (Over p status ∷ ms) e = step (is_success status) (kept (if is_success status then last else Some (p, status)) ms e)
  where
    step : (b : Bool) → (if b then last else Some (p, status)) ≡ None → last ≡ None
    step true f = f
    step false f = cc

pub well_of : (last : Option (ℕ × Status)) (marks : List Mark) → failure_from last marks ≡ None → has_failed marks ≡ false
well_of last [] e = refl
well_of last (Began p ∷ ms) e = well_of last ms e
well_of last (Over p status ∷ ms) e = step (is_success status) (kept (if is_success status then last else Some (p, status)) ms e) (well_of (if is_success status then last else Some (p, status)) ms e)
  where
    step : (b : Bool) → (if b then last else Some (p, status)) ≡ None → has_failed ms ≡ false → (not b || has_failed ms) ≡ false
    step true f g = g
    step false f g = absurd (cc)

-- without a failure, what ended ended well
succeeded : (marks : List Mark) (p : ℕ) → has_failed marks ≡ false → has_ended marks p ≡ true → has_succeeded marks p ≡ true
succeeded [] p f e = e
succeeded (Began q ∷ ms) p f e = succeeded ms p f e
succeeded (Over q status ∷ ms) p f e = step (is_success status) (q == p) f e (succeeded ms p)
  where
    step : (s b : Bool) → (not s || has_failed ms) ≡ false → (b || has_ended ms p) ≡ true → (has_failed ms ≡ false → has_ended ms p ≡ true → has_succeeded ms p ≡ true) → ((b && s) || has_succeeded ms p) ≡ true
    step true true f e k = refl
    step true false f e k = k f e
    step false b f e k = absurd (cc)

-- ---- a list that is settled

-- a settled list that didn't stop was started whole
pub all_started : (stop : Bool) (cmds : List Planned) (n : ℕ) (marks : List Mark) → BeganBelow n marks → next_place (listed_plan stop cmds) marks ≡ None → (stop && has_failed marks) ≡ false → length cmds ≤ n
all_started stop cmds n marks b e f = at (length cmds) refl
  where
    none : n < length cmds → ⊥
    none l =
        let y : may (listed_plan stop cmds) marks n ≡ false = next_none (listed_plan stop cmds) marks e n l in
        let z : may (listed_plan stop cmds) marks n ≡ true = may_of (has_begun marks n) (stop && has_failed marks) (b.no n (omega arith)) f in
        cc

    at : (k : ℕ) → length cmds ≡ k → length cmds ≤ n
    at k e = let x : n < length cmds → ⊥ = none in omega arith

stop_false : (stop : Bool) (marks : List Mark) → has_failed marks ≡ false → (stop && has_failed marks) ≡ false
stop_false true marks f = f
stop_false false marks f = refl

-- an answer without a failure is that of a run that went well
pub ok_general : (general : Result (List Mark) RunError) → Ok tt ≡ list_result general → (marks : List Mark) × ((general ≡ Ok marks) × (last_failure marks ≡ None))
ok_general (Ok marks) e = (marks, (refl, at (last_failure marks) e))
  where
    at : (o : Option (ℕ × Status)) → Ok tt ≡ by_failure o → o ≡ None
    at None e = refl
    at (Some f) e = absurd (cc)
ok_general (Err x) e = absurd (cc)

module _ (stop : Bool) (cmds : List Planned) (shows : Shows) (warns counted : Bool) (t : Option ℕ) (old : State) (log : List Event) (patience : Option ℕ) (seat : SeatSeen) (made : TurnsSeen) (fresh : old.kept ≡ nothing_kept) where
  take_whole : (n : ℕ) → length cmds ≤ n → take n (asked shows cmds) ≡ asked shows cmds
  take_whole n l = let k : length (asked shows cmds) ≡ length cmds = length-map cmds (asked_by shows) in grind (arith, common_steps)

  settled_all : (marks : List Mark) (ran : RanAll (listing stop cmds shows warns counted) t old (Ok marks) log patience seat made) → has_failed ran.done.kept.marks ≡ false → IsAllWell shows cmds (run_of ran.done.kept) (since old.log log)
  settled_all marks ran f =
      let p : IsPrefix shows cmds ran.done.kept.marks ran.works.part = ran_prefix stop cmds shows warns counted t old ran.done ran.works fresh in
      let l : length cmds ≤ p.count = all_started stop cmds p.count ran.done.kept.marks p.began ran.ends.0.1 (stop_false stop ran.done.kept.marks f) in
      let x : Followed (listed_plan stop cmds) nothing (run_of ran.done.kept) = ran_follows (listing stop cmds shows warns counted) t old ran.done ran.works fresh in
      record {
        all = ran_started (listing stop cmds shows warns counted) t old (Ok marks) log patience seat made ran ∙ p.prefix ∙ take_whole p.count l;
        well = λ q k. succeeded ran.done.kept.marks q f (all_over (run_of ran.done.kept) x.tracks ran.ends.0.0 q (p.began.yes q (omega arith)));
        idle = ran.ends.0.0;
      }

  -- where the answer is Ok, all were started, in order, each ended with 0, and nothing runs
  pub list_done : (ran : RanList (listing stop cmds shows warns counted) t old (Ok tt) log patience seat made) → IsAllWell shows cmds (run_of ran.ran.done.kept) (since old.log log)
  list_done ran = at ran.general ran.ran (ok_general ran.general ran.answer)
    where
      at : (general : Result (List Mark) RunError) (whole : RanAll (listing stop cmds shows warns counted) t old general log patience seat made) → (marks : List Mark) × ((general ≡ Ok marks) × (last_failure marks ≡ None)) → IsAllWell shows cmds (run_of whole.done.kept) (since old.log log)
      at (Ok ms) whole (marks, k) =
          let same : ms ≡ marks = (let e : Ok ms ≡ Ok marks = k.0 in cc) in
          settled_all ms whole (well_of None whole.done.kept.marks (ap last_failure (sym whole.ends.1 ∙ same) ∙ k.1))
      at (Err e) whole (marks, k) = absurd (let x : Err e ≡ Ok marks = k.0 in cc)

-- where it doesn't stop, all are started and end, whatever failed
module _ (cmds : List Planned) (shows : Shows) (warns counted : Bool) (t : Option ℕ) (old : State) (log : List Event) (patience : Option ℕ) (seat : SeatSeen) (made : TurnsSeen) (fresh : old.kept ≡ nothing_kept) (marks : List Mark) (ran : RanAll (listing false cmds shows warns counted) t old (Ok marks) log patience seat made) where
  all_prefix : (p : IsPrefix shows cmds ran.done.kept.marks ran.works.part) × (length cmds ≤ p.count)
  all_prefix =
      let p : IsPrefix shows cmds ran.done.kept.marks ran.works.part = ran_prefix false cmds shows warns counted t old ran.done ran.works fresh in
      (p, all_started false cmds p.count ran.done.kept.marks p.began ran.ends.0.1 refl)

  pub list_all_ends : (p : ℕ) → p < length cmds → has_ended ran.done.kept.marks p ≡ true
  list_all_ends q k =
      let x : Followed (listed_plan false cmds) nothing (run_of ran.done.kept) = ran_follows (listing false cmds shows warns counted) t old ran.done ran.works fresh in
      let l : length cmds ≤ all_prefix.0.count = all_prefix.1 in
      all_over (run_of ran.done.kept) x.tracks ran.ends.0.0 q (all_prefix.0.began.yes q (omega arith))

  pub list_all_starts : started (since old.log log) ≡ asked shows cmds
  list_all_starts =
      let k : length (asked shows cmds) ≡ length cmds = length-map cmds (asked_by shows) in
      let l : length cmds ≤ all_prefix.0.count = all_prefix.1 in
      let w : take all_prefix.0.count (asked shows cmds) ≡ asked shows cmds = grind (arith, common_steps) in
      ran_started (listing false cmds shows warns counted) t old (Ok marks) log patience seat made ran ∙ all_prefix.0.prefix ∙ w
