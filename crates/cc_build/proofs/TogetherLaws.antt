-- What holds at each start and at each turn of commands that run beside each other.
use Rattle.std.proofs.Common.{◌≡◌, ◌⊎◌, inl, inr, ℕ, ◌+◌, ◌<◌, ◌≤◌, List, [], ◌∷◌, ◌++◌, length, map, take, Bool, true, false, ◌&&◌, ◌||◌, if◌then◌else◌, Option, None, Some, IfSome, Result, Ok, Err, refl, sym, ◌∙◌, ap, subst, arith}
use Rattle.std.specs.List.{list_any}
use Rattle.std.proofs.lemmas.List.{length-map}
use Rattle.std.proofs.lemmas.List.Folds.{list_any-append}
use Rattle.cc_host.specs.Children.{running}
use Rattle.cc_host.specs.Command.{CommandSeen}
use Rattle.cc_host.specs.declared.event.Event.{Event}
use Rattle.cc_host.specs.declared.event.Event.TheVariants.{Started, Turn}
use Rattle.cc_host.specs.declared.event.Pipes.{Pipes}
use Rattle.cc_host.specs.declared.event.Role.{Role}
use Rattle.cc_host.proofs.Parts.{since_append}
use Rattle.cc_run.specs.Book.{IsPrefix}
use Rattle.cc_run.specs.Children.{run_of}
use Rattle.cc_run.specs.Listed.{listed_plan}
use Rattle.cc_run.specs.Marks.{has_failed}
use Rattle.cc_run.specs.Outcome.{IsCause}
use Rattle.cc_run.specs.Part.{Good, Along, Busy, started}
use Rattle.cc_run.specs.Plan.{next_place}
use Rattle.cc_run.specs.Planned.{asked, asked_by}
use Rattle.cc_run.specs.Rules.{Rules}
use Rattle.cc_run.specs.Run.{Run, nothing, run_after, run_from, ids, gone}
use Rattle.cc_run.specs.State.{State}
use Rattle.cc_run.specs.Whole.{EndsBy}
use Rattle.cc_run.specs.declared.error.RunError.{RunError}
use Rattle.cc_run.specs.declared.error.RunError.TheVariants.{ToolNotFound, StartFault, WaitFault, HostFault}
use Rattle.cc_run.specs.declared.mark.Mark.{Mark}
use Rattle.cc_run.specs.declared.planned.Planned.{Planned}
use Rattle.cc_run.proofs.Ends.{same_along, ran_part}
use Rattle.cc_run.proofs.Laws.{along_at, fresh_good}
use Rattle.cc_run.proofs.ListLaws.{listing, list_prefix, list_stops, all_started}
use Rattle.cc_build.specs.Children.{has_failure}
use Rattle.cc_build.specs.Promises.{AtStarts, AtTurns, IsCounted, IsBusy}
use Rattle.cc_build.specs.Went.{Terms, Means, RanAll, beside_rules, begins, idle_seat, turns_at}
use Rattle.cc_build.proofs.RanLaws.{failure_along, take_whole}

-- a start or a turn
abbrev is_move : Event → Bool
is_move (Started id role cmd pipes held) = true
is_move (Turn count) = true
is_move _ = false

none_there : (a b : List Event) (e : Event) → is_move e ≡ true → list_any is_move (a ++ e ∷ b) ≡ false → ⊥
none_there [] b e h k = at (is_move e) h k
  where
    at : (x : Bool) → x ≡ true → (x || list_any is_move b) ≡ false → ⊥
    at true h k = cc
    at false h k = cc
none_there (x ∷ a) b e h k = none_there a b e h (rest (is_move x) k)
  where
    rest : (y : Bool) → (y || list_any is_move (a ++ e ∷ b)) ≡ false → list_any is_move (a ++ e ∷ b) ≡ false
    rest true k = absurd (cc)
    rest false k = k

-- it stands in the first part, where the other has none
inside : (work rest before after : List Event) (e : Event) → list_any is_move rest ≡ false → is_move e ≡ true → work ++ rest ≡ before ++ e ∷ after → (more : List Event) × (work ≡ before ++ e ∷ more)
inside [] rest before after e none h is = absurd (none_there before after e h (ap (list_any is_move) (sym is) ∙ none))
inside (w ∷ work) rest [] after e none h is = let same : w ≡ e = cc in (work, ap (λ x. x ∷ work) same)
inside (w ∷ work) rest (b ∷ before) after e none h is =
    let same : w ≡ b = cc in
    let tail : work ++ rest ≡ before ++ e ∷ after = cc in
    let r = inside work rest before after e none h tail in
    (r.0, ap (λ l. w ∷ l) r.1 ∙ ap (λ x. x ∷ (before ++ e ∷ r.0)) same)

cause_moves : (cmds : List Planned) (e : RunError) (tail : List Event) → IsCause cmds e tail → list_any is_move tail ≡ false
cause_moves cmds (ToolNotFound place) tail (p, k) = ap (list_any is_move) k.1
cause_moves cmds (StartFault place) tail (why, k) = ap (list_any is_move) k
cause_moves cmds WaitFault tail (why, k) = ap (list_any is_move) k
cause_moves cmds (HostFault call why) tail k = ap (list_any is_move) k
cause_moves cmds _ tail k = ap (list_any is_move) k

gone_moves : (cs : List (ℕ × ℕ)) → list_any is_move (gone cs) ≡ false
gone_moves [] = refl
gone_moves (c ∷ cs) = gone_moves cs

either_none : (a b : List Event) → list_any is_move a ≡ false → list_any is_move b ≡ false → list_any is_move (a ++ b) ≡ false
either_none a b h k = list_any-append is_move a b ∙ at (list_any is_move a) h
  where
    at : (x : Bool) → x ≡ false → (x || list_any is_move b) ≡ false
    at true h = absurd (cc)
    at false h = k

along_front : (rules : Rules) (t : Option ℕ) (r : Run) (before after : List Event) → Along rules t r (before ++ after) → Along rules t r before
along_front rules t r [] after h = tt
along_front rules t r (e ∷ before) after h = (h.0, along_front rules t (run_after rules.plan r e) before after h.1)

module _ (t : Terms) (ps : List Planned) (part : List Event) (result : Result (Unit {0}) RunError) (x y : Means) (r : RanAll t ps part result x y) where
  abbrev its : Rules
  its = beside_rules t ps

  abbrev rest : List Event
  rest = r.run.ran.tail ++ gone (run_of r.run.ran.done.kept).live

  cut : part ≡ r.run.ran.works.part ++ rest
  cut = sym (since_append r.log part) ∙ ran_part its t.total (begins t r.log (idle_seat t.total x) (turns_at x r.before)) r.run.general (r.log ++ part) t.patience (idle_seat t.total y) (turns_at y r.behind) r.run.ran

  good : Along its t.total nothing r.run.ran.works.part
  good = fresh_good its t.total (begins t r.log (idle_seat t.total x) (turns_at x r.before)) r.run.ran.done r.run.ran.works refl

  tail_moves : (g : Result (List Mark) RunError) → EndsBy its r.run.ran.done g r.run.ran.tail → list_any is_move r.run.ran.tail ≡ false
  tail_moves (Ok marks) h = ap (list_any is_move) h.2
  tail_moves (Err e) h = cause_moves ps e r.run.ran.tail h.1

  -- a start or a turn comes after good events
  module _ (before after : List Event) (e : Event) (moves : is_move e ≡ true) (is : part ≡ before ++ e ∷ after) where
    placed : (more : List Event) × (r.run.ran.works.part ≡ before ++ e ∷ more)
    placed = inside r.run.ran.works.part rest before after e (either_none r.run.ran.tail (gone (run_of r.run.ran.done.kept).live) (tail_moves r.run.general r.run.ran.ends) (gone_moves (run_of r.run.ran.done.kept).live)) moves (sym cut ∙ is)

    all_good : Along its t.total nothing (before ++ e ∷ placed.0)
    all_good = subst (Along its t.total nothing) placed.1 good

    here : Good its t.total (run_from its.plan nothing before) e
    here = along_at its t.total nothing before e placed.0 all_good

    good_before : Along its t.total nothing before
    good_before = along_front its t.total nothing before (e ∷ placed.0) all_good

    as_many : length (run_from its.plan nothing before).live ≡ length (running before)
    as_many = sym (length-map (run_from its.plan nothing before).live (λ c. c.0)) ∙ ap length (same_along its t.total nothing [] before good_before refl)

    same_failed : has_failure before ≡ has_failed (run_from its.plan nothing before).marks
    same_failed = failure_along its t.total before good_before

    -- where nothing may be started all were, or one failed and that stops the run
    none_left : next_place (listed_plan t.shows.stop ps) (run_from its.plan nothing before).marks ≡ None → (length (started before) ≡ length ps) ⊎ ((t.shows.stop ≡ true) × (has_failure before ≡ true))
    none_left next = at t.shows.stop refl (has_failed (run_from its.plan nothing before).marks) refl
      where
        all : (t.shows.stop && has_failed (run_from its.plan nothing before).marks) ≡ false → length (started before) ≡ length ps
        all going =
            let p : IsPrefix t.shows ps (run_from its.plan nothing before).marks before = list_prefix t.shows.stop ps t.shows true true t.total before good_before in
            ap length (p.prefix ∙ take_whole t.shows ps p.count (all_started t.shows.stop ps p.count (run_from its.plan nothing before).marks p.began next going)) ∙ length-map ps (asked_by t.shows)

        at : (s : Bool) → t.shows.stop ≡ s → (f : Bool) → has_failed (run_from its.plan nothing before).marks ≡ f → (length (started before) ≡ length ps) ⊎ ((t.shows.stop ≡ true) × (has_failure before ≡ true))
        at true a true b = inr (a, same_failed ∙ b)
        at true a false b = inl (all (ap (λ s. s && has_failed (run_from its.plan nothing before).marks) a ∙ b))
        at false a f b = inl (all (ap (λ s. s && has_failed (run_from its.plan nothing before).marks) a))

    busy_so : (o : Option ℕ) → IfSome o (λ n. (0 < length (run_from its.plan nothing before).live) × ((length (run_from its.plan nothing before).live ≡ n) ⊎ (next_place its.plan (run_from its.plan nothing before).marks ≡ None))) → IsBusy o t.shows.stop (length ps) before
    busy_so None h = tt
    busy_so (Some n) h = (subst (λ k. 0 < k) as_many h.0, elim h.1 [ inl k ↦ inl (sym as_many ∙ k) | inr k ↦ inr (none_left k) ])

    counted_so : (o : Option ℕ) (held : ℕ) → held ≡ length (run_from its.plan nothing before).live + 1 → IfSome o (λ n. length (run_from its.plan nothing before).live + 1 ≤ n) → IsCounted o before held
    counted_so o held e h = (e ∙ ap (λ k. k + 1) as_many, subst (λ k. IfSome o (λ n. k ≤ n)) (sym e) h)

  -- each start carries the number of those that run, and has a token
  pub all_counted : AtStarts (IsCounted t.total) part
  all_counted before after id role cmd pipes held is =
      let h : Good its t.total (run_from its.plan nothing before) (Started id role cmd pipes held) = here before after (Started id role cmd pipes held) refl is in
      counted_so before after (Started id role cmd pipes held) refl is t.total held h.carries h.within

  -- at each turn it is busy
  pub all_busy : AtTurns (IsBusy t.total t.shows.stop (length ps)) part
  all_busy before after count is = busy_so before after (Turn count) refl is t.total (here before after (Turn count) refl is)

  -- where a failure stops it none is started behind one
  pub all_stops : t.shows.stop ≡ true → AtStarts (λ before held. has_failure before ≡ false) part
  all_stops stops before after id role cmd pipes held is =
      let e : Event = Started id role cmd pipes held in
      let more : List Event = (placed before after e refl is).0 in
      let h : Along (listing true ps t.shows true true) t.total nothing (before ++ e ∷ more) = subst (λ s. Along (listing s ps t.shows true true) t.total nothing (before ++ e ∷ more)) stops (all_good before after e refl is) in
      same_failed before after e refl is ∙ ap (λ s. has_failed (run_from (listed_plan s ps) nothing before).marks) stops ∙ list_stops ps t.shows true true t.total before more id role cmd pipes held h
