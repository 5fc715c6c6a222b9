-- No child runs behind a run, and its commands are the first of those of its stages.
use Rattle.std.proofs.Common.{◌≡◌, inl, inr, ℕ, zero, suc, ◌+◌, List, [], ◌∷◌, ◌++◌, map, take, drop, Bool, true, false, if◌then◌else◌, Some, Result, Ok, Err, refl, sym, ◌∙◌, ap, ap₂, subst, append_assoc, append-nil}
use Rattle.std.specs.List.{list_all, slice_get}
use Rattle.std.proofs.lemmas.Bool.{and_parts}
use Rattle.std.proofs.lemmas.Grind.{flat_map-append}
use Rattle.std.proofs.lemmas.List.{map-append, take-append-drop}
use Rattle.cc_host.specs.Children.{running}
use Rattle.cc_host.specs.Command.{CommandSeen}
use Rattle.cc_host.specs.Part.{Step, step_of, Refuses}
use Rattle.cc_host.specs.Part.Step.{Runs, Makes, Removes, Writes, Copies, Finds, Says, Prints, Lists}
use Rattle.cc_host.specs.Status.{is_success}
use Rattle.cc_host.specs.declared.event.Event.{Event}
use Rattle.cc_host.specs.declared.event.Event.TheVariants.{Started, Ended, Abandoned, Turn, Ran, Missing, Fault}
use Rattle.cc_host.specs.declared.event.Role.{Role}
use Rattle.cc_run.specs.Own.{is_of_run}
use Rattle.cc_run.specs.Part.{started, missing}
use Rattle.cc_run.specs.Planned.{Asked, asked, asked_by}
use Rattle.cc_run.specs.Run.{gone}
use Rattle.cc_run.specs.declared.error.RunError.{RunError}
use Rattle.cc_run.specs.declared.error.RunError.TheVariants.{ToolNotFound, Failed, StartFault, WaitFault, HostFault, JobFault, TurnsSpent, NoMemory}
use Rattle.cc_run.specs.declared.planned.Planned.{Planned}
use Rattle.cc_run.specs.declared.planned.Shows.{Shows}
use Rattle.cc_tool.specs.Probing.{is_asked}
use Rattle.cc_build.specs.Attempts.{attempt_of, attempts, to_attempt, tried_of, all_tried}
use Rattle.cc_build.specs.Error.{ErrorSeen}
use Rattle.cc_build.specs.Stage.{Stage, commands_of, commands_in, children_of, children_in, in_turn}
use Rattle.cc_build.specs.Stage.Stage.{Calls, Asks, Tries, RunsOne, RunsAll}
use Rattle.cc_build.specs.Went.{Terms, Means, Did, Went, Stops, Partly}
use Rattle.cc_build.proofs.Going.{went_one}
use Rattle.cc_build.proofs.ChildLaws.{AreAside, aside_well, running_behind}
use Rattle.cc_build.proofs.RanLaws.{Said, said_all, said_one}
use Rattle.cc_build.proofs.RunLaws.{went_started, went_well, one_found, all_found}
use Rattle.cc_build.proofs.StopLaws.{IsPlain, ArePlain}
use Rattle.cc_build.proofs.Trying.{done_of, done_attempts, broken_of, broken_sole, broken_first, sole_aside}

-- ---- no child runs

refused_aside : (step : Step) (event : Event) → Refuses step event → AreAside (event ∷ [])
refused_aside (Runs role cmd) (Ran role' cmd' pipes status out err) h = (((λ ls. refl), (λ ls. refl)), tt)
refused_aside (Runs role cmd) (Missing role' cmd') h = (((λ ls. refl), (λ ls. refl)), tt)
refused_aside (Runs role cmd) (Fault call why) h = (((λ ls. refl), (λ ls. refl)), tt)
refused_aside (Makes scope path) (Fault call why) h = (((λ ls. refl), (λ ls. refl)), tt)
refused_aside (Removes path) (Fault call why) h = (((λ ls. refl), (λ ls. refl)), tt)
refused_aside (Writes path bytes) (Fault call why) h = (((λ ls. refl), (λ ls. refl)), tt)
refused_aside (Copies from to) (Fault call why) h = (((λ ls. refl), (λ ls. refl)), tt)
refused_aside (Finds path) (Fault call why) h = (((λ ls. refl), (λ ls. refl)), tt)
refused_aside (Says message) (Fault call why) h = (((λ ls. refl), (λ ls. refl)), tt)
refused_aside (Prints kind bytes) (Fault call why) h = (((λ ls. refl), (λ ls. refl)), tt)
refused_aside Lists (Fault call why) h = (((λ ls. refl), (λ ls. refl)), tt)
refused_aside _ _ h = absurd h

asked_aside : (part : List Event) → list_all is_asked part ≡ true → AreAside part
asked_aside [] h = tt
asked_aside (Started id role cmd pipes held ∷ part) h = absurd (cc)
asked_aside (Ended id status ∷ part) h = absurd (cc)
asked_aside (Abandoned id ∷ part) h = absurd (cc)
asked_aside (Turn count ∷ part) h = absurd (cc)
asked_aside (event ∷ part) h = (((λ ls. refl), (λ ls. refl)), asked_aside part (and_parts (is_asked event) (list_all is_asked part) h).1)

-- no child runs behind a stage that was refused
stop_settled : (t : Terms) (s : Stage) (part : List Event) (e : ErrorSeen) (x y : Means) → Stops t s part e x y → running part ≡ []
stop_settled t (Calls step) part e x y d = ap running d.1.0 ∙ (aside_well (d.0 ∷ []) (refused_aside step d.0 d.1.1)).settled
stop_settled t Asks part e x y d = (aside_well part (asked_aside part d.1)).settled
stop_settled t (Tries refused p) part e x y d = (aside_well part (sole_aside part (broken_sole p part (broken_of t.shows p part d.0 d.1.0 d.1.1)))).settled
stop_settled t (RunsOne p) part e x y d = (said_one t p part (Err d.0) x y d.1.0).idle
stop_settled t (RunsAll ps) part e x y d = (said_all t ps part (Err d.0) x y d.1.0).idle

-- wherever a run ended among its stages, each command that was started has ended or was left alone
pub partly_settled : (t : Terms) (stages : List Stage) (part : List Event) (x z : Means) → Partly t stages part x z → running part ≡ []
partly_settled t [] part x z p = ap running p.0
partly_settled t (s ∷ ss) part x z (inl p) = ap running p.0
partly_settled t (s ∷ ss) part x z (inr (inl stop)) = stop_settled t s part stop.0 x z stop.1
partly_settled t (s ∷ ss) part x z (inr (inr d)) =
    ap running d.3.0 ∙ running_behind d.0 d.1 (went_well t (s ∷ []) d.0 x d.2 (went_one t s d.0 x d.2 d.3.1)).settled ∙ partly_settled t ss d.1 d.2 z d.3.2

-- ---- one attempt for each command

-- a command that was asked for, with its role
abbrev as_attempt : Asked → Role × CommandSeen
as_attempt a = (a.role, a.cmd)

attempts_asked : (shows : Shows) (ps : List Planned) → map as_attempt (asked shows ps) ≡ map to_attempt ps
attempts_asked shows [] = refl
attempts_asked shows (p ∷ ps) = ap (λ l. to_attempt p ∷ l) (attempts_asked shows ps)

gone_attempts : (cs : List (ℕ × ℕ)) → attempts (gone cs) ≡ []
gone_attempts [] = refl
gone_attempts (c ∷ cs) = gone_attempts cs

gone_started : (cs : List (ℕ × ℕ)) → started (gone cs) ≡ []
gone_started [] = refl
gone_started (c ∷ cs) = gone_started cs

-- where no program is missing, the attempts of a run are its starts
calm_attempts : (part more : List Event) → list_all is_of_run (part ++ more) ≡ true → missing part ≡ [] → attempts part ≡ map as_attempt (started part)
calm_attempts [] more own none = refl
calm_attempts (Started id role cmd pipes held ∷ part) more own none = ap (λ l. (role, cmd) ∷ l) (calm_attempts part more own none)
calm_attempts (Missing role cmd ∷ part) more own none = absurd (cc)
calm_attempts (Ran role cmd pipes status out err ∷ part) more own none = absurd (cc)
calm_attempts (event ∷ part) more own none = let k = and_parts (is_of_run event) (list_all is_of_run (part ++ more)) own in calm_attempts part more k.1 none

-- the command at a place comes behind those before it
next_asked : (shows : Shows) (ps : List Planned) (n : ℕ) (p : Planned) → slice_get ps n ≡ Some p → drop n (asked shows ps) ≡ asked_by shows p ∷ drop (suc n) (asked shows ps)
next_asked shows [] n p is = absurd (cc)
next_asked shows (q ∷ ps) zero p is = let same : q ≡ p = cc in ap (λ a. asked_by shows a ∷ asked shows ps) same
next_asked shows (q ∷ ps) (suc n) p is = next_asked shows ps n p is

-- these are the first commands that were asked for
abbrev AreFirst : List (Role × CommandSeen) → List (Role × CommandSeen) → Type 0
AreFirst planned tried = (rest : List (Role × CommandSeen)) × (planned ≡ tried ++ rest)

module _ (shows : Shows) (stop : Bool) (ps : List Planned) (part : List Event) where
  abbrev cmds : List Asked
  cmds = asked shows ps

  -- where no program is missing
  calm_first : (result : Result (Unit {0}) RunError) (s : Said shows stop ps part result) → missing part ≡ [] → AreFirst (map as_attempt cmds) (attempts part)
  calm_first result s none =
      let same : attempts part ≡ map as_attempt (take s.count cmds) = calm_attempts part [] (ap (list_all is_of_run) (append-nil part) ∙ s.own) none ∙ ap (map as_attempt) s.begun in
      (map as_attempt (drop s.count cmds), ap (map as_attempt) (sym (take-append-drop s.count cmds)) ∙ map-append as_attempt (take s.count cmds) (drop s.count cmds) ∙ ap (λ l. l ++ map as_attempt (drop s.count cmds)) (sym same))

  -- the one that is missing comes next
  absent_first : (place : ℕ) (s : Said shows stop ps part (Err (ToolNotFound place))) → AreFirst (map as_attempt cmds) (attempts part)
  absent_first place s =
      let n : ℕ = s.count in
      let p : Planned = s.ends.0.0 in
      let calm : attempts s.work ≡ map as_attempt (take n cmds) = calm_attempts s.work (s.tail ++ gone s.live) (ap (list_all is_of_run) (sym s.cut) ∙ s.own) s.found ∙ ap (map as_attempt) s.begun_work in
      let last : attempts (s.tail ++ gone s.live) ≡ (p.role, p.cmd) ∷ [] = ap (λ l. attempts (l ++ gone s.live)) s.ends.0.1.1 ∙ ap (λ l. (p.role, p.cmd) ∷ l) (gone_attempts s.live) in
      let tried : attempts part ≡ map as_attempt (take n cmds) ++ (p.role, p.cmd) ∷ [] = ap attempts s.cut ∙ flat_map-append attempt_of s.work (s.tail ++ gone s.live) ∙ ap₂ (λ u v. u ++ v) calm last in
      let next : drop n cmds ≡ asked_by shows p ∷ drop (suc n) cmds = next_asked shows ps n p (ap (slice_get ps) (sym s.ends.1) ∙ s.ends.0.1.0) in (
        map as_attempt (drop (suc n) cmds),
        ap (map as_attempt) (sym (take-append-drop n cmds) ∙ ap (λ l. take n cmds ++ l) next)
            ∙ map-append as_attempt (take n cmds) (asked_by shows p ∷ drop (suc n) cmds)
            ∙ sym (append_assoc (map as_attempt (take n cmds)) ((p.role, p.cmd) ∷ []) (map as_attempt (drop (suc n) cmds)))
            ∙ ap (λ l. l ++ map as_attempt (drop (suc n) cmds)) (sym tried),
      )

  run_first : (error : RunError) (s : Said shows stop ps part (Err error)) → AreFirst (map as_attempt cmds) (attempts part)
  run_first (ToolNotFound place) s = absent_first place s
  run_first (Failed place status) s = calm_first (Err (Failed place status)) s s.missing_is
  run_first (StartFault place) s = calm_first (Err (StartFault place)) s s.missing_is
  run_first WaitFault s = calm_first (Err WaitFault) s s.missing_is
  run_first (HostFault call why) s = calm_first (Err (HostFault call why)) s s.missing_is
  run_first JobFault s = calm_first (Err JobFault) s s.missing_is
  run_first TurnsSpent s = calm_first (Err TurnsSpent) s s.missing_is
  run_first NoMemory s = calm_first (Err NoMemory) s s.missing_is

called_none : (step : Step) (event : Event) → IsPlain (Calls step) → step_of event ≡ step ∷ [] → attempt_of event ≡ []
called_none step (Started id role cmd pipes held) plain e = absurd (cc)
called_none step (Missing role cmd) plain e = absurd (cc)
called_none step (Ran role cmd pipes status out err) plain e = by_status (is_success status) e
  where
    by_status : (b : Bool) → (if b then Runs role cmd ∷ [] else []) ≡ step ∷ [] → attempt_of (Ran role cmd pipes status out err) ≡ []
    by_status true is =
        let same : step ≡ Runs role cmd = cc in
        absurd (subst (λ (o : Step). IsPlain (Calls o)) same plain)
    by_status false is = absurd (cc)
called_none step event plain e = refl

uncalled_none : (step : Step) (event : Event) → IsPlain (Calls step) → Refuses step event → attempt_of event ≡ []
uncalled_none (Runs role cmd) event plain r = absurd plain
uncalled_none (Makes scope path) (Fault call why) plain r = refl
uncalled_none (Removes path) (Fault call why) plain r = refl
uncalled_none (Writes path bytes) (Fault call why) plain r = refl
uncalled_none (Copies from to) (Fault call why) plain r = refl
uncalled_none (Finds path) (Fault call why) plain r = refl
uncalled_none (Says message) (Fault call why) plain r = refl
uncalled_none (Prints kind bytes) (Fault call why) plain r = refl
uncalled_none Lists (Fault call why) plain r = refl
uncalled_none _ _ plain r = absurd r

asked_none : (event : Event) → is_asked event ≡ true → attempt_of event ≡ []
asked_none (Started id role cmd pipes held) e = absurd (cc)
asked_none (Missing role cmd) e = absurd (cc)
asked_none (Ran role cmd pipes status out err) e = absurd (cc)
asked_none event e = refl

all_none : (part : List Event) → list_all is_asked part ≡ true → attempts part ≡ []
all_none [] h = refl
all_none (event ∷ part) h =
    let k = and_parts (is_asked event) (list_all is_asked part) h in
    ap (λ l. l ++ attempts part) (asked_none event k.0) ∙ all_none part k.1

module _ (t : Terms) (s : Stage) (part : List Event) (x y : Means) (d : Did t s part x y) where
  -- a run whose commands have all ended with 0
  whole_attempts : list_all is_of_run part ≡ true → missing part ≡ [] → attempts part ≡ map to_attempt (children_of s)
  whole_attempts own found =
      let w = went_one t s part x y d in
      calm_attempts part [] (ap (list_all is_of_run) (append-nil part) ∙ own) found
      ∙ ap (map as_attempt) (went_started t (s ∷ []) part x y w)
      ∙ attempts_asked t.shows (children_in (s ∷ []))
      ∙ ap (map to_attempt) (append-nil (children_of s))

did_attempts : (t : Terms) (s : Stage) (part : List Event) (x y : Means) → IsPlain s → Did t s part x y → attempts part ≡ map to_attempt (commands_of s)
did_attempts t (Calls step) part x y plain d = ap attempts d.1.0 ∙ append-nil (attempt_of d.0) ∙ called_none step d.0 plain d.1.1
did_attempts t Asks part x y plain d = all_none part d.0
did_attempts t (Tries refused p) part x y plain d = done_attempts p refused part (done_of t p part refused d.0)
did_attempts t (RunsOne p) part x y plain d = whole_attempts t (RunsOne p) part x y d (said_one t p part (Ok tt) x y d).own (one_found t p part x y d)
did_attempts t (RunsAll ps) part x y plain d = whole_attempts t (RunsAll ps) part x y d (said_all t ps part (Ok tt) x y d).own (all_found t ps part x y d)

-- each command of stages that were done was tried once, and no other
pub went_attempts : (t : Terms) (stages : List Stage) (part : List Event) (x y : Means) → ArePlain stages → Went t stages part x y → attempts part ≡ map to_attempt (commands_in stages)
went_attempts t [] part x y plain w = ap attempts w.0
went_attempts t (s ∷ ss) part x y plain w =
    ap attempts w.3.0
    ∙ flat_map-append attempt_of w.0 w.1
    ∙ ap (λ l. l ++ attempts w.1) (did_attempts t s w.0 x w.2 plain.0 w.3.1)
    ∙ ap (λ l. map to_attempt (commands_of s) ++ l) (went_attempts t ss w.1 w.2 y plain.1 w.3.2)
    ∙ sym (map-append to_attempt (commands_of s) (commands_in ss))

calm_tried : (part : List Event) → list_all is_of_run part ≡ true → missing part ≡ [] → all_tried part ≡ []
calm_tried [] own none = refl
calm_tried (Missing role cmd ∷ part) own none = absurd (cc)
calm_tried (Ran role cmd pipes status out err ∷ part) own none = absurd (cc)
calm_tried (event ∷ part) own none = let k = and_parts (is_of_run event) (list_all is_of_run part) own in calm_tried part k.1 none

-- commands that were started as children and have all ended with 0 were not run in one call
pub in_turn_tried : (t : Terms) (ps : List Planned) (part : List Event) (x y : Means) → Went t (in_turn ps) part x y → all_tried part ≡ []
in_turn_tried t [] part x y w = ap all_tried w.0
in_turn_tried t (p ∷ ps) part x y w =
    ap all_tried w.3.0
    ∙ flat_map-append tried_of w.0 w.1
    ∙ ap (λ l. l ++ all_tried w.1) (calm_tried w.0 (said_one t p w.0 (Ok tt) x w.2 w.3.1).own (one_found t p w.0 x w.2 w.3.1))
    ∙ in_turn_tried t ps w.1 w.2 y w.3.2

stop_first : (t : Terms) (s : Stage) (part : List Event) (e : ErrorSeen) (x y : Means) → IsPlain s → Stops t s part e x y → AreFirst (map to_attempt (commands_of s)) (attempts part)
stop_first t (Calls step) part e x y plain d = ([], ap (λ l. l ++ []) (sym (ap attempts d.1.0 ∙ append-nil (attempt_of d.0) ∙ uncalled_none step d.0 plain d.1.1)))
stop_first t Asks part e x y plain d = ([], ap (λ l. l ++ []) (sym (all_none part d.1)))
stop_first t (Tries refused p) part e x y plain d = broken_first p part (broken_of t.shows p part d.0 d.1.0 d.1.1)
stop_first t (RunsOne p) part e x y plain d =
    let r = run_first t.shows false (p ∷ []) part d.0 (said_one t p part (Err d.0) x y d.1.0) in
    (r.0, sym (attempts_asked t.shows (p ∷ [])) ∙ r.1)
stop_first t (RunsAll ps) part e x y plain d =
    let r = run_first t.shows t.shows.stop ps part d.0 (said_all t ps part (Err d.0) x y d.1.0) in
    (r.0, sym (attempts_asked t.shows ps) ∙ r.1)

-- nothing was tried
none_first : (planned : List (Role × CommandSeen)) (part : List Event) → part ≡ [] → AreFirst planned (attempts part)
none_first planned part none = (planned, ap (λ l. attempts l ++ planned) (sym none))

-- wherever a run ended among its stages, its commands are the first of theirs, with one attempt for each
pub partly_first : (t : Terms) (stages : List Stage) (part : List Event) (x z : Means) → ArePlain stages → Partly t stages part x z → (rest : List (Role × CommandSeen)) × (map to_attempt (commands_in stages) ≡ attempts part ++ rest)
partly_first t [] part x z plain p = none_first [] part p.0
partly_first t (s ∷ ss) part x z plain (inl p) = none_first (map to_attempt (commands_in (s ∷ ss))) part p.0
partly_first t (s ∷ ss) part x z plain (inr (inl stop)) =
    let r = stop_first t s part stop.0 x z plain.0 stop.1 in
    let more = map to_attempt (commands_in ss) in
    (r.0 ++ more, map-append to_attempt (commands_of s) (commands_in ss) ∙ ap (λ l. l ++ more) r.1 ∙ append_assoc (attempts part) r.0 more)
partly_first t (s ∷ ss) part x z plain (inr (inr d)) =
    let r = partly_first t ss d.1 d.2 z plain.1 d.3.2 in (
      r.0,
      map-append to_attempt (commands_of s) (commands_in ss)
          ∙ ap (λ l. l ++ map to_attempt (commands_in ss)) (sym (did_attempts t s d.0 x d.2 plain.0 d.3.1))
          ∙ ap (λ l. attempts d.0 ++ l) r.1
          ∙ sym (append_assoc (attempts d.0) (attempts d.1) r.0)
          ∙ ap (λ l. l ++ r.0) (sym (ap attempts d.3.0 ∙ flat_map-append attempt_of d.0 d.1)),
    )
