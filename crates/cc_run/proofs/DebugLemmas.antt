-- Laws on the lines for debugging.
use Rattle.std.proofs.Common.{◌≡◌, ℕ, ◌+◌, ◌*◌, ◌<◌, zero, suc, Bool, true, false, List, [], ◌∷◌, ◌++◌, ◌==◌, ◌&&◌, not, length, map, take, drop, refl, sym, ◌∙◌, ap, subst, arith, if◌then◌else◌}
use Rattle.std.specs.Prelude.{Result, Ok, Err, OnOk, Option, Some, filter, option_to_list, codes}
use Rattle.std.specs.List.{flat_map, slice_get}
use Rattle.std.proofs.lemmas.List.{append-nil, length-append}
use Rattle.std.proofs.lemmas.List.Elements.{filter-append}
use Rattle.std.proofs.lemmas.List.Sums.{sum_by-cons}
use Rattle.cc_text.specs.Words.{when}
use Rattle.cc_host.specs.Command.{CommandSeen}
use Rattle.cc_host.specs.CommandLine.{command_line}
use Rattle.cc_host.specs.Part.{since}
use Rattle.cc_host.proofs.Parts.{since_append}
use Rattle.cc_host.specs.Status.{is_success}
use Rattle.cc_host.specs.declared.event.Event.{Event}
use Rattle.cc_host.specs.declared.event.Event.TheVariants.{Started, Ended, Abandoned, Heard, Unread, Turn, Answered, Reused, Unasked, Drawn, Opened, Taken, Dropped, Ran, Missing, Made, Removed, Wrote, Copied, Here, Said, Printed, Listed, Fault}
use Rattle.cc_host.specs.declared.event.LineKind.TheVariants.{Warning}
use Rattle.cc_host.specs.declared.event.Status.{Status}
use Rattle.cc_run.specs.Children.{Kept, run_of, seat, nothing_kept}
use Rattle.cc_run.specs.Debugging.{is_debug, debug_printed, end_line, debug_of, debug_from, DebugsAll, DebugsTimes}
use Rattle.cc_run.specs.Forwarded.{heard_lines, rest_lines, unread_lines, ended_lines}
use Rattle.cc_run.specs.Hearing.{of_child, heard_at, unread_at, end_lines}
use Rattle.cc_run.specs.Lines.{whole_lines, last_line}
use Rattle.cc_run.specs.Outcome.{list_result}
use Rattle.cc_run.specs.Paid.{starts, starts_of}
use Rattle.cc_run.specs.Part.{Good, Along}
use Rattle.cc_run.specs.Plan.{next_place, next_planned}
use Rattle.cc_run.specs.Printing.{kept_from, due, IsPrinted}
use Rattle.cc_run.specs.Rules.{Rules}
use Rattle.cc_run.specs.Run.{Run, nothing, run_after, run_from, joined, without, gone, place_of}
use Rattle.cc_run.specs.Seat.{SeatSeen}
use Rattle.cc_run.specs.State.{State}
use Rattle.cc_run.specs.Texts.{announced, cargo_line, stderr_line, debug_line, ended_text, failed_line, unread_text}
use Rattle.cc_run.specs.Whole.{RanAll}
use Rattle.cc_run.specs.declared.error.RunError.{RunError}
use Rattle.cc_run.specs.declared.mark.Mark.{Mark}
use Rattle.cc_run.specs.declared.planned.Planned.{Planned}
use Rattle.cc_run.specs.declared.planned.Shows.{Shows}
use Rattle.cc_run.specs.declared.planned.Turns.{Turns as TurnsSeen}
use Rattle.cc_run.specs.declared.print.Notice.{Notice}
use Rattle.cc_run.specs.declared.running.Child.{Child}
use Rattle.cc_run.proofs.KeptLemmas.{kept_run}
use Rattle.cc_run.proofs.SiftLemmas.{filter_when, when_none, untold_start, untold_given, untold_unread, untold_ended, AreBelow, along_due}

no_stderr : (id : ℕ) (ts : List (List ℕ)) → filter is_debug (map (stderr_line id) ts) ≡ []
no_stderr id [] = refl
no_stderr id (t ∷ ts) = no_stderr id ts

heard_none : (shows : Shows) (o : Option Planned) (p : List ℕ) (c : Child) → filter is_debug (heard_lines shows o c p) ≡ []
heard_none shows o p c = untold_given is_debug (λ m. refl) shows o c.id (whole_lines (c.rest ++ p)) ∙ filter_when is_debug shows.warnings _ ∙ ap (when shows.warnings) (no_stderr c.id (whole_lines (c.rest ++ p))) ∙ when_none shows.warnings

rest_none : (shows : Shows) (o : Option Planned) (c : Child) → filter is_debug (rest_lines shows o c) ≡ []
rest_none shows o c = untold_given is_debug (λ m. refl) shows o c.id (option_to_list (last_line c.rest)) ∙ filter_when is_debug shows.warnings _ ∙ ap (when shows.warnings) (no_stderr c.id (option_to_list (last_line c.rest))) ∙ when_none shows.warnings

unread_none : (shows : Shows) (o : Option Planned) (c : Child) → filter is_debug (unread_lines shows o c) ≡ []
unread_none shows o c =
    untold_unread is_debug (λ m. refl) shows o c ∙
    filter-append is_debug (rest_lines shows o c) (when shows.warnings (cargo_line Warning unread_text ∷ []))
    ∙ ap (λ l. l ++ filter is_debug (when shows.warnings (cargo_line Warning unread_text ∷ []))) (rest_none shows o c)
    ∙ filter_when is_debug shows.warnings _ ∙ when_none shows.warnings

ended_one : (shows : Shows) (warns : Bool) (q : Planned) (s : Status) (c : Child) → filter is_debug (ended_lines shows warns q s c) ≡ when shows.debug (debug_line (ended_text s) ∷ [])
unfolding failed_line
ended_one shows warns q s c =
    untold_ended is_debug (λ m. refl) shows warns q s c ∙
    filter-append is_debug (rest_lines shows (Some q) c ++ when shows.debug (debug_line (ended_text s) ∷ [])) (when (warns && shows.warnings && not (is_success s)) (failed_line s q.cmd ∷ []))
    ∙ ap (λ l. filter is_debug (rest_lines shows (Some q) c ++ when shows.debug (debug_line (ended_text s) ∷ [])) ++ l) (filter_when is_debug (warns && shows.warnings && not (is_success s)) _ ∙ when_none (warns && shows.warnings && not (is_success s)))
    ∙ append-nil _
    ∙ filter-append is_debug (rest_lines shows (Some q) c) (when shows.debug (debug_line (ended_text s) ∷ []))
    ∙ ap (λ l. l ++ filter is_debug (when shows.debug (debug_line (ended_text s) ∷ []))) (rest_none shows (Some q) c)
    ∙ filter_when is_debug shows.debug _

announced_one : (shows : Shows) (cmd : CommandSeen) → filter is_debug (announced shows cmd) ≡ announced shows cmd
unfolding announced
announced_one shows cmd = filter_when is_debug shows.debug _

none_of : (id : ℕ) (g : Child → List Notice) → ((c : Child) → filter is_debug (g c) ≡ []) → (cs : List Child) → filter is_debug (of_child id g cs) ≡ []
none_of id g h [] = refl
none_of id g h (c ∷ cs) = at (c.id == id) (none_of id g h cs)
  where
    at : (b : Bool) → filter is_debug (of_child id g cs) ≡ [] → filter is_debug (if b then g c else of_child id g cs) ≡ []
    at true k = h c
    at false k = k

-- the end of a command
end_one : (shows : Shows) (warns : Bool) (cmds : List Planned) (s : Status) (c : Child) → c.place < length cmds → filter is_debug (end_lines shows warns cmds s c) ≡ when shows.debug (debug_line (ended_text s) ∷ [])
end_one shows warns cmds s c lt = at cmds c.place lt
  where
    at : (cmds : List Planned) (place : ℕ) → place < length cmds → filter is_debug (flat_map (λ p. ended_lines shows warns p s c) (take 1 (drop place cmds))) ≡ when shows.debug (debug_line (ended_text s) ∷ [])
    at (p ∷ cmds) zero lt = ap (filter is_debug) (append-nil (ended_lines shows warns p s c)) ∙ ended_one shows warns p s c
    at (p ∷ cmds) (suc place) lt = at cmds place (omega arith)
    at [] place lt = absurd (omega arith)

end_of : (shows : Shows) (warns : Bool) (cmds : List Planned) (id : ℕ) (s : Status) (cs : List Child) → AreBelow (length cmds) (map seat cs) → filter is_debug (of_child id (end_lines shows warns cmds s) cs) ≡ end_line shows s (place_of id (map seat cs))
end_of shows warns cmds id s [] h = refl
end_of shows warns cmds id s (c ∷ cs) h = at (c.id == id) (end_of shows warns cmds id s cs h.1)
  where
    at : (b : Bool) → filter is_debug (of_child id (end_lines shows warns cmds s) cs) ≡ end_line shows s (place_of id (map seat cs)) → filter is_debug (if b then end_lines shows warns cmds s c else of_child id (end_lines shows warns cmds s) cs) ≡ end_line shows s (if b then Some c.place else place_of id (map seat cs))
    at true k = end_one shows warns cmds s c h.0
    at false k = k

-- one event
debug_due : (rules : Rules) (k : Kept) (e : Event) → AreBelow (length rules.plan.cmds) (map seat k.children) → filter is_debug (due rules k e) ≡ debug_of rules.shows (run_of k) e
debug_due rules k (Started n role cmd pipes held) h = untold_start is_debug (λ m. refl) rules.shows cmd (next_planned rules.plan k.marks) ∙ announced_one rules.shows cmd
debug_due rules k (Heard n p) h = none_of n (heard_at rules.shows rules.plan.cmds p) (λ c. heard_none rules.shows (slice_get rules.plan.cmds c.place) p c) k.children
debug_due rules k (Unread n) h = none_of n (unread_at rules.shows rules.plan.cmds) (λ c. unread_none rules.shows (slice_get rules.plan.cmds c.place) c) k.children
debug_due rules k (Ended n s) h = end_of rules.shows rules.warns rules.plan.cmds n s k.children h
debug_due rules k (Abandoned n) h = refl
debug_due rules k (Turn n) h = refl
debug_due rules k (Answered q f o) h = refl
debug_due rules k (Reused q v) h = refl
debug_due rules k (Unasked q) h = refl
debug_due rules k (Drawn w) h = refl
debug_due rules k (Opened p b) h = refl
debug_due rules k (Taken p) h = refl
debug_due rules k (Dropped p) h = refl
debug_due rules k (Ran role cmd pipes status out err) h = refl
debug_due rules k (Missing role cmd) h = refl
debug_due rules k (Made scope p) h = refl
debug_due rules k (Removed p how) h = refl
debug_due rules k (Wrote p bytes) h = refl
debug_due rules k (Copied a_file to_file) h = refl
debug_due rules k (Here here) h = refl
debug_due rules k (Said message) h = refl
debug_due rules k (Printed kind b) h = refl
debug_due rules k (Listed vars) h = refl
debug_due rules k (Fault call why) h = refl

-- On Ok the lines for debugging are those of the run's events.
pub ran_debug : {T : Type 0} (rules : Rules) (part : List Event) (result : Result T RunError) → IsPrinted rules nothing_kept result part → DebugsAll rules.plan rules.shows result part
ran_debug rules part (Ok x) q = ap (filter is_debug) q.0 ∙ along_due is_debug (debug_of rules.shows) rules (debug_due rules) nothing_kept part tt
ran_debug rules part (Err e) q = tt

announced_once : (shows : Shows) (cmd : CommandSeen) → shows.debug ≡ true → length (announced shows cmd) ≡ 1
unfolding announced
announced_once shows cmd on = ap (λ b. length (when b (debug_line (codes "running: " ++ command_line cmd) ∷ []))) on

-- one line, and one child less
reported_once : (shows : Shows) (id : ℕ) (s : Status) (cs : List (ℕ × ℕ)) → shows.debug ≡ true → length (end_line shows s (place_of id cs)) + length (without id cs) ≡ length cs
reported_once shows id s [] on = refl
reported_once shows id s (c ∷ cs) on = at (c.0 == id) (reported_once shows id s cs on)
  where
    at : (b : Bool) → length (end_line shows s (place_of id cs)) + length (without id cs) ≡ length cs → length (end_line shows s (if b then Some c.1 else place_of id cs)) + length (if b then cs else c ∷ without id cs) ≡ length (c ∷ cs)
    at true k = let one : length (when shows.debug (debug_line (ended_text s) ∷ [])) ≡ 1 = ap (λ b. length (when b (debug_line (ended_text s) ∷ []))) on in omega arith
    at false k = omega (arith, k)

-- A line for what is started, and one for what ends.
counted : (rules : Rules) (total : Option ℕ) (r : Run) (e : Event) → rules.shows.debug ≡ true → Good rules total r e → length (debug_of rules.shows r e) + length (run_after rules.plan r e).live ≡ 2 * starts_of e + length r.live
counted rules total r (Started n role cmd pipes held) on h =
    let one : length (announced rules.shows cmd) ≡ 1 = announced_once rules.shows cmd on in
    let more : length (joined n (next_place rules.plan r.marks) r.live) ≡ length r.live + 1 = ap (λ o. length (joined n o r.live)) h.next ∙ length-append r.live ((n, h.place) ∷ []) in
    omega (arith, one, more)
counted rules total r (Ended n s) on h = let k : length (end_line rules.shows s (place_of n r.live)) + length (without n r.live) ≡ length r.live = reported_once rules.shows n s r.live on in omega (arith, k)
counted rules total r (Heard n p) on h = omega arith
counted rules total r (Unread n) on h = omega arith
counted rules total r (Turn n) on h = omega arith
counted rules total r (Said message) on h = omega arith
counted rules total r (Printed kind b) on h = omega arith
counted rules total r (Abandoned n) on h = absurd h
counted rules total r (Answered q f o) on h = absurd h
counted rules total r (Reused q v) on h = absurd h
counted rules total r (Unasked q) on h = absurd h
counted rules total r (Drawn w) on h = absurd h
counted rules total r (Opened p b) on h = absurd h
counted rules total r (Taken p) on h = absurd h
counted rules total r (Dropped p) on h = absurd h
counted rules total r (Ran role cmd pipes status out err) on h = absurd h
counted rules total r (Missing role cmd) on h = absurd h
counted rules total r (Made scope p) on h = absurd h
counted rules total r (Removed p how) on h = absurd h
counted rules total r (Wrote p bytes) on h = absurd h
counted rules total r (Copied a_file to_file) on h = absurd h
counted rules total r (Here here) on h = absurd h
counted rules total r (Listed vars) on h = absurd h
counted rules total r (Fault call why) on h = absurd h

counted_from : (rules : Rules) (total : Option ℕ) (r : Run) (es : List Event) → rules.shows.debug ≡ true → Along rules total r es → length (debug_from rules.plan rules.shows r es) + length (run_from rules.plan r es).live ≡ 2 * starts es + length r.live
counted_from rules total r [] on h = omega arith
counted_from rules total r (e ∷ es) on h =
    let r' = run_after rules.plan r e in
    let a : length (debug_of rules.shows r e) + length r'.live ≡ 2 * starts_of e + length r.live = counted rules total r e on h.0 in
    let b : length (debug_from rules.plan rules.shows r' es) + length (run_from rules.plan r' es).live ≡ 2 * starts es + length r'.live = counted_from rules total r' es on h.1 in
    let c : length (debug_from rules.plan rules.shows r (e ∷ es)) ≡ length (debug_of rules.shows r e) + length (debug_from rules.plan rules.shows r' es) = length-append (debug_of rules.shows r e) (debug_from rules.plan rules.shows r' es) in
    let d : starts (e ∷ es) ≡ starts_of e + starts es = sum_by-cons starts_of e es in
    omega (arith, a, b, c, d)

-- Where all commands of a list were started and the answer is Ok, there are two lines for each.
pub ran_twice : (rules : Rules) (total : Option ℕ) (cmds : List Planned) (old : State) (result : Result (Unit {0}) RunError) (general : Result (List Mark) RunError) (log : List Event) (patience : Option ℕ) (seat : SeatSeen) (turns : TurnsSeen) → old.kept ≡ nothing_kept → result ≡ list_result general → (ran : RanAll rules total old general log patience seat turns) → IsPrinted rules nothing_kept result (since old.log log) → OnOk result (starts ran.works.part ≡ length cmds) → DebugsTimes rules.shows result (2 * length cmds) (since old.log log)
ran_twice rules total cmds old (Err e) general log patience seat turns fresh answer ran q all = λ on. tt
ran_twice rules total cmds old (Ok x) (Err e) log patience seat turns fresh answer ran q all = absurd (cc)
ran_twice rules total cmds old (Ok x) (Ok marks) log patience seat turns fresh answer ran q all = λ on.
    let part = ran.works.part in
    let live : (run_of ran.done.kept).live ≡ [] = ran.ends.0.0 in
    let same : log ≡ old.log ++ part = ran.adds ∙ ap (λ t. ran.done.log ++ (t ++ gone (run_of ran.done.kept).live)) ran.ends.2 ∙ ap (λ l. ran.done.log ++ gone l) live ∙ append-nil ran.done.log ∙ ran.works.adds in
    let cut : since old.log log ≡ part = ap (since old.log) same ∙ since_append old.log part in
    let good : Along rules total nothing part = subst (λ k. Along rules total (run_of k) part) fresh ran.works.good in
    let run : run_from rules.plan nothing part ≡ run_of ran.done.kept = sym (kept_run rules.plan nothing_kept part) ∙ ap (λ k. run_of (kept_from rules.plan k part)) (sym fresh) ∙ ap run_of ran.works.keeps in
    let a : length (debug_from rules.plan rules.shows nothing part) + length (run_from rules.plan nothing part).live ≡ 2 * starts part + 0 = counted_from rules total nothing part on good in
    let b : length (run_from rules.plan nothing part).live ≡ 0 = ap (λ r. length r.live) run ∙ ap length live in
    let d : length (debug_printed (since old.log log)) ≡ length (debug_from rules.plan rules.shows nothing part) = ap length (ran_debug rules (since old.log log) (Ok x) q ∙ ap (debug_from rules.plan rules.shows nothing) cut) in
    let e : starts part ≡ length cmds = all in
    omega (arith, a, b, d, e)
