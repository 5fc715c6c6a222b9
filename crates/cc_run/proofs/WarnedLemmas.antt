-- Laws on the warnings of a run.
use Rattle.std.proofs.Common.{◌≡◌, ℕ, Bool, true, false, List, [], ◌∷◌, ◌++◌, ◌==◌, ◌&&◌, not, length, map, take, drop, refl, ◌∙◌, ap, if◌then◌else◌}
use Rattle.std.specs.Prelude.{Result, Option, Some, filter, option_to_list}
use Rattle.std.specs.List.{flat_map, slice_get}
use Rattle.std.proofs.lemmas.List.Elements.{filter-append}
use Rattle.cc_text.specs.Words.{when}
use Rattle.cc_host.specs.Command.{CommandSeen}
use Rattle.cc_host.specs.Status.{is_success}
use Rattle.cc_host.specs.declared.event.Event.{Event}
use Rattle.cc_host.specs.declared.event.Event.TheVariants.{Started, Ended, Abandoned, Heard, Unread, Turn, Answered, Reused, Unasked, Drawn, Opened, Taken, Dropped, Ran, Missing, Made, Removed, Wrote, Copied, Here, Said, Printed, Listed, Fault}
use Rattle.cc_host.specs.declared.event.LineKind.TheVariants.{Warning}
use Rattle.cc_host.specs.declared.event.Status.{Status}
use Rattle.cc_run.specs.Children.{Kept, run_of, seat, nothing_kept}
use Rattle.cc_run.specs.Forwarded.{heard_lines, rest_lines, unread_lines, ended_lines}
use Rattle.cc_run.specs.Hearing.{of_child, heard_at, unread_at, end_lines}
use Rattle.cc_run.specs.Lines.{whole_lines, last_line}
use Rattle.cc_run.specs.Plan.{next_planned}
use Rattle.cc_run.specs.Printing.{due, due_from, IsPrinted}
use Rattle.cc_run.specs.Rules.{Rules}
use Rattle.cc_run.specs.Run.{nothing, place_of}
use Rattle.cc_run.specs.Texts.{announced, cargo_line, stderr_line, debug_line, ended_text, failed_line, unread_text}
use Rattle.cc_run.specs.Warned.{is_warning, unread_warned, failed_of, failed_warned, warning_of, warnings_from, WarnsAll}
use Rattle.cc_run.specs.declared.error.RunError.{RunError}
use Rattle.cc_run.specs.declared.planned.Planned.{Planned}
use Rattle.cc_run.specs.declared.planned.Shows.{Shows}
use Rattle.cc_run.specs.declared.print.Notice.{Notice}
use Rattle.cc_run.specs.declared.running.Child.{Child}
use Rattle.cc_run.proofs.SiftLemmas.{filter_when, when_none, untold_start, untold_given, untold_unread, untold_ended, AreBelow, along_due, sifted}

no_stderr : (id : ℕ) (ts : List (List ℕ)) → filter is_warning (map (stderr_line id) ts) ≡ []
no_stderr id [] = refl
no_stderr id (t ∷ ts) = no_stderr id ts

heard_none : (shows : Shows) (o : Option Planned) (p : List ℕ) (c : Child) → filter is_warning (heard_lines shows o c p) ≡ []
heard_none shows o p c = untold_given is_warning (λ m. refl) shows o c.id (whole_lines (c.rest ++ p)) ∙ filter_when is_warning shows.warnings _ ∙ ap (when shows.warnings) (no_stderr c.id (whole_lines (c.rest ++ p))) ∙ when_none shows.warnings

rest_none : (shows : Shows) (o : Option Planned) (c : Child) → filter is_warning (rest_lines shows o c) ≡ []
rest_none shows o c = untold_given is_warning (λ m. refl) shows o c.id (option_to_list (last_line c.rest)) ∙ filter_when is_warning shows.warnings _ ∙ ap (when shows.warnings) (no_stderr c.id (option_to_list (last_line c.rest))) ∙ when_none shows.warnings

unread_one : (shows : Shows) (o : Option Planned) (c : Child) → filter is_warning (unread_lines shows o c) ≡ when shows.warnings (cargo_line Warning unread_text ∷ [])
unread_one shows o c =
    untold_unread is_warning (λ m. refl) shows o c ∙
    filter-append is_warning (rest_lines shows o c) (when shows.warnings (cargo_line Warning unread_text ∷ []))
    ∙ ap (λ l. l ++ filter is_warning (when shows.warnings (cargo_line Warning unread_text ∷ []))) (rest_none shows o c)
    ∙ filter_when is_warning shows.warnings _

ended_one : (shows : Shows) (warns : Bool) (q : Planned) (s : Status) (c : Child) → filter is_warning (ended_lines shows warns q s c) ≡ when (warns && shows.warnings && not (is_success s)) (failed_line s q.cmd ∷ [])
unfolding failed_line
ended_one shows warns q s c =
    untold_ended is_warning (λ m. refl) shows warns q s c ∙
    filter-append is_warning (rest_lines shows (Some q) c ++ when shows.debug (debug_line (ended_text s) ∷ [])) (when (warns && shows.warnings && not (is_success s)) (failed_line s q.cmd ∷ []))
    ∙ ap (λ l. l ++ filter is_warning (when (warns && shows.warnings && not (is_success s)) (failed_line s q.cmd ∷ [])))
    (filter-append is_warning (rest_lines shows (Some q) c) (when shows.debug (debug_line (ended_text s) ∷ []))
    ∙ ap (λ l. l ++ filter is_warning (when shows.debug (debug_line (ended_text s) ∷ []))) (rest_none shows (Some q) c)
    ∙ filter_when is_warning shows.debug _ ∙ when_none shows.debug)
    ∙ filter_when is_warning (warns && shows.warnings && not (is_success s)) _

announced_none : (shows : Shows) (cmd : CommandSeen) → filter is_warning (announced shows cmd) ≡ []
unfolding announced
announced_none shows cmd = filter_when is_warning shows.debug _ ∙ when_none shows.debug

heard_of : (id : ℕ) (g : Child → List Notice) → ((c : Child) → filter is_warning (g c) ≡ []) → (cs : List Child) → filter is_warning (of_child id g cs) ≡ []
heard_of id g h [] = refl
heard_of id g h (c ∷ cs) = at (c.id == id) (heard_of id g h cs)
  where
    at : (b : Bool) → filter is_warning (of_child id g cs) ≡ [] → filter is_warning (if b then g c else of_child id g cs) ≡ []
    at true k = h c
    at false k = k

unread_of : (shows : Shows) (cmds : List Planned) (id : ℕ) (cs : List Child) → filter is_warning (of_child id (unread_at shows cmds) cs) ≡ unread_warned shows (place_of id (map seat cs))
unread_of shows cmds id [] = refl
unread_of shows cmds id (c ∷ cs) = at (c.id == id) (unread_of shows cmds id cs)
  where
    at : (b : Bool) → filter is_warning (of_child id (unread_at shows cmds) cs) ≡ unread_warned shows (place_of id (map seat cs)) → filter is_warning (if b then unread_at shows cmds c else of_child id (unread_at shows cmds) cs) ≡ unread_warned shows (if b then Some c.place else place_of id (map seat cs))
    at true k = unread_one shows (slice_get cmds c.place) c
    at false k = k

end_one : (shows : Shows) (warns : Bool) (s : Status) (c : Child) (ps : List Planned) → filter is_warning (flat_map (λ p. ended_lines shows warns p s c) ps) ≡ flat_map (failed_of shows warns s) ps
end_one shows warns s c [] = refl
end_one shows warns s c (p ∷ ps) =
    filter-append is_warning (ended_lines shows warns p s c) (flat_map (λ q. ended_lines shows warns q s c) ps)
    ∙ ap (λ l. l ++ filter is_warning (flat_map (λ q. ended_lines shows warns q s c) ps)) (ended_one shows warns p s c)
    ∙ ap (λ l. failed_of shows warns s p ++ l) (end_one shows warns s c ps)

end_of : (shows : Shows) (warns : Bool) (cmds : List Planned) (id : ℕ) (s : Status) (cs : List Child) → filter is_warning (of_child id (end_lines shows warns cmds s) cs) ≡ failed_warned shows warns cmds s (place_of id (map seat cs))
end_of shows warns cmds id s [] = refl
end_of shows warns cmds id s (c ∷ cs) = at (c.id == id) (end_of shows warns cmds id s cs)
  where
    at : (b : Bool) → filter is_warning (of_child id (end_lines shows warns cmds s) cs) ≡ failed_warned shows warns cmds s (place_of id (map seat cs)) → filter is_warning (if b then end_lines shows warns cmds s c else of_child id (end_lines shows warns cmds s) cs) ≡ failed_warned shows warns cmds s (if b then Some c.place else place_of id (map seat cs))
    at true k = end_one shows warns s c (take 1 (drop c.place cmds))
    at false k = k

-- one event
warned_due : (rules : Rules) (k : Kept) (e : Event) → AreBelow (length rules.plan.cmds) (map seat k.children) → filter is_warning (due rules k e) ≡ warning_of rules.shows rules.warns rules.plan.cmds (run_of k) e
warned_due rules k (Started n role cmd pipes held) h = untold_start is_warning (λ m. refl) rules.shows cmd (next_planned rules.plan k.marks) ∙ announced_none rules.shows cmd
warned_due rules k (Heard n p) h = heard_of n (heard_at rules.shows rules.plan.cmds p) (λ c. heard_none rules.shows (slice_get rules.plan.cmds c.place) p c) k.children
warned_due rules k (Unread n) h = unread_of rules.shows rules.plan.cmds n k.children
warned_due rules k (Ended n s) h = end_of rules.shows rules.warns rules.plan.cmds n s k.children
warned_due rules k (Abandoned n) h = refl
warned_due rules k (Turn n) h = refl
warned_due rules k (Answered q f o) h = refl
warned_due rules k (Reused q v) h = refl
warned_due rules k (Unasked q) h = refl
warned_due rules k (Drawn w) h = refl
warned_due rules k (Opened p b) h = refl
warned_due rules k (Taken p) h = refl
warned_due rules k (Dropped p) h = refl
warned_due rules k (Ran role cmd pipes status out err) h = refl
warned_due rules k (Missing role cmd) h = refl
warned_due rules k (Made scope p) h = refl
warned_due rules k (Removed p how) h = refl
warned_due rules k (Wrote p bytes) h = refl
warned_due rules k (Copied a_file to_file) h = refl
warned_due rules k (Here here) h = refl
warned_due rules k (Said message) h = refl
warned_due rules k (Printed kind b) h = refl
warned_due rules k (Listed vars) h = refl
warned_due rules k (Fault call why) h = refl

-- Those of a run's events were printed, and no others.
pub ran_warnings : {T : Type 0} (rules : Rules) (part : List Event) (result : Result T RunError) → IsPrinted rules nothing_kept result part → WarnsAll rules result part
ran_warnings rules part result q =
    let all : filter is_warning (due_from rules nothing_kept part) ≡ warnings_from rules nothing part = along_due is_warning (warning_of rules.shows rules.warns rules.plan.cmds) rules (warned_due rules) nothing_kept part tt in
    sifted is_warning rules nothing_kept part (warnings_from rules nothing part) (λ m. refl) (announced_none rules.shows) all result q.0
