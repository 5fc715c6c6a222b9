-- Laws on the events of a run: what it prints and says are lines and messages of a run.
use Rattle.std.proofs.Common.{◌≡◌, ℕ, zero, suc, List, [], ◌∷◌, ◌++◌, ◌==◌, take, drop, map, refl, ◌∙◌, Bool, true, false, if◌then◌else◌}
use Rattle.std.specs.Prelude.{Option, None, Some, option_to_list, not, ◌&&◌}
use Rattle.std.specs.List.{list_all, flat_map, slice_get}
use Rattle.std.proofs.lemmas.Bool.{and_from, and_parts}
use Rattle.std.proofs.lemmas.List.Folds.{list_all-append}
use Rattle.cc_text.specs.Words.{when}
use Rattle.cc_host.specs.Command.{CommandSeen}
use Rattle.cc_host.specs.CommandLine.{command_line}
use Rattle.cc_host.specs.Status.{is_success}
use Rattle.cc_host.specs.declared.event.Event.{Event}
use Rattle.cc_host.specs.declared.event.Event.TheVariants.{Ended, Heard, Unread}
use Rattle.cc_host.specs.declared.event.LineKind.{LineKind}
use Rattle.cc_host.specs.declared.event.LineKind.TheVariants.{Stderr, Warning}
use Rattle.cc_host.specs.declared.event.Message.{Message}
use Rattle.cc_host.specs.declared.event.Message.TheVariants.{Compiles}
use Rattle.cc_host.specs.declared.event.Status.{Status}
use Rattle.cc_run.specs.Forwarded.{given_lines, rest_lines, unread_lines, ended_lines}
use Rattle.cc_run.specs.Hearing.{of_child, children_after, heard_at, unread_at, end_lines, owed, owed_from}
use Rattle.cc_run.specs.Messages.{before, compiles, forwarding, told_lines, failed_told, unread_told}
use Rattle.cc_run.specs.Lines.{whole_lines, last_line}
use Rattle.cc_run.specs.Own.{is_run_line, is_run_notice, is_of_run, AreRunLines}
use Rattle.cc_run.specs.Run.{gone}
use Rattle.cc_run.specs.Prints.{prints}
use Rattle.cc_run.specs.Texts.{cargo_line, stderr_line, debug_line, ended_text, announced, failed_line, unread_text}
use Rattle.cc_run.specs.declared.planned.Planned.{Planned}
use Rattle.cc_run.specs.declared.planned.Shows.{Shows}
use Rattle.cc_run.specs.declared.print.Notice.{Notice}
use Rattle.cc_run.specs.declared.print.Notice.TheVariants.{Shown, Told}
use Rattle.cc_run.specs.declared.running.Child.{Child}

-- ---- parts

pub own_both : (a b : List Event) → list_all is_of_run a ≡ true → list_all is_of_run b ≡ true → list_all is_of_run (a ++ b) ≡ true
own_both a b p q = list_all-append is_of_run a b ∙ and_from _ _ p q

pub own_gone : (cs : List (ℕ × ℕ)) → list_all is_of_run (gone cs) ≡ true
own_gone [] = refl
own_gone (c ∷ cs) = own_gone cs

-- ---- lines

pub lines_both : (a b : List Notice) → AreRunLines a → AreRunLines b → AreRunLines (a ++ b)
lines_both a b p q = list_all-append is_run_notice a b ∙ and_from _ _ p q

lines_when : (wanted : Bool) (ls : List Notice) → AreRunLines ls → AreRunLines (when wanted ls)
lines_when true ls h = h
lines_when false ls h = refl

-- the first of such lines
pub lines_take : (n : ℕ) (ls : List Notice) → AreRunLines ls → AreRunLines (take n ls)
lines_take zero ls h = refl
lines_take (suc n) [] h = refl
lines_take (suc n) (l ∷ ls) h = let k = and_parts (is_run_notice l) (list_all is_run_notice ls) h in and_from _ _ k.0 (lines_take n ls k.1)

lines_cargo : (kind : LineKind) → is_run_line kind ≡ true → (texts : List (List ℕ)) → AreRunLines (map (cargo_line kind) texts)
lines_cargo kind h [] = refl
lines_cargo kind h (t ∷ ts) = and_from _ _ h (lines_cargo kind h ts)

lines_told : {X : Type 0} (f : X → Message) (xs : List X) → AreRunLines (map (λ x. Told (f x)) xs)
lines_told f [] = refl
lines_told f (x ∷ xs) = lines_told f xs

-- such lines, printed
pub own_prints : (ls : List Notice) → AreRunLines ls → list_all is_of_run (prints ls) ≡ true
own_prints [] h = refl
own_prints (Shown kind bytes ∷ ls) h = let k = and_parts (is_run_line kind) (list_all is_run_notice ls) h in and_from _ _ k.0 (own_prints ls k.1)
own_prints (Told message ∷ ls) h = own_prints ls h

-- ---- a start

lines_announced : (shows : Shows) (cmd : CommandSeen) → AreRunLines (announced shows cmd)
unfolding announced
lines_announced shows cmd = lines_when shows.debug _ refl

lines_compiles : (shows : Shows) (p : Planned) → AreRunLines (compiles shows p)
unfolding compiles
lines_compiles shows p = lines_when shows.listens _ (lines_told (λ c. Compiles (command_line p.cmd) c) (option_to_list p.message))

-- what comes before a command
pub before_own : (shows : Shows) (p : Planned) → list_all is_run_notice (before shows p) ≡ true
before_own shows p = lines_both (announced shows p.cmd) (compiles shows p) (lines_announced shows p.cmd) (lines_compiles shows p)

-- ---- what is heard

lines_forwarded : (shows : Shows) (o : Option Planned) (ls : List (List ℕ)) → AreRunLines (told_lines shows o ls)
lines_forwarded shows None ls = refl
lines_forwarded shows (Some p) ls = lines_when shows.listens _ (lines_told (forwarding p.cmd) ls)

lines_given : (shows : Shows) (o : Option Planned) (id : ℕ) (ls : List (List ℕ)) → AreRunLines (given_lines shows o id ls)
lines_given shows o id ls = lines_both (when shows.warnings (map (stderr_line id) ls)) (told_lines shows o ls) (lines_when shows.warnings _ (lines_cargo (Stderr id) refl ls)) (lines_forwarded shows o ls)

lines_unread : (shows : Shows) (o : Option Planned) (c : Child) → AreRunLines (unread_lines shows o c)
lines_unread shows o c =
    let rest = rest_lines shows o c in
    let warned : List Notice = when shows.warnings (cargo_line Warning unread_text ∷ []) in
    lines_both (rest ++ warned) (unread_told shows) (lines_both rest warned (lines_given shows o c.id (option_to_list (last_line c.rest))) (lines_when shows.warnings _ refl)) (lines_when shows.listens _ refl)

-- the end of a child
lines_ended : (shows : Shows) (warns : Bool) (p : Planned) (status : Status) (c : Child) → AreRunLines (ended_lines shows warns p status c)
unfolding failed_line
lines_ended shows warns p status c =
    let rest = rest_lines shows (Some p) c in
    let debug : List Notice = when shows.debug (debug_line (ended_text status) ∷ []) in
    let failed : List Notice = when (warns && shows.warnings && not (is_success status)) (failed_line status p.cmd ∷ []) in
    lines_both ((rest ++ debug) ++ failed) (failed_told shows status p.cmd)
    (lines_both (rest ++ debug) failed (lines_both rest debug (lines_given shows (Some p) c.id (option_to_list (last_line c.rest))) (lines_when shows.debug _ refl)) (lines_when (warns && shows.warnings && not (is_success status)) (failed_line status p.cmd ∷ []) refl))
    (lines_when (shows.listens && not (is_success status)) _ refl)

lines_of : (id : ℕ) (f : Child → List Notice) → ((c : Child) → AreRunLines (f c)) → (cs : List Child) → AreRunLines (of_child id f cs)
lines_of id f h [] = refl
lines_of id f h (c ∷ cs) = at (c.id == id) (lines_of id f h cs)
  where
    at : (b : Bool) → AreRunLines (of_child id f cs) → AreRunLines (if b then f c else of_child id f cs)
    at true k = h c
    at false k = k

lines_flat : {X : Type 0} (f : X → List Notice) → ((x : X) → AreRunLines (f x)) → (xs : List X) → AreRunLines (flat_map f xs)
lines_flat f h [] = refl
lines_flat f h (x ∷ xs) = lines_both (f x) (flat_map f xs) (h x) (lines_flat f h xs)

lines_owed_by : (shows : Shows) (warns : Bool) (cmds : List Planned) (cs : List Child) (e : Event) → AreRunLines (owed shows warns cmds cs e)
lines_owed_by shows warns cmds cs (Heard id piece) = lines_of id (heard_at shows cmds piece) (λ c. lines_given shows (slice_get cmds c.place) c.id (whole_lines (c.rest ++ piece))) cs
lines_owed_by shows warns cmds cs (Unread id) = lines_of id (unread_at shows cmds) (λ c. lines_unread shows (slice_get cmds c.place) c) cs
lines_owed_by shows warns cmds cs (Ended id status) = lines_of id (end_lines shows warns cmds status) (λ c. lines_flat (λ p. ended_lines shows warns p status c) (λ p. lines_ended shows warns p status c) (take 1 (drop c.place cmds))) cs
lines_owed_by shows warns cmds cs _ = refl

-- what events give
pub owed_own : (shows : Shows) (warns : Bool) (cmds : List Planned) (cs : List Child) (es : List Event) → list_all is_run_notice (owed_from shows warns cmds cs es) ≡ true
owed_own shows warns cmds cs [] = refl
owed_own shows warns cmds cs (e ∷ es) = lines_both (owed shows warns cmds cs e) (owed_from shows warns cmds (children_after cs e) es) (lines_owed_by shows warns cmds cs e) (owed_own shows warns cmds (children_after cs e) es)
