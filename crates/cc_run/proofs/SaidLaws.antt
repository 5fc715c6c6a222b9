-- Laws on the messages of a run.
use Rattle.std.proofs.Common.{◌≡◌, ℕ, zero, suc, Bool, true, false, List, [], ◌∷◌, ◌++◌, ◌==◌, map, take, drop, refl, sym, ◌∙◌, ap, if◌then◌else◌}
use Rattle.std.specs.Prelude.{Result, Ok, Err, Option, None, Some, ◌&&◌, not, option_to_list}
use Rattle.std.specs.List.{flat_map, slice_get}
use Rattle.std.proofs.lemmas.Grind.{flat_map-append}
use Rattle.cc_text.specs.Words.{when}
use Rattle.cc_host.specs.Command.{CommandSeen}
use Rattle.cc_host.specs.Status.{is_success}
use Rattle.cc_host.specs.declared.event.Event.{Event}
use Rattle.cc_host.specs.declared.event.Event.TheVariants.{Started, Ended, Abandoned, Heard, Unread, Turn, Answered, Reused, Unasked, Drawn, Opened, Taken, Dropped, Ran, Missing, Made, Removed, Wrote, Copied, Here, Said, Printed, Listed, Fault}
use Rattle.cc_host.specs.declared.event.LineKind.{LineKind}
use Rattle.cc_host.specs.declared.event.LineKind.TheVariants.{Warning}
use Rattle.cc_host.specs.declared.event.Message.TheVariants.{GeneralWarning}
use Rattle.cc_host.specs.declared.event.Status.{Status}
use Rattle.cc_run.specs.Children.{Kept}
use Rattle.cc_run.specs.Forwarded.{given_lines, unread_lines, ended_lines, rest_lines}
use Rattle.cc_run.specs.Hearing.{of_child, heard_at, unread_at, end_lines}
use Rattle.cc_run.specs.Lines.{whole_lines, last_line}
use Rattle.cc_run.specs.Messages.{before, compiles, told_lines, failed_told, unread_told}
use Rattle.cc_run.specs.Plan.{next_planned}
use Rattle.cc_run.specs.Printing.{printed, printed_of, kept_after, kept_from, due, due_from, due_next, next_lines, IsPrinted, PrintsAll}
use Rattle.cc_run.specs.Rules.{Rules}
use Rattle.cc_run.specs.Said.{said, said_of, told, told_of, SaysNone}
use Rattle.cc_run.specs.Texts.{announced, cargo_line, stderr_line, debug_line, ended_text, failed_line, unread_text}
use Rattle.cc_run.specs.declared.error.RunError.{RunError}
use Rattle.cc_run.specs.declared.error.RunError.TheVariants.{ToolNotFound, Failed, StartFault, WaitFault, HostFault, JobFault, TurnsSpent, NoMemory}
use Rattle.cc_run.specs.declared.planned.Planned.{Planned}
use Rattle.cc_run.specs.declared.planned.Shows.{Shows}
use Rattle.cc_run.specs.declared.print.Notice.{Notice}
use Rattle.cc_run.specs.declared.print.Notice.TheVariants.{Told}
use Rattle.cc_run.specs.declared.running.Child.{Child}

-- the messages of a part are those among what it printed and said
one_told : (e : Event) → told (printed_of e) ≡ said_of e
one_told (Started id role cmd pipes held) = refl
one_told (Ended id s) = refl
one_told (Abandoned id) = refl
one_told (Heard id b) = refl
one_told (Unread id) = refl
one_told (Turn n) = refl
one_told (Answered q f o) = refl
one_told (Reused q v) = refl
one_told (Unasked q) = refl
one_told (Drawn w) = refl
one_told (Opened p b) = refl
one_told (Taken p) = refl
one_told (Dropped p) = refl
one_told (Ran role cmd pipes status out err) = refl
one_told (Missing role cmd) = refl
one_told (Made scope p) = refl
one_told (Removed p how) = refl
one_told (Wrote p bytes) = refl
one_told (Copied a_file to_file) = refl
one_told (Here here) = refl
one_told (Said message) = refl
one_told (Printed kind b) = refl
one_told (Listed vars) = refl
one_told (Fault call why) = refl

pub said_is_told : (part : List Event) → told (printed part) ≡ said part
said_is_told [] = refl
said_is_told (e ∷ es) = flat_map-append told_of (printed_of e) (printed es) ∙ ap (λ l. l ++ told (printed es)) (one_told e) ∙ ap (λ l. said_of e ++ l) (said_is_told es)

-- no message is among these
mute_both : (a b : List Notice) → told a ≡ [] → told b ≡ [] → told (a ++ b) ≡ []
mute_both a b p q = flat_map-append told_of a b ∙ ap (λ l. l ++ told b) p ∙ q

mute_when : (b : Bool) (ls : List Notice) → told ls ≡ [] → told (when b ls) ≡ []
mute_when true ls h = h
mute_when false ls h = refl

-- what is given only where the host listens
mute_off : (b : Bool) (ls : List Notice) → b ≡ false → told (when b ls) ≡ []
mute_off b ls h = ap (λ c. told (when c ls)) h

mute_cargo : (kind : LineKind) (texts : List (List ℕ)) → told (map (cargo_line kind) texts) ≡ []
mute_cargo kind [] = refl
mute_cargo kind (t ∷ ts) = mute_cargo kind ts

mute_flat : {X : Type 0} (f : X → List Notice) → ((x : X) → told (f x) ≡ []) → (xs : List X) → told (flat_map f xs) ≡ []
mute_flat f h [] = refl
mute_flat f h (x ∷ xs) = mute_both (f x) (flat_map f xs) (h x) (mute_flat f h xs)

mute_of : (id : ℕ) (f : Child → List Notice) → ((c : Child) → told (f c) ≡ []) → (cs : List Child) → told (of_child id f cs) ≡ []
mute_of id f h [] = refl
mute_of id f h (c ∷ cs) = at (c.id == id) (mute_of id f h cs)
  where
    at : (b : Bool) → told (of_child id f cs) ≡ [] → told (if b then f c else of_child id f cs) ≡ []
    at true k = h c
    at false k = k

-- those that are told at all, and the first of these
told_first : (n : ℕ) (ls : List Notice) → told ls ≡ [] → told (take n ls) ≡ []
told_first zero ls h = refl
told_first (suc n) [] h = refl
told_first (suc n) (l ∷ ls) h = let k = parts (told_of l) (told ls) h in ap (λ x. x ++ told (take n ls)) k.0 ∙ told_first n ls k.1
  where
    parts : {X : Type 0} (a b : List X) → a ++ b ≡ [] → (a ≡ []) × (b ≡ [])
    parts [] b e = (refl, e)
    parts (x ∷ a) b e = absurd (cc)

-- Where the host doesn't listen.
module _ (shows : Shows) (off : shows.listens ≡ false) where
  mute_announced : (cmd : CommandSeen) → told (announced shows cmd) ≡ []
  unfolding announced
  mute_announced cmd = mute_when shows.debug _ refl

  mute_compiles : (p : Planned) → told (compiles shows p) ≡ []
  unfolding compiles
  mute_compiles p = mute_off shows.listens _ off

  mute_before : (p : Planned) → told (before shows p) ≡ []
  mute_before p = mute_both (announced shows p.cmd) (compiles shows p) (mute_announced p.cmd) (mute_compiles p)

  mute_told : (o : Option Planned) (ls : List (List ℕ)) → told (told_lines shows o ls) ≡ []
  mute_told None ls = refl
  mute_told (Some p) ls = mute_off shows.listens _ off

  mute_given : (o : Option Planned) (id : ℕ) (ls : List (List ℕ)) → told (given_lines shows o id ls) ≡ []
  mute_given o id ls = mute_both (when shows.warnings (map (stderr_line id) ls)) (told_lines shows o ls) (mute_when shows.warnings _ (mute_cargo _ ls)) (mute_told o ls)

  mute_unread : (o : Option Planned) (c : Child) → told (unread_lines shows o c) ≡ []
  mute_unread o c =
      let warned = when shows.warnings (cargo_line Warning unread_text ∷ []) in
      mute_both (rest_lines shows o c ++ warned) (unread_told shows)
      (mute_both (rest_lines shows o c) warned (mute_given o c.id (option_to_list (last_line c.rest))) (mute_when shows.warnings (cargo_line Warning unread_text ∷ []) refl))
      (mute_off shows.listens (Told (GeneralWarning unread_text) ∷ []) off)

  mute_failed : (s : Status) (cmd : CommandSeen) → told (failed_told shows s cmd) ≡ []
  mute_failed s cmd = mute_off (shows.listens && not (is_success s)) _ (ap (λ b. b && not (is_success s)) off)

  mute_ended : (warns : Bool) (p : Planned) (s : Status) (c : Child) → told (ended_lines shows warns p s c) ≡ []
  unfolding failed_line
  mute_ended warns p s c =
      let rest = rest_lines shows (Some p) c in
      let ended = when shows.debug (debug_line (ended_text s) ∷ []) in
      let failed = when (warns && shows.warnings && not (is_success s)) (failed_line s p.cmd ∷ []) in
      mute_both (rest ++ ended ++ failed) (failed_told shows s p.cmd)
      (mute_both (rest ++ ended) failed (mute_both rest ended (mute_given (Some p) c.id (option_to_list (last_line c.rest))) (mute_when shows.debug (debug_line (ended_text s) ∷ []) refl)) (mute_when (warns && shows.warnings && not (is_success s)) (failed_line s p.cmd ∷ []) refl))
      (mute_failed s p.cmd)

-- Where the host of a run doesn't listen.
module _ (rules : Rules) (off : rules.shows.listens ≡ false) where
  mute_due : (k : Kept) (e : Event) → told (due rules k e) ≡ []
  mute_due k (Started id role cmd pipes held) = mute_both (announced rules.shows cmd) _ (mute_announced rules.shows off cmd) (mute_flat (compiles rules.shows) (mute_compiles rules.shows off) (next_planned rules.plan k.marks))
  mute_due k (Heard id p) = mute_of id (heard_at rules.shows rules.plan.cmds p) (λ c. mute_given rules.shows off (slice_get rules.plan.cmds c.place) c.id (whole_lines (c.rest ++ p))) k.children
  mute_due k (Unread id) = mute_of id (unread_at rules.shows rules.plan.cmds) (λ c. mute_unread rules.shows off (slice_get rules.plan.cmds c.place) c) k.children
  mute_due k (Ended id s) = mute_of id (end_lines rules.shows rules.warns rules.plan.cmds s) (λ c. mute_flat (λ p. ended_lines rules.shows rules.warns p s c) (λ p. mute_ended rules.shows off rules.warns p s c) (take 1 (drop c.place rules.plan.cmds))) k.children
  mute_due k (Abandoned n) = refl
  mute_due k (Turn n) = refl
  mute_due k (Answered q f o) = refl
  mute_due k (Reused q v) = refl
  mute_due k (Unasked q) = refl
  mute_due k (Drawn w) = refl
  mute_due k (Opened p b) = refl
  mute_due k (Taken p) = refl
  mute_due k (Dropped p) = refl
  mute_due k (Ran role cmd pipes status out err) = refl
  mute_due k (Missing role cmd) = refl
  mute_due k (Made scope p) = refl
  mute_due k (Removed p how) = refl
  mute_due k (Wrote p bytes) = refl
  mute_due k (Copied a_file to_file) = refl
  mute_due k (Here here) = refl
  mute_due k (Said message) = refl
  mute_due k (Printed kind b) = refl
  mute_due k (Listed vars) = refl
  mute_due k (Fault call why) = refl

  mute_from : (k : Kept) (es : List Event) → told (due_from rules k es) ≡ []
  mute_from k [] = refl
  mute_from k (e ∷ es) = mute_both (due rules k e) (due_from rules (kept_after rules.plan k e) es) (mute_due k e) (mute_from (kept_after rules.plan k e) es)

  mute_next : (k : Kept) (es : List Event) → told (due_next rules k es) ≡ []
  mute_next k es = mute_both (due_from rules k es) (next_lines rules (kept_from rules.plan k es)) (mute_from k es) (mute_flat (before rules.shows) (mute_before rules.shows off) (next_planned rules.plan (kept_from rules.plan k es).marks))

  mute_answer : {T : Type 0} (k : Kept) (part : List Event) (result : Result T RunError) → PrintsAll rules k result part → told (printed part) ≡ []
  mute_answer k part (Ok x) q = ap told q ∙ mute_from k part
  mute_answer k part (Err (ToolNotFound n)) q = ap told q ∙ mute_next k part
  mute_answer k part (Err (StartFault n)) q = ap told q ∙ mute_next k part
  mute_answer k part (Err (HostFault call why)) (n, q) = ap told q ∙ told_first n _ (mute_next k part)
  mute_answer k part (Err NoMemory) (n, q) = ap told q ∙ told_first n _ (mute_next k part)
  mute_answer k part (Err (Failed n s)) q = ap told q ∙ mute_from k part
  mute_answer k part (Err WaitFault) q = ap told q ∙ mute_from k part
  mute_answer k part (Err JobFault) q = ap told q ∙ mute_from k part
  mute_answer k part (Err TurnsSpent) q = ap told q ∙ mute_from k part

-- Nothing is said to a host that doesn't listen.
pub ran_silent : {T : Type 0} (rules : Rules) (k : Kept) (part : List Event) (result : Result T RunError) → IsPrinted rules k result part → SaysNone rules.shows part
ran_silent rules k part result q = λ off. sym (said_is_told part) ∙ mute_answer rules off k part result q.0
