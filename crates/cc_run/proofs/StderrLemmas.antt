-- Laws on the lines of the standard error of one child.
use Rattle.std.proofs.Common.{◌≡◌, ℕ, ◌<◌, zero, suc, Bool, true, false, cond, List, [], ◌∷◌, ◌++◌, ◌==◌, ◌&&◌, ◌||◌, not, length, map, take, drop, refl, sym, ◌∙◌, ap, subst, append_assoc, arith, if◌then◌else◌}
use Rattle.std.specs.Prelude.{Result, Ok, Err, Option, None, Some, filter, option_to_list}
use Rattle.std.specs.List.{flat_map, list_any, slice_get, Contains}
use Rattle.std.proofs.lemmas.Bool.{eqb-true, eq-eqb}
use Rattle.std.proofs.lemmas.List.{append-nil, map-append}
use Rattle.std.proofs.lemmas.List.Elements.{filter-append}
use Rattle.std.proofs.lemmas.Grind.{flat_map-append}
use Rattle.cc_text.specs.Words.{when}
use Rattle.cc_host.specs.Children.{id_of, started_ids}
use Rattle.cc_host.specs.Command.{CommandSeen}
use Rattle.cc_host.specs.Part.{since}
use Rattle.cc_host.specs.Status.{is_success}
use Rattle.cc_host.specs.declared.event.Event.{Event}
use Rattle.cc_host.specs.declared.event.Event.TheVariants.{Started, Ended, Abandoned, Heard, Unread, Turn, Answered, Reused, Unasked, Drawn, Opened, Taken, Dropped as DroppedFiles, Ran, Missing, Made, Removed, Wrote, Copied, Here, Said, Printed, Listed, Fault}
use Rattle.cc_host.specs.declared.event.HostCall.{HostCall}
use Rattle.cc_host.specs.declared.event.HostCall.TheVariants.{Start, Turn as Turning}
use Rattle.cc_host.specs.declared.event.LineKind.TheVariants.{Warning}
use Rattle.cc_host.specs.declared.event.Pipes.{Pipes}
use Rattle.cc_host.specs.declared.event.Role.{Role}
use Rattle.cc_host.specs.declared.event.Status.{Status}
use Rattle.cc_host.specs.declared.event.Why.{Why}
use Rattle.cc_host.proofs.Parts.{since_append}
use Rattle.cc_run.specs.Children.{Kept, nothing_kept, run_of, without_child}
use Rattle.cc_run.specs.Forwarded.{fed, emptied, heard_lines, rest_lines, unread_lines, ended_lines}
use Rattle.cc_run.specs.Hearing.{at_child, of_child, heard_at, unread_at, end_lines}
use Rattle.cc_run.specs.Life.{Life, life_after, life_from}
use Rattle.cc_run.specs.Life.Life.{Unstarted, Runs, Unreadable, Closed, Amiss}
use Rattle.cc_run.specs.Lines.{IsUncut, lines, whole_lines, rest_of, last_line}
use Rattle.cc_run.specs.Outcome.{IsCause}
use Rattle.cc_run.specs.Part.{Along}
use Rattle.cc_run.specs.Plan.{next_place, next_planned}
use Rattle.cc_run.specs.Printing.{with_child, kept_after, kept_from, due, due_from, IsPrinted}
use Rattle.cc_run.specs.Rules.{Rules}
use Rattle.cc_run.specs.Run.{gone}
use Rattle.cc_run.specs.Seat.{SeatSeen}
use Rattle.cc_run.specs.State.{State}
use Rattle.cc_run.specs.Stderr.{is_of, heard_of, heard, is_over, lines_by, is_stderr, stderr_given, ForwardsEach}
use Rattle.cc_run.specs.Texts.{announced, cargo_line, stderr_line, debug_line, ended_text, failed_line, unread_text}
use Rattle.cc_run.specs.Whole.{EndsBy, RanAll}
use Rattle.cc_run.specs.declared.error.RunError.{RunError}
use Rattle.cc_run.specs.declared.error.RunError.TheVariants.{ToolNotFound, Failed, StartFault, WaitFault, HostFault, JobFault, TurnsSpent, NoMemory}
use Rattle.cc_run.specs.declared.mark.Mark.{Mark}
use Rattle.cc_run.specs.declared.planned.Planned.{Planned}
use Rattle.cc_run.specs.declared.planned.Shows.{Shows}
use Rattle.cc_run.specs.declared.planned.Turns.{Turns as TurnsSeen}
use Rattle.cc_run.specs.declared.print.Notice.{Notice}
use Rattle.cc_run.specs.declared.running.Child.{Child}
use Rattle.cc_run.proofs.Firsts.{next_some}
use Rattle.cc_run.proofs.LifeLemmas.{own_by, own_if, skips, amiss_from, part_sound}
use Rattle.cc_run.proofs.LineLemmas.{rest_uncut, whole_both, lines_both, uncut_whole, uncut_lines}
use Rattle.cc_run.proofs.PrintingLemmas.{due_both}
use Rattle.cc_run.proofs.KeptLemmas.{kept_run_after}
use Rattle.cc_run.proofs.SiftLemmas.{filter_when, when_none, filter_flat, untold_start, untold_given, untold_unread, untold_ended, raw_rest, sifted}

-- the children of that id
abbrev mine : ℕ → List Child → List Child
mine id = filter (λ c. c.id == id)

when_both : (b : Bool) (xs ys : List Notice) → when b xs ++ when b ys ≡ when b (xs ++ ys)
when_both true xs ys = refl
when_both false xs ys = refl

lines_by_both : (b : Bool) (x q : List ℕ) → lines_by b (x ++ q) ≡ whole_lines x ++ lines_by b (rest_of x ++ q)
lines_by_both true x q = lines_both x q
lines_by_both false x q = whole_both x q

module _ (id : ℕ) where
  own_is : (n : ℕ) → n ≡ id → (n == id) ≡ true
  own_is n e = eq-eqb n id e

  skip : (c : Child) (cs : List Child) → (c.id == id) ≡ false → mine id (c ∷ cs) ≡ mine id cs
  skip c cs e = ap (λ b. cond b (c ∷ mine id cs) (mine id cs)) e

  keep : (c : Child) (cs : List Child) → (c.id == id) ≡ true → mine id (c ∷ cs) ≡ c ∷ mine id cs
  keep c cs e = ap (λ b. cond b (c ∷ mine id cs) (mine id cs)) e

  -- a child of another id
  foreign : (n : ℕ) (c : Child) → (c.id == n) ≡ true → (n == id) ≡ false → (c.id == id) ≡ false
  foreign n c e ne = ap (λ m. m == id) (eqb-true c.id n e) ∙ ne

  other_at : (n : ℕ) (f : Child → Child) → ((c : Child) → (f c).id ≡ c.id) → (cs : List Child) → (n == id) ≡ false → mine id (at_child n f cs) ≡ mine id cs
  other_at n f h [] ne = refl
  other_at n f h (c ∷ cs) ne = at (c.id == n) refl (other_at n f h cs ne)
    where
      at : (b : Bool) → (c.id == n) ≡ b → mine id (at_child n f cs) ≡ mine id cs → mine id (if b then f c ∷ cs else c ∷ at_child n f cs) ≡ mine id (c ∷ cs)
      at true e k = skip (f c) cs (ap (λ m. m == id) (h c) ∙ foreign n c e ne) ∙ sym (skip c cs (foreign n c e ne))
      at false e k = ap (λ l. cond (c.id == id) (c ∷ l) l) k

  other_without : (n : ℕ) (cs : List Child) → (n == id) ≡ false → mine id (without_child n cs) ≡ mine id cs
  other_without n [] ne = refl
  other_without n (c ∷ cs) ne = at (c.id == n) refl (other_without n cs ne)
    where
      at : (b : Bool) → (c.id == n) ≡ b → mine id (without_child n cs) ≡ mine id cs → mine id (if b then cs else c ∷ without_child n cs) ≡ mine id (c ∷ cs)
      at true e k = sym (skip c cs (foreign n c e ne))
      at false e k = ap (λ l. cond (c.id == id) (c ∷ l) l) k

  own_at : (f : Child → Child) → ((c : Child) → (f c).id ≡ c.id) → (cs : List Child) (d : Child) → mine id cs ≡ d ∷ [] → mine id (at_child id f cs) ≡ f d ∷ []
  own_at f h [] d e = absurd (cc)
  own_at f h (c ∷ cs) d e = at (c.id == id) refl e (own_at f h cs d)
    where
      at : (b : Bool) → (c.id == id) ≡ b → cond b (c ∷ mine id cs) (mine id cs) ≡ d ∷ [] → (mine id cs ≡ d ∷ [] → mine id (at_child id f cs) ≡ f d ∷ []) → mine id (if b then f c ∷ cs else c ∷ at_child id f cs) ≡ f d ∷ []
      at true x e k = let one : c ≡ d = cc in let none : mine id cs ≡ [] = cc in keep (f c) cs (ap (λ m. m == id) (h c) ∙ x) ∙ ap (λ l. f c ∷ l) none ∙ ap (λ y. f y ∷ []) one
      at false x e k = skip c (at_child id f cs) x ∙ k e

  own_without : (cs : List Child) (d : Child) → mine id cs ≡ d ∷ [] → mine id (without_child id cs) ≡ []
  own_without [] d e = absurd (cc)
  own_without (c ∷ cs) d e = at (c.id == id) refl e (own_without cs d)
    where
      at : (b : Bool) → (c.id == id) ≡ b → cond b (c ∷ mine id cs) (mine id cs) ≡ d ∷ [] → (mine id cs ≡ d ∷ [] → mine id (without_child id cs) ≡ []) → mine id (if b then cs else c ∷ without_child id cs) ≡ []
      at true x e k = cc
      at false x e k = skip c (without_child id cs) x ∙ k e

  own_of : (g : Child → List Notice) (cs : List Child) (d : Child) → mine id cs ≡ d ∷ [] → of_child id g cs ≡ g d
  own_of g [] d e = absurd (cc)
  own_of g (c ∷ cs) d e = at (c.id == id) e (own_of g cs d)
    where
      at : (b : Bool) → cond b (c ∷ mine id cs) (mine id cs) ≡ d ∷ [] → (mine id cs ≡ d ∷ [] → of_child id g cs ≡ g d) → (if b then g c else of_child id g cs) ≡ g d
      at true e k = let one : c ≡ d = cc in ap g one
      at false e k = k e

  other_of : (n : ℕ) (g : Child → List Notice) (cs : List Child) → ((c : Child) → (c.id == n) ≡ true → filter (is_stderr id) (g c) ≡ []) → filter (is_stderr id) (of_child n g cs) ≡ []
  other_of n g [] h = refl
  other_of n g (c ∷ cs) h = at (c.id == n) refl (other_of n g cs h)
    where
      at : (b : Bool) → (c.id == n) ≡ b → filter (is_stderr id) (of_child n g cs) ≡ [] → filter (is_stderr id) (if b then g c else of_child n g cs) ≡ []
      at true e k = h c e
      at false e k = k

  own_lines : (n : ℕ) (ts : List (List ℕ)) → (n == id) ≡ true → filter (is_stderr id) (map (stderr_line n) ts) ≡ map (stderr_line n) ts
  own_lines n [] e = refl
  own_lines n (t ∷ ts) e = ap (λ b. cond b (stderr_line n t ∷ filter (is_stderr id) (map (stderr_line n) ts)) (filter (is_stderr id) (map (stderr_line n) ts))) e ∙ ap (λ l. stderr_line n t ∷ l) (own_lines n ts e)

  other_lines : (n : ℕ) (ts : List (List ℕ)) → (n == id) ≡ false → filter (is_stderr id) (map (stderr_line n) ts) ≡ []
  other_lines n [] e = refl
  other_lines n (t ∷ ts) e = ap (λ b. cond b (stderr_line n t ∷ filter (is_stderr id) (map (stderr_line n) ts)) (filter (is_stderr id) (map (stderr_line n) ts))) e ∙ other_lines n ts e

  announced_other : (shows : Shows) (cmd : CommandSeen) → filter (is_stderr id) (announced shows cmd) ≡ []
  unfolding announced
  announced_other shows cmd = filter_when (is_stderr id) shows.debug _ ∙ when_none shows.debug

  ended_rest : (shows : Shows) (warns : Bool) (q : Planned) (s : Status) (c : Child) → filter (is_stderr id) (ended_lines shows warns q s c) ≡ filter (is_stderr id) (raw_rest shows c)
  unfolding failed_line
  ended_rest shows warns q s c =
      let rest = rest_lines shows (Some q) c in
      let a = filter (is_stderr id) rest in
      untold_ended (is_stderr id) (λ m. refl) shows warns q s c
      ∙ filter-append (is_stderr id) (rest ++ when shows.debug (debug_line (ended_text s) ∷ [])) (when (warns && shows.warnings && not (is_success s)) (failed_line s q.cmd ∷ []))
      ∙ ap (λ l. filter (is_stderr id) (rest ++ when shows.debug (debug_line (ended_text s) ∷ [])) ++ l) (filter_when (is_stderr id) (warns && shows.warnings && not (is_success s)) _ ∙ when_none (warns && shows.warnings && not (is_success s)))
      ∙ append-nil _
      ∙ filter-append (is_stderr id) rest (when shows.debug (debug_line (ended_text s) ∷ []))
      ∙ ap (λ l. a ++ l) (filter_when (is_stderr id) shows.debug _ ∙ when_none shows.debug)
      ∙ append-nil a ∙ untold_given (is_stderr id) (λ m. refl) shows (Some q) c.id (option_to_list (last_line c.rest))

  unread_rest : (shows : Shows) (o : Option Planned) (c : Child) → filter (is_stderr id) (unread_lines shows o c) ≡ filter (is_stderr id) (raw_rest shows c)
  unread_rest shows o c =
      let rest = rest_lines shows o c in
      untold_unread (is_stderr id) (λ m. refl) shows o c
      ∙ filter-append (is_stderr id) rest (when shows.warnings (cargo_line Warning unread_text ∷ []))
      ∙ ap (λ l. filter (is_stderr id) rest ++ l) (filter_when (is_stderr id) shows.warnings _ ∙ when_none shows.warnings)
      ∙ append-nil _ ∙ untold_given (is_stderr id) (λ m. refl) shows o c.id (option_to_list (last_line c.rest))

  rest_other : (shows : Shows) (c : Child) → (c.id == id) ≡ false → filter (is_stderr id) (raw_rest shows c) ≡ []
  rest_other shows c e = filter_when (is_stderr id) shows.warnings _ ∙ ap (when shows.warnings) (other_lines c.id (option_to_list (last_line c.rest)) e) ∙ when_none shows.warnings

  rest_own : (shows : Shows) (c : Child) → c.id ≡ id → filter (is_stderr id) (raw_rest shows c) ≡ when shows.warnings (map (stderr_line id) (option_to_list (last_line c.rest)))
  rest_own shows c e = filter_when (is_stderr id) shows.warnings _ ∙ ap (when shows.warnings) (own_lines c.id (option_to_list (last_line c.rest)) (own_is c.id e) ∙ ap (λ n. map (stderr_line n) (option_to_list (last_line c.rest))) e)

  heard_other : (shows : Shows) (o : Option Planned) (c : Child) (p : List ℕ) → (c.id == id) ≡ false → filter (is_stderr id) (heard_lines shows o c p) ≡ []
  heard_other shows o c p e = untold_given (is_stderr id) (λ m. refl) shows o c.id (whole_lines (c.rest ++ p)) ∙ filter_when (is_stderr id) shows.warnings _ ∙ ap (when shows.warnings) (other_lines c.id (whole_lines (c.rest ++ p)) e) ∙ when_none shows.warnings

  heard_own : (shows : Shows) (o : Option Planned) (c : Child) (p : List ℕ) → c.id ≡ id → filter (is_stderr id) (heard_lines shows o c p) ≡ when shows.warnings (map (stderr_line id) (whole_lines (c.rest ++ p)))
  heard_own shows o c p e = untold_given (is_stderr id) (λ m. refl) shows o c.id (whole_lines (c.rest ++ p)) ∙ filter_when (is_stderr id) shows.warnings _ ∙ ap (when shows.warnings) (own_lines c.id (whole_lines (c.rest ++ p)) (own_is c.id e) ∙ ap (λ n. map (stderr_line n) (whole_lines (c.rest ++ p))) e)

  end_own : (shows : Shows) (warns : Bool) (cmds : List Planned) (s : Status) (c : Child) → c.place < length cmds → filter (is_stderr id) (end_lines shows warns cmds s c) ≡ filter (is_stderr id) (raw_rest shows c)
  end_own shows warns cmds s c lt = at cmds c.place lt
    where
      at : (cmds : List Planned) (place : ℕ) → place < length cmds → filter (is_stderr id) (flat_map (λ p. ended_lines shows warns p s c) (take 1 (drop place cmds))) ≡ filter (is_stderr id) (raw_rest shows c)
      at (p ∷ cmds) zero lt = ap (filter (is_stderr id)) (append-nil (ended_lines shows warns p s c)) ∙ ended_rest shows warns p s c
      at (p ∷ cmds) (suc place) lt = at cmds place (omega arith)
      at [] place lt = absurd (omega arith)

  other_with : (n : ℕ) (o : Option ℕ) (k : Kept) → (n == id) ≡ false → mine id (with_child n o k).children ≡ mine id k.children
  other_with n None k ne = refl
  other_with n (Some p) k ne = filter-append (λ c. c.id == id) k.children _ ∙ ap (λ l. mine id k.children ++ l) (skip (record { id = n; place = p; rest = [] }) [] ne) ∙ append-nil (mine id k.children)

  -- an event of another child changes nothing for this one
  other_event : (rules : Rules) (k : Kept) (e : Event) → is_of id e ≡ false → (mine id (kept_after rules.plan k e).children ≡ mine id k.children) × (filter (is_stderr id) (due rules k e) ≡ [])
  other_event rules k (Started n role cmd pipes held) ne = (other_with n (next_place rules.plan k.marks) k ne, untold_start (is_stderr id) (λ m. refl) rules.shows cmd (next_planned rules.plan k.marks) ∙ announced_other rules.shows cmd)
  other_event rules k (Heard n p) ne = (other_at n (fed p) (λ c. refl) k.children ne, other_of n (heard_at rules.shows rules.plan.cmds p) k.children (λ c e. heard_other rules.shows (slice_get rules.plan.cmds c.place) c p (foreign n c e ne)))
  other_event rules k (Unread n) ne = (other_at n emptied (λ c. refl) k.children ne, other_of n (unread_at rules.shows rules.plan.cmds) k.children (λ c e. unread_rest rules.shows (slice_get rules.plan.cmds c.place) c ∙ rest_other rules.shows c (foreign n c e ne)))
  other_event rules k (Ended n s) ne = (other_without n k.children ne, other_of n (end_lines rules.shows rules.warns rules.plan.cmds s) k.children (λ c e. filter_flat (is_stderr id) (λ p. ended_lines rules.shows rules.warns p s c) (λ p. ended_rest rules.shows rules.warns p s c ∙ rest_other rules.shows c (foreign n c e ne)) (take 1 (drop c.place rules.plan.cmds))))
  other_event rules k (Abandoned n) ne = (other_without n k.children ne, refl)
  other_event rules k (Turn n) ne = (refl, refl)
  other_event rules k (Answered q f o) ne = (refl, refl)
  other_event rules k (Reused q v) ne = (refl, refl)
  other_event rules k (Unasked q) ne = (refl, refl)
  other_event rules k (Drawn w) ne = (refl, refl)
  other_event rules k (Opened p b) ne = (refl, refl)
  other_event rules k (Taken p) ne = (refl, refl)
  other_event rules k (DroppedFiles p) ne = (refl, refl)
  other_event rules k (Ran role cmd pipes status out err) ne = (refl, refl)
  other_event rules k (Missing role cmd) ne = (refl, refl)
  other_event rules k (Made scope p) ne = (refl, refl)
  other_event rules k (Removed p how) ne = (refl, refl)
  other_event rules k (Wrote p bytes) ne = (refl, refl)
  other_event rules k (Copied a_file to_file) ne = (refl, refl)
  other_event rules k (Here here) ne = (refl, refl)
  other_event rules k (Said message) ne = (refl, refl)
  other_event rules k (Printed kind b) ne = (refl, refl)
  other_event rules k (Listed vars) ne = (refl, refl)
  other_event rules k (Fault call why) ne = (refl, refl)

-- The lines of one child, event by event.
module _ (rules : Rules) (id : ℕ) where
  given : Kept → List Event → List Notice
  given k es = filter (is_stderr id) (due_from rules k es)

  given_more : (k : Kept) (e : Event) (es : List Event) → given k (e ∷ es) ≡ filter (is_stderr id) (due rules k e) ++ given (kept_after rules.plan k e) es
  unfolding given
  given_more k e es = filter-append (is_stderr id) (due rules k e) (due_from rules (kept_after rules.plan k e) es)

  given_skip : (k : Kept) (e : Event) (es : List Event) → is_of id e ≡ false → given k (e ∷ es) ≡ given (kept_after rules.plan k e) es
  given_skip k e es ne = given_more k e es ∙ ap (λ l. l ++ given (kept_after rules.plan k e) es) (other_event id rules k e ne).1

  as_lines : List (List ℕ) → List Notice
  as_lines ls = when rules.shows.warnings (map (stderr_line id) ls)

  no_lines : as_lines [] ≡ []
  unfolding as_lines
  no_lines = when_none rules.shows.warnings

  -- an event of another child is none of its standard error
  reads_other : (e : Event) → is_of id e ≡ false → (heard_of id e ≡ []) × (is_over id e ≡ false)
  reads_other (Started n role cmd pipes held) ne = (refl, refl)
  reads_other (Heard n p) ne = (ap (λ b. if b then p else []) ne, refl)
  reads_other (Unread n) ne = (refl, ne)
  reads_other (Ended n s) ne = (refl, ne)
  reads_other (Abandoned n) ne = (refl, refl)
  reads_other (Turn n) ne = (refl, refl)
  reads_other (Answered q f o) ne = (refl, refl)
  reads_other (Reused q v) ne = (refl, refl)
  reads_other (Unasked q) ne = (refl, refl)
  reads_other (Drawn w) ne = (refl, refl)
  reads_other (Opened p b) ne = (refl, refl)
  reads_other (Taken p) ne = (refl, refl)
  reads_other (DroppedFiles p) ne = (refl, refl)
  reads_other (Ran role cmd pipes status out err) ne = (refl, refl)
  reads_other (Missing role cmd) ne = (refl, refl)
  reads_other (Made scope p) ne = (refl, refl)
  reads_other (Removed p how) ne = (refl, refl)
  reads_other (Wrote p bytes) ne = (refl, refl)
  reads_other (Copied a_file to_file) ne = (refl, refl)
  reads_other (Here here) ne = (refl, refl)
  reads_other (Said message) ne = (refl, refl)
  reads_other (Printed kind b) ne = (refl, refl)
  reads_other (Listed vars) ne = (refl, refl)
  reads_other (Fault call why) ne = (refl, refl)

  -- these events aren't amiss for a child that is there
  abbrev Sound : Life → List Event → Type 0
  Sound l es = life_from id l es ≡ Amiss → ⊥

  sound_on : (l m : Life) (e : Event) (es : List Event) → life_after id l e ≡ m → Sound l (e ∷ es) → Sound m es
  sound_on l m e es x h = λ y. h (ap (λ k. life_from id k es) x ∙ y)

  unsound : (l : Life) (e : Event) (es : List Event) → life_after id l e ≡ Amiss → Sound l (e ∷ es) → ⊥
  unsound l e es x h = h (ap (λ k. life_from id k es) x ∙ amiss_from id es)

  abbrev over : List Event → Bool
  over = list_any (is_over id)

  -- behind the close of the child nothing comes
  record IsSilent (k : Kept) (es : List Event) : Type 0 where
    none_given : given k es ≡ []
    none_heard : heard id es ≡ []
    none_over : over es ≡ false

  behind_close : (k : Kept) (es : List Event) → Sound Closed es → mine id k.children ≡ [] → IsSilent k es
  unfolding given
  behind_close k [] h none = record { none_given = refl; none_heard = refl; none_over = refl }
  behind_close k (e ∷ es) h none = at (is_of id e) refl (behind_close (kept_after rules.plan k e) es)
    where
      at : (b : Bool) → is_of id e ≡ b → (Sound Closed es → mine id (kept_after rules.plan k e).children ≡ [] → IsSilent (kept_after rules.plan k e) es) → IsSilent k (e ∷ es)
      at true is further = absurd (unsound Closed e es (own_by id (λ x. life_after id Closed x ≡ Amiss) (λ _ _ _ _. own_if id Amiss Closed) (λ _. own_if id Amiss Closed) (own_if id Amiss Closed) (λ _. own_if id Amiss Closed) (own_if id Amiss Closed) e is) h)
      at false is further =
          let s = further (sound_on Closed Closed e es ((skips id e is).life Closed) h) ((other_event id rules k e is).0 ∙ none) in
          let r = reads_other e is in
          record {
            none_given = given_skip k e es is ∙ s.none_given;
            none_heard = ap (λ x. x ++ heard id es) r.0 ∙ s.none_heard;
            none_over = ap (λ b. b || over es) r.1 ∙ s.none_over;
          }

  ended_child : (k : Kept) (es : List Event) (c : Child) (s : Status) → mine id k.children ≡ c ∷ [] → c.id ≡ id → c.place < length rules.plan.cmds → given (kept_after rules.plan k (Ended id s)) es ≡ [] → given k (Ended id s ∷ es) ≡ as_lines (option_to_list (last_line c.rest))
  unfolding as_lines
  ended_child k es c s one is lt none =
      given_more k (Ended id s) es
      ∙ ap (λ l. filter (is_stderr id) l ++ given (kept_after rules.plan k (Ended id s)) es) (own_of id (end_lines rules.shows rules.warns rules.plan.cmds s) k.children c one)
      ∙ ap (λ l. filter (is_stderr id) (end_lines rules.shows rules.warns rules.plan.cmds s c) ++ l) none
      ∙ append-nil _ ∙ end_own id rules.shows rules.warns rules.plan.cmds s c lt ∙ rest_own id rules.shows c is

  unread_child : (k : Kept) (es : List Event) (c : Child) → mine id k.children ≡ c ∷ [] → c.id ≡ id → given (kept_after rules.plan k (Unread id)) es ≡ [] → given k (Unread id ∷ es) ≡ as_lines (option_to_list (last_line c.rest))
  unfolding as_lines
  unread_child k es c one is none =
      given_more k (Unread id) es
      ∙ ap (λ l. filter (is_stderr id) l ++ given (kept_after rules.plan k (Unread id)) es) (own_of id (unread_at rules.shows rules.plan.cmds) k.children c one)
      ∙ ap (λ l. filter (is_stderr id) (unread_at rules.shows rules.plan.cmds c) ++ l) none
      ∙ append-nil _ ∙ unread_rest id rules.shows (slice_get rules.plan.cmds c.place) c ∙ rest_own id rules.shows c is

  gone_child : (k : Kept) (es : List Event) → given (kept_after rules.plan k (Abandoned id)) es ≡ [] → given k (Abandoned id ∷ es) ≡ []
  gone_child k es none = given_more k (Abandoned id) es ∙ none

  without_one : (k : Kept) (c : Child) → mine id k.children ≡ c ∷ [] → mine id (without_child id k.children) ≡ []
  without_one k c one = own_without id k.children c one

  -- where no more of its standard error can be read, nothing is left
  unreadable : (k : Kept) (es : List Event) (c : Child) → Sound Unreadable es → mine id k.children ≡ c ∷ [] → c.id ≡ id → c.place < length rules.plan.cmds → c.rest ≡ [] → (given k es ≡ []) × (heard id es ≡ [])
  unfolding given
  unreadable k [] c h one is lt z = (refl, refl)
  unreadable k (e ∷ es) c h one is lt z = at (is_of id e) refl (unreadable (kept_after rules.plan k e) es)
    where
      empty : as_lines (option_to_list (last_line c.rest)) ≡ []
      empty = ap (λ r. as_lines (option_to_list (last_line r))) z ∙ no_lines

      by : (x : Event) → ((d : Child) → Sound Unreadable es → mine id (kept_after rules.plan k x).children ≡ d ∷ [] → d.id ≡ id → d.place < length rules.plan.cmds → d.rest ≡ [] → (given (kept_after rules.plan k x) es ≡ []) × (heard id es ≡ [])) → is_of id x ≡ true → Sound Unreadable (x ∷ es) → (given k (x ∷ es) ≡ []) × (heard id (x ∷ es) ≡ [])
      by x further own = own_by id (λ x. ((d : Child) → Sound Unreadable es → mine id (kept_after rules.plan k x).children ≡ d ∷ [] → d.id ≡ id → d.place < length rules.plan.cmds → d.rest ≡ [] → (given (kept_after rules.plan k x) es ≡ []) × (heard id es ≡ [])) → Sound Unreadable (x ∷ es) → (given k (x ∷ es) ≡ []) × (heard id (x ∷ es) ≡ []))
          (λ role cmd pipes held f s. absurd (unsound Unreadable (Started id role cmd pipes held) es (own_if id Amiss Unreadable) s))
          (λ p f s. absurd (unsound Unreadable (Heard id p) es (own_if id Amiss Unreadable) s))
          (λ f s.
          let r = f (emptied c) (sound_on Unreadable Unreadable (Unread id) es (own_if id Unreadable Unreadable) s) (own_at id emptied (λ x. refl) k.children c one) is lt refl in
          (unread_child k es c one is r.0 ∙ empty, r.1))
          (λ st f s.
          let r = behind_close (kept_after rules.plan k (Ended id st)) es (sound_on Unreadable Closed (Ended id st) es (own_if id Closed Unreadable) s) (without_one k c one) in
          (ended_child k es c st one is lt r.none_given ∙ empty, r.none_heard))
          (λ f s.
          let r = behind_close (kept_after rules.plan k (Abandoned id)) es (sound_on Unreadable Closed (Abandoned id) es (own_if id Closed Unreadable) s) (without_one k c one) in
          (gone_child k es r.none_given, r.none_heard))
          x own further

      at : (b : Bool) → is_of id e ≡ b → ((d : Child) → Sound Unreadable es → mine id (kept_after rules.plan k e).children ≡ d ∷ [] → d.id ≡ id → d.place < length rules.plan.cmds → d.rest ≡ [] → (given (kept_after rules.plan k e) es ≡ []) × (heard id es ≡ [])) → (given k (e ∷ es) ≡ []) × (heard id (e ∷ es) ≡ [])
      at true own further = by e further own h
      at false other further =
          let r = further c (sound_on Unreadable Unreadable e es ((skips id e other).life Unreadable) h) ((other_event id rules k e other).0 ∙ one) is lt z in
          (given_skip k e es other ∙ r.0, ap (λ x. x ++ heard id es) (reads_other e other).0 ∙ r.1)

  as_rest : (r : List ℕ) → IsUncut r → as_lines (option_to_list (last_line r)) ≡ as_lines (lines r)
  as_rest r u = ap as_lines (sym (uncut_lines r u))

  -- the lines of a child that runs
  abbrev Gives : Kept → Child → List Event → Type 0
  Gives k c es = given k es ≡ as_lines (lines_by (over es) (c.rest ++ heard id es))

  runs : (k : Kept) (es : List Event) (c : Child) → Sound Runs es → mine id k.children ≡ c ∷ [] → c.id ≡ id → c.place < length rules.plan.cmds → IsUncut c.rest → Gives k c es
  unfolding given as_lines
  runs k [] c h one is lt u = sym (ap (λ r. as_lines (whole_lines r)) (append-nil c.rest) ∙ ap as_lines (uncut_whole c.rest u) ∙ no_lines)
  runs k (e ∷ es) c h one is lt u = at (is_of id e) refl (runs (kept_after rules.plan k e) es)
    where
      on_heard : (p : List ℕ) → given (kept_after rules.plan k (Heard id p)) es ≡ as_lines (lines_by (over es) (rest_of (c.rest ++ p) ++ heard id es)) → Gives k c (Heard id p ∷ es)
      on_heard p rest =
          let x = c.rest ++ p in
          given_more k (Heard id p) es
          ∙ ap (λ l. filter (is_stderr id) l ++ given (kept_after rules.plan k (Heard id p)) es) (own_of id (heard_at rules.shows rules.plan.cmds p) k.children c one)
          ∙ ap (λ l. l ++ given (kept_after rules.plan k (Heard id p)) es) (heard_own id rules.shows (slice_get rules.plan.cmds c.place) c p is)
          ∙ ap (λ l. as_lines (whole_lines x) ++ l) rest
          ∙ when_both rules.shows.warnings _ _
          ∙ ap (when rules.shows.warnings) (sym (map-append (stderr_line id) (whole_lines x) (lines_by (over es) (rest_of x ++ heard id es))))
          ∙ ap as_lines (sym (lines_by_both (over es) x (heard id es)) ∙ ap (lines_by (over es)) (append_assoc c.rest p (heard id es)) ∙ ap (λ q. lines_by (over es) (c.rest ++ (q ++ heard id es))) (sym (own_if id p [])))

      on_end : (x : Event) → is_over id x ≡ true → heard_of id x ≡ [] → given k (x ∷ es) ≡ as_lines (option_to_list (last_line c.rest)) → heard id es ≡ [] → Gives k c (x ∷ es)
      on_end x ends quiet g none =
          g ∙ as_rest c.rest u
          ∙ ap (λ r. as_lines (lines r)) (sym (ap (λ q. c.rest ++ (q ++ heard id es)) quiet ∙ ap (λ q. c.rest ++ q) none ∙ append-nil c.rest))
          ∙ ap (λ b. as_lines (lines_by (b || over es) (c.rest ++ heard id (x ∷ es)))) (sym ends)

      on_gone : given k (Abandoned id ∷ es) ≡ [] → heard id es ≡ [] → over es ≡ false → Gives k c (Abandoned id ∷ es)
      on_gone g none still =
          g ∙ sym no_lines ∙ ap as_lines (sym (uncut_whole c.rest u))
          ∙ ap (λ r. as_lines (whole_lines r)) (sym (ap (λ q. c.rest ++ q) none ∙ append-nil c.rest))
          ∙ ap (λ b. as_lines (lines_by b (c.rest ++ heard id es))) (sym still)

      by : (x : Event) → ((d : Child) → Sound Runs es → mine id (kept_after rules.plan k x).children ≡ d ∷ [] → d.id ≡ id → d.place < length rules.plan.cmds → IsUncut d.rest → Gives (kept_after rules.plan k x) d es) → is_of id x ≡ true → Sound Runs (x ∷ es) → Gives k c (x ∷ es)
      by x further own = own_by id (λ x. ((d : Child) → Sound Runs es → mine id (kept_after rules.plan k x).children ≡ d ∷ [] → d.id ≡ id → d.place < length rules.plan.cmds → IsUncut d.rest → Gives (kept_after rules.plan k x) d es) → Sound Runs (x ∷ es) → Gives k c (x ∷ es))
          (λ role cmd pipes held f s. absurd (unsound Runs (Started id role cmd pipes held) es (own_if id Amiss Runs) s))
          (λ p f s. on_heard p (f (fed p c) (sound_on Runs Runs (Heard id p) es (own_if id Runs Runs) s) (own_at id (fed p) (λ d. refl) k.children c one) is lt (rest_uncut (c.rest ++ p))))
          (λ f s.
          let r = unreadable (kept_after rules.plan k (Unread id)) es (emptied c) (sound_on Runs Unreadable (Unread id) es (own_if id Unreadable Runs) s) (own_at id emptied (λ x. refl) k.children c one) is lt refl in
          on_end (Unread id) (eq-eqb id id refl) refl (unread_child k es c one is r.0) r.1)
          (λ st f s.
          let r = behind_close (kept_after rules.plan k (Ended id st)) es (sound_on Runs Closed (Ended id st) es (own_if id Closed Runs) s) (without_one k c one) in
          on_end (Ended id st) (eq-eqb id id refl) refl (ended_child k es c st one is lt r.none_given) r.none_heard)
          (λ f s.
          let r = behind_close (kept_after rules.plan k (Abandoned id)) es (sound_on Runs Closed (Abandoned id) es (own_if id Closed Runs) s) (without_one k c one) in
          on_gone (gone_child k es r.none_given) r.none_heard r.none_over)
          x own further

      at : (b : Bool) → is_of id e ≡ b → ((d : Child) → Sound Runs es → mine id (kept_after rules.plan k e).children ≡ d ∷ [] → d.id ≡ id → d.place < length rules.plan.cmds → IsUncut d.rest → Gives (kept_after rules.plan k e) d es) → Gives k c (e ∷ es)
      at true own further = by e further own h
      at false other further =
          let r = reads_other e other in
          given_skip k e es other ∙ further c (sound_on Runs Runs e es ((skips id e other).life Runs) h) ((other_event id rules k e other).0 ∙ one) is lt u
          ∙ ap (λ q. as_lines (lines_by (over es) (c.rest ++ (q ++ heard id es)))) (sym r.0)
          ∙ ap (λ b. as_lines (lines_by (b || over es) (c.rest ++ heard id (e ∷ es)))) (sym r.1)

  -- The lines of a child that a part starts.
  starts : (total : Option ℕ) (k : Kept) (es : List Event) → Sound Unstarted es → mine id k.children ≡ [] → Along rules total (run_of k) es → given k es ≡ as_lines (lines_by (over es) (heard id es))
  unfolding given as_lines
  starts total k [] h none good = sym (ap as_lines (uncut_whole [] tt) ∙ no_lines)
  starts total k (e ∷ es) h none good = at (is_of id e) refl (starts total (kept_after rules.plan k e) es)
    where
      begins : (role : Role) (cmd : CommandSeen) (pipes : Pipes) (held : ℕ) → Sound Unstarted (Started id role cmd pipes held ∷ es) → Along rules total (run_of k) (Started id role cmd pipes held ∷ es) → given k (Started id role cmd pipes held ∷ es) ≡ as_lines (lines_by (over es) (heard id es))
      begins role cmd pipes held s good =
          let x = Started id role cmd pipes held in
          let place : ℕ = good.0.place in
          let next : next_place rules.plan k.marks ≡ Some place = good.0.next in
          let lt : place < length rules.plan.cmds = (next_some rules.plan k.marks place next).below in
          let c : Child = record { id = id; place = place; rest = [] } in
          let own : mine id (kept_after rules.plan k x).children ≡ c ∷ [] = ap (λ o. mine id (with_child id o k).children) next ∙ filter-append (λ x. x.id == id) k.children (c ∷ []) ∙ ap (λ l. l ++ mine id (c ∷ [])) none ∙ keep id c [] (eq-eqb id id refl) in
          given_more k x es ∙ ap (λ l. l ++ given (kept_after rules.plan k x) es) (untold_start (is_stderr id) (λ m. refl) rules.shows cmd (next_planned rules.plan k.marks) ∙ announced_other id rules.shows cmd)
          ∙ runs (kept_after rules.plan k x) es c (sound_on Unstarted Runs x es (own_if id Runs Unstarted) s) own refl lt tt

      at : (b : Bool) → is_of id e ≡ b → (Sound Unstarted es → mine id (kept_after rules.plan k e).children ≡ [] → Along rules total (run_of (kept_after rules.plan k e)) es → given (kept_after rules.plan k e) es ≡ as_lines (lines_by (over es) (heard id es))) → given k (e ∷ es) ≡ as_lines (lines_by (over (e ∷ es)) (heard id (e ∷ es)))
      at true own further = own_by id (λ x. Sound Unstarted (x ∷ es) → Along rules total (run_of k) (x ∷ es) → given k (x ∷ es) ≡ as_lines (lines_by (over (x ∷ es)) (heard id (x ∷ es))))
          begins
          (λ p s f. absurd (unsound Unstarted (Heard id p) es (own_if id Amiss Unstarted) s))
          (λ s f. absurd (unsound Unstarted (Unread id) es (own_if id Amiss Unstarted) s))
          (λ st s f. absurd (unsound Unstarted (Ended id st) es (own_if id Amiss Unstarted) s))
          (λ s f. absurd (unsound Unstarted (Abandoned id) es (own_if id Amiss Unstarted) s))
          e own h good
      at false other further =
          let r = reads_other e other in
          given_skip k e es other ∙ further (sound_on Unstarted Unstarted e es ((skips id e other).life Unstarted) h) ((other_event id rules k e other).0 ∙ none) (subst (λ r. Along rules total r es) (sym (kept_run_after rules.plan k e)) good.1)
          ∙ ap (λ q. as_lines (lines_by (over es) (q ++ heard id es))) (sym r.0)
          ∙ ap (λ b. as_lines (lines_by (b || over es) (heard id (e ∷ es)))) (sym r.1)

  child_given : (total : Option ℕ) (k : Kept) (part : List Event) → (life_from id Unstarted part ≡ Amiss → ⊥) → k.children ≡ [] → Along rules total (run_of k) part → filter (is_stderr id) (due_from rules k part) ≡ stderr_given rules.shows id part
  unfolding given as_lines
  child_given total k part h none good = starts total k part h (ap (mine id) none) good

-- Events that are none of a standard error, and give no line: the cause of an end, and children that are abandoned.
record IsStill (rules : Rules) (id : ℕ) (es : List Event) : Type 0 where
  none_started : started_ids es ≡ []
  none_read : heard id es ≡ []
  none_ended : list_any (is_over id) es ≡ false
  none_due : (k : Kept) → due_from rules k es ≡ []

still_none : (rules : Rules) (id : ℕ) → IsStill rules id []
still_none rules id = record { none_started = refl; none_read = refl; none_ended = refl; none_due = λ k. refl }

still_gone : (rules : Rules) (id : ℕ) (cs : List (ℕ × ℕ)) → IsStill rules id (gone cs)
still_gone rules id [] = still_none rules id
still_gone rules id (c ∷ cs) =
    let h : IsStill rules id (gone cs) = still_gone rules id cs in
    record { none_started = h.none_started; none_read = h.none_read; none_ended = h.none_ended; none_due = λ k. h.none_due (kept_after rules.plan k (Abandoned c.0)) }

still_fault : (rules : Rules) (id : ℕ) (call : HostCall) (why : Why) (es : List Event) → IsStill rules id es → IsStill rules id (Fault call why ∷ es)
still_fault rules id call why es h = record { none_started = h.none_started; none_read = h.none_read; none_ended = h.none_ended; none_due = h.none_due }

still_missing : (rules : Rules) (id : ℕ) (role : Role) (cmd : CommandSeen) (es : List Event) → IsStill rules id es → IsStill rules id (Missing role cmd ∷ es)
still_missing rules id role cmd es h = record { none_started = h.none_started; none_read = h.none_read; none_ended = h.none_ended; none_due = h.none_due }

still_cause : (rules : Rules) (id : ℕ) (cmds : List Planned) (e : RunError) (tail es : List Event) → IsCause cmds e tail → IsStill rules id es → IsStill rules id (tail ++ es)
still_cause rules id cmds (ToolNotFound n) tail es (p, c) h = subst (λ t. IsStill rules id (t ++ es)) (sym c.1) (still_missing rules id p.role p.cmd es h)
still_cause rules id cmds (StartFault n) tail es (why, c) h = subst (λ t. IsStill rules id (t ++ es)) (sym c) (still_fault rules id Start why es h)
still_cause rules id cmds WaitFault tail es (why, c) h = subst (λ t. IsStill rules id (t ++ es)) (sym c) (still_fault rules id Turning why es h)
still_cause rules id cmds (HostFault call why) tail es c h = subst (λ t. IsStill rules id (t ++ es)) (sym c) (still_fault rules id call why es h)
still_cause rules id cmds (Failed n s) tail es c h = subst (λ t. IsStill rules id (t ++ es)) (sym c) h
still_cause rules id cmds JobFault tail es c h = subst (λ t. IsStill rules id (t ++ es)) (sym c) h
still_cause rules id cmds TurnsSpent tail es c h = subst (λ t. IsStill rules id (t ++ es)) (sym c) h
still_cause rules id cmds NoMemory tail es c h = subst (λ t. IsStill rules id (t ++ es)) (sym c) h

still_end : (rules : Rules) (id : ℕ) (done : State) (result : Result (List Mark) RunError) (tail es : List Event) → EndsBy rules done result tail → IsStill rules id es → IsStill rules id (tail ++ es)
still_end rules id done (Ok marks) tail es c h = subst (λ t. IsStill rules id (t ++ es)) (sym c.2) h
still_end rules id done (Err e) tail es c h = still_cause rules id rules.plan.cmds e tail es c.1 h

-- Behind a part, such events change nothing of what a child gave.
module _ (rules : Rules) (id : ℕ) (part es : List Event) (still : IsStill rules id es) where
  still_ids : started_ids (part ++ es) ≡ started_ids part
  still_ids = flat_map-append id_of part es ∙ ap (λ l. started_ids part ++ l) still.none_started ∙ append-nil (started_ids part)

  still_due : (k : Kept) → due_from rules k (part ++ es) ≡ due_from rules k part
  still_due k = due_both rules k part es ∙ ap (λ l. due_from rules k part ++ l) (still.none_due (kept_from rules.plan k part)) ∙ append-nil (due_from rules k part)

  still_heard : heard id (part ++ es) ≡ heard id part
  still_heard = flat_map-append (heard_of id) part es ∙ ap (λ l. heard id part ++ l) still.none_read ∙ append-nil (heard id part)

  still_over : list_any (is_over id) (part ++ es) ≡ list_any (is_over id) part
  still_over = along part
    where
      along : (xs : List Event) → list_any (is_over id) (xs ++ es) ≡ list_any (is_over id) xs
      along [] = still.none_ended
      along (x ∷ xs) = ap (λ b. is_over id x || b) (along xs)

  still_given : stderr_given rules.shows id (part ++ es) ≡ stderr_given rules.shows id part
  still_given = ap (λ b. when rules.shows.warnings (map (stderr_line id) (lines_by b (heard id (part ++ es))))) still_over ∙ ap (λ q. when rules.shows.warnings (map (stderr_line id) (lines_by (list_any (is_over id) part) q))) still_heard

-- Of each child that was started, the lines of its standard error were printed.
pub ran_stderr : {T : Type 0} (rules : Rules) (total : Option ℕ) (old : State) (general : Result (List Mark) RunError) (log : List Event) (patience : Option ℕ) (seat : SeatSeen) (turns : TurnsSeen) (result : Result T RunError) → old.kept ≡ nothing_kept → RanAll rules total old general log patience seat turns → IsPrinted rules nothing_kept result (since old.log log) → ForwardsEach rules.shows result (since old.log log)
ran_stderr rules total old general log patience seat turns result fresh ran q = λ id has.
    let part = ran.works.part in
    let rest = ran.tail ++ gone (run_of ran.done.kept).live in
    let still : IsStill rules id rest = still_end rules id ran.done general ran.tail (gone (run_of ran.done.kept).live) ran.ends (still_gone rules id (run_of ran.done.kept).live) in
    let same : log ≡ old.log ++ (part ++ rest) = ran.adds ∙ ap (λ l. l ++ rest) ran.works.adds ∙ append_assoc old.log part rest in
    let whole : since old.log log ≡ part ++ rest = ap (since old.log) same ∙ since_append old.log (part ++ rest) in
    let mid : since old.log ran.done.log ≡ part = ap (since old.log) ran.works.adds ∙ since_append old.log part in
    let here : Contains (started_ids (since old.log ran.done.log)) id = subst (λ l. Contains l id) (ap started_ids whole ∙ still_ids rules id part rest still ∙ ap started_ids (sym mid)) has in
    let sound : life_from id Unstarted part ≡ Amiss → ⊥ = subst (λ p. life_from id Unstarted p ≡ Amiss → ⊥) mid (part_sound id old.log ran.done.log ran.works.lives here) in
    let good : Along rules total (run_of nothing_kept) part = subst (λ k. Along rules total (run_of k) part) fresh ran.works.good in
    let all : filter (is_stderr id) (due_from rules nothing_kept (since old.log log)) ≡ stderr_given rules.shows id (since old.log log) =
    ap (λ p. filter (is_stderr id) (due_from rules nothing_kept p)) whole ∙ ap (filter (is_stderr id)) (still_due rules id part rest still nothing_kept)
    ∙ child_given rules id total nothing_kept part sound refl good
    ∙ sym (still_given rules id part rest still) ∙ ap (stderr_given rules.shows id) (sym whole) in
    sifted (is_stderr id) rules nothing_kept (since old.log log) (stderr_given rules.shows id (since old.log log)) (λ m. refl) (announced_other id rules.shows) all result q.0
