-- Laws on the lines of one kind among those that a run prints.
use Rattle.std.proofs.Common.{◌≡◌, ℕ, ◌<◌, ◌==◌, zero, suc, Bool, true, false, cond, List, [], ◌∷◌, ◌++◌, length, map, take, refl, sym, ◌∙◌, ap, subst, if◌then◌else◌}
use Rattle.std.specs.Prelude.{Result, Ok, Err, Option, None, Some, filter, option_to_list, not, ◌&&◌}
use Rattle.std.specs.List.{flat_map}
use Rattle.std.proofs.lemmas.List.{append-nil}
use Rattle.std.proofs.lemmas.List.Elements.{filter-append}
use Rattle.cc_text.specs.Words.{when}
use Rattle.cc_host.specs.Command.{CommandSeen}
use Rattle.cc_host.specs.CommandLine.{command_line}
use Rattle.cc_host.specs.Status.{is_success}
use Rattle.cc_host.specs.declared.event.LineKind.TheVariants.{Warning}
use Rattle.cc_host.specs.declared.event.Status.{Status}
use Rattle.cc_host.specs.declared.event.Message.{Message}
use Rattle.cc_host.specs.declared.event.Message.TheVariants.{GeneralWarning, CommandFailed, Compiles}
use Rattle.cc_host.specs.declared.event.Event.{Event}
use Rattle.cc_host.specs.declared.event.Event.TheVariants.{Started, Ended, Abandoned, Heard, Unread, Turn, Answered, Reused, Unasked, Drawn, Opened, Taken, Dropped, Ran, Missing, Made, Removed, Wrote, Copied, Here, Said, Printed, Listed, Fault}
use Rattle.cc_run.specs.Children.{Kept, run_of, seat}
use Rattle.cc_run.specs.Lines.{last_line}
use Rattle.cc_run.specs.Plan.{Plan, next_place, next_planned}
use Rattle.cc_run.specs.Printing.{printed, kept_after, kept_from, due, due_from, due_next, next_lines, lines_along, PrintsAll}
use Rattle.cc_run.specs.Rules.{Rules}
use Rattle.cc_run.specs.Run.{Run, run_after, joined, without}
use Rattle.cc_run.specs.Stderr.{IsForwarded}
use Rattle.cc_run.specs.Forwarded.{given_lines, rest_lines, unread_lines, ended_lines}
use Rattle.cc_run.specs.Messages.{before, compiles, forwarding, told_lines}
use Rattle.cc_run.specs.Texts.{announced, cargo_line, stderr_line, debug_line, ended_text, failed_text, failed_line, unread_text}
use Rattle.cc_run.specs.declared.error.RunError.{RunError}
use Rattle.cc_run.specs.declared.error.RunError.TheVariants.{ToolNotFound, Failed, StartFault, WaitFault, HostFault, JobFault, TurnsSpent, NoMemory}
use Rattle.cc_run.specs.declared.planned.Planned.{Planned}
use Rattle.cc_run.specs.declared.planned.Shows.{Shows}
use Rattle.cc_run.specs.declared.print.Notice.{Notice}
use Rattle.cc_run.specs.declared.print.Notice.TheVariants.{Told}
use Rattle.cc_run.specs.declared.running.Child.{Child}
use Rattle.cc_run.proofs.Firsts.{next_some}
use Rattle.cc_run.proofs.KeptLemmas.{kept_run_after}

pub filter_when : (p : Notice → Bool) (b : Bool) (ls : List Notice) → filter p (when b ls) ≡ when b (filter p ls)
filter_when p true ls = refl
filter_when p false ls = refl

pub when_none : (b : Bool) → when {X = Notice} b [] ≡ []
when_none true = refl
when_none false = refl

pub filter_told : {X : Type 0} (p : Notice → Bool) → ((m : Message) → p (Told m) ≡ false) → (f : X → Message) (xs : List X) → filter p (map (λ x. Told (f x)) xs) ≡ []
filter_told p h f [] = refl
filter_told p h f (x ∷ xs) = ap (λ b. cond b (Told (f x) ∷ filter p (map (λ y. Told (f y)) xs)) (filter p (map (λ y. Told (f y)) xs))) (h (f x)) ∙ filter_told p h f xs

pub filter_flat : {X : Type 0} (p : Notice → Bool) (f : X → List Notice) → ((x : X) → filter p (f x) ≡ []) → (xs : List X) → filter p (flat_map f xs) ≡ []
filter_flat p f h [] = refl
filter_flat p f h (x ∷ xs) = filter-append p (f x) (flat_map f xs) ∙ ap (λ l. l ++ filter p (flat_map f xs)) (h x) ∙ filter_flat p f h xs

-- the lines of a rest, without their messages
abbrev pub raw_rest : Shows → Child → List Notice
raw_rest shows c = when shows.warnings (map (stderr_line c.id) (option_to_list (last_line c.rest)))

-- Among those that are no messages.
module _ (p : Notice → Bool) (silent : (m : Message) → p (Told m) ≡ false) (shows : Shows) where
  untold_compiles : (x : Planned) → filter p (compiles shows x) ≡ []
  unfolding compiles
  untold_compiles x = filter_when p shows.listens _ ∙ ap (when shows.listens) (filter_told p silent (λ c. Compiles (command_line x.cmd) c) (option_to_list x.message)) ∙ when_none shows.listens

  -- the message of a start
  pub untold_start : (cmd : CommandSeen) (ps : List Planned) → filter p (announced shows cmd ++ flat_map (compiles shows) ps) ≡ filter p (announced shows cmd)
  untold_start cmd ps = filter-append p (announced shows cmd) _ ∙ ap (λ l. filter p (announced shows cmd) ++ l) (filter_flat p (compiles shows) untold_compiles ps) ∙ append-nil _

  pub untold_before : (x : Planned) → filter p (before shows x) ≡ filter p (announced shows x.cmd)
  untold_before x = filter-append p (announced shows x.cmd) _ ∙ ap (λ l. filter p (announced shows x.cmd) ++ l) (untold_compiles x) ∙ append-nil _

  untold_lines : (o : Option Planned) (ls : List (List ℕ)) → filter p (told_lines shows o ls) ≡ []
  untold_lines None ls = refl
  untold_lines (Some q) ls = filter_when p shows.listens _ ∙ ap (when shows.listens) (filter_told p silent (forwarding q.cmd) ls) ∙ when_none shows.listens

  -- the messages of lines
  pub untold_given : (o : Option Planned) (id : ℕ) (ls : List (List ℕ)) → filter p (given_lines shows o id ls) ≡ filter p (when shows.warnings (map (stderr_line id) ls))
  untold_given o id ls = filter-append p (when shows.warnings (map (stderr_line id) ls)) _ ∙ ap (λ l. filter p (when shows.warnings (map (stderr_line id) ls)) ++ l) (untold_lines o ls) ∙ append-nil _

  -- one message behind others
  pub untold_last : (xs : List Notice) (b : Bool) (m : Message) → filter p (xs ++ when b (Told m ∷ [])) ≡ filter p xs
  untold_last xs b m =
      let one : filter p (Told m ∷ []) ≡ [] = ap (λ c. cond c (Told m ∷ []) []) (silent m) in
      filter-append p xs _ ∙ ap (λ l. filter p xs ++ l) (filter_when p b _ ∙ ap (when b) one ∙ when_none b) ∙ append-nil _

  -- the message of a standard error that can't be read, and that of a failure
  pub untold_unread : (o : Option Planned) (c : Child) → filter p (unread_lines shows o c) ≡ filter p (rest_lines shows o c ++ when shows.warnings (cargo_line Warning unread_text ∷ []))
  untold_unread o c = untold_last (rest_lines shows o c ++ when shows.warnings (cargo_line Warning unread_text ∷ [])) shows.listens (GeneralWarning unread_text)

  pub untold_ended : (warns : Bool) (q : Planned) (s : Status) (c : Child) → filter p (ended_lines shows warns q s c) ≡ filter p (rest_lines shows (Some q) c ++ when shows.debug (debug_line (ended_text s) ∷ []) ++ when (warns && shows.warnings && not (is_success s)) (failed_line s q.cmd ∷ []))
  untold_ended warns q s c = untold_last (rest_lines shows (Some q) c ++ when shows.debug (debug_line (ended_text s) ∷ []) ++ when (warns && shows.warnings && not (is_success s)) (failed_line s q.cmd ∷ [])) (shows.listens && not (is_success s)) (CommandFailed s (failed_text s q.cmd) q.cmd)

-- the first of some lines, and those of one kind among them
filter_first : (p : Notice → Bool) (n : ℕ) (xs : List Notice) → (m : ℕ) × (filter p (take n xs) ≡ take m (filter p xs))
filter_first p zero xs = (zero, refl)
filter_first p (suc n) [] = (zero, refl)
filter_first p (suc n) (x ∷ xs) = at (p x) (filter_first p n xs)
  where
    at : (b : Bool) → (m : ℕ) × (filter p (take n xs) ≡ take m (filter p xs)) → (m : ℕ) × (cond b (x ∷ filter p (take n xs)) (filter p (take n xs)) ≡ take m (cond b (x ∷ filter p xs) (filter p xs)))
    at true (m, h) = (suc m, ap (λ l. x ∷ l) h)
    at false (m, h) = (m, h)

-- the places of these children are below a bound
abbrev pub AreBelow : ℕ → List (ℕ × ℕ) → Type 0
AreBelow bound [] = Unit {0}
AreBelow bound (c ∷ cs) = (c.1 < bound) × AreBelow bound cs

below_joined : (bound id : ℕ) (o : Option ℕ) (cs : List (ℕ × ℕ)) → ((p : ℕ) → o ≡ Some p → p < bound) → AreBelow bound cs → AreBelow bound (joined id o cs)
below_joined bound id None cs lt h = h
below_joined bound id (Some p) [] lt h = (lt p refl, tt)
below_joined bound id (Some p) (c ∷ cs) lt h = (h.0, below_joined bound id (Some p) cs lt h.1)

below_without : (bound id : ℕ) (cs : List (ℕ × ℕ)) → AreBelow bound cs → AreBelow bound (without id cs)
below_without bound id [] h = tt
below_without bound id (c ∷ cs) h = at (c.0 == id) (below_without bound id cs h.1)
  where
    at : (b : Bool) → AreBelow bound (without id cs) → AreBelow bound (if b then cs else c ∷ without id cs)
    at true k = h.1
    at false k = (h.0, k)

-- What is started stands in the plan, so the children that run do.
below_after : (plan : Plan) (r : Run) (e : Event) → AreBelow (length plan.cmds) r.live → AreBelow (length plan.cmds) (run_after plan r e).live
below_after plan r (Started id role cmd pipes held) h = below_joined (length plan.cmds) id (next_place plan r.marks) r.live (λ p e. (next_some plan r.marks p e).below) h
below_after plan r (Ended id s) h = below_without (length plan.cmds) id r.live h
below_after plan r (Abandoned id) h = below_without (length plan.cmds) id r.live h
below_after plan r (Heard id p) h = h
below_after plan r (Unread id) h = h
below_after plan r (Turn count) h = h
below_after plan r (Answered q f o) h = h
below_after plan r (Reused q v) h = h
below_after plan r (Unasked q) h = h
below_after plan r (Drawn w) h = h
below_after plan r (Opened p b) h = h
below_after plan r (Taken p) h = h
below_after plan r (Dropped p) h = h
below_after plan r (Ran role cmd pipes status out err) h = h
below_after plan r (Missing role cmd) h = h
below_after plan r (Made scope p) h = h
below_after plan r (Removed p how) h = h
below_after plan r (Wrote p bytes) h = h
below_after plan r (Copied a_file to_file) h = h
below_after plan r (Here here) h = h
below_after plan r (Said message) h = h
below_after plan r (Printed kind b) h = h
below_after plan r (Listed vars) h = h
below_after plan r (Fault call why) h = h

-- lines of one kind, event by event
pub along_due : (p : Notice → Bool) (f : Run → Event → List Notice) (rules : Rules) → ((k : Kept) (e : Event) → AreBelow (length rules.plan.cmds) (map seat k.children) → filter p (due rules k e) ≡ f (run_of k) e) → (k : Kept) (es : List Event) → AreBelow (length rules.plan.cmds) (map seat k.children) → filter p (due_from rules k es) ≡ lines_along rules.plan f (run_of k) es
along_due p f rules one k [] h = refl
along_due p f rules one k (e ∷ es) h =
    let k' = kept_after rules.plan k e in
    let same : run_of k' ≡ run_after rules.plan (run_of k) e = kept_run_after rules.plan k e in
    let below : AreBelow (length rules.plan.cmds) (map seat k'.children) = subst (λ r. AreBelow (length rules.plan.cmds) r.live) (sym same) (below_after rules.plan (run_of k) e h) in
    filter-append p (due rules k e) (due_from rules k' es)
    ∙ ap (λ l. l ++ filter p (due_from rules k' es)) (one k e h)
    ∙ ap (λ l. f (run_of k) e ++ l) (along_due p f rules one k' es below ∙ ap (λ r. lines_along rules.plan f r es) same)

-- What was printed of a kind that no line before a command has, by the answer.
module _ (p : Notice → Bool) (rules : Rules) (k : Kept) (part : List Event) (wanted : List Notice) where
  pub sifted : {T : Type 0} → ((m : Message) → p (Told m) ≡ false) → ((cmd : CommandSeen) → filter p (announced rules.shows cmd) ≡ []) → filter p (due_from rules k part) ≡ wanted → (result : Result T RunError) → PrintsAll rules k result part → IsForwarded result (filter p (printed part)) wanted
  sifted silent none all result q = by result q
    where
      next : filter p (due_next rules k part) ≡ wanted
      next = filter-append p (due_from rules k part) (next_lines rules (kept_from rules.plan k part)) ∙ ap (λ l. filter p (due_from rules k part) ++ l) (filter_flat p (before rules.shows) (λ x. untold_before p silent rules.shows x ∙ none x.cmd) (next_planned rules.plan (kept_from rules.plan k part).marks)) ∙ append-nil _ ∙ all

      some : (n : ℕ) → printed part ≡ take n (due_next rules k part) → (m : ℕ) × (filter p (printed part) ≡ take m wanted)
      some n e = let f = filter_first p n (due_next rules k part) in (f.0, ap (filter p) e ∙ f.1 ∙ ap (take f.0) next)

      by : {T : Type 0} (result : Result T RunError) → PrintsAll rules k result part → IsForwarded result (filter p (printed part)) wanted
      by (Ok x) q = ap (filter p) q ∙ all
      by (Err (ToolNotFound n)) q = ap (filter p) q ∙ next
      by (Err (StartFault n)) q = ap (filter p) q ∙ next
      by (Err (HostFault call why)) (n, e) = some n e
      by (Err NoMemory) (n, e) = some n e
      by (Err (Failed n s)) q = ap (filter p) q ∙ all
      by (Err WaitFault) q = ap (filter p) q ∙ all
      by (Err JobFault) q = ap (filter p) q ∙ all
      by (Err TurnsSpent) q = ap (filter p) q ∙ all
