-- Laws on the lines that a run prints.
use Rattle.std.proofs.Common.{◌≡◌, ◌⊎◌, ℕ, ◌+◌, ◌≤◌, zero, suc, inl, inr, Bool, true, false, List, [], ◌∷◌, ◌++◌, ◌==◌, length, map, take, drop, refl, sym, ◌∙◌, ap, subst, append_assoc, zero-add, arith, if◌then◌else◌}
use Rattle.std.specs.Prelude.{Result, Ok, Err, Option, None, Some, IfErr}
use Rattle.std.specs.List.{flat_map, slice_get}
use Rattle.std.specs.Result.{result_and}
use Rattle.std.proofs.Math.Seq.{take-append-add}
use Rattle.std.proofs.lemmas.List.{append-nil, map-append, take-append-le}
use Rattle.std.proofs.lemmas.List.Sums.{sum_by-append}
use Rattle.std.proofs.lemmas.Grind.{flat_map-append}
use Rattle.cc_host.specs.Command.{CommandSeen}
use Rattle.cc_host.specs.Event.{reported, heard, unread, ended}
use Rattle.cc_host.specs.Part.{since}
use Rattle.cc_host.proofs.Parts.{since_append, since_since}
use Rattle.cc_host.specs.declared.event.Event.{Event}
use Rattle.cc_host.specs.declared.event.Event.TheVariants.{Started, Ended, Abandoned, Heard, Unread, Turn, Answered, Reused, Unasked, Drawn, Opened, Taken, Dropped, Ran, Missing, Made, Removed, Wrote, Copied, Here, Said, Printed, Listed, Fault}
use Rattle.cc_host.specs.declared.event.News.{News}
use Rattle.cc_host.specs.declared.event.Pipes.{Pipes}
use Rattle.cc_host.specs.declared.event.Role.{Role}
use Rattle.cc_host.specs.declared.event.Status.{Status}
use Rattle.cc_host.specs.declared.event.HostCall.TheVariants.{Start}
use Rattle.cc_run.specs.Children.{Kept, run_of, seat}
use Rattle.cc_run.specs.Forwarded.{fed, emptied}
use Rattle.cc_run.specs.Hearing.{at_child, children_from, owed_from, reports}
use Rattle.cc_run.specs.Marks.{last_failure}
use Rattle.cc_run.specs.Outcome.{IsUnturned, by_failure, list_result}
use Rattle.cc_run.specs.Plan.{Plan, next_place, next_planned, planned_at}
use Rattle.cc_run.specs.Planned.{pipes_of}
use Rattle.cc_run.specs.Paid.{starts, starts_of}
use Rattle.cc_run.specs.Printing.{printed, printed_of, with_child, kept_after, kept_from, due, due_from, due_next, next_lines, IsPrinted, PrintsAll, PrintsInTime}
use Rattle.cc_run.specs.Rules.{Rules}
use Rattle.cc_run.specs.Run.{Run, run_after, run_from, gone, joined, began, over, place_of}
use Rattle.cc_run.specs.Prints.{ArePrinted, IsPrintError, prints, print_fault}
use Rattle.cc_run.specs.Started.{IsStart}
use Rattle.cc_run.specs.Messages.{before, compiles}
use Rattle.cc_run.specs.Texts.{announced}
use Rattle.cc_run.specs.declared.error.RunError.{RunError}
use Rattle.cc_run.specs.declared.error.RunError.TheVariants.{ToolNotFound, Failed, StartFault, WaitFault, HostFault, JobFault, TurnsSpent, NoMemory}
use Rattle.cc_run.specs.declared.mark.Mark.{Mark}
use Rattle.cc_run.specs.declared.mark.Mark.TheVariants.{Began}
use Rattle.cc_run.specs.declared.planned.Planned.{Planned}
use Rattle.cc_run.specs.declared.print.Notice.{Notice}
use Rattle.cc_run.specs.declared.print.Notice.TheVariants.{Shown, Told}
use Rattle.cc_run.specs.declared.running.Child.{Child}
use Rattle.cc_run.proofs.HearingLemmas.{children_both, owed_both}
use Rattle.cc_run.proofs.KeptLemmas.{kept_both, kept_run, kept_same}
use Rattle.cc_run.proofs.Quiet.{prints_starts, behind_starts}

module _ (rules : Rules) where
  pub due_both : (k : Kept) (a b : List Event) → due_from rules k (a ++ b) ≡ due_from rules k a ++ due_from rules (kept_from rules.plan k a) b
  due_both k [] b = refl
  due_both k (e ∷ a) b = ap (λ l. due rules k e ++ l) (due_both (kept_after rules.plan k e) a b) ∙ sym (append_assoc (due rules k e) _ _)

  -- the news of a child
  reported_due : (k : Kept) (n : News) → ((kept_from rules.plan k (reported n)).children ≡ children_from k.children (reported n)) × (due_from rules k (reported n) ≡ owed_from rules.shows rules.warns rules.plan.cmds k.children (reported n))
  reported_due k n = said n.id n.piece n.unread n.ended
    where
      said : (id : ℕ) (piece : Option (List ℕ)) (un : Bool) (end : Option Status) → ((kept_from rules.plan k (heard id piece ++ unread id un ++ ended id end)).children ≡ children_from k.children (heard id piece ++ unread id un ++ ended id end)) × (due_from rules k (heard id piece ++ unread id un ++ ended id end) ≡ owed_from rules.shows rules.warns rules.plan.cmds k.children (heard id piece ++ unread id un ++ ended id end))
      said id None false None = (refl, refl)
      said id None false (Some s) = (refl, refl)
      said id None true None = (refl, refl)
      said id None true (Some s) = (refl, refl)
      said id (Some p) false None = (refl, refl)
      said id (Some p) false (Some s) = (refl, refl)
      said id (Some p) true None = (refl, refl)
      said id (Some p) true (Some s) = (refl, refl)

  -- the news of a turn
  pub news_due : (k : Kept) (ns : List News) → ((kept_from rules.plan k (flat_map reported ns)).children ≡ children_from k.children (flat_map reported ns)) × (due_from rules k (flat_map reported ns) ≡ owed_from rules.shows rules.warns rules.plan.cmds k.children (flat_map reported ns))
  news_due k [] = (refl, refl)
  news_due k (n ∷ ns) =
      let one = reported_due k n in
      let more = news_due (kept_from rules.plan k (reported n)) ns in (
        ap (λ q. q.children) (kept_both rules.plan k (reported n) (flat_map reported ns)) ∙ more.0 ∙ ap (λ cs. children_from cs (flat_map reported ns)) one.0 ∙ sym (children_both k.children (reported n) (flat_map reported ns)),
        due_both k (reported n) (flat_map reported ns) ∙ ap (λ l. l ++ due_from rules (kept_from rules.plan k (reported n)) (flat_map reported ns)) one.1
            ∙ ap (λ l. owed_from rules.shows rules.warns rules.plan.cmds k.children (reported n) ++ l) (more.1 ∙ ap (λ cs. owed_from rules.shows rules.warns rules.plan.cmds cs (flat_map reported ns)) one.0)
            ∙ sym (owed_both rules.shows rules.warns rules.plan.cmds k.children (reported n) (flat_map reported ns)),
      )

  -- lines that were printed give no further ones
  pub prints_due : (k : Kept) (ls : List Notice) → (kept_from rules.plan k (prints ls) ≡ k) × (due_from rules k (prints ls) ≡ [])
  prints_due k [] = (refl, refl)
  prints_due k (Shown kind bytes ∷ ls) = prints_due k ls
  prints_due k (Told message ∷ ls) = prints_due k ls

  -- nor does the fault of one that was refused
  pub fault_due : (k : Kept) (e : RunError) → (kept_from rules.plan k (print_fault e) ≡ k) × (due_from rules k (print_fault e) ≡ []) × (printed (print_fault e) ≡ [])
  fault_due k (HostFault call why) = (refl, refl, refl)
  fault_due k (ToolNotFound n) = (refl, refl, refl)
  fault_due k (Failed n s) = (refl, refl, refl)
  fault_due k (StartFault n) = (refl, refl, refl)
  fault_due k WaitFault = (refl, refl, refl)
  fault_due k JobFault = (refl, refl, refl)
  fault_due k TurnsSpent = (refl, refl, refl)
  fault_due k NoMemory = (refl, refl, refl)

  -- nor do children that are abandoned
  pub gone_due : (k : Kept) (cs : List (ℕ × ℕ)) → ((kept_from rules.plan k (gone cs)).marks ≡ k.marks) × (due_from rules k (gone cs) ≡ []) × (printed (gone cs) ≡ [])
  gone_due k [] = (refl, refl, refl)
  gone_due k (c ∷ cs) = gone_due (kept_after rules.plan k (Abandoned c.0)) cs

pub prints_printed : (ls : List Notice) → printed (prints ls) ≡ ls
prints_printed [] = refl
prints_printed (Shown kind bytes ∷ ls) = ap (λ k. Shown kind bytes ∷ k) (prints_printed ls)
prints_printed (Told message ∷ ls) = ap (λ k. Told message ∷ k) (prints_printed ls)

-- a place in two lists
cut_in : {X : Type 0} (a b front back : List X) (x : X) → a ++ b ≡ front ++ x ∷ back → ((more : List X) × (a ≡ front ++ x ∷ more)) ⊎ ((more : List X) × ((front ≡ a ++ more) × (b ≡ more ++ x ∷ back)))
cut_in [] b front back x e = inr (front, (refl, e))
cut_in (y ∷ a) b [] back x e = let k : y ≡ x = cc in inl (a, ap (λ z. z ∷ a) k)
cut_in (y ∷ a) b (z ∷ front) back x e =
    let k : y ≡ z = cc in
    let l : a ++ b ≡ front ++ x ∷ back = cc in
    elim (cut_in a b front back x l) [ inl m ↦ inl (m.0, ap (λ w. w ∷ a) k ∙ ap (λ w. z ∷ w) m.1) | inr m ↦ inr (m.0, (ap (λ w. z ∷ w) m.1.0 ∙ ap (λ w. w ∷ (a ++ m.0)) (sym k), m.1.1)) ]

-- no place in a part is a start
not_there : (part front back : List Event) (id : ℕ) (role : Role) (cmd : CommandSeen) (pipes : Pipes) (held : ℕ) → starts part ≡ 0 → part ≡ front ++ Started id role cmd pipes held ∷ back → ⊥
not_there part front back id role cmd pipes held z e =
    let st = Started id role cmd pipes held in
    let one : starts part ≡ starts front + starts (st ∷ back) = ap starts e ∙ sum_by-append starts_of front (st ∷ back) in
    let two : starts (st ∷ back) ≡ 1 + starts back = sum_by-append starts_of (st ∷ []) back in
    absurd (omega (arith, z, one, two))

gone_starts : (cs : List (ℕ × ℕ)) → starts (gone cs) ≡ 0
gone_starts [] = refl
gone_starts (c ∷ cs) = gone_starts cs

-- Parts without starts, and one part after another.
module _ (rules : Rules) where
  pub unstarted_in_time : (k : Kept) (part : List Event) → starts part ≡ 0 → PrintsInTime rules k part
  unfolding PrintsInTime
  unstarted_in_time k part z = λ front back id role cmd pipes held e. absurd (not_there part front back id role cmd pipes held z e)

  -- a part without starts behind one
  quiet_in_time : (k : Kept) (a b : List Event) → PrintsInTime rules k a → starts b ≡ 0 → PrintsInTime rules k (a ++ b)
  unfolding PrintsInTime
  quiet_in_time k a b s z = λ front back id role cmd pipes held e. at front back id role cmd pipes held (cut_in a b front back (Started id role cmd pipes held) e)
    where
      at : (front back : List Event) (id : ℕ) (role : Role) (cmd : CommandSeen) (pipes : Pipes) (held : ℕ) → ((more : List Event) × (a ≡ front ++ Started id role cmd pipes held ∷ more)) ⊎ ((more : List Event) × ((front ≡ a ++ more) × (b ≡ more ++ Started id role cmd pipes held ∷ back))) → printed front ≡ due_from rules k (front ++ Started id role cmd pipes held ∷ [])
      at front back id role cmd pipes held (inl (more, h)) = s front more id role cmd pipes held h
      at front back id role cmd pipes held (inr (more, h)) = absurd (not_there b more back id role cmd pipes held z h.1)

  both_in_time : (k k' : Kept) (a b : List Event) → kept_from rules.plan k a ≡ k' → printed a ≡ due_from rules k a → PrintsInTime rules k a → PrintsInTime rules k' b → PrintsInTime rules k (a ++ b)
  unfolding PrintsInTime
  both_in_time k k' a b e p s t = λ front back id role cmd pipes held x. at front back id role cmd pipes held (cut_in a b front back (Started id role cmd pipes held) x)
    where
      at : (front back : List Event) (id : ℕ) (role : Role) (cmd : CommandSeen) (pipes : Pipes) (held : ℕ) → ((more : List Event) × (a ≡ front ++ Started id role cmd pipes held ∷ more)) ⊎ ((more : List Event) × ((front ≡ a ++ more) × (b ≡ more ++ Started id role cmd pipes held ∷ back))) → printed front ≡ due_from rules k (front ++ Started id role cmd pipes held ∷ [])
      at front back id role cmd pipes held (inl (more, h)) = s front more id role cmd pipes held h
      at front back id role cmd pipes held (inr (more, h)) =
          let st = Started id role cmd pipes held ∷ [] in
          ap printed h.0 ∙ flat_map-append printed_of a more ∙ ap (λ l. l ++ printed more) p
          ∙ ap (λ l. due_from rules k a ++ l) (t more back id role cmd pipes held h.1)
          ∙ ap (λ q. due_from rules k a ++ due_from rules q (more ++ st)) (sym e)
          ∙ sym (due_both rules k a (more ++ st))
          ∙ ap (due_from rules k) (sym (append_assoc a more st) ∙ ap (λ l. l ++ st) (sym h.0))

-- A part after which this is kept, and then another.
module _ (rules : Rules) (k k' : Kept) (a b : List Event) where
  whole_then : kept_from rules.plan k a ≡ k' → printed a ≡ due_from rules k a → printed b ≡ due_from rules k' b → printed (a ++ b) ≡ due_from rules k (a ++ b)
  whole_then e p q =
      flat_map-append printed_of a b ∙ ap (λ l. l ++ printed b) p
      ∙ ap (λ l. due_from rules k a ++ l) (q ∙ ap (λ x. due_from rules x b) (sym e))
      ∙ sym (due_both rules k a b)

  next_both : kept_from rules.plan k a ≡ k' → due_next rules k (a ++ b) ≡ due_from rules k a ++ due_next rules k' b
  next_both e =
      ap (λ l. l ++ next_lines rules (kept_from rules.plan k (a ++ b))) (due_both rules k a b)
      ∙ append_assoc (due_from rules k a) _ _
      ∙ ap (λ x. due_from rules k a ++ (due_from rules (kept_from rules.plan k a) b ++ next_lines rules x)) (kept_both rules.plan k a b)
      ∙ ap (λ x. due_from rules k a ++ due_next rules x b) e

  next_then : kept_from rules.plan k a ≡ k' → printed a ≡ due_from rules k a → printed b ≡ due_next rules k' b → printed (a ++ b) ≡ due_next rules k (a ++ b)
  next_then e p q =
      flat_map-append printed_of a b ∙ ap (λ l. l ++ printed b) p
      ∙ ap (λ l. due_from rules k a ++ l) q
      ∙ sym (next_both e)

  some_then : kept_from rules.plan k a ≡ k' → printed a ≡ due_from rules k a → (n : ℕ) × (printed b ≡ take n (due_next rules k' b)) → (n : ℕ) × (printed (a ++ b) ≡ take n (due_next rules k (a ++ b)))
  some_then e p (n, q) = (
    length (due_from rules k a) + n,
    flat_map-append printed_of a b ∙ ap (λ l. l ++ printed b) p
        ∙ ap (λ l. due_from rules k a ++ l) q
        ∙ sym (take-append-add (due_from rules k a) (due_next rules k' b) n)
        ∙ ap (take (length (due_from rules k a) + n)) (sym (next_both e)),
  )

  all_on : {T : Type 0} (result : Result T RunError) → kept_from rules.plan k a ≡ k' → printed a ≡ due_from rules k a → PrintsAll rules k' result b → PrintsAll rules k result (a ++ b)
  all_on (Ok x) e p q = whole_then e p q
  all_on (Err (ToolNotFound n)) e p q = next_then e p q
  all_on (Err (StartFault n)) e p q = next_then e p q
  all_on (Err (HostFault call why)) e p q = some_then e p q
  all_on (Err NoMemory) e p q = some_then e p q
  all_on (Err (Failed n s)) e p q = whole_then e p q
  all_on (Err WaitFault) e p q = whole_then e p q
  all_on (Err JobFault) e p q = whole_then e p q
  all_on (Err TurnsSpent) e p q = whole_then e p q

  -- what the second one printed by its answer
  pub printed_on : {T : Type 0} (result : Result T RunError) → kept_from rules.plan k a ≡ k' → (printed a ≡ due_from rules k a) × PrintsInTime rules k a → IsPrinted rules k' result b → IsPrinted rules k result (a ++ b)
  printed_on result e p q = (all_on result e p.0 q.0, both_in_time rules k k' a b e p.0 p.1 q.1)

-- one call after another
pub printed_then : {T : Type 0} (rules : Rules) (k k' : Kept) (log mid new : List Event) (result : Result T RunError) → mid ≡ log ++ since log mid → new ≡ mid ++ since mid new → kept_from rules.plan k (since log mid) ≡ k' → IsPrinted {T = Unit {0}} rules k (Ok tt) (since log mid) → IsPrinted rules k' result (since mid new) → IsPrinted rules k result (since log new)
printed_then rules k k' log mid new result x y e p q = subst (IsPrinted rules k result) (sym (since_since log mid new x y)) (printed_on rules k k' (since log mid) (since mid new) result e p q)

-- and what is kept after both
pub kept_then : (plan : Plan) (k k' k'' : Kept) (log mid new : List Event) → mid ≡ log ++ since log mid → new ≡ mid ++ since mid new → kept_from plan k (since log mid) ≡ k' → kept_from plan k' (since mid new) ≡ k'' → kept_from plan k (since log new) ≡ k''
kept_then plan k k' k'' log mid new x y e f = ap (kept_from plan k) (since_since log mid new x y) ∙ kept_both plan k (since log mid) (since mid new) ∙ ap (λ q. kept_from plan q (since mid new)) e ∙ f

-- the same error of a call that answers another type
pub printed_error : (T U : Type 0) (rules : Rules) (k : Kept) (e : RunError) (part : List Event) → IsPrinted {T = T} rules k (Err e) part → IsPrinted {T = U} rules k (Err e) part
printed_error T U rules k (ToolNotFound n) part q = q
printed_error T U rules k (StartFault n) part q = q
printed_error T U rules k (HostFault call why) part q = q
printed_error T U rules k NoMemory part q = q
printed_error T U rules k (Failed n s) part q = q
printed_error T U rules k WaitFault part q = q
printed_error T U rules k JobFault part q = q
printed_error T U rules k TurnsSpent part q = q

-- another value where a call went well
pub printed_as : {T U : Type 0} (rules : Rules) (k : Kept) (result : Result T RunError) (x : U) (part : List Event) → IsPrinted rules k result part → IsPrinted {T = U} rules k (result_and result (Ok x)) part
printed_as rules k (Ok y) x part q = q
printed_as {T = T} {U = U} rules k (Err e) x part q = printed_error T U rules k e part q

-- or a failure of a command
pub printed_failure : {X : Type 0} (rules : Rules) (k : Kept) (x : X) (f : Option (ℕ × Status)) (part : List Event) → IsPrinted rules k (Ok x) part → IsPrinted rules k (by_failure f) part
printed_failure rules k x None part q = q
printed_failure rules k x (Some f) part q = q

-- the answer of a list by that of its run as a queue
pub printed_list : (rules : Rules) (k : Kept) (general : Result (List Mark) RunError) (part : List Event) → IsPrinted rules k general part → IsPrinted rules k (list_result general) part
printed_list rules k (Ok marks) part q = printed_failure rules k marks (last_failure marks) part q
printed_list rules k (Err e) part q = printed_error (List Mark) (Unit {0}) rules k e part q

-- news are no lines, and start nothing
reported_quiet : (n : News) → (printed (reported n) ≡ []) × (starts (reported n) ≡ 0)
reported_quiet n = said n.id n.piece n.unread n.ended
  where
    said : (id : ℕ) (piece : Option (List ℕ)) (un : Bool) (end : Option Status) → (printed (heard id piece ++ unread id un ++ ended id end) ≡ []) × (starts (heard id piece ++ unread id un ++ ended id end) ≡ 0)
    said id None false None = (refl, refl)
    said id None false (Some s) = (refl, refl)
    said id None true None = (refl, refl)
    said id None true (Some s) = (refl, refl)
    said id (Some p) false None = (refl, refl)
    said id (Some p) false (Some s) = (refl, refl)
    said id (Some p) true None = (refl, refl)
    said id (Some p) true (Some s) = (refl, refl)

news_quiet : (ns : List News) → (printed (flat_map reported ns) ≡ []) × (starts (flat_map reported ns) ≡ 0)
news_quiet [] = (refl, refl)
news_quiet (n ∷ ns) = let one = reported_quiet n in let more = news_quiet ns in (
  flat_map-append printed_of (reported n) (flat_map reported ns) ∙ ap (λ l. l ++ printed (flat_map reported ns)) one.0 ∙ more.0,
  sum_by-append starts_of (reported n) (flat_map reported ns) ∙ ap (λ m. m + starts (flat_map reported ns)) one.1 ∙ zero-add (starts (flat_map reported ns)) ∙ more.1,
)

fault_starts : (e : RunError) → starts (print_fault e) ≡ 0
fault_starts (HostFault call why) = refl
fault_starts (ToolNotFound n) = refl
fault_starts (Failed n s) = refl
fault_starts (StartFault n) = refl
fault_starts WaitFault = refl
fault_starts JobFault = refl
fault_starts TurnsSpent = refl
fault_starts NoMemory = refl

-- A turn, and lines that were printed behind it.
module _ (rules : Rules) (k : Kept) (ns : List News) where
  given : List Notice
  given = owed_from rules.shows rules.warns rules.plan.cmds k.children (flat_map reported ns)

  -- events that give nothing
  IsIdle : List Event → Type 0
  IsIdle q = (x : Kept) → (kept_from rules.plan x q ≡ x) × (due_from rules x q ≡ []) × (printed q ≡ [])

  turn_lines : (ls : List Notice) (q : List Event) → IsIdle q → (kept_from rules.plan k ((Turn 1 ∷ flat_map reported ns) ++ (prints ls ++ q)) ≡ kept_from rules.plan k (flat_map reported ns)) × (due_from rules k ((Turn 1 ∷ flat_map reported ns) ++ (prints ls ++ q)) ≡ given) × (printed ((Turn 1 ∷ flat_map reported ns) ++ (prints ls ++ q)) ≡ ls)
  unfolding given IsIdle
  turn_lines ls q h =
      let n = kept_from rules.plan k (flat_map reported ns) in
      let behind : (kept_from rules.plan n (prints ls ++ q) ≡ n) × (due_from rules n (prints ls ++ q) ≡ []) = (
        kept_both rules.plan n (prints ls) q ∙ ap (λ x. kept_from rules.plan x q) (prints_due rules n ls).0 ∙ (h n).0,
        due_both rules n (prints ls) q ∙ ap (λ l. l ++ due_from rules (kept_from rules.plan n (prints ls)) q) (prints_due rules n ls).1 ∙ (h (kept_from rules.plan n (prints ls))).1,
      ) in (
        kept_both rules.plan k (Turn 1 ∷ flat_map reported ns) (prints ls ++ q) ∙ behind.0,
        due_both rules k (Turn 1 ∷ flat_map reported ns) (prints ls ++ q) ∙ ap (λ l. due_from rules k (flat_map reported ns) ++ l) behind.1 ∙ append-nil _ ∙ (news_due rules k ns).1,
        flat_map-append printed_of (Turn 1 ∷ flat_map reported ns) (prints ls ++ q) ∙ ap (λ l. l ++ printed (prints ls ++ q)) (news_quiet ns).0
            ∙ flat_map-append printed_of (prints ls) q ∙ ap (λ l. l ++ printed q) (prints_printed ls) ∙ ap (λ l. ls ++ l) (h k).2 ∙ append-nil ls,
      )

  turn_starts : (ls : List Notice) (q : List Event) → starts q ≡ 0 → starts ((Turn 1 ∷ flat_map reported ns) ++ (prints ls ++ q)) ≡ 0
  turn_starts ls q z =
      let a : starts ((Turn 1 ∷ flat_map reported ns) ++ (prints ls ++ q)) ≡ starts (flat_map reported ns) + starts (prints ls ++ q) = sum_by-append starts_of (Turn 1 ∷ flat_map reported ns) (prints ls ++ q) in
      let b : starts (flat_map reported ns) ≡ 0 = (news_quiet ns).1 in
      let c : starts (prints ls ++ q) ≡ starts q = behind_starts ls q in
      omega (arith, a, b, c, z)

  turn_cut : (old mid new : List Event) → mid ≡ old ++ Turn 1 ∷ flat_map reported ns → new ≡ mid ++ since mid new → since old new ≡ (Turn 1 ∷ flat_map reported ns) ++ since mid new
  turn_cut old mid new a b = ap (since old) (b ∙ ap (λ m. m ++ since mid new) a ∙ append_assoc old _ _) ∙ since_append old _

  all_shown : (old mid new : List Event) → mid ≡ old ++ Turn 1 ∷ flat_map reported ns → new ≡ mid ++ since mid new → since mid new ≡ prints given → (kept_from rules.plan k (since old new) ≡ kept_from rules.plan k (flat_map reported ns)) × ((printed (since old new) ≡ due_from rules k (since old new)) × PrintsInTime rules k (since old new))
  unfolding given IsIdle
  all_shown old mid new a b s =
      let cut : since old new ≡ (Turn 1 ∷ flat_map reported ns) ++ (prints given ++ []) = turn_cut old mid new a b ∙ ap (λ l. (Turn 1 ∷ flat_map reported ns) ++ l) (s ∙ sym (append-nil (prints given))) in
      let t = turn_lines given [] (λ x. (refl, refl, refl)) in (
        ap (kept_from rules.plan k) cut ∙ t.0,
        (ap printed cut ∙ t.2 ∙ sym t.1 ∙ sym (ap (due_from rules k) cut), unstarted_in_time rules k (since old new) (ap starts cut ∙ turn_starts given [] refl)),
      )

  some_shown : (n : ℕ) (e : RunError) (old mid new : List Event) → mid ≡ old ++ Turn 1 ∷ flat_map reported ns → new ≡ mid ++ since mid new → n ≤ length given → since mid new ≡ prints (take n given) ++ print_fault e → (kept_from rules.plan k (since old new) ≡ kept_from rules.plan k (flat_map reported ns)) × ((printed (since old new) ≡ take n (due_next rules k (since old new))) × PrintsInTime rules k (since old new))
  unfolding given IsIdle
  some_shown n e old mid new a b le s =
      let cut : since old new ≡ (Turn 1 ∷ flat_map reported ns) ++ (prints (take n given) ++ print_fault e) = turn_cut old mid new a b ∙ ap (λ l. (Turn 1 ∷ flat_map reported ns) ++ l) s in
      let t = turn_lines (take n given) (print_fault e) (λ x. fault_due rules x e) in (
        ap (kept_from rules.plan k) cut ∙ t.0,
        (ap printed cut ∙ t.2 ∙ sym (take-append-le n given (next_lines rules (kept_from rules.plan k (since old new))) le) ∙ ap (λ l. take n (l ++ next_lines rules (kept_from rules.plan k (since old new)))) (sym t.1 ∙ sym (ap (due_from rules k) cut)), unstarted_in_time rules k (since old new) (ap starts cut ∙ turn_starts (take n given) (print_fault e) (fault_starts e))),
      )

  turned : {U : Type 0} (result : Result U RunError) (old mid new : List Event) → mid ≡ old ++ Turn 1 ∷ flat_map reported ns → new ≡ mid ++ since mid new → ArePrinted given result (since mid new) → IfErr result IsPrintError → (kept_from rules.plan k (since old new) ≡ kept_from rules.plan k (flat_map reported ns)) × IsPrinted rules k result (since old new)
  turned (Ok y) old mid new a b s h = all_shown old mid new a b s
  turned (Err (HostFault call why)) old mid new a b (n, (le, m, s)) h = let q = some_shown n (HostFault call why) old mid new a b le s in (q.0, ((n, q.1.0), q.1.1))
  turned (Err NoMemory) old mid new a b (n, (le, m, s)) h = let q = some_shown n NoMemory old mid new a b le s in (q.0, ((n, q.1.0), q.1.1))
  turned (Err (ToolNotFound n)) old mid new a b s h = absurd h
  turned (Err (Failed n s')) old mid new a b s h = absurd h
  turned (Err (StartFault n)) old mid new a b s h = absurd h
  turned (Err WaitFault) old mid new a b s h = absurd h
  turned (Err JobFault) old mid new a b s h = absurd h
  turned (Err TurnsSpent) old mid new a b s h = absurd h

-- A turn was made, and its lines were printed, or the first of them.
module _ (rules : Rules) (k : Kept) (news : List News) where
  pub turn_printed : {U : Type 0} (result : Result U RunError) (log mid new : List Event) → mid ≡ log ++ Turn 1 ∷ reports news → new ≡ mid ++ since mid new → ArePrinted (owed_from rules.shows rules.warns rules.plan.cmds k.children (reports news)) result (since mid new) → IfErr result IsPrintError → IsPrinted rules k result (since log new)
  unfolding given
  turn_printed result log mid new a b s h = (turned rules k news result log mid new a b s h).1

  -- by an answer with another value
  pub turn_printed_as : {U X : Type 0} (result : Result U RunError) (x : X) (log mid new : List Event) → mid ≡ log ++ Turn 1 ∷ reports news → new ≡ mid ++ since mid new → ArePrinted (owed_from rules.shows rules.warns rules.plan.cmds k.children (reports news)) result (since mid new) → IfErr result IsPrintError → IsPrinted {T = X} rules k (result_and result (Ok x)) (since log new)
  turn_printed_as result x log mid new a b s h = printed_as rules k result x (since log new) (turn_printed result log mid new a b s h)

  -- the run after it is that after its news
  pub turn_after : {U : Type 0} (result : Result U RunError) (log mid new : List Event) → mid ≡ log ++ Turn 1 ∷ reports news → new ≡ mid ++ since mid new → ArePrinted (owed_from rules.shows rules.warns rules.plan.cmds k.children (reports news)) result (since mid new) → IfErr result IsPrintError → kept_from rules.plan k (since log new) ≡ kept_from rules.plan k (Turn 1 ∷ reports news)
  unfolding given
  turn_after result log mid new a b s h = (turned rules k news result log mid new a b s h).0

  -- which is this one
  pub news_kept : (k' : Kept) → k'.children ≡ children_from k.children (reports news) → run_of k' ≡ run_from rules.plan (run_of k) (reports news) → kept_from rules.plan k (Turn 1 ∷ reports news) ≡ k'
  news_kept k' cs r = sym (kept_same k' (kept_from rules.plan k (reports news)) (cs ∙ sym (news_due rules k news).0) (r ∙ sym (kept_run rules.plan k (reports news))))

  pub turn_kept : {U : Type 0} (result : Result U RunError) (k' : Kept) (log mid new : List Event) → mid ≡ log ++ Turn 1 ∷ reports news → new ≡ mid ++ since mid new → ArePrinted (owed_from rules.shows rules.warns rules.plan.cmds k.children (reports news)) result (since mid new) → IfErr result IsPrintError → k'.children ≡ children_from k.children (reports news) → run_of k' ≡ run_from rules.plan (run_of k) (reports news) → kept_from rules.plan k (since log new) ≡ k'
  turn_kept result k' log mid new a b s h cs r = turn_after result log mid new a b s h ∙ news_kept k' cs r

nothing_since : (log log' : List Event) → log' ≡ log → since log log' ≡ []
nothing_since log log' e = ap (since log) (e ∙ sym (append-nil log)) ∙ since_append log []

-- no turn was made
pub unturned_printed : (X : Type 0) (rules : Rules) (k : Kept) (old new : List Event) (e : RunError) → IsUnturned old new e → IsPrinted {T = X} rules k (Err e) (since old new)
unturned_printed X rules k old new TurnsSpent h = subst (λ p. (printed p ≡ due_from rules k p) × PrintsInTime rules k p) (sym (nothing_since old new h)) (refl, unstarted_in_time rules k [] refl)
unturned_printed X rules k old new WaitFault (why, h) = subst (λ p. (printed p ≡ due_from rules k p) × PrintsInTime rules k p) (sym (ap (since old) h ∙ since_append old _)) (refl, unstarted_in_time rules k _ refl)
unturned_printed X rules k old new NoMemory h = ((0, ap printed (nothing_since old new h)), unstarted_in_time rules k (since old new) (ap starts (nothing_since old new h)))
unturned_printed X rules k old new (HostFault call why) h = absurd h
unturned_printed X rules k old new (ToolNotFound n) h = absurd h
unturned_printed X rules k old new (Failed n s') h = absurd h
unturned_printed X rules k old new (StartFault n) h = absurd h
unturned_printed X rules k old new JobFault h = absurd h

-- nothing was done, where the answer wants no line for that
pub nothing_printed : {T : Type 0} (rules : Rules) (kept : Kept) (old : List Event) (result : Result T RunError) → PrintsAll rules kept result [] → IsPrinted rules kept result (since old old)
nothing_printed rules kept old result h = subst (IsPrinted rules kept result) (sym (nothing_since old old refl)) (h, unstarted_in_time rules kept [] refl)

-- and the log is the same
pub unchanged_printed : {T : Type 0} (rules : Rules) (kept : Kept) (old new : List Event) (result : Result T RunError) → new ≡ old → PrintsAll rules kept result [] → IsPrinted rules kept result (since old new)
unchanged_printed rules kept old new result e h = subst (IsPrinted rules kept result) (sym (nothing_since old new e)) (h, unstarted_in_time rules kept [] refl)

cut_at : (cmds : List Planned) (i : ℕ) (p : Planned) → slice_get cmds i ≡ Some p → take 1 (drop i cmds) ≡ p ∷ []
cut_at (c ∷ cmds) zero p its = let e : c ≡ p = cc in ap (λ x. x ∷ []) e
cut_at (c ∷ cmds) (suc i) p its = cut_at cmds i p its
cut_at [] i p its = absurd (cc)

-- the command that comes next
pub planned_is : (plan : Plan) (marks : List Mark) (place : ℕ) (p : Planned) → next_place plan marks ≡ Some place → slice_get plan.cmds place ≡ Some p → next_planned plan marks ≡ p ∷ []
planned_is plan marks place p nx its = ap (planned_at plan.cmds) nx ∙ cut_at plan.cmds place p its

-- A start, and what it printed.
module _ (rules : Rules) (p : Planned) (place held : ℕ) (old new : Kept) (part : List Event) (nx : next_place rules.plan old.marks ≡ Some place) (its : slice_get rules.plan.cmds place ≡ Some p) where
  begun : List Notice
  begun = before rules.shows p

  next_before : next_lines rules old ≡ begun
  unfolding begun
  next_before = ap (flat_map (before rules.shows)) (planned_is rules.plan old.marks place p nx its) ∙ append-nil (before rules.shows p)

  next_compiles : flat_map (compiles rules.shows) (next_planned rules.plan old.marks) ≡ compiles rules.shows p
  next_compiles = ap (flat_map (compiles rules.shows)) (planned_is rules.plan old.marks place p nx its) ∙ append-nil (compiles rules.shows p)

  start_lines : (e : Event) → due rules old e ≡ [] → kept_after rules.plan old e ≡ old → printed_of e ≡ [] → part ≡ prints begun ++ e ∷ [] → printed part ≡ due_next rules old part
  unfolding begun
  start_lines e d k n x =
      let du : due_from rules old part ≡ [] = ap (due_from rules old) x ∙ due_both rules old (prints begun) (e ∷ []) ∙ ap (λ l. l ++ due_from rules (kept_from rules.plan old (prints begun)) (e ∷ [])) (prints_due rules old begun).1 ∙ ap (λ q. due_from rules q (e ∷ [])) (prints_due rules old begun).0 ∙ append-nil (due rules old e) ∙ d in
      let ke : kept_from rules.plan old part ≡ old = ap (kept_from rules.plan old) x ∙ kept_both rules.plan old (prints begun) (e ∷ []) ∙ ap (λ q. kept_from rules.plan q (e ∷ [])) (prints_due rules old begun).0 ∙ k in
      let pr : printed part ≡ begun = ap printed x ∙ flat_map-append printed_of (prints begun) (e ∷ []) ∙ ap (λ l. l ++ printed (e ∷ [])) (prints_printed begun) ∙ ap (λ l. begun ++ (l ++ [])) n ∙ append-nil begun in
      pr ∙ sym (ap (λ l. l ++ next_lines rules (kept_from rules.plan old part)) du ∙ ap (λ q. next_lines rules q) ke ∙ next_before)

  start_all : (id : ℕ) → IsStart rules.shows p place held old (Ok id) new part → (kept_from rules.plan old part ≡ new) × (printed part ≡ due_from rules old part)
  unfolding begun
  start_all id s =
      let e = Started id p.role p.cmd (pipes_of rules.shows) held in (
        ap (kept_from rules.plan old) s.0 ∙ kept_both rules.plan old (prints begun) (e ∷ []) ∙ ap (λ q. kept_after rules.plan q e) (prints_due rules old begun).0 ∙ ap (λ o. with_child id o old) nx ∙ sym s.1,
        ap printed s.0 ∙ flat_map-append printed_of (prints begun) (e ∷ []) ∙ append-nil (printed (prints begun)) ∙ prints_printed begun
            ∙ ap (λ l. announced rules.shows p.cmd ++ l) (sym next_compiles)
            ∙ sym (ap (due_from rules old) s.0 ∙ due_both rules old (prints begun) (e ∷ []) ∙ ap (λ l. l ++ due_from rules (kept_from rules.plan old (prints begun)) (e ∷ [])) (prints_due rules old begun).1 ∙ ap (λ q. due_from rules q (e ∷ [])) (prints_due rules old begun).0 ∙ append-nil (due rules old e)),
      )

  -- all that it gives, in time
  start_kept : (id : ℕ) → IsStart rules.shows p place held old (Ok id) new part → (kept_from rules.plan old part ≡ new) × ((printed part ≡ due_from rules old part) × PrintsInTime rules old part)
  unfolding begun PrintsInTime
  start_kept id s = let k = start_all id s in (k.0, (k.1, λ front back id' role cmd pipes held' e. here front back id' role cmd pipes held' k.1 e (cut_in (prints begun) (Started id p.role p.cmd (pipes_of rules.shows) held ∷ []) front back (Started id' role cmd pipes held') (sym s.0 ∙ e))))
    where
      only : (x y : Event) (front back : List Event) → x ∷ [] ≡ front ++ y ∷ back → back ≡ []
      only x y [] back e = cc
      only x y (z ∷ []) back e = absurd (cc)
      only x y (z ∷ w ∷ front) back e = absurd (cc)

      here : (front back : List Event) (id' : ℕ) (role : Role) (cmd : CommandSeen) (pipes : Pipes) (held' : ℕ) → printed part ≡ due_from rules old part → part ≡ front ++ Started id' role cmd pipes held' ∷ back → ((more : List Event) × (prints begun ≡ front ++ Started id' role cmd pipes held' ∷ more)) ⊎ ((more : List Event) × ((front ≡ prints begun ++ more) × (Started id p.role p.cmd (pipes_of rules.shows) held ∷ [] ≡ more ++ Started id' role cmd pipes held' ∷ back))) → printed front ≡ due_from rules old (front ++ Started id' role cmd pipes held' ∷ [])
      here front back id' role cmd pipes held' d e (inl (more, h)) = absurd (not_there (prints begun) front more id' role cmd pipes held' (prints_starts begun) h)
      here front back id' role cmd pipes held' d e (inr (more, h)) =
          let st = Started id' role cmd pipes held' in
          let last : part ≡ front ++ st ∷ [] = e ∙ ap (λ l. front ++ st ∷ l) (only _ st more back h.1) in
          sym (flat_map-append printed_of front (st ∷ []) ∙ append-nil (printed front)) ∙ ap printed (sym last) ∙ d ∙ ap (due_from rules old) last

  -- the first of what comes before it, and then events that give nothing
  first_printed : (n : ℕ) (q : List Event) → printed q ≡ [] → ((k : Kept) → (kept_from rules.plan k q ≡ k) × (due_from rules k q ≡ [])) → part ≡ prints (take n begun) ++ q → printed part ≡ take n (due_next rules old part)
  unfolding begun
  first_printed n q z h x =
      let ls = take n begun in
      let du : due_from rules old part ≡ [] = ap (due_from rules old) x ∙ due_both rules old (prints ls) q ∙ ap (λ l. l ++ due_from rules (kept_from rules.plan old (prints ls)) q) (prints_due rules old ls).1 ∙ (h (kept_from rules.plan old (prints ls))).1 in
      let ke : kept_from rules.plan old part ≡ old = ap (kept_from rules.plan old) x ∙ kept_both rules.plan old (prints ls) q ∙ ap (λ k. kept_from rules.plan k q) (prints_due rules old ls).0 ∙ (h old).0 in
      let du_next : due_next rules old part ≡ begun = ap (λ l. l ++ next_lines rules (kept_from rules.plan old part)) du ∙ ap (λ k. next_lines rules k) ke ∙ next_before in
      ap printed x ∙ flat_map-append printed_of (prints ls) q ∙ ap (λ l. l ++ printed q) (prints_printed ls) ∙ ap (λ l. ls ++ l) z ∙ append-nil ls ∙ ap (take n) (sym du_next)

  unstarted_all : (U : Type 0) (e : RunError) → IsStart rules.shows p place held old (Err e) new part → PrintsAll {T = U} rules old (Err e) part
  unfolding begun
  unstarted_all U (ToolNotFound n) s = start_lines (Missing p.role p.cmd) refl refl refl s.0
  unstarted_all U (StartFault n) (why, s) = start_lines (Fault Start why) refl refl refl s.0
  unstarted_all U (HostFault call why) (n, s) = (n, first_printed n (Fault call why ∷ []) refl (λ k. (refl, refl)) s.0)
  unstarted_all U NoMemory (n, s) = (n, first_printed n [] refl (λ k. (refl, refl)) (s.0 ∙ sym (append-nil (prints (take n begun)))))
  unstarted_all U (Failed n s') s = absurd s
  unstarted_all U WaitFault s = absurd s
  unstarted_all U JobFault s = absurd s
  unstarted_all U TurnsSpent s = absurd s

  unstarted_starts : (e : RunError) → IsStart rules.shows p place held old (Err e) new part → starts part ≡ 0
  unstarted_starts (ToolNotFound n) s = ap starts s.0 ∙ behind_starts (before rules.shows p) _
  unstarted_starts (StartFault n) (why, s) = ap starts s.0 ∙ behind_starts (before rules.shows p) _
  unstarted_starts (HostFault call why) (n, s) = ap starts s.0 ∙ behind_starts (take n (before rules.shows p)) _
  unstarted_starts NoMemory (n, s) = ap starts s.0 ∙ prints_starts (take n (before rules.shows p))
  unstarted_starts (Failed n s') s = absurd s
  unstarted_starts WaitFault s = absurd s
  unstarted_starts JobFault s = absurd s
  unstarted_starts TurnsSpent s = absurd s

-- all that a start gives was printed, in time
pub start_printed : {X : Type 0} (rules : Rules) (p : Planned) (place held : ℕ) (old new : Kept) (part : List Event) (id : ℕ) (x : X) → IsStart rules.shows p place held old (Ok id) new part → next_place rules.plan old.marks ≡ Some place → slice_get rules.plan.cmds place ≡ Some p → (kept_from rules.plan old part ≡ new) × IsPrinted {T = X} rules old (Ok x) part
start_printed rules p place held old new part id x s nx its = start_kept rules p place held old new part nx its id s

-- or what comes before it, where it couldn't be started
pub unstarted_printed : (X : Type 0) (rules : Rules) (p : Planned) (place held : ℕ) (old new : Kept) (part : List Event) (e : RunError) → IsStart rules.shows p place held old (Err e) new part → next_place rules.plan old.marks ≡ Some place → slice_get rules.plan.cmds place ≡ Some p → IsPrinted {T = X} rules old (Err e) part
unstarted_printed X rules p place held old new part e s nx its = (unstarted_all rules p place held old new part nx its X e s, unstarted_in_time rules old part (unstarted_starts rules p place held old new part nx its e s))

-- Children that are abandoned give no line.
module _ (rules : Rules) (k : Kept) (part : List Event) (cs : List (ℕ × ℕ)) where
  gone_printed : printed (part ++ gone cs) ≡ printed part
  gone_printed = flat_map-append printed_of part (gone cs) ∙ ap (λ l. printed part ++ l) (gone_due rules k cs).2 ∙ append-nil (printed part)

  gone_from : due_from rules k (part ++ gone cs) ≡ due_from rules k part
  gone_from = due_both rules k part (gone cs) ∙ ap (λ l. due_from rules k part ++ l) (gone_due rules (kept_from rules.plan k part) cs).1 ∙ append-nil (due_from rules k part)

  gone_next : due_next rules k (part ++ gone cs) ≡ due_next rules k part
  gone_next = ap (λ l. l ++ next_lines rules (kept_from rules.plan k (part ++ gone cs))) gone_from ∙ ap (λ m. due_from rules k part ++ flat_map (before rules.shows) (next_planned rules.plan m)) (ap (λ q. q.marks) (kept_both rules.plan k part (gone cs)) ∙ (gone_due rules (kept_from rules.plan k part) cs).0)

  all_gone : {T : Type 0} (result : Result T RunError) → PrintsAll rules k result part → PrintsAll rules k result (part ++ gone cs)
  all_gone (Ok x) q = gone_printed ∙ q ∙ sym gone_from
  all_gone (Err (ToolNotFound n)) q = gone_printed ∙ q ∙ sym gone_next
  all_gone (Err (StartFault n)) q = gone_printed ∙ q ∙ sym gone_next
  all_gone (Err (HostFault call why)) (n, q) = (n, gone_printed ∙ q ∙ ap (take n) (sym gone_next))
  all_gone (Err NoMemory) (n, q) = (n, gone_printed ∙ q ∙ ap (take n) (sym gone_next))
  all_gone (Err (Failed n s)) q = gone_printed ∙ q ∙ sym gone_from
  all_gone (Err WaitFault) q = gone_printed ∙ q ∙ sym gone_from
  all_gone (Err JobFault) q = gone_printed ∙ q ∙ sym gone_from
  all_gone (Err TurnsSpent) q = gone_printed ∙ q ∙ sym gone_from

  pub printed_gone : {T : Type 0} (result : Result T RunError) → IsPrinted rules k result part → IsPrinted rules k result (part ++ gone cs)
  printed_gone result q = (all_gone result q.0, quiet_in_time rules k part (gone cs) q.1 (gone_starts cs))

-- behind a part, children were abandoned
pub printed_dropped : {T : Type 0} (rules : Rules) (k : Kept) (old mid new : List Event) (cs : List (ℕ × ℕ)) (result : Result T RunError) → mid ≡ old ++ since old mid → new ≡ mid ++ gone cs → IsPrinted rules k result (since old mid) → IsPrinted rules k result (since old new)
printed_dropped rules k old mid new cs result x y q =
    let cut : since old new ≡ since old mid ++ gone cs = ap (since old) (y ∙ ap (λ m. m ++ gone cs) x ∙ append_assoc old (since old mid) (gone cs)) ∙ since_append old (since old mid ++ gone cs) in
    subst (IsPrinted rules k result) (sym cut) (printed_gone rules k (since old mid) cs result q)
