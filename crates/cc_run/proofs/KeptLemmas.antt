-- Laws on what is kept of a run after events.
use Rattle.std.proofs.Common.{◌≡◌, ℕ, Bool, true, false, List, [], ◌∷◌, ◌++◌, ◌==◌, map, refl, sym, ◌∙◌, ap, if◌then◌else◌}
use Rattle.std.specs.Prelude.{Option, None, Some}
use Rattle.std.specs.List.{flat_map}
use Rattle.std.proofs.lemmas.List.{map-append}
use Rattle.cc_host.specs.Event.{reported, heard, unread, ended}
use Rattle.cc_host.specs.declared.event.Event.{Event}
use Rattle.cc_host.specs.declared.event.Event.TheVariants.{Started, Ended, Abandoned, Heard, Unread, Turn, Answered, Reused, Unasked, Drawn, Opened, Taken, Dropped, Ran, Missing, Made, Removed, Wrote, Copied, Here, Said, Printed, Listed, Fault}
use Rattle.cc_host.specs.declared.event.News.{News}
use Rattle.cc_host.specs.declared.event.Status.{Status}
use Rattle.cc_run.specs.Children.{Kept, run_of, seat}
use Rattle.cc_run.specs.Forwarded.{fed, emptied}
use Rattle.cc_run.specs.Hearing.{at_child, children_from, reports}
use Rattle.cc_run.specs.Plan.{Plan, next_place}
use Rattle.cc_run.specs.Printing.{kept_after, kept_from, with_child}
use Rattle.cc_run.specs.Run.{Run, run_after, run_from, place_of, over, joined, began}
use Rattle.cc_run.specs.declared.mark.Mark.{Mark}
use Rattle.cc_run.specs.declared.running.Child.{Child}
use Rattle.cc_run.proofs.ChildLemmas.{seats_without}
use Rattle.cc_run.proofs.HearingLemmas.{children_both}

pub kept_both : (plan : Plan) (k : Kept) (a b : List Event) → kept_from plan k (a ++ b) ≡ kept_from plan (kept_from plan k a) b
kept_both plan k [] b = refl
kept_both plan k (e ∷ a) b = kept_both plan (kept_after plan k e) a b

-- a change that keeps id and place
seats_at : (id : ℕ) (f : Child → Child) → ((c : Child) → seat (f c) ≡ seat c) → (cs : List Child) → map seat (at_child id f cs) ≡ map seat cs
seats_at id f h [] = refl
seats_at id f h (c ∷ cs) = at (c.id == id) (seats_at id f h cs)
  where
    at : (b : Bool) → map seat (at_child id f cs) ≡ map seat cs → map seat (if b then f c ∷ cs else c ∷ at_child id f cs) ≡ map seat (c ∷ cs)
    at true k = ap (λ s. s ∷ map seat cs) (h c)
    at false k = ap (λ l. seat c ∷ l) k

run_with : List (ℕ × ℕ) → List Mark → Run
run_with live marks = record { live = live; marks = marks }

start_kept : (id : ℕ) (o : Option ℕ) (k : Kept) → run_of (with_child id o k) ≡ run_with (joined id o (run_of k).live) (began o k.marks)
unfolding run_with
start_kept id None k = refl
start_kept id (Some p) k = ap (λ l. run_with l (k.marks ++ began_one p)) (map-append seat k.children (record { id = id; place = p; rest = [] } ∷ []))
  where
    began_one : ℕ → List Mark
    began_one p = began (Some p) []

-- the run that is kept after an event
pub kept_run_after : (plan : Plan) (k : Kept) (e : Event) → run_of (kept_after plan k e) ≡ run_after plan (run_of k) e
unfolding run_with
kept_run_after plan k (Started id role cmd pipes held) = start_kept id (next_place plan k.marks) k
kept_run_after plan k (Ended id s) = ap (λ l. run_with l (over s (place_of id (map seat k.children)) k.marks)) (seats_without id k.children)
kept_run_after plan k (Abandoned id) = ap (λ l. run_with l k.marks) (seats_without id k.children)
kept_run_after plan k (Heard id b) = ap (λ l. run_with l k.marks) (seats_at id (fed b) (λ c. refl) k.children)
kept_run_after plan k (Unread id) = ap (λ l. run_with l k.marks) (seats_at id emptied (λ c. refl) k.children)
kept_run_after plan k (Turn n) = refl
kept_run_after plan k (Answered q f o) = refl
kept_run_after plan k (Reused q v) = refl
kept_run_after plan k (Unasked q) = refl
kept_run_after plan k (Drawn w) = refl
kept_run_after plan k (Opened p b) = refl
kept_run_after plan k (Taken p) = refl
kept_run_after plan k (Dropped p) = refl
kept_run_after plan k (Ran role cmd pipes status out err) = refl
kept_run_after plan k (Missing role cmd) = refl
kept_run_after plan k (Made scope p) = refl
kept_run_after plan k (Removed p how) = refl
kept_run_after plan k (Wrote p bytes) = refl
kept_run_after plan k (Copied a_file to_file) = refl
kept_run_after plan k (Here here) = refl
kept_run_after plan k (Said message) = refl
kept_run_after plan k (Printed kind b) = refl
kept_run_after plan k (Listed vars) = refl
kept_run_after plan k (Fault call why) = refl

-- the run that is kept after these events
pub kept_run : (plan : Plan) (k : Kept) (es : List Event) → run_of (kept_from plan k es) ≡ run_from plan (run_of k) es
kept_run plan k [] = refl
kept_run plan k (e ∷ es) = kept_run plan (kept_after plan k e) es ∙ ap (λ r. run_from plan r es) (kept_run_after plan k e)

kept_with : List Child → Run → Kept
kept_with cs r = record { children = cs; marks = r.marks }

-- equal children and equal runs are the same
pub kept_same : (a b : Kept) → a.children ≡ b.children → run_of a ≡ run_of b → a ≡ b
unfolding kept_with
kept_same a b e f = ap (λ cs. kept_with cs (run_of a)) e ∙ ap (kept_with b.children) f

-- the news of a child
reported_children : (plan : Plan) (k : Kept) (n : News) → (kept_from plan k (reported n)).children ≡ children_from k.children (reported n)
reported_children plan k n = said n.id n.piece n.unread n.ended
  where
    said : (id : ℕ) (piece : Option (List ℕ)) (un : Bool) (end : Option Status) → (kept_from plan k (heard id piece ++ unread id un ++ ended id end)).children ≡ children_from k.children (heard id piece ++ unread id un ++ ended id end)
    said id None false None = refl
    said id None false (Some s) = refl
    said id None true None = refl
    said id None true (Some s) = refl
    said id (Some p) false None = refl
    said id (Some p) false (Some s) = refl
    said id (Some p) true None = refl
    said id (Some p) true (Some s) = refl

news_children : (plan : Plan) (k : Kept) (ns : List News) → (kept_from plan k (flat_map reported ns)).children ≡ children_from k.children (flat_map reported ns)
news_children plan k [] = refl
news_children plan k (n ∷ ns) =
    ap (λ q. q.children) (kept_both plan k (reported n) (flat_map reported ns)) ∙ news_children plan (kept_from plan k (reported n)) ns
    ∙ ap (λ cs. children_from cs (flat_map reported ns)) (reported_children plan k n) ∙ sym (children_both k.children (reported n) (flat_map reported ns))

-- the children after a turn
pub kept_children : (plan : Plan) (k : Kept) (ns : List News) → (kept_from plan k (Turn 1 ∷ reports ns)).children ≡ children_from k.children (reports ns)
kept_children plan k ns = news_children plan k ns
