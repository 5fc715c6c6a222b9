-- Laws on the turns of a run: each takes something of the patience with a child that runs.
use Rattle.std.proofs.Common.{◌≡◌, ◌⊎◌, inl, inr, ℕ, ◌+◌, ◌-◌, ◌*◌, ◌<◌, ◌≤◌, List, [], ◌∷◌, ◌++◌, ◌==◌, length, map, refl, sym, ◌∙◌, ap, subst, append_assoc, zero-add, arith, Bool, true, false, if◌then◌else◌, All}
use Rattle.std.specs.Prelude.{Option, None, Some, IfSome, Result, Ok, Err}
use Rattle.std.proofs.lemmas.List.{append-nil, length-map, map-append}
use Rattle.std.proofs.Math.Nat.{mul-add, mul-le-mul_left}
use Rattle.std.proofs.lemmas.List.Elements.{All-nil, All-cons, All-head, All-tail}
use Rattle.std.proofs.lemmas.List.Sums.{sum_by-cons, sum_by-append, sum_by_push}
use Rattle.cc_host.specs.Children.{Live, live, live_from, live_after, polled, Waits, without as without_live}
use Rattle.cc_host.specs.Command.{CommandSeen}
use Rattle.cc_host.specs.Part.{since}
use Rattle.cc_host.proofs.Parts.{since_append}
use Rattle.cc_host.specs.declared.event.News.{News}
use Rattle.cc_host.specs.declared.event.HostCall.{HostCall}
use Rattle.cc_host.specs.declared.event.Role.{Role}
use Rattle.cc_host.specs.declared.event.Pipes.{Pipes}
use Rattle.cc_host.specs.declared.event.Status.{Status}
use Rattle.cc_host.specs.declared.event.Why.{Why}
use Rattle.cc_host.specs.declared.event.Event.{Event}
use Rattle.cc_host.specs.declared.event.Event.TheVariants.{Started, Ended, Abandoned, Heard, Unread, Turn, Answered, Reused, Unasked, Drawn, Opened, Taken, Dropped, Ran, Missing, Made, Removed, Wrote, Copied, Here, Said, Printed, Listed, Fault}
use Rattle.cc_run.specs.Children.{nothing_kept, run_of}
use Rattle.cc_run.specs.Hearing.{reports}
use Rattle.cc_run.specs.Outcome.{IsCause, IsSettled}
use Rattle.cc_run.specs.Paid.{starts, starts_of}
use Rattle.cc_run.specs.Part.{turns, turns_of, Busy, Good, Along}
use Rattle.cc_run.specs.Patience.{Bounded, Unspent, left_of, patience_left, IsPatient, Lasts}
use Rattle.cc_run.specs.Plan.{Plan, next_place, unbegun}
use Rattle.cc_run.specs.Prints.{prints}
use Rattle.cc_run.specs.Rules.{Rules}
use Rattle.cc_run.specs.Run.{Run, nothing, place_of, began, over, joined, run_after, run_from, without, ids, gone}
use Rattle.cc_run.specs.Seat.{SeatSeen}
use Rattle.cc_run.specs.State.{State, Works}
use Rattle.cc_run.specs.Whole.{RanAll, EndsBy}
use Rattle.cc_run.specs.declared.error.RunError.{RunError}
use Rattle.cc_run.specs.declared.error.RunError.TheVariants.{ToolNotFound, Failed, StartFault, WaitFault, HostFault, JobFault, TurnsSpent, NoMemory}
use Rattle.cc_run.specs.declared.mark.Mark.{Mark}
use Rattle.cc_run.specs.declared.planned.Planned.{Planned}
use Rattle.cc_run.specs.declared.planned.Turns.{Turns as TurnsSeen}
use Rattle.cc_run.specs.declared.print.Notice.{Notice}
use Rattle.cc_run.specs.declared.print.Notice.TheVariants.{Shown, Told}
use Rattle.cc_run.proofs.Firsts.{next_some, may_begun, unbegun_begin, unbegun_over, unbegun_none}
use Rattle.cc_run.proofs.Laws.{starts_left, few_starts}
use Rattle.cc_run.proofs.KeptLemmas.{kept_run}
use Rattle.cc_run.proofs.Quiet.{prints_turns, prints_starts}
use Rattle.cc_run.proofs.Runs.{news_turns, news_starts}

-- an event that starts nothing, ends nothing and is no turn
pub record Still (e : Event) : Type 0 where
  pub lives : (cs : List Live) → live_after cs e ≡ cs
  pub run : (plan : Plan) (r : Run) → run_after plan r e ≡ r
  pub turn : turns_of e ≡ 0
  pub start : starts_of e ≡ 0

-- each event is of one of these kinds
pub by_kind : (P : Event → Type 0) → ((id : ℕ) (role : Role) (cmd : CommandSeen) (pipes : Pipes) (held : ℕ) → P (Started id role cmd pipes held)) → ((id : ℕ) (s : Status) → P (Ended id s)) → ((id : ℕ) → P (Abandoned id)) → ((n : ℕ) → P (Turn n)) → ((e : Event) → Still e → P e) → (e : Event) → P e
by_kind P a b c d q (Started id role cmd pipes held) = a id role cmd pipes held
by_kind P a b c d q (Ended id s) = b id s
by_kind P a b c d q (Abandoned id) = c id
by_kind P a b c d q (Turn n) = d n
by_kind P a b c d q (Heard id p) = q (Heard id p) (record { lives = λ _. refl; run = λ _ _. refl; turn = refl; start = refl })
by_kind P a b c d q (Unread id) = q (Unread id) (record { lives = λ _. refl; run = λ _ _. refl; turn = refl; start = refl })
by_kind P a b c d q (Answered x f o) = q (Answered x f o) (record { lives = λ _. refl; run = λ _ _. refl; turn = refl; start = refl })
by_kind P a b c d q (Reused x v) = q (Reused x v) (record { lives = λ _. refl; run = λ _ _. refl; turn = refl; start = refl })
by_kind P a b c d q (Unasked x) = q (Unasked x) (record { lives = λ _. refl; run = λ _ _. refl; turn = refl; start = refl })
by_kind P a b c d q (Drawn w) = q (Drawn w) (record { lives = λ _. refl; run = λ _ _. refl; turn = refl; start = refl })
by_kind P a b c d q (Opened p x) = q (Opened p x) (record { lives = λ _. refl; run = λ _ _. refl; turn = refl; start = refl })
by_kind P a b c d q (Taken p) = q (Taken p) (record { lives = λ _. refl; run = λ _ _. refl; turn = refl; start = refl })
by_kind P a b c d q (Dropped p) = q (Dropped p) (record { lives = λ _. refl; run = λ _ _. refl; turn = refl; start = refl })
by_kind P a b c d q (Ran role cmd pipes status out err) = q (Ran role cmd pipes status out err) (record { lives = λ _. refl; run = λ _ _. refl; turn = refl; start = refl })
by_kind P a b c d q (Missing role cmd) = q (Missing role cmd) (record { lives = λ _. refl; run = λ _ _. refl; turn = refl; start = refl })
by_kind P a b c d q (Made scope p) = q (Made scope p) (record { lives = λ _. refl; run = λ _ _. refl; turn = refl; start = refl })
by_kind P a b c d q (Removed p how) = q (Removed p how) (record { lives = λ _. refl; run = λ _ _. refl; turn = refl; start = refl })
by_kind P a b c d q (Wrote p bytes) = q (Wrote p bytes) (record { lives = λ _. refl; run = λ _ _. refl; turn = refl; start = refl })
by_kind P a b c d q (Copied a_file to_file) = q (Copied a_file to_file) (record { lives = λ _. refl; run = λ _ _. refl; turn = refl; start = refl })
by_kind P a b c d q (Here here) = q (Here here) (record { lives = λ _. refl; run = λ _ _. refl; turn = refl; start = refl })
by_kind P a b c d q (Said message) = q (Said message) (record { lives = λ _. refl; run = λ _ _. refl; turn = refl; start = refl })
by_kind P a b c d q (Printed kind x) = q (Printed kind x) (record { lives = λ _. refl; run = λ _ _. refl; turn = refl; start = refl })
by_kind P a b c d q (Listed vars) = q (Listed vars) (record { lives = λ _. refl; run = λ _ _. refl; turn = refl; start = refl })
by_kind P a b c d q (Fault call why) = q (Fault call why) (record { lives = λ _. refl; run = λ _ _. refl; turn = refl; start = refl })

pub live_append : (ls : List Live) (a b : List Event) → live_from ls (a ++ b) ≡ live_from (live_from ls a) b
live_append ls [] b = refl
live_append ls (e ∷ a) b = live_append (live_after ls e) a b

-- The children that run, as the run and the host keep them: the same ids, in the same order.

-- ids without the first that is this one
unfoldable pub cut : ℕ → List ℕ → List ℕ
cut id [] = []
cut id (x ∷ xs) = if x == id then xs else x ∷ cut id xs

pub ids_live : (id : ℕ) (cs : List Live) → map (λ c. c.id) (without_live id cs) ≡ cut id (map (λ c. c.id) cs)
unfolding cut
ids_live id [] = refl
ids_live id (c ∷ cs) = at (c.id == id) (ids_live id cs)
  where
    at : (b : Bool) → map (λ c. c.id) (without_live id cs) ≡ cut id (map (λ c. c.id) cs) → map (λ c. c.id) (if b then cs else c ∷ without_live id cs) ≡ (if b then map (λ c. c.id) cs else c.id ∷ cut id (map (λ c. c.id) cs))
    at true k = refl
    at false k = ap (λ l. c.id ∷ l) k

pub ids_without : (id : ℕ) (cs : List (ℕ × ℕ)) → ids (without id cs) ≡ cut id (ids cs)
unfolding cut
ids_without id [] = refl
ids_without id (c ∷ cs) = at (c.0 == id) (ids_without id cs)
  where
    at : (b : Bool) → ids (without id cs) ≡ cut id (ids cs) → ids (if b then cs else c ∷ without id cs) ≡ (if b then ids cs else c.0 ∷ cut id (ids cs))
    at true k = refl
    at false k = ap (λ l. c.0 ∷ l) k

pub ids_polled : (n : ℕ) (cs : List Live) → map (λ c. c.id) (map (polled n) cs) ≡ map (λ c. c.id) cs
ids_polled n [] = refl
ids_polled n (c ∷ cs) = ap (λ l. c.id ∷ l) (ids_polled n cs)

ids_joined : (id : ℕ) (o : Option ℕ) (p : ℕ) (live : List (ℕ × ℕ)) → o ≡ Some p → ids (joined id o live) ≡ ids live ++ id ∷ []
ids_joined id None p live e = absurd (cc)
ids_joined id (Some q) p live e = map-append (λ c. c.0) live ((id, q) ∷ [])

-- an event leaves them the same, where each start is of a place
pub ids_after : (plan : Plan) (cs : List Live) (r : Run) → map (λ c. c.id) cs ≡ ids r.live → (e : Event) → (starts_of e ≡ 1 → (p : ℕ) × (next_place plan r.marks ≡ Some p)) → map (λ c. c.id) (live_after cs e) ≡ ids (run_after plan r e).live
ids_after plan cs r h = by_kind (λ e. (starts_of e ≡ 1 → (p : ℕ) × (next_place plan r.marks ≡ Some p)) → map (λ c. c.id) (live_after cs e) ≡ ids (run_after plan r e).live)
    (λ id role cmd pipes held s. map-append (λ c. c.id) cs (record { id = id; polls = 0 } ∷ []) ∙ ap (λ l. l ++ id ∷ []) h ∙ sym (ids_joined id (next_place plan r.marks) (s refl).0 r.live (s refl).1))
    (λ id st s. ids_live id cs ∙ ap (cut id) h ∙ sym (ids_without id r.live))
    (λ id s. ids_live id cs ∙ ap (cut id) h ∙ sym (ids_without id r.live))
    (λ n s. ids_polled n cs ∙ h)
    (λ e q s. ap (map (λ c. c.id)) (q.lives cs) ∙ h ∙ ap (λ x. ids x.live) (sym (q.run plan r)))

-- so do events that start nothing
pub ids_unstarted : (plan : Plan) (cs : List Live) (r : Run) (es : List Event) → starts es ≡ 0 → map (λ c. c.id) cs ≡ ids r.live → map (λ c. c.id) (live_from cs es) ≡ ids (run_from plan r es).live
ids_unstarted plan cs r [] z h = h
ids_unstarted plan cs r (e ∷ es) z h =
    let k : starts (e ∷ es) ≡ starts_of e + starts es = sum_by-cons starts_of e es in
    ids_unstarted plan (live_after cs e) (run_after plan r e) es (omega arith) (ids_after plan cs r h e (λ s. absurd (omega arith)))

pub same_length : (cs : List Live) (ls : List (ℕ × ℕ)) → map (λ c. c.id) cs ≡ ids ls → length cs ≡ length ls
same_length cs ls e = sym (length-map cs (λ c. c.id)) ∙ ap length e ∙ length-map ls (λ c. c.0)

-- What is left of the patience.

left_cons : (most : ℕ) (c : Live) (cs : List Live) → patience_left most (c ∷ cs) ≡ (most - c.polls) + patience_left most cs
left_cons most c cs = sum_by-cons (left_of most) c cs

left_without : (most id : ℕ) (cs : List Live) → patience_left most (without_live id cs) ≤ patience_left most cs
left_without most id [] = omega arith
left_without most id (c ∷ cs) = at (c.id == id) (left_without most id cs)
  where
    at : (b : Bool) → patience_left most (without_live id cs) ≤ patience_left most cs → patience_left most (if b then cs else c ∷ without_live id cs) ≤ patience_left most (c ∷ cs)
    at true k = let a : patience_left most (c ∷ cs) ≡ (most - c.polls) + patience_left most cs = left_cons most c cs in omega arith
    at false k = let a : patience_left most (c ∷ cs) ≡ (most - c.polls) + patience_left most cs = left_cons most c cs in let b : patience_left most (c ∷ without_live id cs) ≡ (most - c.polls) + patience_left most (without_live id cs) = left_cons most c (without_live id cs) in omega arith

left_polled : (most n : ℕ) (cs : List Live) → patience_left most (map (polled n) cs) ≤ patience_left most cs
left_polled most n [] = omega arith
left_polled most n (c ∷ cs) =
    let a : patience_left most (c ∷ cs) ≡ (most - c.polls) + patience_left most cs = left_cons most c cs in
    let b : patience_left most (map (polled n) (c ∷ cs)) ≡ (most - (c.polls + n)) + patience_left most (map (polled n) cs) = left_cons most (polled n c) (map (polled n) cs) in
    let i : patience_left most (map (polled n) cs) ≤ patience_left most cs = left_polled most n cs in
    omega arith

left_push : (most id : ℕ) (cs : List Live) → patience_left most (cs ++ record { id = id; polls = 0 } ∷ []) ≡ patience_left most cs + most
left_push most id cs = let a : patience_left most (cs ++ record { id = id; polls = 0 } ∷ []) ≡ patience_left most cs + (most - 0) = sum_by_push (left_of most) cs (record { id = id; polls = 0 }) in omega arith

-- an event that starts nothing adds nothing to it
left_after : (most : ℕ) (cs : List Live) (e : Event) → starts_of e ≡ 0 → patience_left most (live_after cs e) ≤ patience_left most cs
left_after most cs = by_kind (λ e. starts_of e ≡ 0 → patience_left most (live_after cs e) ≤ patience_left most cs)
    (λ id role cmd pipes held z. absurd (omega arith))
    (λ id s z. left_without most id cs)
    (λ id z. left_without most id cs)
    (λ n z. left_polled most n cs)
    (λ e q z. let a : patience_left most (live_after cs e) ≡ patience_left most cs = ap (patience_left most) (q.lives cs) in omega arith)

left_from : (most : ℕ) (cs : List Live) (es : List Event) → starts es ≡ 0 → patience_left most (live_from cs es) ≤ patience_left most cs
left_from most cs [] z = omega arith
left_from most cs (e ∷ es) z =
    let s : starts (e ∷ es) ≡ starts_of e + starts es = sum_by-cons starts_of e es in
    let i : patience_left most (live_from (live_after cs e) es) ≤ patience_left most (live_after cs e) = left_from most (live_after cs e) es (omega arith) in
    let a : patience_left most (live_after cs e) ≤ patience_left most cs = left_after most cs e (omega arith) in
    omega arith

-- Each child was polled fewer times than the patience.

abbrev Short : ℕ → List Live → Type 0
Short most [] = Unit {0}
Short most (c ∷ cs) = (c.polls < most) × Short most cs

short_of : (most : ℕ) (cs : List Live) → All (λ c. c.polls < most) cs → Short most cs
short_of most [] h = tt
short_of most (c ∷ cs) h = (All-head (λ d. d.polls < most) c cs h, short_of most cs (All-tail (λ d. d.polls < most) c cs h))

all_of : (most : ℕ) (cs : List Live) → Short most cs → All (λ c. c.polls < most) cs
all_of most [] h = All-nil (λ d. d.polls < most)
all_of most (c ∷ cs) h = All-cons (λ d. d.polls < most) c cs h.0 (all_of most cs h.1)

short_push : (most id : ℕ) (cs : List Live) → 1 ≤ most → Short most cs → Short most (cs ++ record { id = id; polls = 0 } ∷ [])
short_push most id [] m h = (omega arith, tt)
short_push most id (c ∷ cs) m h = (h.0, short_push most id cs m h.1)

-- a turn takes of the patience with each child
left_turn : (most : ℕ) (cs : List Live) → Short most cs → patience_left most (map (polled 1) cs) + length cs ≤ patience_left most cs
left_turn most [] h = omega arith
left_turn most (c ∷ cs) h =
    let a : patience_left most (c ∷ cs) ≡ (most - c.polls) + patience_left most cs = left_cons most c cs in
    let b : patience_left most (map (polled 1) (c ∷ cs)) ≡ (most - (c.polls + 1)) + patience_left most (map (polled 1) cs) = left_cons most (polled 1 c) (map (polled 1) cs) in
    let i : patience_left most (map (polled 1) cs) + length cs ≤ patience_left most cs = left_turn most cs h.1 in
    let s : c.polls < most = h.0 in
    omega arith

-- These children stand among those, in the same order, with the same number of polls. So those of a run stand among those of its host,
-- whatever else runs there.

abbrev Among : List Live → List Live → Type 0
Among [] ls = Unit {0}
Among (c ∷ cs) [] = ⊥
Among (c ∷ cs) (l ∷ ls) = ((c ≡ l) × Among cs ls) ⊎ Among (c ∷ cs) ls

among_more : (cs ls : List Live) (l : Live) → Among cs ls → Among cs (l ∷ ls)
among_more [] ls l h = tt
among_more (c ∷ cs) ls l h = inr h

among_less : (id : ℕ) (cs ls : List Live) → Among cs ls → Among (without_live id cs) ls
among_less id [] ls h = tt
among_less id (c ∷ cs) [] h = absurd h
among_less id (c ∷ cs) (l ∷ ls) (inl h) = at (c.id == id) (among_less id cs ls h.1)
  where
    at : (b : Bool) → Among (without_live id cs) ls → Among (if b then cs else c ∷ without_live id cs) (l ∷ ls)
    at true k = among_more cs ls l h.1
    at false k = inl (h.0, k)
among_less id (c ∷ cs) (l ∷ ls) (inr h) = among_more (without_live id (c ∷ cs)) ls l (among_less id (c ∷ cs) ls h)

among_without : (id : ℕ) (cs ls : List Live) → Among cs ls → Among (without_live id cs) (without_live id ls)
among_without id [] ls h = tt
among_without id (c ∷ cs) [] h = absurd h
among_without id (c ∷ cs) (l ∷ ls) (inl h) = both (c.id == id) (l.id == id) (ap (λ n. n.id == id) h.0) (among_without id cs ls h.1)
  where
    both : (b d : Bool) → b ≡ d → Among (without_live id cs) (without_live id ls) → Among (if b then cs else c ∷ without_live id cs) (if d then ls else l ∷ without_live id ls)
    both true true e k = h.1
    both false false e k = inl (h.0, k)
    both true false e k = absurd (cc)
    both false true e k = absurd (cc)
among_without id (c ∷ cs) (l ∷ ls) (inr h) = one (l.id == id) (among_without id (c ∷ cs) ls h) (among_less id (c ∷ cs) ls h)
  where
    one : (d : Bool) → Among (without_live id (c ∷ cs)) (without_live id ls) → Among (without_live id (c ∷ cs)) ls → Among (without_live id (c ∷ cs)) (if d then ls else l ∷ without_live id ls)
    one true k less = less
    one false k less = among_more (without_live id (c ∷ cs)) (without_live id ls) l k

among_push : (cs ls : List Live) (c : Live) → Among cs ls → Among (cs ++ c ∷ []) (ls ++ c ∷ [])
among_push [] [] c h = inl (refl, tt)
among_push [] (l ∷ ls) c h = inr (among_push [] ls c tt)
among_push (x ∷ cs) [] c h = absurd h
among_push (x ∷ cs) (l ∷ ls) c (inl h) = inl (h.0, among_push cs ls c h.1)
among_push (x ∷ cs) (l ∷ ls) c (inr h) = inr (among_push (x ∷ cs) ls c h)

among_polled : (n : ℕ) (cs ls : List Live) → Among cs ls → Among (map (polled n) cs) (map (polled n) ls)
among_polled n [] ls h = tt
among_polled n (c ∷ cs) [] h = absurd h
among_polled n (c ∷ cs) (l ∷ ls) (inl h) = inl (ap (polled n) h.0, among_polled n cs ls h.1)
among_polled n (c ∷ cs) (l ∷ ls) (inr h) = inr (among_polled n (c ∷ cs) ls h)

among_after : (cs ls : List Live) → Among cs ls → (e : Event) → Among (live_after cs e) (live_after ls e)
among_after cs ls h = by_kind (λ e. Among (live_after cs e) (live_after ls e))
    (λ id role cmd pipes held. among_push cs ls (record { id = id; polls = 0 }) h)
    (λ id s. among_without id cs ls h)
    (λ id. among_without id cs ls h)
    (λ n. among_polled n cs ls h)
    (λ e q. subst (λ x. Among x (live_after ls e)) (sym (q.lives cs)) (subst (Among cs) (sym (q.lives ls)) h))

among_from : (cs ls : List Live) (es : List Event) → Among cs ls → Among (live_from cs es) (live_from ls es)
among_from cs ls [] h = h
among_from cs ls (e ∷ es) h = among_from (live_after cs e) (live_after ls e) es (among_after cs ls h e)

among_short : (most : ℕ) (cs ls : List Live) → Among cs ls → Short most ls → Short most cs
among_short most [] ls h s = tt
among_short most (c ∷ cs) [] h s = absurd h
among_short most (c ∷ cs) (l ∷ ls) (inl h) s = (subst (λ x. x.polls < most) (sym h.0) s.0, among_short most cs ls h.1 s.1)
among_short most (c ∷ cs) (l ∷ ls) (inr h) s = among_short most (c ∷ cs) ls h s.1

-- the host's word on all its children is one on those of the last part of its log
part_short : (most : ℕ) (log before whole : List Event) → log ≡ before ++ whole → Waits (Some most) log → Short most (live_from [] whole)
part_short most log before whole e w =
    let l : live log ≡ live_from (live before) whole = ap live e ∙ live_append [] before whole in
    among_short most (live_from [] whole) (live_from (live before) whole) (among_from [] (live before) whole tt) (subst (Short most) l (short_of most (live log) w))

-- Parts one after another.

turns_two : (a b : List Event) → turns (a ++ b) ≡ turns a + turns b
turns_two a b = sum_by-append turns_of a b

starts_two : (most : ℕ) (a b : List Event) → most * starts (a ++ b) ≡ most * starts a + most * starts b
starts_two most a b = ap (λ n. most * n) (sum_by-append starts_of a b) ∙ mul-add most (starts a) (starts b)

pub patient_none : (most : ℕ) → IsPatient most nothing []
patient_none most = record { same = refl; waits = All-nil (λ c. c.polls < most); within = omega arith }

-- nothing was done
pub lasts_none : (total patience : Option ℕ) (log : List Event) (r : Run) → Lasts total patience log r [] r
lasts_none None patience log r = tt
lasts_none (Some t) None log r = tt
lasts_none (Some t) (Some most) log r = λ least before whole e p. subst (IsPatient most r) (sym (append-nil whole)) p

-- one part and then another
pub lasts_then : (total patience : Option ℕ) (log log' : List Event) (r r' r'' : Run) (a b : List Event) → log' ≡ log ++ a → Lasts total patience log r a r' → Lasts total patience log' r' b r'' → Lasts total patience log r (a ++ b) r''
lasts_then None patience log log' r r' r'' a b e x y = tt
lasts_then (Some t) None log log' r r' r'' a b e x y = tt
lasts_then (Some t) (Some most) log log' r r' r'' a b e x y = λ least before whole f p.
    subst (IsPatient most r'') (append_assoc whole a b) (y least before (whole ++ a) (e ∙ ap (λ l. l ++ a) f ∙ append_assoc before whole a) (x least before whole f p))

patient_start : (most : ℕ) (r r' : Run) (whole : List Event) (id : ℕ) (role : Role) (cmd : CommandSeen) (pipes : Pipes) (held : ℕ) → ids r'.live ≡ ids r.live ++ id ∷ [] → 1 ≤ most → IsPatient most r whole → IsPatient most r' (whole ++ Started id role cmd pipes held ∷ [])
patient_start most r r' whole id role cmd pipes held joins least p =
    let w : live_from [] (whole ++ Started id role cmd pipes held ∷ []) ≡ live_from [] whole ++ record { id = id; polls = 0 } ∷ [] = live_append [] whole (Started id role cmd pipes held ∷ []) in
    let t : turns (whole ++ Started id role cmd pipes held ∷ []) ≡ turns whole + 0 = turns_two whole (Started id role cmd pipes held ∷ []) in
    let s : most * starts (whole ++ Started id role cmd pipes held ∷ []) ≡ most * starts whole + most * 1 = starts_two most whole (Started id role cmd pipes held ∷ []) in
    let l : patience_left most (live_from [] whole ++ record { id = id; polls = 0 } ∷ []) ≡ patience_left most (live_from [] whole) + most = left_push most id (live_from [] whole) in
    let lw : patience_left most (live_from [] (whole ++ Started id role cmd pipes held ∷ [])) ≡ patience_left most (live_from [] whole ++ record { id = id; polls = 0 } ∷ []) = ap (patience_left most) w in
    let k : turns whole + patience_left most (live_from [] whole) ≤ most * starts whole = p.within in
    record {
      same = ap (map (λ c. c.id)) w ∙ map-append (λ c. c.id) (live_from [] whole) (record { id = id; polls = 0 } ∷ []) ∙ ap (λ l. l ++ id ∷ []) p.same ∙ sym joins;
      waits = all_of most (live_from [] (whole ++ Started id role cmd pipes held ∷ [])) (subst (Short most) (sym w) (short_push most id (live_from [] whole) least (short_of most (live_from [] whole) p.waits)));
      within = omega arith;
    }

-- a child was started
pub lasts_start : (total patience : Option ℕ) (log : List Event) (r r' : Run) (id : ℕ) (role : Role) (cmd : CommandSeen) (pipes : Pipes) (held : ℕ) → ids r'.live ≡ ids r.live ++ id ∷ [] → Lasts total patience log r (Started id role cmd pipes held ∷ []) r'
lasts_start None patience log r r' id role cmd pipes held e = tt
lasts_start (Some t) None log r r' id role cmd pipes held e = tt
lasts_start (Some t) (Some most) log r r' id role cmd pipes held e = λ least before whole f p. patient_start most r r' whole id role cmd pipes held e least p

prints_live : (ls : List Notice) (cs : List Live) → live_from cs (prints ls) ≡ cs
prints_live [] cs = refl
prints_live (Shown kind bytes ∷ ls) cs = prints_live ls cs
prints_live (Told message ∷ ls) cs = prints_live ls cs

patient_prints : (most : ℕ) (r : Run) (whole : List Event) (ls : List Notice) → IsPatient most r whole → IsPatient most r (whole ++ prints ls)
patient_prints most r whole ls p =
    let w : live_from [] (whole ++ prints ls) ≡ live_from [] whole = live_append [] whole (prints ls) ∙ prints_live ls (live_from [] whole) in
    let t : turns (whole ++ prints ls) ≡ turns whole + turns (prints ls) = turns_two whole (prints ls) in
    let t0 : turns (prints ls) ≡ 0 = prints_turns ls in
    let s : most * starts (whole ++ prints ls) ≡ most * starts whole + most * starts (prints ls) = starts_two most whole (prints ls) in
    let s0 : most * starts (prints ls) ≡ most * 0 = ap (λ n. most * n) (prints_starts ls) in
    let l : patience_left most (live_from [] (whole ++ prints ls)) ≡ patience_left most (live_from [] whole) = ap (patience_left most) w in
    let k : turns whole + patience_left most (live_from [] whole) ≤ most * starts whole = p.within in
    record {
      same = ap (map (λ c. c.id)) w ∙ p.same;
      waits = subst (All (λ c. c.polls < most)) (sym w) p.waits;
      within = omega arith;
    }

-- lines were printed and messages said
pub lasts_prints : (total patience : Option ℕ) (log : List Event) (r : Run) (ls : List Notice) → Lasts total patience log r (prints ls) r
lasts_prints None patience log r ls = tt
lasts_prints (Some t) None log r ls = tt
lasts_prints (Some t) (Some most) log r ls = λ least before whole f p. patient_prints most r whole ls p

patient_turn : (most : ℕ) (plan : Plan) (r : Run) (whole : List Event) (news : List News) → 0 < length r.live → Short most (live_from [] (whole ++ Turn 1 ∷ reports news)) → IsPatient most r whole → IsPatient most (run_from plan r (reports news)) (whole ++ Turn 1 ∷ reports news)
patient_turn most plan r whole news some short p =
    let w : live_from [] (whole ++ Turn 1 ∷ reports news) ≡ live_from (map (polled 1) (live_from [] whole)) (reports news) = live_append [] whole (Turn 1 ∷ reports news) in
    let t : turns (whole ++ Turn 1 ∷ reports news) ≡ turns whole + turns (Turn 1 ∷ reports news) = turns_two whole (Turn 1 ∷ reports news) in
    let t1 : turns (Turn 1 ∷ reports news) ≡ 1 + turns (reports news) = sum_by-cons turns_of (Turn 1) (reports news) in
    let t0 : turns (reports news) ≡ 0 = news_turns news in
    let s : most * starts (whole ++ Turn 1 ∷ reports news) ≡ most * starts whole + most * starts (Turn 1 ∷ reports news) = starts_two most whole (Turn 1 ∷ reports news) in
    let s1 : starts (Turn 1 ∷ reports news) ≡ 0 + starts (reports news) = sum_by-cons starts_of (Turn 1) (reports news) in
    let s0 : starts (reports news) ≡ 0 = news_starts news in
    let m : most * starts (Turn 1 ∷ reports news) ≡ most * 0 = ap (λ n. most * n) (let g : starts (Turn 1 ∷ reports news) ≡ 0 = omega arith in g) in
    let o : patience_left most (map (polled 1) (live_from [] whole)) + length (live_from [] whole) ≤ patience_left most (live_from [] whole) = left_turn most (live_from [] whole) (short_of most (live_from [] whole) p.waits) in
    let l : patience_left most (live_from (map (polled 1) (live_from [] whole)) (reports news)) ≤ patience_left most (map (polled 1) (live_from [] whole)) = left_from most (map (polled 1) (live_from [] whole)) (reports news) s0 in
    let lw : patience_left most (live_from [] (whole ++ Turn 1 ∷ reports news)) ≡ patience_left most (live_from (map (polled 1) (live_from [] whole)) (reports news)) = ap (patience_left most) w in
    let n : length (live_from [] whole) ≡ length r.live = same_length (live_from [] whole) r.live p.same in
    let k : turns whole + patience_left most (live_from [] whole) ≤ most * starts whole = p.within in
    record {
      same = ap (map (λ c. c.id)) w ∙ ids_unstarted plan (map (polled 1) (live_from [] whole)) r (reports news) s0 (ids_polled 1 (live_from [] whole) ∙ p.same);
      waits = all_of most (live_from [] (whole ++ Turn 1 ∷ reports news)) short;
      within = omega arith;
    }

-- a turn was made
pub lasts_turn : (total patience : Option ℕ) (plan : Plan) (log new : List Event) (r r' : Run) (news : List News) → Busy plan total r → new ≡ log ++ Turn 1 ∷ reports news → Waits patience new → r' ≡ run_from plan r (reports news) → Lasts total patience log r (Turn 1 ∷ reports news) r'
lasts_turn None patience plan log new r r' news busy adds waits e = tt
lasts_turn (Some t) None plan log new r r' news busy adds waits e = tt
lasts_turn (Some t) (Some most) plan log new r r' news busy adds waits e = λ least before whole f p.
    let h : new ≡ before ++ (whole ++ Turn 1 ∷ reports news) = adds ∙ ap (λ l. l ++ Turn 1 ∷ reports news) f ∙ append_assoc before whole (Turn 1 ∷ reports news) in
    subst (λ x. IsPatient most x (whole ++ Turn 1 ∷ reports news)) (sym e) (patient_turn most plan r whole news busy.0 (part_short most new before (whole ++ Turn 1 ∷ reports news) h waits) p)

-- Each start lowers how many places are left.

starts_next : (plan : Plan) (marks : List Mark) (o : Option ℕ) (p : ℕ) → next_place plan marks ≡ o → o ≡ Some p → 1 + unbegun (length plan.cmds) (began o marks) ≡ unbegun (length plan.cmds) marks
starts_next plan marks None p n e = absurd (cc)
starts_next plan marks (Some q) p n e =
    let l = next_some plan marks q n in
    let k : unbegun (length plan.cmds) (began (Some q) marks) + 1 ≡ unbegun (length plan.cmds) marks = unbegun_begin (length plan.cmds) q marks l.below (may_begun plan marks q l.holds) in
    omega arith

ends_left : (n : ℕ) (marks : List Mark) (status : Status) (o : Option ℕ) → unbegun n (over status o marks) ≡ unbegun n marks
ends_left n marks status None = refl
ends_left n marks status (Some p) = unbegun_over n marks p status

-- what a run from its start leaves of its places
works_left : (rules : Rules) (total : Option ℕ) (old done : State) (w : Works rules total old done) → old.kept ≡ nothing_kept → starts w.part + unbegun (length rules.plan.cmds) (run_of done.kept).marks ≡ length rules.plan.cmds
works_left rules total old done w none =
    let a : starts w.part + unbegun (length rules.plan.cmds) (run_from rules.plan (run_of old.kept) w.part).marks ≡ unbegun (length rules.plan.cmds) (run_of old.kept).marks = starts_left rules total (run_of old.kept) w.part w.good in
    let b : unbegun (length rules.plan.cmds) (run_of old.kept).marks ≡ length rules.plan.cmds = ap (λ k. unbegun (length rules.plan.cmds) (run_of k).marks) none ∙ unbegun_none (length rules.plan.cmds) in
    let d : unbegun (length rules.plan.cmds) (run_from rules.plan (run_of old.kept) w.part).marks ≡ unbegun (length rules.plan.cmds) (run_of done.kept).marks = ap (λ r. unbegun (length rules.plan.cmds) r.marks) (sym (kept_run rules.plan old.kept w.part) ∙ ap run_of w.keeps) in
    omega arith

-- a run from its start is patient
works_patient : (rules : Rules) (total : Option ℕ) (t most : ℕ) (old done : State) (w : Works rules total old done) → old.kept ≡ nothing_kept → 1 ≤ most → total ≡ Some t → old.patience ≡ Some most → IsPatient most (run_of done.kept) w.part
works_patient rules total t most old done w none least own tells =
    let lasts : Lasts (Some t) (Some most) old.log (run_of old.kept) w.part (run_of done.kept) = subst (λ o. Lasts (Some t) o old.log (run_of old.kept) w.part (run_of done.kept)) tells (subst (λ o. Lasts o old.patience old.log (run_of old.kept) w.part (run_of done.kept)) own w.lasts) in
    lasts least old.log [] (sym (append-nil old.log)) (subst (λ k. IsPatient most (run_of k) []) (sym none) (patient_none most))

-- Whole runs.

-- the event that tells why a run ended is of one of these kinds
pub by_cause : (P : List Event → Type 0) → P [] → ((role : Role) (cmd : CommandSeen) → P (Missing role cmd ∷ [])) → ((call : HostCall) (why : Why) → P (Fault call why ∷ [])) → (cmds : List Planned) (e : RunError) (tail : List Event) → IsCause cmds e tail → P tail
by_cause P n m f cmds (ToolNotFound place) tail h = subst P (sym h.1.1) (m h.0.role h.0.cmd)
by_cause P n m f cmds (StartFault place) tail h = subst P (sym h.1) (f _ h.0)
by_cause P n m f cmds WaitFault tail h = subst P (sym h.1) (f _ h.0)
by_cause P n m f cmds (HostFault call why) tail h = subst P (sym h) (f call why)
by_cause P n m f cmds (Failed place status) tail h = subst P (sym h) n
by_cause P n m f cmds JobFault tail h = subst P (sym h) n
by_cause P n m f cmds TurnsSpent tail h = subst P (sym h) n
by_cause P n m f cmds NoMemory tail h = subst P (sym h) n

pub by_end : (P : List Event → Type 0) → P [] → ((role : Role) (cmd : CommandSeen) → P (Missing role cmd ∷ [])) → ((call : HostCall) (why : Why) → P (Fault call why ∷ [])) → (rules : Rules) (done : State) (general : Result (List Mark) RunError) (tail : List Event) → EndsBy rules done general tail → P tail
by_end P n m f rules done (Ok marks) tail h = subst P (sym h.2) n
by_end P n m f rules done (Err e) tail h = by_cause P n m f rules.plan.cmds e tail h.1

gone_turns : (cs : List (ℕ × ℕ)) → turns (gone cs) ≡ 0
gone_turns [] = refl
gone_turns (c ∷ cs) = let i : turns (gone cs) ≡ 0 = gone_turns cs in let k : turns (gone (c ∷ cs)) ≡ 0 + turns (gone cs) = sum_by-cons turns_of (Abandoned c.0) (gone cs) in omega arith

left_some : (most : ℕ) (cs : List Live) → Short most cs → 0 < length cs → 1 ≤ patience_left most cs
left_some most [] h n = absurd (omega arith)
left_some most (c ∷ cs) h n = let a : patience_left most (c ∷ cs) ≡ (most - c.polls) + patience_left most cs = left_cons most c cs in let s : c.polls < most = h.0 in omega arith

module _ (rules : Rules) (total : Option ℕ) (old : State) (general : Result (List Mark) RunError) (log : List Event) (patience : Option ℕ) (seat : SeatSeen) (turned : TurnsSeen) (ran : RanAll rules total old general log patience seat turned) where
  -- what a whole run added
  pub ran_part : since old.log log ≡ ran.works.part ++ (ran.tail ++ gone (run_of ran.done.kept).live)
  ran_part = ap (since old.log) (ran.adds ∙ ap (λ l. l ++ (ran.tail ++ gone (run_of ran.done.kept).live)) ran.works.adds ∙ append_assoc old.log ran.works.part (ran.tail ++ gone (run_of ran.done.kept).live)) ∙ since_append old.log (ran.works.part ++ (ran.tail ++ gone (run_of ran.done.kept).live))

  -- its turns were made before its end
  pub ran_turns : turns (since old.log log) ≡ turns ran.works.part
  ran_turns =
      let a : turns (since old.log log) ≡ turns ran.works.part + turns (ran.tail ++ gone (run_of ran.done.kept).live) = ap turns ran_part ∙ turns_two ran.works.part (ran.tail ++ gone (run_of ran.done.kept).live) in
      let b : turns (ran.tail ++ gone (run_of ran.done.kept).live) ≡ turns ran.tail + turns (gone (run_of ran.done.kept).live) = turns_two ran.tail (gone (run_of ran.done.kept).live) in
      let c : turns ran.tail ≡ 0 = by_end (λ t. turns t ≡ 0) refl (λ role cmd. refl) (λ call why. refl) rules ran.done general ran.tail ran.ends in
      let d : turns (gone (run_of ran.done.kept).live) ≡ 0 = gone_turns (run_of ran.done.kept).live in
      omega arith

  module _ (none : old.kept ≡ nothing_kept) where
    -- no more turns were made than the patience with each command
    bound : (t most : ℕ) → 1 ≤ most → total ≡ Some t → old.patience ≡ Some most → turns (since old.log log) ≤ most * length rules.plan.cmds
    bound t most least own tells =
        let p : IsPatient most (run_of ran.done.kept) ran.works.part = works_patient rules total t most old ran.done ran.works none least own tells in
        let k : turns ran.works.part + patience_left most (live_from [] ran.works.part) ≤ most * starts ran.works.part = p.within in
        let m : most * starts ran.works.part ≤ most * length rules.plan.cmds = mul-le-mul_left most (few_starts rules total old ran.done ran.works none) in
        let e : turns (since old.log log) ≡ turns ran.works.part = ran_turns in
        omega arith

    pub ran_bound : IfSome old.patience (λ most. 1 ≤ most) → IfSome total (λ _. Bounded old.patience (length rules.plan.cmds) (since old.log log))
    ran_bound = at total old.patience refl refl
      where
        at : (t p : Option ℕ) → total ≡ t → old.patience ≡ p → IfSome p (λ most. 1 ≤ most) → IfSome t (λ _. Bounded p (length rules.plan.cmds) (since old.log log))
        at None p own tells least = tt
        at (Some t) None own tells least = tt
        at (Some t) (Some most) own tells least = bound t most least own tells

    -- and fewer where a child runs
    fewer_live : (t most : ℕ) → 1 ≤ most → total ≡ Some t → old.patience ≡ Some most → 0 < length (run_of ran.done.kept).live → turns (since old.log log) < most * length rules.plan.cmds
    fewer_live t most least own tells some =
        let p : IsPatient most (run_of ran.done.kept) ran.works.part = works_patient rules total t most old ran.done ran.works none least own tells in
        let k : turns ran.works.part + patience_left most (live_from [] ran.works.part) ≤ most * starts ran.works.part = p.within in
        let l : length (live_from [] ran.works.part) ≡ length (run_of ran.done.kept).live = same_length (live_from [] ran.works.part) (run_of ran.done.kept).live p.same in
        let one : 1 ≤ patience_left most (live_from [] ran.works.part) = left_some most (live_from [] ran.works.part) (short_of most (live_from [] ran.works.part) p.waits) (omega arith) in
        let m : most * starts ran.works.part ≤ most * length rules.plan.cmds = mul-le-mul_left most (few_starts rules total old ran.done ran.works none) in
        let e : turns (since old.log log) ≡ turns ran.works.part = ran_turns in
        omega arith

    -- or a command may be started
    fewer_next : (t most q : ℕ) → 1 ≤ most → total ≡ Some t → old.patience ≡ Some most → next_place rules.plan (run_of ran.done.kept).marks ≡ Some q → turns (since old.log log) < most * length rules.plan.cmds
    fewer_next t most q least own tells next =
        let p : IsPatient most (run_of ran.done.kept) ran.works.part = works_patient rules total t most old ran.done ran.works none least own tells in
        let k : turns ran.works.part + patience_left most (live_from [] ran.works.part) ≤ most * starts ran.works.part = p.within in
        let a : starts ran.works.part + unbegun (length rules.plan.cmds) (run_of ran.done.kept).marks ≡ length rules.plan.cmds = works_left rules total old ran.done ran.works none in
        let f : 1 + unbegun (length rules.plan.cmds) (began (Some q) (run_of ran.done.kept).marks) ≡ unbegun (length rules.plan.cmds) (run_of ran.done.kept).marks = starts_next rules.plan (run_of ran.done.kept).marks (Some q) q next refl in
        let m : most * (starts ran.works.part + 1) ≤ most * length rules.plan.cmds = mul-le-mul_left most (omega arith) in
        let d : most * (starts ran.works.part + 1) ≡ most * starts ran.works.part + most * 1 = mul-add most (starts ran.works.part) 1 in
        let e : turns (since old.log log) ≡ turns ran.works.part = ran_turns in
        omega arith

    open_fewer : (t most : ℕ) (live : List (ℕ × ℕ)) (o : Option ℕ) → 1 ≤ most → total ≡ Some t → old.patience ≡ Some most → (run_of ran.done.kept).live ≡ live → next_place rules.plan (run_of ran.done.kept).marks ≡ o → (IsSettled rules.plan (run_of ran.done.kept) → ⊥) → turns (since old.log log) < most * length rules.plan.cmds
    open_fewer t most (c ∷ cs) o least own tells runs next unsettled = fewer_live t most least own tells (let l : length (run_of ran.done.kept).live ≡ length cs + 1 = ap length runs ∙ (let g : length (c ∷ cs) ≡ length cs + 1 = omega arith in g) in omega arith)
    open_fewer t most [] (Some q) least own tells runs next unsettled = fewer_next t most q least own tells next
    open_fewer t most [] None least own tells runs next unsettled = absurd (unsettled (runs, next))

    pub ran_unspent : IfSome old.patience (λ most. 1 ≤ most) → general ≡ Err TurnsSpent → IfSome total (λ _. Unspent old.patience (length rules.plan.cmds) (since old.log log))
    ran_unspent least spent = at total old.patience refl refl least
      where
        ends : EndsBy rules ran.done (Err TurnsSpent) ran.tail
        ends = subst (λ g. EndsBy rules ran.done g ran.tail) spent ran.ends

        at : (t p : Option ℕ) → total ≡ t → old.patience ≡ p → IfSome p (λ most. 1 ≤ most) → IfSome t (λ _. Unspent p (length rules.plan.cmds) (since old.log log))
        at None p own tells least = tt
        at (Some t) None own tells least = tt
        at (Some t) (Some most) own tells least = open_fewer t most (run_of ran.done.kept).live (next_place rules.plan (run_of ran.done.kept).marks) least own tells refl refl ends.0.1
