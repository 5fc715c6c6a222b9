-- The news of a turn of the children of a host.
use Rattle.std.proofs.Common.{◌≡◌, inl, inr, ap, ℕ, zero, suc, ◌+◌, ◌<◌, ◌≤◌, Bool, true, false, ◌&&◌, nat_le, List, [], ◌∷◌, ◌++◌, map, filter, slice_get, Option, Some, None, is_some, if◌then◌else◌, refl, sym, subst, arith, pos}
use Rattle.std.specs.List.{Contains, All, list_any}
use Rattle.std.proofs.lemmas.Bool.{leb-false}
use Rattle.cc_host.specs.Children.{Live, live, unreads, IsNews, IsPiece, InOrder, Waits}
use Rattle.cc_host.specs.Script.{script_at, turns_of, turns_out, longest, patience_of, is_met, one_if}
use Rattle.cc_host.specs.ChildLog.{AreRunning, AreTold, IsPieceBy, live_of, ids, full, news_by, news_of, has_news, news_in, child_after, left_in, left_by, ends_next, piece_next, Heeds}
use Rattle.cc_host.specs.declared.event.Event.{Event}
use Rattle.cc_host.specs.declared.event.News.{News}
use Rattle.cc_host.specs.declared.event.Status.{Status}
use Rattle.cc_host.specs.declared.event.Status.TheVariants.{Code}
use Rattle.cc_host.specs.declared.child.RunningChild.{RunningChild}
use Rattle.cc_host.specs.declared.script.Scripted.{Scripted}
use Rattle.cc_host.proofs.ChildLogLemmas.{running_ids}
use Rattle.cc_host.proofs.TurnLemmas.{news_id, next_live}

skip_first : (ns : List ℕ) (id : ℕ) (more : List ℕ) → InOrder ns more → InOrder ns (id ∷ more)
skip_first [] id more h = tt
skip_first (n ∷ ns) id more h = inr h

order_by : (k : RunningChild) (children : List RunningChild) (n : News) (told : List News) (b : Bool) → has_news n ≡ b → n.id ≡ k.id → InOrder (map (λ (n : News). n.id) (filter has_news told)) (ids children) → InOrder (map (λ (n : News). n.id) (filter has_news (n ∷ told))) (ids (k ∷ children))
order_by k children n told true e is h = rw e (inl (is, h))
order_by k children n told false e is h = rw e (skip_first (map (λ (n : News). n.id) (filter has_news told)) k.id (ids children) h)

order : (children : List RunningChild) (told : List News) → AreTold children told → InOrder (map (λ (n : News). n.id) (filter has_news told)) (ids children)
order children [] are = tt
order [] (n ∷ told) are = absurd are
order (k ∷ children) (n ∷ told) are = order_by k children n told (has_news n) refl are.0 (order children told are.2)

piece_is : (log : List Event) (n : News) (mute : Bool) (piece : Option (List ℕ)) → IsPieceBy mute piece → (mute ≡ false → Contains (unreads log) n.id → ⊥) → IsPiece log n piece
piece_is log n mute None f h = tt
piece_is log n mute (Some p) f h = (f.0, h f.1)

all_first : (log : List Event) (n : News) (ns : List News) → IsPiece log n n.piece → All (λ m. IsPiece log m m.piece) ns → All (λ m. IsPiece log m m.piece) (n ∷ ns)
all_first log n ns one h zero d lt = one
all_first log n ns one h (suc k) d lt = h k d (omega arith)

pieces_by : (log : List Event) (n : News) (told : List News) (b : Bool) → has_news n ≡ b → IsPiece log n n.piece → All (λ m. IsPiece log m m.piece) (filter has_news told) → All (λ m. IsPiece log m m.piece) (filter has_news (n ∷ told))
pieces_by log n told true e one h = rw e (all_first log n (filter has_news told) one h)
pieces_by log n told false e one h = rw e h

pieces_all : (log : List Event) (children : List RunningChild) (told : List News) → AreTold children told → Heeds (unreads log) children → All (λ n. IsPiece log n n.piece) (filter has_news told)
pieces_all log children [] are h = λ k d lt. absurd (omega arith)
pieces_all log [] (n ∷ told) are h = absurd are
pieces_all log (k ∷ children) (n ∷ told) are h = pieces_by log n told (has_news n) refl (piece_is log n k.mute n.piece are.1 (λ e c. h.0 e (subst (Contains (unreads log)) are.0 c))) (pieces_all log children told are.2 h.1)

pub news_turn : (log : List Event) (next : ℕ) (children : List RunningChild) (told : List News) → AreTold children told → AreRunning log next children → IsNews log (filter has_news told)
news_turn log next children told are alive = record {
  own = subst (InOrder (map (λ (n : News). n.id) (filter has_news told))) (sym (running_ids log next children alive)) (order children told are);
  pieces = pieces_all log children told are alive.heeds;
}

-- what the children of a host in memory do in a turn

full_is : (o : Option (List ℕ)) → IsPieceBy false (full o)
full_is None = tt
full_is (Some []) = tt
full_is (Some (b ∷ bs)) = (λ e. cc e, refl)

next_is : (k : RunningChild) (s : Scripted) (m : Bool) → k.mute ≡ m → IsPieceBy k.mute (piece_next k s)
next_is k s true e = rw e tt
next_is k s false e = rw e (full_is (slice_get s.script.pieces.items k.polls))

scripted_piece : (k : RunningChild) (o : Option Scripted) → IsPieceBy k.mute (news_by k o).piece
scripted_piece k None = tt
scripted_piece k (Some s) = next_is k s k.mute refl

pub told_are : (scripts : List Scripted) (children : List RunningChild) → AreTold children (map (news_of scripts) children)
told_are scripts [] = tt
told_are scripts (k ∷ children) = (news_id scripts k, scripted_piece k (script_at scripts k.place), told_are scripts children)

pub left_is : (scripts : List Scripted) (children : List RunningChild) → left_by children (map (news_of scripts) children) ≡ left_in scripts children
left_is scripts [] = refl
left_is scripts (k ∷ children) = ap (λ l. child_after k (news_of scripts k) ++ l) (left_is scripts children)

-- patience

abbrev waits_for : Scripted → Bool
waits_for s = is_some s.script.after

get_some : (scripts : List Scripted) (at : ℕ) (s : Scripted) → slice_get scripts at ≡ Some s → list_any waits_for scripts ≡ false → (waits_for s ≡ false) × (turns_of s ≤ longest scripts)
get_some [] at s e h = absurd (cc)
get_some (t ∷ scripts) zero s e h = first (waits_for t) refl
  where
    same : t ≡ s
    same = cc

    first : (b : Bool) → waits_for t ≡ b → (waits_for s ≡ false) × (turns_of s ≤ longest (t ∷ scripts))
    first true f = absurd (cc (rw f at h))
    first false f = (subst (λ x. waits_for x ≡ false) same f, subst (λ x. turns_of x ≤ longest (t ∷ scripts)) same (omega arith))
get_some (t ∷ scripts) (suc at) s e h = later (waits_for t) refl (get_some scripts at s e)
  where
    later : (b : Bool) → waits_for t ≡ b → (list_any waits_for scripts ≡ false → (waits_for s ≡ false) × (turns_of s ≤ longest scripts)) → (waits_for s ≡ false) × (turns_of s ≤ longest (t ∷ scripts))
    later true f rest = absurd (cc (rw f at h))
    later false f rest = let r = rest (rw f at h) in let le = r.1 in (r.0, omega arith)

place_some : (scripts : List Scripted) (place : Option ℕ) (s : Scripted) → script_at scripts place ≡ Some s → list_any waits_for scripts ≡ false → (waits_for s ≡ false) × (turns_of s ≤ longest scripts)
place_some scripts None s e h = absurd (cc)
place_some scripts (Some at) s e h = get_some scripts at s e h

not_both : (x y z : Bool) → (x && y && z) ≡ false → z ≡ true → x ≡ true → y ≡ true → ⊥
not_both true true true h e f g = cc h
not_both true true false h e f g = cc e
not_both true false z h e f g = cc g
not_both false y z h e f g = cc f

met_by : (s : Scripted) (b : Bool) → is_some s.script.after ≡ b → b ≡ false → is_met s ≡ true
met_by s true e f = absurd (cc)
met_by s false e f = rw e refl

slow_at : (n : ℕ) (s : Scripted) (most : ℕ) → (nat_le (turns_out s) n && nat_le s.script.turns n && is_met s) ≡ false → waits_for s ≡ false → turns_of s ≤ most → n < most
slow_at n s most late w le = first (nat_le (turns_out s) n) (nat_le s.script.turns n) refl refl
  where
    unread_once : (b : Bool) → one_if b ≤ 1
    unread_once true = omega arith
    unread_once false = omega arith

    first : (x y : Bool) → nat_le (turns_out s) n ≡ x → nat_le s.script.turns n ≡ y → n < most
    first true true e f = absurd (not_both (nat_le (turns_out s) n) (nat_le s.script.turns n) (is_met s) late (met_by s (is_some s.script.after) refl w) e f)
    first false y e f = let short = leb-false (turns_out s) n e in let one = unread_once s.script.unread in omega arith
    first true false e f = let short = leb-false s.script.turns n f in omega arith

end_none : (b : Bool) (status : Status) → is_some (if b then Some status else None) ≡ false → b ≡ false
end_none true status h = absurd (cc)
end_none false status h = refl

slow_by : (scripts : List Scripted) (k : RunningChild) (o : Option Scripted) → script_at scripts k.place ≡ o → is_some (news_by k o).ended ≡ false → list_any waits_for scripts ≡ false → k.polls + 1 < longest scripts
slow_by scripts k None e f h = absurd (cc)
slow_by scripts k (Some s) e f h =
    let p = place_some scripts k.place s e h in
    slow_at (k.polls + 1) s (longest scripts) (end_none (ends_next k s) s.script.status f) p.0 p.1

all_lives : (most : ℕ) (c : Live) (cs : List Live) → c.polls < most → All (λ d. d.polls < most) cs → All (λ d. d.polls < most) (c ∷ cs)
all_lives most c cs one h zero d lt = one
all_lives most c cs one h (suc k) d lt = h k d (omega arith)

all_left_by : (scripts : List Scripted) (k : RunningChild) (rest : List RunningChild) (b : Bool) → is_some (news_of scripts k).ended ≡ b → list_any waits_for scripts ≡ false → All (λ c. c.polls < longest scripts) (map live_of rest) → All (λ c. c.polls < longest scripts) (map live_of (child_after k (news_of scripts k) ++ rest))
all_left_by scripts k rest true e h all = rw e all
all_left_by scripts k rest false e h all = rw e (all_lives (longest scripts) (next_live k) (map live_of rest) (slow_by scripts k (script_at scripts k.place) refl e h) all)

all_left : (scripts : List Scripted) (children : List RunningChild) → list_any waits_for scripts ≡ false → All (λ c. c.polls < longest scripts) (map live_of (left_in scripts children))
all_left scripts [] h = λ k d lt. absurd (omega arith)
all_left scripts (k ∷ children) h = all_left_by scripts k (left_in scripts children) (is_some (news_of scripts k).ended) refl h (all_left scripts children h)

waits_by : (scripts : List Scripted) (children : List RunningChild) (new : List Event) (b : Bool) → list_any waits_for scripts ≡ b → live new ≡ map live_of (left_in scripts children) → Waits (patience_of scripts) new
waits_by scripts children new true e is = rw e tt
waits_by scripts children new false e is = rw e (subst (All (λ c. c.polls < longest scripts)) (sym is) (all_left scripts children e))

pub waits_turn : (new : List Event) (children : List RunningChild) (scripts : List Scripted) → live new ≡ map live_of (left_in scripts children) → Waits (patience_of scripts) new
waits_turn new children scripts is = waits_by scripts children new (list_any waits_for scripts) refl is

-- without scripts each child ends with 0

no_script : (place : Option ℕ) → script_at [] place ≡ None
no_script None = refl
no_script (Some at) = refl

plain_by : (k : RunningChild) (o : Option Scripted) (rest : List News) → o ≡ None → All (λ n. n.ended ≡ Some (Code (pos 0))) rest → All (λ n. n.ended ≡ Some (Code (pos 0))) (filter has_news (news_by k o ∷ []) ++ rest)
plain_by k None rest e h = first
  where
    first : All (λ n. n.ended ≡ Some (Code (pos 0))) (news_by k None ∷ rest)
    first zero d lt = refl
    first (suc i) d lt = h i d (omega arith)
plain_by k (Some s) rest e h = absurd (cc)

first_apart : (n : News) (ns : List News) (b : Bool) → has_news n ≡ b → filter has_news (n ∷ ns) ≡ filter has_news (n ∷ []) ++ filter has_news ns
first_apart n ns true e = rw e refl
first_apart n ns false e = rw e refl

pub plain_news : (children : List RunningChild) → All (λ n. n.ended ≡ Some (Code (pos 0))) (news_in [] children)
plain_news [] = λ i d lt. absurd (omega arith)
plain_news (k ∷ children) =
    let split = first_apart (news_of [] k) (map (news_of []) children) (has_news (news_of [] k)) refl in
    subst (All (λ (n : News). n.ended ≡ Some (Code (pos 0)))) (sym split) (plain_by k (script_at [] k.place) (news_in [] children) (no_script k.place) (plain_news children))
