-- Laws on the events of one child.
use Rattle.std.proofs.Common.{◌≡◌, inl, inr, ℕ, zero, suc, ◌+◌, ◌<◌, ◌≤◌, Bool, true, false, cond, List, [], ◌∷◌, ◌++◌, ◌==◌, length, map, refl, sym, ◌∙◌, ap, subst, append_assoc, zero-add, arith, if◌then◌else◌, Option, None, Some, is_some, All}
use Rattle.std.specs.List.{Contains, flat_map}
use Rattle.std.proofs.lemmas.Bool.{eqb-true, eq-eqb, ne_eqb}
use Rattle.std.proofs.lemmas.List.{append-nil, map-append}
use Rattle.std.proofs.lemmas.List.Elements.{All-head, All-tail}
use Rattle.std.proofs.lemmas.List.Sums.{sum_by-cons, sum_by-append}
use Rattle.std.proofs.lemmas.Grind.{flat_map-append}
use Rattle.cc_host.specs.Children.{Live, live, live_from, live_after, polled, without, running, id_of, started_ids, unread_of, unreads, InOrder, IsNews, IsPiece}
use Rattle.cc_host.specs.Command.{CommandSeen}
use Rattle.cc_host.specs.Event.{reported, heard, unread, ended}
use Rattle.cc_host.specs.Part.{since}
use Rattle.cc_host.proofs.Parts.{since_append, since_since}
use Rattle.cc_host.specs.declared.event.Event.{Event}
use Rattle.cc_host.specs.declared.event.Event.TheVariants.{Started, Ended, Abandoned, Heard, Unread, Turn, Answered, Reused, Unasked, Drawn, Opened, Taken, Dropped, Ran, Missing, Made, Removed, Wrote, Copied, Here, Said, Printed, Listed, Fault}
use Rattle.cc_host.specs.declared.event.News.{News}
use Rattle.cc_host.specs.declared.event.Pipes.{Pipes}
use Rattle.cc_host.specs.declared.event.Role.{Role}
use Rattle.cc_host.specs.declared.event.Status.{Status}
use Rattle.cc_run.specs.Life.{Life, on_start, on_piece, on_unread, on_close, life_after, life_from, times, IsBy, IsAt, LivesOn, IsNewcomer}
use Rattle.cc_run.specs.Life.Life.{Unstarted, Runs, Unreadable, Closed, Foreign, Amiss}
use Rattle.cc_run.specs.Stderr.{is_of}

abbrev ids_of : List Live → List ℕ
ids_of = map (λ c. c.id)

polled_ids : (count : ℕ) (ls : List Live) → ids_of (map (polled count) ls) ≡ ids_of ls
polled_ids count [] = refl
polled_ids count (l ∷ ls) = ap (λ k. l.id ∷ k) (polled_ids count ls)

same_if : (b : Bool) (l : Life) → (if b then l else l) ≡ l
same_if true l = refl
same_if false l = refl

same_by : (l : Life) (a b c d e f : ℕ) → d ≡ a → e ≡ b → f ≡ c → IsBy l a b c → IsBy l d e f
same_by l a b c d e f x y z h = subst (λ k. IsBy l k e f) (sym x) (subst (λ k. IsBy l a k f) (sym y) (subst (λ k. IsBy l a b k) (sym z) h))

pub life_from-append : (id : ℕ) (l : Life) (a b : List Event) → life_from id l (a ++ b) ≡ life_from id (life_from id l a) b
life_from-append id l [] b = refl
life_from-append id l (e ∷ a) b = life_from-append id (life_after id l e) a b

live_both : (ls : List Live) (a b : List Event) → live_from ls (a ++ b) ≡ live_from (live_from ls a) b
live_both ls [] b = refl
live_both ls (e ∷ a) b = live_both (live_after ls e) a b

module _ (id : ℕ) where
  times_cons : (n : ℕ) (ns : List ℕ) → times id (n ∷ ns) ≡ cond (n == id) 1 0 + times id ns
  times_cons n ns = sum_by-cons (λ m. cond (m == id) 1 0) n ns

  times_append : (a b : List ℕ) → times id (a ++ b) ≡ times id a + times id b
  times_append a b = sum_by-append (λ m. cond (m == id) 1 0) a b

  times_own : (n : ℕ) (ns : List ℕ) → (n == id) ≡ true → times id (n ∷ ns) ≡ 1 + times id ns
  times_own n ns e = times_cons n ns ∙ ap (λ b. cond b 1 0 + times id ns) e

  times_other : (n : ℕ) (ns : List ℕ) → (n == id) ≡ false → times id (n ∷ ns) ≡ times id ns
  times_other n ns e = times_cons n ns ∙ ap (λ b. cond b 1 0 + times id ns) e ∙ zero-add (times id ns)

  -- an id that stands among some
  pub contains_times : (xs : List ℕ) → Contains xs id → 0 < times id xs
  contains_times [] (k, lt, is) = absurd (omega (arith, lt))
  contains_times (x ∷ xs) (zero, lt, is) = let t : times id (x ∷ xs) ≡ 1 + times id xs = times_own x xs (eq-eqb x id is) in omega arith
  contains_times (x ∷ xs) (suc k, lt, is) =
      let i : 0 < times id xs = contains_times xs (k, omega (arith, lt), is) in
      let t : times id (x ∷ xs) ≡ cond (x == id) 1 0 + times id xs = times_cons x xs in
      omega arith

  pub times_contains : (xs : List ℕ) → 0 < times id xs → Contains xs id
  times_contains [] h = absurd (omega (arith, h))
  times_contains (x ∷ xs) h = at (x == id) refl (times_contains xs)
    where
      at : (b : Bool) → (x == id) ≡ b → (0 < times id xs → Contains xs id) → Contains (x ∷ xs) id
      at true e k = (zero, omega arith, eqb-true x id e)
      at false e k = let t : times id (x ∷ xs) ≡ times id xs = times_other x xs e in let c = k (omega (arith, h, t)) in (suc c.0, (let lt : c.0 < length xs = c.1 in omega arith), c.2)

  -- those that stand among others in order
  in_order_times : (xs ys : List ℕ) → InOrder xs ys → times id xs ≤ times id ys
  in_order_times [] ys h = omega arith
  in_order_times (x ∷ xs) [] h = absurd h
  in_order_times (x ∷ xs) (y ∷ ys) (inl h) =
      let i : times id xs ≤ times id ys = in_order_times xs ys h.1 in
      let a : times id (x ∷ xs) ≡ cond (x == id) 1 0 + times id xs = times_cons x xs in
      let b : times id (y ∷ ys) ≡ cond (x == id) 1 0 + times id ys = times_cons y ys ∙ ap (λ n. cond (n == id) 1 0 + times id ys) (sym h.0) in
      omega arith
  in_order_times (x ∷ xs) (y ∷ ys) (inr h) =
      let i : times id (x ∷ xs) ≤ times id ys = in_order_times (x ∷ xs) ys h in
      let b : times id (y ∷ ys) ≡ cond (y == id) 1 0 + times id ys = times_cons y ys in
      omega arith

  -- the first child of an id is taken out
  without_own : (ls : List Live) → 0 < times id (ids_of ls) → times id (ids_of (without id ls)) + 1 ≡ times id (ids_of ls)
  without_own [] h = absurd (omega (arith, h))
  without_own (l ∷ ls) h = at (l.id == id) refl (without_own ls)
    where
      at : (b : Bool) → (l.id == id) ≡ b → (0 < times id (ids_of ls) → times id (ids_of (without id ls)) + 1 ≡ times id (ids_of ls)) → times id (ids_of (if b then ls else l ∷ without id ls)) + 1 ≡ times id (l.id ∷ ids_of ls)
      at true e k = let t : times id (l.id ∷ ids_of ls) ≡ 1 + times id (ids_of ls) = times_own l.id (ids_of ls) e in omega arith
      at false e k =
          let t : times id (l.id ∷ ids_of ls) ≡ times id (ids_of ls) = times_other l.id (ids_of ls) e in
          let u : times id (l.id ∷ ids_of (without id ls)) ≡ times id (ids_of (without id ls)) = times_other l.id (ids_of (without id ls)) e in
          let i : times id (ids_of (without id ls)) + 1 ≡ times id (ids_of ls) = k (omega (arith, h, t)) in
          omega arith

  without_other : (n : ℕ) (ls : List Live) → (n == id) ≡ false → times id (ids_of (without n ls)) ≡ times id (ids_of ls)
  without_other n [] ne = refl
  without_other n (l ∷ ls) ne = at (l.id == n) refl (without_other n ls ne)
    where
      at : (b : Bool) → (l.id == n) ≡ b → times id (ids_of (without n ls)) ≡ times id (ids_of ls) → times id (ids_of (if b then ls else l ∷ without n ls)) ≡ times id (l.id ∷ ids_of ls)
      at true e k = sym (times_other l.id (ids_of ls) (ap (λ m. m == id) (eqb-true l.id n e) ∙ ne))
      at false e k = times_cons l.id (ids_of (without n ls)) ∙ ap (λ m. cond (l.id == id) 1 0 + m) k ∙ sym (times_cons l.id (ids_of ls))

  lives_push : (ls : List Live) (n : ℕ) → times id (ids_of (ls ++ record { id = n; polls = 0 } ∷ [])) ≡ times id (ids_of ls) + times id (n ∷ [])
  lives_push ls n = ap (times id) (map-append (λ c. c.id) ls (record { id = n; polls = 0 } ∷ [])) ∙ times_append (ids_of ls) (n ∷ [])

  -- an event that isn't of this child
  pub record Skips (e : Event) : Type 0 where
    pub start : times id (id_of e) ≡ 0
    pub unread : times id (unread_of e) ≡ 0
    pub lives : (ls : List Live) → times id (ids_of (live_after ls e)) ≡ times id (ids_of ls)
    pub life : (l : Life) → life_after id l e ≡ l

  pub skips : (e : Event) → is_of id e ≡ false → Skips e
  skips (Started n role cmd pipes held) ne = record {
    start = times_other n [] ne;
    unread = refl;
    lives = λ ls. (let p : times id (ids_of (ls ++ record { id = n; polls = 0 } ∷ [])) ≡ times id (ids_of ls) + times id (n ∷ []) = lives_push ls n in let z : times id (n ∷ []) ≡ 0 = times_other n [] ne in omega arith);
    life = λ l. ap (λ b. if b then on_start l else l) ne;
  }
  skips (Heard n p) ne = record { start = refl; unread = refl; lives = λ _. refl; life = λ l. ap (λ b. if b then on_piece l else l) ne }
  skips (Unread n) ne = record { start = refl; unread = times_other n [] ne; lives = λ _. refl; life = λ l. ap (λ b. if b then on_unread l else l) ne }
  skips (Ended n s) ne = record { start = refl; unread = refl; lives = λ ls. without_other n ls ne; life = λ l. ap (λ b. if b then on_close l else l) ne }
  skips (Abandoned n) ne = record { start = refl; unread = refl; lives = λ ls. without_other n ls ne; life = λ l. ap (λ b. if b then on_close l else l) ne }
  skips (Turn n) ne = record { start = refl; unread = refl; lives = λ ls. ap (times id) (polled_ids n ls); life = λ _. refl }
  skips (Answered q f o) ne = record { start = refl; unread = refl; lives = λ _. refl; life = λ _. refl }
  skips (Reused q v) ne = record { start = refl; unread = refl; lives = λ _. refl; life = λ _. refl }
  skips (Unasked q) ne = record { start = refl; unread = refl; lives = λ _. refl; life = λ _. refl }
  skips (Drawn w) ne = record { start = refl; unread = refl; lives = λ _. refl; life = λ _. refl }
  skips (Opened p b) ne = record { start = refl; unread = refl; lives = λ _. refl; life = λ _. refl }
  skips (Taken p) ne = record { start = refl; unread = refl; lives = λ _. refl; life = λ _. refl }
  skips (Dropped p) ne = record { start = refl; unread = refl; lives = λ _. refl; life = λ _. refl }
  skips (Ran role cmd pipes status out err) ne = record { start = refl; unread = refl; lives = λ _. refl; life = λ _. refl }
  skips (Missing role cmd) ne = record { start = refl; unread = refl; lives = λ _. refl; life = λ _. refl }
  skips (Made scope p) ne = record { start = refl; unread = refl; lives = λ _. refl; life = λ _. refl }
  skips (Removed p how) ne = record { start = refl; unread = refl; lives = λ _. refl; life = λ _. refl }
  skips (Wrote p bytes) ne = record { start = refl; unread = refl; lives = λ _. refl; life = λ _. refl }
  skips (Copied a_file to_file) ne = record { start = refl; unread = refl; lives = λ _. refl; life = λ _. refl }
  skips (Here here) ne = record { start = refl; unread = refl; lives = λ _. refl; life = λ _. refl }
  skips (Said message) ne = record { start = refl; unread = refl; lives = λ _. refl; life = λ _. refl }
  skips (Printed kind b) ne = record { start = refl; unread = refl; lives = λ _. refl; life = λ _. refl }
  skips (Listed vars) ne = record { start = refl; unread = refl; lives = λ _. refl; life = λ _. refl }
  skips (Fault call why) ne = record { start = refl; unread = refl; lives = λ _. refl; life = λ _. refl }

  -- an event of this child is one of these
  pub own_by : (P : Event → Type 0) → ((role : Role) (cmd : CommandSeen) (pipes : Pipes) (held : ℕ) → P (Started id role cmd pipes held)) → ((p : List ℕ) → P (Heard id p)) → P (Unread id) → ((s : Status) → P (Ended id s)) → P (Abandoned id) → (e : Event) → is_of id e ≡ true → P e
  own_by P a b c d f (Started n role cmd pipes held) is = subst (λ m. P (Started m role cmd pipes held)) (sym (eqb-true n id is)) (a role cmd pipes held)
  own_by P a b c d f (Heard n p) is = subst (λ m. P (Heard m p)) (sym (eqb-true n id is)) (b p)
  own_by P a b c d f (Unread n) is = subst (λ m. P (Unread m)) (sym (eqb-true n id is)) c
  own_by P a b c d f (Ended n s) is = subst (λ m. P (Ended m s)) (sym (eqb-true n id is)) (d s)
  own_by P a b c d f (Abandoned n) is = subst (λ m. P (Abandoned m)) (sym (eqb-true n id is)) f
  own_by P a b c d f (Turn n) is = absurd (cc)
  own_by P a b c d f (Answered q x o) is = absurd (cc)
  own_by P a b c d f (Reused q v) is = absurd (cc)
  own_by P a b c d f (Unasked q) is = absurd (cc)
  own_by P a b c d f (Drawn w) is = absurd (cc)
  own_by P a b c d f (Opened p x) is = absurd (cc)
  own_by P a b c d f (Taken p) is = absurd (cc)
  own_by P a b c d f (Dropped p) is = absurd (cc)
  own_by P a b c d f (Ran role cmd pipes status out err) is = absurd (cc)
  own_by P a b c d f (Missing role cmd) is = absurd (cc)
  own_by P a b c d f (Made scope p) is = absurd (cc)
  own_by P a b c d f (Removed p how) is = absurd (cc)
  own_by P a b c d f (Wrote p bytes) is = absurd (cc)
  own_by P a b c d f (Copied a_file to_file) is = absurd (cc)
  own_by P a b c d f (Here here) is = absurd (cc)
  own_by P a b c d f (Said message) is = absurd (cc)
  own_by P a b c d f (Printed kind x) is = absurd (cc)
  own_by P a b c d f (Listed vars) is = absurd (cc)
  own_by P a b c d f (Fault call why) is = absurd (cc)

  -- where events take a child that was started, runs and couldn't be read so often
  abbrev Leads : Life → ℕ → List Live → ℕ → List Event → Type 0
  Leads l a ls u es = IsBy (life_from id l es) (a + times id (started_ids es)) (times id (ids_of (live_from ls es))) (u + times id (unreads es))

  leads_none : (l : Life) (a : ℕ) (ls : List Live) (u : ℕ) → IsBy l a (times id (ids_of ls)) u → Leads l a ls u []
  leads_none l a ls u h = same_by l a (times id (ids_of ls)) u (a + 0) (times id (ids_of ls)) (u + 0) (omega arith) refl (omega arith) h

  leads_on : (e : Event) (es : List Event) (l m : Life) (a b : ℕ) (ls : List Live) (u v : ℕ) → life_after id l e ≡ m → b ≡ a + times id (id_of e) → v ≡ u + times id (unread_of e) → Leads m b (live_after ls e) v es → Leads l a ls u (e ∷ es)
  leads_on e es l m a b ls u v x y z h =
      let s : times id (id_of e ++ started_ids es) ≡ times id (id_of e) + times id (started_ids es) = times_append (id_of e) (started_ids es) in
      let w : times id (unread_of e ++ unreads es) ≡ times id (unread_of e) + times id (unreads es) = times_append (unread_of e) (unreads es) in
      subst (λ k. IsBy (life_from id k es) (a + times id (id_of e ++ started_ids es)) (times id (ids_of (live_from (live_after ls e) es))) (u + times id (unread_of e ++ unreads es))) (sym x)
      (same_by (life_from id m es) (b + times id (started_ids es)) (times id (ids_of (live_from (live_after ls e) es))) (v + times id (unreads es)) (a + times id (id_of e ++ started_ids es)) (times id (ids_of (live_from (live_after ls e) es))) (u + times id (unread_of e ++ unreads es)) (omega arith) refl (omega arith) h)

  -- events of others
  abbrev pub Others : List Event → Type 0
  Others [] = Unit {0}
  Others (e ∷ es) = (is_of id e ≡ false) × Others es

  others_both : (a b : List Event) → Others a → Others b → Others (a ++ b)
  others_both [] b x y = y
  others_both (e ∷ a) b x y = (x.0, others_both a b x.1 y)

  others_then : (es rest : List Event) (l : Life) (a : ℕ) (ls : List Live) (u : ℕ) → Others es → ((ks : List Live) → times id (ids_of ks) ≡ times id (ids_of ls) → Leads l a ks u rest) → Leads l a ls u (es ++ rest)
  others_then [] rest l a ls u o h = h ls refl
  others_then (e ∷ es) rest l a ls u o h =
      let s = skips e o.0 in
      leads_on e (es ++ rest) l l a a ls u u (s.life l) (let z : times id (id_of e) ≡ 0 = s.start in omega arith) (let z : times id (unread_of e) ≡ 0 = s.unread in omega arith)
      (others_then es rest l a (live_after ls e) u o.1 (λ ks is. h ks (is ∙ s.lives ls)))

  others_lead : (es : List Event) (l : Life) (a : ℕ) (ls : List Live) (u : ℕ) → Others es → IsBy l a (times id (ids_of ls)) u → Leads l a ls u es
  others_lead es l a ls u o h = subst (λ x. Leads l a ls u x) (append-nil es) (others_then es [] l a ls u o (λ ks is. leads_none l a ks u (same_by l a (times id (ids_of ls)) u a (times id (ids_of ks)) u refl is refl h)))

  -- the log after these events
  at_leads : (log part : List Event) (l : Life) → Leads l (times id (started_ids log)) (live log) (times id (unreads log)) part → IsAt (log ++ part) id (life_from id l part)
  at_leads log part l h = same_by (life_from id l part)
      (times id (started_ids log) + times id (started_ids part)) (times id (ids_of (live_from (live log) part))) (times id (unreads log) + times id (unreads part))
      (times id (started_ids (log ++ part))) (times id (running (log ++ part))) (times id (unreads (log ++ part)))
      (ap (times id) (flat_map-append id_of log part) ∙ times_append (started_ids log) (started_ids part))
      (ap (λ k. times id (ids_of k)) (live_both [] log part))
      (ap (times id) (flat_map-append unread_of log part) ∙ times_append (unreads log) (unreads part))
      h

  -- a child that runs was started
  without_le : (n : ℕ) (ls : List Live) → times id (ids_of (without n ls)) ≤ times id (ids_of ls)
  without_le n [] = omega arith
  without_le n (l ∷ ls) = at (l.id == n) (without_le n ls)
    where
      at : (b : Bool) → times id (ids_of (without n ls)) ≤ times id (ids_of ls) → times id (ids_of (if b then ls else l ∷ without n ls)) ≤ times id (l.id ∷ ids_of ls)
      at true k = let t : times id (l.id ∷ ids_of ls) ≡ cond (l.id == id) 1 0 + times id (ids_of ls) = times_cons l.id (ids_of ls) in omega arith
      at false k =
          let t : times id (l.id ∷ ids_of ls) ≡ cond (l.id == id) 1 0 + times id (ids_of ls) = times_cons l.id (ids_of ls) in
          let u : times id (l.id ∷ ids_of (without n ls)) ≡ cond (l.id == id) 1 0 + times id (ids_of (without n ls)) = times_cons l.id (ids_of (without n ls)) in
          omega arith

  started_after : (ls : List Live) (e : Event) → times id (ids_of (live_after ls e)) ≤ times id (ids_of ls) + times id (id_of e)
  started_after ls e = at (is_of id e) refl
    where
      at : (b : Bool) → is_of id e ≡ b → times id (ids_of (live_after ls e)) ≤ times id (ids_of ls) + times id (id_of e)
      at true is = own_by (λ x. times id (ids_of (live_after ls x)) ≤ times id (ids_of ls) + times id (id_of x))
          (λ role cmd pipes held. let p : times id (ids_of (ls ++ record { id = id; polls = 0 } ∷ [])) ≡ times id (ids_of ls) + times id (id ∷ []) = lives_push ls id in omega arith)
          (λ p. omega arith) (omega arith)
          (λ s. let w : times id (ids_of (without id ls)) ≤ times id (ids_of ls) = without_le id ls in omega arith)
          (let w : times id (ids_of (without id ls)) ≤ times id (ids_of ls) = without_le id ls in omega arith)
          e is
      at false is = let s : times id (ids_of (live_after ls e)) ≡ times id (ids_of ls) = (skips e is).lives ls in omega arith

  started_from : (ls : List Live) (es : List Event) → times id (ids_of (live_from ls es)) ≤ times id (ids_of ls) + times id (started_ids es)
  started_from ls [] = omega arith
  started_from ls (e ∷ es) =
      let i : times id (ids_of (live_from (live_after ls e) es)) ≤ times id (ids_of (live_after ls e)) + times id (started_ids es) = started_from (live_after ls e) es in
      let a : times id (ids_of (live_after ls e)) ≤ times id (ids_of ls) + times id (id_of e) = started_after ls e in
      let s : times id (id_of e ++ started_ids es) ≡ times id (id_of e) + times id (started_ids es) = times_append (id_of e) (started_ids es) in
      omega arith

  runs_started : (log : List Event) → times id (running log) ≤ times id (started_ids log)
  runs_started log = let i : times id (ids_of (live_from [] log)) ≤ 0 + times id (started_ids log) = started_from [] log in omega arith

  pub own_if : {X : Type 0} (x y : X) → (if id == id then x else y) ≡ x
  own_if x y = ap (λ b. if b then x else y) (eq-eqb id id refl)

  one_own : times id (id ∷ []) ≡ 1
  one_own = times_own id [] (eq-eqb id id refl)

  -- its start
  below_none : (n : ℕ) (xs : List ℕ) → n ≡ id → All (λ m. m < n) xs → times id xs ≡ 0
  below_none n [] e h = refl
  below_none n (x ∷ xs) e h =
      let lt : x < n = All-head (λ m. m < n) x xs h in
      times_other x xs (ne_eqb x id (λ is. let k : x ≡ id = is in omega (arith, lt, e))) ∙ below_none n xs e (All-tail (λ m. m < n) x xs h)

  own_start : (log : List Event) (role : Role) (cmd : CommandSeen) (pipes : Pipes) (held : ℕ) (l : Life) → IsNewcomer log id → IsAt log id l → IsAt (log ++ Started id role cmd pipes held ∷ []) id (life_from id l (Started id role cmd pipes held ∷ []))
  own_start log role cmd pipes held l new is = by l is
    where
      none : times id (started_ids log) ≡ 0
      none = below_none id (started_ids log) refl new.1

      by : (l : Life) → IsAt log id l → IsAt (log ++ Started id role cmd pipes held ∷ []) id (life_from id l (Started id role cmd pipes held ∷ []))
      by Unstarted h = at_leads log (Started id role cmd pipes held ∷ []) Unstarted (leads_on (Started id role cmd pipes held) [] Unstarted Runs (times id (started_ids log)) 1 (live log) (times id (unreads log)) (times id (unreads log)) (own_if Runs Unstarted) (omega (arith, none, one_own)) (omega arith)
          (leads_none Runs 1 (live log ++ record { id = id; polls = 0 } ∷ []) (times id (unreads log)) (
            omega arith,
            let p : times id (ids_of (live log ++ record { id = id; polls = 0 } ∷ [])) ≡ times id (running log) + times id (id ∷ []) = lives_push (live log) id in
                let r : times id (running log) ≤ times id (started_ids log) = runs_started log in
                omega (arith, none, one_own),
          )))
      by Runs h = absurd (omega (arith, none, h.0))
      by Unreadable h = absurd (omega (arith, none, h.0))
      by Closed h = absurd (omega (arith, none, h.0))
      by Foreign h = absurd (omega (arith, none, h))
      by Amiss h = absurd h

  -- it is abandoned
  own_gone : (log : List Event) (l : Life) → 0 < times id (running log) → IsAt log id l → IsAt (log ++ Abandoned id ∷ []) id (life_from id l (Abandoned id ∷ []))
  own_gone log l some is = by l is
    where
      less : times id (ids_of (without id (live log))) + 1 ≡ times id (running log)
      less = without_own (live log) some

      most : times id (running log) ≤ times id (started_ids log)
      most = runs_started log

      to : (l m : Life) → on_close l ≡ m → IsBy m (times id (started_ids log)) (times id (ids_of (without id (live log)))) (times id (unreads log)) → IsAt (log ++ Abandoned id ∷ []) id (life_from id l (Abandoned id ∷ []))
      to l m e h = at_leads log (Abandoned id ∷ []) l (leads_on (Abandoned id) [] l m (times id (started_ids log)) (times id (started_ids log)) (live log) (times id (unreads log)) (times id (unreads log)) (own_if (on_close l) l ∙ e) (omega arith) (omega arith) (leads_none m (times id (started_ids log)) (without id (live log)) (times id (unreads log)) h))

      by : (l : Life) → IsAt log id l → IsAt (log ++ Abandoned id ∷ []) id (life_from id l (Abandoned id ∷ []))
      by Unstarted h = absurd (omega (arith, h, most, some))
      by Runs h = to Runs Closed refl (h.0, omega (arith, less, h.1))
      by Unreadable h = to Unreadable Closed refl (h.0, omega (arith, less, h.1))
      by Closed h = absurd (omega (arith, h.1, some))
      by Foreign h = to Foreign Foreign refl h
      by Amiss h = absurd h

  -- the news of one child, piece by piece
  on_heard : (p : Option (List ℕ)) (es : List Event) (l : Life) (a : ℕ) (ls : List Live) (u : ℕ) → (is_some p ≡ true → on_piece l ≡ l) → Leads l a ls u es → Leads l a ls u (heard id p ++ es)
  on_heard None es l a ls u c h = h
  on_heard (Some p) es l a ls u c h = leads_on (Heard id p) es l l a a ls u u (own_if (on_piece l) l ∙ c refl) (omega arith) (omega arith) h

  abbrev muted : Bool → Life → Life
  muted true l = on_unread l
  muted false l = l

  on_muted : (b : Bool) (es : List Event) (l : Life) (a : ℕ) (ls : List Live) (u : ℕ) → Leads (muted b l) a ls (u + cond b 1 0) es → Leads l a ls u (unread id b ++ es)
  on_muted false es l a ls u h = same_by (life_from id l es) (a + times id (started_ids es)) (times id (ids_of (live_from ls es))) (u + 0 + times id (unreads es)) (a + times id (started_ids es)) (times id (ids_of (live_from ls es))) (u + times id (unreads es)) refl refl (omega arith) h
  on_muted true es l a ls u h = leads_on (Unread id) es l (on_unread l) a a ls u (u + 1) (own_if (on_unread l) l) (omega arith) (omega (arith, one_own)) h

  abbrev closed : Option Status → Life → Life
  closed None l = l
  closed (Some s) l = on_close l

  abbrev left : Option Status → List Live → List Live
  left None ls = ls
  left (Some s) ls = without id ls

  on_ended : (o : Option Status) (es : List Event) (l : Life) (a : ℕ) (ls : List Live) (u : ℕ) → Leads (closed o l) a (left o ls) u es → Leads l a ls u (ended id o ++ es)
  on_ended None es l a ls u h = h
  on_ended (Some s) es l a ls u h = leads_on (Ended id s) es l (on_close l) a a ls u u (own_if (on_close l) l) (omega arith) (omega arith) h

  -- what its news make of a child that runs
  end_by : (l : Life) (o : Option Status) (a : ℕ) (ls : List Live) (u : ℕ) → (on_close l ≡ Closed) → 0 < a → times id (ids_of ls) ≡ 1 → IsBy l a (times id (ids_of ls)) u → IsBy (closed o l) a (times id (ids_of (left o ls))) u
  end_by l None a ls u c some one h = h
  end_by l (Some s) a ls u c some one h = subst (λ m. IsBy m a (times id (ids_of (without id ls))) u) (sym c) (some, (let w : times id (ids_of (without id ls)) + 1 ≡ times id (ids_of ls) = without_own ls (omega (arith, one)) in omega (arith, one)))

  own_reported : (p : Option (List ℕ)) (b : Bool) (o : Option Status) (rest : List Event) (l : Life) (a : ℕ) (ls : List Live) (u : ℕ) → (is_some p ≡ true → on_piece l ≡ l) → on_unread l ≡ Unreadable → on_close l ≡ Closed → 0 < a → times id (ids_of ls) ≡ 1 → Others rest → IsBy l a (times id (ids_of ls)) u → Leads l a ls u ((heard id p ++ unread id b ++ ended id o) ++ rest)
  own_reported p b o rest l a ls u c d f some one others is =
      subst (λ es. Leads l a ls u es) (sym (append_assoc (heard id p ++ unread id b) (ended id o) rest ∙ append_assoc (heard id p) (unread id b) (ended id o ++ rest)))
      (on_heard p (unread id b ++ (ended id o ++ rest)) l a ls u c
      (on_muted b (ended id o ++ rest) l a ls u
      (on_ended o rest (muted b l) a ls (u + cond b 1 0)
      (others_lead rest (closed o (muted b l)) a (left o ls) (u + cond b 1 0) others (end_by (muted b l) o a ls (u + cond b 1 0) (close b) some one (still b))))))
    where
      close : (v : Bool) → on_close (muted v l) ≡ Closed
      close false = f
      close true = ap on_close d

      still : (v : Bool) → IsBy (muted v l) a (times id (ids_of ls)) (u + cond v 1 0)
      still false = same_by l a (times id (ids_of ls)) u a (times id (ids_of ls)) (u + 0) refl refl (omega arith) is
      still true = subst (λ k. IsBy k a (times id (ids_of ls)) (u + 1)) (sym d) (some, one, omega arith)

  reported_others : (n : News) → (n.id == id) ≡ false → Others (reported n)
  reported_others n ne = said n.id n.piece n.unread n.ended ne
    where
      said : (m : ℕ) (p : Option (List ℕ)) (b : Bool) (o : Option Status) → (m == id) ≡ false → Others (heard m p ++ unread m b ++ ended m o)
      said m None false None ne = tt
      said m None false (Some s) ne = (ne, tt)
      said m None true None ne = (ne, tt)
      said m None true (Some s) ne = (ne, (ne, tt))
      said m (Some p) false None ne = (ne, tt)
      said m (Some p) false (Some s) ne = (ne, (ne, tt))
      said m (Some p) true None ne = (ne, (ne, tt))
      said m (Some p) true (Some s) ne = (ne, (ne, (ne, tt)))

  none_others : (ns : List News) → times id (map (λ n. n.id) ns) ≡ 0 → Others (flat_map reported ns)
  none_others [] z = tt
  none_others (n ∷ ns) z = at (n.id == id) refl (none_others ns)
    where
      at : (b : Bool) → (n.id == id) ≡ b → (times id (map (λ n. n.id) ns) ≡ 0 → Others (flat_map reported ns)) → Others (reported n ++ flat_map reported ns)
      at true e k = let t : times id (n.id ∷ map (λ n. n.id) ns) ≡ 1 + times id (map (λ n. n.id) ns) = times_own n.id (map (λ n. n.id) ns) e in absurd (omega (arith, z, t))
      at false e k = let t : times id (n.id ∷ map (λ n. n.id) ns) ≡ times id (map (λ n. n.id) ns) = times_other n.id (map (λ n. n.id) ns) e in others_both (reported n) (flat_map reported ns) (reported_others n e) (k (sym t ∙ z))

  -- it gives no piece where its standard error couldn't be read
  abbrev Clean : ℕ → List News → Type 0
  Clean u [] = Unit {0}
  Clean u (n ∷ ns) = ((n.id == id) ≡ true → is_some n.piece ≡ true → u ≡ 0) × Clean u ns

  clean_by : (log : List Event) (ns : List News) → All (λ n. IsPiece log n n.piece) ns → Clean (times id (unreads log)) ns
  clean_by log [] h = tt
  clean_by log (n ∷ ns) h = ((λ e s. at n.piece (All-head (λ n. IsPiece log n n.piece) n ns h) s e), clean_by log ns (All-tail (λ n. IsPiece log n n.piece) n ns h))
    where
      zero_by : (k : ℕ) → times id (unreads log) ≡ k → (0 < times id (unreads log) → ⊥) → times id (unreads log) ≡ 0
      zero_by zero e h = e
      zero_by (suc k) e h = absurd (h (omega (arith, e)))

      at : (p : Option (List ℕ)) → IsPiece log n p → is_some p ≡ true → (n.id == id) ≡ true → times id (unreads log) ≡ 0
      at None h s e = absurd (cc)
      at (Some p) h s e = zero_by (times id (unreads log)) refl (λ some. h.1 (subst (λ m. Contains (unreads log) m) (sym (eqb-true n.id id e)) (times_contains (unreads log) some)))

  news_one : (ns : List News) (l : Life) (a : ℕ) (ls : List Live) (u : ℕ) → (u ≡ 0 → on_piece l ≡ l) → on_unread l ≡ Unreadable → on_close l ≡ Closed → 0 < a → times id (ids_of ls) ≡ 1 → times id (map (λ n. n.id) ns) ≤ 1 → Clean u ns → IsBy l a (times id (ids_of ls)) u → Leads l a ls u (flat_map reported ns)
  news_one [] l a ls u c d f some one few clean is = leads_none l a ls u is
  news_one (n ∷ ns) l a ls u c d f some one few clean is = at (n.id == id) refl (news_one ns l a)
    where
      at : (b : Bool) → (n.id == id) ≡ b → ((ls : List Live) (u : ℕ) → (u ≡ 0 → on_piece l ≡ l) → on_unread l ≡ Unreadable → on_close l ≡ Closed → 0 < a → times id (ids_of ls) ≡ 1 → times id (map (λ n. n.id) ns) ≤ 1 → Clean u ns → IsBy l a (times id (ids_of ls)) u → Leads l a ls u (flat_map reported ns)) → Leads l a ls u (reported n ++ flat_map reported ns)
      at true e k =
          let t : times id (n.id ∷ map (λ n. n.id) ns) ≡ 1 + times id (map (λ n. n.id) ns) = times_own n.id (map (λ n. n.id) ns) e in
          subst (λ m. Leads l a ls u ((heard m n.piece ++ unread m n.unread ++ ended m n.ended) ++ flat_map reported ns)) (sym (eqb-true n.id id e))
          (own_reported n.piece n.unread n.ended (flat_map reported ns) l a ls u (λ s. c (clean.0 e s)) d f some one (none_others ns (omega (arith, few, t))) is)
      at false e k =
          let t : times id (n.id ∷ map (λ n. n.id) ns) ≡ times id (map (λ n. n.id) ns) = times_other n.id (map (λ n. n.id) ns) e in
          others_then (reported n) (flat_map reported ns) l a ls u (reported_others n e) (λ ks same. k ks u c d f some (same ∙ one) (omega (arith, few, t)) clean.1 (same_by l a (times id (ids_of ls)) u a (times id (ids_of ks)) u refl same refl is))

  -- a child of somebody else stays one
  foreign_reported : (ns : List News) → life_from id Foreign (flat_map reported ns) ≡ Foreign
  foreign_reported [] = refl
  foreign_reported (n ∷ ns) = life_from-append id Foreign (reported n) (flat_map reported ns) ∙ ap (λ l. life_from id l (flat_map reported ns)) (said n.id n.piece n.unread n.ended) ∙ foreign_reported ns
    where
      stays : (m : ℕ) → (if m == id then Foreign else Foreign) ≡ Foreign
      stays m = same_if (m == id) Foreign

      said : (m : ℕ) (p : Option (List ℕ)) (b : Bool) (o : Option Status) → life_from id Foreign (heard m p ++ unread m b ++ ended m o) ≡ Foreign
      said m None false None = refl
      said m None false (Some s) = stays m
      said m None true None = stays m
      said m None true (Some s) = ap (λ l. life_from id l (Ended m s ∷ [])) (stays m) ∙ stays m
      said m (Some p) false None = stays m
      said m (Some p) false (Some s) = ap (λ l. life_from id l (Ended m s ∷ [])) (stays m) ∙ stays m
      said m (Some p) true None = ap (λ l. life_from id l (Unread m ∷ [])) (stays m) ∙ stays m
      said m (Some p) true (Some s) = ap (λ l. life_from id l (Unread m ∷ Ended m s ∷ [])) (stays m) ∙ ap (λ l. life_from id l (Ended m s ∷ [])) (stays m) ∙ stays m

  news_leads : (ns : List News) (l : Life) (a : ℕ) (ls : List Live) (u : ℕ) → times id (ids_of ls) ≤ a → times id (map (λ n. n.id) ns) ≤ times id (ids_of ls) → Clean u ns → IsBy l a (times id (ids_of ls)) u → Leads l a ls u (flat_map reported ns)
  news_leads ns Unstarted a ls u most few clean h = others_lead (flat_map reported ns) Unstarted a ls u (none_others ns (omega (arith, most, few, h))) h
  news_leads ns Runs a ls u most few clean h = news_one ns Runs a ls u (λ _. refl) refl refl h.0 h.1 (omega (arith, few, h.1)) clean h
  news_leads ns Unreadable a ls u most few clean h = news_one ns Unreadable a ls u (λ z. absurd (omega (arith, z, h.2))) refl refl h.0 h.1 (omega (arith, few, h.1)) clean h
  news_leads ns Closed a ls u most few clean h = others_lead (flat_map reported ns) Closed a ls u (none_others ns (omega (arith, few, h.1))) h
  news_leads ns Foreign a ls u most few clean h = subst (λ l. IsBy l (a + times id (started_ids (flat_map reported ns))) (times id (ids_of (live_from ls (flat_map reported ns)))) (u + times id (unreads (flat_map reported ns)))) (sym (foreign_reported ns)) (omega (arith, h))
  news_leads ns Amiss a ls u most few clean h = absurd h

  own_turn : (log : List Event) (ns : List News) (l : Life) → IsNews log ns → IsAt log id l → IsAt (log ++ Turn 1 ∷ flat_map reported ns) id (life_from id l (Turn 1 ∷ flat_map reported ns))
  own_turn log ns l news is =
      let ls = live log in
      let ks = map (polled 1) (live log) in
      let a = times id (started_ids log) in
      let u = times id (unreads log) in
      let same : times id (ids_of ks) ≡ times id (running log) = ap (times id) (polled_ids 1 ls) in
      let most : times id (running log) ≤ a = runs_started log in
      let few : times id (map (λ n. n.id) ns) ≤ times id (running log) = in_order_times (map (λ n. n.id) ns) (running log) news.own in
      at_leads log (Turn 1 ∷ flat_map reported ns) l
      (leads_on (Turn 1) (flat_map reported ns) l l a a ls u u refl (omega arith) (omega arith)
      (news_leads ns l a ks u (omega (arith, same, most)) (omega (arith, same, few)) (clean_by log ns news.pieces) (same_by l a (times id (running log)) u a (times id (ids_of ks)) u refl same refl is)))

  -- what is amiss stays so
  pub amiss_from : (es : List Event) → life_from id Amiss es ≡ Amiss
  amiss_from [] = refl
  amiss_from (e ∷ es) = ap (λ l. life_from id l es) (at (is_of id e) refl) ∙ amiss_from es
    where
      at : (b : Bool) → is_of id e ≡ b → life_after id Amiss e ≡ Amiss
      at true is = own_by (λ x. life_after id Amiss x ≡ Amiss) (λ _ _ _ _. own_if Amiss Amiss) (λ _. own_if Amiss Amiss) (own_if Amiss Amiss) (λ _. own_if Amiss Amiss) (own_if Amiss Amiss) e is
      at false is = (skips e is).life Amiss

  -- a child of somebody else isn't started once more
  foreign_started : (es : List Event) → 0 < times id (started_ids es) → life_from id Foreign es ≡ Amiss
  foreign_started [] h = absurd (omega (arith, h))
  foreign_started (e ∷ es) h = at (is_of id e) refl (foreign_started es)
    where
      at : (b : Bool) → is_of id e ≡ b → (0 < times id (started_ids es) → life_from id Foreign es ≡ Amiss) → life_from id Foreign (e ∷ es) ≡ Amiss
      at true is k = own_by (λ x. 0 < times id (id_of x ++ started_ids es) → life_from id Foreign (x ∷ es) ≡ Amiss)
          (λ role cmd pipes held _. ap (λ l. life_from id l es) (own_if Amiss Foreign) ∙ amiss_from es)
          (λ p some. ap (λ l. life_from id l es) (own_if Foreign Foreign) ∙ k some)
          (λ some. ap (λ l. life_from id l es) (own_if Foreign Foreign) ∙ k some)
          (λ s some. ap (λ l. life_from id l es) (own_if Foreign Foreign) ∙ k some)
          (λ some. ap (λ l. life_from id l es) (own_if Foreign Foreign) ∙ k some)
          e is h
      at false is k =
          let s = skips e is in
          let z : times id (id_of e) ≡ 0 = s.start in
          let t : times id (id_of e ++ started_ids es) ≡ times id (id_of e) + times id (started_ids es) = times_append (id_of e) (started_ids es) in
          ap (λ l. life_from id l es) (s.life Foreign) ∙ k (omega (arith, h, z, t))

  -- a child that a part started wasn't started before, and isn't amiss
  pub part_sound : (old new : List Event) → LivesOn old new → Contains (started_ids (since old new)) id → life_from id Unstarted (since old new) ≡ Amiss → ⊥
  part_sound old new lives has amiss = subst (λ l. IsAt new id l) amiss (lives id Unstarted (none (times id (started_ids old)) refl))
    where
      none : (k : ℕ) → times id (started_ids old) ≡ k → times id (started_ids old) ≡ 0
      none zero e = e
      none (suc k) e = absurd (subst (λ l. IsAt new id l) (foreign_started (since old new) (contains_times (started_ids (since old new)) has)) (lives id Foreign (omega (arith, e))))

-- What a call adds takes each child on.

lives_by : (old new part : List Event) → new ≡ old ++ part → ((id : ℕ) (l : Life) → IsAt old id l → IsAt (old ++ part) id (life_from id l part)) → LivesOn old new
lives_by old new part e h = λ id l is. subst (λ n. IsAt n id (life_from id l (since old n))) (sym e) (subst (λ p. IsAt (old ++ part) id (life_from id l p)) (sym (since_append old part)) (h id l is))

pub lives_then : (old mid new : List Event) → mid ≡ old ++ since old mid → new ≡ mid ++ since mid new → LivesOn old mid → LivesOn mid new → LivesOn old new
lives_then old mid new e f x y = λ id l is. subst (λ k. IsAt new id k) (sym (ap (life_from id l) (since_since old mid new e f) ∙ life_from-append id l (since old mid) (since mid new))) (y id (life_from id l (since old mid)) (x id l is))

-- events of no child
pub lives_others : (old new part : List Event) → new ≡ old ++ part → ((id : ℕ) → Others id part) → LivesOn old new
lives_others old new part e o = lives_by old new part e (λ id l is. at_leads id old part l (others_lead id part l (times id (started_ids old)) (live old) (times id (unreads old)) (o id) is))

-- a start of a newcomer
pub lives_start : (old new : List Event) (n : ℕ) (role : Role) (cmd : CommandSeen) (pipes : Pipes) (held : ℕ) → new ≡ old ++ Started n role cmd pipes held ∷ [] → IsNewcomer old n → LivesOn old new
lives_start old new n role cmd pipes held e fresh = lives_by old new (Started n role cmd pipes held ∷ []) e (λ id l is. at id l is (n == id) refl)
  where
    at : (id : ℕ) (l : Life) → IsAt old id l → (b : Bool) → (n == id) ≡ b → IsAt (old ++ Started n role cmd pipes held ∷ []) id (life_from id l (Started n role cmd pipes held ∷ []))
    at id l is true own = subst (λ m. IsNewcomer old m → IsAt (old ++ Started m role cmd pipes held ∷ []) id (life_from id l (Started m role cmd pipes held ∷ []))) (sym (eqb-true n id own)) (λ new. own_start id old role cmd pipes held l new is) fresh
    at id l is false other = at_leads id old (Started n role cmd pipes held ∷ []) l (others_lead id (Started n role cmd pipes held ∷ []) l (times id (started_ids old)) (live old) (times id (unreads old)) (other, tt) is)

-- a turn
pub lives_turn : (old new : List Event) (ns : List News) → new ≡ old ++ Turn 1 ∷ flat_map reported ns → IsNews old ns → LivesOn old new
lives_turn old new ns e news = lives_by old new (Turn 1 ∷ flat_map reported ns) e (λ id l is. own_turn id old ns l news is)

-- a child that runs is abandoned
pub lives_abandoned : (old new : List Event) (n : ℕ) → new ≡ old ++ Abandoned n ∷ [] → Contains (running old) n → LivesOn old new
lives_abandoned old new n e runs = lives_by old new (Abandoned n ∷ []) e (λ id l is. at id l is (n == id) refl)
  where
    at : (id : ℕ) (l : Life) → IsAt old id l → (b : Bool) → (n == id) ≡ b → IsAt (old ++ Abandoned n ∷ []) id (life_from id l (Abandoned n ∷ []))
    at id l is true own = subst (λ m. Contains (running old) m → IsAt (old ++ Abandoned m ∷ []) id (life_from id l (Abandoned m ∷ []))) (sym (eqb-true n id own)) (λ has. own_gone id old l (contains_times id (running old) has) is) runs
    at id l is false other = at_leads id old (Abandoned n ∷ []) l (others_lead id (Abandoned n ∷ []) l (times id (started_ids old)) (live old) (times id (unreads old)) (other, tt) is)

-- who is a newcomer before lines were printed is one behind them
pub newcomer_behind : (old mid : List Event) (n : ℕ) → started_ids mid ≡ started_ids old → IsNewcomer mid n → IsNewcomer old n
newcomer_behind old mid n e new = (new.0 ∙ ap length e, subst (λ xs. All (λ m. m < n) xs) e new.1)
