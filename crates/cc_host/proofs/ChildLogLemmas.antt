-- Children of a host in memory, as its log grows.
use Rattle.std.proofs.Common.{◌≡◌, ◌≢◌, ℕ, zero, suc, ◌+◌, ◌<◌, ◌≤◌, Bool, true, false, ◌==◌, List, [], ◌∷◌, ◌++◌, length, get_or, take, drop, map, Option, Result, Ok, refl, sym, ◌∙◌, ap, subst, arith, append-nil, add-one}
use Rattle.std.specs.List.{Contains, All, remove}
use Rattle.std.proofs.lemmas.List.{map-append, length-append}
use Rattle.std.proofs.lemmas.List.Elements.{Contains-append_right}
use Rattle.std.proofs.lemmas.Grind.{common_steps, flat_map-append}
use Rattle.cc_host.specs.Children.{Live, live, live_from, live_after, without, running, id_of, started_ids, unread_of, unreads, IsFresh}
use Rattle.cc_host.specs.Command.{CommandSeen}
use Rattle.cc_host.specs.ChildLog.{AreRunning, IsIdle, live_of, ids, without_child, Below, Above, Rising, Heeds}
use Rattle.cc_host.specs.Event.{started}
use Rattle.cc_host.specs.declared.event.Event.{Event}
use Rattle.cc_host.specs.declared.event.HostError.{HostError}
use Rattle.cc_host.specs.declared.event.Start.{Start}
use Rattle.cc_host.specs.declared.event.Event.TheVariants.{Started, Abandoned}
use Rattle.cc_host.specs.declared.event.Pipes.{Pipes}
use Rattle.cc_host.specs.declared.event.Role.{Role}
use Rattle.cc_host.specs.declared.event.Start.TheVariants.{Child}
use Rattle.cc_host.specs.declared.child.RunningChild.{RunningChild}

pub live_then : (l : List Live) (a b : List Event) → live_from l (a ++ b) ≡ live_from (live_from l a) b
live_then l [] b = refl
live_then l (e ∷ a) b = live_then (live_after l e) a b

-- numbers that are below, above and rising

pub below_later : (ns : List ℕ) (m n : ℕ) → m ≤ n → Below ns m → Below ns n
below_later [] m n le h = tt
below_later (k ∷ ns) m n le h = let lt = h.0 in (omega arith, below_later ns m n le h.1)

pub below_both : (a b : List ℕ) (n : ℕ) → Below a n → Below b n → Below (a ++ b) n
below_both [] b n h g = g
below_both (m ∷ a) b n h g = (h.0, below_both a b n h.1 g)

pub below_lacks : (ns : List ℕ) (n : ℕ) → Below ns n → Contains ns n → ⊥
below_lacks ns n h c = at ns c.0 h c.1 c.2
  where
    at : (ns : List ℕ) (k : ℕ) → Below ns n → k < length ns → get_or ns k n ≡ n → ⊥
    at [] k h lt e = omega arith
    at (m ∷ ns) zero h lt e = let less = h.0 in omega arith
    at (m ∷ ns) (suc k) h lt e = at ns k h.1 (omega arith) e

pub above_lacks : (n : ℕ) (ns : List ℕ) → Above n ns → Contains ns n → ⊥
above_lacks n ns h c = at ns c.0 h c.1 c.2
  where
    at : (ns : List ℕ) (k : ℕ) → Above n ns → k < length ns → get_or ns k n ≡ n → ⊥
    at [] k h lt e = omega arith
    at (m ∷ ns) zero h lt e = let less = h.0 in omega arith
    at (m ∷ ns) (suc k) h lt e = at ns k h.1 (omega arith) e

below_all : (ns : List ℕ) (n : ℕ) → Below ns n → All (λ m. m < n) ns
below_all [] n h k d lt = absurd (omega arith)
below_all (m ∷ ns) n h zero d lt = h.0
below_all (m ∷ ns) n h (suc k) d lt = below_all ns n h.1 k d (omega arith)

above_one : (m : ℕ) (ns : List ℕ) (n : ℕ) → Above m ns → m < n → Above m (ns ++ n ∷ [])
above_one m [] n h lt = (lt, tt)
above_one m (k ∷ ns) n h lt = (h.0, above_one m ns n h.1 lt)

rising_one : (ns : List ℕ) (n : ℕ) → Rising ns → Below ns n → Rising (ns ++ n ∷ [])
rising_one [] n h b = (tt, tt)
rising_one (m ∷ ns) n h b = (above_one m ns n h.0 b.0, rising_one ns n h.1 b.1)

-- events of no child

unreads_idle : (log : List Event) (e : Event) → unread_of e ≡ [] → unreads (log ++ e ∷ []) ≡ unreads log
unreads_idle log e h = flat_map-append unread_of log (e ∷ []) ∙ ap (λ l. unreads log ++ (l ++ [])) h ∙ append-nil (unreads log)

started_idle : (log : List Event) (e : Event) → id_of e ≡ [] → started_ids (log ++ e ∷ []) ≡ started_ids log
started_idle log e h = flat_map-append id_of log (e ∷ []) ∙ ap (λ l. started_ids log ++ (l ++ [])) h ∙ append-nil (started_ids log)

pub alive_after : (log new : List Event) (next : ℕ) (children : List RunningChild) (e : Event) → new ≡ log ++ e ∷ [] → IsIdle e → AreRunning log next children → AreRunning new next children
alive_after log new next children e is idle alive =
    let u : unreads new ≡ unreads log = ap unreads is ∙ unreads_idle log e idle.2 in
    let s : started_ids new ≡ started_ids log = ap started_ids is ∙ started_idle log e idle.1 in
    record {
      run = ap live is ∙ live_then [] log (e ∷ []) ∙ idle.3 (live log) ∙ alive.run;
      count = alive.count ∙ ap length (sym s);
      drawn = subst (λ l. Below l next) (sym s) alive.drawn;
      rising = alive.rising;
      below = alive.below;
      heard = subst (λ l. Below l next) (sym u) alive.heard;
      heeds = subst (λ l. Heeds l children) (sym u) alive.heeds;
    }

-- a child that starts

heeds_one : (us : List ℕ) (children : List RunningChild) (child : RunningChild) → Heeds us children → (child.mute ≡ false → Contains us child.id → ⊥) → Heeds us (children ++ child ∷ [])
heeds_one us [] child h one = (one, tt)
heeds_one us (k ∷ children) child h one = (h.0, heeds_one us children child h.1 one)

pub alive_start : (log new : List Event) (next : ℕ) (children : List RunningChild) (role : Role) (cmd : CommandSeen) (pipes : Pipes) (held : ℕ) (place : Option ℕ) → new ≡ log ++ Started next role cmd pipes held ∷ [] → AreRunning log next children → AreRunning new (next + 1) (children ++ record { id = next; polls = 0; mute = false; place = place } ∷ [])
alive_start log new next children role cmd pipes held place is alive =
    let e : Event = Started next role cmd pipes held in
    let child : RunningChild = record { id = next; polls = 0; mute = false; place = place } in
    let u : unreads new ≡ unreads log = ap unreads is ∙ unreads_idle log e refl in
    let s : started_ids new ≡ started_ids log ++ next ∷ [] = ap started_ids is ∙ flat_map-append id_of log (e ∷ []) in
    let i : ids (children ++ child ∷ []) ≡ ids children ++ next ∷ [] = map-append (λ (k : RunningChild). k.id) children (child ∷ []) in
    let more : next ≤ next + 1 = omega arith in
    record {
      run = ap live is ∙ live_then [] log (e ∷ []) ∙ ap (λ l. l ++ live_of child ∷ []) alive.run ∙ sym (map-append live_of children (child ∷ []));
      count = ap (λ n. n + 1) alive.count ∙ sym (ap length s ∙ length-append (started_ids log) (next ∷ []));
      drawn = subst (λ l. Below l (next + 1)) (sym s) (below_both (started_ids log) (next ∷ []) (next + 1) (below_later (started_ids log) next (next + 1) more alive.drawn) (omega arith, tt));
      rising = subst Rising (sym i) (rising_one (ids children) next alive.rising alive.below);
      below = subst (λ l. Below l (next + 1)) (sym i) (below_both (ids children) (next ∷ []) (next + 1) (below_later (ids children) next (next + 1) more alive.below) (omega arith, tt));
      heard = subst (λ l. Below l (next + 1)) (sym u) (below_later (unreads log) next (next + 1) more alive.heard);
      heeds = subst (λ l. Heeds l (children ++ child ∷ [])) (sym u) (heeds_one (unreads log) children child alive.heeds (λ _ c. below_lacks (unreads log) next alive.heard c));
    }

-- a child that was started runs
pub started_runs : (a b : List Event) (id : ℕ) (role : Role) (cmd : CommandSeen) (pipes : Pipes) (held : ℕ) (r : Result Start HostError) → r ≡ Ok (Child id) → b ≡ a ++ started role cmd pipes held r → Contains (running b) id
started_runs a b id role cmd pipes held r child is =
    let c : Live = record { id = id; polls = 0 } in
    let e : b ≡ a ++ Started id role cmd pipes held ∷ [] = is ∙ ap (λ r. a ++ started role cmd pipes held r) child in
    let l : running b ≡ running a ++ id ∷ [] = ap running e ∙ ap (map (λ (c : Live). c.id)) (live_then [] a (Started id role cmd pipes held ∷ [])) ∙ map-append (λ (c : Live). c.id) (live a) (c ∷ []) in
    subst (λ ids. Contains ids id) (sym l) (Contains-append_right (running a) (id ∷ []) id (zero, omega arith, refl))

pub alive_fresh : (log : List Event) (next : ℕ) (children : List RunningChild) → AreRunning log next children → IsFresh log (Child next)
alive_fresh log next children alive = (alive.count, below_all (started_ids log) next alive.drawn)

-- a child that is left alone

gone_by : (id : ℕ) (k : RunningChild) (children : List RunningChild) (b : Bool) → (k.id == id) ≡ b → map live_of (without_child id children) ≡ without id (map live_of children) → map live_of (without_child id (k ∷ children)) ≡ without id (map live_of (k ∷ children))
gone_by id k children true e h = rw e refl
gone_by id k children false e h = rw e (ap (λ l. live_of k ∷ l) h)

gone_live : (id : ℕ) (children : List RunningChild) → map live_of (without_child id children) ≡ without id (map live_of children)
gone_live id [] = refl
gone_live id (k ∷ children) = gone_by id k children (k.id == id) refl (gone_live id children)

above_gone_by : (m id : ℕ) (k : RunningChild) (children : List RunningChild) (b : Bool) → (k.id == id) ≡ b → Above m (ids (k ∷ children)) → Above m (ids (without_child id children)) → Above m (ids (without_child id (k ∷ children)))
above_gone_by m id k children true e h g = rw e h.1
above_gone_by m id k children false e h g = rw e (h.0, g)

above_gone : (m id : ℕ) (children : List RunningChild) → Above m (ids children) → Above m (ids (without_child id children))
above_gone m id [] h = tt
above_gone m id (k ∷ children) h = above_gone_by m id k children (k.id == id) refl h (above_gone m id children h.1)

rising_gone_by : (id : ℕ) (k : RunningChild) (children : List RunningChild) (b : Bool) → (k.id == id) ≡ b → Rising (ids (k ∷ children)) → Rising (ids (without_child id children)) → Rising (ids (without_child id (k ∷ children)))
rising_gone_by id k children true e h g = rw e h.1
rising_gone_by id k children false e h g = rw e (above_gone k.id id children h.0, g)

rising_gone : (id : ℕ) (children : List RunningChild) → Rising (ids children) → Rising (ids (without_child id children))
rising_gone id [] h = tt
rising_gone id (k ∷ children) h = rising_gone_by id k children (k.id == id) refl h (rising_gone id children h.1)

below_gone_by : (n id : ℕ) (k : RunningChild) (children : List RunningChild) (b : Bool) → (k.id == id) ≡ b → Below (ids (k ∷ children)) n → Below (ids (without_child id children)) n → Below (ids (without_child id (k ∷ children))) n
below_gone_by n id k children true e h g = rw e h.1
below_gone_by n id k children false e h g = rw e (h.0, g)

below_gone : (n id : ℕ) (children : List RunningChild) → Below (ids children) n → Below (ids (without_child id children)) n
below_gone n id [] h = tt
below_gone n id (k ∷ children) h = below_gone_by n id k children (k.id == id) refl h (below_gone n id children h.1)

heeds_gone_by : (us : List ℕ) (id : ℕ) (k : RunningChild) (children : List RunningChild) (b : Bool) → (k.id == id) ≡ b → Heeds us (k ∷ children) → Heeds us (without_child id children) → Heeds us (without_child id (k ∷ children))
heeds_gone_by us id k children true e h g = rw e h.1
heeds_gone_by us id k children false e h g = rw e (h.0, g)

heeds_gone : (us : List ℕ) (id : ℕ) (children : List RunningChild) → Heeds us children → Heeds us (without_child id children)
heeds_gone us id [] h = tt
heeds_gone us id (k ∷ children) h = heeds_gone_by us id k children (k.id == id) refl h (heeds_gone us id children h.1)

pub alive_gone : (log new : List Event) (next id : ℕ) (children others : List RunningChild) → new ≡ log ++ Abandoned id ∷ [] → others ≡ without_child id children → AreRunning log next children → AreRunning new next others
alive_gone log new next id children others is left alive =
    let e : Event = Abandoned id in
    let u : unreads new ≡ unreads log = ap unreads is ∙ unreads_idle log e refl in
    let s : started_ids new ≡ started_ids log = ap started_ids is ∙ started_idle log e refl in
    record {
      run = ap live is ∙ live_then [] log (e ∷ []) ∙ ap (without id) alive.run ∙ sym (gone_live id children) ∙ ap (map live_of) (sym left);
      count = alive.count ∙ ap length (sym s);
      drawn = subst (λ l. Below l next) (sym s) alive.drawn;
      rising = subst (λ l. Rising (ids l)) (sym left) (rising_gone id children alive.rising);
      below = subst (λ l. Below (ids l) next) (sym left) (below_gone next id children alive.below);
      heard = subst (λ l. Below l next) (sym u) alive.heard;
      heeds = subst (λ l. Heeds l others) (sym u) (subst (Heeds (unreads log)) (sym left) (heeds_gone (unreads log) id children alive.heeds));
    }

run_ids : (children : List RunningChild) → map (λ (c : Live). c.id) (map live_of children) ≡ ids children
run_ids [] = refl
run_ids (k ∷ children) = ap (λ l. k.id ∷ l) (run_ids children)

pub running_ids : (log : List Event) (next : ℕ) (children : List RunningChild) → AreRunning log next children → running log ≡ ids children
running_ids log next children alive = ap (map (λ (c : Live). c.id)) alive.run ∙ run_ids children

short_at : (id : ℕ) (children : List RunningChild) (k : ℕ) → k < length (ids children) → get_or (ids children) k id ≡ id → length (without_child id children) + 1 ≡ length children
short_at id [] k lt is = absurd (omega arith)
short_at id (child ∷ children) zero lt is = grind (arith, common_steps)
short_at id (child ∷ children) (suc k) lt is = grind (arith, common_steps, short_at id children k (omega arith) is)

-- a child that runs is among those
pub child_missing : (log : List Event) (next id : ℕ) (children : List RunningChild) → AreRunning log next children → Contains (running log) id → without_child id children ≡ children → ⊥
child_missing log next id children alive runs same =
    let c : Contains (ids children) id = subst (λ l. Contains l id) (running_ids log next children alive) runs in
    let short : length (without_child id children) + 1 ≡ length children = short_at id children c.0 c.1 c.2 in
    let long : length (without_child id children) ≡ length children = ap length same in
    omega arith

pub child_here : (id : ℕ) (ks : List RunningChild) (at : ℕ) (d : RunningChild) → at < length ks → (get_or ks at d).id ≡ id → take at ks ++ without_child id (drop at ks) ≡ remove ks at
child_here id (k ∷ ks) zero d lt is = grind (arith, common_steps)
child_here id (k ∷ ks) (suc at) d lt is = ap (λ l. k ∷ l) (child_here id ks at d (omega arith) is)
child_here id [] at d lt is = absurd (omega arith)

child_next : (id : ℕ) (ks : List RunningChild) (at : ℕ) (d : RunningChild) → at < length ks → (get_or ks at d).id ≢ id → take at ks ++ without_child id (drop at ks) ≡ take (suc at) ks ++ without_child id (drop (suc at) ks)
child_next id (k ∷ ks) zero d lt is = grind (arith, common_steps)
child_next id (k ∷ ks) (suc at) d lt is = ap (λ l. k ∷ l) (child_next id ks at d (omega arith) is)
child_next id [] at d lt is = absurd (omega arith)

pub child_on : (id : ℕ) (ks : List RunningChild) (at : ℕ) (d : RunningChild) → at < length ks → (get_or ks at d).id ≢ id → take at ks ++ without_child id (drop at ks) ≡ take (at + 1) ks ++ without_child id (drop (at + 1) ks)
child_on id ks at d lt is = rw add-one (child_next id ks at d lt is)
