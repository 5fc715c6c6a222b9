-- Laws on the command that failed last.
use Rattle.std.proofs.Common.{◌≡◌, ◌≢◌, ◌<◌, ◌+◌, ℕ, zero, suc, List, [], ◌∷◌, ◌++◌, length, take, drop, get_or, replicate, Some, refl, sym, ◌∙◌, ap, add-one, arith}
use Rattle.std.specs.List.{flat_map}
use Rattle.std.proofs.lemmas.Grind.{common_steps, take_at_read}
use Rattle.cc_host.specs.Command.{CommandSeen}
use Rattle.cc_host.specs.Event.{apart}
use Rattle.cc_host.specs.declared.event.Event.{Event}
use Rattle.cc_host.specs.declared.event.Event.TheVariants.{Listed, Turn}
use Rattle.cc_command.specs.Failing.{Running, Watched, unwatched, command_of, without, watched, watched_from, failed_last}

-- ---- a child by its number

pub command_here : (id : ℕ) (cs : Running) (at : ℕ) (d : ℕ × CommandSeen) → at < length cs → (get_or cs at d).0 ≡ id → command_of id (drop at cs) ≡ Some (get_or cs at d).1
command_here id (c ∷ cs) zero d lt is = grind (arith, common_steps)
command_here id (c ∷ cs) (suc at) d lt is = command_here id cs at d (omega arith) is
command_here id [] at d lt is = absurd (omega arith)

pub rest_here : (id : ℕ) (cs : Running) (at : ℕ) (d : ℕ × CommandSeen) → at < length cs → (get_or cs at d).0 ≡ id → without id (drop at cs) ≡ drop (suc at) cs
rest_here id (c ∷ cs) zero d lt is = grind (arith, common_steps)
rest_here id (c ∷ cs) (suc at) d lt is = rest_here id cs at d (omega arith) is
rest_here id [] at d lt is = absurd (omega arith)

command_next : (id : ℕ) (cs : Running) (at : ℕ) (d : ℕ × CommandSeen) → at < length cs → (get_or cs at d).0 ≢ id → command_of id (drop at cs) ≡ command_of id (drop (suc at) cs)
command_next id (c ∷ cs) zero d lt is = grind (arith, common_steps)
command_next id (c ∷ cs) (suc at) d lt is = command_next id cs at d (omega arith) is
command_next id [] at d lt is = absurd (omega arith)

rest_next : (id : ℕ) (cs : Running) (at : ℕ) (d : ℕ × CommandSeen) → at < length cs → (get_or cs at d).0 ≢ id → take at cs ++ without id (drop at cs) ≡ take (suc at) cs ++ without id (drop (suc at) cs)
rest_next id (c ∷ cs) zero d lt is = grind (arith, common_steps)
rest_next id (c ∷ cs) (suc at) d lt is = ap (λ l. c ∷ l) (rest_next id cs at d (omega arith) is)
rest_next id [] at d lt is = absurd (omega arith)

pub command_on : (id : ℕ) (cs : Running) (at : ℕ) (d : ℕ × CommandSeen) → at < length cs → (get_or cs at d).0 ≢ id → command_of id (drop at cs) ≡ command_of id (drop (at + 1) cs)
command_on id cs at d lt is = rw add-one (command_next id cs at d lt is)

pub rest_on : (id : ℕ) (cs : Running) (at : ℕ) (d : ℕ × CommandSeen) → at < length cs → (get_or cs at d).0 ≢ id → take at cs ++ without id (drop at cs) ≡ take (at + 1) cs ++ without id (drop (at + 1) cs)
rest_on id cs at d lt is = rw add-one (rest_next id cs at d lt is)

-- ---- events one after another

pub watched_then : (w : Watched) (a b : List Event) → watched_from w (a ++ b) ≡ watched_from (watched_from w a) b
watched_then w [] b = refl
watched_then w (e ∷ a) b = watched_then (watched w e) a b

-- one event more
pub watched_more : (w : Watched) (log : List Event) (i : ℕ) (e : Event) → i < length log → e ≡ get_or log i e → watched_from w (take (i + 1) log) ≡ watched (watched_from w (take i log)) e
watched_more w log i e within is =
    let more : take (i + 1) log ≡ take i log ++ e ∷ [] = (take_at_read log i e within).1 ∙ ap (λ r. take i log ++ r ∷ []) (sym is) in
    ap (watched_from w) more ∙ watched_then w (take i log) (e ∷ [])

no_turn : (w : Watched) (n : ℕ) → watched_from w (replicate n (Turn 1)) ≡ w
no_turn w zero = refl
no_turn w (suc n) = no_turn w n

one_apart : (w : Watched) (event : Event) → watched_from w (apart event) ≡ watched w event
one_apart w (Turn count) = no_turn w count
one_apart w event = refl

-- a log as it is lent tells the same
pub watched_apart : (w : Watched) (log : List Event) → watched_from w (flat_map apart log) ≡ watched_from w log
watched_apart w [] = refl
watched_apart w (event ∷ log) =
    watched_then w (apart event) (flat_map apart log) ∙ ap (λ u. watched_from u (flat_map apart log)) (one_apart w event) ∙ watched_apart (watched w event) log

-- what stands before a listing doesn't count
pub failed_since : (old : List Event) (vars : List (List ℕ × List ℕ)) (run : List Event) → failed_last (old ++ Listed vars ∷ run) ≡ failed_last run
failed_since old vars run = ap (λ w. w.last) (watched_then unwatched old (Listed vars ∷ run))
