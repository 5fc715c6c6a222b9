-- Laws on the children that run.
use Rattle.std.proofs.Common.{◌≡◌, ℕ, zero, suc, ◌+◌, ◌<◌, List, [], ◌∷◌, ◌++◌, length, map, take, drop, get_or, refl, sym, ◌∙◌, ap, subst, add-one, arith, ◌≢◌, Bool, true, false}
use Rattle.std.specs.Prelude.{Option, None, Some, ◌==◌, if◌then◌else◌}
use Rattle.std.specs.List.{slice_get}
use Rattle.std.proofs.lemmas.Grind.{common_steps}
use Rattle.std.proofs.Math.ListN.{set}
use Rattle.cc_run.specs.declared.planned.Planned.{Planned}
use Rattle.cc_run.specs.declared.running.Child.{Child}
use Rattle.cc_run.specs.Children.{seat, without_child, IsFirst}
use Rattle.cc_run.specs.Hearing.{at_child, of_child}
use Rattle.cc_run.specs.declared.print.Notice.{Notice}
use Rattle.cc_run.specs.Run.{place_of, without}

pub place_here : (id : ℕ) (cs : List Child) (at : ℕ) (d : Child) → at < length cs → (get_or cs at d).id ≡ id → place_of id (map seat (drop at cs)) ≡ Some (get_or cs at d).place
place_here id (c ∷ cs) zero d lt is = grind (arith, common_steps)
place_here id (c ∷ cs) (suc at) d lt is = place_here id cs at d (omega arith) is
place_here id [] at d lt is = absurd (omega arith)

pub rest_here : (id : ℕ) (cs : List Child) (at : ℕ) (d : Child) → at < length cs → (get_or cs at d).id ≡ id → without_child id (drop at cs) ≡ drop (suc at) cs
rest_here id (c ∷ cs) zero d lt is = grind (arith, common_steps)
rest_here id (c ∷ cs) (suc at) d lt is = rest_here id cs at d (omega arith) is
rest_here id [] at d lt is = absurd (omega arith)

place_next : (id : ℕ) (cs : List Child) (at : ℕ) (d : Child) → at < length cs → (get_or cs at d).id ≢ id → place_of id (map seat (drop at cs)) ≡ place_of id (map seat (drop (suc at) cs))
place_next id (c ∷ cs) zero d lt is = grind (arith, common_steps)
place_next id (c ∷ cs) (suc at) d lt is = place_next id cs at d (omega arith) is
place_next id [] at d lt is = absurd (omega arith)

rest_next : (id : ℕ) (cs : List Child) (at : ℕ) (d : Child) → at < length cs → (get_or cs at d).id ≢ id → take at cs ++ without_child id (drop at cs) ≡ take (suc at) cs ++ without_child id (drop (suc at) cs)
rest_next id (c ∷ cs) zero d lt is = grind (arith, common_steps)
rest_next id (c ∷ cs) (suc at) d lt is = ap (λ l. c ∷ l) (rest_next id cs at d (omega arith) is)
rest_next id [] at d lt is = absurd (omega arith)

pub place_on : (id : ℕ) (cs : List Child) (at : ℕ) (d : Child) → at < length cs → (get_or cs at d).id ≢ id → place_of id (map seat (drop at cs)) ≡ place_of id (map seat (drop (at + 1) cs))
place_on id cs at d lt is = rw add-one (place_next id cs at d lt is)

pub rest_on : (id : ℕ) (cs : List Child) (at : ℕ) (d : Child) → at < length cs → (get_or cs at d).id ≢ id → take at cs ++ without_child id (drop at cs) ≡ take (at + 1) cs ++ without_child id (drop (at + 1) cs)
rest_on id cs at d lt is = rw add-one (rest_next id cs at d lt is)

-- the seats of the children without one
pub seats_without : (id : ℕ) (cs : List Child) → map seat (without_child id cs) ≡ without id (map seat cs)
seats_without id [] = refl
seats_without id (c ∷ cs) = at (c.id == id) (seats_without id cs)
  where
    at : (b : Bool) → map seat (without_child id cs) ≡ without id (map seat cs) → map seat (if b then cs else c ∷ without_child id cs) ≡ (if b then map seat cs else seat c ∷ without id (map seat cs))
    at true h = refl
    at false h = ap (λ l. seat c ∷ l) h

-- a child that keeps id and place
pub seats_set : (cs : List Child) (at : ℕ) (c d : Child) → at < length cs → seat c ≡ seat (get_or cs at d) → map seat (set cs at c) ≡ map seat cs
seats_set (x ∷ cs) zero c d lt e = ap (λ s. s ∷ map seat cs) e
seats_set (x ∷ cs) (suc at) c d lt e = ap (λ l. seat x ∷ l) (seats_set cs at c d (omega arith) e)
seats_set [] at c d lt e = absurd (omega arith)

Befores : ℕ → List Child → ℕ → Type 0
Befores id cs at = (k : ℕ) → (d : Child) → k < at → (get_or cs k d).id ≢ id

change_at : (id : ℕ) (f : Child → Child) (cs : List Child) (at : ℕ) (d : Child) → at < length cs → (get_or cs at d).id ≡ id → Befores id cs at → at_child id f cs ≡ set cs at (f (get_or cs at d))
unfolding Befores
change_at id f (c ∷ cs) zero d lt own h = grind (arith, common_steps)
change_at id f (c ∷ cs) (suc at) d lt own h = step (c.id == id) refl (change_at id f cs at d (omega arith) own (λ k e l. h (suc k) e (omega arith)))
  where
    step : (b : Bool) → (c.id == id) ≡ b → at_child id f cs ≡ set cs at (f (get_or cs at d)) → (if b then f c ∷ cs else c ∷ at_child id f cs) ≡ c ∷ set cs at (f (get_or cs at d))
    step true e k = absurd (h 0 c (omega arith) (grind (arith, common_steps)))
    step false e k = ap (λ l. c ∷ l) k
change_at id f [] at d lt own h = absurd (omega arith)

read_at : (id : ℕ) (f : Child → List Notice) (cs : List Child) (at : ℕ) (d : Child) → at < length cs → (get_or cs at d).id ≡ id → Befores id cs at → of_child id f cs ≡ f (get_or cs at d)
unfolding Befores
read_at id f (c ∷ cs) zero d lt own h = grind (arith, common_steps)
read_at id f (c ∷ cs) (suc at) d lt own h = step (c.id == id) refl (read_at id f cs at d (omega arith) own (λ k e l. h (suc k) e (omega arith)))
  where
    step : (b : Bool) → (c.id == id) ≡ b → of_child id f cs ≡ f (get_or cs at d) → (if b then f c else of_child id f cs) ≡ f (get_or cs at d)
    step true e k = absurd (h 0 c (omega arith) (grind (arith, common_steps)))
    step false e k = k
read_at id f [] at d lt own h = absurd (omega arith)

-- the first child of an id, changed
pub first_at : (id : ℕ) (f : Child → Child) (cs : List Child) (at : ℕ) (d : Child) → IsFirst id cs at → at_child id f cs ≡ set cs at (f (get_or cs at d))
unfolding Befores
first_at id f cs at d h = change_at id f cs at d h.below (h.own d) h.before

-- and its lines
pub first_of : (id : ℕ) (f : Child → List Notice) (cs : List Child) (at : ℕ) (d : Child) → IsFirst id cs at → of_child id f cs ≡ f (get_or cs at d)
unfolding Befores
first_of id f cs at d h = read_at id f cs at d h.below (h.own d) h.before

-- and what it gave, by its command
pub first_given : (f : Option Planned → Child → List Notice) (id : ℕ) (cmds : List Planned) (cs : List Child) (at : ℕ) (x d : Child) (o : Option Planned) (old new : List Notice) → IsFirst id cs at → x ≡ get_or cs at d → o ≡ slice_get cmds x.place → new ≡ old ++ f o x → new ≡ old ++ of_child id (λ c. f (slice_get cmds c.place) c) cs
first_given f id cmds cs at x d o old new h e p n =
    n ∙ ap (λ l. old ++ l) (ap (λ q. f q x) p ∙ ap (λ c. f (slice_get cmds c.place) c) e ∙ sym (first_of id (λ c. f (slice_get cmds c.place) c) cs at d h))

pub none_at : (id : ℕ) (f : Child → Child) (cs : List Child) → place_of id (map seat cs) ≡ None → at_child id f cs ≡ cs
none_at id f [] h = refl
none_at id f (c ∷ cs) h = at (c.id == id) h (none_at id f cs)
  where
    at : (b : Bool) → (if b then Some c.place else place_of id (map seat cs)) ≡ None → (place_of id (map seat cs) ≡ None → at_child id f cs ≡ cs) → (if b then f c ∷ cs else c ∷ at_child id f cs) ≡ c ∷ cs
    at true h rec = absurd (cc)
    at false h rec = ap (λ l. c ∷ l) (rec h)

pub none_of : (id : ℕ) (f : Child → List Notice) (cs : List Child) → place_of id (map seat cs) ≡ None → of_child id f cs ≡ []
none_of id f [] h = refl
none_of id f (c ∷ cs) h = at (c.id == id) h (none_of id f cs)
  where
    at : (b : Bool) → (if b then Some c.place else place_of id (map seat cs)) ≡ None → (place_of id (map seat cs) ≡ None → of_child id f cs ≡ []) → (if b then f c else of_child id f cs) ≡ []
    at true h rec = absurd (cc)
    at false h rec = rec h
