-- The script that counts, as the scripts are gone through.
use Rattle.std.proofs.Common.{◌≡◌, ℕ, zero, suc, ◌+◌, ◌<◌, ◌≤◌, IfSome, None, if◌then◌else◌, Bool, true, false, List, [], ◌∷◌, ◌++◌, length, get_or, take, drop, reverse, Option, Some, slice_get, refl, sym, ◌∙◌, ap, arith, append-nil, append_assoc, map, set, subst, replicate, ◌||◌, is_some, max}
use Rattle.std.specs.List.{concat, flat_map, list_any}
use Rattle.std.proofs.lemmas.List.{reverse-append, take_more, length-map, length-take-le, map-append, set_at, at_drop_more}
use Rattle.std.proofs.lemmas.List.Folds.{concat-append}
use Rattle.cc_host.specs.Command.{CommandSeen}
use Rattle.cc_host.specs.Script.{fits, script_for, script_at, starts_awaited, was_met, patience_of, longest, turns_of, met_after}
use Rattle.cc_host.specs.Event.{apart}
use Rattle.cc_host.specs.declared.event.Event.{Event}
use Rattle.cc_host.specs.declared.event.Event.TheVariants.{Started, Turn}
use Rattle.cc_host.specs.declared.event.Role.{Role}
use Rattle.cc_host.specs.declared.script.Scripted.{Scripted}

reversed : (scripts : List Scripted) (at : ℕ) (d : Scripted) → at < length scripts → reverse (take (at + 1) scripts) ≡ get_or scripts at d ∷ reverse (take at scripts)
reversed scripts at d lt = ap reverse (take_more scripts at d lt) ∙ reverse-append (take at scripts) (get_or scripts at d ∷ [])

-- a script that doesn't fit changes nothing
pub place_kept : (scripts : List Scripted) (last : Option ℕ) (role : Role) (cmd : CommandSeen) (at : ℕ) (d : Scripted) → at < length scripts → fits role cmd (get_or scripts at d) ≡ false → script_at scripts last ≡ script_for (take at scripts) role cmd → script_at scripts last ≡ script_for (take (at + 1) scripts) role cmd
place_kept scripts last role cmd at d lt miss h = rw (reversed scripts at d lt, miss) h

get_here : {X : Type 0} (xs : List X) (at : ℕ) (d : X) → at < length xs → slice_get xs at ≡ Some (get_or xs at d)
get_here [] at d lt = absurd (omega arith)
get_here (x ∷ xs) zero d lt = refl
get_here (x ∷ xs) (suc at) d lt = get_here xs at d (omega arith)

-- a script that fits is the last so far
pub place_new : (scripts : List Scripted) (role : Role) (cmd : CommandSeen) (at : ℕ) (d : Scripted) → at < length scripts → fits role cmd (get_or scripts at d) ≡ true → script_at scripts (Some at) ≡ script_for (take (at + 1) scripts) role cmd
place_new scripts role cmd at d lt hit = get_here scripts at d lt ∙ sym (rw (reversed scripts at d lt, hit) refl)

pub concat_more : (xs : List (List ℕ)) (at : ℕ) (d : List ℕ) → at < length xs → concat (take (at + 1) xs) ≡ concat (take at xs) ++ get_or xs at d
concat_more xs at d lt = ap concat (take_more xs at d lt) ∙ concat-append (take at xs) (get_or xs at d ∷ []) ∙ ap (λ l. concat (take at xs) ++ l) (append-nil (get_or xs at d))

get_or_seam : {X : Type 0} (xs : List X) (y : X) (ys : List X) (at : ℕ) (d : X) → length xs ≡ at → get_or (xs ++ y ∷ ys) at d ≡ y
get_or_seam [] y ys at d e = subst (λ n. get_or (y ∷ ys) n d ≡ y) e refl
get_or_seam (x ∷ xs) y ys at d e = subst (λ n. get_or (x ∷ xs ++ y ∷ ys) n d ≡ y) e (get_or_seam xs y ys (length xs) d refl)

-- the scripts so far have been reported, and now one more
pub reported_more : (f : Scripted → Scripted) (first now : List Scripted) (at : ℕ) (script after : Scripted) → at < length first → now ≡ map f (take at first) ++ drop at first → script ≡ get_or now at script → after ≡ f script → set now at after ≡ map f (take (at + 1) first) ++ drop (at + 1) first
reported_more f first now at script after lt e is g =
    let long : length (map f (take at first)) ≡ at = length-map (take at first) f ∙ length-take-le at first (omega arith) in
    let rest : now ≡ map f (take at first) ++ get_or first at script ∷ drop (at + 1) first = e ∙ ap (λ l. map f (take at first) ++ l) (at_drop_more (λ l. l) first at script lt) in
    let same : script ≡ get_or first at script = is ∙ ap (λ l. get_or l at script) rest ∙ get_or_seam (map f (take at first)) (get_or first at script) (drop (at + 1) first) at script long in
    ap (λ l. set l at after) rest
    ∙ set_at (map f (take at first)) (get_or first at script) (drop (at + 1) first) after at long
    ∙ ap (λ x. map f (take at first) ++ x ∷ drop (at + 1) first) (g ∙ ap f same)
    ∙ sym (append_assoc (map f (take at first)) (f (get_or first at script) ∷ []) (drop (at + 1) first))
    ∙ ap (λ l. l ++ drop (at + 1) first) (sym (map-append f (take at first) (get_or first at script ∷ [])) ∙ ap (map f) (sym (take_more first at script lt)))

met_turns : (after : Option (List ℕ)) (count : ℕ) → list_any (starts_awaited after) (replicate count (Turn 1)) ≡ false
met_turns after zero = refl
met_turns after (suc count) = met_turns after count

any_then : (p : Event → Bool) (a b : List Event) → list_any p (a ++ b) ≡ (list_any p a || list_any p b)
any_then p [] b = refl
any_then p (e ∷ a) b = by_test (p e) (any_then p a b)
  where
    by_test : (v : Bool) → list_any p (a ++ b) ≡ (list_any p a || list_any p b) → (v || list_any p (a ++ b)) ≡ ((v || list_any p a) || list_any p b)
    by_test true h = refl
    by_test false h = h

met_one : (after : Option (List ℕ)) (event : Event) → list_any (starts_awaited after) (apart event) ≡ starts_awaited after event
met_one after (Turn count) = met_turns after count
met_one after (Started id role cmd pipes held) = or_nothing (starts_awaited after (Started id role cmd pipes held))
  where
    or_nothing : (v : Bool) → (v || false) ≡ v
    or_nothing true = refl
    or_nothing false = refl
met_one after event = refl

-- the list that stands for a log starts what the log starts
pub met_apart : (after : Option (List ℕ)) (events : List Event) → was_met after events ≡ was_met after (flat_map apart events)
met_apart after [] = refl
met_apart after (e ∷ events) = ap (λ v. starts_awaited after e || v) (met_apart after events) ∙ sym (any_then (starts_awaited after) (apart e) (flat_map apart events) ∙ ap (λ v. v || list_any (starts_awaited after) (flat_map apart events)) (met_one after e))

waits_same : (cmd : CommandSeen) (scripts : List Scripted) → list_any (λ s. is_some s.script.after) (map (met_after cmd) scripts) ≡ list_any (λ s. is_some s.script.after) scripts
waits_same cmd [] = refl
waits_same cmd (s ∷ scripts) = ap (λ v. is_some s.script.after || v) (waits_same cmd scripts)

longest_same : (cmd : CommandSeen) (scripts : List Scripted) → longest (map (met_after cmd) scripts) ≡ longest scripts
longest_same cmd [] = refl
longest_same cmd (s ∷ scripts) = ap (max (turns_of s)) (longest_same cmd scripts)

-- a start changes nothing of the patience
pub patience_same : (cmd : CommandSeen) (scripts : List Scripted) → patience_of (map (met_after cmd) scripts) ≡ patience_of scripts
patience_same cmd scripts = rw (waits_same cmd scripts, longest_same cmd scripts) refl

-- where a host in memory tells its patience, it is at least 1
pub patience_least : (scripts : List Scripted) → IfSome (patience_of scripts) (λ most. 1 ≤ most)
patience_least scripts = at (list_any (λ s. is_some s.script.after) scripts)
  where
    least : (scripts : List Scripted) → 1 ≤ longest scripts
    least [] = omega arith
    least (s ∷ scripts) = let k : 1 ≤ longest scripts = least scripts in omega arith

    at : (b : Bool) → IfSome (if b then None else Some (longest scripts)) (λ most. 1 ≤ most)
    at true = tt
    at false = least scripts
