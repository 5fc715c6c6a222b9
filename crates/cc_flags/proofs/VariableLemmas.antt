-- Names that are looked at up to the first that is set, and names in order.
use Rattle.std.proofs.Common.{◌≡◌, ℕ, zero, suc, ◌+◌, ◌<◌, Bool, true, false, List, [], ◌∷◌, ◌++◌, is_some, if◌then◌else◌, take, drop, length, slice_index_or, fold, refl, sym, ap, subst, ◌∙◌, add-one, append_assoc, arith}
use Rattle.std.proofs.Math.Seq.{take-suc}
use Rattle.std.proofs.lemmas.List.Sums.{fold-append}
use Rattle.cc_env.specs.Env.{EnvSeen}
use Rattle.cc_env.specs.Snapshot.{last_value}
use Rattle.cc_flags.specs.Variables.{looked_at, in_order}

-- the next name is looked at, and those behind it unless it is set
look_next : (env : EnvSeen) (names : List (List ℕ)) (i : ℕ) (name : List ℕ) → i < length names → name ≡ slice_index_or names i name → looked_at env (drop i names) ≡ name ∷ (if is_some (last_value env.inherited name) then [] else looked_at env (drop (suc i) names))
look_next env [] i name l e = absurd (omega arith)
look_next env (n ∷ names) zero name l e = ap (λ (m : List ℕ). looked_at env (m ∷ names)) (sym e)
look_next env (n ∷ names) (suc i) name l e = look_next env names i name (omega arith) e

-- it isn't set
pub look_on : (env : EnvSeen) (names read : List (List ℕ)) (i : ℕ) (name : List ℕ) → i < length names → name ≡ slice_index_or names i name → is_some (last_value env.inherited name) ≡ false → read ++ looked_at env (drop i names) ≡ looked_at env names → (read ++ name ∷ []) ++ looked_at env (drop (i + 1) names) ≡ looked_at env names
look_on env names read i name l e unset so =
    let next : looked_at env (drop i names) ≡ name ∷ looked_at env (drop (suc i) names) = look_next env names i name l e ∙ ap (λ (b : Bool). name ∷ (if b then [] else looked_at env (drop (suc i) names))) unset in
    rw add-one (append_assoc read (name ∷ []) (looked_at env (drop (suc i) names)) ∙ ap (λ (m : List (List ℕ)). read ++ m) (sym next) ∙ so)

-- it is
pub look_here : (env : EnvSeen) (names read : List (List ℕ)) (i : ℕ) (name : List ℕ) → i < length names → name ≡ slice_index_or names i name → is_some (last_value env.inherited name) ≡ true → read ++ looked_at env (drop i names) ≡ looked_at env names → read ++ name ∷ [] ≡ looked_at env names
look_here env names read i name l e is_set so =
    let next : looked_at env (drop i names) ≡ name ∷ [] = look_next env names i name l e ∙ ap (λ (b : Bool). name ∷ (if b then [] else looked_at env (drop (suc i) names))) is_set in
    ap (λ (m : List (List ℕ)). read ++ m) (sym next) ∙ so
