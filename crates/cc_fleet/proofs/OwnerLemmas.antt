-- Lemmas on the members that commands are of.
use Rattle.std.proofs.Common.{◌≡◌, ◌+◌, ℕ, suc, List, [], ◌∷◌, ◌++◌, length, replicate, sym, ◌∙◌, ap, append_assoc, append-nil, arith}
use Rattle.cc_fleet.specs.Failures.{owners_from, owners_of}

owners_more : {X : Type 0} (n : ℕ) (lists : List (List X)) (cmds : List X) → owners_from n (lists ++ cmds ∷ []) ≡ owners_from n lists ++ replicate (length cmds) (n + length lists)
owners_more n [] cmds = append-nil (replicate (length cmds) n) ∙ ap (replicate (length cmds)) (let e : n ≡ n + 0 = omega arith in e)
owners_more n (l ∷ lists) cmds =
    ap (λ o. replicate (length l) n ++ o) (owners_more (suc n) lists cmds)
    ∙ sym (append_assoc (replicate (length l) n) (owners_from (suc n) lists) (replicate (length cmds) (suc n + length lists)))
    ∙ ap (λ k. (replicate (length l) n ++ owners_from (suc n) lists) ++ replicate (length cmds) k) (let e : suc n + length lists ≡ n + suc (length lists) = omega arith in e)

-- the commands of one member more are its own
pub owners_next : {X : Type 0} (lists : List (List X)) (cmds : List X) → owners_of (lists ++ cmds ∷ []) ≡ owners_of lists ++ replicate (length cmds) (length lists)
owners_next lists cmds = owners_more 0 lists cmds ∙ ap (λ k. owners_of lists ++ replicate (length cmds) k) (let e : 0 + length lists ≡ length lists = omega arith in e)
