-- A hash goes on from the hash of what came before.
use Rattle.std.proofs.Common.{◌≡◌, ℕ, List, ◌++◌}
use Rattle.std.proofs.lemmas.List.Sums.{fold-append}
use Rattle.cc_text.specs.Hash.{fnv1a_step, fnv1a_from}

pub fnv1a_from-append : (start : ℕ) (xs ys : List ℕ) → fnv1a_from start (xs ++ ys) ≡ fnv1a_from (fnv1a_from start xs) ys
fnv1a_from-append start xs ys = fold-append fnv1a_step start xs ys
