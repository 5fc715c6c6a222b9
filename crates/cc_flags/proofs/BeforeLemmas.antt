-- What stands before the first place at which a test passes.
use Rattle.std.proofs.Common.{◌≡◌, ℕ, List, Bool, Some, None, take, ap}
use Rattle.std.specs.List.{position}
use Rattle.std.proofs.lemmas.List.{take_all}
use Rattle.cc_text.proofs.PositionLemmas.{place_is, none_within}
use Rattle.cc_flags.specs.SettingWords.{before}

module _ {X : Type 0} (p : X → Bool) (xs : List X) where
  pub before_place : (place : ℕ) → Some place ≡ position p xs → before p xs ≡ take place xs
  before_place place h = ap (λ n. take n xs) (place_is p xs place h).1

  pub before_none : None ≡ position p xs → before p xs ≡ xs
  before_none h = take_all _ xs (none_within p xs h)
