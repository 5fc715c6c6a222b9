-- The children of a host over the machine.
use Rattle.std.proofs.Common.{◌≡◌, ℕ, ◌+◌, ◌<◌, Bool, true, false, List, [], ◌∷◌, ◌++◌, length, get_or, take, refl, sym, subst}
use Rattle.std.proofs.lemmas.List.{take_more}
use Rattle.cc_host.specs.ChildLog.{AreTold, IsPieceBy, piece_by}
use Rattle.cc_host.specs.declared.child.RunningChild.{RunningChild}
use Rattle.cc_host.specs.declared.event.News.{News}

pub piece_is : (mute : Bool) (bytes : List ℕ) → IsPieceBy mute (piece_by mute bytes)
piece_is true bytes = tt
piece_is false [] = tt
piece_is false (b ∷ bytes) = (λ e. absurd (cc), refl)

told_one : (children : List RunningChild) (told : List News) (child : RunningChild) (news : News) → AreTold children told → news.id ≡ child.id → IsPieceBy child.mute news.piece → AreTold (children ++ child ∷ []) (told ++ news ∷ [])
told_one [] [] child news are own piece = (own, piece, tt)
told_one [] (n ∷ told) child news are own piece = absurd are
told_one (k ∷ children) [] child news are own piece = absurd are
told_one (k ∷ children) (n ∷ told) child news are own piece = (are.0, are.1, told_one children told child news are.2 own piece)

pub told_more : (children : List RunningChild) (told : List News) (at : ℕ) (d : RunningChild) (news : News) → at < length children → AreTold (take at children) told → news.id ≡ (get_or children at d).id → IsPieceBy (get_or children at d).mute news.piece → AreTold (take (at + 1) children) (told ++ news ∷ [])
told_more children told at d news lt are own piece = subst (λ l. AreTold l (told ++ news ∷ [])) (sym (take_more children at d lt)) (told_one (take at children) told (get_or children at d) news are own piece)
