-- The children that are gone through in a turn.
use Rattle.std.proofs.Common.{◌≡◌, ℕ, zero, suc, ◌+◌, ◌<◌, ◌≤◌, Bool, true, false, List, [], ◌∷◌, ◌++◌, length, get_or, take, map, is_some, refl, sym, ◌∙◌, ap, arith, append-nil, append_assoc, add-one}
use Rattle.std.proofs.lemmas.List.{map-append, take_more, length-append}
use Rattle.cc_host.specs.ChildLog.{AreTold, news_of, child_after, left_by}
use Rattle.cc_host.specs.declared.event.News.{News}
use Rattle.cc_host.specs.declared.child.RunningChild.{RunningChild}
use Rattle.cc_host.specs.declared.script.Scripted.{Scripted}

pub told_more : (scripts : List Scripted) (children : List RunningChild) (at : ℕ) (d : RunningChild) → at < length children → map (news_of scripts) (take (at + 1) children) ≡ map (news_of scripts) (take at children) ++ news_of scripts (get_or children at d) ∷ []
told_more scripts children at d lt = ap (map (news_of scripts)) (take_more children at d lt) ∙ map-append (news_of scripts) (take at children) (get_or children at d ∷ [])

left_next : (children : List RunningChild) (told : List News) (at : ℕ) (d : RunningChild) (e : News) → at < length children → at < length told → left_by (take (suc at) children) (take (suc at) told) ≡ left_by (take at children) (take at told) ++ child_after (get_or children at d) (get_or told at e)
left_next [] told at d e lt short = absurd (omega arith)
left_next (k ∷ children) [] at d e lt short = absurd (omega arith)
left_next (k ∷ children) (n ∷ told) zero d e lt short = append-nil (child_after k n)
left_next (k ∷ children) (n ∷ told) (suc at) d e lt short = ap (λ l. child_after k n ++ l) (left_next children told at d e (omega arith) (omega arith)) ∙ sym (append_assoc (child_after k n) (left_by (take at children) (take at told)) (child_after (get_or children at d) (get_or told at e)))

pub left_more : (children : List RunningChild) (told : List News) (at : ℕ) (d : RunningChild) (e : News) → at < length children → at < length told → left_by (take (at + 1) children) (take (at + 1) told) ≡ left_by (take at children) (take at told) ++ child_after (get_or children at d) (get_or told at e)
left_more children told at d e lt short = rw add-one (left_next children told at d e lt short)

one_left : (child : RunningChild) (n : News) (b : Bool) → is_some n.ended ≡ b → length (child_after child n) ≤ 1
one_left child n true e = rw e (omega arith)
one_left child n false e = rw e (omega arith)

pub left_short : (children : List RunningChild) (told : List News) → length (left_by children told) ≤ length children
left_short [] told = omega arith
left_short (k ∷ children) [] = omega arith
left_short (k ∷ children) (n ∷ told) =
    rw (length-append (child_after k n) (left_by children told)) (omega (arith, one_left k n (is_some n.ended) refl, left_short children told))

pub told_count : (children : List RunningChild) (told : List News) → AreTold children told → length told ≡ length children
told_count [] [] are = refl
told_count [] (n ∷ told) are = absurd are
told_count (k ∷ children) [] are = absurd are
told_count (k ∷ children) (n ∷ told) are = ap suc (told_count children told are.2)
