-- The pairs of some parts, one part further.
use Rattle.std.proofs.Common.{◌≡◌, ℕ, ◌+◌, ◌<◌, ◌≤◌, true, false, List, [], ◌∷◌, ◌++◌, Option, Some, None, Bor, length, get_or, drop, refl, sym, ap, ◌∙◌, append-nil}
use Rattle.std.proofs.lemmas.List.{at_drop_more, at_drop_all}
use Rattle.cc_text.specs.Words.{texts}
use Rattle.cc_flags.specs.declared.pairs.Pair.{Pair}
use Rattle.cc_flags.specs.Pairs.{is_prefix, pair_of, pairs, left_of}

-- a part that is no prefix gives a pair
pub at_plain : (part : List ℕ) (parts : List (List ℕ)) → is_prefix part ≡ false → pairs (part ∷ parts) ≡ pair_of [] part ∷ pairs parts
unfolding pairs
at_plain part [] h = rw h
at_plain part (next ∷ parts) h = rw h

-- a prefix goes with the part after it
pub at_prefix : (part : List ℕ) (parts : List (List ℕ)) → is_prefix part ≡ true → left_of (Some part) parts ≡ pairs (part ∷ parts)
unfolding pairs
at_prefix part [] h = rw h
at_prefix part (next ∷ parts) h = rw h

-- no part is left
left_none : (pending : Option (List ℕ)) → left_of pending [] ≡ []
unfolding pairs
left_none None = refl
left_none (Some prefix) = refl

-- the whole, one part further
pub goes_on : (items : List (Bor (List ℕ))) (at : ℕ) (d : Bor (List ℕ)) (done more all : List Pair) (pending next : Option (List ℕ)) → at < length items → ((rest : List (List ℕ)) → more ++ left_of next rest ≡ done ++ left_of pending ((get_or items at d).now ∷ rest)) → done ++ left_of pending (texts (drop at items)) ≡ all → more ++ left_of next (texts (drop (at + 1) items)) ≡ all
goes_on items at d done more all pending next h step so_far =
    step (texts (drop (at + 1) items)) ∙ sym (at_drop_more (λ rest. done ++ left_of pending (texts rest)) items at d h) ∙ so_far

-- the whole, at the end
pub ends : (items : List (Bor (List ℕ))) (at : ℕ) (done all : List Pair) (pending : Option (List ℕ)) → length items ≤ at → done ++ left_of pending (texts (drop at items)) ≡ all → done ≡ all
ends items at done all pending h so_far =
    sym (append-nil done) ∙ ap (λ rest. done ++ rest) (sym (left_none pending))
    ∙ sym (at_drop_all (λ rest. done ++ left_of pending (texts rest)) items at h) ∙ so_far
