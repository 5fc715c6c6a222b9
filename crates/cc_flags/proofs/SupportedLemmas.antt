-- The words of an index, as a loop adds them.
use Rattle.std.proofs.Common.{◌≡◌, ℕ, ◌+◌, ◌<◌, List, Bool, true, false, ◌||◌, cond, take, length, slice_index_or, refl, sym, ap, ◌∙◌, bytes_eq}
use Rattle.std.specs.Cmp.Lexicographic.{nat_list_eq_equiv}
use Rattle.std.proofs.lemmas.List.Folds.{list_any_more}
use Rattle.cc_text.specs.Words.{is_among}

last : (b among : Bool) → cond b true among ≡ (among || b)
last true true = refl
last true false = refl
last false true = refl
last false false = refl

-- the first words, with the next one
pub among_more : (words : List (List ℕ)) (i : ℕ) (word text : List ℕ) → i < length words → word ≡ slice_index_or words i word → cond (bytes_eq word text) true (is_among (take i words) text) ≡ is_among (take (i + 1) words) text
among_more words i word text l e =
    last (bytes_eq word text) (is_among (take i words) text)
    ∙ ap (λ b. is_among (take i words) text || b) (nat_list_eq_equiv.symm word text ∙ ap (bytes_eq text) e)
    ∙ sym (list_any_more (bytes_eq text) words i word l)
