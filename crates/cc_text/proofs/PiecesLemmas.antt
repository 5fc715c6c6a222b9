-- How the words between blanks go on.
use Rattle.std.proofs.Common.{◌≡◌, ℕ, suc, ◌<◌, ◌≤◌, List, [], ◌∷◌, ◌++◌, true, false, Option, Some, None, Bor, length, get_or, refl, sym, ap, subst, ⊎_elim, ◌∙◌, arith, append-nil, lt-ltb}
use Rattle.std.specs.Char.{is_ascii_whitespace}
use Rattle.std.specs.List.{All, AllPass, filter}
use Rattle.std.specs.Str.{NoCharPasses}
use Rattle.std.specs.Str.Iter.{CutsAsciiWord, IsAsciiSeparator}
use Rattle.std.proofs.lemmas.Bool.{cond-true, cases_lt}
use Rattle.std.proofs.lemmas.Bool.Decides.{nat_tests}
use Rattle.std.proofs.lemmas.List.{get_or_default}
use Rattle.std.proofs.lemmas.List.Splits.{slice_split-cons_yes, slice_split_none, slice_split_at}
use Rattle.std.proofs.lemmas.Str.{NoCharPasses-byte}
use Rattle.cc_text.specs.Pieces.{ascii_words, has_bytes}

past_ascii : (b : ℕ) → 128 ≤ b → is_ascii_whitespace b ≡ false
past_ascii b l = grind (arith, nat_tests)

byte_by_size : (word : List ℕ) → NoCharPasses is_ascii_whitespace word → (k : ℕ) → k < length word → is_ascii_whitespace (get_or word k 0) ≡ false
byte_by_size word h k l = ⊎_elim (λ small. NoCharPasses-byte is_ascii_whitespace word k h l small) (λ large. past_ascii (get_or word k 0) large) (cases_lt (get_or word k 0) 128)

no_blank : (word : List ℕ) → NoCharPasses is_ascii_whitespace word → All (λ b. is_ascii_whitespace b ≡ false) word
no_blank word h = λ k d l. subst (λ b. is_ascii_whitespace b ≡ false) (get_or_default word k 0 d l) (byte_by_size word h k l)

past_gap : (gap t : List ℕ) → AllPass is_ascii_whitespace gap → ascii_words (gap ++ t) ≡ ascii_words t
unfolding ascii_words
past_gap [] t h = refl
past_gap (b ∷ gap) t h =
    ap (filter has_bytes) (slice_split-cons_yes is_ascii_whitespace b (gap ++ t) (h 0 b (omega arith)))
    ∙ past_gap gap t (λ k d l. h (suc k) d (omega arith))

word_last : (word : List ℕ) → 0 < length word → All (λ b. is_ascii_whitespace b ≡ false) word → ascii_words word ≡ word ∷ []
unfolding ascii_words
word_last word l h = ap (filter has_bytes) (slice_split_none is_ascii_whitespace word h) ∙ cond-true _ _ _ (lt-ltb 0 (length word) l)

word_first : (word : List ℕ) (blank : ℕ) (t : List ℕ) → 0 < length word → All (λ b. is_ascii_whitespace b ≡ false) word → is_ascii_whitespace blank ≡ true → ascii_words (word ++ blank ∷ t) ≡ word ∷ ascii_words t
unfolding ascii_words
word_first word blank t l h b = ap (filter has_bytes) (slice_split_at is_ascii_whitespace word blank t h b) ∙ cond-true _ _ _ (lt-ltb 0 (length word) l)

no_text : ascii_words [] ≡ []
unfolding ascii_words
no_text = refl

word_and_rest : (word sep rest : List ℕ) → 0 < length word → All (λ b. is_ascii_whitespace b ≡ false) word → IsAsciiSeparator sep rest → ascii_words (word ++ (sep ++ rest)) ≡ word ∷ ascii_words rest
word_and_rest word [] [] l h s = ap ascii_words (append-nil word) ∙ word_last word l h ∙ ap (λ t. word ∷ t) (sym no_text)
word_and_rest word [] (b ∷ rest) l h s = let e : length (b ∷ rest) ≡ 0 = s.2 refl in absurd (omega arith)
word_and_rest word (blank ∷ []) rest l h s = word_first word blank rest l h (s.0 0 blank (omega arith))
word_and_rest word (blank ∷ other ∷ sep) rest l h s = let k : length (blank ∷ other ∷ sep) ≤ 1 = s.1 in absurd (omega arith)

pub next_word : (bs rest : List ℕ) (r : Option (Bor (List ℕ))) (word : Bor (List ℕ)) → r ≡ Some word → CutsAsciiWord bs r rest (λ gap x sep. gap ++ (x ++ (sep ++ rest))) → ascii_words bs ≡ word.now ∷ ascii_words rest
next_word bs rest r word e h =
    let k = rw e at h in
    rw k.3.2 (past_gap k.3.0 _ k.3.3 ∙ word_and_rest word.now k.3.1 rest k.0 (no_blank word.now k.1) k.3.4)

pub no_word : (bs rest : List ℕ) (r : Option (Bor (List ℕ))) → r ≡ None → CutsAsciiWord bs r rest (λ gap x sep. gap ++ (x ++ (sep ++ rest))) → ascii_words bs ≡ []
unfolding ascii_words
no_word bs rest r e h =
    let k = rw e at h in
    ap ascii_words (sym (append-nil bs)) ∙ past_gap bs [] k.0
