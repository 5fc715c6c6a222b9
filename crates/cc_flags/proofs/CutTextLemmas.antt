-- Texts that are cut: at the `-` signs at their end, at a needle, between white space.
use Rattle.std.proofs.Common.{◌≡◌, ◌≢◌, ℕ, zero, suc, ◌+◌, ◌-◌, ◌<◌, ◌≤◌, Bool, true, false, ◌&&◌, ◌||◌, nat_eq, List, [], ◌∷◌, ◌++◌, cond, map, length, take, drop, Some, None, refl, sym, ap, ◌∙◌, append_assoc, append-nil, ne_eqb, take-append-drop, length-take-le, codes, encode_utf8, arith}
use Rattle.std.specs.List.{starts_with, ends_with, list_any, filter, slice_split, onto_first}
use Rattle.std.specs.Char.{is_whitespace}
use Rattle.std.specs.Str.{encode_utf8_all}
use Rattle.std.specs.Str.Pattern.{LacksTextAt, FindsText}
use Rattle.std.proofs.lemmas.Slice.Eq.{starts_is, ends_is}
use Rattle.std.proofs.lemmas.Bool.Decides.{Decides-eqb}
use Rattle.std.proofs.lemmas.Grind.{common_steps}
use Rattle.std.proofs.lemmas.List.{length_push}
use Rattle.cc_text.specs.Cuts.{before_suffix}
use Rattle.cc_text.specs.Pieces.{has_bytes}
use Rattle.cc_flags.specs.Prefixes.{without_last_dashes}
use Rattle.cc_flags.specs.AndroidNames.{replaced_from, replaced}

-- what stands before a suffix, and the suffix, are the text
pub suffix_cut : (text suffix rest : List ℕ) → before_suffix text suffix ≡ Some rest → text ≡ rest ++ suffix
unfolding before_suffix
suffix_cut text suffix rest h = by_test (ends_with nat_eq text suffix) refl
  where
    by_test : (b : Bool) → ends_with nat_eq text suffix ≡ b → text ≡ rest ++ suffix
    by_test true e =
        let r : take (length text - length suffix) text ≡ rest = (let k = rw e at h in cc) in
        (ends_is Decides-eqb text suffix _ refl).0 e ∙ ap (λ t. t ++ suffix) r
    by_test false e = absurd (let k = rw e at h in cc)

pub suffix_lacks : (text suffix : List ℕ) → before_suffix text suffix ≡ None → (front : List ℕ) → text ≢ front ++ suffix
unfolding before_suffix
suffix_lacks text suffix h front is =
    let e : ends_with nat_eq text suffix ≡ true = (ends_is Decides-eqb text suffix _ refl).1 front is in
    let k = rw e at h in cc

dashes_more : (text : List ℕ) → without_last_dashes (text ++ 45 ∷ []) ≡ without_last_dashes text
unfolding without_last_dashes
dashes_more [] = refl
dashes_more (b ∷ text) = rw (dashes_more text) refl

no_dash_last : (text : List ℕ) → ((front : List ℕ) → text ≢ front ++ 45 ∷ []) → without_last_dashes text ≡ text
unfolding without_last_dashes
no_dash_last [] h = refl
no_dash_last (b ∷ []) h = let e : nat_eq b 45 ≡ false = ne_eqb b 45 (λ is. h [] (ap (λ x. x ∷ []) is)) in rw e refl
no_dash_last (b ∷ c ∷ text) h =
    let r : without_last_dashes (c ∷ text) ≡ c ∷ text = no_dash_last (c ∷ text) (λ front is. h (b ∷ front) (ap (λ t. b ∷ t) is)) in
    rw r (by_test (nat_eq b 45))
  where
    by_test : (x : Bool) → cond (x && false) [] (b ∷ c ∷ text) ≡ b ∷ c ∷ text
    by_test true = refl
    by_test false = refl

-- one `-` at the end is left out
pub dash_cut : (text rest : List ℕ) → before_suffix text (codes "-") ≡ Some rest → without_last_dashes text ≡ without_last_dashes rest
dash_cut text rest h = ap without_last_dashes (suffix_cut text (codes "-") rest h) ∙ dashes_more rest

pub dash_shorter : (text rest : List ℕ) → before_suffix text (codes "-") ≡ Some rest → length rest < length text
dash_shorter text rest h =
    let e : text ≡ rest ++ 45 ∷ [] = suffix_cut text (codes "-") rest h in
    let l : length (rest ++ 45 ∷ []) ≡ length rest + 1 = length_push rest 45 in
    rw (e, l) (omega arith)

-- without one the text stays
pub dash_none : (text : List ℕ) → before_suffix text (codes "-") ≡ None → without_last_dashes text ≡ text
dash_none text h = no_dash_last text (suffix_lacks text (codes "-") h)

-- ---- needles

past : (n : List ℕ) (needle to after : List ℕ) → replaced_from (length n) needle to (n ++ after) ≡ replaced_from zero needle to after
unfolding replaced_from
past [] needle to after = refl
past (b ∷ n) needle to after = past n needle to after

starts_at : (needle text : List ℕ) → starts_with nat_eq (needle ++ text) needle ≡ true
starts_at needle text = (starts_is Decides-eqb (needle ++ text) needle _ refl).1 text refl

starts_not : (needle text : List ℕ) → LacksTextAt needle text 0 → starts_with nat_eq text needle ≡ false
starts_not needle text lacks = by_test (starts_with nat_eq text needle) refl
  where
    by_test : (b : Bool) → starts_with nat_eq text needle ≡ b → starts_with nat_eq text needle ≡ false
    by_test true e = absurd (lacks _ ((starts_is Decides-eqb text needle _ refl).0 e))
    by_test false e = e

pub needle_cut : (needle to before after : List ℕ) → needle ≢ [] → ((i : ℕ) → i < length before → LacksTextAt needle (before ++ (needle ++ after)) i) → replaced needle to (before ++ (needle ++ after)) ≡ before ++ (to ++ replaced needle to after)
unfolding replaced_from
needle_cut [] to before after some lacks = absurd (some refl)
needle_cut (n ∷ ns) to [] after some lacks =
    let s : starts_with nat_eq (n ∷ (ns ++ after)) (n ∷ ns) ≡ true = starts_at (n ∷ ns) after in
    let l : length (n ∷ ns) - 1 ≡ length ns = omega arith in
    rw (s, l) (ap (λ t. to ++ t) (past ns (n ∷ ns) to after))
needle_cut (n ∷ ns) to (b ∷ before) after some lacks =
    let s : starts_with nat_eq (b ∷ (before ++ ((n ∷ ns) ++ after))) (n ∷ ns) ≡ false = starts_not (n ∷ ns) _ (lacks 0 (omega arith)) in
    rw s (ap (λ t. b ∷ t) (needle_cut (n ∷ ns) to before after some (λ i below. lacks (suc i) (omega arith))))

pub needle_none : (needle to text : List ℕ) → ((i : ℕ) → i ≤ length text → LacksTextAt needle text i) → replaced needle to text ≡ text
unfolding replaced_from
needle_none needle to [] lacks = refl
needle_none needle to (b ∷ text) lacks =
    let s : starts_with nat_eq (b ∷ text) needle ≡ false = starts_not needle _ (lacks 0 (omega arith)) in
    rw s (ap (λ t. b ∷ t) (needle_none needle to text (λ i below. lacks (suc i) (omega arith))))

-- ---- white space

-- the words of some pieces, where a word in work goes on in the first
abbrev pub words_after : List ℕ → List (List ℕ) → List (List ℕ)
words_after word [] = filter has_bytes (word ∷ [])
words_after word (piece ∷ pieces) = filter has_bytes ((word ++ encode_utf8_all piece) ∷ map encode_utf8_all pieces)

-- the words of what is left of a text, with a word in work
abbrev pub words_left : List ℕ → List ℕ → List (List ℕ)
words_left word cs = words_after word (slice_split is_whitespace cs)

filter_two : (word : List ℕ) (words : List (List ℕ)) → filter has_bytes (word ∷ words) ≡ filter has_bytes (word ∷ []) ++ filter has_bytes words
filter_two [] words = refl
filter_two (b ∷ word) words = grind (arith, common_steps)

afresh : (pieces : List (List ℕ)) → words_after [] pieces ≡ filter has_bytes (map encode_utf8_all pieces)
afresh [] = refl
afresh (piece ∷ pieces) = refl

blank_pieces : (word : List ℕ) (pieces : List (List ℕ)) → words_after word ([] ∷ pieces) ≡ filter has_bytes (word ∷ []) ++ words_after [] pieces
blank_pieces word pieces = ap (λ t. filter has_bytes (t ∷ map encode_utf8_all pieces)) (append-nil word) ∙ filter_two word (map encode_utf8_all pieces) ∙ ap (λ t. filter has_bytes (word ∷ []) ++ t) (sym (afresh pieces))

onto_pieces : (word : List ℕ) (c : ℕ) (pieces : List (List ℕ)) → words_after word (onto_first c pieces) ≡ words_after (word ++ encode_utf8 c) pieces
onto_pieces word c [] = ap (λ t. filter has_bytes (t ∷ [])) (ap (λ t. word ++ t) (append-nil (encode_utf8 c)))
onto_pieces word c (piece ∷ pieces) = ap (λ t. filter has_bytes (t ∷ map encode_utf8_all pieces)) (sym (append_assoc word (encode_utf8 c) (encode_utf8_all piece)))

pub blank_char : (word : List ℕ) (c : ℕ) (cs : List ℕ) → is_whitespace c ≡ true → words_left word (c ∷ cs) ≡ filter has_bytes (word ∷ []) ++ words_left [] cs
blank_char word c cs e = rw e (blank_pieces word (slice_split is_whitespace cs))

pub word_char : (word : List ℕ) (c : ℕ) (cs : List ℕ) → is_whitespace c ≡ false → words_left word (c ∷ cs) ≡ words_left (word ++ encode_utf8 c) cs
word_char word c cs e = rw e (onto_pieces word c (slice_split is_whitespace cs))

pub at_end : (word : List ℕ) → words_left word [] ≡ filter has_bytes (word ∷ [])
at_end word = ap (λ t. filter has_bytes (t ∷ [])) (append-nil word)

pub at_start : (cs : List ℕ) → words_left [] cs ≡ filter has_bytes (map encode_utf8_all (slice_split is_whitespace cs))
at_start cs = afresh (slice_split is_whitespace cs)

-- some element seen passes where some element passes by what is seen of it
pub list_any_map : {A B : Type 0} (see : A → B) (test : B → Bool) (xs : List A) → list_any (λ x. test (see x)) xs ≡ list_any test (map see xs)
list_any_map see test [] = refl
list_any_map see test (x ∷ xs) = ap (λ b. test (see x) || b) (list_any_map see test xs)

-- the text around a needle, as `split_once` has it
pub needle_at : (needle to text before after : List ℕ) (i j : ℕ) → needle ≢ [] → FindsText needle text (Some (i, j)) → before ≡ take i text → after ≡ drop j text → i ≤ length text → replaced needle to text ≡ before ++ (to ++ replaced needle to after)
needle_at needle to text before after i j some found b a within =
    let l : length (take i text) ≡ i = length-take-le i text within in
    let w : text ≡ take i text ++ (needle ++ drop j text) = sym (take-append-drop i text) ∙ ap (λ t. take i text ++ t) found.1.split in
    let cut = needle_cut needle to (take i text) (drop j text) some (λ k below rest e. found.0 k (omega (arith, l, below)) rest (ap (drop k) w ∙ e)) in
    ap (λ t. replaced needle to t) w ∙ cut ∙ rw (b, a) refl

pub shorter : (text after : List ℕ) (i j : ℕ) (needle : List ℕ) → needle ≢ [] → FindsText needle text (Some (i, j)) → length after + j ≡ length text → length after < length text
shorter text after i j [] some found l = absurd (some refl)
shorter text after i j (n ∷ ns) some found l = omega (arith, found.1.ends)
