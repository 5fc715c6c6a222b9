use Rattle.std.proofs.Common.{◌≡◌, ◌∙◌, ◌++◌, ◌∷◌, [], ℕ, List, ◌+◌, ◌<◌, ◌≤◌, length, drop, get_or, true, false, sym, ap, append_assoc, encode_utf8, arith}
use Rattle.std.proofs.lemmas.Iterator.{YieldsList-from_chars}
use Rattle.std.proofs.lemmas.List.{at_drop_more, at_drop_all, length_push}
use Rattle.std.proofs.lemmas.Iterator.Consumers.{YieldsList-turn, YieldsList-end}
use Rattle.std.specs.Char.{is_whitespace}
use Rattle.std.specs.List.{filter}
use Rattle.std.specs.Str.{chars}
use Rattle.cc_text.specs.Pieces.{has_bytes}
use Rattle.cc_flags.specs.Blanks.{white_words}
use Rattle.cc_flags.proofs.CutTextLemmas.{words_left, blank_char, word_char, at_end, at_start}
use Rattle.cc_flags.proofs.blanks.white_words.Goals as goal

-- after a blank
past_blank : (cs : List ℕ) (n c : ℕ) (word : List ℕ) (words after all : List (List ℕ)) → (n < length cs) × (c ≡ get_or cs n c) → is_whitespace c ≡ true → after ≡ words ++ filter has_bytes (word ∷ []) → words ++ words_left word (drop n cs) ≡ all → after ++ words_left [] (drop (n + 1) cs) ≡ all
past_blank cs n c word words after all t blank more so_far =
    ap (λ w. w ++ words_left [] (drop (n + 1) cs)) more ∙ append_assoc words _ _
    ∙ ap (λ w. words ++ w) (sym (blank_char word c (drop (n + 1) cs) blank))
    ∙ ap (λ x. words ++ words_left word (x ∷ drop (n + 1) cs)) t.1
    ∙ sym (at_drop_more (λ t. words ++ words_left word t) cs n c t.0)
    ∙ so_far

-- after a character of a word
past_char : (cs : List ℕ) (n c : ℕ) (word next : List ℕ) (words all : List (List ℕ)) → (n < length cs) × (c ≡ get_or cs n c) → is_whitespace c ≡ false → next ≡ word ++ encode_utf8 c → words ++ words_left word (drop n cs) ≡ all → words ++ words_left next (drop (n + 1) cs) ≡ all
past_char cs n c word next words all t blank more so_far =
    ap (λ w. words ++ words_left w (drop (n + 1) cs)) more
    ∙ ap (λ w. words ++ w) (sym (word_char word c (drop (n + 1) cs) blank))
    ∙ ap (λ x. words ++ words_left word (x ∷ drop (n + 1) cs)) t.1
    ∙ sym (at_drop_more (λ t. words ++ words_left word t) cs n c t.0)
    ∙ so_far

pub loop-c-preserved-then-is_whitespace : goal.loop-c-preserved-then-is_whitespace
loop-c-preserved-then-is_whitespace c =
    let t = YieldsList-turn (YieldsList-from_chars c.args.text.now c.utf8.text cc) c.loop-c.yielded _ c.loop-c.yielded_by _ _ c.in-Some.c c.in-Some.is c.next.ensures.steps in
    rw length_push (rw c.new-word-then-is_whitespace.ensures (past_blank (chars c.args.text.now) (length c.loop-c.yielded) c.in-Some.c _ _ _ _ t (cc) c.in_ok-push_nonempty.ensures c.loop-c.invariant))

pub loop-c-preserved : goal.loop-c-preserved
loop-c-preserved c =
    let t = YieldsList-turn (YieldsList-from_chars c.args.text.now c.utf8.text cc) c.loop-c.yielded _ c.loop-c.yielded_by _ _ c.in-Some.c c.in-Some.is c.next.ensures.steps in
    rw length_push (past_char (chars c.args.text.now) (length c.loop-c.yielded) c.in-Some.c _ _ _ _ t (cc) c.in_ok-push.ensures.ok c.loop-c.invariant)

-- at the end
finish : (cs : List ℕ) (n : ℕ) (word : List ℕ) (words after all : List (List ℕ)) → length cs ≤ n → after ≡ words ++ filter has_bytes (word ∷ []) → words ++ words_left word (drop n cs) ≡ all → after ≡ all
finish cs n word words after all t more so_far =
    more ∙ ap (λ w. words ++ w) (sym (at_end word)) ∙ sym (at_drop_all (λ t. words ++ words_left word t) cs n t) ∙ so_far

pub returns : goal.returns
unfolding white_words
returns c =
    let t = YieldsList-end (YieldsList-from_chars c.args.text.now c.utf8.text cc) c.loop-c.yielded _ c.loop-c.yielded_by _ _ c.in-None.is c.next.ensures.steps in
    finish (chars c.args.text.now) (length c.loop-c.yielded) _ _ _ _ (omega (arith, t.1)) c.in_ok-push_nonempty-2.ensures c.loop-c.invariant ∙ at_start (chars c.args.text.now)
