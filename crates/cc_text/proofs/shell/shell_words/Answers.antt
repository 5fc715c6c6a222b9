use Rattle.std.proofs.Common.{◌≡◌, ℕ, ◌+◌, ◌<◌, ◌≤◌, arith, List, [], ◌∷◌, ◌++◌, Option, length, get_or, drop, sym, ap, ◌∙◌, append-nil}
use Rattle.std.proofs.lemmas.Iterator.{YieldsList-from_chars}
use Rattle.std.proofs.lemmas.List.{at_drop_more, at_drop_all, length_push}
use Rattle.std.proofs.lemmas.Iterator.Consumers.{YieldsList-turn, YieldsList-end}
use Rattle.std.specs.Str.{chars}
use Rattle.cc_text.specs.declared.shell.Mode.{Mode}
use Rattle.cc_text.specs.declared.shell.Mark.{Mark}
use Rattle.cc_text.specs.Shell.{step, marks, words_of, shell_words, ending}
use Rattle.cc_text.proofs.shell.shell_words.Goals as goal

-- the words so far and those of the rest, after one character more
more : (cs : List ℕ) (n c : ℕ) (mode : Mode) (p : Mark × Mode) (words after all : List (List ℕ)) (word next : Option (List ℕ)) → (n < length cs) × (c ≡ get_or cs n c) → p ≡ step mode c → ((ms : List Mark) → after ++ words_of ms next ≡ words ++ words_of (p.0 ∷ ms) word) → words ++ words_of (marks mode (drop n cs)) word ≡ all → after ++ words_of (marks p.1 (drop (n + 1) cs)) next ≡ all
unfolding marks
more cs n c mode p words after all word next t e h so_far =
    h (marks p.1 (drop (n + 1) cs))
    ∙ ap (λ (q : Mark × Mode). words ++ words_of (q.0 ∷ marks q.1 (drop (n + 1) cs)) word) e
    ∙ ap (λ x. words ++ words_of (marks mode (x ∷ drop (n + 1) cs)) word) t.1
    ∙ sym (at_drop_more (λ t. words ++ words_of (marks mode t) word) cs n c t.0)
    ∙ so_far

pub loop-c-preserved : goal.loop-c-preserved
loop-c-preserved c =
    let t = YieldsList-turn (YieldsList-from_chars c.args.s.now c.utf8.s cc) c.loop-c.yielded _ c.loop-c.yielded_by _ _ c.in-Some.c c.in-Some.is c.next.ensures.steps in
    rw length_push (more (chars c.args.s.now) (length c.loop-c.yielded) c.in-Some.c _ _ _ _ _ _ _ t c.step-mark.ensures c.in_ok-word.ensures c.loop-c.invariant)

-- the words, after the end
finish : (cs : List ℕ) (n : ℕ) (mode : Mode) (m : Mark) (words after all : List (List ℕ)) (word next : Option (List ℕ)) → length cs ≤ n → m ≡ ending mode → ((ms : List Mark) → after ++ words_of ms next ≡ words ++ words_of (m ∷ ms) word) → words ++ words_of (marks mode (drop n cs)) word ≡ all → after ≡ all
unfolding marks
finish cs n mode m words after all word next t e h so_far =
    sym (append-nil after) ∙ h []
    ∙ ap (λ q. words ++ words_of (q ∷ []) word) e
    ∙ sym (at_drop_all (λ t. words ++ words_of (marks mode t) word) cs n t)
    ∙ so_far

pub returns : goal.returns
unfolding shell_words
returns c =
    let t = YieldsList-end (YieldsList-from_chars c.args.s.now c.utf8.s cc) c.loop-c.yielded _ c.loop-c.yielded_by _ _ c.in-None.is c.next.ensures.steps in
    finish (chars c.args.s.now) (length c.loop-c.yielded) _ _ _ _ _ _ _ (omega (arith, t.1)) c.ending.ensures c.in_ok-apply.ensures c.loop-c.invariant
