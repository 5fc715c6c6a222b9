use Rattle.std.proofs.Common.{◌≡◌, ℕ, ◌+◌, ◌<◌, ◌≤◌, arith, List, ◌++◌, length, get_or, drop, flat_map, codes, sym, ap, ◌∙◌, append_assoc, append-nil}
use Rattle.std.proofs.lemmas.Iterator.{YieldsList-from_chars}
use Rattle.std.proofs.lemmas.List.{at_drop_more, at_drop_all, length_push}
use Rattle.std.proofs.lemmas.Iterator.Consumers.{YieldsList-turn, YieldsList-end}
use Rattle.std.specs.Str.{chars}
use Rattle.cc_text.specs.Quoted.{quoted, quoted_char}
use Rattle.cc_text.proofs.quoting.quoted.Goals as goal

-- the text so far and the rest in quotes, after one character more
more : (cs : List ℕ) (n c : ℕ) (text after all : List ℕ) → (n < length cs) × (c ≡ get_or cs n c) → after ≡ text ++ quoted_char c → text ++ flat_map quoted_char (drop n cs) ≡ all → after ++ flat_map quoted_char (drop (n + 1) cs) ≡ all
more cs n c text after all t e so_far =
    ap (λ x. x ++ flat_map quoted_char (drop (n + 1) cs)) e
    ∙ append_assoc text (quoted_char c) (flat_map quoted_char (drop (n + 1) cs))
    ∙ ap (λ x. text ++ (quoted_char x ++ flat_map quoted_char (drop (n + 1) cs))) t.1
    ∙ sym (at_drop_more (λ rest. text ++ flat_map quoted_char rest) cs n c t.0)
    ∙ so_far

pub loop-c-preserved : goal.loop-c-preserved
loop-c-preserved c =
    let t = YieldsList-turn (YieldsList-from_chars c.args.s.now c.utf8.s cc) c.loop-c.yielded _ c.loop-c.yielded_by _ _ c.in-Some.c c.in-Some.is c.next.ensures.steps in
    rw length_push (more (chars c.args.s.now) (length c.loop-c.yielded) c.in-Some.c _ _ _ t c.in_ok-push_quoted.ensures c.loop-c.invariant)

-- the whole text, after the end
finish : (cs : List ℕ) (n : ℕ) (text out : List ℕ) → length cs ≤ n → text ++ flat_map quoted_char (drop n cs) ≡ codes "\"" ++ flat_map quoted_char cs → out ≡ text ++ codes "\"" → out ≡ codes "\"" ++ flat_map quoted_char cs ++ codes "\""
finish cs n text out t so_far e =
    e ∙ ap (λ x. x ++ codes "\"") (sym (append-nil text) ∙ sym (at_drop_all (λ rest. text ++ flat_map quoted_char rest) cs n t) ∙ so_far)

pub returns : goal.returns
unfolding quoted
returns c =
    let t = YieldsList-end (YieldsList-from_chars c.args.s.now c.utf8.s cc) c.loop-c.yielded _ c.loop-c.yielded_by _ _ c.in-None.is c.next.ensures.steps in
    finish (chars c.args.s.now) (length c.loop-c.yielded) _ _ (omega (arith, t.1)) c.loop-c.invariant c.in_ok-push_str.ensures.ok
