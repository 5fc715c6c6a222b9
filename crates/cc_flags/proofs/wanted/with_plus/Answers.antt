use Rattle.std.proofs.Common.{◌≡◌, ℕ, ◌+◌, ◌<◌, ◌≤◌, arith, List, ◌++◌, length, get_or, drop, flat_map, encode_utf8, sym, ap, ◌∙◌, append_assoc, append-nil}
use Rattle.std.proofs.lemmas.Iterator.{YieldsList-from_chars}
use Rattle.std.proofs.lemmas.List.{at_drop_more, at_drop_all, length_push}
use Rattle.std.proofs.lemmas.Iterator.Consumers.{YieldsList-turn, YieldsList-end}
use Rattle.std.specs.Str.{chars}
use Rattle.cc_flags.specs.Wanted.{plus_for_comma}
use Rattle.cc_flags.proofs.wanted.with_plus.Goals as goal

-- the text so far and the rest, after one character more
more : (f : ℕ → List ℕ) (cs : List ℕ) (n c : ℕ) (text after all : List ℕ) → (n < length cs) × (c ≡ get_or cs n c) → after ≡ text ++ f c → text ++ flat_map f (drop n cs) ≡ all → after ++ flat_map f (drop (n + 1) cs) ≡ all
more f cs n c text after all t e so_far =
    ap (λ x. x ++ flat_map f (drop (n + 1) cs)) e
    ∙ append_assoc text (f c) (flat_map f (drop (n + 1) cs))
    ∙ ap (λ x. text ++ (f x ++ flat_map f (drop (n + 1) cs))) t.1
    ∙ sym (at_drop_more (λ rest. text ++ flat_map f rest) cs n c t.0)
    ∙ so_far

pub loop-c-preserved : goal.loop-c-preserved
loop-c-preserved c =
    let t = YieldsList-turn (YieldsList-from_chars c.args.kinds.now c.utf8.kinds cc) c.loop-c.yielded _ c.loop-c.yielded_by _ _ c.in-Some.c c.in-Some.is c.next.ensures.steps in
    rw length_push (more (λ c. encode_utf8 (plus_for_comma c)) (chars c.args.kinds.now) (length c.loop-c.yielded) c.in-Some.c _ _ _ t (c.in_ok-push.ensures.ok ∙ ap (λ x. c.loop-c.text ++ encode_utf8 x) c.plus_for_comma.ensures) c.loop-c.invariant)

-- the whole text, after the end
finish : (f : ℕ → List ℕ) (cs : List ℕ) (n : ℕ) (text : List ℕ) → length cs ≤ n → text ++ flat_map f (drop n cs) ≡ flat_map f cs → text ≡ flat_map f cs
finish f cs n text t so_far = sym (append-nil text) ∙ sym (at_drop_all (λ rest. text ++ flat_map f rest) cs n t) ∙ so_far

pub returns : goal.returns
returns c =
    let t = YieldsList-end (YieldsList-from_chars c.args.kinds.now c.utf8.kinds cc) c.loop-c.yielded _ c.loop-c.yielded_by _ _ c.in-None.is c.next.ensures.steps in
    finish (λ c. encode_utf8 (plus_for_comma c)) (chars c.args.kinds.now) (length c.loop-c.yielded) _ (omega (arith, t.1)) c.loop-c.invariant
