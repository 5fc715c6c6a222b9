use Rattle.std.proofs.Common.{◌≡◌, ℕ, ◌+◌, ◌<◌, ◌≤◌, arith, List, ◌++◌, length, get_or, drop, flat_map, encode_utf8, sym, ap, ◌∙◌, append_assoc, append-nil}
use Rattle.std.proofs.lemmas.Iterator.{YieldsList-from_chars}
use Rattle.std.proofs.lemmas.List.{at_drop_more, at_drop_all, length_push}
use Rattle.std.proofs.lemmas.Iterator.Consumers.{YieldsList-turn, YieldsList-end}
use Rattle.std.specs.Str.{chars}
use Rattle.cc_env.specs.Names.{underscore}
use Rattle.cc_env.proofs.NameLemmas.{underscored_chars}
use Rattle.cc_env.proofs.names.underscored.Goals as goal

abbrev changed : ℕ → List ℕ
changed c = encode_utf8 (underscore c)

-- the text so far and the rest, after one character more
more : (cs : List ℕ) (n c d : ℕ) (text after all : List ℕ) → (n < length cs) × (c ≡ get_or cs n c) → d ≡ underscore c → after ≡ text ++ encode_utf8 d → text ++ flat_map changed (drop n cs) ≡ all → after ++ flat_map changed (drop (n + 1) cs) ≡ all
more cs n c d text after all t is e so_far =
    ap (λ x. x ++ flat_map changed (drop (n + 1) cs)) (e ∙ ap (λ x. text ++ encode_utf8 x) is)
    ∙ append_assoc text (changed c) (flat_map changed (drop (n + 1) cs))
    ∙ ap (λ x. text ++ (changed x ++ flat_map changed (drop (n + 1) cs))) t.1
    ∙ sym (at_drop_more (λ rest. text ++ flat_map changed rest) cs n c t.0)
    ∙ so_far

pub loop-c-preserved : goal.loop-c-preserved
loop-c-preserved c =
    let t = YieldsList-turn (YieldsList-from_chars c.args.text.now c.utf8.text cc) c.loop-c.yielded _ c.loop-c.yielded_by _ _ c.in-Some.c c.in-Some.is c.next.ensures.steps in
    rw length_push (more (chars c.args.text.now) (length c.loop-c.yielded) c.in-Some.c c.underscore.result _ _ _ t c.underscore.ensures c.in_ok-push.ensures.ok c.loop-c.invariant)

-- the whole text, after the end
finish : (cs : List ℕ) (n : ℕ) (text : List ℕ) → length cs ≤ n → text ++ flat_map changed (drop n cs) ≡ flat_map changed cs → text ≡ flat_map changed cs
finish cs n text t so_far = sym (append-nil text) ∙ sym (at_drop_all (λ rest. text ++ flat_map changed rest) cs n t) ∙ so_far

pub returns : goal.returns
returns c =
    let t = YieldsList-end (YieldsList-from_chars c.args.text.now c.utf8.text cc) c.loop-c.yielded _ c.loop-c.yielded_by _ _ c.in-None.is c.next.ensures.steps in
    finish (chars c.args.text.now) (length c.loop-c.yielded) c.loop-c.out (omega (arith, t.1)) c.loop-c.invariant
    ∙ sym (underscored_chars c.args.text.now c.utf8.text)
