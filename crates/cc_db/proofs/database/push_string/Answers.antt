use Rattle.std.proofs.Common.{◌≡◌, ℕ, List, ◌++◌, codes, sym, ap, ◌∙◌, append_assoc, map-id}
use Rattle.std.specs.Str.{encode_utf8_all}
use Rattle.std.proofs.lemmas.Iterator.{YieldsList-from_chars}
use Rattle.std.proofs.lemmas.Iterator.Consumers.{YieldsList-end}
use Rattle.std.proofs.lemmas.Str.{encodes-chars}
use Rattle.cc_db.specs.Database.{escaped, string}
use Rattle.cc_db.proofs.EscapeLemmas.{more_escaped}
use Rattle.cc_db.proofs.database.push_string.Goals as goal

pub loop-c-preserved : goal.loop-c-preserved
loop-c-preserved c = more_escaped c.loop-c.text (c.args.text.now ++ codes "\"") c.loop-c.yielded c.in-Some.c c.push_escaped.new.text c.loop-c.invariant c.in_ok-push_escaped.ensures

-- the whole string, after the end
finish : (old text out s cs : List ℕ) → encode_utf8_all cs ≡ s → text ≡ (old ++ codes "\"") ++ escaped (encode_utf8_all cs) → out ≡ text ++ codes "\"" → out ≡ old ++ string s
unfolding string
finish old text out s cs all so_far e =
    e
    ∙ ap (λ x. x ++ codes "\"") (so_far ∙ ap (λ x. (old ++ codes "\"") ++ escaped x) all)
    ∙ append_assoc (old ++ codes "\"") (escaped s) (codes "\"")
    ∙ append_assoc old (codes "\"") (escaped s ++ codes "\"")

pub returns : goal.returns
returns c =
    let t = YieldsList-end (YieldsList-from_chars c.args.s.now c.utf8.s cc) c.loop-c.yielded _ c.loop-c.yielded_by _ _ c.in-None.is c.next.ensures.steps in
    finish c.args.text.now c.loop-c.text _ c.args.s.now c.loop-c.yielded (ap encode_utf8_all (sym (map-id c.loop-c.yielded) ∙ t.0) ∙ encodes-chars c.args.s.now c.utf8.s) c.loop-c.invariant c.in_ok-push_str-2.ensures.ok
