use Rattle.std.proofs.Common.{◌∙◌, ℕ, List, [], ◌∷◌, ◌++◌, ap, sym, rules}
use Rattle.std.specs.Ordering.{nat_cmp}
use Rattle.std.specs.BTreeMap.{get}
use Rattle.cc_host.specs.Question.{Answer}
use Rattle.cc_tool.specs.Digest.{question_digest}
use Rattle.cc_tool.proofs.PlacesLemmas.{grown}
use Rattle.cc_tool.proofs.entries.Entries.push.Goals as goal

pub invariant_of-self-2 : goal.invariant_of-self-2
invariant_of-self-2 c =
    let a : Answer = (c.in_ok-try_clone.field-0, c.args.verdict) in
    grown c.self.inside.list.items c.push_reserved.new.list.items a c.args.key.now.digest c.len-place.result
    (λ (d : ℕ). get nat_cmp c.self.inside.index d) (λ (d : ℕ). get nat_cmp c.add_place.new.index d)
    (c.push_reserved.ensures ∙ ap (λ (l : List Answer). l ++ a ∷ []) c.reserve.ensures.items)
    (c.args.key.now.digests ∙ ap question_digest (sym c.in_ok-try_clone.ensures)) (search rules) c.self.invariant c.in_ok-add_place.ensures.here c.in_ok-add_place.ensures.others
