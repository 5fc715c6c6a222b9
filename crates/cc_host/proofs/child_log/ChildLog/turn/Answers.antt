use Rattle.std.proofs.Common.{◌≡◌, ◌∙◌, ap, subst, sym, map}
use Rattle.cc_host.specs.ChildLog.{ChildLogSeen, AreTold, live_of, news_of, left_by}
use Rattle.cc_host.proofs.NewsLemmas.{told_are, left_is, waits_turn}
use Rattle.cc_host.proofs.child_log.ChildLog.turn.Goals as goal

pub turn_told-requires : goal.turn_told-requires
turn_told-requires c =
    let same : c.self.inside.children.items ≡ c.args.self.now.children = ap (λ (s : ChildLogSeen). s.children) c.self.view_is in
    let told : c.in_ok-told.told.items ≡ map (news_of c.args.scripts.now) c.args.self.now.children = c.in_ok-told.ensures ∙ ap (map (news_of c.args.scripts.now)) (c.deref.ensures.value ∙ same) in
    subst (AreTold c.args.self.now.children) (sym told) (told_are c.args.scripts.now c.args.self.now.children)

pub returns-clause-children : goal.returns-clause-children
returns-clause-children c =
    let same : c.self.inside.children.items ≡ c.args.self.now.children = ap (λ (s : ChildLogSeen). s.children) c.self.view_is in
    let told : c.in_ok-told.told.items ≡ map (news_of c.args.scripts.now) c.args.self.now.children = c.in_ok-told.ensures ∙ ap (map (news_of c.args.scripts.now)) (c.deref.ensures.value ∙ same) in
    c.in_ok-news.ensures.children ∙ ap (left_by c.args.self.now.children) told ∙ left_is c.args.scripts.now c.args.self.now.children

pub returns-clause-waits : goal.returns-clause-waits
returns-clause-waits c =
    let same : c.self.inside.children.items ≡ c.args.self.now.children = ap (λ (s : ChildLogSeen). s.children) c.self.view_is in
    let told : c.in_ok-told.told.items ≡ map (news_of c.args.scripts.now) c.args.self.now.children = c.in_ok-told.ensures ∙ ap (map (news_of c.args.scripts.now)) (c.deref.ensures.value ∙ same) in
    waits_turn c.turn_told.new.self.log c.args.self.now.children c.args.scripts.now (c.in_ok-news.ensures.run ∙ ap (map live_of) (c.in_ok-news.ensures.children ∙ ap (left_by c.args.self.now.children) told ∙ left_is c.args.scripts.now c.args.self.now.children))
