use Rattle.std.proofs.Common.{◌≡◌, ◌++◌, ◌∷◌, [], ◌∙◌, ap, subst, sym, arith, List, length, filter, append_assoc}
use Rattle.std.specs.List.{flat_map}
use Rattle.std.proofs.lemmas.Grind.{common_steps}
use Rattle.cc_host.specs.Children.{IsNews}
use Rattle.cc_host.specs.ChildLog.{ChildLogSeen, AreRunning, AreTold, has_news, left_by}
use Rattle.cc_host.specs.Event.{apart, reported, turned}
use Rattle.cc_host.specs.Journal.{IsQuiet, JournalSeen}
use Rattle.cc_host.specs.declared.child.RunningChild.{RunningChild}
use Rattle.cc_host.specs.declared.event.Event.{Event}
use Rattle.cc_host.specs.declared.event.Event.TheVariants.{Turn}
use Rattle.cc_host.proofs.ChildLemmas.{told_count}
use Rattle.cc_host.proofs.NewsLemmas.{news_turn}
use Rattle.cc_host.proofs.TurnLemmas.{all_quiet, all_apart, alive_turn, said}
use Rattle.cc_host.proofs.child_log.ChildLog.turn_told.Goals as goal

pub left_by-requires : goal.left_by-requires
left_by-requires c =
    let same : c.self.inside.children.items ≡ c.args.self.now.children = ap (λ (s : ChildLogSeen). s.children) c.self.view_is in
    let are : AreTold c.self.inside.children.items c.args.told.items = subst (λ (l : List RunningChild). AreTold l c.args.told.items) (sym same) c.requires in
    ap length c.deref-2.ensures.value ∙ told_count c.self.inside.children.items c.args.told.items are ∙ ap length (sym c.deref.ensures.value)

pub note_all-requires-clause-quiet : goal.note_all-requires-clause-quiet
note_all-requires-clause-quiet c = subst IsQuiet (sym (c.in_ok-events.ensures ∙ ap (flat_map reported) c.deref-3.ensures.value)) (all_quiet c.args.told.items)

pub invariant_of-self-2 : goal.invariant_of-self-2
invariant_of-self-2 c =
    let same : c.self.inside.children.items ≡ c.args.self.now.children = ap (λ (s : ChildLogSeen). s.children) c.self.view_is in
    let are : AreTold c.self.inside.children.items c.args.told.items = subst (λ (l : List RunningChild). AreTold l c.args.told.items) (sym same) c.requires in
    let left : c.in_ok-left.left.items ≡ left_by c.self.inside.children.items c.args.told.items = c.in_ok-left.ensures.children ∙ ap (λ l. left_by l c.deref-2.result.now) c.deref.ensures.value ∙ ap (left_by c.self.inside.children.items) c.deref-2.ensures.value in
    let events : c.in_ok-events.events.items ≡ flat_map reported c.args.told.items = c.in_ok-events.ensures ∙ ap (flat_map reported) c.deref-3.ensures.value in
    let log : c.keep_children.new.self.log ≡ c.self.inside.journal.log ++ Turn 1 ∷ flat_map reported (filter has_news c.args.told.items) =
    ap (λ (j : JournalSeen). j.log) c.keep_children.ensures
    ∙ ap (λ (j : JournalSeen). j.log) c.note_all.ensures.same
    ∙ ap (λ (j : JournalSeen). j.log ++ flat_map apart c.in_ok-events.events.items) c.note_turn.ensures.same
    ∙ ap (λ (j : JournalSeen). (j.log ++ Turn 1 ∷ []) ++ flat_map apart c.in_ok-events.events.items) c.reserve.ensures.same
    ∙ ap (λ l. (c.self.inside.journal.log ++ Turn 1 ∷ []) ++ flat_map apart l) events
    ∙ ap (λ l. (c.self.inside.journal.log ++ Turn 1 ∷ []) ++ l) (all_apart c.args.told.items)
    ∙ append_assoc c.self.inside.journal.log (Turn 1 ∷ []) (flat_map reported c.args.told.items)
    ∙ ap (λ l. c.self.inside.journal.log ++ Turn 1 ∷ l) (sym (said c.args.told.items)) in
    let alive : AreRunning c.keep_children.new.self.log c.self.inside.next c.in_ok-left.left.items = subst (AreRunning c.keep_children.new.self.log c.self.inside.next) (sym left) (alive_turn c.self.inside.journal.log c.keep_children.new.self.log c.self.inside.next c.self.inside.children.items c.args.told.items are log c.self.invariant.alive) in
    record {
      alive = alive;
      kept = grind (arith, common_steps);
    }

pub returns-clause-run : goal.returns-clause-run
returns-clause-run c =
    let same : c.self.inside.children.items ≡ c.args.self.now.children = ap (λ (s : ChildLogSeen). s.children) c.self.view_is in
    let are : AreTold c.self.inside.children.items c.args.told.items = subst (λ (l : List RunningChild). AreTold l c.args.told.items) (sym same) c.requires in
    let left : c.in_ok-left.left.items ≡ left_by c.self.inside.children.items c.args.told.items = c.in_ok-left.ensures.children ∙ ap (λ l. left_by l c.deref-2.result.now) c.deref.ensures.value ∙ ap (left_by c.self.inside.children.items) c.deref-2.ensures.value in
    let events : c.in_ok-events.events.items ≡ flat_map reported c.args.told.items = c.in_ok-events.ensures ∙ ap (flat_map reported) c.deref-3.ensures.value in
    let log : c.keep_children.new.self.log ≡ c.self.inside.journal.log ++ Turn 1 ∷ flat_map reported (filter has_news c.args.told.items) =
    ap (λ (j : JournalSeen). j.log) c.keep_children.ensures
    ∙ ap (λ (j : JournalSeen). j.log) c.note_all.ensures.same
    ∙ ap (λ (j : JournalSeen). j.log ++ flat_map apart c.in_ok-events.events.items) c.note_turn.ensures.same
    ∙ ap (λ (j : JournalSeen). (j.log ++ Turn 1 ∷ []) ++ flat_map apart c.in_ok-events.events.items) c.reserve.ensures.same
    ∙ ap (λ l. (c.self.inside.journal.log ++ Turn 1 ∷ []) ++ flat_map apart l) events
    ∙ ap (λ l. (c.self.inside.journal.log ++ Turn 1 ∷ []) ++ l) (all_apart c.args.told.items)
    ∙ append_assoc c.self.inside.journal.log (Turn 1 ∷ []) (flat_map reported c.args.told.items)
    ∙ ap (λ l. c.self.inside.journal.log ++ Turn 1 ∷ l) (sym (said c.args.told.items)) in
    let alive : AreRunning c.keep_children.new.self.log c.self.inside.next c.in_ok-left.left.items = subst (AreRunning c.keep_children.new.self.log c.self.inside.next) (sym left) (alive_turn c.self.inside.journal.log c.keep_children.new.self.log c.self.inside.next c.self.inside.children.items c.args.told.items are log c.self.invariant.alive) in
    alive.run

pub returns-clause-log : goal.returns-clause-log
returns-clause-log c =
    let events : c.in_ok-events.events.items ≡ flat_map reported c.args.told.items = c.in_ok-events.ensures ∙ ap (flat_map reported) c.deref-3.ensures.value in
    let log : c.keep_children.new.self.log ≡ c.self.inside.journal.log ++ Turn 1 ∷ flat_map reported (filter has_news c.args.told.items) =
    ap (λ (j : JournalSeen). j.log) c.keep_children.ensures
    ∙ ap (λ (j : JournalSeen). j.log) c.note_all.ensures.same
    ∙ ap (λ (j : JournalSeen). j.log ++ flat_map apart c.in_ok-events.events.items) c.note_turn.ensures.same
    ∙ ap (λ (j : JournalSeen). (j.log ++ Turn 1 ∷ []) ++ flat_map apart c.in_ok-events.events.items) c.reserve.ensures.same
    ∙ ap (λ l. (c.self.inside.journal.log ++ Turn 1 ∷ []) ++ flat_map apart l) events
    ∙ ap (λ l. (c.self.inside.journal.log ++ Turn 1 ∷ []) ++ l) (all_apart c.args.told.items)
    ∙ append_assoc c.self.inside.journal.log (Turn 1 ∷ []) (flat_map reported c.args.told.items)
    ∙ ap (λ l. c.self.inside.journal.log ++ Turn 1 ∷ l) (sym (said c.args.told.items)) in
    log
    ∙ ap (λ (s : ChildLogSeen). s.log ++ Turn 1 ∷ flat_map reported (filter has_news c.args.told.items)) c.self.view_is
    ∙ ap (λ l. c.args.self.now.log ++ turned l) (sym c.keep_news.ensures)

pub returns-clause-news : goal.returns-clause-news
returns-clause-news c =
    let same : c.self.inside.children.items ≡ c.args.self.now.children = ap (λ (s : ChildLogSeen). s.children) c.self.view_is in
    let are : AreTold c.self.inside.children.items c.args.told.items = subst (λ (l : List RunningChild). AreTold l c.args.told.items) (sym same) c.requires in
    subst (λ (l : List Event). IsNews l c.keep_news.new.told.items) (ap (λ (s : ChildLogSeen). s.log) c.self.view_is) (subst (IsNews c.self.inside.journal.log) (sym c.keep_news.ensures) (news_turn c.self.inside.journal.log c.self.inside.next c.self.inside.children.items c.args.told.items are c.self.invariant.alive))
