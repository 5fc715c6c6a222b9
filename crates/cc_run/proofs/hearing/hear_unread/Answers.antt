use Rattle.std.proofs.Common.{◌≡◌, ◌++◌, get_or, map, subst, sym, ◌∙◌, ap, arith}
use Rattle.std.specs.Prelude.{None}
use Rattle.std.specs.List.{slice_get}
use Rattle.std.specs.Option.{option_copied}
use Rattle.std.proofs.lemmas.List.{append-nil}
use Rattle.std.proofs.lemmas.Grind.{common_steps}
use Rattle.cc_run.specs.Children.{IsFirst, seat}
use Rattle.cc_run.specs.Forwarded.{emptied, unread_lines}
use Rattle.cc_run.specs.Hearing.{unread_at}
use Rattle.cc_run.specs.Run.{place_of}
use Rattle.cc_run.proofs.ChildLemmas.{first_at, first_given, none_at, none_of}
use Rattle.cc_run.proofs.hearing.hear_unread.Goals as goal

pub returns-in-None-clause-children : goal.returns-in-None-clause-children
returns-in-None-clause-children g c =
    let e : c.deref.result.now ≡ c.args.running.now.children = c.deref.ensures.value ∙ ap (λ k. k.children) c.running.view_is in
    sym (none_at c.args.id emptied c.args.running.now.children (subst (λ l. place_of c.args.id (map seat l) ≡ None) e c.in-None.ensures.0))

pub returns-in-None-clause-lines : goal.returns-in-None-clause-lines
returns-in-None-clause-lines g c =
    let e : c.deref.result.now ≡ c.args.running.now.children = c.deref.ensures.value ∙ ap (λ k. k.children) c.running.view_is in
    sym (ap (λ l. c.args.lines.now.items ++ l) (none_of c.args.id (unread_at c.args.shows.now (g.Q.Queue.plan c.args.queue.now).cmds) c.args.running.now.children (subst (λ l. place_of c.args.id (map seat l) ≡ None) e c.in-None.ensures.0)) ∙ append-nil c.args.lines.now.items)

pub returns-in_ok-take_unread-in-Some-clause-children : goal.returns-in_ok-take_unread-in-Some-clause-children
returns-in_ok-take_unread-in-Some-clause-children g c =
    let e : c.deref.result.now ≡ c.args.running.now.children = c.deref.ensures.value ∙ ap (λ k. k.children) c.running.view_is in
    let h = subst (λ l. IsFirst c.args.id l c.in-Some.at) e c.in-Some.ensures in
    let k = first_at c.args.id emptied c.args.running.now.children c.in-Some.at c.take_unread.new.child h in
    grind (arith, common_steps, k, c.in_ok-take_unread-in-Some.ensures.rest)

pub returns-in_ok-take_unread-in-Some-clause-lines : goal.returns-in_ok-take_unread-in-Some-clause-lines
returns-in_ok-take_unread-in-Some-clause-lines g c =
    let e : c.deref.result.now ≡ c.args.running.now.children = c.deref.ensures.value ∙ ap (λ k. k.children) c.running.view_is in
    let h = subst (λ l. IsFirst c.args.id l c.in-Some.at) e c.in-Some.ensures in
    let x : c.index_mut.result.now ≡ get_or c.args.running.now.children c.in-Some.at c.take_unread.new.child = grind (arith, common_steps, e, h.below) in
    let o : option_copied c.command-planned.result ≡ slice_get (g.Q.Queue.plan c.args.queue.now).cmds c.index_mut.result.now.place = grind (arith, common_steps, e, h.below) in
    first_given (λ o x. unread_lines c.args.shows.now o x) c.args.id (g.Q.Queue.plan c.args.queue.now).cmds c.args.running.now.children c.in-Some.at c.index_mut.result.now c.take_unread.new.child (option_copied c.command-planned.result) c.args.lines.now.items c.take_unread.new.lines.items h x o c.in_ok-take_unread-in-Some.ensures.lines
