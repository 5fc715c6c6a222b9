use Rattle.std.proofs.Common.{◌≡◌, ◌<◌, ◌++◌, ◌∙◌, [], Some, None, length, get_or, sym, ap, arith}
use Rattle.std.specs.List.{slice_get}
use Rattle.std.proofs.lemmas.Grind.{common_steps}
use Rattle.std.proofs.lemmas.Option.{get_or_from_slice_get, slice_get_within}
use Rattle.std.proofs.lemmas.Result.{on_ok_weaker}
use Rattle.cc_run.specs.Forwarded.{ended_lines}
use Rattle.cc_run.specs.Hearing.{of_child, end_lines}
use Rattle.cc_run.proofs.HearingLemmas.{foreign_lines, ended_owed, ok_pair, end_none}
use Rattle.cc_run.proofs.wait.settle.Goals as goal

pub returns-in_default-end-clause-lines : goal.returns-in_default-end-clause-lines
returns-in_default-end-clause-lines g c =
    let f = end_lines c.args.batch.now.shows.now c.args.batch.now.warns (g.Q.Queue.plan c.args.queue.now).cmds c.in-Some.status in
    let none : of_child c.args.news.now.id f c.hear-heard.new.running.children ≡ [] = grind (arith, common_steps, c.in_default-end.ensures.own f) in
    ok_pair c.hear-heard.result c.hear-heard.ensures.children (c.hear-heard.ensures.lines c.args.batch.now.warns) (λ a b. foreign_lines c.args.batch.now.shows.now c.args.batch.now.warns (g.Q.Queue.plan c.args.queue.now).cmds c.args.running.now.children c.hear-heard.new.running.children c.args.news.now c.in-Some.status c.args.lines.now.items c.hear-heard.new.lines.items c.in-Some.is none a b)

pub returns-in_default-command-clause-lines : goal.returns-in_default-command-clause-lines
returns-in_default-command-clause-lines g c =
    let missing : slice_get (g.Q.Queue.plan c.args.queue.now).cmds c.in-Some-end.child.place ≡ None = grind (arith, common_steps) in
    foreign_lines c.args.batch.now.shows.now c.args.batch.now.warns (g.Q.Queue.plan c.args.queue.now).cmds c.args.running.now.children c.hear-heard.new.running.children c.args.news.now c.in-Some.status c.args.lines.now.items c.hear-heard.new.lines.items c.in-Some.is (c.in-Some-end.ensures.own (end_lines c.args.batch.now.shows.now c.args.batch.now.warns (g.Q.Queue.plan c.args.queue.now).cmds c.in-Some.status) ∙ end_none c.args.batch.now.shows.now c.args.batch.now.warns (g.Q.Queue.plan c.args.queue.now).cmds c.in-Some.status c.in-Some-end.child missing) c.in_ok-heard.ensures.children (c.in_ok-heard.ensures.lines c.args.batch.now.warns)

pub returns-clause-lines : goal.returns-clause-lines
returns-clause-lines g c =
    let its : slice_get (g.Q.Queue.plan c.args.queue.now).cmds c.in-Some-end.child.place ≡ Some c.in-Some-command.planned.now = grind (arith, common_steps) in
    let lt = slice_get_within (g.Q.Queue.plan c.args.queue.now).cmds c.in-Some-end.child.place c.in-Some-command.planned.now its in
    let at : get_or (g.Q.Queue.plan c.args.queue.now).cmds c.in-Some-end.child.place c.in-Some-command.planned.now ≡ c.in-Some-command.planned.now = get_or_from_slice_get (g.Q.Queue.plan c.args.queue.now).cmds c.in-Some-end.child.place c.in-Some-command.planned.now c.in-Some-command.planned.now its in
    on_ok_weaker c.push_end.result (λ d. ended_owed c.args.batch.now.shows.now c.args.batch.now.warns (g.Q.Queue.plan c.args.queue.now).cmds c.args.running.now.children c.hear-heard.new.running.children c.args.news.now c.in-Some.status c.in-Some-end.child c.in-Some-command.planned.now c.args.lines.now.items c.hear-heard.new.lines.items c.push_end.new.lines.items c.in-Some.is (c.in-Some-end.ensures.own (end_lines c.args.batch.now.shows.now c.args.batch.now.warns (g.Q.Queue.plan c.args.queue.now).cmds c.in-Some.status)) lt c.in_ok-heard.ensures.children (c.in_ok-heard.ensures.lines c.args.batch.now.warns) (d ∙ ap (λ q. c.hear-heard.new.lines.items ++ ended_lines c.args.batch.now.shows.now c.args.batch.now.warns q c.in-Some.status c.in-Some-end.child) (sym at))) c.push_end.ensures
