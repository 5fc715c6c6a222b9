use Rattle.std.proofs.Common.{◌≡◌, ◌+◌, ◌++◌, get_or, take, sym, ◌∙◌, ap, subst, arith}
use Rattle.std.specs.List.{flat_map}
use Rattle.std.specs.Prelude.{OnOk}
use Rattle.std.proofs.lemmas.Grind.{common_steps}
use Rattle.cc_host.specs.Event.{reported}
use Rattle.cc_run.specs.Children.{run_of}
use Rattle.cc_run.specs.Hearing.{owed_from}
use Rattle.cc_run.specs.Run.{ended_run, run_from}
use Rattle.cc_run.specs.Seat.{seen_by}
use Rattle.cc_run.proofs.HearingLemmas.{ok_both, ok_three, more_children, more_lines}
use Rattle.cc_run.proofs.Runs.{news_run}
use Rattle.cc_run.proofs.WorkLemmas.{returned_then}
use Rattle.cc_run.proofs.wait.settle_all.Goals as goal

pub loop-item-preserved : goal.loop-item-preserved
loop-item-preserved g c =
    let i = c.loop-item.item-index in
    let n = c.item-item.result in
    let cs = c.args.running.now.children in
    let news = c.args.news.now in
    let at : n ≡ get_or news i n = grind (arith, common_steps) in
    let inv = c.loop-item.invariant in
    let one = c.settle-one.ensures in
    let lines : OnOk c.settle-one.result (c.settle-one.new.lines.items ≡ c.loop-item.lines.items ++ owed_from c.args.batch.now.shows.now c.args.batch.now.warns (g.Q.Queue.plan c.args.queue.now).cmds c.loop-item.running.children (reported n)) =
    subst (λ p. OnOk c.settle-one.result (c.settle-one.new.lines.items ≡ c.loop-item.lines.items ++ owed_from c.args.batch.now.shows.now c.args.batch.now.warns p.cmds c.loop-item.running.children (reported n))) inv.plan one.lines in
    record {
      agrees = one.agrees;
      plan = one.plan ∙ inv.plan;
      seat = returned_then (seen_by g.J.Jobs.held g.J.Jobs.total g.J.Jobs.taken g.J.Jobs.load g.J.Jobs.faults c.args.seat.now) (seen_by g.J.Jobs.held g.J.Jobs.total g.J.Jobs.taken g.J.Jobs.load g.J.Jobs.faults c.loop-item.seat) (seen_by g.J.Jobs.held g.J.Jobs.total g.J.Jobs.taken g.J.Jobs.load g.J.Jobs.faults c.settle-one.new.seat) inv.seat one.seat;
      run = one.run ∙ ap (λ r. ended_run r n.id n.ended) inv.run ∙ ap (λ m. ended_run (run_from (g.Q.Queue.plan c.args.queue.now) (run_of c.args.running.now) (flat_map reported (take i news))) m.id m.ended) at ∙ sym (news_run (g.Q.Queue.plan c.args.queue.now) (run_of c.args.running.now) news i n c.loop-item-test.true);
      children = ok_both c.loop-item.done c.settle-one.result c.and-done.result c.and-done.ensures inv.children one.children (λ a b. more_children cs c.loop-item.running.children c.settle-one.new.running.children news i n c.loop-item-test.true at a b);
      lines = ok_three c.loop-item.done c.settle-one.result c.and-done.result c.and-done.ensures inv.children inv.lines lines (λ a b d. more_lines c.args.batch.now.shows.now c.args.batch.now.warns (g.Q.Queue.plan c.args.queue.now).cmds cs c.loop-item.running.children news i n c.args.lines.now.items c.loop-item.lines.items c.settle-one.new.lines.items c.loop-item-test.true at a b d);
    }
