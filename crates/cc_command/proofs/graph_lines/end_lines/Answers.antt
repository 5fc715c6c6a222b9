use Rattle.std.proofs.Common.{◌<◌, ◌++◌, ◌+◌, length, map, drop, Option, ◌∙◌, ap, append_assoc, arith}
use Rattle.cc_graph.specs.declared.ends.NodeEnd.{NodeEnd}
use Rattle.cc_command.specs.Database.{optional}
use Rattle.cc_command.specs.Graphed.{end_line, lines_from}
use Rattle.cc_command.proofs.GraphedLaws.{lines_next}
use Rattle.cc_command.proofs.graph_lines.end_lines.Goals as goal

pub loop-place-preserved : goal.loop-place-preserved
loop-place-preserved c =
    let i = c.loop-place.place in
    let rest = lines_from (i + 1) (drop (i + 1) c.args.ends.now) in
    let within : i < length c.args.ends.now = grind (arith, c.loop-place-test.true) in
    ap (λ l. l ++ rest) (c.in_ok-push_line.ensures ∙ ap (λ (o : Option NodeEnd). c.loop-place.lines ++ map (end_line i) (optional o)) c.get.ensures)
    ∙ append_assoc c.loop-place.lines (map (end_line i) (optional _)) rest ∙ ap (λ l. c.loop-place.lines ++ l) (lines_next c.args.ends.now i within) ∙ c.loop-place.invariant
