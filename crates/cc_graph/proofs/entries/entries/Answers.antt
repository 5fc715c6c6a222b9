use Rattle.std.proofs.Common.{◌≡◌, ◌-◌, ◌<◌, [], ◌∷◌, ◌++◌, length, Some, None, sym, ap, ◌∙◌, arith, suc, map}
use Rattle.json.specs.Json.{parse_map, after_end_array, items, value}
use Rattle.serde_json.specs.Data.{no_items}
use Rattle.serde_json.specs.Read.{of_items, converted}
use Rattle.cc_graph.proofs.TokenLemmas.{item_read, items_over, none_before}
use Rattle.cc_graph.proofs.EntryLemmas.{data_before, none_yet, one_longer, one_more, one_more_node, all_entries}
use Rattle.cc_graph.proofs.entries.entries.Goals as goal

pub entries-init : goal.entries-init
entries-init c =
    let all = converted of_items (items (value 126) (length c.args.reader.now) c.args.reader.now) in
    let none : c.new-nodes.result.items ≡ [] = c.new-nodes.ensures.items in
    (length c.args.reader.now, omega arith, [], none_before all, none_yet c.args.vars.now _ none, rw none (omega arith))

pub entries-preserved : goal.entries-preserved
entries-preserved c =
    let p = value 126 in
    let l = c.entries in
    let n = l.invariant.0 in
    let ds = l.invariant.2 in
    let going : (after_end_array l.reader ≡ None) × (c.take_end_array.new.self ≡ l.reader) = grind arith in
    let done = c.in_ok-node.ensures in
    let d = done.ok.0 in
    let node = c.in_ok-node.node in
    let r = c.entry.new.reader in
    let less : length r < length l.reader = rw (← going.1) done.shorter in
    let turn = item_read p n l.reader r d (omega (arith, l.invariant.1)) going.0 (rw (← going.1) done.ok.1) in
    let pushed = c.in_ok-push.ensures.items in
    let room : length l.nodes.items < c.args.most = grind arith in
    let size : length c.push.new.self.items ≡ suc (length l.nodes.items) = ap length pushed ∙ one_longer l.nodes.items node in (
      n - 1,
      omega (arith, l.invariant.1),
      ds ++ d ∷ [],
      l.invariant.3 ∙ ap (parse_map (data_before ds)) turn ∙ one_more ds d _,
      one_more_node c.args.vars.now ds d l.nodes.items node l.invariant.4 done.ok.2 ∙ ap (map Some) (sym pushed),
      omega (arith, size, room),
    )

pub returns : goal.returns
returns c =
    let p = value 126 in
    let l = c.entries in
    let n = l.invariant.0 in
    let ds = l.invariant.2 in
    let r = c.take_end_array.new.self in (
      data_before ds no_items,
      l.invariant.3 ∙ ap (parse_map (data_before ds)) (items_over p n l.reader r l.invariant.1 (grind arith)),
      all_entries c.args.vars.now c.args.most ds l.nodes.items l.invariant.4 l.invariant.5,
    )
