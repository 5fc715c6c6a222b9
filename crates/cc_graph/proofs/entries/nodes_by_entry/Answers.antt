use Rattle.std.proofs.Common.{◌≡◌, [], ◌∷◌, length, Some, ap, ◌∙◌, arith}
use Rattle.json.specs.Token.{Token}
use Rattle.json.specs.Lex.{tokens}
use Rattle.json.specs.Json.{parse_map, items, value}
use Rattle.json.proofs.Grammar.{value-begin_array}
use Rattle.serde_json.specs.Data.{array}
use Rattle.serde_json.specs.Read.{of_json, converted}
use Rattle.cc_graph.proofs.TokenLemmas.{converted-array, whole_read}
use Rattle.cc_graph.specs.Read.{value_nodes}
use Rattle.cc_graph.proofs.entries.nodes_by_entry.Goals as goal

pub returns : goal.returns
returns c =
    let ts = c.next.new.self in
    let r = c.entries.new.reader in
    let found = c.in_ok-nodes.ensures in
    let first : tokens c.args.text.now ≡ Token.begin_array ∷ ts = grind arith in
    let last : r ≡ [] = grind arith in
    let opened = ap (converted of_json) (ap (value 127) first ∙ value-begin_array 127 ts (omega arith)) ∙ converted-array (items (value 126) (length ts) ts) in
    let whole : converted of_json (value 127 (tokens c.args.text.now)) ≡ Some (array found.0, []) =
    opened ∙ ap (parse_map array) found.1 ∙ ap (λ rest. Some (array found.0, rest)) last in
    ap (value_nodes c.args.vars.now c.args.most) (whole_read (value 127 (tokens c.args.text.now)) (array found.0) whole) ∙ found.2
