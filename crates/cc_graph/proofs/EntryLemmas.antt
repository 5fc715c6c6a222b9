-- Data of entries so far, and the nodes that they give.
use Rattle.std.proofs.Common.{◌≡◌, ℕ, suc, ◌≤◌, List, [], ◌∷◌, ◌++◌, map, length, Option, Some, None, Ok, arith, refl, sym, ap, ◌∙◌, take_all}
use Rattle.std.proofs.lemmas.List.{map-append, length-map}
use Rattle.json.specs.Token.{Token}
use Rattle.json.specs.Json.{parse_map, value}
use Rattle.serde_json.specs.Data.{Data, Items, no_items, item}
use Rattle.serde_json.specs.Read.{of_json, converted}
use Rattle.serde_json.specs.View.{view}
use Rattle.serde_json.specs.declared.value.Value.{Value}
use Rattle.cc_graph.specs.Entries.{IsEntry}
use Rattle.cc_graph.specs.Read.{Env, values, all_some, node_of, nodes_of, nodes_upto}
use Rattle.cc_graph.specs.declared.node.Node.{Node}
use Rattle.cc_graph.proofs.ReadLemmas.{all_there, few_bounded, nodes_read}

pub entry_read : (env : Env) (old new : List Token) (v : Value) (node : Node) → converted of_json (value 126 old) ≡ Some (view v, new) → Some node ≡ node_of env (view v) → IsEntry env old node new
entry_read env old new v node e is = (view v, e, sym is)

abbrev pub data_before : List Data → Items → Items
data_before [] rest = rest
data_before (d ∷ ds) rest = item d (data_before ds rest)

data_push : (ds : List Data) (d : Data) (rest : Items) → data_before ds (item d rest) ≡ data_before (ds ++ d ∷ []) rest
data_push [] d rest = refl
data_push (e ∷ ds) d rest = ap (item e) (data_push ds d rest)

-- no node yet
pub none_yet : (env : Env) (nodes : List Node) → nodes ≡ [] → map (node_of env) [] ≡ map Some nodes
none_yet env nodes e = ap (map Some) (sym e)

pub one_longer : {X : Type 0} (xs : List X) (x : X) → length (xs ++ x ∷ []) ≡ suc (length xs)
one_longer [] x = refl
one_longer (y ∷ xs) x = ap suc (one_longer xs x)

-- an entry more
pub one_more : (ds : List Data) (d : Data) (r : Option (Items × List Token)) → parse_map (data_before ds) (parse_map (item d) r) ≡ parse_map (data_before (ds ++ d ∷ [])) r
one_more ds d None = refl
one_more ds d (Some p) = ap (λ is. Some (is, p.1)) (data_push ds d p.0)

values_before : (ds : List Data) → values (data_before ds no_items) ≡ ds
values_before [] = refl
values_before (d ∷ ds) = ap (λ rest. d ∷ rest) (values_before ds)

-- and a node more
pub one_more_node : (env : Env) (ds : List Data) (d : Data) (nodes : List Node) (node : Node) → map (node_of env) ds ≡ map Some nodes → node_of env d ≡ Some node
    → map (node_of env) (ds ++ d ∷ []) ≡ map Some (nodes ++ node ∷ [])
one_more_node env ds d nodes node so_far is =
    map-append (node_of env) ds (d ∷ []) ∙ ap (λ l. l ++ node_of env d ∷ []) so_far ∙ ap (λ o. map Some nodes ++ o ∷ []) is ∙ sym (map-append Some nodes (node ∷ []))

same_size : (env : Env) (ds : List Data) (nodes : List Node) → map (node_of env) ds ≡ map Some nodes → length ds ≡ length nodes
same_size env ds nodes e = sym (length-map ds (node_of env)) ∙ ap length e ∙ length-map nodes Some

-- these are all
pub all_entries : (env : Env) (most : ℕ) (ds : List Data) (nodes : List Node) → map (node_of env) ds ≡ map Some nodes → length nodes ≤ most
    → nodes_upto env most (values (data_before ds no_items)) ≡ Ok nodes
all_entries env most ds nodes e few =
    let size = same_size env ds nodes e in
    let within : length ds ≤ most = omega (arith, size, few) in
    ap (nodes_upto env most) (values_before ds) ∙ few_bounded most (length ds) _ within ∙ ap (nodes_of env) (take_all most ds within) ∙ nodes_read env ds nodes (ap all_some e ∙ all_there nodes)
