use Rattle.std.proofs.Common.{◌∙◌, ℕ, List, Bor, bytes_eq}
use Rattle.cc_text.proofs.AmongLemmas.{list_any_map}
use Rattle.cc_text.proofs.among.is_one_of.Goals as goal

pub returns : goal.returns
returns c =
    c.contains.ensures.value ∙ list_any_map (λ (name : Bor (List ℕ)). name.now) (λ name. bytes_eq name c.args.text.now) c.args.names.now
