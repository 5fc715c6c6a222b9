use Rattle.std.proofs.Common.{◌∙◌, Bor, List, ℕ}
use Rattle.cc_flags.specs.Wrappers.{is_same_name}
use Rattle.cc_flags.proofs.CutTextLemmas.{list_any_map}
use Rattle.cc_flags.proofs.wrappers.is_name_among.Goals as goal

pub returns : goal.returns
returns c = c.some_name_is.ensures ∙ list_any_map (λ (name : Bor (List ℕ)). name.now) (λ name. is_same_name c.args.stem.now name) c.args.names.now
