use Rattle.std.proofs.Common.{◌∙◌}
use Rattle.cc_text.proofs.NumberLemmas.{parse_is_u32_of}
use Rattle.cc_text.proofs.numbers.u32_of.Goals as goal

pub returns : goal.returns
returns c = c.ok.ensures.value ∙ parse_is_u32_of c.args.text.now c.parse.result c.parse.ensures.value.0
