use Rattle.std.proofs.Common.{◌∙◌}
use Rattle.cc_flags.proofs.PredefineLemmas.{parse_is_i32_of}
use Rattle.cc_flags.proofs.words.predefine.i32_of.Goals as goal

pub returns : goal.returns
returns c = c.ok.ensures.value ∙ parse_is_i32_of c.args.text.now c.parse.result c.parse.ensures.value.0
