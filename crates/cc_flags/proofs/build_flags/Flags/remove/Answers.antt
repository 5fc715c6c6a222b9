use Rattle.std.proofs.Common.{not, ◌∙◌, ap, arith}
use Rattle.std.proofs.lemmas.Fn.{filter_same}
use Rattle.std.proofs.lemmas.Grind.{common_steps}
use Rattle.cc_flags.specs.BuildFlags.{is_always, without}
use Rattle.cc_flags.proofs.build_flags.Flags.remove.Goals as goal

pub returns : goal.returns
unfolding without
returns c = filter_same _ (λ flag. not (is_always c.args.word.now flag)) _ (λ x b f h. grind (arith, common_steps, h)) _ _ c.retain.ensures.filtered ∙ ap (without c.args.word.now) c.self.view_is
