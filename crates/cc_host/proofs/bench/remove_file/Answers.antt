use Rattle.std.proofs.Common.{rules, not, bytes_eq}
use Rattle.std.proofs.lemmas.Fn.{filter_same}
use Rattle.cc_host.proofs.bench.remove_file.Goals as goal

pub returns : goal.returns
returns c = filter_same _ (λ f. not (bytes_eq f c.args.path.now)) _ (λ x b f' k. search rules) _ _ c.retain.ensures.filtered
