use Rattle.std.proofs.Common.{rules}
use Rattle.std.proofs.lemmas.Fn.{filter_same}
use Rattle.cc_host.specs.ChildLog.{has_news}
use Rattle.cc_host.proofs.child_log.keep_news.Goals as goal

pub returns : goal.returns
returns c = filter_same _ has_news _ (λ x b f h. search rules) _ _ c.retain.ensures.filtered
