use Rattle.std.proofs.Common.{◌∙◌, ap}
use Rattle.cc_host.specs.ChildLog.{ChildLogSeen}
use Rattle.cc_host.specs.Script.{was_met}
use Rattle.cc_host.proofs.ScriptLemmas.{met_apart}
use Rattle.cc_host.proofs.child_log.ChildLog.was_met.Goals as goal

pub returns : goal.returns
returns c = c.was_met.ensures ∙ met_apart c.args.after.now c.events.result.now ∙ ap (was_met c.args.after.now) (c.events.ensures.events ∙ ap (λ (s : ChildLogSeen). s.log) c.self.view_is)
