use Rattle.cc_tool.specs.Family.{detection, detected_by, shown, marks_in}
use Rattle.cc_tool.proofs.PassLemmas.{pass_try}
use Rattle.cc_tool.proofs.family.detection.Goals as goal

pub returns-in_err-first : goal.returns-in_err-first
unfolding detection
returns-in_err-first c = pass_try (shown c.args.path.now c.args.vars.now) (λ first. detected_by c.args.path.now c.args.args.now c.args.vars.now (marks_in first)) c.from_residual.result c.from_residual.ensures.1 c.in_err-first.ensures
