use Rattle.cc_tool.specs.Family.{family, detection, settled_family}
use Rattle.cc_tool.proofs.PassLemmas.{pass_try}
use Rattle.cc_tool.proofs.family.family_with.Goals as goal

pub returns-in_err-detected : goal.returns-in_err-detected
unfolding family
returns-in_err-detected c = pass_try (detection c.args.path.now c.args.args.now c.args.vars.now) (settled_family c.args.path.now c.args.args.now c.args.vars.now) c.from_residual.result c.from_residual.ensures.1 c.in_err-detected.ensures
