use Rattle.std.proofs.Common.{inl}
use Rattle.cc_plan.proofs.LineLemmas.{since_none}
use Rattle.cc_run.specs.declared.error.RunError.TheVariants.{NoMemory}
use Rattle.cc_build.proofs.expand.expand_by.Goals as goal

pub returns-in-Err-clause-outcome : goal.returns-in-Err-clause-outcome
returns-in-Err-clause-outcome g c = (NoMemory, (inl (since_none (g.H.Host.log c.args.host.now)), inl c.from.ensures))
