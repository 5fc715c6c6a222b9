use Rattle.std.proofs.Common.{inl}
use Rattle.std.proofs.lemmas.Result.{err_from_is_err_and}
use Rattle.cc_host.specs.Part.{since}
use Rattle.cc_build.proofs.Outcomes.{captured}
use Rattle.cc_build.proofs.build.Build.capture.Goals as goal

pub returns-in_err-vars-clause-outcome : goal.returns-in_err-vars-clause-outcome
returns-in_err-vars-clause-outcome g c = let p = err_from_is_err_and c.from_residual.result c.from_residual.ensures.1 in rw (p.1, p.2) (inl c.in_err-vars.ensures.outcome)

pub returns-clause-outcome : goal.returns-clause-outcome
returns-clause-outcome g c = captured (since (g.H.Host.log c.args.host.now) (g.H.Host.log c.list_vars.new.host)) c.set_envs_snapshot.result c.in_ok-vars.ensures.outcome c.set_envs_snapshot.ensures.refused
