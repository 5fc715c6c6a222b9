use Rattle.std.proofs.Common.{Result, Err, List, sym, subst, refl}
use Rattle.cc_run.specs.declared.error.RunError.{RunError}
use Rattle.cc_run.specs.declared.mark.Mark.{Mark}
use Rattle.cc_fleet.specs.Run.{FailuresAfter}
use Rattle.cc_fleet.proofs.RunLemmas.{other_marks}
use Rattle.cc_fleet.proofs.run.failures_alone.Goals as goal

pub returns-in_default : goal.returns-in_default
returns-in_default c = subst (λ (m : Result (List Mark) RunError). FailuresAfter c.args.joined.now m (Err c.args.e)) (sym (other_marks c.args.e c.in_default.not-Failed)) refl
