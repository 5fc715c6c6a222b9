use Rattle.std.proofs.Common.{rules, arith, refl}
use Rattle.std.proofs.lemmas.Grind.{common_steps}
use Rattle.cc_plan.proofs.PassBy.{by_ok}
use Rattle.cc_plan.proofs.HaltBy.{by_allowed, by_refused, by_unless, by_want}
use Rattle.cc_plan.specs.ArchivePlan.{with_flags}
use Rattle.cc_plan.proofs.archive.with_flags.Goals as goal

pub returns-in_err-check_look_up : goal.returns-in_err-check_look_up
unfolding with_flags
returns-in_err-check_look_up c = by_refused _ _ c.from_residual.result c.in_err-check_look_up.ensures.refused refl c.from_residual.ensures.1

pub returns-in_err-note_names : goal.returns-in_err-note_names
unfolding with_flags
returns-in_err-note_names c = by_unless c.in_ok-check_look_up.ensures.allowed (by_want _ _ c.from_residual-in_err-note_names.result c.in_err-note_names.ensures (first_of (search rules, cc, grind (arith, common_steps))) c.from_residual-in_err-note_names.ensures.1)

pub returns : goal.returns
unfolding with_flags
returns c = by_unless c.in_ok-check_look_up.ensures.allowed (by_ok _ _ c.in_ok-note_names.ensures (first_of (search rules, cc, grind (arith, common_steps))) (by_allowed refl))
