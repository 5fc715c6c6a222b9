use Rattle.std.proofs.Common.{◌∙◌, subst}
use Rattle.cc_fleet.specs.Clash.{NoClash}
use Rattle.cc_fleet.proofs.plans.check_files.Goals as goal

pub returns-clause-apart : goal.returns-clause-apart
returns-clause-apart g c = subst NoClash (c.as_slice-2.ensures.value ∙ c.in_ok-files.ensures) (rw c.in-None.is at c.in_ok-first.ensures)
