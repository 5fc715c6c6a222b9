-- Both tests compute to true over the whole table.
use Rattle.std.proofs.Common.{refl}
use Rattle.cc_target.specs.Targets.{lines}
use Rattle.cc_target.proofs.rows.table_is_sound.Goals as goal

pub returns-clause-apart : goal.returns-clause-apart
unfolding lines
returns-clause-apart c = refl

pub returns-clause-sound : goal.returns-clause-sound
unfolding lines
returns-clause-sound c = refl
