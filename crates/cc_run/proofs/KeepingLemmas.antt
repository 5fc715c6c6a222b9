-- Laws on what calls keep.
use Rattle.std.proofs.Common.{◌≡◌, ◌+◌, List, arith}
use Rattle.cc_host.specs.declared.event.Event.{Event}
use Rattle.cc_run.specs.Keeping.{TurnsMade}
use Rattle.cc_run.specs.Part.{turns}
use Rattle.cc_run.specs.declared.planned.Turns.{Turns as TurnsSeen}

-- one call after another
pub made_then : {old mid new : TurnsSeen} (all first second : List Event) → turns all ≡ turns first + turns second → TurnsMade old mid first → TurnsMade mid new second → TurnsMade old new all
made_then all first second both p q = record { left = omega (arith, both, p.left, q.left); used = omega (arith, both, p.used, q.used) }
