-- What the verdicts of a part rest on.
use Rattle.std.specs.Prelude.{◌≡◌, Bool, true, false, List, [], ◌∷◌}
use Rattle.cc_host.specs.declared.event.Event.{Event}
use Rattle.cc_host.specs.declared.event.Event.TheVariants.{Answered, Reused, Fault}
use Rattle.cc_host.specs.declared.event.HostCall.TheVariants.{Probe}
use Rattle.cc_host.specs.declared.question.Outcome.TheVariants.{Unanswered}
use Rattle.cc_tool.specs.Known.{MayKeep}

-- the command of a question couldn't be run
abbrev pub is_probe_fault : Event → Bool
is_probe_fault (Fault Probe why) = true
is_probe_fault _ = false

-- A question that was asked in vain stands right behind the fault of its command. A verdict from earlier is one that the caches keep.
abbrev pub IsFounded : Bool → Event → Type 0
IsFounded failed (Answered question files Unanswered) = failed ≡ true
IsFounded failed (Reused question verdict) = MayKeep question verdict
IsFounded failed _ = Unit {0}

-- so is each event of a part, of which is told whether such a fault stands right before it
abbrev pub Founded : Bool → List Event → Type 0
Founded failed [] = Unit {0}
Founded failed (event ∷ part) = IsFounded failed event × Founded (is_probe_fault event) part
