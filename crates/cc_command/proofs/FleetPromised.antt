-- What the answer to a fleet promises.
use Rattle.std.proofs.Common.{List}
use Rattle.cc_fleet.specs.Fleet.{MemberSeen}
use Rattle.cc_command.specs.Call.{Call}
use Rattle.cc_command.specs.FleetRules.{FleetPromises}
use Rattle.cc_command.specs.Fleets.{AnswersFleet}
use Rattle.cc_command.specs.declared.ended.Ended.{Ended}
use Rattle.cc_command.proofs.FleetCommands.{fleet_prefix}
use Rattle.cc_command.proofs.FleetFaults.{fleet_faults}
use Rattle.cc_command.proofs.FleetLaws.{fleet_built, fleet_told}
use Rattle.cc_command.proofs.FleetOrder.{fleet_order}

pub fleet_promises : (c : Call) (ms : List MemberSeen) (ended : Ended) → AnswersFleet c ms ended → FleetPromises c ms ended
fleet_promises c ms ended a = record {
  answer = a;
  built = fleet_built c ms ended a;
  told = fleet_told c ms ended a;
  order = fleet_order c ms ended a;
  faults = fleet_faults c ms ended a;
  prefix = fleet_prefix c ms ended a;
}
