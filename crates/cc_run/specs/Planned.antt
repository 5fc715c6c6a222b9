-- What is asked of a host.
use Rattle.std.specs.Prelude.{List, map, ◌||◌}
use Rattle.cc_host.specs.Command.{CommandSeen}
use Rattle.cc_host.specs.declared.event.Role.{Role}
use Rattle.cc_host.specs.declared.event.Pipes.{Pipes}
use Rattle.cc_run.specs.declared.planned.Planned.{Planned}
use Rattle.cc_run.specs.declared.planned.Shows.{Shows}

-- a command that is asked for, with its role and its pipes
pub record Asked : Type 0 where
  pub role : Role
  pub cmd : CommandSeen
  pub pipes : Pipes

-- the standard error is heard where warnings are shown or the host listens
abbrev pub pipes_of : Shows → Pipes
pipes_of shows = record { out = shows.out; hear = shows.warnings || shows.listens }

abbrev pub asked_by : Shows → Planned → Asked
asked_by shows planned = record { role = planned.role; cmd = planned.cmd; pipes = pipes_of shows }

-- what a list of commands asks for
abbrev pub asked : Shows → List Planned → List Asked
asked shows cmds = map (asked_by shows) cmds
