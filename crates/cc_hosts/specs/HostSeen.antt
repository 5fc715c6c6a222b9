-- The log of a host over the machine.
use Rattle.std.specs.Prelude.{ℕ, List, []}
use Rattle.cc_host.specs.declared.event.Event.{Event}

-- what a host over the machine is seen as: its log, and how often it failed
pub record HostSeen : Type 0 where
  pub log : List Event
  pub faults : ℕ

-- a host before its first call
abbrev pub fresh : HostSeen
fresh = record { log = []; faults = 0 }
