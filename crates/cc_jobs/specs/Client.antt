-- What the calls of a client in memory do to it, and which of them fault.
use Rattle.std.specs.Prelude.{ℕ, ◌+◌, ◌-◌, List, Bool, true, false, Result, Ok, Err, nat_eq}
use Rattle.std.specs.List.{list_any}
use Rattle.cc_jobs.specs.declared.jobs.JobFault.{JobFault}
use Rattle.cc_jobs.specs.declared.memory_client.MemoryClient.{MemoryClient}
use Rattle.cc_jobs.specs.Seats.{stands}

-- whether the nth call, from 1, is one of these
abbrev pub names : List ℕ → ℕ → Bool
names nths n = list_any (λ nth. nat_eq nth n) nths

-- a call for a token is counted, and so is its answer; a token that was taken is gone
abbrev pub after_acquire : MemoryClient → Result Bool JobFault → MemoryClient
after_acquire c (Ok true) = record c {
  asked = stands (c.asked + 1);
  tokens = c.tokens - 1;
  acquired = stands (c.acquired + 1);
}
after_acquire c (Ok false) = record c { asked = stands (c.asked + 1); empties = stands (c.empties + 1) }
after_acquire c (Err _) = record c { asked = stands (c.asked + 1); faults = stands (c.faults + 1) }

-- a call that gives a token is counted; the client has one token more where it didn't fault
abbrev pub after_release : MemoryClient → Result (Unit {0}) JobFault → MemoryClient
after_release c (Ok _) = record c { released = stands (c.released + 1); tokens = stands (c.tokens + 1) }
after_release c (Err _) = record c { released = stands (c.released + 1); faults = stands (c.faults + 1) }
