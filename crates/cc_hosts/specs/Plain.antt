-- The log of a host in memory on which nothing was set.
use Rattle.std.specs.Prelude.{◌≡◌, List, Bool, true, false}
use Rattle.std.specs.List.{list_all}
use Rattle.cc_host.specs.Bench.{BenchSeen, IsPlain}
use Rattle.cc_host.specs.Given.{is_answered}
use Rattle.cc_host.specs.Status.{is_success}
use Rattle.cc_host.specs.declared.event.Event.{Event}
use Rattle.cc_host.specs.declared.event.Event.TheVariants.{Ended, Ran, Missing, Answered, Fault}

-- no call faults, no program is missing, each command ends with 0, and each question that was asked has an answer
abbrev pub is_plain : Event → Bool
is_plain (Ended id status) = is_success status
is_plain (Ran role cmd pipes status out err) = is_success status
is_plain (Missing role cmd) = false
is_plain (Answered question files outcome) = is_answered outcome
is_plain (Fault call why) = false
is_plain _ = true

abbrev pub IsPlainLog : List Event → Type 0
IsPlainLog log = list_all is_plain log ≡ true

-- nothing was set on the host for commands and for calls, and its log shows it
abbrev pub IsPlainHost : BenchSeen → Type 0
IsPlainHost host = IsPlain host × IsPlainLog host.log
