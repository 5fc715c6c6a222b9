-- How a command ended.
use Rattle.std.specs.Prelude.{zero, pos, Bool, true, false}
use Rattle.cc_host.specs.declared.event.Status.{Status}
use Rattle.cc_host.specs.declared.event.Status.TheVariants.{Code}

-- the end of a command that succeeded
abbrev pub is_success : Status → Bool
is_success (Code (pos zero)) = true
is_success _ = false
