-- The reasons of faults.
use Rattle.std.specs.declared.io.ErrorKind.{ErrorKind}
use Rattle.std.specs.declared.io.ErrorKind.TheVariants.{NotFound as IsNotFound, PermissionDenied, AlreadyExists}
use Rattle.cc_host.specs.declared.event.Why.{Why}
use Rattle.cc_host.specs.declared.event.Why.TheVariants.{NotFound, Denied, Exists, Other}

-- the reason of a failure of the machine, by its kind
abbrev pub why_of : ErrorKind → Why
why_of IsNotFound = NotFound
why_of PermissionDenied = Denied
why_of AlreadyExists = Exists
why_of _ = Other
