-- What the fields of an error are seen as.
use Rattle.std.specs.Prelude.{Option, Some, None}
use Rattle.cc_build.specs.declared.error.Error.TheInside.{Inside}
use Rattle.cc_build.specs.declared.error.Details.{Details}
use Rattle.cc_build.specs.Error.{ErrorSeen, no_memory}

abbrev pub seen_of : Option Details → ErrorSeen
seen_of None = no_memory
seen_of (Some details) = record { kind = details.kind; subject = details.subject; message = details.message }

abbrev pub seen : Inside → ErrorSeen
seen e = seen_of e.details
