-- What a take from an inherited pool, and a give to it, do to the seat.
use Rattle.std.specs.Prelude.{ℕ, ◌+◌, ◌-◌, Result, Ok, Err}
use Rattle.cc_jobs.specs.declared.inherited.InheritedSeat.{InheritedSeat}
use Rattle.cc_jobs.specs.declared.jobs.JobFault.{JobFault}
use Rattle.cc_jobs.specs.declared.jobs.Take.{Take}
use Rattle.cc_jobs.specs.declared.jobs.Take.TheVariants.{Token, Pending}
use Rattle.cc_jobs.specs.Seats.{stands}

-- what a seat is after a take that answered so
abbrev pub after_take : InheritedSeat → Result Take JobFault → InheritedSeat
after_take s (Ok Token) = record s {
  held = s.held + 1;
  taken = stands (s.taken + 1);
  load = stands (s.load + (s.held + 1));
}
after_take s (Ok Pending) = record s { misses = stands (s.misses + 1) }
after_take s (Err _) = record s { faults = stands (s.faults + 1) }

-- what a seat is after a token was given back
abbrev pub after_give : InheritedSeat → InheritedSeat
after_give s = record s { held = s.held - 1; given = stands (s.given + 1) }
