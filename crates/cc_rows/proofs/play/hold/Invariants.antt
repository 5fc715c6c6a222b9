-- the seat stays one of the pool
use Rattle.cc_rows.proofs.play.hold.Given as goal

abbrev pub invariant-loop : goal.invariant-loop
invariant-loop g l = g.J.Jobs.fits l.jobs l.seat
