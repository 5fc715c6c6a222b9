use Rattle.std.proofs.Common.{◌≡◌, ◌+◌, ◌++◌, length, map, take, drop}
use Rattle.cc_host.specs.Children.{InOrder, running}
use Rattle.cc_run.specs.Children.{seat}
use Rattle.cc_run.specs.Run.{ids, gone}
use Rattle.cc_run.specs.Seat.{seen_by, Returned}
use Rattle.cc_run.proofs.all.drop_all.Given as goal

abbrev pub invariant-loop-child : goal.invariant-loop-child
invariant-loop-child g l = record {
  fits : g.J.Jobs.fits l.jobs l.seat;
  held : g.J.Jobs.held l.seat + l.child-index ≡ length l.child-items;
  returned : Returned (seen_by g.J.Jobs.held g.J.Jobs.total g.J.Jobs.taken g.J.Jobs.load g.J.Jobs.faults l.fn.seat) (seen_by g.J.Jobs.held g.J.Jobs.total g.J.Jobs.taken g.J.Jobs.load g.J.Jobs.faults l.seat);
  patient : g.H.Host.patience l.host ≡ g.H.Host.patience l.fn.host;
  adds : g.H.Host.log l.host ≡ g.H.Host.log l.fn.host ++ gone (map seat (take l.child-index l.child-items));
  own : InOrder (ids (map seat (drop l.child-index l.child-items))) (running (g.H.Host.log l.host));
}
