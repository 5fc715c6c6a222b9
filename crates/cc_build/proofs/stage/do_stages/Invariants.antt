use Rattle.std.proofs.Common.{◌≡◌, ◌+◌, take}
use Rattle.cc_host.specs.Call.{part}
use Rattle.cc_run.specs.Keeping.{IsIdle}
use Rattle.cc_build.specs.Kept.{left_at, Aside}
use Rattle.cc_build.specs.Seen.{stages_seen}
use Rattle.cc_build.specs.Went.{terms, Went}
use Rattle.cc_build.proofs.stage.do_stages.Given as goal

-- the stages so far were done, one after another
abbrev pub invariant-loop-stage : goal.invariant-loop-stage
invariant-loop-stage g l =
    record {
      idle : IsIdle g.J.Jobs.fits g.J.Jobs.held l.jobs l.seat;
      total : g.J.Jobs.total l.seat ≡ g.J.Jobs.total l.fn.seat;
      aside : Aside g.H.Host.log g.H.Host.patience l.fn.host l.host;
      sum : l.turns.left + l.turns.used ≡ l.fn.turns.left + l.fn.turns.used;
      went : Went (terms l.reporting.shows (g.J.Jobs.total l.fn.seat) (g.H.Host.patience l.fn.host)) (stages_seen (take l.stage-index l.stages)) (part g.H.Host.log l.fn.host l.host) (left_at g.J.Jobs.faults g.J.Jobs.taken g.J.Jobs.load l.fn.turns l.fn.seat) (left_at g.J.Jobs.faults g.J.Jobs.taken g.J.Jobs.load l.turns l.seat);
    }
