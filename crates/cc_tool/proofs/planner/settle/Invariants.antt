use Rattle.std.proofs.Common.{◌≡◌, ◌-◌, ◌^◌, length}
use Rattle.cc_tool.specs.AsksAmong.{AsksAmong}
use Rattle.cc_host.specs.Part.{since}
use Rattle.cc_tool.specs.Own.{OnlyWithFiles, WordsUsed}
use Rattle.cc_tool.specs.Plans.{PlanAsks}
use Rattle.cc_tool.proofs.planner.settle.Given as goal

abbrev pub invariant-loop-value : goal.invariant-loop-value
invariant-loop-value g l = record {
  asks : AsksAmong g.W.World.steady g.W.World.answer l.dir (PlanAsks (g.P.Planner.plan l.planner)) (g.H.Host.log l.fn.host) (g.H.Host.log l.host) l.fn.answers l.answers;
  bare : OnlyWithFiles (since (g.H.Host.log l.fn.host) (g.H.Host.log l.host));
  used : WordsUsed (since (g.H.Host.log l.fn.host) (g.H.Host.log l.host));
  patient : g.H.Host.patience l.host ≡ g.H.Host.patience l.fn.host;
}

abbrev pub decreases-loop-value : goal.decreases-loop-value
decreases-loop-value g l = 2 ^ 64 - length l.answers
