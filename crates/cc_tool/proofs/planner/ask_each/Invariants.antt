use Rattle.std.proofs.Common.{◌≡◌, ◌<◌, length, take}
use Rattle.cc_tool.specs.AsksAmong.{AsksAmong}
use Rattle.cc_host.specs.Part.{since}
use Rattle.cc_tool.specs.Own.{OnlyWithFiles, WordsUsed}
use Rattle.cc_tool.specs.Plans.{PlanAsks}
use Rattle.cc_tool.proofs.PlannerLemmas.{Quiet}
use Rattle.cc_tool.proofs.planner.ask_each.Given as goal

abbrev pub invariant-loop-question : goal.invariant-loop-question
invariant-loop-question g l = record {
  asks : AsksAmong g.W.World.steady g.W.World.answer l.dir (PlanAsks (g.P.Planner.plan l.planner)) (g.H.Host.log l.fn.host) (g.H.Host.log l.host) l.fn.answers l.answers;
  quiet : Quiet l.first l.answers (take l.question-index l.questions);
  start : l.question-index ≡ 0 → l.answers ≡ l.fn.answers;
  more : 0 < l.question-index → length l.fn.answers < length l.answers;
  bare : OnlyWithFiles (since (g.H.Host.log l.fn.host) (g.H.Host.log l.host));
  used : WordsUsed (since (g.H.Host.log l.fn.host) (g.H.Host.log l.host));
  patient : g.H.Host.patience l.host ≡ g.H.Host.patience l.fn.host;
}
