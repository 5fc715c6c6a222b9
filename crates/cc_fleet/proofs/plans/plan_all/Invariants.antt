use Rattle.std.proofs.Common.{◌≡◌, ◌++◌, List, take}
use Rattle.cc_host.specs.Call.{part}
use Rattle.cc_build.specs.declared.planning.CompilePlan.{CompilePlan}
use Rattle.cc_fleet.specs.Fleet.{Gathers, PlansEach, members_seen, site}
use Rattle.cc_fleet.proofs.plans.plan_all.Given as goal

-- the members so far were planned, one after another, and these are their plans
abbrev pub invariant-loop-member : goal.invariant-loop-member
invariant-loop-member g l = record {
  patient : g.H.Host.patience l.host ≡ g.H.Host.patience l.fn.host;
  extends : g.H.Host.log l.host ≡ g.H.Host.log l.fn.host ++ part g.H.Host.log l.fn.host l.host;
  plans : List CompilePlan;
  gathers : Gathers l.joined plans;
  each : PlansEach (site g.W.World.steady g.W.World.answer (g.H.Host.patience l.fn.host)) (members_seen (take l.member-index l.members)) plans (part g.H.Host.log l.fn.host l.host);
}
