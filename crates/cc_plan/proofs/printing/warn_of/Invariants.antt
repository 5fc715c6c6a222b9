use Rattle.std.proofs.Common.{◌≡◌, ◌++◌, take, [], false}
use Rattle.std.specs.List.{list_any}
use Rattle.cc_host.specs.Part.{IsWhole, since}
use Rattle.cc_tool.specs.Asked.{question_events}
use Rattle.cc_plan.specs.Asking.{is_of_children}
use Rattle.cc_plan.specs.Plan.{warned_steps}
use Rattle.cc_plan.proofs.printing.warn_of.Given as goal

-- the warnings so far were given, and nothing else was done
abbrev pub invariant-loop-text : goal.invariant-loop-text
invariant-loop-text g l = record {
  extends : g.H.Host.log l.host ≡ g.H.Host.log l.fn.host ++ since (g.H.Host.log l.fn.host) (g.H.Host.log l.host);
  whole : IsWhole (warned_steps l.set l.listens (take l.text-index l.text-items)) (since (g.H.Host.log l.fn.host) (g.H.Host.log l.host));
  silent : question_events (since (g.H.Host.log l.fn.host) (g.H.Host.log l.host)) ≡ [];
  childless : list_any is_of_children (since (g.H.Host.log l.fn.host) (g.H.Host.log l.host)) ≡ false;
  patient : g.H.Host.patience l.host ≡ g.H.Host.patience l.fn.host;
}
