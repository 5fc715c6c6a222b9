use Rattle.std.proofs.Common.{[]}
use Rattle.cc_tool.proofs.ProbingLemmas.{probes_folder, probes_then}
use Rattle.cc_tool.proofs.UsedLemmas.{part_of, used_last, used_since, used_refused}
use Rattle.cc_tool.proofs.probes.make_source.Goals as goal

pub returns-in-Ok-clause-makes : goal.returns-in-Ok-clause-makes
returns-in-Ok-clause-makes g c = λ from. probes_then (probes_folder from c.in-Ok.ensures.adds) (c.make_file.ensures.makes from)

pub returns-in-Ok-clause-used : goal.returns-in-Ok-clause-used
returns-in-Ok-clause-used g c = used_last (g.H.Host.log c.args.host.now) (g.H.Host.log c.make_dir.new.self) (g.H.Host.log c.make_file.new.host) c.make_file.result (_, c.in-Ok.ensures.adds) (part_of (c.make_file.ensures.makes [])) (used_since _ _ _ c.in-Ok.ensures.adds tt) c.make_file.ensures.used

pub returns-in-Err-Fault-clause-used : goal.returns-in-Err-Fault-clause-used
returns-in-Err-Fault-clause-used g c = used_since (g.H.Host.log c.args.host.now) (g.H.Host.log c.make_dir.new.self) _ c.in-Err-Fault.ensures.adds (used_refused c.in-Err-Fault.field-0)
