use Rattle.std.proofs.Common.{[]}
use Rattle.cc_host.specs.Part.{since}
use Rattle.cc_host.specs.declared.event.HostCall.TheVariants.{CurrentDir}
use Rattle.cc_build.proofs.Going.{part_is}
use Rattle.cc_command.proofs.EntryLaws.{faulted}
use Rattle.cc_command.proofs.database.find_folder.Goals as goal

pub returns-in-Err-clause-refused : goal.returns-in-Err-clause-refused
returns-in-Err-clause-refused g c =
    faulted CurrentDir [] c.in-Err.error (since (g.H.Host.log c.args.host.now) (g.H.Host.log c.current_dir.new.self)) c.of_host.result (g.H.Host.faults c.args.host.now) (g.H.Host.faults c.current_dir.new.self)
    (part_is (g.H.Host.log c.args.host.now) (g.H.Host.log c.current_dir.new.self) _ c.in-Err.ensures.adds) c.in-Err.ensures.cause c.of_host.ensures
