use Rattle.cc_host.specs.Part.{since}
use Rattle.cc_host.specs.declared.event.HostCall.TheVariants.{Write}
use Rattle.cc_build.proofs.Going.{part_is}
use Rattle.cc_command.proofs.EntryLaws.{faulted}
use Rattle.cc_command.proofs.database.write_bytes.Goals as goal

pub returns-in-Err-clause-refused : goal.returns-in-Err-clause-refused
returns-in-Err-clause-refused g c =
    faulted Write c.args.path.now c.in-Err.error (since (g.H.Host.log c.args.host.now) (g.H.Host.log c.write_file.new.self)) c.of_host.result (g.H.Host.faults c.args.host.now) (g.H.Host.faults c.write_file.new.self)
    (part_is (g.H.Host.log c.args.host.now) (g.H.Host.log c.write_file.new.self) _ c.in-Err.ensures.adds) c.in-Err.ensures.cause c.of_host.ensures
