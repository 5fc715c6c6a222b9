use Rattle.std.proofs.Common.{◌∷◌, [], refl}
use Rattle.cc_host.specs.Part.{since}
use Rattle.cc_host.specs.Part.Step.{Prints}
use Rattle.cc_host.specs.declared.event.Event.TheVariants.{Printed}
use Rattle.cc_build.proofs.Going.{called, part_is}
use Rattle.cc_command.proofs.ShowLaws.{unshown}
use Rattle.cc_command.proofs.lines.print_bytes.Goals as goal

pub returns-in-Ok-clause-outcome : goal.returns-in-Ok-clause-outcome
returns-in-Ok-clause-outcome g c = λ t x. (
  refl,
  called t (Prints c.args.kind c.args.bytes.now) (Printed c.args.kind c.args.bytes.now) (since (g.H.Host.log c.args.host.now) (g.H.Host.log c.print.new.self)) x
      (part_is (g.H.Host.log c.args.host.now) (g.H.Host.log c.print.new.self) (Printed c.args.kind c.args.bytes.now ∷ []) c.in-Ok.ensures.adds) refl,
)

pub returns-in-Err-clause-outcome : goal.returns-in-Err-clause-outcome
returns-in-Err-clause-outcome g c = λ t x.
    unshown t c.args.kind c.args.bytes.now c.in-Err.error (since (g.H.Host.log c.args.host.now) (g.H.Host.log c.print.new.self)) c.of_host.result (g.H.Host.faults c.args.host.now) (g.H.Host.faults c.print.new.self) x
    (part_is (g.H.Host.log c.args.host.now) (g.H.Host.log c.print.new.self) _ c.in-Err.ensures.adds) c.in-Err.ensures.cause c.of_host.ensures
