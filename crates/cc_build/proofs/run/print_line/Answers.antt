use Rattle.std.proofs.Common.{◌≡◌, ℕ, List, ◌∷◌, [], refl, ap, arith}
use Rattle.cc_host.specs.Part.{since}
use Rattle.cc_host.specs.Part.Step.{Prints}
use Rattle.cc_host.specs.declared.event.Event.TheVariants.{Printed}
use Rattle.cc_host.specs.declared.event.HostCall.TheVariants.{Print}
use Rattle.cc_plan.specs.Link.{printed_line}
use Rattle.cc_build.proofs.Going.{called, refused_call, fault_of, part_is}
use Rattle.cc_build.proofs.Outcomes.{made_or_memory}
use Rattle.cc_build.proofs.run.print_line.Goals as goal

pub returns-in-Ok-clause-outcome : goal.returns-in-Ok-clause-outcome
returns-in-Ok-clause-outcome g c =
    let bytes : c.as_bytes.result.now ≡ printed_line c.args.line.now = grind arith in
    λ t x. (refl, called t (Prints c.args.kind (printed_line c.args.line.now)) (Printed c.args.kind c.as_bytes.result.now) (since (g.H.Host.log c.args.host.now) (g.H.Host.log c.print.new.self)) x (part_is (g.H.Host.log c.args.host.now) (g.H.Host.log c.print.new.self) (Printed c.args.kind c.as_bytes.result.now ∷ []) c.in-Ok.ensures.adds) (ap (λ (b : List ℕ). Prints c.args.kind b ∷ []) bytes))

pub returns-clause-outcome : goal.returns-clause-outcome
returns-clause-outcome g c = λ t x.
    refused_call t (Prints c.args.kind (printed_line c.args.line.now)) c.in-Err.error [] (since (g.H.Host.log c.args.host.now) (g.H.Host.log c.print.new.self)) c.or_no_memory.result x (part_is (g.H.Host.log c.args.host.now) (g.H.Host.log c.print.new.self) _ c.in-Err.ensures.adds) (fault_of (Prints c.args.kind (printed_line c.args.line.now)) Print (g.H.Host.faults c.args.host.now) (g.H.Host.faults c.print.new.self) c.in-Err.error (λ _ _ is. is) c.in-Err.ensures.cause) (λ _ _. refl) (made_or_memory c.host_error.result c.or_no_memory.result _ c.or_no_memory.ensures c.host_error.ensures)
