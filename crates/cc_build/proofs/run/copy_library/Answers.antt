use Rattle.std.proofs.Common.{◌∷◌, [], refl}
use Rattle.cc_host.specs.Part.{since}
use Rattle.cc_host.specs.Part.Step.{Copies}
use Rattle.cc_host.specs.declared.event.Event.TheVariants.{Copied}
use Rattle.cc_host.specs.declared.event.HostCall.TheVariants.{Copy}
use Rattle.cc_build.proofs.Going.{called, refused_call, fault_of, part_is}
use Rattle.cc_build.proofs.Outcomes.{made_or_memory}
use Rattle.cc_build.proofs.run.copy_library.Goals as goal

pub returns-in-Ok-clause-outcome : goal.returns-in-Ok-clause-outcome
returns-in-Ok-clause-outcome g c = λ t x. (refl, called t (Copies c.args.from.now c.args.to.now) (Copied c.args.from.now c.args.to.now) (since (g.H.Host.log c.args.host.now) (g.H.Host.log c.copy_file.new.self)) x (part_is (g.H.Host.log c.args.host.now) (g.H.Host.log c.copy_file.new.self) (Copied c.args.from.now c.args.to.now ∷ []) c.in-Ok.ensures.adds) refl)

pub returns-in-Err-clause-outcome : goal.returns-in-Err-clause-outcome
returns-in-Err-clause-outcome g c = λ t x.
    refused_call t (Copies c.args.from.now c.args.to.now) c.in-Err.error (c.args.to.now) (since (g.H.Host.log c.args.host.now) (g.H.Host.log c.copy_file.new.self)) c.or_no_memory.result x (part_is (g.H.Host.log c.args.host.now) (g.H.Host.log c.copy_file.new.self) _ c.in-Err.ensures.adds) (fault_of (Copies c.args.from.now c.args.to.now) (Copy) (g.H.Host.faults c.args.host.now) (g.H.Host.faults c.copy_file.new.self) c.in-Err.error (λ _ _ is. is) c.in-Err.ensures.cause) (λ _ _. refl) (made_or_memory c.host_error.result c.or_no_memory.result _ c.or_no_memory.ensures c.host_error.ensures)
