use Rattle.std.proofs.Common.{◌∷◌, [], refl}
use Rattle.cc_host.specs.Part.{since}
use Rattle.cc_host.specs.Part.Step.{Says}
use Rattle.cc_host.specs.declared.event.Event.TheVariants.{Said}
use Rattle.cc_host.specs.declared.event.HostCall.TheVariants.{Say}
use Rattle.cc_build.proofs.Going.{called, refused_call, fault_of, part_is}
use Rattle.cc_build.proofs.Outcomes.{made_or_memory}
use Rattle.cc_build.proofs.run.say.Goals as goal

pub returns-in-Ok-clause-outcome : goal.returns-in-Ok-clause-outcome
returns-in-Ok-clause-outcome g c = λ t x. (refl, called t (Says c.args.message.now) (Said c.args.message.now) (since (g.H.Host.log c.args.host.now) (g.H.Host.log c.say.new.self)) x (part_is (g.H.Host.log c.args.host.now) (g.H.Host.log c.say.new.self) (Said c.args.message.now ∷ []) c.in-Ok.ensures.adds) refl)

pub returns-in-Err-clause-outcome : goal.returns-in-Err-clause-outcome
returns-in-Err-clause-outcome g c = λ t x.
    refused_call t (Says c.args.message.now) c.in-Err.error ([]) (since (g.H.Host.log c.args.host.now) (g.H.Host.log c.say.new.self)) c.or_no_memory.result x (part_is (g.H.Host.log c.args.host.now) (g.H.Host.log c.say.new.self) _ c.in-Err.ensures.adds) (fault_of (Says c.args.message.now) (Say) (g.H.Host.faults c.args.host.now) (g.H.Host.faults c.say.new.self) c.in-Err.error (λ _ _ is. is) c.in-Err.ensures.cause) (λ _ _. refl) (made_or_memory c.host_error.result c.or_no_memory.result _ c.or_no_memory.ensures c.host_error.ensures)
