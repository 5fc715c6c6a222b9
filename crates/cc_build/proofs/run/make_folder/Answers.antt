use Rattle.std.proofs.Common.{◌∷◌, [], refl}
use Rattle.cc_host.specs.Part.{since}
use Rattle.cc_host.specs.Part.Step.{Makes}
use Rattle.cc_host.specs.declared.event.Event.TheVariants.{Made}
use Rattle.cc_host.specs.declared.event.HostCall.TheVariants.{MakeDir}
use Rattle.cc_host.specs.declared.event.Scope.TheVariants.{Build}
use Rattle.cc_build.proofs.Going.{called, refused_call, fault_of, part_is}
use Rattle.cc_build.proofs.Outcomes.{made_or_memory}
use Rattle.cc_build.proofs.run.make_folder.Goals as goal

pub returns-in-Ok-clause-outcome : goal.returns-in-Ok-clause-outcome
returns-in-Ok-clause-outcome g c = λ t x. (refl, called t (Makes Build c.args.path.now) (Made Build c.args.path.now) (since (g.H.Host.log c.args.host.now) (g.H.Host.log c.make_dir.new.self)) x (part_is (g.H.Host.log c.args.host.now) (g.H.Host.log c.make_dir.new.self) (Made Build c.args.path.now ∷ []) c.in-Ok.ensures.adds) refl)

pub returns-in-Err-clause-outcome : goal.returns-in-Err-clause-outcome
returns-in-Err-clause-outcome g c = λ t x.
    refused_call t (Makes Build c.args.path.now) c.in-Err.error (c.args.path.now) (since (g.H.Host.log c.args.host.now) (g.H.Host.log c.make_dir.new.self)) c.or_no_memory.result x (part_is (g.H.Host.log c.args.host.now) (g.H.Host.log c.make_dir.new.self) _ c.in-Err.ensures.adds) (fault_of (Makes Build c.args.path.now) (MakeDir Build) (g.H.Host.faults c.args.host.now) (g.H.Host.faults c.make_dir.new.self) c.in-Err.error (λ _ _ is. is) c.in-Err.ensures.cause) (λ _ _. refl) (made_or_memory c.host_error.result c.or_no_memory.result _ c.or_no_memory.ensures c.host_error.ensures)
