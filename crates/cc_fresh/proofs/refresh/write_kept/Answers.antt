use Rattle.std.proofs.Common.{◌≡◌, ◌∷◌, [], ℕ, List, refl, ◌∙◌, ap}
use Rattle.cc_host.specs.Part.{since}
use Rattle.cc_host.specs.Part.Step.{Writes}
use Rattle.cc_host.specs.declared.event.Event.TheVariants.{Wrote}
use Rattle.cc_host.specs.declared.event.HostCall.TheVariants.{Write}
use Rattle.cc_build.proofs.Going.{called, refused_call, fault_of, part_is}
use Rattle.cc_fresh.specs.Record.{record_text}
use Rattle.cc_fresh.proofs.refresh.write_kept.Goals as goal

pub returns-in-Ok-write_file-clause-outcome : goal.returns-in-Ok-write_file-clause-outcome
returns-in-Ok-write_file-clause-outcome g c = λ t x.
    let path = c.args.path.now in
    let text = record_text c.args.record.now in
    let bytes = c.as_slice.result.now in
    let is : bytes ≡ text = c.as_slice.ensures ∙ c.in-Ok.ensures.text in
    (refl, called t (Writes path text) (Wrote path bytes) (since (g.H.Host.log c.args.host.now) (g.H.Host.log c.write_file.new.self)) x (part_is (g.H.Host.log c.args.host.now) (g.H.Host.log c.write_file.new.self) (Wrote path bytes ∷ []) c.in-Ok-write_file.ensures.adds) (ap (λ (b : List ℕ). Writes path b ∷ []) is))

pub returns-clause-outcome : goal.returns-clause-outcome
returns-clause-outcome g c = λ t x.
    let path = c.args.path.now in
    let text = record_text c.args.record.now in
    refused_call t (Writes path text) c.in-Err-write_file.error path (since (g.H.Host.log c.args.host.now) (g.H.Host.log c.write_file.new.self)) c.of_host.result x (part_is (g.H.Host.log c.args.host.now) (g.H.Host.log c.write_file.new.self) _ c.in-Err-write_file.ensures.adds) (fault_of (Writes path text) Write (g.H.Host.faults c.args.host.now) (g.H.Host.faults c.write_file.new.self) c.in-Err-write_file.error (λ _ _ is. is) c.in-Err-write_file.ensures.cause) (λ _ _. refl) c.of_host.ensures
