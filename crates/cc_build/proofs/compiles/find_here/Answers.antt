use Rattle.std.proofs.Common.{◌≡◌, ◌∙◌, ℕ, List, [], ◌∷◌, true, false, Option, Some, None, is_some, refl, sym}
use Rattle.cc_host.specs.Part.{since}
use Rattle.cc_host.specs.Part.Step.{Finds}
use Rattle.cc_host.specs.declared.event.Event.TheVariants.{Here}
use Rattle.cc_host.specs.declared.event.HostCall.TheVariants.{CurrentDir}
use Rattle.cc_build.specs.Stage.{calls, finding_steps}
use Rattle.cc_build.specs.Went.{Terms, Means, Halted}
use Rattle.cc_build.proofs.Going.{called, refused_call, fault_of, part_is}
use Rattle.cc_build.proofs.Outcomes.{made_or_memory}
use Rattle.cc_build.proofs.compiles.find_here.Goals as goal

pub returns-in-Ok-clause-outcome : goal.returns-in-Ok-clause-outcome
returns-in-Ok-clause-outcome g c = (
  sym c.if-not-is_wanted.false,
  λ t x. (refl, called t (Finds c.in-Ok.folder) (Here c.in-Ok.folder) (since (g.H.Host.log c.args.host.now) (g.H.Host.log c.current_dir.new.self)) x (part_is (g.H.Host.log c.args.host.now) (g.H.Host.log c.current_dir.new.self) (Here c.in-Ok.folder ∷ []) c.in-Ok.ensures.adds) refl),
)

pub returns-in-Err-clause-outcome : goal.returns-in-Err-clause-outcome
returns-in-Err-clause-outcome g c = λ here hears. by_here here hears
  where
    by_here : (here : Option (List ℕ)) → is_some here ≡ c.args.is_wanted → (t : Terms) (x : Means) → Halted t None (calls (finding_steps here)) (since (g.H.Host.log c.args.host.now) (g.H.Host.log c.current_dir.new.self)) c.or_no_memory.result x x
    by_here None hears t x = let clash : false ≡ true = hears ∙ c.if-not-is_wanted.false in absurd (cc)
    by_here (Some path) hears t x =
        refused_call t (Finds path) c.in-Err.error [] (since (g.H.Host.log c.args.host.now) (g.H.Host.log c.current_dir.new.self)) c.or_no_memory.result x (part_is (g.H.Host.log c.args.host.now) (g.H.Host.log c.current_dir.new.self) _ c.in-Err.ensures.adds) (fault_of (Finds path) CurrentDir (g.H.Host.faults c.args.host.now) (g.H.Host.faults c.current_dir.new.self) c.in-Err.error (λ _ _ is. is) c.in-Err.ensures.cause) (λ _ _. refl) (made_or_memory c.host_error.result c.or_no_memory.result _ c.or_no_memory.ensures c.host_error.ensures)
