use Rattle.std.proofs.Common.{refl, sym, subst, [], ◌∷◌}
use Rattle.cc_host.specs.Bench.{IsPlain}
use Rattle.cc_host.specs.declared.event.Event.TheVariants.{Abandoned}
use Rattle.cc_hosts.proofs.PlainLaws.{plain_after}
use Rattle.cc_hosts.proofs.plain.PlainHostHostBench.abandon.Goals as goal

pub invariant_of-self : goal.invariant_of-self
invariant_of-self c = plain_after c.self.inside.bench c.abandon.new.self (Abandoned c.args.id ∷ []) c.self.invariant (subst IsPlain (sym c.abandon.ensures.after) c.self.invariant.0) c.abandon.ensures.adds refl
