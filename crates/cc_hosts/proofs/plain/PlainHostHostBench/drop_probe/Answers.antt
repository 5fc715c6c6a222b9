use Rattle.std.proofs.Common.{refl, sym, subst, [], ◌∷◌}
use Rattle.cc_host.specs.Bench.{IsPlain}
use Rattle.cc_host.specs.declared.event.Event.TheVariants.{Dropped}
use Rattle.cc_hosts.proofs.PlainLaws.{plain_after}
use Rattle.cc_hosts.proofs.plain.PlainHostHostBench.drop_probe.Goals as goal

pub invariant_of-self : goal.invariant_of-self
invariant_of-self c = plain_after c.self.inside.bench c.drop_probe.new.self (Dropped c.args.path.now ∷ []) c.self.invariant (subst IsPlain (sym c.drop_probe.ensures.after) c.self.invariant.0) c.drop_probe.ensures.adds refl
