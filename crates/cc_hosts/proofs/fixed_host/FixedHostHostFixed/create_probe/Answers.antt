use Rattle.std.proofs.Common.{◌∙◌, refl}
use Rattle.cc_host.specs.Bench.{files_with}
use Rattle.cc_hosts.proofs.FixedLemmas.{answers_given}
use Rattle.cc_hosts.proofs.fixed_host.FixedHostHostFixed.create_probe.Goals as goal

pub invariant_of-self : goal.invariant_of-self
invariant_of-self c = answers_given _ _ (record c.self.inside.bench { files = files_with c.args.path.now c.self.inside.bench }) c.self.inside.bench c.create_probe.new.self _ c.create_probe.ensures.answers refl ∙ c.self.invariant
