use Rattle.std.proofs.Common.{◌∙◌, refl}
use Rattle.cc_host.specs.Bench.{without_file}
use Rattle.cc_hosts.proofs.FixedLemmas.{answers_given}
use Rattle.cc_hosts.proofs.fixed_host.FixedHostHostFixed.remove_file.Goals as goal

pub invariant_of-self : goal.invariant_of-self
invariant_of-self c = answers_given _ _ (record c.self.inside.bench { files = without_file c.args.path.now c.self.inside.bench.files }) c.self.inside.bench c.remove_file.new.self _ c.remove_file.ensures.answers refl ∙ c.self.invariant
