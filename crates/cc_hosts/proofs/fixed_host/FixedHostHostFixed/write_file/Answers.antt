use Rattle.std.proofs.Common.{◌∙◌, ◌++◌, ◌∷◌, [], refl}
use Rattle.cc_hosts.proofs.FixedLemmas.{answers_given}
use Rattle.cc_hosts.proofs.fixed_host.FixedHostHostFixed.write_file.Goals as goal

pub invariant_of-self : goal.invariant_of-self
invariant_of-self c = answers_given _ _ (record c.self.inside.bench { files = c.self.inside.bench.files ++ c.args.path.now ∷ [] }) c.self.inside.bench c.write_file.new.self _ c.write_file.ensures.answers refl ∙ c.self.invariant
