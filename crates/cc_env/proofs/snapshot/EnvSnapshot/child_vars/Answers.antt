use Rattle.std.proofs.Common.{◌≡◌, ap, ◌∙◌, rules}
use Rattle.cc_env.specs.Snapshot.{last_value, child_of}
use Rattle.cc_env.proofs.SnapshotLemmas.{child_last, child_inherits}
use Rattle.cc_env.proofs.snapshot.EnvSnapshot.child_vars.Goals as goal

pub returns-clause-last : goal.returns-clause-last
returns-clause-last c = λ name.
    let child : c.put_over.new.vars ≡ child_of c.args.self.now c.args.entries.now = search rules in
    ap (λ vars. last_value vars name) child ∙ child_last c.args.self.now c.args.entries.now name

pub returns-clause-inherits : goal.returns-clause-inherits
returns-clause-inherits c = λ name unset.
    let child : c.put_over.new.vars ≡ child_of c.args.self.now c.args.entries.now = search rules in
    ap (λ vars. last_value vars name) child ∙ child_inherits c.args.self.now c.args.entries.now name unset
