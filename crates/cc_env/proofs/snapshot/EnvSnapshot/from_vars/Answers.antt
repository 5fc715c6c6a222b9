use Rattle.std.proofs.Common.{ap, ◌∙◌}
use Rattle.cc_env.specs.Snapshot.{last_value, child_of}
use Rattle.cc_env.proofs.SnapshotLemmas.{child_empty, snapshot_last}
use Rattle.cc_env.proofs.snapshot.EnvSnapshot.from_vars.Goals as goal

pub returns-clause-snapshot : goal.returns-clause-snapshot
returns-clause-snapshot c = c.kept.view_is ∙ c.in_ok-put_all.ensures.child ∙ ap (λ vars. child_of vars c.args.vars.now) c.new-kept.ensures ∙ child_empty c.args.vars.now

pub returns-clause-last : goal.returns-clause-last
returns-clause-last c = λ name. ap (λ vars. last_value vars name) (returns-clause-snapshot c) ∙ snapshot_last c.args.vars.now name
