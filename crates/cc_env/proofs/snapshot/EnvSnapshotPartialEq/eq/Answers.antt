use Rattle.cc_text.proofs.EqualityLemmas.{same_vars-Decides}
use Rattle.cc_env.proofs.snapshot.EnvSnapshotPartialEq.eq.Goals as goal

pub returns-clause-equal : goal.returns-clause-equal
returns-clause-equal c = rw (c.eq.ensures, c.self.view_is, c.other.view_is) (same_vars-Decides c.args.self.now c.args.other.now)
