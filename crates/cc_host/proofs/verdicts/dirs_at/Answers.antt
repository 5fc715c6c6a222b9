use Rattle.std.proofs.Common.{slice_range}
use Rattle.cc_host.proofs.VerdictLemmas.{never_none}
use Rattle.cc_host.proofs.verdicts.dirs_at.Goals as goal

pub returns-in-None : goal.returns-in-None
returns-in-None c = never_none (slice_range c.args.out c.args.from c.args.to) c.keep.new.self _ _ c.keep.ensures c.requires.text c.in-None.ensures
