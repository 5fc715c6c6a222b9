use Rattle.cc_flags.proofs.DashLemmas.{splits_at_dash}
use Rattle.cc_flags.proofs.compiler_names.before_last_dash.Goals as goal

pub returns-in-Some : goal.returns-in-Some
returns-in-Some c =
    let split = splits_at_dash c.args.name.now c.rsplit_once.result c.rsplit_once.ensures.cases in rw c.in-Some.is at split

pub returns-in-None : goal.returns-in-None
returns-in-None c =
    let split = splits_at_dash c.args.name.now c.rsplit_once.result c.rsplit_once.ensures.cases in rw c.in-None.is at split
