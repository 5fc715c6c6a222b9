use Rattle.serde_json.specs.View.{view}
use Rattle.cc_fresh.proofs.ReadLemmas.{counted}
use Rattle.cc_fresh.proofs.read.has_members.Goals as goal

pub returns-in-Some : goal.returns-in-Some
returns-in-Some c = counted (view c.args.value.now) c.in-Some.members.now.entries c.len.result c.args.count c.in-Some.ensures c.len.ensures.len
