use Rattle.cc_tool.proofs.PlacesLemmas.{no_bucket, bucket_is}
use Rattle.cc_tool.proofs.entries.Entries.find.Goals as goal

pub find_among-requires : goal.find_among-requires
find_among-requires c = bucket_is c.args.key.now.digest c.args.self.now.items c.in-Some.places.now c.in-Some.ensures

pub returns-in-None : goal.returns-in-None
returns-in-None c = no_bucket c.args.self.now.items c.args.key.now.question.now c.args.key.now.digest c.args.key.now.digests c.in-None.ensures
