use Rattle.std.proofs.Common.{Some}
use Rattle.cc_text.specs.Places.{place_at}
use Rattle.cc_text.proofs.PlacesLemmas.{put_at}
use Rattle.cc_text.proofs.places.PathPlaces.put.Goals as goal

pub returns-clause-new : goal.returns-clause-new
unfolding place_at
returns-clause-new c = λ text. put_at c.in_ok-reversed.field-0 c.args.self.now.by_path c.insert.new.self (Some c.args.place) c.args.path.now c.in_ok-reversed.ensures c.in_ok-old.ensures.updates text
