use Rattle.cc_db.proofs.DatabaseLaws.{one_list}
use Rattle.cc_db.proofs.database.one_list_a_text.Goals as goal

pub returns : goal.returns
returns c = one_list
