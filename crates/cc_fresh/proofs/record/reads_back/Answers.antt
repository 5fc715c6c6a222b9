use Rattle.cc_fresh.proofs.RecordLaws.{read_back}
use Rattle.cc_fresh.proofs.record.reads_back.Goals as goal

pub returns : goal.returns
returns c = read_back
