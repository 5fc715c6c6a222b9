use Rattle.std.proofs.Common.{refl}
use Rattle.cc_text.proofs.CaseLemmas.{starts_by_front}
use Rattle.cc_text.proofs.case.starts.Goals as goal

pub returns-then-prefix-bytes : goal.returns-then-prefix-bytes
returns-then-prefix-bytes c = starts_by_front _ c.args.bytes.now c.args.prefix.now _ refl c.eq_ignore_ascii_case.ensures.test
