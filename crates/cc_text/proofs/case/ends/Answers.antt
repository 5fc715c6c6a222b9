use Rattle.std.proofs.Common.{arith}
use Rattle.std.proofs.lemmas.Grind.{common_steps}
use Rattle.cc_text.proofs.CaseLemmas.{ends_by_back}
use Rattle.cc_text.proofs.case.ends.Goals as goal

pub returns-then-suffix-bytes : goal.returns-then-suffix-bytes
returns-then-suffix-bytes c = ends_by_back _ c.args.bytes.now c.args.suffix.now _ (grind (arith, common_steps)) c.eq_ignore_ascii_case.ensures.test
