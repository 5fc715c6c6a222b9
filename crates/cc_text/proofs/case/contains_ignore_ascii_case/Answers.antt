use Rattle.std.proofs.Common.{refl}
use Rattle.cc_text.proofs.CaseLemmas.{contained, not_contained, still_contained}
use Rattle.cc_text.proofs.case.contains_ignore_ascii_case.Goals as goal

pub returns-in-empty : goal.returns-in-empty
returns-in-empty c = not_contained c.args.s.now c.loop-needle.rest.now _ _ c.as_bytes-needle.ensures.value c.loop-needle.invariant c.in-empty.len_below c.loop-needle-test.ensures

pub loop-needle-preserved : goal.loop-needle-preserved
loop-needle-preserved c = still_contained c.args.s.now c.loop-needle.rest.now _ _ c.in-len1-up.len_at_least refl c.loop-needle-test.ensures c.loop-needle.invariant

pub returns : goal.returns
returns c = contained c.args.s.now c.loop-needle.rest.now _ _ c.as_bytes-needle.ensures.value c.loop-needle.invariant c.loop-needle-test.ensures
