use Rattle.std.proofs.Common.{◌≡◌, ◌+◌, ◌<◌, length, get_or, true, arith}
use Rattle.std.specs.Ordering.{nat_cmp, is_lt}
use Rattle.std.specs.Cmp.Lexicographic.{slice_cmp}
use Rattle.cc_hosts.proofs.AscendingLemmas.{ascends_more}
use Rattle.cc_hosts.proofs.command.ascending.Goals as goal

pub loop-last-preserved : goal.loop-last-preserved
loop-last-preserved c =
    let vars = c.args.vars.now in
    let last = c.loop-last.last in
    let a = c.index-vars-last.result in
    let b = c.index-vars-last-in-loop-last.result in
    let within : last + 1 < length vars = grind (arith, c.loop-last-test.true) in
    let first : a ≡ get_or vars last a = grind (arith, c.index-vars-last.is) in
    let second : b ≡ get_or vars (last + 1) b = grind (arith, c.index-vars-last-in-loop-last.is) in
    let below : is_lt (slice_cmp nat_cmp a.0 b.0) ≡ true = cc (c.if-is_lt.true, c.is_lt.ensures, c.cmp.ensures, c.as_str.ensures, c.as_str-in-loop-last.ensures) in
    record {
      within = within;
      ascends = ascends_more vars last a b within first second c.loop-last.invariant.ascends below;
    }
