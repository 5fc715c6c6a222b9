use Rattle.std.proofs.Common.{◌∙◌, sym, arith}
use Rattle.cc_host.proofs.VerdictLemmas.{found_on, found_never, found_text}
use Rattle.cc_host.proofs.verdicts.programs_in.Goals as goal

pub returns-then-begins_with_programs-clause-text : goal.returns-then-begins_with_programs-clause-text
returns-then-begins_with_programs-clause-text c =
    found_text c.args.out.now c.loop-start.start c.line_end-end.result (omega arith) c.line_end-end.ensures.ends c.line_end-end.ensures.within (sym c.begins_with_programs.ensures ∙ c.if-begins_with_programs.true)

pub loop-start-preserved : goal.loop-start-preserved
loop-start-preserved c =
    let out = c.args.out.now in
    let start = c.loop-start.start in
    let end = c.line_end-end.result in
    let miss = sym c.begins_with_programs.ensures ∙ c.if-begins_with_programs.false in (
      omega arith,
      λ l. c.loop-start.invariant.1 (omega arith) ∙ found_on out start end c.line_end-end.ensures.ends (omega (arith, l)) miss,
      λ l. c.loop-start.invariant.1 (omega arith) ∙ found_never out start end (omega arith) c.line_end-end.ensures.ends (omega (arith, l)) miss,
    )
