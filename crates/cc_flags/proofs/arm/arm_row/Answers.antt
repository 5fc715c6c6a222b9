use Rattle.std.proofs.Common.{ap, ◌∙◌, find, option_map}
use Rattle.cc_text.proofs.FindLemmas.{find-map}
use Rattle.cc_flags.specs.GnuWords.{arm_line, arm_seen}
use Rattle.cc_flags.specs.Texts.{begins_with}
use Rattle.cc_flags.proofs.arm.arm_row.Goals as goal

pub returns : goal.returns
unfolding arm_line
returns c =
    ap (option_map arm_seen) c.arm_row_among.ensures
    ∙ find-map arm_seen (λ l. begins_with c.args.full_arch.now l.prefix) c.arm_rows.result.now
    ∙ ap (find (λ l. begins_with c.args.full_arch.now l.prefix)) c.arm_rows.ensures
