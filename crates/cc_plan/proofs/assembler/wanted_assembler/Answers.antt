use Rattle.std.proofs.Common.{◌≡◌, true, refl, rules, arith}
use Rattle.std.proofs.lemmas.Grind.{common_steps}
use Rattle.cc_target.specs.Targets.{info_seen}
use Rattle.cc_flags.specs.AssemblerWords.{want_assembler}
use Rattle.cc_plan.specs.Assembler.{wanted_assembler}
use Rattle.cc_plan.proofs.PassBy.{by_done, by_ok}
use Rattle.cc_plan.proofs.assembler.wanted_assembler.Goals as goal

pub returns-in_ok-assembler : goal.returns-in_ok-assembler
unfolding wanted_assembler
returns-in_ok-assembler c =
    let wants : want_assembler (info_seen c.args.given.now.target.now) c.args.given.now.set.now.files ≡ true = first_of (search rules, cc, grind (arith, common_steps)) in
    rw wants (by_ok _ _ c.in_ok-assembler.ensures refl (by_done refl))
