use Rattle.std.proofs.Common.{arith}
use Rattle.cc_text.proofs.ComponentLemmas.{joined_components}
use Rattle.cc_text.proofs.parts.keeps_components.Goals as goal

pub returns-then-not-is_empty-clause-law : goal.returns-then-not-is_empty-clause-law
returns-then-not-is_empty-clause-law c keeps =
    let named = c.begins_with_a_name.ensures.0 keeps in
    joined_components c.args.base.now c.args.path.now (grind arith, named.0, named.1)
