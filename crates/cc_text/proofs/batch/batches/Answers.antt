use Rattle.std.proofs.Common.{◌≡◌, arith}
use Rattle.std.proofs.lemmas.Grind.{common_steps}
use Rattle.cc_text.specs.Batches.{batches_of}
use Rattle.cc_text.proofs.BatchLaws.{batches_are}
use Rattle.cc_text.proofs.batch.batches.Goals as goal

pub returns-in_ok-batches-in-len1-up-clause-law : goal.returns-in_ok-batches-in-len1-up-clause-law
returns-in_ok-batches-in-len1-up-clause-law c =
    let is : c.in_ok-batches-in-len1-up.batches.items ≡ batches_of c.args.paths.now = grind (arith, common_steps) in
    batches_are c.args.paths.now c.in_ok-batches-in-len1-up.batches.items is

pub returns-in-empty-clause-law : goal.returns-in-empty-clause-law
returns-in-empty-clause-law c =
    let is : c.new.result.items ≡ batches_of c.args.paths.now = grind (arith, common_steps) in
    batches_are c.args.paths.now c.new.result.items is
