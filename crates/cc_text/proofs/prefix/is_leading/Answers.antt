use Rattle.std.proofs.Common.{◌+◌, arith, rules}
use Rattle.std.proofs.lemmas.List.{get_or_default, get_or_past}
use Rattle.cc_text.proofs.prefix.is_leading.Goals as goal

pub returns-then-place-path : goal.returns-then-place-path
returns-then-place-path c =
    let past = get_or_past c.args.path.now (c.args.place + 1) 47 (omega arith) in
    grind rules

pub returns-else-place-path : goal.returns-else-place-path
returns-else-place-path c =
    let same = get_or_default c.args.path.now (c.args.place + 1) 47 0 (omega arith) in
    grind rules
