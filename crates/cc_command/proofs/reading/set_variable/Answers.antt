use Rattle.std.proofs.Common.{◌≡◌, Some, sym, arith}
use Rattle.cc_text.specs.Cuts.{key_and_value}
use Rattle.cc_command.proofs.KeyLaws.{set_pair, no_pair}
use Rattle.cc_command.proofs.reading.set_variable.Goals as goal

pub returns-in-Some : goal.returns-in-Some
returns-in-Some g c =
    let e : key_and_value c.args.value.now ≡ Some (c.in-Some.name.now, c.in-Some.value.now) = grind (arith, c.in-Some.ensures, c.in-Some.name-is, c.in-Some.value-is) in
    set_pair c.args.build.now c.env.new.self c.args.value.now (c.in-Some.name.now, c.in-Some.value.now) c.env.result c.set.result e c.set.ensures c.env.ensures.ok

pub returns-in-None : goal.returns-in-None
returns-in-None g c = no_pair c.args.build.now c.args.value.now (sym c.in-None.ensures)
