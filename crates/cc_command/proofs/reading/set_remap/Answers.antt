use Rattle.std.proofs.Common.{◌≡◌, Some, sym, arith}
use Rattle.cc_text.specs.Cuts.{key_and_value}
use Rattle.cc_command.proofs.KeyLaws.{from_lacks, set_map, no_map}
use Rattle.cc_command.proofs.reading.set_remap.Goals as goal

pub remap_source_path-requires-after_bounds : goal.remap_source_path-requires-after_bounds
remap_source_path-requires-after_bounds g c κs within =
    let e : key_and_value c.args.value.now ≡ Some (c.in-Some.from.now, c.in-Some.to.now) = grind (arith, c.in-Some.ensures, c.in-Some.from-is, c.in-Some.to-is) in
    from_lacks c.args.value.now (c.in-Some.from.now, c.in-Some.to.now) e

pub returns-in-Some : goal.returns-in-Some
returns-in-Some g c =
    let e : key_and_value c.args.value.now ≡ Some (c.in-Some.from.now, c.in-Some.to.now) = grind (arith, c.in-Some.ensures, c.in-Some.from-is, c.in-Some.to-is) in
    set_map c.args.build.now c.remap_source_path.new.self c.args.value.now (c.in-Some.from.now, c.in-Some.to.now) c.remap_source_path.result c.set.result e c.set.ensures c.remap_source_path.ensures.ok

pub returns-in-None : goal.returns-in-None
returns-in-None g c = no_map c.args.build.now c.args.value.now (sym c.in-None.ensures)
