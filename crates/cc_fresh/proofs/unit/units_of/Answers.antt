use Rattle.std.proofs.Common.{length, refl, sym}
use Rattle.std.proofs.lemmas.Option.{slice_get_read}
use Rattle.cc_fresh.proofs.UnitLaws.{units_next, units_none, units_end}
use Rattle.cc_fresh.proofs.unit.units_of.Goals as goal

pub returns-in-None : goal.returns-in-None
returns-in-None c = units_none c.args.objects.now c.args.commands.now c.loop-place.place c.loop-place.units.items c.loop-place.invariant (sym c.in-None.ensures)

pub loop-place-preserved : goal.loop-place-preserved
loop-place-preserved c =
    let os = c.args.objects.now in
    let i = c.loop-place.place in
    units_next os c.args.commands.now i c.loop-place.units.items c.loop-place.invariant c.index-objects-place.result c.in-Some.planned.now c.in_ok-unit-in-Some.unit c.push.new.self.items
    (slice_get_read os (length os) i c.index-objects-place.result refl c.loop-place-test.true c.index-objects-place.is) (sym c.in-Some.ensures) c.in_ok-unit-in-Some.ensures c.in_ok-push-in-Some.ensures.items

pub returns : goal.returns
returns c = units_end c.args.objects.now c.args.commands.now c.loop-place.place c.loop-place.units.items c.loop-place.invariant c.loop-place-test.false
