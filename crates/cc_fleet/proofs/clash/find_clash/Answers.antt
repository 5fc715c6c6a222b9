use Rattle.std.proofs.Common.{◌≡◌, ◌<◌, [], length, ◌+◌, sym, ap, subst, arith}
use Rattle.std.specs.Path.{path_components}
use Rattle.cc_text.specs.Places.{place_at}
use Rattle.cc_fleet.specs.Clash.{IsNoted, Owns, files_at, key_of}
use Rattle.cc_fleet.proofs.ClashLemmas.{item_is, noted_none, noted_file, noted_member, first_clash}
use Rattle.cc_fleet.proofs.clash.find_clash.Goals as goal

pub loop-place-init : goal.loop-place-init
loop-place-init c = noted_none c.args.members.now c.new-owners.result c.new-owners.ensures

pub loop-path-preserved : goal.loop-path-preserved
loop-path-preserved c =
    let files_is : files_at c.args.members.now c.loop-place.place ≡ c.as_slice-path-items.result.now = item_is c.args.members.now c.loop-place.place [] c.index-members-place.result c.as_slice-path-items.result.now (omega arith) c.index-members-place.is c.as_slice-path-items.ensures in
    let within : c.loop-path.path-index < length c.as_slice-path-items.result.now = omega arith in
    let key : c.as_str-in-loop-path.result.now ≡ key_of (path_components c.as_str.result.now) = grind arith in
    let was : place_at c.loop-path.owners c.as_str-in-loop-path.result.now ≡ c.in_ok-owner.owner = sym c.in_ok-owner.ensures.old in
    subst (IsNoted (Owns c.args.members.now c.loop-place.place (c.loop-path.path-index + 1)) c.loop-place.place c.put.new.self) (sym c.first_with-first.ensures)
    (noted_file c.args.members.now c.loop-place.place c.loop-path.path-index c.as_slice-path-items.result.now c.path-item.result c.as_str.result.now c.as_str-in-loop-path.result.now c.loop-path.owners c.put.new.self c.loop-path.first c.in_ok-owner.owner files_is within (grind (arith, c.path-item.is)) c.as_str.ensures key c.loop-path.invariant c.in_ok-owner.ensures.new was)

pub loop-place-preserved : goal.loop-place-preserved
loop-place-preserved c =
    let files_is : files_at c.args.members.now c.loop-place.place ≡ c.as_slice-path-items.result.now = item_is c.args.members.now c.loop-place.place [] c.index-members-place.result c.as_slice-path-items.result.now (omega arith) c.index-members-place.is c.as_slice-path-items.ensures in
    noted_member c.args.members.now c.loop-place.place c.loop-path.path-index c.loop-path.owners c.loop-path.first (let e = ap length files_is in omega (arith, e)) c.loop-path.invariant

pub returns : goal.returns
returns c = first_clash c.args.members.now c.loop-place.place (omega arith) c.loop-place.owners c.loop-place.first c.loop-place.invariant
