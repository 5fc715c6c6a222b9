use Rattle.std.proofs.Common.{◌<◌, ◌++◌, ◌+◌, length, drop, flat_map, Option, ◌∙◌, ap, append_assoc, arith}
use Rattle.cc_fleet.specs.declared.members.FleetEnd.{FleetEnd}
use Rattle.cc_command.specs.Database.{optional}
use Rattle.cc_command.specs.Fleets.{refused_error, refusals}
use Rattle.cc_command.proofs.FleetLineLaws.{errors_next}
use Rattle.cc_command.proofs.fleet_lines.refusals.Goals as goal

pub loop-place-preserved : goal.loop-place-preserved
loop-place-preserved c =
    let i = c.loop-place.place in
    let before = c.loop-place.errors.items in
    let rest = refusals (drop (i + 1) c.args.ends.now) in
    let within : i < length c.args.ends.now = grind (arith, c.loop-place-test.true) in
    ap (λ l. l ++ rest) (c.in_ok-push_refusal.ensures ∙ ap (λ (o : Option FleetEnd). before ++ flat_map refused_error (optional o)) c.get.ensures)
    ∙ append_assoc before (flat_map refused_error (optional _)) rest ∙ ap (λ l. before ++ l) (errors_next c.args.ends.now i within) ∙ c.loop-place.invariant
