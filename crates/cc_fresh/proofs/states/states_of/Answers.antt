use Rattle.std.proofs.Common.{◌≡◌, ◌<◌, ◌∷◌, [], length, refl, sym, arith}
use Rattle.std.proofs.lemmas.Option.{slice_get_read}
use Rattle.std.proofs.lemmas.Result.{err_from_is_err_and}
use Rattle.cc_fresh.specs.Choice.{IsState}
use Rattle.cc_fresh.specs.InTurn.{pairs}
use Rattle.cc_fresh.specs.declared.file.ReadError.TheVariants.{NoMemory}
use Rattle.cc_fresh.proofs.InTurnLaws.{all_stopped, one_more, one_refused, one_wanting, pair_at, pair_none, pair_end}
use Rattle.cc_fresh.proofs.ChoiceLaws.{may_state}
use Rattle.cc_fresh.proofs.states.states_of.Goals as goal

pub returns-in_err-state-in-Some-clause-refused : goal.returns-in_err-state-in-Some-clause-refused
returns-in_err-state-in-Some-clause-refused g c =
    let us = c.args.units.now in
    let cs = c.args.choices.now in
    let i = c.loop-place.place in
    let u = c.index-units-place.result in
    let here = pair_at us cs i u c.in-Some.is_compiled (slice_get_read us (length us) i u refl c.loop-place-test.true c.index-units-place.is) (sym c.in-Some.ensures) in
    let p = err_from_is_err_and c.from_residual.result c.from_residual.ensures.1 in
    rw (p.1, p.2)
    (one_refused IsState (g.F.Files.reads c.args.files.now) (g.F.Files.reads c.loop-place.files) (g.F.Files.reads c.state_of.new.files) (pairs us cs) i c.loop-place.states.items (u, c.in-Some.is_compiled) here c.loop-place.invariant.read
    may_state c.in_err-state-in-Some.field-0.0 (g.F.Files.faults c.args.files.now) (g.F.Files.faults c.loop-place.files) (g.F.Files.faults c.state_of.new.files) c.loop-place.invariant.later c.in_err-state-in-Some.ensures.refused)

pub returns-in_err-push-in-Some-clause-refused : goal.returns-in_err-push-in-Some-clause-refused
returns-in_err-push-in-Some-clause-refused g c =
    let us = c.args.units.now in
    let cs = c.args.choices.now in
    let i = c.loop-place.place in
    let u = c.index-units-place.result in
    let here = pair_at us cs i u c.in-Some.is_compiled (slice_get_read us (length us) i u refl c.loop-place-test.true c.index-units-place.is) (sym c.in-Some.ensures) in
    let p = err_from_is_err_and c.from_residual-in_err-push-in-Some.result c.from_residual-in_err-push-in-Some.ensures.1 in
    rw (p.1, p.2)
    (one_wanting IsState (g.F.Files.reads c.args.files.now) (g.F.Files.reads c.loop-place.files) (g.F.Files.reads c.state_of.new.files) (pairs us cs) i c.loop-place.states.items (u, c.in-Some.is_compiled) here c.loop-place.invariant.read
    may_state (c.in_ok-state-in-Some.state ∷ []) NoMemory (g.F.Files.faults c.args.files.now) (g.F.Files.faults c.state_of.new.files) refl c.in_ok-state-in-Some.ensures.read)

pub returns-in-None-clause-read : goal.returns-in-None-clause-read
returns-in-None-clause-read g c =
    let us = c.args.units.now in
    let cs = c.args.choices.now in
    all_stopped IsState (g.F.Files.reads c.args.files.now) (g.F.Files.reads c.loop-place.files) (pairs us cs) c.loop-place.place c.loop-place.states.items (pair_none us cs c.loop-place.place (sym c.in-None.ensures)) c.loop-place.invariant.read

pub loop-place-preserved : goal.loop-place-preserved
loop-place-preserved g c =
    let us = c.args.units.now in
    let cs = c.args.choices.now in
    let i = c.loop-place.place in
    let u = c.index-units-place.result in
    let here = pair_at us cs i u c.in-Some.is_compiled (slice_get_read us (length us) i u refl c.loop-place-test.true c.index-units-place.is) (sym c.in-Some.ensures) in
    record {
      read = one_more IsState (g.F.Files.reads c.args.files.now) (g.F.Files.reads c.loop-place.files) (g.F.Files.reads c.state_of.new.files) (pairs us cs) i c.loop-place.states.items (u, c.in-Some.is_compiled) here c.loop-place.invariant.read
          (c.in_ok-state-in-Some.state ∷ []) c.push.new.self.items c.in_ok-push-in-Some.ensures.items c.in_ok-state-in-Some.ensures.read;
      later = omega (arith, c.loop-place.invariant.later, c.state_of.ensures.later);
    }

pub returns-clause-read : goal.returns-clause-read
returns-clause-read g c =
    let us = c.args.units.now in
    let cs = c.args.choices.now in
    all_stopped IsState (g.F.Files.reads c.args.files.now) (g.F.Files.reads c.loop-place.files) (pairs us cs) c.loop-place.place c.loop-place.states.items (pair_end us cs c.loop-place.place c.loop-place-test.false) c.loop-place.invariant.read
