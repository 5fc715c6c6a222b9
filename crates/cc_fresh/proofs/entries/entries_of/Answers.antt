use Rattle.std.proofs.Common.{◌≡◌, ◌<◌, length, option_to_list, refl, sym, arith}
use Rattle.std.proofs.lemmas.Option.{slice_get_read}
use Rattle.std.proofs.lemmas.Result.{err_from_is_err_and}
use Rattle.cc_fresh.specs.Entries.{IsEntry}
use Rattle.cc_fresh.specs.InTurn.{pairs}
use Rattle.cc_fresh.specs.declared.file.ReadError.TheVariants.{NoMemory}
use Rattle.cc_fresh.proofs.EntryLaws.{may_enter}
use Rattle.cc_fresh.proofs.InTurnLaws.{all_stopped, one_more, one_refused, one_wanting, pair_at, pair_none, pair_end}
use Rattle.cc_fresh.proofs.entries.entries_of.Goals as goal

pub returns-in_err-entry-in-Some-clause-refused : goal.returns-in_err-entry-in-Some-clause-refused
returns-in_err-entry-in-Some-clause-refused g c =
    let us = c.args.units.now in
    let ss = c.args.states.now in
    let fact = IsEntry c.args.checks_object c.args.kept.now in
    let i = c.loop-place.place in
    let u = c.index-units-place.result in
    let here = pair_at us ss i u c.in-Some.state.now (slice_get_read us (length us) i u refl c.loop-place-test.true c.index-units-place.is) (sym c.in-Some.ensures) in
    let p = err_from_is_err_and c.from_residual.result c.from_residual.ensures.1 in
    rw (p.1, p.2)
    (one_refused fact (g.F.Files.reads c.args.files.now) (g.F.Files.reads c.loop-place.files) (g.F.Files.reads c.entry_made.new.files) (pairs us ss) i c.loop-place.record (u, c.in-Some.state.now) here c.loop-place.invariant.read
    (may_enter c.args.checks_object c.args.kept.now) c.in_err-entry-in-Some.field-0.0 (g.F.Files.faults c.args.files.now) (g.F.Files.faults c.loop-place.files) (g.F.Files.faults c.entry_made.new.files) c.loop-place.invariant.later c.in_err-entry-in-Some.ensures.refused)

pub returns-in_err-push_entry-in-Some-clause-refused : goal.returns-in_err-push_entry-in-Some-clause-refused
returns-in_err-push_entry-in-Some-clause-refused g c =
    let us = c.args.units.now in
    let ss = c.args.states.now in
    let fact = IsEntry c.args.checks_object c.args.kept.now in
    let i = c.loop-place.place in
    let u = c.index-units-place.result in
    let here = pair_at us ss i u c.in-Some.state.now (slice_get_read us (length us) i u refl c.loop-place-test.true c.index-units-place.is) (sym c.in-Some.ensures) in
    let p = err_from_is_err_and c.from_residual-in_err-push_entry-in-Some.result c.from_residual-in_err-push_entry-in-Some.ensures.1 in
    rw (p.1, p.2)
    (one_wanting fact (g.F.Files.reads c.args.files.now) (g.F.Files.reads c.loop-place.files) (g.F.Files.reads c.entry_made.new.files) (pairs us ss) i c.loop-place.record (u, c.in-Some.state.now) here c.loop-place.invariant.read
    (may_enter c.args.checks_object c.args.kept.now) (option_to_list c.in_ok-entry-in-Some.entry) NoMemory (g.F.Files.faults c.args.files.now) (g.F.Files.faults c.entry_made.new.files) refl c.in_ok-entry-in-Some.ensures.read)

pub returns-in-None-clause-read : goal.returns-in-None-clause-read
returns-in-None-clause-read g c =
    let us = c.args.units.now in
    let ss = c.args.states.now in
    all_stopped (IsEntry c.args.checks_object c.args.kept.now) (g.F.Files.reads c.args.files.now) (g.F.Files.reads c.loop-place.files) (pairs us ss) c.loop-place.place c.loop-place.record (pair_none us ss c.loop-place.place (sym c.in-None.ensures)) c.loop-place.invariant.read

pub loop-place-preserved : goal.loop-place-preserved
loop-place-preserved g c =
    let us = c.args.units.now in
    let ss = c.args.states.now in
    let fact = IsEntry c.args.checks_object c.args.kept.now in
    let i = c.loop-place.place in
    let u = c.index-units-place.result in
    let here = pair_at us ss i u c.in-Some.state.now (slice_get_read us (length us) i u refl c.loop-place-test.true c.index-units-place.is) (sym c.in-Some.ensures) in
    record {
      read = one_more fact (g.F.Files.reads c.args.files.now) (g.F.Files.reads c.loop-place.files) (g.F.Files.reads c.entry_made.new.files) (pairs us ss) i c.loop-place.record (u, c.in-Some.state.now) here c.loop-place.invariant.read
          (option_to_list c.in_ok-entry-in-Some.entry) c.push_entry.new.record c.in_ok-push_entry-in-Some.ensures c.in_ok-entry-in-Some.ensures.read;
      later = omega (arith, c.loop-place.invariant.later, c.entry_made.ensures.later);
    }

pub returns-clause-read : goal.returns-clause-read
returns-clause-read g c =
    let us = c.args.units.now in
    let ss = c.args.states.now in
    all_stopped (IsEntry c.args.checks_object c.args.kept.now) (g.F.Files.reads c.args.files.now) (g.F.Files.reads c.loop-place.files) (pairs us ss) c.loop-place.place c.loop-place.record (pair_end us ss c.loop-place.place c.loop-place-test.false) c.loop-place.invariant.read
