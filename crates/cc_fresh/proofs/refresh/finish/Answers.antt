use Rattle.std.proofs.Common.{List, subst}
use Rattle.cc_host.specs.Part.{since}
use Rattle.cc_plan.proofs.LineLemmas.{since_none}
use Rattle.cc_fresh.specs.Entries.{IsEntry}
use Rattle.cc_fresh.specs.InTurn.{InTurnSome, pairs}
use Rattle.cc_fresh.specs.Reads.{AddsFirst}
use Rattle.cc_fresh.specs.Refresh.{files_seen}
use Rattle.cc_fresh.specs.declared.record.Entry.{Entry}
use Rattle.cc_fresh.specs.declared.unit.UnitState.{UnitState}
use Rattle.cc_fresh.proofs.RefreshLaws.{unfinished, finished, unwritten}
use Rattle.cc_fresh.proofs.refresh.finish.Goals as goal

pub returns-in-Err-clause-outcome : goal.returns-in-Err-clause-outcome
returns-in-Err-clause-outcome g c =
    let old = g.F.Files.reads c.args.files.now in
    let new = g.F.Files.reads c.entries_of.new.files in
    let x = g.F.Files.faults c.args.files.now in
    let y = g.F.Files.faults c.entries_of.new.files in
    let checks = c.args.goal.checks_object in
    let units = c.args.units.now in
    let e = c.in-Err.error in
    let log = g.H.Host.log c.args.host.now in
    unfinished checks c.args.goal.record.now units c.args.choice (files_seen g.F.Files.reads g.F.Files.faults c.args.files.now c.entries_of.new.files) (since log log) e c.error_of.result (since_none log) c.error_of.ensures
    (subst (λ (k : List Entry). AddsFirst old new (InTurnSome (IsEntry checks k) (pairs units c.args.choice.states.items)) e x y) c.as_slice-kept.ensures
    (subst (λ (l : List UnitState). AddsFirst old new (InTurnSome (IsEntry checks c.as_slice-kept.result.now) (pairs units l)) e x y) c.as_slice-states.ensures.value c.in-Err.ensures.refused))

pub returns-in-Ok-write_kept-clause-outcome : goal.returns-in-Ok-write_kept-clause-outcome
returns-in-Ok-write_kept-clause-outcome g c =
    finished c.args.goal.checks_object c.args.goal.record.now c.args.units.now c.args.choice (files_seen g.F.Files.reads g.F.Files.faults c.args.files.now c.entries_of.new.files) (since (g.H.Host.log c.args.host.now) (g.H.Host.log c.write_kept.new.host))
    c.as_slice-kept.result.now c.as_slice-states.result.now c.in-Ok.record c.as_slice-kept.ensures c.as_slice-states.ensures.value c.in-Ok.ensures.read c.in-Ok-write_kept.ensures.outcome

pub returns-in-Err-write_kept-clause-outcome : goal.returns-in-Err-write_kept-clause-outcome
returns-in-Err-write_kept-clause-outcome g c =
    unwritten c.args.goal.checks_object c.args.goal.record.now c.args.units.now c.args.choice (files_seen g.F.Files.reads g.F.Files.faults c.args.files.now c.entries_of.new.files) (since (g.H.Host.log c.args.host.now) (g.H.Host.log c.write_kept.new.host))
    c.as_slice-kept.result.now c.as_slice-states.result.now c.in-Ok.record c.as_slice-kept.ensures c.as_slice-states.ensures.value c.in-Ok.ensures.read c.in-Err-write_kept.error c.in-Err-write_kept.ensures.outcome
