use Rattle.std.proofs.Common.{◌∙◌, [], ◌++◌, Ok, Err, refl, sym, ap, append-nil}
use Rattle.std.proofs.lemmas.Result.{err_from_is_err_and}
use Rattle.cc_host.specs.Part.{since}
use Rattle.cc_host.proofs.Parts.{since_since, since_extends}
use Rattle.cc_tool.proofs.Asides.{asked_none, asked_before, asked_behind}
use Rattle.cc_build.specs.Course.{course}
use Rattle.cc_build.specs.Went.{means}
use Rattle.cc_build.proofs.Looks.{agrees_since}
use Rattle.cc_command.proofs.RecordingLaws.{between_so, wrote_so, unfound_so}
use Rattle.cc_command.proofs.recorded.compile_recorded.Goals as goal

pub returns-clause-answer : goal.returns-clause-answer
returns-clause-answer g c =
    let old = g.H.Host.log c.args.host.now in
    let mid = g.H.Host.log c.find_folder.new.host in
    let end = g.H.Host.log c.try_compile.new.host in
    let new = g.H.Host.log c.write_database.new.host in
    let total = g.J.Jobs.total c.args.seat.now in
    let before = means c.args.to.turns (g.J.Jobs.faults c.args.seat.now) (g.J.Jobs.taken c.args.seat.now) (g.J.Jobs.load c.args.seat.now) in
    let whole = since_extends old mid end c.find_folder.ensures.aside.extends c.try_compile.ensures.extends in
    rw (sym c.find_folder.ensures.ear)
    (record {
      under = λ look agree.
          let first = (agrees_since look old end new whole c.write_database.ensures.aside.extends agree).0 in
          let agreed = (agrees_since look old mid end c.find_folder.ensures.aside.extends c.try_compile.ensures.extends first).1 in
          let built = c.in_ok-try_compile.ensures.built.under look agreed in
          let run = c.in_ok-try_compile.ensures.promises.under look agreed in
          let after = means run.0 (g.J.Jobs.faults c.try_compile.new.seat) (g.J.Jobs.taken c.try_compile.new.seat) (g.J.Jobs.load c.try_compile.new.seat) in (
            run.0,
            between_so (g.H.Host.listens c.find_folder.new.host) look c.args.build.now c.args.to.name.now c.args.to.path.now c.in_ok-here.here (Ok tt) (Ok tt) (since old mid) (since mid end) (since end new) (since old new)
                (since_since old end new whole c.write_database.ensures.aside.extends ∙ ap (λ l. l ++ since end new) (since_since old mid end c.find_folder.ensures.aside.extends c.try_compile.ensures.extends)) c.in_ok-here.ensures.told total
                (g.H.Host.patience c.find_folder.new.host) (g.H.Host.patience c.args.host.now) c.find_folder.ensures.aside.patient before after built.1 run.1
                (wrote_so (g.H.Host.listens c.find_folder.new.host) look c.args.build.now c.args.to.name.now c.args.to.path.now c.in_ok-here.here c.as_str.result.now (course total (g.H.Host.patience c.find_folder.new.host) before after) mid end (since end new) c.try_compile.ensures.extends built.1 c.as_str.ensures c.in_ok-write_database.ensures.wrote),
          );
    })

pub returns-clause-asked : goal.returns-clause-asked
returns-clause-asked g c =
    let old = g.H.Host.log c.args.host.now in
    let mid = g.H.Host.log c.find_folder.new.host in
    let end = g.H.Host.log c.try_compile.new.host in
    let new = g.H.Host.log c.write_database.new.host in
    asked_behind _ _ _ _ old mid new c.find_folder.ensures.aside.extends (since_extends mid end new c.try_compile.ensures.extends c.write_database.ensures.aside.extends) c.find_folder.ensures.aside.asks_none
    (asked_before _ _ _ _ mid end new c.try_compile.ensures.extends c.write_database.ensures.aside.extends c.try_compile.ensures.asked c.write_database.ensures.aside.asks_none)

pub returns-in_err-here-clause-answer : goal.returns-in_err-here-clause-answer
returns-in_err-here-clause-answer g c =
    let p = err_from_is_err_and c.from_residual.result c.from_residual.ensures.1 in
    let before = means c.args.to.turns (g.J.Jobs.faults c.args.seat.now) (g.J.Jobs.taken c.args.seat.now) (g.J.Jobs.load c.args.seat.now) in
    rw (p.1, p.2)
    (record {
      under = λ look agree. (
        c.args.to.turns,
        unfound_so (g.H.Host.listens c.args.host.now) look c.args.build.now c.args.to.name.now c.args.to.path.now c.in_err-here.field-0.0 (since (g.H.Host.log c.args.host.now) (g.H.Host.log c.find_folder.new.host))
            (course (g.J.Jobs.total c.args.seat.now) (g.H.Host.patience c.args.host.now) before before) c.in_err-here.ensures.refused refl,
      );
    })

pub returns-in_err-here-clause-asked : goal.returns-in_err-here-clause-asked
returns-in_err-here-clause-asked g c = asked_none _ _ _ _ (since (g.H.Host.log c.args.host.now) (g.H.Host.log c.find_folder.new.host)) c.find_folder.ensures.aside.asks_none

pub returns-in_err-try_compile-clause-answer : goal.returns-in_err-try_compile-clause-answer
returns-in_err-try_compile-clause-answer g c =
    let p = err_from_is_err_and c.from_residual-in_err-try_compile.result c.from_residual-in_err-try_compile.ensures.1 in
    let old = g.H.Host.log c.args.host.now in
    let mid = g.H.Host.log c.find_folder.new.host in
    let end = g.H.Host.log c.try_compile.new.host in
    let total = g.J.Jobs.total c.args.seat.now in
    let e = c.in_err-try_compile.field-0.0 in
    let before = means c.args.to.turns (g.J.Jobs.faults c.args.seat.now) (g.J.Jobs.taken c.args.seat.now) (g.J.Jobs.load c.args.seat.now) in
    rw (p.1, p.2, sym c.find_folder.ensures.ear)
    (record {
      under = λ look agree.
          let agreed = (agrees_since look old mid end c.find_folder.ensures.aside.extends c.try_compile.ensures.extends agree).1 in
          let run = c.in_err-try_compile.ensures.promises.under look agreed in
          let after = means run.0 (g.J.Jobs.faults c.try_compile.new.seat) (g.J.Jobs.taken c.try_compile.new.seat) (g.J.Jobs.load c.try_compile.new.seat) in (
            run.0,
            between_so (g.H.Host.listens c.find_folder.new.host) look c.args.build.now c.args.to.name.now c.args.to.path.now c.in_ok-here.here (Err e) (Err e) (since old mid) (since mid end) [] (since old end)
                (since_since old mid end c.find_folder.ensures.aside.extends c.try_compile.ensures.extends ∙ sym (append-nil (since old mid ++ since mid end))) c.in_ok-here.ensures.told total
                (g.H.Host.patience c.find_folder.new.host) (g.H.Host.patience c.args.host.now) c.find_folder.ensures.aside.patient before after tt run.1 (refl, refl),
          );
    })

pub returns-in_err-try_compile-clause-asked : goal.returns-in_err-try_compile-clause-asked
returns-in_err-try_compile-clause-asked g c =
    asked_behind _ _ _ _ (g.H.Host.log c.args.host.now) (g.H.Host.log c.find_folder.new.host) (g.H.Host.log c.try_compile.new.host) c.find_folder.ensures.aside.extends c.try_compile.ensures.extends c.find_folder.ensures.aside.asks_none c.try_compile.ensures.asked

pub returns-in_err-write_database-clause-answer : goal.returns-in_err-write_database-clause-answer
returns-in_err-write_database-clause-answer g c =
    let p = err_from_is_err_and c.from_residual-in_err-write_database.result c.from_residual-in_err-write_database.ensures.1 in
    let old = g.H.Host.log c.args.host.now in
    let mid = g.H.Host.log c.find_folder.new.host in
    let end = g.H.Host.log c.try_compile.new.host in
    let new = g.H.Host.log c.write_database.new.host in
    let total = g.J.Jobs.total c.args.seat.now in
    let e = c.in_err-write_database.field-0.0 in
    let before = means c.args.to.turns (g.J.Jobs.faults c.args.seat.now) (g.J.Jobs.taken c.args.seat.now) (g.J.Jobs.load c.args.seat.now) in
    let whole = since_extends old mid end c.find_folder.ensures.aside.extends c.try_compile.ensures.extends in
    rw (p.1, p.2, sym c.find_folder.ensures.ear)
    (record {
      under = λ look agree.
          let first = (agrees_since look old end new whole c.write_database.ensures.aside.extends agree).0 in
          let agreed = (agrees_since look old mid end c.find_folder.ensures.aside.extends c.try_compile.ensures.extends first).1 in
          let built = c.in_ok-try_compile.ensures.built.under look agreed in
          let run = c.in_ok-try_compile.ensures.promises.under look agreed in
          let after = means run.0 (g.J.Jobs.faults c.try_compile.new.seat) (g.J.Jobs.taken c.try_compile.new.seat) (g.J.Jobs.load c.try_compile.new.seat) in (
            run.0,
            between_so (g.H.Host.listens c.find_folder.new.host) look c.args.build.now c.args.to.name.now c.args.to.path.now c.in_ok-here.here (Ok tt) (Err e) (since old mid) (since mid end) (since end new) (since old new)
                (since_since old end new whole c.write_database.ensures.aside.extends ∙ ap (λ l. l ++ since end new) (since_since old mid end c.find_folder.ensures.aside.extends c.try_compile.ensures.extends)) c.in_ok-here.ensures.told total
                (g.H.Host.patience c.find_folder.new.host) (g.H.Host.patience c.args.host.now) c.find_folder.ensures.aside.patient before after built.1 run.1 c.in_err-write_database.ensures.refused,
          );
    })

pub returns-in_err-write_database-clause-asked : goal.returns-in_err-write_database-clause-asked
returns-in_err-write_database-clause-asked g c =
    let old = g.H.Host.log c.args.host.now in
    let mid = g.H.Host.log c.find_folder.new.host in
    let end = g.H.Host.log c.try_compile.new.host in
    let new = g.H.Host.log c.write_database.new.host in
    asked_behind _ _ _ _ old mid new c.find_folder.ensures.aside.extends (since_extends mid end new c.try_compile.ensures.extends c.write_database.ensures.aside.extends) c.find_folder.ensures.aside.asks_none
    (asked_before _ _ _ _ mid end new c.try_compile.ensures.extends c.write_database.ensures.aside.extends c.try_compile.ensures.asked c.write_database.ensures.aside.asks_none)
