use Rattle.std.proofs.Common.{◌≡◌, ◌<◌, ◌∷◌, [], List, length, drop, suc, refl, arith}
use Rattle.std.proofs.lemmas.Result.{err_from_is_err_and}
use Rattle.cc_host.specs.Part.{since}
use Rattle.cc_host.specs.Question.{answers, exists_question}
use Rattle.cc_build.specs.Build.{probes}
use Rattle.cc_build.proofs.Growing.{asking_aside, asking_then, agrees_earlier}
use Rattle.cc_build.proofs.Keeping.{aside_none}
use Rattle.cc_fresh.specs.Choice.{AsksForObject, HasReason}
use Rattle.cc_fresh.specs.declared.file.ReadError.TheVariants.{NoMemory}
use Rattle.cc_fresh.proofs.AskLaws.{asking_wider, asks_here, quiet_none, quiet_then}
use Rattle.cc_fresh.proofs.ChoiceLaws.{has_one, has_any, may_reason}
use Rattle.cc_fresh.proofs.InTurnLaws.{all_read, none_read, one_more, one_refused, one_wanting}
use Rattle.cc_fresh.proofs.Places.{drop_at}
use Rattle.cc_fresh.proofs.choice.reasons_of.Goals as goal

pub returns-in_err-reason-clause-asks : goal.returns-in_err-reason-clause-asks
returns-in_err-reason-clause-asks g c =
    let b = c.args.build.now in
    let units = c.args.units.now in
    let u = c.unit-item.result in
    asking_then g.W.World.steady g.W.World.answer (probes b) (AsksForObject units) g.H.Host.log g.H.Host.patience c.args.host.now c.loop-unit.host c.reason_of.new.host _ _ _ c.loop-unit.invariant.asks
    (asking_wider g.W.World.steady g.W.World.answer (probes b) (λ look q. q ≡ exists_question u.object) (AsksForObject units) (asks_here units c.loop-unit.unit-index u u.object c.loop-unit-test.true c.unit-item.is refl) g.H.Host.log g.H.Host.patience c.loop-unit.host c.reason_of.new.host c.loop-unit.answers c.reason_of.new.answers c.reason_of.ensures.asks)

pub returns-in_err-reason-clause-refused : goal.returns-in_err-reason-clause-refused
returns-in_err-reason-clause-refused g c =
    let old = g.F.Files.reads c.args.files.now in
    let mid = g.F.Files.reads c.loop-unit.files in
    let new = g.F.Files.reads c.reason_of.new.files in
    let kept = c.args.kept.now in
    let units = c.args.units.now in
    let i = c.loop-unit.unit-index in
    let u = c.unit-item.result in
    let here = drop_at units i u c.loop-unit-test.true c.unit-item.is in
    let part = since (g.H.Host.log c.loop-unit.host) (g.H.Host.log c.reason_of.new.host) in
    let b = g.F.Files.faults c.args.files.now in
    let m = g.F.Files.faults c.loop-unit.files in
    let n = g.F.Files.faults c.reason_of.new.files in
    let e = c.in_err-reason.field-0.0 in
    let p = err_from_is_err_and c.from_residual.result c.from_residual.ensures.1 in
    rw (p.1, p.2)
    (record {
      under = λ look agree.
          one_refused (HasReason kept look) old mid new units i c.loop-unit.reasons u here (c.loop-unit.invariant.read.under look (agrees_earlier look c.loop-unit.answers c.reason_of.new.answers (answers part) c.reason_of.ensures.asks.asks.answered agree))
          (may_reason kept look) e b m n c.loop-unit.invariant.later (has_any kept look u mid new e m n (c.in_err-reason.ensures.refused.under look agree));
    })

pub returns-in_err-push-clause-asks : goal.returns-in_err-push-clause-asks
returns-in_err-push-clause-asks g c =
    let b = c.args.build.now in
    let units = c.args.units.now in
    let u = c.unit-item.result in
    asking_then g.W.World.steady g.W.World.answer (probes b) (AsksForObject units) g.H.Host.log g.H.Host.patience c.args.host.now c.loop-unit.host c.reason_of.new.host _ _ _ c.loop-unit.invariant.asks
    (asking_wider g.W.World.steady g.W.World.answer (probes b) (λ look q. q ≡ exists_question u.object) (AsksForObject units) (asks_here units c.loop-unit.unit-index u u.object c.loop-unit-test.true c.unit-item.is refl) g.H.Host.log g.H.Host.patience c.loop-unit.host c.reason_of.new.host c.loop-unit.answers c.reason_of.new.answers c.reason_of.ensures.asks)

pub returns-in_err-push-clause-refused : goal.returns-in_err-push-clause-refused
returns-in_err-push-clause-refused g c =
    let old = g.F.Files.reads c.args.files.now in
    let mid = g.F.Files.reads c.loop-unit.files in
    let new = g.F.Files.reads c.reason_of.new.files in
    let kept = c.args.kept.now in
    let units = c.args.units.now in
    let i = c.loop-unit.unit-index in
    let u = c.unit-item.result in
    let here = drop_at units i u c.loop-unit-test.true c.unit-item.is in
    let part = since (g.H.Host.log c.loop-unit.host) (g.H.Host.log c.reason_of.new.host) in
    let p = err_from_is_err_and c.from_residual-in_err-push.result c.from_residual-in_err-push.ensures.1 in
    rw (p.1, p.2)
    (record {
      under = λ look agree.
          one_wanting (HasReason kept look) old mid new units i c.loop-unit.reasons u here (c.loop-unit.invariant.read.under look (agrees_earlier look c.loop-unit.answers c.reason_of.new.answers (answers part) c.reason_of.ensures.asks.asks.answered agree))
          (may_reason kept look) (c.in_ok-reason.reason ∷ []) NoMemory (g.F.Files.faults c.args.files.now) (g.F.Files.faults c.reason_of.new.files) refl (has_one kept look u mid new c.in_ok-reason.reason (c.in_ok-reason.ensures.read.under look agree));
    })

pub loop-unit-preserved : goal.loop-unit-preserved
loop-unit-preserved g c =
    let b = c.args.build.now in
    let old = g.F.Files.reads c.args.files.now in
    let mid = g.F.Files.reads c.loop-unit.files in
    let new = g.F.Files.reads c.reason_of.new.files in
    let kept = c.args.kept.now in
    let units = c.args.units.now in
    let i = c.loop-unit.unit-index in
    let u = c.unit-item.result in
    let here = drop_at units i u c.loop-unit-test.true c.unit-item.is in
    let part = since (g.H.Host.log c.loop-unit.host) (g.H.Host.log c.reason_of.new.host) in
    record {
      asks = asking_then g.W.World.steady g.W.World.answer (probes b) (AsksForObject units) g.H.Host.log g.H.Host.patience c.args.host.now c.loop-unit.host c.reason_of.new.host _ _ _ c.loop-unit.invariant.asks
          (asking_wider g.W.World.steady g.W.World.answer (probes b) (λ look q. q ≡ exists_question u.object) (AsksForObject units) (asks_here units i u u.object c.loop-unit-test.true c.unit-item.is refl) g.H.Host.log g.H.Host.patience c.loop-unit.host c.reason_of.new.host c.loop-unit.answers c.reason_of.new.answers c.reason_of.ensures.asks);
      quiet = quiet_then (g.H.Host.log c.args.host.now) (g.H.Host.log c.loop-unit.host) (g.H.Host.log c.reason_of.new.host) c.loop-unit.invariant.asks.extends c.reason_of.ensures.asks.extends c.loop-unit.invariant.quiet c.reason_of.ensures.quiet;
      read = record {
        under = λ look agree.
            one_more (HasReason kept look) old mid new units i c.loop-unit.reasons u here (c.loop-unit.invariant.read.under look (agrees_earlier look c.loop-unit.answers c.reason_of.new.answers (answers part) c.reason_of.ensures.asks.asks.answered agree))
            (c.in_ok-reason.reason ∷ []) c.push.new.self c.in_ok-push.ensures.ok (has_one kept look u mid new c.in_ok-reason.reason (c.in_ok-reason.ensures.read.under look agree));
      };
      later = omega (arith, c.loop-unit.invariant.later, c.reason_of.ensures.later);
    }

pub returns-clause-read : goal.returns-clause-read
returns-clause-read g c =
    record {
      under = λ look agree. all_read (HasReason c.args.kept.now look) (g.F.Files.reads c.args.files.now) (g.F.Files.reads c.loop-unit.files) c.args.units.now c.loop-unit.unit-index c.loop-unit.reasons c.loop-unit-test.false (c.loop-unit.invariant.read.under look agree);
    }

pub loop-unit-init : goal.loop-unit-init
loop-unit-init g c =
    let b = c.args.build.now in
    record {
      asks = asking_aside g.W.World.steady g.W.World.answer (probes b) (AsksForObject c.args.units.now) g.H.Host.log g.H.Host.patience c.args.host.now c.args.host.now c.args.answers.now (aside_none g.H.Host.log g.H.Host.patience c.args.host.now);
      quiet = quiet_none (g.H.Host.log c.args.host.now);
      read = record { under = λ look agree. none_read (HasReason c.args.kept.now look) (g.F.Files.reads c.args.files.now) c.args.units.now c.new-reasons.result c.new-reasons.ensures };
      later = omega (arith);
    }
