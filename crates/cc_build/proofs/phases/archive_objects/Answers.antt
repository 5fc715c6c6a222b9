use Rattle.std.proofs.Common.{◌∙◌, ◌∷◌, ◌++◌, [], false, refl}
use Rattle.std.proofs.lemmas.Result.{err_from_is_err_and}
use Rattle.cc_host.specs.Part.{since}
use Rattle.cc_plan.specs.Plan.{archive_refusal}
use Rattle.cc_build.specs.Kept.{left_at}
use Rattle.cc_build.specs.Refusal.{plan_error}
use Rattle.cc_build.specs.Stage.Stage.{Asks}
use Rattle.cc_build.specs.Way.{writing_of}
use Rattle.cc_build.specs.Went.{terms}
use Rattle.cc_build.proofs.Going.{asked_halted}
use Rattle.cc_build.proofs.Growing.{asking_before}
use Rattle.cc_build.specs.Stage.{library_stages}
use Rattle.cc_build.proofs.PhaseLaws.{archiver_refused, path_refused, library_ends}
use Rattle.cc_build.proofs.phases.archive_objects.Goals as goal

pub returns-in-Err-clause-outcome : goal.returns-in-Err-clause-outcome
returns-in-Err-clause-outcome g c =
    let old = g.H.Host.log c.args.host.now in
    let total = g.J.Jobs.total c.args.seat.now in
    let patience = g.H.Host.patience c.args.host.now in
    let t = terms c.args.shared.now.task.reporting.shows total patience in
    let x = left_at g.J.Jobs.faults g.J.Jobs.taken g.J.Jobs.load c.args.turns.now c.args.seat.now in
    let part = since old (g.H.Host.log c.plan_archiver.new.host) in
    record {
      under = λ look agree. (writing_of false [], asked_halted t (plan_error c.args.shared.now.task.set.now c.args.shared.now.task.env.now c.args.shared.now.task.output.now) (archive_refusal c.args.shared.now.task.set.now c.args.shared.now.task.env.now look) (library_stages c.args.shared.now.task.set.now c.args.shared.now.task.env.now (writing_of false []) look c.args.shared.now.task.output.now ++ Asks ∷ []) part c.in-Err.error x c.plan_archiver.ensures.quiet (archiver_refused c.args.shared.now.task c.in-Err.error look (c.in-Err.ensures.refused.under look agree)));
    }

pub returns-in_err-paths-clause-outcome : goal.returns-in_err-paths-clause-outcome
returns-in_err-paths-clause-outcome g c =
    let p = err_from_is_err_and c.from_residual.result c.from_residual.ensures.1 in
    let old = g.H.Host.log c.args.host.now in
    let total = g.J.Jobs.total c.args.seat.now in
    let patience = g.H.Host.patience c.args.host.now in
    let t = terms c.args.shared.now.task.reporting.shows total patience in
    let x = left_at g.J.Jobs.faults g.J.Jobs.taken g.J.Jobs.load c.args.turns.now c.args.seat.now in
    let part = since old (g.H.Host.log c.plan_archiver.new.host) in
    rw (p.1, p.2)
    (record {
      under = λ look agree. (writing_of false [], asked_halted t (plan_error c.args.shared.now.task.set.now c.args.shared.now.task.env.now c.args.shared.now.task.output.now) (archive_refusal c.args.shared.now.task.set.now c.args.shared.now.task.env.now look) (library_stages c.args.shared.now.task.set.now c.args.shared.now.task.env.now (writing_of false []) look c.args.shared.now.task.output.now ++ Asks ∷ []) part c.in_err-paths.field-0.0 x c.plan_archiver.ensures.quiet (path_refused c.args.shared.now.task c.in-Ok.archiver c.in_err-paths.field-0.0 look (c.in-Ok.ensures.planned.under look agree) c.in_err-paths.ensures.refused));
    })

pub returns-clause-asks : goal.returns-clause-asks
returns-clause-asks g c = asking_before _ _ _ _ g.H.Host.log g.H.Host.patience c.args.host.now c.plan_archiver.new.host c.write_library.new.host _ _ c.plan_archiver.ensures.asks c.write_library.ensures.aside

pub returns-clause-outcome : goal.returns-clause-outcome
returns-clause-outcome g c =
    let old = g.H.Host.log c.args.host.now in
    let total = g.J.Jobs.total c.args.seat.now in
    let patience = g.H.Host.patience c.args.host.now in
    let t = terms c.args.shared.now.task.reporting.shows total patience in
    let x = left_at g.J.Jobs.faults g.J.Jobs.taken g.J.Jobs.load c.args.turns.now c.args.seat.now in
    let mid = g.H.Host.log c.plan_archiver.new.host in
    let new = g.H.Host.log c.write_library.new.host in
    let z = left_at g.J.Jobs.faults g.J.Jobs.taken g.J.Jobs.load c.write_library.new.turns c.write_library.new.seat in
    record {
      under = λ look agree.
          library_ends c.args.shared.now.task (record { target = record { ref_ptr = c.args.shared.now.task.set.ref_ptr; now = c.target_info-target.result }; archiver = record { ref_ptr = c.args.shared.now.task.set.ref_ptr; now = c.in-Ok.archiver }; env = c.args.shared.now.task.env; name = c.as_str-name.result; path = c.as_str-path.result; paths = record { ref_ptr = c.args.shared.now.task.set.ref_ptr; now = c.in_ok-paths.paths } }) look total patience (g.H.Host.patience c.plan_archiver.new.host) old mid new x z c.plan_archiver.ensures.asks.patient c.plan_archiver.ensures.asks.extends c.write_library.ensures.aside.extends c.plan_archiver.ensures.quiet
          (c.in-Ok.ensures.planned.under look agree) c.in_ok-paths.ensures.allowed c.target_info-target.ensures refl (c.as_str-name.ensures ∙ c.requires.name) (c.as_str-path.ensures ∙ c.requires.library) c.in_ok-paths.ensures.paths c.write_library.result c.write_library.ensures.outcome;
    }
