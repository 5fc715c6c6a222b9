use Rattle.std.proofs.Common.{◌≡◌, ℕ, List, [], ◌∷◌, ◌++◌, Bool, Option, unwrap_or, Ok, Err, ◌∙◌, refl, subst}
use Rattle.std.proofs.lemmas.Result.{err_from_is_err_and}
use Rattle.cc_host.specs.Part.{since}
use Rattle.cc_host.specs.Part.Step.{Removes}
use Rattle.cc_plan.proofs.LineLemmas.{since_none}
use Rattle.cc_plan.specs.Archive.{asks_folder}
use Rattle.cc_plan.specs.Libtool.{listed, lists_of}
use Rattle.cc_target.specs.Targets.{info_seen}
use Rattle.cc_build.specs.Course.{CallsEnd}
use Rattle.cc_build.specs.Error.{no_memory}
use Rattle.cc_build.specs.Phases.{HereEnds}
use Rattle.cc_build.specs.Stage.{writings, asking_steps}
use Rattle.cc_build.proofs.PhaseLaws.{calls_then, calls_stopped, calls_wanting, asked_here, unasked_here}
use Rattle.cc_build.proofs.library.prepare.Goals as goal

pub returns-in_err-list-clause-outcome : goal.returns-in_err-list-clause-outcome
returns-in_err-list-clause-outcome g c =
    let p = err_from_is_err_and c.from_residual.result c.from_residual.ensures.1 in
    let old = g.H.Host.log c.args.host.now in
    rw (p.1, p.2) (λ here. calls_wanting (Removes c.args.library.now.path.now) (writings (lists_of c.args.library.now.archiver.now c.args.library.now.path.now c.args.library.now.paths.now) ++ asking_steps (asks_folder (info_seen c.args.library.now.target.now) c.args.library.now.archiver.now c.args.library.now.path.now c.args.library.now.paths.now) here) (since old old) no_memory (since_none old) refl)

pub returns-in_err-asks-clause-outcome : goal.returns-in_err-asks-clause-outcome
returns-in_err-asks-clause-outcome g c =
    let p = err_from_is_err_and c.from_residual-in_err-asks.result c.from_residual-in_err-asks.ensures.1 in
    let old = g.H.Host.log c.args.host.now in
    rw (p.1, p.2) (λ here. calls_wanting (Removes c.args.library.now.path.now) (writings (lists_of c.args.library.now.archiver.now c.args.library.now.path.now c.args.library.now.paths.now) ++ asking_steps (asks_folder (info_seen c.args.library.now.target.now) c.args.library.now.archiver.now c.args.library.now.path.now c.args.library.now.paths.now) here) (since old old) no_memory (since_none old) refl)

pub returns-in_err-make_ready-clause-outcome : goal.returns-in_err-make_ready-clause-outcome
returns-in_err-make_ready-clause-outcome g c =
    let p = err_from_is_err_and c.from_residual-in_err-make_ready.result c.from_residual-in_err-make_ready.ensures.1 in
    let library = c.args.library.now in
    let part = since (g.H.Host.log c.args.host.now) (g.H.Host.log c.make_ready.new.host) in
    let e = c.in_err-make_ready.field-0.0 in
    rw (p.1, p.2)
    (λ here. calls_stopped (Removes library.path.now ∷ writings (lists_of library.archiver.now library.path.now library.paths.now)) (asking_steps (asks_folder (info_seen library.target.now) library.archiver.now library.path.now library.paths.now) here) part e (subst (λ (l : Option (List ℕ × List ℕ)). CallsEnd {T = Unit {0}} (Removes c.args.library.now.path.now ∷ writings (listed l)) part (Err e)) c.in_ok-list.ensures c.in_err-make_ready.ensures.outcome))

pub returns-in_err-here-clause-outcome : goal.returns-in_err-here-clause-outcome
returns-in_err-here-clause-outcome g c =
    let p = err_from_is_err_and c.from_residual-in_err-here.result c.from_residual-in_err-here.ensures.1 in
    let library = c.args.library.now in
    let old = g.H.Host.log c.args.host.now in
    let mid = g.H.Host.log c.make_ready.new.host in
    let new = g.H.Host.log c.find_here.new.host in
    let e = c.in_err-here.field-0.0 in
    rw (p.1, p.2)
    (λ here. calls_then {T = Unit {0}} (Removes library.path.now ∷ writings (lists_of library.archiver.now library.path.now library.paths.now)) (asking_steps (asks_folder (info_seen library.target.now) library.archiver.now library.path.now library.paths.now) here) old mid new (Err e) c.make_ready.ensures.aside.extends c.find_here.ensures.aside.extends
    (subst (λ (l : Option (List ℕ × List ℕ)). CallsEnd {T = Unit {0}} (Removes c.args.library.now.path.now ∷ writings (listed l)) (since old mid) (Ok tt)) c.in_ok-list.ensures c.in_ok-make_ready.ensures.outcome)
    (subst (λ (asks : Bool). CallsEnd {T = Unit {0}} (asking_steps asks here) (since mid new) (Err e)) c.in_ok-asks.ensures (unasked_here c.in_ok-asks.asks e (since mid new) c.in_err-here.ensures.outcome here)))

pub returns-clause-outcome : goal.returns-clause-outcome
returns-clause-outcome g c =
    let library = c.args.library.now in
    let old = g.H.Host.log c.args.host.now in
    let mid = g.H.Host.log c.make_ready.new.host in
    let new = g.H.Host.log c.find_here.new.host in
    calls_then {T = Unit {0}} (Removes library.path.now ∷ writings (lists_of library.archiver.now library.path.now library.paths.now)) (asking_steps (asks_folder (info_seen library.target.now) library.archiver.now library.path.now library.paths.now) (unwrap_or c.in_ok-here.here [])) old mid new (Ok tt) c.make_ready.ensures.aside.extends c.find_here.ensures.aside.extends
    (subst (λ (l : Option (List ℕ × List ℕ)). CallsEnd {T = Unit {0}} (Removes c.args.library.now.path.now ∷ writings (listed l)) (since old mid) (Ok tt)) c.in_ok-list.ensures c.in_ok-make_ready.ensures.outcome)
    (subst (λ (asks : Bool). CallsEnd {T = Unit {0}} (asking_steps asks (unwrap_or c.in_ok-here.here [])) (since mid new) (Ok tt)) c.in_ok-asks.ensures (asked_here c.in_ok-asks.asks c.in_ok-here.here (since mid new) c.in_ok-here.ensures.outcome))
