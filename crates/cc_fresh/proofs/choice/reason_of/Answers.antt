use Rattle.std.proofs.Common.{◌≡◌, ℕ, List, refl, subst}
use Rattle.cc_host.specs.Question.{exists_question}
use Rattle.cc_build.specs.Build.{probes}
use Rattle.cc_build.specs.Kept.{Asking}
use Rattle.cc_fresh.proofs.ChoiceLaws.{reason_wanting}
use Rattle.cc_fresh.proofs.choice.reason_of.Goals as goal

pub returns-in-Err-is_there-clause-asks : goal.returns-in-Err-is_there-clause-asks
returns-in-Err-is_there-clause-asks g c =
    subst (λ (path : List ℕ). Asking g.W.World.steady g.W.World.answer (probes c.args.build.now) (λ look q. q ≡ exists_question path) g.H.Host.log g.H.Host.patience c.args.host.now c.is_there.new.host c.args.answers.now c.is_there.new.answers) c.as_str.ensures c.is_there.ensures.asks

pub returns-in-Err-is_there-clause-refused : goal.returns-in-Err-is_there-clause-refused
returns-in-Err-is_there-clause-refused g c =
    let old = g.F.Files.reads c.args.files.now in
    let x = g.F.Files.faults c.args.files.now in
    record { under = λ look agree. reason_wanting c.args.kept.now look c.args.unit.now old old c.in-Err-is_there.error x x c.in-Err-is_there.ensures.refused refl }

pub returns-clause-asks : goal.returns-clause-asks
returns-clause-asks g c =
    subst (λ (path : List ℕ). Asking g.W.World.steady g.W.World.answer (probes c.args.build.now) (λ look q. q ≡ exists_question path) g.H.Host.log g.H.Host.patience c.args.host.now c.is_there.new.host c.args.answers.now c.is_there.new.answers) c.as_str.ensures c.is_there.ensures.asks
