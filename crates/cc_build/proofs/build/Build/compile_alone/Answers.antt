use Rattle.std.proofs.Common.{◌∙◌, ◌≡◌, inl, ℕ, List, [], Ok, Err, refl, sym, ap, subst}
use Rattle.std.proofs.lemmas.Result.{err_from_is_err_and}
use Rattle.cc_host.specs.Part.{since}
use Rattle.cc_host.specs.Question.{Answer, Agrees, answers, Holds}
use Rattle.cc_flags.specs.Given.{probe_folder}
use Rattle.cc_plan.specs.Questions.{RunAsks}
use Rattle.cc_plan.specs.Refusal.{intermediate_refusal}
use Rattle.cc_plan.proofs.LineLemmas.{since_none}
use Rattle.cc_tool.specs.Asked.{question_events}
use Rattle.cc_tool.proofs.Asides.{asked_none}
use Rattle.cc_build.specs.Build.{BuildSeen, AsksByRun}
use Rattle.cc_build.specs.Course.{course}
use Rattle.cc_build.specs.Intermediates.{IntermediateEnds}
use Rattle.cc_build.specs.Kept.{AsksOn}
use Rattle.cc_build.specs.Shows.{shows_of}
use Rattle.cc_build.specs.Stage.{IsRun}
use Rattle.cc_build.specs.Went.{means}
use Rattle.cc_build.proofs.Growing.{on_asked}
use Rattle.cc_build.proofs.IntermediateLaws.{alone_unchecked, alone_behind}
use Rattle.cc_build.proofs.Outcomes.{made_or_memory}
use Rattle.cc_build.proofs.Stages.{plan_cause}
use Rattle.cc_build.proofs.ToldLaws.{sources_are}
use Rattle.cc_build.proofs.build.Build.compile_alone.Goals as goal

pub compile_and_tell-requires-clause-plain : goal.compile_and_tell-requires-clause-plain
compile_and_tell-requires-clause-plain g c = λ κs lives. subst (IsRun c.self.inside.config) (sym c.source_reads.ensures) (sources_are c.self.inside.config)

pub returns-in-Err-clause-outcome : goal.returns-in-Err-clause-outcome
returns-in-Err-clause-outcome g c =
    let old = g.H.Host.log c.args.host.now in
    let total = g.J.Jobs.total c.args.seat.now in
    let patience = g.H.Host.patience c.args.host.now in
    let faults = g.J.Jobs.faults c.args.seat.now in
    let taken = g.J.Jobs.taken c.args.seat.now in
    let load = g.J.Jobs.load c.args.seat.now in
    let x = means c.args.turns faults taken load in
    let set = c.self.inside.config in
    let env = c.self.inside.env in
    subst (λ (b : BuildSeen). Holds (answers (since old old)) (λ look. (left : ℕ) × IntermediateEnds {T = List (List ℕ)} b (g.H.Host.listens c.args.host.now) (Err c.or_no_memory.result) look (since old old) (course total patience x (means left faults taken load)))) c.self.view_is
    (record {
      under = λ look agree. (
        c.args.turns,
        alone_unchecked set env (g.H.Host.listens c.args.host.now) look total patience (since old old) c.or_no_memory.result x (since_none old)
            (plan_cause set env [] c.in-Err.error c.or_no_memory.result (intermediate_refusal set env)
            (made_or_memory c.plan_error.result c.or_no_memory.result _ c.or_no_memory.ensures c.plan_error.ensures) c.in-Err.ensures.refused),
      );
    })

pub returns-in-Err-clause-asked : goal.returns-in-Err-clause-asked
returns-in-Err-clause-asked g c = asked_none _ _ _ _ (since (g.H.Host.log c.args.host.now) (g.H.Host.log c.args.host.now)) (ap question_events (since_none (g.H.Host.log c.args.host.now)))

pub returns-in_err-paths-clause-outcome : goal.returns-in_err-paths-clause-outcome
returns-in_err-paths-clause-outcome g c =
    let p = err_from_is_err_and c.from_residual.result c.from_residual.ensures.1 in
    let old = g.H.Host.log c.args.host.now in
    let total = g.J.Jobs.total c.args.seat.now in
    let patience = g.H.Host.patience c.args.host.now in
    let faults = g.J.Jobs.faults c.args.seat.now in
    let taken = g.J.Jobs.taken c.args.seat.now in
    let load = g.J.Jobs.load c.args.seat.now in
    let x = means c.args.turns faults taken load in
    rw (p.1, p.2)
    (subst (λ (b : BuildSeen). Holds (answers (since old old)) (λ look. (left : ℕ) × IntermediateEnds {T = List (List ℕ)} b (g.H.Host.listens c.args.host.now) (Err _) look (since old old) (course total patience x (means left faults taken load)))) c.self.view_is
    (record {
      under = λ look agree. (
        c.args.turns,
        alone_unchecked c.self.inside.config c.self.inside.env (g.H.Host.listens c.args.host.now) look total patience (since old old) _ x (since_none old) (inl refl),
      );
    }))

pub returns-in_err-paths-clause-asked : goal.returns-in_err-paths-clause-asked
returns-in_err-paths-clause-asked g c = asked_none _ _ _ _ (since (g.H.Host.log c.args.host.now) (g.H.Host.log c.args.host.now)) (ap question_events (since_none (g.H.Host.log c.args.host.now)))

pub returns-in-Err-compile_and_tell-clause-asked : goal.returns-in-Err-compile_and_tell-clause-asked
returns-in-Err-compile_and_tell-clause-asked g c =
    let old = g.H.Host.log c.args.host.now in
    let new = g.H.Host.log c.compile_and_tell.new.host in
    let set = c.self.inside.config in
    let env = c.self.inside.env in
    let on : AsksOn g.W.World.steady g.W.World.answer (probe_folder set env) (RunAsks set env) (since old new) [] c.compile_and_tell.new.answers =
    subst (λ (l : List Answer). AsksOn g.W.World.steady g.W.World.answer (probe_folder set env) (RunAsks set env) (since old new) l c.compile_and_tell.new.answers) c.new-answers.ensures c.compile_and_tell.ensures.asks.asks in
    subst (λ (b : BuildSeen). AsksByRun g.W.World.steady g.W.World.answer b (since old new)) c.self.view_is (on_asked g.W.World.steady g.W.World.answer (probe_folder set env) (RunAsks set env) (since old new) c.compile_and_tell.new.answers on).0

pub returns-in-Err-compile_and_tell-clause-outcome : goal.returns-in-Err-compile_and_tell-clause-outcome
returns-in-Err-compile_and_tell-clause-outcome g c =
    let old = g.H.Host.log c.args.host.now in
    let new = g.H.Host.log c.compile_and_tell.new.host in
    let set = c.self.inside.config in
    let env = c.self.inside.env in
    let on : AsksOn g.W.World.steady g.W.World.answer (probe_folder set env) (RunAsks set env) (since old new) [] c.compile_and_tell.new.answers =
    subst (λ (l : List Answer). AsksOn g.W.World.steady g.W.World.answer (probe_folder set env) (RunAsks set env) (since old new) l c.compile_and_tell.new.answers) c.new-answers.ensures c.compile_and_tell.ensures.asks.asks in
    let total = g.J.Jobs.total c.args.seat.now in
    let patience = g.H.Host.patience c.args.host.now in
    let x = means c.args.turns (g.J.Jobs.faults c.args.seat.now) (g.J.Jobs.taken c.args.seat.now) (g.J.Jobs.load c.args.seat.now) in
    let faults = g.J.Jobs.faults c.compile_and_tell.new.seat in
    let taken = g.J.Jobs.taken c.compile_and_tell.new.seat in
    let load = g.J.Jobs.load c.compile_and_tell.new.seat in
    let left = c.compile_and_tell.new.turns.left in
    let same : c.compile_and_tell.new.answers ≡ answers (since old new) = (on_asked g.W.World.steady g.W.World.answer (probe_folder set env) (RunAsks set env) (since old new) c.compile_and_tell.new.answers on).1 in
    subst (λ (b : BuildSeen). Holds (answers (since old new)) (λ look. (left : ℕ) × IntermediateEnds {T = List (List ℕ)} b (g.H.Host.listens c.args.host.now) (Err c.in-Err-compile_and_tell.error) look (since old new) (course total patience x (means left faults taken load)))) c.self.view_is
    (record {
      under = λ look agree. (
        left,
        alone_behind set env (g.H.Host.listens c.args.host.now) look total patience {T = Unit {0}} c.shows_of-shows.result c.source_reads.result (since old new) (Err c.in-Err-compile_and_tell.error) x (means left faults taken load) c.in-Ok.ensures.allowed (c.shows_of-shows.ensures ∙ ap (shows_of set env) c.listens.ensures) c.source_reads.ensures
            (c.in-Err-compile_and_tell.ensures.outcome.under look (subst (Agrees look) (sym same) agree)),
      );
    })

pub returns-in-Ok-compile_and_tell-clause-asked : goal.returns-in-Ok-compile_and_tell-clause-asked
returns-in-Ok-compile_and_tell-clause-asked g c =
    let old = g.H.Host.log c.args.host.now in
    let new = g.H.Host.log c.compile_and_tell.new.host in
    let set = c.self.inside.config in
    let env = c.self.inside.env in
    let on : AsksOn g.W.World.steady g.W.World.answer (probe_folder set env) (RunAsks set env) (since old new) [] c.compile_and_tell.new.answers =
    subst (λ (l : List Answer). AsksOn g.W.World.steady g.W.World.answer (probe_folder set env) (RunAsks set env) (since old new) l c.compile_and_tell.new.answers) c.new-answers.ensures c.compile_and_tell.ensures.asks.asks in
    subst (λ (b : BuildSeen). AsksByRun g.W.World.steady g.W.World.answer b (since old new)) c.self.view_is (on_asked g.W.World.steady g.W.World.answer (probe_folder set env) (RunAsks set env) (since old new) c.compile_and_tell.new.answers on).0

pub returns-in-Ok-compile_and_tell-clause-outcome : goal.returns-in-Ok-compile_and_tell-clause-outcome
returns-in-Ok-compile_and_tell-clause-outcome g c =
    let old = g.H.Host.log c.args.host.now in
    let new = g.H.Host.log c.compile_and_tell.new.host in
    let set = c.self.inside.config in
    let env = c.self.inside.env in
    let on : AsksOn g.W.World.steady g.W.World.answer (probe_folder set env) (RunAsks set env) (since old new) [] c.compile_and_tell.new.answers =
    subst (λ (l : List Answer). AsksOn g.W.World.steady g.W.World.answer (probe_folder set env) (RunAsks set env) (since old new) l c.compile_and_tell.new.answers) c.new-answers.ensures c.compile_and_tell.ensures.asks.asks in
    let total = g.J.Jobs.total c.args.seat.now in
    let patience = g.H.Host.patience c.args.host.now in
    let x = means c.args.turns (g.J.Jobs.faults c.args.seat.now) (g.J.Jobs.taken c.args.seat.now) (g.J.Jobs.load c.args.seat.now) in
    let faults = g.J.Jobs.faults c.compile_and_tell.new.seat in
    let taken = g.J.Jobs.taken c.compile_and_tell.new.seat in
    let load = g.J.Jobs.load c.compile_and_tell.new.seat in
    let left = c.compile_and_tell.new.turns.left in
    let same : c.compile_and_tell.new.answers ≡ answers (since old new) = (on_asked g.W.World.steady g.W.World.answer (probe_folder set env) (RunAsks set env) (since old new) c.compile_and_tell.new.answers on).1 in
    subst (λ (b : BuildSeen). Holds (answers (since old new)) (λ look. (left : ℕ) × IntermediateEnds {T = List (List ℕ)} b (g.H.Host.listens c.args.host.now) (Ok c.in_ok-paths.paths) look (since old new) (course total patience x (means left faults taken load)))) c.self.view_is
    (record {
      under = λ look agree. (
        left,
        alone_behind set env (g.H.Host.listens c.args.host.now) look total patience {T = Unit {0}} c.shows_of-shows.result c.source_reads.result (since old new) (Ok (tt {0})) x (means left faults taken load) c.in-Ok.ensures.allowed (c.shows_of-shows.ensures ∙ ap (shows_of set env) c.listens.ensures) c.source_reads.ensures
            (c.in-Ok-compile_and_tell.ensures.outcome.under look (subst (Agrees look) (sym same) agree)),
      );
    })
