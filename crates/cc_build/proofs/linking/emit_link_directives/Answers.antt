use Rattle.std.proofs.Common.{◌≡◌, inl, List, [], Err, refl, sym, ap, subst}
use Rattle.std.proofs.lemmas.Result.{err_from_is_err_and}
use Rattle.cc_host.specs.Part.{since}
use Rattle.cc_host.specs.Question.{Answer, Agrees, answers, Holds}
use Rattle.cc_flags.specs.Given.{probe_folder}
use Rattle.cc_plan.specs.Questions.{RunAsks}
use Rattle.cc_plan.specs.declared.error.PlanError.TheVariants.{NoMemory as WantsMemory}
use Rattle.cc_plan.proofs.LineLemmas.{since_none}
use Rattle.cc_run.specs.declared.planned.Shows.{Shows}
use Rattle.cc_build.specs.Build.{BuildSeen}
use Rattle.cc_build.specs.Error.{no_memory}
use Rattle.cc_build.specs.Kept.{AsksOn}
use Rattle.cc_build.specs.Linking.{DirectivesEnd}
use Rattle.cc_build.proofs.Growing.{on_asked}
use Rattle.cc_build.proofs.LinkingLaws.{path_refused, lines_ended}
use Rattle.cc_build.proofs.Outcomes.{made_or_memory}
use Rattle.cc_build.specs.Stage.{IsRun}
use Rattle.cc_build.proofs.ToldLaws.{links_are}
use Rattle.cc_build.proofs.linking.emit_link_directives.Goals as goal

pub print_links-requires-clause-plain : goal.print_links-requires-clause-plain
print_links-requires-clause-plain g c = λ κs lives. subst (IsRun c.build.inside.config) (sym c.link_reads.ensures) (links_are c.build.inside.config)

pub returns-in-Err-clause-outcome : goal.returns-in-Err-clause-outcome
returns-in-Err-clause-outcome g c =
    let old = g.H.Host.log c.args.host.now in
    subst (λ (b : BuildSeen). Holds (answers (since old old)) (λ look. DirectivesEnd {T = Unit {0}} b c.args.listens c.args.library.now (Err c.or_no_memory.result) look (since old old))) c.build.view_is
    (record {
      under = λ look agree.
          path_refused c.build.inside.config c.build.inside.env c.args.listens look c.args.library.now (since old old) c.or_no_memory.result c.in-Err.error (since_none old)
          (made_or_memory c.plan_error.result c.or_no_memory.result _ c.or_no_memory.ensures c.plan_error.ensures) c.in-Err.ensures.refused;
    })

pub returns-in_err-of-clause-outcome : goal.returns-in_err-of-clause-outcome
returns-in_err-of-clause-outcome g c =
    let old = g.H.Host.log c.args.host.now in
    let p = err_from_is_err_and c.from_residual.result c.from_residual.ensures.1 in
    rw (p.1, p.2)
    (subst (λ (b : BuildSeen). Holds (answers (since old old)) (λ look. DirectivesEnd {T = Unit {0}} b c.args.listens c.args.library.now (Err _) look (since old old))) c.build.view_is
    (record { under = λ look agree. path_refused c.build.inside.config c.build.inside.env c.args.listens look c.args.library.now (since old old) no_memory WantsMemory (since_none old) (inl refl) (inl refl) }))

pub returns-in_err-of-2-clause-outcome : goal.returns-in_err-of-2-clause-outcome
returns-in_err-of-2-clause-outcome g c =
    let old = g.H.Host.log c.args.host.now in
    let p = err_from_is_err_and c.from_residual-in_err-of-2.result c.from_residual-in_err-of-2.ensures.1 in
    rw (p.1, p.2)
    (subst (λ (b : BuildSeen). Holds (answers (since old old)) (λ look. DirectivesEnd {T = Unit {0}} b c.args.listens c.args.library.now (Err _) look (since old old))) c.build.view_is
    (record { under = λ look agree. path_refused c.build.inside.config c.build.inside.env c.args.listens look c.args.library.now (since old old) no_memory WantsMemory (since_none old) (inl refl) (inl refl) }))

pub returns-clause-outcome : goal.returns-clause-outcome
returns-clause-outcome g c =
    let old = g.H.Host.log c.args.host.now in
    let new = g.H.Host.log c.print_links.new.host in
    let set = c.build.inside.config in
    let env = c.build.inside.env in
    let on : AsksOn g.W.World.steady g.W.World.answer (probe_folder set env) (RunAsks set env) (since old new) [] c.print_links.new.answers =
    subst (λ (l : List Answer). AsksOn g.W.World.steady g.W.World.answer (probe_folder set env) (RunAsks set env) (since old new) l c.print_links.new.answers) c.new-answers.ensures c.print_links.ensures.asks.asks in
    let same : c.print_links.new.answers ≡ answers (since old new) = (on_asked g.W.World.steady g.W.World.answer (probe_folder set env) (RunAsks set env) (since old new) c.print_links.new.answers on).1 in
    subst (λ (b : BuildSeen). Holds (answers (since old new)) (λ look. DirectivesEnd b c.args.listens c.args.library.now c.print_links.result look (since old new))) c.build.view_is
    (record {
      under = λ look agree.
          lines_ended set env c.args.listens look c.args.library.now (since old new) _ _ _ c.in-Ok.found _ _ c.in-Ok.found.0 _ c.print_links.result c.link_reads.ensures (ap (λ (s : Shows). s.listens) c.shows_of.ensures) c.in-Ok.ensures.found refl c.in_ok-of-2.ensures
          (c.print_links.ensures.outcome.under look (subst (Agrees look) (sym same) agree));
    })
