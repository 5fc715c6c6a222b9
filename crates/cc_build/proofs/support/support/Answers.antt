use Rattle.std.proofs.Common.{Bool, [], Err, sym, ap, ◌∙◌, arith}
use Rattle.std.specs.Option.{option_map}
use Rattle.cc_host.specs.Question.{is_yes}
use Rattle.cc_plan.specs.Plan.{warned_steps}
use Rattle.cc_plan.specs.FlagSupport.{support_warnings, support_refusal, flag_verdict, path_of}
use Rattle.cc_plan.proofs.ResultLemmas.{ok_so}
use Rattle.cc_build.specs.FlagSupport.{support_error, support_steps, verdict_error}
use Rattle.cc_build.specs.Refusal.{plan_error}
use Rattle.cc_build.proofs.Outcomes.{made_or_memory}
use Rattle.cc_build.proofs.SupportLaws.{answered_outcome, unanswered, tried_so, untried_so}
use Rattle.cc_build.proofs.Telling.{then_extends, then_answered, then_asked, then_childless, under_then, then_outcome, unplanned_outcome}
use Rattle.cc_build.proofs.support.support.Goals as goal

pub returns-in-Ok-clause-extends : goal.returns-in-Ok-clause-extends
returns-in-Ok-clause-extends g c = then_extends _ _ _ _ _ _ _ _ _ _ c.flag_support.ensures.asks (grind arith) c.requires.fresh c.flag_support.ensures.asks.holds.silent

pub returns-in-Ok-clause-asked : goal.returns-in-Ok-clause-asked
returns-in-Ok-clause-asked g c = (then_asked _ _ _ _ _ _ _ _ _ _ c.flag_support.ensures.asks (grind arith) c.requires.fresh c.flag_support.ensures.asks.holds.silent _ c.probe_folder.ensures)

pub returns-in-Ok-clause-childless : goal.returns-in-Ok-clause-childless
returns-in-Ok-clause-childless g c = then_childless _ _ _ _ _ _ _ _ _ _ c.flag_support.ensures.asks (grind arith) c.requires.fresh c.flag_support.ensures.asks.holds.silent c.flag_support.ensures.asks.holds.childless

pub returns-in-Ok-clause-supported : goal.returns-in-Ok-clause-supported
returns-in-Ok-clause-supported g c =
    ok_so c.verdict_answer.result c.verdict_answer.ensures.yes
    (λ answer is.
    (under_then _ _ _ _ _ _ _ _ _ _ c.flag_support.ensures.asks (grind arith) c.requires.fresh c.flag_support.ensures.asks.holds.silent
    (λ look agree. is ∙ ap is_yes (sym (c.in-Ok.ensures.verdict.is look agree)))))

pub returns-in-Ok-clause-outcome : goal.returns-in-Ok-clause-outcome
returns-in-Ok-clause-outcome g c =
    (under_then _ _ _ _ _ _ _ _ _ _ c.flag_support.ensures.asks (grind arith) c.requires.fresh c.flag_support.ensures.asks.holds.silent
    (λ look agree.
    let path = path_of c.args.task.now.set.now c.args.task.now.env.now look in
    let verdict = flag_verdict c.args.task.now.set.now c.args.task.now.env.now c.args.flag.now look in
    let same_path = ap (λ k. k.choice.path) (c.in-Ok.ensures.compiler.is look agree) in
    let same = c.in-Ok.ensures.verdict.is look agree in
    then_outcome _ _ _ _ _ _ _ _ _ _ c.flag_support.ensures.asks (grind arith) c.requires.fresh c.flag_support.ensures.asks.holds.silent
    (support_error c.args.task.now.set.now c.args.task.now.env.now c.args.flag.now look) (support_steps c.args.task.now.set.now c.args.task.now.env.now (g.H.Host.listens c.args.host.now) look) c.verdict_answer.result
    (answered_outcome c.flag_support.new.sight.answers.now (λ _ look'. warned_steps c.args.task.now.set.now (g.H.Host.listens c.args.host.now) (support_warnings c.args.task.now.set.now c.args.task.now.env.now look')) (support_refusal c.args.task.now.set.now c.args.task.now.env.now c.args.flag.now) c.args.task.now.set.now c.args.task.now.env.now c.flag_support.ensures.asks.rest c.flag_support.result c.in-Ok.support (verdict_error path verdict) c.verdict_answer.result look agree c.in-Ok.is c.flag_support.ensures.asks.holds c.in-Ok.ensures.allowed
    (tried_so c.in-Ok.support.compiler.choice.path path c.in-Ok.support.verdict verdict c.verdict_answer.result same_path same c.verdict_answer.ensures.tried)
    (untried_so c.in-Ok.support.compiler.choice.path path c.in-Ok.support.verdict verdict c.verdict_answer.result same_path same c.verdict_answer.ensures.untried))))

pub returns-in-Err-clause-extends : goal.returns-in-Err-clause-extends
returns-in-Err-clause-extends g c = then_extends _ _ _ _ _ _ _ _ _ _ c.flag_support.ensures.asks (grind arith) c.requires.fresh c.flag_support.ensures.asks.holds.silent

pub returns-in-Err-clause-asked : goal.returns-in-Err-clause-asked
returns-in-Err-clause-asked g c = (then_asked _ _ _ _ _ _ _ _ _ _ c.flag_support.ensures.asks (grind arith) c.requires.fresh c.flag_support.ensures.asks.holds.silent _ c.probe_folder.ensures)

pub returns-in-Err-clause-childless : goal.returns-in-Err-clause-childless
returns-in-Err-clause-childless g c = then_childless _ _ _ _ _ _ _ _ _ _ c.flag_support.ensures.asks (grind arith) c.requires.fresh c.flag_support.ensures.asks.holds.silent c.flag_support.ensures.asks.holds.childless

pub returns-in-Err-clause-outcome : goal.returns-in-Err-clause-outcome
returns-in-Err-clause-outcome g c =
    (under_then _ _ _ _ _ _ _ _ _ _ c.flag_support.ensures.asks (grind arith) c.requires.fresh c.flag_support.ensures.asks.holds.silent
    (λ look agree.
    let error = verdict_error (path_of c.args.task.now.set.now c.args.task.now.env.now look) (flag_verdict c.args.task.now.set.now c.args.task.now.env.now c.args.flag.now look) in
    then_outcome _ _ _ _ _ _ _ _ _ _ c.flag_support.ensures.asks (grind arith) c.requires.fresh c.flag_support.ensures.asks.holds.silent {T = Bool}
    (support_error c.args.task.now.set.now c.args.task.now.env.now c.args.flag.now look) (support_steps c.args.task.now.set.now c.args.task.now.env.now (g.H.Host.listens c.args.host.now) look) (Err c.or_no_memory.result)
    (unanswered Bool (option_map (plan_error c.args.task.now.set.now c.args.task.now.env.now []) (support_refusal c.args.task.now.set.now c.args.task.now.env.now c.args.flag.now look)) error (support_steps c.args.task.now.set.now c.args.task.now.env.now (g.H.Host.listens c.args.host.now) look) c.flag_support.ensures.asks.rest c.or_no_memory.result
    (unplanned_outcome Bool c.flag_support.new.sight.answers.now (λ _ look'. warned_steps c.args.task.now.set.now (g.H.Host.listens c.args.host.now) (support_warnings c.args.task.now.set.now c.args.task.now.env.now look')) (support_refusal c.args.task.now.set.now c.args.task.now.env.now c.args.flag.now) c.args.task.now.set.now c.args.task.now.env.now c.flag_support.ensures.asks.rest c.flag_support.result c.in-Err.error c.or_no_memory.result look agree c.in-Err.is c.flag_support.ensures.asks.holds c.in-Err.ensures.refused
    (made_or_memory c.plan_error.result c.or_no_memory.result _ c.or_no_memory.ensures c.plan_error.ensures)))))

pub returns-in-Ok-clause-answered : goal.returns-in-Ok-clause-answered
returns-in-Ok-clause-answered g c = then_answered _ _ _ _ _ _ _ _ _ _ c.flag_support.ensures.asks (grind arith) c.requires.fresh c.flag_support.ensures.asks.holds.silent _ (grind arith)

pub returns-in-Err-clause-answered : goal.returns-in-Err-clause-answered
returns-in-Err-clause-answered g c = then_answered _ _ _ _ _ _ _ _ _ _ c.flag_support.ensures.asks (grind arith) c.requires.fresh c.flag_support.ensures.asks.holds.silent _ (grind arith)
