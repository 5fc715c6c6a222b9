use Rattle.std.proofs.Common.{◌≡◌, refl, sym, ◌∙◌, ap, subst}
use Rattle.std.specs.List.{list_all}
use Rattle.cc_host.specs.Part.{since}
use Rattle.cc_host.specs.Question.{exists_question, is_yes}
use Rattle.cc_host.specs.declared.question.Question.{Question}
use Rattle.cc_flags.specs.Given.{probe_folder}
use Rattle.cc_plan.proofs.LineLemmas.{since_none}
use Rattle.cc_tool.specs.Known.{asked}
use Rattle.cc_tool.specs.Probing.{is_asked}
use Rattle.cc_build.specs.Build.{BuildSeen, probes}
use Rattle.cc_build.specs.Kept.{Asking}
use Rattle.cc_build.proofs.ExistenceLaws.{only_path, quiet_so}
use Rattle.cc_build.proofs.Growing.{asking_aside, asked_for}
use Rattle.cc_build.proofs.Keeping.{aside_none}
use Rattle.cc_build.proofs.build.Build.path_exists.Goals as goal

pub returns-in_err-question-clause-asks : goal.returns-in_err-question-clause-asks
returns-in_err-question-clause-asks g c = asking_aside _ _ _ _ g.H.Host.log g.H.Host.patience c.args.host.now c.args.host.now _ (aside_none g.H.Host.log g.H.Host.patience c.args.host.now)

pub returns-in_err-question-clause-quiet : goal.returns-in_err-question-clause-quiet
returns-in_err-question-clause-quiet g c = ap (list_all is_asked) (since_none (g.H.Host.log c.args.host.now))

pub returns-in_err-verdict-clause-asks : goal.returns-in_err-verdict-clause-asks
returns-in_err-verdict-clause-asks g c =
    let path = c.args.path.now in
    subst (λ (b : BuildSeen). Asking g.W.World.steady g.W.World.answer (probes b) (λ look q. q ≡ exists_question path) g.H.Host.log g.H.Host.patience c.args.host.now c.ask.new.host c.args.answers.now c.ask.new.answers) c.self.view_is
    (asked_for _ _ (λ look q. q ≡ exists_question path) g.H.Host.log g.H.Host.patience _ (probe_folder c.self.inside.config c.self.inside.env) c.args.host.now c.ask.new.host c.ask.new.host _ _ _ c.probe_folder-dir.ensures c.ask.ensures.asks
    (only_path path c.in_ok-question.question c.args.answers.now c.ask.new.answers _ c.ask.result c.in_ok-question.ensures c.ask.ensures.own) c.ask.ensures.patient refl refl)

pub returns-in_err-verdict-clause-quiet : goal.returns-in_err-verdict-clause-quiet
returns-in_err-verdict-clause-quiet g c = quiet_so _ _ _ (g.H.Host.log c.args.host.now) (g.H.Host.log c.ask.new.host) _ _ c.ask.ensures.asks

pub returns-clause-asks : goal.returns-clause-asks
returns-clause-asks g c =
    let path = c.args.path.now in
    subst (λ (b : BuildSeen). Asking g.W.World.steady g.W.World.answer (probes b) (λ look q. q ≡ exists_question path) g.H.Host.log g.H.Host.patience c.args.host.now c.ask.new.host c.args.answers.now c.ask.new.answers) c.self.view_is
    (asked_for _ _ (λ look q. q ≡ exists_question path) g.H.Host.log g.H.Host.patience _ (probe_folder c.self.inside.config c.self.inside.env) c.args.host.now c.ask.new.host c.ask.new.host _ _ _ c.probe_folder-dir.ensures c.ask.ensures.asks
    (only_path path c.in_ok-question.question c.args.answers.now c.ask.new.answers _ c.ask.result c.in_ok-question.ensures c.ask.ensures.own) c.ask.ensures.patient refl refl)

pub returns-clause-quiet : goal.returns-clause-quiet
returns-clause-quiet g c = quiet_so _ _ _ (g.H.Host.log c.args.host.now) (g.H.Host.log c.ask.new.host) _ _ c.ask.ensures.asks

pub returns-clause-told : goal.returns-clause-told
returns-clause-told g c = record {
  is = λ look agree. ap (λ (q : Question). is_yes (look (asked q))) (sym c.in_ok-question.ensures) ∙ ap is_yes (c.in_ok-verdict.ensures.settles.is look agree) ∙ sym c.is_yes.ensures;
}
