use Rattle.std.proofs.Common.{ap, sym, ◌∙◌, []}
use Rattle.cc_host.specs.Question.{is_yes}
use Rattle.cc_host.specs.declared.question.Ask.TheVariants.{Version}
use Rattle.cc_tool.specs.Family.{question, zig_family, clang_by}
use Rattle.cc_tool.specs.Plans.{ask, done}
use Rattle.cc_tool.proofs.PassLemmas.{pass_as, pass_ok, pass_done, pass_try}
use Rattle.cc_tool.proofs.family.zig_family.Goals as goal

pub returns-in_err-version : goal.returns-in_err-version
unfolding zig_family
returns-in_err-version c =
    rw (sym c.is_plain_clang.ensures ∙ c.if-is_plain_clang.true)
    (pass_try (ask (question Version c.args.path.now [] c.args.vars.now)) (λ version. done (clang_by (is_yes version) c.args.path.now)) c.from_residual.result c.from_residual.ensures.1
    (pass_as (ap (λ words. ask (question Version c.args.path.now words c.args.vars.now)) c.new-none.ensures) c.in_err-version.ensures))

pub returns-in_ok-version : goal.returns-in_ok-version
unfolding zig_family
returns-in_ok-version c =
    rw (sym c.is_plain_clang.ensures ∙ c.if-is_plain_clang.true, c.clang_of_version.ensures)
    (pass_ok (ask (question Version c.args.path.now [] c.args.vars.now)) (λ version. done (clang_by (is_yes version) c.args.path.now))
    (pass_as (ap (λ words. ask (question Version c.args.path.now words c.args.vars.now)) c.new-none.ensures) c.in_ok-version.ensures)
    pass_done)
