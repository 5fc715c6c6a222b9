use Rattle.std.proofs.Common.{ap}
use Rattle.cc_host.specs.Question.{is_yes}
use Rattle.cc_tool.specs.Libcxx.{uses_libcxx, libcxx_question}
use Rattle.cc_tool.specs.Plans.{ask, done}
use Rattle.cc_tool.proofs.PassLemmas.{pass_as, pass_ok, pass_done, pass_try}
use Rattle.cc_tool.proofs.libcxx.uses_libcxx.Goals as goal

pub returns-in_err-verdict : goal.returns-in_err-verdict
unfolding uses_libcxx
returns-in_err-verdict c =
    pass_try (ask (libcxx_question c.args.tool.now)) (λ verdict. done (is_yes verdict)) c.from_residual-in_err-verdict.result c.from_residual-in_err-verdict.ensures.1
    (pass_as (ap ask c.in_ok-question.ensures) c.in_err-verdict.ensures)

pub returns : goal.returns
unfolding uses_libcxx
returns c =
    rw c.is_yes.ensures
    (pass_ok (ask (libcxx_question c.args.tool.now)) (λ verdict. done (is_yes verdict)) (pass_as (ap ask c.in_ok-question.ensures) c.in_ok-verdict.ensures) pass_done)
