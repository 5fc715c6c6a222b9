use Rattle.std.proofs.Common.{◌≡◌, List, Result, subst}
use Rattle.cc_host.specs.Question.{Answer}
use Rattle.cc_host.specs.declared.question.Question.{Question}
use Rattle.cc_host.specs.declared.question.Verdict.{Verdict}
use Rattle.cc_tool.specs.Notes.{Noted}
use Rattle.cc_tool.specs.Plans.{Passes, ask}
use Rattle.cc_tool.specs.declared.want.Want.{Want}
use Rattle.cc_tool.proofs.PassLemmas.{pass_ok, pass_done, pass_try}
use Rattle.cc_plan.specs.ArchiveTool.{is_versioned}
use Rattle.cc_plan.proofs.archive_asks.is_versioned.Goals as goal

pass_asked : {known : List Answer} {before after : Noted} {q p : Question} {r : Result Verdict Want} → q ≡ p → Passes known before after (ask q) r → Passes known before after (ask p) r
pass_asked {known} {before} {after} {q} {p} {r} e h = subst (λ (a : Question). Passes known before after (ask a) r) e h

pub returns-in_err-verdict : goal.returns-in_err-verdict
unfolding is_versioned
returns-in_err-verdict c = pass_try _ _ _ c.from_residual-in_err-verdict.ensures.1 (pass_asked c.in_ok-question.ensures c.in_err-verdict.ensures)

pub returns : goal.returns
unfolding is_versioned
returns c = rw c.is_yes.ensures (pass_ok _ _ (pass_asked c.in_ok-question.ensures c.in_ok-verdict.ensures) pass_done)
