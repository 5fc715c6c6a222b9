use Rattle.std.proofs.Common.{List, ◌∙◌, sym, ap, ap₂, subst}
use Rattle.cc_host.specs.declared.question.Question.{Question}
use Rattle.cc_tool.specs.Plans.{ArePlain, ask_all}
use Rattle.cc_flags.specs.Compilation.{seen}
use Rattle.cc_plan.specs.Support.{askable, taken, taken_among}
use Rattle.cc_plan.proofs.PassBy.{by_done, by_ok}
use Rattle.cc_plan.proofs.TakenLemmas.{flags_plain}
use Rattle.cc_plan.proofs.support.taken_among.Goals as goal

pub verdicts_of-requires : goal.verdicts_of-requires
verdicts_of-requires c = subst (λ (qs : List Question). ArePlain qs) (sym c.in_ok-asking.ensures.questions) (flags_plain (seen c.args.given.now) (askable (seen c.args.given.now) c.args.words.now))

pub returns : goal.returns
unfolding taken_among
returns c =
    by_ok _ _ c.in_ok-verdicts.ensures (ap ask_all c.in_ok-asking.ensures.questions)
    (by_done (c.in_ok-taken.ensures ∙ ap₂ taken (c.as_slice.ensures ∙ c.in_ok-asking.ensures.words) c.as_slice-2.ensures))
