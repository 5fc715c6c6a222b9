use Rattle.std.proofs.Common.{◌++◌, [], ◌∷◌, ◌∙◌, sym, ap, length, slice_index_or, refl, arith}
use Rattle.cc_text.specs.Words.{when}
use Rattle.cc_flags.specs.Compilation.{seen}
use Rattle.cc_plan.specs.Support.{is_asked_of, flag_question}
use Rattle.cc_plan.proofs.SupportLemmas.{keep_more, made_more}
use Rattle.cc_plan.proofs.support.asking_of.Goals as goal

pub loop-word-preserved : goal.loop-word-preserved
loop-word-preserved c =
    let asked = is_asked_of (seen c.args.given.now) in
    let next = when (asked c.as_str.result.now) (c.as_str.result.now ∷ []) in
    record {
      words =
          sym (keep_more asked c.args.words.now c.loop-word.word-index c.word-item.result c.loop-word.asking.words _ (asked c.word-item.result) (omega (arith, ap length c.as_slice-word-items.ensures))
          (c.word-item.is ∙ ap (λ xs. slice_index_or xs c.loop-word.word-index c.word-item.result) c.as_slice-word-items.ensures) (sym c.loop-word.invariant.words) refl
          (c.in_ok-push_asked.ensures.words ∙ ap (λ w. c.loop-word.asking.words ++ when (asked w) (w ∷ [])) c.as_str.ensures));
      questions = made_more (flag_question (seen c.args.given.now)) c.loop-word.asking.words next _ _ _ c.loop-word.invariant.questions c.in_ok-push_asked.ensures.words c.in_ok-push_asked.ensures.questions;
    }
