use Rattle.std.proofs.Common.{◌≡◌, map, filter, take}
use Rattle.cc_flags.specs.Compilation.{seen}
use Rattle.cc_plan.specs.Support.{is_asked_of, flag_question}
use Rattle.cc_plan.proofs.support.asking_of.Given as goal

abbrev pub invariant-loop-word : goal.invariant-loop-word
invariant-loop-word l = record {
  words : l.asking.words ≡ filter (is_asked_of (seen l.given)) (take l.word-index l.words);
  questions : l.asking.questions.items ≡ map (flag_question (seen l.given)) l.asking.words;
}
