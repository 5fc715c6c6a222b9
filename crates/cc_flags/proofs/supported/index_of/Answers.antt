use Rattle.std.proofs.Common.{◌≡◌, ◌<◌, ◌∙◌, ap₂, true, cond, bytes_eq, string_bytes, length, arith}
use Rattle.std.proofs.lemmas.Map.Text.{btree_set_updates_text}
use Rattle.cc_flags.proofs.SupportedLemmas.{among_more}
use Rattle.cc_flags.proofs.supported.index_of.Goals as goal

pub loop-word-preserved : goal.loop-word-preserved
loop-word-preserved c = λ text.
    let key : string_bytes c.in_ok-from_str.field-0 ≡ c.word-item.result = c.in_ok-from_str.ensures.ok ∙ c.as_str.ensures in
    let within : c.loop-word.word-index < length c.args.words.now = grind (arith, c.loop-word-test.true) in
    btree_set_updates_text (string_bytes c.in_ok-from_str.field-0) c.loop-word.index c.insert.new.self true c.in_ok-insert.ensures.updates text
    ∙ ap₂ (λ k had. cond (bytes_eq k text) true had) key (c.loop-word.invariant text)
    ∙ among_more c.args.words.now c.loop-word.word-index c.word-item.result text within c.word-item.is
