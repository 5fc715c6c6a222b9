use Rattle.std.proofs.Common.{◌≡◌, None, inl, string_bytes, map, refl, sym, ◌∙◌, ap, arith}
use Rattle.std.proofs.lemmas.Result.{err_from_is_err_and}
use Rattle.cc_command.specs.Read.{word_cause, first_bad}
use Rattle.cc_command.specs.Step.{with_word}
use Rattle.cc_command.proofs.WordLaws.{fresh_settings, good_here, set_here}
use Rattle.cc_command.proofs.settings.fill_settings.Goals as goal

pub loop-place-init : goal.loop-place-init
loop-place-init g c = record { rest = ap (λ n. first_bad c.args.recorded n (map string_bytes c.args.words.now)) (omega arith); build = fresh_settings c.args.build c.repeat_lines.new.self c.requires.fresh c.repeat_lines.ensures }

pub loop-place-preserved : goal.loop-place-preserved
loop-place-preserved g c =
    let none : c.in_ok-cause.field-0 ≡ None = grind (arith, c.in_default.not-Some) in
    let fine : word_cause c.args.recorded (string_bytes c.index-words-place.result) ≡ None = ap (word_cause c.args.recorded) (sym c.as_str.ensures.value) ∙ sym c.in_ok-cause.ensures.0 ∙ none in
    let set : c.set_word.new.build ≡ with_word c.loop-place.build (string_bytes c.index-words-place.result) = ◌∙◌ {b = with_word c.loop-place.build c.as_str.result.now} (c.in_ok-cause.ensures.1 none) (ap (with_word c.loop-place.build) c.as_str.ensures.value) in
    record {
      rest = good_here string_bytes c.args.recorded c.args.words.now c.args.from c.loop-place.place c.index-words-place.result _ c.loop-place-test.true c.index-words-place.is c.loop-place.invariant.rest fine;
      build = set_here string_bytes c.args.recorded c.args.words.now c.args.from c.loop-place.place c.index-words-place.result c.loop-place.build c.set_word.new.build c.loop-place-test.true c.index-words-place.is c.loop-place.invariant.build set;
    }

pub returns-in_err-cause-clause-refused : goal.returns-in_err-cause-clause-refused
returns-in_err-cause-clause-refused g c =
    let p = err_from_is_err_and c.from_residual.result c.from_residual.ensures.1 in
    rw (p.1, p.2) (inl refl)
