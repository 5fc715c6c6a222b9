use Rattle.std.proofs.Common.{◌≡◌, ◌++◌, ◌∙◌, sym, ap, [], append-nil}
use Rattle.std.specs.Option.{option_map_or}
use Rattle.cc_shim.specs.Shim.{line, text_asked}
use Rattle.cc_shim.proofs.words.push_text.Goals as goal

pub returns-in_ok-push_line : goal.returns-in_ok-push_line
unfolding text_asked
returns-in_ok-push_line c = c.in_ok-push_line.ensures ∙ ap (λ o. c.args.text.now ++ option_map_or (λ said. line said) o []) c.in-Some.ensures

pub returns-in_default : goal.returns-in_default
unfolding text_asked
returns-in_default c = sym (append-nil c.args.text.now) ∙ ap (λ o. c.args.text.now ++ option_map_or (λ said. line said) o []) c.in_default.ensures
