use Rattle.std.proofs.Common.{ap, ◌∙◌, slice_get}
use Rattle.std.specs.Str.{chars}
use Rattle.cc_tool.specs.Tool as tools
use Rattle.cc_tool.specs.Tool.{is_letter_o}
use Rattle.cc_tool.proofs.LevelLemmas.{behind_is, step_is}
use Rattle.cc_tool.proofs.tool.is_level.Goals as goal

pub returns : goal.returns
unfolding tools.is_level
returns c =
    let r = c.chars-chars.ensures.rest ∙ c.as_str.ensures in
    c.is_letter_o.ensures ∙ ap is_letter_o (behind_is c.args.arg.now c.next.new.self.rest.now c.next.result c.next-2.result (c.next.ensures.steps.2 ∙ ap (λ l. slice_get (chars l) 0) r) (step_is (λ s. s.rest.now) c.args.arg.now c.next.result c.chars-chars.result c.next.new.self r c.next.ensures.steps.0) c.next-2.ensures.steps.2)
