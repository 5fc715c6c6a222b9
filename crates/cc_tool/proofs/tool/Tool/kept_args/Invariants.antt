use Rattle.std.proofs.Common.{◌≡◌, take, not}
use Rattle.std.specs.List.{filter}
use Rattle.cc_text.specs.Words.{is_among}
use Rattle.cc_tool.proofs.tool.Tool.kept_args.Given as goal

abbrev pub invariant-loop-word : goal.invariant-loop-word
invariant-loop-word l = l.words ≡ filter (λ word. not (is_among l.self.removed word)) (take l.word-index l.self.args)
