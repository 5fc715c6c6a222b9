use Rattle.std.proofs.Common.{◌≡◌, take}
use Rattle.cc_plan.specs.Link.{printed_links}
use Rattle.cc_build.proofs.directives.printed_texts.Given as goal

-- the texts so far are those of the lines that are printed
abbrev pub invariant-loop-line : goal.invariant-loop-line
invariant-loop-line l = l.texts ≡ printed_links l.is_first (take l.line-index l.lines)
