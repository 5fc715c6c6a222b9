use Rattle.std.proofs.Common.{◌≡◌, take, map, filter}
use Rattle.std.specs.Option.{option_copied}
use Rattle.std.specs.Str.Lines.{strip_carriage_return}
use Rattle.cc_run.specs.Lines.{is_other}
use Rattle.cc_run.proofs.warnings.stderr_warnings.Given as goal

-- the warnings so far
abbrev pub invariant-loop-part : goal.invariant-loop-part
invariant-loop-part l = l.lines.items ≡ filter (is_other (option_copied l.ignored)) (map strip_carriage_return (map (λ p. p.now) (take l.part-index l.part-items)))
