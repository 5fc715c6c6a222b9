use Rattle.std.proofs.Common.{◌∙◌, List, ℕ, sym, subst, append-nil}
use Rattle.cc_host.specs.Part.{since}
use Rattle.cc_build.specs.Course.{CallsEnd}
use Rattle.cc_build.proofs.Going.{part_is}
use Rattle.cc_command.specs.Lines.{shows}
use Rattle.cc_command.specs.Shown.{tool_lines}
use Rattle.cc_command.proofs.ShowLaws.{unmade}
use Rattle.cc_command.proofs.show.print_tools.Goals as goal

pub returns-in-Ok-clause-outcome : goal.returns-in-Ok-clause-outcome
returns-in-Ok-clause-outcome g c =
    let part = since (g.H.Host.log c.args.host.now) (g.H.Host.log c.print_lines.new.host) in
    subst (λ (lines : List (List ℕ)). CallsEnd (shows lines) part c.print_lines.result) (c.as_slice.ensures ∙ c.in-Ok.ensures) c.print_lines.ensures.outcome

pub returns-in-Err-clause-outcome : goal.returns-in-Err-clause-outcome
returns-in-Err-clause-outcome g c =
    let log = g.H.Host.log c.args.host.now in
    unmade (tool_lines c.args.tool.now c.args.archiver.now c.args.ranlib.now) (since log log) c.from.result (λ empty. cc) (part_is log log _ (sym (append-nil log))) c.from.ensures
