use Rattle.std.proofs.Common.{Err, arith, refl, subst, ap, ◌∙◌, sym}
use Rattle.std.proofs.lemmas.Grind.{common_steps}
use Rattle.std.specs.Option.{option_copied}
use Rattle.cc_host.specs.Part.{since}
use Rattle.cc_run.specs.Output.{behind}
use Rattle.cc_run.specs.Prints.{ArePrinted, prints}
use Rattle.cc_run.proofs.OutputLemmas.{unprinted, ran_to, ran_refused, ran_unmade}
use Rattle.cc_run.proofs.whole.run_whole.Goals as goal

pub returns-in-Err-clause-part : goal.returns-in-Err-clause-part
returns-in-Err-clause-part g c = unprinted c.args.shows.now c.args.planned.now c.args.outputs.out c.args.outputs.always (option_copied c.args.outputs.ignored) c.in-Err.e (since (g.H.Host.log c.args.host.now) (g.H.Host.log c.print_all.new.host)) (subst (λ l. ArePrinted {T = Unit {0}} l (Err c.in-Err.e) (since (g.H.Host.log c.args.host.now) (g.H.Host.log c.print_all.new.host))) (c.deref.ensures.value ∙ c.in_ok-before.ensures) c.in-Err.ensures.printed) c.in-Err.ensures.kind

pub returns-in_default-clause-part : goal.returns-in_default-clause-part
returns-in_default-clause-part g c = ran_unmade c.args.shows.now c.args.planned.now c.args.outputs.out c.args.outputs.always (option_copied c.args.outputs.ignored) (g.H.Host.log c.args.host.now) (g.H.Host.log c.print_all.new.host) (g.H.Host.log c.output.new.self) (g.H.Host.log c.output.new.self) c.in-Ok-Done.status c.in-Ok-Done.out c.in-Ok-Done.err c.print_all.ensures.extends (c.in-Ok.ensures.printed ∙ ap prints (c.deref.ensures.value ∙ c.in_ok-before.ensures)) (grind (arith, common_steps, c.in-Ok-Done.ensures.adds)) refl

pub returns-in-Err-print_all-clause-part : goal.returns-in-Err-print_all-clause-part
returns-in-Err-print_all-clause-part g c = ran_refused c.args.shows.now c.args.planned.now c.args.outputs.out c.args.outputs.always (option_copied c.args.outputs.ignored) (g.H.Host.log c.args.host.now) (g.H.Host.log c.print_all.new.host) (g.H.Host.log c.output.new.self) (g.H.Host.log c.print_all-in-Ok-Done.new.host) c.in-Ok-Done.status c.in-Ok-Done.out c.in-Ok-Done.err c.deref-in-Ok-Done.result.now c.in-Err-print_all.e c.print_all.ensures.extends (c.in-Ok.ensures.printed ∙ ap prints (c.deref.ensures.value ∙ c.in_ok-before.ensures)) (grind (arith, common_steps, c.in-Ok-Done.ensures.adds)) c.print_all-in-Ok-Done.ensures.extends (c.deref-in-Ok-Done.ensures.value ∙ c.in-Ok-behind.ensures ∙ ap (behind c.args.shows.now c.args.planned.now.cmd c.args.outputs.always (option_copied c.args.outputs.ignored) c.in-Ok-Done.status) c.as_slice.ensures) c.in-Err-print_all.ensures.printed c.in-Err-print_all.ensures.kind

pub returns-then-is_success-clause-part : goal.returns-then-is_success-clause-part
returns-then-is_success-clause-part g c = (c.in-Ok-Done.status, (sym c.is_success.ensures ∙ c.if-is_success.true, ran_to c.args.shows.now c.args.planned.now c.args.outputs.out c.args.outputs.always (option_copied c.args.outputs.ignored) (g.H.Host.log c.args.host.now) (g.H.Host.log c.print_all.new.host) (g.H.Host.log c.output.new.self) (g.H.Host.log c.print_all-in-Ok-Done.new.host) c.in-Ok-Done.status c.in-Ok-Done.out c.in-Ok-Done.err c.deref-in-Ok-Done.result.now c.print_all.ensures.extends (c.in-Ok.ensures.printed ∙ ap prints (c.deref.ensures.value ∙ c.in_ok-before.ensures)) (grind (arith, common_steps, c.in-Ok-Done.ensures.adds)) c.print_all-in-Ok-Done.ensures.extends (c.deref-in-Ok-Done.ensures.value ∙ c.in-Ok-behind.ensures ∙ ap (behind c.args.shows.now c.args.planned.now.cmd c.args.outputs.always (option_copied c.args.outputs.ignored) c.in-Ok-Done.status) c.as_slice.ensures) c.in-Ok-print_all.ensures.printed))

pub returns-in-Ok-Done-clause-part : goal.returns-in-Ok-Done-clause-part
returns-in-Ok-Done-clause-part g c = (refl, sym c.is_success.ensures ∙ c.if-is_success.false, (c.in-Ok-Done.out, ran_to c.args.shows.now c.args.planned.now c.args.outputs.out c.args.outputs.always (option_copied c.args.outputs.ignored) (g.H.Host.log c.args.host.now) (g.H.Host.log c.print_all.new.host) (g.H.Host.log c.output.new.self) (g.H.Host.log c.print_all-in-Ok-Done.new.host) c.in-Ok-Done.status c.in-Ok-Done.out c.in-Ok-Done.err c.deref-in-Ok-Done.result.now c.print_all.ensures.extends (c.in-Ok.ensures.printed ∙ ap prints (c.deref.ensures.value ∙ c.in_ok-before.ensures)) (grind (arith, common_steps, c.in-Ok-Done.ensures.adds)) c.print_all-in-Ok-Done.ensures.extends (c.deref-in-Ok-Done.ensures.value ∙ c.in-Ok-behind.ensures ∙ ap (behind c.args.shows.now c.args.planned.now.cmd c.args.outputs.always (option_copied c.args.outputs.ignored) c.in-Ok-Done.status) c.as_slice.ensures) c.in-Ok-print_all.ensures.printed))
