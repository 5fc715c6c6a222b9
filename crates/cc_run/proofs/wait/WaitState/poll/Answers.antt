use Rattle.std.proofs.Common.{Ok, refl}
use Rattle.cc_run.specs.Listed.{listed_plan}
use Rattle.cc_run.specs.Rules.{rules}
use Rattle.cc_run.specs.declared.error.Step.{Step}
use Rattle.cc_run.specs.declared.error.Step.TheVariants.{Ready}
use Rattle.cc_run.proofs.ListedLaws.{listed_by}
use Rattle.cc_run.proofs.PrintingLemmas.{nothing_printed}
use Rattle.cc_run.proofs.WorkLemmas.{works_none}
use Rattle.cc_run.proofs.wait.WaitState.poll.Goals as goal

pub returns-then-is_settled-clause-steps : goal.returns-then-is_settled-clause-steps
returns-then-is_settled-clause-steps g c = λ total busy. works_none (rules (listed_plan c.args.shows.now.stop c.args.cmds.now) c.args.shows.now) total _

pub returns-then-is_settled-clause-lines : goal.returns-then-is_settled-clause-lines
returns-then-is_settled-clause-lines g c = nothing_printed {T = Step} (rules (listed_plan c.args.shows.now.stop c.args.cmds.now) c.args.shows.now) c.args.running.now (g.H.Host.log c.args.host.now) (Ok Ready) refl

pub returns-in-Ok-clause-one_run : goal.returns-in-Ok-clause-one_run
returns-in-Ok-clause-one_run g c = record { fitting = c.turn-taken.ensures.agrees.fitting; tokens = c.turn-taken.ensures.agrees.tokens; listed = listed_by _ _ c.turn-taken.new.running.marks c.turn-taken.ensures.agrees.told }

pub returns-in-Err-clause-one_run : goal.returns-in-Err-clause-one_run
returns-in-Err-clause-one_run g c = record { fitting = c.turn-taken.ensures.agrees.fitting; tokens = c.turn-taken.ensures.agrees.tokens; listed = listed_by _ _ c.turn-taken.new.running.marks c.turn-taken.ensures.agrees.told }
