use Rattle.std.proofs.Common.{◌≡◌, List, ◌∙◌, ap, subst, arith, refl}
use Rattle.cc_fresh.specs.Choice.{Chooses, choices_of, kept_in}
use Rattle.cc_fresh.specs.declared.record.Entry.{Entry}
use Rattle.cc_fresh.proofs.ChoiceLaws.{unkept, unreasoned, unlisted_choice, unstated, chosen_all}
use Rattle.cc_fresh.proofs.choice.choose.Goals as goal

pub returns-in-Err-clause-refused : goal.returns-in-Err-clause-refused
returns-in-Err-clause-refused g c =
    record {
      under = λ look agree. unkept c.args.path.now c.args.path.now c.args.units.now look (g.F.Files.reads c.args.files.now) (g.F.Files.reads c.read_kept.new.files) c.in-Err.error (g.F.Files.faults c.args.files.now) (g.F.Files.faults c.read_kept.new.files) refl c.in-Err.ensures.refused;
    }

pub returns-in-Err-reasons_of-clause-refused : goal.returns-in-Err-reasons_of-clause-refused
returns-in-Err-reasons_of-clause-refused g c =
    let read = c.in-Ok.ensures.read in
    let is : c.as_slice-entries.result.now ≡ kept_in read.0 = c.as_slice-entries.ensures ∙ read.1.1 in
    record {
      under = λ look agree.
          unreasoned c.args.path.now c.args.units.now look (g.F.Files.reads c.args.files.now) (g.F.Files.reads c.read_kept.new.files) read.0 c.as_slice-entries.result.now read.1.0 is (g.F.Files.reads c.reasons_of.new.files) c.in-Err-reasons_of.error
          (g.F.Files.faults c.args.files.now) (g.F.Files.faults c.read_kept.new.files) (g.F.Files.faults c.reasons_of.new.files) c.read_kept.ensures.later (c.in-Err-reasons_of.ensures.refused.under look agree);
    }

pub returns-in-Err-choices_of-clause-refused : goal.returns-in-Err-choices_of-clause-refused
returns-in-Err-choices_of-clause-refused g c =
    let read = c.in-Ok.ensures.read in
    let is : c.as_slice-entries.result.now ≡ kept_in read.0 = c.as_slice-entries.ensures ∙ read.1.1 in
    record {
      under = λ look agree.
          unlisted_choice c.args.path.now c.args.units.now look (g.F.Files.reads c.args.files.now) (g.F.Files.reads c.read_kept.new.files) read.0 c.as_slice-entries.result.now read.1.0 is (g.F.Files.reads c.reasons_of.new.files) c.in-Ok-reasons_of.reasons
          (c.in-Ok-reasons_of.ensures.read.under look agree) c.from.result (g.F.Files.faults c.args.files.now) (g.F.Files.faults c.reasons_of.new.files) c.from.ensures;
    }

pub returns-in-Err-states_of-clause-refused : goal.returns-in-Err-states_of-clause-refused
returns-in-Err-states_of-clause-refused g c =
    let read = c.in-Ok.ensures.read in
    let is : c.as_slice-entries.result.now ≡ kept_in read.0 = c.as_slice-entries.ensures ∙ read.1.1 in
    let are : c.as_slice-2.result.now ≡ choices_of c.in-Ok-reasons_of.reasons = c.as_slice-2.ensures.value ∙ c.in-Ok-choices_of.ensures ∙ ap choices_of c.as_slice.ensures in
    record {
      under = λ look agree.
          unstated c.args.path.now c.args.units.now look (g.F.Files.reads c.args.files.now) (g.F.Files.reads c.read_kept.new.files) read.0 c.as_slice-entries.result.now read.1.0 is (g.F.Files.reads c.reasons_of.new.files) c.in-Ok-reasons_of.reasons
          (c.in-Ok-reasons_of.ensures.read.under look agree) (g.F.Files.reads c.states_of.new.files) c.as_slice-2.result.now are c.in-Err-states_of.error
          (g.F.Files.faults c.args.files.now) (g.F.Files.faults c.reasons_of.new.files) (g.F.Files.faults c.states_of.new.files) (omega (arith, c.read_kept.ensures.later, c.reasons_of.ensures.later)) c.in-Err-states_of.ensures.refused;
    }

pub returns-clause-read : goal.returns-clause-read
returns-clause-read g c =
    let read = c.in-Ok.ensures.read in
    let is : c.as_slice-entries.result.now ≡ kept_in read.0 = c.as_slice-entries.ensures ∙ read.1.1 in
    let these : c.in-Ok-choices_of.choices.items ≡ choices_of c.in-Ok-reasons_of.reasons = c.in-Ok-choices_of.ensures ∙ ap choices_of c.as_slice.ensures in
    let are : c.as_slice-2.result.now ≡ choices_of c.in-Ok-reasons_of.reasons = c.as_slice-2.ensures.value ∙ these in
    record {
      under = λ look agree.
          let all =
          chosen_all c.args.path.now c.args.units.now look (g.F.Files.reads c.args.files.now) (g.F.Files.reads c.read_kept.new.files) read.0 c.as_slice-entries.result.now read.1.0 is (g.F.Files.reads c.reasons_of.new.files) c.in-Ok-reasons_of.reasons
          (c.in-Ok-reasons_of.ensures.read.under look agree) (g.F.Files.reads c.states_of.new.files) c.as_slice-2.result.now are c.in-Ok-states_of.states.items c.in-Ok-states_of.ensures.read in
          (all.0, (all.1.0, (subst (λ (k : List Entry). Chooses c.args.path.now c.args.units.now look k c.in-Ok-reasons_of.reasons c.in-Ok-states_of.states.items all.0) c.as_slice-entries.ensures all.1.1, these)));
    }
