-- A source that was expanded, and the variables told of that were read for it: where a call of the host failed, at the end.
use Rattle.std.proofs.Common.{◌≡◌, inl, inr, ◌∙◌, sym, ap, subst, ℕ, List, ◌++◌, Bool, false, Option, None, Result, Ok, Err}
use Rattle.std.specs.List.{list_any}
use Rattle.std.proofs.lemmas.List.Folds.{list_any-append}
use Rattle.cc_host.specs.Part.{Step, IsPartly}
use Rattle.cc_host.specs.Question.{Look, answers, Holds}
use Rattle.cc_host.specs.declared.event.Event.{Event}
use Rattle.cc_host.specs.declared.question.Outcome.{Outcome as Verdict}
use Rattle.cc_host.specs.declared.question.Question.{Question}
use Rattle.cc_host.proofs.Parts.{partly_whole}
use Rattle.cc_plan.specs.Planned.{tool_of}
use Rattle.cc_run.specs.declared.planned.Planned.{Planned}
use Rattle.cc_tool.proofs.SomeLemmas.{some_agree}
use Rattle.cc_build.specs.Build.{BuildSeen, AsksByPlan}
use Rattle.cc_build.specs.Compiler.{tool_steps}
use Rattle.cc_build.specs.Error.{ErrorSeen}
use Rattle.cc_build.specs.Expand.{expansion, ignored_line, source_of, RunsTool, ExpandEnds, ExpandsAndTells, ExpandedEnds}
use Rattle.cc_build.specs.Failed.{is_fault}
use Rattle.cc_build.specs.Outcome.{Outcome}
use Rattle.cc_build.specs.Promises.{FaultsEnd}
use Rattle.cc_build.specs.Shows.{shows_of}
use Rattle.cc_build.specs.Told.{expand_reads, name_steps}
use Rattle.cc_build.specs.Way.{Firsts}
use Rattle.cc_build.proofs.ExpandLaws.{Shape, gives_shape, given_faultless, shape_faults}
use Rattle.cc_build.proofs.FaultLaws.{partly_faults, unstopped, nothing_faults, then_faults}
use Rattle.cc_build.proofs.PrintedLaws.{or_false}

module _ (listens : Bool) (b : BuildSeen) (look : Look) where
  abbrev p : Planned
  p = expansion b.config (tool_of b.config b.env look)

  abbrev ignored : Option (List ℕ)
  ignored = ignored_line (tool_of b.config b.env look).family (source_of b.config)

  abbrev told_steps : Firsts → List Step
  told_steps firsts = name_steps expand_reads b.config b.env firsts look

  module _ (r : Result (List ℕ) ErrorSeen) (part : List Event) (h : RunsTool b listens r look part) where
    asking_faultless : list_any is_fault h.asking ≡ false
    asking_faultless = unstopped h.asking h.found.1.1.unstopped

    shape : Shape p h.run
    shape = gives_shape (shows_of b.config b.env listens) p ignored h.run r h.gives

    runs_faults : FaultsEnd part
    runs_faults = subst FaultsEnd (sym h.cut) (then_faults h.asking h.run asking_faultless (shape_faults p h.run shape))

  pub expand_faults : (r : Result (List ℕ) ErrorSeen) (part : List Event) → ExpandEnds b listens r look part → FaultsEnd part
  expand_faults (Ok output) part h = runs_faults (Ok output) part h.1
  expand_faults (Err e) part (inl unasked) = subst FaultsEnd (sym unasked.0) nothing_faults
  expand_faults (Err e) part (inr (fine, inl lacks)) = partly_faults (tool_steps b.config b.env listens lacks.0 look) part lacks.1.0
  expand_faults (Err e) part (inr (fine, inr ran)) = runs_faults (Err e) part ran

  pub expanded_faultless : (output : List ℕ) (part : List Event) → ExpandEnds b listens (Ok output) look part → list_any is_fault part ≡ false
  expanded_faultless output part h =
      ap (list_any is_fault) h.1.cut ∙ list_any-append is_fault h.1.asking h.1.run
      ∙ or_false (list_any is_fault h.1.asking) (list_any is_fault h.1.run) (asking_faultless (Ok output) part h.1) (given_faultless (shows_of b.config b.env listens) p ignored h.1.run output h.1.gives)

  module _ (output : List ℕ) (r : Result (List ℕ) ErrorSeen) (part : List Event) (h : ExpandsAndTells b listens output r look part) where
    pub telling_partly : IsPartly (told_steps h.told.0) h.telling
    telling_partly = by_end r h.told.1.1
      where
        by_end : (r : Result (List ℕ) ErrorSeen) → Outcome None (told_steps h.told.0) h.telling r → IsPartly (told_steps h.told.0) h.telling
        by_end (Ok v) o = partly_whole (told_steps h.told.0) h.telling o.1
        by_end (Err e) o = o.0

    telling_faults : FaultsEnd part
    telling_faults = subst FaultsEnd (sym h.cut) (then_faults h.expanding h.telling (expanded_faultless output h.expanding h.expands) (partly_faults (told_steps h.told.0) h.telling telling_partly))

  pub tells_faults : (r : Result (List ℕ) ErrorSeen) (part : List Event) → ExpandedEnds b listens r look part → FaultsEnd part
  tells_faults (Ok output) part h = telling_faults output (Ok output) part h
  tells_faults (Err e) part (inl h) = expand_faults (Err e) part h
  tells_faults (Err e) part (inr h) = telling_faults h.0 (Err e) part h.1

pub told_faults : (listens steady : Bool) (world : Question → Verdict) (b : BuildSeen) (r : Result (List ℕ) ErrorSeen) (part : List Event) → AsksByPlan steady world b part → Holds (answers part) (λ look. ExpandedEnds b listens r look part) → FaultsEnd part
told_faults listens steady world b r part asked ends =
    let some = some_agree (answers part) asked.once in
    tells_faults listens b some.0 r part (ends.under some.0 some.1)
