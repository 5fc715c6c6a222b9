-- What follows from how a refresh ended.
use Rattle.std.proofs.Common.{◌≡◌, ℕ, List, ◌∷◌, ◌++◌, Bool, false, Option, None, map, Result, Ok, Err, inl, inr, refl, sym, subst}
use Rattle.cc_host.specs.Part.{is_probing}
use Rattle.cc_host.specs.Question.{Look}
use Rattle.cc_host.specs.declared.event.Event.{Event}
use Rattle.cc_host.specs.declared.event.Event.TheVariants.{Fault, Abandoned}
use Rattle.cc_host.specs.declared.event.HostCall.{HostCall}
use Rattle.cc_host.specs.declared.event.Why.{Why}
use Rattle.cc_run.specs.declared.planned.Planned.{Planned}
use Rattle.cc_build.specs.Build.{BuildSeen}
use Rattle.cc_build.specs.Course.{Course}
use Rattle.cc_build.specs.Error.{ErrorSeen, no_memory}
use Rattle.cc_build.specs.Promises.{terms_for, NothingRuns, FaultsEnd}
use Rattle.cc_build.specs.Refusal.{refusal_error}
use Rattle.cc_build.specs.Stage.{Stage}
use Rattle.cc_build.specs.Went.{Terms, Means, Partly}
use Rattle.cc_build.proofs.Going.{halted_among}
use Rattle.cc_build.proofs.OrderLaws.{went_partly, halted_partly, archives_behind}
use Rattle.cc_build.proofs.PromiseLaws.{fault_ends}
use Rattle.cc_build.proofs.SettledLaws.{partly_settled, partly_first}
use Rattle.cc_fresh.specs.Choice.{choices_of}
use Rattle.cc_fresh.specs.Promises.{Promises, chosen_commands, compiling_stages}
use Rattle.cc_fresh.specs.Reads.{Read}
use Rattle.cc_fresh.specs.Record.{record_text}
use Rattle.cc_fresh.specs.Refresh.{EndsWith, FilesSeen, Refreshed, refresh_stages}
use Rattle.cc_fresh.specs.declared.reason.Reason.{Reason}
use Rattle.cc_fresh.proofs.StageLaws.{compiling_silent, refresh_ordered, refresh_plain}

-- wherever it ended, the first of its stages were done
pub ended_partly : {T : Type 0} (t : Terms) (refusal : Option ErrorSeen) (stages : List Stage) (more : List Read) (r : Result T ErrorSeen) (part : List Event) (x z : Means) (faults now : ℕ) → EndsWith t refusal stages more r part x z faults now → Partly t stages part x z
ended_partly t refusal stages more (Ok v) part x z faults now h = went_partly t stages part x z h.2
ended_partly t refusal stages more (Err e) part x z faults now (inl h) = halted_partly t refusal stages part e x z h
ended_partly t refusal stages more (Err e) part x z faults now (inr u) =
    subst (λ (l : List Stage). Partly t l part x z) (sym u.stages_are)
    (halted_partly t None (u.before ++ u.after) part no_memory x z (halted_among t None u.before u.after part no_memory x z u.went refl (λ none. absurd (u.some_left none))))

module _ (b : BuildSeen) (listens : Bool) (output path : List ℕ) (checks : Bool) (result : Result (List Reason) ErrorSeen) (files : FilesSeen) (look : Look) (part : List Event) (c : Course) (r : Refreshed b listens output path checks result files look part c) where
  abbrev stages : List Stage
  stages = refresh_stages b r.way look output (choices_of r.reasons) path (record_text r.entries)

  partly : Partly (terms_for b listens c) stages part c.before c.after
  partly = ended_partly (terms_for b listens c) (refusal_error b.config b.env look output) stages r.more result part c.before c.after files.before files.now r.outcome

  pub nothing_runs : NothingRuns part
  nothing_runs = partly_settled (terms_for b listens c) stages part c.before c.after partly

  pub faults_end : FaultsEnd part
  faults_end before after call why real is = fault_ends (terms_for b listens c) stages part c.before c.after before after call why real is partly

  -- a command of the archive comes behind the sources that aren't fresh
  abbrev cmds : List Planned
  cmds = chosen_commands b r.way.found look r.reasons

  pub promised : Promises b listens output path checks result files look part c
  promised = record {
    refreshed = r;
    prefix = partly_first (terms_for b listens c) stages part c.before c.after (refresh_plain b r.way look output (choices_of r.reasons) path (record_text r.entries)) partly;
    order = λ before after event is archives.
        let found = archives_behind (terms_for b listens c) (compiling_stages b r.way.found look cmds) stages part c.before c.after (compiling_silent b r.way.found look (choices_of r.reasons)) partly (refresh_ordered b r.way look output (choices_of r.reasons) path (record_text r.entries)) before after event is archives in
        record { runs = found.0; rest = found.1; cut = found.2.0; compiled = found.2.1 };
  }
