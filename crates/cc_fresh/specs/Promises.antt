-- What a refresh promises, beside what it does: each in one sentence.
use Rattle.std.specs.Prelude.{◌≡◌, ℕ, List, ◌∷◌, ◌++◌, [], Bool, Result, true}
use Rattle.cc_host.specs.Question.{Look}
use Rattle.cc_host.specs.declared.event.Event.{Event}
use Rattle.cc_run.specs.declared.planned.Planned.{Planned}
use Rattle.cc_build.specs.Build.{BuildSeen}
use Rattle.cc_build.specs.Course.{Course}
use Rattle.cc_build.specs.Error.{ErrorSeen}
use Rattle.cc_build.specs.Order.{is_archive_event}
use Rattle.cc_build.specs.Promises.{AreFirst, terms_for}
use Rattle.cc_build.specs.Stage.{Stage, beside, calls, compiles_planned, folder_stages, opening_steps}
use Rattle.cc_build.specs.Stage.Stage.{Asks}
use Rattle.cc_build.specs.Way.{Found, chosen}
use Rattle.cc_build.specs.Went.{Terms, Goes}
use Rattle.cc_fresh.specs.Choice.{choices_of}
use Rattle.cc_fresh.specs.Record.{record_text}
use Rattle.cc_fresh.specs.Refresh.{FilesSeen, Refreshed, refresh_stages}
use Rattle.cc_fresh.specs.declared.reason.Reason.{Reason}

-- the commands of the sources that aren't fresh
abbrev pub chosen_commands : BuildSeen → Found → Look → List Reason → List Planned
chosen_commands b found look reasons = chosen (choices_of reasons) (compiles_planned b.config b.env found.here look)

-- the stages up to these commands
abbrev pub compiling_stages : BuildSeen → Found → Look → List Planned → List Stage
compiling_stages b found look cmds =
    folder_stages b.config b.env ++ (Asks ∷ (calls (opening_steps b.config b.env found look) ++ (Asks ∷ beside cmds)))

-- before a command of the archive these commands were run, and each of them has ended with 0
pub record ChosenBefore (t : Terms) (b : BuildSeen) (found : Found) (look : Look) (cmds : List Planned)
    (before : List Event) : Type 0 where
  pub runs : List Event
  pub rest : List Event
  pub cut : before ≡ runs ++ rest
  pub compiled : Goes t (compiling_stages b found look cmds) runs

-- What a refresh does, and what follows from it.
pub record Promises (b : BuildSeen) (listens : Bool) (output path : List ℕ) (checks : Bool)
    (result : Result (List Reason) ErrorSeen) (files : FilesSeen) (look : Look) (part : List Event) (c : Course)
    : Type 0 where
  pub refreshed : Refreshed b listens output path checks result files look part c
  -- one attempt for each of the first planned commands, of which those of fresh sources are none, and no other
  pub prefix : AreFirst
      (refresh_stages b refreshed.way look output (choices_of refreshed.reasons) path
      (record_text refreshed.entries)) part
  -- no command of the archive stands in the part unless every source that isn't fresh was compiled before it
  pub order : (before after : List Event) (event : Event) → part ≡ before ++ event ∷ after
      → is_archive_event event ≡ true
      → ChosenBefore (terms_for b listens c) b refreshed.way.found look
      (chosen_commands b refreshed.way.found look refreshed.reasons) before
