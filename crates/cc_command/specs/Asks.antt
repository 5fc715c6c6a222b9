-- What the questions of a run leave in the log.
use Rattle.std.specs.Prelude.{◌≡◌, List, [], ◌++◌, Bool, Result, Ok, Err}
use Rattle.cc_host.specs.declared.event.Event.{Event}
use Rattle.cc_host.specs.declared.question.Question.{Question}
use Rattle.cc_host.specs.declared.question.Outcome.{Outcome}
use Rattle.cc_flags.specs.Given.{probe_folder}
use Rattle.cc_plan.specs.Questions.{RunAsks}
use Rattle.cc_tool.specs.Asked.{question_events, Asked}
use Rattle.cc_command.specs.Answer.{env_in, heard}
use Rattle.cc_build.specs.Build.{AsksByRun, AsksByPlan}
use Rattle.cc_command.specs.Archived.{alone, build_in}
use Rattle.cc_command.specs.Fleets.{listed_members, askers, AsksInTurn}
use Rattle.cc_command.specs.Read.{Request, Wish}
use Rattle.cc_command.specs.Read.Wish.{Compiles, Records, Archives, Generates, Expands, Shows, Fleets}
use Rattle.cc_command.specs.Shown.{AsksTools, listed_build}
use Rattle.cc_command.specs.declared.words.BadWord.{BadWord}

-- Each question of a request is one that its run asks. Probe files lie in its out dir, else in the temp folder.
abbrev pub AsksFor : Bool → (Question → Outcome) → Request → List Event → Type 0
AsksFor steady world request part =
    Asked steady world (probe_folder request.1.config (env_in request part))
    (RunAsks request.1.config (env_in request part)) part

-- Each question of an archive alone is one that its run asks, in the part of the archive or in that of the link lines.
abbrev pub AsksAlone : Bool → (Question → Outcome) → Request → List Event → Type 0
AsksAlone steady world request part =
    (made linked : List Event)
    × ((part ≡ made ++ linked) × AsksByRun steady world (alone (build_in request part)) made
    × AsksByRun steady world (build_in request part) linked)

-- a large run asks on a host of its own
abbrev pub AsksWish : Bool → (Question → Outcome) → Wish → List Event → Type 0
AsksWish steady world (Compiles request) part = AsksFor steady world request part
AsksWish steady world (Records path request) part = AsksFor steady world request part
AsksWish steady world (Archives request) part = AsksAlone steady world request part
AsksWish steady world (Generates count) part = question_events part ≡ []
AsksWish steady world (Expands build) part = AsksByPlan steady world (listed_build build part) part
AsksWish steady world (Shows build) part = AsksTools steady world (listed_build build part) part
AsksWish steady world (Fleets ms) part = AsksInTurn steady world (askers (listed_members (heard part) ms)) part

-- words that can't be read ask nothing
abbrev pub AsksWords : Bool → (Question → Outcome) → Result Wish BadWord → List Event → Type 0
AsksWords steady world (Ok wish) part = AsksWish steady world wish part
AsksWords steady world (Err bad) part = question_events part ≡ []
