-- An archive alone: what the program does for it, and what it answers.
use Rattle.cc_build.specs.Way.{Writing, all_firsts}
use Rattle.cc_plan.specs.Reruns.{rerun_names}
use Rattle.std.specs.Prelude.{◌≡◌, ◌⊎◌, ◌≤◌, ◌*◌, ◌+◌, ℕ, List, [], ◌∷◌, ◌++◌, length, map, Bool, Option, Some, None, is_some, Result, Ok, Err, if◌then◌else◌}
use Rattle.cc_host.specs.Question.{Look, Agrees, answers}
use Rattle.cc_host.specs.Part.Step.{Lists}
use Rattle.cc_host.specs.declared.event.Event.{Event}
use Rattle.cc_host.specs.declared.question.Outcome.{Outcome}
use Rattle.cc_host.specs.declared.question.Question.{Question}
use Rattle.cc_plan.specs.Plan.{library_of, archive_refusal, run_has_one_form}
use Rattle.cc_plan.specs.Quiet.{quiet_warnings}
use Rattle.cc_plan.specs.Refusal.{path_refusal, link_refusal}
use Rattle.cc_flags.specs.Given.{first_of}
use Rattle.cc_run.specs.Part.{started}
use Rattle.cc_run.specs.Planned.{asked}
use Rattle.cc_build.specs.Archiving.{archive_reads, with_objects, unarchived_error}
use Rattle.cc_build.specs.Attempts.{attempts, to_attempt}
use Rattle.cc_build.specs.Build.{BuildSeen, AsksByRun}
use Rattle.cc_build.specs.Children.{AllWell}
use Rattle.cc_build.specs.Course.{course_alone}
use Rattle.cc_build.specs.Error.{ErrorSeen}
use Rattle.cc_build.specs.Failed.{Failed, HasFault}
use Rattle.cc_build.specs.Linking.{linked_name, directive_error, link_reads}
use Rattle.cc_build.specs.Promises.{terms_for, AreFirst}
use Rattle.cc_build.specs.Refusal.{archive_error}
use Rattle.cc_build.specs.Shows.{shows_of}
use Rattle.cc_build.specs.Stage.{Stage, asked_then, library_commands, library_stages, links_of, name_stages, printed_stages, written_children}
use Rattle.cc_build.specs.Stage.Stage.{Asks, Calls}
use Rattle.cc_build.specs.Went.{Went, Ends}
use Rattle.cc_command.specs.Answer.{AnswersError, env_in, ended_well, ended_wanting}
use Rattle.cc_command.specs.Promises.{EndsSpent}
use Rattle.cc_command.specs.Read.{Request}
use Rattle.cc_command.specs.declared.ended.Ended.{Ended}

-- the build without its sources, so that its added objects alone are archived
abbrev pub alone : BuildSeen → BuildSeen
alone b = with_objects b []

-- the path of the library that they are archived into
abbrev pub library_at : BuildSeen → List ℕ → List ℕ
library_at b output = library_of (alone b).config (alone b).env output

-- The link lines of the library at a path are planned by questions, and printed with those of the variables that were
-- read. A host that listens is told of the compiler that decides on the C++ library.
abbrev pub directed_stages : BuildSeen → Bool → Look → List ℕ → List Stage
directed_stages b listens links library =
    asked_then (first_of (path_refusal b.config b.env library) (link_refusal b.config b.env links))
    (printed_stages listens (quiet_warnings b.config b.env links) all_firsts
    (links_of b.config b.env (linked_name b.config b.env library) library links)
    (rerun_names link_reads b.config b.env links))

-- behind the library the lines of the variables that were read for it are printed, and then how it is linked
abbrev pub behind_library : BuildSeen → Bool → Look → Look → List ℕ → List Stage
behind_library b listens look links output =
    Asks ∷ (name_stages (alone b).config (alone b).env archive_reads look all_firsts
    ++ directed_stages b listens links (library_at b output))

-- The stages of an archive and of its link lines. The archive and its lines go by some verdicts, the link lines by
-- those of their own questions.
abbrev pub archive_stages : BuildSeen → Bool → Writing → Look → Look → List ℕ → List Stage
archive_stages b listens writing look links output =
    if is_some (unarchived_error (alone b).config (alone b).env output) then []
    else asked_then (archive_refusal (alone b).config (alone b).env look)
    (library_stages (alone b).config (alone b).env writing look output
    ++ behind_library b listens look links output)

-- the error of settings that are refused: before the archive, by its plan, or by that of the link lines
abbrev pub archive_refused : BuildSeen → Look → Look → List ℕ → Option ErrorSeen
archive_refused b look links output =
    first_of (unarchived_error (alone b).config (alone b).env output)
    (first_of (archive_error (alone b).config (alone b).env look output)
    (directive_error b.config b.env links (library_at b output)))

-- these verdicts agree with the answers of the first part, and those with the answers of the second
abbrev pub Agree : List Event → List Event → Look → Look → Type 0
Agree made linked look links = Agrees look (answers made) × Agrees links (answers linked)

-- The archive and its link lines, in two parts: each asks its own questions. The stages were done, or the error has its
-- cause.
pub record Archiving (listens steady : Bool) (world : Question → Outcome) (b : BuildSeen) (patience : Option ℕ)
    (turns : ℕ) (output : List ℕ) (part : List Event) (result : Result (Unit {0}) ErrorSeen) : Type 0 where
  pub made : List Event
  pub linked : List Event
  pub cut : part ≡ made ++ linked
  pub made_asks : AsksByRun steady world (alone b) made
  pub linked_asks : AsksByRun steady world b linked
  pub ends : (look links : Look) → Agree made linked look links
      → (left : ℕ) × (writing : Writing)
      × Ends (terms_for (alone b) listens (course_alone patience turns left)) (archive_refused b look links output)
      (archive_stages b listens writing look links output) part result (course_alone patience turns left).before
      (course_alone patience turns left).after

-- the build of a request with the variables that the host listed
abbrev pub build_in : Request → List Event → BuildSeen
build_in request part = record request.1 { env = env_in request part }

-- the host lists its variables, and then come the stages of the archive
abbrev pub wished_stages : Request → Bool → Writing → Look → Look → List Event → List Stage
wished_stages request listens writing look links part =
    Calls Lists ∷ archive_stages (build_in request part) listens writing look links request.0

abbrev pub wished_refusal : Request → Look → Look → List Event → Option ErrorSeen
wished_refusal request look links part = archive_refused (build_in request part) look links request.0

-- these stages of a request were done so
abbrev pub WishEnds : Bool → Request → Option ℕ → ℕ → Result (Unit {0}) ErrorSeen → Look → Look → List Event → Type 0
WishEnds listens request patience turns result look links part =
    (left : ℕ) × (writing : Writing)
    × Ends (terms_for (alone (build_in request part)) listens (course_alone patience turns left))
    (wished_refusal request look links part)
    (wished_stages request listens writing look links part) part result
    (course_alone patience turns left).before (course_alone patience turns left).after

-- what the program answers to a result, with the line that it prints
abbrev pub Says : Result (Unit {0}) ErrorSeen → List Event → Ended → Type 0
Says (Ok done) line ended = (ended ≡ ended_well) × (line ≡ [])
Says (Err e) line ended = AnswersError e line ended

-- an archive alone, in the two parts that ask, and with the line behind them
pub record Archived (listens steady : Bool) (world : Question → Outcome) (request : Request) (patience : Option ℕ)
    (turns : ℕ) (part : List Event) (ended : Ended) : Type 0 where
  pub run : List Event
  pub line : List Event
  pub cut : part ≡ run ++ line
  pub made : List Event
  pub linked : List Event
  pub parts : run ≡ made ++ linked
  pub made_asks : AsksByRun steady world (alone (build_in request run)) made
  pub linked_asks : AsksByRun steady world (build_in request run) linked
  pub result : Result (Unit {0}) ErrorSeen
  pub ends : (look links : Look) → Agree made linked look links
      → WishEnds listens request patience turns result look links run
  pub says : Says result line ended

-- The planned archive and index commands were run, and no other: the first was tried, unless the archiver has one form,
-- and each of the others has ended with 0. Behind them exactly the lines of the variables that were read for them were
-- printed, and then exactly the link lines, with those of their own variables.
pub record Written (listens : Bool) (b : BuildSeen) (patience : Option ℕ) (turns : ℕ) (look links : Look)
    (output : List ℕ) (part : List Event) : Type 0 where
  pub accepted : archive_refused b look links output ≡ None
  pub writing : Writing
  pub left : ℕ
  pub went : Went (terms_for (alone b) listens (course_alone patience turns left))
      (Calls Lists ∷ archive_stages b listens writing look links output) part
      (course_alone patience turns left).before (course_alone patience turns left).after
  pub writes : attempts part ≡ map to_attempt (library_commands (alone b).config (alone b).env look writing output)
  pub others : started part
      ≡ asked (shows_of (alone b).config (alone b).env listens)
      (written_children (run_has_one_form (alone b).config (alone b).env look)
      (library_commands (alone b).config (alone b).env look writing output))
  pub ended : AllWell part

-- What an archive alone promises of its answer and its part.
pub record ArchivePromises (listens steady : Bool) (world : Question → Outcome) (request : Request)
    (patience : Option ℕ) (turns : ℕ) (part : List Event) (ended : Ended) : Type 0 where
  -- the whole answer: each status with its cause
  pub answer : Archived listens steady world request patience turns part ended
  -- status 0: the library was written, and then the lines of its variables and its link lines were printed
  pub written : ended.status ≡ 0 → (look links : Look) → Agree answer.made answer.linked look links
      → Written listens (build_in request part) patience turns look links request.0 part
  -- one attempt for each of the first planned commands, and no other
  pub prefix : (look links : Look) → Agree answer.made answer.linked look links
      → (writing : Writing) × AreFirst (wished_stages request listens writing look links part) part
  -- where nothing is refused, no command failed but the first form, and no call of the host: it is done, the turns are
  -- spent, or memory was wanted
  pub complete : (look links : Look) → Agree answer.made answer.linked look links
      → wished_refusal request look links part ≡ None
      → (Failed (run_has_one_form (alone (build_in request part)).config
      (alone (build_in request part)).env look) part → ⊥) → (HasFault part → ⊥)
      → (ended ≡ ended_well) ⊎ (EndsSpent turns part ended ⊎ (ended ≡ ended_wanting))
  -- where the host tells its patience, as many times that as there are added objects and two are turns enough
  pub enough : (p : ℕ) → patience ≡ Some p → p * (length request.1.config.objects + 2) ≤ turns
      → EndsSpent turns part ended → ⊥
