-- What questions do to the log of a host: the words that are drawn, and the probe files that are made, used and dropped.
use Rattle.std.specs.Prelude.{◌≡◌, ◌≢◌, IfOk, ◌≤◌, ◌++◌, ◌+◌, ℕ, Bool, true, false, List, [], ◌∷◌, Option, Some, None, Result, Ok, Err, map, bytes_eq, if◌then◌else◌}
use Rattle.std.specs.List.{Contains, list_all}
use Rattle.cc_host.specs.declared.event.Event.{Event}
use Rattle.cc_host.specs.declared.event.Event.TheVariants.{Answered, Reused, Unasked, Drawn, Opened, Taken, Dropped, Made, Fault}
use Rattle.cc_host.specs.declared.event.Scope.TheVariants.{Probe as ForProbes}
use Rattle.cc_host.specs.declared.question.Ask.TheVariants.{Exists as AsksExists}
use Rattle.cc_host.specs.declared.question.Question.{Question}
use Rattle.cc_host.specs.declared.question.ProbeFiles.{ProbeFiles}
use Rattle.cc_host.specs.Part.{is_probing}
use Rattle.cc_host.specs.Probe.{opens, drops, times}
use Rattle.cc_host.specs.Verdict.{verdict_of}
use Rattle.cc_host.specs.declared.question.Outcome.{Outcome}
use Rattle.cc_host.specs.declared.question.Outcome.TheVariants.{Unanswered}
use Rattle.cc_text.specs.declared.memory.NoMemory.{NoMemory}
use Rattle.cc_host.specs.Question.{Answer, answers}
use Rattle.cc_tool.specs.declared.kinds.FileKind.{FileKind}
use Rattle.cc_tool.specs.Excused.{Excused, weight}
use Rattle.cc_tool.specs.Founded.{Founded}
use Rattle.cc_tool.specs.Files.{suffix_of, contents_of, source_of, object_of, probe_path, IsPath}

-- an event that a question leaves
abbrev pub is_asked : Event → Bool
is_asked (Answered question files outcome) = true
is_asked (Reused question verdict) = true
is_asked (Unasked question) = true
is_asked (Drawn word) = true
is_asked (Opened path bytes) = true
is_asked (Taken path) = true
is_asked (Dropped path) = true
is_asked (Made ForProbes path) = true
is_asked (Fault call why) = is_probing call
is_asked _ = false

-- a file: its path and its contents
abbrev pub File : Type 0
File = List ℕ × List ℕ

-- the files without the first of a path
abbrev pub without : List ℕ → List File → List File
without path [] = []
without path (file ∷ files) = if bytes_eq file.0 path then files else file ∷ without path files

-- where a part stands: the word that was drawn right before, and the probe files that were made and not yet dropped
pub record Stand : Type 0 where
  pub word : Option ℕ
  pub files : List File

abbrev pub stand_after : Stand → Event → Stand
stand_after s (Drawn word) = record { word = Some word; files = s.files }
stand_after s (Opened path bytes) = record { word = None; files = s.files ++ (path, bytes) ∷ [] }
stand_after s (Dropped path) = record { word = None; files = without path s.files }
stand_after s event = record { word = None; files = s.files }

-- where a part stands at its end
abbrev pub stand : Stand → List Event → Stand
stand s [] = s
stand s (event ∷ part) = stand (stand_after s event) part

-- the path is that of a probe file of this folder, by the word that was drawn right before
abbrev pub IsNamed : List ℕ → Option ℕ → FileKind → List ℕ → Type 0
IsNamed dir None kind path = ⊥
IsNamed dir (Some word) kind path = path ≡ probe_path dir word (suffix_of kind)

-- the file is made and not yet dropped, of the kind that is needed; where none is, the path is empty
abbrev pub IsReady : List ℕ → List File → Option FileKind → List ℕ → Type 0
IsReady dir files None path = path ≡ []
IsReady dir files (Some kind) path = IsPath dir kind path × Contains files (path, contents_of kind)

-- the folder, where a file is needed
abbrev pub folder_for : List ℕ → Option FileKind → List ℕ
folder_for dir None = []
folder_for dir (Some kind) = dir

-- a question is asked with the files that it needs
abbrev pub IsServed : List ℕ → List File → Question → Option ProbeFiles → Type 0
IsServed dir files q None = source_of q.ask ≡ None
IsServed dir files q (Some carried) = (carried.dir ≡ folder_for dir (source_of q.ask)) × IsReady dir files (source_of q.ask) carried.source × IsReady dir files (object_of q.ask) carried.object

-- what may follow
abbrev pub May : List ℕ → Stand → Event → Type 0
May dir s (Opened path bytes) = (kind : FileKind) × IsNamed dir s.word kind path × (bytes ≡ contents_of kind)
May dir s (Taken path) = (kind : FileKind) × IsNamed dir s.word kind path
May dir s (Made ForProbes path) = path ≡ dir
May dir s (Answered question files outcome) = IsServed dir s.files question files
May dir s _ = Unit {0}

-- each event may follow those before it
abbrev pub Follows : List ℕ → Stand → List Event → Type 0
Follows dir s [] = Unit {0}
Follows dir s (event ∷ part) = May dir s event × Follows dir (stand_after s event) part

abbrev pub paths : List File → List (List ℕ)
paths files = map (λ f. f.0) files

-- Part of a question: it begins with these files open and ends with those, gives these answers, and excuses this much.
pub record Probes (dir : List ℕ) (before after : List Event) (from to : List File) (new : List Answer) (excuse : ℕ) : Type 0 where
  pub part : List Event
  pub extends : after ≡ before ++ part
  pub asked : list_all is_asked part ≡ true
  pub follows : Follows dir (record { word = None; files = from }) part
  pub files : (stand (record { word = None; files = from }) part).files ≡ to
  pub queue : paths from ++ opens part ≡ drops part ++ paths to
  pub excused : Excused 0 part
  pub weighs : excuse ≤ weight 0 part
  pub founded : Founded false part
  pub answered : answers part ≡ new

-- These files were made and not yet dropped: beside those that were dropped each path was made once more for each file of it.
pub record AreOpen (files : List File) (log : List Event) : Type 0 where
  pub each : (path : List ℕ) → times path (drops log) + times path (paths files) ≤ times path (opens log)

-- the file of a kind that a call made
abbrev pub made_of : FileKind → Result (Option (List ℕ)) NoMemory → List File
made_of kind (Ok (Some path)) = (path, contents_of kind) ∷ []
made_of kind (Ok None) = []
made_of kind (Err e) = []

-- the file has a name of its kind
abbrev pub IsMade : List ℕ → FileKind → Result (Option (List ℕ)) NoMemory → Type 0
IsMade dir kind (Ok (Some path)) = IsPath dir kind path
IsMade dir kind (Ok None) = Unit {0}
IsMade dir kind (Err e) = Unit {0}

-- no file was made, for a cause
abbrev pub lack : Result (Option (List ℕ)) NoMemory → ℕ
lack (Ok (Some path)) = 0
lack (Ok None) = 10
lack (Err e) = 0

-- what is heard of a question
abbrev pub heard : Question → Result Outcome NoMemory → List Answer
heard q (Ok outcome) = (q, verdict_of q outcome) ∷ []
heard q (Err e) = []

-- a file of a kind was made, or couldn't be for a cause; those that were open before are open still
abbrev pub MakesFile : List ℕ → FileKind → List Event → List Event → Result (Option (List ℕ)) NoMemory → Type 0
MakesFile dir kind before after made = (from : List File) → Probes dir before after from (from ++ made_of kind made) [] (lack made)

-- a question for a command, which needs this source and this object
abbrev pub Needs : Question → Option FileKind → Option FileKind → Type 0
Needs q source object = (q.ask ≢ AsksExists) × (source_of q.ask ≡ source) × (object_of q.ask ≡ object)

-- a file of a kind
abbrev pub file_of : FileKind → List ℕ → File
file_of kind path = (path, contents_of kind)

-- the source and the object that a question carries
abbrev pub both_of : FileKind → FileKind → ProbeFiles → List File
both_of kind object files = file_of kind files.source ∷ file_of object files.object ∷ []

-- where the world is steady, an outcome is the world's, unless the question couldn't be asked
abbrev pub IsHonest : Bool → (Question → Outcome) → Question → Result Outcome NoMemory → Type 0
IsHonest steady world q result = steady ≡ true → IfOk result (λ outcome. outcome ≢ Unanswered → outcome ≡ world q)
