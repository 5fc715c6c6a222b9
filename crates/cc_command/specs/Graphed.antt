-- Commands with prerequisites from a file: what `graph FILE` does, and what it answers.
use Rattle.std.specs.Prelude.{◌≡◌, ◌⊎◌, ◌<◌, ℕ, suc, List, [], ◌∷◌, ◌++◌, map, length, Bool, true, false, Option, Some, None, Result, Ok, Err, codes}
use Rattle.std.specs.Fmt.{decimal, signed_decimal}
use Rattle.std.specs.List.{flat_map, slice_get}
use Rattle.std.specs.Str.{is_utf8}
use Rattle.cc_env.specs.Snapshot.{snapshot_of}
use Rattle.cc_host.specs.Event.{Rose}
use Rattle.cc_host.specs.declared.event.Event.{Event}
use Rattle.cc_host.specs.declared.event.Event.TheVariants.{Listed}
use Rattle.cc_host.specs.declared.event.HostCall.TheVariants.{Vars}
use Rattle.cc_host.specs.declared.event.OutputKind.TheVariants.{Forward}
use Rattle.cc_host.specs.declared.event.Status.{Status}
use Rattle.cc_host.specs.declared.event.Status.TheVariants.{Code, NoCode}
use Rattle.cc_host.specs.declared.files.Held.{Held}
use Rattle.cc_host.specs.declared.files.Held.TheVariants.{Absent, Bytes}
use Rattle.cc_run.specs.Children.{nothing_kept}
use Rattle.cc_run.specs.Marks.{last_failure}
use Rattle.cc_run.specs.Rules.{Rules, rules}
use Rattle.cc_run.specs.Run.{nothing, run_from}
use Rattle.cc_run.specs.State.{State}
use Rattle.cc_run.specs.declared.planned.Shows.{Shows}
use Rattle.cc_graph.specs.Ends.{went_well, end_at}
use Rattle.cc_graph.specs.Graph.{graph_of}
use Rattle.cc_graph.specs.Queue.{command, graph_plan}
use Rattle.cc_graph.specs.Read.{Env, read_graph}
use Rattle.cc_graph.specs.Run.{RanGraph, PrintsGraph, IsChecked, GraphRun}
use Rattle.cc_graph.specs.declared.ends.NodeEnd.{NodeEnd}
use Rattle.cc_graph.specs.declared.ends.NodeEnd.TheVariants.{Ended as EndedSo, Skipped}
use Rattle.cc_graph.specs.declared.error.GraphError.{GraphError}
use Rattle.cc_graph.specs.declared.error.GraphError.TheVariants.{OutOfRange, Cycle, Run as Stopped, NoMemory as WantsMemory}
use Rattle.cc_graph.specs.declared.node.Node.{Node}
use Rattle.cc_graph.specs.declared.read.GraphFileError.{GraphFileError}
use Rattle.cc_build.specs.Course.{Course, OnCourse, CallsEnd}
use Rattle.cc_build.specs.Error.{ErrorSeen, no_memory}
use Rattle.cc_build.specs.Promises.{NothingRuns}
use Rattle.cc_build.specs.RunErrors.{run_error}
use Rattle.cc_build.specs.Shows.{is_debug_wanted}
use Rattle.cc_build.specs.Stop.{failed_error}
use Rattle.cc_build.specs.Went.{IsOf, idle_seat, turns_at}
use Rattle.cc_build.specs.declared.error.ErrorKind.TheVariants.{IOError, InvalidArgument}
use Rattle.cc_command.specs.Answer.{AnswersBad, AnswersError, PrintsLine, error_line, is_wanting, ended_well, ended_refused, ended_wanting}
use Rattle.cc_command.specs.Database.{Faults}
use Rattle.cc_command.specs.Lines.{shows}
use Rattle.cc_command.specs.Promises.{PrintsLast}
use Rattle.cc_command.specs.Read.{bad_at, is}
use Rattle.cc_command.specs.declared.ended.Ended.{Ended}
use Rattle.cc_command.specs.declared.failing.Failure.{Failure}
use Rattle.cc_command.specs.declared.graph.Outcome.{Outcome}
use Rattle.cc_command.specs.declared.words.BadWord.{BadWord}
use Rattle.cc_command.specs.declared.words.WordCause.TheVariants.{NoName, UnknownKey}

-- ---- words

-- the file that the words behind `graph` name, or the first bad word
abbrev pub file_of : List (List ℕ) → Result (List ℕ) BadWord
file_of [] = Err (bad_at 1 NoName)
file_of (file ∷ []) = Ok file
file_of (file ∷ word ∷ words) = Err (bad_at 2 UnknownKey)

-- ---- a file

-- what is seen of files: the reads so far, each with what it gave, and how often one failed
pub record Shelf : Type 0 where
  pub reads : List (List ℕ × Held)
  pub faults : ℕ

abbrev pub shelf : {X : Type 0} → (X → List (List ℕ × Held)) → (X → ℕ) → X → Shelf
shelf reads faults files = record { reads = reads files; faults = faults files }

abbrev pub nodes_if : Result (List Node) GraphFileError → Option (List Node)
nodes_if (Ok nodes) = Some nodes
nodes_if (Err e) = None

-- the commands that a text says, which is UTF-8 or not
abbrev pub nodes_by : Env → List ℕ → Bool → Option (List Node)
nodes_by env bytes true = nodes_if (read_graph env bytes)
nodes_by env bytes false = None

-- the commands of what a file holds, in this environment
abbrev pub graph_in : Env → Held → Option (List Node)
graph_in env Absent = None
graph_in env (Bytes bytes) = nodes_by env bytes (is_utf8 bytes)

-- ---- errors

abbrev pub unread_error : List ℕ → ErrorSeen
unread_error path = record { kind = IOError; subject = path; message = codes "failed to read " ++ path }

abbrev pub no_graph_error : List ℕ → ErrorSeen
no_graph_error path = record { kind = InvalidArgument; subject = path; message = codes "no command graph in " ++ path }

abbrev pub need_error : List ℕ → ℕ → ℕ → ErrorSeen
need_error path node need =
    record {
      kind = InvalidArgument;
      subject = path;
      message = codes "node " ++ decimal node ++ codes " needs " ++ decimal need;
    }

abbrev pub cycle_error : List ℕ → List ℕ → ErrorSeen
cycle_error path places =
    record {
      kind = InvalidArgument;
      subject = path;
      message = codes "cycle" ++ flat_map (λ p. codes " " ++ decimal p) places;
    }

-- the error of commands from a file that were not run to their ends
abbrev pub graph_error : List ℕ → List Node → GraphError → ErrorSeen
graph_error path nodes (OutOfRange node need) = need_error path node need
graph_error path nodes (Cycle places) = cycle_error path places
graph_error path nodes (Stopped e) = run_error (map command nodes) e
graph_error path nodes WantsMemory = no_memory

-- ---- lines

abbrev pub end_text : NodeEnd → List ℕ
end_text (EndedSo (Code n)) = signed_decimal n
end_text (EndedSo NoCode) = codes "ended without a status"
end_text Skipped = codes "skipped"

-- the line of a node: its place, and what became of it
abbrev pub end_line : ℕ → NodeEnd → List ℕ
end_line place end = decimal place ++ codes " " ++ end_text end ++ 10 ∷ []

-- a line for each of these, of which the first has this place
abbrev pub lines_from : ℕ → List NodeEnd → List (List ℕ)
lines_from place [] = []
lines_from place (end ∷ ends) = end_line place end ∷ lines_from (suc place) ends

-- ---- a run

-- what is shown: warnings, the commands' own output, and lines for debugging where the variable asks for them
abbrev pub graph_shows : Bool → Env → Shows
graph_shows listens env = record {
  warnings = true;
  debug = is_debug_wanted (record { inherited = env; explicit = [] });
  out = Forward;
  listens = listens;
  stop = false;
}

abbrev pub graph_rules : Bool → Env → List Node → Rules
graph_rules listens env nodes = rules (graph_plan nodes) (graph_shows listens env)

-- no command was started, from a log on
abbrev pub begins : List Event → Course → State
begins log c = record {
  log = log;
  patience = c.patience;
  kept = nothing_kept;
  seat = idle_seat c.total c.before;
  turns = turns_at c.before 0;
}

-- the commands were run, from a log on by this part, or not begun since they can't be put in an order
pub record RanTo (listens : Bool) (env : Env) (nodes : List Node) (result : Result (List NodeEnd) GraphError)
    (part : List Event) (c : Course) : Type 0 where
  pub log : List Event
  pub made : ℕ
  pub run : RanGraph (length nodes) (graph_rules listens env nodes) c.total (begins log c) result
      (log ++ part) c.patience (idle_seat c.total c.after) (turns_at c.after made)
  pub lines : PrintsGraph (graph_rules listens env nodes) result part
  pub checked : IsChecked (graph_of nodes) result

-- the same, of a call that is given so many turns
abbrev pub ByGraph : {X S : Type 0} → (X → List Event) → (X → Option ℕ) → (S → Option ℕ) → (S → ℕ) → (S → ℕ) → (S → ℕ)
    → ℕ → X → X → S → S → (List Event → Course → Type 0) → Type 0
ByGraph log patience total faults taken load given host host' seat seat' fact =
    (left : ℕ) × OnCourse log patience total faults taken load given left host host' seat seat' fact

-- each ended with 0
abbrev pub AllWell : List NodeEnd → Type 0
AllWell ends = (p : ℕ) → p < length ends → went_well (end_at ends p) ≡ true

-- the error of a command that failed
abbrev pub failure_error : Failure → ErrorSeen
failure_error failure = failed_error failure.status failure.cmd

-- none failed, and each ended with 0; or this is the error of the one whose failing end stands last
abbrev pub IsFailure : List Node → Rules → List NodeEnd → List Event → Option ErrorSeen → Type 0
IsFailure nodes r ends part None = (last_failure (run_from r.plan nothing part).marks ≡ None) × AllWell ends
IsFailure nodes r ends part (Some e) = (p : ℕ) × ((status : Status) × ((node : Node)
    × ((last_failure (run_from r.plan nothing part).marks ≡ Some (p, status))
    × (slice_get nodes p ≡ Some node) × (e ≡ failed_error status node.cmd.cmd))))

-- these lines were printed, or one of them couldn't be, or memory for them was wanted
abbrev pub PrintsEnd : List (List ℕ) → List Event → Result (Unit {0}) ErrorSeen → Type 0
PrintsEnd lines part result = ((result ≡ Err no_memory) × (part ≡ [])) ⊎ CallsEnd (shows lines) part result

-- memory was wanted; or a line couldn't be printed; or there is a line for each, and it is known which failed last
abbrev pub IsTold : List Node → Rules → List NodeEnd → List Event → List Event → Result Outcome ErrorSeen → Type 0
IsTold nodes r ends run lines result =
    ((result ≡ Err no_memory) × (lines ≡ []))
    ⊎ (((e : ErrorSeen) × ((result ≡ Err e) × CallsEnd {T = Unit {0}} (shows (lines_from 0 ends)) lines (Err e)))
    ⊎ ((o : Outcome) ×
    ((result ≡ Ok o) × CallsEnd {T = Unit {0}} (shows (lines_from 0 ends)) lines (Ok tt) × (o.ends ≡ ends)
    × IsFailure nodes r ends run o.failure)))

-- they were run to their ends, and then come their lines
pub record Finished (listens : Bool) (env : Env) (nodes : List Node) (result : Result Outcome ErrorSeen)
    (part : List Event) (c : Course) : Type 0 where
  pub ends : List NodeEnd
  pub run : List Event
  pub lines : List Event
  pub cut : part ≡ run ++ lines
  pub ran : RanTo listens env nodes (Ok ends) run c
  pub graph : GraphRun nodes (graph_rules listens env nodes) c.total run ends
  pub told : IsTold nodes (graph_rules listens env nodes) ends run lines result

-- they were not, and the error says why
pub record Unfinished (listens : Bool) (path : List ℕ) (env : Env) (nodes : List Node)
    (result : Result Outcome ErrorSeen) (part : List Event) (c : Course) : Type 0 where
  pub error : ErrorSeen
  pub is : result ≡ Err error
  pub why : GraphError
  pub of : IsOf (graph_error path nodes why) error
  pub ran : RanTo listens env nodes (Err why) part c

abbrev pub Running : Bool → List ℕ → Env → List Node → Result Outcome ErrorSeen → List Event → Course → Type 0
Running listens path env nodes result part c =
    Finished listens env nodes result part c ⊎ Unfinished listens path env nodes result part c

-- ---- a whole call

-- the host listed its variables, and this is their snapshot
abbrev pub IsListed : List Event → Env → Type 0
IsListed part env = (vars : List (List ℕ × List ℕ)) × ((part ≡ Listed vars ∷ []) × (env ≡ snapshot_of vars))

-- so it did last
abbrev pub EndsListed : List Event → Type 0
EndsListed log = (before : List Event) × ((vars : List (List ℕ × List ℕ)) × (log ≡ before ++ Listed vars ∷ []))

-- nothing was done, and the error has this cause
pub record Nothing (cause : ErrorSeen → Type 0) (result : Result Outcome ErrorSeen) (part : List Event)
    (c : Course) : Type 0 where
  pub error : ErrorSeen
  pub is : result ≡ Err error
  pub why : cause error
  pub none : part ≡ []
  pub idle : c.after ≡ c.before

-- the read failed, which its count says, or memory was wanted
abbrev pub IsUnread : List ℕ → Shelf → Shelf → ErrorSeen → Type 0
IsUnread path old new e = (e ≡ no_memory) ⊎ ((e ≡ unread_error path) × Rose old.faults new.faults)

-- what the file holds are no commands, or memory was wanted
abbrev pub IsNoGraph : List ℕ → Env → Held → ErrorSeen → Type 0
IsNoGraph path env held e = (e ≡ no_memory) ⊎ ((e ≡ no_graph_error path) × (graph_in env held ≡ None))

abbrev pub Holding : Bool → List ℕ → Env → Held → Result Outcome ErrorSeen → List Event → Course → Type 0
Holding listens path env held result part c =
    Nothing (IsNoGraph path env held) result part c
    ⊎ ((nodes : List Node) × ((graph_in env held ≡ Some nodes) × Running listens path env nodes result part c))

-- the file was read, once, and nothing else was
pub record HasRead (listens : Bool) (path : List ℕ) (env : Env) (old new : Shelf) (result : Result Outcome ErrorSeen)
    (part : List Event) (c : Course) : Type 0 where
  pub held : Held
  pub reads : new.reads ≡ old.reads ++ (path, held) ∷ []
  pub holding : Holding listens path env held result part c

-- the file couldn't be read
pub record Unread (path : List ℕ) (old new : Shelf) (result : Result Outcome ErrorSeen) (part : List Event)
    (c : Course) : Type 0 where
  pub nothing : Nothing (IsUnread path old new) result part c
  pub reads : new.reads ≡ old.reads

-- the host listed its variables, and then the file was read, or couldn't be
pub record Heard (listens : Bool) (path : List ℕ) (old new : Shelf) (result : Result Outcome ErrorSeen)
    (part : List Event) (c : Course) : Type 0 where
  pub vars : List (List ℕ × List ℕ)
  pub rest : List Event
  pub cut : part ≡ Listed vars ∷ rest
  pub read : Unread path old new result rest c ⊎ HasRead listens path (snapshot_of vars) old new result rest c

-- the host couldn't list its variables, or did, and memory for them was wanted
abbrev pub IsUnlisted : List Event → ErrorSeen → Type 0
IsUnlisted part e = Faults Vars [] part e ⊎
    ((e ≡ no_memory) × ((vars : List (List ℕ × List ℕ)) × (part ≡ Listed vars ∷ [])))

-- so it was, and no file was read
pub record Unlisted (old new : Shelf) (result : Result Outcome ErrorSeen) (part : List Event)
    (c : Course) : Type 0 where
  pub error : ErrorSeen
  pub is : result ≡ Err error
  pub why : IsUnlisted part error
  pub reads : new ≡ old
  pub idle : c.after ≡ c.before

abbrev pub Graphing : Bool → List ℕ → Shelf → Shelf → Result Outcome ErrorSeen → List Event → Course → Type 0
Graphing listens path old new result part c =
    Unlisted old new result part c ⊎ Heard listens path old new result part c

-- ---- its end

-- the answer that tells the ends: status 0, or 1 with the error of the one that failed last
abbrev pub ended_told : List NodeEnd → Ended
ended_told ends = record ended_well { graph = Some ends }

abbrev pub ended_failed : List NodeEnd → ErrorSeen → Ended
ended_failed ends e = record (ended_refused e) { graph = Some ends }

-- the line of the error was printed, or memory for it was wanted
abbrev pub Fails : List NodeEnd → ErrorSeen → List Event → Ended → Type 0
Fails ends e line ended =
    ((ended ≡ ended_failed ends e) × (is_wanting e.kind ≡ false) × PrintsLine (error_line e) line) ⊎
    ((ended ≡ ended_wanting) × (line ≡ []))

abbrev pub Concludes : List NodeEnd → Option ErrorSeen → List Event → Ended → Type 0
Concludes ends None line ended = (ended ≡ ended_told ends) × (line ≡ [])
Concludes ends (Some e) line ended = Fails ends e line ended

abbrev pub SaysGraph : Result Outcome ErrorSeen → List Event → Ended → Type 0
SaysGraph (Ok o) line ended = Concludes o.ends o.failure line ended
SaysGraph (Err e) line ended = AnswersError e line ended

-- the whole of it, with the line of the error behind
pub record Graphed (listens : Bool) (path : List ℕ) (old new : Shelf) (ended : Ended) (part : List Event)
    (c : Course) : Type 0 where
  pub run : List Event
  pub line : List Event
  pub cut : part ≡ run ++ line
  pub result : Result Outcome ErrorSeen
  pub graphing : Graphing listens path old new result run c
  pub says : SaysGraph result line ended

-- bad words: their line alone was printed, and nothing else was done
abbrev pub AnswersGraph : Bool → Result (List ℕ) BadWord → Shelf → Shelf → Ended → List Event → Course → Type 0
AnswersGraph listens (Ok path) old new ended part c = Graphed listens path old new ended part c
AnswersGraph listens (Err bad) old new ended part c = AnswersBad bad part ended × (new ≡ old) × (c.after ≡ c.before)

-- ---- what follows

-- The ends are told: the commands are those that the one read gave, they were run to these ends, a line was printed for
-- each, and the answer says whether one of them failed.
pub record ToldGraph (listens : Bool) (path : List ℕ) (old new : Shelf) (ends : List NodeEnd) (ended : Ended)
    (part : List Event) (c : Course) : Type 0 where
  pub vars : List (List ℕ × List ℕ)
  pub held : Held
  pub nodes : List Node
  pub reads : new.reads ≡ old.reads ++ (path, held) ∷ []
  pub are : graph_in (snapshot_of vars) held ≡ Some nodes
  pub run : List Event
  pub lines : List Event
  pub line : List Event
  pub cut : part ≡ Listed vars ∷ (run ++ (lines ++ line))
  pub ran : RanTo listens (snapshot_of vars) nodes (Ok ends) run c
  pub graph : GraphRun nodes (graph_rules listens (snapshot_of vars) nodes) c.total run ends
  pub shown : CallsEnd {T = Unit {0}} (shows (lines_from 0 ends)) lines (Ok tt)
  pub failure : Option ErrorSeen
  pub failed : IsFailure nodes (graph_rules listens (snapshot_of vars) nodes) ends run failure
  pub concludes : Concludes ends failure line ended

abbrev pub IfFile : Result (List ℕ) BadWord → (List ℕ → Type 0) → Type 0
IfFile (Ok path) fact = fact path
IfFile (Err bad) fact = Unit {0}

-- an end without the ends of a graph
abbrev pub ungraphed : Ended → Ended
ungraphed ended = record ended { graph = None }

-- What a call for these words promises of its answer, its part and its course, with what is seen of its files before
-- and behind it.
pub record GraphPromises (listens : Bool) (words : Result (List ℕ) BadWord) (old new : Shelf) (ended : Ended)
    (part : List Event) (c : Course) : Type 0 where
  -- the whole answer: each status with its cause, and what was done and read on every exit
  pub answer : AnswersGraph listens words old new ended part c
  -- where the ends are told, the commands were run to them
  pub graph : IfFile words
      (λ path. (ends : List NodeEnd) → ended.graph ≡ Some ends → ToldGraph listens path old new ends ended part c)
  -- the line of the error or of the bad word, or the fault of its print, is the last event
  pub printed : PrintsLast part (ungraphed ended)
  -- each child that was started has ended or was left alone
  pub settled : NothingRuns part

-- a fact of the words behind the first, where that asks for a graph
abbrev pub IfGraph : List (List ℕ) → (List (List ℕ) → Type 0) → Type 0
IfGraph [] fact = Unit {0}
IfGraph (first ∷ words) fact = is first "graph" ≡ true → fact words

-- a fact of words that ask for no graph
abbrev pub UnlessGraph : List (List ℕ) → Type 0 → Type 0
UnlessGraph [] fact = fact
UnlessGraph (first ∷ words) fact = is first "graph" ≡ false → fact
