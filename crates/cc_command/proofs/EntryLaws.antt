-- The entries of a database: what a log has of the sources that were compiled.
use Rattle.std.proofs.Common.{◌≡◌, ◌⊎◌, inl, inr, ℕ, zero, suc, ◌+◌, ◌-◌, ◌<◌, List, [], ◌∷◌, ◌++◌, length, map, drop, get_or, replicate, Bool, true, false, Option, Some, None, is_some, if◌then◌else◌, refl, sym, ◌∙◌, ap, ap₂, subst, add-one, append_assoc, append-nil, arith}
use Rattle.std.specs.List.{flat_map, slice_get}
use Rattle.std.proofs.Math.Seq.{drop-append_seam}
use Rattle.std.proofs.lemmas.Grind.{flat_map-append}
use Rattle.std.proofs.lemmas.Option.{slice_get_read}
use Rattle.std.proofs.lemmas.List.{length-append, length-map}
use Rattle.cc_env.specs.Env.{EnvSeen}
use Rattle.cc_host.specs.Command.{CommandSeen}
use Rattle.cc_host.specs.CompileCommand.{CompileCommandSeen}
use Rattle.cc_host.specs.Event.{apart, refused, IsCaused}
use Rattle.cc_host.specs.Question.{Look}
use Rattle.cc_host.specs.Script.{same_role}
use Rattle.cc_host.specs.declared.event.Event.{Event}
use Rattle.cc_host.specs.declared.event.Event.TheVariants.{Started, Turn, Removed, Fault}
use Rattle.cc_host.specs.declared.event.HostCall.{HostCall}
use Rattle.cc_host.specs.declared.event.HostError.{HostError}
use Rattle.cc_host.specs.declared.event.HostError.TheVariants.{Fault as Faulted, NoMemory as WantsMemory}
use Rattle.cc_host.specs.declared.event.Role.TheVariants.{Compile, Archive, Index}
use Rattle.cc_plan.specs.Plan.{archives_of, compile_in, compiles_of, indexes_of, library_of, objects_of, run_has_one_form}
use Rattle.cc_flags.specs.declared.object.Object.{Object}
use Rattle.cc_flags.specs.declared.settings.BuildConfig.{BuildConfig}
use Rattle.cc_run.specs.Part.{started, started_of}
use Rattle.cc_run.specs.Planned.{Asked, asked}
use Rattle.cc_run.specs.declared.planned.Planned.{Planned}
use Rattle.cc_run.specs.declared.planned.Shows.{Shows}
use Rattle.cc_build.specs.Built.{Built}
use Rattle.cc_build.specs.Error.{ErrorSeen, no_memory}
use Rattle.cc_build.specs.Stage.{planned, written_children, link_stages, library_commands, ending_steps}
use Rattle.cc_build.specs.Stage.Stage.{Asks}
use Rattle.cc_build.specs.Stage.{children_in}
use Rattle.cc_build.specs.Stop.{fault_error, host_error}
use Rattle.cc_build.specs.Went.{Terms}
use Rattle.cc_build.proofs.RunLaws.{children_calls, went_started}
use Rattle.cc_command.specs.Database.{Faults, optional, compile_start, compile_starts, entry_of, entries_by, entries_of, last_of, logged_entries}

-- ---- the commands that were started to compile

-- turns that stand as one event are no such commands
no_turn : (n : ℕ) → compile_starts (replicate n (Turn 1)) ≡ []
no_turn zero = refl
no_turn (suc n) = no_turn n

one_apart : (event : Event) → compile_starts (apart event) ≡ compile_start event
one_apart (Turn count) = no_turn count
one_apart event = append-nil (compile_start event)

-- a log as it is lent has the same
pub starts_apart : (log : List Event) → compile_starts (flat_map apart log) ≡ compile_starts log
starts_apart [] = refl
starts_apart (event ∷ log) = flat_map-append compile_start (apart event) (flat_map apart log) ∙ ap₂ (λ u v. u ++ v) (one_apart event) (starts_apart log)

pub starts_then : (a b : List Event) → compile_starts (a ++ b) ≡ compile_starts a ++ compile_starts b
starts_then a b = flat_map-append compile_start a b

-- the command of one that is asked for, where it compiles
abbrev compiled : Asked → List CommandSeen
compiled a = if same_role a.role Compile then a.cmd ∷ [] else []

one_started : (event : Event) → compile_start event ≡ flat_map compiled (started_of event)
one_started (Started id role cmd pipes held) = sym (append-nil (if same_role role Compile then cmd ∷ [] else []))
one_started event = refl

all_started : (part : List Event) → compile_starts part ≡ flat_map compiled (started part)
all_started [] = refl
all_started (event ∷ part) = ap₂ (λ u v. u ++ v) (one_started event) (all_started part) ∙ sym (flat_map-append compiled (started_of event) (started part))

-- the same of one that is planned
abbrev compiling : Planned → List CommandSeen
compiling p = if same_role p.role Compile then p.cmd ∷ [] else []

asked_compile : (shows : Shows) (ps : List Planned) → flat_map compiled (asked shows ps) ≡ flat_map compiling ps
asked_compile shows [] = refl
asked_compile shows (p ∷ ps) = ap (λ l. compiling p ++ l) (asked_compile shows ps)

compiles_planned : (cmds : List CommandSeen) → flat_map compiling (planned Compile cmds) ≡ cmds
compiles_planned [] = refl
compiles_planned (cmd ∷ cmds) = ap (λ l. cmd ∷ l) (compiles_planned cmds)

archives_planned : (cmds : List CommandSeen) → flat_map compiling (planned Archive cmds) ≡ []
archives_planned [] = refl
archives_planned (cmd ∷ cmds) = archives_planned cmds

indexes_planned : (cmds : List CommandSeen) → flat_map compiling (planned Index cmds) ≡ []
indexes_planned [] = refl
indexes_planned (cmd ∷ cmds) = indexes_planned cmds

back_empty : {X : Type 0} (a b : List X) → a ++ b ≡ [] → b ≡ []
back_empty [] b h = h
back_empty (x ∷ a) b h = absurd (cc)

written_none : (one_form : Bool) (ps : List Planned) → flat_map compiling ps ≡ [] → flat_map compiling (written_children one_form ps) ≡ []
written_none true ps none = none
written_none false [] none = none
written_none false (p ∷ ps) none = back_empty (compiling p) (flat_map compiling ps) none

module _ (t : Terms) (set : BuildConfig) (env : EnvSeen) (look : Look) (output : List ℕ) (part : List Event) (b : Built t set env look output part) where
  runs_starts : compile_starts b.runs ≡ compiles_of set env look
  runs_starts = all_started b.runs ∙ ap (flat_map compiled) b.compiles ∙ asked_compile t.shows (planned Compile (compiles_of set env look)) ∙ compiles_planned (compiles_of set env look)

  archives_starts : compile_starts b.archives ≡ []
  archives_starts =
      let cmds = library_commands set env look b.way.writing output in
      let archives = archives_of set env look b.way.writing.is_plain b.way.writing.here output in
      let indexes = indexes_of set env look b.way.writing.is_plain output in
      all_started b.archives ∙ ap (flat_map compiled) b.others ∙ asked_compile t.shows (written_children (run_has_one_form set env look) cmds)
      ∙ written_none (run_has_one_form set env look) cmds (flat_map-append compiling (planned Archive archives) (planned Index indexes) ∙ ap₂ (λ u v. u ++ v) (archives_planned archives) (indexes_planned indexes))

  link_children : children_in (link_stages set env (is_some b.way.found.here) look b.way.firsts output) ≡ []
  unfolding link_stages
  link_children = children_calls (ending_steps (is_some b.way.found.here) _ b.way.firsts _ _)

  lines_starts : compile_starts b.lines ≡ []
  lines_starts = all_started b.lines ∙ ap (flat_map compiled) (went_started t (Asks ∷ link_stages set env (is_some b.way.found.here) look b.way.firsts output) b.lines b.linked.0 b.linked.1 b.linked.2) ∙ asked_compile t.shows (children_in (Asks ∷ link_stages set env (is_some b.way.found.here) look b.way.firsts output)) ∙ ap (flat_map compiling) link_children

  -- a part that built the library started the planned compile commands, and no other
  pub built_starts : compile_starts part ≡ compiles_of set env look
  built_starts =
      let removed = Removed (library_of set env output) b.how in
      ap compile_starts b.cut ∙ starts_then (b.runs ++ (removed ∷ b.archives)) b.lines
      ∙ ap₂ (λ u v. u ++ v) (starts_then b.runs (removed ∷ b.archives) ∙ ap₂ (λ u v. u ++ v) runs_starts archives_starts) lines_starts
      ∙ append-nil (compiles_of set env look ++ []) ∙ append-nil (compiles_of set env look)

-- ---- the entries

planned_entries : (here : List ℕ) (f : Object → CommandSeen) (objects : List Object) → entries_by here objects (map f objects) ≡ map (λ object. entry_of here object (f object)) objects
planned_entries here f [] = refl
planned_entries here f (object ∷ objects) = ap (λ l. entry_of here object (f object) ∷ l) (planned_entries here f objects)

sub_back : (a b n : ℕ) → b ≡ n → a + b - n ≡ a
sub_back a b n e = omega arith

last_behind : {X : Type 0} (n : ℕ) (a b : List X) → length b ≡ n → last_of n (a ++ b) ≡ b
last_behind n a b long = ap (λ k. drop k (a ++ b)) (ap (λ k. k - n) (length-append a b) ∙ sub_back (length a) (length b) n long) ∙ drop-append_seam a b

-- behind a log the entries of the sources are those of the commands that were planned for them
pub planned_log : (set : BuildConfig) (env : EnvSeen) (look : Look) (here : List ℕ) (old run : List Event) → compile_starts run ≡ compiles_of set env look → logged_entries here (objects_of set env) (old ++ run) ≡ entries_of set env look here
planned_log set env look here old run starts =
    ap (λ l. entries_by here (objects_of set env) (last_of (length (objects_of set env)) l)) (starts_then old run ∙ ap (λ l. compile_starts old ++ l) starts)
    ∙ ap (entries_by here (objects_of set env)) (last_behind (length (objects_of set env)) (compile_starts old) (compiles_of set env look) (length-map (objects_of set env) (compile_in set env look)))
    ∙ planned_entries here (compile_in set env look) (objects_of set env)

-- ---- one entry after another

next_cmd : (here : List ℕ) (objects : List Object) (cmds : List CommandSeen) (i : ℕ) (object : Object) (cmd : CommandSeen) → slice_get objects i ≡ Some object → slice_get cmds i ≡ Some cmd → entries_by here (drop i objects) (drop i cmds) ≡ entry_of here object cmd ∷ entries_by here (drop (suc i) objects) (drop (suc i) cmds)
next_cmd here [] cmds i object cmd o k = absurd (cc)
next_cmd here (x ∷ objects) [] i object cmd o k = absurd (cc)
next_cmd here (x ∷ objects) (y ∷ cmds) zero object cmd o k =
    let a : x ≡ object = cc in
    let b : y ≡ cmd = cc in
    ap₂ (λ (u : Object) (v : CommandSeen). entry_of here u v ∷ entries_by here objects cmds) a b
next_cmd here (x ∷ objects) (y ∷ cmds) (suc i) object cmd o k = next_cmd here objects cmds i object cmd o k

past_end : {X : Type 0} (xs : List X) (i : ℕ) → slice_get xs i ≡ None → drop i xs ≡ []
past_end [] zero none = refl
past_end [] (suc i) none = refl
past_end (x ∷ xs) zero none = absurd (cc)
past_end (x ∷ xs) (suc i) none = past_end xs i none

past_next : {X : Type 0} (xs : List X) (i : ℕ) → slice_get xs i ≡ None → drop (suc i) xs ≡ []
past_next [] i none = refl
past_next (x ∷ xs) zero none = absurd (cc)
past_next (x ∷ xs) (suc i) none = past_next xs i none

no_entries : (here : List ℕ) (objects : List Object) → entries_by here objects [] ≡ []
no_entries here [] = refl
no_entries here (x ∷ objects) = refl

-- the entry of an object with the command at its place goes behind those so far
entries_some : (here : List ℕ) (objects : List Object) (cmds : List CommandSeen) (i : ℕ) (object : Object) (cmd : CommandSeen) (old new all : List CompileCommandSeen) → i < length objects → object ≡ get_or objects i object → slice_get cmds i ≡ Some cmd → new ≡ old ++ entry_of here object cmd ∷ [] → old ++ entries_by here (drop i objects) (drop i cmds) ≡ all → new ++ entries_by here (drop (i + 1) objects) (drop (i + 1) cmds) ≡ all
entries_some here objects cmds i object cmd old new all within is found made so_far =
    ap₂ (λ (l : List CompileCommandSeen) (k : ℕ). l ++ entries_by here (drop k objects) (drop k cmds)) made (add-one i)
    ∙ append_assoc old (entry_of here object cmd ∷ []) (entries_by here (drop (suc i) objects) (drop (suc i) cmds))
    ∙ ap (λ l. old ++ l) (sym (next_cmd here objects cmds i object cmd (slice_get_read objects (length objects) i object refl within is) found)) ∙ so_far

-- without a command there is none
entries_none : (here : List ℕ) (objects : List Object) (cmds : List CommandSeen) (i : ℕ) (old new all : List CompileCommandSeen) → slice_get cmds i ≡ None → new ≡ old → old ++ entries_by here (drop i objects) (drop i cmds) ≡ all → new ++ entries_by here (drop (i + 1) objects) (drop (i + 1) cmds) ≡ all
entries_none here objects cmds i old new all none same so_far =
    ap₂ (λ (l : List CompileCommandSeen) (k : ℕ). l ++ entries_by here (drop k objects) (drop k cmds)) same (add-one i)
    ∙ ap (λ l. old ++ entries_by here (drop (suc i) objects) l) (past_next cmds i none) ∙ ap (λ l. old ++ l) (no_entries here (drop (suc i) objects) ∙ sym (no_entries here (drop i objects)))
    ∙ ap (λ l. old ++ entries_by here (drop i objects) l) (sym (past_end cmds i none)) ∙ so_far

-- the same, whether there is one
pub entries_next : (here : List ℕ) (objects : List Object) (cmds : List CommandSeen) (i : ℕ) (object : Object) (old new all : List CompileCommandSeen) → i < length objects → object ≡ get_or objects i object → new ≡ old ++ map (entry_of here object) (optional (slice_get cmds i)) → old ++ entries_by here (drop i objects) (drop i cmds) ≡ all → new ++ entries_by here (drop (i + 1) objects) (drop (i + 1) cmds) ≡ all
entries_next here objects cmds i object old new all within is made so_far = by_cmd (slice_get cmds i) refl made
  where
    by_cmd : (found : Option CommandSeen) → slice_get cmds i ≡ found → new ≡ old ++ map (entry_of here object) (optional found) → new ++ entries_by here (drop (i + 1) objects) (drop (i + 1) cmds) ≡ all
    by_cmd (Some cmd) found so = entries_some here objects cmds i object cmd old new all within is found so so_far
    by_cmd None none so = entries_none here objects cmds i old new all none (so ∙ append-nil old) so_far

-- ---- a call of the host that was refused

-- what it appended, and its error
pub faulted : (call : HostCall) (subject : List ℕ) (error : HostError) (part : List Event) (e : ErrorSeen) (before now : ℕ) → part ≡ refused error → IsCaused call before now error → (e ≡ no_memory) ⊎ (e ≡ host_error error subject) → Faults call subject part e
faulted call subject (Faulted c why) part e before now one caused is =
    inr (why, (one ∙ ap (λ (x : HostCall). Fault x why ∷ []) caused.0, subst (λ (x : HostCall). (e ≡ no_memory) ⊎ (e ≡ fault_error x why subject)) caused.0 is))
faulted call subject WantsMemory part e before now one caused (inl is) = inl (is, one)
faulted call subject WantsMemory part e before now one caused (inr is) = inl (is, one)
