-- The planned compile commands: one for each source, with its message where the current folder is known.
use Rattle.std.proofs.Common.{◌≡◌, ℕ, zero, suc, ◌+◌, ◌<◌, List, [], ◌∷◌, ◌++◌, length, map, drop, get_or, Bool, true, false, Option, Some, None, refl, sym, ◌∙◌, ap, ap₂, add-one, append_assoc, append-nil, if◌then◌else◌}
use Rattle.std.specs.Prelude.{option_to_list}
use Rattle.std.specs.List.{flat_map, list_all, slice_get}
use Rattle.std.specs.Cmp.Derive.{both_true}
use Rattle.std.proofs.lemmas.List.{length-map}
use Rattle.std.proofs.lemmas.List.Folds.{list_all-append}
use Rattle.std.proofs.lemmas.Option.{slice_get_read}
use Rattle.cc_env.specs.Env.{EnvSeen}
use Rattle.cc_host.specs.Command.{CommandSeen}
use Rattle.cc_host.specs.Part.{Step}
use Rattle.cc_host.specs.Part.Step.{Finds, Says, Prints}
use Rattle.cc_host.specs.Question.{Look}
use Rattle.cc_host.specs.declared.event.Role.TheVariants.{Compile}
use Rattle.cc_host.specs.declared.event.LineKind.{LineKind}
use Rattle.cc_host.specs.declared.event.LineKind.TheVariants.{Link, Rerun}
use Rattle.cc_plan.specs.Link.{printed_links}
use Rattle.cc_plan.specs.Plan.{compile_in, compiles_of, objects_of, plan_warnings, warned_steps, warning_steps, prints}
use Rattle.cc_flags.specs.declared.link_line.LinkLine.{LinkLine}
use Rattle.cc_flags.specs.declared.object.Object.{Object}
use Rattle.cc_flags.specs.declared.settings.BuildConfig.{BuildConfig}
use Rattle.cc_run.specs.Planned.{asked, asked_by}
use Rattle.cc_run.specs.declared.planned.Planned.{Planned}
use Rattle.cc_run.specs.declared.planned.Shows.{Shows}
use Rattle.cc_build.specs.Attempts.{to_attempt}
use Rattle.cc_build.specs.Seen.{compiles_by}
use Rattle.cc_build.specs.Stage.{planned, compile_planned, compiles_planned, finding_steps, opening_steps, said_steps, ending_steps, rerun_lines}
use Rattle.cc_build.specs.Way.{Found, Firsts, Hears, chosen}

-- ---- one command after another

next_cmd : (here : Option (List ℕ)) (objects : List Object) (cmds : List CommandSeen) (i : ℕ) (object : Object) (cmd : CommandSeen) → slice_get objects i ≡ Some object → slice_get cmds i ≡ Some cmd → compiles_by here (drop i objects) (drop i cmds) ≡ compile_planned here object cmd ∷ compiles_by here (drop (suc i) objects) (drop (suc i) cmds)
next_cmd here [] cmds i object cmd o k = absurd (cc)
next_cmd here (x ∷ objects) [] i object cmd o k = absurd (cc)
next_cmd here (x ∷ objects) (y ∷ cmds) zero object cmd o k =
    let a : x ≡ object = cc in
    let b : y ≡ cmd = cc in
    ap₂ (λ (u : Object) (v : CommandSeen). compile_planned here u v ∷ compiles_by here objects cmds) a b
next_cmd here (x ∷ objects) (y ∷ cmds) (suc i) object cmd o k = next_cmd here objects cmds i object cmd o k

past_end : {X : Type 0} (xs : List X) (i : ℕ) → slice_get xs i ≡ None → drop i xs ≡ []
past_end [] zero none = refl
past_end [] (suc i) none = refl
past_end (x ∷ xs) zero none = absurd (cc)
past_end (x ∷ xs) (suc i) none = past_end xs i none

past_next : {X : Type 0} (xs : List X) (i : ℕ) → slice_get xs i ≡ None → drop (suc i) xs ≡ []
past_next [] i none = refl
past_next (x ∷ xs) zero none = absurd (cc)
past_next (x ∷ xs) (suc i) none = past_next xs i none

no_commands : (here : Option (List ℕ)) (objects : List Object) → compiles_by here objects [] ≡ []
no_commands here [] = refl
no_commands here (x ∷ objects) = refl

-- the command of an object goes behind those so far
pub compiles_some : (here : Option (List ℕ)) (objects : List Object) (cmds : List CommandSeen) (i : ℕ) (object : Object) (cmd : CommandSeen) (old new all : List Planned) → i < length objects → object ≡ get_or objects i object → slice_get cmds i ≡ Some cmd → new ≡ old ++ compile_planned here object cmd ∷ [] → old ++ compiles_by here (drop i objects) (drop i cmds) ≡ all → new ++ compiles_by here (drop (i + 1) objects) (drop (i + 1) cmds) ≡ all
compiles_some here objects cmds i object cmd old new all within is found made so_far =
    ap₂ (λ (l : List Planned) (k : ℕ). l ++ compiles_by here (drop k objects) (drop k cmds)) made (add-one i)
    ∙ append_assoc old (compile_planned here object cmd ∷ []) (compiles_by here (drop (suc i) objects) (drop (suc i) cmds))
    ∙ ap (λ l. old ++ l) (sym (next_cmd here objects cmds i object cmd (slice_get_read objects (length objects) i object refl within is) found)) ∙ so_far

-- without a command there is none
pub compiles_none : (here : Option (List ℕ)) (objects : List Object) (cmds : List CommandSeen) (i : ℕ) (old new all : List Planned) → slice_get cmds i ≡ None → new ≡ old → old ++ compiles_by here (drop i objects) (drop i cmds) ≡ all → new ++ compiles_by here (drop (i + 1) objects) (drop (i + 1) cmds) ≡ all
compiles_none here objects cmds i old new all none same so_far =
    ap₂ (λ (l : List Planned) (k : ℕ). l ++ compiles_by here (drop k objects) (drop k cmds)) same (add-one i)
    ∙ ap (λ l. old ++ compiles_by here (drop (suc i) objects) l) (past_next cmds i none) ∙ ap (λ l. old ++ l) (no_commands here (drop (suc i) objects) ∙ sym (no_commands here (drop i objects)))
    ∙ ap (λ l. old ++ compiles_by here (drop i objects) l) (sym (past_end cmds i none)) ∙ so_far

-- the command of an object goes behind those so far, where there is one
pub compiles_next : (here : Option (List ℕ)) (objects : List Object) (cmds : List CommandSeen) (i : ℕ) (object : Object) (old new all : List Planned) → i < length objects → object ≡ get_or objects i object → new ≡ old ++ map (compile_planned here object) (option_to_list (slice_get cmds i)) → old ++ compiles_by here (drop i objects) (drop i cmds) ≡ all → new ++ compiles_by here (drop (i + 1) objects) (drop (i + 1) cmds) ≡ all
compiles_next here objects cmds i object old new all within is made so_far = by_cmd (slice_get cmds i) refl made
  where
    by_cmd : (found : Option CommandSeen) → slice_get cmds i ≡ found → new ≡ old ++ map (compile_planned here object) (option_to_list found) → new ++ compiles_by here (drop (i + 1) objects) (drop (i + 1) cmds) ≡ all
    by_cmd (Some cmd) found so = compiles_some here objects cmds i object cmd old new all within is found so so_far
    by_cmd None none so = compiles_none here objects cmds i old new all none (so ∙ append-nil old) so_far

-- ---- what is planned

planned_by : (here : Option (List ℕ)) (f : Object → CommandSeen) (objects : List Object) → compiles_by here objects (map f objects) ≡ map (λ object. compile_planned here object (f object)) objects
planned_by here f [] = refl
planned_by here f (object ∷ objects) = ap (λ l. compile_planned here object (f object) ∷ l) (planned_by here f objects)

-- the commands of the settings are those of their objects
pub compiles_are : (set : BuildConfig) (env : EnvSeen) (here : Option (List ℕ)) (look : Look) → compiles_by here (objects_of set env) (compiles_of set env look) ≡ compiles_planned set env here look
unfolding compiles_planned
compiles_are set env here look = planned_by here (compile_in set env look) (objects_of set env)

map_both : {X : Type 0} (g : Planned → X) (here : Option (List ℕ)) (f : Object → CommandSeen) (objects : List Object) → ((object : Object) (cmd : CommandSeen) → g (compile_planned here object cmd) ≡ g (record { role = Compile; cmd = cmd; message = None })) → map g (map (λ object. compile_planned here object (f object)) objects) ≡ map g (planned Compile (map f objects))
map_both g here f [] same = refl
map_both g here f (object ∷ objects) same = ap₂ (λ u v. u ∷ v) (same object (f object)) (map_both g here f objects same)

-- a host is asked for them as for commands without a message
pub asked_planned : (shows : Shows) (set : BuildConfig) (env : EnvSeen) (here : Option (List ℕ)) (look : Look) → asked shows (compiles_planned set env here look) ≡ asked shows (planned Compile (compiles_of set env look))
unfolding compiles_planned
asked_planned shows set env here look = map_both (asked_by shows) here (compile_in set env look) (objects_of set env) (λ _ _. refl)

pub attempts_planned : (set : BuildConfig) (env : EnvSeen) (here : Option (List ℕ)) (look : Look) → map to_attempt (compiles_planned set env here look) ≡ map to_attempt (planned Compile (compiles_of set env look))
unfolding compiles_planned
attempts_planned set env here look = map_both to_attempt here (compile_in set env look) (objects_of set env) (λ _ _. refl)

pub roles_planned : (set : BuildConfig) (env : EnvSeen) (here : Option (List ℕ)) (look : Look) → map (λ (p : Planned). p.role) (compiles_planned set env here look) ≡ map (λ (p : Planned). p.role) (planned Compile (compiles_of set env look))
unfolding compiles_planned
roles_planned set env here look = map_both (λ p. p.role) here (compile_in set env look) (objects_of set env) (λ _ _. refl)

-- there is one for each source
pub planned_count : (set : BuildConfig) (env : EnvSeen) (here : Option (List ℕ)) (look : Look) → length (compiles_planned set env here look) ≡ length (compiles_of set env look)
unfolding compiles_planned
planned_count set env here look = length-map (objects_of set env) _ ∙ sym (length-map (objects_of set env) _)

-- ---- what is done before them

-- a step that prints, says or asks for the folder
abbrev pub is_note : Step → Bool
is_note (Prints kind bytes) = true
is_note (Says message) = true
is_note (Finds path) = true
is_note _ = false

abbrev pub AreNotes : List Step → Type 0
AreNotes steps = list_all is_note steps ≡ true

pub notes_then : (a b : List Step) → AreNotes a → AreNotes b → AreNotes (a ++ b)
notes_then a b m n = list_all-append is_note a b ∙ both_true m n

warning_notes : (prints listens : Bool) (text : List ℕ) → AreNotes (warning_steps prints listens text)
warning_notes true true text = refl
warning_notes true false text = refl
warning_notes false true text = refl
warning_notes false false text = refl

pub all_notes : (prints listens : Bool) (texts : List (List ℕ)) → AreNotes (flat_map (warning_steps prints listens) texts)
all_notes prints listens [] = refl
all_notes prints listens (text ∷ texts) = notes_then (warning_steps prints listens text) (flat_map (warning_steps prints listens) texts) (warning_notes prints listens text) (all_notes prints listens texts)

pub warned_notes : (set : BuildConfig) (listens : Bool) (texts : List (List ℕ)) → AreNotes (warned_steps set listens texts)
unfolding warned_steps
warned_notes set listens texts = all_notes set.cargo_warnings listens texts

finding_notes : (here : Option (List ℕ)) → AreNotes (finding_steps here)
finding_notes None = refl
finding_notes (Some path) = refl

pub opening_notes : (set : BuildConfig) (env : EnvSeen) (found : Found) (look : Look) → AreNotes (opening_steps set env found look)
opening_notes set env found look = notes_then (warned_steps set _ (plan_warnings set env found.warns_of_link look)) (finding_steps found.here) (warned_notes set _ (plan_warnings set env found.warns_of_link look)) (finding_notes found.here)

line_notes : (kind : LineKind) (lines : List (List ℕ)) → AreNotes (prints kind lines)
unfolding prints
line_notes kind [] = refl
line_notes kind (line ∷ lines) = line_notes kind lines

-- so are those by which lines for Cargo are printed
pub ending_notes : (listens : Bool) (texts : List (List ℕ)) (firsts : Firsts) (lines : List LinkLine) (names : List (List ℕ)) → AreNotes (ending_steps listens texts firsts lines names)
ending_notes listens texts firsts lines names =
    let links = prints Link (printed_links firsts.links lines) in
    let reruns = prints Rerun (rerun_lines (chosen firsts.names names)) in
    notes_then (said_steps listens texts) (links ++ reruns) (all_notes false listens texts) (notes_then links reruns (line_notes Link (printed_links firsts.links lines)) (line_notes Rerun (rerun_lines (chosen firsts.names names))))

-- ---- what a run that ended early found out

abbrev pub unfound : Bool → Found
unfound listens = record { warns_of_link = false; here = if listens then Some [] else None }

pub unfound_hears : (listens : Bool) → Hears listens (unfound listens)
unfound_hears true = refl
unfound_hears false = refl
