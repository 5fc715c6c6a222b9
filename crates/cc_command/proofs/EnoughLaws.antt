-- How many commands a request has at most, and that refused settings spend no turns.
use Rattle.cc_flags.specs.Target.{target_info}
use Rattle.cc_flags.specs.ArchiveNames.{is_msvc}
use Rattle.cc_plan.specs.LibForm.{is_lib}
use Rattle.cc_plan.specs.Quiet.{quiet_warnings}
use Rattle.cc_plan.specs.Reruns.{rerun_names}
use Rattle.std.proofs.Common.{◌≡◌, ℕ, suc, ◌+◌, ◌*◌, List, [], ◌∷◌, ◌++◌, length, Bool, true, false, ◌||◌, Option, Some, None, if◌then◌else◌, is_some, map, refl, ◌∙◌, ap, zero-add, arith}
use Rattle.std.specs.Prelude.{◌≤◌}
use Rattle.std.specs.Option.{option_map}
use Rattle.std.proofs.lemmas.List.{length-append, length-map}
use Rattle.cc_env.specs.Env.{EnvSeen}
use Rattle.cc_host.specs.Command.{CommandSeen}
use Rattle.cc_host.specs.Part.{Step}
use Rattle.cc_host.specs.Question.{Look}
use Rattle.cc_host.specs.declared.event.Role.TheVariants.{Archive, Index}
use Rattle.cc_plan.specs.Archive as archive
use Rattle.cc_plan.specs.Archive.{paths_of, archiver_of}
use Rattle.cc_text.specs.Batches.{batches_of}
use Rattle.cc_flags.specs.Given.{is_disabled}
use Rattle.cc_plan.specs.Libtool.{is_libtool}
use Rattle.cc_plan.specs.Plan.{objects_of, library_of, archived_of, archive_refusal, archives_of, indexes_of, lists_of_run, folder_steps, removal_steps, link_lines, run_has_one_form, run_asks_folder, copy_steps}
use Rattle.cc_plan.specs.Refusal.{early_refusal, late_refusal, link_refusal}
use Rattle.cc_flags.specs.Given.{first_of}
use Rattle.cc_plan.specs.declared.error.ArgumentCause.TheVariants.{Output, OutDir, NoFileName, SameObject, LibraryIsObject, LineFeed, FileCount, Library}
use Rattle.cc_plan.specs.declared.error.PlanError.{PlanError}
use Rattle.cc_plan.specs.declared.error.PlanError.TheVariants.{Argument, NotSet, UnknownTarget, QnxArch, Flag, Host, NoMemory as WantsMemory}
use Rattle.cc_plan.specs.declared.archiver.Archiver.{Archiver}
use Rattle.cc_flags.specs.declared.settings.BuildConfig.{BuildConfig}
use Rattle.cc_text.proofs.BatchLaws.{few}
use Rattle.cc_build.specs.Error.{ErrorSeen}
use Rattle.cc_build.specs.Refusal.{plan_error, disabled_error, early_error, late_error, archive_error, link_error, refusal_error}
use Rattle.cc_build.specs.Stage.{Stage, commands_in, calls, planned, beside, compiles_planned, opening_steps, written, writings, folder_stages, compile_stages, removal_stages, library_commands, archive_stages, link_stages, library_stages, ending_stages, later_stages, late_stages, planned_stages, ending_steps, run_reads, ready_stages, copy_stages, asking_steps}
use Rattle.cc_build.specs.Way.{Way, Found, Firsts, Writing}
use Rattle.cc_build.specs.Stage.Stage.{Asks}
use Rattle.cc_build.specs.Stop.{fault_error}
use Rattle.cc_build.specs.declared.error.ErrorKind.TheVariants.{TurnsSpent}
use Rattle.cc_build.proofs.SourceLaws.{planned_count as per_source}
use Rattle.cc_build.proofs.RunLaws.{commands_then, commands_calls, commands_beside, commands_written}

-- how many commands stages have
abbrev pub count : List Stage → ℕ
count stages = length (commands_in stages)

-- ---- the commands of stages

pub both : (a b : List Stage) → count (a ++ b) ≡ count a + count b
both a b = ap length (commands_then a b) ∙ length-append (commands_in a) (commands_in b)

pub calls_none : (steps : List Step) → count (calls steps) ≡ 0
calls_none steps = ap length (commands_calls steps)

-- one compile command a source
compile_count : (set : BuildConfig) (env : EnvSeen) (found : Found) (look : Look) → count (compile_stages set env found look) ≡ length set.files
unfolding compile_stages
compile_count set env found look =
    let ps = compiles_planned set env found.here look in
    let a = both (calls (opening_steps set env found look)) (beside ps) in
    let b : count (calls (opening_steps set env found look)) ≡ 0 = calls_none (opening_steps set env found look) in
    let d : count (beside ps) ≡ length ps = ap length (commands_beside ps) in
    let e : length ps ≡ length set.files = per_source set env found.here look ∙ length-map (objects_of set env) _ ∙ length-map set.files _ in
    a ∙ ap (λ n. n + count (beside ps)) b ∙ zero-add (count (beside ps)) ∙ d ∙ e

-- as many objects as sources and added ones
object_count : (set : BuildConfig) (env : EnvSeen) → length (archived_of set env) ≡ length set.files + length set.objects
object_count set env =
    let a : length (paths_of (objects_of set env)) ≡ length set.files = length-map (objects_of set env) _ ∙ length-map set.files _ in
    let b : length (archived_of set env) ≡ length (paths_of (objects_of set env)) + length set.objects = length-append (paths_of (objects_of set env)) set.objects in
    omega arith

-- no more commands of the archive than batches, and two
commands_few : (archiver : Archiver) (env : EnvSeen) (library : List ℕ) (is_plain : Bool) (batches : List (List (List ℕ))) (paths : List (List ℕ)) → length batches ≤ length paths → length (archive.archives_by archiver env library is_plain batches) + length (archive.indexes_by archiver env library is_plain paths) ≤ length batches + 2
commands_few archiver env library false batches paths h = let a : length (map (archive.archive_of archiver env library false) batches) ≡ length batches = length-map batches _ in omega arith
commands_few archiver env library true [] [] h = omega arith
commands_few archiver env library true [] (path ∷ paths) h = omega arith
commands_few archiver env library true (batch ∷ batches) [] h = absurd (omega (arith, h))
commands_few archiver env library true (batch ∷ batches) (path ∷ paths) h = let a : length (map (archive.archive_of archiver env library true) batches) ≡ length batches = length-map batches _ in omega arith

-- one a batch in the form of the library manager
libs_count : (archiver : Archiver) (library here : List ℕ) (batches : List (List (List ℕ))) → length (archive.libs_of archiver library here batches) ≡ length batches
libs_count archiver library here [] = refl
libs_count archiver library here (batch ∷ batches) = ap (λ n. suc n) (length-map batches _)

-- the one of libtool is no more than those, nor are those of the library manager
by_archiver : (libtool lib msvc : Bool) (one libs many indexes : List CommandSeen) (most : ℕ) → length one ≤ most → length libs ≤ most → length indexes ≤ 2 → length libs + 2 ≤ most → length many + length indexes ≤ most → length (if libtool then one else (if lib then libs else many)) + length (if libtool || msvc then [] else indexes) ≤ most
by_archiver true lib msvc one libs many indexes most a b d f g = omega (arith, a)
by_archiver false true true one libs many indexes most a b d f g = omega (arith, b)
by_archiver false true false one libs many indexes most a b d f g = omega (arith, d, f)
by_archiver false false true one libs many indexes most a b d f g = omega (arith, g)
by_archiver false false false one libs many indexes most a b d f g = g

-- no more than two write the index
indexes_few : (archiver : Archiver) (env : EnvSeen) (library : List ℕ) (is_plain : Bool) (paths : List (List ℕ)) → length (archive.indexes_by archiver env library is_plain paths) ≤ 2
indexes_few archiver env library false paths = omega arith
indexes_few archiver env library true [] = omega arith
indexes_few archiver env library true (path ∷ paths) = omega arith

object_commands : (set : BuildConfig) (env : EnvSeen) (look : Look) (is_plain : Bool) (here output : List ℕ) → length (archives_of set env look is_plain here output) + length (indexes_of set env look is_plain output) ≤ length set.files + length set.objects + 2
unfolding archives_of indexes_of
object_commands set env look is_plain here output =
    let a : length (archive.archives_by (archiver_of set env look) env (library_of set env output) is_plain (batches_of (archived_of set env))) + length (archive.indexes_by (archiver_of set env look) env (library_of set env output) is_plain (archived_of set env)) ≤ length (batches_of (archived_of set env)) + 2 =
    commands_few (archiver_of set env look) env (library_of set env output) is_plain (batches_of (archived_of set env)) (archived_of set env) (few (archived_of set env)) in
    let b : length (batches_of (archived_of set env)) ≤ length (archived_of set env) = few (archived_of set env) in
    let d : length (archived_of set env) ≡ length set.files + length set.objects = object_count set env in
    let m : length (archive.libs_of (archiver_of set env look) (library_of set env output) here (batches_of (archived_of set env))) ≡ length (batches_of (archived_of set env)) = libs_count (archiver_of set env look) (library_of set env output) here (batches_of (archived_of set env)) in
    by_archiver (is_libtool (archiver_of set env look)) (is_lib (target_info set env) (archiver_of set env look)) (is_msvc (target_info set env)) (archive.libtool_of (archiver_of set env look) (library_of set env output) ∷ [])
    (archive.libs_of (archiver_of set env look) (library_of set env output) here (batches_of (archived_of set env))) (archive.archives_by (archiver_of set env look) env (library_of set env output) is_plain (batches_of (archived_of set env)))
    (archive.indexes_by (archiver_of set env look) env (library_of set env output) is_plain (archived_of set env)) (length set.files + length set.objects + 2)
    (omega arith) (omega arith) (indexes_few (archiver_of set env look) env (library_of set env output) is_plain (archived_of set env)) (omega arith) (omega arith)

-- the archive commands, and those of the index
archive_count : (set : BuildConfig) (env : EnvSeen) (look : Look) (writing : Writing) (output : List ℕ) → count (archive_stages set env look writing output) ≤ length set.files + length set.objects + 2
unfolding archive_stages
archive_count set env look writing output =
    let archives = archives_of set env look writing.is_plain writing.here output in
    let indexes = indexes_of set env look writing.is_plain output in
    let a : count (written (run_has_one_form set env look) writing.is_plain (library_commands set env look writing output)) ≡ length (planned Archive archives ++ planned Index indexes) = ap length (commands_written (run_has_one_form set env look) writing.is_plain (library_commands set env look writing output)) in
    let b : length (planned Archive archives ++ planned Index indexes) ≡ length (planned Archive archives) + length (planned Index indexes) = length-append (planned Archive archives) (planned Index indexes) in
    let d : length (planned Archive archives) ≡ length archives = length-map archives _ in
    let e : length (planned Index indexes) ≡ length indexes = length-map indexes _ in
    let f : length archives + length indexes ≤ length set.files + length set.objects + 2 = object_commands set env look writing.is_plain writing.here output in
    omega arith

folder_count : (set : BuildConfig) (env : EnvSeen) → count (folder_stages set env) ≡ 0
unfolding folder_stages
folder_count set env = calls_none (folder_steps set env)

removal_count : (set : BuildConfig) (env : EnvSeen) (output : List ℕ) → count (removal_stages set env output) ≡ 0
unfolding removal_stages
removal_count set env output = calls_none (removal_steps set env output)

ready_count : (set : BuildConfig) (env : EnvSeen) (look : Look) (here output : List ℕ) → count (ready_stages set env look here output) ≡ 0
unfolding ready_stages
ready_count set env look here output = calls_none (writings (lists_of_run set env look output) ++ asking_steps (run_asks_folder set env look output) here)

copy_count : (set : BuildConfig) (env : EnvSeen) (output : List ℕ) → count (copy_stages set env output) ≡ 0
unfolding copy_stages
copy_count set env output = calls_none (copy_steps set env output)

link_count : (set : BuildConfig) (env : EnvSeen) (listens : Bool) (look : Look) (firsts : Firsts) (output : List ℕ) → count (link_stages set env listens look firsts output) ≡ 0
unfolding link_stages
link_count set env listens look firsts output = calls_none (ending_steps listens (quiet_warnings set env look) firsts (link_lines set env look output) (rerun_names (run_reads set) set env look))

pub unless_few : (b : Bool) (stages : List Stage) (n : ℕ) → count stages ≤ n → count (if b then [] else stages) ≤ n
unless_few true stages n h = omega arith
unless_few false stages n h = h

pub unless_none : (b : Bool) (stages : List Stage) → count stages ≡ 0 → count (if b then [] else stages) ≡ 0
unless_none true stages h = refl
unless_none false stages h = h

four : (b l d r : List Stage) (n m : ℕ) → count b ≡ 0 → count l ≡ 0 → count d ≤ n + m + 2 → count r ≡ 0 → count (b ++ (l ++ (d ++ r))) ≤ n + m + 2
four b l d r n m none still few last =
    let x : count (b ++ (l ++ (d ++ r))) ≡ count b + count (l ++ (d ++ r)) = both b (l ++ (d ++ r)) in
    let y : count (l ++ (d ++ r)) ≡ count l + count (d ++ r) = both l (d ++ r) in
    let z : count (d ++ r) ≡ count d + count r = both d r in
    omega arith

-- those of a library, from its removal on
library_count : (set : BuildConfig) (env : EnvSeen) (look : Look) (writing : Writing) (output : List ℕ) → count (library_stages set env writing look output) ≤ length set.files + length set.objects + 2
library_count set env look writing output =
    four (removal_stages set env output) (ready_stages set env look writing.here output) (archive_stages set env look writing output) (copy_stages set env output) (length set.files) (length set.objects)
    (removal_count set env output) (ready_count set env look writing.here output) (archive_count set env look writing output) (copy_count set env output)

-- and no more with stages behind them that have none
pub ended_count : (set : BuildConfig) (env : EnvSeen) (look : Look) (writing : Writing) (output : List ℕ) (more : List Stage) → count more ≡ 0 → count (library_stages set env writing look output ++ more) ≤ length set.files + length set.objects + 2
ended_count set env look writing output more none =
    let x : count (library_stages set env writing look output ++ more) ≡ count (library_stages set env writing look output) + count more = both (library_stages set env writing look output) more in
    let few : count (library_stages set env writing look output) ≤ length set.files + length set.objects + 2 = library_count set env look writing output in
    omega arith

later_count : (set : BuildConfig) (env : EnvSeen) (way : Way) (look : Look) (output : List ℕ) → count (later_stages set env way look output) ≤ length set.files + length set.objects + 2
unfolding later_stages
later_count set env way look output =
    unless_few (is_some (archive_refusal set env look)) (library_stages set env way.writing look output ++ ending_stages set env way look output) (length set.files + length set.objects + 2)
    (ended_count set env look way.writing output (ending_stages set env way look output)
    (unless_none (is_some (link_refusal set env look)) (link_stages set env (is_some way.found.here) look way.firsts output) (link_count set env (is_some way.found.here) look way.firsts output)))

two : (a b : List Stage) (n m : ℕ) → count a ≡ n → count b ≤ n + m + 2 → count (a ++ b) ≤ 2 * n + m + 2
two a b n m p q = let x : count (a ++ b) ≡ count a + count b = both a b in omega arith

run_count : (set : BuildConfig) (env : EnvSeen) (way : Way) (look : Look) (output : List ℕ) → count (compile_stages set env way.found look ++ later_stages set env way look output) ≤ 2 * length set.files + length set.objects + 2
run_count set env way look output = two (compile_stages set env way.found look) (later_stages set env way look output) (length set.files) (length set.objects) (compile_count set env way.found look) (later_count set env way look output)

by_checks : (early disabled late : Bool) (folder run : List Stage) (n : ℕ) → count folder ≡ 0 → count run ≤ n → count (if early then [] else folder ++ (if disabled then [] else Asks ∷ (if late then [] else run))) ≤ n
by_checks true disabled late folder run n f r = omega arith
by_checks false true late folder run n f r = let x : count (folder ++ []) ≡ count folder + 0 = both folder [] in omega arith
by_checks false false true folder run n f r = let x : count (folder ++ Asks ∷ []) ≡ count folder + 0 = both folder (Asks ∷ []) in omega arith
by_checks false false false folder run n f r = let x : count (folder ++ Asks ∷ run) ≡ count folder + count run = both folder (Asks ∷ run) in omega arith

-- no more commands than twice the sources, the added objects and two
pub planned_count : (set : BuildConfig) (env : EnvSeen) (way : Way) (look : Look) (output : List ℕ) → count (planned_stages set env way look output) ≤ 2 * length set.files + length set.objects + 2
unfolding planned_stages late_stages
planned_count set env way look output =
    by_checks (is_some (early_refusal set env output)) (is_disabled env) (is_some (late_refusal set env look)) (folder_stages set env) (compile_stages set env way.found look ++ later_stages set env way look output) (2 * length set.files + length set.objects + 2)
    (folder_count set env) (run_count set env way look output)

-- ---- the error of refused settings

-- no error says that the turns are spent
abbrev pub NeverSpent : Option ErrorSeen → Type 0
NeverSpent refusal = (e : ErrorSeen) → refusal ≡ Some e → e.kind ≡ TurnsSpent → ⊥

plan_kind : (set : BuildConfig) (env : EnvSeen) (output : List ℕ) (error : PlanError) → (plan_error set env output error).kind ≡ TurnsSpent → ⊥
unfolding plan_error fault_error
plan_kind set env output (Argument Output) spent = cc
plan_kind set env output (Argument OutDir) spent = cc
plan_kind set env output (Argument (NoFileName place)) spent = cc
plan_kind set env output (Argument (SameObject first second)) spent = cc
plan_kind set env output (Argument (LibraryIsObject place)) spent = cc
plan_kind set env output (Argument (LineFeed place)) spent = cc
plan_kind set env output (Argument FileCount) spent = cc
plan_kind set env output (Argument Library) spent = cc
plan_kind set env output (NotSet name) spent = cc
plan_kind set env output (UnknownTarget target) spent = cc
plan_kind set env output (QnxArch arch) spent = cc
plan_kind set env output (Flag flag) spent = cc
plan_kind set env output (Host call why) spent = cc
plan_kind set env output WantsMemory spent = cc

pub mapped : (set : BuildConfig) (env : EnvSeen) (output : List ℕ) (refusal : Option PlanError) → NeverSpent (option_map (plan_error set env output) refusal)
mapped set env output None e is spent = cc
mapped set env output (Some error) e is spent =
    let same : plan_error set env output error ≡ e = cc in
    plan_kind set env output error (ap (λ (x : ErrorSeen). x.kind) same ∙ spent)

pub disabled_or : (b : Bool) (refusal : Option ErrorSeen) → NeverSpent refusal → NeverSpent (if b then Some disabled_error else refusal)
disabled_or true refusal h e is spent =
    let same : disabled_error ≡ e = cc in
    let kind : disabled_error.kind ≡ TurnsSpent = ap (λ (x : ErrorSeen). x.kind) same ∙ spent in
    cc
disabled_or false refusal h e is spent = h e is spent

pub first_never : (a b : Option ErrorSeen) → NeverSpent a → NeverSpent b → NeverSpent (first_of a b)
first_never None b f g e is spent = g e is spent
first_never (Some x) b f g e is spent = f e is spent

pub never_spent : (set : BuildConfig) (env : EnvSeen) (look : Look) (output : List ℕ) → NeverSpent (refusal_error set env look output)
never_spent set env look output =
    first_never (early_error set env output) _ (mapped set env output (early_refusal set env output)) (
    first_never (late_error set env look output) _ (disabled_or (is_disabled env) _ (mapped set env output (late_refusal set env look))) (
    first_never (archive_error set env look output) (link_error set env look output) (mapped set env output (archive_refusal set env look)) (mapped set env output (link_refusal set env look))
    )
    )
