-- What the log of a large run counts: the lines that sum up its log are those of its summary.
use Rattle.std.proofs.Common.{◌≡◌, ◌∙◌, refl, sym, ap, ap₂, subst, ℕ, ◌+◌, ◌≤◌, List, [], ◌∷◌, ◌++◌, length, map, Bool, true, false, Option, Some, None, Ok, is_some, if◌then◌else◌, zero-add, add-zero, add_assoc, append-nil, length-append, arith, append_assoc}
use Rattle.std.specs.List.{flat_map}
use Rattle.std.proofs.lemmas.Grind.{flat_map-append}
use Rattle.std.proofs.lemmas.List.{map-append, length-map}
use Rattle.cc_flags.specs.Target.{target_info}
use Rattle.cc_flags.specs.ArchiveNames.{is_msvc}
use Rattle.cc_env.specs.Env.{EnvSeen}
use Rattle.cc_host.specs.Command.{CommandSeen}
use Rattle.cc_host.specs.Part.{Step, step_of}
use Rattle.cc_host.specs.Part.Step.{Runs, Makes, Removes, Writes, Copies, Finds, Says, Prints, Lists}
use Rattle.cc_host.specs.Question.{Look}
use Rattle.cc_host.specs.Status.{is_success}
use Rattle.cc_host.specs.declared.event.Event.{Event}
use Rattle.cc_host.specs.declared.event.Event.TheVariants.{Ran, Made, Removed, Wrote, Copied, Here, Said, Printed, Listed}
use Rattle.cc_host.specs.declared.event.LineKind.{LineKind}
use Rattle.cc_host.specs.declared.event.LineKind.TheVariants.{Link, Rerun, Warning, Stderr, Debug, Fault as FaultLine, Expanded, Shown}
use Rattle.cc_host.specs.declared.event.Role.{Role}
use Rattle.cc_host.specs.declared.event.Role.TheVariants.{Compile, Archive, Index}
use Rattle.cc_host.specs.declared.event.Scope.TheVariants.{Build, Probe as ForProbes}
use Rattle.cc_hosts.specs.Plain.{IsPlainLog}
use Rattle.cc_plan.specs.Archive as archive
use Rattle.cc_plan.specs.Archive.{archiver_of}
use Rattle.cc_text.specs.Batches.{batches_of}
use Rattle.cc_plan.specs.Link.{printed_links}
use Rattle.cc_plan.specs.Plan.{compiles_of, archives_of, indexes_of, archived_of, library_of, lists_of_run, link_lines, plan_warnings, warning_steps, warned_steps, prints as line_steps, folder_steps, run_has_one_form, run_asks_folder, copy_steps, copy_by, copy_of}
use Rattle.cc_plan.specs.Quiet.{quiet_warnings}
use Rattle.cc_plan.specs.Reruns.{rerun_names}
use Rattle.cc_plan.specs.declared.archiver.Archiver.{Archiver}
use Rattle.cc_flags.specs.declared.settings.BuildConfig.{BuildConfig}
use Rattle.cc_run.specs.declared.planned.Planned.{Planned}
use Rattle.cc_build.specs.Attempts.{attempt_of, attempts, to_attempt, all_tried, first_tried, form_tried}
use Rattle.cc_build.specs.Built.{Built}
use Rattle.cc_build.specs.Stage.{Stage, rerun_lines, run_reads, calls, planned, beside, opening_steps, finding_steps, said_steps, compiles_planned, in_turn, written, writings, commands_in, library_commands, folder_stages, compile_stages, archive_stages, link_stages, ready_stages, copy_stages, writing_stages, asking_steps}
use Rattle.cc_build.specs.Stage.Stage.{Calls, Asks, Tries, RunsOne, RunsAll}
use Rattle.cc_build.specs.Way.{Found, Firsts, chosen, Writing}
use Rattle.cc_build.specs.Went.{Terms, Means, Did, Went}
use Rattle.cc_build.proofs.RanLaws.{said_all, said_one}
use Rattle.cc_build.proofs.RunLaws.{commands_then, commands_calls, commands_beside}
use Rattle.cc_build.proofs.SettledLaws.{went_attempts}
use Rattle.cc_build.proofs.SourceLaws.{opening_notes, ending_notes, attempts_planned}
use Rattle.cc_build.proofs.StopLaws.{ArePlain, plain_then, plain_notes}
use Rattle.cc_command.specs.Generated.{gen_settings, gen_name, gen_objects, no_variables, counted_lines, summary}
use Rattle.cc_command.specs.Summary.{begins, links, number, log_lines}
use Rattle.cc_command.proofs.GeneratedLaws.{not_libtool, compiles_count, archives_count, indexes_count, links_count, not_msvc, has_two_forms}
use Rattle.cc_command.proofs.PlainRunLaws.{plain_cut, plain_form, plain_both}
use Rattle.cc_command.proofs.CountLaws.{number_both, begun_attempts, is_for, one_more, planned_all, planned_none, asked_links, own_links, tried_links}

-- ---- link lines of stages

abbrev link_number : Stage → ℕ
link_number (Calls (Prints Link bytes)) = 1
link_number _ = 0

abbrev links_in : List Stage → ℕ
links_in [] = 0
links_in (s ∷ ss) = link_number s + links_in ss

line_links : (kind : LineKind) (bytes : List ℕ) → number links (Printed kind bytes ∷ []) ≡ link_number (Calls (Prints kind bytes))
line_links Link bytes = refl
line_links Rerun bytes = refl
line_links Warning bytes = refl
line_links (Stderr id) bytes = refl
line_links Debug bytes = refl
line_links FaultLine bytes = refl
line_links Expanded bytes = refl
line_links Shown bytes = refl

called_links : (step : Step) (event : Event) → step_of event ≡ step ∷ [] → number links (event ∷ []) ≡ link_number (Calls step)
called_links step (Printed kind bytes) e = let same : Prints kind bytes ≡ step = cc in line_links kind bytes ∙ ap (λ s. link_number (Calls s)) same
called_links step (Ran role cmd pipes status out err) e = by_status (is_success status) e
  where
    by_status : (b : Bool) → (if b then Runs role cmd ∷ [] else []) ≡ step ∷ [] → 0 ≡ link_number (Calls step)
    by_status true h = let same : Runs role cmd ≡ step = cc in ap (λ s. link_number (Calls s)) same
    by_status false h = absurd (cc)
called_links step (Made Build path) e = let same : Makes Build path ≡ step = cc in ap (λ s. link_number (Calls s)) same
called_links step (Removed path how) e = let same : Removes path ≡ step = cc in ap (λ s. link_number (Calls s)) same
called_links step (Wrote path bytes) e = let same : Writes path bytes ≡ step = cc in ap (λ s. link_number (Calls s)) same
called_links step (Copied from to) e = let same : Copies from to ≡ step = cc in ap (λ s. link_number (Calls s)) same
called_links step (Here path) e = let same : Finds path ≡ step = cc in ap (λ s. link_number (Calls s)) same
called_links step (Said message) e = let same : Says message ≡ step = cc in ap (λ s. link_number (Calls s)) same
called_links step (Listed vars) e = let same : Lists ≡ step = cc in ap (λ s. link_number (Calls s)) same
called_links step (Made ForProbes path) e = absurd (cc)
called_links step event e = absurd (cc)

did_links : (t : Terms) (s : Stage) (part : List Event) (x y : Means) → Did t s part x y → number links part ≡ link_number s
did_links t (Calls step) part x y d = ap (number links) d.1.0 ∙ called_links step d.0 d.1.1
did_links t Asks part x y d = asked_links part d.0
did_links t (Tries refused p) part x y d = tried_links t p part refused d.0
did_links t (RunsOne p) part x y d = own_links part (said_one t p part (Ok tt) x y d).own
did_links t (RunsAll ps) part x y d = own_links part (said_all t ps part (Ok tt) x y d).own

went_links : (t : Terms) (stages : List Stage) (part : List Event) (x y : Means) → Went t stages part x y → number links part ≡ links_in stages
went_links t [] part x y w = ap (number links) w.0
went_links t (s ∷ ss) part x y w =
    ap (number links) w.3.0 ∙ number_both links w.0 w.1 ∙ ap₂ (λ m n. m + n) (did_links t s w.0 x w.2 w.3.1) (went_links t ss w.1 w.2 y w.3.2)

links_then : (a b : List Stage) → links_in (a ++ b) ≡ links_in a + links_in b
links_then [] b = sym (zero-add (links_in b))
links_then (s ∷ a) b = ap (λ n. link_number s + n) (links_then a b) ∙ sym (add_assoc (link_number s) (links_in a) (links_in b))

links_printed : (lines : List (List ℕ)) → links_in (calls (line_steps Link lines)) ≡ length lines
unfolding line_steps
links_printed [] = refl
links_printed (line ∷ lines) = ap (λ n. 1 + n) (links_printed lines) ∙ one_more line lines

links_warning : (prints listens : Bool) (text : List ℕ) → links_in (calls (warning_steps prints listens text)) ≡ 0
links_warning true true text = refl
links_warning true false text = refl
links_warning false true text = refl
links_warning false false text = refl

links_each : (prints listens : Bool) (texts : List (List ℕ)) → links_in (calls (flat_map (warning_steps prints listens) texts)) ≡ 0
links_each prints listens [] = refl
links_each prints listens (text ∷ texts) =
    ap links_in (map-append Calls (warning_steps prints listens text) (flat_map (warning_steps prints listens) texts))
    ∙ links_then (calls (warning_steps prints listens text)) (calls (flat_map (warning_steps prints listens) texts))
    ∙ ap₂ (λ m n. m + n) (links_warning prints listens text) (links_each prints listens texts)

links_warned : (set : BuildConfig) (listens : Bool) (texts : List (List ℕ)) → links_in (calls (warned_steps set listens texts)) ≡ 0
unfolding warned_steps
links_warned set listens texts = links_each set.cargo_warnings listens texts

links_finding : (here : Option (List ℕ)) → links_in (calls (finding_steps here)) ≡ 0
links_finding None = refl
links_finding (Some path) = refl

links_opening : (set : BuildConfig) (env : EnvSeen) (found : Found) (look : Look) → links_in (calls (opening_steps set env found look)) ≡ 0
links_opening set env found look =
    let warnings = warned_steps set (is_some found.here) (plan_warnings set env found.warns_of_link look) in
    ap links_in (map-append Calls warnings (finding_steps found.here))
    ∙ links_then (calls warnings) (calls (finding_steps found.here))
    ∙ ap₂ (λ m n. m + n) (links_warned set (is_some found.here) (plan_warnings set env found.warns_of_link look)) (links_finding found.here)

links_told : (lines : List (List ℕ)) → links_in (calls (line_steps Rerun lines)) ≡ 0
unfolding line_steps
links_told [] = refl
links_told (line ∷ lines) = zero-add (links_in (calls (line_steps Rerun lines))) ∙ links_told lines

links_beside : (ps : List Planned) → links_in (beside ps) ≡ 0
links_beside [] = refl
links_beside (p ∷ []) = refl
links_beside (p ∷ q ∷ ps) = refl

links_writings : (files : List (List ℕ × List ℕ)) (more : List Step) → links_in (calls more) ≡ 0 → links_in (calls (writings files ++ more)) ≡ 0
links_writings [] more none = none
links_writings (file ∷ files) more none = zero-add (links_in (calls (writings files ++ more))) ∙ links_writings files more none

links_asking : (asks : Bool) (here : List ℕ) → links_in (calls (asking_steps asks here)) ≡ 0
links_asking true here = refl
links_asking false here = refl

links_copying : (copies : Bool) (from to : List ℕ) → links_in (calls (copy_by copies from to)) ≡ 0
links_copying true from to = refl
links_copying false from to = refl

links_in_turn : (ps : List Planned) → links_in (in_turn ps) ≡ 0
links_in_turn [] = refl
links_in_turn (p ∷ ps) = zero-add (links_in (in_turn ps)) ∙ links_in_turn ps

links_written : (one_form refused : Bool) (ps : List Planned) → links_in (written one_form refused ps) ≡ 0
links_written true refused ps = links_in_turn ps
links_written false refused [] = refl
links_written false refused (p ∷ ps) = zero-add (links_in (in_turn ps)) ∙ links_in_turn ps

-- ---- the stages of the sources

module _ (set : BuildConfig) (env : EnvSeen) (found : Found) (look : Look) where
  -- the folder, and the sources behind it
  abbrev first : List Stage
  first = folder_stages set env ++ (Asks ∷ (compile_stages set env found look ++ (Asks ∷ [])))

  folder_commands : commands_in (folder_stages set env) ≡ []
  unfolding folder_stages
  folder_commands = commands_calls (folder_steps set env)

  compile_commands : commands_in (compile_stages set env found look) ≡ compiles_planned set env found.here look
  unfolding compile_stages
  compile_commands =
      commands_then (calls (opening_steps set env found look)) (beside (compiles_planned set env found.here look))
      ∙ ap₂ (λ k l. k ++ l) (commands_calls (opening_steps set env found look)) (commands_beside (compiles_planned set env found.here look))

  first_commands : commands_in first ≡ compiles_planned set env found.here look
  first_commands =
      commands_then (folder_stages set env) (Asks ∷ (compile_stages set env found look ++ (Asks ∷ [])))
      ∙ ap₂ (λ k l. k ++ l) folder_commands (commands_then (compile_stages set env found look) (Asks ∷ []) ∙ append-nil (commands_in (compile_stages set env found look)) ∙ compile_commands)

  plain_some : (none : Bool) (dir : List ℕ) → ArePlain (calls (if none then [] else Makes Build dir ∷ []))
  plain_some true dir = tt
  plain_some false dir = (tt, tt)

  plain_folder : ArePlain (folder_stages set env)
  unfolding folder_stages folder_steps
  plain_folder = plain_some _ _

  plain_beside : (ps : List Planned) → ArePlain (beside ps)
  plain_beside [] = tt
  plain_beside (p ∷ []) = (tt, tt)
  plain_beside (p ∷ q ∷ ps) = (tt, tt)

  plain_compile : ArePlain (compile_stages set env found look)
  unfolding compile_stages
  plain_compile = plain_then (calls (opening_steps set env found look)) (beside (compiles_planned set env found.here look)) (plain_notes (opening_steps set env found look) (opening_notes set env found look)) (plain_beside (compiles_planned set env found.here look))

  plain_first : ArePlain first
  plain_first = plain_then (folder_stages set env) (Asks ∷ (compile_stages set env found look ++ (Asks ∷ []))) plain_folder (tt, plain_then (compile_stages set env found look) (Asks ∷ []) plain_compile (tt, tt))

  links_some : (none : Bool) (dir : List ℕ) → links_in (calls (if none then [] else Makes Build dir ∷ [])) ≡ 0
  links_some true dir = refl
  links_some false dir = refl

  folder_links : links_in (folder_stages set env) ≡ 0
  unfolding folder_stages folder_steps
  folder_links = links_some _ _

  compile_links : links_in (compile_stages set env found look) ≡ 0
  unfolding compile_stages
  compile_links =
      links_then (calls (opening_steps set env found look)) (beside (compiles_planned set env found.here look))
      ∙ ap₂ (λ m n. m + n) (links_opening set env found look) (links_beside (compiles_planned set env found.here look))

  first_links : links_in first ≡ 0
  first_links =
      links_then (folder_stages set env) (Asks ∷ (compile_stages set env found look ++ (Asks ∷ [])))
      ∙ ap₂ (λ m n. m + (0 + n)) folder_links (links_then (compile_stages set env found look) (Asks ∷ []) ∙ ap (λ n. n + (0 + 0)) compile_links)

-- ---- the stages of the library and of its link lines

module _ (set : BuildConfig) (env : EnvSeen) (listens : Bool) (look : Look) (writing : Writing) (firsts : Firsts) (output : List ℕ) where
  ready_links : links_in (ready_stages set env look writing.here output) ≡ 0
  unfolding ready_stages
  ready_links =
      let asks = run_asks_folder set env look output in
      links_writings (lists_of_run set env look output) (asking_steps asks writing.here) (links_asking asks writing.here)

  written_links : links_in (archive_stages set env look writing output) ≡ 0
  unfolding archive_stages
  written_links = links_written (run_has_one_form set env look) writing.is_plain (library_commands set env look writing output)

  copy_links : links_in (copy_stages set env output) ≡ 0
  unfolding copy_stages copy_steps
  copy_links = links_copying (is_msvc (target_info set env)) (library_of set env output) (copy_of set env output)

  archive_links : links_in (writing_stages set env writing look output) ≡ 0
  archive_links =
      links_then (ready_stages set env look writing.here output) (archive_stages set env look writing output ++ copy_stages set env output)
      ∙ ap₂ (λ m n. m + n) ready_links (links_then (archive_stages set env look writing output) (copy_stages set env output) ∙ ap₂ (λ m n. m + n) written_links copy_links)

  abbrev said : List Step
  said = said_steps listens (quiet_warnings set env look)

  abbrev shown : List Step
  shown = line_steps Link (printed_links firsts.links (link_lines set env look output))

  abbrev told : List Step
  told = line_steps Rerun (rerun_lines (chosen firsts.names (rerun_names (run_reads set) set env look)))

  ending_links : links_in (Asks ∷ link_stages set env listens look firsts output) ≡ length (printed_links firsts.links (link_lines set env look output))
  unfolding link_stages
  ending_links =
      zero-add (links_in (calls (said ++ (shown ++ told)))) ∙ ap links_in (map-append Calls said (shown ++ told)) ∙ links_then (calls said) (calls (shown ++ told))
      ∙ ap (λ n. n + links_in (calls (shown ++ told))) (links_each false listens (quiet_warnings set env look))
      ∙ zero-add (links_in (calls (shown ++ told))) ∙ ap links_in (map-append Calls shown told) ∙ links_then (calls shown) (calls told)
      ∙ ap₂ (λ m n. m + n) (links_printed (printed_links firsts.links (link_lines set env look output))) (links_told (rerun_lines (chosen firsts.names (rerun_names (run_reads set) set env look))))
      ∙ add-zero (length (printed_links firsts.links (link_lines set env look output)))

  ending_commands : commands_in (Asks ∷ link_stages set env listens look firsts output) ≡ []
  unfolding link_stages
  ending_commands = commands_calls (said ++ (shown ++ told))

  plain_ending : ArePlain (Asks ∷ link_stages set env listens look firsts output)
  unfolding link_stages
  plain_ending = (tt, plain_notes (said ++ (shown ++ told)) (ending_notes listens (quiet_warnings set env look) firsts (link_lines set env look output) (rerun_names (run_reads set) set env look)))

-- there is a command of the index, whichever form was taken
some_index : (archiver : Archiver) (env : EnvSeen) (library : List ℕ) (is_plain : Bool) (paths : List (List ℕ)) → 1 ≤ length (archive.indexes_by archiver env library is_plain paths)
some_index archiver env library false paths = omega arith
some_index archiver env library true [] = omega arith
some_index archiver env library true (path ∷ paths) = omega arith

form_taken : (refused : Bool) (cmds : List Planned) (part : List Event) → 1 ≤ length cmds → IsPlainLog part → all_tried part ≡ first_tried refused cmds → refused ≡ false
form_taken refused [] part some plain is = absurd (omega (arith, some))
form_taken refused (cmd ∷ cmds) part some plain is = plain_form refused cmd cmds part plain is

-- ---- a large run that is done

module _ (count : ℕ) (look : Look) (t : Terms) (log : List Event) (plain : IsPlainLog log) (b : Built t (gen_settings count) no_variables look gen_name log) where
  abbrev set : BuildConfig
  set = gen_settings count

  abbrev rest : List Event
  rest = Removed (library_of set no_variables gen_name) b.how ∷ (b.archives ++ b.lines)

  whole : log ≡ b.runs ++ rest
  whole = b.cut ∙ append_assoc b.runs (Removed (library_of set no_variables gen_name) b.how ∷ b.archives) b.lines

  some_command : (writing : Writing) → 1 ≤ length (library_commands set no_variables look writing gen_name)
  unfolding indexes_of
  some_command writing =
      let archives = archives_of set no_variables look writing.is_plain writing.here gen_name in
      let indexes = indexes_of set no_variables look writing.is_plain gen_name in
      let same : indexes ≡ archive.indexes_by (archiver_of set no_variables look) no_variables (library_of set no_variables gen_name) writing.is_plain (archived_of set no_variables) = rw (not_libtool count look, not_msvc count) refl in
      let some : 1 ≤ length indexes = subst (λ (l : List CommandSeen). 1 ≤ length l) (sym same) (some_index (archiver_of set no_variables look) no_variables (library_of set no_variables gen_name) writing.is_plain (archived_of set no_variables)) in
      let all : length (planned Archive archives ++ planned Index indexes) ≡ length (planned Archive archives) + length (planned Index indexes) = length-append (planned Archive archives) (planned Index indexes) in
      let as_many : length (planned Index indexes) ≡ length indexes = length-map indexes _ in
      omega arith

  plain_archives : IsPlainLog b.archives
  plain_archives =
      let cut : IsPlainLog (b.runs ++ rest) = subst IsPlainLog whole plain in
      let behind = (plain_cut (Removed (library_of set no_variables gen_name) b.how) (b.archives ++ b.lines) (plain_both b.runs rest cut).1).1 in
      (plain_both b.archives b.lines behind).0

  first_form : b.way.writing.is_plain ≡ false
  first_form =
      form_taken b.way.writing.is_plain (library_commands set no_variables look b.way.writing gen_name) b.archives (some_command b.way.writing) plain_archives
      (b.first ∙ ap (λ one_form. form_tried one_form b.way.writing.is_plain (library_commands set no_variables look b.way.writing gen_name)) (has_two_forms count look))

  abbrev compiles : List CommandSeen
  compiles = compiles_of set no_variables look

  abbrev archives : List CommandSeen
  archives = archives_of set no_variables look false b.way.writing.here gen_name

  abbrev indexes : List CommandSeen
  indexes = indexes_of set no_variables look false gen_name

  log_attempts : attempts log ≡ map to_attempt (planned Compile compiles) ++ (map to_attempt (planned Archive archives) ++ map to_attempt (planned Index indexes))
  log_attempts =
      let sources : attempts b.runs ≡ map to_attempt (planned Compile compiles) = went_attempts t (first set no_variables b.way.found look) b.runs b.compiled.0 b.compiled.1 (plain_first set no_variables b.way.found look) b.compiled.2 ∙ ap (map to_attempt) (first_commands set no_variables b.way.found look) ∙ attempts_planned set no_variables b.way.found.here look in
      let written_so : attempts b.archives ≡ map to_attempt (planned Archive archives ++ planned Index indexes) =
      subst (λ (p : Bool). attempts b.archives ≡ map to_attempt (planned Archive (archives_of set no_variables look p b.way.writing.here gen_name) ++ planned Index (indexes_of set no_variables look p gen_name))) first_form b.writes in
      let both : attempts b.archives ≡ map to_attempt (planned Archive archives) ++ map to_attempt (planned Index indexes) = written_so ∙ map-append to_attempt (planned Archive archives) (planned Index indexes) in
      let none : attempts b.lines ≡ [] = went_attempts t (Asks ∷ link_stages set no_variables (is_some b.way.found.here) look b.way.firsts gen_name) b.lines b.linked.0 b.linked.1 (plain_ending set no_variables (is_some b.way.found.here) look b.way.writing b.way.firsts gen_name) b.linked.2 ∙ ap (map to_attempt) (ending_commands set no_variables (is_some b.way.found.here) look b.way.writing b.way.firsts gen_name) in
      ap attempts whole ∙ flat_map-append attempt_of b.runs rest
      ∙ ap₂ (λ u v. u ++ v) sources (flat_map-append attempt_of b.archives b.lines ∙ ap₂ (λ u v. u ++ v) both none ∙ append-nil (map to_attempt (planned Archive archives) ++ map to_attempt (planned Index indexes)))

  -- so many commands of a role begin
  role_number : (wanted : Role) → number (begins wanted) log ≡ number (is_for wanted) (map to_attempt (planned Compile compiles)) + (number (is_for wanted) (map to_attempt (planned Archive archives)) + number (is_for wanted) (map to_attempt (planned Index indexes)))
  role_number wanted =
      begun_attempts wanted log plain ∙ ap (number (is_for wanted)) log_attempts
      ∙ number_both (is_for wanted) (map to_attempt (planned Compile compiles)) (map to_attempt (planned Archive archives) ++ map to_attempt (planned Index indexes))
      ∙ ap (λ n. number (is_for wanted) (map to_attempt (planned Compile compiles)) + n) (number_both (is_for wanted) (map to_attempt (planned Archive archives)) (map to_attempt (planned Index indexes)))

  sum_of : (x y z a b c n : ℕ) → x ≡ a → y ≡ b → z ≡ c → a + (b + c) ≡ n → x + (y + z) ≡ n
  sum_of x y z a b c n p q r s = omega arith

  log_compiles : number (begins Compile) log ≡ count
  log_compiles =
      role_number Compile ∙ sum_of _ _ _ count 0 0 count (planned_all Compile Compile refl compiles ∙ compiles_count count look) (planned_none Archive Compile refl archives) (planned_none Index Compile refl indexes) (omega arith)

  log_archives : number (begins Archive) log ≡ length (batches_of (gen_objects count))
  log_archives =
      role_number Archive ∙ sum_of _ _ _ 0 (length (batches_of (gen_objects count))) 0 (length (batches_of (gen_objects count))) (planned_none Compile Archive refl compiles) (planned_all Archive Archive refl archives ∙ archives_count count look b.way.writing.here) (planned_none Index Archive refl indexes) (omega arith)

  log_indexes : number (begins Index) log ≡ 1
  log_indexes =
      role_number Index ∙ sum_of _ _ _ 0 0 1 1 (planned_none Compile Index refl compiles) (planned_none Archive Index refl archives) (planned_all Index Index refl indexes ∙ indexes_count count look) refl

  log_links : number links log ≡ 2
  log_links =
      let sources : number links b.runs ≡ 0 = went_links t (first set no_variables b.way.found look) b.runs b.compiled.0 b.compiled.1 b.compiled.2 ∙ first_links set no_variables b.way.found look in
      let library : number links b.archives ≡ 0 = went_links t (writing_stages set no_variables b.way.writing look gen_name) b.archives b.archived.0 b.archived.1 b.archived.2 ∙ archive_links set no_variables (is_some b.way.found.here) look b.way.writing b.way.firsts gen_name in
      let lines : number links b.lines ≡ 2 = went_links t (Asks ∷ link_stages set no_variables (is_some b.way.found.here) look b.way.firsts gen_name) b.lines b.linked.0 b.linked.1 b.linked.2 ∙ ending_links set no_variables (is_some b.way.found.here) look b.way.writing b.way.firsts gen_name ∙ links_count count look b.way.firsts.links in
      ap (number links) whole ∙ number_both links b.runs rest
      ∙ ap₂ (λ m n. m + n) sources (number_both links b.archives b.lines ∙ ap₂ (λ m n. m + n) library lines)

  -- its log is summed up by the summary
  pub summary_is : log_lines count log ≡ summary count
  unfolding log_lines summary
  summary_is =
      ap (λ n. counted_lines count n (number (begins Archive) log) (number (begins Index) log) (number links log)) log_compiles
      ∙ ap (λ n. counted_lines count count n (number (begins Index) log) (number links log)) log_archives
      ∙ ap (λ n. counted_lines count count (length (batches_of (gen_objects count))) n (number links log)) log_indexes
      ∙ ap (λ n. counted_lines count count (length (batches_of (gen_objects count))) 1 n) log_links
