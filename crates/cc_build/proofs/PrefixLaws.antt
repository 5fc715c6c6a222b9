-- The commands of a run are the first of the planned ones, wherever it ended.
use Rattle.std.proofs.Common.{◌≡◌, ◌∙◌, refl, sym, ap, ap₂, subst, ℕ, List, [], ◌∷◌, ◌++◌, map, Bool, true, false, if◌then◌else◌, is_some, Option, Result, append-nil, append_assoc}
use Rattle.cc_env.specs.Env.{EnvSeen}
use Rattle.cc_host.specs.Command.{CommandSeen}
use Rattle.cc_host.specs.Question.{Look}
use Rattle.cc_host.specs.declared.event.Event.{Event}
use Rattle.cc_host.specs.declared.event.LineKind.TheVariants.{Rerun}
use Rattle.cc_host.specs.declared.event.Role.{Role}
use Rattle.cc_host.specs.declared.event.Role.TheVariants.{Compile}
use Rattle.cc_flags.specs.Given.{is_disabled}
use Rattle.cc_flags.specs.declared.settings.BuildConfig.{BuildConfig}
use Rattle.cc_flags.specs.declared.variables.Reads.{Reads}
use Rattle.cc_plan.specs.Plan.{archive_refusal, compiles_of, folder_steps, removal_steps, run_has_one_form}
use Rattle.cc_plan.specs.Refusal.{intermediate_refusal, late_refusal}
use Rattle.cc_plan.specs.Reruns.{rerun_names}
use Rattle.cc_run.specs.declared.planned.Planned.{Planned}
use Rattle.cc_build.specs.Archiving.{archive_reads, unarchived_error, creation_error, creation_stages, ArchivesFirst, Creates}
use Rattle.cc_build.specs.Attempts.{attempts, to_attempt, FirstOf}
use Rattle.cc_build.specs.Build.{BuildSeen}
use Rattle.cc_build.specs.Course.{Course, course_alone}
use Rattle.cc_build.specs.Error.{ErrorSeen}
use Rattle.cc_build.specs.Intermediates.{source_reads, intermediate_error, intermediate_stages, CompilesFirst, IntermediateEnds}
use Rattle.cc_build.specs.Promises.{terms_for}
use Rattle.cc_build.specs.Stage.{Stage, calls, beside, planned, commands_in, asked_then, opening_steps, compiles_planned, folder_stages, compile_stages, removal_stages, ready_stages, archive_stages, copy_stages, writing_stages, library_stages, library_commands, name_stages, rerun_lines, told_sources, told_library}
use Rattle.cc_build.specs.Stage.Stage.{Asks}
use Rattle.cc_build.specs.Way.{Found, Firsts, Writing, writing_of, chosen}
use Rattle.cc_build.proofs.BuiltLaws.{ready_commands, copy_commands}
use Rattle.cc_build.proofs.OrderLaws.{ended_partly}
use Rattle.cc_build.proofs.RerunLaws.{name_commands}
use Rattle.cc_build.proofs.RunLaws.{commands_then, commands_calls, commands_beside, commands_written}
use Rattle.cc_build.proofs.SettledLaws.{partly_first}
use Rattle.cc_build.proofs.SourceLaws.{attempts_planned}
use Rattle.cc_build.proofs.StopLaws.{ArePlain, plain_then, plain_lines, plain_unless, plain_folder, plain_compile, plain_library}

-- the attempts begin with those of some commands
abbrev Begins : List Planned → List (Role × CommandSeen) → Type 0
Begins cmds all = (more : List (Role × CommandSeen)) × (all ≡ map to_attempt cmds ++ more)

-- they do, where the stages are left out too
begins_unless : (b : Bool) (stages : List Stage) (all : List (Role × CommandSeen)) → Begins (commands_in stages) all → Begins (commands_in (if b then [] else stages)) all
begins_unless true stages all h = (all, refl)
begins_unless false stages all h = h

-- the first of some of the first
first_begins : (cmds : List Planned) (all : List (Role × CommandSeen)) (part : List Event) → Begins cmds all → FirstOf cmds part → (rest : List (Role × CommandSeen)) × (all ≡ attempts part ++ rest)
first_begins cmds all part h k = (k.0 ++ h.0, h.1 ∙ ap (λ l. l ++ h.0) k.1 ∙ append_assoc (attempts part) k.0 h.0)

whole_begins : (cmds : List Planned) (all : List (Role × CommandSeen)) → map to_attempt cmds ≡ all → Begins cmds all
whole_begins cmds all is = ([], sym is ∙ sym (append-nil (map to_attempt cmds)))

module _ (set : BuildConfig) (env : EnvSeen) where
  folder_commands : commands_in (folder_stages set env) ≡ []
  unfolding folder_stages
  folder_commands = commands_calls (folder_steps set env)

  removal_commands : (output : List ℕ) → commands_in (removal_stages set env output) ≡ []
  unfolding removal_stages
  removal_commands output = commands_calls (removal_steps set env output)

  compile_commands : (found : Found) (look : Look) → commands_in (compile_stages set env found look) ≡ compiles_planned set env found.here look
  unfolding compile_stages
  compile_commands found look =
      let steps = opening_steps set env found look in
      let cmds = compiles_planned set env found.here look in
      commands_then (calls steps) (beside cmds) ∙ ap₂ (λ u v. u ++ v) (commands_calls steps) (commands_beside cmds)

  archive_commands : (look : Look) (writing : Writing) (output : List ℕ) → commands_in (archive_stages set env look writing output) ≡ library_commands set env look writing output
  unfolding archive_stages
  archive_commands look writing output = commands_written (run_has_one_form set env look) writing.is_plain (library_commands set env look writing output)

  -- the stages of a library and those of the lines behind it
  module _ (look : Look) (writing : Writing) (output : List ℕ) where
    abbrev cmds : List Planned
    cmds = library_commands set env look writing output

    abbrev ready : List Stage
    ready = ready_stages set env look writing.here output

    abbrev archive : List Stage
    archive = archive_stages set env look writing output

    abbrev copy : List Stage
    copy = copy_stages set env output

    writing_commands : commands_in (writing_stages set env writing look output) ≡ cmds
    writing_commands =
        commands_then ready (archive ++ copy)
        ∙ ap₂ (λ u v. u ++ v) (ready_commands set env look writing.here output) (commands_then archive copy ∙ ap₂ (λ u v. u ++ v) (archive_commands look writing output) (copy_commands set env output))
        ∙ append-nil cmds

    written_commands : commands_in (library_stages set env writing look output) ≡ cmds
    written_commands =
        commands_then (removal_stages set env output) (writing_stages set env writing look output)
        ∙ ap₂ (λ u v. u ++ v) (removal_commands output) writing_commands

    told_written : (reads : Reads) (firsts : Firsts) → commands_in (told_library set env reads writing look firsts output) ≡ cmds
    told_written reads firsts =
        commands_then (library_stages set env writing look output) (Asks ∷ name_stages set env reads look firsts)
        ∙ ap₂ (λ u v. u ++ v) written_commands (name_commands set env reads look firsts)
        ∙ append-nil cmds

  told_compiled : (reads : Reads) (found : Found) (look : Look) (firsts : Firsts) → commands_in (told_sources set env reads found look firsts) ≡ compiles_planned set env found.here look
  told_compiled reads found look firsts =
      commands_then (compile_stages set env found look) (Asks ∷ name_stages set env reads look firsts)
      ∙ ap₂ (λ u v. u ++ v) (compile_commands found look) (name_commands set env reads look firsts)
      ∙ append-nil (compiles_planned set env found.here look)

  plain_names : (reads : Reads) (look : Look) (firsts : Firsts) → ArePlain (Asks ∷ name_stages set env reads look firsts)
  plain_names reads look firsts = (tt, plain_lines Rerun (rerun_lines (chosen firsts.names (rerun_names reads set env look))))

  -- ---- the sources alone

  module _ (found : Found) (look : Look) (firsts : Firsts) where
    abbrev told : List Stage
    told = told_sources set env (source_reads set) found look firsts

    abbrev asked : List Stage
    asked = asked_then (late_refusal set env look) told

    abbrev behind : List Stage
    behind = if is_disabled env then [] else asked

    abbrev all : List (Role × CommandSeen)
    all = map to_attempt (planned Compile (compiles_of set env look))

    told_begins : Begins (commands_in told) all
    told_begins = whole_begins (commands_in told) all (ap (map to_attempt) (told_compiled (source_reads set) found look firsts) ∙ attempts_planned set env found.here look)

    behind_begins : Begins (commands_in behind) all
    behind_begins = begins_unless (is_disabled env) asked all (begins_unless (is_some (late_refusal set env look)) told all told_begins)

    folder_begins : Begins (commands_in (folder_stages set env ++ behind)) all
    folder_begins =
        subst (λ (l : List Planned). Begins l all)
        (sym (commands_then (folder_stages set env) behind ∙ ap (λ l. l ++ commands_in behind) folder_commands)) behind_begins

    sources_begin : Begins (commands_in (intermediate_stages set env found look firsts)) all
    sources_begin = begins_unless (is_some (intermediate_refusal set env)) (folder_stages set env ++ behind) all folder_begins

    plain_told : ArePlain told
    plain_told = plain_then (compile_stages set env found look) (Asks ∷ name_stages set env (source_reads set) look firsts) (plain_compile set env found look) (plain_names (source_reads set) look firsts)

    plain_asked : ArePlain asked
    plain_asked = (tt, plain_unless (is_some (late_refusal set env look)) told plain_told)

    plain_sources : ArePlain (intermediate_stages set env found look firsts)
    plain_sources =
        plain_unless (is_some (intermediate_refusal set env)) (folder_stages set env ++ behind)
        (plain_then (folder_stages set env) behind (plain_folder set env) (plain_unless (is_disabled env) asked plain_asked))

  -- ---- the library alone

  module _ (writing : Writing) (look : Look) (firsts : Firsts) (output : List ℕ) where
    abbrev told_of : List Stage
    told_of = told_library set env archive_reads writing look firsts output

    abbrev asked_of : List Stage
    asked_of = asked_then (archive_refusal set env look) told_of

    abbrev all_of : List (Role × CommandSeen)
    all_of = map to_attempt (library_commands set env look writing output)

    library_begins : Begins (commands_in (creation_stages set env writing look firsts output)) all_of
    library_begins =
        begins_unless (is_some (unarchived_error set env output)) asked_of all_of
        (begins_unless (is_some (archive_refusal set env look)) told_of all_of
        (whole_begins (commands_in told_of) all_of (ap (map to_attempt) (told_written look writing output archive_reads firsts))))

    plain_creation : ArePlain (creation_stages set env writing look firsts output)
    plain_creation =
        plain_unless (is_some (unarchived_error set env output)) asked_of
        (tt, plain_unless (is_some (archive_refusal set env look)) told_of (plain_library set env writing look output (Asks ∷ name_stages set env archive_reads look firsts) (plain_names archive_reads look firsts)))

-- ---- what follows from how a run ends

pub compiles_first : {T : Type 0} (b : BuildSeen) (listens : Bool) (look : Look) (part : List Event) (c : Course) (result : Result T ErrorSeen) → IntermediateEnds b listens result look part c → CompilesFirst b look part
compiles_first b listens look part c result h =
    let stages = intermediate_stages b.config b.env h.0 look h.1 in
    first_begins (commands_in stages) (map to_attempt (planned Compile (compiles_of b.config b.env look))) part (sources_begin b.config b.env h.0 look h.1)
    (partly_first (terms_for b listens c) stages part c.before c.after (plain_sources b.config b.env h.0 look h.1)
    (ended_partly (terms_for b listens c) (intermediate_error b.config b.env look) stages part result c.before c.after h.2.2))

pub archives_first : {T : Type 0} (b : BuildSeen) (listens : Bool) (patience : Option ℕ) (turns : ℕ) (output : List ℕ) (look : Look) (part : List Event) (result : Result T ErrorSeen) → Creates b listens patience turns output result look part → ArchivesFirst b output look part
archives_first b listens patience turns output look part result h =
    let c = course_alone patience turns h.0 in
    let stages = creation_stages b.config b.env h.1.0 look h.1.1 output in (
      h.1.0,
      first_begins (commands_in stages) (map to_attempt (library_commands b.config b.env look h.1.0 output)) part (library_begins b.config b.env h.1.0 look h.1.1 output)
          (partly_first (terms_for b listens c) stages part c.before c.after (plain_creation b.config b.env h.1.0 look h.1.1 output)
          (ended_partly (terms_for b listens c) (creation_error b.config b.env look output) stages part result c.before c.after h.1.2.1)),
    )

-- nothing was done
pub archives_none : (b : BuildSeen) (output : List ℕ) (look : Look) (part : List Event) → part ≡ [] → ArchivesFirst b output look part
archives_none b output look part none =
    let all = map to_attempt (library_commands b.config b.env look (writing_of false []) output) in
    (writing_of false [], (all, ap (λ l. attempts l ++ all) (sym none)))
