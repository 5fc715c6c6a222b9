-- The planned archiver, and the archive and index commands, in the words of `ar`: `c` makes the library, `q` adds
-- members last, `s` writes its index, and `D` leaves out times and owners, so that one build gives the same bytes as
-- the next.
use Rattle.std.specs.Prelude.{ℕ, Bool, false, true, ◌&&◌, ◌||◌, List, [], ◌∷◌, ◌++◌, map, take, Some, None, unwrap_or, is_some, codes, if◌then◌else◌}
use Rattle.cc_env.specs.Env.{EnvSeen}
use Rattle.cc_env.specs.Snapshot.{child_of}
use Rattle.cc_host.specs.Command.{CommandSeen}
use Rattle.cc_host.specs.Question.{Look}
use Rattle.cc_target.specs.Targets.{Info}
use Rattle.cc_plan.specs.ArchiveTool.{archive_tool}
use Rattle.cc_flags.specs.ArchiveNames.{is_msvc}
use Rattle.cc_text.specs.Batches.{batches_of}
use Rattle.cc_flags.specs.Given.{variable_flags}
use Rattle.cc_plan.specs.LibForm.{folder_of, is_lib, lib_words, members_of, runs_in_folder}
use Rattle.cc_plan.specs.Libtool.{is_libtool, libtool_words}
use Rattle.cc_plan.specs.declared.archiver.Archiver.{Archiver}
use Rattle.cc_flags.specs.declared.archive_names.ArchiveTool.TheVariants.{Archiver as ForMembers, Ranlib as ForIndex}
use Rattle.cc_flags.specs.declared.choice.Choice.{Choice}
use Rattle.cc_flags.specs.declared.object.Object.{Object}
use Rattle.cc_flags.specs.declared.settings.BuildConfig.{BuildConfig}

abbrev pub paths_of : List Object → List (List ℕ)
paths_of objects = map (λ o. o.dst) objects

abbrev pub has_words : List (List ℕ) → Bool
has_words [] = false
has_words (word ∷ words) = true

-- the words before those of a form: the flags of the variables, and then the set ones
unfoldable pub archiver_flags : BuildConfig → EnvSeen → List (List ℕ)
archiver_flags set env = unwrap_or (variable_flags set env (codes "ARFLAGS")) [] ++ set.ar_flags

-- whether there is a variable of such flags, or a set one
unfoldable pub has_flags : BuildConfig → EnvSeen → Bool
has_flags set env = is_some (variable_flags set env (codes "ARFLAGS")) || has_words set.ar_flags

-- the command of a tool of archives: its words, and then flags. Its wrapper is dropped.
abbrev pub archive_tool_cmd : EnvSeen → Choice → List (List ℕ) → CommandSeen
archive_tool_cmd env choice flags =
    record {
      program = choice.path;
      args = choice.words ++ flags;
      env = child_of env.inherited env.explicit;
      dir = None;
    }

-- the archiver of a choice
abbrev pub archiver_by : BuildConfig → EnvSeen → Choice → Archiver
archiver_by set env choice = record {
  cmd = archive_tool_cmd env choice (archiver_flags set env);
  name = choice.path;
  any_flags = has_flags set env;
  any_args = has_words choice.words;
}

-- the archiver
unfoldable pub archiver_of : BuildConfig → EnvSeen → Look → Archiver
archiver_of set env look = archiver_by set env (archive_tool ForMembers set env look)

-- the flags of the tool that writes an archive's index
unfoldable pub ranlib_flags : BuildConfig → EnvSeen → List (List ℕ)
ranlib_flags set env = unwrap_or (variable_flags set env (codes "RANLIBFLAGS")) []

-- its command
unfoldable pub ranlib_cmd_of : BuildConfig → EnvSeen → Look → CommandSeen
ranlib_cmd_of set env look = archive_tool_cmd env (archive_tool ForIndex set env look) (ranlib_flags set env)

-- the environment of a command that writes no times into members
abbrev pub archive_env : EnvSeen → List (List ℕ × List ℕ)
archive_env env = child_of env.inherited (env.explicit ++ (codes "ZERO_AR_DATE", codes "1") ∷ [])

-- a command of the archiver with these words more
abbrev pub with_words : Archiver → List (List ℕ) → CommandSeen
with_words archiver words = record archiver.cmd { args = archiver.cmd.args ++ words }

-- the same where it writes no times into members
abbrev pub timeless : Archiver → EnvSeen → List (List ℕ) → CommandSeen
timeless archiver env words =
    record { program = archiver.cmd.program; args = archiver.cmd.args ++ words; env = archive_env env; dir = None }

-- the word that has members added last: it leaves out owners too, or is the plain one
abbrev pub adding : Bool → List ℕ
adding plain = if plain then codes "cq" else codes "cqD"

-- the command of a batch of paths
abbrev pub archive_of : Archiver → EnvSeen → List ℕ → Bool → List (List ℕ) → CommandSeen
archive_of archiver env library plain batch = timeless archiver env (adding plain ∷ library ∷ batch)

-- where the first form was refused, the refused command comes first
abbrev pub refused_of : Archiver → EnvSeen → List ℕ → Bool → List (List (List ℕ)) → List CommandSeen
refused_of archiver env library plain batches =
    if plain then map (archive_of archiver env library false) (take 1 batches) else []

-- One command a batch: the first makes the library, and each later one adds to it. Where the first form was refused all
-- are in the plain one.
abbrev pub archives_by : Archiver → EnvSeen → List ℕ → Bool → List (List (List ℕ)) → List CommandSeen
archives_by archiver env library plain batches =
    refused_of archiver env library plain batches ++ map (archive_of archiver env library plain) batches

-- the command of libtool, which is one for all paths
abbrev pub libtool_of : Archiver → List ℕ → CommandSeen
libtool_of archiver library = with_words archiver (libtool_words library)

-- a command in the library's folder, where it runs there
abbrev pub in_folder : Archiver → List ℕ → CommandSeen → CommandSeen
in_folder archiver library cmd =
    if runs_in_folder archiver library then record cmd { dir = Some (folder_of library) } else cmd

-- the library manager's command of a batch, which makes the library or adds to it
abbrev pub lib_of : Archiver → List ℕ → List ℕ → Bool → List (List ℕ) → CommandSeen
lib_of archiver library here adds batch =
    in_folder archiver library
    (with_words archiver (lib_words archiver library adds ++ members_of archiver library here batch))

-- one a batch: the first makes the library, and each later one adds to it
abbrev pub libs_of : Archiver → List ℕ → List ℕ → List (List (List ℕ)) → List CommandSeen
libs_of archiver library here [] = []
libs_of archiver library here (batch ∷ batches) =
    lib_of archiver library here false batch ∷ map (lib_of archiver library here true) batches

-- the current folder is asked for before the commands that archive these paths
unfoldable pub asks_folder : Info → Archiver → List ℕ → List (List ℕ) → Bool
asks_folder target archiver library paths =
    is_lib target archiver && (runs_in_folder archiver library && has_words paths)

-- by the words that the archiver takes: libtool and the library manager have no second form
abbrev pub archives_of : Info → Archiver → EnvSeen → List ℕ → Bool → List ℕ → List (List ℕ) → List CommandSeen
archives_of target archiver env library plain here paths =
    if is_libtool archiver then libtool_of archiver library ∷ []
    else (if is_lib target archiver then libs_of archiver library here (batches_of paths)
    else archives_by archiver env library plain (batches_of paths))

-- the command that writes the index without the time
abbrev pub index_of : Archiver → List ℕ → CommandSeen
index_of archiver library = with_words archiver (codes "sD" ∷ library ∷ [])

-- the same in the plain form
abbrev pub plain_index_of : Archiver → EnvSeen → List ℕ → CommandSeen
plain_index_of archiver env library = timeless archiver env (codes "s" ∷ library ∷ [])

-- The command of the index. Where the first form was refused it is the plain one; that of a library without members was
-- the refused one.
abbrev pub indexes_by : Archiver → EnvSeen → List ℕ → Bool → List (List ℕ) → List CommandSeen
indexes_by archiver env library false paths = index_of archiver library ∷ []
indexes_by archiver env library true [] = index_of archiver library ∷ plain_index_of archiver env library ∷ []
indexes_by archiver env library true (path ∷ paths) = plain_index_of archiver env library ∷ []

-- libtool writes the index with the library, and for Visual Studio it needs no command
abbrev pub indexes_of : Info → Archiver → EnvSeen → List ℕ → Bool → List (List ℕ) → List CommandSeen
indexes_of target archiver env library plain paths =
    if is_libtool archiver || is_msvc target then [] else indexes_by archiver env library plain paths
