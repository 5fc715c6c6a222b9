-- The words of Microsoft's library manager, `lib.exe`, which `llvm-lib` takes too ("LIB Reference", "Running LIB"). A
-- member is named by the path that its object is given by, so the commands run in the library's folder where they can:
-- then no folder of the build is written into the library.
use Rattle.std.specs.Prelude.{ℕ, Bool, nat_eq, not, ◌&&◌, ◌||◌, List, [], ◌∷◌, ◌++◌, map, unwrap_or, codes, if◌then◌else◌}
use Rattle.std.specs.List.{starts_with}
use Rattle.std.specs.Path.{path_file_name, path_join, path_parent}
use Rattle.cc_target.specs.Targets.{Info}
use Rattle.cc_text.specs.Case.{lowered}
use Rattle.cc_text.specs.Components.{strip_prefix}
use Rattle.cc_text.specs.Within.{is_within}
use Rattle.cc_text.specs.Words.{when}
use Rattle.cc_flags.specs.ArchiveNames.{is_msvc}
use Rattle.cc_plan.specs.Libtool.{is_libtool}
use Rattle.cc_flags.specs.Names.{copy_file}
use Rattle.cc_flags.specs.Folders.{is_path}
use Rattle.cc_plan.specs.declared.archiver.Archiver.{Archiver}

-- the name has it, whatever the case of ASCII letters
abbrev pub names_llvm_ar : List ℕ → Bool
names_llvm_ar name = is_within (codes "llvm-ar") (lowered name)

-- an archiver for a target of Visual Studio takes these words, unless it is libtool, or `ar` of LLVM
unfoldable pub is_lib : Info → Archiver → Bool
is_lib target archiver =
    is_msvc target && (not (is_libtool archiver) && not (names_llvm_ar (unwrap_or (path_file_name archiver.name) [])))

-- the path begins at the root
abbrev pub is_absolute : List ℕ → Bool
is_absolute path = starts_with nat_eq path (codes "/")

-- the program is the same in each folder: its path is whole, or it is a name alone
abbrev pub is_same_anywhere : List ℕ → Bool
is_same_anywhere program = is_absolute program || not (is_path program)

-- the folder of the library
abbrev pub folder_of : List ℕ → List ℕ
folder_of library = unwrap_or (path_parent library) []

-- its commands run there: no word was given with the archiver that may name a file by the current folder
unfoldable pub runs_in_folder : Archiver → List ℕ → Bool
runs_in_folder archiver library =
    is_absolute (folder_of library)
    && (not archiver.any_args && (not archiver.any_flags && is_same_anywhere archiver.name))

-- how an object is named in a folder: by the rest of its path, else by its path from the current folder
abbrev pub member_in : List ℕ → List ℕ → List ℕ → List ℕ
member_in folder here path = unwrap_or (strip_prefix path folder) (path_join here path)

-- the objects of a batch as a command names them
unfoldable pub members_of : Archiver → List ℕ → List ℕ → List (List ℕ) → List (List ℕ)
members_of archiver library here paths =
    if runs_in_folder archiver library then map (member_in (folder_of library) here) paths else paths

-- where the library is written, no banner where no flags were given, and the library itself where members are added to
-- it
unfoldable pub lib_words : Archiver → List ℕ → Bool → List (List ℕ)
lib_words archiver library adds =
    (codes "-out:" ++ library) ∷ (when (not archiver.any_flags) (codes "-nologo" ∷ []) ++ when adds (library ∷ []))

-- the archiver has one form alone
unfoldable pub has_one_form : Info → Archiver → Bool
has_one_form target archiver = is_libtool archiver || is_lib target archiver

-- the path of the second file of a library of a name, which stands beside the library
abbrev pub copy_path_of : List ℕ → List ℕ → List ℕ
copy_path_of library name = path_join (folder_of library) (copy_file name)
