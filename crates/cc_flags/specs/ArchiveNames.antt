-- The names of the tools of archives: those of LLVM, of GNU, of kits and of systems that have their own.
use Rattle.std.specs.Prelude.{ℕ, Bool, ◌&&◌, ◌||◌, List, [], ◌∷◌, ◌++◌, Option, Some, None, is_none, codes, if◌then◌else◌}
use Rattle.std.specs.Option.{option_map}
use Rattle.cc_flags.specs.DefaultWords.{is_qnx}
use Rattle.cc_flags.specs.Texts.{is}
use Rattle.cc_target.specs.Targets.{Info}
use Rattle.cc_text.specs.Words.{when}
use Rattle.cc_flags.specs.AndroidNames.{replaced}
use Rattle.cc_flags.specs.declared.archive_names.ArchiveTool.{ArchiveTool}
use Rattle.cc_flags.specs.declared.archive_names.ArchiveTool.TheVariants.{Archiver, Ranlib}
use Rattle.cc_flags.specs.declared.settings.BuildConfig.{BuildConfig}

-- its name
abbrev pub tool_name : ArchiveTool → List ℕ
tool_name Archiver = codes "ar"
tool_name Ranlib = codes "ranlib"

-- the variable that names it
abbrev pub tool_variable : ArchiveTool → List ℕ
tool_variable Archiver = codes "AR"
tool_variable Ranlib = codes "RANLIB"

-- the one that the settings name
abbrev pub set_program : ArchiveTool → BuildConfig → Option (List ℕ)
set_program Archiver set = set.archiver
set_program Ranlib set = set.ranlib

-- its name behind a text
abbrev pub behind : List ℕ → ArchiveTool → List ℕ
behind front tool = front ++ tool_name tool

-- that of LLVM
abbrev pub llvm_name : ArchiveTool → List ℕ
llvm_name tool = behind (codes "llvm-") tool

-- that of the GNU tools behind a prefix, and GCC's own there
abbrev pub plain_name : ArchiveTool → List ℕ → List ℕ
plain_name tool prefix = behind (prefix ++ codes "-") tool

abbrev pub gcc_name : ArchiveTool → List ℕ → List ℕ
gcc_name tool prefix = behind (prefix ++ codes "-gcc-") tool

-- that of older kits for Android: behind the target's name, where Arm has no version
abbrev pub android_name : ArchiveTool → List ℕ → List ℕ
android_name tool name = plain_name tool (replaced (codes "armv7") (codes "arm") name)

-- the target is one of Visual Studio
abbrev pub is_msvc : Info → Bool
is_msvc target = is target.env "msvc"

-- the architecture as the names of QNX's tools have it
unfoldable pub qnx_arch : Info → Option (List ℕ)
qnx_arch target =
    if is target.full_arch "i686" || is target.full_arch "i586" then Some (codes "x86")
    else (if is target.full_arch "x86" || is target.full_arch "aarch64" || is target.full_arch "x86_64" then Some target.arch
    else None)

abbrev pub qnx_name : ArchiveTool → List ℕ → List ℕ
qnx_name tool arch = plain_name tool (codes "nto" ++ arch)

abbrev pub qnx_tool : ArchiveTool → Info → Option (List ℕ)
qnx_tool tool target = option_map (qnx_name tool) (qnx_arch target)

-- QNX on an architecture for which its tools have no name
unfoldable pub lacks_qnx_arch : Info → Bool
lacks_qnx_arch target = is_qnx target && is_none (qnx_arch target)

-- that of a system that has its own
unfoldable pub system_name : ArchiveTool → Info → Option (List ℕ)
system_name tool target =
    if is target.os "illumos" then Some (behind (codes "g") tool)
    else (if is target.os "vxworks" then Some (behind (codes "wr-") tool)
    else (if is_qnx target then qnx_tool tool target
    else None))

-- Microsoft's is told of the architecture that mixes the two instruction sets of Windows on Arm
unfoldable pub machine_words : Info → List ℕ → List (List ℕ)
machine_words target path = when (is target.full_arch "arm64ec" && is path "lib.exe") (codes "/machine:arm64ec" ∷ [])
