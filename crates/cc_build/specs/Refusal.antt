-- The errors of refused settings, with the texts of their messages.
use Rattle.std.specs.Prelude.{ℕ, ◌-◌, nat_lt, List, [], ◌++◌, length, Option, Some, unwrap_or, slice_get, codes, if◌then◌else◌}
use Rattle.cc_text.specs.Quoted.{quoted}
use Rattle.std.specs.Option.{option_map}
use Rattle.cc_env.specs.Env.{EnvSeen}
use Rattle.cc_host.specs.Question.{Look}
use Rattle.cc_plan.specs.declared.error.ArgumentCause.{ArgumentCause}
use Rattle.cc_plan.specs.declared.error.ArgumentCause.TheVariants.{Output, OutDir, NoFileName, SameObject, LibraryIsObject, LineFeed, FileCount, Library}
use Rattle.cc_plan.specs.declared.error.PlanError.{PlanError}
use Rattle.cc_plan.specs.declared.error.PlanError.TheVariants.{Argument, NotSet, UnknownTarget, QnxArch, Flag, Host, NoMemory as WantsMemory}
use Rattle.cc_flags.specs.declared.settings.BuildConfig.{BuildConfig}
use Rattle.cc_flags.specs.Given.{is_disabled}
use Rattle.cc_plan.specs.Plan.{archive_refusal}
use Rattle.cc_plan.specs.Refusal.{object_in, early_refusal, late_refusal, link_refusal}
use Rattle.cc_flags.specs.Given.{first_of}
use Rattle.cc_build.specs.declared.error.ErrorKind.TheVariants.{InvalidArgument, InvalidTarget, InvalidFlag, EnvVarNotFound, Disabled, UnknownTarget as IsUnknown}
use Rattle.cc_build.specs.Error.{ErrorSeen, no_memory}
use Rattle.cc_build.specs.Stop.{fault_error}

abbrev pub source_at : BuildConfig → ℕ → List ℕ
source_at set place = unwrap_or (slice_get set.files place) []

abbrev pub added_at : BuildConfig → ℕ → List ℕ
added_at set place = unwrap_or (slice_get set.objects place) []

abbrev pub invalid : List ℕ → List ℕ → ErrorSeen
invalid subject message = record { kind = InvalidArgument; subject = subject; message = message }

abbrev pub same_object_error : List ℕ → ErrorSeen
same_object_error object = invalid object (codes "two sources have the object " ++ object)

abbrev pub library_error : List ℕ → ErrorSeen
library_error object = invalid object (codes "the added object " ++ object ++ codes " is the library")

-- the path of an archived object: those of sources come first
abbrev pub archived_at : BuildConfig → EnvSeen → ℕ → List ℕ
archived_at set env place =
    if nat_lt place (length set.files) then object_in set env (source_at set place)
    else added_at set (place - length set.files)

-- a path that a list can't hold
abbrev pub unlisted_error : List ℕ → ErrorSeen
unlisted_error path = invalid path (codes "libtool can't read the object path " ++ quoted path)

abbrev pub no_library_error : List ℕ → ErrorSeen
no_library_error path = invalid path (codes "expected the path of a library lib<name>.a with its folder, got " ++ path)

abbrev pub unset_error : List ℕ → ErrorSeen
unset_error name =
    record {
      kind = EnvVarNotFound;
      subject = name;
      message = codes "environment variable " ++ name ++ codes " not defined";
    }

abbrev pub unknown_error : List ℕ → ErrorSeen
unknown_error target = record { kind = IsUnknown; subject = target; message = codes "unknown target " ++ target }

-- an architecture that the QNX compilers have no name for
abbrev pub qnx_error : List ℕ → ErrorSeen
qnx_error arch =
    record { kind = InvalidTarget; subject = arch; message = codes "Unknown architecture for Neutrino QNX: " ++ arch }

-- a flag that Cargo hands down, without the value that it needs
abbrev pub flag_error : List ℕ → ErrorSeen
flag_error flag = record { kind = InvalidFlag; subject = flag; message = flag ++ codes " must have a value" }

-- no command may run; it is about the variable that says so
abbrev pub disabled_error : ErrorSeen
disabled_error =
    record {
      kind = Disabled;
      subject = codes "CC_FORCE_DISABLE";
      message = codes "cc has been disabled by CC_FORCE_DISABLE";
    }

-- a source is expanded alone, and there is none, or more than one
abbrev pub number_error : ErrorSeen
number_error = invalid [] (codes "Expand may only be called for a single file")

abbrev pub argument_error : BuildConfig → EnvSeen → List ℕ → ArgumentCause → ErrorSeen
argument_error set env output Output = invalid output (codes "argument must be a single normal path component")
argument_error set env output OutDir = invalid [] (codes "out dir must not be empty")
argument_error set env output (NoFileName place) =
    invalid (source_at set place) (codes "No file_name for object file path!")
argument_error set env output (SameObject first second) = same_object_error (object_in set env (source_at set second))
argument_error set env output (LibraryIsObject place) = library_error (added_at set place)
argument_error set env output (LineFeed place) = unlisted_error (archived_at set env place)
argument_error set env output FileCount = number_error
argument_error set env output Library = no_library_error output

-- the error of a refusal, for a compile run of these settings with this output
unfoldable pub plan_error : BuildConfig → EnvSeen → List ℕ → PlanError → ErrorSeen
plan_error set env output (Argument cause) = argument_error set env output cause
plan_error set env output (NotSet name) = unset_error name
plan_error set env output (UnknownTarget target) = unknown_error target
plan_error set env output (QnxArch arch) = qnx_error arch
plan_error set env output (Flag flag) = flag_error flag
plan_error set env output (Host call why) = fault_error call why []
plan_error set env output WantsMemory = no_memory

-- the error of settings that are refused before the folder of the objects is made
abbrev pub early_error : BuildConfig → EnvSeen → List ℕ → Option ErrorSeen
early_error set env output = option_map (plan_error set env output) (early_refusal set env output)

-- the same, behind it
abbrev pub late_error : BuildConfig → EnvSeen → Look → List ℕ → Option ErrorSeen
late_error set env look output =
    if is_disabled env then Some disabled_error else option_map (plan_error set env output) (late_refusal set env look)

-- the same, behind the sources and before the library
abbrev pub archive_error : BuildConfig → EnvSeen → Look → List ℕ → Option ErrorSeen
archive_error set env look output = option_map (plan_error set env output) (archive_refusal set env look)

-- the same, behind the library and before the link lines
abbrev pub link_error : BuildConfig → EnvSeen → Look → List ℕ → Option ErrorSeen
link_error set env look output = option_map (plan_error set env output) (link_refusal set env look)

-- the error of settings that are refused: that of the first part which doesn't hold
abbrev pub refusal_error : BuildConfig → EnvSeen → Look → List ℕ → Option ErrorSeen
refusal_error set env look output =
    first_of (early_error set env output)
    (first_of (late_error set env look output)
    (first_of (archive_error set env look output) (link_error set env look output)))
