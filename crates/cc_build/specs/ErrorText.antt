-- How an error is written for a user.
use Rattle.std.specs.Prelude.{ℕ, List, ◌++◌, codes}
use Rattle.cc_build.specs.declared.error.ErrorKind.{ErrorKind}
use Rattle.cc_build.specs.declared.error.ErrorKind.TheVariants.{IOError, EnvVarNotFound, ToolExecError, ToolNotFound, InvalidArgument, InvalidTarget, UnknownTarget, InvalidFlag, Disabled, TurnsSpent, NoMemory}
use Rattle.cc_build.specs.Error.{ErrorSeen}

abbrev pub kind_name : ErrorKind → List ℕ
kind_name IOError = codes "IOError"
kind_name EnvVarNotFound = codes "EnvVarNotFound"
kind_name ToolExecError = codes "ToolExecError"
kind_name ToolNotFound = codes "ToolNotFound"
kind_name InvalidArgument = codes "InvalidArgument"
kind_name InvalidTarget = codes "InvalidTarget"
kind_name InvalidFlag = codes "InvalidFlag"
kind_name UnknownTarget = codes "UnknownTarget"
kind_name Disabled = codes "Disabled"
kind_name TurnsSpent = codes "TurnsSpent"
kind_name NoMemory = codes "NoMemory"

-- its kind, and then its message
abbrev pub shown : ErrorSeen → List ℕ
shown e = kind_name e.kind ++ codes ": " ++ e.message
