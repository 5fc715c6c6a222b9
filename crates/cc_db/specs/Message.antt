-- What a logger is told of a message: its kind, its text, and what is told with it.
use Rattle.std.specs.Prelude.{ℕ, List}
use Rattle.cc_host.specs.declared.event.Message.{Message}
use Rattle.cc_host.specs.declared.event.Message.TheVariants.{GeneralWarning, StderrForwarding, CommandFailed, Compiles}
use Rattle.cc_db.specs.declared.message.BuildMessageKind.{BuildMessageKind}
use Rattle.cc_db.specs.declared.message.BuildMessageKind.TheVariants.{GeneralWarning as Warning, StderrForwarding as Line, CommandFailed as Failure, CompileCommand as Compiling}
use Rattle.cc_db.specs.declared.message.Extra.{Extra}
use Rattle.cc_db.specs.declared.message.Extra.TheVariants.{Nothing, Ran, Compiles as Compiled}

-- its kind
abbrev pub kind_of : Message → BuildMessageKind
kind_of (GeneralWarning text) = Warning
kind_of (StderrForwarding text cmd) = Line
kind_of (CommandFailed status text cmd) = Failure status
kind_of (Compiles text cmd) = Compiling

-- its text
abbrev pub text_of : Message → List ℕ
text_of (GeneralWarning text) = text
text_of (StderrForwarding text cmd) = text
text_of (CommandFailed status text cmd) = text
text_of (Compiles text cmd) = text

-- what is told with it: nothing with a warning, the command with its line or its failure, and what is compiled with a
-- compile command
abbrev pub extra_of : Message → Extra
extra_of (GeneralWarning text) = Nothing
extra_of (StderrForwarding text cmd) = Ran cmd
extra_of (CommandFailed status text cmd) = Ran cmd
extra_of (Compiles text cmd) = Compiled cmd
