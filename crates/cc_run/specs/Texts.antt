-- The lines that a run prints.
use Rattle.std.specs.Prelude.{ℕ, List, [], ◌∷◌, ◌++◌, codes}
use Rattle.std.specs.Fmt.{signed_decimal}
use Rattle.cc_text.specs.Words.{when}
use Rattle.cc_host.specs.Command.{CommandSeen}
use Rattle.cc_host.specs.CommandLine.{command_line}
use Rattle.cc_host.specs.declared.event.LineKind.{LineKind}
use Rattle.cc_host.specs.declared.event.LineKind.TheVariants.{Warning, Stderr, Debug}
use Rattle.cc_host.specs.declared.event.Status.{Status}
use Rattle.cc_host.specs.declared.event.Status.TheVariants.{Code, NoCode}
use Rattle.cc_run.specs.declared.planned.Shows.{Shows}
use Rattle.cc_run.specs.declared.print.Notice.{Notice}
use Rattle.cc_run.specs.declared.print.Notice.TheVariants.{Shown}

-- a line for Cargo, which shows it as a warning
abbrev pub cargo_line : LineKind → List ℕ → Notice
cargo_line kind text = Shown kind (codes "cargo:warning=" ++ text ++ 10 ∷ [])

-- a line of the standard error of a child
abbrev pub stderr_line : ℕ → List ℕ → Notice
stderr_line id = cargo_line (Stderr id)

-- a line for debugging
abbrev pub debug_line : List ℕ → Notice
debug_line text = Shown Debug (text ++ 10 ∷ [])

-- the line before a command
unfoldable pub announced : Shows → CommandSeen → List Notice
announced shows cmd = when shows.debug (debug_line (codes "running: " ++ command_line cmd) ∷ [])

-- how a command ended
unfoldable pub ended_text : Status → List ℕ
ended_text (Code n) = codes "exit status: " ++ signed_decimal n
ended_text NoCode = codes "ended without a status"

abbrev pub end_in_brackets : Status → List ℕ
end_in_brackets (Code n) = codes "(status code " ++ ended_text (Code n) ++ codes ")"
end_in_brackets NoCode = codes "(" ++ ended_text NoCode ++ codes ")"

-- the message of a command that ended with another status than 0
unfoldable pub failed_text : Status → CommandSeen → List ℕ
failed_text status cmd = codes "command did not execute successfully " ++ end_in_brackets status ++ codes ": "
    ++ command_line cmd

-- the warning of such a command, which is the error of a build
unfoldable pub failed_line : Status → CommandSeen → Notice
failed_line status cmd = cargo_line Warning (codes "ToolExecError: " ++ failed_text status cmd)

-- the standard error of a child failed to be read
abbrev pub unread_text : List ℕ
unread_text = codes "Failed to read from child stderr"
