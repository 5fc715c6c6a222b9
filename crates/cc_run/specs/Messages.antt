-- The messages that a run says to a host that listens.
use Rattle.std.specs.Prelude.{ℕ, List, [], ◌∷◌, ◌++◌, map, not, ◌&&◌, Option, None, Some, option_to_list}
use Rattle.std.specs.Str.Lines.{strip_carriage_return}
use Rattle.std.specs.Str.Lossy.{utf8_lossy}
use Rattle.cc_text.specs.Words.{when}
use Rattle.cc_host.specs.Command.{CommandSeen}
use Rattle.cc_host.specs.CommandLine.{command_line}
use Rattle.cc_host.specs.Status.{is_success}
use Rattle.cc_host.specs.declared.event.Message.{Message}
use Rattle.cc_host.specs.declared.event.Message.TheVariants.{GeneralWarning, StderrForwarding, CommandFailed, Compiles}
use Rattle.cc_host.specs.declared.event.Status.{Status}
use Rattle.cc_run.specs.Texts.{announced, failed_text, unread_text}
use Rattle.cc_run.specs.declared.planned.Planned.{Planned}
use Rattle.cc_run.specs.declared.planned.Shows.{Shows}
use Rattle.cc_run.specs.declared.print.Notice.{Notice}
use Rattle.cc_run.specs.declared.print.Notice.TheVariants.{Told}

-- bytes that a command wrote on its standard error, as text
abbrev pub forwarded : CommandSeen → List ℕ → Message
forwarded cmd bytes = StderrForwarding (utf8_lossy bytes) cmd

-- a line of it, without a carriage return at its end
abbrev pub forwarding : CommandSeen → List ℕ → Message
forwarding cmd line = forwarded cmd (strip_carriage_return line)

-- a line whose carriage return is gone
abbrev pub warned_of : CommandSeen → List ℕ → Notice
warned_of cmd line = Told (forwarded cmd line)

abbrev pub told_of : CommandSeen → List ℕ → Notice
told_of cmd line = Told (forwarding cmd line)

-- such lines of a command, where the host listens
abbrev pub told_lines : Shows → Option Planned → List (List ℕ) → List Notice
told_lines shows None lines = []
told_lines shows (Some p) lines = when shows.listens (map (told_of p.cmd) lines)

-- the message of a command that compiles a source, where the host listens
unfoldable pub compiles : Shows → Planned → List Notice
compiles shows p = when shows.listens (map (λ c. Told (Compiles (command_line p.cmd) c)) (option_to_list p.message))

-- what comes just before a command
abbrev pub before : Shows → Planned → List Notice
before shows p = announced shows p.cmd ++ compiles shows p

-- a command failed, where the host listens
abbrev pub failed_told : Shows → Status → CommandSeen → List Notice
failed_told shows status cmd =
    when (shows.listens && not (is_success status)) (Told (CommandFailed status (failed_text status cmd) cmd) ∷ [])

-- a standard error failed to be read, where the host listens
abbrev pub unread_told : Shows → List Notice
unread_told shows = when shows.listens (Told (GeneralWarning unread_text) ∷ [])
