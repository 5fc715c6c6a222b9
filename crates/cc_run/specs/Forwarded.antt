-- What the news of a child give: lines and messages.
use Rattle.std.specs.Prelude.{ℕ, Bool, List, [], ◌∷◌, ◌++◌, map, not, ◌&&◌, Option, Some, option_to_list}
use Rattle.cc_text.specs.Words.{when}
use Rattle.cc_host.specs.Status.{is_success}
use Rattle.cc_host.specs.declared.event.LineKind.TheVariants.{Warning}
use Rattle.cc_host.specs.declared.event.Status.{Status}
use Rattle.cc_run.specs.Lines.{whole_lines, rest_of, last_line}
use Rattle.cc_run.specs.Messages.{told_lines, failed_told, unread_told}
use Rattle.cc_run.specs.Texts.{cargo_line, stderr_line, debug_line, ended_text, failed_line, unread_text}
use Rattle.cc_run.specs.declared.planned.Planned.{Planned}
use Rattle.cc_run.specs.declared.planned.Shows.{Shows}
use Rattle.cc_run.specs.declared.print.Notice.{Notice}
use Rattle.cc_run.specs.declared.running.Child.{Child}

-- a child after a piece of its standard error, and after its rest was taken
abbrev pub fed : List ℕ → Child → Child
fed piece child = record child { rest = rest_of (child.rest ++ piece) }

abbrev pub emptied : Child → Child
emptied child = record child { rest = [] }

-- lines of the standard error of a child of that id and command
abbrev pub given_lines : Shows → Option Planned → ℕ → List (List ℕ) → List Notice
given_lines shows planned id lines = when shows.warnings (map (stderr_line id) lines) ++ told_lines shows planned lines

-- the lines that a piece ends
abbrev pub heard_lines : Shows → Option Planned → Child → List ℕ → List Notice
heard_lines shows planned child piece = given_lines shows planned child.id (whole_lines (child.rest ++ piece))

-- what a child gave since its last line feed is a line
abbrev pub rest_lines : Shows → Option Planned → Child → List Notice
rest_lines shows planned child = given_lines shows planned child.id (option_to_list (last_line child.rest))

-- the same, and a warning that no more can be read
abbrev pub unread_lines : Shows → Option Planned → Child → List Notice
unread_lines shows planned child = rest_lines shows planned child
    ++ when shows.warnings (cargo_line Warning unread_text ∷ []) ++ unread_told shows

-- a rest, the end, a warning of a failure, where it is warned of, and its message
abbrev pub ended_lines : Shows → Bool → Planned → Status → Child → List Notice
ended_lines shows warns p status child =
    rest_lines shows (Some p) child ++ when shows.debug (debug_line (ended_text status) ∷ [])
    ++ when (warns && shows.warnings && not (is_success status)) (failed_line status p.cmd ∷ [])
    ++ failed_told shows status p.cmd
