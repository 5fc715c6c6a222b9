-- The warnings that a run prints: where a standard error failed to be read, and where a command failed that is to be
-- warned of.
use Rattle.std.specs.Prelude.{ℕ, Bool, true, false, List, [], ◌∷◌, filter, not, ◌&&◌, take, drop, Option, None, Some, Result}
use Rattle.std.specs.List.{flat_map}
use Rattle.cc_text.specs.Words.{when}
use Rattle.cc_host.specs.Status.{is_success}
use Rattle.cc_host.specs.declared.event.Event.{Event}
use Rattle.cc_host.specs.declared.event.Event.TheVariants.{Unread, Ended}
use Rattle.cc_host.specs.declared.event.LineKind.{LineKind}
use Rattle.cc_host.specs.declared.event.LineKind.TheVariants.{Warning}
use Rattle.cc_host.specs.declared.event.Status.{Status}
use Rattle.cc_run.specs.Printing.{printed, lines_along}
use Rattle.cc_run.specs.Rules.{Rules}
use Rattle.cc_run.specs.Run.{Run, nothing, place_of}
use Rattle.cc_run.specs.Stderr.{IsForwarded}
use Rattle.cc_run.specs.Texts.{cargo_line, failed_line, unread_text}
use Rattle.cc_run.specs.declared.error.RunError.{RunError}
use Rattle.cc_run.specs.declared.planned.Planned.{Planned}
use Rattle.cc_run.specs.declared.planned.Shows.{Shows}
use Rattle.cc_run.specs.declared.print.Notice.{Notice}
use Rattle.cc_run.specs.declared.print.Notice.TheVariants.{Shown, Told}

abbrev pub is_warning_kind : LineKind → Bool
is_warning_kind Warning = true
is_warning_kind _ = false

abbrev pub is_warning : Notice → Bool
is_warning (Shown kind bytes) = is_warning_kind kind
is_warning (Told message) = false

-- the warnings that were printed
abbrev pub warnings_printed : List Event → List Notice
warnings_printed part = filter is_warning (printed part)

-- no more of a child of the run can be read
abbrev pub unread_warned : Shows → Option ℕ → List Notice
unread_warned shows None = []
unread_warned shows (Some place) = when shows.warnings (cargo_line Warning unread_text ∷ [])

-- a command failed, where that is warned of
abbrev pub failed_of : Shows → Bool → Status → Planned → List Notice
failed_of shows warns status p =
    when (warns && shows.warnings && not (is_success status)) (failed_line status p.cmd ∷ [])

-- the command at that place failed
abbrev pub failed_warned : Shows → Bool → List Planned → Status → Option ℕ → List Notice
failed_warned shows warns cmds status None = []
failed_warned shows warns cmds status (Some place) =
    flat_map (failed_of shows warns status) (take 1 (drop place cmds))

abbrev pub warning_of : Shows → Bool → List Planned → Run → Event → List Notice
warning_of shows warns cmds r (Unread id) = unread_warned shows (place_of id r.live)
warning_of shows warns cmds r (Ended id status) = failed_warned shows warns cmds status (place_of id r.live)
warning_of shows warns cmds r _ = []

-- the warnings that these events give, in order
abbrev pub warnings_from : Rules → Run → List Event → List Notice
warnings_from rules = lines_along rules.plan (warning_of rules.shows rules.warns rules.plan.cmds)

-- the warnings of a run were printed, and no others
abbrev pub WarnsAll : {T : Type 0} → Rules → Result T RunError → List Event → Type 0
WarnsAll rules result part = IsForwarded result (warnings_printed part) (warnings_from rules nothing part)
