-- The lines for debugging that a run prints: one before each command, and one after it where it ended.
use Rattle.std.specs.Prelude.{◌≡◌, ℕ, Bool, true, false, List, [], ◌∷◌, filter, length, Option, None, Some, Result, OnOk}
use Rattle.cc_text.specs.Words.{when}
use Rattle.cc_host.specs.declared.event.Event.{Event}
use Rattle.cc_host.specs.declared.event.Event.TheVariants.{Started, Ended}
use Rattle.cc_host.specs.declared.event.LineKind.{LineKind}
use Rattle.cc_host.specs.declared.event.LineKind.TheVariants.{Debug}
use Rattle.cc_host.specs.declared.event.Status.{Status}
use Rattle.cc_run.specs.Plan.{Plan}
use Rattle.cc_run.specs.Printing.{printed, lines_along}
use Rattle.cc_run.specs.Run.{Run, nothing, place_of}
use Rattle.cc_run.specs.Texts.{announced, debug_line, ended_text}
use Rattle.cc_run.specs.declared.error.RunError.{RunError}
use Rattle.cc_run.specs.declared.planned.Shows.{Shows}
use Rattle.cc_run.specs.declared.print.Notice.{Notice}
use Rattle.cc_run.specs.declared.print.Notice.TheVariants.{Shown, Told}

abbrev pub is_debug_kind : LineKind → Bool
is_debug_kind Debug = true
is_debug_kind _ = false

abbrev pub is_debug : Notice → Bool
is_debug (Shown kind bytes) = is_debug_kind kind
is_debug (Told message) = false

-- the lines for debugging that were printed
abbrev pub debug_printed : List Event → List Notice
debug_printed part = filter is_debug (printed part)

-- the line after a command, where its child is one of the run
abbrev pub end_line : Shows → Status → Option ℕ → List Notice
end_line shows status None = []
end_line shows status (Some place) = when shows.debug (debug_line (ended_text status) ∷ [])

abbrev pub debug_of : Shows → Run → Event → List Notice
debug_of shows r (Started id role cmd pipes held) = announced shows cmd
debug_of shows r (Ended id status) = end_line shows status (place_of id r.live)
debug_of shows r _ = []

-- the lines for debugging that these events give, in order
abbrev pub debug_from : Plan → Shows → Run → List Event → List Notice
debug_from plan shows = lines_along plan (debug_of shows)

-- on Ok the lines for debugging that were printed are those of the run's events
abbrev pub DebugsAll : {T : Type 0} → Plan → Shows → Result T RunError → List Event → Type 0
DebugsAll plan shows result part = OnOk result (debug_printed part ≡ debug_from plan shows nothing part)

-- on Ok so many were printed, if they are on
abbrev pub DebugsTimes : {T : Type 0} → Shows → Result T RunError → ℕ → List Event → Type 0
DebugsTimes shows result count part = shows.debug ≡ true → OnOk result (length (debug_printed part) ≡ count)
