-- What a part says of the standard error of one child.
use Rattle.std.specs.Prelude.{◌≡◌, ℕ, Bool, true, false, List, [], ◌==◌, if◌then◌else◌, map, filter, take, Result, Err}
use Rattle.std.specs.List.{Contains, flat_map, list_any}
use Rattle.cc_text.specs.Words.{when}
use Rattle.cc_host.specs.Children.{started_ids}
use Rattle.cc_host.specs.declared.event.Event.{Event}
use Rattle.cc_host.specs.declared.event.Event.TheVariants.{Started, Heard, Unread, Ended, Abandoned}
use Rattle.cc_host.specs.declared.event.LineKind.{LineKind}
use Rattle.cc_host.specs.declared.event.LineKind.TheVariants.{Stderr}
use Rattle.cc_run.specs.Lines.{lines, whole_lines}
use Rattle.cc_run.specs.Printing.{printed}
use Rattle.cc_run.specs.Texts.{stderr_line}
use Rattle.cc_run.specs.declared.error.RunError.{RunError}
use Rattle.cc_run.specs.declared.error.RunError.TheVariants.{HostFault, NoMemory}
use Rattle.cc_run.specs.declared.planned.Shows.{Shows}
use Rattle.cc_run.specs.declared.print.Notice.{Notice}
use Rattle.cc_run.specs.declared.print.Notice.TheVariants.{Shown, Told}

-- an event of the child of that id
abbrev pub is_of : ℕ → Event → Bool
is_of id (Started n role cmd pipes held) = n == id
is_of id (Heard n piece) = n == id
is_of id (Unread n) = n == id
is_of id (Ended n status) = n == id
is_of id (Abandoned n) = n == id
is_of id _ = false

abbrev pub heard_of : ℕ → Event → List ℕ
heard_of id (Heard n piece) = if n == id then piece else []
heard_of id _ = []

-- all bytes that the child of that id wrote on its standard error, however they were cut
abbrev pub heard : ℕ → List Event → List ℕ
heard id = flat_map (heard_of id)

-- it ended, or no more of its standard error can be read
abbrev pub is_over : ℕ → Event → Bool
is_over id (Unread n) = n == id
is_over id (Ended n status) = n == id
is_over id _ = false

-- the lines of a standard error: where more might have come, those that end at a line feed
abbrev pub lines_by : Bool → List ℕ → List (List ℕ)
lines_by true bytes = lines bytes
lines_by false bytes = whole_lines bytes

abbrev pub is_own_kind : ℕ → LineKind → Bool
is_own_kind id (Stderr n) = n == id
is_own_kind id _ = false

abbrev pub is_stderr : ℕ → Notice → Bool
is_stderr id (Shown kind bytes) = is_own_kind id kind
is_stderr id (Told message) = false

-- the lines of the standard error of that child that were printed
abbrev pub stderr_printed : ℕ → List Event → List Notice
stderr_printed id part = filter (is_stderr id) (printed part)

-- The lines that the standard error of that child gives: all of its bytes at once, split at line feeds. Where it was
-- abandoned before it ended and before its standard error failed to be read, the rest behind the last line feed is
-- none.
abbrev pub stderr_given : Shows → ℕ → List Event → List Notice
stderr_given shows id part =
    when shows.warnings (map (stderr_line id) (lines_by (list_any (is_over id) part) (heard id part)))

-- all of these lines, or the first of them, where a print or memory was refused
abbrev pub IsForwarded : {T : Type 0} → Result T RunError → List Notice → List Notice → Type 0
IsForwarded (Err (HostFault call why)) given wanted = (count : ℕ) × (given ≡ take count wanted)
IsForwarded (Err NoMemory) given wanted = (count : ℕ) × (given ≡ take count wanted)
IsForwarded _ given wanted = given ≡ wanted

-- of each child that was started, the lines of its standard error were printed
abbrev pub ForwardsEach : {T : Type 0} → Shows → Result T RunError → List Event → Type 0
ForwardsEach shows result part =
    (id : ℕ) → Contains (started_ids part) id → IsForwarded result (stderr_printed id part) (stderr_given shows id part)
