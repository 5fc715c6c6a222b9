-- What becomes of the commands of a host in memory.
use Rattle.std.specs.Prelude.{ℕ, ◌+◌, max, pos, List, [], ◌∷◌, length, drop, reverse, find, slice_get, Bool, true, false, ◌&&◌, ◌||◌, if◌then◌else◌, bytes_eq, Option, Some, None, is_some}
use Rattle.std.specs.List.{list_any, concat}
use Rattle.std.specs.Option.{option_map_or, unwrap_or}
use Rattle.cc_host.specs.Command.{CommandSeen}
use Rattle.cc_host.specs.declared.event.Role.{Role}
use Rattle.cc_host.specs.declared.event.Role.TheVariants.{Compile, Archive, Index, Expand}
use Rattle.cc_host.specs.declared.event.Status.{Status}
use Rattle.cc_host.specs.declared.event.Status.TheVariants.{Code}
use Rattle.cc_host.specs.declared.event.Event.{Event}
use Rattle.cc_host.specs.declared.event.Event.TheVariants.{Started}
use Rattle.cc_host.specs.declared.script.Scripted.{Scripted}

abbrev pub same_role : Role → Role → Bool
same_role Compile Compile = true
same_role Archive Archive = true
same_role Index Index = true
same_role Expand Expand = true
same_role _ _ = false

-- whether a word is among these
abbrev pub has_word : List ℕ → List (List ℕ) → Bool
has_word word = list_any (λ w. bytes_eq w word)

-- whether a command has the word, as its program or among its words
abbrev pub cmd_has : List ℕ → CommandSeen → Bool
cmd_has word cmd = bytes_eq cmd.program word || has_word word cmd.args

-- a script is of each command of its role that has its word
abbrev pub fits : Role → CommandSeen → Scripted → Bool
fits role cmd script = same_role script.role role && cmd_has script.word cmd

-- of the scripts that fit, the one that was added last counts
abbrev pub script_for : List Scripted → Role → CommandSeen → Option Scripted
script_for scripts role cmd = find (fits role cmd) (reverse scripts)

-- the script at a place that was kept
abbrev pub script_at : List Scripted → Option ℕ → Option Scripted
script_at scripts None = None
script_at scripts (Some place) = slice_get scripts place

-- how a command ends: as its script says, and with 0 where it has none
abbrev pub status_of : Option Scripted → Status
status_of script = option_map_or (λ s. s.script.status) script (Code (pos 0))

-- what a command writes, piece by piece
abbrev pub pieces_of : Option Scripted → List (List ℕ)
pieces_of script = option_map_or (λ s. s.script.pieces.items) script []

-- the standard output that is kept is the first piece
abbrev pub out_of : Bool → List (List ℕ) → List ℕ
out_of captured pieces = if captured then unwrap_or (slice_get pieces 0) [] else []

-- the standard error that is heard is the other pieces, or all where no standard output is kept
abbrev pub err_of : Bool → Bool → List (List ℕ) → List ℕ
err_of captured heard pieces = if heard then concat (if captured then drop 1 pieces else pieces) else []

-- whether a script waits for a command, and this is one of those
abbrev pub awaits : CommandSeen → Option (List ℕ) → Bool
awaits cmd None = false
awaits cmd (Some word) = cmd_has word cmd

-- a script once this command was started
abbrev pub met_after : CommandSeen → Scripted → Scripted
met_after cmd script = record script { met = script.met || awaits cmd script.script.after }

abbrev pub starts_awaited : Option (List ℕ) → Event → Bool
starts_awaited after (Started id role cmd pipes held) = awaits cmd after
starts_awaited after _ = false

-- whether a command that is waited for was started
abbrev pub was_met : Option (List ℕ) → List Event → Bool
was_met after = list_any (starts_awaited after)

-- nothing is waited for any more
abbrev pub is_met : Scripted → Bool
is_met script = if is_some script.script.after then script.met else true

abbrev pub one_if : Bool → ℕ
one_if holds = if holds then 1 else 0

-- the turns that all the output of a script takes
abbrev pub turns_out : Scripted → ℕ
turns_out script = length script.script.pieces.items + one_if script.script.unread

-- the turns that a child of this script runs through at most, where it waits for no command
abbrev pub turns_of : Scripted → ℕ
turns_of script = max script.script.turns (length script.script.pieces.items + 1)

-- the greatest of these, and at least 1
abbrev pub longest : List Scripted → ℕ
longest [] = 1
longest (script ∷ scripts) = max (turns_of script) (longest scripts)

-- how many turns a child runs through at most, which isn't known where a script waits for a command
abbrev pub patience_of : List Scripted → Option ℕ
patience_of scripts = if list_any (λ s. is_some s.script.after) scripts then None else Some (longest scripts)
