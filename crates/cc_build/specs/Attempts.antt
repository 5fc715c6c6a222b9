-- The commands that a part of a log tells of, in order.
use Rattle.std.specs.Prelude.{◌≡◌, List, [], ◌∷◌, ◌++◌, map, Bool, false, not, if◌then◌else◌}
use Rattle.std.specs.List.{flat_map}
use Rattle.cc_host.specs.Command.{CommandSeen}
use Rattle.cc_host.specs.Status.{is_success}
use Rattle.cc_host.specs.declared.event.Event.{Event}
use Rattle.cc_host.specs.declared.event.Event.TheVariants.{Started, Missing, Ran}
use Rattle.cc_host.specs.declared.event.Role.{Role}
use Rattle.cc_run.specs.declared.planned.Planned.{Planned}

-- an attempt to run a command: it was started, its program can't be found, or it was run to its end
abbrev pub attempt_of : Event → List (Role × CommandSeen)
attempt_of (Started id role cmd pipes held) = (role, cmd) ∷ []
attempt_of (Missing role cmd) = (role, cmd) ∷ []
attempt_of (Ran role cmd pipes status out err) = (role, cmd) ∷ []
attempt_of _ = []

-- the commands of a part, in order, those that are missing among them
abbrev pub attempts : List Event → List (Role × CommandSeen)
attempts = flat_map attempt_of

-- a command that is to run, with its role
abbrev pub to_attempt : Planned → Role × CommandSeen
to_attempt planned = (planned.role, planned.cmd)

-- the commands of a part, those that are missing among them, are the first of these: one attempt for each, and no other
-- command
abbrev pub FirstOf : List Planned → List Event → Type 0
FirstOf cmds part = (rest : List (Role × CommandSeen)) × (map to_attempt cmds ≡ attempts part ++ rest)

-- a command that was run to its end in one call of the host, or whose program can't be found, and whether it ended with
-- 0
abbrev pub tried_of : Event → List (CommandSeen × Bool)
tried_of (Ran role cmd pipes status out err) = (cmd, is_success status) ∷ []
tried_of (Missing role cmd) = (cmd, false) ∷ []
tried_of _ = []

-- these of a part, in order
abbrev pub all_tried : List Event → List (CommandSeen × Bool)
all_tried = flat_map tried_of

-- the first of these commands alone, which was refused or ended with 0
abbrev pub first_tried : Bool → List Planned → List (CommandSeen × Bool)
first_tried refused [] = []
first_tried refused (p ∷ ps) = (p.cmd, not refused) ∷ []

-- the same of the commands of a library: none where the archiver has one form alone
abbrev pub form_tried : Bool → Bool → List Planned → List (CommandSeen × Bool)
form_tried one_form refused cmds = if one_form then [] else first_tried refused cmds
