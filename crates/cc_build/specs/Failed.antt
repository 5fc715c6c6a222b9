-- A part in which a command failed, and one in which the host did.
use Rattle.std.specs.Prelude.{◌≡◌, ◌≢◌, ◌⊎◌, List, [], ◌∷◌, Bool, true, false, not, if◌then◌else◌}
use Rattle.std.specs.List.{list_any}
use Rattle.cc_host.specs.Part.{is_probing}
use Rattle.cc_host.specs.declared.event.Event.{Event}
use Rattle.cc_host.specs.Status.{is_success}
use Rattle.cc_host.specs.declared.event.Event.TheVariants.{Fault, Ran, Missing}
use Rattle.cc_run.specs.Part.{missing}
use Rattle.cc_build.specs.Children.{has_failure}
use Rattle.cc_build.specs.Order.{is_archive_role}

-- a command was run to another end than 0
abbrev pub ran_badly : Event → Bool
ran_badly (Ran role cmd pipes status out err) = not (is_success status)
ran_badly _ = false

-- a command of the archive that was run to its end in one call of the host, or whose program is missing
abbrev pub is_form : Event → Bool
is_form (Ran role cmd pipes status out err) = is_archive_role role
is_form (Missing role cmd) = is_archive_role role
is_form _ = false

-- a part without the first of these: the first form of the archive, which may be refused
abbrev pub form_aside : List Event → List Event
form_aside [] = []
form_aside (event ∷ part) = if is_form event then part else event ∷ form_aside part

-- the part without the first form, which an archiver may not know; one that has one form alone knows it
abbrev pub unforgiven : Bool → List Event → List Event
unforgiven one_form part = if one_form then part else form_aside part

-- The first form of the archive aside, where there are two, some command of the part is missing, was started in it and
-- ended with another status than 0, or was run to such an end.
abbrev pub Failed : Bool → List Event → Type 0
Failed one_form part =
    (missing (unforgiven one_form part) ≢ [])
    ⊎ ((has_failure part ≡ true) ⊎ (list_any ran_badly (unforgiven one_form part) ≡ true))

-- a fault, but one of what a question wants
abbrev pub is_fault : Event → Bool
is_fault (Fault call why) = not (is_probing call)
is_fault _ = false

-- some call of the host faulted that no question made
abbrev pub HasFault : List Event → Type 0
HasFault part = list_any is_fault part ≡ true
