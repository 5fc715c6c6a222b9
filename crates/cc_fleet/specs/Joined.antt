-- The plans of members, put together.
use Rattle.std.specs.Prelude.{◌≡◌, ℕ, List, [], ◌∷◌, ◌++◌, length, replicate, Option, None, Some}
use Rattle.cc_run.specs.declared.planned.Planned.{Planned}
use Rattle.cc_run.specs.declared.planned.Shows.{Shows}
use Rattle.cc_fleet.specs.declared.joined.Joined.{Joined}

-- what is shown is what the first shows
abbrev pub first_shows : Option Shows → Shows → Option Shows
first_shows None shows = Some shows
first_shows (Some first) shows = Some first

-- the plan of one member more: its commands come last, and each is its own
pub record Adds (old new : Joined) (commands : List Planned) (objects : List (List ℕ)) (shows : Shows) : Type 0 where
  pub commands_are : new.commands.items ≡ old.commands.items ++ commands
  pub owners_are : new.owners.items ≡ old.owners.items ++ replicate (length commands) (length old.objects.items)
  pub objects_are : new.objects.items ≡ old.objects.items ++ objects ∷ []
  pub shows_are : new.shows ≡ first_shows old.shows shows
