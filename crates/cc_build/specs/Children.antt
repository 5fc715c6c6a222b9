-- The children that were started in a part, and how they ended.
use Rattle.std.specs.Prelude.{◌≡◌, ℕ, List, [], ◌∷◌, ◌==◌, ◌&&◌, ◌||◌, not, Bool, false}
use Rattle.std.specs.List.{list_any}
use Rattle.cc_host.specs.Children.{Live, live_after, running}
use Rattle.cc_host.specs.Status.{is_success}
use Rattle.cc_host.specs.declared.event.Event.{Event}
use Rattle.cc_host.specs.declared.event.Event.TheVariants.{Ended}

-- a child of that id runs
abbrev pub runs : ℕ → List Live → Bool
runs id live = list_any (λ c. c.id == id) live

-- a child that runs ended with another status than 0
abbrev pub fails : List Live → Event → Bool
fails live (Ended id status) = runs id live && not (is_success status)
fails live _ = false

-- so did one of those that run, or that were started since
abbrev pub fails_from : List Live → List Event → Bool
fails_from live [] = false
fails_from live (e ∷ es) = fails live e || fails_from (live_after live e) es

-- a child that was started in the part ended in it with another status than 0
abbrev pub has_failure : List Event → Bool
has_failure = fails_from []

-- each child that was started in the part has ended, and none with another status than 0
pub record AllWell (part : List Event) : Type 0 where
  pub settled : running part ≡ []
  pub sound : has_failure part ≡ false
