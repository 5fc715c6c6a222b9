-- What a reader of a part knows of a run, place by place.
use Rattle.std.specs.Prelude.{ℕ, List, [], ◌∷◌, ◌++◌, ◌==◌, map, if◌then◌else◌, Option, None, Some}
use Rattle.cc_host.specs.declared.event.Status.{Status}
use Rattle.cc_host.specs.declared.event.Event.{Event}
use Rattle.cc_host.specs.declared.event.Event.TheVariants.{Started, Ended, Abandoned}
use Rattle.cc_run.specs.declared.mark.Mark.{Mark}
use Rattle.cc_run.specs.declared.mark.Mark.TheVariants.{Began, Over}
use Rattle.cc_run.specs.Plan.{Plan, next_place}

-- The children that run, in start order, each with its id and its place in the queue; and what began and ended.
pub record Run : Type 0 where
  pub live : List (ℕ × ℕ)
  pub marks : List Mark

abbrev pub nothing : Run
nothing = record { live = []; marks = [] }

-- the place of the first child of that id
abbrev pub place_of : ℕ → List (ℕ × ℕ) → Option ℕ
place_of id [] = None
place_of id (c ∷ cs) = if c.0 == id then Some c.1 else place_of id cs

-- the children without the first of that id
abbrev pub without : ℕ → List (ℕ × ℕ) → List (ℕ × ℕ)
without id [] = []
without id (c ∷ cs) = if c.0 == id then cs else c ∷ without id cs

-- what began and ended, after the start or the end of the command at a place
abbrev pub began : Option ℕ → List Mark → List Mark
began None marks = marks
began (Some p) marks = marks ++ Began p ∷ []

abbrev pub over : Status → Option ℕ → List Mark → List Mark
over status None marks = marks
over status (Some p) marks = marks ++ Over p status ∷ []

-- the children, after the start of the command at a place
abbrev pub joined : ℕ → Option ℕ → List (ℕ × ℕ) → List (ℕ × ℕ)
joined id None live = live
joined id (Some p) live = live ++ (id, p) ∷ []

-- a child that is started is the plan's next; one that ends or is abandoned is of the run, or somebody else's
abbrev pub run_after : Plan → Run → Event → Run
run_after plan r (Started id role cmd pipes held) =
    record { live = joined id (next_place plan r.marks) r.live; marks = began (next_place plan r.marks) r.marks }
run_after plan r (Ended id status) =
    record { live = without id r.live; marks = over status (place_of id r.live) r.marks }
run_after plan r (Abandoned id) = record { live = without id r.live; marks = r.marks }
run_after plan r _ = r

-- the run after a child has ended, or has not
abbrev pub ended_run : Run → ℕ → Option Status → Run
ended_run r id None = r
ended_run r id (Some status) =
    record { live = without id r.live; marks = over status (place_of id r.live) r.marks }

-- the run after these events
abbrev pub run_from : Plan → Run → List Event → Run
run_from plan r [] = r
run_from plan r (e ∷ es) = run_from plan (run_after plan r e) es

abbrev pub ids : List (ℕ × ℕ) → List ℕ
ids = map (λ c. c.0)

-- all these children are abandoned
abbrev pub gone : List (ℕ × ℕ) → List Event
gone = map (λ c. Abandoned c.0)
