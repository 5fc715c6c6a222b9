-- How many turns a run makes at most, where its patience is known: through how many turns a child runs at most.
use Rattle.std.specs.Prelude.{◌≡◌, ◌≤◌, ◌<◌, ℕ, ◌+◌, ◌-◌, ◌*◌, List, [], ◌++◌, Option, None, Some, IfSome, map, sum_by, All}
use Rattle.cc_host.specs.Children.{Live, live_from}
use Rattle.cc_host.specs.declared.event.Event.{Event}
use Rattle.cc_run.specs.Paid.{starts}
use Rattle.cc_run.specs.Part.{turns}
use Rattle.cc_run.specs.Run.{Run, ids}

-- where patience is known, no more turns were made than that, for each command
abbrev pub Bounded : Option ℕ → ℕ → List Event → Type 0
Bounded None count part = Unit {0}
Bounded (Some most) count part = turns part ≤ most * count

-- where patience is known, fewer turns were made than that, for each command
abbrev pub Unspent : Option ℕ → ℕ → List Event → Type 0
Unspent None count part = Unit {0}
Unspent (Some most) count part = turns part < most * count

-- what is left of the patience with a child
abbrev pub left_of : ℕ → Live → ℕ
left_of most child = most - child.polls

-- what is left of the patience with these children
abbrev pub patience_left : ℕ → List Live → ℕ
patience_left most = sum_by (left_of most)

-- Since its start a run made no more turns than the patience with each command that was started, less what is left of
-- it with those that run; and each of these was polled fewer times than the patience.
pub record IsPatient (most : ℕ) (r : Run) (whole : List Event) : Type 0 where
  pub same : map (λ c. c.id) (live_from [] whole) ≡ ids r.live
  pub waits : All (λ c. c.polls < most) (live_from [] whole)
  pub within : turns whole + patience_left most (live_from [] whole) ≤ most * starts whole

-- where one caller owns the pool and the host tells its patience, a run stays so, whenever it was started
abbrev pub Lasts : Option ℕ → Option ℕ → List Event → Run → List Event → Run → Type 0
Lasts total patience log r part r' = IfSome total (λ _. IfSome patience (λ most. 1 ≤ most
    → (before whole : List Event) → log ≡ before ++ whole → IsPatient most r whole → IsPatient most r' (whole ++ part)))
