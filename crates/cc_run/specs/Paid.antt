-- What a part says of the tokens that were taken for it.
use Rattle.std.specs.Prelude.{ℕ, ◌+◌, List, sum_by}
use Rattle.cc_jobs.specs.Seats.{UpBy}
use Rattle.cc_host.specs.declared.event.Event.{Event}
use Rattle.cc_host.specs.declared.event.Event.TheVariants.{Started}

abbrev pub starts_of : Event → ℕ
starts_of (Started id role cmd pipes held) = 1
starts_of _ = 0

abbrev pub held_of : Event → ℕ
held_of (Started id role cmd pipes held) = held
held_of _ = 0

abbrev pub starts : List Event → ℕ
starts = sum_by starts_of

abbrev pub loads : List Event → ℕ
loads = sum_by held_of

-- the counts rose by the starts and by what these carry, and by so much more
abbrev pub PaidAnd : ℕ → ℕ → List Event → ℕ → ℕ → ℕ → ℕ → Type 0
PaidAnd more held part taken load taken' load' = UpBy taken (starts part + more) taken'
    × UpBy load (loads part + held) load'
