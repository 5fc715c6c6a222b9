-- What a seat of a shared pool is seen as, and whose seat it is.
use Rattle.std.specs.Prelude.{◌≡◌}
use Rattle.atomic_table.specs.Seated.{TableId}
use Rattle.cc_jobs.specs.declared.sharing.SeatView.{SeatView}
use Rattle.cc_jobs.specs.declared.shared.SharedPool.{SharedPool}
use Rattle.cc_jobs.specs.declared.shared.SharedSeat.{SharedSeat}

-- what the seat knows
abbrev pub view : SharedSeat → SeatView
view s = s.seat.me.0

-- the seat is one of this pool
abbrev pub IsSeatOf : SharedSeat → SharedPool → Type 0
IsSeatOf s p = s.seat.table_id ≡ p.table.shared.table_id
