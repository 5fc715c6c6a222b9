-- What a map ends as, once a `&mut` to one of its values has ended.
use Rattle.std.specs.Prelude.{ℕ, List, Option}
use Rattle.std.specs.Borrow.{Fml, RattleType, MutBor, Lends, LendsIf}
use Rattle.std.specs.declared.cmp.PartialEq.{Ghosts}
use Rattle.cc_text.specs.Map.{with_value_at, with_pair}
use Rattle.cc_text.specs.contracts.map.VecMap.{the_row}

module _ (K V : RattleType) (key_eq : Ghosts K.Denot) (m : MutBor (List (K.Denot × V.Denot))) where
  -- the place has the last value written through r
  abbrev pub lends_at : ℕ → MutBor V.Denot → Fml
  lends_at place r = Lends (the_row K V key_eq) V m r (with_value_at m.now place)

  -- the key has the last value written through r, and at `None` the map stays as it is
  abbrev pub lends_value : K.Denot → Option (MutBor V.Denot) → Fml
  lends_value key r = LendsIf (the_row K V key_eq) V m r (with_pair key_eq.eq m.now key) m.now
