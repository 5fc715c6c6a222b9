-- What a run goes by.
use Rattle.std.specs.Prelude.{Bool, true, false}
use Rattle.cc_run.specs.Plan.{Plan}
use Rattle.cc_run.specs.declared.planned.Shows.{Shows}
use Rattle.cc_run.specs.declared.planned.Batch.{Batch}

-- its plan; what of it is shown; whether a failure is warned of; and whether each start carries how many tokens are
-- held, or 0
pub record Rules : Type 0 where
  pub plan : Plan
  pub shows : Shows
  pub warns : Bool
  pub counted : Bool

-- the rules of a run with that plan
abbrev pub rules_of : {J : Type 0} → Batch J → Plan → Rules
rules_of batch plan = record { plan = plan; shows = batch.shows.now; warns = batch.warns; counted = batch.counted }

-- the rules of a run under tokens, whose failures are warned of
abbrev pub rules : Plan → Shows → Rules
rules plan shows = record { plan = plan; shows = shows; warns = true; counted = true }

-- the rules of a run without a token
abbrev pub lone_rules : Plan → Shows → Rules
lone_rules plan shows = record { plan = plan; shows = shows; warns = false; counted = false }
