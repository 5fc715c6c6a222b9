-- How many tokens a pool is to have.
use Rattle.std.specs.Prelude.{ℕ, List, codes, max, unwrap_or}
use Rattle.std.specs.Option.{option_map, option_and_then}
use Rattle.cc_text.specs.Numbers.{u32_of}
use Rattle.cc_env.specs.Snapshot.{last_value}

-- the number in `NUM_JOBS`, at least 1, or 4 where there is none
unfoldable pub pool_size : List (List ℕ × List ℕ) → ℕ
pool_size vars = unwrap_or (option_map (max 1) (option_and_then u32_of (last_value vars (codes "NUM_JOBS")))) 4
