use Rattle.std.proofs.Common.{◌≡◌, drop}
use Rattle.cc_env.specs.Names.{set_values}
use Rattle.cc_env.proofs.lookup.single.Given as goal

-- no name so far is set
abbrev pub invariant-loop-name : goal.invariant-loop-name
invariant-loop-name l = set_values l.env (drop l.name-index l.name-items) ≡ set_values l.env l.name-items
