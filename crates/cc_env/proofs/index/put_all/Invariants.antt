use Rattle.std.proofs.Common.{◌≡◌, take}
use Rattle.cc_env.specs.Index.{IsIndexed, place_in}
use Rattle.cc_env.specs.Snapshot.{child_of}
use Rattle.cc_env.proofs.index.put_all.Given as goal

-- the entries so far are put, and each name has its place
abbrev pub invariant-loop-name : goal.invariant-loop-name
invariant-loop-name l = record {
  child : l.vars ≡ child_of l.fn.vars (take l.name-index l.name-items);
  indexed : IsIndexed l.vars (place_in l.base l.more);
}
