use Rattle.std.proofs.Common.{◌≡◌, ◌++◌, false, drop}
use Rattle.cc_tool.specs.Libcxx.{kept_behind}
use Rattle.cc_tool.proofs.libcxx.without_dependencies.Given as goal

-- the words so far, and those that are left
abbrev pub invariant-loop-arg : goal.invariant-loop-arg
invariant-loop-arg l = l.words ++ kept_behind l.follows (drop l.arg-index l.args) ≡ kept_behind false l.args
