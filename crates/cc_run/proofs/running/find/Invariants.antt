use Rattle.std.proofs.Common.{◌≡◌, ◌≢◌, ◌<◌, ℕ, ◌++◌, get_or, map, take, drop}
use Rattle.cc_run.specs.declared.running.Child.{Child}
use Rattle.cc_run.specs.Children.{seat, without_child}
use Rattle.cc_run.specs.Run.{place_of}
use Rattle.cc_run.proofs.running.find.Given as goal

abbrev pub invariant-loop-at : goal.invariant-loop-at
invariant-loop-at l = record {
  place : place_of l.id (map seat l.children) ≡ place_of l.id (map seat (drop l.at l.children));
  before : (k : ℕ) → (d : Child) → k < l.at → (get_or l.children k d).id ≢ l.id;
  rest : without_child l.id l.children ≡ take l.at l.children ++ without_child l.id (drop l.at l.children);
}
