use Rattle.std.proofs.Common.{◌≡◌, ℕ, ◌+◌, ◌*◌, length, take}
use Rattle.std.specs.Prelude.{◌==◌}
use Rattle.cc_run.specs.Book.{one_where}
use Rattle.cc_graph.specs.Frontier.{times}
use Rattle.cc_graph.specs.Queue.{waiters_at}
use Rattle.cc_graph.proofs.queue.wait_for.Given as goal

-- the place waits for the needs so far
abbrev pub invariant-loop-need : goal.invariant-loop-need
invariant-loop-need l = record {
  size : length l.waiters.items ≡ length l.fn.waiters.items;
  waits : (k q : ℕ) → times q (waiters_at l.waiters.items k) ≡ times q (waiters_at l.fn.waiters.items k) + one_where (l.place == q) * times k (take l.need-index l.needs);
}
