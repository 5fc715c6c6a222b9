-- Commands with prerequisites as a plan.
use Rattle.std.specs.Prelude.{◌≡◌, ℕ, List, [], map, length, nat_lt, not, ◌&&◌, ◌==◌, sum_by, Bool, true, false}
use Rattle.std.specs.List.{list_all, slice_index_or}
use Rattle.cc_run.specs.Book.{one_where}
use Rattle.cc_run.specs.Marks.{has_begun, has_succeeded}
use Rattle.cc_run.specs.Plan.{Plan}
use Rattle.cc_run.specs.declared.mark.Mark.{Mark}
use Rattle.cc_run.specs.declared.planned.Planned.{Planned}
use Rattle.cc_graph.specs.Frontier.{Sound, open_at, ready_at, times}
use Rattle.cc_graph.specs.Graph.{Graph, graph_of, needs_of}
use Rattle.cc_graph.specs.declared.frontier.Frontier.{Frontier}
use Rattle.cc_graph.specs.declared.node.Node.{Node}

abbrev pub command : Node → Planned
command node = node.cmd

-- a command may be started once all that it needs ended with the status 0
abbrev pub graph_plan : List Node → Plan
graph_plan nodes = record {
  cmds = map command nodes;
  allows = λ marks p. list_all (has_succeeded marks) (needs_of (graph_of nodes) p);
}

-- ---- the queue

-- how many of these have not ended with the status 0
abbrev pub open_needs : List Mark → List ℕ → ℕ
open_needs marks = sum_by (λ k. one_where (not (has_succeeded marks k)))

abbrev pub waiters_at : List (List ℕ) → ℕ → List ℕ
waiters_at waiters k = slice_index_or waiters k []

-- so often, but not once it is so
abbrev pub unless : Bool → ℕ → ℕ
unless true n = 0
unless false n = n

-- For each place it is known how many needs are open, for each that may be needed who waits for it, and which are
-- ready.
pub record Tells (g : Graph) (waiters : List (List ℕ)) (f : Frontier) (marks : List Mark) : Type 0 where
  pub sound : Sound f
  pub size : length f.counts.items ≡ length g
  pub counted : (p : ℕ) → open_at f p ≡ open_needs marks (needs_of g p)
  pub waits : (k p : ℕ) → times p (waiters_at waiters k) ≡ unless (has_succeeded marks k) (times k (needs_of g p))
  pub begun : (p : ℕ) → has_begun marks p ≡ true → open_at f p ≡ 0
  pub ready : (p : ℕ) → ready_at f p ≡ one_where (nat_lt p (length g) && (not (has_begun marks p) && open_at f p == 0))
