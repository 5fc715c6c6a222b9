-- Of commands with prerequisites that were run to their ends: all ended with 0 where none failed.
use Rattle.std.proofs.Common.{◌≡◌, ◌⊎◌, inl, inr, ◌<◌, ◌+◌, ℕ, zero, suc, List, [], ◌∷◌, ◌++◌, length, map, Bool, true, false, not, ◌&&◌, ◌||◌, if◌then◌else◌, Option, Some, None, refl, sym, ◌∙◌, ap, subst, append_assoc, append-nil, arith}
use Rattle.std.specs.Prelude.{◌==◌}
use Rattle.std.specs.List.{list_all, Contains, slice_get}
use Rattle.std.specs.Option.{option_map}
use Rattle.std.proofs.lemmas.Bool.{cases_eq, and_parts}
use Rattle.std.proofs.lemmas.Grind.{common_steps}
use Rattle.std.proofs.lemmas.List.{length-map}
use Rattle.cc_host.specs.Status.{is_success}
use Rattle.cc_host.specs.declared.event.Event.{Event}
use Rattle.cc_host.specs.declared.event.Status.{Status}
use Rattle.cc_run.specs.Marks.{has_begun, failure_from, last_failure}
use Rattle.cc_run.specs.Rules.{Rules, rules}
use Rattle.cc_run.specs.Run.{nothing, run_from}
use Rattle.cc_run.specs.declared.mark.Mark.{Mark}
use Rattle.cc_run.specs.declared.mark.Mark.TheVariants.{Began, Over}
use Rattle.cc_run.specs.declared.planned.Planned.{Planned}
use Rattle.cc_run.specs.declared.planned.Shows.{Shows}
use Rattle.cc_graph.specs.Ends.{went_well, is_skipped, end_at}
use Rattle.cc_graph.specs.Graph.{graph_of, needs, needs_of, among, Follows}
use Rattle.cc_graph.specs.Queue.{command, graph_plan}
use Rattle.cc_graph.specs.Run.{HasOrder, GraphRun}
use Rattle.cc_graph.specs.declared.ends.NodeEnd.{NodeEnd}
use Rattle.cc_graph.specs.declared.node.Node.{Node}
use Rattle.cc_build.specs.Error.{ErrorSeen}
use Rattle.cc_build.specs.Stop.{failed_error}
use Rattle.cc_command.specs.Failing.{failed_last}
use Rattle.cc_command.specs.Graphed.{AllWell, IsFailure, failure_error}
use Rattle.cc_command.specs.declared.failing.Failure.{Failure}
use Rattle.cc_command.proofs.GraphFailures.{IsLast, last_is}

-- ---- no failure

failure_stays : (f : ℕ × Status) (ms : List Mark) → failure_from (Some f) ms ≡ None → ⊥
failure_stays f [] e = absurd (cc)
failure_stays f (Began p ∷ ms) e = failure_stays f ms e
failure_stays f (Over p status ∷ ms) e = step (is_success status) e (failure_stays f ms) (failure_stays (p, status) ms)
  where
    step : (b : Bool) → failure_from (if b then Some f else Some (p, status)) ms ≡ None → (failure_from (Some f) ms ≡ None → ⊥) → (failure_from (Some (p, status)) ms ≡ None → ⊥) → ⊥
    step true h old new = old h
    step false h old new = new h

over_well : (ms : List Mark) (p : ℕ) (status : Status) → failure_from None ms ≡ None → Contains ms (Over p status) → is_success status ≡ true
over_well [] p status e (i, l, k) = absurd (omega (arith, l))
over_well (Began q ∷ ms) p status e (zero, l, k) = absurd (cc)
over_well (Began q ∷ ms) p status e (suc i, l, k) = over_well ms p status e (i, omega (arith, l), k)
over_well (Over q state ∷ ms) p status e (zero, l, k) =
    let s : state ≡ status = cc in
    subst (λ x. is_success x ≡ true) s (step (is_success state) refl e)
  where
    step : (b : Bool) → is_success state ≡ b → failure_from (if b then None else Some (q, state)) ms ≡ None → is_success state ≡ true
    step true is h = is
    step false is h = absurd (failure_stays (q, state) ms h)
over_well (Over q state ∷ ms) p status e (suc i, l, k) = step (is_success state) e (λ h. over_well ms p status h (i, omega (arith, l), k))
  where
    step : (b : Bool) → failure_from (if b then None else Some (q, state)) ms ≡ None → (failure_from None ms ≡ None → is_success status ≡ true) → is_success status ≡ true
    step true h rec = rec h
    step false h rec = absurd (failure_stays (q, state) ms h)

among_more : (before : List ℕ) (p q : ℕ) → among (before ++ p ∷ []) q ≡ true → (among before q ≡ true) ⊎ (p ≡ q)
among_more [] p q h = elim (cases_eq p q) [
  | inl e ↦ inr e
  | inr d ↦ absurd (let n : (p == q) ≡ false = grind (arith, common_steps) in cc)
]
among_more (x ∷ before) p q h = step (x == q) h (among_more before p q)
  where
    step : (b : Bool) → (b || among (before ++ p ∷ []) q) ≡ true → (among (before ++ p ∷ []) q ≡ true → (among before q ≡ true) ⊎ (p ≡ q)) → ((b || among before q) ≡ true) ⊎ (p ≡ q)
    step true k rec = inl refl
    step false k rec = rec k

module _ (nodes : List Node) (R : Rules) (t : Option ℕ) (part : List Event) (ends : List NodeEnd) (run : GraphRun nodes R t part ends) (none : last_failure run.marks ≡ None) where
  abbrev Well : ℕ → Type 0
  Well p = went_well (end_at ends p) ≡ true

  all_met : (before ks : List ℕ) → ((q : ℕ) → among before q ≡ true → Well q) → list_all (among before) ks ≡ true → list_all (λ k. went_well (end_at ends k)) ks ≡ true
  all_met before [] h a = refl
  all_met before (k ∷ ks) h a =
      let p = and_parts (among before k) (list_all (among before) ks) a in
      ap (λ b. b && list_all (λ k. went_well (end_at ends k)) ks) (h k p.0) ∙ all_met before ks h p.1

  well_one : (p : ℕ) → p < length nodes → list_all (λ k. went_well (end_at ends k)) (needs_of (graph_of nodes) p) ≡ true → Well p
  well_one p l met =
      let skipped : is_skipped (end_at ends p) ≡ false = run.behind p l ∙ ap not met in
      let begun : has_begun run.marks p ≡ true = step (has_begun run.marks p) (sym (run.skips p l) ∙ skipped) in
      let x = run.told p l begun in
      ap went_well x.1.0 ∙ over_well run.marks p x.0 none x.1.1
    where
      step : (b : Bool) → not b ≡ false → b ≡ true
      step true e = refl
      step false e = absurd (cc)

  well_all : (before ps : List ℕ) → ((q : ℕ) → among before q ≡ true → Well q) → Follows (graph_of nodes) before ps → (q : ℕ) → among (before ++ ps) q ≡ true → Well q
  well_all before [] h f q a = h q (ap (λ l. among l q) (sym (append-nil before)) ∙ a)
  well_all before (p ∷ ps) h f q a =
      let size : length (graph_of nodes) ≡ length nodes = length-map nodes needs in
      let one : Well p = well_one p (let l : p < length (graph_of nodes) = f.0 in omega (arith, l, size)) (all_met before (needs_of (graph_of nodes) p) h f.1) in
      well_all (before ++ p ∷ []) ps (λ k b. elim (among_more before p k b) [
        | inl old ↦ h k old
        | inr new ↦ subst Well new one
      ]) f.3 q (ap (λ l. among l q) (append_assoc before (p ∷ []) ps) ∙ a)

  -- where none failed, each ended with 0
  pub all_well : HasOrder (graph_of nodes) → length ends ≡ length nodes → AllWell ends
  all_well order size p l =
      let n : length (graph_of nodes) ≡ length nodes = length-map nodes needs in
      well_all [] order.1.0 (λ q a. absurd (cc)) order.1.1.follows p (order.1.1.whole p (omega (arith, n, size, l)))

-- ---- the error of the last failure

node_at : (nodes : List Node) (p : ℕ) (cmd : Planned) → slice_get (map command nodes) p ≡ Some cmd → (node : Node) × ((slice_get nodes p ≡ Some node) × (node.cmd ≡ cmd))
node_at [] p cmd e = absurd (cc)
node_at (n ∷ ns) zero cmd e = (n, (refl, (let k : n.cmd ≡ cmd = cc in k)))
node_at (n ∷ ns) (suc p) cmd e = node_at ns p cmd e

abbrev FailedBy : List Node → List NodeEnd → Option (ℕ × Status) → Option ErrorSeen → Type 0
FailedBy nodes ends last None = (last ≡ None) × AllWell ends
FailedBy nodes ends last (Some e) = (p : ℕ) × ((status : Status) × ((node : Node) × ((last ≡ Some (p, status)) × (slice_get nodes p ≡ Some node) × (e ≡ failed_error status node.cmd.cmd))))

failed_by : (nodes : List Node) (ends : List NodeEnd) (last : Option (ℕ × Status)) (f : Option Failure) → IsLast (map command nodes) last f → (last ≡ None → AllWell ends) → FailedBy nodes ends last (option_map failure_error f)
failed_by nodes ends None None h well = (refl, well refl)
failed_by nodes ends (Some f) (Some x) h well =
    let n = node_at nodes f.0 h.1.0 h.1.1.0 in (
      f.0,
      (
        f.1,
        (
          n.0,
          (refl, n.1.0, ap (λ s. failed_error s x.cmd) h.0 ∙ ap (failed_error f.1) (sym (ap (λ c. c.cmd) n.1.1 ∙ h.1.1.1))),
        ),
      ),
    )
failed_by nodes ends None (Some x) h well = absurd h
failed_by nodes ends (Some f) None h well = absurd h

-- what is read off the events is the failure of a run
pub failure_is : (nodes : List Node) (shows : Shows) (t : Option ℕ) (part : List Event) (ends : List NodeEnd) → GraphRun nodes (rules (graph_plan nodes) shows) t part ends → HasOrder (graph_of nodes) → IsFailure nodes (rules (graph_plan nodes) shows) ends part (option_map failure_error (failed_last part))
failure_is nodes shows t part ends run order =
    failed_by nodes ends (last_failure (run_from (graph_plan nodes) nothing part).marks) (failed_last part) (last_is (rules (graph_plan nodes) shows) t part run.good)
    (λ none. all_well nodes (rules (graph_plan nodes) shows) t part ends run (ap last_failure (sym run.are) ∙ none) order run.size)
