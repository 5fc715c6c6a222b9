-- What follows for every queue from what is promised of each event.
use Rattle.std.proofs.Common.{◌≡◌, ℕ, zero, ◌+◌, ◌<◌, ◌≤◌, List, [], ◌∷◌, ◌++◌, length, refl, sym, ◌∙◌, ap, subst, append_assoc, arith, Bool, true, false, not, ◌&&◌}
use Rattle.std.specs.Prelude.{Option, None, Some, ◌==◌, if◌then◌else◌}
use Rattle.std.proofs.lemmas.List.{append-nil}
use Rattle.std.proofs.lemmas.List.Sums.{sum_by-cons}
use Rattle.std.proofs.lemmas.Grind.{common_steps}
use Rattle.cc_host.specs.declared.event.Event.{Event}
use Rattle.cc_host.specs.declared.event.Event.TheVariants.{Started, Heard, Unread, Ended, Turn, Printed, Said}
use Rattle.cc_host.specs.declared.event.Status.{Status}
use Rattle.cc_run.specs.Book.{one_where, at_place, Tracks, Followed}
use Rattle.cc_run.specs.Children.{run_of, nothing_kept}
use Rattle.cc_run.specs.Follows.{Fitting, Follows}
use Rattle.cc_run.specs.Marks.{has_begun, has_ended}
use Rattle.cc_run.specs.Paid.{starts, starts_of}
use Rattle.cc_run.specs.Part.{Good, Along}
use Rattle.cc_run.specs.Plan.{Plan, next_place, unbegun}
use Rattle.cc_run.specs.Rules.{Rules}
use Rattle.cc_run.specs.Run.{Run, nothing, place_of, without, began, over, joined, run_after, run_from}
use Rattle.cc_run.specs.State.{State, Works}
use Rattle.cc_run.specs.declared.mark.Mark.{Mark}
use Rattle.cc_run.specs.declared.mark.Mark.TheVariants.{Began, Over}
use Rattle.cc_run.proofs.Firsts.{next_some, may_begun, unbegun_begin, unbegun_over, unbegun_none}
use Rattle.cc_run.proofs.KeptLemmas.{kept_run}

-- the run after a start, and after an end
abbrev pub begun_run : ℕ → Option ℕ → Run → Run
begun_run id o r = record { live = joined id o r.live; marks = began o r.marks }

abbrev pub over_run : ℕ → Status → Option ℕ → Run → Run
over_run id status o r = record { live = without id r.live; marks = over status o r.marks }

-- what holds along a part holds at each place of it
pub along_at : (rules : Rules) (t : Option ℕ) (r : Run) (before : List Event) (e : Event) (after : List Event) → Along rules t r (before ++ e ∷ after) → Good rules t (run_from rules.plan r before) e
along_at rules t r [] e after h = h.0
along_at rules t r (x ∷ before) e after h = along_at rules t (run_after rules.plan r x) before e after h.1

-- the run after a part is the one that is kept
pub works_run : (rules : Rules) (t : Option ℕ) (old new : State) (w : Works rules t old new) → run_from rules.plan (run_of old.kept) w.part ≡ run_of new.kept
works_run rules t old new w = sym (kept_run rules.plan old.kept w.part) ∙ ap run_of w.keeps

-- ---- children and marks

at_append : (p : ℕ) (cs : List (ℕ × ℕ)) (c : ℕ × ℕ) → at_place p (cs ++ c ∷ []) ≡ at_place p cs + one_where (c.1 == p)
at_append p [] c = omega arith
at_append p (x ∷ cs) c = let i : at_place p (cs ++ c ∷ []) ≡ at_place p cs + one_where (c.1 == p) = at_append p cs c in omega arith

-- taking the first child of an id out takes one out for its place, and none for another
at_without : (id p : ℕ) (cs : List (ℕ × ℕ)) → place_of id cs ≡ Some p → (q : ℕ) → at_place q (without id cs) + one_where (p == q) ≡ at_place q cs
at_without id p [] e q = cc
at_without id p (c ∷ cs) e q = step (c.0 == id) e (λ f. at_without id p cs f q)
  where
    step : (b : Bool) → (if b then Some c.1 else place_of id cs) ≡ Some p → (place_of id cs ≡ Some p → at_place q (without id cs) + one_where (p == q) ≡ at_place q cs) → at_place q (if b then cs else c ∷ without id cs) + one_where (p == q) ≡ one_where (c.1 == q) + at_place q cs
    step true f rec = let k : c.1 ≡ p = cc in let n : one_where (c.1 == q) ≡ one_where (p == q) = ap (λ x. one_where (x == q)) k in let r : at_place q cs + one_where (p == q) ≡ one_where (c.1 == q) + at_place q cs = omega arith in r
    step false f rec = let i : at_place q (without id cs) + one_where (p == q) ≡ at_place q cs = rec f in let r : (one_where (c.1 == q) + at_place q (without id cs)) + one_where (p == q) ≡ one_where (c.1 == q) + at_place q cs = omega arith in r

-- and no child, where none has that id
pub without_none : (id : ℕ) (cs : List (ℕ × ℕ)) → place_of id cs ≡ None → without id cs ≡ cs
without_none id [] e = refl
without_none id (c ∷ cs) e = step (c.0 == id) e (without_none id cs)
  where
    step : (b : Bool) → (if b then Some c.1 else place_of id cs) ≡ None → (place_of id cs ≡ None → without id cs ≡ cs) → (if b then cs else c ∷ without id cs) ≡ c ∷ cs
    step true f rec = absurd (cc)
    step false f rec = ap (λ l. c ∷ l) (rec f)

one_if : (b e : Bool) → 0 < one_where (b && not e) → (b ≡ true) × (e ≡ false)
one_if true false h = (refl, refl)
one_if true true h = absurd (omega arith)
one_if false true h = absurd (omega arith)
one_if false false h = absurd (omega arith)

none_if : (b e : Bool) → zero ≡ one_where (b && not e) → b ≡ true → e ≡ true
none_if true true h x = refl
none_if true false h x = absurd (omega arith)
none_if false true h x = refl
none_if false false h x = cc

pub tracks_none : Tracks nothing
tracks_none = record { runs = λ p. refl; over = λ p h. refl }

tracks_start : (r : Run) (id p : ℕ) → has_begun r.marks p ≡ false → Tracks r → Tracks (begun_run id (Some p) r)
tracks_start r id p new t = record {
  runs = λ q.
      let a : at_place q r.live ≡ one_where (has_begun r.marks q && not (has_ended r.marks q)) = t.runs q in
      let b : at_place q (r.live ++ (id, p) ∷ []) ≡ at_place q r.live + one_where (p == q) = at_append q r.live (id, p) in
      let o : has_ended r.marks p ≡ false = t.over p new in
      grind (arith, common_steps);
  over = λ q h. let o : has_begun r.marks q ≡ false → has_ended r.marks q ≡ false = t.over q in grind (arith, common_steps);
}

ended_of : (r : Run) (id p : ℕ) → place_of id r.live ≡ Some p → Tracks r → (has_begun r.marks p ≡ true) × (has_ended r.marks p ≡ false)
ended_of r id p e t =
    let a : at_place p (without id r.live) + one_where (p == p) ≡ at_place p r.live = at_without id p r.live e p in
    let s : one_where (p == p) ≡ 1 = grind (arith, common_steps) in
    let b : at_place p r.live ≡ one_where (has_begun r.marks p && not (has_ended r.marks p)) = t.runs p in
    one_if (has_begun r.marks p) (has_ended r.marks p) (omega arith)

tracks_end : (r : Run) (id p : ℕ) (status : Status) → place_of id r.live ≡ Some p → Tracks r → Tracks (over_run id status (Some p) r)
tracks_end r id p status e t =
    let k : (has_begun r.marks p ≡ true) × (has_ended r.marks p ≡ false) = ended_of r id p e t in
    let k0 : has_begun r.marks p ≡ true = k.0 in
    let k1 : has_ended r.marks p ≡ false = k.1 in
    record {
      runs = λ q.
          let a : at_place q r.live ≡ one_where (has_begun r.marks q && not (has_ended r.marks q)) = t.runs q in
          let b : at_place q (without id r.live) + one_where (p == q) ≡ at_place q r.live = at_without id p r.live e q in
          grind (arith, common_steps);
      over = λ q h. let o : has_begun r.marks q ≡ false → has_ended r.marks q ≡ false = t.over q in grind (arith, common_steps);
    }

tracks_other : (r : Run) (id : ℕ) (status : Status) → place_of id r.live ≡ None → Tracks r → Tracks (over_run id status None r)
tracks_other r id status e t = record { runs = λ q. ap (at_place q) (without_none id r.live e) ∙ t.runs q; over = t.over }

-- ---- what began and ended follows the plan

followed_cons : (plan : Plan) (r r1 r' : Run) (m : Mark) → r1.marks ≡ r.marks ++ m ∷ [] → Fitting plan r.marks m → Followed plan r1 r' → Followed plan r r'
followed_cons plan r r1 r' m e fit x = record {
  marks = m ∷ x.marks;
  grew = x.grew ∙ ap (λ l. l ++ x.marks) e ∙ append_assoc r.marks (m ∷ []) x.marks;
  follows = (fit, subst (λ l. Follows plan l x.marks) e x.follows);
  tracks = x.tracks;
}

start_step : (plan : Plan) (r r' : Run) (id : ℕ) (o : Option ℕ) (p : ℕ) → next_place plan r.marks ≡ o → o ≡ Some p → Tracks r → (Tracks (begun_run id o r) → Followed plan (begun_run id o r) r') → Followed plan r r'
start_step plan r r' id None p n e t k = absurd (cc)
start_step plan r r' id (Some q) p n e t k =
    followed_cons plan r (begun_run id (Some q) r) r' (Began q) refl (next_some plan r.marks q n) (k (tracks_start r id q (may_begun plan r.marks q (next_some plan r.marks q n).holds) t))

end_step : (plan : Plan) (r r' : Run) (id : ℕ) (status : Status) (o : Option ℕ) → place_of id r.live ≡ o → Tracks r → (Tracks (over_run id status o r) → Followed plan (over_run id status o r) r') → Followed plan r r'
end_step plan r r' id status None e t k =
    let x : Followed plan (over_run id status None r) r' = k (tracks_other r id status e t) in
    record { marks = x.marks; grew = x.grew; follows = x.follows; tracks = x.tracks }
end_step plan r r' id status (Some p) e t k =
    followed_cons plan r (over_run id status (Some p) r) r' (Over p status) refl (ended_of r id p e t) (k (tracks_end r id p status e t))

follow_step : (rules : Rules) (t : Option ℕ) (r r' : Run) (e : Event) → Tracks r → Good rules t r e → (Tracks (run_after rules.plan r e) → Followed rules.plan (run_after rules.plan r e) r') → Followed rules.plan r r'
follow_step rules t r r' (Started id role cmd pipes held) x h k = start_step rules.plan r r' id (next_place rules.plan r.marks) h.place refl h.next x k
follow_step rules t r r' (Ended id status) x h k = end_step rules.plan r r' id status (place_of id r.live) refl x k
follow_step rules t r r' (Heard id piece) x h k = k x
follow_step rules t r r' (Unread id) x h k = k x
follow_step rules t r r' (Turn count) x h k = k x
follow_step rules t r r' (Printed kind bytes) x h k = k x
follow_step rules t r r' (Said message) x h k = k x
follow_step rules t r r' _ x h k = absurd h

-- what began and ended along a part follows the queue's plan
pub follow : (rules : Rules) (t : Option ℕ) (r : Run) (part : List Event) → Tracks r → Along rules t r part → Followed rules.plan r (run_from rules.plan r part)
follow rules t r [] x h = record { marks = []; grew = sym (append-nil r.marks); follows = tt; tracks = x }
follow rules t r (e ∷ es) x h = follow_step rules t r (run_from rules.plan r (e ∷ es)) e x h.0 (λ y. follow rules t (run_after rules.plan r e) es y h.1)

-- where nothing runs, all that began has ended
pub all_over : (r : Run) → Tracks r → r.live ≡ [] → (p : ℕ) → has_begun r.marks p ≡ true → has_ended r.marks p ≡ true
all_over r t e p b = none_if (has_begun r.marks p) (has_ended r.marks p) (sym (ap (at_place p) e) ∙ t.runs p) b

-- ---- how many are left

starts_begin : (plan : Plan) (r : Run) (id : ℕ) (o : Option ℕ) (p : ℕ) → next_place plan r.marks ≡ o → o ≡ Some p → 1 + unbegun (length plan.cmds) (begun_run id o r).marks ≡ unbegun (length plan.cmds) r.marks
starts_begin plan r id None p n e = absurd (cc)
starts_begin plan r id (Some q) p n e =
    let l = next_some plan r.marks q n in
    let k : unbegun (length plan.cmds) (begun_run id (Some q) r).marks + 1 ≡ unbegun (length plan.cmds) r.marks = unbegun_begin (length plan.cmds) q r.marks l.below (may_begun plan r.marks q l.holds) in
    omega arith

starts_over : (n : ℕ) (r : Run) (id : ℕ) (status : Status) (o : Option ℕ) → unbegun n (over_run id status o r).marks ≡ unbegun n r.marks
starts_over n r id status None = refl
starts_over n r id status (Some p) = unbegun_over n r.marks p status

starts_step : (rules : Rules) (t : Option ℕ) (r : Run) (e : Event) → Good rules t r e → starts_of e + unbegun (length rules.plan.cmds) (run_after rules.plan r e).marks ≡ unbegun (length rules.plan.cmds) r.marks
starts_step rules t r (Started id role cmd pipes held) h = starts_begin rules.plan r id (next_place rules.plan r.marks) h.place refl h.next
starts_step rules t r (Ended id status) h = let k : unbegun (length rules.plan.cmds) (over_run id status (place_of id r.live) r).marks ≡ unbegun (length rules.plan.cmds) r.marks = starts_over (length rules.plan.cmds) r id status (place_of id r.live) in omega arith
starts_step rules t r (Heard id piece) h = omega arith
starts_step rules t r (Unread id) h = omega arith
starts_step rules t r (Turn count) h = omega arith
starts_step rules t r (Printed kind bytes) h = omega arith
starts_step rules t r (Said message) h = omega arith
starts_step rules t r _ h = absurd h

-- each start lowers how many places are left
pub starts_left : (rules : Rules) (t : Option ℕ) (r : Run) (part : List Event) → Along rules t r part → starts part + unbegun (length rules.plan.cmds) (run_from rules.plan r part).marks ≡ unbegun (length rules.plan.cmds) r.marks
starts_left rules t r [] h = omega arith
starts_left rules t r (e ∷ es) h =
    let a : starts_of e + unbegun (length rules.plan.cmds) (run_after rules.plan r e).marks ≡ unbegun (length rules.plan.cmds) r.marks = starts_step rules t r e h.0 in
    let b : starts es + unbegun (length rules.plan.cmds) (run_from rules.plan (run_after rules.plan r e) es).marks ≡ unbegun (length rules.plan.cmds) (run_after rules.plan r e).marks = starts_left rules t (run_after rules.plan r e) es h.1 in
    let k : starts (e ∷ es) ≡ starts_of e + starts es = sum_by-cons starts_of e es in
    omega arith

-- ---- a run from its start

module _ (rules : Rules) (t : Option ℕ) (old done : State) (w : Works rules t old done) (fresh : old.kept ≡ nothing_kept) where
  -- each event is good, from a run on of which nothing began
  pub fresh_good : Along rules t nothing w.part
  fresh_good = subst (λ k. Along rules t (run_of k) w.part) fresh w.good

  pub fresh_run : run_from rules.plan nothing w.part ≡ run_of done.kept
  fresh_run = subst (λ k. run_from rules.plan (run_of k) w.part ≡ run_of done.kept) fresh (works_run rules t old done w)

  -- it follows the queue's plan
  pub ran_follows : Followed rules.plan nothing (run_of done.kept)
  ran_follows = subst (Followed rules.plan nothing) fresh_run (follow rules t nothing w.part tracks_none fresh_good)

  -- no more commands are started than the queue has
  pub few_starts : starts w.part ≤ length rules.plan.cmds
  few_starts =
      let a : starts w.part + unbegun (length rules.plan.cmds) (run_from rules.plan nothing w.part).marks ≡ unbegun (length rules.plan.cmds) [] = starts_left rules t nothing w.part fresh_good in
      let b : unbegun (length rules.plan.cmds) [] ≡ length rules.plan.cmds = unbegun_none (length rules.plan.cmds) in
      omega arith
