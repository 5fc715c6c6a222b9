-- Laws on what a part was paid with.
use Rattle.std.proofs.Common.{◌≡◌, inl, inr, ℕ, ◌+◌, List, length, true, sym, ◌∙◌, subst, arith}
use Rattle.std.specs.Prelude.{Option, Result, Ok, Err}
use Rattle.std.proofs.lemmas.List.{length-map}
use Rattle.cc_jobs.specs.Seats.{UpBy}
use Rattle.cc_host.specs.Part.{since}
use Rattle.cc_host.specs.declared.event.Event.{Event}
use Rattle.cc_run.specs.Book.{IsPaid}
use Rattle.cc_run.specs.Children.{run_of, seat as seat_of}
use Rattle.cc_run.specs.Paid.{starts, loads, PaidAnd}
use Rattle.cc_run.specs.Rules.{Rules}
use Rattle.cc_run.specs.Seat.{SeatSeen}
use Rattle.cc_run.specs.State.{State}
use Rattle.cc_run.specs.Whole.{RanAll, SeatBy}
use Rattle.cc_run.specs.declared.error.RunError.{RunError}
use Rattle.cc_run.specs.declared.mark.Mark.{Mark}
use Rattle.cc_run.specs.declared.planned.Turns.{Turns as TurnsSeen}
use Rattle.cc_run.proofs.Ends.{ran_starts, ran_loads}
use Rattle.cc_run.proofs.WorkLemmas.{up_then}

paid_none : (part : List Event) (n k t l t' l' : ℕ) → UpBy t n t' → UpBy l k l' → n ≡ starts part → k ≡ loads part → PaidAnd 0 0 part t l t' l'
paid_none part n k t l t' l' a b e f = (subst (λ x. UpBy t x t') (let i : n ≡ starts part + 0 = omega arith in i) a, subst (λ x. UpBy l x l') (let i : k ≡ loads part + 0 = omega arith in i) b)

paid_one : (part : List Event) (n k live t l t' l' t'' l'' : ℕ) → UpBy t n t' → UpBy l k l' → UpBy t' 1 t'' → UpBy l' (live + 1) l'' → n ≡ starts part → k ≡ loads part → PaidAnd 1 (live + 1) part t l t'' l''
paid_one part n k live t l t' l' t'' l'' a b x y e f =
    (subst (λ z. UpBy t z t'') (let i : n + 1 ≡ starts part + 1 = omega arith in i) (up_then t n t' 1 t'' a x), subst (λ z. UpBy l z l'') (let i : k + (live + 1) ≡ loads part + (live + 1) = omega arith in i) (up_then l k l' (live + 1) l'' b y))

-- The tokens that were taken are those of the starts. Only where the start of the next command was refused, one more was taken: that of
-- the start.
pub ran_paid : (rules : Rules) (t : Option ℕ) (old : State) (result : Result (List Mark) RunError) (log : List Event) (patience : Option ℕ) (seat : SeatSeen) (made : TurnsSeen) (ran : RanAll rules t old result log patience seat made) → rules.counted ≡ true → IsPaid rules.plan (run_of ran.done.kept) result (since old.log log) old.seat seat
ran_paid rules t old result log patience seat made ran counted =
    subst (λ n. IsPaid rules.plan (run_of ran.done.kept) result (since old.log log) old.seat (record seat { taken = n })) (sym ran.back.same_taken)
    (subst (λ n. IsPaid rules.plan (run_of ran.done.kept) result (since old.log log) old.seat (record seat { taken = ran.mid.taken; load = n })) (sym ran.back.same_load) (at result ran.seat_by))
  where
    up_taken : UpBy old.seat.taken (starts ran.works.part) ran.done.seat.taken
    up_taken = ran.works.pays.more_taken

    up_load : UpBy old.seat.load (loads ran.works.part) ran.done.seat.load
    up_load = ran.works.pays.more_load counted

    same_starts : starts ran.works.part ≡ starts (since old.log log)
    same_starts = sym (ran_starts rules t old result log patience seat made ran)

    same_loads : loads ran.works.part ≡ loads (since old.log log)
    same_loads = sym (ran_loads rules t old result log patience seat made ran)

    holds : ran.done.seat.held ≡ length (run_of ran.done.kept).live
    holds = ran.holds ∙ sym (length-map ran.done.kept.children seat_of)

    at : (r : Result (List Mark) RunError) → SeatBy rules ran.done r ran.mid → IsPaid rules.plan (run_of ran.done.kept) r (since old.log log) old.seat (record seat { taken = ran.mid.taken; load = ran.mid.load })
    at (Ok marks) back = paid_none (since old.log log) (starts ran.works.part) (loads ran.works.part) old.seat.taken old.seat.load ran.mid.taken ran.mid.load (subst (λ n. UpBy old.seat.taken (starts ran.works.part) n) (sym back.same_taken) up_taken) (subst (λ n. UpBy old.seat.load (loads ran.works.part) n) (sym back.same_load) up_load) same_starts same_loads
    at (Err e) spent = elim spent.counts [
      | inl k ↦ inl (paid_none (since old.log log) (starts ran.works.part) (loads ran.works.part) old.seat.taken old.seat.load ran.mid.taken ran.mid.load (subst (λ n. UpBy old.seat.taken (starts ran.works.part) n) (sym k.0) up_taken) (subst (λ n. UpBy old.seat.load (loads ran.works.part) n) (sym k.1) up_load) same_starts same_loads)
      | inr k ↦ inr (k.0, k.1, paid_one (since old.log log) (starts ran.works.part) (loads ran.works.part) (length (run_of ran.done.kept).live) old.seat.taken old.seat.load ran.done.seat.taken ran.done.seat.load ran.mid.taken ran.mid.load up_taken up_load k.2 (subst (λ n. UpBy ran.done.seat.load (n + 1) ran.mid.load) holds k.3) same_starts same_loads)
    ]
