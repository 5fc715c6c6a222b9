-- Laws on parts of a log and on runs.
use Rattle.std.proofs.Common.{◌≡◌, ℕ, ◌+◌, ◌<◌, List, [], ◌∷◌, ◌++◌, length, take, get_or, refl, sym, ◌∙◌, ap, zero-add, arith, Bool, true, false}
use Rattle.std.specs.Prelude.{Option, None, Some}
use Rattle.std.proofs.lemmas.List.{append-nil, take_more}
use Rattle.std.proofs.lemmas.Grind.{common_steps, flat_map-append}
use Rattle.std.proofs.lemmas.List.Sums.{sum_by-append}
use Rattle.std.specs.List.{flat_map}
use Rattle.cc_host.specs.declared.event.Status.{Status}
use Rattle.cc_host.specs.Event.{reported, heard, unread, ended}
use Rattle.cc_host.specs.declared.event.News.{News}
use Rattle.cc_host.specs.declared.event.Event.{Event}
use Rattle.cc_host.specs.declared.event.Event.TheVariants.{Heard, Unread, Ended}
use Rattle.cc_run.specs.Paid.{starts, starts_of, loads, held_of}
use Rattle.cc_run.specs.Plan.{Plan}
use Rattle.cc_run.specs.Printing.{printed, printed_of}
use Rattle.cc_run.specs.Rules.{Rules}
use Rattle.cc_run.specs.Run.{Run, run_after, run_from, ended_run}
use Rattle.cc_run.specs.Part.{started, started_of, missing, missing_of, faults, fault_of, abandoned, abandoned_of, turns, turns_of, Along}

pub run_from-append : (plan : Plan) (r : Run) (a b : List Event) → run_from plan r (a ++ b) ≡ run_from plan (run_from plan r a) b
run_from-append plan r [] b = refl
run_from-append plan r (e ∷ a) b = run_from-append plan (run_after plan r e) a b

pub along-append : (rules : Rules) (total : Option ℕ) (r : Run) (a b : List Event) → Along rules total r a → Along rules total (run_from rules.plan r a) b → Along rules total r (a ++ b)
along-append rules total r [] b ha hb = hb
along-append rules total r (e ∷ a) b ha hb = (ha.0, along-append rules total (run_after rules.plan r e) a b ha.1 hb)

reported_run : (plan : Plan) (r : Run) (n : News) → run_from plan r (reported n) ≡ ended_run r n.id n.ended
reported_run plan r n = said r n.id n.piece n.unread n.ended
  where
    said : (r : Run) (id : ℕ) (piece : Option (List ℕ)) (un : Bool) (end : Option Status) → run_from plan r (heard id piece ++ unread id un ++ ended id end) ≡ ended_run r id end
    said r id None false None = refl
    said r id None false (Some s) = refl
    said r id None true None = refl
    said r id None true (Some s) = refl
    said r id (Some p) false None = refl
    said r id (Some p) false (Some s) = refl
    said r id (Some p) true None = refl
    said r id (Some p) true (Some s) = refl

-- the news one by one
pub news_run : (plan : Plan) (r : Run) (news : List News) (i : ℕ) (d : News) → i < length news → run_from plan r (flat_map reported (take (i + 1) news)) ≡ ended_run (run_from plan r (flat_map reported (take i news))) (get_or news i d).id (get_or news i d).ended
news_run plan r news i d lt =
    ap (λ l. run_from plan r (flat_map reported l)) (take_more news i d lt)
    ∙ ap (run_from plan r) (flat_map-append reported (take i news) (get_or news i d ∷ []) ∙ ap (λ l. flat_map reported (take i news) ++ l) (append-nil (reported (get_or news i d))))
    ∙ run_from-append plan r (flat_map reported (take i news)) (reported (get_or news i d))
    ∙ reported_run plan (run_from plan r (flat_map reported (take i news))) (get_or news i d)

-- a projection that reads neither pieces nor ends
silent_one : {X : Type 0} (f : Event → List X) → ((id : ℕ) (p : List ℕ) → f (Heard id p) ≡ []) → ((id : ℕ) → f (Unread id) ≡ []) → ((id : ℕ) (s : Status) → f (Ended id s) ≡ []) → (n : News) → flat_map f (reported n) ≡ []
silent_one f a b c n = said n.id n.piece n.unread n.ended
  where
    said : (id : ℕ) (piece : Option (List ℕ)) (un : Bool) (end : Option Status) → flat_map f (heard id piece ++ unread id un ++ ended id end) ≡ []
    said id None false None = refl
    said id None false (Some s) = grind (arith, common_steps, a, b, c)
    said id None true None = grind (arith, common_steps, a, b, c)
    said id None true (Some s) = grind (arith, common_steps, a, b, c)
    said id (Some p) false None = grind (arith, common_steps, a, b, c)
    said id (Some p) false (Some s) = grind (arith, common_steps, a, b, c)
    said id (Some p) true None = grind (arith, common_steps, a, b, c)
    said id (Some p) true (Some s) = grind (arith, common_steps, a, b, c)

silent : {X : Type 0} (f : Event → List X) → ((id : ℕ) (p : List ℕ) → f (Heard id p) ≡ []) → ((id : ℕ) → f (Unread id) ≡ []) → ((id : ℕ) (s : Status) → f (Ended id s) ≡ []) → (ns : List News) → flat_map f (flat_map reported ns) ≡ []
silent f a b c [] = refl
silent f a b c (n ∷ ns) = flat_map-append f (reported n) (flat_map reported ns) ∙ ap (λ l. l ++ flat_map f (flat_map reported ns)) (silent_one f a b c n) ∙ silent f a b c ns

pub news_started : (ns : List News) → started (flat_map reported ns) ≡ []
news_started = silent started_of (λ id p. refl) (λ id. refl) (λ id s. refl)

pub news_printed : (ns : List News) → printed (flat_map reported ns) ≡ []
news_printed = silent printed_of (λ id p. refl) (λ id. refl) (λ id s. refl)

pub news_missing : (ns : List News) → missing (flat_map reported ns) ≡ []
news_missing = silent missing_of (λ id p. refl) (λ id. refl) (λ id s. refl)

pub news_faults : (ns : List News) → faults (flat_map reported ns) ≡ []
news_faults = silent fault_of (λ id p. refl) (λ id. refl) (λ id s. refl)

pub news_abandoned : (ns : List News) → abandoned (flat_map reported ns) ≡ []
news_abandoned = silent abandoned_of (λ id p. refl) (λ id. refl) (λ id s. refl)

reported_turns : (n : News) → turns (reported n) ≡ 0
reported_turns n = said n.id n.piece n.unread n.ended
  where
    said : (id : ℕ) (piece : Option (List ℕ)) (un : Bool) (end : Option Status) → turns (heard id piece ++ unread id un ++ ended id end) ≡ 0
    said id None false None = refl
    said id None false (Some s) = refl
    said id None true None = refl
    said id None true (Some s) = refl
    said id (Some p) false None = refl
    said id (Some p) false (Some s) = refl
    said id (Some p) true None = refl
    said id (Some p) true (Some s) = refl

pub news_turns : (ns : List News) → turns (flat_map reported ns) ≡ 0
news_turns [] = refl
news_turns (n ∷ ns) = sum_by-append turns_of (reported n) (flat_map reported ns) ∙ ap (λ k. k + turns (flat_map reported ns)) (reported_turns n) ∙ zero-add (turns (flat_map reported ns)) ∙ news_turns ns

along_reported : (rules : Rules) (total : Option ℕ) (r : Run) (n : News) → Along rules total r (reported n)
along_reported rules total r n = said n.id n.piece n.unread n.ended
  where
    said : (id : ℕ) (piece : Option (List ℕ)) (un : Bool) (end : Option Status) → Along rules total r (heard id piece ++ unread id un ++ ended id end)
    said id None false None = tt
    said id None false (Some s) = (tt, tt)
    said id None true None = (tt, tt)
    said id None true (Some s) = (tt, (tt, tt))
    said id (Some p) false None = (tt, tt)
    said id (Some p) false (Some s) = (tt, (tt, tt))
    said id (Some p) true None = (tt, (tt, tt))
    said id (Some p) true (Some s) = (tt, (tt, (tt, tt)))

-- news are good
pub along_news : (rules : Rules) (total : Option ℕ) (r : Run) (ns : List News) → Along rules total r (flat_map reported ns)
along_news rules total r [] = tt
along_news rules total r (n ∷ ns) = along-append rules total r (reported n) (flat_map reported ns) (along_reported rules total r n) (along_news rules total (run_from rules.plan r (reported n)) ns)

reported_starts : (n : News) → starts (reported n) ≡ 0
reported_starts n = said n.id n.piece n.unread n.ended
  where
    said : (id : ℕ) (piece : Option (List ℕ)) (un : Bool) (end : Option Status) → starts (heard id piece ++ unread id un ++ ended id end) ≡ 0
    said id None false None = refl
    said id None false (Some s) = refl
    said id None true None = refl
    said id None true (Some s) = refl
    said id (Some p) false None = refl
    said id (Some p) false (Some s) = refl
    said id (Some p) true None = refl
    said id (Some p) true (Some s) = refl

pub news_starts : (ns : List News) → starts (flat_map reported ns) ≡ 0
news_starts [] = refl
news_starts (n ∷ ns) = sum_by-append starts_of (reported n) (flat_map reported ns) ∙ ap (λ k. k + starts (flat_map reported ns)) (reported_starts n) ∙ zero-add (starts (flat_map reported ns)) ∙ news_starts ns

reported_loads : (n : News) → loads (reported n) ≡ 0
reported_loads n = said n.id n.piece n.unread n.ended
  where
    said : (id : ℕ) (piece : Option (List ℕ)) (un : Bool) (end : Option Status) → loads (heard id piece ++ unread id un ++ ended id end) ≡ 0
    said id None false None = refl
    said id None false (Some s) = refl
    said id None true None = refl
    said id None true (Some s) = refl
    said id (Some p) false None = refl
    said id (Some p) false (Some s) = refl
    said id (Some p) true None = refl
    said id (Some p) true (Some s) = refl

pub news_loads : (ns : List News) → loads (flat_map reported ns) ≡ 0
news_loads [] = refl
news_loads (n ∷ ns) = sum_by-append held_of (reported n) (flat_map reported ns) ∙ ap (λ k. k + loads (flat_map reported ns)) (reported_loads n) ∙ zero-add (loads (flat_map reported ns)) ∙ news_loads ns
