-- Of a run of commands with prerequisites: which failed last, and that all ended with 0 where none did.
use Rattle.std.proofs.Common.{◌≡◌, ◌+◌, ℕ, List, [], ◌∷◌, ◌++◌, Bool, true, false, if◌then◌else◌, Option, Some, None, refl, sym, ap, subst}
use Rattle.std.specs.Prelude.{◌==◌}
use Rattle.std.specs.List.{slice_get}
use Rattle.cc_host.specs.Command.{CommandSeen}
use Rattle.cc_host.specs.Status.{is_success}
use Rattle.cc_host.specs.declared.event.Event.{Event}
use Rattle.cc_host.specs.declared.event.Event.TheVariants.{Started, Heard, Unread, Ended, Turn, Printed, Said}
use Rattle.cc_host.specs.declared.event.Status.{Status}
use Rattle.cc_run.specs.Marks.{failure_after, failure_from, last_failure}
use Rattle.cc_run.specs.Part.{Along, Good, StartsNext}
use Rattle.cc_run.specs.Rules.{Rules}
use Rattle.cc_run.specs.Run.{Run, nothing, place_of, without as without_place, joined, began, over, run_after, run_from}
use Rattle.cc_run.specs.declared.mark.Mark.{Mark}
use Rattle.cc_run.specs.declared.mark.Mark.TheVariants.{Began, Over}
use Rattle.cc_run.specs.declared.planned.Planned.{Planned}
use Rattle.cc_command.specs.Failing.{Running, Watched, unwatched, command_of, without, failure_by, watched, watched_from, failed_last}
use Rattle.cc_command.specs.declared.failing.Failure.{Failure}

-- ---- what is read off the events, and off the places

-- this is the command at the place
abbrev pub IsAt : List Planned → ℕ → CommandSeen → Type 0
IsAt cmds p cmd = (planned : Planned) × ((slice_get cmds p ≡ Some planned) × (planned.cmd ≡ cmd))

-- the children that run, each with its place and with its command
abbrev pub Fits : List Planned → List (ℕ × ℕ) → Running → Type 0
Fits cmds [] [] = Unit {0}
Fits cmds (c ∷ cs) (w ∷ ws) = (c.0 ≡ w.0) × IsAt cmds c.1 w.1 × Fits cmds cs ws
Fits cmds [] (w ∷ ws) = ⊥
Fits cmds (c ∷ cs) [] = ⊥

abbrev pub IsFound : List Planned → Option ℕ → Option CommandSeen → Type 0
IsFound cmds None None = Unit {0}
IsFound cmds (Some p) (Some cmd) = IsAt cmds p cmd
IsFound cmds None (Some cmd) = ⊥
IsFound cmds (Some p) None = ⊥

-- the last failure, by its place and by its command
abbrev pub IsLast : List Planned → Option (ℕ × Status) → Option Failure → Type 0
IsLast cmds None None = Unit {0}
IsLast cmds (Some f) (Some x) = (x.status ≡ f.1) × IsAt cmds f.0 x.cmd
IsLast cmds None (Some x) = ⊥
IsLast cmds (Some f) None = ⊥

fits_more : (cmds : List Planned) (cs : List (ℕ × ℕ)) (ws : Running) (id p : ℕ) (cmd : CommandSeen) → Fits cmds cs ws → IsAt cmds p cmd → Fits cmds (cs ++ (id, p) ∷ []) (ws ++ (id, cmd) ∷ [])
fits_more cmds [] [] id p cmd f a = (refl, a, tt)
fits_more cmds (c ∷ cs) (w ∷ ws) id p cmd f a = (f.0, f.1, fits_more cmds cs ws id p cmd f.2 a)
fits_more cmds [] (w ∷ ws) id p cmd f a = absurd f
fits_more cmds (c ∷ cs) [] id p cmd f a = absurd f

fits_without : (cmds : List Planned) (cs : List (ℕ × ℕ)) (ws : Running) (id : ℕ) → Fits cmds cs ws → Fits cmds (without_place id cs) (without id ws)
fits_without cmds [] [] id f = tt
fits_without cmds (c ∷ cs) (w ∷ ws) id f = subst (λ n. Fits cmds (if c.0 == id then cs else c ∷ without_place id cs) (if n == id then ws else w ∷ without id ws)) f.0 (step (c.0 == id) (fits_without cmds cs ws id f.2))
  where
    step : (b : Bool) → Fits cmds (without_place id cs) (without id ws) → Fits cmds (if b then cs else c ∷ without_place id cs) (if b then ws else w ∷ without id ws)
    step true h = f.2
    step false h = (f.0, f.1, h)
fits_without cmds [] (w ∷ ws) id f = absurd f
fits_without cmds (c ∷ cs) [] id f = absurd f

fits_found : (cmds : List Planned) (cs : List (ℕ × ℕ)) (ws : Running) (id : ℕ) → Fits cmds cs ws → IsFound cmds (place_of id cs) (command_of id ws)
fits_found cmds [] [] id f = tt
fits_found cmds (c ∷ cs) (w ∷ ws) id f = subst (λ n. IsFound cmds (if c.0 == id then Some c.1 else place_of id cs) (if n == id then Some w.1 else command_of id ws)) f.0 (step (c.0 == id) (fits_found cmds cs ws id f.2))
  where
    step : (b : Bool) → IsFound cmds (place_of id cs) (command_of id ws) → IsFound cmds (if b then Some c.1 else place_of id cs) (if b then Some w.1 else command_of id ws)
    step true h = f.1
    step false h = h
fits_found cmds [] (w ∷ ws) id f = absurd f
fits_found cmds (c ∷ cs) [] id f = absurd f

failure_more : (last : Option (ℕ × Status)) (ms : List Mark) (m : Mark) → failure_from last (ms ++ m ∷ []) ≡ failure_after (failure_from last ms) m
failure_more last [] m = refl
failure_more last (x ∷ ms) m = failure_more (failure_after last x) ms m

over_last : (cmds : List Planned) (status : Status) (o : Option ℕ) (c : Option CommandSeen) (marks : List Mark) (last : Option Failure) → IsFound cmds o c → IsLast cmds (last_failure marks) last → IsLast cmds (last_failure (over status o marks)) (failure_by status c last)
over_last cmds status None None marks last f h = h
over_last cmds status (Some p) (Some cmd) marks last f h = subst (λ o. IsLast cmds o (failure_by status (Some cmd) last)) (sym (failure_more None marks (Over p status))) (step (is_success status))
  where
    step : (b : Bool) → IsLast cmds (if b then last_failure marks else Some (p, status)) (if b then last else Some (record { status = status; cmd = cmd }))
    step true = h
    step false = (refl, f)
over_last cmds status None (Some cmd) marks last f h = absurd f
over_last cmds status (Some p) None marks last f h = absurd f

began_last : (cmds : List Planned) (p : ℕ) (marks : List Mark) (last : Option Failure) → IsLast cmds (last_failure marks) last → IsLast cmds (last_failure (marks ++ Began p ∷ [])) last
began_last cmds p marks last h = subst (λ o. IsLast cmds o last) (sym (failure_more None marks (Began p))) h

-- both ways tell the same
abbrev pub Agrees : Rules → Run → Watched → Type 0
Agrees rules r w = Fits rules.plan.cmds r.live w.running × IsLast rules.plan.cmds (last_failure r.marks) w.last

agrees_after : (rules : Rules) (t : Option ℕ) (r : Run) (w : Watched) (e : Event) → Good rules t r e → Agrees rules r w → Agrees rules (run_after rules.plan r e) (watched w e)
agrees_after rules t r w (Started id role cmd pipes held) good a =
    let s : StartsNext rules t r (record { role = role; cmd = cmd; pipes = pipes }) held = good in
    let at : IsAt rules.plan.cmds s.place cmd = (s.planned, (s.its, ap (λ x. x.cmd) s.asks)) in
    subst (λ (o : Option ℕ). Agrees rules (record { live = joined id o r.live; marks = began o r.marks }) (watched w (Started id role cmd pipes held))) (sym s.next)
    (fits_more rules.plan.cmds r.live w.running id s.place cmd a.0 at, began_last rules.plan.cmds s.place r.marks w.last a.1)
agrees_after rules t r w (Ended id status) good a = (
  fits_without rules.plan.cmds r.live w.running id a.0,
  over_last rules.plan.cmds status (place_of id r.live) (command_of id w.running) r.marks w.last (fits_found rules.plan.cmds r.live w.running id a.0) a.1,
)
agrees_after rules t r w (Heard id piece) good a = a
agrees_after rules t r w (Unread id) good a = a
agrees_after rules t r w (Turn count) good a = a
agrees_after rules t r w (Printed kind bytes) good a = a
agrees_after rules t r w (Said message) good a = a
agrees_after rules t r w _ good a = absurd good

agrees_along : (rules : Rules) (t : Option ℕ) (r : Run) (w : Watched) (part : List Event) → Along rules t r part → Agrees rules r w → Agrees rules (run_from rules.plan r part) (watched_from w part)
agrees_along rules t r w [] good a = a
agrees_along rules t r w (e ∷ es) good a = agrees_along rules t (run_after rules.plan r e) (watched w e) es good.1 (agrees_after rules t r w e good.0 a)

-- the last failure of a run is that of its events
pub last_is : (rules : Rules) (t : Option ℕ) (part : List Event) → Along rules t nothing part → IsLast rules.plan.cmds (last_failure (run_from rules.plan nothing part).marks) (failed_last part)
last_is rules t part good = (agrees_along rules t nothing unwatched part good (tt, tt)).1
