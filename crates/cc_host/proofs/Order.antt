-- The order of a run: what a later step takes for granted was done before it.
use Rattle.std.proofs.Common.{◌≡◌, ◌⊎◌, ⊎_elim, arith, if◌then◌else◌, inl, inr, List, [], ◌∷◌, ◌++◌, length, drop, Bool, true, false, ◌||◌, pos, negsuc, zero, suc, refl, sym, ◌∙◌, ap, subst, append_assoc, ℕ, Contains}
use Rattle.std.specs.List.{list_any}
use Rattle.std.proofs.Math.Seq.{drop-append_seam}
use Rattle.std.proofs.lemmas.List.Elements.{Contains-append_cases, Contains-append_left, Contains-append_right}
use Rattle.cc_host.proofs.Parts.{IsCalm, IsQuiet, IsStop, IsKind, kind_is, done_then, stops_both, calm_then, calm_whole}
use Rattle.cc_host.specs.Status.{is_success}
use Rattle.cc_host.specs.Part.{Step, Runs, Makes, Removes, Writes, Copies, Finds, Says, Prints, Lists, step_of, done, stop_of, stops, calm, left, Refuses, StopsAt, IsPartly, runs}
use Rattle.cc_host.specs.Command.{CommandSeen}
use Rattle.cc_host.specs.declared.event.Role.{Role}
use Rattle.cc_host.specs.declared.event.Role.TheVariants.{Compile, Archive}
use Rattle.cc_host.specs.declared.event.Pipes.{Pipes}
use Rattle.cc_host.specs.declared.event.Status.{Status}
use Rattle.cc_host.specs.declared.event.Status.TheVariants.{Code, NoCode}
use Rattle.cc_host.specs.declared.event.Scope.TheVariants.{Build, Probe as ForProbes}
use Rattle.cc_host.specs.declared.event.Event.{Event}
use Rattle.cc_host.specs.declared.event.Event.TheVariants.{Ran, Missing, Made, Removed, Wrote, Copied, Here, Said, Printed, Listed}

-- whatever step this event did or refused passes the test
abbrev pub IsOnly : (Step → Bool) → Event → Type 0
IsOnly test event = ((step : Step) → step_of event ≡ step ∷ [] → test step ≡ true) × ((step : Step) → Refuses step event → test step ≡ true)

-- where none of two holds, each doesn't
pub or_false : (b c : Bool) → (b || c) ≡ false → (b ≡ false) × (c ≡ false)
or_false true c e = absurd (cc)
or_false false c e = (refl, e)

-- a step that passes the test stands behind all of a list of which none does
cut : (test : Step → Bool) (first rest xs ys : List Step) (step : Step) → first ++ rest ≡ xs ++ step ∷ ys → list_any test first ≡ false → test step ≡ true → (t : List Step) × (xs ≡ first ++ t)
cut test [] rest xs ys step e none is = (xs, refl)
cut test (s ∷ first) rest [] ys step e none is =
    let k = or_false (test s) (list_any test first) none in
    let same : s ≡ step = cc in
    let b : true ≡ false = sym is ∙ ap test (sym same) ∙ k.0 in
    absurd (cc)
cut test (s ∷ first) rest (x ∷ xs) ys step e none is =
    let k = or_false (test s) (list_any test first) none in
    let same : x ≡ s = cc in
    let tail : first ++ rest ≡ xs ++ step ∷ ys = cc in
    let r = cut test first rest xs ys step tail k.1 is in
    (r.0, ap (λ l. x ∷ l) r.1 ∙ ap (λ y. y ∷ (first ++ r.0)) same)

two : (steps : List Step) (a b : Event) (more : List Event) → StopsAt steps (a ∷ b ∷ more) → ⊥
two [] a b more s = s
two (step ∷ steps) a b more s = s

-- the event that ended a run is the only one, and refused the next step
record IsAlone (steps : List Step) (a b : List Event) (event : Event) : Type 0 where
  step : Step
  rest : List Step
  next : steps ≡ step ∷ rest
  refusal : Refuses step event
  none_before : a ≡ []
  none_after : b ≡ []

alone : (steps : List Step) (a b : List Event) (event : Event) → StopsAt steps (a ++ event ∷ b) → IsAlone steps a b event
alone [] [] [] event s = absurd s
alone (step ∷ rest) [] [] event s = record { step = step; rest = rest; next = refl; refusal = s; none_before = refl; none_after = refl }
alone steps [] (e ∷ b) event s = absurd (two steps event e b s)
alone steps (e ∷ []) b event s = absurd (two steps e event b s)
alone steps (e ∷ x ∷ a) b event s = absurd (two steps e x (a ++ event ∷ b) s)

done_around : (before after : List Event) (event : Event) → done (before ++ event ∷ after) ≡ done before ++ (step_of event ++ done after)
done_around before after event = done_then before (event ∷ after)

-- behind the event that ended a run stands nothing
last_event : (before after : List Event) (event : Event) → before ++ event ∷ after ≡ calm (before ++ event ∷ after) ++ event ∷ [] → IsStop event → stops before ≡ [] → stops after ≡ [] → after ≡ []
last_event before [] event last k b a = refl
last_event before (e ∷ after) event last k b a =
    let c : calm (before ++ event ∷ e ∷ after) ≡ before ++ (e ∷ after) =
    calm_then before (event ∷ e ∷ after) ∙ ap (λ l. l ++ calm (event ∷ e ∷ after)) (sym (calm_whole before b)) ∙ ap (λ l. before ++ (l ++ calm (e ∷ after))) k.1 ∙ ap (λ l. before ++ l) (sym (calm_whole (e ∷ after) a)) in
    let whole : before ++ event ∷ e ∷ after ≡ before ++ (e ∷ (after ++ event ∷ [])) = last ∙ ap (λ l. l ++ event ∷ []) c ∙ append_assoc before (e ∷ after) (event ∷ []) in
    let ends : event ∷ e ∷ after ≡ e ∷ (after ++ event ∷ []) = sym (drop-append_seam before (event ∷ e ∷ after)) ∙ ap (λ l. drop (length before) l) whole ∙ drop-append_seam before (e ∷ (after ++ event ∷ [])) in
    let same : event ≡ e = cc in
    let stop : event ∷ stops after ≡ [] = ap (λ l. l ++ stops after) (sym k.0 ∙ ap stop_of same) ∙ a in
    absurd (cc)

module _ (test : Step → Bool) (first rest : List Step) (before after : List Event) (event : Event) where
  did : (step : Step) → IsPartly (first ++ rest) (before ++ event ∷ after) → list_any test first ≡ false → step_of event ≡ step ∷ [] → test step ≡ true → (t : List Step) × (done before ≡ first ++ t)
  did step p none is passes =
      let e : first ++ rest ≡ done before ++ step ∷ (done after ++ left (first ++ rest) (before ++ event ∷ after)) =
      p.begun ∙ ap (λ l. l ++ left (first ++ rest) (before ++ event ∷ after)) (done_around before after event ∙ ap (λ l. done before ++ (l ++ done after)) is) ∙ append_assoc (done before) (step ∷ done after) (left (first ++ rest) (before ++ event ∷ after)) in
      cut test first rest (done before) (done after ++ left (first ++ rest) (before ++ event ∷ after)) step e none passes

  stopped : IsPartly (first ++ rest) (before ++ event ∷ after) → list_any test first ≡ false → IsStop event → ((step : Step) → Refuses step event → test step ≡ true) → (t : List Step) × (done before ≡ first ++ t)
  stopped p none k only =
      let s : stops (before ++ event ∷ after) ≡ stops before ++ event ∷ stops after = stops_both before (event ∷ after) ∙ ap (λ l. stops before ++ (l ++ stops after)) k.0 in
      let a = alone (left (first ++ rest) (before ++ event ∷ after)) (stops before) (stops after) event (subst (λ (l : List Event). StopsAt (left (first ++ rest) (before ++ event ∷ after)) l) s p.stop) in
      let one : stops (before ++ event ∷ after) ≡ event ∷ [] = s ∙ ap (λ l. l ++ event ∷ stops after) a.none_before ∙ ap (λ l. event ∷ l) a.none_after in
      let nil : after ≡ [] = last_event before after event (p.last ∙ ap (λ l. calm (before ++ event ∷ after) ++ l) one) k a.none_before a.none_after in
      let d : done (before ++ event ∷ after) ≡ done before ++ [] = done_around before after event ∙ ap (λ l. done before ++ (l ++ done after)) k.2 ∙ ap (λ l. done before ++ done l) nil in
      let e : first ++ rest ≡ done before ++ a.step ∷ a.rest = p.begun ∙ ap (λ l. l ++ left (first ++ rest) (before ++ event ∷ after)) d ∙ append_assoc (done before) [] (left (first ++ rest) (before ++ event ∷ after)) ∙ ap (λ l. done before ++ l) a.next in
      cut test first rest (done before) a.rest a.step e none (only a.step a.refusal)

  by_kind : IsPartly (first ++ rest) (before ++ event ∷ after) → list_any test first ≡ false → IsOnly test event → IsCalm event ⊎ IsStop event → (t : List Step) × (done before ≡ first ++ t)
  by_kind p none only (inl k) = did k.2.0 p none k.2.1 (only.0 k.2.0 k.2.1)
  by_kind p none only (inr k) = stopped p none k only.1

-- an event that did a step or ended a run
loud : (event : Event) → (IsQuiet event → ⊥) → IsKind event → IsCalm event ⊎ IsStop event
loud event not_quiet (inl k) = inl k
loud event not_quiet (inr (inl k)) = absurd (not_quiet k)
loud event not_quiet (inr (inr k)) = inr k

-- An event on steps that pass a test stands behind all of the first steps, of which none passes it, each of them done.
pub after_first : (test : Step → Bool) (first rest : List Step) (part before after : List Event) (event : Event) → IsPartly (first ++ rest) part → list_any test first ≡ false → part ≡ before ++ event ∷ after → IsOnly test event → (IsQuiet event → ⊥) → (t : List Step) × (done before ≡ first ++ t)
after_first test first rest part before after event p none is only not_quiet =
    by_kind test first rest before after event (subst (λ (l : List Event). IsPartly (first ++ rest) l) is p) none only (loud event not_quiet (kind_is event))

-- this event is of a command of this role
abbrev pub IsOf : Role → Event → Type 0
IsOf role (Ran r cmd pipes status out err) = r ≡ role
IsOf role (Missing r cmd) = r ≡ role
IsOf role _ = ⊥

where_success : (b : Bool) (a step : Step) → (if b then a ∷ [] else []) ≡ step ∷ [] → a ≡ step
where_success true a step e = cc
where_success false a step e = absurd (cc)

ran_refused : (test : Step → Bool) (role r : Role) (step : Step) (c : CommandSeen) (pipes : Pipes) (status : Status) (out err : List ℕ) → ((cmd : CommandSeen) → test (Runs role cmd) ≡ true) → r ≡ role → Refuses step (Ran r c pipes status out err) → test step ≡ true
ran_refused test role r (Runs at cmd) c pipes status out err all is refusal = ap (λ k. test (Runs k cmd)) (sym refusal.0 ∙ is) ∙ all cmd
ran_refused test role r (Makes scope path) c pipes status out err all is refusal = absurd refusal
ran_refused test role r (Removes path) c pipes status out err all is refusal = absurd refusal
ran_refused test role r (Writes path bytes) c pipes status out err all is refusal = absurd refusal
ran_refused test role r (Copies from to) c pipes status out err all is refusal = absurd refusal
ran_refused test role r (Finds path) c pipes status out err all is refusal = absurd refusal
ran_refused test role r (Says message) c pipes status out err all is refusal = absurd refusal
ran_refused test role r (Prints kind bytes) c pipes status out err all is refusal = absurd refusal
ran_refused test role r Lists c pipes status out err all is refusal = absurd refusal

missing_refused : (test : Step → Bool) (role r : Role) (step : Step) (c : CommandSeen) → ((cmd : CommandSeen) → test (Runs role cmd) ≡ true) → r ≡ role → Refuses step (Missing r c) → test step ≡ true
missing_refused test role r (Runs at cmd) c all is refusal = ap (λ k. test (Runs k cmd)) (sym refusal.0 ∙ is) ∙ all cmd
missing_refused test role r (Makes scope path) c all is refusal = absurd refusal
missing_refused test role r (Removes path) c all is refusal = absurd refusal
missing_refused test role r (Writes path bytes) c all is refusal = absurd refusal
missing_refused test role r (Copies from to) c all is refusal = absurd refusal
missing_refused test role r (Finds path) c all is refusal = absurd refusal
missing_refused test role r (Says message) c all is refusal = absurd refusal
missing_refused test role r (Prints kind bytes) c all is refusal = absurd refusal
missing_refused test role r Lists c all is refusal = absurd refusal

-- an event of a command of a role is on steps of that role alone
pub only_of : (test : Step → Bool) (role : Role) (event : Event) → ((cmd : CommandSeen) → test (Runs role cmd) ≡ true) → IsOf role event → IsOnly test event
only_of test role (Ran r c pipes status out err) all is = (
  (λ step e. ap test (sym (where_success (is_success status) (Runs r c) step e)) ∙ ap (λ k. test (Runs k c)) is ∙ all c),
  (λ step refusal. ran_refused test role r step c pipes status out err all is refusal),
)
only_of test role (Missing r c) all is = (
  (λ step e. absurd (cc)),
  (λ step refusal. missing_refused test role r step c all is refusal),
)
only_of test role event all is = absurd is

-- no event of a command is quiet
never_quiet : (b : Bool) (event : Event) (step : Step) → ((if b then [] else event ∷ []) ≡ []) → ((if b then step ∷ [] else []) ≡ []) → ⊥
never_quiet true event step n s = absurd (cc)
never_quiet false event step n s = absurd (cc)

pub of_not_quiet : (role : Role) (event : Event) → IsOf role event → IsQuiet event → ⊥
of_not_quiet role (Ran r cmd pipes status out err) is k = never_quiet (is_success status) (Ran r cmd pipes status out err) (Runs r cmd) k.0 k.2
of_not_quiet role (Missing r cmd) is k = let e : Missing r cmd ∷ [] ≡ [] = k.0 in absurd (cc)
of_not_quiet role event is k = absurd is

-- a step that runs a command of the role Archive
abbrev pub is_archive : Step → Bool
is_archive (Runs Archive cmd) = true
is_archive _ = false

-- An archive command stands in the part only behind all of the first steps, each of them done, where none of them archives.
pub archives_after : (first rest : List Step) (part before after : List Event) (event : Event) → IsPartly (first ++ rest) part → list_any is_archive first ≡ false → part ≡ before ++ event ∷ after → IsOf Archive event → (t : List Step) × (done before ≡ first ++ t)
archives_after first rest part before after event p none is of =
    after_first is_archive first rest part before after event p none is (only_of is_archive Archive event (λ cmd. refl) of) (of_not_quiet Archive event of)

-- no compile command archives
pub compiles_alone : (cmds : List CommandSeen) → list_any is_archive (runs Compile cmds) ≡ false
compiles_alone [] = refl
compiles_alone (cmd ∷ cmds) = compiles_alone cmds

-- this command stands in the part with the end 0
pub record SucceedsIn (part : List Event) (role : Role) (cmd : CommandSeen) : Type 0 where
  pub pipes : Pipes
  pub out : List ℕ
  pub err : List ℕ
  pub stands : Contains part (Ran role cmd pipes (Code (pos zero)) out err)

success_is : (status : Status) → is_success status ≡ true → status ≡ Code (pos zero)
success_is (Code (pos zero)) e = refl
success_is (Code (pos (suc n))) e = absurd (cc)
success_is (Code (negsuc n)) e = absurd (cc)
success_is NoCode e = absurd (cc)

when_success : (b : Bool) (a step : Step) → (if b then a ∷ [] else []) ≡ step ∷ [] → b ≡ true
when_success true a step e = refl
when_success false a step e = absurd (cc)

succeeds : (part : List Event) (role : Role) (cmd : CommandSeen) (event : Event) → Contains part event → step_of event ≡ Runs role cmd ∷ [] → SucceedsIn part role cmd
succeeds part role cmd (Ran r c pipes status out err) has e =
    let step : Runs r c ≡ Runs role cmd = where_success (is_success status) (Runs r c) (Runs role cmd) e in
    let r_is : r ≡ role = cc in
    let c_is : c ≡ cmd = cc in
    let zero_is : status ≡ Code (pos zero) = success_is status (when_success (is_success status) (Runs r c) (Runs role cmd) e) in
    let is : Ran r c pipes status out err ≡ Ran role cmd pipes (Code (pos zero)) out err = cc in
    record { pipes = pipes; out = out; err = err; stands = subst (λ (x : Event). Contains part x) is has }
succeeds part role cmd (Made Build path) has e = absurd (cc)
succeeds part role cmd (Made ForProbes path) has e = absurd (cc)
succeeds part role cmd (Removed path how) has e = absurd (cc)
succeeds part role cmd (Wrote path bytes) has e = absurd (cc)
succeeds part role cmd (Copied from to) has e = absurd (cc)
succeeds part role cmd (Here path) has e = absurd (cc)
succeeds part role cmd (Said message) has e = absurd (cc)
succeeds part role cmd (Printed kind bytes) has e = absurd (cc)
succeeds part role cmd (Listed vars) has e = absurd (cc)
succeeds part role cmd event has e = absurd (cc)

-- an event of the part did this step
abbrev Did : List Event → Step → Type 0
Did part step = (event : Event) × Contains part event × (step_of event ≡ step ∷ [])

one_is : (s step : Step) → Contains (s ∷ []) step → s ≡ step
one_is s step (zero, lt, is) = is
one_is s step (suc k, lt, is) = absurd (omega arith)

did_by_first : (event : Event) (part : List Event) (step : Step) → IsKind event → Contains (step_of event) step → Did (event ∷ part) step
did_by_first event part step (inl k) has =
    let same : k.2.0 ≡ step = one_is k.2.0 step (subst (λ (l : List Step). Contains l step) k.2.1 has) in
    (event, (0, omega arith, refl), k.2.1 ∙ ap (λ s. s ∷ []) same)
did_by_first event part step (inr (inl k)) has = let none : Contains [] step = subst (λ (l : List Step). Contains l step) k.2 has in absurd (omega (arith, none.1))
did_by_first event part step (inr (inr k)) has = let none : Contains [] step = subst (λ (l : List Step). Contains l step) k.2 has in absurd (omega (arith, none.1))

did_in : (part : List Event) (step : Step) → Contains (done part) step → Did part step
did_in [] step has = absurd (omega (arith, has.1))
did_in (event ∷ part) step has =
    ⊎_elim (λ h. did_by_first event part step (kind_is event) h)
    (λ h. let d = did_in part step h in (d.0, Contains-append_right (event ∷ []) part d.0 d.1, d.2))
    (Contains-append_cases (step_of event) (done part) step has)

-- each command among the steps that were done stands in the part with the end 0
pub done_succeeds : (part : List Event) (role : Role) (cmd : CommandSeen) → Contains (done part) (Runs role cmd) → SucceedsIn part role cmd
done_succeeds part role cmd has = let d = did_in part (Runs role cmd) has in succeeds part role cmd d.0 d.1 d.2

-- No archive command stands in the part unless each command of the first steps stands before it with the end 0.
pub archives_last : (first rest : List Step) (part before after : List Event) (event : Event) → IsPartly (first ++ rest) part → list_any is_archive first ≡ false → part ≡ before ++ event ∷ after → IsOf Archive event → (role : Role) (cmd : CommandSeen) → Contains first (Runs role cmd) → SucceedsIn before role cmd
archives_last first rest part before after event p none is of role cmd has =
    let t = archives_after first rest part before after event p none is of in
    done_succeeds before role cmd (subst (λ (l : List Step). Contains l (Runs role cmd)) (sym t.1) (Contains-append_left first t.0 (Runs role cmd) has))
