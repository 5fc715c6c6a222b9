-- Laws on the part of a call: parts of calls one after the other, and what was done and left at each moment of a run.
use Rattle.std.proofs.Common.{◌≡◌, ◌⊎◌, ◌+◌, ◌<◌, inl, inr, ℕ, List, [], ◌∷◌, ◌++◌, length, get_or, take, drop, Bool, true, false, if◌then◌else◌, refl, sym, ◌∙◌, ap, subst, append_assoc, append-nil}
use Rattle.std.proofs.Math.Seq.{drop-append_seam, drop-append-add}
use Rattle.std.proofs.Math.ListN.{get_or-map}
use Rattle.std.proofs.lemmas.List.{length-append, length-map, map-append, take-append-drop, take_more, drop_more, take-map, drop-map}
use Rattle.std.proofs.lemmas.Grind.{flat_map-append}
use Rattle.cc_host.specs.Status.{is_success}
use Rattle.cc_host.specs.Part.{since, is_probing, Step, Runs, Makes, Removes, Writes, Copies, Finds, Says, Prints, Lists, step_of, done, stop_of, stops, calm_of, calm, listing_of, listings, left, Refuses, StopsAt, IsPartly, IsWhole, runs}
use Rattle.cc_host.specs.Command.{CommandSeen}
use Rattle.cc_host.specs.declared.event.Role.{Role}
use Rattle.cc_host.specs.declared.event.Scope.TheVariants.{Build, Probe as ForProbes}
use Rattle.cc_host.specs.declared.event.Event.{Event}
use Rattle.cc_host.specs.declared.event.Event.TheVariants.{Ran, Missing, Fault, Made, Removed, Wrote, Copied, Here, Printed, Said, Listed}

-- what was appended is what came since
pub since_append : (old part : List Event) → since old (old ++ part) ≡ part
since_append old part = drop-append_seam old part

since_two : (old mid new : List Event) → mid ≡ old ++ since old mid → new ≡ mid ++ since mid new → new ≡ old ++ (since old mid ++ since mid new)
since_two old mid new e f = f ∙ ap (λ l. l ++ since mid new) e ∙ append_assoc old (since old mid) (since mid new)

-- the parts of two calls, one after the other, are the part of both
pub since_since : (old mid new : List Event) → mid ≡ old ++ since old mid → new ≡ mid ++ since mid new → since old new ≡ since old mid ++ since mid new
since_since old mid new e f = subst (λ (n : List Event). since old n ≡ since old mid ++ since mid new) (sym (since_two old mid new e f)) (since_append old (since old mid ++ since mid new))

-- two calls that append, one after the other, append
pub since_extends : (old mid new : List Event) → mid ≡ old ++ since old mid → new ≡ mid ++ since mid new → new ≡ old ++ since old new
since_extends old mid new e f = since_two old mid new e f ∙ ap (λ l. old ++ l) (sym (since_since old mid new e f))

-- an event that ends no run did one step
abbrev pub IsCalm : Event → Type 0
IsCalm event = (stop_of event ≡ []) × (calm_of event ≡ event ∷ []) × ((step : Step) × (step_of event ≡ step ∷ []))

-- an event that did no step and ends no run, as a question leaves it
abbrev pub IsQuiet : Event → Type 0
IsQuiet event = (stop_of event ≡ []) × (calm_of event ≡ event ∷ []) × (step_of event ≡ [])

-- an event that ends a run did no step
abbrev pub IsStop : Event → Type 0
IsStop event = (stop_of event ≡ event ∷ []) × (calm_of event ≡ []) × (step_of event ≡ [])

-- an event did one step, or none without an end of the run, or it ended the run
abbrev pub IsKind : Event → Type 0
IsKind event = IsCalm event ⊎ (IsQuiet event ⊎ IsStop event)

ended : (b : Bool) (event : Event) (step : Step) → (((if b then [] else event ∷ []) ≡ []) × ((if b then event ∷ [] else []) ≡ event ∷ []) × ((s : Step) × ((if b then step ∷ [] else []) ≡ s ∷ []))) ⊎ ((((if b then [] else event ∷ []) ≡ []) × ((if b then event ∷ [] else []) ≡ event ∷ []) × ((if b then step ∷ [] else []) ≡ [])) ⊎ (((if b then [] else event ∷ []) ≡ event ∷ []) × ((if b then event ∷ [] else []) ≡ []) × ((if b then step ∷ [] else []) ≡ [])))
ended true event step = inl (refl, refl, (step, refl))
ended false event step = inr (inr (refl, refl, refl))

abbrev no_step : List Step
no_step = []

faulted : (b : Bool) (event : Event) → (((if b then [] else event ∷ []) ≡ []) × ((if b then event ∷ [] else []) ≡ event ∷ []) × (no_step ≡ [])) ⊎ (((if b then [] else event ∷ []) ≡ event ∷ []) × ((if b then event ∷ [] else []) ≡ []) × (no_step ≡ []))
faulted true event = inl (refl, refl, refl)
faulted false event = inr (refl, refl, refl)

-- each event is of one of these kinds
pub kind_is : (event : Event) → IsKind event
kind_is (Ran role cmd pipes status out err) = ended (is_success status) (Ran role cmd pipes status out err) (Runs role cmd)
kind_is (Missing role cmd) = inr (inr (refl, refl, refl))
kind_is (Fault call why) = inr (faulted (is_probing call) (Fault call why))
kind_is (Made Build path) = inl (refl, refl, (Makes Build path, refl))
kind_is (Made ForProbes path) = inr (inl (refl, refl, refl))
kind_is (Removed path how) = inl (refl, refl, (Removes path, refl))
kind_is (Wrote path bytes) = inl (refl, refl, (Writes path bytes, refl))
kind_is (Copied from to) = inl (refl, refl, (Copies from to, refl))
kind_is (Here path) = inl (refl, refl, (Finds path, refl))
kind_is (Said message) = inl (refl, refl, (Says message, refl))
kind_is (Printed kind bytes) = inl (refl, refl, (Prints kind bytes, refl))
kind_is (Listed vars) = inl (refl, refl, (Lists, refl))
kind_is event = inr (inl (refl, refl, refl))

pub done_then : (a b : List Event) → done (a ++ b) ≡ done a ++ done b
done_then a b = flat_map-append step_of a b

pub stops_both : (a b : List Event) → stops (a ++ b) ≡ stops a ++ stops b
stops_both a b = flat_map-append stop_of a b

pub calm_then : (a b : List Event) → calm (a ++ b) ≡ calm a ++ calm b
calm_then a b = flat_map-append calm_of a b

-- the variables that two parts list, one after the other
pub listings_then : (a b : List Event) → listings (a ++ b) ≡ listings a ++ listings b
listings_then a b = flat_map-append listing_of a b

calm_more : (event : Event) (part : List Event) → (stops part ≡ [] → part ≡ calm part) → stops (event ∷ part) ≡ [] → IsKind event → event ∷ part ≡ calm (event ∷ part)
calm_more event part rest none (inl k) = ap (λ l. event ∷ l) (rest (sym (ap (λ l. l ++ stops part) k.0) ∙ none)) ∙ sym (ap (λ l. l ++ calm part) k.1)
calm_more event part rest none (inr (inl k)) = ap (λ l. event ∷ l) (rest (sym (ap (λ l. l ++ stops part) k.0) ∙ none)) ∙ sym (ap (λ l. l ++ calm part) k.1)
calm_more event part rest none (inr (inr k)) = let e : event ∷ stops part ≡ [] = sym (ap (λ l. l ++ stops part) k.0) ∙ none in absurd (cc)

-- a part in which nothing ended the run has calm events alone
pub calm_whole : (part : List Event) → stops part ≡ [] → part ≡ calm part
calm_whole [] none = refl
calm_whole (event ∷ part) none = calm_more event part (calm_whole part) none (kind_is event)

left_is : (steps rest : List Step) (part : List Event) → steps ≡ done part ++ rest → left steps part ≡ rest
left_is steps rest part e = ap (λ l. drop (length (done part)) l) e ∙ drop-append_seam (done part) rest

-- a part is read by what is left behind the steps that were done
partly_of : (steps rest : List Step) (part : List Event) → steps ≡ done part ++ rest → StopsAt rest (stops part) → part ≡ calm part ++ stops part → IsPartly steps part
partly_of steps rest part e stop last =
    let l : left steps part ≡ rest = left_is steps rest part e in
    record {
      begun = e ∙ ap (λ m. done part ++ m) (sym l);
      stop = subst (λ (m : List Step). StopsAt m (stops part)) (sym l) stop;
      last = last;
    }

-- before its first call a run has done none of its steps
pub partly_none : (steps : List Step) → IsPartly steps []
partly_none steps = partly_of steps steps [] refl tt refl

-- a run that was done whole was begun
pub partly_whole : (steps : List Step) (part : List Event) → IsWhole steps part → IsPartly steps part
partly_whole steps part w =
    partly_of steps [] part
    (sym w.done_all ∙ sym (append-nil (done part)))
    (subst (λ (l : List Event). StopsAt [] l) (sym w.unstopped) tt)
    (calm_whole part w.unstopped ∙ sym (append-nil (calm part)) ∙ ap (λ l. calm part ++ l) (sym w.unstopped))

-- behind a part that was done whole, the events that end a run are those of the rest
pub stops_then : (first : List Step) (a b : List Event) → IsWhole first a → stops (a ++ b) ≡ stops b
stops_then first a b w = stops_both a b ∙ ap (λ l. l ++ stops b) w.unstopped

-- two runs, one after the other, each done whole
pub whole_then : (first second : List Step) (a b : List Event) → IsWhole first a → IsWhole second b → IsWhole (first ++ second) (a ++ b)
whole_then first second a b w v = record {
  done_all = done_then a b ∙ ap (λ l. l ++ done b) w.done_all ∙ ap (λ l. first ++ l) v.done_all;
  unstopped = stops_then first a b w ∙ v.unstopped;
}

-- a run that was done whole, and part of a second
pub partly_then : (first second : List Step) (a b : List Event) → IsWhole first a → IsPartly second b → IsPartly (first ++ second) (a ++ b)
partly_then first second a b w p =
    let d : done (a ++ b) ≡ first ++ done b = done_then a b ∙ ap (λ l. l ++ done b) w.done_all in
    let s : stops (a ++ b) ≡ stops b = stops_then first a b w in
    let k : a ++ calm b ≡ calm (a ++ b) = ap (λ l. l ++ calm b) (calm_whole a w.unstopped) ∙ sym (calm_then a b) in
    partly_of (first ++ second) (left second b) (a ++ b)
    (ap (λ l. first ++ l) p.begun ∙ sym (append_assoc first (done b) (left second b)) ∙ ap (λ l. l ++ left second b) (sym d))
    (subst (λ (l : List Event). StopsAt (left second b) l) (sym s) p.stop)
    (ap (λ l. a ++ l) p.last ∙ sym (append_assoc a (calm b) (stops b)) ∙ ap (λ l. l ++ stops b) k ∙ ap (λ l. calm (a ++ b) ++ l) (sym s))

-- behind a part that was done whole, the steps that are left are those of the rest
pub left_then : (first second : List Step) (a b : List Event) → IsWhole first a → left (first ++ second) (a ++ b) ≡ left second b
left_then first second a b w =
    let n : length (done (a ++ b)) ≡ length first + length (done b) = ap length (done_then a b ∙ ap (λ l. l ++ done b) w.done_all) ∙ length-append first (done b) in
    ap (λ k. drop k (first ++ second)) n ∙ drop-append-add first second (length (done b))

-- more steps at the end change no refusal
stops_before : (steps more : List Step) (part : List Event) → StopsAt steps part → StopsAt (steps ++ more) part
stops_before steps more [] s = tt
stops_before (step ∷ steps) more (event ∷ []) s = s
stops_before [] more (event ∷ []) s = absurd s
stops_before [] more (event ∷ e ∷ part) s = absurd s
stops_before (step ∷ steps) more (event ∷ e ∷ part) s = absurd s

more_begun : (steps more : List Step) (part : List Event) → IsPartly steps part → steps ++ more ≡ done part ++ (left steps part ++ more)
more_begun steps more part p = ap (λ l. l ++ more) p.begun ∙ append_assoc (done part) (left steps part) more

-- part of a run is part of a longer one
pub partly_more : (steps more : List Step) (part : List Event) → IsPartly steps part → IsPartly (steps ++ more) part
partly_more steps more part p =
    partly_of (steps ++ more) (left steps part ++ more) part (more_begun steps more part p) (stops_before (left steps part) more (stops part) p.stop) p.last

-- the steps of the longer run are left behind those of the shorter
pub left_more : (steps more : List Step) (part : List Event) → IsPartly steps part → left (steps ++ more) part ≡ left steps part ++ more
left_more steps more part p = left_is (steps ++ more) (left steps part ++ more) part (more_begun steps more part p)

is_stop : (event : Event) → stop_of event ≡ event ∷ [] → IsKind event → IsStop event
is_stop event e (inl k) = absurd (cc)
is_stop event e (inr (inl k)) = absurd (cc)
is_stop event e (inr (inr k)) = k

-- an event that ends a run alone
stop_alone : (event : Event) → stop_of event ≡ event ∷ [] → (stops (event ∷ []) ≡ event ∷ []) × (calm (event ∷ []) ≡ []) × (done (event ∷ []) ≡ [])
stop_alone event e =
    let k = is_stop event e (kind_is event) in
    (append-nil (stop_of event) ∙ k.0, append-nil (calm_of event) ∙ k.1, append-nil (step_of event) ∙ k.2)

-- an event that ends a run is the one that ends it
pub stops_stop : (event : Event) → stop_of event ≡ event ∷ [] → stops (event ∷ []) ≡ event ∷ []
stops_stop event e = (stop_alone event e).0

-- a run that its first step ended, by the refusal of that step
pub partly_stop : (step : Step) (rest : List Step) (event : Event) → stop_of event ≡ event ∷ [] → Refuses step event → IsPartly (step ∷ rest) (event ∷ [])
partly_stop step rest event e refusal =
    let k = stop_alone event e in
    partly_of (step ∷ rest) (step ∷ rest) (event ∷ [])
    (ap (λ l. l ++ step ∷ rest) (sym k.2))
    (subst (λ (l : List Event). StopsAt (step ∷ rest) l) (sym k.0) refusal)
    (sym k.0 ∙ ap (λ l. l ++ stops (event ∷ [])) (sym k.1))

-- what its first step ended has all its steps left
pub left_stop : (step : Step) (rest : List Step) (event : Event) → stop_of event ≡ event ∷ [] → left (step ∷ rest) (event ∷ []) ≡ step ∷ rest
left_stop step rest event e = left_is (step ∷ rest) (step ∷ rest) (event ∷ []) (ap (λ l. l ++ step ∷ rest) (sym (stop_alone event e).2))

-- one step that was done
pub whole_step : (step : Step) (event : Event) → step_of event ≡ step ∷ [] → stop_of event ≡ [] → IsWhole (step ∷ []) (event ∷ [])
whole_step step event did calm = record { done_all = append-nil (step_of event) ∙ did; unstopped = append-nil (stop_of event) ∙ calm }

-- the steps at and behind i
steps_from : (steps : List Step) (i : ℕ) (step : Step) → i < length steps → step ≡ get_or steps i step → steps ≡ take i steps ++ step ∷ drop (i + 1) steps
steps_from steps i step lt at = sym (take-append-drop i steps) ∙ ap (λ l. take i steps ++ l) (drop_more steps i step lt ∙ ap (λ s. s ∷ drop (i + 1) steps) (sym at))

-- A loop over steps: the steps before i were done.
pub steps_none : (steps : List Step) (i : ℕ) (before : List Event) → IsWhole (take i steps) before → IsPartly steps before
steps_none steps i before w = subst (λ (l : List Step). IsPartly l before) (take-append-drop i steps) (partly_more (take i steps) (drop i steps) before (partly_whole (take i steps) before w))

-- they are left from i on
pub steps_left : (steps : List Step) (i : ℕ) (before : List Event) → IsWhole (take i steps) before → left steps before ≡ drop i steps
steps_left steps i before w = left_is steps (drop i steps) before (sym (take-append-drop i steps) ∙ ap (λ l. l ++ drop i steps) (sym w.done_all))

-- the step at i was done too
pub step_more : (steps : List Step) (i : ℕ) (d : Step) (before : List Event) (event : Event) → i < length steps → IsWhole (take i steps) before → step_of event ≡ get_or steps i d ∷ [] → stop_of event ≡ [] → IsWhole (take (i + 1) steps) (before ++ event ∷ [])
step_more steps i d before event lt w did calm =
    subst (λ (l : List Step). IsWhole l (before ++ event ∷ [])) (sym (take_more steps i d lt)) (whole_then (take i steps) (get_or steps i d ∷ []) before (event ∷ []) w (whole_step (get_or steps i d) event did calm))

-- the step at i was refused
pub step_partly : (steps : List Step) (i : ℕ) (step : Step) (before : List Event) (event : Event) → i < length steps → step ≡ get_or steps i step → IsWhole (take i steps) before → stop_of event ≡ event ∷ [] → Refuses step event → IsPartly steps (before ++ event ∷ [])
step_partly steps i step before event lt at w e refusal =
    subst (λ (l : List Step). IsPartly l (before ++ event ∷ [])) (sym (steps_from steps i step lt at)) (partly_then (take i steps) (step ∷ drop (i + 1) steps) before (event ∷ []) w (partly_stop step (drop (i + 1) steps) event e refusal))

-- refused, it is left with those behind it
pub step_left : (steps : List Step) (i : ℕ) (step : Step) (before : List Event) (event : Event) → i < length steps → step ≡ get_or steps i step → IsWhole (take i steps) before → stop_of event ≡ event ∷ [] → left steps (before ++ event ∷ []) ≡ step ∷ drop (i + 1) steps
step_left steps i step before event lt at w e =
    ap (λ l. left l (before ++ event ∷ [])) (steps_from steps i step lt at) ∙ left_then (take i steps) (step ∷ drop (i + 1) steps) before (event ∷ []) w ∙ left_stop step (drop (i + 1) steps) event e

-- and its refusal is what ended the run
pub step_stops : (steps : List Step) (i : ℕ) (before : List Event) (event : Event) → IsWhole (take i steps) before → stop_of event ≡ event ∷ [] → stops (before ++ event ∷ []) ≡ event ∷ []
step_stops steps i before event w e = stops_then (take i steps) before (event ∷ []) w ∙ stops_stop event e

-- the first commands, in order
pub runs_take : (role : Role) (i : ℕ) (cmds : List CommandSeen) → take i (runs role cmds) ≡ runs role (take i cmds)
runs_take role i cmds = take-map (Runs role) i cmds

pub runs_drop : (role : Role) (i : ℕ) (cmds : List CommandSeen) → drop i (runs role cmds) ≡ runs role (drop i cmds)
runs_drop role i cmds = drop-map (Runs role) i cmds

-- the commands before, at and behind i
pub runs_next : (role : Role) (cmds : List CommandSeen) (i : ℕ) (d : CommandSeen) → i < length cmds → runs role cmds ≡ runs role (take i cmds) ++ Runs role (get_or cmds i d) ∷ runs role (drop (i + 1) cmds)
runs_next role cmds i d lt =
    ap (runs role) (sym (take-append-drop i cmds) ∙ ap (λ l. take i cmds ++ l) (drop_more cmds i d lt)) ∙ map-append (Runs role) (take i cmds) (get_or cmds i d ∷ drop (i + 1) cmds)

module _ (role : Role) (cmds : List CommandSeen) (i : ℕ) where
  at_role : (cmd : CommandSeen) → i < length cmds → cmd ≡ get_or cmds i cmd → (i < length (runs role cmds)) × (Runs role cmd ≡ get_or (runs role cmds) i (Runs role cmd))
  at_role cmd lt at = (subst (λ n. i < n) (sym (length-map cmds (Runs role))) lt, ap (Runs role) at ∙ sym (get_or-map (Runs role) cmds i cmd))

  ran_first : (before : List Event) → IsWhole (runs role (take i cmds)) before → IsWhole (take i (runs role cmds)) before
  ran_first before w = subst (λ (l : List Step). IsWhole l before) (sym (runs_take role i cmds)) w

  -- A loop over commands: the commands before i ended with 0.
  pub loop_none : (before : List Event) → IsWhole (runs role (take i cmds)) before → IsPartly (runs role cmds) before
  loop_none before w = steps_none (runs role cmds) i before (ran_first before w)

  -- the command at i ended with 0 too
  pub loop_more : (cmd : CommandSeen) (before : List Event) (event : Event) → i < length cmds → cmd ≡ get_or cmds i cmd → IsWhole (runs role (take i cmds)) before → step_of event ≡ Runs role cmd ∷ [] → stop_of event ≡ [] → IsWhole (runs role (take (i + 1) cmds)) (before ++ event ∷ [])
  loop_more cmd before event lt at w did calm =
      let k = at_role cmd lt at in
      subst (λ (l : List Step). IsWhole l (before ++ event ∷ [])) (runs_take role (i + 1) cmds)
      (step_more (runs role cmds) i (Runs role cmd) before event k.0 (ran_first before w) (did ∙ ap (λ s. s ∷ []) k.1) calm)

  -- the command at i was refused
  pub loop_partly : (cmd : CommandSeen) (before : List Event) (event : Event) → i < length cmds → cmd ≡ get_or cmds i cmd → IsWhole (runs role (take i cmds)) before → stop_of event ≡ event ∷ [] → Refuses (Runs role cmd) event → IsPartly (runs role cmds) (before ++ event ∷ [])
  loop_partly cmd before event lt at w e refusal =
      let k = at_role cmd lt at in
      step_partly (runs role cmds) i (Runs role cmd) before event k.0 k.1 (ran_first before w) e refusal

  -- refused, it is left with those behind it
  pub loop_left : (cmd : CommandSeen) (before : List Event) (event : Event) → i < length cmds → cmd ≡ get_or cmds i cmd → IsWhole (runs role (take i cmds)) before → stop_of event ≡ event ∷ [] → left (runs role cmds) (before ++ event ∷ []) ≡ Runs role cmd ∷ runs role (drop (i + 1) cmds)
  loop_left cmd before event lt at w e =
      let k = at_role cmd lt at in
      step_left (runs role cmds) i (Runs role cmd) before event k.0 k.1 (ran_first before w) e ∙ ap (λ l. Runs role cmd ∷ l) (runs_drop role (i + 1) cmds)

  -- and its refusal is what ended the run
  pub loop_stops : (before : List Event) (event : Event) → IsWhole (runs role (take i cmds)) before → stop_of event ≡ event ∷ [] → stops (before ++ event ∷ []) ≡ event ∷ []
  loop_stops before event w e = step_stops (runs role cmds) i before event (ran_first before w) e

  -- the commands from i on are left
  pub loop_rest : (before : List Event) → IsWhole (runs role (take i cmds)) before → left (runs role cmds) before ≡ runs role (drop i cmds)
  loop_rest before w = steps_left (runs role cmds) i before (ran_first before w) ∙ runs_drop role i cmds
