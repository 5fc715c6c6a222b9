-- A compile run archives last.
use Rattle.std.proofs.Common.{◌≡◌, ◌⊎◌, inl, inr, ℕ, List, [], ◌∷◌, ◌++◌, map, take, drop, Option, Result, Ok, Err, Bool, true, false, if◌then◌else◌, is_some, refl, sym, ◌∙◌, ap, subst, append_assoc, take-append-drop}
use Rattle.std.specs.List.{list_any, list_all}
use Rattle.std.proofs.lemmas.Bool.{and_parts, or_parts, or_from}
use Rattle.std.proofs.lemmas.List.Folds.{list_any-append}
use Rattle.cc_env.specs.Env.{EnvSeen}
use Rattle.cc_host.specs.Command.{CommandSeen}
use Rattle.cc_host.specs.Part.{Step, step_of, Refuses}
use Rattle.cc_host.specs.Part.Step.{Runs, Makes, Removes, Writes, Copies, Finds, Says, Prints, Lists}
use Rattle.cc_host.specs.Question.{Look}
use Rattle.cc_host.specs.Status.{is_success}
use Rattle.cc_host.specs.declared.event.Event.{Event}
use Rattle.cc_host.specs.declared.event.Event.TheVariants.{Started, Ran, Missing}
use Rattle.cc_host.specs.declared.event.LineKind.{LineKind}
use Rattle.cc_host.specs.declared.event.Role.{Role}
use Rattle.cc_host.specs.declared.event.Scope.TheVariants.{Build}
use Rattle.cc_flags.specs.Given.{is_disabled}
use Rattle.cc_plan.specs.Plan.{compile_in, dir_of, objects_of, prints, folder_steps}
use Rattle.cc_plan.specs.Refusal.{early_refusal, late_refusal, is_empty}
use Rattle.cc_flags.specs.declared.object.Object.{Object}
use Rattle.cc_flags.specs.declared.settings.BuildConfig.{BuildConfig}
use Rattle.cc_run.specs.Book.{missing_in, missing_by}
use Rattle.cc_run.specs.Own.{is_of_run}
use Rattle.cc_run.specs.Part.{started, missing}
use Rattle.cc_run.specs.Planned.{Asked, asked}
use Rattle.cc_run.specs.declared.error.RunError.{RunError}
use Rattle.cc_run.specs.declared.error.RunError.TheVariants.{ToolNotFound}
use Rattle.cc_run.specs.declared.planned.Planned.{Planned}
use Rattle.cc_run.specs.declared.planned.Shows.{Shows}
use Rattle.cc_tool.specs.Probing.{is_asked}
use Rattle.cc_build.specs.Error.{ErrorSeen}
use Rattle.cc_build.specs.Order.{is_archive_role, is_archive_event, ArchivesLast}
use Rattle.cc_build.specs.Refusal.{refusal_error}
use Rattle.cc_build.specs.Stage.{Stage, calls, beside, compile_planned, compiles_planned, opening_steps, folder_stages, compile_stages, later_stages, late_stages, planned_stages}
use Rattle.cc_build.specs.Way.{Way, Found}
use Rattle.cc_build.proofs.SourceLaws.{AreNotes, opening_notes}
use Rattle.cc_build.specs.Stage.Stage.{Calls, Asks, Tries, RunsOne, RunsAll}
use Rattle.cc_build.specs.Went.{Terms, Means, RanAll, RanOne, Did, Went, Stops, Halts, Halted, Ends, Partly, Goes}
use Rattle.cc_build.proofs.RanLaws.{Said, said_all, said_one}
use Rattle.cc_build.proofs.Trying.{done_of, done_silent, broken_of, broken_silent}

-- ---- a part that went through the first of its stages

pub went_partly : (t : Terms) (stages : List Stage) (part : List Event) (x y : Means) → Went t stages part x y → Partly t stages part x y
went_partly t [] part x y w = w
went_partly t (s ∷ ss) part x y w = inr (inr (w.0, w.1, w.2, (w.3.0, w.3.1, went_partly t ss w.1 w.2 y w.3.2)))

halts_partly : (t : Terms) (refusal : Option ErrorSeen) (stages : List Stage) (part : List Event) (e : ErrorSeen) (x y : Means) → Halts t refusal stages part e x y → Partly t stages part x y
halts_partly t refusal [] part e x y h = (h.1, h.2)
halts_partly t refusal (s ∷ ss) part e x y (inl h) = inl (h.1, h.2)
halts_partly t refusal (s ∷ ss) part e x y (inr h) = inr (inl (e, h))

-- these stages were done, and then the first of those
partly_behind : (t : Terms) (a b : List Stage) (p q : List Event) (x y z : Means) → Went t a p x y → Partly t b q y z → Partly t (a ++ b) (p ++ q) x z
partly_behind t [] b p q x y z w v = subst (λ (l : List Event). Partly t b (l ++ q) x z) (sym w.0) (subst (λ (m : Means). Partly t b q m z) w.1 v)
partly_behind t (s ∷ a) b p q x y z w v = inr (inr (w.0, w.1 ++ q, w.2, (ap (λ l. l ++ q) w.3.0 ∙ append_assoc w.0 w.1 q, w.3.1, partly_behind t a b w.1 q w.2 y z w.3.2 v)))

pub halted_partly : (t : Terms) (refusal : Option ErrorSeen) (stages : List Stage) (part : List Event) (e : ErrorSeen) (x y : Means) → Halted t refusal stages part e x y → Partly t stages part x y
halted_partly t refusal stages part e x y h =
    subst (λ (l : List Stage). Partly t l part x y) (sym h.stages_are) (subst (λ (l : List Event). Partly t (h.before ++ h.after) l x y) (sym h.cut)
    (partly_behind t h.before h.after h.front h.rest x h.y y h.went (halts_partly t refusal h.after h.rest e h.y y h.halts)))

pub ended_partly : {T : Type 0} (t : Terms) (refusal : Option ErrorSeen) (stages : List Stage) (part : List Event) (r : Result T ErrorSeen) (x y : Means) → Ends t refusal stages part r x y → Partly t stages part x y
ended_partly t refusal stages part (Ok v) x y o = went_partly t stages part x y o.1
ended_partly t refusal stages part (Err e) x y o = halted_partly t refusal stages part e x y o

-- ---- stages without an archive command

abbrev is_archive_command : Planned → Bool
is_archive_command p = is_archive_role p.role

abbrev is_command : Step → Bool
is_command (Runs role cmd) = true
is_command _ = false

-- a stage that runs an archive command, or calls for a command
abbrev pub may_archive : Stage → Bool
may_archive (Calls step) = is_command step
may_archive Asks = false
may_archive (Tries refused p) = is_archive_command p
may_archive (RunsOne p) = is_archive_command p
may_archive (RunsAll ps) = list_any is_archive_command ps

-- none of these stages runs an archive command
abbrev pub NoArchive : List Stage → Type 0
NoArchive stages = list_any may_archive stages ≡ false

-- no event is one of an archive command
abbrev pub IsSilent : List Event → Type 0
IsSilent part = list_any is_archive_event part ≡ false

pub no_archive_then : (a b : List Stage) → NoArchive a → NoArchive b → NoArchive (a ++ b)
no_archive_then a b m n = list_any-append may_archive a b ∙ or_from (list_any may_archive a) (list_any may_archive b) m n

silent_then : (a b : List Event) → IsSilent a → IsSilent b → IsSilent (a ++ b)
silent_then a b m n = list_any-append is_archive_event a b ∙ or_from (list_any is_archive_event a) (list_any is_archive_event b) m n

silent_one : (event : Event) (part : List Event) → part ≡ event ∷ [] → is_archive_event event ≡ false → IsSilent part
silent_one event part is none = ap (list_any is_archive_event) is ∙ or_from (is_archive_event event) false none refl

silent_none : (part : List Event) → part ≡ [] → IsSilent part
silent_none part none = ap (list_any is_archive_event) none

-- an archive command stands in no such part
never : (part before after : List Event) (event : Event) → IsSilent part → part ≡ before ++ event ∷ after → is_archive_event event ≡ true → ⊥
never part before after event none is archives =
    let all : list_any is_archive_event (before ++ event ∷ after) ≡ false = ap (list_any is_archive_event) (sym is) ∙ none in
    let behind : list_any is_archive_event (event ∷ after) ≡ false = (or_parts (list_any is_archive_event before) (list_any is_archive_event (event ∷ after)) (sym (list_any-append is_archive_event before (event ∷ after)) ∙ all)).1 in
    let here : is_archive_event event ≡ false = (or_parts (is_archive_event event) (list_any is_archive_event after) behind).0 in
    absurd (cc)

-- ---- the events of commands of other roles

asks_archive : Asked → Bool
asks_archive a = is_archive_role a.role

lacks_archive : (Role × CommandSeen) → Bool
lacks_archive m = is_archive_role m.0

-- where no test passes, none passes among the first of a list or behind them
none_taken : {X : Type 0} (test : X → Bool) (n : ℕ) (xs : List X) → list_any test xs ≡ false → (list_any test (take n xs) ≡ false) × (list_any test (drop n xs) ≡ false)
none_taken test n xs none = or_parts (list_any test (take n xs)) (list_any test (drop n xs)) (sym (list_any-append test (take n xs) (drop n xs)) ∙ ap (list_any test) (take-append-drop n xs) ∙ none)

asked_none : (shows : Shows) (ps : List Planned) → list_any is_archive_command ps ≡ false → list_any asks_archive (asked shows ps) ≡ false
unfolding asks_archive
asked_none shows [] none = refl
asked_none shows (p ∷ ps) none =
    let k = or_parts (is_archive_command p) (list_any is_archive_command ps) none in
    or_from (is_archive_command p) (list_any asks_archive (asked shows ps)) k.0 (asked_none shows ps k.1)

lacking_none : (ps : List Planned) → list_any is_archive_command ps ≡ false → list_any lacks_archive (map (λ p. (p.role, p.cmd)) ps) ≡ false
unfolding lacks_archive
lacking_none [] none = refl
lacking_none (p ∷ ps) none =
    let k = or_parts (is_archive_role p.role) (list_any is_archive_command ps) none in
    or_from (is_archive_role p.role) (list_any lacks_archive (map (λ c. (c.role, c.cmd)) ps)) k.0 (lacking_none ps k.1)

missing_none : (ps : List Planned) (e : RunError) → list_any is_archive_command ps ≡ false → list_any lacks_archive (missing_in ps e) ≡ false
missing_none ps (ToolNotFound place) none = lacking_none (take 1 (drop place ps)) (none_taken is_archive_command 1 (drop place ps) (none_taken is_archive_command place ps none).1).0
missing_none ps e none = refl

by_answer : (ps : List Planned) (result : Result (Unit {0}) RunError) → list_any is_archive_command ps ≡ false → list_any lacks_archive (missing_by ps result) ≡ false
by_answer ps (Ok v) none = refl
by_answer ps (Err e) none = missing_none ps e none

-- an event of a run is one of an archive command only by its role
run_silent : (part : List Event) → list_all is_of_run part ≡ true → list_any asks_archive (started part) ≡ false → list_any lacks_archive (missing part) ≡ false → IsSilent part
unfolding asks_archive lacks_archive
run_silent [] own s m = refl
run_silent (Started id role cmd pipes held ∷ part) own s m =
    let k = or_parts (is_archive_role role) (list_any asks_archive (started part)) s in
    or_from (is_archive_role role) (list_any is_archive_event part) k.0 (run_silent part own k.1 m)
run_silent (Missing role cmd ∷ part) own s m =
    let k = or_parts (is_archive_role role) (list_any lacks_archive (missing part)) m in
    or_from (is_archive_role role) (list_any is_archive_event part) k.0 (run_silent part own s k.1)
run_silent (Ran role cmd pipes status out err ∷ part) own s m = absurd (cc)
run_silent (event ∷ part) own s m = run_silent part (and_parts (is_of_run event) (list_all is_of_run part) own).1 s m

commands_silent : (shows : Shows) (stop : Bool) (ps : List Planned) (part : List Event) (result : Result (Unit {0}) RunError) → list_any is_archive_command ps ≡ false → Said shows stop ps part result → IsSilent part
commands_silent shows stop ps part result none s =
    run_silent part s.own
    (ap (list_any asks_archive) s.begun ∙ (none_taken asks_archive s.count (asked shows ps) (asked_none shows ps none)).0)
    (ap (list_any lacks_archive) s.missing_is ∙ by_answer ps result none)

module _ (t : Terms) (part : List Event) (result : Result (Unit {0}) RunError) (x y : Means) where
  all_silent : (ps : List Planned) → list_any is_archive_command ps ≡ false → RanAll t ps part result x y → IsSilent part
  all_silent ps none h = commands_silent t.shows t.shows.stop ps part result none (said_all t ps part result x y h)

  one_silent : (p : Planned) → is_archive_command p ≡ false → RanOne t p part result x y → IsSilent part
  one_silent p none h = commands_silent t.shows false (p ∷ []) part result (or_from (is_archive_command p) false none refl) (said_one t p part result x y h)

-- ---- the events of stages without an archive command

ran_no_call : (b : Bool) (role : Role) (cmd : CommandSeen) (step : Step) → is_command step ≡ false → (if b then Runs role cmd ∷ [] else []) ≡ step ∷ [] → ⊥
ran_no_call true role cmd step none e = let same : Runs role cmd ≡ step = cc in let yes : true ≡ false = ap is_command same ∙ none in absurd (cc)
ran_no_call false role cmd step none e = cc

call_silent : (step : Step) (event : Event) → is_command step ≡ false → step_of event ≡ step ∷ [] → is_archive_event event ≡ false
call_silent step (Started id role cmd pipes held) none e = absurd (cc)
call_silent step (Missing role cmd) none e = absurd (cc)
call_silent step (Ran role cmd pipes status out err) none e = absurd (ran_no_call (is_success status) role cmd step none e)
call_silent step event none e = refl

refusal_silent : (step : Step) (event : Event) → is_command step ≡ false → Refuses step event → is_archive_event event ≡ false
refusal_silent (Runs role cmd) event none r = absurd (cc)
refusal_silent step (Started id role cmd pipes held) none r = no_refusal step r
  where
    no_refusal : (step : Step) → Refuses step (Started id role cmd pipes held) → is_archive_event (Started id role cmd pipes held) ≡ false
    no_refusal (Runs r c) k = absurd k
    no_refusal (Makes scope path) k = absurd k
    no_refusal (Removes path) k = absurd k
    no_refusal (Writes path bytes) k = absurd k
    no_refusal (Copies from to) k = absurd k
    no_refusal (Finds path) k = absurd k
    no_refusal (Says message) k = absurd k
    no_refusal (Prints kind bytes) k = absurd k
    no_refusal Lists k = absurd k
refusal_silent (Makes scope path) (Missing role cmd) none r = absurd r
refusal_silent (Removes path) (Missing role cmd) none r = absurd r
refusal_silent (Writes path bytes) (Missing role cmd) none r = absurd r
refusal_silent (Copies from to) (Missing role cmd) none r = absurd r
refusal_silent (Finds path) (Missing role cmd) none r = absurd r
refusal_silent (Says message) (Missing role cmd) none r = absurd r
refusal_silent (Prints kind bytes) (Missing role cmd) none r = absurd r
refusal_silent Lists (Missing role cmd) none r = absurd r
refusal_silent (Makes scope path) (Ran role cmd pipes status out err) none r = absurd r
refusal_silent (Removes path) (Ran role cmd pipes status out err) none r = absurd r
refusal_silent (Writes path bytes) (Ran role cmd pipes status out err) none r = absurd r
refusal_silent (Copies from to) (Ran role cmd pipes status out err) none r = absurd r
refusal_silent (Finds path) (Ran role cmd pipes status out err) none r = absurd r
refusal_silent (Says message) (Ran role cmd pipes status out err) none r = absurd r
refusal_silent (Prints kind bytes) (Ran role cmd pipes status out err) none r = absurd r
refusal_silent Lists (Ran role cmd pipes status out err) none r = absurd r
refusal_silent step event none r = refl

asked_silent_one : (event : Event) → is_asked event ≡ true → is_archive_event event ≡ false
asked_silent_one (Started id role cmd pipes held) e = absurd (cc)
asked_silent_one (Missing role cmd) e = absurd (cc)
asked_silent_one (Ran role cmd pipes status out err) e = absurd (cc)
asked_silent_one event e = refl

asked_silent : (part : List Event) → list_all is_asked part ≡ true → IsSilent part
asked_silent [] all = refl
asked_silent (event ∷ part) all =
    let k = and_parts (is_asked event) (list_all is_asked part) all in
    or_from (is_archive_event event) (list_any is_archive_event part) (asked_silent_one event k.0) (asked_silent part k.1)

did_silent : (t : Terms) (s : Stage) (part : List Event) (x y : Means) → may_archive s ≡ false → Did t s part x y → IsSilent part
did_silent t (Calls step) part x y none d = silent_one d.0 part d.1.0 (call_silent step d.0 none d.1.1)
did_silent t Asks part x y none d = asked_silent part d.0
did_silent t (Tries refused p) part x y none d = done_silent p refused part none (done_of t p part refused d.0)
did_silent t (RunsOne p) part x y none d = one_silent t part (Ok tt) x y p none d
did_silent t (RunsAll ps) part x y none d = all_silent t part (Ok tt) x y ps none d

pub stop_silent : (t : Terms) (s : Stage) (part : List Event) (e : ErrorSeen) (x y : Means) → may_archive s ≡ false → Stops t s part e x y → IsSilent part
stop_silent t (Calls step) part e x y none d = silent_one d.0 part d.1.0 (refusal_silent step d.0 none d.1.1)
stop_silent t Asks part e x y none d = asked_silent part d.1
stop_silent t (Tries refused p) part e x y none d = broken_silent p part none (broken_of t.shows p part d.0 d.1.0 d.1.1)
stop_silent t (RunsOne p) part e x y none d = one_silent t part (Err d.0) x y p none d.1.0
stop_silent t (RunsAll ps) part e x y none d = all_silent t part (Err d.0) x y ps none d.1.0

-- a part of stages of which none archives has no archive command
pub partly_silent : (t : Terms) (stages : List Stage) (part : List Event) (x z : Means) → NoArchive stages → Partly t stages part x z → IsSilent part
partly_silent t [] part x z none p = silent_none part p.0
partly_silent t (s ∷ ss) part x z none (inl p) = silent_none part p.0
partly_silent t (s ∷ ss) part x z none (inr (inl p)) = stop_silent t s part p.0 x z (or_parts (may_archive s) (list_any may_archive ss) none).0 p.1
partly_silent t (s ∷ ss) part x z none (inr (inr p)) =
    let k = or_parts (may_archive s) (list_any may_archive ss) none in
    ap (list_any is_archive_event) p.3.0 ∙ silent_then p.0 p.1 (did_silent t s p.0 x p.2 k.0 p.3.1) (partly_silent t ss p.1 p.2 z k.1 p.3.2)

-- ---- archive commands stand behind

-- an archive command stands behind a part that has none
past : (front rest before after : List Event) (event : Event) → IsSilent front → is_archive_event event ≡ true → front ++ rest ≡ before ++ event ∷ after → (more : List Event) × ((before ≡ front ++ more) × (rest ≡ more ++ event ∷ after))
past [] rest before after event none is e = (before, (refl, e))
past (f ∷ front) rest [] after event none is e =
    let k = or_parts (is_archive_event f) (list_any is_archive_event front) none in
    let same : f ≡ event = cc in
    let both : true ≡ false = sym is ∙ ap is_archive_event (sym same) ∙ k.0 in
    absurd (cc)
past (f ∷ front) rest (b ∷ before) after event none is e =
    let k = or_parts (is_archive_event f) (list_any is_archive_event front) none in
    let same : b ≡ f = cc in
    let tail : front ++ rest ≡ before ++ event ∷ after = cc in
    let r = past front rest before after event k.1 is tail in
    (r.0, (ap (λ l. b ∷ l) r.1.0 ∙ ap (λ x. x ∷ (front ++ r.0)) same, r.1.1))

joined : (before front more runs rest : List Event) → before ≡ front ++ more → more ≡ runs ++ rest → before ≡ (front ++ runs) ++ rest
joined before front more runs rest e f = e ∙ ap (λ l. front ++ l) f ∙ sym (append_assoc front runs rest)

-- what stands before it went through all of the first stages
behind_first : (t : Terms) (first more : List Stage) (part before after : List Event) (event : Event) (x z : Means) → NoArchive first → Partly t (first ++ more) part x z → part ≡ before ++ event ∷ after → is_archive_event event ≡ true → (runs rest : List Event) × (y : Means) × ((before ≡ runs ++ rest) × Went t first runs x y)
behind_first t [] more part before after event x z none p is archives = ([], before, x, (refl, (refl, refl)))
behind_first t (s ∷ first) more part before after event x z none (inl p) is archives = absurd (never part before after event (silent_none part p.0) is archives)
behind_first t (s ∷ first) more part before after event x z none (inr (inl p)) is archives =
    absurd (never part before after event (stop_silent t s part p.0 x z (or_parts (may_archive s) (list_any may_archive first) none).0 p.1) is archives)
behind_first t (s ∷ first) more part before after event x z none (inr (inr p)) is archives =
    let k = or_parts (may_archive s) (list_any may_archive first) none in
    let c = past p.0 p.1 before after event (did_silent t s p.0 x p.2 k.0 p.3.1) archives (sym p.3.0 ∙ is) in
    let r = behind_first t first more p.1 c.0 after event p.2 z k.1 p.3.2 c.1.1 archives in
    (p.0 ++ r.0, r.1, r.2, (joined before p.0 c.0 r.0 r.1 c.1.0 r.3.0, (p.0, r.0, p.2, (refl, p.3.1, r.3.1))))

-- a part of stages that begin with these archives behind them, if it archives at all
pub archives_behind : (t : Terms) (first stages : List Stage) (part : List Event) (x y : Means) → (silent : NoArchive first) → Partly t stages part x y → ((rest : List Stage) × (stages ≡ first ++ rest)) ⊎ NoArchive stages → (before after : List Event) (event : Event) → part ≡ before ++ event ∷ after → is_archive_event event ≡ true → (runs rest : List Event) × ((before ≡ runs ++ rest) × Goes t first runs)
archives_behind t first stages part x y none p (inl k) before after event is archives =
    let r = behind_first t first k.0 part before after event x y none (subst (λ (l : List Stage). Partly t l part x y) k.1 p) is archives in
    (r.0, r.1, (r.3.0, (x, r.2, r.3.1)))
archives_behind t first stages part x y none p (inr alone) before after event is archives =
    absurd (never part before after event (partly_silent t stages part x y alone p) is archives)

-- ---- the stages of a compile run

pub no_folder_archives : (set : BuildConfig) (env : EnvSeen) → NoArchive (folder_stages set env)
unfolding folder_stages folder_steps
no_folder_archives set env = by_files (is_empty set.files)
  where
    by_files : (empty : Bool) → NoArchive (calls (if empty then [] else Makes Build (dir_of set env) ∷ []))
    by_files true = refl
    by_files false = refl

pub no_line_archives : (kind : LineKind) (lines : List (List ℕ)) → NoArchive (calls (prints kind lines))
unfolding prints
no_line_archives kind [] = refl
no_line_archives kind (line ∷ lines) = no_line_archives kind lines

-- nor does a step that prints, says or asks for the folder
pub no_note_archives : (steps : List Step) → AreNotes steps → NoArchive (calls steps)
no_note_archives [] h = refl
no_note_archives (Runs role cmd ∷ steps) h = absurd (cc)
no_note_archives (Makes scope path ∷ steps) h = absurd (cc)
no_note_archives (Removes path ∷ steps) h = absurd (cc)
no_note_archives (Writes path bytes ∷ steps) h = absurd (cc)
no_note_archives (Copies from to ∷ steps) h = absurd (cc)
no_note_archives (Finds path ∷ steps) h = no_note_archives steps h
no_note_archives (Says message ∷ steps) h = no_note_archives steps h
no_note_archives (Prints kind bytes ∷ steps) h = no_note_archives steps h
no_note_archives (Lists ∷ steps) h = absurd (cc)

compiles_alone : (here : Option (List ℕ)) (f : Object → CommandSeen) (objects : List Object) → list_any is_archive_command (map (λ object. compile_planned here object (f object)) objects) ≡ false
compiles_alone here f [] = refl
compiles_alone here f (object ∷ objects) = compiles_alone here f objects

no_beside_archives : (ps : List Planned) → list_any is_archive_command ps ≡ false → NoArchive (beside ps)
no_beside_archives [] h = refl
no_beside_archives (p ∷ []) h = h
no_beside_archives (p ∷ q ∷ ps) h = or_from (list_any is_archive_command (p ∷ q ∷ ps)) false h refl

pub no_compile_archives : (set : BuildConfig) (env : EnvSeen) (found : Found) (look : Look) → NoArchive (compile_stages set env found look)
unfolding compile_stages compiles_planned
no_compile_archives set env found look =
    no_archive_then (calls (opening_steps set env found look)) (beside (compiles_planned set env found.here look)) (no_note_archives (opening_steps set env found look) (opening_notes set env found look))
    (no_beside_archives (compiles_planned set env found.here look) (compiles_alone found.here (compile_in set env look) (objects_of set env)))

-- neither the folder nor the questions nor the sources archive
pub no_source_archives : (set : BuildConfig) (env : EnvSeen) (found : Found) (look : Look) → NoArchive (folder_stages set env ++ Asks ∷ compile_stages set env found look)
no_source_archives set env found look = no_archive_then (folder_stages set env) (Asks ∷ compile_stages set env found look) (no_folder_archives set env) (no_compile_archives set env found look)

-- these stages begin with those of the folder, the questions and the sources, or none of them archives
abbrev pub IsOrdered : (folder compile stages : List Stage) → Type 0
IsOrdered folder compile stages = ((rest : List Stage) × (stages ≡ (folder ++ Asks ∷ compile) ++ rest)) ⊎ NoArchive stages

by_checks : (early disabled late : Bool) (folder compile more : List Stage) → NoArchive folder → IsOrdered folder compile (if early then [] else folder ++ (if disabled then [] else Asks ∷ (if late then [] else compile ++ more)))
by_checks true disabled late folder compile more none = inr refl
by_checks false true late folder compile more none = inr (no_archive_then folder [] none refl)
by_checks false false true folder compile more none = inr (no_archive_then folder (Asks ∷ []) none refl)
by_checks false false false folder compile more none = inl (more, sym (append_assoc folder (Asks ∷ compile) more))

pub planned : (set : BuildConfig) (env : EnvSeen) (way : Way) (look : Look) (output : List ℕ) → IsOrdered (folder_stages set env) (compile_stages set env way.found look) (planned_stages set env way look output)
unfolding planned_stages late_stages
planned set env way look output =
    by_checks (is_some (early_refusal set env output)) (is_disabled env) (is_some (late_refusal set env look)) (folder_stages set env) (compile_stages set env way.found look)
    (later_stages set env way look output) (no_folder_archives set env)

-- a compile run archives behind the folder, the questions and all sources
pub ordered : {T : Type 0} (t : Terms) (set : BuildConfig) (env : EnvSeen) (way : Way) (look : Look) (output : List ℕ) (part : List Event) (r : Result T ErrorSeen) (x y : Means) → Ends t (refusal_error set env look output) (planned_stages set env way look output) part r x y → ArchivesLast t set env way.found look part
ordered t set env way look output part r x y o = λ before after event is archives.
    let stages = planned_stages set env way look output in
    let first = folder_stages set env ++ Asks ∷ compile_stages set env way.found look in
    let found = archives_behind t first stages part x y (no_source_archives set env way.found look) (ended_partly t (refusal_error set env look output) stages part r x y o) (planned set env way look output) before after event is archives in
    record { runs = found.0; rest = found.1; cut = found.2.0; compiled = found.2.1 }
