-- Stages that take no token end so whatever the pool and its seat, and those that start no child on any terms.
use Rattle.std.proofs.Common.{inl, inr, ℕ, List, [], ◌∷◌, ◌++◌, Bool, true, false, if◌then◌else◌, Option, Result, Ok, Err, refl, ap, subst}
use Rattle.cc_env.specs.Env.{EnvSeen}
use Rattle.cc_host.specs.Part.{Step}
use Rattle.cc_host.specs.Question.{Look}
use Rattle.cc_host.specs.declared.event.Event.{Event}
use Rattle.cc_plan.specs.Plan.{lists_of_run, removal_steps, run_has_one_form, run_asks_folder, copy_steps}
use Rattle.cc_flags.specs.declared.settings.BuildConfig.{BuildConfig}
use Rattle.cc_run.specs.declared.error.RunError.{RunError}
use Rattle.cc_run.specs.declared.planned.Planned.{Planned}
use Rattle.cc_run.specs.declared.planned.Shows.{Shows}
use Rattle.cc_build.specs.Error.{ErrorSeen}
use Rattle.cc_build.specs.Stage.{Stage, calls, in_turn, tried, written, writings, removal_stages, library_commands, archive_stages, library_stages, asking_steps, ready_stages, copy_stages, writing_stages}
use Rattle.cc_build.specs.Stage.Stage.{Calls, Asks, Tries, RunsOne, RunsAll}
use Rattle.cc_build.specs.Way.{Writing}
use Rattle.cc_build.specs.Went.{Terms, Means, terms, means, RanOne, Did, Went, Stops, Halts, Halted, Ends}

-- ---- stages that take no token

-- commands that run beside each other take tokens
abbrev pub IsAlone : Stage → Type 0
IsAlone (RunsAll ps) = ⊥
IsAlone _ = Unit {0}

abbrev pub AreAlone : List Stage → Type 0
AreAlone [] = Unit {0}
AreAlone (s ∷ ss) = IsAlone s × AreAlone ss

pub alone_then : (a b : List Stage) → AreAlone a → AreAlone b → AreAlone (a ++ b)
alone_then [] b h k = k
alone_then (s ∷ a) b h k = (h.0, alone_then a b h.1 k)

pub alone_behind : (a b : List Stage) → AreAlone (a ++ b) → AreAlone b
alone_behind [] b h = h
alone_behind (s ∷ a) b h = alone_behind a b h.1

pub alone_before : (a b : List Stage) → AreAlone (a ++ b) → AreAlone a
alone_before [] b h = tt
alone_before (s ∷ a) b h = (h.0, alone_before a b h.1)

pub alone_unless : (b : Bool) (stages : List Stage) → AreAlone stages → AreAlone (if b then [] else stages)
alone_unless true stages h = tt
alone_unless false stages h = h

pub alone_calls : (steps : List Step) → AreAlone (calls steps)
alone_calls [] = tt
alone_calls (step ∷ steps) = (tt, alone_calls steps)

alone_in_turn : (ps : List Planned) → AreAlone (in_turn ps)
alone_in_turn [] = tt
alone_in_turn (p ∷ ps) = (tt, alone_in_turn ps)

alone_tried : (refused : Bool) (ps : List Planned) → AreAlone (tried refused ps)
alone_tried refused [] = tt
alone_tried refused (p ∷ ps) = (tt, alone_in_turn ps)

alone_written : (one_form is_plain : Bool) (ps : List Planned) → AreAlone (written one_form is_plain ps)
alone_written true is_plain ps = alone_in_turn ps
alone_written false is_plain ps = alone_tried is_plain ps

-- the removal of the old library, the list and the commands of the new one
pub alone_library : (set : BuildConfig) (env : EnvSeen) (writing : Writing) (look : Look) (output : List ℕ) → AreAlone (library_stages set env writing look output)
unfolding removal_stages ready_stages archive_stages copy_stages
alone_library set env writing look output =
    let ready = writings (lists_of_run set env look output) ++ asking_steps (run_asks_folder set env look output) writing.here in
    let cmds = library_commands set env look writing output in
    alone_then (calls (removal_steps set env output)) _ (alone_calls (removal_steps set env output))
    (alone_then (calls ready) _ (alone_calls ready)
    (alone_then (written (run_has_one_form set env look) writing.is_plain cmds) _ (alone_written (run_has_one_form set env look) writing.is_plain cmds) (alone_calls (copy_steps set env output))))

-- what was left of the turns, on a seat with these counts
abbrev turned : Means → ℕ → ℕ → ℕ → Means
turned x faults taken load = means x.left faults taken load

module _ (shows : Shows) (patience old new : Option ℕ) (faults taken load : ℕ) where
  abbrev on : Option ℕ → Terms
  on total = terms shows total patience

  abbrev seat : Means → Means
  seat x = turned x faults taken load

  one_alone : (p : Planned) (part : List Event) (result : Result (Unit {0}) RunError) (x y : Means) → RanOne (on old) p part result x y → RanOne (on new) p part result (seat x) (seat y)
  one_alone p part result x y r = record {
    log = r.log;
    before = r.before;
    behind = r.behind;
    old = r.old;
    new = r.new;
    sound = r.sound;
    least = r.least;
    run = r.run;
    lines = r.lines;
    seat = (refl, refl, refl);
  }

  did_alone : (s : Stage) (part : List Event) (x y : Means) → IsAlone s → Did (on old) s part x y → Did (on new) s part (seat x) (seat y)
  did_alone (Calls step) part x y alone d = (d.0, (d.1.0, d.1.1, ap seat d.1.2))
  did_alone Asks part x y alone d = (d.0, ap seat d.1)
  did_alone (Tries true p) part x y alone d = (d.0, ap seat d.1)
  did_alone (Tries false p) part x y alone d = (d.0, ap seat d.1)
  did_alone (RunsOne p) part x y alone d = one_alone p part (Ok tt) x y d
  did_alone (RunsAll ps) part x y alone d = absurd alone

  stops_alone : (s : Stage) (part : List Event) (e : ErrorSeen) (x y : Means) → IsAlone s → Stops (on old) s part e x y → Stops (on new) s part e (seat x) (seat y)
  stops_alone (Calls step) part e x y alone d = (d.0, (d.1.0, d.1.1, d.1.2, ap seat d.1.3))
  stops_alone Asks part e x y alone d = (d.0, d.1, ap seat d.2)
  stops_alone (Tries refused p) part e x y alone d = (d.0, (d.1.0, d.1.1, d.1.2, ap seat d.1.3))
  stops_alone (RunsOne p) part e x y alone d = (d.0, (one_alone p part (Err d.0) x y d.1.0, d.1.1))
  stops_alone (RunsAll ps) part e x y alone d = absurd alone

  pub went_alone : (stages : List Stage) (part : List Event) (x z : Means) → AreAlone stages → Went (on old) stages part x z → Went (on new) stages part (seat x) (seat z)
  went_alone [] part x z alone w = (w.0, ap seat w.1)
  went_alone (s ∷ ss) part x z alone w = (w.0, w.1, seat w.2, (w.3.0, did_alone s w.0 x w.2 alone.0 w.3.1, went_alone ss w.1 w.2 z alone.1 w.3.2))

  halts_alone : (refusal : Option ErrorSeen) (stages : List Stage) (part : List Event) (e : ErrorSeen) (x y : Means) → AreAlone stages → Halts (on old) refusal stages part e x y → Halts (on new) refusal stages part e (seat x) (seat y)
  halts_alone refusal [] part e x y alone h = (h.0, h.1, ap seat h.2, h.3)
  halts_alone refusal (s ∷ ss) part e x y alone (inl h) = inl (h.0, h.1, ap seat h.2)
  halts_alone refusal (s ∷ ss) part e x y alone (inr stop) = inr (stops_alone s part e x y alone.0 stop)

  pub halted_alone : (refusal : Option ErrorSeen) (stages : List Stage) (part : List Event) (e : ErrorSeen) (x z : Means) → AreAlone stages → Halted (on old) refusal stages part e x z → Halted (on new) refusal stages part e (seat x) (seat z)
  halted_alone refusal stages part e x z alone h =
      let all : AreAlone (h.before ++ h.after) = subst AreAlone h.stages_are alone in
      record {
        before = h.before;
        after = h.after;
        front = h.front;
        rest = h.rest;
        y = seat h.y;
        stages_are = h.stages_are;
        cut = h.cut;
        went = went_alone h.before h.front x h.y (alone_before h.before h.after all) h.went;
        halts = halts_alone refusal h.after h.rest e h.y z (alone_behind h.before h.after all) h.halts;
      }

  -- they end so, whatever the pool
  pub ends_alone : {T : Type 0} (refusal : Option ErrorSeen) (stages : List Stage) (part : List Event) (r : Result T ErrorSeen) (x z : Means) → AreAlone stages → Ends (on old) refusal stages part r x z → Ends (on new) refusal stages part r (seat x) (seat z)
  ends_alone refusal stages part (Ok done) x z alone o = (o.0, went_alone stages part x z alone o.1)
  ends_alone refusal stages part (Err e) x z alone o = halted_alone refusal stages part e x z alone o

-- ---- stages that start no child

-- a call of the host, or questions
abbrev pub IsStill : Stage → Type 0
IsStill (Calls step) = Unit {0}
IsStill Asks = Unit {0}
IsStill _ = ⊥

abbrev pub AreStill : List Stage → Type 0
AreStill [] = Unit {0}
AreStill (s ∷ ss) = IsStill s × AreStill ss

pub still_calls : (steps : List Step) → AreStill (calls steps)
still_calls [] = tt
still_calls (step ∷ steps) = (tt, still_calls steps)

pub still_unless : (b : Bool) (stages : List Stage) → AreStill stages → AreStill (if b then [] else stages)
still_unless true stages h = tt
still_unless false stages h = h

pub still_then : (a b : List Stage) → AreStill a → AreStill b → AreStill (a ++ b)
still_then [] b h k = k
still_then (s ∷ a) b h k = (h.0, still_then a b h.1 k)

pub still_behind : (a b : List Stage) → AreStill (a ++ b) → AreStill b
still_behind [] b h = h
still_behind (s ∷ a) b h = still_behind a b h.1

pub still_before : (a b : List Stage) → AreStill (a ++ b) → AreStill a
still_before [] b h = tt
still_before (s ∷ a) b h = (h.0, still_before a b h.1)

module _ (t u : Terms) (v : Means) where
  did_still : (s : Stage) (part : List Event) (x y : Means) → IsStill s → Did t s part x y → Did u s part v v
  did_still (Calls step) part x y still d = (d.0, (d.1.0, d.1.1, refl))
  did_still Asks part x y still d = (d.0, refl)
  did_still (Tries refused p) part x y still d = absurd still
  did_still (RunsOne p) part x y still d = absurd still
  did_still (RunsAll ps) part x y still d = absurd still

  stops_still : (s : Stage) (part : List Event) (e : ErrorSeen) (x y : Means) → IsStill s → Stops t s part e x y → Stops u s part e v v
  stops_still (Calls step) part e x y still d = (d.0, (d.1.0, d.1.1, d.1.2, refl))
  stops_still Asks part e x y still d = (d.0, d.1, refl)
  stops_still (Tries refused p) part e x y still d = absurd still
  stops_still (RunsOne p) part e x y still d = absurd still
  stops_still (RunsAll ps) part e x y still d = absurd still

  pub went_still : (stages : List Stage) (part : List Event) (x z : Means) → AreStill stages → Went t stages part x z → Went u stages part v v
  went_still [] part x z still w = (w.0, refl)
  went_still (s ∷ ss) part x z still w = (w.0, w.1, v, (w.3.0, did_still s w.0 x w.2 still.0 w.3.1, went_still ss w.1 w.2 z still.1 w.3.2))

  halts_still : (refusal : Option ErrorSeen) (stages : List Stage) (part : List Event) (e : ErrorSeen) (x y : Means) → AreStill stages → Halts t refusal stages part e x y → Halts u refusal stages part e v v
  halts_still refusal [] part e x y still h = (h.0, h.1, refl, h.3)
  halts_still refusal (s ∷ ss) part e x y still (inl h) = inl (h.0, h.1, refl)
  halts_still refusal (s ∷ ss) part e x y still (inr stop) = inr (stops_still s part e x y still.0 stop)

  pub halted_still : (refusal : Option ErrorSeen) (stages : List Stage) (part : List Event) (e : ErrorSeen) (x z : Means) → AreStill stages → Halted t refusal stages part e x z → Halted u refusal stages part e v v
  halted_still refusal stages part e x z still h =
      let all : AreStill (h.before ++ h.after) = subst AreStill h.stages_are still in
      record {
        before = h.before;
        after = h.after;
        front = h.front;
        rest = h.rest;
        y = v;
        stages_are = h.stages_are;
        cut = h.cut;
        went = went_still h.before h.front x h.y (still_before h.before h.after all) h.went;
        halts = halts_still refusal h.after h.rest e h.y z (still_behind h.before h.after all) h.halts;
      }

  -- they end so on any terms, and use nothing up
  pub ends_still : {T : Type 0} (refusal : Option ErrorSeen) (stages : List Stage) (part : List Event) (r : Result T ErrorSeen) (x z : Means) → AreStill stages → Ends t refusal stages part r x z → Ends u refusal stages part r v v
  ends_still refusal stages part (Ok done) x z still o = (o.0, went_still stages part x z still o.1)
  ends_still refusal stages part (Err e) x z still o = halted_still refusal stages part e x z still o
