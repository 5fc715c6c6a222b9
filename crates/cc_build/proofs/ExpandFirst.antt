-- A source that is expanded: no command but the planned one is tried, and that once at most.
use Rattle.std.proofs.Common.{◌≡◌, inl, inr, ◌∙◌, refl, sym, ap, subst, List, ℕ, [], ◌∷◌, ◌++◌, Bool, true, false, if◌then◌else◌, ◌||◌, ◌&&◌, Result, Ok, Err, append-nil}
use Rattle.std.specs.List.{list_all, list_any}
use Rattle.std.proofs.lemmas.Bool.{and_parts}
use Rattle.std.proofs.lemmas.Grind.{flat_map-append}
use Rattle.std.proofs.lemmas.List.Folds.{list_all-append, list_any-append}
use Rattle.cc_host.specs.Part.{Step, step_of, stop_of, stops, done, left, StopsAt, IsPartly, IsWhole}
use Rattle.cc_host.specs.Part.Step.{Runs}
use Rattle.cc_host.specs.Question.{Look}
use Rattle.cc_host.specs.Status.{is_success}
use Rattle.cc_host.specs.declared.event.Event.{Event}
use Rattle.cc_host.specs.declared.event.Event.TheVariants.{Started, Missing, Ran, Fault}
use Rattle.cc_host.specs.declared.event.LineKind.TheVariants.{Rerun}
use Rattle.cc_host.proofs.Parts.{partly_whole}
use Rattle.cc_plan.specs.Asking.{is_of_children}
use Rattle.cc_plan.specs.Planned.{tool_of, warnings_of}
use Rattle.cc_plan.specs.Reruns.{rerun_names}
use Rattle.cc_run.specs.declared.planned.Planned.{Planned}
use Rattle.cc_build.specs.Attempts.{attempt_of, attempts, to_attempt, FirstOf}
use Rattle.cc_build.specs.Build.{BuildSeen}
use Rattle.cc_build.specs.Compiler.{tool_steps}
use Rattle.cc_build.specs.Error.{ErrorSeen}
use Rattle.cc_build.specs.Expand.{expansion, ignored_line, source_of, RunsTool, ExpandEnds, ExpandsAndTells, ExpandedEnds}
use Rattle.cc_build.specs.Shows.{shows_of}
use Rattle.cc_build.specs.Stage.{rerun_lines}
use Rattle.cc_build.specs.Told.{expand_reads, name_steps}
use Rattle.cc_build.specs.Way.{Firsts, chosen}
use Rattle.cc_build.proofs.ExpandFaults.{telling_partly}
use Rattle.cc_build.proofs.ExpandLaws.{Shape, gives_shape, shape_first}
use Rattle.cc_build.proofs.PrintedLaws.{IsChildless, is_told, told_printed, told_warned, told_refused, neither}

-- no command but this one was attempted, and this one no more than once
abbrev IsSole : Planned → List Event → Type 0
IsSole p part = FirstOf (p ∷ []) part

-- ---- parts in which no command is attempted

all_behind : {X : Type 0} (f : X → Bool) (a b : List X) → list_all f (a ++ b) ≡ true → list_all f b ≡ true
all_behind f a b h = (and_parts (list_all f a) (list_all f b) (sym (list_all-append f a b) ∙ h)).1

pub both_childless : (a b part : List Event) → part ≡ a ++ b → IsChildless part → IsChildless a × IsChildless b
both_childless a b part cut h = neither (list_any is_of_children a) (list_any is_of_children b) (sym (list_any-append is_of_children a b) ∙ sym (ap (list_any is_of_children) cut) ∙ h)

abbrev is_faulted : Event → Bool
is_faulted (Fault call why) = true
is_faulted _ = false

-- lines and a listing were done, and nothing but a fault ended it
untried : (part : List Event) → list_all is_told (done part) ≡ true → list_all is_faulted (stops part) ≡ true → IsChildless part → attempts part ≡ []
untried [] told ended none = refl
untried (Started id role cmd pipes held ∷ part) told ended none = absurd (cc)
untried (Missing role cmd ∷ part) told ended none = absurd (cc)
untried (Ran role cmd pipes status out err ∷ part) told ended none = absurd (by_status (is_success status) told ended)
  where
    by_status : (b : Bool) → list_all is_told ((if b then Runs role cmd ∷ [] else []) ++ done part) ≡ true → list_all is_faulted ((if b then [] else Ran role cmd pipes status out err ∷ []) ++ stops part) ≡ true → ⊥
    by_status true d s = cc
    by_status false d s = cc
untried (event ∷ part) told ended none =
    untried part (all_behind is_told (step_of event) (done part) told) (all_behind is_faulted (stop_of event) (stops part) ended) (neither (is_of_children event) (list_any is_of_children part) none).1

module _ (steps : List Step) (told : list_all is_told steps ≡ true) (part : List Event) where
  pub partly_untried : IsPartly steps part → IsChildless part → attempts part ≡ []
  partly_untried p none = untried part both.0 (by_left (left steps part) (stops part) both.1 p.stop) none
    where
      both : (list_all is_told (done part) ≡ true) × (list_all is_told (left steps part) ≡ true)
      both = and_parts (list_all is_told (done part)) (list_all is_told (left steps part)) (sym (list_all-append is_told (done part) (left steps part)) ∙ sym (ap (list_all is_told) p.begun) ∙ told)

      by_left : (rest : List Step) (events : List Event) → list_all is_told rest ≡ true → StopsAt rest events → list_all is_faulted events ≡ true
      by_left rest [] all stop = refl
      by_left [] (event ∷ events) all stop = absurd stop
      by_left (step ∷ rest) (event ∷ []) all stop = ap (λ e. is_faulted e && true) (told_refused step event (and_parts (is_told step) (list_all is_told rest) all).0 stop).2.0
      by_left (step ∷ rest) (event ∷ other ∷ events) all stop = absurd stop

  whole_untried : IsWhole steps part → IsChildless part → attempts part ≡ []
  whole_untried w none = partly_untried (partly_whole steps part w) none

-- ---- one command

pub sole_none : (p : Planned) (part : List Event) → attempts part ≡ [] → IsSole p part
sole_none p part none = (to_attempt p ∷ [], ap (λ l. l ++ to_attempt p ∷ []) (sym none))

pub sole_behind : (p : Planned) (a b : List Event) → attempts a ≡ [] → IsSole p b → IsSole p (a ++ b)
sole_behind p a b none s = (s.0, s.1 ∙ ap (λ l. l ++ s.0) (sym (flat_map-append attempt_of a b ∙ ap (λ l. l ++ attempts b) none)))

pub sole_then : (p : Planned) (a b : List Event) → IsSole p a → attempts b ≡ [] → IsSole p (a ++ b)
sole_then p a b s none = (s.0, s.1 ∙ ap (λ l. l ++ s.0) (sym (flat_map-append attempt_of a b ∙ ap (λ l. attempts a ++ l) none ∙ append-nil (attempts a))))

-- ---- a source that is expanded by some verdicts

module _ (listens : Bool) (b : BuildSeen) (look : Look) where
  abbrev p : Planned
  p = expansion b.config (tool_of b.config b.env look)

  abbrev told_steps : Firsts → List Step
  told_steps firsts = name_steps expand_reads b.config b.env firsts look

  pub told_tool : (warns_of_link : Bool) → list_all is_told (tool_steps b.config b.env listens warns_of_link look) ≡ true
  told_tool warns_of_link = told_warned b.config listens (warnings_of b.config b.env warns_of_link look)

  module _ (r : Result (List ℕ) ErrorSeen) (part : List Event) (h : RunsTool b listens r look part) where
    shape : Shape p h.run
    shape = gives_shape (shows_of b.config b.env listens) p (ignored_line (tool_of b.config b.env look).family (source_of b.config)) h.run r h.gives

    pub asking_untried : IsChildless part → attempts h.asking ≡ []
    asking_untried none = whole_untried (tool_steps b.config b.env listens h.found.0 look) (told_tool h.found.0) h.asking h.found.1.1 (both_childless h.asking h.run part h.cut none).0

    runs_sole : IsChildless part → IsSole p part
    runs_sole none = subst (IsSole p) (sym h.cut) (sole_behind p h.asking h.run (asking_untried none) (shape_first p h.run shape))

  expand_sole : (r : Result (List ℕ) ErrorSeen) (part : List Event) → ExpandEnds b listens r look part → IsChildless part → IsSole p part
  expand_sole (Ok output) part h none = runs_sole (Ok output) part h.1 none
  expand_sole (Err e) part (inl unasked) none = sole_none p part (ap attempts unasked.0)
  expand_sole (Err e) part (inr (fine, inl lacks)) none = sole_none p part (partly_untried (tool_steps b.config b.env listens lacks.0 look) (told_tool lacks.0) part lacks.1.0 none)
  expand_sole (Err e) part (inr (fine, inr ran)) none = runs_sole (Err e) part ran none

  pub told_names : (firsts : Firsts) → list_all is_told (told_steps firsts) ≡ true
  told_names firsts = told_printed Rerun (rerun_lines (chosen firsts.names (rerun_names expand_reads b.config b.env look)))

  module _ (output : List ℕ) (r : Result (List ℕ) ErrorSeen) (part : List Event) (h : ExpandsAndTells b listens output r look part) where
    pub telling_untried : IsChildless part → attempts h.telling ≡ []
    telling_untried none = partly_untried (told_steps h.told.0) (told_names h.told.0) h.telling (telling_partly listens b look output r part h) (both_childless h.expanding h.telling part h.cut none).1

    telling_sole : IsChildless part → IsSole p part
    telling_sole none = subst (IsSole p) (sym h.cut) (sole_then p h.expanding h.telling (expand_sole (Ok output) h.expanding h.expands (both_childless h.expanding h.telling part h.cut none).0) (telling_untried none))

  pub tells_sole : (r : Result (List ℕ) ErrorSeen) (part : List Event) → ExpandedEnds b listens r look part → IsChildless part → IsSole p part
  tells_sole (Ok output) part h none = telling_sole output (Ok output) part h none
  tells_sole (Err e) part (inl h) none = expand_sole (Err e) part h none
  tells_sole (Err e) part (inr h) none = telling_sole h.0 (Err e) part h.1 none
