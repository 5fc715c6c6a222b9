-- What the program answers where it expands a source, and what follows from it.
use Rattle.std.proofs.Common.{◌≡◌, ◌⊎◌, inl, inr, ◌∙◌, refl, sym, ap, subst, ℕ, List, [], ◌∷◌, ◌++◌, Bool, true, false, if◌then◌else◌, ◌||◌, Option, Some, None, Result, Ok, Err, append-nil, append_assoc}
use Rattle.std.specs.List.{list_any}
use Rattle.std.proofs.lemmas.Grind.{flat_map-append}
use Rattle.std.proofs.lemmas.List.Folds.{list_any-append}
use Rattle.cc_host.specs.Part.{Step, step_of, IsPartly, IsWhole}
use Rattle.cc_host.specs.Part.Step.{Runs, Prints, Lists}
use Rattle.cc_host.specs.Question.{Look, Agrees, answers, Holds}
use Rattle.cc_host.specs.declared.event.Event.{Event}
use Rattle.cc_host.specs.declared.event.Event.TheVariants.{Ran, Printed, Removed, Wrote, Copied, Here, Said, Made, Listed}
use Rattle.cc_host.specs.declared.event.LineKind.{LineKind}
use Rattle.cc_host.specs.declared.event.LineKind.TheVariants.{Expanded as ExpandedLine}
use Rattle.cc_host.specs.declared.event.Scope.TheVariants.{Build as Building, Probe as ForProbes}
use Rattle.cc_host.specs.Status.{is_success}
use Rattle.cc_host.specs.declared.question.Outcome.{Outcome as Verdicts}
use Rattle.cc_host.specs.declared.question.Question.{Question}
use Rattle.cc_host.proofs.Parts.{partly_whole}
use Rattle.cc_plan.specs.Asking.{is_of_children}
use Rattle.cc_plan.specs.Questions.{PlanAsks}
use Rattle.cc_flags.specs.Given.{first_of}
use Rattle.cc_run.specs.Part.{missing, missing_of}
use Rattle.cc_run.specs.declared.planned.Planned.{Planned}
use Rattle.cc_tool.proofs.Asides.{asked_around, asked_none, none_then}
use Rattle.cc_tool.proofs.SomeLemmas.{some_agree}
use Rattle.cc_tool.specs.Asked.{question_events}
use Rattle.cc_build.specs.Attempts.{attempt_of, attempts, to_attempt}
use Rattle.cc_build.specs.Build.{BuildSeen, AsksByPlan, probes}
use Rattle.cc_build.specs.Captured.{with_vars, Captures, CaptureEnds}
use Rattle.cc_build.specs.Compiler.{tool_error, tool_steps}
use Rattle.cc_build.specs.Course.{CallsEnd}
use Rattle.cc_build.specs.Error.{ErrorSeen, no_memory}
use Rattle.cc_build.specs.Expand.{unexpanded_error, RunsTool, ExpandEnds, ExpandedEnds}
use Rattle.cc_build.specs.Failed.{HasFault, is_fault, ran_badly}
use Rattle.cc_build.specs.Outcome.{Outcome, IsCausedBy}
use Rattle.cc_build.specs.Promises.{NothingRuns, FaultsEnd}
use Rattle.cc_build.specs.Shows.{shows_of}
use Rattle.cc_build.specs.Told.{expand_reads, name_steps}
use Rattle.cc_build.specs.Way.{Firsts}
use Rattle.cc_build.specs.Went.{terms, means}
use Rattle.cc_build.proofs.ExpandFaults.{expanded_faultless, tells_faults}
use Rattle.cc_build.proofs.ExpandFirst.{both_childless, partly_untried, sole_none, sole_then, told_tool, asking_untried, told_names, telling_untried, tells_sole}
use Rattle.cc_build.proofs.ExpandLaws.{given_attempts, gives_none}
use Rattle.cc_build.proofs.FaultLaws.{partly_faults, stopped_fault, unstopped, then_faults}
use Rattle.cc_build.proofs.Looks.{agrees_parts}
use Rattle.cc_command.specs.Answer.{AnswersError, ended_well, ended_wanting}
use Rattle.cc_command.specs.Archived.{Says}
use Rattle.cc_command.specs.Expanded.{PrintsOutput, ExpandsSource, Expanding, ListsThenExpands, ExpandJobEnds, Expanded, expand_error, expansion_in, ignored_in, IsExpanded, IsFailed, IsSole, ExpandPromises}
use Rattle.cc_command.specs.Promises.{PrintsLast, FaultsLast, IsLine}
use Rattle.cc_command.specs.Shown.{listed_build}
use Rattle.cc_command.specs.declared.ended.Ended.{Ended}
use Rattle.cc_command.proofs.ArchivedLaws.{says_last, says_line}
use Rattle.cc_command.proofs.PromiseLaws.{faults_behind, known_memory}
use Rattle.cc_build.proofs.PrintedLaws.{IsChildless, or_false, childless_then, calls_outcome}
use Rattle.cc_command.proofs.ShownLaws.{childless_line, childless_settled, outcome_partly}

-- ---- what is behind another part

none_behind : {X : Type 0} (a b : List X) → a ++ b ≡ [] → b ≡ []
none_behind [] b h = h
none_behind (x ∷ a) b h = absurd (cc)

any_behind : (f : Event → Bool) (a b : List Event) → list_any f b ≡ true → list_any f (a ++ b) ≡ true
any_behind f a b h = list_any-append f a b ∙ by_front (list_any f a) (list_any f b) h
  where
    by_front : (x y : Bool) → y ≡ true → (x || y) ≡ true
    by_front true y k = refl
    by_front false y k = k

first_none : {X : Type 0} (a b : Option X) → first_of a b ≡ None → (a ≡ None) × (b ≡ None)
first_none None b h = (refl, h)
first_none (Some x) b h = absurd (cc)

-- the event that printed these bytes
printed_is : (event : Event) (kind : LineKind) (bytes : List ℕ) → step_of event ≡ Prints kind bytes ∷ [] → event ≡ Printed kind bytes
printed_is (Ran role cmd pipes status out err) kind bytes h = absurd (by_status (is_success status) h)
  where
    by_status : (b : Bool) → (if b then Runs role cmd ∷ [] else []) ≡ Prints kind bytes ∷ [] → ⊥
    by_status true k = cc
    by_status false k = cc
printed_is (Made Building path) kind bytes h = absurd (cc)
printed_is (Made ForProbes path) kind bytes h = absurd (cc)
printed_is (Removed path how) kind bytes h = absurd (cc)
printed_is (Wrote path written) kind bytes h = absurd (cc)
printed_is (Copied a_file to_file) kind bytes h = absurd (cc)
printed_is (Here here) kind bytes h = absurd (cc)
printed_is (Said message) kind bytes h = absurd (cc)
printed_is (Printed k b) kind bytes h = cc
printed_is (Listed vars) kind bytes h = absurd (cc)
printed_is event kind bytes h = absurd (cc)

-- ---- a source that is expanded by some verdicts

module _ (listens : Bool) (b : BuildSeen) (look : Look) where
  abbrev p : Planned
  p = expansion_in b look

  -- where nothing is refused: memory was wanted, or a call of the host failed, or the command did
  abbrev IsKnown : ErrorSeen → List Event → Type 0
  IsKnown e part = (e ≡ no_memory) ⊎ (HasFault part ⊎ IsFailed part)

  known_behind : (e : ErrorSeen) (a rest : List Event) → IsKnown e rest → IsKnown e (a ++ rest)
  known_behind e a rest (inl memory) = inl memory
  known_behind e a rest (inr (inl fault)) = inr (inl (any_behind is_fault a rest fault))
  known_behind e a rest (inr (inr (inl lacks))) = inr (inr (inl (λ none. lacks (none_behind (missing a) (missing rest) (sym (flat_map-append missing_of a rest) ∙ none)))))
  known_behind e a rest (inr (inr (inr badly))) = inr (inr (inr (any_behind ran_badly a rest badly)))

  module _ (accepted : expand_error b look ≡ None) where
    neither_refuses : (unexpanded_error b.config b.env ≡ None) × (tool_error b.config b.env look ≡ None)
    neither_refuses = first_none (unexpanded_error b.config b.env) (tool_error b.config b.env look) accepted

    clash : (refusal : Option ErrorSeen) (e : ErrorSeen) → refusal ≡ None → refusal ≡ Some e → ⊥
    clash refusal e none some = let two : None ≡ Some e = sym none ∙ some in cc

    expand_known : (e : ErrorSeen) (part : List Event) → ExpandEnds b listens (Err e) look part → IsKnown e part
    expand_known e part (inl (none, inl memory)) = inl memory
    expand_known e part (inl (none, inr refused)) = absurd (clash (unexpanded_error b.config b.env) e neither_refuses.0 refused)
    expand_known e part (inr (fine, inl lacks)) = by_cause lacks.1.1
      where
        by_cause : IsCausedBy (tool_error b.config b.env look) (tool_steps b.config b.env listens lacks.0 look) part e → IsKnown e part
        by_cause (inl memory) = inl memory
        by_cause (inr (inl refused)) = absurd (clash (tool_error b.config b.env look) e neither_refuses.1 refused)
        by_cause (inr (inr stopped)) = inr (inl (stopped_fault (tool_steps b.config b.env listens lacks.0 look) part e (told_tool listens b look lacks.0) lacks.1.0 stopped))
    expand_known e part (inr (fine, inr ran)) = subst (IsKnown e) (sym ran.cut) (known_behind e ran.asking ran.run (gives_none (shows_of b.config b.env listens) p (ignored_in b look) ran.run e ran.gives))

  -- ---- and the variables told of that were read for it

  abbrev told_steps : Firsts → List Step
  told_steps firsts = name_steps expand_reads b.config b.env firsts look

  tells_faultless : (output : List ℕ) (part : List Event) → ExpandedEnds b listens (Ok output) look part → list_any is_fault part ≡ false
  tells_faultless output part h =
      ap (list_any is_fault) h.cut ∙ list_any-append is_fault h.expanding h.telling
      ∙ or_false (list_any is_fault h.expanding) (list_any is_fault h.telling) (expanded_faultless listens b look output h.expanding h.expands) (unstopped h.telling h.told.1.1.1.unstopped)

  tells_known : expand_error b look ≡ None → (e : ErrorSeen) (part : List Event) → ExpandedEnds b listens (Err e) look part → IsKnown e part
  tells_known accepted e part (inl h) = expand_known accepted e part h
  tells_known accepted e part (inr h) = subst (IsKnown e) (sym h.1.cut) (known_behind e h.1.expanding h.1.telling (by_cause h.1.told.1.1.1))
    where
      by_cause : IsCausedBy None (told_steps h.1.told.0) h.1.telling e → IsKnown e h.1.telling
      by_cause (inl memory) = inl memory
      by_cause (inr (inl refused)) = absurd (let two : None ≡ Some e = refused in cc)
      by_cause (inr (inr stopped)) = inr (inl (stopped_fault (told_steps h.1.told.0) h.1.telling e (told_names listens b look h.1.told.0) h.1.told.1.1.0 stopped))

  -- ---- and its output printed

  abbrev line_steps : List ℕ → List Step
  line_steps output = Prints ExpandedLine output ∷ []

  module _ (r : Result (Unit {0}) ErrorSeen) (part : List Event) (k : PrintsOutput listens b r look part) where
    line_ends : Outcome None (line_steps k.output) k.printed r × IsChildless k.printed
    line_ends = calls_outcome b None (line_steps k.output) k.printed r refl refl k.prints

    line_partly : IsPartly (line_steps k.output) k.printed
    line_partly = outcome_partly None (line_steps k.output) k.printed r line_ends.0

    printed_faults : FaultsEnd part
    printed_faults = subst FaultsEnd (sym k.cut) (then_faults k.run k.printed (tells_faultless k.output k.run k.expands) (partly_faults (line_steps k.output) k.printed line_partly))

    printed_sole : IsChildless part → IsSole p part
    printed_sole none = subst (IsSole p) (sym k.cut) (sole_then p k.run k.printed (tells_sole listens b look (Ok k.output) k.run k.expands (both_childless k.run k.printed part k.cut none).0) (partly_untried (line_steps k.output) refl k.printed line_partly line_ends.1))

  source_faults : (r : Result (Unit {0}) ErrorSeen) (part : List Event) → ExpandsSource listens b r look part → FaultsEnd part
  source_faults (Ok v) part k = printed_faults (Ok v) part k
  source_faults (Err e) part (inl h) = tells_faults listens b look (Err e) part h
  source_faults (Err e) part (inr k) = printed_faults (Err e) part k

  source_sole : (r : Result (Unit {0}) ErrorSeen) (part : List Event) → ExpandsSource listens b r look part → IsChildless part → IsSole p part
  source_sole (Ok v) part k none = printed_sole (Ok v) part k none
  source_sole (Err e) part (inl h) none = tells_sole listens b look (Err e) part h none
  source_sole (Err e) part (inr k) none = printed_sole (Err e) part k none

  source_known : expand_error b look ≡ None → (e : ErrorSeen) (part : List Event) → ExpandsSource listens b (Err e) look part → IsKnown e part
  source_known accepted e part (inl h) = tells_known accepted e part h
  source_known accepted e part (inr k) = subst (IsKnown e) (sym k.cut) (known_behind e k.run k.printed (by_cause (line_ends (Err e) part k).0.1))
    where
      by_cause : IsCausedBy None (line_steps k.output) k.printed e → IsKnown e k.printed
      by_cause (inl memory) = inl memory
      by_cause (inr (inl refused)) = absurd (let two : None ≡ Some e = refused in cc)
      by_cause (inr (inr stopped)) = inr (inl (stopped_fault (line_steps k.output) k.printed e refl (line_ends (Err e) part k).0.0 stopped))

-- ---- the job

module _ (listens : Bool) (steady : Bool) (world : Question → Verdicts) (b : BuildSeen) where
  -- the source couldn't be expanded
  pub unexpanding : (part : List Event) (e : ErrorSeen) → AsksByPlan steady world b part → IsChildless part → Holds (answers part) (λ look. ExpandedEnds b listens (Err e) look part) → Expanding listens steady world b part (Err e)
  unexpanding part e asks none h = record { asks = asks; childless = none; ends = λ look agree. inl (h.under look agree) }

  -- it was, and its output was printed so
  pub expanding : b.config.repeat_lines ≡ true → (output : List ℕ) (run printed part : List Event) (r : Result (Unit {0}) ErrorSeen) → part ≡ run ++ printed → AsksByPlan steady world b run → IsChildless run → Holds (answers run) (λ look. ExpandedEnds b listens (Ok output) look run) → question_events printed ≡ [] → CallsEnd (Prints ExpandedLine output ∷ []) printed r → Expanding listens steady world b part r
  expanding repeats output run printed part r cut asks none h silent prints = record {
    asks = subst (AsksByPlan steady world b) (sym cut) (asked_around steady world (probes b) (PlanAsks b.config b.env) [] run printed refl silent asks);
    childless = ap (list_any is_of_children) cut ∙ childless_then run printed none (calls_outcome b None (Prints ExpandedLine output ∷ []) printed r refl refl prints).1;
    ends = λ look agree.
        let expands = h.under look (agrees_parts look run printed (subst (λ (l : List Event). Agrees look (answers l)) cut agree)).0 in
        source r look (record {
          output = output;
          run = run;
          printed = printed;
          cut = cut;
          expands = expands;
          all = expands.told.1.0 repeats;
          prints = prints;
        });
  }
    where
      source : (r : Result (Unit {0}) ErrorSeen) (look : Look) → PrintsOutput listens b r look part → ExpandsSource listens b r look part
      source (Ok v) look k = k
      source (Err e) look k = inr k

  no_question : (line : List Event) → IsLine line → question_events line ≡ []
  no_question line (inl none) = ap question_events none
  no_question line (inr (inl printed)) = ap question_events printed.1
  no_question line (inr (inr faulted)) = ap question_events faulted.1

  -- no question is asked by no event
  nothing_asked : (part : List Event) → question_events part ≡ [] → AsksByPlan steady world (listed_build b part) part
  nothing_asked part none = asked_none steady world (probes (listed_build b part)) (PlanAsks (listed_build b part).config (listed_build b part).env) part none

  captured_ends : (e : ErrorSeen) (listing : List Event) → CaptureEnds listing (Err e) → IsPartly (Lists ∷ []) listing × IsChildless listing
  captured_ends e listing (inl h) = let o = calls_outcome {T = Unit {0}} b None (Lists ∷ []) listing (Err e) refl refl h in (o.0.0, o.1)
  captured_ends e listing (inr h) = let o = calls_outcome {T = Unit {0}} b None (Lists ∷ []) listing (Ok tt) refl refl h.1 in (partly_whole (Lists ∷ []) listing o.0.1, o.1)

  -- the variables were not listed, or memory for their snapshot was wanted
  pub unlisted : (listing line part : List Event) (e : ErrorSeen) (ended : Ended) → part ≡ listing ++ line → question_events listing ≡ [] → CaptureEnds listing (Err e) → AnswersError e line ended → Expanded listens steady world b part ended
  unlisted listing line part e ended cut none h says = record {
    asks = nothing_asked part (ap question_events cut ∙ none_then listing line none (no_question line (says_line (Err e) line ended says)));
    run = listing;
    line = line;
    cut = cut;
    childless = (captured_ends e listing h).1;
    result = Err e;
    ends = λ look agree. inl h;
    says = says;
  }

  -- they were listed, and then the source was expanded so
  module _ (after : BuildSeen) (listing run : List Event) (k : Captures b after listing) (result : Result (Unit {0}) ErrorSeen) (line : List Event) (ended : Ended) where
    abbrev taken : BuildSeen
    taken = record b { env = with_vars b.env k.vars }

    abbrev whole : List Event
    whole = Listed k.vars ∷ (run ++ line)

    job_so : (r : Result (Unit {0}) ErrorSeen) (look : Look) → ExpandsSource listens taken r look run → ExpandJobEnds listens b r look (Listed k.vars ∷ run)
    job_so (Ok v) look h = record { vars = k.vars; rest = run; cut = refl; expands = h }
    job_so (Err e) look h = inr (record { vars = k.vars; rest = run; cut = refl; expands = h })

    listed : Expanding listens steady world taken run result → Says result line ended → Expanded listens steady world b whole ended
    listed s says = record {
      asks = asked_around steady world (probes taken) (PlanAsks taken.config taken.env) (Listed k.vars ∷ []) run line refl (no_question line (says_line result line ended says)) s.asks;
      run = Listed k.vars ∷ run;
      line = line;
      cut = refl;
      childless = s.childless;
      result = result;
      ends = λ look agree. job_so result look (s.ends look (agrees_parts look run line agree).0);
      says = says;
    }

    pub expanded_so : (part : List Event) → part ≡ (listing ++ run) ++ line → Expanding listens steady world after run result → Says result line ended → Expanded listens steady world b part ended
    expanded_so part cut s says =
        subst (λ (l : List Event). Expanded listens steady world b l ended) (sym (cut ∙ ap (λ l. (l ++ run) ++ line) k.listed))
        (listed (subst (λ (v : BuildSeen). Expanding listens steady world v run result) k.is s) says)

-- ---- what follows from it

not_done : (e : ErrorSeen) (line : List Event) (ended : Ended) → Says (Err e) line ended → ended.status ≡ 0 → ⊥
not_done e line ended (inl printed) zero_is = let is : ended.status ≡ 1 = ap (λ (v : Ended). v.status) printed.0 in absurd (cc)
not_done e line ended (inr wanting) zero_is = let is : ended.status ≡ 3 = ap (λ (v : Ended). v.status) wanting.0 in absurd (cc)

line_untried : (line : List Event) → IsLine line → attempts line ≡ []
line_untried line (inl none) = ap attempts none
line_untried line (inr (inl printed)) = ap attempts printed.1
line_untried line (inr (inr faulted)) = ap attempts faulted.1

any_front : (f : Event → Bool) (a b : List Event) → list_any f a ≡ true → list_any f (a ++ b) ≡ true
any_front f a b h = list_any-append f a b ∙ ap (λ x. x || list_any f b) h

known_front : (listens : Bool) (b : BuildSeen) (look : Look) (e : ErrorSeen) (a rest : List Event) → IsKnown listens b look e a → IsKnown listens b look e (a ++ rest)
known_front listens b look e a rest (inl memory) = inl memory
known_front listens b look e a rest (inr (inl fault)) = inr (inl (any_front is_fault a rest fault))
known_front listens b look e a rest (inr (inr (inl lacks))) = inr (inr (inl (λ none. lacks (front_none (missing a) (missing rest) (sym (flat_map-append missing_of a rest) ∙ none)))))
  where
    front_none : {X : Type 0} (x y : List X) → x ++ y ≡ [] → x ≡ []
    front_none [] y h = refl
    front_none (v ∷ x) y h = absurd (cc)
known_front listens b look e a rest (inr (inr (inr badly))) = inr (inr (inr (any_front ran_badly a rest badly)))

module _ (listens : Bool) (steady : Bool) (world : Question → Verdicts) (b : BuildSeen) where
  abbrev heard_by : List (List ℕ × List ℕ) → BuildSeen
  heard_by vars = record b { env = with_vars b.env vars }

  listed_is : (part run line rest : List Event) (vars : List (List ℕ × List ℕ)) → part ≡ run ++ line → run ≡ Listed vars ∷ rest → listed_build b part ≡ heard_by vars
  listed_is part run line rest vars cut is = ap (listed_build b) (cut ∙ ap (λ l. l ++ line) is)

  job_faults : (r : Result (Unit {0}) ErrorSeen) (look : Look) (run : List Event) → ExpandJobEnds listens b r look run → FaultsEnd run
  job_faults (Ok v) look run k = subst FaultsEnd (sym k.cut) (then_faults (Listed k.vars ∷ []) k.rest refl (source_faults listens (heard_by k.vars) look (Ok v) k.rest k.expands))
  job_faults (Err e) look run (inl h) = partly_faults (Lists ∷ []) run (captured_ends listens steady world b e run h).0
  job_faults (Err e) look run (inr k) = subst FaultsEnd (sym k.cut) (then_faults (Listed k.vars ∷ []) k.rest refl (source_faults listens (heard_by k.vars) look (Err e) k.rest k.expands))

  module _ (part : List Event) (ended : Ended) (s : Expanded listens steady world b part ended) where
    its_line : IsLine s.line
    its_line = says_line s.result s.line ended s.says

    pub expanded_last : PrintsLast part ended
    expanded_last = says_last s.result part s.run s.line ended s.cut s.says

    pub expanded_faults : FaultsLast part
    expanded_faults =
        let some = some_agree (answers part) s.asks.once in
        faults_behind part s.run s.line s.cut (job_faults s.result some.0 s.run (s.ends some.0 some.1)) its_line

    pub expanded_settled : NothingRuns part
    expanded_settled =
        childless_settled part (ap (list_any is_of_children) s.cut ∙ childless_then s.run s.line s.childless (childless_line s.line its_line))

    lists_sole : (r : Result (Unit {0}) ErrorSeen) (look : Look) → ListsThenExpands listens b r look s.run → IsSole (expansion_in (listed_build b part) look) s.run
    lists_sole r look k =
        subst (λ (v : BuildSeen). IsSole (expansion_in v look) s.run) (sym (listed_is part s.run s.line k.rest k.vars s.cut k.cut))
        (subst (IsSole (expansion_in (heard_by k.vars) look)) (sym k.cut)
        (source_sole listens (heard_by k.vars) look r k.rest k.expands (both_childless (Listed k.vars ∷ []) k.rest s.run k.cut s.childless).1))

    job_sole : (r : Result (Unit {0}) ErrorSeen) (look : Look) → ExpandJobEnds listens b r look s.run → IsSole (expansion_in (listed_build b part) look) s.run
    job_sole (Ok v) look k = lists_sole (Ok v) look k
    job_sole (Err e) look (inl h) = sole_none (expansion_in (listed_build b part) look) s.run (partly_untried (Lists ∷ []) refl s.run (captured_ends listens steady world b e s.run h).0 s.childless)
    job_sole (Err e) look (inr k) = lists_sole (Err e) look k

    sole_so : (look : Look) → Agrees look (answers part) → IsSole (expansion_in (listed_build b part) look) part
    sole_so look agree =
        subst (IsSole (expansion_in (listed_build b part) look)) (sym s.cut)
        (sole_then (expansion_in (listed_build b part) look) s.run s.line (job_sole s.result look (s.ends look agree)) (line_untried s.line its_line))

    module _ (look : Look) where
      job_known : (e : ErrorSeen) → expand_error (listed_build b part) look ≡ None → ExpandJobEnds listens b (Err e) look s.run → IsKnown listens (listed_build b part) look e s.run
      job_known e accepted (inl (inl h)) = by_cause (o.0.1)
        where
          o : Outcome {T = Unit {0}} None (Lists ∷ []) s.run (Err e) × IsChildless s.run
          o = calls_outcome {T = Unit {0}} b None (Lists ∷ []) s.run (Err e) refl refl h

          by_cause : IsCausedBy None (Lists ∷ []) s.run e → IsKnown listens (listed_build b part) look e s.run
          by_cause (inl memory) = inl memory
          by_cause (inr (inl refused)) = absurd (let two : None ≡ Some e = refused in cc)
          by_cause (inr (inr stopped)) = inr (inl (stopped_fault (Lists ∷ []) s.run e refl o.0.0 stopped))
      job_known e accepted (inl (inr h)) = inl h.0
      job_known e accepted (inr k) =
          let same = listed_is part s.run s.line k.rest k.vars s.cut k.cut in
          subst (λ (l : List Event). IsKnown listens (listed_build b part) look e l) (sym k.cut)
          (known_behind listens (listed_build b part) look e (Listed k.vars ∷ []) k.rest
          (source_known listens (heard_by k.vars) look (subst (λ (v : BuildSeen). expand_error v look ≡ None) same accepted) e k.rest k.expands))

      complete_by : (r : Result (Unit {0}) ErrorSeen) → Says r s.line ended → ExpandJobEnds listens b r look s.run → expand_error (listed_build b part) look ≡ None → (IsFailed part → ⊥) → (HasFault part → ⊥) → (ended ≡ ended_well) ⊎ (ended ≡ ended_wanting)
      complete_by (Ok v) says h accepted failed fault = inl says.0
      complete_by (Err e) (inr wanting) h accepted failed fault = inr wanting.0
      complete_by (Err e) (inl printed) h accepted failed fault =
          absurd (by_known (subst (IsKnown listens (listed_build b part) look e) (sym s.cut) (known_front listens (listed_build b part) look e s.run s.line (job_known e accepted h))))
        where
          by_known : IsKnown listens (listed_build b part) look e part → ⊥
          by_known (inl memory) = known_memory e printed.1 memory
          by_known (inr (inl some)) = fault some
          by_known (inr (inr some)) = failed some

      done_by : (r : Result (Unit {0}) ErrorSeen) → Says r s.line ended → ExpandJobEnds listens b r look s.run → ended.status ≡ 0 → IsExpanded listens (listed_build b part) look part
      done_by (Err e) says h zero_is = absurd (not_done e s.line ended says zero_is)
      done_by (Ok v) says h zero_is =
          subst (λ (w : BuildSeen). IsExpanded listens w look part) (sym (listed_is part s.run s.line h.rest h.vars s.cut h.cut)) (record {
            accepted = rw (fine, tool.found.1.0) refl;
            vars = h.vars;
            asking = tool.asking;
            run = tool.run;
            telling = x.expands.telling;
            output = x.output;
            cut = whole_cut;
            warns_of_link = tool.found.0;
            warned = tool.found.1.1;
            status = tool.gives.0;
            success = tool.gives.1.0;
            ran = tool.gives.1.1;
            told = subst (λ (f : Firsts). IsWhole (name_steps expand_reads (heard_by h.vars).config (heard_by h.vars).env f look) x.expands.telling) x.all x.expands.told.1.1.1;
            alone = one;
          })
        where
          taken : BuildSeen
          taken = heard_by h.vars

          x : PrintsOutput listens (heard_by h.vars) (Ok v) look h.rest
          x = h.expands

          fine : unexpanded_error (heard_by h.vars).config (heard_by h.vars).env ≡ None
          fine = x.expands.expands.0

          tool : RunsTool (heard_by h.vars) listens (Ok x.output) look x.expands.expanding
          tool = x.expands.expands.1

          line_event : List Event
          line_event = Printed ExpandedLine x.output ∷ []

          printed_so : x.printed ≡ Printed ExpandedLine x.output ∷ []
          printed_so =
              let w = (x.prints (terms (shows_of b.config b.env listens) None None) (means 0 0 0 0)).1 in
              w.3.0 ∙ ap (λ l. w.0 ++ l) w.3.2.0 ∙ append-nil w.0 ∙ w.3.1.1.0 ∙ ap (λ e. e ∷ []) (printed_is w.3.1.0 ExpandedLine x.output w.3.1.1.1)

          behind : List Event
          behind = x.expands.telling ++ Printed ExpandedLine x.output ∷ []

          rest_cut : h.rest ≡ tool.asking ++ (tool.run ++ behind)
          rest_cut =
              x.cut ∙ ap (λ l. l ++ x.printed) x.expands.cut ∙ append_assoc x.expands.expanding x.expands.telling x.printed
              ∙ ap (λ l. l ++ (x.expands.telling ++ x.printed)) tool.cut ∙ append_assoc tool.asking tool.run (x.expands.telling ++ x.printed)
              ∙ ap (λ l. tool.asking ++ (tool.run ++ (x.expands.telling ++ l))) printed_so

          whole_cut : part ≡ Listed h.vars ∷ (tool.asking ++ (tool.run ++ behind))
          whole_cut = s.cut ∙ ap (λ l. s.run ++ l) says.1 ∙ append-nil s.run ∙ h.cut ∙ ap (λ l. Listed h.vars ∷ l) rest_cut

          childless_rest : IsChildless h.rest
          childless_rest = (both_childless (Listed h.vars ∷ []) h.rest s.run h.cut s.childless).1

          childless_run_of : IsChildless x.run
          childless_run_of = (both_childless x.run x.printed h.rest x.cut childless_rest).0

          childless_expanding : IsChildless x.expands.expanding
          childless_expanding = (both_childless x.expands.expanding x.expands.telling x.run x.expands.cut childless_run_of).0

          behind_untried : attempts behind ≡ []
          behind_untried =
              flat_map-append attempt_of x.expands.telling (Printed ExpandedLine x.output ∷ []) ∙ append-nil (attempts x.expands.telling)
              ∙ telling_untried listens (heard_by h.vars) look x.output (Ok x.output) x.run x.expands childless_run_of

          one : attempts part ≡ to_attempt (expansion_in (heard_by h.vars) look) ∷ []
          one =
              ap attempts whole_cut ∙ flat_map-append attempt_of tool.asking (tool.run ++ behind)
              ∙ ap (λ l. l ++ attempts (tool.run ++ behind)) (asking_untried listens (heard_by h.vars) look (Ok x.output) x.expands.expanding tool childless_expanding)
              ∙ flat_map-append attempt_of tool.run behind ∙ ap (λ l. attempts tool.run ++ l) behind_untried ∙ append-nil (attempts tool.run)
              ∙ given_attempts (shows_of (heard_by h.vars).config (heard_by h.vars).env listens) (expansion_in (heard_by h.vars) look) (ignored_in (heard_by h.vars) look) tool.run x.output tool.gives

    pub expand_promises : ExpandPromises listens steady world b part ended
    expand_promises = record {
      answer = s;
      expanded = λ zero_is look agree. done_by look s.result s.says (s.ends look agree) zero_is;
      sole = sole_so;
      complete = λ look agree accepted failed fault. complete_by look s.result s.says (s.ends look agree) accepted failed fault;
    }
