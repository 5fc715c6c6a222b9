-- What a part says of a source that was expanded: by which command, and how it ended.
use Rattle.std.proofs.Common.{◌≡◌, ◌≢◌, ◌⊎◌, inl, inr, ℕ, List, [], ◌∷◌, ◌++◌, take, Bool, true, false, not, ◌||◌, Option, Some, None, Result, Ok, Err, refl, sym, ◌∙◌, ap, subst, append_assoc, append-nil}
use Rattle.std.specs.List.{list_all, list_any}
use Rattle.std.proofs.lemmas.Bool.{and_parts}
use Rattle.std.proofs.lemmas.Grind.{flat_map-append}
use Rattle.std.proofs.lemmas.List.Folds.{list_any-append}
use Rattle.cc_host.specs.Command.{CommandSeen}
use Rattle.cc_host.specs.Part.{since, is_probing}
use Rattle.cc_host.specs.Question.{Look, Answer, answer_of, answers, Holds}
use Rattle.cc_host.specs.declared.event.Event.{Event}
use Rattle.cc_host.specs.declared.event.Event.TheVariants.{Ran, Missing, Printed, Said, Fault}
use Rattle.cc_host.specs.declared.event.HostCall.TheVariants.{Output}
use Rattle.cc_host.specs.declared.event.OutputKind.TheVariants.{Capture}
use Rattle.cc_host.specs.declared.event.Role.{Role}
use Rattle.cc_host.specs.declared.event.Status.{Status}
use Rattle.cc_host.proofs.Parts.{since_since}
use Rattle.cc_plan.specs.Asking.{is_of_children}
use Rattle.cc_run.specs.Part.{missing, missing_of}
use Rattle.cc_run.specs.Output.{behind, IsOutput, IsRanTo, RanWhole}
use Rattle.cc_run.specs.Prints.{prints}
use Rattle.cc_run.specs.Texts.{announced}
use Rattle.cc_run.specs.declared.error.RunError.{RunError}
use Rattle.cc_run.specs.declared.error.RunError.TheVariants.{ToolNotFound, Failed as Fails, StartFault, WaitFault, HostFault, JobFault, TurnsSpent, NoMemory}
use Rattle.cc_run.specs.declared.planned.Planned.{Planned}
use Rattle.cc_run.specs.declared.planned.Shows.{Shows}
use Rattle.cc_tool.specs.Asked.{question_events}
use Rattle.cc_tool.proofs.Asides.{aside_answers}
use Rattle.cc_tool.specs.Tool.{ToolSeen}
use Rattle.cc_build.specs.Attempts.{attempt_of, attempts, to_attempt}
use Rattle.cc_build.specs.Build.{BuildSeen}
use Rattle.cc_build.specs.Compiler.{IsTool, ToolEnds}
use Rattle.cc_build.specs.Error.{ErrorSeen, no_memory}
use Rattle.cc_build.specs.Expand.{unexpanded_error, Gives, GivesBy, RunsTool, ExpandEnds}
use Rattle.cc_build.specs.Failed.{is_fault, ran_badly}
use Rattle.cc_build.specs.Promises.{FaultsEnd}
use Rattle.cc_build.specs.RunErrors.{run_error}
use Rattle.cc_build.specs.Went.{IsOf}
use Rattle.cc_build.proofs.Looks.{agrees_since}
use Rattle.cc_build.proofs.Trying.{notice_unprobed, IsLast, Done, Broken, is_line, all_lines, is_sole, done_sole, broken_sole, sole_asks_none, done_attempts, done_tells, broken_tells, broken_any, broken_first, done_faultless, broken_last, no_such_fault}

-- the command as it ran
abbrev ran : Shows → Planned → Status → List ℕ → List ℕ → Event
ran shows p status output stderr = Ran p.role p.cmd (record { out = Capture; hear = shows.warnings || shows.listens }) status output stderr

-- the command stands between lines, with a fault behind them, or it is missing
abbrev pub Shape : Planned → List Event → Type 0
Shape p part = Broken p part ⊎ Done p true part

module _ (shows : Shows) (p : Planned) (ignored : Option (List ℕ)) (part : List Event) where
  -- all lines behind it were printed
  to_end : (status : Status) (output : List ℕ) → IsRanTo shows p Capture true ignored status output part → Broken p part
  to_end status output r = record {
    front = prints (announced shows p.cmd);
    tried = ran shows p status output r.stderr ∷ [];
    rest = prints (behind shows p.cmd true ignored status r.stderr);
    last = [];
    cut = r.is ∙ ap (λ l. prints (announced shows p.cmd) ++ (ran shows p status output r.stderr ∷ l)) (sym (append-nil (prints (behind shows p.cmd true ignored status r.stderr))));
    lines_before = all_lines (announced shows p.cmd);
    lines_behind = all_lines (behind shows p.cmd true ignored status r.stderr);
    of_command = (refl, refl);
    ended = tt;
  }

  -- the first of them were
  part_way : (w : RanWhole shows p Capture true ignored part) (last : List Event) → w.rest ≡ last → IsLast last → Broken p part
  part_way w last is ended = record {
    front = prints (announced shows p.cmd);
    tried = ran shows p w.status w.output w.stderr ∷ [];
    rest = prints (take w.count (behind shows p.cmd true ignored w.status w.stderr));
    last = last;
    cut = w.is ∙ append_assoc (prints (announced shows p.cmd)) (ran shows p w.status w.output w.stderr ∷ prints (take w.count (behind shows p.cmd true ignored w.status w.stderr))) w.rest ∙ ap (λ l. prints (announced shows p.cmd) ++ (ran shows p w.status w.output w.stderr ∷ (prints (take w.count (behind shows p.cmd true ignored w.status w.stderr)) ++ l))) is;
    lines_before = all_lines (announced shows p.cmd);
    lines_behind = all_lines (take w.count (behind shows p.cmd true ignored w.status w.stderr));
    of_command = (refl, refl);
    ended = ended;
  }

  -- it wasn't run
  unrun : (front last : List Event) → part ≡ front ++ last → list_all is_line front ≡ true → IsLast last → Broken p part
  unrun front last cut lines ended = record { front = front; tried = []; rest = []; last = last; cut = cut; lines_before = lines; lines_behind = refl; of_command = tt; ended = ended }

  -- it is missing
  lacking : (place : ℕ) → IsOutput shows p Capture true ignored (Err (ToolNotFound place)) part → Done p true part
  lacking place h = record { front = prints (announced shows p.cmd); event = Missing p.role p.cmd; rest = []; cut = h.1; lines_before = all_lines (announced shows p.cmd); lines_behind = refl; try = (refl, refl, refl) }

  output_shape : (r : Result (List ℕ) RunError) → IsOutput shows p Capture true ignored r part → Shape p part
  output_shape (Ok output) h = inl (to_end h.0 output h.1.1)
  output_shape (Err (Fails place status)) h = inl (to_end status h.2.0 h.2.1)
  output_shape (Err (ToolNotFound place)) h = inr (lacking place h)
  output_shape (Err (StartFault place)) h = inl (unrun (prints (announced shows p.cmd)) (Fault Output h.1.0 ∷ []) h.1.1 (all_lines (announced shows p.cmd)) refl)
  output_shape (Err (HostFault call why)) (is, inl alone) = inl (unrun [] (Fault call why ∷ []) alone refl (notice_unprobed call is))
  output_shape (Err (HostFault call why)) (is, inr (w, last)) = inl (part_way w (Fault call why ∷ []) last (notice_unprobed call is))
  output_shape (Err NoMemory) (inl none) = inl (unrun [] [] none refl tt)
  output_shape (Err NoMemory) (inr (inl lines)) = inl (unrun (prints (announced shows p.cmd)) [] (lines ∙ sym (append-nil (prints (announced shows p.cmd)))) (all_lines (announced shows p.cmd)) tt)
  output_shape (Err NoMemory) (inr (inr (w, last))) = inl (part_way w [] last tt)
  output_shape (Err WaitFault) h = absurd h
  output_shape (Err JobFault) h = absurd h
  output_shape (Err TurnsSpent) h = absurd h

  pub gives_shape : (r : Result (List ℕ) ErrorSeen) → Gives shows p ignored r part → Shape p part
  gives_shape (Ok output) h = output_shape (Ok output) h
  gives_shape (Err e) h = output_shape (Err h.0) h.1.0

  -- ---- where it gave its output

  module _ (output : List ℕ) (h : Gives shows p ignored (Ok output) part) where
    whole : Broken p part
    whole = to_end h.0 output h.1.1

    -- no call of the host failed
    pub given_faultless : list_any is_fault part ≡ false
    unfolding whole to_end
    given_faultless = broken_any is_fault (λ kind bytes. refl) (λ message. refl) p part whole refl refl

    -- and the command was tried once
    pub given_attempts : attempts part ≡ to_attempt p ∷ []
    unfolding whole to_end
    given_attempts = broken_tells attempt_of (λ kind bytes. refl) (λ message. refl) p part whole

  -- ---- where it gave none

  -- a call of the host failed, the command is missing, or it ended with another status than 0
  abbrev IsSpoilt : Type 0
  IsSpoilt = (list_any is_fault part ≡ true) ⊎ ((missing part ≢ []) ⊎ (list_any ran_badly part ≡ true))

  or_there : (a b : Bool) → b ≡ true → (a || b) ≡ true
  or_there true b h = refl
  or_there false b h = h

  any_last : (g : Event → Bool) (front last : List Event) → part ≡ front ++ last → list_any g last ≡ true → list_any g part ≡ true
  any_last g front last cut h = ap (list_any g) cut ∙ list_any-append g front last ∙ or_there (list_any g front) (list_any g last) h

  spoilt : (error : RunError) → IsOutput shows p Capture true ignored (Err error) part → (error ≡ NoMemory) ⊎ IsSpoilt
  unfolding lacking
  spoilt (Fails place status) h =
      inr (inr (inr (any_last ran_badly (prints (announced shows p.cmd)) (ran shows p status h.2.0 h.2.1.stderr ∷ prints (behind shows p.cmd true ignored status h.2.1.stderr)) h.2.1.is (ap (λ b. not b || list_any ran_badly (prints (behind shows p.cmd true ignored status h.2.1.stderr))) h.1))))
  spoilt (ToolNotFound place) h =
      let lacks : missing part ≡ (p.role, p.cmd) ∷ [] = done_tells missing_of (λ kind bytes. refl) (λ message. refl) p part true (lacking place h) in
      inr (inr (inl (λ none. let clash : (p.role, p.cmd) ∷ [] ≡ [] = sym lacks ∙ none in cc)))
  spoilt (StartFault place) h = inr (inl (any_last is_fault (prints (announced shows p.cmd)) (Fault Output h.1.0 ∷ []) h.1.1 refl))
  spoilt (HostFault call why) (is, inl alone) = inr (inl (any_last is_fault [] (Fault call why ∷ []) alone (ap (λ b. not b || false) (notice_unprobed call is))))
  spoilt (HostFault call why) (is, inr (w, last)) =
      inr (inl (any_last is_fault (prints (announced shows p.cmd) ++ ran shows p w.status w.output w.stderr ∷ prints (take w.count (behind shows p.cmd true ignored w.status w.stderr))) w.rest w.is (ap (list_any is_fault) last ∙ ap (λ b. not b || false) (notice_unprobed call is))))
  spoilt NoMemory h = inl refl
  spoilt WaitFault h = absurd h
  spoilt JobFault h = absurd h
  spoilt TurnsSpent h = absurd h

  pub gives_none : (e : ErrorSeen) → Gives shows p ignored (Err e) part → (e ≡ no_memory) ⊎ IsSpoilt
  gives_none e h = by_cause (spoilt h.0 h.1.0) h.1.1
    where
      by_cause : (h.0 ≡ NoMemory) ⊎ IsSpoilt → IsOf (run_error (p ∷ []) h.0) e → (e ≡ no_memory) ⊎ IsSpoilt
      by_cause (inr spoilt) cause = inr spoilt
      by_cause (inl wants) (inl memory) = inl memory
      by_cause (inl wants) (inr is) = inl (is ∙ ap (run_error (p ∷ [])) wants)

sole_childless : (part : List Event) → list_all is_sole part ≡ true → list_any is_of_children part ≡ false
sole_childless [] h = refl
sole_childless (Printed kind bytes ∷ part) h = sole_childless part h
sole_childless (Said message ∷ part) h = sole_childless part h
sole_childless (Ran role cmd pipes status out err ∷ part) h = sole_childless part h
sole_childless (Missing role cmd ∷ part) h = sole_childless part h
sole_childless (Fault call why ∷ part) h = sole_childless part (and_parts _ _ h).1
sole_childless (event ∷ part) h = absurd (cc)

-- ---- what it tells

module _ (p : Planned) (part : List Event) where
  shape_sole : Shape p part → list_all is_sole part ≡ true
  shape_sole (inl b) = broken_sole p part b
  shape_sole (inr d) = done_sole p true part d

  -- it asks nothing
  pub shape_asks_none : Shape p part → question_events part ≡ []
  shape_asks_none s = sole_asks_none part (shape_sole s)

  -- it starts no child
  pub shape_childless : Shape p part → list_any is_of_children part ≡ false
  shape_childless s = sole_childless part (shape_sole s)

  -- behind its fault is nothing
  pub shape_faults : Shape p part → FaultsEnd part
  shape_faults (inl b) = λ before after call why real here. ([], broken_last p part before after call why b real here)
  shape_faults (inr d) = λ before after call why real here. absurd (no_such_fault part before after call why (done_faultless p true part d) real here)

  -- the command was tried at most once, and no other
  pub shape_first : Shape p part → (rest : List (Role × CommandSeen)) × (to_attempt p ∷ [] ≡ attempts part ++ rest)
  shape_first (inl b) = broken_first p part b
  shape_first (inr d) = ([], sym (ap (λ l. l ++ []) (done_attempts p true part d)))

-- ---- a source that is expanded

or_false : (a b : Bool) → a ≡ false → b ≡ false → (a || b) ≡ false
or_false true b p q = absurd (cc)
or_false false b p q = q

-- neither part of two is of a child
pub childless_since : (old mid new : List Event) → mid ≡ old ++ since old mid → new ≡ mid ++ since mid new → list_any is_of_children (since old mid) ≡ false → list_any is_of_children (since mid new) ≡ false → list_any is_of_children (since old new) ≡ false
childless_since old mid new first last p q =
    ap (list_any is_of_children) (since_since old mid new first last) ∙ list_any-append is_of_children (since old mid) (since mid new)
    ∙ or_false (list_any is_of_children (since old mid)) (list_any is_of_children (since mid new)) p q

-- the answers are those of the first part, where the other asks nothing
pub answers_behind : (old mid new : List Event) → mid ≡ old ++ since old mid → new ≡ mid ++ since mid new → question_events (since mid new) ≡ [] → (known : List Answer) → known ≡ answers (since old mid) → known ≡ answers (since old new)
answers_behind old mid new first last none known is =
    is ∙ sym (ap answers (since_since old mid new first last) ∙ flat_map-append answer_of (since old mid) (since mid new)
    ∙ ap (λ l. answers (since old mid) ++ l) (aside_answers (since mid new) none) ∙ append-nil (answers (since old mid)))

module _ (b : BuildSeen) (listens : Bool) where
  -- the checks refused it
  pub unexpanded : (known : List Answer) (part : List Event) (e : ErrorSeen) → part ≡ [] → (e ≡ no_memory) ⊎ (unexpanded_error b.config b.env ≡ Some e) → Holds known (λ look. ExpandEnds b listens (Err e) look part)
  unexpanded known part e none cause = record { under = λ look agree. inl (none, cause) }

  module _ (fine : unexpanded_error b.config b.env ≡ None) where
    -- no compiler was found
    pub no_tool : (part : List Event) (e : ErrorSeen) → Holds (answers part) (λ look. ToolEnds {T = ToolSeen} b.config b.env listens (Err e) look part) → Holds (answers part) (λ look. ExpandEnds b listens (Err e) look part)
    no_tool part e h = record { under = λ look agree. inr (fine, inl (h.under look agree)) }

    ends : (r : Result (List ℕ) ErrorSeen) (look : Look) (part : List Event) → RunsTool b listens r look part → ExpandEnds b listens r look part
    ends (Ok output) look part h = (fine, h)
    ends (Err e) look part h = inr (fine, inr h)

    -- the command of the tool was run
    pub ran_tool : (old mid new : List Event) (tool : ToolSeen) (r : Result (List ℕ) ErrorSeen) → mid ≡ old ++ since old mid → new ≡ mid ++ since mid new → Holds (answers (since old mid)) (λ look. IsTool b.config b.env tool look) → Holds (answers (since old mid)) (λ look. ToolEnds b.config b.env listens (Ok tool) look (since old mid)) → GivesBy b listens tool r (since mid new) → Holds (answers (since old new)) (λ look. ExpandEnds b listens r look (since old new))
    ran_tool old mid new tool r first last is found gives = record {
      under = λ look agree.
          let known = (agrees_since look old mid new first last agree).0 in
          ends r look (since old new) (record {
            asking = since old mid;
            run = since mid new;
            cut = since_since old mid new first last;
            found = found.under look known;
            gives = subst (λ (t : ToolSeen). GivesBy b listens t r (since mid new)) (is.under look known) gives;
          });
    }
