-- A compile run that is recorded ends well, where nothing keeps it from that.
use Rattle.std.proofs.Common.{◌≡◌, ◌⊎◌, inl, inr, ℕ, ◌+◌, ◌<◌, ◌*◌, List, [], ◌∷◌, ◌++◌, Bool, true, false, not, ◌||◌, None, Some, Err, refl, sym, ◌∙◌, ap, subst, append-nil, arith}
use Rattle.std.specs.List.{list_any}
use Rattle.std.proofs.lemmas.List.Sums.{sum_by-append}
use Rattle.std.specs.Prelude.{◌≢◌}
use Rattle.cc_plan.specs.Plan.{run_has_one_form}
use Rattle.cc_host.specs.Part.{is_probing}
use Rattle.cc_host.specs.Part.Step.{Lists}
use Rattle.cc_host.specs.Question.{Look}
use Rattle.cc_host.specs.declared.event.Event.{Event}
use Rattle.cc_host.specs.declared.event.Event.TheVariants.{Listed, Here}
use Rattle.cc_host.specs.declared.event.HostCall.{HostCall}
use Rattle.cc_host.specs.declared.event.HostCall.TheVariants.{CurrentDir, Write}
use Rattle.cc_run.specs.Part.{turns, turns_of}
use Rattle.cc_build.specs.Build.{BuildSeen}
use Rattle.cc_build.specs.Captured.{CaptureEnds}
use Rattle.cc_build.specs.Course.{Course}
use Rattle.cc_build.specs.Error.{ErrorSeen, no_memory}
use Rattle.cc_build.specs.Failed.{Failed, HasFault, is_fault}
use Rattle.cc_build.specs.Outcome.{IsCausedBy}
use Rattle.cc_build.specs.Shows.{shows_of}
use Rattle.cc_build.specs.Stage.Stage.{Calls}
use Rattle.cc_build.specs.Stop.{fault_error}
use Rattle.cc_build.specs.Went.{terms, means}
use Rattle.cc_build.specs.declared.error.ErrorKind.TheVariants.{NoMemory, IOError, TurnsSpent}
use Rattle.cc_build.proofs.PrintedLaws.{calls_outcome}
use Rattle.cc_build.proofs.TurnLaws.{halted_bound}
use Rattle.cc_command.specs.Answer.{AnswersError, AnswersRecord, Behind, Recorded, Unbegun, Untold, Unwritten, database_in, env_in, is_wanting, ended_wanting, ended_well}
use Rattle.cc_command.specs.Database.{Faults}
use Rattle.cc_command.specs.Promises.{EndsSpent, IsComplete, IsEnough}
use Rattle.cc_command.specs.Read.{Request}
use Rattle.cc_command.specs.declared.ended.Ended.{Ended}
use Rattle.cc_command.proofs.PromiseLaws.{any_before, complete, enough, known_memory, same_error}
use Rattle.cc_build.proofs.FaultLaws.{stopped_fault}

-- ---- an error of the host, or of memory

memory_unspent : (e : ErrorSeen) → e ≡ no_memory → e.kind ≡ TurnsSpent → ⊥
memory_unspent e is spent = let k : e.kind ≡ NoMemory = ap (λ (x : ErrorSeen). x.kind) is in cc

faults_unspent : (call : HostCall) (subject : List ℕ) (part : List Event) (e : ErrorSeen) → Faults call subject part e → e.kind ≡ TurnsSpent → ⊥
unfolding fault_error
faults_unspent call subject part e (inl wanting) spent = memory_unspent e wanting.0 spent
faults_unspent call subject part e (inr (why, (stands, inl memory))) spent = memory_unspent e memory spent
faults_unspent call subject part e (inr (why, (stands, inr is))) spent = let k : e.kind ≡ IOError = ap (λ (x : ErrorSeen). x.kind) is in cc

capture_unspent : (listens : Bool) (b : BuildSeen) (front : List Event) (e : ErrorSeen) → CaptureEnds front (Err e) → e.kind ≡ TurnsSpent → ⊥
capture_unspent listens b front e (inr h) spent = memory_unspent e h.0 spent
capture_unspent listens b front e (inl h) spent =
    let t = terms (shows_of b.config b.env listens) (Some 1) (Some 1) in
    let few : turns front < 1 * 0 = halted_bound t None (Calls Lists ∷ []) front e (means 0 0 0 0) (means 0 0 0 0) 1 1 refl refl (λ f is _k. let two : None ≡ Some f = is in cc) (h t (means 0 0 0 0)) spent in
    omega arith

-- one that memory could tell has its fault
faults_fault : (call : HostCall) (subject : List ℕ) (part : List Event) (e : ErrorSeen) → is_probing call ≡ false → is_wanting e.kind ≡ false → Faults call subject part e → HasFault part
faults_fault call subject part e real known (inl wanting) = absurd (known_memory e known wanting.0)
faults_fault call subject part e real known (inr fault) = ap (list_any is_fault) fault.1.0 ∙ ap (λ (b : Bool). not b || false) real

capture_fault : (b : BuildSeen) (front : List Event) (e : ErrorSeen) → is_wanting e.kind ≡ false → CaptureEnds front (Err e) → HasFault front
capture_fault b front e known (inr h) = absurd (known_memory e known h.0)
capture_fault b front e known (inl h) = let o = calls_outcome {T = Unit {0}} b None (Lists ∷ []) front (Err e) refl refl h in by_cause o.0.1
  where
    by_cause : IsCausedBy None (Lists ∷ []) front e → HasFault front
    by_cause (inl memory) = absurd (known_memory e known memory)
    by_cause (inr (inl refused)) = absurd (let two : None ≡ Some e = refused in cc)
    by_cause (inr (inr stopped)) = let o = calls_outcome {T = Unit {0}} b None (Lists ∷ []) front (Err e) refl refl h in stopped_fault (Lists ∷ []) front e refl o.0.0 stopped

or_true : (a b : Bool) → b ≡ true → (a || b) ≡ true
or_true true b h = refl
or_true false b h = h

any_behind : (f : Event → Bool) (a b : List Event) → list_any f b ≡ true → list_any f (a ++ b) ≡ true
any_behind f [] b h = h
any_behind f (x ∷ a) b h = or_true (f x) (list_any f (a ++ b)) (any_behind f a b h)

error_unspent : (e : ErrorSeen) (line : List Event) (ended : Ended) (most : ℕ) (part : List Event) → AnswersError e line ended → EndsSpent most part ended → e.kind ≡ TurnsSpent
error_unspent e line ended most part (inl printed) spent = ap (λ (x : ErrorSeen). x.kind) (same_error e spent.0 ended printed.0 spent.1.0) ∙ spent.1.1
error_unspent e line ended most part (inr wanting) spent =
    let s : ended.status ≡ 3 = ap (λ (x : Ended). x.status) wanting.0 in
    let r : ended.status ≡ 1 = ap (λ (x : Ended). x.status) spent.1.0 in
    absurd (cc)

-- ---- a run with the folder told behind its listing

module _ (vars : List (List ℕ × List ℕ)) (here : List ℕ) (run : List Event) where
  failed_told : (one_form : Bool) → Failed one_form (Listed vars ∷ run) → Failed one_form (Listed vars ∷ Here here ∷ run)
  failed_told true h = h
  failed_told false h = h

  turns_told : turns (Listed vars ∷ Here here ∷ run) ≡ turns (Listed vars ∷ run)
  turns_told =
      let two : turns (Listed vars ∷ Here here ∷ run) ≡ turns (Listed vars ∷ Here here ∷ []) + turns run = sum_by-append turns_of (Listed vars ∷ Here here ∷ []) run in
      let one : turns (Listed vars ∷ run) ≡ turns (Listed vars ∷ []) + turns run = sum_by-append turns_of (Listed vars ∷ []) run in
      let none : turns (Listed vars ∷ Here here ∷ []) ≡ 0 = refl in
      let none' : turns (Listed vars ∷ []) ≡ 0 = refl in
      omega arith

  spent_told : (most : ℕ) (ended : Ended) → EndsSpent most (Listed vars ∷ run) ended → EndsSpent most (Listed vars ∷ Here here ∷ run) ended
  spent_told most ended s = (s.0, (s.1.0, s.1.1, turns_told ∙ s.1.2))

  spent_untold : (most : ℕ) (ended : Ended) → EndsSpent most (Listed vars ∷ Here here ∷ run) ended → EndsSpent most (Listed vars ∷ run) ended
  spent_untold most ended s = (s.0, (s.1.0, s.1.1, sym turns_told ∙ s.1.2))

  complete_told : (look : Look) (q : Request) (ended : Ended) (c : Course) → IsComplete look q (Listed vars ∷ run) ended c → IsComplete look q (Listed vars ∷ Here here ∷ run) ended c
  complete_told look q ended c so = λ valid failed fault rose. by_end (so valid (λ h. failed (failed_told (run_has_one_form q.1.config (env_in q (Listed vars ∷ run)) look) h)) fault rose)
    where
      by_end : (ended ≡ ended_well) ⊎ (EndsSpent c.before.left (Listed vars ∷ run) ended ⊎ (ended ≡ ended_wanting)) → (ended ≡ ended_well) ⊎ (EndsSpent c.before.left (Listed vars ∷ Here here ∷ run) ended ⊎ (ended ≡ ended_wanting))
      by_end (inl well) = inl well
      by_end (inr (inl spent)) = inr (inl (spent_told c.before.left ended spent))
      by_end (inr (inr wanting)) = inr (inr wanting)

  enough_told : (look : Look) (q : Request) (ended : Ended) (c : Course) → IsEnough look q (Listed vars ∷ run) ended c → IsEnough look q (Listed vars ∷ Here here ∷ run) ended c
  enough_told look q ended c so = λ total p one patient many spent. so total p one patient many (spent_untold c.before.left ended spent)

-- ---- all of it

module _ (listens : Bool) (look : Look) (path : List ℕ) (q : Request) (part : List Event) (ended : Ended) (c : Course) where
  -- memory was wanted, or a call of the host faulted
  abbrev Stopped : Type 0
  Stopped = (ended ≡ ended_wanting) ⊎ HasFault part

  unbegun_stopped : Unbegun part ended c → Stopped
  unbegun_stopped u = by_says u.says
    where
      by_cause : is_wanting u.error.kind ≡ false → CaptureEnds u.front (Err u.error) ⊎ Untold u.front u.error → HasFault u.front
      by_cause known (inl h) = capture_fault q.1 u.front u.error known h
      by_cause known (inr h) = ap (list_any is_fault) h.2.0 ∙ faults_fault CurrentDir [] h.1 u.error refl known h.2.1

      by_says : AnswersError u.error u.line ended → Stopped
      by_says (inr wanting) = inl wanting.0
      by_says (inl printed) = inr (ap (list_any is_fault) u.cut ∙ any_before is_fault u.front u.line (by_cause printed.1 u.cause))

  unwritten_stopped : (vars : List (List ℕ × List ℕ)) (here : List ℕ) (run rest : List Event) → part ≡ Listed vars ∷ Here here ∷ (run ++ rest) → Unwritten path rest ended → Stopped
  unwritten_stopped vars here run rest cut u = by_says u.says
    where
      by_says : AnswersError u.error u.line ended → Stopped
      by_says (inr wanting) = inl wanting.0
      by_says (inl printed) =
          inr
          (ap (list_any is_fault) cut
          ∙ any_behind is_fault run rest (ap (list_any is_fault) u.cut ∙ any_before is_fault u.front u.line (faults_fault Write path u.front u.error refl printed.1 u.cause)))

  stopped_complete : Stopped → IsComplete look q part ended c
  stopped_complete (inl wanting) = λ valid failed fault rose. inr (inr wanting)
  stopped_complete (inr some) = λ valid failed fault rose. absurd (fault some)

  unbegun_unspent : (u : Unbegun part ended c) → EndsSpent c.before.left part ended → ⊥
  unbegun_unspent u spent = by_cause u.cause
    where
      by_cause : CaptureEnds u.front (Err u.error) ⊎ Untold u.front u.error → ⊥
      by_cause (inl h) = capture_unspent listens q.1 u.front u.error h (error_unspent u.error u.line ended c.before.left part u.says spent)
      by_cause (inr h) = faults_unspent CurrentDir [] h.1 u.error h.2.1 (error_unspent u.error u.line ended c.before.left part u.says spent)

  well_unspent : ended ≡ ended_well → EndsSpent c.before.left part ended → ⊥
  well_unspent well spent =
      let s : ended.status ≡ 0 = ap (λ (x : Ended). x.status) well in
      let r : ended.status ≡ 1 = ap (λ (x : Ended). x.status) spent.1.0 in
      cc

  module _ (r : Recorded listens look path q part ended c) (h : (ended ≡ r.ran) × (r.rest ≡ []) × (ended ≢ ended_well)) where
    refused_all : part ≡ Listed r.vars ∷ Here r.here ∷ r.run
    refused_all = r.cut ∙ ap (λ l. Listed r.vars ∷ Here r.here ∷ (r.run ++ l)) h.1 ∙ ap (λ l. Listed r.vars ∷ Here r.here ∷ l) (append-nil r.run)

    refused_complete : IsComplete look q part ended c
    refused_complete =
        subst (λ (p : List Event). IsComplete look q p ended c) (sym refused_all)
        (subst (λ (x : Ended). IsComplete look q (Listed r.vars ∷ Here r.here ∷ r.run) x c) (sym h.0)
        (complete_told r.vars r.here r.run look q r.ran c (complete listens look q (Listed r.vars ∷ r.run) r.ran c r.answer)))

    refused_enough : IsEnough look q part ended c
    refused_enough =
        subst (λ (p : List Event). IsEnough look q p ended c) (sym refused_all)
        (subst (λ (x : Ended). IsEnough look q (Listed r.vars ∷ Here r.here ∷ r.run) x c) (sym h.0)
        (enough_told r.vars r.here r.run look q r.ran c (enough listens look q (Listed r.vars ∷ r.run) r.ran c r.answer)))

  pub record_complete : AnswersRecord listens look path q part ended c → IsComplete look q part ended c
  record_complete (inl u) = stopped_complete (unbegun_stopped u)
  record_complete (inr r) = by_rest r.behind
    where
      by_rest : Behind path (database_in look q r.vars r.here) r.ran r.rest ended → IsComplete look q part ended c
      by_rest (inl (well, inl written)) = λ valid failed fault rose. inl written.0
      by_rest (inl (well, inr u)) = stopped_complete (unwritten_stopped r.vars r.here r.run r.rest r.cut u)
      by_rest (inr h) = refused_complete r h

  pub record_enough : AnswersRecord listens look path q part ended c → IsEnough look q part ended c
  record_enough (inl u) = λ total p one patient many spent. unbegun_unspent u spent
  record_enough (inr r) = by_rest r.behind
    where
      by_rest : Behind path (database_in look q r.vars r.here) r.ran r.rest ended → IsEnough look q part ended c
      by_rest (inl (well, inl written)) = λ total p one patient many spent. well_unspent written.0 spent
      by_rest (inl (well, inr u)) = λ total p one patient many spent. faults_unspent Write path u.front u.error u.cause (error_unspent u.error u.line ended c.before.left part u.says spent)
      by_rest (inr h) = refused_enough r h
