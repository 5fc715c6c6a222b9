-- A call that asks with answers of its own, and then prints.
use Rattle.std.proofs.Common.{◌≡◌, ◌⊎◌, inl, inr, ℕ, List, [], ◌∷◌, ◌++◌, Bool, true, false, ◌||◌, Option, Some, None, Result, Ok, Err, refl, sym, ◌∙◌, ap, subst, append-nil}
use Rattle.std.specs.List.{list_all, list_any}
use Rattle.std.specs.Option.{option_map}
use Rattle.std.proofs.lemmas.Bool.{and_parts}
use Rattle.std.proofs.lemmas.Grind.{flat_map-append}
use Rattle.std.proofs.lemmas.List.Folds.{list_any-append}
use Rattle.cc_env.specs.Env.{EnvSeen}
use Rattle.cc_host.specs.declared.event.Event.{Event}
use Rattle.cc_host.specs.declared.event.Event.TheVariants.{Started, Ended, Abandoned, Heard, Unread, Turn, Fault}
use Rattle.cc_host.specs.declared.event.HostCall.{HostCall}
use Rattle.cc_host.specs.declared.event.HostCall.TheVariants.{Print, Say}
use Rattle.cc_host.specs.declared.event.Why.{Why}
use Rattle.cc_host.specs.declared.question.Outcome.{Outcome as WorldOutcome}
use Rattle.cc_host.specs.declared.question.Question.{Question}
use Rattle.cc_host.specs.Part.{Step, since, stops, left, StopsAt, IsPartly, IsWhole}
use Rattle.cc_host.specs.Part.Step.{Runs, Makes, Removes, Writes, Copies, Finds, Says, Prints, Lists}
use Rattle.cc_host.specs.Question.{Look, Answer, answer_of, answers, Agrees, Settles, Holds}
use Rattle.cc_host.proofs.Parts.{since_since, since_append, since_extends, partly_none}
use Rattle.cc_tool.specs.Asked.{question_events, Asked}
use Rattle.cc_tool.specs.Asks.{Asks}
use Rattle.cc_tool.specs.Probing.{is_asked}
use Rattle.cc_tool.proofs.Asides.{aside_answers, asked_by, asked_before, asks_quiet, asks_extends}
use Rattle.cc_plan.specs.Asking.{AsksThen, Warns, AreSteps, Warned, EndsWarning, IsNotice, IsPrintFault, is_of_children}
use Rattle.cc_plan.specs.declared.error.PlanError.{PlanError}
use Rattle.cc_plan.specs.declared.error.PlanError.TheVariants.{Host, NoMemory as WantsMemory}
use Rattle.cc_flags.specs.declared.settings.BuildConfig.{BuildConfig}
use Rattle.cc_build.specs.Error.{ErrorSeen, no_memory}
use Rattle.cc_build.specs.Outcome.{IsCausedBy, Outcome}
use Rattle.cc_build.specs.Refusal.{plan_error}
use Rattle.cc_build.specs.Stop.{fault_error, stopped_by}
use Rattle.cc_build.proofs.Going.{part_is}
use Rattle.cc_build.proofs.Outcomes.{outcome_from}
use Rattle.cc_build.proofs.Stages.{plan_cause}

no_child : (event : Event) → is_asked event ≡ true → is_of_children event ≡ false
no_child (Started id role cmd pipes held) h = absurd (cc)
no_child (Ended id status) h = absurd (cc)
no_child (Abandoned id) h = absurd (cc)
no_child (Heard id bytes) h = absurd (cc)
no_child (Unread id) h = absurd (cc)
no_child (Turn count) h = absurd (cc)
no_child _ h = refl

or_neither : (a b : Bool) → a ≡ false → b ≡ false → (a || b) ≡ false
or_neither true b p q = absurd (cc)
or_neither false b p q = q

-- questions start no child
no_children : (part : List Event) → list_all is_asked part ≡ true → list_any is_of_children part ≡ false
no_children [] h = refl
no_children (event ∷ part) h =
    let k = and_parts (is_asked event) (list_all is_asked part) h in
    or_neither (is_of_children event) (list_any is_of_children part) (no_child event k.0) (no_children part k.1)

-- what refuses a line is the printing of it
printing_stop : (steps : List Step) (why : Why) → StopsAt steps (Fault Print why ∷ []) → stopped_by steps (Fault Print why ∷ []) ≡ Some (fault_error Print why [])
printing_stop [] why h = absurd h
printing_stop (Prints kind bytes ∷ steps) why h = refl
printing_stop (Runs role cmd ∷ steps) why h = absurd (cc)
printing_stop (Makes scope path ∷ steps) why h = absurd (cc)
printing_stop (Removes path ∷ steps) why h = absurd (cc)
printing_stop (Writes path bytes ∷ steps) why h = absurd (cc)
printing_stop (Copies from to ∷ steps) why h = absurd (cc)
printing_stop (Finds path ∷ steps) why h = absurd (cc)
printing_stop (Says message ∷ steps) why h = absurd (cc)
printing_stop (Lists ∷ steps) why h = absurd (cc)

saying_stop : (steps : List Step) (why : Why) → StopsAt steps (Fault Say why ∷ []) → stopped_by steps (Fault Say why ∷ []) ≡ Some (fault_error Say why [])
saying_stop [] why h = absurd h
saying_stop (Says message ∷ steps) why h = refl
saying_stop (Runs role cmd ∷ steps) why h = absurd (cc)
saying_stop (Makes scope path ∷ steps) why h = absurd (cc)
saying_stop (Removes path ∷ steps) why h = absurd (cc)
saying_stop (Writes path bytes ∷ steps) why h = absurd (cc)
saying_stop (Copies from to ∷ steps) why h = absurd (cc)
saying_stop (Finds path ∷ steps) why h = absurd (cc)
saying_stop (Prints kind bytes ∷ steps) why h = absurd (cc)
saying_stop (Lists ∷ steps) why h = absurd (cc)

notice_stop : (steps : List Step) (call : HostCall) (why : Why) → IsNotice call → StopsAt steps (Fault call why ∷ []) → stopped_by steps (Fault call why ∷ []) ≡ Some (fault_error call why [])
notice_stop steps call why (inl is) = subst (λ (k : HostCall). StopsAt steps (Fault k why ∷ []) → stopped_by steps (Fault k why ∷ []) ≡ Some (fault_error k why [])) (sym is) (printing_stop steps why)
notice_stop steps call why (inr is) = subst (λ (k : HostCall). StopsAt steps (Fault k why ∷ []) → stopped_by steps (Fault k why ∷ []) ≡ Some (fault_error k why [])) (sym is) (saying_stop steps why)

notice_error : (set : BuildConfig) (env : EnvSeen) (call : HostCall) (why : Why) → plan_error set env [] (Host call why) ≡ fault_error call why []
unfolding plan_error
notice_error set env call why = refl

-- the warning that a host refused is the cause
notice_cause : (refusal : Option ErrorSeen) (steps : List Step) (part : List Event) (e : ErrorSeen) (call : HostCall) (why : Why) → IsNotice call → IsPartly steps part → stops part ≡ Fault call why ∷ [] → e ≡ fault_error call why [] → IsCausedBy refusal steps part e
notice_cause refusal steps part e call why notice p ends is =
    let at : StopsAt (left steps part) (Fault call why ∷ []) = subst (λ (l : List Event). StopsAt (left steps part) l) ends p.stop in
    inr (inr (ap (λ l. stopped_by (left steps part) l) ends ∙ notice_stop (left steps part) call why notice at ∙ ap Some (sym is)))

warned_cause : (set : BuildConfig) (env : EnvSeen) (steps : List Step) (part : List Event) (error : PlanError) (e : ErrorSeen) (r : Option PlanError) → IsPartly steps part → EndsWarning part error → (e ≡ no_memory) ⊎ (e ≡ plan_error set env [] error) → (error ≡ WantsMemory) ⊎ (IsPrintFault error ⊎ (r ≡ Some error)) → IsCausedBy (option_map (plan_error set env []) r) steps part e
warned_cause set env steps part error e r p ends (inl memory) cause = inl memory
warned_cause set env steps part error e r p ends (inr is) (inl wants) = own (plan_cause set env [] error e r (inr is) (inl wants))
  where
    own : (e ≡ no_memory) ⊎ (option_map (plan_error set env []) r ≡ Some e) → IsCausedBy (option_map (plan_error set env []) r) steps part e
    own (inl memory) = inl memory
    own (inr refused) = inr (inl refused)
warned_cause set env steps part error e r p ends (inr is) (inr (inl fault)) =
    let stop : stops part ≡ Fault fault.0 fault.1 ∷ [] = (subst (λ (x : PlanError). EndsWarning part x) fault.2.1 ends).1 in
    notice_cause (option_map (plan_error set env []) r) steps part e fault.0 fault.1 fault.2.0 p stop (is ∙ ap (plan_error set env []) fault.2.1 ∙ notice_error set env fault.0 fault.1)
warned_cause set env steps part error e r p ends (inr is) (inr (inr refused)) = inr (inl (ap (option_map (plan_error set env [])) refused ∙ ap Some (sym is)))

-- the warnings that are left to give where the answers settle them
settled_steps : (known : List Answer) (warnings : Look → List Step) (steps : List Step) (part : List Event) (look : Look) → Agrees look known → (part ≡ []) ⊎ Settles known warnings steps → IsPartly steps part → IsPartly (warnings look) part
settled_steps known warnings steps part look agree (inl none) p = subst (λ (l : List Event). IsPartly (warnings look) l) (sym none) (partly_none (warnings look))
settled_steps known warnings steps part look agree (inr s) p = subst (λ (l : List Step). IsPartly l part) (sym (s.is look agree)) p

module _ (steady : Bool) (world : Question → WorldOutcome) (dir : List ℕ) (questions : Look → Question → Type 0) (old end new : List Event) (none known : List Answer) (P : List Event → Type 0) (asked : AsksThen steady world dir questions old end none known P) (is : new ≡ end) (empty : none ≡ []) (quiet : question_events asked.rest ≡ []) where
  asks : Asks steady world dir old asked.mid [] known
  asks = subst (λ (l : List Answer). Asks steady world dir old asked.mid l known) empty asked.asks

  grown : asked.mid ≡ old ++ since old asked.mid
  grown = asks_extends steady world dir old asked.mid [] known asks

  pub rest_is : since asked.mid new ≡ asked.rest
  rest_is = ap (λ l. since asked.mid l) (is ∙ asked.extends) ∙ since_append asked.mid asked.rest

  behind : new ≡ asked.mid ++ since asked.mid new
  behind = is ∙ asked.extends ∙ ap (λ l. asked.mid ++ l) (sym rest_is)

  silent : question_events (since asked.mid new) ≡ []
  silent = ap question_events rest_is ∙ quiet

  pub then_extends : new ≡ old ++ since old new
  then_extends = since_extends old asked.mid new grown behind

  -- the probe files are in the folder, by another name
  pub then_asked : (folder : List ℕ) → dir ≡ folder → Asked steady world folder questions (since old new)
  then_asked folder same =
      subst (λ (d : List ℕ). Asked steady world d questions (since old new)) same
      (asked_before steady world dir questions old asked.mid new grown behind (asked_by steady world dir questions old asked.mid known asks asked.own).0 silent)

  answers_are : answers (since old new) ≡ known
  answers_are =
      ap answers (since_since old asked.mid new grown behind) ∙ flat_map-append answer_of (since old asked.mid) (since asked.mid new)
      ∙ ap (λ l. answers (since old asked.mid) ++ l) (aside_answers (since asked.mid new) silent) ∙ append-nil (answers (since old asked.mid)) ∙ sym (asked_by steady world dir questions old asked.mid known asks asked.own).1

  -- its answers are those of the part
  pub then_answered : (end : List Answer) → end ≡ known → end ≡ answers (since old new)
  then_answered end same = same ∙ sym answers_are

  -- nothing is done to a child, where the part behind the questions does nothing to one
  pub then_childless : list_any is_of_children asked.rest ≡ false → list_any is_of_children (since old new) ≡ false
  then_childless none =
      ap (list_any is_of_children) (since_since old asked.mid new grown behind) ∙ list_any-append is_of_children (since old asked.mid) (since asked.mid new)
      ∙ or_neither (list_any is_of_children (since old asked.mid)) (list_any is_of_children (since asked.mid new))
      (no_children (since old asked.mid) (ap (list_all is_asked) (part_is old asked.mid asks.part asks.extends) ∙ asks.asked))
      (ap (list_any is_of_children) rest_is ∙ none)

  pub under_then : {Q : Look → Type 0} → ((look : Look) → Agrees look known → Q look) → Holds (answers (since old new)) Q
  under_then so = record { under = λ look agree. so look (subst (Agrees look) answers_are agree) }

  -- what the part behind the questions comes to, the whole part does
  pub then_outcome : {T : Type 0} (refusal : Option ErrorSeen) (steps : List Step) (r : Result T ErrorSeen) → Outcome refusal steps asked.rest r → Outcome refusal steps (since old new) r
  then_outcome refusal steps r o =
      outcome_from refusal old asked.mid new [] steps r grown behind (asks_quiet steady world dir old asked.mid [] known asks)
      (subst (λ (p : List Event). Outcome refusal steps p r) (sym rest_is) o)

-- the outcome of a compiler that was planned
pub planned_outcome : {X T : Type 0} (known : List Answer) (warnings : Bool → Look → List Step) (refusal : Look → Option PlanError) (set : BuildConfig) (env : EnvSeen) (part : List Event) (result : Result X PlanError) (x : X) (t : T) (look : Look) → Agrees look known → result ≡ Ok x → (w : Warns known warnings result part) → Settles known refusal None → Outcome {T = T} (option_map (plan_error set env []) (refusal look)) (warnings w.warns_of_link look) part (Ok t)
planned_outcome {X} known warnings refusal set env part result x t look agree is w allowed =
    let settled : Settles known (warnings w.warns_of_link) w.steps = subst (λ (r : Result X PlanError). AreSteps known (warnings w.warns_of_link) w.steps part r) is w.settled in
    let warned : IsWhole w.steps part = subst (λ (r : Result X PlanError). Warned w.steps part r) is w.warned in
    (ap (option_map (plan_error set env [])) (allowed.is look agree), subst (λ (l : List Step). IsWhole l part) (sym (settled.is look agree)) warned)

-- the outcome of a compiler that was refused
pub unplanned_outcome : {X : Type 0} (T : Type 0) (known : List Answer) (warnings : Bool → Look → List Step) (refusal : Look → Option PlanError) (set : BuildConfig) (env : EnvSeen) (part : List Event) (result : Result X PlanError) (error : PlanError) (e : ErrorSeen) (look : Look) → Agrees look known → result ≡ Err error → (w : Warns known warnings result part) → (error ≡ WantsMemory) ⊎ (IsPrintFault error ⊎ Settles known refusal (Some error)) → (e ≡ no_memory) ⊎ (e ≡ plan_error set env [] error) → Outcome {T = T} (option_map (plan_error set env []) (refusal look)) (warnings w.warns_of_link look) part (Err e)
unplanned_outcome {X} T known warnings refusal set env part result error e look agree is w cause made =
    let settled : (part ≡ []) ⊎ Settles known (warnings w.warns_of_link) w.steps = subst (λ (r : Result X PlanError). AreSteps known (warnings w.warns_of_link) w.steps part r) is w.settled in
    let warned : IsPartly w.steps part × EndsWarning part error = subst (λ (r : Result X PlanError). Warned w.steps part r) is w.warned in
    let partly : IsPartly (warnings w.warns_of_link look) part = settled_steps known (warnings w.warns_of_link) w.steps part look agree settled warned.0 in
    (partly, warned_cause set env (warnings w.warns_of_link look) part error e (refusal look) partly warned.1 made (at cause))
  where
    at : (error ≡ WantsMemory) ⊎ (IsPrintFault error ⊎ Settles known refusal (Some error)) → (error ≡ WantsMemory) ⊎ (IsPrintFault error ⊎ (refusal look ≡ Some error))
    at (inl wants) = inl wants
    at (inr (inl fault)) = inr (inl fault)
    at (inr (inr s)) = inr (inr (s.is look agree))
