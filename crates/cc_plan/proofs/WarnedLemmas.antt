-- Warnings that a host is given one after another.
use Rattle.std.proofs.Common.{◌≡◌, ◌⊎◌, inl, inr, ℕ, suc, ◌+◌, ◌<◌, List, [], ◌∷◌, ◌++◌, length, take, drop, get_or, Bool, Result, Ok, Err, subst, refl, sym, ◌∙◌, ap, add-one, append-nil}
use Rattle.std.specs.List.{flat_map}
use Rattle.std.proofs.Math.Seq.{drop-cons}
use Rattle.std.proofs.lemmas.Grind.{flat_map-append, take_at_read}
use Rattle.std.proofs.lemmas.List.{take-append-drop}
use Rattle.cc_host.specs.Part.{Step, since, step_of, stop_of, stops, Refuses, IsWhole, IsPartly}
use Rattle.cc_host.proofs.Parts.{since_since, whole_then, whole_step, partly_then, partly_stop, partly_more, partly_none, stops_then, stops_stop}
use Rattle.cc_host.specs.declared.event.Event.{Event}
use Rattle.cc_host.specs.declared.event.Event.TheVariants.{Fault}
use Rattle.cc_host.specs.declared.event.HostCall.{HostCall}
use Rattle.cc_host.specs.declared.event.Why.{Why}
use Rattle.cc_plan.specs.Asking.{Gives, Warned, EndsWarning, IsNotice, IsPrintFault, RefusedByPrint}
use Rattle.cc_plan.specs.Plan.{warning_steps, warned_steps}
use Rattle.cc_plan.specs.declared.error.PlanError.{PlanError}
use Rattle.cc_plan.specs.declared.error.PlanError.TheVariants.{Argument, NotSet, UnknownTarget, QnxArch, Flag, Host, NoMemory}
use Rattle.cc_flags.specs.declared.settings.BuildConfig.{BuildConfig}

-- the host was given one thing
pub gives_whole : {X : Type 0} (call : HostCall) (step : Step) (event : Event) (part : List Event) (x : X) → step_of event ≡ step ∷ [] → stop_of event ≡ [] → Gives call event part (Ok x) → IsWhole (step ∷ []) part
gives_whole call step event part x is goes h = subst (λ (p : List Event). IsWhole (step ∷ []) p) (sym h) (whole_step step event is goes)

-- it was refused
pub gives_ends : (X : Type 0) (call : HostCall) (step : Step) (rest : List Step) (event : Event) (part : List Event) (e : PlanError) → IsNotice call → ((why : Why) → Refuses step (Fault call why)) → ((why : Why) → stop_of (Fault call why) ≡ Fault call why ∷ []) → Gives {X = X} call event part (Err e) → Warned {X = X} (step ∷ rest) part (Err e)
gives_ends X call step rest event part (Host c why) notice refuses ends h =
    subst (λ (p : List Event). IsPartly (step ∷ rest) p × (IsNotice c × (stops p ≡ Fault c why ∷ []))) (sym h.1) (
      partly_stop step rest (Fault call why) (ends why) (refuses why),
      (subst IsNotice (sym h.0) notice, stops_stop (Fault call why) (ends why) ∙ ap (λ k. Fault k why ∷ []) (sym h.0)),
    )
gives_ends X call step rest event part NoMemory notice refuses ends h =
    subst (λ (p : List Event). IsPartly (step ∷ rest) p × (stops p ≡ [])) (sym h) (partly_none (step ∷ rest), refl)
gives_ends X call step rest event part (Argument cause) notice refuses ends h = absurd h
gives_ends X call step rest event part (NotSet name) notice refuses ends h = absurd h
gives_ends X call step rest event part (UnknownTarget name) notice refuses ends h = absurd h
gives_ends X call step rest event part (QnxArch name) notice refuses ends h = absurd h
gives_ends X call step rest event part (Flag flag) notice refuses ends h = absurd h

-- then the call that gives it failed, or memory was wanted
pub gives_refused : (X : Type 0) (call : HostCall) (event : Event) (part : List Event) (e : PlanError) → IsNotice call → Gives {X = X} call event part (Err e) → (e ≡ NoMemory) ⊎ IsPrintFault e
gives_refused X call event part (Host c why) notice h = inr (c, why, (subst IsNotice (sym h.0) notice, refl))
gives_refused X call event part NoMemory notice h = inl refl
gives_refused X call event part (Argument cause) notice h = absurd h
gives_refused X call event part (NotSet name) notice h = absurd h
gives_refused X call event part (UnknownTarget name) notice h = absurd h
gives_refused X call event part (QnxArch name) notice h = absurd h
gives_refused X call event part (Flag flag) notice h = absurd h

-- what holds of no event, of the one thing and of a fault of its call holds of the part that gives it
pub given_part : {X : Type 0} (P : List Event → Type 0) (call : HostCall) (event : Event) (part : List Event) (r : Result X PlanError) → P [] → P (event ∷ []) → ((why : Why) → P (Fault call why ∷ [])) → Gives call event part r → P part
given_part P call event part (Ok x) none one fault h = subst P (sym h) one
given_part P call event part (Err (Host c why)) none one fault h = subst P (sym h.1) (fault why)
given_part P call event part (Err NoMemory) none one fault h = subst P (sym h) none
given_part P call event part (Err (Argument cause)) none one fault h = absurd h
given_part P call event part (Err (NotSet name)) none one fault h = absurd h
given_part P call event part (Err (UnknownTarget name)) none one fault h = absurd h
given_part P call event part (Err (QnxArch name)) none one fault h = absurd h
given_part P call event part (Err (Flag flag)) none one fault h = absurd h

-- warnings behind others that were all given
pub warned_then : {X : Type 0} (first second : List Step) (a b : List Event) (r : Result X PlanError) → RefusedByPrint r → IsWhole first a → Warned second b r → Warned (first ++ second) (a ++ b) r
warned_then first second a b (Ok x) refused whole h = whole_then first second a b whole h
warned_then first second a b (Err e) refused whole h = (partly_then first second a b whole h.0, ends e refused h.1)
  where
    ends : (e : PlanError) → (e ≡ NoMemory) ⊎ IsPrintFault e → EndsWarning b e → EndsWarning (a ++ b) e
    ends (Host call why) r k = (k.0, stops_then first a b whole ∙ k.1)
    ends NoMemory r k = stops_then first a b whole ∙ k
    ends (Argument cause) (inl r) k = absurd (cc)
    ends (Argument cause) (inr r) k = let same = r.2.1 in absurd (cc)
    ends (NotSet name) (inl r) k = absurd (cc)
    ends (NotSet name) (inr r) k = let same = r.2.1 in absurd (cc)
    ends (UnknownTarget name) (inl r) k = absurd (cc)
    ends (UnknownTarget name) (inr r) k = let same = r.2.1 in absurd (cc)
    ends (QnxArch name) (inl r) k = absurd (cc)
    ends (QnxArch name) (inr r) k = let same = r.2.1 in absurd (cc)
    ends (Flag flag) (inl r) k = absurd (cc)
    ends (Flag flag) (inr r) k = let same = r.2.1 in absurd (cc)

-- a refused warning, and others that would come behind it
pub warned_more : (X : Type 0) (steps more : List Step) (part : List Event) (e : PlanError) → Warned {X = X} steps part (Err e) → Warned {X = X} (steps ++ more) part (Err e)
warned_more X steps more part e h = (partly_more steps more part h.0, h.1)

-- ---- one warning after another

module _ (set : BuildConfig) (listens : Bool) (texts : List (List ℕ)) (i : ℕ) (text : List ℕ) (within : i < length texts) (is : text ≡ get_or texts i text) where
  abbrev one : List Step
  one = warning_steps set.cargo_warnings listens text

  next_warning : warned_steps set listens (take (i + 1) texts) ≡ warned_steps set listens (take i texts) ++ one
  unfolding warned_steps
  next_warning =
      let more : take (i + 1) texts ≡ take i texts ++ text ∷ [] = (take_at_read texts i text within).1 ∙ ap (λ s. take i texts ++ s ∷ []) (sym is) in
      ap (flat_map (warning_steps set.cargo_warnings listens)) more ∙ flat_map-append (warning_steps set.cargo_warnings listens) (take i texts) (text ∷ [])
      ∙ ap (λ l. flat_map (warning_steps set.cargo_warnings listens) (take i texts) ++ l) (append-nil one)

  around_warning : warned_steps set listens texts ≡ warned_steps set listens (take i texts) ++ (one ++ warned_steps set listens (drop (i + 1) texts))
  unfolding warned_steps
  around_warning =
      let rest : drop i texts ≡ text ∷ drop (i + 1) texts = drop-cons texts i text within ∙ ap (λ s. s ∷ drop (suc i) texts) (sym is) ∙ ap (λ n. text ∷ drop n texts) (sym (add-one i)) in
      ap (flat_map (warning_steps set.cargo_warnings listens)) (sym (take-append-drop i texts))
      ∙ flat_map-append (warning_steps set.cargo_warnings listens) (take i texts) (drop i texts)
      ∙ ap (λ l. flat_map (warning_steps set.cargo_warnings listens) (take i texts) ++ flat_map (warning_steps set.cargo_warnings listens) l) rest

  -- a warning more was given
  pub warned_next : (old mid new : List Event) → mid ≡ old ++ since old mid → new ≡ mid ++ since mid new → IsWhole (warned_steps set listens (take i texts)) (since old mid) → IsWhole one (since mid new) → IsWhole (warned_steps set listens (take (i + 1) texts)) (since old new)
  warned_next old mid new first last whole h =
      subst (λ (p : List Event). IsWhole (warned_steps set listens (take (i + 1) texts)) p) (sym (since_since old mid new first last))
      (subst (λ (s : List Step). IsWhole s (since old mid ++ since mid new)) (sym next_warning) (whole_then (warned_steps set listens (take i texts)) one (since old mid) (since mid new) whole h))

  -- the next was refused
  pub warned_stop : (X : Type 0) (old mid new : List Event) (e : PlanError) → mid ≡ old ++ since old mid → new ≡ mid ++ since mid new → (e ≡ NoMemory) ⊎ IsPrintFault e → IsWhole (warned_steps set listens (take i texts)) (since old mid) → Warned {X = X} one (since mid new) (Err e) → Warned {X = X} (warned_steps set listens texts) (since old new) (Err e)
  warned_stop X old mid new e first last refused whole h =
      subst (λ (p : List Event). Warned {X = X} (warned_steps set listens texts) p (Err e)) (sym (since_since old mid new first last))
      (subst (λ (s : List Step). Warned {X = X} s (since old mid ++ since mid new) (Err e)) (sym around_warning)
      (warned_then {X = X} (warned_steps set listens (take i texts)) (one ++ warned_steps set listens (drop (i + 1) texts)) (since old mid) (since mid new) (Err e) refused whole
      (warned_more X one (warned_steps set listens (drop (i + 1) texts)) (since mid new) e h)))

-- no warning was given
pub warned_none : (set : BuildConfig) (listens : Bool) → IsWhole (warned_steps set listens []) []
unfolding warned_steps
warned_none set listens = record { done_all = refl; unstopped = refl }
