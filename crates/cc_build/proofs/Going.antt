-- How parts of one list of stages after another make up the part of a run.
use Rattle.std.specs.Prelude.{is_some, true}
use Rattle.std.proofs.Common.{◌≡◌, ◌⊎◌, inl, inr, option_map, ℕ, List, [], ◌∷◌, ◌++◌, Option, Some, None, Result, Ok, Err, refl, sym, ◌∙◌, ap, subst, append_assoc, append-nil}
use Rattle.std.proofs.lemmas.Bool.{true≢false}
use Rattle.cc_host.specs.Part.{Step, since, step_of, Refuses}
use Rattle.cc_host.specs.Event.{refused, IsCaused}
use Rattle.cc_host.specs.declared.event.Event.{Event}
use Rattle.cc_host.specs.declared.event.Event.TheVariants.{Fault}
use Rattle.cc_host.specs.declared.event.HostCall.{HostCall}
use Rattle.cc_host.specs.declared.event.HostError.{HostError}
use Rattle.cc_host.specs.declared.event.HostError.TheVariants.{Fault as Faulted, NoMemory as WantsMemory}
use Rattle.cc_host.specs.declared.event.Why.{Why}
use Rattle.cc_host.proofs.Parts.{since_since, since_append}
use Rattle.cc_build.specs.Error.{ErrorSeen, no_memory}
use Rattle.cc_build.specs.Stage.{Stage, asked_then}
use Rattle.cc_build.specs.Stage.Stage.{Calls, Asks}
use Rattle.cc_build.specs.Stop.{stop_error, fault_error, host_error}
use Rattle.cc_flags.specs.Given.{first_of}
use Rattle.cc_plan.specs.declared.error.PlanError.{PlanError}
use Rattle.cc_run.specs.declared.planned.Shows.{Shows}
use Rattle.cc_tool.specs.Probing.{is_asked}
use Rattle.std.specs.List.{list_all}
use Rattle.cc_build.specs.Went.{Terms, Means, terms, Did, Went, IsOf, Stops, Halts, Halted, Ends}

-- where no stage is left, the settings are refused
abbrev pub IsOpen : Option ErrorSeen → List Stage → Type 0
IsOpen refusal stages = stages ≡ [] → is_some refusal ≡ true

module _ (t : Terms) where
  -- these stages were done, and then those
  pub went_then : (a b : List Stage) (p q : List Event) (x y z : Means) → Went t a p x y → Went t b q y z → Went t (a ++ b) (p ++ q) x z
  went_then [] b p q x y z w v = subst (λ (l : List Event). Went t b (l ++ q) x z) (sym w.0) (subst (λ (m : Means). Went t b q m z) w.1 v)
  went_then (s ∷ a) b p q x y z w v = (w.0, w.1 ++ q, w.2, (ap (λ l. l ++ q) w.3.0 ∙ append_assoc w.0 w.1 q, w.3.1, went_then a b w.1 q w.2 y z w.3.2 v))

  -- nothing was done
  pub went_none : (part : List Event) (x : Means) → part ≡ [] → Went t [] part x x
  went_none part x none = (none, refl)

  -- one stage was done
  pub went_one : (s : Stage) (part : List Event) (x y : Means) → Did t s part x y → Went t (s ∷ []) part x y
  went_one s part x y d = (part, [], y, (sym (append-nil part), d, (refl, refl)))

  halts_first : (refusal : Option ErrorSeen) (stages : List Stage) (part : List Event) (e : ErrorSeen) (x y : Means) → e ≡ no_memory → IsOpen refusal stages → part ≡ [] → y ≡ x → Halts t refusal stages part e x y
  halts_first refusal [] part e x y memory owed none same = (inl memory, none, same, owed refl)
  halts_first refusal (s ∷ ss) part e x y memory owed none same = inl (memory, none, same)

  halts_more : (refusal : Option ErrorSeen) (a b : List Stage) (part : List Event) (e : ErrorSeen) (x y : Means) → Halts t None a part e x y → Halts t refusal (a ++ b) part e x y
  halts_more refusal [] b part e x y h = absurd (true≢false (sym h.3))
  halts_more refusal (s ∷ a) b part e x y (inl h) = inl h
  halts_more refusal (s ∷ a) b part e x y (inr h) = inr h

  -- a run that ended among these stages ended among more
  pub halted_more : (refusal : Option ErrorSeen) (a b : List Stage) (part : List Event) (e : ErrorSeen) (x z : Means) → Halted t None a part e x z → Halted t refusal (a ++ b) part e x z
  halted_more refusal a b part e x z h = record {
    before = h.before;
    after = h.after ++ b;
    front = h.front;
    rest = h.rest;
    y = h.y;
    stages_are = ap (λ l. l ++ b) h.stages_are ∙ append_assoc h.before h.after b;
    cut = h.cut;
    went = h.went;
    halts = halts_more refusal h.after b h.rest e h.y z h.halts;
  }

  -- these stages were done, and the run ended among those behind them
  pub halted_then : (refusal : Option ErrorSeen) (a b : List Stage) (p q : List Event) (e : ErrorSeen) (x y z : Means) → Went t a p x y → Halted t refusal b q e y z → Halted t refusal (a ++ b) (p ++ q) e x z
  halted_then refusal a b p q e x y z w h = record {
    before = a ++ h.before;
    after = h.after;
    front = p ++ h.front;
    rest = h.rest;
    y = h.y;
    stages_are = ap (λ l. a ++ l) h.stages_are ∙ sym (append_assoc a h.before h.after);
    cut = ap (λ l. p ++ l) h.cut ∙ sym (append_assoc p h.front h.rest);
    went = went_then a h.before p h.front x y h.y w h.went;
    halts = h.halts;
  }

  -- memory was wanted before the first of these stages
  pub halted_none : (refusal : Option ErrorSeen) (stages : List Stage) (part : List Event) (e : ErrorSeen) (x : Means) → part ≡ [] → e ≡ no_memory → IsOpen refusal stages → Halted t refusal stages part e x x
  halted_none refusal stages part e x none memory owed = record {
    before = [];
    after = stages;
    front = [];
    rest = part;
    y = x;
    stages_are = refl;
    cut = refl;
    went = (refl, refl);
    halts = halts_first refusal stages part e x x memory owed none refl;
  }

  -- these stages were done, and memory was wanted before those behind them
  pub halted_among : (refusal : Option ErrorSeen) (a b : List Stage) (part : List Event) (e : ErrorSeen) (x y : Means) → Went t a part x y → e ≡ no_memory → IsOpen refusal b → Halted t refusal (a ++ b) part e x y
  halted_among refusal a b part e x y w memory owed = record {
    before = a;
    after = b;
    front = part;
    rest = [];
    y = y;
    stages_are = refl;
    cut = sym (append-nil part);
    went = w;
    halts = halts_first refusal b [] e y y memory owed refl refl;
  }

  -- these stages were done, and the settings are refused
  pub halted_end : (refusal : Option ErrorSeen) (stages : List Stage) (part : List Event) (e : ErrorSeen) (x y : Means) → Went t stages part x y → refusal ≡ Some e → Halted t refusal stages part e x y
  halted_end refusal stages part e x y w refused = record {
    before = stages;
    after = [];
    front = part;
    rest = [];
    y = y;
    stages_are = sym (append-nil stages);
    cut = sym (append-nil part);
    went = w;
    halts = (inr refused, refl, refl, ap is_some refused);
  }

  -- the first of these stages was refused
  pub halted_at : (refusal : Option ErrorSeen) (s : Stage) (stages : List Stage) (part : List Event) (e : ErrorSeen) (x z : Means) → Stops t s part e x z → Halted t refusal (s ∷ stages) part e x z
  halted_at refusal s stages part e x z stop = record {
    before = [];
    after = s ∷ stages;
    front = [];
    rest = part;
    y = x;
    stages_are = refl;
    cut = refl;
    went = (refl, refl);
    halts = inr stop;
  }

  -- one call of the host was done
  pub called : (step : Step) (event : Event) (part : List Event) (x : Means) → part ≡ event ∷ [] → step_of event ≡ step ∷ [] → Went t (Calls step ∷ []) part x x
  called step event part x one did = went_one (Calls step) part x x (event, (one, did, refl))

  -- one call of the host was refused
  pub uncalled : (step : Step) (event : Event) (part : List Event) (e : ErrorSeen) (x : Means) → part ≡ event ∷ [] → Refuses step event → IsOf (stop_error step event) e → Halted t None (Calls step ∷ []) part e x x
  uncalled step event part e x one refuses cause = halted_at None (Calls step) [] part e x x (event, (one, refuses, cause, refl))

  -- these stages were done, and those behind them ended so
  pub ends_then : {T : Type 0} (refusal : Option ErrorSeen) (a b : List Stage) (p q : List Event) (r : Result T ErrorSeen) (x y z : Means) → Went t a p x y → Ends t refusal b q r y z → Ends t refusal (a ++ b) (p ++ q) r x z
  ends_then refusal a b p q (Ok v) x y z w o = (o.0, went_then a b p q x y z w o.1)
  ends_then refusal a b p q (Err e) x y z w o = halted_then refusal a b p q e x y z w o

  -- the run ended among the stages of the second of two calls
  pub halted_from : (refusal : Option ErrorSeen) (old mid new : List Event) (a b : List Stage) (e : ErrorSeen) (x y z : Means) → mid ≡ old ++ since old mid → new ≡ mid ++ since mid new → Went t a (since old mid) x y → Halted t refusal b (since mid new) e y z → Halted t refusal (a ++ b) (since old new) e x z
  halted_from refusal old mid new a b e x y z f g w o =
      subst (λ (part : List Event). Halted t refusal (a ++ b) part e x z) (sym (since_since old mid new f g)) (halted_then refusal a b (since old mid) (since mid new) e x y z w o)

  pub went_from : (old mid new : List Event) (a b : List Stage) (x y z : Means) → mid ≡ old ++ since old mid → new ≡ mid ++ since mid new → Went t a (since old mid) x y → Went t b (since mid new) y z → Went t (a ++ b) (since old new) x z
  went_from old mid new a b x y z f g w v =
      subst (λ (part : List Event). Went t (a ++ b) part x z) (sym (since_since old mid new f g)) (went_then a b (since old mid) (since mid new) x y z w v)

  -- the same of the parts of two calls
  pub ends_from : {T : Type 0} (refusal : Option ErrorSeen) (old mid new : List Event) (a b : List Stage) (r : Result T ErrorSeen) (x y z : Means) → mid ≡ old ++ since old mid → new ≡ mid ++ since mid new → Went t a (since old mid) x y → Ends t refusal b (since mid new) r y z → Ends t refusal (a ++ b) (since old new) r x z
  ends_from refusal old mid new a b r x y z f g w o =
      subst (λ (part : List Event). Ends t refusal (a ++ b) part r x z) (sym (since_since old mid new f g)) (ends_then refusal a b (since old mid) (since mid new) r x y z w o)

-- the host's fault is one of this step
abbrev pub IsFaultOf : Step → HostError → Type 0
IsFaultOf step (Faulted call why) = Refuses step (Fault call why)
IsFaultOf step WantsMemory = Unit {0}

-- the host refused a call, or memory for it was wanted
pub refused_call : (t : Terms) (step : Step) (error : HostError) (subject : List ℕ) (part : List Event) (e : ErrorSeen) (x : Means) → part ≡ refused error → IsFaultOf step error → ((call : HostCall) (why : Why) → stop_error step (Fault call why) ≡ fault_error call why subject) → (e ≡ no_memory) ⊎ (e ≡ host_error error subject) → Halted t None (Calls step ∷ []) part e x x
refused_call t step (Faulted call why) subject part e x one of is (inl memory) = uncalled t step (Fault call why) part e x one of (inl memory)
refused_call t step (Faulted call why) subject part e x one of is (inr same) = uncalled t step (Fault call why) part e x one of (inr (same ∙ sym (is call why)))
refused_call t step WantsMemory subject part e x one of is (inl memory) = halted_none t None (Calls step ∷ []) part e x one memory (λ none. absurd (cc))
refused_call t step WantsMemory subject part e x one of is (inr same) = halted_none t None (Calls step ∷ []) part e x one same (λ none. absurd (cc))

-- a fault that a call caused is one of its step
pub fault_of : (step : Step) (call : HostCall) (before now : ℕ) (error : HostError) → ((c : HostCall) (why : Why) → c ≡ call → Refuses step (Fault c why)) → IsCaused call before now error → IsFaultOf step error
fault_of step call before now (Faulted c why) refuses caused = refuses c why caused.0
fault_of step call before now WantsMemory refuses caused = tt

-- what a call added is the part
pub part_is : (old new events : List Event) → new ≡ old ++ events → since old new ≡ events
part_is old new events e = ap (since old) e ∙ since_append old events

-- the same, by another name of the patience
pub same_patience : {T : Type 0} (shows : Shows) (total m n : Option ℕ) (refusal : Option ErrorSeen) (stages : List Stage) (part : List Event) (r : Result T ErrorSeen) (x y : Means) → m ≡ n → Ends (terms shows total m) refusal stages part r x y → Ends (terms shows total n) refusal stages part r x y
same_patience shows total m n refusal stages part r x y e o = subst (λ (p : Option ℕ). Ends (terms shows total p) refusal stages part r x y) e o

-- ---- questions, and the stages behind them

module _ (t : Terms) (f : PlanError → ErrorSeen) where
  -- questions alone were asked: the settings are refused by the answers, or memory was wanted
  pub asked_halted : (p : Option PlanError) (stages : List Stage) (part : List Event) (e : ErrorSeen) (x : Means) → list_all is_asked part ≡ true → (e ≡ no_memory) ⊎ (option_map f p ≡ Some e) → Halted t (option_map f p) (asked_then p stages) part e x x
  asked_halted p stages part e x asked (inl memory) = halted_at t (option_map f p) Asks _ part e x x (memory, asked, refl)
  asked_halted None stages part e x asked (inr refused) = absurd (cc)
  asked_halted (Some error) stages part e x asked (inr refused) = halted_end t (Some (f error)) (Asks ∷ []) part e x x (went_one t Asks part x x (asked, refl)) refused

  -- a phase that was done, and the stages behind it
  pub ends_join : {T : Type 0} (p : Option PlanError) (refusal : Option ErrorSeen) (a b : List Stage) (q s : List Event) (r : Result T ErrorSeen) (x y z : Means) → p ≡ None → Went t (Asks ∷ a) q x y → Ends t refusal b s r y z → Ends t (first_of (option_map f p) refusal) (asked_then p (a ++ b)) (q ++ s) r x z
  ends_join None refusal a b q s r x y z allowed w o = ends_then t refusal (Asks ∷ a) b q s r x y z w o
  ends_join (Some error) refusal a b q s r x y z allowed w o = absurd (cc)

  -- a phase that ended early
  pub halted_join : (p : Option PlanError) (refusal : Option ErrorSeen) (a b : List Stage) (part : List Event) (e : ErrorSeen) (x z : Means) → Halted t (option_map f p) (asked_then p a) part e x z → Halted t (first_of (option_map f p) refusal) (asked_then p (a ++ b)) part e x z
  halted_join None refusal a b part e x z h = halted_more t refusal (Asks ∷ a) b part e x z h
  halted_join (Some error) refusal a b part e x z h = h

  -- nothing is refused of a phase that was done
  pub phase_went : {T : Type 0} (p : Option PlanError) (stages : List Stage) (part : List Event) (v : T) (x y : Means) → Ends t (option_map f p) (asked_then p stages) part (Ok v) x y → (p ≡ None) × Went t (Asks ∷ stages) part x y
  phase_went None stages part v x y o = (refl, o.1)
  phase_went (Some error) stages part v x y o = absurd (let k : Some (f error) ≡ None = o.0 in cc)

  -- questions were asked, nothing is refused, and the stages behind them ended so
  pub phase_ends : {T : Type 0} (p : Option PlanError) (stages : List Stage) (q s : List Event) (r : Result T ErrorSeen) (x y : Means) → p ≡ None → list_all is_asked q ≡ true → Ends t None stages s r x y → Ends t (option_map f p) (asked_then p stages) (q ++ s) r x y
  phase_ends None stages q s r x y allowed asked o = ends_then t None (Asks ∷ []) stages q s r x x y (went_one t Asks q x x (asked, refl)) o
  phase_ends (Some error) stages q s r x y allowed asked o = absurd (cc)

  -- memory was wanted between the questions and the stages
  pub phase_wanting : (p : Option PlanError) (stages : List Stage) (part : List Event) (e : ErrorSeen) (x : Means) → list_all is_asked part ≡ true → e ≡ no_memory → Halted t (option_map f p) (asked_then p stages) part e x x
  phase_wanting p stages part e x asked memory = asked_halted p stages part e x asked (inl memory)
