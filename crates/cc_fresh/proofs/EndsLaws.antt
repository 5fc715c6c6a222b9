-- How a refresh ends, part by part.
use Rattle.std.proofs.Common.{◌≡◌, ◌≢◌, ◌⊎◌, ◌≤◌, arith, inl, inr, ℕ, List, [], ◌∷◌, ◌++◌, Bool, true, false, if◌then◌else◌, Option, Some, None, is_some, option_map, Result, Ok, Err, refl, sym, ◌∙◌, ap, subst, append_assoc, append-nil}
use Rattle.std.specs.List.{list_all}
use Rattle.cc_env.specs.Env.{EnvSeen}
use Rattle.cc_host.specs.Part.{since}
use Rattle.cc_host.specs.Question.{Look}
use Rattle.cc_host.specs.declared.event.Event.{Event}
use Rattle.cc_host.proofs.Parts.{since_since}
use Rattle.cc_flags.specs.Given.{is_disabled, first_of}
use Rattle.cc_flags.specs.declared.settings.BuildConfig.{BuildConfig}
use Rattle.cc_plan.specs.Refusal.{early_refusal, late_refusal}
use Rattle.cc_plan.specs.declared.error.PlanError.{PlanError}
use Rattle.cc_tool.specs.Probing.{is_asked}
use Rattle.cc_build.specs.Build.{BuildSeen}
use Rattle.cc_build.specs.Error.{ErrorSeen, no_memory}
use Rattle.cc_build.specs.Refusal.{plan_error, disabled_error, early_error, late_error}
use Rattle.cc_build.specs.RunPlan.{checked_then}
use Rattle.cc_build.specs.Stage.{Stage, calls, opening_steps, folder_stages, later_stages}
use Rattle.cc_build.specs.Stage.Stage.{Asks}
use Rattle.cc_build.specs.Way.{Way, Found}
use Rattle.cc_build.specs.Went.{Terms, Means, Went, Halted, Ends}
use Rattle.cc_build.proofs.Going.{went_then, went_one, went_from, halted_more, halted_then, halted_at, halted_among, halted_from}
use Rattle.cc_fresh.specs.Reads.{Read, EndsAt}
use Rattle.cc_fresh.specs.Refresh.{EndsWith, IsReadError, Unread, read_error}
use Rattle.cc_fresh.specs.Refreshing.{IsErrorOf}
use Rattle.cc_fresh.specs.declared.file.ReadError.{ReadError}
use Rattle.cc_fresh.specs.declared.file.ReadError.TheVariants.{Fault, NoMemory}

-- ---- the error of a read

-- it is that of the next read, or memory was wanted
pub read_cause : (r : ReadError) (e : ErrorSeen) (more : List Read) (x y : ℕ) → IsErrorOf r e → EndsAt r more x y → (e ≡ no_memory) ⊎ IsReadError e more x y
read_cause NoMemory e more x y is ends = inl is
read_cause (Fault path) e more x y (inl memory) ends = inl memory
read_cause (Fault path) e [] x y (inr is) ends = absurd ends
read_cause (Fault path) e (next ∷ more) x y (inr is) ends = inr (is ∙ ap read_error ends.0, ends.1)

-- so it is before more reads
error_more : (e : ErrorSeen) (more rest : List Read) (x y : ℕ) → IsReadError e more x y → IsReadError e (more ++ rest) x y
error_more e [] rest x y h = absurd h
error_more e (next ∷ more) rest x y h = h

error_sooner : (e : ErrorSeen) (more : List Read) (x y z : ℕ) → x ≤ y → IsReadError e more y z → IsReadError e more x z
error_sooner e [] x y z least h = absurd h
error_sooner e (next ∷ more) x y z least h = (h.0, λ few. let rose = h.1 few in omega (arith, least, rose))

module _ (t : Terms) (faults now : ℕ) where
  -- by other names
  pub ends_as : {T : Type 0} (refusal same_refusal : Option ErrorSeen) (stages same : List Stage) (more : List Read) (r : Result T ErrorSeen) (part : List Event) (x z : Means) → refusal ≡ same_refusal → stages ≡ same → EndsWith t refusal stages more r part x z faults now → EndsWith t same_refusal same more r part x z faults now
  ends_as refusal same_refusal stages same more r part x z p q h =
      subst (λ (o : Option ErrorSeen). EndsWith t o same more r part x z faults now) p (subst (λ (l : List Stage). EndsWith t refusal l more r part x z faults now) q h)

  -- it ended so with more reads left
  pub refused_more : (refusal : Option ErrorSeen) (stages : List Stage) (more rest : List Read) (e : ErrorSeen) (part : List Event) (x z : Means) → Halted t refusal stages part e x z ⊎ Unread t stages part e more x z faults now → Halted t refusal stages part e x z ⊎ Unread t stages part e (more ++ rest) x z faults now
  refused_more refusal stages more rest e part x z (inl h) = inl h
  refused_more refusal stages more rest e part x z (inr u) = inr (record {
    before = u.before;
    after = u.after;
    stages_are = u.stages_are;
    some_left = u.some_left;
    went = u.went;
    cause = error_more e more rest faults now u.cause;
  })

  -- behind stages that were done
  pub ends_behind : {T : Type 0} (refusal : Option ErrorSeen) (a b : List Stage) (more : List Read) (r : Result T ErrorSeen) (p q : List Event) (x y z : Means) → Went t a p x y → EndsWith t refusal b more r q y z faults now → EndsWith t refusal (a ++ b) more r (p ++ q) x z faults now
  ends_behind refusal a b more (Ok v) p q x y z w h = (h.0, h.1, went_then t a b p q x y z w h.2)
  ends_behind refusal a b more (Err e) p q x y z w (inl h) = inl (halted_then t refusal a b p q e x y z w h)
  ends_behind refusal a b more (Err e) p q x y z w (inr u) = inr (record {
    before = a ++ u.before;
    after = u.after;
    stages_are = ap (λ l. a ++ l) u.stages_are ∙ sym (append_assoc a u.before u.after);
    some_left = u.some_left;
    went = went_then t a u.before p q x y z w u.went;
    cause = u.cause;
  })

  pub ends_from_both : {T : Type 0} (refusal : Option ErrorSeen) (old mid new : List Event) (a b : List Stage) (more : List Read) (r : Result T ErrorSeen) (x y z : Means) → mid ≡ old ++ since old mid → new ≡ mid ++ since mid new → Went t a (since old mid) x y → EndsWith t refusal b more r (since mid new) y z faults now → EndsWith t refusal (a ++ b) more r (since old new) x z faults now
  ends_from_both refusal old mid new a b more r x y z f g w h =
      subst (λ (part : List Event). EndsWith t refusal (a ++ b) more r part x z faults now) (sym (since_since old mid new f g)) (ends_behind refusal a b more r (since old mid) (since mid new) x y z w h)

  -- before stages that aren't wanted where the settings are refused
  pub halted_before : (refusal : Option ErrorSeen) (a b : List Stage) (part : List Event) (e : ErrorSeen) (x z : Means) → Halted t refusal a part e x z → Halted t refusal (a ++ (if is_some refusal then [] else b)) part e x z
  halted_before None a b part e x z h = halted_more t None a b part e x z h
  halted_before (Some refused) a b part e x z h = subst (λ (l : List Stage). Halted t (Some refused) l part e x z) (sym (append-nil a)) h

  -- nothing is refused, those were done, and these ended so
  pub ends_last : {T : Type 0} (refusal : Option ErrorSeen) (old mid new : List Event) (a b : List Stage) (more : List Read) (r : Result T ErrorSeen) (x y z : Means) → refusal ≡ None → mid ≡ old ++ since old mid → new ≡ mid ++ since mid new → Went t a (since old mid) x y → EndsWith t None b more r (since mid new) y z faults now → EndsWith t refusal (a ++ (if is_some refusal then [] else b)) more r (since old new) x z faults now
  ends_last None old mid new a b more r x y z none f g w h = ends_from_both None old mid new a b more r x y z f g w h
  ends_last (Some refused) old mid new a b more r x y z none f g w h = absurd (cc)

  -- questions were asked, and then it was read no further
  pub unread_behind : (refusal : Option ErrorSeen) (old mid new : List Event) (a rest : List Stage) (more : List Read) (r : ReadError) (e : ErrorSeen) (x : Means) → rest ≢ [] → mid ≡ old ++ since old mid → new ≡ mid ++ since mid new → Went t a (since old mid) x x → list_all is_asked (since mid new) ≡ true → IsErrorOf r e → EndsAt r more faults now → EndsWith {T = Unit {0}} t refusal (a ++ Asks ∷ rest) more (Err e) (since old new) x x faults now
  unread_behind refusal old mid new a rest more r e x some f g w asked is ends = by_cause (read_cause r e more faults now is ends)
    where
      by_cause : (e ≡ no_memory) ⊎ IsReadError e more faults now → EndsWith {T = Unit {0}} t refusal (a ++ Asks ∷ rest) more (Err e) (since old new) x x faults now
      by_cause (inl memory) = inl (halted_from t refusal old mid new a (Asks ∷ rest) e x x x f g w (halted_at t refusal Asks rest (since mid new) e x x (memory, asked, refl)))
      by_cause (inr cause) = inr (record {
        before = a ++ Asks ∷ [];
        after = rest;
        stages_are = sym (append_assoc a (Asks ∷ []) rest);
        some_left = some;
        went = went_from t old mid new a (Asks ∷ []) x x x f g w (went_one t Asks (since mid new) x x (asked, refl));
        cause = cause;
      })

  -- it was read no further before these stages
  pub unread_before : (refusal : Option ErrorSeen) (stages : List Stage) (more : List Read) (r : ReadError) (e : ErrorSeen) (part : List Event) (x : Means) → stages ≢ [] → part ≡ [] → IsErrorOf r e → EndsAt r more faults now → EndsWith {T = Unit {0}} t refusal stages more (Err e) part x x faults now
  unread_before refusal stages more r e part x some none is ends = by_cause (read_cause r e more faults now is ends)
    where
      by_cause : (e ≡ no_memory) ⊎ IsReadError e more faults now → EndsWith {T = Unit {0}} t refusal stages more (Err e) part x x faults now
      by_cause (inl memory) = inl (halted_among t refusal [] stages part e x x (none, refl) memory (λ empty. absurd (some empty)))
      by_cause (inr cause) = inr (record { before = []; after = stages; stages_are = refl; some_left = some; went = (none, refl); cause = cause })

-- counted from before
pub ends_sooner : {T : Type 0} (t : Terms) (x y z : ℕ) → x ≤ y → (refusal : Option ErrorSeen) (stages : List Stage) (more : List Read) (r : Result T ErrorSeen) (part : List Event) (m n : Means) → EndsWith t refusal stages more r part m n y z → EndsWith t refusal stages more r part m n x z
ends_sooner t x y z least refusal stages more (Ok v) part m n h = h
ends_sooner t x y z least refusal stages more (Err e) part m n (inl h) = inl h
ends_sooner t x y z least refusal stages more (Err e) part m n (inr u) = inr (record {
  before = u.before;
  after = u.after;
  stages_are = u.stages_are;
  some_left = u.some_left;
  went = u.went;
  cause = error_sooner e more x y z least u.cause;
})

-- ---- the stages up to the choice

-- those of the opening
abbrev pub opened : BuildSeen → Found → Look → List Stage
opened b found look = folder_stages b.config b.env ++ Asks ∷ calls (opening_steps b.config b.env found look)

stages_by : (disabled : Bool) (early late : Option PlanError) (folder opening more : List Stage) → early ≡ None → disabled ≡ false → late ≡ None → (folder ++ Asks ∷ opening) ++ more ≡ (if is_some early then [] else folder ++ (if disabled then [] else Asks ∷ (if is_some late then [] else opening ++ more)))
stages_by false None None folder opening more e d l = append_assoc folder (Asks ∷ opening) more
stages_by true early late folder opening more e d l = absurd (cc)
stages_by false (Some error) late folder opening more e d l = absurd (cc)
stages_by false None (Some error) folder opening more e d l = absurd (cc)

refusal_by : (f : PlanError → ErrorSeen) (g : ErrorSeen) (disabled : Bool) (early late : Option PlanError) (rest : Option ErrorSeen) → early ≡ None → disabled ≡ false → late ≡ None → rest ≡ first_of (option_map f early) (first_of (if disabled then Some g else option_map f late) rest)
refusal_by f g false None None rest e d l = refl
refusal_by f g true early late rest e d l = absurd (cc)
refusal_by f g false (Some error) late rest e d l = absurd (cc)
refusal_by f g false None (Some error) rest e d l = absurd (cc)

module _ (b : BuildSeen) (output : List ℕ) (found : Found) (look : Look) (early : early_refusal b.config b.env output ≡ None) (enabled : is_disabled b.env ≡ false) (late : late_refusal b.config b.env look ≡ None) where
  pub stages_are : (more : List Stage) → opened b found look ++ more ≡ checked_then (early_refusal b.config b.env output) b.config b.env found look more
  stages_are more = stages_by (is_disabled b.env) (early_refusal b.config b.env output) (late_refusal b.config b.env look) (folder_stages b.config b.env) (calls (opening_steps b.config b.env found look)) more early enabled late

  pub refusal_is : (rest : Option ErrorSeen) → rest ≡ first_of (early_error b.config b.env output) (first_of (late_error b.config b.env look output) rest)
  refusal_is rest = refusal_by (plan_error b.config b.env output) disabled_error (is_disabled b.env) (early_refusal b.config b.env output) (late_refusal b.config b.env look) rest early enabled late

-- behind the sources there are stages
pub later_left : (b : BuildSeen) (way : Way) (look : Look) (output : List ℕ) (front back : List Stage) → (front ++ later_stages b.config b.env way look output) ++ back ≢ []
unfolding later_stages
later_left b way look output [] back = λ none. absurd (cc)
later_left b way look output (s ∷ front) back = λ none. absurd (cc)
