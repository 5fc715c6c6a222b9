-- Questions whether objects are there, between those of a run.
use Rattle.std.proofs.Common.{◌≡◌, inl, inr, ℕ, zero, suc, ◌<◌, ◌++◌, List, [], ◌∷◌, length, get_or, Bool, true, false, Option, Some, slice_get, refl, sym, ◌∙◌, ap, subst, append-nil}
use Rattle.std.specs.List.{list_all}
use Rattle.std.proofs.lemmas.List.Folds.{list_all-append}
use Rattle.std.proofs.lemmas.Option.{slice_get_read}
use Rattle.cc_host.specs.Part.{since}
use Rattle.cc_host.specs.Question.{Look, Answer, Agrees, Holds, Settles, exists_question, is_yes}
use Rattle.cc_host.specs.declared.event.Event.{Event}
use Rattle.cc_host.specs.declared.question.Outcome.{Outcome}
use Rattle.cc_host.specs.declared.question.Question.{Question}
use Rattle.cc_host.proofs.Parts.{since_since}
use Rattle.cc_plan.specs.Questions.{RunAsks}
use Rattle.cc_plan.specs.Plan.{objects_of}
use Rattle.cc_plan.proofs.LineLemmas.{since_none}
use Rattle.cc_flags.specs.declared.object.Object.{Object}
use Rattle.cc_run.specs.declared.planned.Planned.{Planned}
use Rattle.cc_tool.specs.Probing.{is_asked}
use Rattle.cc_build.specs.Build.{BuildSeen}
use Rattle.cc_build.specs.Kept.{AsksOn, Asking}
use Rattle.cc_fresh.specs.Choice.{AsksForObject}
use Rattle.cc_fresh.specs.InTurn.{pairs}
use Rattle.cc_fresh.specs.Refresh.{RefreshAsks}
use Rattle.cc_fresh.specs.Unit.{unit_of, units_of}
use Rattle.cc_fresh.specs.declared.unit.TranslationUnit.{TranslationUnit}

module _ (steady : Bool) (world : Question → Outcome) (dir : List ℕ) (asks more : Look → Question → Type 0) (wider : (look : Look) (q : Question) → asks look q → more look q) where
  on_wider : (part : List Event) (old new : List Answer) → AsksOn steady world dir asks part old new → AsksOn steady world dir more part old new
  on_wider part old new a = record {
    answered = a.answered;
    once = a.once;
    closed = a.closed;
    excused = a.excused;
    founded = a.founded;
    probing = a.probing;
    dropped = a.dropped;
    honest = a.honest;
    own = record { under = λ look agree i d l. wider look _ (a.own.under look agree i d l) };
  }

  -- these questions are among more
  pub asking_wider : {X : Type 0} (log : X → List Event) (patience : X → Option ℕ) (old new : X) (known after : List Answer) → Asking steady world dir asks log patience old new known after → Asking steady world dir more log patience old new known after
  asking_wider log patience old new known after a = record { patient = a.patient; extends = a.extends; asks = on_wider (since (log old) (log new)) known after a.asks }

-- ---- questions alone

pub quiet_none : (log : List Event) → list_all is_asked (since log log) ≡ true
quiet_none log = ap (list_all is_asked) (since_none log)

-- one call after another
pub quiet_then : (old mid new : List Event) → mid ≡ old ++ since old mid → new ≡ mid ++ since mid new → list_all is_asked (since old mid) ≡ true → list_all is_asked (since mid new) ≡ true → list_all is_asked (since old new) ≡ true
quiet_then old mid new f g p q = ap (list_all is_asked) (since_since old mid new f g) ∙ list_all-append is_asked (since old mid) (since mid new) ∙ rw (p, q) refl

-- ---- the object of a source

-- that of the one at this place
pub asks_here : (units : List TranslationUnit) (i : ℕ) (u : TranslationUnit) (path : List ℕ) → i < length units → u ≡ get_or units i u → path ≡ u.object → (look : Look) (q : Question) → q ≡ exists_question path → AsksForObject units look q
asks_here units i u path within is at look q same = (i, u, (slice_get_read units (length units) i u refl within is, same ∙ ap exists_question at))

unit_at : (objects : List Object) (commands : List Planned) (place : ℕ) (u : TranslationUnit) → slice_get (units_of objects commands) place ≡ Some u → (o : Object) × ((slice_get objects place ≡ Some o) × (u.object ≡ o.dst))
unit_at [] commands place u h = absurd (cc)
unit_at (o ∷ objects) [] place u h = absurd (cc)
unit_at (o ∷ objects) (p ∷ commands) zero u h = let same : unit_of (o, p) ≡ u = cc in (o, (refl, ap (λ (v : TranslationUnit). v.object) (sym same)))
unit_at (o ∷ objects) (p ∷ commands) (suc place) u h = unit_at objects commands place u h

-- those of a refresh
pub of_run : (b : BuildSeen) (look : Look) (q : Question) → RunAsks b.config b.env look q → RefreshAsks b look q
of_run b look q asks = inl asks

pub of_objects : (b : BuildSeen) (commands : List Planned) (units : List TranslationUnit) → units ≡ units_of (objects_of b.config b.env) commands → (look : Look) (q : Question) → AsksForObject units look q → RefreshAsks b look q
of_objects b commands units are look q asks =
    let at = unit_at (objects_of b.config b.env) commands asks.0 asks.1 (subst (λ (us : List TranslationUnit). slice_get us asks.0 ≡ Some asks.1) are asks.2.0) in
    inr (asks.0, at.0, (at.1.0, asks.2.1 ∙ ap exists_question at.1.1))
