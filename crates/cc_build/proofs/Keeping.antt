-- Calls that ask nothing, one after another.
use Rattle.std.proofs.Common.{ℕ, List, ◌++◌, Option, refl, sym, ◌∙◌, ap, append-nil}
use Rattle.cc_host.specs.declared.event.Event.{Event}
use Rattle.cc_host.proofs.Parts.{since_extends}
use Rattle.cc_tool.specs.Asked.{question_events}
use Rattle.cc_tool.proofs.Asides.{none_since}
use Rattle.cc_build.specs.Kept.{Aside}
use Rattle.cc_plan.proofs.LineLemmas.{since_none}

module _ {X : Type 0} (log : X → List Event) (patience : X → Option ℕ) where
  -- where nothing is done
  pub aside_none : (x : X) → Aside log patience x x
  aside_none x = record {
    patient = refl;
    extends = sym (ap (λ p. log x ++ p) (since_none (log x)) ∙ append-nil (log x));
    asks_none = ap question_events (since_none (log x));
  }

  -- one after the other
  pub aside_then : (old mid new : X) → Aside log patience old mid → Aside log patience mid new → Aside log patience old new
  aside_then old mid new a b = record {
    patient = b.patient ∙ a.patient;
    extends = since_extends (log old) (log mid) (log new) a.extends b.extends;
    asks_none = none_since (log old) (log mid) (log new) a.extends b.extends a.asks_none b.asks_none;
  }
