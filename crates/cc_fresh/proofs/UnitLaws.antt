-- The sources of a build, one after another.
use Rattle.std.proofs.Common.{◌≡◌, ◌≤◌, ◌+◌, ℕ, suc, List, [], ◌∷◌, ◌++◌, length, drop, map, Some, None, slice_get, refl, sym, ◌∙◌, ap, ap₂, add-one, append_assoc, append-nil}
use Rattle.cc_flags.specs.declared.object.Object.{Object}
use Rattle.cc_run.specs.declared.planned.Planned.{Planned}
use Rattle.cc_fresh.specs.InTurn.{pairs}
use Rattle.cc_fresh.specs.Unit.{unit_of, units_of}
use Rattle.cc_fresh.specs.declared.unit.TranslationUnit.{TranslationUnit}
use Rattle.cc_fresh.proofs.InTurnLaws.{pair_at, pair_none, pair_end}

module _ (os : List Object) (ps : List Planned) (i : ℕ) (old : List TranslationUnit) (so_far : old ++ map unit_of (drop i (pairs os ps)) ≡ units_of os ps) where
  -- the next one goes behind those so far
  pub units_next : (o : Object) (p : Planned) (u : TranslationUnit) (new : List TranslationUnit) → slice_get os i ≡ Some o → slice_get ps i ≡ Some p → u ≡ unit_of (o, p) → new ≡ old ++ u ∷ [] → new ++ map unit_of (drop (i + 1) (pairs os ps)) ≡ units_of os ps
  units_next o p u new at of is put =
      ap₂ (λ l k. l ++ map unit_of (drop k (pairs os ps))) (put ∙ ap (λ v. old ++ v ∷ []) is) (add-one i)
      ∙ append_assoc old (unit_of (o, p) ∷ []) (map unit_of (drop (suc i) (pairs os ps)))
      ∙ ap (λ l. old ++ map unit_of l) (sym (pair_at os ps i o p at of))
      ∙ so_far

  units_stop : drop i (pairs os ps) ≡ [] → old ≡ units_of os ps
  units_stop none = sym (append-nil old) ∙ ap (λ l. old ++ map unit_of l) (sym none) ∙ so_far

  -- there is no further command, or no further object
  pub units_none : slice_get ps i ≡ None → old ≡ units_of os ps
  units_none none = units_stop (pair_none os ps i none)

  pub units_end : length os ≤ i → old ≡ units_of os ps
  units_end past = units_stop (pair_end os ps i past)
