-- What is known of sources before the run.
use Rattle.std.proofs.Common.{◌≡◌, ℕ, List, [], ◌∷◌, ◌++◌, Bool, true, refl, sym, ◌∙◌, ap, subst, append-nil}
use Rattle.cc_fresh.specs.Choice.{IsState}
use Rattle.cc_fresh.specs.Made.{digest_of}
use Rattle.cc_fresh.specs.Reads.{Read, AddsFirst, IsOne}
use Rattle.cc_fresh.specs.declared.file.ReadError.{ReadError}
use Rattle.cc_fresh.specs.declared.unit.TranslationUnit.{TranslationUnit}
use Rattle.cc_fresh.specs.declared.unit.UnitState.TheVariants.{Compiled}
use Rattle.cc_fresh.proofs.FirstReads.{first_of_more}
use Rattle.cc_fresh.proofs.InTurnLaws.{Comes}

-- one that is compiled wasn't read
pub state_refused : (u : TranslationUnit) (is_compiled : Bool) (path : List ℕ) (old new : List Read) (e : ReadError) (x y : ℕ) → is_compiled ≡ true → path ≡ u.source → AddsFirst old new (IsOne path) e x y → AddsFirst old new (Comes IsState (u, is_compiled)) e x y
state_refused u is_compiled path old new e x y compiled at h =
    first_of_more (IsOne path) (Comes IsState (u, is_compiled)) old new e x y
    (λ l one. (
      [],
      subst (Comes IsState (u, is_compiled)) (sym (append-nil l))
          (subst (λ (b : Bool). Comes IsState (u, b) l) (sym compiled)
          (Compiled (digest_of one.0) ∷ [], (one.0, (one.1 ∙ ap (λ (p : List ℕ). (p, one.0) ∷ []) at, refl)))),
    )) h
