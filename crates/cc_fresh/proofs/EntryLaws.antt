-- The entries of sources.
use Rattle.std.proofs.Common.{◌≡◌, ℕ, List, [], ◌∷◌, ◌++◌, Bool, Option, option_to_list, refl, sym, subst, append-nil}
use Rattle.cc_host.specs.declared.files.Held.TheVariants.{Absent}
use Rattle.cc_fresh.specs.Choice.{entry_for}
use Rattle.cc_fresh.specs.Entries.{IsEntry, entry_by}
use Rattle.cc_fresh.specs.Made.{Dep, ReadMade, deps_path}
use Rattle.cc_fresh.specs.Reads.{Read, Adds, AddsFirst}
use Rattle.cc_fresh.specs.declared.file.ReadError.{ReadError}
use Rattle.cc_fresh.specs.declared.file.ReadError.TheVariants.{NoMemory}
use Rattle.cc_fresh.specs.declared.record.Entry.{Entry}
use Rattle.cc_fresh.specs.declared.unit.TranslationUnit.{TranslationUnit}
use Rattle.cc_fresh.specs.declared.unit.UnitState.{UnitState}
use Rattle.cc_fresh.specs.declared.unit.UnitState.TheVariants.{Kept, Compiled}
use Rattle.cc_fresh.proofs.FirstReads.{first_of_more, first_wanting}
use Rattle.cc_fresh.proofs.InTurnLaws.{Comes, May}
use Rattle.cc_fresh.proofs.MadeLaws.{AreReadMade, may_read_made}

-- each source may have one
pub may_enter : (checks : Bool) (kept : List Entry) → May (IsEntry checks kept)
may_enter checks kept (u, Kept) = ([], (option_to_list (entry_for kept u.object), (refl, refl)))
may_enter checks kept (u, Compiled digest) =
    let made = may_read_made checks u.object Absent in
    ((deps_path u.object, Absent) ∷ made.0, (entry_by u digest made.1.0, (made.1.0, (made.1.1, refl))))

module _ (checks : Bool) (kept : List Entry) (u : TranslationUnit) (state : UnitState) (old new : List Read) (e : ReadError) (x y : ℕ) where
  abbrev its : List Read → Type 0
  its = Comes (IsEntry checks kept) (u, state)

  -- memory was wanted before its files were read
  pub entry_unread : e ≡ NoMemory → new ≡ old ++ [] → AddsFirst old new its e x y
  entry_unread memory same = first_wanting its old new [] e x y memory same (may_enter checks kept (u, state))

  module _ (digest : Option (List ℕ)) (path : List ℕ) (is : state ≡ Compiled digest) (at : path ≡ u.object) where
    made_so : (l : List Read) (deps : Option (List Dep)) → ReadMade checks path l deps → its l
    made_so l deps h =
        subst (λ (s : UnitState). Comes (IsEntry checks kept) (u, s) l) (sym is)
        (entry_by u digest deps, (deps, (subst (λ (p : List ℕ). ReadMade checks p l deps) at h, refl)))

    -- they were read no further
    pub entry_refused : AddsFirst old new (AreReadMade checks path) e x y → AddsFirst old new its e x y
    entry_refused h = first_of_more (AreReadMade checks path) its old new e x y (λ l k. ([], subst its (sym (append-nil l)) (made_so l k.0 k.1))) h

    -- memory was wanted for it
    pub entry_wanting : (deps : Option (List Dep)) → e ≡ NoMemory → Adds old new (λ told. ReadMade checks path told deps) → AddsFirst old new its e x y
    entry_wanting deps memory h = first_wanting its old new h.0 e x y memory h.1.0 ([], subst its (sym (append-nil h.0)) (made_so h.0 deps h.1.1))
