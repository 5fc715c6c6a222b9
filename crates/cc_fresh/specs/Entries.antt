-- What is kept of the sources of a refresh.
use Rattle.std.specs.Prelude.{◌≡◌, ℕ, List, [], ◌∷◌, Bool, Option, Some, None, option_to_list}
use Rattle.cc_fresh.specs.Choice.{entry_for}
use Rattle.cc_fresh.specs.InTurn.{InTurn, pairs}
use Rattle.cc_fresh.specs.Made.{Dep, ReadMade}
use Rattle.cc_fresh.specs.Reads.{Read}
use Rattle.cc_fresh.specs.declared.record.Entry.{Entry}
use Rattle.cc_fresh.specs.declared.unit.TranslationUnit.{TranslationUnit}
use Rattle.cc_fresh.specs.declared.unit.UnitState.{UnitState}
use Rattle.cc_fresh.specs.declared.unit.UnitState.TheVariants.{Kept, Compiled}

-- an entry, where the source was there, and its compiler told of files that are all there
abbrev pub entry_by : TranslationUnit → Option (List ℕ) → Option (List Dep) → List Entry
entry_by u (Some source) (Some deps) =
    record { object = u.object; command = u.command; source = source; deps = deps } ∷ []
entry_by u _ _ = []

-- The entry of a source, where it has one: of a fresh one the kept one, and of one that was compiled what was read of
-- it before the run and behind it, the latter by these reads.
abbrev pub IsEntry : Bool → List Entry → TranslationUnit × UnitState → List Entry → List Read → Type 0
IsEntry checks kept (u, Kept) entries told = (told ≡ []) × (entries ≡ option_to_list (entry_for kept u.object))
IsEntry checks kept (u, Compiled digest) entries told =
    (deps : Option (List Dep)) × (ReadMade checks u.object told deps × (entries ≡ entry_by u digest deps))

-- the entries of the sources, one after another
abbrev pub AreEntries : Bool → List Entry → List TranslationUnit → List UnitState → List Entry → List Read → Type 0
AreEntries checks kept units states entries told = InTurn (IsEntry checks kept) (pairs units states) entries told
