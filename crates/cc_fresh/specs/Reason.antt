-- Why a source is compiled, and which files are read to find it out.
use Rattle.std.specs.Prelude.{◌≡◌, ◌⊎◌, ℕ, zero, suc, List, [], ◌∷◌, ◌++◌, Bool, true, false, Option, Some, None, bytes_eq}
use Rattle.cc_host.specs.declared.files.Held.{Held}
use Rattle.cc_host.specs.declared.files.Held.TheVariants.{Absent, Bytes}
use Rattle.cc_fresh.specs.Digests.{digest}
use Rattle.cc_fresh.specs.Reads.{Read, AddsHeld}
use Rattle.cc_fresh.specs.declared.reason.Reason.{Reason}
use Rattle.cc_fresh.specs.declared.reason.Reason.TheVariants.{Fresh, Source, Dependency}
use Rattle.cc_fresh.specs.declared.record.Entry.{Entry}

-- a file has this digest
abbrev pub agrees : List ℕ → Held → Bool
agrees wanted Absent = false
agrees wanted (Bytes bytes) = bytes_eq (digest bytes) wanted

-- it has this digest or not
abbrev pub AddsOne : List Read → List Read → List ℕ → List ℕ → Bool → Type 0
AddsOne old new path wanted same = AddsHeld old new path (λ held. same ≡ agrees wanted held)

-- These files, each with the digest that it is to have, were read one after another up to the first that doesn't have
-- it. That is at this place, where there is one, counted from such a number on.
abbrev pub ReadTo : ℕ → List (List ℕ × List ℕ) → List Read → Option ℕ → Type 0
ReadTo k [] told off = (told ≡ []) × (off ≡ None)
ReadTo k (w ∷ ws) told off =
    (held : Held) × (rest : List Read) × ((told ≡ (w.0, held) ∷ rest)
    × (((agrees w.1 held ≡ true) × ReadTo (suc k) ws rest off)
    ⊎ ((agrees w.1 held ≡ false) × (rest ≡ []) × (off ≡ Some k))))

-- the files of an entry: its source, and then the further ones, each with its digest
abbrev pub wanted : List ℕ → Entry → List (List ℕ × List ℕ)
wanted source e = (source, e.source) ∷ e.deps

-- the reason, by the place of the first of them that has another digest
abbrev pub reason_at : Option ℕ → Reason
reason_at None = Fresh
reason_at (Some zero) = Source
reason_at (Some (suc k)) = Dependency k

-- the files of an entry were read as far as needed, and this is the reason
abbrev pub IsRead : List ℕ → Entry → Reason → List Read → Type 0
IsRead source e reason told = (off : Option ℕ) × (ReadTo 0 (wanted source e) told off × (reason ≡ reason_at off))

-- the files of an entry were read as far as needed, whatever the reason
abbrev pub AreRead : List ℕ → Entry → List Read → Type 0
AreRead source e told = (reason : Reason) × IsRead source e reason told
