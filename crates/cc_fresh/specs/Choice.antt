-- Which sources are compiled, and what is read to find it out.
use Rattle.std.specs.Prelude.{◌≡◌, ℕ, List, [], ◌∷◌, ◌++◌, map, Bool, true, false, Option, Some, None, find, bytes_eq, slice_get, if◌then◌else◌}
use Rattle.cc_host.specs.Question.{Look, exists_question, is_yes}
use Rattle.cc_host.specs.declared.files.Held.{Held}
use Rattle.cc_host.specs.declared.files.Held.TheVariants.{Absent, Bytes}
use Rattle.cc_host.specs.declared.question.Question.{Question}
use Rattle.cc_fresh.specs.InTurn.{InTurn, pairs}
use Rattle.cc_fresh.specs.Made.{digest_of}
use Rattle.cc_fresh.specs.Reads.{Read}
use Rattle.cc_fresh.specs.Reason.{IsRead}
use Rattle.cc_fresh.specs.Record.{read_record}
use Rattle.cc_fresh.specs.declared.reason.Reason.{Reason}
use Rattle.cc_fresh.specs.declared.reason.Reason.TheVariants.{Fresh, NoEntry, Command, NoObject}
use Rattle.cc_fresh.specs.declared.record.Entry.{Entry}
use Rattle.cc_fresh.specs.declared.unit.TranslationUnit.{TranslationUnit}
use Rattle.cc_fresh.specs.declared.unit.UnitState.{UnitState}
use Rattle.cc_fresh.specs.declared.unit.UnitState.TheVariants.{Kept, Compiled}

-- ---- the record

-- what is kept of objects: the entries of its text, and none where there is no such file
abbrev pub kept_in : Held → List Entry
kept_in Absent = []
kept_in (Bytes text) = read_record text

-- the entry of an object, the first where there are several
abbrev pub entry_for : List Entry → List ℕ → Option Entry
entry_for kept object = find (λ e. bytes_eq e.object object) kept

-- ---- the reason of a source

-- With the entry of its object: its command is another, its object isn't there, or its files give the reason. What
-- isn't needed isn't read.
abbrev pub ByEntry : TranslationUnit → Entry → Bool → Bool → Reason → List Read → Type 0
ByEntry u e false there reason told = (reason ≡ Command) × (told ≡ [])
ByEntry u e true false reason told = (reason ≡ NoObject) × (told ≡ [])
ByEntry u e true true reason told = IsRead u.source e reason told

abbrev pub ByEntries : Look → TranslationUnit → Option Entry → Reason → List Read → Type 0
ByEntries look u None reason told = (reason ≡ NoEntry) × (told ≡ [])
ByEntries look u (Some e) reason told =
    ByEntry u e (bytes_eq e.command u.command) (is_yes (look (exists_question u.object))) reason told

-- these reads were made, and this is the reason
abbrev pub IsReason : List Entry → Look → TranslationUnit → Reason → List Read → Type 0
IsReason kept look u reason told = ByEntries look u (entry_for kept u.object) reason told

-- it alone is the reason
abbrev pub HasReason : List Entry → Look → TranslationUnit → List Reason → List Read → Type 0
HasReason kept look u reasons told = (reason : Reason) × ((reasons ≡ reason ∷ []) × IsReason kept look u reason told)

-- it is asked whether the object of one of these sources is there
abbrev pub AsksForObject : List TranslationUnit → Look → Question → Type 0
AsksForObject units look q =
    (place : ℕ) × (u : TranslationUnit) × ((slice_get units place ≡ Some u) × (q ≡ exists_question u.object))

-- ---- the choice

abbrev pub is_fresh : Reason → Bool
is_fresh Fresh = true
is_fresh _ = false

-- a source is compiled where it isn't fresh
abbrev pub is_compiled : Reason → Bool
is_compiled reason = if is_fresh reason then false else true

abbrev pub choices_of : List Reason → List Bool
choices_of reasons = map is_compiled reasons

-- what is known of a source before the run: one that is compiled was read
abbrev pub IsState : TranslationUnit × Bool → List UnitState → List Read → Type 0
IsState (u, false) states told = (states ≡ Kept ∷ []) × (told ≡ [])
IsState (u, true) states told =
    (held : Held) × ((told ≡ (u.source, held) ∷ []) × (states ≡ Compiled (digest_of held) ∷ []))

-- The record was read, then what the reasons need, in the order of the sources, and then each source that is compiled.
pub record Chooses (path : List ℕ) (units : List TranslationUnit) (look : Look) (kept : List Entry)
    (reasons : List Reason) (states : List UnitState) (told : List Read) : Type 0 where
  pub held : Held
  pub first : List Read
  pub stale : List Read
  pub cut : told ≡ (path, held) ∷ first ++ stale
  pub kept_is : kept ≡ kept_in held
  pub reasons_are : InTurn (HasReason kept look) units reasons first
  pub states_are : InTurn IsState (pairs units (choices_of reasons)) states stale

-- such reads are made for a choice, whatever is found out
abbrev pub MayChoose : List ℕ → List TranslationUnit → Look → List Read → Type 0
MayChoose path units look told =
    (kept : List Entry) × (reasons : List Reason) × (states : List UnitState)
    × Chooses path units look kept reasons states told
