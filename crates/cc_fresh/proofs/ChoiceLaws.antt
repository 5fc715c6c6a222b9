-- What is read for a choice.
use Rattle.std.proofs.Common.{◌≡◌, ◌≤◌, ℕ, List, [], ◌∷◌, ◌++◌, Bool, true, false, Option, Some, None, bytes_eq, refl, sym, ◌∙◌, ap, subst, append_assoc, append-nil}
use Rattle.cc_host.specs.Question.{Look, exists_question, is_yes}
use Rattle.cc_host.specs.declared.files.Held.{Held}
use Rattle.cc_host.specs.declared.files.Held.TheVariants.{Absent}
use Rattle.cc_fresh.specs.Choice.{ByEntry, ByEntries, Chooses, HasReason, IsReason, IsState, MayChoose, choices_of, entry_for, kept_in}
use Rattle.cc_fresh.specs.InTurn.{InTurn, InTurnSome, pairs}
use Rattle.cc_fresh.specs.Reads.{Read, Adds, AddsFirst, IsOne}
use Rattle.cc_fresh.specs.Reason.{wanted}
use Rattle.cc_fresh.specs.declared.file.ReadError.{ReadError}
use Rattle.cc_fresh.specs.declared.file.ReadError.TheVariants.{NoMemory}
use Rattle.cc_fresh.specs.declared.reason.Reason.{Reason}
use Rattle.cc_fresh.specs.declared.reason.Reason.TheVariants.{NoEntry, Command, NoObject}
use Rattle.cc_fresh.specs.declared.record.Entry.{Entry}
use Rattle.cc_fresh.specs.declared.unit.TranslationUnit.{TranslationUnit}
use Rattle.cc_fresh.specs.declared.unit.UnitState.{UnitState}
use Rattle.cc_fresh.specs.declared.unit.UnitState.TheVariants.{Kept, Compiled}
use Rattle.cc_fresh.proofs.FirstReads.{first_of_more, first_behind, first_wanting}
use Rattle.cc_fresh.proofs.InTurnLaws.{Comes, May, may_all}
use Rattle.cc_fresh.proofs.ReasonLaws.{may_read, reason_of}

-- a source has a reason, whatever is there
may_by : (u : TranslationUnit) (e : Entry) (same there : Bool) → (told : List Read) × ((reason : Reason) × ByEntry u e same there reason told)
may_by u e false there = ([], (Command, (refl, refl)))
may_by u e true false = ([], (NoObject, (refl, refl)))
may_by u e true true = let k = may_read 0 (wanted u.source e) in (k.0, reason_of u.source e k.0 k.1)

may_entry : (look : Look) (u : TranslationUnit) (e : Option Entry) → (told : List Read) × ((reason : Reason) × ByEntries look u e reason told)
may_entry look u None = ([], (NoEntry, (refl, refl)))
may_entry look u (Some e) = may_by u e (bytes_eq e.command u.command) (is_yes (look (exists_question u.object)))

pub may_reason : (kept : List Entry) (look : Look) → May (HasReason kept look)
may_reason kept look u =
    let k = may_entry look u (entry_for kept u.object) in
    (k.0, (k.1.0 ∷ [], (k.1.0, (refl, k.1.1))))

pub may_state : May IsState
may_state (u, false) = ([], (Kept ∷ [], (refl, refl)))
may_state (u, true) = ((u.source, Absent) ∷ [], (Compiled None ∷ [], (Absent, (refl, refl))))

-- a choice may be made
pub may_choose : (path : List ℕ) (units : List TranslationUnit) (look : Look) → (told : List Read) × MayChoose path units look told
may_choose path units look =
    let first = may_all (HasReason [] look) (may_reason [] look) units in
    let stale = may_all IsState may_state (pairs units (choices_of first.1.0)) in (
      (path, Absent) ∷ first.0 ++ stale.0,
      ([], first.1.0, stale.1.0, record { held = Absent; first = first.0; stale = stale.0; cut = refl; kept_is = refl; reasons_are = first.1.1; states_are = stale.1.1 }),
    )

-- ---- the reason of a source

module _ (kept : List Entry) (look : Look) (u : TranslationUnit) (old new : List Read) where
  -- its reason, whatever it is
  abbrev pub AnyReason : List Read → Type 0
  AnyReason told = (reason : Reason) × IsReason kept look u reason told

  -- no file is read for it
  pub unread_reason : (reason : Reason) → new ≡ old → IsReason kept look u reason [] → Adds old new (IsReason kept look u reason)
  unread_reason reason same h = ([], (same ∙ sym (append-nil old), h))

  -- memory was wanted before its files were read
  pub reason_wanting : (e : ReadError) (x y : ℕ) → e ≡ NoMemory → new ≡ old → AddsFirst old new AnyReason e x y
  reason_wanting e x y memory same = first_wanting AnyReason old new [] e x y memory (same ∙ sym (append-nil old)) (may_entry look u (entry_for kept u.object))

  module _ (e : Entry) (there : Bool) (has : entry_for kept u.object ≡ Some e) (fits : bytes_eq e.command u.command ≡ true) (yes : is_yes (look (exists_question u.object)) ≡ there) where
    by_entry : (reason : Reason) (told : List Read) → ByEntry u e true there reason told → IsReason kept look u reason told
    by_entry reason told h =
        subst (λ (o : Option Entry). ByEntries look u o reason told) (sym has)
        (subst (λ (b : Bool). ByEntry u e b (is_yes (look (exists_question u.object))) reason told) (sym fits)
        (subst (λ (b : Bool). ByEntry u e true b reason told) (sym yes) h))

    pub reason_read : (reason : Reason) → Adds old new (ByEntry u e true there reason) → Adds old new (IsReason kept look u reason)
    reason_read reason h = (h.0, (h.1.0, by_entry reason h.0 h.1.1))

    pub reason_refused : (r : ReadError) (x y : ℕ) → AddsFirst old new (λ told. (reason : Reason) × ByEntry u e true there reason told) r x y → AddsFirst old new AnyReason r x y
    reason_refused r x y h = (h.0, h.1, (h.2.0, (h.2.1.0, by_entry h.2.1.0 (h.0 ++ h.1) h.2.1.1), h.2.2))

-- ---- the choice of all

module _ (path : List ℕ) (units : List TranslationUnit) (look : Look) (old first : List Read) (held : Held) (kept : List Entry) (one : first ≡ old ++ (path, held) ∷ []) (is : kept ≡ kept_in held) where
  -- reasons and states, behind the record
  chooses_so : (reasons : List Reason) (states : List UnitState) (a b : List Read) → InTurn (HasReason kept look) units reasons a → InTurn IsState (pairs units (choices_of reasons)) states b → Chooses path units look kept reasons states ((path, held) ∷ a ++ b)
  chooses_so reasons states a b h k = record { held = held; first = a; stale = b; cut = refl; kept_is = is; reasons_are = h; states_are = k }

  -- the states of some reasons can be read
  then_states : (reasons : List Reason) (a : List Read) → InTurn (HasReason kept look) units reasons a → (rest : List Read) × MayChoose path units look ((path, held) ∷ a ++ rest)
  then_states reasons a h = let k = may_all IsState may_state (pairs units (choices_of reasons)) in (k.0, (kept, reasons, k.1.0, chooses_so reasons k.1.0 a k.0 h k.1.1))

  -- the reasons were found out no further
  pub unreasoned : (new : List Read) (e : ReadError) (x y z : ℕ) → x ≤ y → AddsFirst first new (InTurnSome (HasReason kept look) units) e y z → AddsFirst old new (MayChoose path units look) e x z
  unreasoned new e x y z least h =
      first_behind (λ l. MayChoose path units look ((path, held) ∷ l)) (MayChoose path units look) old first new ((path, held) ∷ []) e x y z one least (λ l k. k)
      (first_of_more (InTurnSome (HasReason kept look) units) (λ l. MayChoose path units look ((path, held) ∷ l)) first new e y z (λ l k. then_states k.0 l k.1) h)

  module _ (mid : List Read) (reasons : List Reason) (read : Adds first mid (InTurn (HasReason kept look) units reasons)) where
    both_are : mid ≡ old ++ ((path, held) ∷ read.0)
    both_are = read.1.0 ∙ ap (λ l. l ++ read.0) one ∙ append_assoc old ((path, held) ∷ []) read.0

    -- memory was wanted behind them
    pub unlisted_choice : (e : ReadError) (x y : ℕ) → e ≡ NoMemory → AddsFirst old mid (MayChoose path units look) e x y
    unlisted_choice e x y memory = first_wanting (MayChoose path units look) old mid ((path, held) ∷ read.0) e x y memory both_are (then_states reasons read.0 read.1.1)

    module _ (new : List Read) (choices : List Bool) (are : choices ≡ choices_of reasons) where
      -- the sources were read no further
      pub unstated : (e : ReadError) (x y z : ℕ) → x ≤ y → AddsFirst mid new (InTurnSome IsState (pairs units choices)) e y z → AddsFirst old new (MayChoose path units look) e x z
      unstated e x y z least h =
          first_behind (InTurnSome IsState (pairs units choices)) (MayChoose path units look) old mid new ((path, held) ∷ read.0) e x y z both_are least
          (λ l k. (kept, reasons, k.0, chooses_so reasons k.0 read.0 l read.1.1 (subst (λ (c : List Bool). InTurn IsState (pairs units c) k.0 l) are k.1))) h

      -- all is chosen
      pub chosen_all : (states : List UnitState) → Adds mid new (InTurn IsState (pairs units choices) states) → Adds old new (Chooses path units look kept reasons states)
      chosen_all states h = (
        (path, held) ∷ read.0 ++ h.0,
        (
          h.1.0 ∙ ap (λ l. l ++ h.0) both_are ∙ append_assoc old ((path, held) ∷ read.0) h.0,
          chooses_so reasons states read.0 h.0 read.1.1 (subst (λ (c : List Bool). InTurn IsState (pairs units c) states h.0) are h.1.1),
        ),
      )

-- the record wasn't read
pub unkept : (path at : List ℕ) (units : List TranslationUnit) (look : Look) (old new : List Read) (e : ReadError) (x y : ℕ) → at ≡ path → AddsFirst old new (IsOne at) e x y → AddsFirst old new (MayChoose path units look) e x y
unkept path at units look old new e x y same h =
    first_of_more (IsOne at) (MayChoose path units look) old new e x y
    (λ l one.
    let kept = kept_in one.0 in
    let first = may_all (HasReason kept look) (may_reason kept look) units in
    let stale = may_all IsState may_state (pairs units (choices_of first.1.0)) in (
      first.0 ++ stale.0,
      subst (λ (o : List Read). MayChoose path units look (o ++ (first.0 ++ stale.0))) (sym (one.1 ∙ ap (λ (p : List ℕ). (p, one.0) ∷ []) same))
          (kept, first.1.0, stale.1.0, record { held = one.0; first = first.0; stale = stale.0; cut = refl; kept_is = refl; reasons_are = first.1.1; states_are = stale.1.1 }),
    )) h

-- ---- one reason after another

module _ (kept : List Entry) (look : Look) (u : TranslationUnit) (old new : List Read) where
  pub has_one : (reason : Reason) → Adds old new (IsReason kept look u reason) → Adds old new (HasReason kept look u (reason ∷ []))
  has_one reason h = (h.0, (h.1.0, (reason, (refl, h.1.1))))

  pub has_any : (e : ReadError) (x y : ℕ) → AddsFirst old new (AnyReason kept look u old new) e x y → AddsFirst old new (Comes (HasReason kept look) u) e x y
  has_any e x y h = (h.0, h.1, (h.2.0, (h.2.1.0 ∷ [], (h.2.1.0, (refl, h.2.1.1))), h.2.2))
