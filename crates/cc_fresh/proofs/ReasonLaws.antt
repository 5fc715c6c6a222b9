-- Files that are read one after another, up to the first that has another digest than it is to have.
use Rattle.std.proofs.Common.{◌≡◌, inl, inr, ℕ, zero, suc, ◌+◌, ◌<◌, ◌≤◌, List, [], ◌∷◌, ◌++◌, length, drop, get_or, Bool, true, false, Option, Some, None, refl, sym, ◌∙◌, ap, subst, add-one, append_assoc, append-nil, option_map}
use Rattle.cc_host.specs.declared.files.Held.{Held}
use Rattle.cc_host.specs.declared.files.Held.TheVariants.{Absent}
use Rattle.cc_fresh.specs.Reads.{Read, Adds, AddsFirst, IsOne}
use Rattle.cc_fresh.specs.Reason.{agrees, AddsOne, ReadTo, wanted, reason_at, IsRead, AreRead}
use Rattle.cc_fresh.specs.declared.file.ReadError.{ReadError}
use Rattle.cc_fresh.specs.declared.file.ReadError.TheVariants.{NoMemory}
use Rattle.cc_fresh.specs.declared.reason.Reason.{Reason}
use Rattle.cc_fresh.specs.declared.reason.Reason.TheVariants.{Source}
use Rattle.cc_fresh.specs.declared.record.Entry.{Entry}
use Rattle.cc_fresh.proofs.FirstReads.{first_of_more, first_behind, first_wanting}
use Rattle.cc_fresh.proofs.Places.{drop_at, past_end}

abbrev pub Wanted : Type 0
Wanted = List ℕ × List ℕ

-- these files were read as far as needed, wherever that is
abbrev pub AreReadTo : ℕ → List Wanted → List Read → Type 0
AreReadTo k ws told = (off : Option ℕ) × ReadTo k ws told off

-- what is read of the rest makes up what is read of all
abbrev pub Going : List Wanted → ℕ → List Read → Type 0
Going ws i told = (rest : List Read) (off : Option ℕ) → ReadTo i (drop i ws) rest off → ReadTo 0 ws (told ++ rest) off

-- nothing was read yet
pub going_none : (ws : List Wanted) → Going ws 0 []
going_none [] rest off h = h
going_none (w ∷ ws) rest off h = h

-- they can always be read as far as needed
pub may_read : (k : ℕ) (ws : List Wanted) → (told : List Read) × AreReadTo k ws told
may_read k [] = ([], (None, (refl, refl)))
may_read k (w ∷ ws) = ((w.0, Absent) ∷ [], (Some k, (Absent, [], (refl, inr (refl, refl, refl)))))

-- so they can behind the first, whatever that gave
pub may_read_behind : (k : ℕ) (w : Wanted) (ws : List Wanted) (held : Held) → (rest : List Read) × AreReadTo k (w ∷ ws) ((w.0, held) ∷ rest)
may_read_behind k w ws held = by_test (agrees w.1 held) refl
  where
    by_test : (same : Bool) → same ≡ agrees w.1 held → (rest : List Read) × AreReadTo k (w ∷ ws) ((w.0, held) ∷ rest)
    by_test true is = let more = may_read (suc k) ws in (more.0, (more.1.0, (held, more.0, (refl, inl (sym is, more.1.1)))))
    by_test false is = ([], (Some k, (held, [], (refl, inr (sym is, refl, refl)))))

module _ (ws : List Wanted) (i : ℕ) (w : Wanted) (told : List Read) (within : i < length ws) (is : w ≡ get_or ws i w) (g : Going ws i told) where
  rest_is : drop i ws ≡ w ∷ drop (suc i) ws
  rest_is = drop_at ws i w within is

  -- what begins with the next one makes up all
  from_here : (l : List Read) (off : Option ℕ) → ReadTo i (w ∷ drop (suc i) ws) l off → ReadTo 0 ws (told ++ l) off
  from_here l off h = g l off (subst (λ (o : List Wanted). ReadTo i o l off) (sym rest_is) h)

  module _ (held : Held) where
    -- the next one agrees
    more : agrees w.1 held ≡ true → Going ws (suc i) (told ++ (w.0, held) ∷ [])
    more same rest off h =
        subst (λ (l : List Read). ReadTo 0 ws l off) (sym (append_assoc told ((w.0, held) ∷ []) rest))
        (from_here ((w.0, held) ∷ rest) off (held, rest, (refl, inl (same, h))))

    pub going_more : agrees w.1 held ≡ true → Going ws (i + 1) (told ++ (w.0, held) ∷ [])
    going_more same = rw add-one (more same)

    -- it doesn't
    pub going_off : agrees w.1 held ≡ false → ReadTo 0 ws (told ++ (w.0, held) ∷ []) (Some i)
    going_off other = from_here ((w.0, held) ∷ []) (Some i) (held, [], (refl, inr (other, refl, refl)))

  -- one read of it begins what is read
  one_of : (l : List Read) → IsOne w.0 l → (rest : List Read) × AreReadTo 0 ws (told ++ (l ++ rest))
  one_of l one =
      let k = may_read_behind i w (drop (suc i) ws) one.0 in
      (k.0, (k.1.0, subst (λ (o : List Read). ReadTo 0 ws (told ++ (o ++ k.0)) k.1.0) (sym one.1) (from_here ((w.0, one.0) ∷ k.0) k.1.0 k.1.1)))

-- all of them agree
pub going_end : (ws : List Wanted) (i : ℕ) (told : List Read) → length ws ≤ i → Going ws i told → ReadTo 0 ws told None
going_end ws i told past g = subst (λ (l : List Read). ReadTo 0 ws l None) (append-nil told) (g [] None (subst (λ (l : List Wanted). ReadTo i l [] None) (sym (past_end ws i past)) (refl, refl)))

-- ---- the reads of a call

module _ (old mid : List Read) (ws : List Wanted) (i : ℕ) (w : Wanted) (within : i < length ws) (is : w ≡ get_or ws i w) (so : Adds old mid (Going ws i)) (new : List Read) where
  abbrev so_far : List Read
  so_far = so.0

  reads_are : (held : Held) → new ≡ mid ++ (w.0, held) ∷ [] → new ≡ old ++ (so_far ++ (w.0, held) ∷ [])
  reads_are held one = one ∙ ap (λ l. l ++ (w.0, held) ∷ []) so.1.0 ∙ append_assoc old so_far ((w.0, held) ∷ [])

  by_name : (path digest : List ℕ) (same wants : Bool) → path ≡ w.0 → digest ≡ w.1 → same ≡ wants → AddsOne mid new path digest same → AddsOne mid new w.0 w.1 wants
  by_name path digest same wants p d s one =
      subst (λ (l : List ℕ). AddsOne mid new l w.1 wants) p (subst (λ (l : List ℕ). AddsOne mid new path l wants) d (subst (λ (b : Bool). AddsOne mid new path digest b) s one))

  pub read_more : (path digest : List ℕ) (same : Bool) → path ≡ w.0 → digest ≡ w.1 → same ≡ true → AddsOne mid new path digest same → Adds old new (Going ws (i + 1))
  read_more path digest same p d s h =
      let one = by_name path digest same true p d s h in
      (so_far ++ (w.0, one.0) ∷ [], (reads_are one.0 one.1.0, going_more ws i w so_far within is so.1.1 one.0 (sym one.1.1)))

  pub read_off : (path digest : List ℕ) (same : Bool) → path ≡ w.0 → digest ≡ w.1 → same ≡ false → AddsOne mid new path digest same → Adds old new (λ told. ReadTo 0 ws told (Some i))
  read_off path digest same p d s h =
      let one = by_name path digest same false p d s h in
      (so_far ++ (w.0, one.0) ∷ [], (reads_are one.0 one.1.0, going_off ws i w so_far within is so.1.1 one.0 (sym one.1.1)))

  pub read_refused : (path : List ℕ) (e : ReadError) (x y z : ℕ) → path ≡ w.0 → x ≤ y → AddsFirst mid new (IsOne path) e y z → AddsFirst old new (AreReadTo 0 ws) e x z
  read_refused path e x y z p least h =
      let here = first_of_more (IsOne path) (λ l. AreReadTo 0 ws (so_far ++ l)) mid new e y z (λ l one. one_of ws i w so_far within is so.1.1 l (subst (λ (o : List ℕ). IsOne o l) p one)) h in
      first_behind (λ l. AreReadTo 0 ws (so_far ++ l)) (AreReadTo 0 ws) old mid new so_far e x y z so.1.0 least (λ l k. k) here

pub read_all : (old new : List Read) (ws : List Wanted) (i : ℕ) → length ws ≤ i → Adds old new (Going ws i) → Adds old new (λ told. ReadTo 0 ws told None)
read_all old new ws i past so = (so.0, (so.1.0, going_end ws i so.0 past so.1.1))

-- ---- the source before them

-- counted from one more
shifted : (k : ℕ) (ws : List Wanted) (told : List Read) (off : Option ℕ) → ReadTo k ws told off → ReadTo (suc k) ws told (option_map suc off)
shifted k [] told off h = (h.0, ap (option_map suc) h.1)
shifted k (w ∷ ws) told off (held, rest, (is, inl more)) = (held, rest, (is, inl (more.0, shifted (suc k) ws rest off more.1)))
shifted k (w ∷ ws) told off (held, rest, (is, inr end)) = (held, rest, (is, inr (end.0, end.1, ap (option_map suc) end.2)))

-- whatever was read of the files of an entry gives a reason
pub reason_of : (source : List ℕ) (e : Entry) (told : List Read) → AreReadTo 0 (wanted source e) told → AreRead source e told
reason_of source e told h = (reason_at h.0, (h.0, (h.1, refl)))

module _ (old mid new : List Read) (source path digest : List ℕ) (e : Entry) (at : path ≡ source) (has : digest ≡ e.source) where
  source_is : (now : List Read) (same wants : Bool) → same ≡ wants → AddsOne old now path digest same → AddsOne old now source e.source wants
  source_is now same wants s one =
      subst (λ (l : List ℕ). AddsOne old now l e.source wants) at (subst (λ (l : List ℕ). AddsOne old now path l wants) has (subst (λ (b : Bool). AddsOne old now path digest b) s one))

  -- it has another digest
  pub source_off : (same : Bool) → same ≡ false → AddsOne old new path digest same → Adds old new (IsRead source e Source)
  source_off same s h =
      let one = source_is new same false s h in
      ((source, one.0) ∷ [], (one.1.0, (Some 0, ((one.0, [], (refl, inr (sym one.1.1, refl, refl))), refl))))

  -- it was read no further
  pub source_refused : (r : ReadError) (x y : ℕ) → AddsFirst old new (IsOne path) r x y → AddsFirst old new (AreRead source e) r x y
  source_refused r x y h =
      first_of_more (IsOne path) (AreRead source e) old new r x y
      (λ l one.
      let k = may_read_behind 0 (source, e.source) e.deps one.0 in
      (k.0, reason_of source e (l ++ k.0) (subst (λ (o : List Read). AreReadTo 0 (wanted source e) (o ++ k.0)) (sym (one.1 ∙ ap (λ (p : List ℕ). (p, one.0) ∷ []) at)) k.1))) h

  module _ (same : Bool) (wants : same ≡ true) (h : AddsOne old mid path digest same) where
    one : AddsOne old mid source e.source true
    one = source_is mid same true wants h

    both_are : (told : List Read) → new ≡ mid ++ told → new ≡ old ++ (source, one.0) ∷ told
    both_are told more = more ∙ ap (λ l. l ++ told) one.1.0 ∙ append_assoc old ((source, one.0) ∷ []) told

    then_read : (l : List Read) (off : Option ℕ) → ReadTo 0 e.deps l off → ReadTo 0 (wanted source e) ((source, one.0) ∷ l) (option_map suc off)
    then_read l off k = (one.0, l, (refl, inl (sym one.1.1, shifted 0 e.deps l off k)))

    -- it agrees, and the further files were read
    pub source_then : (deps : List Wanted) (off : Option ℕ) (reason : Reason) → deps ≡ e.deps → reason ≡ reason_at (option_map suc off) → Adds mid new (λ told. ReadTo 0 deps told off) → Adds old new (IsRead source e reason)
    source_then deps off reason those is read =
        let more : Adds mid new (λ told. ReadTo 0 e.deps told off) = subst (λ (ds : List Wanted). Adds mid new (λ told. ReadTo 0 ds told off)) those read in
        ((source, one.0) ∷ more.0, (both_are more.0 more.1.0, (option_map suc off, (then_read more.0 off more.1.1, is))))

    pub source_then_refused : (deps : List Wanted) (r : ReadError) (x y z : ℕ) → deps ≡ e.deps → x ≤ y → AddsFirst mid new (AreReadTo 0 deps) r y z → AddsFirst old new (AreRead source e) r x z
    source_then_refused deps r x y z those least read =
        first_behind (AreReadTo 0 e.deps) (AreRead source e) old mid new ((source, one.0) ∷ []) r x y z one.1.0 least
        (λ l k. reason_of source e ((source, one.0) ∷ l) (option_map suc k.0, then_read l k.0 k.1))
        (subst (λ (ds : List Wanted). AddsFirst mid new (AreReadTo 0 ds) r y z) those read)
