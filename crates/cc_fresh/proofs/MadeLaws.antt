-- Files that are read one after another, up to the first that is absent.
use Rattle.std.proofs.Common.{◌≡◌, inl, inr, ℕ, zero, suc, ◌+◌, ◌<◌, ◌≤◌, List, [], ◌∷◌, ◌++◌, length, drop, get_or, Bool, Option, Some, None, Result, Ok, Err, IfOk, IfErr, refl, sym, ◌∙◌, ap, subst, add-one, append_assoc, append-nil, option_map}
use Rattle.cc_host.specs.declared.files.Held.{Held}
use Rattle.cc_host.specs.declared.files.Held.TheVariants.{Absent}
use Rattle.cc_fresh.specs.Made.{Dep, digest_of, digested, ReadNames, names_in, deps_path, ReadMade}
use Rattle.cc_fresh.specs.Reads.{Read, Adds, AddsHeld, AddsFirst, IsOne}
use Rattle.cc_fresh.specs.declared.file.ReadError.{ReadError}
use Rattle.cc_fresh.specs.declared.file.ReadError.TheVariants.{NoMemory}
use Rattle.cc_fresh.proofs.FirstReads.{first_of_more, first_behind, first_wanting}
use Rattle.cc_fresh.proofs.Places.{drop_at, past_end}

-- these files were read up to the first that is absent, whatever they are
abbrev pub AreReadNames : List (List ℕ) → List Read → Type 0
AreReadNames ns told = (deps : Option (List Dep)) × ReadNames ns told deps

abbrev pub AreReadMade : Bool → List ℕ → List Read → Type 0
AreReadMade checks object told = (deps : Option (List Dep)) × ReadMade checks object told deps

-- what is read of the rest makes up what is read of all
abbrev pub Going : List (List ℕ) → ℕ → List Dep → List Read → Type 0
Going ns i deps told = (rest : List Read) (more : Option (List Dep)) → ReadNames (drop i ns) rest more → ReadNames ns (told ++ rest) (option_map (λ ds. deps ++ ds) more)

none_before : (more : Option (List Dep)) → option_map (λ ds. [] ++ ds) more ≡ more
none_before None = refl
none_before (Some ds) = refl

one_before : (deps : List Dep) (dep : Dep) (more : Option (List Dep)) → option_map (λ ds. deps ++ ds) (option_map (λ ds. dep ∷ ds) more) ≡ option_map (λ ds. (deps ++ dep ∷ []) ++ ds) more
one_before deps dep None = refl
one_before deps dep (Some ds) = ap Some (sym (append_assoc deps (dep ∷ []) ds))

-- nothing was read yet
pub going_none : (ns : List (List ℕ)) → Going ns 0 [] []
going_none [] rest more h = subst (λ (m : Option (List Dep)). ReadNames [] rest m) (sym (none_before more)) h
going_none (n ∷ ns) rest more h = subst (λ (m : Option (List Dep)). ReadNames (n ∷ ns) rest m) (sym (none_before more)) h

-- they can always be read up to the first that is absent
pub may_read : (ns : List (List ℕ)) → (told : List Read) × AreReadNames ns told
may_read [] = ([], (Some [], (refl, refl)))
may_read (n ∷ ns) = ((n, Absent) ∷ [], (None, (Absent, [], (refl, inl (refl, refl, refl)))))

-- so they can behind the first, whatever that gave
pub may_read_behind : (n : List ℕ) (ns : List (List ℕ)) (held : Held) → (rest : List Read) × AreReadNames (n ∷ ns) ((n, held) ∷ rest)
may_read_behind n ns held = by_digest (digest_of held) refl
  where
    by_digest : (found : Option (List ℕ)) → digest_of held ≡ found → (rest : List Read) × AreReadNames (n ∷ ns) ((n, held) ∷ rest)
    by_digest None is = ([], (None, (held, [], (refl, inl (is, refl, refl)))))
    by_digest (Some d) is =
        let more = may_read ns in
        (more.0, (option_map (λ ds. (n, d) ∷ ds) more.1.0, (held, more.0, (refl, inr (d, more.1.0, (is, more.1.1, refl))))))

module _ (ns : List (List ℕ)) (i : ℕ) (n : List ℕ) (deps : List Dep) (told : List Read) (within : i < length ns) (is : n ≡ get_or ns i n) (g : Going ns i deps told) where
  -- what begins with the next one makes up all
  from_here : (l : List Read) (more : Option (List Dep)) → ReadNames (n ∷ drop (suc i) ns) l more → ReadNames ns (told ++ l) (option_map (λ ds. deps ++ ds) more)
  from_here l more h = g l more (subst (λ (o : List (List ℕ)). ReadNames o l more) (sym (drop_at ns i n within is)) h)

  module _ (held : Held) where
    more_of : (d : List ℕ) → digest_of held ≡ Some d → Going ns (suc i) (deps ++ (n, d) ∷ []) (told ++ (n, held) ∷ [])
    more_of d found rest more h =
        subst (λ (l : List Read). ReadNames ns l (option_map (λ ds. (deps ++ (n, d) ∷ []) ++ ds) more)) (sym (append_assoc told ((n, held) ∷ []) rest))
        (subst (λ (m : Option (List Dep)). ReadNames ns (told ++ (n, held) ∷ rest) m) (one_before deps (n, d) more)
        (from_here ((n, held) ∷ rest) (option_map (λ ds. (n, d) ∷ ds) more) (held, rest, (refl, inr (d, more, (found, h, refl))))))

    -- the next one is there
    pub going_more : (d : List ℕ) → digest_of held ≡ Some d → Going ns (i + 1) (deps ++ (n, d) ∷ []) (told ++ (n, held) ∷ [])
    going_more d found = rw add-one (more_of d found)

    -- it is absent
    pub going_absent : digest_of held ≡ None → ReadNames ns (told ++ (n, held) ∷ []) None
    going_absent none = from_here ((n, held) ∷ []) None (held, [], (refl, inl (none, refl, refl)))

  -- one read of it begins what is read
  one_of : (l : List Read) → IsOne n l → (rest : List Read) × AreReadNames ns (told ++ (l ++ rest))
  one_of l one =
      let k = may_read_behind n (drop (suc i) ns) one.0 in
      (k.0, (option_map (λ ds. deps ++ ds) k.1.0, subst (λ (o : List Read). ReadNames ns (told ++ (o ++ k.0)) (option_map (λ ds. deps ++ ds) k.1.0)) (sym one.1) (from_here ((n, one.0) ∷ k.0) k.1.0 k.1.1)))

-- ---- the reads of a call

module _ (old mid : List Read) (ns : List (List ℕ)) (i : ℕ) (n : List ℕ) (deps : List Dep) (within : i < length ns) (is : n ≡ get_or ns i n) (so : Adds old mid (Going ns i deps)) (new : List Read) where
  reads_are : (held : Held) → new ≡ mid ++ (n, held) ∷ [] → new ≡ old ++ (so.0 ++ (n, held) ∷ [])
  reads_are held one = one ∙ ap (λ l. l ++ (n, held) ∷ []) so.1.0 ∙ append_assoc old so.0 ((n, held) ∷ [])

  by_name : (path : List ℕ) (fact : Held → Type 0) → path ≡ n → AddsHeld mid new path fact → AddsHeld mid new n fact
  by_name path fact p one = subst (λ (l : List ℕ). AddsHeld mid new l fact) p one

  pub names_more : (path name digest d : List ℕ) (found : Option (List ℕ)) (now : List Dep) → path ≡ n → name ≡ n → digest ≡ d → found ≡ Some d → now ≡ deps ++ (name, digest) ∷ [] → AddsHeld mid new path (λ held. found ≡ digest_of held) → Adds old new (Going ns (i + 1) now)
  names_more path name digest d found now p m same some put h =
      let one = by_name path (λ held. found ≡ digest_of held) p h in
      let puts : now ≡ deps ++ (n, d) ∷ [] = put ∙ ap (λ (l : List ℕ). deps ++ (l, digest) ∷ []) m ∙ ap (λ (l : List ℕ). deps ++ (n, l) ∷ []) same in
      (so.0 ++ (n, one.0) ∷ [], (reads_are one.0 one.1.0, subst (λ (ds : List Dep). Going ns (i + 1) ds (so.0 ++ (n, one.0) ∷ [])) (sym puts) (going_more ns i n deps so.0 within is so.1.1 one.0 d (sym one.1.1 ∙ some))))

  pub names_absent : (path : List ℕ) (found : Option (List ℕ)) → path ≡ n → found ≡ None → AddsHeld mid new path (λ held. found ≡ digest_of held) → Adds old new (λ told. ReadNames ns told None)
  names_absent path found p none h =
      let one = by_name path (λ held. found ≡ digest_of held) p h in
      (so.0 ++ (n, one.0) ∷ [], (reads_are one.0 one.1.0, going_absent ns i n deps so.0 within is so.1.1 one.0 (sym one.1.1 ∙ none)))

  -- memory was wanted behind the read
  pub names_wanting : (path : List ℕ) (fact : Held → Type 0) (e : ReadError) (x y : ℕ) → path ≡ n → e ≡ NoMemory → AddsHeld mid new path fact → AddsFirst old new (AreReadNames ns) e x y
  names_wanting path fact e x y p memory h =
      let one = by_name path fact p h in
      let k = one_of ns i n deps so.0 within is so.1.1 ((n, one.0) ∷ []) (one.0, refl) in
      first_wanting (AreReadNames ns) old new (so.0 ++ (n, one.0) ∷ []) e x y memory (reads_are one.0 one.1.0)
      (k.0, subst (AreReadNames ns) (sym (append_assoc so.0 ((n, one.0) ∷ []) k.0)) k.1)

  pub names_refused : (path : List ℕ) (e : ReadError) (x y z : ℕ) → path ≡ n → x ≤ y → AddsFirst mid new (IsOne path) e y z → AddsFirst old new (AreReadNames ns) e x z
  names_refused path e x y z p least h =
      let here = first_of_more (IsOne path) (λ l. AreReadNames ns (so.0 ++ l)) mid new e y z (λ l one. one_of ns i n deps so.0 within is so.1.1 l (subst (λ (o : List ℕ). IsOne o l) p one)) h in
      first_behind (λ l. AreReadNames ns (so.0 ++ l)) (AreReadNames ns) old mid new so.0 e x y z so.1.0 least (λ l k. k) here

pub names_all : (old new : List Read) (ns : List (List ℕ)) (i : ℕ) (deps : List Dep) → length ns ≤ i → Adds old new (Going ns i deps) → Adds old new (λ told. ReadNames ns told (Some deps))
names_all old new ns i deps past so = (
  so.0,
  (
    so.1.0,
    subst (λ (m : List Dep). ReadNames ns so.0 (Some m)) (append-nil deps)
        (subst (λ (l : List Read). ReadNames ns l (Some (deps ++ []))) (append-nil so.0) (so.1.1 [] (Some []) (subst (λ (l : List (List ℕ)). ReadNames l [] (Some [])) (sym (past_end ns i past)) (refl, refl)))),
  ),
)

-- a fact of the answer, where another follows from it
pub if_ok : {T E : Type 0} (P Q : T → Type 0) (r : Result T E) → ((v : T) → P v → Q v) → IfOk r P → IfOk r Q
if_ok P Q (Ok v) f p = f v p
if_ok P Q (Err e) f p = tt

pub if_err : {T E : Type 0} (P Q : E → Type 0) (r : Result T E) → ((e : E) → P e → Q e) → IfErr r P → IfErr r Q
if_err P Q (Ok v) f p = tt
if_err P Q (Err e) f p = f e p

-- ---- the text that names them

-- whatever it is, the files can be read
pub may_read_made : (checks : Bool) (object : List ℕ) (held : Held) → (rest : List Read) × AreReadMade checks object ((deps_path object, held) ∷ rest)
may_read_made checks object held = by_names (names_in held) refl
  where
    by_names : (names : Option (List (List ℕ))) → names_in held ≡ names → (rest : List Read) × AreReadMade checks object ((deps_path object, held) ∷ rest)
    by_names None is = ([], (None, (held, [], (refl, inl (is, refl, refl)))))
    by_names (Some names) is =
        let more = may_read (digested checks object names) in
        (more.0, (more.1.0, (held, more.0, (refl, inr (names, (is, more.1.1))))))

module _ (checks : Bool) (old mid : List Read) (object : List ℕ) (held : Held) (one : mid ≡ old ++ (deps_path object, held) ∷ []) where
  -- there is none
  pub made_none : names_in held ≡ None → Adds old mid (λ told. ReadMade checks object told None)
  made_none none = ((deps_path object, held) ∷ [], (one, (held, [], (refl, inl (none, refl, refl)))))

  -- memory was wanted for it
  pub made_wanting : (e : ReadError) (x y : ℕ) → e ≡ NoMemory → AddsFirst old mid (AreReadMade checks object) e x y
  made_wanting e x y memory = first_wanting (AreReadMade checks object) old mid ((deps_path object, held) ∷ []) e x y memory one (may_read_made checks object held)

  module _ (names all : List (List ℕ)) (named : names_in held ≡ Some names) (are : all ≡ digested checks object names) (new : List Read) where
    both_are : (told : List Read) → new ≡ mid ++ told → new ≡ old ++ (deps_path object, held) ∷ told
    both_are told more = more ∙ ap (λ l. l ++ told) one ∙ append_assoc old ((deps_path object, held) ∷ []) told

    then_made : (told : List Read) (deps : Option (List Dep)) → ReadNames all told deps → ReadMade checks object ((deps_path object, held) ∷ told) deps
    then_made told deps h = (held, told, (refl, inr (names, (named, subst (λ (l : List (List ℕ)). ReadNames l told deps) are h))))

    -- the files that it names were read
    pub made_then : (deps : Option (List Dep)) → Adds mid new (λ told. ReadNames all told deps) → Adds old new (λ told. ReadMade checks object told deps)
    made_then deps more = ((deps_path object, held) ∷ more.0, (both_are more.0 more.1.0, then_made more.0 deps more.1.1))

    pub made_refused : (e : ReadError) (x y z : ℕ) → x ≤ y → AddsFirst mid new (AreReadNames all) e y z → AddsFirst old new (AreReadMade checks object) e x z
    made_refused e x y z least h = first_behind (AreReadNames all) (AreReadMade checks object) old mid new ((deps_path object, held) ∷ []) e x y z one least (λ l k. (k.0, then_made l k.0 k.1)) h

-- it wasn't read
pub made_unread : (checks : Bool) (old new : List Read) (object path : List ℕ) (e : ReadError) (x y : ℕ) → path ≡ deps_path object → AddsFirst old new (IsOne path) e x y → AddsFirst old new (AreReadMade checks object) e x y
made_unread checks old new object path e x y p h =
    first_of_more (IsOne path) (AreReadMade checks object) old new e x y
    (λ l one. let k = may_read_made checks object one.0 in (k.0, subst (λ (o : List Read). AreReadMade checks object (o ++ k.0)) (sym (one.1 ∙ ap (λ (q : List ℕ). (q, one.0) ∷ []) p)) k.1)) h

pub made_unbegun : (checks : Bool) (old new : List Read) (object : List ℕ) (e : ReadError) (x y : ℕ) → e ≡ NoMemory → new ≡ old ++ [] → AddsFirst old new (AreReadMade checks object) e x y
made_unbegun checks old new object e x y memory same =
    let k = may_read_made checks object Absent in
    first_wanting (AreReadMade checks object) old new [] e x y memory same ((deps_path object, Absent) ∷ k.0, k.1)
