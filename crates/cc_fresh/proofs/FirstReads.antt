-- Reads of which the first were made, part by part.
use Rattle.std.proofs.Common.{◌≡◌, ◌≤◌, ℕ, List, [], ◌∷◌, ◌++◌, refl, sym, ◌∙◌, ap, subst, append_assoc, append-nil, arith}
use Rattle.cc_host.specs.declared.files.Held.{Held}
use Rattle.cc_host.specs.declared.files.Held.TheVariants.{Absent}
use Rattle.cc_fresh.specs.Reads.{Read, Adds, AddsHeld, IsOne, EndsAt, AddsFirst}
use Rattle.cc_fresh.specs.declared.file.ReadError.{ReadError}
use Rattle.cc_fresh.specs.declared.file.ReadError.TheVariants.{Fault, NoMemory}

-- so it does before more reads
ends_more : (e : ReadError) (more rest : List Read) (x y : ℕ) → EndsAt e more x y → EndsAt e (more ++ rest) x y
ends_more NoMemory more rest x y h = tt
ends_more (Fault path) [] rest x y h = absurd h
ends_more (Fault path) (next ∷ more) rest x y h = h

-- and counted from before
ends_earlier : (e : ReadError) (more : List Read) (x y z : ℕ) → x ≤ y → EndsAt e more y z → EndsAt e more x z
ends_earlier NoMemory more x y z least h = tt
ends_earlier (Fault path) [] x y z least h = absurd h
ends_earlier (Fault path) (next ∷ more) x y z least h = (h.0, λ few. let rose = h.1 few in omega (arith, least, rose))

-- of more reads, which begin with those
pub first_of_more : (P R : List Read → Type 0) (old new : List Read) (e : ReadError) (x y : ℕ) → ((l : List Read) → P l → (rest : List Read) × R (l ++ rest)) → AddsFirst old new P e x y → AddsFirst old new R e x y
first_of_more P R old new e x y begin h =
    let all = begin (h.0 ++ h.1) h.2.1 in
    (h.0, h.1 ++ all.0, (h.2.0, subst R (append_assoc h.0 h.1 all.0) all.1, ends_more e h.1 all.0 x y h.2.2))

-- behind others
pub first_behind : (P R : List Read → Type 0) (old mid new front : List Read) (e : ReadError) (x y z : ℕ) → mid ≡ old ++ front → x ≤ y → ((l : List Read) → P l → R (front ++ l)) → AddsFirst mid new P e y z → AddsFirst old new R e x z
first_behind P R old mid new front e x y z is least join h = (
  front ++ h.0,
  h.1,
  (
    h.2.0 ∙ ap (λ l. l ++ h.0) is ∙ append_assoc old front h.0,
    subst R (sym (append_assoc front h.0 h.1)) (join (h.0 ++ h.1) h.2.1),
    ends_earlier e h.1 x y z least h.2.2,
  ),
)

-- memory was wanted behind some
pub first_wanting : (R : List Read → Type 0) (old new told : List Read) (e : ReadError) (x y : ℕ) → e ≡ NoMemory → new ≡ old ++ told → (more : List Read) × R (told ++ more) → AddsFirst old new R e x y
first_wanting R old new told e x y memory is rest = (told, rest.0, (is, rest.1, subst (λ (f : ReadError). EndsAt f rest.0 x y) (sym memory) tt))

-- it failed
pub one_failed : (old new : List Read) (path : List ℕ) (e : ReadError) (x y : ℕ) → new ≡ old ++ [] → EndsAt e ((path, Absent) ∷ []) x y → AddsFirst old new (IsOne path) e x y
one_failed old new path e x y is ends = ([], (path, Absent) ∷ [], (is, (Absent, refl), ends))
