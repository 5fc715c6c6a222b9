-- A needle in bytes, bytes that are text, and the lines of an output.
use Rattle.std.proofs.Common.{◌≡◌, ◌⊎◌, inl, inr, ℕ, ◌+◌, ◌-◌, ◌<◌, ◌≤◌, Bool, true, false, ◌==◌, ◌||◌, nat_eq, List, [], ◌∷◌, ◌++◌, length, codes, get_or, take, drop, slice_range, Option, Some, None, is_some, lit<, if◌then◌else◌, refl, sym, ◌∙◌, ap, subst, arith}
use Rattle.std.specs.List.{slice_split, find, position_or_len}
use Rattle.std.specs.Str.{IsUtf8, is_utf8, IsCharBoundary}
use Rattle.std.specs.Str.Iter.{HasSubslice}
use Rattle.std.proofs.Math.Seq.{take-append_seam, drop-append_seam}
use Rattle.std.proofs.lemmas.List.{take-append-drop, length-append, length-take, at_drop_more, at_drop_all, drop-drop, drop-take, take_all, length-drop, get_or-take, get_or-drop}
use Rattle.std.proofs.lemmas.Bool.{cases_lt, eqb-true}
use Rattle.std.proofs.lemmas.Bool.Decides.{Decides-eqb}
use Rattle.std.proofs.lemmas.List.Sums.{passes_at_first}
use Rattle.std.proofs.lemmas.Slice.Eq.{starts_is}
use Rattle.std.specs.Option.{option_map}
use Rattle.std.proofs.lemmas.List.Splits.{slice_split_first}
use Rattle.std.proofs.lemmas.Str.{is_utf8-from_IsUtf8, IsUtf8-between, IsCharBoundary-end, IsCharBoundary-before_ascii, IsCharBoundary-after_ascii}
use Rattle.cc_text.specs.Within.{is_within}
use Rattle.cc_text.proofs.WithinLemmas.{within_from_subslice}
use Rattle.cc_host.specs.Verdict.{parted, begins_with_programs}
use Rattle.memchr.specs.Find.{OccursAt, FindsNeedle}
use Rattle.memchr.proofs.lemmas.MatchLemmas.{OccursAt-split, OccursAt-from_part}

-- a place at which the needle occurs parts the bytes
here : (hay needle : List ℕ) (k : ℕ) → OccursAt hay needle k → HasSubslice hay needle
here hay needle k h = (take k hay, drop (k + length needle) hay, sym (take-append-drop k hay) ∙ ap (λ l. take k hay ++ l) (OccursAt-split hay needle k h))

-- the needle occurs where the front ends
there : (hay needle a b : List ℕ) → hay ≡ a ++ (needle ++ b) → OccursAt hay needle (length a)
there hay needle a b e =
    let long : length hay ≡ length a + (length needle + length b) = ap length e ∙ length-append a (needle ++ b) ∙ ap (λ n. length a + n) (length-append needle b) in
    let rest : drop (length a) hay ≡ needle ++ b = ap (drop (length a)) e ∙ drop-append_seam a (needle ++ b) in
    OccursAt-from_part hay needle (length a) (omega arith) (ap (take (length needle)) rest ∙ take-append_seam needle b)

pub found_within : (hay needle : List ℕ) (r : Option ℕ) → FindsNeedle hay needle 0 r → is_some r ≡ is_within needle hay
found_within hay needle (Some k) h = within_from_subslice true needle hay (λ _. here hay needle k h.1, λ _. refl)
found_within hay needle None h =
    within_from_subslice false needle hay (
      λ no. absurd (cc),
      λ p.
          let occurs = there hay needle p.0 p.1 p.2 in
          let fits = occurs.fits in
          absurd (h (length p.0) (omega arith) (omega arith) occurs),
    )

-- a text isn't refused
pub never_none : {X : Type 0} (bs ds : List ℕ) (x y : X) → ds ≡ bs → IsUtf8 bs → None ≡ (if is_utf8 ds then Some ds else None) → x ≡ y
never_none bs ds x y e u h = absurd (cc (rw (e, is_utf8-from_IsUtf8 bs u) at h))

-- the bytes that end a line
abbrev pub ends : ℕ → Bool
ends b = b == 10 || b == 13

-- how many bytes from a place on end no line
abbrev pub more : List ℕ → ℕ → ℕ
more out i = position_or_len ends (drop i out)

pub line_on : (out : List ℕ) (i : ℕ) → i < length out → ends (get_or out i 0) ≡ false → more out i ≡ 1 + more out (i + 1)
line_on out i l e = at_drop_more (position_or_len ends) out i 0 l ∙ rw e refl

pub line_off : (out : List ℕ) (i : ℕ) → i < length out → ends (get_or out i 0) ≡ true → more out i ≡ 0
line_off out i l e = at_drop_more (position_or_len ends) out i 0 l ∙ rw e refl

pub line_over : (out : List ℕ) (i : ℕ) → length out ≤ i → more out i ≡ 0
line_over out i l = at_drop_all (position_or_len ends) out i l

lone_by : (p : ℕ → Bool) (x : ℕ) (xs : List ℕ) (b : Bool) → p x ≡ b → (length xs ≤ position_or_len p xs → slice_split p xs ≡ xs ∷ []) → length (x ∷ xs) ≤ position_or_len p (x ∷ xs) → slice_split p (x ∷ xs) ≡ (x ∷ xs) ∷ []
lone_by p x xs true e h l = absurd (omega (arith, (rw e at l)))
lone_by p x xs false e h l = rw (e, h (omega (arith, (rw e at l)))) refl

lone : (p : ℕ → Bool) (xs : List ℕ) → length xs ≤ position_or_len p xs → slice_split p xs ≡ xs ∷ []
lone p [] l = refl
lone p (x ∷ xs) l = lone_by p x xs (p x) refl (lone p xs) l

-- the first line that tells of programs
abbrev pub found : List ℕ → Option (List ℕ)
found out = find begins_with_programs (parted out)

line_cut : (out : List ℕ) (start k : ℕ) → k ≡ start + more out start → slice_range out start k ≡ take (more out start) (drop start out)
line_cut out start k e = ap (λ n. take n (drop start out)) (omega arith)

-- the line that begins at a place, and the lines after it
parted_on : (out : List ℕ) (start k : ℕ) → k ≡ start + more out start → k < length out → parted (drop start out) ≡ slice_range out start k ∷ parted (drop (k + 1) out)
parted_on out start k e l =
    let h : more out start < length (drop start out) = rw length-drop (omega arith) in
    let rest : drop (more out start + 1) (drop start out) ≡ drop (k + 1) out = drop-drop (more out start + 1) start out ∙ ap (λ n. drop n out) (omega arith) in
    slice_split_first ends (drop start out) 0 h ∙ ap (λ l. take (more out start) (drop start out) ∷ parted l) rest ∙ ap (λ l. l ∷ parted (drop (k + 1) out)) (sym (line_cut out start k e))

parted_last : (out : List ℕ) (start k : ℕ) → start ≤ length out → k ≡ start + more out start → length out ≤ k → parted (drop start out) ≡ slice_range out start k ∷ []
parted_last out start k s e l =
    let h : length (drop start out) ≤ more out start = rw length-drop (omega arith) in
    lone ends (drop start out) h ∙ ap (λ l. l ∷ []) (sym (line_cut out start k e ∙ take_all (more out start) (drop start out) h))

miss : (x : List ℕ) (xs : List (List ℕ)) → begins_with_programs x ≡ false → find begins_with_programs (x ∷ xs) ≡ find begins_with_programs xs
miss x xs e = rw e refl

hit : (x : List ℕ) (xs : List (List ℕ)) → begins_with_programs x ≡ true → find begins_with_programs (x ∷ xs) ≡ Some x
hit x xs e = rw e refl

pub found_on : (out : List ℕ) (start k : ℕ) → k ≡ start + more out start → k < length out → begins_with_programs (slice_range out start k) ≡ false → found (drop start out) ≡ found (drop (k + 1) out)
found_on out start k e l not_so = ap (find begins_with_programs) (parted_on out start k e l) ∙ miss (slice_range out start k) (parted (drop (k + 1) out)) not_so

pub found_never : (out : List ℕ) (start k : ℕ) → start ≤ length out → k ≡ start + more out start → length out ≤ k → begins_with_programs (slice_range out start k) ≡ false → found (drop start out) ≡ None
found_never out start k s e l not_so = ap (find begins_with_programs) (parted_last out start k s e l) ∙ miss (slice_range out start k) [] not_so

found_by : (out : List ℕ) (start k : ℕ) → start ≤ length out → k ≡ start + more out start → (k < length out) ⊎ (length out ≤ k) → begins_with_programs (slice_range out start k) ≡ true → found (drop start out) ≡ Some (slice_range out start k)
found_by out start k s e (inl l) is = ap (find begins_with_programs) (parted_on out start k e l) ∙ hit (slice_range out start k) (parted (drop (k + 1) out)) is
found_by out start k s e (inr l) is = ap (find begins_with_programs) (parted_last out start k s e l) ∙ hit (slice_range out start k) [] is

marked : (line : List ℕ) → begins_with_programs line ≡ true → line ≡ codes "programs: =" ++ drop (length (codes "programs: =")) line
marked line e = (starts_is {E = nat_eq} Decides-eqb line (codes "programs: =") (begins_with_programs line) refl).0 e

marked_long : (line : List ℕ) → begins_with_programs line ≡ true → 11 ≤ length line
marked_long line e = let h = ap length (marked line e) ∙ length-append (codes "programs: =") (drop 11 line) in omega (arith, h)

marked_at : (line : List ℕ) → begins_with_programs line ≡ true → get_or line 10 0 ≡ 61
marked_at line e = ap (λ l. get_or l 10 0) (marked line e)

long_enough : (out : List ℕ) (start k : ℕ) → k ≡ start + more out start → begins_with_programs (slice_range out start k) ≡ true → start + 11 ≤ k
long_enough out start k e is =
    let h = marked_long (slice_range out start k) is in
    let n : length (slice_range out start k) ≤ k - start = rw length-take (omega arith) in
    omega (arith, h, n)

mark_at : (out : List ℕ) (start k : ℕ) → k ≡ start + more out start → begins_with_programs (slice_range out start k) ≡ true → get_or out (start + 10) 0 ≡ 61
mark_at out start k e is =
    let h = long_enough out start k e is in
    sym (get_or-take (k - start) (drop start out) 10 0 (omega (arith, h)) ∙ get_or-drop start out 10 0) ∙ marked_at (slice_range out start k) is

low_by : (b : ℕ) (v w : Bool) → (b == 10) ≡ v → (b == 13) ≡ w → (v || w) ≡ true → b < 128
low_by b true w e f h = let x = eqb-true b 10 e in omega (arith, x)
low_by b false true e f h = let x = eqb-true b 13 f in omega (arith, x)
low_by b false false e f h = absurd (cc)

low : (b : ℕ) → ends b ≡ true → b < 128
low b h = low_by b (b == 10) (b == 13) refl refl h

end_at : (out : List ℕ) (start k : ℕ) → start ≤ length out → k ≡ start + more out start → k ≤ length out → (k < length out) ⊎ (length out ≤ k) → IsCharBoundary out k
end_at out start k s e l (inl lt) =
    let h : more out start < length (drop start out) = rw length-drop (omega arith) in
    let b : ends (get_or out k 0) ≡ true = ap (λ n. ends (get_or out n 0)) e ∙ ap ends (sym (get_or-drop start out (more out start) 0)) ∙ passes_at_first ends (drop start out) 0 h in
    IsCharBoundary-before_ascii out k lt (low (get_or out k 0) b)
end_at out start k s e l (inr ge) = subst (IsCharBoundary out) {x = length out} {y = k} (omega arith) (IsCharBoundary-end out)

-- where a line begins with the mark, what follows the mark is text
pub found_text : (out : List ℕ) (start k : ℕ) → start ≤ length out → k ≡ start + more out start → k ≤ length out → begins_with_programs (slice_range out start k) ≡ true → IsUtf8 out → IsUtf8 (slice_range out (start + 11) k)
found_text out start k s e l is u =
    let h = long_enough out start k e is in
    let m : get_or out (start + 10) 0 < 128 = rw (mark_at out start k e is) (lit< tt) in
    IsUtf8-between out (start + 11) k u h (subst (IsCharBoundary out) {x = (start + 10) + 1} {y = start + 11} (omega arith) (IsCharBoundary-after_ascii out (start + 10) u (omega (arith, h)) m)) (end_at out start k s e l (cases_lt k (length out)))

pub found_fits : (out : List ℕ) (start k : ℕ) → k ≡ start + more out start → begins_with_programs (slice_range out start k) ≡ true → start + 11 ≤ k
found_fits = long_enough

after_mark : (out : List ℕ) (start k : ℕ) → start + 11 ≤ k → drop 11 (slice_range out start k) ≡ slice_range out (start + 11) k
after_mark out start k l =
    ap (λ n. drop 11 (take n (drop start out))) {x = k - start} {y = 11 + (k - (start + 11))} (omega arith) ∙ drop-take 11 (k - (start + 11)) (drop start out) ∙ ap (take (k - (start + 11))) (drop-drop 11 start out)

-- and is what the first such line tells
pub found_cut : (out : List ℕ) (start k : ℕ) → start ≤ length out → k ≡ start + more out start → begins_with_programs (slice_range out start k) ≡ true → Some (slice_range out (start + 11) k) ≡ option_map (drop 11) (found (drop start out))
found_cut out start k s e is =
    sym (ap (option_map (drop 11)) (found_by out start k s e (cases_lt k (length out)) is) ∙ ap Some (after_mark out start k (long_enough out start k e is)))
