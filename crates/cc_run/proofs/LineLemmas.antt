-- Laws on lines that come in pieces.
use Rattle.std.proofs.Common.{◌≡◌, ℕ, suc, ◌+◌, ◌-◌, ◌<◌, ◌≤◌, Bool, true, false, List, [], ◌∷◌, ◌++◌, length, map, take, drop, get_or, refl, sym, ◌∙◌, ap, cond, append_assoc, arith}
use Rattle.std.specs.Borrow.{Bor}
use Rattle.std.specs.List.{onto_first}
use Rattle.std.proofs.lemmas.Grind.{common_steps}
use Rattle.std.proofs.lemmas.List.Splits.{slice_split-cons_no}
use Rattle.std.specs.Prelude.{option_to_list}
use Rattle.std.proofs.lemmas.List.{append-nil, take_more, map-append}
use Rattle.cc_run.specs.declared.print.Notice.{Notice}
use Rattle.cc_run.specs.Lines.{is_feed, IsUncut, pieces, front, back, whole_lines, rest_of, lines, some_line, last_line}

-- bytes put before the first of some pieces
glue : List ℕ → List (List ℕ) → List (List ℕ)
glue r [] = r ∷ []
glue r (p ∷ ps) = (r ++ p) ∷ ps

-- bytes without a line feed stand before the first piece
glued : (r bytes : List ℕ) → IsUncut r → pieces (r ++ bytes) ≡ glue r (pieces bytes)
unfolding glue
glued [] bytes h = at (pieces bytes) refl
  where
    at : (ps : List (List ℕ)) → ps ≡ pieces bytes → ps ≡ glue [] ps
    at [] e = absurd (some bytes e)
      where
        some : (bytes : List ℕ) → [] ≡ pieces bytes → ⊥
        some [] e = cc
        some (x ∷ bytes) e = more (is_feed x) (pieces bytes) e
          where
            more : (b : Bool) (ps : List (List ℕ)) → [] ≡ cond b ([] ∷ ps) (onto_first x ps) → ⊥
            more true ps e = cc
            more false [] e = cc
            more false (p ∷ ps) e = cc
    at (p ∷ ps) e = refl
glued (x ∷ r) bytes h = slice_split-cons_no is_feed x (r ++ bytes) h.0 ∙ ap (onto_first x) (glued r bytes h.1) ∙ onto (pieces bytes)
  where
    onto : (ps : List (List ℕ)) → onto_first x (glue r ps) ≡ glue (x ∷ r) ps
    onto [] = refl
    onto (p ∷ ps) = refl

Uncuts : List (List ℕ) → Type 0
Uncuts [] = Unit {0}
Uncuts (p ∷ ps) = IsUncut p × Uncuts ps

pieces_uncut : (bytes : List ℕ) → Uncuts (pieces bytes)
unfolding Uncuts
pieces_uncut [] = (tt, tt)
pieces_uncut (x ∷ bytes) = at (is_feed x) refl (pieces bytes) (pieces_uncut bytes)
  where
    at : (b : Bool) → is_feed x ≡ b → (ps : List (List ℕ)) → Uncuts ps → Uncuts (cond b ([] ∷ ps) (onto_first x ps))
    at true e ps h = (tt, h)
    at false e [] h = ((e, tt), tt)
    at false e (p ∷ ps) h = ((e, h.0), h.1)

back_uncut : (ps : List (List ℕ)) → Uncuts ps → IsUncut (back ps)
unfolding Uncuts
back_uncut [] h = tt
back_uncut (p ∷ []) h = h.0
back_uncut (p ∷ q ∷ ps) h = back_uncut (q ∷ ps) h.1

-- the bytes after the last line feed have none
pub rest_uncut : (bytes : List ℕ) → IsUncut (rest_of bytes)
rest_uncut bytes = back_uncut (pieces bytes) (pieces_uncut bytes)

some_pieces : (bytes : List ℕ) → [] ≡ pieces bytes → ⊥
some_pieces [] e = cc
some_pieces (x ∷ bytes) e = more (is_feed x) (pieces bytes) e
  where
    more : (b : Bool) (ps : List (List ℕ)) → [] ≡ cond b ([] ∷ ps) (onto_first x ps) → ⊥
    more true ps e = cc
    more false [] e = cc
    more false (p ∷ ps) e = cc

nows : List (Bor (List ℕ)) → List (List ℕ)
nows = map (λ p. p.now)

nows_front : (xs : List (Bor (List ℕ))) → front (nows xs) ≡ nows (take (length xs - 1) xs)
unfolding nows
nows_front [] = refl
nows_front (x ∷ []) = refl
nows_front (x ∷ y ∷ ys) = ap (λ l. x.now ∷ l) (nows_front (y ∷ ys)) ∙ ap nows (one_more x (y ∷ ys) (omega arith))
  where
    one_more : (x : Bor (List ℕ)) (xs : List (Bor (List ℕ))) → 0 < length xs → x ∷ take (length xs - 1) xs ≡ take (length (x ∷ xs) - 1) (x ∷ xs)
    one_more x xs lt = let e : length (x ∷ xs) - 1 ≡ suc (length xs - 1) = omega arith in rw e refl

nows_back : (xs : List (Bor (List ℕ))) (d : Bor (List ℕ)) → 0 < length xs → back (nows xs) ≡ (get_or xs (length xs - 1) d).now
unfolding nows
nows_back [] d lt = absurd (omega arith)
nows_back (x ∷ []) d lt = refl
nows_back (x ∷ y ∷ ys) d lt = nows_back (y ∷ ys) d (omega arith) ∙ grind (arith, common_steps)

pub uncut_append : (a b : List ℕ) → IsUncut a → IsUncut b → IsUncut (a ++ b)
uncut_append [] b ha hb = hb
uncut_append (x ∷ a) b ha hb = (ha.0, uncut_append a b ha.1 hb)

both : (r piece : List ℕ) (xs : List (Bor (List ℕ))) → IsUncut r → nows xs ≡ pieces piece → pieces (r ++ piece) ≡ glue r (nows xs)
both r piece xs h e = glued r piece h ∙ ap (glue r) (sym e)

-- a piece that ends at least one line
pub take_many : (r piece : List ℕ) (xs : List (Bor (List ℕ))) → IsUncut r → map (λ p. p.now) xs ≡ pieces piece → 2 ≤ length xs → ((d : Bor (List ℕ)) → whole_lines (r ++ piece) ≡ (r ++ (get_or xs 0 d).now) ∷ map (λ p. p.now) (take (length xs - 1 - 1) (drop 1 xs))) × ((d : Bor (List ℕ)) → rest_of (r ++ piece) ≡ (get_or xs (length xs - 1) d).now)
unfolding glue nows
take_many r piece (x ∷ y ∷ ys) h e lt = (
  λ d. ap front (both r piece (x ∷ y ∷ ys) h e) ∙ ap (λ l. (r ++ x.now) ∷ l) (nows_front (y ∷ ys) ∙ ap (λ n. nows (take n (y ∷ ys))) number),
  λ d. ap back (both r piece (x ∷ y ∷ ys) h e) ∙ nows_back (x ∷ y ∷ ys) d (omega arith),
)
  where
    number : length (y ∷ ys) - 1 ≡ length (x ∷ y ∷ ys) - 1 - 1
    number = omega arith
take_many r piece (x ∷ []) h e lt = absurd (omega arith)
take_many r piece [] h e lt = absurd (omega arith)

-- a piece that ends no line
pub take_one : (r piece : List ℕ) (xs : List (Bor (List ℕ))) → IsUncut r → map (λ p. p.now) xs ≡ pieces piece → length xs ≡ 1 → (whole_lines (r ++ piece) ≡ []) × ((d : Bor (List ℕ)) → rest_of (r ++ piece) ≡ r ++ (get_or xs 0 d).now)
unfolding glue nows
take_one r piece (x ∷ []) h e lt = (ap front (both r piece (x ∷ []) h e), λ d. ap back (both r piece (x ∷ []) h e))
take_one r piece (x ∷ y ∷ ys) h e lt = absurd (omega arith)
take_one r piece [] h e lt = absurd (omega arith)

-- there is a piece
pub take_none : (piece : List ℕ) (xs : List (Bor (List ℕ))) → map (λ p. p.now) xs ≡ pieces piece → length xs < 1 → ⊥
take_none piece [] e lt = some_pieces piece e
take_none piece (x ∷ xs) e lt = absurd (omega arith)

-- the same pieces, lent
pub pieces_again : {xs ys : List (Bor (List ℕ))} {all : List (List ℕ)} → xs ≡ ys → map (λ p. p.now) ys ≡ all → map (λ p. p.now) xs ≡ all
pieces_again e h = ap (map (λ p. p.now)) e ∙ h

pub more_lines : {first : List ℕ} {mid new before all : List (List ℕ)} → before ≡ first ∷ [] → new ≡ before ++ mid → all ≡ first ∷ mid → new ≡ all
more_lines {first} {mid} a b c = b ∙ ap (λ l. l ++ mid) a ∙ sym c

pub first_line : {before after : List (List ℕ)} {owned text start : List ℕ} (r head : List ℕ) → after ≡ before ++ owned ∷ [] → before ≡ [] → owned ≡ text → text ≡ start ++ head → start ≡ r → after ≡ (r ++ head) ∷ []
first_line {before} {after} {owned} {text} {start} r head a b c d e = a ∙ ap (λ l. l ++ owned ∷ []) b ∙ ap (λ t. t ∷ []) (c ∙ d ∙ ap (λ t. t ++ head) e)

-- one line more, for one text more
pub push_line : (f : List ℕ → Notice) (texts : List (List ℕ)) (i : ℕ) (t : List ℕ) (before after all : List Notice) → i < length texts → t ≡ get_or texts i t → after ≡ before ++ f t ∷ [] → before ≡ all ++ map f (take i texts) → after ≡ all ++ map f (take (i + 1) texts)
push_line f texts i t before after all lt at e h =
    e ∙ ap (λ l. l ++ f t ∷ []) h ∙ append_assoc all (map f (take i texts)) (f t ∷ [])
    ∙ ap (λ l. all ++ l) (sym (ap (map f) (take_more texts i t lt ∙ ap (λ x. take i texts ++ x ∷ []) (sym at)) ∙ map-append f (take i texts) (t ∷ [])))

onto_glue : (x : ℕ) (r : List ℕ) (ps : List (List ℕ)) → onto_first x (glue r ps) ≡ glue (x ∷ r) ps
unfolding glue
onto_glue x r [] = refl
onto_glue x r (p ∷ ps) = refl

cut_both : (x q : List ℕ) → pieces (x ++ q) ≡ front (pieces x) ++ glue (back (pieces x)) (pieces q)
cut_both [] q = glued [] q tt
cut_both (b ∷ x) q = at (is_feed b) (pieces x) refl (cut_both x q)
  where
    at : (d : Bool) (ps : List (List ℕ)) → ps ≡ pieces x → pieces (x ++ q) ≡ front ps ++ glue (back ps) (pieces q) → cond d ([] ∷ pieces (x ++ q)) (onto_first b (pieces (x ++ q))) ≡ front (cond d ([] ∷ ps) (onto_first b ps)) ++ glue (back (cond d ([] ∷ ps) (onto_first b ps))) (pieces q)
    at d [] e h = absurd (some_pieces x e)
    at true (p ∷ ps) e h = ap (λ l. [] ∷ l) h
    at false (p ∷ []) e h = ap (onto_first b) h ∙ onto_glue b p (pieces q)
    at false (p ∷ r ∷ ps) e h = ap (onto_first b) h

-- bytes cut in two: the lines that the first ones end, and the pieces of what is left
pieces_then : (x q : List ℕ) → pieces (x ++ q) ≡ whole_lines x ++ pieces (rest_of x ++ q)
pieces_then x q = cut_both x q ∙ ap (λ l. whole_lines x ++ l) (sym (glued (rest_of x) q (rest_uncut x)))

front_behind : (a b : List (List ℕ)) → ([] ≡ b → ⊥) → (front (a ++ b) ≡ a ++ front b) × (back (a ++ b) ≡ back b)
front_behind [] b some = (refl, refl)
front_behind (x ∷ []) [] some = absurd (some refl)
front_behind (x ∷ []) (y ∷ b) some = (refl, refl)
front_behind (x ∷ y ∷ a) b some = let k = front_behind (y ∷ a) b some in (ap (λ l. x ∷ l) k.0, k.1)

pub whole_both : (x q : List ℕ) → whole_lines (x ++ q) ≡ whole_lines x ++ whole_lines (rest_of x ++ q)
whole_both x q = ap front (pieces_then x q) ∙ (front_behind (whole_lines x) (pieces (rest_of x ++ q)) (some_pieces (rest_of x ++ q))).0

pub lines_both : (x q : List ℕ) → lines (x ++ q) ≡ whole_lines x ++ lines (rest_of x ++ q)
lines_both x q =
    let k : rest_of (x ++ q) ≡ rest_of (rest_of x ++ q) = ap back (pieces_then x q) ∙ (front_behind (whole_lines x) (pieces (rest_of x ++ q)) (some_pieces (rest_of x ++ q))).1 in
    ap (λ l. l ++ some_line (rest_of (x ++ q))) (whole_both x q) ∙ ap (λ r. (whole_lines x ++ whole_lines (rest_of x ++ q)) ++ some_line r) k ∙ append_assoc (whole_lines x) _ _

one_piece : (r : List ℕ) → IsUncut r → pieces r ≡ r ∷ []
unfolding glue
one_piece r h = ap pieces (sym (append-nil r)) ∙ glued r [] h ∙ ap (λ l. l ∷ []) (append-nil r)

-- bytes without a line feed end no line
pub uncut_whole : (r : List ℕ) → IsUncut r → whole_lines r ≡ []
uncut_whole r h = ap front (one_piece r h)

-- and are a line, if there are some
pub uncut_lines : (r : List ℕ) → IsUncut r → lines r ≡ option_to_list (last_line r)
uncut_lines r h = ap (λ l. l ++ some_line (rest_of r)) (uncut_whole r h) ∙ ap (λ l. some_line (back l)) (one_piece r h) ∙ last r
  where
    last : (r : List ℕ) → some_line r ≡ option_to_list (last_line r)
    last [] = refl
    last (b ∷ r) = refl
