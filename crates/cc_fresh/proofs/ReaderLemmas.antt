-- What a reader makes of a text.
use Rattle.std.proofs.Common.{◌≡◌, ℕ, ◌+◌, ◌<◌, ◌≤◌, Bool, true, false, List, [], ◌∷◌, ◌++◌, length, drop, get_or, Option, Some, None, Err, refl, sym, ap, ◌∙◌, append-nil}
use Rattle.std.specs.Str.{IsUtf8, is_utf8, chars}
use Rattle.std.proofs.lemmas.List.{at_drop_more, at_drop_all}
use Rattle.std.proofs.lemmas.Str.{is_utf8-from_IsUtf8, IsUtf8-from_is_utf8}
use Rattle.cc_fresh.specs.Deps.{without_returns, step, marks, mode_behind, is_target, ending, names_by, names_of, or_no_colon, read_deps}
use Rattle.cc_fresh.proofs.TargetLemmas.{target_read}
use Rattle.cc_fresh.specs.Reading.{beginning, reads, found, kept}
use Rattle.cc_fresh.specs.declared.deps.DepsError.TheVariants.{NotText}
use Rattle.cc_fresh.specs.declared.reader.Reader.{Reader}
use Rattle.cc_fresh.specs.declared.step.Mark.{Mark}
use Rattle.cc_fresh.specs.declared.step.Mode.{Mode}

-- ---- a character

-- what it makes of one and of any behind it
pub reads_more : (r : Reader) (c : ℕ) (p : Mark × Mode) (names : List (List ℕ)) (next : Option (List ℕ)) (cs : List ℕ) → p ≡ step r.mode c → ((ms : List Mark) → names ++ names_by ms next ≡ r.names ++ names_by (p.0 ∷ ms) r.word) → reads (record { names = names; word = next; mode = p.1 }) cs ≡ reads r (c ∷ cs)
unfolding marks mode_behind
reads_more r c p names next cs e h =
    ap (λ (ns : List (List ℕ)). (ns, mode_behind p.1 cs)) (h (marks p.1 cs))
    ∙ ap (λ (q : Mark × Mode). (r.names ++ names_by (q.0 ∷ marks q.1 cs) r.word, mode_behind q.1 cs)) e

-- behind the end nothing is left
pub found_end : (r : Reader) (names : List (List ℕ)) (next : Option (List ℕ)) (m : Mark) → is_target r.mode ≡ false → m ≡ ending r.mode → ((ms : List Mark) → names ++ names_by ms next ≡ r.names ++ names_by (m ∷ ms) r.word) → Some names ≡ found (reads r [])
unfolding marks mode_behind
found_end r names next m t e h =
    let all : names ≡ r.names ++ names_by (ending r.mode ∷ []) r.word = sym (append-nil names) ∙ h [] ∙ ap (λ (k : Mark). r.names ++ names_by (k ∷ []) r.word) e in
    rw t (ap Some all)

pub found_none : (r : Reader) → is_target r.mode ≡ true → None ≡ found (reads r [])
unfolding marks mode_behind
found_none r t = rw t refl

-- ---- a text

-- after one character more
pub read_more : (cs : List ℕ) (n c : ℕ) (r next : Reader) (waits after : Bool) (all : List (List ℕ) × Mode) → (n < length cs) × (c ≡ get_or cs n c) → ((rest : List ℕ) → reads next (kept after rest) ≡ reads r (kept waits (c ∷ rest))) → reads r (kept waits (drop n cs)) ≡ all → reads next (kept after (drop (n + 1) cs)) ≡ all
read_more cs n c r next waits after all t h so_far =
    h (drop (n + 1) cs)
    ∙ ap (λ (x : ℕ). reads r (kept waits (x ∷ drop (n + 1) cs))) t.1
    ∙ sym (at_drop_more (λ (l : List ℕ). reads r (kept waits l)) cs n c t.0)
    ∙ so_far

-- and behind the last one
pub read_all : (cs : List ℕ) (n : ℕ) (r : Reader) (waits : Bool) (names : Option (List (List ℕ))) → length cs ≤ n → names ≡ found (reads r (kept waits [])) → reads r (kept waits (drop n cs)) ≡ reads beginning (without_returns cs) → names ≡ names_of cs
read_all cs n r waits names l h so_far =
    h ∙ ap found (sym (at_drop_all (λ (l : List ℕ). reads r (kept waits l)) cs n l) ∙ so_far) ∙ target_read (without_returns cs)

-- ---- bytes

pub text_read : (bs : List ℕ) (text : List ℕ) (names : Option (List (List ℕ))) → (text ≡ bs) × IsUtf8 bs → names ≡ names_of (chars text) → read_deps bs ≡ or_no_colon names
unfolding read_deps
text_read bs text names t e = rw (is_utf8-from_IsUtf8 bs t.1) (ap or_no_colon (ap (λ (l : List ℕ). names_of (chars l)) (sym t.0) ∙ sym e))

no_text : (b : Bool) (bs : List ℕ) → is_utf8 bs ≡ b → (IsUtf8 bs → ⊥) → b ≡ false
no_text true bs e h = absurd (h (IsUtf8-from_is_utf8 bs e))
no_text false bs e h = refl

pub none_read : (bs : List ℕ) → (IsUtf8 bs → ⊥) → read_deps bs ≡ Err NotText
unfolding read_deps
none_read bs h = rw (no_text (is_utf8 bs) bs refl h) refl
