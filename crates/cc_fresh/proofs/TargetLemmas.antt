-- A reader that begins in the target finds the names that stand behind it.
use Rattle.std.proofs.Common.{◌≡◌, ℕ, ◌==◌, ◌%◌, ◌||◌, ◌&&◌, Bool, true, false, List, [], ◌∷◌, Option, Some, None, option_map, if◌then◌else◌, arith, refl, sym, ap, ◌∙◌}
use Rattle.cc_fresh.specs.Deps.{line_feed, backslash, dollar, colon, hash_sign, is_gap, ends_target, behind_target, among_names, behind_slashes, in_target, step, marks, mode_behind, is_target, names_by, names_in}
use Rattle.cc_fresh.specs.Reading.{beginning, reads, found}
use Rattle.cc_fresh.specs.declared.step.Mark.{Mark}
use Rattle.cc_fresh.specs.declared.step.Mark.TheVariants.{Nothing, Adds, Ends}
use Rattle.cc_fresh.specs.declared.step.Mode.{Mode}
use Rattle.cc_fresh.specs.declared.step.Mode.TheVariants.{Target, Colon, Names, Slashes, Dollar, Over}

-- ---- among the names it stays there

abbrev among : Mode → Bool
among Target = false
among Colon = false
among Names = true
among (Slashes count) = true
among Dollar = true
among Over = true

pick : (b : Bool) (x y : Mark × Mode) → among x.1 ≡ true → among y.1 ≡ true → among (if b then x else y).1 ≡ true
pick true x y p q = p
pick false x y p q = q

from_names : (c : ℕ) → among (among_names c).1 ≡ true
from_names c =
    pick (is_gap c) (Ends 0, Names) _ refl
    (pick (c == line_feed) (Ends 0, Over) _ refl
    (pick (c == backslash) (Nothing, Slashes 1) _ refl
    (pick (c == dollar) (Adds 0 c, Dollar) (Adds 0 c, Names) refl refl)))

from_slashes : (count c : ℕ) → among (behind_slashes count c).1 ≡ true
from_slashes count c =
    pick (c == backslash) _ _ refl
    (pick (is_gap c) _ _ (pick (count % 2 == 0) _ _ refl refl)
    (pick (c == line_feed) _ _ refl
    (pick (c == hash_sign) _ _ refl
    (pick (c == dollar) _ _ refl refl))))

from_any : (m : Mode) (c : ℕ) → among m ≡ true → among (step m c).1 ≡ true
from_any Target c e = grind (arith, e)
from_any Colon c e = grind (arith, e)
from_any Names c e = from_names c
from_any (Slashes count) c e = from_slashes count c
from_any Dollar c e = pick (c == dollar) (Nothing, Names) (among_names c) refl (from_names c)
from_any Over c e = refl

no_target : (m : Mode) → among m ≡ true → is_target m ≡ false
no_target Target e = sym e
no_target Colon e = refl
no_target Names e = refl
no_target (Slashes count) e = refl
no_target Dollar e = refl
no_target Over e = refl

stays : (m : Mode) (cs : List ℕ) → among m ≡ true → is_target (mode_behind m cs) ≡ false
unfolding mode_behind
stays m [] e = no_target m e
stays m (c ∷ cs) e = stays (step m c).1 cs (from_any m c e)

-- ---- in the target

-- what a reader finds that stands there
abbrev outcome : Mode → List ℕ → Option (List (List ℕ))
outcome m cs = if is_target (mode_behind m cs) then None else Some (names_by (marks m cs) None)

abbrev names_behind : List ℕ → List (List ℕ)
names_behind rest = names_by (marks Names rest) None

-- right behind a colon
abbrev behind_colon : List ℕ → Option (List (List ℕ))
behind_colon cs = if ends_target cs then Some (names_behind cs) else names_in cs

colon_ends : (b : Bool) (cs : List ℕ) → (if b then Some (names_behind cs) else names_in cs) ≡ option_map names_behind (if b then Some cs else behind_target cs)
colon_ends true cs = refl
colon_ends false cs = refl

target_by : (b : Bool) (c : ℕ) (cs : List ℕ) → (c == colon) ≡ b → outcome Target cs ≡ names_in cs → outcome Colon cs ≡ behind_colon cs → outcome Target (c ∷ cs) ≡ names_in (c ∷ cs)
unfolding mode_behind marks
target_by true c cs e t k = rw e (k ∙ colon_ends (ends_target cs) cs)
target_by false c cs e t k = rw e t

colon_by : (b : Bool) (c : ℕ) (cs : List ℕ) → (is_gap c || c == line_feed) ≡ b → outcome Target (c ∷ cs) ≡ names_in (c ∷ cs) → outcome Colon (c ∷ cs) ≡ behind_colon (c ∷ cs)
unfolding mode_behind marks
colon_by true c cs e t = rw (e, stays (among_names c).1 cs (from_names c)) refl
colon_by false c cs e t = rw e t

both : (cs : List ℕ) → (outcome Target cs ≡ names_in cs) × (outcome Colon cs ≡ behind_colon cs)
unfolding mode_behind marks
both [] = (refl, refl)
both (c ∷ cs) =
    let rest = both cs in
    let target = target_by (c == colon) c cs refl rest.0 rest.1 in
    (target, colon_by (is_gap c || c == line_feed) c cs refl target)

pub target_read : (cs : List ℕ) → found (reads beginning cs) ≡ names_in cs
target_read cs = (both cs).0
