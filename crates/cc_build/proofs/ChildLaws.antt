-- Laws on the children of a part: one part behind another, and events that start and end none.
use Rattle.std.proofs.Common.{◌≡◌, ℕ, List, [], ◌∷◌, ◌++◌, map, Bool, true, false, ◌||◌, refl, sym, ◌∙◌, ap, subst}
use Rattle.cc_host.specs.Children.{Live, live_after, live_from, running}
use Rattle.cc_host.specs.declared.event.Event.{Event}
use Rattle.cc_host.proofs.ChildLogLemmas.{live_then}
use Rattle.cc_build.specs.Children.{fails, fails_from, has_failure, AllWell}

-- where no id runs no child does
pub no_live : (ls : List Live) → map (λ c. c.id) ls ≡ [] → ls ≡ []
no_live [] e = refl
no_live (l ∷ ls) e = absurd (cc)

pub settled_live : (part : List Event) → running part ≡ [] → live_from [] part ≡ []
settled_live part e = no_live (live_from [] part) e

or_assoc : (a b c : Bool) → (a || (b || c)) ≡ ((a || b) || c)
or_assoc true b c = refl
or_assoc false b c = refl

pub fails_then : (ls : List Live) (a b : List Event) → fails_from ls (a ++ b) ≡ (fails_from ls a || fails_from (live_from ls a) b)
fails_then ls [] b = refl
fails_then ls (e ∷ a) b = ap (λ x. fails ls e || x) (fails_then (live_after ls e) a b) ∙ or_assoc (fails ls e) (fails_from (live_after ls e) a) (fails_from (live_from (live_after ls e) a) b)

-- behind a part of which no child runs
pub running_behind : (a b : List Event) → running a ≡ [] → running (a ++ b) ≡ running b
running_behind a b e = ap (map (λ c. c.id)) (live_then [] a b ∙ ap (λ ls. live_from ls b) (settled_live a e))

pub failure_behind : (a b : List Event) → running a ≡ [] → has_failure (a ++ b) ≡ (has_failure a || has_failure b)
failure_behind a b e = fails_then [] a b ∙ ap (λ ls. fails_from [] a || fails_from ls b) (settled_live a e)

both_false : (a b : Bool) → a ≡ false → b ≡ false → (a || b) ≡ false
both_false true b p q = absurd (cc)
both_false false b p q = q

pub well_then : (a b : List Event) → AllWell a → AllWell b → AllWell (a ++ b)
well_then a b p q = record {
  settled = running_behind a b p.settled ∙ q.settled;
  sound = failure_behind a b p.settled ∙ both_false (has_failure a) (has_failure b) p.sound q.sound;
}

pub well_nothing : AllWell []
well_nothing = record { settled = refl; sound = refl }

-- ---- events that start and end no child

-- no child runs or fails by it
abbrev pub IsAside : Event → Type 0
IsAside event = ((ls : List Live) → live_after ls event ≡ ls) × ((ls : List Live) → fails ls event ≡ false)

abbrev pub AreAside : List Event → Type 0
AreAside [] = Unit {0}
AreAside (e ∷ es) = IsAside e × AreAside es

pub aside_live : (ls : List Live) (part : List Event) → AreAside part → live_from ls part ≡ ls
aside_live ls [] h = refl
aside_live ls (e ∷ es) h = ap (λ l. live_from l es) (h.0.0 ls) ∙ aside_live ls es h.1

pub aside_sound : (ls : List Live) (part : List Event) → AreAside part → fails_from ls part ≡ false
aside_sound ls [] h = refl
aside_sound ls (e ∷ es) h = both_false (fails ls e) (fails_from (live_after ls e) es) (h.0.1 ls) (aside_sound (live_after ls e) es h.1)

pub aside_well : (part : List Event) → AreAside part → AllWell part
aside_well part h = record { settled = ap (map (λ c. c.id)) (aside_live [] part h); sound = aside_sound [] part h }
