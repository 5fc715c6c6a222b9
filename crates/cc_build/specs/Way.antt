-- What a run finds out as it goes, beside the answers to its questions.
use Rattle.std.specs.Prelude.{◌≡◌, ℕ, Bool, true, List, [], ◌∷◌, ◌++◌, Option, is_some}
use Rattle.cc_text.specs.Words.{when}
use Rattle.cc_flags.specs.declared.settings.BuildConfig.{BuildConfig}

-- which of the lines that builds which share what they know print once between them a run prints
pub record Firsts : Type 0 where
  -- the link lines of such a kind
  pub links : Bool
  -- for each variable that Cargo is told of, in order, whether it has its line; those past the last have
  pub names : List Bool

-- all of them
abbrev pub all_firsts : Firsts
all_firsts = record { links = true; names = [] }

-- what a run finds out before its first command
pub record Found : Type 0 where
  -- whether it is the run that warns of flags for the linker
  pub warns_of_link : Bool
  -- the current folder, which a host that listens is asked for
  pub here : Option (List ℕ)

-- the folder is known of a host that listens, and of no other
abbrev pub Hears : Bool → Found → Type 0
Hears listens found = is_some found.here ≡ listens

-- what it finds out as it writes the library
pub record Writing : Type 0 where
  -- whether the first form of its archive was refused, so that the plain form took its place
  pub is_plain : Bool
  -- the current folder, where it is asked for before the archive commands, and of no matter else
  pub here : List ℕ

abbrev pub writing_of : Bool → List ℕ → Writing
writing_of is_plain here = record { is_plain = is_plain; here = here }

pub record Way : Type 0 where
  pub found : Found
  pub writing : Writing
  -- which of the lines that are printed once it prints
  pub firsts : Firsts

abbrev pub way_of : Found → Writing → Firsts → Way
way_of found writing firsts = record { found = found; writing = writing; firsts = firsts }

-- where lines are repeated, each run prints them all
abbrev pub Repeats : BuildConfig → Firsts → Type 0
Repeats set firsts = set.repeat_lines ≡ true → firsts ≡ all_firsts

-- those of some things that are chosen, and those past the last choice
abbrev pub chosen : {X : Type 0} → List Bool → List X → List X
chosen [] xs = xs
chosen (choice ∷ choices) [] = []
chosen (choice ∷ choices) (x ∷ xs) = when choice (x ∷ []) ++ chosen choices xs

-- these are some of the names, in order
abbrev pub AreChosen : List (List ℕ) → List (List ℕ) → Type 0
AreChosen names printed = (choices : List Bool) × (printed ≡ chosen choices names)

-- these are all names where lines are repeated, and else some of them
abbrev pub AreFirsts : BuildConfig → List (List ℕ) → List (List ℕ) → Type 0
AreFirsts set names printed =
    (choices : List Bool) × ((set.repeat_lines ≡ true → choices ≡ []) × (printed ≡ chosen choices names))
