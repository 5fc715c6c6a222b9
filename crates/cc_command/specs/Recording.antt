-- A compile run between the two calls that record it, which the host makes before and behind it.
use Rattle.std.specs.Prelude.{◌≡◌, ◌⊎◌, ℕ, List, [], ◌∷◌, ◌++◌, Result, Ok, Err, Bool}
use Rattle.cc_db.specs.Database.{database}
use Rattle.cc_host.specs.Question.{Look}
use Rattle.cc_host.specs.declared.event.Event.{Event}
use Rattle.cc_host.specs.declared.event.Event.TheVariants.{Here, Wrote}
use Rattle.cc_host.specs.declared.event.HostCall.TheVariants.{CurrentDir, Write}
use Rattle.cc_build.specs.Build.{BuildSeen}
use Rattle.cc_build.specs.Course.{Course}
use Rattle.cc_build.specs.Error.{ErrorSeen}
use Rattle.cc_build.specs.Promises.{IsBuilt, Promises}
use Rattle.cc_command.specs.Database.{entries_of, Faults}

-- behind a run that was done the file of these bytes was written, or couldn't be
abbrev pub WritesOrFaults : List ℕ → List ℕ → List Event → Result (Unit {0}) ErrorSeen → Type 0
WritesOrFaults path bytes rest (Ok done) = rest ≡ Wrote path bytes ∷ []
WritesOrFaults path bytes rest (Err e) = Faults Write path rest e

-- behind a refused run stands nothing
abbrev pub EndsBehind : List ℕ → List ℕ → Result (Unit {0}) ErrorSeen → List Event → Result (Unit {0}) ErrorSeen
    → Type 0
EndsBehind path bytes (Ok done) rest result = WritesOrFaults path bytes rest result
EndsBehind path bytes (Err e) rest result = (result ≡ Err e) × (rest ≡ [])

-- the host told its folder, the library was built or the run refused, and then comes the file of the database
pub record Between (listens : Bool) (b : BuildSeen) (output path : List ℕ) (result : Result (Unit {0}) ErrorSeen)
    (look : Look) (part : List Event) (c : Course) : Type 0 where
  pub here : List ℕ
  pub run : List Event
  pub rest : List Event
  pub cut : part ≡ Here here ∷ (run ++ rest)
  pub ran : Result (Unit {0}) ErrorSeen
  pub built : IsBuilt b listens output ran look run c
  pub promises : Promises b listens output ran look run c
  pub behind : EndsBehind path (database (entries_of b.config b.env look here)) ran rest result

-- the host couldn't tell its folder, or memory was wanted; else it went so
abbrev pub IsRecord : Bool → List ℕ → List ℕ → BuildSeen → Result (Unit {0}) ErrorSeen → Look → List Event → Course
    → Type 0
IsRecord listens output path b result look part c =
    ((e : ErrorSeen) × ((result ≡ Err e) × Faults CurrentDir [] part e × (c.after ≡ c.before)))
    ⊎ Between listens b output path result look part c
