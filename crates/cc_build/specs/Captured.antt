-- What listing the host's variables does to a build.
use Rattle.std.specs.Prelude.{◌≡◌, ◌⊎◌, ℕ, List, [], ◌∷◌, Result, Ok, Err}
use Rattle.cc_env.specs.Env.{EnvSeen}
use Rattle.cc_env.specs.Snapshot.{snapshot_of}
use Rattle.cc_host.specs.Part.Step.{Lists}
use Rattle.cc_host.specs.declared.event.Event.{Event}
use Rattle.cc_host.specs.declared.event.Event.TheVariants.{Listed}
use Rattle.cc_build.specs.Build.{BuildSeen}
use Rattle.cc_build.specs.Course.{CallsEnd}
use Rattle.cc_build.specs.Error.{ErrorSeen, no_memory}

-- the environment with the snapshot of these variables
abbrev pub with_vars : EnvSeen → List (List ℕ × List ℕ) → EnvSeen
with_vars env vars = record env { inherited = snapshot_of vars }

-- The host listed its variables, and did nothing else. They take the place of the snapshot, and all else stays.
pub record Captures (old new : BuildSeen) (part : List Event) : Type 0 where
  pub vars : List (List ℕ × List ℕ)
  pub listed : part ≡ Listed vars ∷ []
  pub is : new ≡ record old { env = with_vars old.env vars }

-- the host listed its variables; or the error has its cause; or it did, and memory for their snapshot was wanted
abbrev pub CaptureEnds : List Event → Result (Unit {0}) ErrorSeen → Type 0
CaptureEnds part (Ok done) = CallsEnd (Lists ∷ []) part (Ok done)
CaptureEnds part (Err e) =
    CallsEnd {T = Unit {0}} (Lists ∷ []) part (Err e)
    ⊎ ((e ≡ no_memory) × CallsEnd {T = Unit {0}} (Lists ∷ []) part (Ok (tt {0})))
