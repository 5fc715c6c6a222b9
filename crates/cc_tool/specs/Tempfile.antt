-- How a probe file of a random name is made.
use Rattle.std.specs.Prelude.{◌≡◌, ◌<◌, ◌⊎◌, ◌++◌, ℕ, List, [], ◌∷◌, Option, Some, None, Result, Ok, Err, length}
use Rattle.std.specs.List.{flat_map}
use Rattle.cc_host.specs.declared.event.Event.{Event}
use Rattle.cc_host.specs.declared.event.Event.TheVariants.{Drawn, Opened, Taken, Fault}
use Rattle.cc_host.specs.declared.event.HostError.{HostError}
use Rattle.cc_host.specs.declared.event.HostError.TheVariants.{Fault as Failed, NoMemory}
use Rattle.cc_host.specs.declared.event.HostCall.TheVariants.{CreateProbe}
use Rattle.cc_tool.specs.Files.{probe_path}

-- a name that was drawn and is taken
abbrev pub taken : List ℕ → List ℕ → ℕ → List Event
taken dir suffix word = Drawn word ∷ Taken (probe_path dir word suffix) ∷ []

-- names that were drawn and are taken, one after the other
abbrev pub all_taken : List ℕ → List ℕ → List ℕ → List Event
all_taken dir suffix words = flat_map (taken dir suffix) words

-- the end of a try that isn't a taken name: a file, a fault of the host, or want of memory before or after the word was drawn
abbrev pub Ends : List ℕ → List ℕ → List ℕ → List Event → Result (List ℕ) HostError → Type 0
Ends dir suffix contents part (Ok path) = (word : ℕ) × (path ≡ probe_path dir word suffix) × (part ≡ Drawn word ∷ Opened path contents ∷ [])
Ends dir suffix contents part (Err (Failed call why)) = (call ≡ CreateProbe) × ((word : ℕ) × (part ≡ Drawn word ∷ Fault CreateProbe why ∷ []))
Ends dir suffix contents part (Err NoMemory) = (part ≡ []) ⊎ ((word : ℕ) × (part ≡ Drawn word ∷ []))

-- what one try adds
abbrev pub Attempt : List ℕ → List ℕ → List ℕ → List Event → Result (Option (List ℕ)) HostError → Type 0
Attempt dir suffix contents part (Ok None) = (word : ℕ) × (part ≡ taken dir suffix word)
Attempt dir suffix contents part (Ok (Some path)) = Ends dir suffix contents part (Ok path)
Attempt dir suffix contents part (Err e) = Ends dir suffix contents part (Err e)

pub record Attempted (dir suffix contents : List ℕ) (before after : List Event) (result : Result (Option (List ℕ)) HostError) : Type 0 where
  pub part : List Event
  pub extends : after ≡ before ++ part
  pub adds : Attempt dir suffix contents part result

-- none is answered exactly where ten names are taken
abbrev pub Finishes : List ℕ → List ℕ → List ℕ → ℕ → List Event → Result (Option (List ℕ)) HostError → Type 0
Finishes dir suffix contents count part (Ok None) = (count ≡ 10) × (part ≡ [])
Finishes dir suffix contents count part (Ok (Some path)) = (count < 10) × Ends dir suffix contents part (Ok path)
Finishes dir suffix contents count part (Err e) = (count < 10) × Ends dir suffix contents part (Err e)

-- Names that are taken, and then the end.
pub record Tried (dir suffix contents : List ℕ) (before after : List Event) (result : Result (Option (List ℕ)) HostError) : Type 0 where
  pub words : List ℕ
  pub rest : List Event
  pub extends : after ≡ before ++ (all_taken dir suffix words ++ rest)
  pub finishes : Finishes dir suffix contents (length words) rest result

-- So many names are taken.
pub record AllTaken (dir suffix : List ℕ) (before after : List Event) (count : ℕ) : Type 0 where
  pub words : List ℕ
  pub extends : after ≡ before ++ all_taken dir suffix words
  pub counts : length words ≡ count
