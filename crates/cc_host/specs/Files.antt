-- Files that are read, and files in memory.
use Rattle.std.specs.Prelude.{◌≡◌, ℕ, ◌+◌, ◌==◌, List, [], ◌∷◌, ◌++◌, Bool, true, false, Option, Some, None, Result, Ok, Err, bytes_eq}
use Rattle.std.specs.List.{list_any}
use Rattle.cc_text.specs.Map.{value_of, with_pair}
use Rattle.cc_host.specs.declared.files.Held.{Held}
use Rattle.cc_host.specs.declared.files.Held.TheVariants.{Absent, Bytes}
use Rattle.cc_host.specs.declared.files.FileError.{FileError}
use Rattle.cc_host.specs.declared.files.FileError.TheVariants.{Fault, NoMemory}
use Rattle.cc_host.specs.Calls.{plus_one}

-- what a read adds to the reads: its path with what it gave, and nothing where it was refused
abbrev pub read_of : List ℕ → Result Held FileError → List (List ℕ × Held)
read_of path (Ok held) = (path, held) ∷ []
read_of path (Err e) = []

abbrev pub held_of : Option (List ℕ) → Held
held_of None = Absent
held_of (Some bytes) = Bytes bytes

-- what a path holds: its bytes, and nothing exactly where there is no file
abbrev pub held_in : List (List ℕ × List ℕ) → List ℕ → Held
held_in files path = held_of (value_of bytes_eq files path)

-- what files in memory are seen as: each path with its bytes, the reads, the reads that are to fail, how many reads were made, and
-- how many failed
pub record MemoryFilesSeen : Type 0 where
  pub files : List (List ℕ × List ℕ)
  pub reads : List (List ℕ × Held)
  pub failures : List ℕ
  pub made : ℕ
  pub faults : ℕ

-- no file, before the first read
abbrev pub no_files : MemoryFilesSeen
no_files = record { files = []; reads = []; failures = []; made = 0; faults = 0 }

-- the path has these bytes
abbrev pub with_bytes : List ℕ → List ℕ → MemoryFilesSeen → MemoryFilesSeen
with_bytes path bytes seen = record seen { files = with_pair bytes_eq seen.files path bytes }

-- a read is to fail
abbrev pub with_failed_read : ℕ → MemoryFilesSeen → MemoryFilesSeen
with_failed_read nth seen = record seen { failures = seen.failures ++ nth ∷ [] }

-- the next read is one that is to fail
abbrev pub fails_next : MemoryFilesSeen → Bool
fails_next seen = list_any (λ nth. nth == seen.made + 1) seen.failures

-- A read gives what its path holds, or faults exactly where it is to fail. Where memory was refused the files are as before.
abbrev pub IsRead : List ℕ → MemoryFilesSeen → MemoryFilesSeen → Result Held FileError → Type 0
IsRead path old new (Ok held) =
    (fails_next old ≡ false) × (held ≡ held_in old.files path)
    × (new ≡ record old { reads = old.reads ++ (path, held) ∷ []; made = plus_one old.made })
IsRead path old new (Err Fault) =
    (fails_next old ≡ true) × (new ≡ record old { made = plus_one old.made; faults = plus_one old.faults })
IsRead path old new (Err NoMemory) = (fails_next old ≡ false) × (new ≡ old)
