-- The reads of the machine's files.
use Rattle.std.specs.Prelude.{ℕ, List, []}
use Rattle.cc_host.specs.declared.files.Held.{Held}

-- what the files of the machine are seen as: the reads, each path with what it gave, and how many failed
pub record FilesSeen : Type 0 where
  pub reads : List (List ℕ × Held)
  pub faults : ℕ

-- before the first read
abbrev pub unread : FilesSeen
unread = record { reads = []; faults = 0 }
