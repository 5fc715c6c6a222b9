-- What an error is seen as.
use Rattle.std.specs.Prelude.{ℕ, List, []}
use Rattle.cc_build.specs.declared.error.ErrorKind.{ErrorKind}
use Rattle.cc_build.specs.declared.error.ErrorKind.TheVariants.{NoMemory}

-- its kind, the value that it is about, and its message
pub record ErrorSeen : Type 0 where
  pub kind : ErrorKind
  pub subject : List ℕ
  pub message : List ℕ

-- want of memory tells nothing
abbrev pub no_memory : ErrorSeen
no_memory = record { kind = NoMemory; subject = []; message = [] }
