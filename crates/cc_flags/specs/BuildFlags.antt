-- The flags of a build.
use Rattle.std.specs.Prelude.{ℕ, List, Bool, false, not, bytes_eq}
use Rattle.std.specs.List.{filter}
use Rattle.cc_flags.specs.declared.build_flags.BuildFlag.{BuildFlag}
use Rattle.cc_flags.specs.declared.build_flags.BuildFlag.TheVariants.{Always, IfSupported}

-- a flag that is always given, of this word
abbrev pub is_always : List ℕ → BuildFlag → Bool
is_always word (Always text) = bytes_eq text word
is_always word (IfSupported text) = false

-- the flags, less each one of this word that is always given
unfoldable pub without : List ℕ → List BuildFlag → List BuildFlag
without word flags = filter (λ flag. not (is_always word flag)) flags
