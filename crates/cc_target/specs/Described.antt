-- Targets that Cargo describes: their parts by the variables that it sets for build scripts.
use Rattle.std.specs.Prelude.{ℕ, Bool, not, ◌&&◌, ◌||◌, ◌==◌, List, [], ◌∷◌, Option, Some, None}
use Rattle.std.specs.Prelude.{map, codes, bytes_eq, unwrap_or, if◌then◌else◌}
use Rattle.std.specs.List.{before_first}
use Rattle.std.specs.Option.{option_or}
use Rattle.cc_env.specs.Snapshot.{last_value}
use Rattle.cc_text.specs.Pieces.{has_bytes}
use Rattle.cc_text.specs.Words.{is_one_of}
use Rattle.cc_target.specs.Targets.{Info, info_of}

-- the value of a variable, or the empty text
unfoldable pub value : List (List ℕ × List ℕ) → List ℕ → List ℕ
value env variable = unwrap_or (last_value env variable) []

-- the full architecture: the text of a target's name before the first `-` (45), or the whole name
abbrev pub full_arch_of : List ℕ → List ℕ
full_arch_of name = before_first (λ b. b == 45) name

-- what a target's name and the variables say of its parts
abbrev pub parts : List ℕ → List (List ℕ × List ℕ) → Info
parts name env = record {
  full_arch = full_arch_of name;
  arch = value env (codes "CARGO_CFG_TARGET_ARCH");
  vendor = value env (codes "CARGO_CFG_TARGET_VENDOR");
  os = value env (codes "CARGO_CFG_TARGET_OS");
  env = value env (codes "CARGO_CFG_TARGET_ENV");
  abi = value env (codes "CARGO_CFG_TARGET_ABI");
}

-- no name, architecture, vendor or system is empty
unfoldable pub are_given : List ℕ → Info → Bool
are_given name i = has_bytes name && has_bytes i.arch && has_bytes i.vendor && has_bytes i.os

-- the vendor, the system or the interface wants more of a compiler than the parts say, as Apple's systems want an SDK
unfoldable pub wants_more : Info → Bool
wants_more i =
    is_one_of (map codes ("apple" ∷ "kmc" ∷ "uwp" ∷ [])) i.vendor
    || is_one_of (map codes ("cloudabi" ∷ "redox" ∷ "solaris" ∷ "aix" ∷ [])) i.os
    || bytes_eq i.abi (codes "pauthtest")

-- the parts of the target with this name, where the variables describe it
unfoldable pub described : List ℕ → List (List ℕ × List ℕ) → Option Info
described name env =
    if are_given name (parts name env) && not (wants_more (parts name env)) then Some (parts name env) else None

-- the parts in the table, else those by Cargo's description
unfoldable pub info_for : List ℕ → List (List ℕ × List ℕ) → Option Info
info_for name env = option_or (info_of name) (described name env)
