-- What compilers for Android are called.
use Rattle.std.specs.Prelude.{ℕ, zero, suc, ◌-◌, nat_eq, List, [], ◌∷◌, ◌++◌, Option, Some, None, length, codes, if◌then◌else◌}
use Rattle.std.specs.List.{starts_with}
use Rattle.cc_flags.specs.Texts.{is}

-- the compiler that the development kit has for a target
unfoldable pub kit_compiler : List ℕ → Option (List ℕ)
kit_compiler name =
    if is name "aarch64-linux-android" then Some (codes "aarch64-linux-android21-clang")
    else (if is name "armv7-linux-androideabi" then Some (codes "armv7a-linux-androideabi16-clang")
    else (if is name "i686-linux-android" then Some (codes "i686-linux-android16-clang")
    else (if is name "x86_64-linux-android" then Some (codes "x86_64-linux-android21-clang")
    else None)))

-- the text with another in place of each needle, from its start on, where so many bytes more are a needle's
unfoldable pub replaced_from : ℕ → List ℕ → List ℕ → List ℕ → List ℕ
replaced_from n needle to [] = []
replaced_from (suc n) needle to (b ∷ text) = replaced_from n needle to text
replaced_from zero needle to (b ∷ text) =
    if starts_with nat_eq (b ∷ text) needle then to ++ replaced_from (length needle - 1) needle to text else b ∷ replaced_from zero needle to text

-- the text with another in place of each needle
abbrev pub replaced : List ℕ → List ℕ → List ℕ → List ℕ
replaced needle to text = replaced_from zero needle to text

-- the target as older tools spell it: any version of Arm is `arm`
unfoldable pub plain_arm : List ℕ → List ℕ
plain_arm name =
    let as_arm = replaced (codes "thumbv7") (codes "arm") in
    as_arm (replaced (codes "thumbv7neon") (codes "arm") (replaced (codes "armv7") (codes "arm") (replaced (codes "armv7neon") (codes "arm") name)))

-- a compiler's name behind that of the target
abbrev pub older_name : List ℕ → List ℕ → List ℕ
older_name name compiler = plain_arm name ++ codes "-" ++ compiler
