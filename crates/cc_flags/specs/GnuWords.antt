-- The words that GCC takes for a target.
use Rattle.std.specs.Prelude.{ℕ, Bool, true, not, ◌&&◌, ◌||◌, List, [], ◌∷◌, ◌++◌, Option, unwrap_or, is_none, map, find, codes, if◌then◌else◌}
use Rattle.std.specs.Option.{option_map_or}
use Prim.Native.String.{String}
use Rattle.cc_text.specs.Cuts.{after_prefix}
use Rattle.cc_text.specs.Words.{when, choose, entry, texts}
use Rattle.cc_target.specs.Targets.{Info}
use Rattle.cc_flags.specs.declared.arm.ArmRow.{ArmRow}
use Rattle.cc_flags.specs.Texts.{is, begins, begins_with, has, word}

-- numbers with a decimal point in registers of their own, also between functions
unfoldable pub is_hard_float : Info → Bool
is_hard_float target = is target.abi "eabihf"

unfoldable pub is_v7_linux : Info → Bool
is_v7_linux target = (begins target.full_arch "armv7" || begins target.full_arch "thumbv7") && is target.os "linux"

unfoldable pub is_v7_android : Info → Bool
is_v7_android target = is target.os "android" && has target.full_arch "v7"

unfoldable pub has_neon : Info → Bool
has_neon target = has target.full_arch "neon"

-- a static C library, and the versions of Arm on Linux and Android
unfoldable pub gnu_words : Info → Option Bool → Bool → List (List ℕ)
gnu_words target static_flag crt = choose (
    entry (is_none static_flag && crt) ("-static" ∷ [])
    ∷ entry (is_v7_linux target) ("-march=armv7-a" ∷ [])
    ∷ entry (is_v7_linux target && is_hard_float target) ("-mfpu=vfpv3-d16" ∷ "-mfloat-abi=hard" ∷ [])
    ∷ entry (is_v7_android target) ("-march=armv7-a" ∷ "-mthumb" ∷ [])
    ∷ entry (is_v7_android target && not (has_neon target)) ("-mfpu=vfpv3-d16" ∷ [])
    ∷ entry (is_v7_android target) ("-mfloat-abi=softfp" ∷ [])
    ∷ entry (has_neon target) ("-mfpu=neon" ∷ [])
    ∷ [])

-- the oldest processor, or the one that Rust code is compiled for, is taken
abbrev pub is_oldest : Option (List ℕ) → Bool
is_oldest cpu = option_map_or (λ name. is name "x86-64") cpu true

-- the oldest processor of a full architecture on Linux
unfoldable pub linux_processor : List ℕ → List ℕ → Option (List ℕ) → List (List ℕ)
linux_processor full_arch abi cpu =
    if is full_arch "armv4t" then word "-march=armv4t" ++ word "-marm" ++ word "-mfloat-abi=soft"
    else (if is full_arch "armv5te" then word "-march=armv5te" ++ word "-marm" ++ word "-mfloat-abi=soft"
    else (if is full_arch "arm" then word "-march=armv6" ++ word "-marm" ++ (if is abi "eabihf" then word "-mfpu=vfp" else word "-mfloat-abi=soft")
    else (if is full_arch "i586" then word "-march=pentium"
    else (if is full_arch "i686" then word "-march=i686"
    else when (is full_arch "x86_64" && is_oldest cpu) (word "-march=x86-64")))))

unfoldable pub processor_words : Info → Option (List ℕ) → List (List ℕ)
processor_words target cpu = when (is target.os "linux") (linux_processor target.full_arch target.abi cpu)

-- a row of the table of Arm processors: how the full architecture begins, its words, and those added for hard floats
pub record ArmLine : Type 0 where
  pub prefix : List ℕ
  pub words : List (List ℕ)
  pub hard : List (List ℕ)

abbrev pub arm_seen : ArmRow → ArmLine
arm_seen r = record { prefix = r.prefix.now; words = texts r.words.now; hard = texts r.hard.now }

abbrev pub arm : String → List String → List String → ArmLine
arm prefix words hard = record { prefix = codes prefix; words = map codes words; hard = map codes hard }

unfoldable pub arm_lines : List ArmLine
arm_lines =
    arm "thumbv6m" ("-march=armv6s-m" ∷ []) []
    ∷ arm "thumbv7m" ("-march=armv7-m" ∷ []) []
    ∷ arm "thumbv7em" ("-march=armv7e-m" ∷ []) ("-mfpu=fpv4-sp-d16" ∷ [])
    ∷ arm "thumbv8m.base" ("-march=armv8-m.base" ∷ []) []
    ∷ arm "thumbv8m.main" ("-march=armv8-m.main" ∷ []) ("-mfpu=fpv5-sp-d16" ∷ [])
    ∷ arm "armv6" ("-march=armv6" ∷ []) ("-mfpu=vfpv2" ∷ [])
    ∷ arm "thumbv6" ("-march=armv6" ∷ []) ("-mfpu=vfpv2" ∷ [])
    ∷ arm "armebv7r" ("-mbig-endian" ∷ "-march=armv7-r" ∷ []) ("-mfpu=vfpv3-d16" ∷ [])
    ∷ arm "armv7r" ("-march=armv7-r" ∷ []) ("-mfpu=vfpv3-d16" ∷ [])
    ∷ arm "thumbv7r" ("-march=armv7-r" ∷ []) ("-mfpu=vfpv3-d16" ∷ [])
    ∷ arm "armv7a" ("-march=armv7-a" ∷ []) ("-mfpu=vfpv3-d16" ∷ [])
    ∷ arm "thumbv7a" ("-march=armv7-a" ∷ []) ("-mfpu=vfpv3-d16" ∷ [])
    ∷ arm "armv8r" ("-march=armv8-r" ∷ []) ("-mfpu=fp-armv8" ∷ [])
    ∷ arm "thumbv8r" ("-march=armv8-r" ∷ []) ("-mfpu=fp-armv8" ∷ [])
    ∷ []

-- the first row whose prefix fits
unfoldable pub arm_line : List ℕ → Option ArmLine
arm_line full_arch = find (λ l. begins_with full_arch l.prefix) arm_lines

-- its words
unfoldable pub arm_words : List ℕ → Bool → List (List ℕ)
arm_words full_arch hard = option_map_or (λ l. l.words ++ when hard l.hard) (arm_line full_arch) []

unfoldable pub is_x86_musl : Info → Bool
is_x86_musl target = is target.arch "x86" && is target.env "musl"

unfoldable pub is_bare_hard_float : Info → Bool
is_bare_hard_float target = is target.arch "arm" && is target.os "none" && is_hard_float target

unfoldable pub is_thumb : Info → Bool
is_thumb target = begins target.full_arch "thumb"

unfoldable pub bare_words : Info → List (List ℕ)
bare_words target = choose (
    entry (is_x86_musl target) ("-Wl,-melf_i386" ∷ [])
    ∷ entry (is_bare_hard_float target) ("-mfloat-abi=hard" ∷ [])
    ∷ entry (is_thumb target) ("-mthumb" ∷ [])
    ∷ [])

-- targets without a system, and the table of Arm processors
abbrev pub bare_and_arm_words : Info → List (List ℕ)
bare_and_arm_words target = bare_words target ++ arm_words target.full_arch (is_hard_float target)

unfoldable pub is_riscv : Info → Bool
is_riscv target = is target.arch "riscv32" || is target.arch "riscv64"

-- systems whose code of 64 bits is that of the general profile
unfoldable pub is_general_system : List ℕ → Bool
is_general_system os = is os "linux" || is os "freebsd" || is os "netbsd" || is os "managarm" || is os "redox"

-- the full architecture less `riscv`
abbrev pub riscv_rest : List ℕ → List ℕ
riscv_rest full_arch = unwrap_or (after_prefix full_arch (codes "riscv")) []

-- the instructions that the full architecture names, and how functions are called
abbrev pub named_riscv : List ℕ → String → List (List ℕ)
named_riscv rest abi = (codes "-march=rv" ++ rest) ∷ codes abi ∷ []

unfoldable pub riscv_by : List ℕ → List ℕ → List (List ℕ)
riscv_by os rest =
    if begins rest "64" then (if is_general_system os then word "-march=rv64gc" ++ word "-mabi=lp64d" else named_riscv rest "-mabi=lp64")
    else (if begins rest "32" then (if is os "linux" then word "-march=rv32gc" ++ word "-mabi=ilp32d" else named_riscv rest "-mabi=ilp32")
    else word "-mcmodel=medany")

unfoldable pub riscv_words : Info → List (List ℕ)
riscv_words target = when (is_riscv target) (riscv_by target.os (riscv_rest target.full_arch))
