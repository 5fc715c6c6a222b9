-- The table of targets, and what its rows say of a name.
use Rattle.std.specs.Prelude.{true, not, is_some, ◌&&◌, ◌||◌, nat_eq, length, ℕ, Bool, List, [], ◌∷◌, Option, Some, None, codes, bytes_eq, map, find, option_map, option_and_then, slice_get}
use Rattle.std.specs.List.{list_any}
use Rattle.std.specs.Option.{option_map_or}
use Prim.Native.String.{String}
use Rattle.cc_target.specs.declared.info.TargetInfo.{TargetInfo}
use Rattle.cc_target.specs.declared.rows.Row.{Row}

-- the parts of a target, as texts
pub record Info : Type 0 where
  pub full_arch : List ℕ
  pub arch : List ℕ
  pub vendor : List ℕ
  pub os : List ℕ
  pub env : List ℕ
  pub abi : List ℕ

abbrev pub info_seen : TargetInfo → Info
info_seen t = record { full_arch = t.full_arch.now; arch = t.arch.now; vendor = t.vendor.now; os = t.os.now; env = t.env.now; abi = t.abi.now }

-- a line of the table: a name, its parts, LLVM's name, the fixed prefix of the GNU tools, and candidates for it
pub record Line : Type 0 where
  pub name : List ℕ
  pub info : Info
  pub llvm : List ℕ
  pub prefix : Option (List ℕ)
  pub candidates : List (List ℕ)

abbrev pub line_seen : Row → Line
line_seen r = record { name = r.name.now; info = info_seen r.info; llvm = r.llvm.now; prefix = option_map (λ p. p.now) r.prefix; candidates = map (λ p. p.now) r.candidates.now }

abbrev pub info : String → String → String → String → String → String → Info
info full_arch arch vendor os env abi = record { full_arch = codes full_arch; arch = codes arch; vendor = codes vendor; os = codes os; env = codes env; abi = codes abi }

abbrev pub line : String → Info → String → Option String → List String → Line
line name i llvm prefix candidates = record { name = codes name; info = i; llvm = codes llvm; prefix = option_map codes prefix; candidates = map codes candidates }

unfoldable pub lines : List Line
lines =
    line "x86_64-unknown-linux-gnu" (info "x86_64" "x86_64" "unknown" "linux" "gnu" "") "x86_64-unknown-linux-gnu" None ("x86_64-linux-gnu" ∷ []) ∷
    line "x86_64-unknown-linux-musl" (info "x86_64" "x86_64" "unknown" "linux" "musl" "") "x86_64-unknown-linux-musl" None ("x86_64-linux-musl" ∷ "musl" ∷ []) ∷
    line "x86_64-unknown-linux-gnux32" (info "x86_64" "x86_64" "unknown" "linux" "gnu" "x32") "x86_64-unknown-linux-gnux32" None [] ∷
    line "i686-unknown-linux-gnu" (info "i686" "x86" "unknown" "linux" "gnu" "") "i686-unknown-linux-gnu" None ("i686-linux-gnu" ∷ "x86_64-linux-gnu" ∷ []) ∷
    line "i686-unknown-linux-musl" (info "i686" "x86" "unknown" "linux" "musl" "") "i686-unknown-linux-musl" (Some "musl") [] ∷
    line "i586-unknown-linux-gnu" (info "i586" "x86" "unknown" "linux" "gnu" "") "i586-unknown-linux-gnu" None [] ∷
    line "aarch64-unknown-linux-gnu" (info "aarch64" "aarch64" "unknown" "linux" "gnu" "") "aarch64-unknown-linux-gnu" (Some "aarch64-linux-gnu") [] ∷
    line "aarch64-unknown-linux-musl" (info "aarch64" "aarch64" "unknown" "linux" "musl" "") "aarch64-unknown-linux-musl" (Some "aarch64-linux-musl") [] ∷
    line "arm-unknown-linux-gnueabi" (info "arm" "arm" "unknown" "linux" "gnu" "eabi") "arm-unknown-linux-gnueabi" (Some "arm-linux-gnueabi") [] ∷
    line "arm-unknown-linux-gnueabihf" (info "arm" "arm" "unknown" "linux" "gnu" "eabihf") "arm-unknown-linux-gnueabihf" (Some "arm-linux-gnueabihf") [] ∷
    line "armv5te-unknown-linux-gnueabi" (info "armv5te" "arm" "unknown" "linux" "gnu" "eabi") "armv5te-unknown-linux-gnueabi" (Some "arm-linux-gnueabi") [] ∷
    line "armv7-unknown-linux-gnueabihf" (info "armv7" "arm" "unknown" "linux" "gnu" "eabihf") "armv7-unknown-linux-gnueabihf" (Some "arm-linux-gnueabihf") [] ∷
    line "powerpc64le-unknown-linux-gnu" (info "powerpc64le" "powerpc64" "unknown" "linux" "gnu" "") "powerpc64le-unknown-linux-gnu" (Some "powerpc64le-linux-gnu") [] ∷
    line "riscv64gc-unknown-linux-gnu" (info "riscv64gc" "riscv64" "unknown" "linux" "gnu" "") "riscv64-unknown-linux-gnu" (Some "riscv64-linux-gnu") [] ∷
    line "riscv64gc-unknown-none-elf" (info "riscv64gc" "riscv64" "unknown" "none" "" "") "riscv64" None ("riscv64-unknown-elf" ∷ "riscv32-unknown-elf" ∷ "riscv-none-embed" ∷ []) ∷
    line "riscv32imac-unknown-none-elf" (info "riscv32imac" "riscv32" "unknown" "none" "" "") "riscv32" None ("riscv32-unknown-elf" ∷ "riscv64-unknown-elf" ∷ "riscv-none-embed" ∷ []) ∷
    line "thumbv7em-none-eabihf" (info "thumbv7em" "arm" "unknown" "none" "" "eabihf") "thumbv7em-none-eabihf" (Some "arm-none-eabi") [] ∷
    line "armebv7r-none-eabihf" (info "armebv7r" "arm" "unknown" "none" "" "eabihf") "armebv7r-none-eabihf" (Some "arm-none-eabi") [] ∷
    line "aarch64-linux-android" (info "aarch64" "aarch64" "unknown" "android" "" "") "aarch64-linux-android" None [] ∷
    line "armv7-linux-androideabi" (info "armv7" "arm" "unknown" "android" "" "eabi") "armv7-none-linux-android" None [] ∷
    line "thumbv7neon-linux-androideabi" (info "thumbv7neon" "arm" "unknown" "android" "" "eabi") "armv7-none-linux-android" None [] ∷
    line "x86_64-unknown-freebsd" (info "x86_64" "x86_64" "unknown" "freebsd" "" "") "x86_64-unknown-freebsd" None [] ∷
    line "x86_64-unknown-openbsd" (info "x86_64" "x86_64" "unknown" "openbsd" "" "") "x86_64-unknown-openbsd" None [] ∷
    line "aarch64-unknown-netbsd" (info "aarch64" "aarch64" "unknown" "netbsd" "" "") "aarch64-unknown-netbsd" (Some "aarch64--netbsd") [] ∷
    line "x86_64-unknown-illumos" (info "x86_64" "x86_64" "unknown" "illumos" "" "") "x86_64-pc-solaris" None [] ∷
    line "wasm32-unknown-unknown" (info "wasm32" "wasm32" "unknown" "unknown" "" "") "wasm32-unknown-unknown" None [] ∷
    line "wasm32-unknown-emscripten" (info "wasm32" "wasm32" "unknown" "emscripten" "" "") "wasm32-unknown-emscripten" None [] ∷
    line "wasm32-wasip1" (info "wasm32" "wasm32" "unknown" "wasi" "p1" "") "wasm32-wasip1" None [] ∷
    line "wasm32-wali-linux-musl" (info "wasm32" "wasm32" "wali" "linux" "musl" "") "wasm32-wasi" None [] ∷
    line "x86_64-pc-windows-gnu" (info "x86_64" "x86_64" "pc" "windows" "gnu" "") "x86_64-pc-windows-gnu" (Some "x86_64-w64-mingw32") [] ∷
    line "aarch64-pc-windows-gnullvm" (info "aarch64" "aarch64" "pc" "windows" "gnu" "llvm") "aarch64-pc-windows-gnu" (Some "aarch64-w64-mingw32") [] ∷
    line "x86_64-pc-windows-msvc" (info "x86_64" "x86_64" "pc" "windows" "msvc" "") "x86_64-pc-windows-msvc" None [] ∷
    line "i686-pc-windows-msvc" (info "i686" "x86" "pc" "windows" "msvc" "") "i686-pc-windows-msvc" None [] ∷
    line "aarch64-pc-windows-msvc" (info "aarch64" "aarch64" "pc" "windows" "msvc" "") "aarch64-pc-windows-msvc" None [] ∷
    line "i686-pc-nto-qnx700" (info "i686" "x86" "pc" "nto" "nto70" "") "i586-pc-unknown" None [] ∷
    line "aarch64-unknown-nto-qnx710" (info "aarch64" "aarch64" "unknown" "nto" "nto71" "") "aarch64-unknown-unknown" None [] ∷
    []

-- the first line with the name
unfoldable pub line_of : List ℕ → Option Line
line_of name = find (λ l. bytes_eq l.name name) lines

-- the table has a line of the name
abbrev pub is_known : List ℕ → Bool
is_known name = is_some (line_of name)

-- the parts of a target's name
abbrev pub info_of : List ℕ → Option Info
info_of name = option_map (λ l. l.info) (line_of name)

-- the name that LLVM has for it
abbrev pub llvm_of : List ℕ → Option (List ℕ)
llvm_of name = option_map (λ l. l.llvm) (line_of name)

-- the fixed prefix of the GNU tools
abbrev pub prefix_of : List ℕ → Option (List ℕ)
prefix_of name = option_and_then (λ l. l.prefix) (line_of name)

-- the candidate at a place for that prefix
abbrev pub candidate_of : List ℕ → ℕ → Option (List ℕ)
candidate_of name place = option_and_then (λ l. slice_get l.candidates place) (line_of name)

-- the candidates for that prefix, in order
abbrev pub candidates_of : List ℕ → List (List ℕ)
candidates_of name = option_map_or (λ l. l.candidates) (line_of name) []

-- the architecture is one of Arm
abbrev pub is_arm : Info → Bool
is_arm i = bytes_eq i.arch (codes "aarch64") || bytes_eq i.arch (codes "arm64ec") || bytes_eq i.arch (codes "arm")

-- there are no candidates for the prefix of the GNU tools
abbrev pub has_no_candidates : Line → Bool
has_no_candidates l = nat_eq (length l.candidates) 0

-- the target is one of the Visual Studio tools
abbrev pub is_of_visual_studio : Line → Bool
is_of_visual_studio l = bytes_eq l.info.env (codes "msvc")

-- a fixed prefix leaves no candidates, and a target of the Visual Studio tools has neither
abbrev pub is_sound : Line → Bool
is_sound l = not ((is_some l.prefix || is_of_visual_studio l) && not (has_no_candidates l)) && not (is_of_visual_studio l && is_some l.prefix)

-- no name stands twice
abbrev pub are_apart : List Line → Bool
are_apart [] = true
are_apart (l ∷ ls) = not (list_any (λ m. bytes_eq m.name l.name) ls) && are_apart ls
