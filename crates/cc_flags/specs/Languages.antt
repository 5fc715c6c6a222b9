-- What the two languages call their variables and compilers.
use Rattle.std.specs.Prelude.{ℕ, Bool, List, codes, if◌then◌else◌}

-- the variable that names the compiler
abbrev pub compiler_variable : Bool → List ℕ
compiler_variable cpp = if cpp then codes "CXX" else codes "CC"

-- GCC
abbrev pub gnu_name : Bool → List ℕ
gnu_name cpp = if cpp then codes "g++" else codes "gcc"

-- the compiler of the system, whichever it is
abbrev pub traditional_name : Bool → List ℕ
traditional_name cpp = if cpp then codes "c++" else codes "cc"

-- Clang
abbrev pub clang_name : Bool → List ℕ
clang_name cpp = if cpp then codes "clang++" else codes "clang"

-- Emscripten
abbrev pub emscripten_name : Bool → List ℕ
emscripten_name cpp = if cpp then codes "em++" else codes "emcc"

-- the compiler of VxWorks
abbrev pub vxworks_name : Bool → List ℕ
vxworks_name cpp = if cpp then codes "wr-c++" else codes "wr-cc"

-- the compiler of QNX
abbrev pub qnx_name : Bool → List ℕ
qnx_name cpp = if cpp then codes "q++" else codes "qcc"
