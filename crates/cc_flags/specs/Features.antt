-- The features of x86, by rustc's name and by that of GCC and Clang.
use Rattle.std.specs.Prelude.{ℕ, Bool, List, [], ◌∷◌, ◌++◌, Option, Some, None, codes, bytes_eq, find, option_map, option_and_then, ◌||◌, if◌then◌else◌}
use Rattle.std.specs.Option.{option_map_or}
use Rattle.std.specs.Borrow.{Bor}
use Prim.Native.String.{String}
use Rattle.cc_text.specs.Cuts.{after_prefix}
use Rattle.cc_flags.specs.Pairs.{is}

-- a pair of names, as the code has it
abbrev pub feature_seen : Bor (List ℕ) × Bor (List ℕ) → List ℕ × List ℕ
feature_seen f = (f.0.now, f.1.now)

-- a feature that has one name
abbrev pub same : String → List ℕ × List ℕ
same name = (codes name, codes name)

-- a feature that has two
abbrev pub renamed : String → String → List ℕ × List ℕ
renamed rust c = (codes rust, codes c)

unfoldable pub features : List (List ℕ × List ℕ)
features =
    same "adx" ∷
    same "aes" ∷
    same "avx" ∷
    same "avx2" ∷
    same "avx512bf16" ∷
    same "avx512bitalg" ∷
    same "avx512bw" ∷
    same "avx512cd" ∷
    same "avx512dq" ∷
    same "avx512f" ∷
    same "avx512fp16" ∷
    same "avx512ifma" ∷
    same "avx512vbmi" ∷
    same "avx512vbmi2" ∷
    same "avx512vl" ∷
    same "avx512vnni" ∷
    same "avx512vpopcntdq" ∷
    same "avxvnni" ∷
    same "bmi2" ∷
    same "f16c" ∷
    same "fma" ∷
    same "fxsr" ∷
    same "gfni" ∷
    same "lzcnt" ∷
    same "movbe" ∷
    same "popcnt" ∷
    same "rdseed" ∷
    same "sha" ∷
    same "sse3" ∷
    same "sse4.1" ∷
    same "sse4.2" ∷
    same "sse4a" ∷
    same "ssse3" ∷
    same "vaes" ∷
    same "vpclmulqdq" ∷
    same "xsave" ∷
    same "xsavec" ∷
    same "xsaveopt" ∷
    same "xsaves" ∷
    renamed "bmi1" "bmi" ∷
    renamed "cmpxchg16b" "cx16" ∷
    renamed "pclmulqdq" "pclmul" ∷
    renamed "rdrand" "rdrnd" ∷
    []

-- the names of a feature, by rustc's
unfoldable pub feature_of : List ℕ → Option (List ℕ × List ℕ)
feature_of name = find (λ f. bytes_eq f.0 name) features

-- the name that GCC and Clang have for it
abbrev pub c_name : List ℕ → Option (List ℕ)
c_name name = option_map (λ f. f.1) (feature_of name)

-- what begins the word of a feature, by its sign (`+` or `-`), and its name
unfoldable pub signed : List ℕ → Option (List ℕ × List ℕ)
signed feature =
    option_map_or (λ name. Some (codes "-m", name)) (after_prefix feature (codes "+"))
    (option_map (λ name. (codes "-mno-", name)) (after_prefix feature (codes "-")))

unfoldable pub is_x86 : List ℕ → Bool
is_x86 arch = is arch "x86" || is arch "x86_64"

-- the word of a feature
unfoldable pub feature_word : List ℕ → List ℕ → Option (List ℕ)
feature_word arch feature =
    if is_x86 arch then option_and_then (λ s. option_map (λ name. s.0 ++ name) (c_name s.1)) (signed feature) else None
