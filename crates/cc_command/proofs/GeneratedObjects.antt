-- The objects of generated sources.
use Rattle.std.proofs.Common.{◌≡◌, ◌≢◌, ◌∙◌, refl, sym, ap, ℕ, zero, suc, ◌+◌, ◌/◌, ◌%◌, ◌^◌, ◌<◌, List, [], ◌∷◌, ◌++◌, length, drop, Some, None, unwrap_or, arith, codes, append_assoc, if◌then◌else◌, nat_lt, Bool, true, false}
use Rattle.std.proofs.Math.Seq.{drop-append-add}
use Rattle.std.proofs.lemmas.Fmt.{decimal_injective, decimal_is_IsNumeral}
use Rattle.std.proofs.lemmas.List.{append_cancel_right, length-append}
use Rattle.std.proofs.lemmas.Paths.{path_join_relative}
use Rattle.std.proofs.lemmas.Str.Parse.{digit_from_value}
use Rattle.std.specs.Fmt.{decimal}
use Rattle.std.specs.Path.{slash, path_file_name, IsRelative}
use Rattle.std.specs.Str.Parse.{AllDigits}
use Rattle.cc_text.specs.Hash.{fnv1a}
use Rattle.cc_text.specs.Hex.{hex_digit, hex_digits, hex16}
use Rattle.cc_text.specs.Paths.{with_extension}
use Rattle.cc_command.specs.Generated.{gen_source}
use Rattle.cc_flags.specs.Object.{hashed, object_name, object_path}
use Rattle.cc_plan.proofs.DottedPaths.{Free, free_both, free_at, dotted, name_is, extended_path}

digits_free : (ds : List ℕ) → AllDigits 10 ds → Free slash ds
digits_free [] d = tt
digits_free (c ∷ cs) d = ((λ e. omega (arith, digit_from_value c d.0, e)), digits_free cs d.1)

decimal_free : (n : ℕ) → n < 2 ^ 64 → Free slash (decimal n)
decimal_free n h = digits_free (decimal n) (decimal_is_IsNumeral n h).0.1

-- the name of a source but for its extension
abbrev stem : ℕ → List ℕ
stem i = codes "f" ++ decimal i

stem_free : (i : ℕ) → i < 2 ^ 64 → Free slash (stem i)
stem_free i h = ((λ e. omega (arith, e)), decimal_free i h)

pub source_name : (i : ℕ) → i < 2 ^ 64 → path_file_name (gen_source i) ≡ Some (stem i ++ codes ".c")
source_name i h = name_is (codes "src") (stem i) 99 (λ e. omega (arith, e)) (λ e. omega (arith, e)) (stem_free i h) (omega arith)

digit_other : (b : Bool) (d : ℕ) → (if b then 48 + d else 87 + d) ≢ slash
digit_other true d e = omega (arith, e)
digit_other false d e = omega (arith, e)

hex_free : (count n : ℕ) → Free slash (hex_digits count n)
unfolding hex_digits
hex_free zero n = tt
hex_free (suc count) n = free_both slash (hex_digits count (n / 16)) (hex_digit (n % 16) ∷ []) (hex_free count (n / 16)) (digit_other (nat_lt (n % 16) 10) (n % 16), tt)

hex_long : (count n : ℕ) → length (hex_digits count n) ≡ count
unfolding hex_digits
hex_long zero n = refl
hex_long (suc count) n = length-append (hex_digits count (n / 16)) (hex_digit (n % 16) ∷ []) ∙ ap (λ k. k + 1) (hex_long count (n / 16)) ∙ omega arith

-- the object's name but for its extension, where the hash of its source is this one
abbrev object_stem : ℕ → ℕ → List ℕ
object_stem hash i = hex16 hash ++ (codes "-" ++ stem i)

abbrev hash_of : ℕ → ℕ
hash_of i = fnv1a (hashed [] None (gen_source i))

hash_digits : (hash : ℕ) → length (hex16 hash) ≡ 16
unfolding hex16
hash_digits hash = hex_long 16 hash

hash_free : (hash : ℕ) → Free slash (hex16 hash)
unfolding hex16
hash_free hash = hex_free 16 hash

object_free : (hash i : ℕ) → i < 2 ^ 64 → Free slash (object_stem hash i)
object_free hash i h = free_both slash (hex16 hash) (codes "-" ++ stem i) (hash_free hash) ((λ e. omega (arith, e)), stem_free i h)

-- the object of a source
pub object_is : (i : ℕ) → i < 2 ^ 64 → object_path [] None (codes "/gen") (gen_source i) ≡ codes "/gen/" ++ (object_stem (hash_of i) i ++ codes ".o")
unfolding object_path object_name
object_is i h =
    let hash = hash_of i in
    let long : 1 < length (object_stem hash i) = omega (arith, length-append (hex16 hash) (codes "-" ++ stem i), hash_digits hash) in
    let name : hex16 hash ++ codes "-" ++ unwrap_or (path_file_name (gen_source i)) [] ≡ dotted (object_stem hash i) 99 =
    ap (λ n. hex16 hash ++ codes "-" ++ unwrap_or n []) (source_name i h) ∙ append_assoc (hex16 hash) (codes "-") (stem i ++ codes ".c")
    ∙ sym (append_assoc (hex16 hash) (codes "-" ++ stem i) (codes ".c")) in
    let free : Free slash (dotted (object_stem hash i) 99) = free_both slash (object_stem hash i) (codes ".c") (object_free hash i h) ((λ e. omega (arith, e)), ((λ e. omega (arith, e)), tt)) in
    let relative : IsRelative (dotted (object_stem hash i) 99) = free_at slash (dotted (object_stem hash i) 99) 0 free (omega (arith, length-append (object_stem hash i) (codes ".c"))) in
    rw name
    (ap (λ p. with_extension p (codes "o")) (path_join_relative (codes "/gen") (dotted (object_stem hash i) 99) relative)
    ∙ extended_path (codes "/gen") (object_stem hash i) 99 (λ e. omega (arith, e)) (λ e. omega (arith, e)) (object_free hash i h) (omega (arith, long)) (codes "o"))

-- two sources of one object have one number
pub object_injective : (i j : ℕ) → i < 2 ^ 64 → j < 2 ^ 64 → object_path [] None (codes "/gen") (gen_source i) ≡ object_path [] None (codes "/gen") (gen_source j) → i ≡ j
object_injective i j p q e =
    let same : codes "/gen/" ++ (object_stem (hash_of i) i ++ codes ".o") ≡ codes "/gen/" ++ (object_stem (hash_of j) j ++ codes ".o") = sym (object_is i p) ∙ e ∙ object_is j q in
    let behind : (hash k : ℕ) → drop 23 (codes "/gen/" ++ (object_stem hash k ++ codes ".o")) ≡ decimal k ++ codes ".o" = λ hash k.
    ap (drop 18) (append_assoc (hex16 hash) (codes "-" ++ stem k) (codes ".o"))
    ∙ ap (λ n. drop (n + 2) (hex16 hash ++ (codes "-" ++ stem k ++ codes ".o"))) (sym (hash_digits hash))
    ∙ drop-append-add (hex16 hash) (codes "-" ++ stem k ++ codes ".o") 2 in
    decimal_injective i j p q (append_cancel_right (decimal i) (decimal j) (codes ".o") (sym (behind (hash_of i) i) ∙ ap (drop 23) same ∙ behind (hash_of j) j))
