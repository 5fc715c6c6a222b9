-- FNV-1a of 64 bits.
use Rattle.std.specs.Prelude.{ℕ, ◌*◌, ◌%◌, ◌^◌, List, fold, bit_xor}

-- the hash of one byte more
unfoldable pub fnv1a_step : ℕ → ℕ → ℕ
fnv1a_step hash byte = bit_xor hash byte * 0x100000001b3 % 2 ^ 64

-- the hash of the bytes, from a start
abbrev pub fnv1a_from : ℕ → List ℕ → ℕ
fnv1a_from start bytes = fold fnv1a_step start bytes

-- the hash of the bytes
abbrev pub fnv1a : List ℕ → ℕ
fnv1a bytes = fnv1a_from 0xcbf29ce484222325 bytes
