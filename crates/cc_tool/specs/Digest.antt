-- The digest of a question.
use Rattle.std.specs.Prelude.{ℕ, List, [], ◌∷◌, ◌++◌}
use Rattle.std.specs.List.{flat_map}
use Rattle.cc_text.specs.Hash.{fnv1a}
use Rattle.cc_host.specs.declared.question.Question.{Question}

-- a text with the byte that ends it
abbrev pub ended : List ℕ → List ℕ
ended text = text ++ 0xff ∷ []

-- a variable: its name and its value
abbrev pub ended_pair : List ℕ × List ℕ → List ℕ
ended_pair pair = ended pair.0 ++ ended pair.1

-- the bytes of a question: its program, its words, and behind one more byte its variables
abbrev pub question_bytes : Question → List ℕ
question_bytes q = ended q.program ++ flat_map ended q.words ++ 0xfe ∷ flat_map ended_pair q.vars

-- the hash FNV-1a of these bytes
unfoldable pub question_digest : Question → ℕ
question_digest q = fnv1a (question_bytes q)
