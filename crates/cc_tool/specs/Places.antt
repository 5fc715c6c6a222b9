-- The places of entries in a list, by the digests of their questions.
use Rattle.std.specs.Prelude.{◌≡◌, ℕ, ◌+◌, ◌==◌, Bool, true, false, List, [], ◌∷◌, ◌++◌, Option, None, Some}
use Rattle.cc_host.specs.Question.{Answer}
use Rattle.cc_tool.specs.Digest.{question_digest}

-- a list with an index is seen as its items
pub record Listed : Type 0 where
  pub items : List Answer

abbrev pub place_if : Bool → ℕ → List ℕ → List ℕ
place_if true k places = k ∷ places
place_if false k places = places

-- the ascending places of the entries with this digest, where the first entry stands at k
abbrev pub places_from : ℕ → ℕ → List Answer → List ℕ
places_from k digest [] = []
places_from k digest (a ∷ known) = place_if (question_digest a.0 == digest) k (places_from (k + 1) digest known)

-- none where there is no place
abbrev pub if_any : List ℕ → Option (List ℕ)
if_any [] = None
if_any places = Some places

-- the ascending places of the entries with this digest, and none exactly where there is none
abbrev pub bucket : ℕ → List Answer → Option (List ℕ)
bucket digest known = if_any (places_from 0 digest known)

-- one place more
abbrev pub with_place : Option (List ℕ) → ℕ → Option (List ℕ)
with_place None place = Some (place ∷ [])
with_place (Some places) place = Some (places ++ place ∷ [])

-- these buckets are those of the entries
abbrev pub IsIndexed : List Answer → (ℕ → Option (List ℕ)) → Type 0
IsIndexed known buckets = (digest : ℕ) → buckets digest ≡ bucket digest known
