use Rattle.std.proofs.Common.{◌≡◌, List, ℕ, [], ◌∷◌, ◌++◌, sym, ap, ◌∙◌, append_assoc, append-nil}
use Rattle.cc_text.specs.Pieces.{ascii_words}
use Rattle.cc_text.proofs.PiecesLemmas.{next_word, no_word}
use Rattle.cc_text.proofs.pieces.ascii_words.Goals as goal

-- the words so far, and those of the rest, after one word more
more : (words after all : List (List ℕ)) (word bs rest : List ℕ) → after ≡ words ++ word ∷ [] → ascii_words bs ≡ word ∷ ascii_words rest → words ++ ascii_words bs ≡ all → after ++ ascii_words rest ≡ all
more words after all word bs rest e n h = ap (λ t. t ++ ascii_words rest) e ∙ append_assoc words (word ∷ []) (ascii_words rest) ∙ ap (λ t. words ++ t) (sym n) ∙ h

pub loop-word-preserved : goal.loop-word-preserved
loop-word-preserved c = more _ _ _ _ _ _ c.in_ok-push.ensures.ok (next_word _ _ _ _ c.in-Some.is c.next.ensures.steps) c.loop-word.invariant

pub returns : goal.returns
returns c = sym (append-nil _) ∙ ap (λ t. c.loop-word.words ++ t) (sym (no_word _ _ _ c.in-None.is c.next.ensures.steps)) ∙ c.loop-word.invariant
