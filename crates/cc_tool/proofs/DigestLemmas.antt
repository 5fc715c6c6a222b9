-- A hash that goes on piece by piece.
use Rattle.std.proofs.Common.{◌≡◌, ℕ, List, [], ◌∷◌, ◌++◌, refl, sym, ap, ◌∙◌}
use Rattle.std.specs.List.{fold, flat_map}
use Rattle.std.proofs.lemmas.List.Sums.{fold-append}
use Rattle.cc_text.specs.Hash.{fnv1a, fnv1a_from, fnv1a_step}
use Rattle.cc_host.specs.declared.question.Question.{Question}
use Rattle.cc_tool.specs.Digest.{ended, ended_pair, question_bytes}

-- over the lists of some items, put together, as over one after another
over_all : {X : Type 0} (g : X → List ℕ) (n : ℕ) (xs : List X) → fnv1a_from n (flat_map g xs) ≡ fold (λ h x. fnv1a_from h (g x)) n xs
over_all g n [] = refl
over_all g n (x ∷ xs) = fold-append fnv1a_step n (g x) (flat_map g xs) ∙ over_all g (fnv1a_from n (g x)) xs

-- the hash of a question, by its program, its words and its variables
pub by_pieces : (q : Question) (start program words marked all : ℕ) → start ≡ fnv1a [] → program ≡ fnv1a_from start (ended q.program) → words ≡ fold (λ h word. fnv1a_from h (ended word)) program q.words → marked ≡ fnv1a_from words (0xfe ∷ []) → all ≡ fold (λ h pair. fnv1a_from h (ended_pair pair)) marked q.vars → all ≡ fnv1a (question_bytes q)
by_pieces q start program words marked all s p w m a =
    let vars = flat_map ended_pair q.vars in
    a ∙ sym (over_all ended_pair marked q.vars) ∙ ap (λ (n : ℕ). fnv1a_from n vars) m
    ∙ ap (λ (n : ℕ). fnv1a_from n (0xfe ∷ vars))
    (w ∙ sym (over_all ended program q.words) ∙ ap (λ (n : ℕ). fnv1a_from n (flat_map ended q.words)) (p ∙ ap (λ (n : ℕ). fnv1a_from n (ended q.program)) s)
    ∙ sym (fold-append fnv1a_step (fnv1a []) (ended q.program) (flat_map ended q.words)))
    ∙ sym (fold-append fnv1a_step (fnv1a []) (ended q.program ++ flat_map ended q.words) (0xfe ∷ vars))
