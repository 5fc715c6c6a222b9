-- Two questions are equal exactly where what is asked, program, words and variables are.
use Rattle.std.proofs.Common.{◌≡◌, ◌↔◌, ◌&&◌, ℕ, List, Bool, true, IsTrue, bytes_eq, ap, ◌∙◌, sym}
use Rattle.std.proofs.lemmas.Bool.{and_parts, and_from}
use Rattle.std.proofs.lemmas.Slice.Eq.{bytes_eq-Decides}
use Rattle.cc_text.specs.Words.{same_words}
use Rattle.cc_text.specs.Vars.{same_vars}
use Rattle.cc_text.proofs.EqualityLemmas.{same_words-Decides, same_vars-Decides}
use Rattle.cc_host.specs.declared.question.Ask.{Ask}
use Rattle.cc_host.specs.declared.question.Question.{Question}

abbrev question : Ask → List ℕ → List (List ℕ) → List (List ℕ × List ℕ) → Question
question ask program words vars = record { ask = ask; program = program; words = words; vars = vars }

pub same_question : (a b : Question) (r ask program words vars : Bool) → IsTrue ask ↔ a.ask ≡ b.ask → program ≡ bytes_eq a.program b.program → words ≡ same_words a.words b.words → vars ≡ same_vars a.vars b.vars → r ≡ (ask && program && words && vars) → IsTrue r ↔ a ≡ b
same_question a b r ask program words vars e p w v all = (
  λ h.
      let three = and_parts (ask && program && words) vars (sym all ∙ h) in
      let two = and_parts (ask && program) words three.0 in
      let one = and_parts ask program two.0 in
      let asks : a.ask ≡ b.ask = e.0 one.0 in
      let programs : a.program ≡ b.program = (bytes_eq-Decides a.program b.program).0 (sym p ∙ one.1) in
      let wordss : a.words ≡ b.words = (same_words-Decides a.words b.words).0 (sym w ∙ two.1) in
      let varss : a.vars ≡ b.vars = (same_vars-Decides a.vars b.vars).0 (sym v ∙ three.1) in
      ap (λ x. question x a.program a.words a.vars) asks ∙ ap (λ x. question b.ask x a.words a.vars) programs ∙ ap (λ x. question b.ask b.program x a.vars) wordss ∙ ap (question b.ask b.program b.words) varss,
  λ h.
      let asks : ask ≡ true = e.1 (ap (λ (q : Question). q.ask) h) in
      let programs : program ≡ true = p ∙ (bytes_eq-Decides a.program b.program).1 (ap (λ (q : Question). q.program) h) in
      let wordss : words ≡ true = w ∙ (same_words-Decides a.words b.words).1 (ap (λ (q : Question). q.words) h) in
      let varss : vars ≡ true = v ∙ (same_vars-Decides a.vars b.vars).1 (ap (λ (q : Question). q.vars) h) in
      all ∙ and_from _ _ (and_from _ _ (and_from _ _ asks programs) wordss) varss,
)
