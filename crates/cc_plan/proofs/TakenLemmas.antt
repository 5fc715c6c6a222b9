-- Flags that are asked about, and those that are taken.
use Rattle.std.proofs.Common.{◌≡◌, ℕ, List, [], ◌∷◌, ◌++◌, map, drop, refl, sym, ap, ◌∙◌, append-nil}
use Rattle.cc_host.specs.declared.question.Verdict.{Verdict}
use Rattle.cc_tool.specs.Plans.{ArePlain}
use Rattle.cc_flags.specs.Compilation.{CompilationSeen}
use Rattle.cc_plan.specs.Support.{flag_question, taken}

-- none of the questions on flags is for a file
pub flags_plain : (c : CompilationSeen) (flags : List (List ℕ)) → ArePlain (map (flag_question c) flags)
flags_plain c [] = tt
flags_plain c (flag ∷ flags) = (refl, flags_plain c flags)

none : (flags : List (List ℕ)) → taken flags [] ≡ []
none [] = refl
none (f ∷ flags) = refl

-- no more verdicts
pub taken_all : (before all : List (List ℕ)) (flags : List (List ℕ)) (verdicts : List Verdict) (i : ℕ) → drop i verdicts ≡ [] → before ++ taken (drop i flags) (drop i verdicts) ≡ all → before ≡ all
taken_all before all flags verdicts i e h = sym (append-nil before) ∙ ap (λ x. before ++ x) (sym (ap (taken (drop i flags)) e ∙ none (drop i flags))) ∙ h

-- no more flags
pub taken_behind : (before all : List (List ℕ)) (flags : List (List ℕ)) (verdicts : List Verdict) (i : ℕ) → drop i flags ≡ [] → before ++ taken (drop i flags) (drop i verdicts) ≡ all → before ≡ all
taken_behind before all flags verdicts i e h = sym (append-nil before) ∙ ap (λ x. before ++ x) (sym (ap (λ f. taken f (drop i verdicts)) e)) ∙ h
