-- Names that are chosen one after another, and the lines for Cargo that a run prints.
use Rattle.std.proofs.Common.{◌≡◌, ap₂, true, ℕ, zero, suc, ◌+◌, ◌<◌, Bool, List, [], ◌∷◌, ◌++◌, length, take, slice_index_or, refl, sym, ap, ◌∙◌, add-one, append_assoc, append-nil, arith}
use Rattle.std.proofs.lemmas.List.{map-append}
use Rattle.cc_text.specs.Words.{when}
use Rattle.cc_host.specs.declared.event.LineKind.TheVariants.{Link, Rerun}
use Rattle.cc_plan.specs.Link.{printed_links}
use Rattle.cc_plan.specs.Plan.{prints}
use Rattle.cc_flags.specs.declared.link_line.LinkLine.{LinkLine}
use Rattle.cc_flags.specs.declared.settings.BuildConfig.{BuildConfig}
use Rattle.cc_build.specs.Questions.{AreFirst}
use Rattle.cc_build.specs.Stage.{Stage, calls, said_steps, rerun_lines}
use Rattle.cc_build.specs.Stage.Stage.{Calls}
use Rattle.cc_build.specs.Way.{AreFirsts, Firsts, chosen}
use Rattle.cc_build.specs.declared.directives.Lines.{Lines}

chosen_then : (choices : List Bool) (names : List (List ℕ)) (is_new : Bool) (name : List ℕ) → length choices ≡ length names → chosen (choices ++ is_new ∷ []) (names ++ name ∷ []) ≡ chosen choices names ++ when is_new (name ∷ [])
chosen_then [] [] is_new name e = append-nil (when is_new (name ∷ []))
chosen_then [] (n ∷ names) is_new name e = absurd (omega arith)
chosen_then (c ∷ choices) [] is_new name e = absurd (omega arith)
chosen_then (c ∷ choices) (n ∷ names) is_new name e =
    ap (λ (l : List (List ℕ)). when c (n ∷ []) ++ l) (chosen_then choices names is_new name (omega (arith, e))) ∙ sym (append_assoc (when c (n ∷ [])) (chosen choices names) (when is_new (name ∷ [])))

one_more : (choices : List Bool) (i : ℕ) (is_new : Bool) → length choices ≡ i → length (choices ++ is_new ∷ []) ≡ suc i
one_more [] i is_new e = ap suc e
one_more (c ∷ choices) zero is_new e = absurd (omega (arith, e))
one_more (c ∷ choices) (suc i) is_new e = ap suc (one_more choices i is_new (omega (arith, e)))

taken_more : (names : List (List ℕ)) (i : ℕ) (name : List ℕ) → i < length names → name ≡ slice_index_or names i name → (take (suc i) names ≡ take i names ++ name ∷ []) × (length (take i names) ≡ i)
taken_more [] i name l e = absurd (omega arith)
taken_more (n ∷ names) zero name l e = (ap (λ (m : List ℕ). m ∷ []) (sym e), refl)
taken_more (n ∷ names) (suc i) name l e = let rest = taken_more names i name (omega arith) e in (ap (λ (m : List (List ℕ)). n ∷ m) rest.0, ap suc rest.1)

next_chosen : (choices : List Bool) (names printed : List (List ℕ)) (i : ℕ) (is_new : Bool) (name : List ℕ) → i < length names → name ≡ slice_index_or names i name → length choices ≡ i → printed ≡ chosen choices (take i names) → (more : List Bool) × ((length more ≡ suc i) × (printed ++ when is_new (name ∷ []) ≡ chosen more (take (suc i) names)))
next_chosen choices names printed i is_new name l e counted so =
    let t = taken_more names i name l e in
    let next : chosen (choices ++ is_new ∷ []) (take i names ++ name ∷ []) ≡ chosen choices (take i names) ++ when is_new (name ∷ []) = chosen_then choices (take i names) is_new name (counted ∙ sym t.1) in
    (choices ++ is_new ∷ [], (one_more choices i is_new counted, ap (λ (m : List (List ℕ)). m ++ when is_new (name ∷ [])) so ∙ sym next ∙ ap (chosen (choices ++ is_new ∷ [])) (sym t.0)))

-- the next name is printed, or left out
pub chosen_more : (choices : List Bool) (names printed : List (List ℕ)) (i : ℕ) (is_new : Bool) (name : List ℕ) → i < length names → name ≡ slice_index_or names i name → length choices ≡ i → printed ≡ chosen choices (take i names) → (more : List Bool) × ((length more ≡ i + 1) × (printed ++ when is_new (name ∷ []) ≡ chosen more (take (i + 1) names)))
chosen_more choices names printed i is_new name l e counted so = rw add-one (next_chosen choices names printed i is_new name l e counted so)

abbrev firsts_of : Bool → List Bool → Firsts
firsts_of links names = record { links = links; names = names }

-- these stages print the first ones
pub are_first : (set : BuildConfig) (listens : Bool) (lines : Lines) (is_first : Bool) (names : List (List ℕ)) (links : List LinkLine) (stages : List Stage) → (set.repeat_lines ≡ true → is_first ≡ true) → AreFirsts set lines.names names → links ≡ lines.links.lines.items
    → stages ≡ (calls (said_steps listens lines.links.warnings) ++ calls (prints Link (printed_links is_first links))) ++ calls (prints Rerun (rerun_lines names)) → AreFirst set listens lines stages
are_first set listens lines is_first names links stages all some same are =
    let said = said_steps listens lines.links.warnings in
    let printed = prints Link (printed_links is_first lines.links.lines.items) in
    let told = prints Rerun (rerun_lines (chosen some.0 lines.names)) in (
      firsts_of is_first some.0,
      (
        (λ repeats. ap₂ firsts_of (all repeats) (some.1.0 repeats)),
        are
            ∙ ap (λ (l : List LinkLine). (calls said ++ calls (prints Link (printed_links is_first l))) ++ calls (prints Rerun (rerun_lines names))) same
            ∙ ap (λ (n : List (List ℕ)). (calls said ++ calls printed) ++ calls (prints Rerun (rerun_lines n))) some.1.1
            ∙ append_assoc (calls said) (calls printed) (calls told)
            ∙ ap (λ (l : List Stage). calls said ++ l) (sym (map-append Calls printed told))
            ∙ sym (map-append Calls said (printed ++ told)),
      ),
    )
