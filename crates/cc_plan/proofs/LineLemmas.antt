-- Lines printed one after another, and parts behind each other.
use Rattle.std.proofs.Common.{◌≡◌, false, ℕ, suc, ◌+◌, ◌<◌, List, [], ◌∷◌, ◌++◌, length, take, drop, get_or, refl, sym, ◌∙◌, ap, add-one}
use Rattle.std.proofs.Math.Seq.{drop-cons}
use Rattle.std.specs.List.{list_any}
use Rattle.std.proofs.lemmas.Bool.{or_from}
use Rattle.std.proofs.lemmas.Grind.{take_at_read}
use Rattle.std.proofs.lemmas.List.{take-append-drop}
use Rattle.std.proofs.lemmas.List.Folds.{list_any-append}
use Rattle.cc_host.specs.Part.{since}
use Rattle.cc_host.specs.Part.Step.{Prints}
use Rattle.cc_host.proofs.Parts.{since_since, since_append}
use Rattle.cc_host.specs.declared.event.Event.{Event}
use Rattle.cc_host.specs.declared.event.LineKind.{LineKind}
use Rattle.cc_plan.specs.Link.{printed_line}
use Rattle.cc_plan.specs.Plan.{prints}
use Rattle.cc_plan.specs.Asking.{is_of_children}

-- one event more, behind a part
pub part_more : (old mid new : List Event) (event : Event) → mid ≡ old ++ since old mid → new ≡ mid ++ event ∷ [] → since old new ≡ since old mid ++ event ∷ []
part_more old mid new event e f =
    let one : since mid new ≡ event ∷ [] = ap (λ l. since mid l) f ∙ since_append mid (event ∷ []) in
    let g : new ≡ mid ++ since mid new = f ∙ ap (λ l. mid ++ l) (sym one) in
    since_since old mid new e g ∙ ap (λ l. since old mid ++ l) one

pub since_none : (log : List Event) → since log log ≡ []
since_none [] = refl
since_none (e ∷ log) = since_none log

pub no_lines : (kind : LineKind) → prints kind [] ≡ []
unfolding prints
no_lines kind = refl

prints_both : (kind : LineKind) (xs ys : List (List ℕ)) → prints kind (xs ++ ys) ≡ prints kind xs ++ prints kind ys
unfolding prints
prints_both kind [] ys = refl
prints_both kind (x ∷ xs) ys = ap (λ l. Prints kind (printed_line x) ∷ l) (prints_both kind xs ys)

one_line : (kind : LineKind) (line : List ℕ) → prints kind (line ∷ []) ≡ Prints kind (printed_line line) ∷ []
unfolding prints
one_line kind line = refl

pub next_line : (kind : LineKind) (lines : List (List ℕ)) (i : ℕ) (line : List ℕ) → i < length lines → line ≡ get_or lines i line → prints kind (take (i + 1) lines) ≡ prints kind (take i lines) ++ Prints kind (printed_line line) ∷ []
next_line kind lines i line within is =
    let more : take (i + 1) lines ≡ take i lines ++ line ∷ [] = (take_at_read lines i line within).1 ∙ ap (λ s. take i lines ++ s ∷ []) (sym is) in
    ap (prints kind) more ∙ prints_both kind (take i lines) (line ∷ []) ∙ ap (λ l. prints kind (take i lines) ++ l) (one_line kind line)

pub around_line : (kind : LineKind) (lines : List (List ℕ)) (i : ℕ) (line : List ℕ) → i < length lines → line ≡ get_or lines i line → prints kind lines ≡ prints kind (take i lines) ++ ((Prints kind (printed_line line) ∷ []) ++ prints kind (drop (i + 1) lines))
around_line kind lines i line within is =
    let rest : drop i lines ≡ line ∷ drop (i + 1) lines = drop-cons lines i line within ∙ ap (λ s. s ∷ drop (suc i) lines) (sym is) ∙ ap (λ n. line ∷ drop n lines) (sym (add-one i)) in
    ap (prints kind) (sym (take-append-drop i lines)) ∙ prints_both kind (take i lines) (drop i lines)
    ∙ ap (λ l. prints kind (take i lines) ++ prints kind l) rest
    ∙ ap (λ l. prints kind (take i lines) ++ l) (prints_both kind (line ∷ []) (drop (i + 1) lines) ∙ ap (λ l. l ++ prints kind (drop (i + 1) lines)) (one_line kind line))

-- nor do two parts that do nothing with children
pub childless_since : (old mid new : List Event) → mid ≡ old ++ since old mid → new ≡ mid ++ since mid new → list_any is_of_children (since old mid) ≡ false → list_any is_of_children (since mid new) ≡ false → list_any is_of_children (since old new) ≡ false
childless_since old mid new e f h k =
    ap (list_any is_of_children) (since_since old mid new e f) ∙ list_any-append is_of_children (since old mid) (since mid new) ∙ or_from (list_any is_of_children (since old mid)) (list_any is_of_children (since mid new)) h k
