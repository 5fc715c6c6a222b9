-- Lines that are printed as answers of the program, one after another.
use Rattle.std.proofs.Common.{◌≡◌, ◌⊎◌, ◌∙◌, refl, sym, ap, subst, ℕ, suc, ◌+◌, ◌<◌, ◌≤◌, List, [], ◌∷◌, ◌++◌, length, take, drop, get_or, None, Result, Ok, Err, add-one, append-nil, take_all}
use Rattle.std.proofs.lemmas.Grind.{take_at_read}
use Rattle.std.proofs.lemmas.List.{map-append, take-append-drop}
use Rattle.std.proofs.Math.Seq.{drop-cons}
use Rattle.cc_host.specs.Event.{refused, IsCaused}
use Rattle.cc_host.specs.Part.{since}
use Rattle.cc_host.specs.Part.Step.{Prints}
use Rattle.cc_host.specs.declared.event.Event.{Event}
use Rattle.cc_host.specs.declared.event.HostCall.TheVariants.{Print}
use Rattle.cc_host.specs.declared.event.HostError.{HostError}
use Rattle.cc_host.specs.declared.event.LineKind.{LineKind}
use Rattle.cc_host.specs.declared.event.LineKind.TheVariants.{Shown}
use Rattle.cc_host.proofs.Parts.{since_since}
use Rattle.cc_build.specs.Course.{CallsEnd}
use Rattle.cc_build.specs.Error.{ErrorSeen, no_memory}
use Rattle.cc_build.specs.Stage.{Stage, calls}
use Rattle.cc_build.specs.Stage.Stage.{Calls}
use Rattle.cc_build.specs.Stop.{host_error}
use Rattle.cc_build.specs.Went.{Terms, Means, Went, Halted}
use Rattle.cc_build.proofs.Going.{went_then, halted_more, halted_then, halted_none, refused_call, fault_of, part_is}
use Rattle.cc_command.specs.Lines.{shows}
use Rattle.cc_command.specs.Summary.{log_lines, SumsUp}

-- these lines were printed, whatever the terms and the means
abbrev pub ShownSo : List (List ℕ) → List Event → Type 0
ShownSo lines part = (t : Terms) (x : Means) → Went t (calls (shows lines)) part x x

-- the host refused a line
pub unshown : (t : Terms) (kind : LineKind) (line : List ℕ) (error : HostError) (part : List Event) (e : ErrorSeen) (before now : ℕ) (x : Means) → part ≡ refused error → IsCaused Print before now error → (e ≡ no_memory) ⊎ (e ≡ host_error error []) → Halted t None (Calls (Prints kind line) ∷ []) part e x x
unshown t kind line error part e before now x one caused is =
    refused_call t (Prints kind line) error [] part e x one (fault_of (Prints kind line) Print before now error (λ _ _ same. same) caused) (λ _ _. refl) is

stages_of : (a b : List (List ℕ)) → calls (shows (a ++ b)) ≡ calls (shows a) ++ calls (shows b)
stages_of a b = ap calls (map-append (Prints Shown) a b) ∙ map-append Calls (shows a) (shows b)

module _ (lines : List (List ℕ)) (i : ℕ) (line : List ℕ) (within : i < length lines) (is : line ≡ get_or lines i line) where
  next_line : calls (shows (take (i + 1) lines)) ≡ calls (shows (take i lines)) ++ Calls (Prints Shown line) ∷ []
  next_line =
      let more : take (i + 1) lines ≡ take i lines ++ line ∷ [] = (take_at_read lines i line within).1 ∙ ap (λ r. take i lines ++ r ∷ []) (sym is) in
      ap (λ l. calls (shows l)) more ∙ stages_of (take i lines) (line ∷ [])

  around_line : calls (shows lines) ≡ calls (shows (take i lines)) ++ ((Calls (Prints Shown line) ∷ []) ++ calls (shows (drop (i + 1) lines)))
  around_line =
      let rest : drop i lines ≡ line ∷ drop (i + 1) lines = drop-cons lines i line within ∙ ap (λ r. r ∷ drop (suc i) lines) (sym is) ∙ ap (λ n. line ∷ drop n lines) (sym (add-one i)) in
      ap (λ l. calls (shows l)) (sym (take-append-drop i lines)) ∙ stages_of (take i lines) (drop i lines) ∙ ap (λ l. calls (shows (take i lines)) ++ calls (shows l)) rest

  module _ (old mid new : List Event) (first : mid ≡ old ++ since old mid) (last : new ≡ mid ++ since mid new) (so : ShownSo (take i lines) (since old mid)) where
    -- the lines so far were printed, and one more
    pub shown_more : CallsEnd {T = Unit {0}} (Prints Shown line ∷ []) (since mid new) (Ok tt) → ShownSo (take (i + 1) lines) (since old new)
    shown_more one t x =
        subst (λ (part : List Event). Went t (calls (shows (take (i + 1) lines))) part x x) (sym (since_since old mid new first last))
        (subst (λ (l : List Stage). Went t l (since old mid ++ since mid new) x x) (sym next_line) (went_then t (calls (shows (take i lines))) (Calls (Prints Shown line) ∷ []) (since old mid) (since mid new) x x x (so t x) (one t x).1))

    -- the lines so far were printed, and the next was refused
    pub shown_refused : (e : ErrorSeen) → CallsEnd {T = Unit {0}} (Prints Shown line ∷ []) (since mid new) (Err e) → CallsEnd {T = Unit {0}} (shows lines) (since old new) (Err e)
    shown_refused e stop t x =
        subst (λ (part : List Event). Halted t None (calls (shows lines)) part e x x) (sym (since_since old mid new first last))
        (subst (λ (l : List Stage). Halted t None l (since old mid ++ since mid new) e x x) (sym around_line)
        (halted_then t None (calls (shows (take i lines))) ((Calls (Prints Shown line) ∷ []) ++ calls (shows (drop (i + 1) lines))) (since old mid) (since mid new) e x x x (so t x) (halted_more t None (Calls (Prints Shown line) ∷ []) (calls (shows (drop (i + 1) lines))) (since mid new) e x x (stop t x))))

-- before the first line nothing was printed
pub shown_none : (xs : List (List ℕ)) (log : List Event) → ShownSo (take 0 xs) (since log log)
shown_none xs log t x = (part_is log log [] (sym (append-nil log)), refl)

-- behind the last one all were
pub shown_all : (lines : List (List ℕ)) (i : ℕ) (part : List Event) → length lines ≤ i → ShownSo (take i lines) part → CallsEnd {T = Unit {0}} (shows lines) part (Ok tt)
shown_all lines i part over so t x = (refl, subst (λ (l : List (List ℕ)). Went t (calls (shows l)) part x x) (take_all i lines over) (so t x))

-- memory for the lines was wanted
pub unsummed : (count : ℕ) (log part : List Event) (e : ErrorSeen) → part ≡ [] → e ≡ no_memory → CallsEnd {T = Unit {0}} (shows (log_lines count log)) part (Err e)
unfolding log_lines
unsummed count log part e none memory t x = halted_none t None (calls (shows (log_lines count log))) part e x none memory (λ empty. absurd (cc))

-- the same of other lines, if there is one
pub unmade : (lines : List (List ℕ)) (part : List Event) (e : ErrorSeen) → (lines ≡ [] → ⊥) → part ≡ [] → e ≡ no_memory → CallsEnd {T = Unit {0}} (shows lines) part (Err e)
unmade [] part e some none memory t x = absurd (some refl)
unmade (line ∷ lines) part e some none memory t x = halted_none t None (calls (shows (line ∷ lines))) part e x none memory (λ empty. absurd (cc))

-- a run that is done was summed up
pub sums_done : (lines : List (List ℕ)) (run : Result (Unit {0}) ErrorSeen) (part : List Event) (result : Result (Unit {0}) ErrorSeen) → run ≡ Ok tt → CallsEnd (shows lines) part result → SumsUp lines run part result
sums_done lines (Ok done) part result is ends = ends
sums_done lines (Err e) part result is ends = absurd (cc)

-- the error of another was kept
pub sums_kept : (lines : List (List ℕ)) (run : Result (Unit {0}) ErrorSeen) (part : List Event) (e : ErrorSeen) → run ≡ Err e → part ≡ [] → SumsUp lines run part (Err e)
sums_kept lines (Ok done) part e is none = absurd (cc)
sums_kept lines (Err f) part e is none = (sym is, none)
