-- The lines of the members of a fleet that were refused, one after another.
use Rattle.std.proofs.Common.{◌≡◌, ℕ, zero, suc, ◌+◌, ◌<◌, ◌≤◌, List, [], ◌∷◌, ◌++◌, length, map, flat_map, take, drop, get_or, Option, Some, None, refl, sym, ◌∙◌, ap, subst, append_assoc, append-nil, take-append-drop, take_all, arith}
use Rattle.std.specs.List.{slice_get}
use Rattle.std.proofs.lemmas.Grind.{take_at_read}
use Rattle.cc_host.specs.Part.{since}
use Rattle.cc_host.specs.declared.event.Event.{Event}
use Rattle.cc_host.proofs.Parts.{since_since, since_append}
use Rattle.cc_tool.specs.Asked.{question_events}
use Rattle.cc_build.specs.Error.{ErrorSeen}
use Rattle.cc_fleet.specs.declared.members.FleetEnd.{FleetEnd}
use Rattle.cc_command.specs.Answer.{PrintsLine, error_line, ended_refused}
use Rattle.cc_command.specs.Database.{optional}
use Rattle.cc_command.specs.Fleets.{ended_fleet, refused_error, refusals, PrintsEach, PrintsSome}
use Rattle.cc_command.specs.declared.ended.Ended.{Ended}

-- one line more
each_more : (es : List ErrorSeen) (e : ErrorSeen) (a b : List Event) → PrintsEach es a → PrintsLine (error_line e) b → PrintsEach (es ++ e ∷ []) (a ++ b)
each_more [] e a b h line = (b, [], (ap (λ l. l ++ b) h ∙ sym (append-nil b), line, refl))
each_more (x ∷ es) e a b h line = (h.0, h.1 ++ b, (ap (λ l. l ++ b) h.2.0 ∙ append_assoc h.0 h.1 b, h.2.1, each_more es e h.1 b h.2.2 line))

pub printed_none : (errors : List ErrorSeen) (log : List Event) → PrintsEach (take 0 errors) (since log log)
printed_none errors log = ap (since log) (sym (append-nil log)) ∙ since_append log []

pub printed_more : (errors : List ErrorSeen) (i : ℕ) (error : ErrorSeen) → i < length errors → error ≡ get_or errors i error → (old mid new : List Event) → mid ≡ old ++ since old mid → new ≡ mid ++ since mid new → PrintsEach (take i errors) (since old mid) → PrintsLine (error_line error) (since mid new) → PrintsEach (take (i + 1) errors) (since old new)
printed_more errors i error within is old mid new extends more before line =
    let next : take (i + 1) errors ≡ take i errors ++ error ∷ [] = (take_at_read errors i error within).1 ∙ ap (λ e. take i errors ++ e ∷ []) (sym is) in
    subst (λ l. PrintsEach l (since old new)) (sym next) (subst (PrintsEach (take i errors ++ error ∷ [])) (sym (since_since old mid new extends more)) (each_more (take i errors) error (since old mid) (since mid new) before line))

-- memory for the next one was wanted
pub printed_some : (errors : List ErrorSeen) (i : ℕ) (old mid new : List Event) → mid ≡ old ++ since old mid → new ≡ mid ++ since mid new → PrintsEach (take i errors) (since old mid) → since mid new ≡ [] → PrintsSome errors (since old new)
printed_some errors i old mid new extends more before none = (
  take i errors,
  drop i errors,
  (sym (take-append-drop i errors), subst (PrintsEach (take i errors)) (sym (since_since old mid new extends more ∙ ap (λ l. since old mid ++ l) none ∙ append-nil (since old mid))) before),
)

pub printed_all : (errors : List ErrorSeen) (i : ℕ) (part : List Event) → length errors ≤ i → PrintsEach (take i errors) part → PrintsEach errors part
printed_all errors i part whole before = subst (λ l. PrintsEach l part) (take_all i errors whole) before

-- all of them are some of them
pub all_some : (errors : List ErrorSeen) (part : List Event) → PrintsEach errors part → PrintsSome errors part
all_some errors part h = (errors, [], (sym (append-nil errors), h))

none_some : (errors : List ErrorSeen) → PrintsSome errors []
none_some errors = ([], errors, (refl, refl))

pub nothing_some : (errors : List ErrorSeen) (log : List Event) → PrintsSome errors (since log log)
nothing_some errors log = subst (PrintsSome errors) (sym (ap (since log) (sym (append-nil log)) ∙ since_append log [])) (none_some errors)

-- ---- the errors

error_step : (ends : List FleetEnd) (i : ℕ) → i < length ends → flat_map refused_error (optional (slice_get ends i)) ++ refusals (drop (suc i) ends) ≡ refusals (drop i ends)
error_step [] i within = absurd (omega arith)
error_step (e ∷ es) zero within = ap (λ l. l ++ refusals es) (append-nil (refused_error e))
error_step (e ∷ es) (suc i) within = error_step es i (omega arith)

-- one end more, and those of the rest
pub errors_next : (ends : List FleetEnd) (i : ℕ) → i < length ends → flat_map refused_error (optional (slice_get ends i)) ++ refusals (drop (i + 1) ends) ≡ refusals (drop i ends)
errors_next ends i within = let same : i + 1 ≡ suc i = omega arith in subst (λ n. flat_map refused_error (optional (slice_get ends i)) ++ refusals (drop n ends) ≡ refusals (drop i ends)) (sym same) (error_step ends i within)

pub ended_none : (ends : List FleetEnd) (errors : List ErrorSeen) → length errors ≡ 0 → ended_fleet ends [] ≡ ended_fleet ends errors
ended_none ends [] none = refl
ended_none ends (e ∷ es) none = absurd (omega arith)

pub ended_first : (ends : List FleetEnd) (errors : List ErrorSeen) (error d : ErrorSeen) → 0 < length errors → error ≡ get_or errors 0 d → record (ended_refused error) { fleet = Some ends } ≡ ended_fleet ends errors
ended_first ends [] error d some is = absurd (omega arith)
ended_first ends (e ∷ es) error d some is = ap (λ (x : ErrorSeen). record (ended_refused x) { fleet = Some ends }) is

-- ---- nothing was done

pub log_kept : (log : List Event) → log ≡ log ++ since log log
log_kept log = sym (append-nil log) ∙ ap (λ l. log ++ l) (sym (ap (since log) (sym (append-nil log)) ∙ since_append log []))

pub quiet_kept : (log : List Event) → question_events (since log log) ≡ []
quiet_kept log = ap question_events (ap (since log) (sym (append-nil log)) ∙ since_append log [])
