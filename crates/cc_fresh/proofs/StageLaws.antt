-- The stages of a refresh: which commands they have, and in which order.
use Rattle.std.proofs.Common.{◌≡◌, ◌⊎◌, inl, inr, ℕ, List, [], ◌∷◌, ◌++◌, map, Bool, true, false, ◌||◌, if◌then◌else◌, Option, is_some, refl, sym, ◌∙◌, ap, subst, append_assoc}
use Rattle.std.specs.List.{list_any}
use Rattle.std.proofs.lemmas.Bool.{or_parts, or_from}
use Rattle.cc_text.specs.Words.{when}
use Rattle.cc_host.specs.Command.{CommandSeen}
use Rattle.cc_host.specs.Part.Step.{Writes}
use Rattle.cc_host.specs.Question.{Look}
use Rattle.cc_flags.specs.Given.{is_disabled}
use Rattle.cc_flags.specs.declared.object.Object.{Object}
use Rattle.cc_plan.specs.Plan.{compile_in, objects_of}
use Rattle.cc_plan.specs.Refusal.{early_refusal, late_refusal}
use Rattle.cc_run.specs.declared.planned.Planned.{Planned}
use Rattle.cc_build.specs.Build.{BuildSeen}
use Rattle.cc_build.specs.Order.{is_archive_role}
use Rattle.cc_build.specs.Stage.{Stage, beside, calls, compile_planned, compiles_planned, compile_stages, folder_stages, later_stages, late_stages, opening_steps, planned_stages}
use Rattle.cc_build.specs.Stage.Stage.{Asks}
use Rattle.cc_build.specs.Way.{Way, Found, chosen}
use Rattle.cc_build.proofs.OrderLaws.{NoArchive, no_archive_then, no_folder_archives, no_note_archives}
use Rattle.cc_build.proofs.SourceLaws.{opening_notes}
use Rattle.cc_build.proofs.StopLaws.{ArePlain, plain_then, plain_behind, plain_notes, plain_unless, plain_folder, planned_plain}
use Rattle.cc_fresh.specs.Promises.{compiling_stages}
use Rattle.cc_fresh.specs.Refresh.{later_error, record_stages, refresh_stages}

plain_beside : (ps : List Planned) → ArePlain (beside ps)
plain_beside [] = tt
plain_beside (p ∷ []) = (tt, tt)
plain_beside (p ∷ q ∷ ps) = (tt, tt)

-- what stands behind the commands is plain, where that of a compile run is
plain_by : (early disabled late : Bool) (folder opening all some later last : List Stage) → ArePlain folder → ArePlain opening → ArePlain some → ArePlain last → ArePlain (if early then [] else folder ++ (if disabled then [] else Asks ∷ (if late then [] else (opening ++ all) ++ later))) → ArePlain (if early then [] else folder ++ (if disabled then [] else Asks ∷ (if late then [] else opening ++ (Asks ∷ ((some ++ later) ++ last)))))
plain_by true disabled late folder opening all some later last f o s l p = tt
plain_by false true late folder opening all some later last f o s l p = plain_then folder [] f tt
plain_by false false true folder opening all some later last f o s l p = plain_then folder (Asks ∷ []) f (tt, tt)
plain_by false false false folder opening all some later last f o s l p =
    let behind = plain_behind (opening ++ all) later (plain_behind folder (Asks ∷ ((opening ++ all) ++ later)) p).1 in
    plain_then folder (Asks ∷ (opening ++ (Asks ∷ ((some ++ later) ++ last)))) f (tt, plain_then opening (Asks ∷ ((some ++ later) ++ last)) o (tt, plain_then (some ++ later) last (plain_then some later s behind) l))

-- they are plain
pub refresh_plain : (b : BuildSeen) (way : Way) (look : Look) (output : List ℕ) (choices : List Bool) (path bytes : List ℕ) → ArePlain (refresh_stages b way look output choices path bytes)
unfolding planned_stages late_stages compile_stages
refresh_plain b way look output choices path bytes =
    plain_by (is_some (early_refusal b.config b.env output)) (is_disabled b.env) (is_some (late_refusal b.config b.env look)) (folder_stages b.config b.env) (calls (opening_steps b.config b.env way.found look)) (beside (compiles_planned b.config b.env way.found.here look)) (beside (chosen choices (compiles_planned b.config b.env way.found.here look)))
    (later_stages b.config b.env way look output) (record_stages (later_error b look output) path bytes)
    (plain_folder b.config b.env) (plain_notes (opening_steps b.config b.env way.found look) (opening_notes b.config b.env way.found look)) (plain_beside (chosen choices (compiles_planned b.config b.env way.found.here look)))
    (plain_unless (is_some (later_error b look output)) (calls (Writes path bytes ∷ [])) (tt, tt))
    (planned_plain b.config b.env way look output)

-- ---- the sources come before the archive

none_chosen : (choices : List Bool) (ps : List Planned) → list_any (λ (p : Planned). is_archive_role p.role) ps ≡ false → list_any (λ (p : Planned). is_archive_role p.role) (chosen choices ps) ≡ false
none_chosen [] ps none = none
none_chosen (choice ∷ choices) [] none = refl
none_chosen (true ∷ choices) (p ∷ ps) none =
    let k = or_parts (is_archive_role p.role) (list_any (λ (q : Planned). is_archive_role q.role) ps) none in
    or_from (is_archive_role p.role) (list_any (λ (q : Planned). is_archive_role q.role) (chosen choices ps)) k.0 (none_chosen choices ps k.1)
none_chosen (false ∷ choices) (p ∷ ps) none =
    let k = or_parts (is_archive_role p.role) (list_any (λ (q : Planned). is_archive_role q.role) ps) none in
    none_chosen choices ps k.1

compiles_alone : (here : Option (List ℕ)) (f : Object → CommandSeen) (objects : List Object) → list_any (λ (p : Planned). is_archive_role p.role) (map (λ object. compile_planned here object (f object)) objects) ≡ false
compiles_alone here f [] = refl
compiles_alone here f (object ∷ objects) = compiles_alone here f objects

sources_alone : (b : BuildSeen) (found : Found) (look : Look) → list_any (λ (p : Planned). is_archive_role p.role) (compiles_planned b.config b.env found.here look) ≡ false
unfolding compiles_planned
sources_alone b found look = compiles_alone found.here (compile_in b.config b.env look) (objects_of b.config b.env)

beside_silent : (ps : List Planned) → list_any (λ (p : Planned). is_archive_role p.role) ps ≡ false → NoArchive (beside ps)
beside_silent [] h = refl
beside_silent (p ∷ []) h = h
beside_silent (p ∷ q ∷ ps) h = or_from (list_any (λ (r : Planned). is_archive_role r.role) (p ∷ q ∷ ps)) false h refl

-- no stage up to the chosen commands archives
pub compiling_silent : (b : BuildSeen) (found : Found) (look : Look) (choices : List Bool) → NoArchive (compiling_stages b found look (chosen choices (compiles_planned b.config b.env found.here look)))
compiling_silent b found look choices =
    let cmds = chosen choices (compiles_planned b.config b.env found.here look) in
    let opening = opening_steps b.config b.env found look in
    no_archive_then (folder_stages b.config b.env) (Asks ∷ (calls opening ++ (Asks ∷ beside cmds))) (no_folder_archives b.config b.env)
    (no_archive_then (calls opening) (Asks ∷ beside cmds) (no_note_archives opening (opening_notes b.config b.env found look)) (beside_silent cmds (none_chosen choices (compiles_planned b.config b.env found.here look) (sources_alone b found look))))

order_by : (early disabled late : Bool) (folder opening some later last : List Stage) → NoArchive folder → ((rest : List Stage) × ((if early then [] else folder ++ (if disabled then [] else Asks ∷ (if late then [] else opening ++ (Asks ∷ ((some ++ later) ++ last))))) ≡ (folder ++ (Asks ∷ (opening ++ (Asks ∷ some)))) ++ rest)) ⊎ NoArchive (if early then [] else folder ++ (if disabled then [] else Asks ∷ (if late then [] else opening ++ (Asks ∷ ((some ++ later) ++ last)))))
order_by true disabled late folder opening some later last none = inr refl
order_by false true late folder opening some later last none = inr (no_archive_then folder [] none refl)
order_by false false true folder opening some later last none = inr (no_archive_then folder (Asks ∷ []) none refl)
order_by false false false folder opening some later last none = inl (
  later ++ last,
  ap (λ l. folder ++ (Asks ∷ (opening ++ (Asks ∷ l)))) (append_assoc some later last)
      ∙ ap (λ l. folder ++ (Asks ∷ l)) (sym (append_assoc opening (Asks ∷ some) (later ++ last)))
      ∙ sym (append_assoc folder (Asks ∷ (opening ++ (Asks ∷ some))) (later ++ last)),
)

-- a refresh begins with them, or doesn't archive
pub refresh_ordered : (b : BuildSeen) (way : Way) (look : Look) (output : List ℕ) (choices : List Bool) (path bytes : List ℕ) → ((rest : List Stage) × (refresh_stages b way look output choices path bytes ≡ compiling_stages b way.found look (chosen choices (compiles_planned b.config b.env way.found.here look)) ++ rest)) ⊎ NoArchive (refresh_stages b way look output choices path bytes)
refresh_ordered b way look output choices path bytes =
    order_by (is_some (early_refusal b.config b.env output)) (is_disabled b.env) (is_some (late_refusal b.config b.env look)) (folder_stages b.config b.env) (calls (opening_steps b.config b.env way.found look))
    (beside (chosen choices (compiles_planned b.config b.env way.found.here look))) (later_stages b.config b.env way look output) (record_stages (later_error b look output) path bytes) (no_folder_archives b.config b.env)
