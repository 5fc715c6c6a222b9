-- How the printing of link lines by a library's path ends.
use Rattle.cc_flags.specs.declared.variables.Reads.{Reads}
use Rattle.std.proofs.Common.{◌≡◌, ◌⊎◌, ℕ, List, [], ◌∷◌, Bool, true, false, if◌then◌else◌, is_some, Option, Some, None, option_map, Result, Err, refl, sym, ◌∙◌, ap, subst}
use Rattle.cc_env.specs.Env.{EnvSeen}
use Rattle.cc_host.specs.Question.{Look}
use Rattle.cc_host.specs.declared.event.Event.{Event}
use Rattle.cc_flags.specs.Names.{linked_library}
use Rattle.cc_plan.specs.Quiet.{quiet_warnings}
use Rattle.cc_plan.specs.Reruns.{rerun_names}
use Rattle.cc_flags.specs.declared.link_line.LinkLine.{LinkLine}
use Rattle.cc_plan.specs.Refusal.{path_refusal, link_refusal}
use Rattle.cc_flags.specs.Given.{first_of}
use Rattle.cc_plan.specs.declared.error.PlanError.{PlanError}
use Rattle.cc_plan.specs.declared.error.PlanError.TheVariants.{NoMemory as WantsMemory}
use Rattle.cc_flags.specs.declared.settings.BuildConfig.{BuildConfig}
use Rattle.cc_build.specs.Build.{BuildSeen}
use Rattle.cc_build.specs.Error.{ErrorSeen, no_memory}
use Rattle.cc_build.specs.Linking.{link_reads, linked_name, name_or_none, DirectivesEnd}
use Rattle.cc_build.specs.Refusal.{plan_error}
use Rattle.cc_build.specs.Stage.{Stage, asked_then, links_of, printed_stages, ending_steps}
use Rattle.cc_build.specs.Stage.Stage.{Asks}
use Rattle.cc_flags.specs.Target.{target_info}
use Rattle.cc_build.specs.Way.{Firsts, Repeats, all_firsts}
use Rattle.cc_build.specs.Went.{Terms, Means, Ends}
use Rattle.cc_build.proofs.AloneLaws.{AreStill, still_calls, still_unless, ends_still}
use Rattle.cc_build.proofs.RunPlanLaws.{unchecked, checked_ends}
use Rattle.cc_build.proofs.Stages.{plan_cause}

-- a path that is a library's isn't refused
pub found_so : (set : BuildConfig) (env : EnvSeen) (library : List ℕ) (found : List ℕ × List ℕ) → linked_library (target_info set env) library ≡ Some found → path_refusal set env library ≡ None
found_so set env library found is = rw is refl

module _ (set : BuildConfig) (env : EnvSeen) (listens : Bool) (look : Look) (library : List ℕ) (part : List Event) where
  abbrev seen : BuildSeen
  seen = record { config = set; env = env }

  abbrev late_in : Option ErrorSeen
  late_in = option_map (plan_error set env library) (link_refusal set env look)

  abbrev names : List (List ℕ)
  names = rerun_names link_reads set env look

  abbrev lines : List LinkLine
  lines = links_of set env (linked_name set env library) library look

  abbrev texts : List (List ℕ)
  texts = quiet_warnings set env look

  abbrev run_with : Firsts → List Stage
  run_with firsts = if is_some (link_refusal set env look) then [] else printed_stages listens texts firsts lines names

  still_lines : (firsts : Firsts) → AreStill (printed_stages listens texts firsts lines names)
  still_lines firsts = still_calls (ending_steps listens texts firsts lines names)

  -- nothing was asked: the path is no library's, or memory was wanted
  pub path_refused : (e : ErrorSeen) (error : PlanError) → part ≡ [] → (e ≡ no_memory) ⊎ (e ≡ plan_error set env library error) → (error ≡ WantsMemory) ⊎ (path_refusal set env library ≡ Some error) → DirectivesEnd {T = Unit {0}} seen listens library (Err e) look part
  path_refused e error none made cause = (
    all_firsts,
    (
      (λ _. refl),
      λ t x. unchecked t (plan_error set env library) late_in (Asks ∷ run_with all_firsts) (path_refusal set env library) part e x (λ empty. absurd (cc)) none (plan_cause set env library error e (path_refusal set env library) made cause),
    ),
  )

  -- the lines were planned and printed so
  pub lines_ended : {T : Type 0} (t : Terms) (y z : Means) (found : List ℕ × List ℕ) (reads : Reads) (heard : Bool) (name path : List ℕ) (r : Result T ErrorSeen) → reads ≡ link_reads → heard ≡ listens → linked_library (target_info set env) library ≡ Some found → name ≡ found.0 → path ≡ library
      → (firsts : Firsts) × (Repeats set firsts × Ends t late_in (asked_then (link_refusal set env look) (printed_stages heard texts firsts (links_of set env name path look) (rerun_names reads set env look))) part r y z)
      → DirectivesEnd seen listens library r look part
  lines_ended t y z found reads heard name path r those hears is n p h =
      let named : name ≡ linked_name set env library = n ∙ ap name_or_none (sym is) in
      let stages : List ℕ → List ℕ → List Stage = λ m l. asked_then (link_refusal set env look) (printed_stages listens texts h.0 (links_of set env m l look) names) in
      let ends : Ends t late_in (Asks ∷ run_with h.0) part r y z =
      subst (λ (m : List ℕ). Ends t late_in (stages m library) part r y z) named
      (subst (λ (l : List ℕ). Ends t late_in (stages name l) part r y z) p
      (subst (λ (b : Bool). Ends t late_in (asked_then (link_refusal set env look) (printed_stages b texts h.0 (links_of set env name path look) names)) part r y z) hears
      (subst (λ (rd : Reads). Ends t late_in (asked_then (link_refusal set env look) (printed_stages heard texts h.0 (links_of set env name path look) (rerun_names rd set env look))) part r y z) those h.1.1))) in
      let still : AreStill (Asks ∷ run_with h.0) = (tt, still_unless (is_some (link_refusal set env look)) (printed_stages listens texts h.0 lines names) (still_lines h.0)) in (
        h.0,
        (
          h.1.0,
          λ u v. checked_ends u (plan_error set env library) late_in (Asks ∷ run_with h.0) (path_refusal set env library) part r v v (found_so set env library found is) (ends_still t u v late_in (Asks ∷ run_with h.0) part r y z still ends),
        ),
      )
