-- The first command of the archive is tried, and why a run ended.
use Rattle.cc_plan.specs.Reruns.{rerun_names}
use Rattle.std.proofs.Common.{◌≡◌, ◌≢◌, ◌⊎◌, inl, inr, ℕ, List, [], ◌∷◌, ◌++◌, Bool, true, false, ◌||◌, if◌then◌else◌, is_some, Option, refl, sym, ◌∙◌, ap, subst, append_assoc}
use Rattle.std.specs.List.{list_any}
use Rattle.std.proofs.lemmas.Bool.{or_from}
use Rattle.cc_env.specs.Env.{EnvSeen}
use Rattle.cc_host.specs.Command.{CommandSeen}
use Rattle.cc_host.specs.Question.{Look}
use Rattle.cc_host.specs.declared.event.Event.{Event}
use Rattle.cc_host.specs.declared.event.Role.TheVariants.{Archive, Index}
use Rattle.cc_flags.specs.Given.{is_disabled}
use Rattle.cc_plan.specs.Quiet.{quiet_warnings}
use Rattle.cc_host.specs.Part.{Step}
use Rattle.cc_flags.specs.ArchiveNames.{is_msvc}
use Rattle.cc_flags.specs.Target.{target_info}
use Rattle.cc_plan.specs.Plan.{library_of, run_has_one_form, run_asks_folder, archives_of, indexes_of, lists_of_run, copy_of, copy_by, copy_steps, archive_refusal, link_lines, removal_steps, prints}
use Rattle.cc_plan.specs.Refusal.{early_refusal, late_refusal, link_refusal}
use Rattle.cc_flags.specs.declared.settings.BuildConfig.{BuildConfig}
use Rattle.cc_run.specs.Part.{missing}
use Rattle.cc_run.specs.declared.planned.Planned.{Planned}
use Rattle.cc_build.specs.Error.{ErrorSeen}
use Rattle.cc_build.specs.Failed.{is_form}
use Rattle.cc_build.specs.Stage.{Stage, calls, planned, tried, written, writings, asking_steps, folder_stages, compile_stages, removal_stages, ready_stages, archive_stages, copy_stages, link_stages, writing_stages, library_stages, ending_stages, later_stages, asked_stages, late_stages, planned_stages, run_reads, ending_steps}
use Rattle.cc_build.specs.Stage.Stage.{Calls, Asks, Tries, RunsOne, RunsAll}
use Rattle.cc_build.specs.Way.{Way}
use Rattle.cc_build.specs.Went.{Terms, Means, Went, Stops, Halts, Halted}
use Rattle.cc_build.proofs.OrderLaws.{may_archive, NoArchive, IsSilent, no_archive_then, went_partly, stop_silent, partly_silent, no_folder_archives, no_note_archives, no_compile_archives}
use Rattle.cc_build.proofs.SourceLaws.{ending_notes}
use Rattle.cc_build.proofs.StopLaws.{ArePlain, plain_behind, tries_form, went_form, IsFormed, HasCause, halts_cause}
use Rattle.cc_build.proofs.Trying.{broken_of, broken_missing}

-- the first of these stages that archives tries its command
abbrev pub FormFirst : List Stage → Type 0
FormFirst [] = Unit {0}
FormFirst (s ∷ ss) = (tries_form s ≡ true) ⊎ ((may_archive s ≡ false) × FormFirst ss)

or_there : (a b : Bool) → b ≡ true → (a || b) ≡ true
or_there true b h = refl
or_there false b h = h

-- before a stage a form was tried, or nothing archived
formed_at : (before : List Stage) (s : Stage) (after : List Stage) → FormFirst (before ++ s ∷ after) → (list_any tries_form before ≡ true) ⊎ (NoArchive before × ((tries_form s ≡ true) ⊎ (may_archive s ≡ false)))
formed_at [] s after (inl tries) = inr (refl, inl tries)
formed_at [] s after (inr k) = inr (refl, inr k.0)
formed_at (b ∷ before) s after (inl tries) = inl (ap (λ x. x || list_any tries_form before) tries)
formed_at (b ∷ before) s after (inr k) = more (formed_at before s after k.1)
  where
    more : (list_any tries_form before ≡ true) ⊎ (NoArchive before × ((tries_form s ≡ true) ⊎ (may_archive s ≡ false))) → (list_any tries_form (b ∷ before) ≡ true) ⊎ (NoArchive (b ∷ before) × ((tries_form s ≡ true) ⊎ (may_archive s ≡ false)))
    more (inl h) = inl (or_there (tries_form b) (list_any tries_form before) h)
    more (inr n) = inr (or_from (may_archive b) (list_any may_archive before) k.0 n.0, n.1)

-- a command that is tried is never the missing one that ends a run
no_missing : (t : Terms) (s : Stage) (part : List Event) (e : ErrorSeen) (x y : Means) → tries_form s ≡ true → Stops t s part e x y → missing part ≡ []
no_missing t (Tries refused p) part e x y h d = broken_missing p part (broken_of t.shows p part d.0 d.1.0 d.1.1)
no_missing t (Calls step) part e x y h d = absurd (cc)
no_missing t Asks part e x y h d = absurd (cc)
no_missing t (RunsOne p) part e x y h d = absurd (cc)
no_missing t (RunsAll ps) part e x y h d = absurd (cc)

module _ (t : Terms) (before : List Stage) (front rest : List Event) (e : ErrorSeen) (x y z : Means) (w : Went t before front x y) where
  formed_stop : (s : Stage) (after : List Stage) → FormFirst (before ++ s ∷ after) → Stops t s rest e y z → missing rest ≢ [] → IsFormed front rest
  formed_stop s after first stop some = by_stage (formed_at before s after first)
    where
      by_stage : (list_any tries_form before ≡ true) ⊎ (NoArchive before × ((tries_form s ≡ true) ⊎ (may_archive s ≡ false))) → IsFormed front rest
      by_stage (inl tries) = inl (went_form t before front x y tries w)
      by_stage (inr (none, inl tries)) = absurd (some (no_missing t s rest e y z tries stop))
      by_stage (inr (none, inr silent)) = inr (partly_silent t before front x y none (went_partly t before front x y w), stop_silent t s rest e y z silent stop)

  formed_halts : (refusal : Option ErrorSeen) (after : List Stage) → FormFirst (before ++ after) → Halts t refusal after rest e y z → missing rest ≢ [] → IsFormed front rest
  formed_halts refusal [] first h some = absurd (some (ap missing h.1))
  formed_halts refusal (s ∷ ss) first (inl h) some = absurd (some (ap missing h.1))
  formed_halts refusal (s ∷ ss) first (inr stop) some = formed_stop s ss first stop some

-- a run that ended before its stages were done has one of these causes
pub halted_cause : (t : Terms) (libtool : Bool) (refusal : Option ErrorSeen) (stages : List Stage) (part : List Event) (e : ErrorSeen) (x z : Means) → ArePlain stages → (libtool ≡ false → FormFirst stages) → Halted t refusal stages part e x z → HasCause libtool refusal part e x z
halted_cause t libtool refusal stages part e x z plain first h =
    halts_cause t libtool refusal h.before h.front h.rest part e x h.y z h.cut h.went
    (λ some other. formed_halts t h.before h.front h.rest e x h.y z h.went refusal h.after (subst FormFirst h.stages_are (first other)) h.halts some)
    h.after (plain_behind h.before h.after (subst ArePlain h.stages_are plain)) h.halts

-- ---- the stages of a compile run

pub formed_then : (a b : List Stage) → NoArchive a → FormFirst b → FormFirst (a ++ b)
formed_then [] b none first = first
formed_then (s ∷ a) b none first = let k = parts (may_archive s) (list_any may_archive a) none in inr (k.0, formed_then a b k.1 first)
  where
    parts : (p q : Bool) → (p || q) ≡ false → (p ≡ false) × (q ≡ false)
    parts true q h = absurd (cc)
    parts false q h = (refl, h)

pub formed_unless : (b : Bool) (stages : List Stage) → FormFirst stages → FormFirst (if b then [] else stages)
formed_unless true stages first = tt
formed_unless false stages first = first

tried_first : (refused : Bool) (archives indexes : List CommandSeen) (more : List Stage) → FormFirst more → FormFirst (tried refused (planned Archive archives ++ planned Index indexes) ++ more)
tried_first refused [] [] more first = first
tried_first refused [] (index ∷ indexes) more first = inl refl
tried_first refused (archive ∷ archives) indexes more first = inl refl

-- the same of an archiver with two forms
written_first : (one_form refused : Bool) (archives indexes : List CommandSeen) (more : List Stage) → one_form ≡ false → FormFirst more → FormFirst (written one_form refused (planned Archive archives ++ planned Index indexes) ++ more)
written_first true refused archives indexes more other first = absurd (cc)
written_first false refused archives indexes more other first = tried_first refused archives indexes more first

no_writing_archives : (files : List (List ℕ × List ℕ)) (more : List Step) → NoArchive (calls more) → NoArchive (calls (writings files ++ more))
no_writing_archives [] more none = none
no_writing_archives (file ∷ files) more none = no_writing_archives files more none

no_asking_archives : (asks : Bool) (here : List ℕ) → NoArchive (calls (asking_steps asks here))
no_asking_archives true here = refl
no_asking_archives false here = refl

no_copying_archives : (copies : Bool) (from to : List ℕ) → NoArchive (calls (copy_by copies from to))
no_copying_archives true from to = refl
no_copying_archives false from to = refl

pub none_first : (stages : List Stage) → NoArchive stages → FormFirst stages
none_first [] none = tt
none_first (s ∷ ss) none = let k = parts (may_archive s) (list_any may_archive ss) none in inr (k.0, none_first ss k.1)
  where
    parts : (p q : Bool) → (p || q) ≡ false → (p ≡ false) × (q ≡ false)
    parts true q h = absurd (cc)
    parts false q h = (refl, h)

module _ (set : BuildConfig) (env : EnvSeen) (way : Way) (look : Look) (output : List ℕ) where
  no_ready_archives : NoArchive (ready_stages set env look way.writing.here output)
  unfolding ready_stages
  no_ready_archives =
      let asks = run_asks_folder set env look output in
      no_writing_archives (lists_of_run set env look output) (asking_steps asks way.writing.here) (no_asking_archives asks way.writing.here)

  no_copy_archives : NoArchive (copy_stages set env output)
  unfolding copy_stages copy_steps
  no_copy_archives = no_copying_archives (is_msvc (target_info set env)) (library_of set env output) (copy_of set env output)

  no_removal_archives : NoArchive (removal_stages set env output)
  unfolding removal_stages removal_steps
  no_removal_archives = refl

  no_link_archives : NoArchive (link_stages set env (is_some way.found.here) look way.firsts output)
  unfolding link_stages
  no_link_archives =
      let names = rerun_names (run_reads set) set env look in
      let texts = quiet_warnings set env look in
      no_note_archives (ending_steps (is_some way.found.here) texts way.firsts (link_lines set env look output) names) (ending_notes (is_some way.found.here) texts way.firsts (link_lines set env look output) names)

  ending_first : FormFirst (ending_stages set env way look output)
  ending_first = inr (refl, formed_unless (is_some (link_refusal set env look)) (link_stages set env (is_some way.found.here) look way.firsts output) (none_first (link_stages set env (is_some way.found.here) look way.firsts output) no_link_archives))

  -- the commands of a library, and stages behind them
  module _ (more : List Stage) (first : FormFirst more) where
    abbrev copied : List Stage
    copied = copy_stages set env output ++ more

    archive_first : run_has_one_form set env look ≡ false → FormFirst (archive_stages set env look way.writing output ++ copied)
    unfolding archive_stages
    archive_first other =
        written_first (run_has_one_form set env look) way.writing.is_plain (archives_of set env look way.writing.is_plain way.writing.here output) (indexes_of set env look way.writing.is_plain output) copied other
        (formed_then (copy_stages set env output) more no_copy_archives first)

    -- the commands and the copy
    abbrev copied_archive : List Stage
    copied_archive = archive_stages set env look way.writing output ++ copy_stages set env output

    pub library_first : run_has_one_form set env look ≡ false → FormFirst (library_stages set env way.writing look output ++ more)
    library_first other =
        subst FormFirst (sym (append_assoc (removal_stages set env output) (writing_stages set env way.writing look output) more))
        (formed_then (removal_stages set env output) (writing_stages set env way.writing look output ++ more) no_removal_archives
        (subst FormFirst (sym (append_assoc (ready_stages set env look way.writing.here output) copied_archive more))
        (formed_then (ready_stages set env look way.writing.here output) (copied_archive ++ more) no_ready_archives
        (subst FormFirst (sym (append_assoc (archive_stages set env look way.writing output) (copy_stages set env output) more)) (archive_first other)))))

  later_first : run_has_one_form set env look ≡ false → FormFirst (later_stages set env way look output)
  unfolding later_stages
  later_first other = inr (refl, formed_unless (is_some (archive_refusal set env look)) (library_stages set env way.writing look output ++ ending_stages set env way look output) (library_first (ending_stages set env way look output) ending_first other))

  late_first : run_has_one_form set env look ≡ false → FormFirst (late_stages set env way look output)
  unfolding late_stages
  late_first other =
      formed_unless (is_disabled env) (asked_stages set env way look output)
      (inr (
        refl,
        formed_unless (is_some (late_refusal set env look)) (compile_stages set env way.found look ++ later_stages set env way look output)
            (formed_then (compile_stages set env way.found look) (later_stages set env way look output) (no_compile_archives set env way.found look) (later_first other)),
      ))

  -- the first command of the archive is tried, where the archiver has two forms
  pub planned_first : run_has_one_form set env look ≡ false → FormFirst (planned_stages set env way look output)
  unfolding planned_stages
  planned_first other =
      formed_unless (is_some (early_refusal set env output)) (folder_stages set env ++ late_stages set env way look output)
      (formed_then (folder_stages set env) (late_stages set env way look output) (no_folder_archives set env) (late_first other))
