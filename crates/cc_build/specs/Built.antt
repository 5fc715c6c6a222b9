-- What the part of a compile run that answers Ok is.
use Rattle.std.specs.Prelude.{◌≡◌, ℕ, List, [], ◌∷◌, ◌++◌, map, None, is_some, false}
use Rattle.cc_env.specs.Env.{EnvSeen}
use Rattle.cc_host.specs.Question.{Look}
use Rattle.cc_host.specs.declared.event.Removal.{Removal}
use Rattle.cc_host.specs.declared.event.Event.{Event}
use Rattle.cc_host.specs.declared.event.Event.TheVariants.{Removed}
use Rattle.cc_host.specs.declared.event.Role.TheVariants.{Compile}
use Rattle.cc_flags.specs.declared.settings.BuildConfig.{BuildConfig}
use Rattle.cc_plan.specs.Plan.{library_of, compiles_of, run_has_one_form, archive_refusal}
use Rattle.cc_flags.specs.Given.{is_disabled}
use Rattle.cc_plan.specs.Refusal.{early_refusal, late_refusal, link_refusal}
use Rattle.cc_run.specs.Part.{started}
use Rattle.cc_run.specs.Planned.{asked}
use Rattle.cc_build.specs.Attempts.{attempts, to_attempt, all_tried, form_tried}
use Rattle.cc_build.specs.Children.{AllWell}
use Rattle.cc_build.specs.Stage.{planned, written_children, folder_stages, compile_stages, library_commands, writing_stages, link_stages}
use Rattle.cc_build.specs.Stage.Stage.{Asks}
use Rattle.cc_build.specs.Way.{Way, Hears, Repeats}
use Rattle.cc_build.specs.Went.{Terms, Goes}

-- Nothing refuses these settings.
pub record Accepted (set : BuildConfig) (env : EnvSeen) (look : Look) (output : List ℕ) : Type 0 where
  pub early : early_refusal set env output ≡ None
  pub enabled : is_disabled env ≡ false
  pub late : late_refusal set env look ≡ None
  pub archive : archive_refusal set env look ≡ None
  pub links : link_refusal set env look ≡ None

-- The part is cut at the removal of the old library, and before the link lines.
pub record Built (t : Terms) (set : BuildConfig) (env : EnvSeen) (look : Look) (output : List ℕ)
    (part : List Event) : Type 0 where
  pub accepted : Accepted set env look output
  pub way : Way
  -- where lines are repeated, all of them were printed; a host that listens was asked for the current folder
  pub repeats : Repeats set way.firsts
  pub hears : Hears t.shows.listens way.found
  pub runs : List Event
  pub how : Removal
  pub archives : List Event
  pub lines : List Event
  pub cut : part ≡ runs ++ Removed (library_of set env output) how ∷ archives ++ lines
  -- the folder was made, questions were asked, the warnings were printed, the compile commands were run, and questions
  -- were asked
  pub compiled : Goes t (folder_stages set env ++ (Asks ∷ (compile_stages set env way.found look ++ (Asks ∷ [])))) runs
  -- one planned compile command per source was started, in the order added, and nothing else
  pub compiles : started runs ≡ asked t.shows (planned Compile (compiles_of set env look))
  -- and each of them has ended with 0
  pub ended : AllWell runs
  -- the list of the objects was written where the archiver is libtool, and the current folder was asked for where its
  -- commands run in that of the library; then the planned archive commands and those of the index were run, one after
  -- another; for Visual Studio the library was copied
  pub archived : Goes t (writing_stages set env way.writing look output) archives
  -- these alone were run
  pub writes : attempts archives ≡ map to_attempt (library_commands set env look way.writing output)
  -- the first of them was tried, unless the archiver has one form: where it was refused the others are those of the
  -- plain form, else it has ended with 0
  pub first : all_tried archives
      ≡ form_tried (run_has_one_form set env look) way.writing.is_plain
      (library_commands set env look way.writing output)
  -- the others were started, and each of them has ended with 0
  pub others : started archives
      ≡ asked t.shows
      (written_children (run_has_one_form set env look) (library_commands set env look way.writing output))
  pub written : AllWell archives
  -- questions were asked, a host that listens was told of the compiler that decides on the C++ library, and then
  -- exactly the link lines were printed, and those of the variables that the run read
  pub linked : Goes t (Asks ∷ link_stages set env (is_some way.found.here) look way.firsts output) lines
