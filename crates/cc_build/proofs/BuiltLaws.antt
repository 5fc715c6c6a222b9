-- A part that did all the stages of a compile run is built.
use Rattle.std.proofs.Common.{◌≡◌, List, [], ◌∷◌, ◌++◌, ℕ, length, Option, Some, None, is_some, Bool, true, false, if◌then◌else◌, Result, Ok, Err, OnOk, refl, sym, ◌∙◌, ap, ap₂, subst, append_assoc, append-nil, map}
use Rattle.std.specs.Option.{option_map}
use Rattle.std.proofs.lemmas.List.{length-map}
use Rattle.std.proofs.lemmas.Grind.{flat_map-append}
use Rattle.cc_env.specs.Env.{EnvSeen}
use Rattle.cc_host.specs.Command.{CommandSeen}
use Rattle.cc_host.specs.Part.{step_of, Step}
use Rattle.cc_host.specs.Part.Step.{Runs, Removes}
use Rattle.cc_host.specs.Question.{Look}
use Rattle.cc_host.specs.Status.{is_success}
use Rattle.cc_host.specs.declared.event.Event.{Event}
use Rattle.cc_host.specs.declared.event.Event.TheVariants.{Started, Missing, Ran, Made, Removed, Wrote, Copied, Here, Said, Printed, Listed}
use Rattle.cc_host.specs.declared.event.Removal.{Removal}
use Rattle.cc_host.specs.declared.event.Role.{Role}
use Rattle.cc_host.specs.declared.event.Scope.TheVariants.{Build, Probe as ForProbes}
use Rattle.cc_flags.specs.Given.{is_disabled}
use Rattle.cc_plan.specs.Plan.{library_of, archive_refusal, lists_of_run, folder_steps, removal_steps, run_has_one_form, run_asks_folder, copy_steps}
use Rattle.cc_plan.specs.Refusal.{early_refusal, late_refusal, link_refusal}
use Rattle.cc_flags.specs.Given.{first_of}
use Rattle.cc_flags.specs.declared.settings.BuildConfig.{BuildConfig}
use Rattle.cc_run.specs.Part.{started}
use Rattle.cc_run.specs.Planned.{asked}
use Rattle.cc_run.specs.declared.planned.Planned.{Planned}
use Rattle.cc_build.specs.Built.{Accepted, Built}
use Rattle.cc_build.specs.Error.{ErrorSeen}
use Rattle.cc_build.specs.Refusal.{early_error, late_error, archive_error, link_error, refusal_error, plan_error, disabled_error}
use Rattle.cc_build.specs.Stage.{Stage, commands_in, children_in, calls, planned, beside, compiles_planned, opening_steps, tried, written, written_children, writings, folder_stages, compile_stages, removal_stages, library_commands, archive_stages, link_stages, later_stages, late_stages, planned_stages, asking_steps, ready_stages, copy_stages, writing_stages}
use Rattle.cc_build.specs.Way.{Way, Found, Hears, Repeats, Writing}
use Rattle.cc_build.proofs.SourceLaws.{asked_planned}
use Rattle.cc_build.specs.Stage.Stage.{Asks}
use Rattle.cc_build.specs.Went.{Terms, Means, Went, Ends}
use Rattle.cc_build.specs.Attempts.{attempts, to_attempt, tried_of, all_tried, first_tried, form_tried}
use Rattle.cc_build.proofs.RunLaws.{commands_then, commands_calls, commands_written, children_then, children_calls, children_beside, children_written, went_started, went_well, went_split}
use Rattle.cc_build.proofs.SettledLaws.{went_attempts, in_turn_tried}
use Rattle.cc_build.proofs.StopLaws.{plain_then, plain_archive, plain_ready, plain_copy, ArePlain}
use Rattle.cc_build.proofs.Trying.{done_of, done_tried}

first_none : {X : Type 0} (a b : Option X) → first_of a b ≡ None → (a ≡ None) × (b ≡ None)
first_none None b h = (refl, h)
first_none (Some x) b h = absurd (cc)

unmapped : {X Y : Type 0} (f : X → Y) (r : Option X) → option_map f r ≡ None → r ≡ None
unmapped f None e = refl
unmapped f (Some x) e = absurd (cc)

chosen_none : {X : Type 0} (b : Bool) (x : X) (r : Option X) → (if b then Some x else r) ≡ None → (b ≡ false) × (r ≡ None)
chosen_none true x r h = absurd (cc)
chosen_none false x r h = (refl, h)

-- settings whose error is none are not refused
pub no_error : (set : BuildConfig) (env : EnvSeen) (look : Look) (output : List ℕ) → refusal_error set env look output ≡ None → Accepted set env look output
no_error set env look output h =
    let n = first_none (early_error set env output) (first_of (late_error set env look output) (first_of (archive_error set env look output) (link_error set env look output))) h in
    let m = first_none (late_error set env look output) (first_of (archive_error set env look output) (link_error set env look output)) n.1 in
    let k = first_none (archive_error set env look output) (link_error set env look output) m.1 in
    let late = chosen_none (is_disabled env) disabled_error (option_map (plan_error set env output) (late_refusal set env look)) m.0 in
    record {
      early = unmapped (plan_error set env output) (early_refusal set env output) n.0;
      enabled = late.0;
      late = unmapped (plan_error set env output) (late_refusal set env look) late.1;
      archive = unmapped (plan_error set env output) (archive_refusal set env look) k.0;
      links = unmapped (plan_error set env output) (link_refusal set env look) k.1;
    }

module _ (set : BuildConfig) (env : EnvSeen) (way : Way) (look : Look) (output : List ℕ) where
  -- the sources with the questions on both sides, the library, and the lines with the questions before them
  abbrev first_part : List Stage
  first_part = folder_stages set env ++ (Asks ∷ (compile_stages set env way.found look ++ (Asks ∷ [])))

  abbrev last_part : List Stage
  last_part = Asks ∷ link_stages set env (is_some way.found.here) look way.firsts output

  -- the commands, what comes before them, and the copy
  abbrev middle_part : List Stage
  middle_part = writing_stages set env way.writing look output

  -- what is planned where nothing is refused
  accepted_stages : Accepted set env look output → planned_stages set env way look output ≡ first_part ++ (removal_stages set env output ++ (middle_part ++ last_part))
  unfolding planned_stages late_stages later_stages
  accepted_stages a =
      let early : early_refusal set env output ≡ None = a.early in
      let enabled : is_disabled env ≡ false = a.enabled in
      let late : late_refusal set env look ≡ None = a.late in
      let refused : archive_refusal set env look ≡ None = a.archive in
      let links : link_refusal set env look ≡ None = a.links in
      let compiles = compile_stages set env way.found look in
      let removal = removal_stages set env output in
      let archive = middle_part in
      let joined : planned_stages set env way look output ≡ folder_stages set env ++ (Asks ∷ (compiles ++ (Asks ∷ ((removal ++ archive) ++ last_part)))) = rw (early, enabled, late, refused, links) refl in
      joined
      ∙ ap (λ l. folder_stages set env ++ (Asks ∷ (compiles ++ (Asks ∷ l)))) (append_assoc removal archive last_part)
      ∙ ap (λ l. folder_stages set env ++ (Asks ∷ l)) (sym (append_assoc compiles (Asks ∷ []) (removal ++ (archive ++ last_part))))
      ∙ sym (append_assoc (folder_stages set env) (Asks ∷ (compiles ++ (Asks ∷ []))) (removal ++ (archive ++ last_part)))

-- ---- the children of the stages

pub folder_children : (set : BuildConfig) (env : EnvSeen) → children_in (folder_stages set env) ≡ []
unfolding folder_stages
folder_children set env = children_calls (folder_steps set env)

pub compile_children : (set : BuildConfig) (env : EnvSeen) (found : Found) (look : Look) → children_in (compile_stages set env found look) ≡ compiles_planned set env found.here look
unfolding compile_stages
compile_children set env found look =
    let steps = opening_steps set env found look in
    let cmds = compiles_planned set env found.here look in
    children_then (calls steps) (beside cmds) ∙ ap₂ (λ u v. u ++ v) (children_calls steps) (children_beside cmds)

source_children : (set : BuildConfig) (env : EnvSeen) (way : Way) (look : Look) (output : List ℕ) → children_in (first_part set env way look output) ≡ compiles_planned set env way.found.here look
source_children set env way look output =
    children_then (folder_stages set env) (Asks ∷ (compile_stages set env way.found look ++ (Asks ∷ [])))
    ∙ ap (λ l. l ++ children_in (compile_stages set env way.found look ++ (Asks ∷ []))) (folder_children set env)
    ∙ children_then (compile_stages set env way.found look) (Asks ∷ [])
    ∙ append-nil (children_in (compile_stages set env way.found look))
    ∙ compile_children set env way.found look

pub planned_length : (role : Role) (cmds : List CommandSeen) → length (planned role cmds) ≡ length cmds
planned_length role cmds = length-map cmds (λ cmd. record { role = role; cmd = cmd; message = None })

-- the children of these stages were started, and nothing else
pub started_from : (t : Terms) (stages : List Stage) (part : List Event) (x y : Means) (cmds : List Planned) → Went t stages part x y → children_in stages ≡ cmds → started part ≡ asked t.shows cmds
started_from t stages part x y cmds w is = went_started t stages part x y w ∙ ap (asked t.shows) is

-- ---- the commands of the archive

tried_from : (t : Terms) (refused : Bool) (cmds : List Planned) (part : List Event) (x y : Means) → Went t (tried refused cmds) part x y → all_tried part ≡ first_tried refused cmds
tried_from t refused [] part x y w = ap all_tried w.0
tried_from t refused (p ∷ ps) part x y w =
    ap all_tried w.3.0
    ∙ flat_map-append tried_of w.0 w.1
    ∙ ap₂ (λ u v. u ++ v) (done_tried p refused w.0 (done_of t p w.0 refused w.3.1.0)) (in_turn_tried t ps w.1 w.2 y w.3.2)

-- of an archiver with one form none was tried
written_from : (t : Terms) (one_form refused : Bool) (cmds : List Planned) (part : List Event) (x y : Means) → Went t (written one_form refused cmds) part x y → all_tried part ≡ form_tried one_form refused cmds
written_from t true refused cmds part x y w = in_turn_tried t cmds part x y w
written_from t false refused cmds part x y w = tried_from t refused cmds part x y w

-- where no command was attempted none was tried
untried : (part : List Event) → attempts part ≡ [] → all_tried part ≡ []
untried [] none = refl
untried (Started id role cmd pipes held ∷ part) none = absurd (cc)
untried (Missing role cmd ∷ part) none = absurd (cc)
untried (Ran role cmd pipes status out err ∷ part) none = absurd (cc)
untried (event ∷ part) none = untried part none

module _ (set : BuildConfig) (env : EnvSeen) (look : Look) (here output : List ℕ) where
  abbrev readying : List Step
  readying = writings (lists_of_run set env look output) ++ asking_steps (run_asks_folder set env look output) here

  pub ready_commands : commands_in (ready_stages set env look here output) ≡ []
  unfolding ready_stages
  ready_commands = commands_calls readying

  ready_children : children_in (ready_stages set env look here output) ≡ []
  unfolding ready_stages
  ready_children = children_calls readying

module _ (set : BuildConfig) (env : EnvSeen) (output : List ℕ) where
  pub copy_commands : commands_in (copy_stages set env output) ≡ []
  unfolding copy_stages
  copy_commands = commands_calls (copy_steps set env output)

  copy_children : children_in (copy_stages set env output) ≡ []
  unfolding copy_stages
  copy_children = children_calls (copy_steps set env output)

module _ (t : Terms) (set : BuildConfig) (env : EnvSeen) (look : Look) (writing : Writing) (output : List ℕ) (part : List Event) (x y : Means) (w : Went t (writing_stages set env writing look output) part x y) where
  abbrev cmds : List Planned
  cmds = library_commands set env look writing output

  abbrev one_form : Bool
  one_form = run_has_one_form set env look

  abbrev ready : List Stage
  ready = ready_stages set env look writing.here output

  abbrev archive : List Stage
  archive = archive_stages set env look writing output

  abbrev copy : List Stage
  copy = copy_stages set env output

  archive_commands : commands_in archive ≡ cmds
  unfolding archive_stages
  archive_commands = commands_written one_form writing.is_plain cmds

  archive_children : children_in archive ≡ written_children one_form cmds
  unfolding archive_stages
  archive_children = children_written one_form writing.is_plain cmds

  all_commands : commands_in (ready ++ (archive ++ copy)) ≡ cmds
  all_commands =
      commands_then ready (archive ++ copy) ∙ ap₂ (λ u v. u ++ v) (ready_commands set env look writing.here output) (commands_then archive copy ∙ ap₂ (λ u v. u ++ v) archive_commands (copy_commands set env output))
      ∙ append-nil cmds

  all_children : children_in (ready ++ (archive ++ copy)) ≡ written_children one_form cmds
  all_children =
      children_then ready (archive ++ copy) ∙ ap₂ (λ u v. u ++ v) (ready_children set env look writing.here output) (children_then archive copy ∙ ap₂ (λ u v. u ++ v) archive_children (copy_children set env output))
      ∙ append-nil (written_children one_form cmds)

  all_plain : ArePlain (ready ++ (archive ++ copy))
  all_plain =
      plain_then ready (archive ++ copy) (plain_ready set env look writing.here output)
      (plain_then archive copy (plain_archive set env look writing output) (plain_copy set env output))

  archive_writes : attempts part ≡ map to_attempt cmds
  archive_writes = went_attempts t (ready ++ (archive ++ copy)) part x y all_plain w ∙ ap (map to_attempt) all_commands

  archive_from : (run : List Event) (u v : Means) → Went t archive run u v → all_tried run ≡ form_tried one_form writing.is_plain cmds
  unfolding archive_stages
  archive_from run u v went = written_from t one_form writing.is_plain cmds run u v went

  archive_first : all_tried part ≡ form_tried one_form writing.is_plain cmds
  archive_first =
      let k = went_split t ready (archive ++ copy) part x y w in
      let c = went_split t archive copy k.1 k.2 y k.3.2 in
      let none : attempts k.0 ≡ [] = went_attempts t ready k.0 x k.2 (plain_ready set env look writing.here output) k.3.1 ∙ ap (map to_attempt) (ready_commands set env look writing.here output) in
      let last : attempts c.1 ≡ [] = went_attempts t copy c.1 c.2 y (plain_copy set env output) c.3.2 ∙ ap (map to_attempt) (copy_commands set env output) in
      ap all_tried k.3.0
      ∙ flat_map-append tried_of k.0 k.1
      ∙ ap₂ (λ u v. u ++ v) (untried k.0 none) (ap all_tried c.3.0 ∙ flat_map-append tried_of c.0 c.1 ∙ ap₂ (λ u v. u ++ v) (archive_from c.0 k.2 c.2 c.3.1) (untried c.1 last))
      ∙ append-nil (form_tried one_form writing.is_plain cmds)

  archive_others : started part ≡ asked t.shows (written_children one_form cmds)
  archive_others = started_from t (ready ++ (archive ++ copy)) part x y (written_children one_form cmds) w all_children

-- ---- the removal

-- an event that removed this file
removed_is : (path : List ℕ) (event : Event) → step_of event ≡ Removes path ∷ [] → (how : Removal) × (event ≡ Removed path how)
removed_is path (Removed file how) e = let same : file ≡ path = cc in (how, ap (λ f. Removed f how) same)
removed_is path (Ran role cmd pipes status out err) e = absurd (by_test (is_success status) e)
  where
    by_test : (b : Bool) → (if b then Runs role cmd ∷ [] else []) ≡ Removes path ∷ [] → ⊥
    by_test true k = cc
    by_test false k = cc
removed_is path (Made Build folder) e = absurd (cc)
removed_is path (Made ForProbes folder) e = absurd (cc)
removed_is path (Wrote file bytes) e = absurd (cc)
removed_is path (Copied a_file to_file) e = absurd (cc)
removed_is path (Here here) e = absurd (cc)
removed_is path (Said message) e = absurd (cc)
removed_is path (Printed kind bytes) e = absurd (cc)
removed_is path (Listed vars) e = absurd (cc)
removed_is path event e = absurd (cc)

removal_is : (t : Terms) (set : BuildConfig) (env : EnvSeen) (output : List ℕ) (part : List Event) (x y : Means) → Went t (removal_stages set env output) part x y → (how : Removal) × (part ≡ Removed (library_of set env output) how ∷ [])
unfolding removal_stages removal_steps
removal_is t set env output part x y w =
    let r = removed_is (library_of set env output) w.3.1.0 w.3.1.1.1 in
    (r.0, w.3.0 ∙ ap₂ (λ u v. u ++ v) w.3.1.1.0 w.3.2.0 ∙ ap (λ event. event ∷ []) r.1)

-- the pieces of a part, one after another
glued : (part runs back removal rest archives lines : List Event) (x : Event) → part ≡ runs ++ back → back ≡ removal ++ rest → removal ≡ x ∷ [] → rest ≡ archives ++ lines → part ≡ runs ++ x ∷ archives ++ lines
glued part runs back removal rest archives lines x e1 e2 e3 e4 = e1 ∙ ap (λ l. runs ++ l) (e2 ∙ ap₂ (λ u v. u ++ v) e3 e4) ∙ sym (append_assoc runs (x ∷ archives) lines)

pub built : (t : Terms) (set : BuildConfig) (env : EnvSeen) (way : Way) (look : Look) (output : List ℕ) (part : List Event) (x y : Means) → Repeats set way.firsts → Hears t.shows.listens way.found → refusal_error set env look output ≡ None → Went t (planned_stages set env way look output) part x y → Built t set env look output part
built t set env way look output part x y repeats hears h w =
    let accepted : Accepted set env look output = no_error set env look output h in
    let sources = first_part set env way look output in
    let archive = middle_part set env way look output in
    let link = last_part set env way look output in
    let compiles = compiles_planned set env way.found.here look in
    let all : Went t (sources ++ (removal_stages set env output ++ (archive ++ link))) part x y = subst (λ (stages : List Stage). Went t stages part x y) (accepted_stages set env way look output accepted) w in
    let c1 = went_split t sources (removal_stages set env output ++ (archive ++ link)) part x y all in
    let c2 = went_split t (removal_stages set env output) (archive ++ link) c1.1 c1.2 y c1.3.2 in
    let c3 = went_split t archive link c2.1 c2.2 y c2.3.2 in
    let removal = removal_is t set env output c2.0 c1.2 c2.2 c2.3.1 in
    record {
      accepted = accepted;
      way = way;
      repeats = repeats;
      hears = hears;
      runs = c1.0;
      how = removal.0;
      archives = c3.0;
      lines = c3.1;
      cut = glued part c1.0 c1.1 c2.0 c2.1 c3.0 c3.1 (Removed (library_of set env output) removal.0) c1.3.0 c2.3.0 removal.1 c3.3.0;
      compiled = (x, c1.2, c1.3.1);
      compiles = started_from t sources c1.0 x c1.2 compiles c1.3.1 (source_children set env way look output) ∙ asked_planned t.shows set env way.found.here look;
      ended = went_well t sources c1.0 x c1.2 c1.3.1;
      archived = (c2.2, c3.2, c3.3.1);
      writes = archive_writes t set env look way.writing output c3.0 c2.2 c3.2 c3.3.1;
      first = archive_first t set env look way.writing output c3.0 c2.2 c3.2 c3.3.1;
      others = archive_others t set env look way.writing output c3.0 c2.2 c3.2 c3.3.1;
      written = went_well t archive c3.0 c2.2 c3.2 c3.3.1;
      linked = (c3.2, y, c3.3.2);
    }

-- a run that answers Ok is built
pub built_on_ok : {T : Type 0} (t : Terms) (set : BuildConfig) (env : EnvSeen) (way : Way) (look : Look) (output : List ℕ) (part : List Event) (r : Result T ErrorSeen) (x y : Means) → Repeats set way.firsts → Hears t.shows.listens way.found → Ends t (refusal_error set env look output) (planned_stages set env way look output) part r x y → OnOk r (Built t set env look output part)
built_on_ok t set env way look output part (Ok v) x y repeats hears o = built t set env way look output part x y repeats hears o.0 o.1
built_on_ok t set env way look output part (Err e) x y repeats hears o = tt
