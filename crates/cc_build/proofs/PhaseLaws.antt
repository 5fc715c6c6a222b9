-- How a part of a run ends, by what it asked and by the stages that it did.
use Rattle.cc_host.specs.Part.Step.{Removes}
use Rattle.cc_build.specs.declared.directives.Lines.{Lines}
use Rattle.cc_flags.specs.declared.variables.Reads.{Reads}
use Rattle.std.proofs.Common.{◌≡◌, ◌⊎◌, inl, inr, ℕ, List, [], ◌∷◌, ◌++◌, Bool, true, false, Option, Some, None, is_some, Result, Ok, Err, map, slice_get, unwrap_or, if◌then◌else◌, refl, sym, ◌∙◌, ap, ap₂, subst, append_assoc, option_map}
use Rattle.std.specs.List.{list_all}
use Rattle.std.proofs.lemmas.List.{map-append}
use Rattle.std.proofs.lemmas.Bool.{or_parts}
use Rattle.cc_host.specs.Part.{Step, since}
use Rattle.cc_host.specs.Question.{Look}
use Rattle.cc_host.specs.declared.event.Event.{Event}
use Rattle.cc_host.specs.declared.event.Role.TheVariants.{Archive, Index}
use Rattle.std.specs.List.{flat_map}
use Rattle.cc_host.proofs.Parts.{since_since, since_extends}
use Rattle.cc_plan.specs.Archive as archive
use Rattle.cc_plan.specs.Archive.{archiver_of}
use Rattle.cc_flags.specs.ArchiveNames.{is_msvc}
use Rattle.cc_text.specs.Batches.{batches_of}
use Rattle.cc_plan.specs.LibForm.{has_one_form, is_lib, copy_path_of}
use Rattle.cc_plan.specs.Libtool.{is_libtool, lists_of}
use Rattle.cc_plan.specs.Link.{link_lines as lines_of}
use Rattle.cc_flags.specs.Names.{library_name}
use Rattle.cc_flags.specs.declared.settings.BuildConfig.{BuildConfig}
use Rattle.cc_env.specs.Env.{EnvSeen}
use Rattle.cc_plan.specs.Plan.{library_of, archived_of, archived_refusal, archive_refusal, archives_of, indexes_of, lists_of_run, run_has_one_form, run_asks_folder, copy_steps, link_lines, removal_steps, copy_by}
use Rattle.cc_plan.specs.Quiet.{quiet_warnings}
use Rattle.cc_flags.specs.Target.{target_info}
use Rattle.cc_target.specs.Targets.{info_seen, Info}
use Rattle.cc_plan.specs.Refusal.{archiver_refusal, link_refusal}
use Rattle.cc_flags.specs.Given.{first_of}
use Rattle.cc_plan.specs.declared.archiver.Archiver.{Archiver}
use Rattle.cc_plan.specs.declared.error.PlanError.{PlanError}
use Rattle.cc_flags.specs.declared.link_line.LinkLine.{LinkLine}
use Rattle.cc_text.proofs.BatchLaws.{joined}
use Rattle.cc_run.specs.declared.planned.Planned.{Planned}
use Rattle.cc_run.specs.declared.planned.Shows.{Shows}
use Rattle.cc_tool.specs.Probing.{is_asked}
use Rattle.cc_build.specs.Error.{ErrorSeen, no_memory}
use Rattle.cc_build.specs.Course.{Course, course, CallsEnd}
use Rattle.cc_build.specs.Phases.{error_in, HereEnds, Begins, BeginStops, WriteEnds, LibraryEnds, LinkEnds, LinkedEnds, cargo_stages}
use Rattle.cc_build.specs.Questions.{Archives, IsRefusedBy, AreLines}
use Rattle.cc_build.specs.Refusal.{plan_error}
use Rattle.cc_build.specs.Seen.{stages_seen, commands_for, copying_steps, ready_steps, form_stages, library_seen}
use Rattle.cc_build.specs.Stage.{Stage, calls, planned, beside, in_turn, tried, behind_first, asked_then, removal_stages, ready_stages, archive_stages, copy_stages, asking_steps, finding_steps, link_stages, folder_in, links_of, library_stages, ending_stages, later_stages, run_reads, printed_stages, written, writings, library_commands}
use Rattle.cc_build.specs.Way.{Way, Found, Writing, writing_of, Firsts, all_firsts, way_of}
use Rattle.cc_build.specs.Stage.Stage.{Calls, Asks, Tries}
use Rattle.cc_build.specs.Went.{Terms, Means, terms, Went, Halted, Ends}
use Rattle.cc_plan.specs.declared.archiver.Library.{Library}
use Rattle.cc_build.specs.declared.stage.Stage.{Stage as Coded}
use Rattle.cc_build.specs.declared.task.Task.{Task}
use Rattle.cc_build.proofs.Going.{went_none, went_one, went_from, ends_from, halted_none, halted_more, halted_among, halted_from, phase_ends, ends_join, halted_join}

-- ---- questions, and then stages

module _ (t : Terms) (f : PlanError → ErrorSeen) (p : Option PlanError) (stages : List Stage) (old mid new : List Event) (x : Means) (first : mid ≡ old ++ since old mid) (last : new ≡ mid ++ since mid new) (asked : list_all is_asked (since old mid) ≡ true) (allowed : p ≡ None) where
  -- the stages were those
  pub phase_done : {T : Type 0} (these : List Stage) (r : Result T ErrorSeen) (z : Means) → these ≡ stages → Ends t None these (since mid new) r x z → Ends t (option_map f p) (asked_then p stages) (since old new) r x z
  phase_done these r z same o =
      subst (λ (part : List Event). Ends t (option_map f p) (asked_then p stages) part r x z) (sym (since_since old mid new first last))
      (phase_ends t f p stages (since old mid) (since mid new) r x z allowed asked (subst (λ (s : List Stage). Ends t None s (since mid new) r x z) same o))

  pub phase_went_on : (these : List Stage) (z : Means) → these ≡ stages → Went t these (since mid new) x z → Went t (Asks ∷ stages) (since old new) x z
  phase_went_on these z same w =
      went_from t old mid new (Asks ∷ []) stages x x z first last (went_one t Asks (since old mid) x x (asked, refl)) (subst (λ (s : List Stage). Went t s (since mid new) x z) same w)

  pub phase_halted : (these : List Stage) (e : ErrorSeen) (z : Means) → these ≡ stages → Halted t None these (since mid new) e x z → Halted t (option_map f p) (asked_then p stages) (since old new) e x z
  phase_halted these e z same h = phase_done {T = Unit {0}} these (Err e) z same h

-- ---- the stages of the parts

abbrev pub found_of : Bool → Option (List ℕ) → Found
found_of warns_of_link here = record { warns_of_link = warns_of_link; here = here }

pub line_stages : (task : Task) (reads : Reads) (name library : List ℕ) (lines : Lines) (firsts : Firsts) (look : Look) (these : List Stage) → these ≡ printed_stages task.reporting.shows.listens lines.links.warnings firsts lines.links.lines.items lines.names → AreLines task reads name library lines look → these ≡ cargo_stages task reads name library firsts look
line_stages task reads name library lines firsts look these is h =
    let listens = task.reporting.shows.listens in
    is
    ∙ ap (λ t. printed_stages listens t firsts lines.links.lines.items lines.names) h.links.warnings
    ∙ ap (λ l. printed_stages listens (quiet_warnings task.set.now task.env.now look) firsts l lines.names) h.links.are
    ∙ ap (printed_stages listens (quiet_warnings task.set.now task.env.now look) firsts (links_of task.set.now task.env.now name library look)) h.names

-- the stages of a library are those of the settings
module _ (task : Task) (library : Library) (look : Look) (writing : Writing) (h : Archives task library.archiver.now look) (target : info_seen library.target.now ≡ target_info task.set.now task.env.now) (env : library.env.now ≡ task.env.now) (name : library.name.now ≡ library_name task.output.now) (path : library.path.now ≡ library_of task.set.now task.env.now task.output.now) (paths : library.paths.now ≡ archived_of task.set.now task.env.now) where
  -- its commands for a target
  abbrev commands_with : Info → List Planned
  commands_with info =
      planned Archive (archive.archives_of info library.archiver.now library.env.now library.path.now writing.is_plain writing.here library.paths.now)
      ++ planned Index (archive.indexes_of info library.archiver.now library.env.now library.path.now writing.is_plain library.paths.now)

  commands_there : commands_with (target_info task.set.now task.env.now) ≡ library_commands task.set.now task.env.now look writing task.output.now
  unfolding archives_of indexes_of
  commands_there = let is = h.is in rw (is, env, path, paths) refl

  commands_are : commands_for library writing ≡ library_commands task.set.now task.env.now look writing task.output.now
  commands_are = ap commands_with target ∙ commands_there

  form_is : has_one_form (info_seen library.target.now) library.archiver.now ≡ run_has_one_form task.set.now task.env.now look
  unfolding run_has_one_form
  form_is = let is = h.is in rw (is, target) refl

  asking_is : archive.asks_folder (info_seen library.target.now) library.archiver.now library.path.now library.paths.now ≡ run_asks_folder task.set.now task.env.now look task.output.now
  unfolding run_asks_folder
  asking_is = let is = h.is in rw (is, target, path, paths) refl

  lists_are : lists_of library.archiver.now library.path.now library.paths.now ≡ lists_of_run task.set.now task.env.now look task.output.now
  unfolding lists_of_run
  lists_are = let is = h.is in rw (is, path, paths) refl

  -- its copy for a target
  abbrev copies_with : Info → List Step
  copies_with info = copy_by (is_msvc info) library.path.now (copy_path_of library.path.now library.name.now)

  copies_there : copies_with (target_info task.set.now task.env.now) ≡ copy_steps task.set.now task.env.now task.output.now
  unfolding copy_steps
  copies_there = rw (name, path) refl

  copies_are : copying_steps library ≡ copy_steps task.set.now task.env.now task.output.now
  copies_are = ap copies_with target ∙ copies_there

  -- the stages, by what they are made of
  abbrev made : List ℕ → List (List ℕ × List ℕ) → Bool → Bool → List Planned → List Step → List Stage
  made p l a o c k = calls (Removes p ∷ (writings l ++ asking_steps a writing.here)) ++ (written o writing.is_plain c ++ calls k)

  pub library_is : library_seen library writing ≡ library_stages task.set.now task.env.now writing look task.output.now
  unfolding removal_stages removal_steps ready_stages archive_stages copy_stages
  library_is =
      let lists = lists_of library.archiver.now library.path.now library.paths.now in
      let asks = archive.asks_folder (info_seen library.target.now) library.archiver.now library.path.now library.paths.now in
      let form = has_one_form (info_seen library.target.now) library.archiver.now in
      let at = library_of task.set.now task.env.now task.output.now in
      let listed = lists_of_run task.set.now task.env.now look task.output.now in
      let asked = run_asks_folder task.set.now task.env.now look task.output.now in
      let formed = run_has_one_form task.set.now task.env.now look in
      let cmds = library_commands task.set.now task.env.now look writing task.output.now in
      ap (λ p. made p lists asks form (commands_for library writing) (copying_steps library)) path
      ∙ ap (λ l. made at l asks form (commands_for library writing) (copying_steps library)) lists_are
      ∙ ap (λ a. made at listed a form (commands_for library writing) (copying_steps library)) asking_is
      ∙ ap (λ o. made at listed asked o (commands_for library writing) (copying_steps library)) form_is
      ∙ ap (λ c. made at listed asked formed c (copying_steps library)) commands_are
      ∙ ap (λ k. made at listed asked formed cmds k) copies_are

-- ---- what the archive wants

-- nothing is refused: neither the archiver nor what it archives
pub archive_allowed : (task : Task) (archiver : Archiver) (look : Look) → Archives task archiver look → archived_refusal task.set.now task.env.now archiver (archived_of task.set.now task.env.now) ≡ None → archive_refusal task.set.now task.env.now look ≡ None
unfolding archive_refusal
archive_allowed task archiver look h none = ap₂ first_of h.allowed (ap (λ a. archived_refusal task.set.now task.env.now a (archived_of task.set.now task.env.now)) (sym h.is) ∙ none)

-- the archiver is refused
pub archiver_refused : (task : Task) (e : ErrorSeen) (look : Look) → IsRefusedBy (archiver_refusal task.set.now task.env.now) task e look → IsRefusedBy (archive_refusal task.set.now task.env.now) task e look
unfolding archive_refusal
archiver_refused task e look (inl memory) = inl memory
archiver_refused task e look (inr is) = inr (refused_first (plan_error task.set.now task.env.now task.output.now) (archiver_refusal task.set.now task.env.now look) (archived_refusal task.set.now task.env.now (archiver_of task.set.now task.env.now look) (archived_of task.set.now task.env.now)) e is)
  where
    refused_first : (f : PlanError → ErrorSeen) (a b : Option PlanError) (e : ErrorSeen) → option_map f a ≡ Some e → option_map f (first_of a b) ≡ Some e
    refused_first f None b e h = absurd (cc)
    refused_first f (Some x) b e h = h

-- a path is refused, or the target
pub path_refused : (task : Task) (archiver : Archiver) (e : ErrorSeen) (look : Look) → Archives task archiver look → (e ≡ no_memory) ⊎ (option_map (plan_error task.set.now task.env.now task.output.now) (archived_refusal task.set.now task.env.now archiver (archived_of task.set.now task.env.now)) ≡ Some e) → IsRefusedBy (archive_refusal task.set.now task.env.now) task e look
unfolding archive_refusal
path_refused task archiver e look h (inl memory) = inl memory
path_refused task archiver e look h (inr is) =
    inr (ap (option_map (plan_error task.set.now task.env.now task.output.now)) (ap₂ first_of h.allowed (ap (λ a. archived_refusal task.set.now task.env.now a (archived_of task.set.now task.env.now)) (sym h.is))) ∙ is)

-- ---- the commands of the two forms

no_batches : (paths : List (List ℕ)) → batches_of paths ≡ [] → paths ≡ []
no_batches paths none = sym (joined paths) ∙ ap (λ b. flat_map (λ x. x) b) none

first_eq : {a b : Planned} {k l : List Planned} → a ∷ k ≡ b ∷ l → a ≡ b
first_eq h = cc

some_last : (a : List Stage) → a ++ Asks ∷ [] ≡ [] → ⊥
some_last [] h = cc
some_last (s ∷ a) h = cc

-- they begin with the same command
module _ (library : Library) where
  abbrev indexes_if : Bool → Bool → List (List ℕ) → List Planned
  indexes_if msvc is_plain paths = planned Index (if msvc then [] else archive.indexes_by library.archiver.now library.env.now library.path.now is_plain paths)

  abbrev commands_by : Bool → Bool → List (List (List ℕ)) → List (List ℕ) → List Planned
  commands_by msvc is_plain batches paths =
      planned Archive (archive.archives_by library.archiver.now library.env.now library.path.now is_plain batches) ++ indexes_if msvc is_plain paths

  plain_first : (msvc : Bool) (batches : List (List (List ℕ))) (paths : List (List ℕ)) (p : Planned) (ps : List Planned) → (batches ≡ [] → paths ≡ []) → commands_by msvc false batches paths ≡ p ∷ ps → (more : List Planned) × (commands_by msvc true batches paths ≡ p ∷ more)
  plain_first msvc (batch ∷ batches) paths p ps none e =
      let more = planned Archive (map (archive.archive_of library.archiver.now library.env.now library.path.now true) (batch ∷ batches)) ++ indexes_if msvc true paths in
      (more, ap (λ q. q ∷ more) (first_eq e))
  plain_first true [] [] p ps none e = absurd (cc)
  plain_first false [] [] p ps none e =
      let more = planned Index (archive.plain_index_of library.archiver.now library.env.now library.path.now ∷ []) in
      (more, ap (λ q. q ∷ more) (first_eq e))
  plain_first msvc [] (path ∷ paths) p ps none e = absurd (let k : path ∷ paths ≡ [] = none refl in cc)

-- its copy, behind its commands
abbrev copies_of : Library → List Stage
copies_of library = calls (copying_steps library)

-- memory was wanted before the commands
pub begin_wanting : (shows : Shows) (library : Library) (here : List ℕ) (e : ErrorSeen) (part : List Event) → part ≡ [] → e ≡ no_memory → BeginStops shows library here e part
begin_wanting shows library here e part none memory =
    let stages = form_stages library (writing_of false here) in (
      false,
      λ total patience x. halted_none (terms shows total patience) None (stages ++ Asks ∷ []) part e x none memory (λ empty. absurd (some_last stages empty)),
    )

-- all commands of an archiver with one form are left
pub begins_one_form : (shows : Shows) (library : Library) (here : List ℕ) (left : List Coded) (forms : List Planned) (part : List Event) → has_one_form (info_seen library.target.now) library.archiver.now ≡ true → forms ≡ commands_for library (writing_of false here) → stages_seen left ≡ in_turn forms ++ copies_of library → part ≡ [] → Begins shows library here left part
begins_one_form shows library here left forms part one are is none =
    let cmds = commands_for library (writing_of false here) in (
      false,
      [],
      (ap (λ b. (if b then in_turn cmds else tried false cmds) ++ copies_of library) one ∙ sym (is ∙ ap (λ l. in_turn l ++ copies_of library) are), λ total patience x. went_none (terms shows total patience) part x none),
    )

module _ (shows : Shows) (library : Library) (here : List ℕ) (other : has_one_form (info_seen library.target.now) library.archiver.now ≡ false) where
  abbrev by : Bool → Writing
  by is_plain = writing_of is_plain here

  -- another archiver's first command is tried
  forms_tried : (is_plain : Bool) → form_stages library (by is_plain) ≡ tried is_plain (commands_for library (by is_plain)) ++ copies_of library
  forms_tried is_plain = ap (λ b. (if b then in_turn (commands_for library (by is_plain)) else tried is_plain (commands_for library (by is_plain))) ++ copies_of library) other

  neither : (is_libtool library.archiver.now ≡ false) × (is_lib (info_seen library.target.now) library.archiver.now ≡ false)
  unfolding has_one_form
  neither = or_parts (is_libtool library.archiver.now) (is_lib (info_seen library.target.now) library.archiver.now) other

  in_batches : (is_plain : Bool) → commands_for library (by is_plain) ≡ commands_by library (is_msvc (info_seen library.target.now)) is_plain (batches_of library.paths.now) library.paths.now
  in_batches is_plain =
      let tool : is_libtool library.archiver.now ≡ false = neither.0 in
      let lib : is_lib (info_seen library.target.now) library.archiver.now ≡ false = neither.1 in
      rw (tool, lib) refl

  form_first : (is_plain : Bool) (p : Planned) (ps : List Planned) → commands_for library (by false) ≡ p ∷ ps → (more : List Planned) × (commands_for library (by is_plain) ≡ p ∷ more)
  form_first false p ps e = (ps, e)
  form_first true p ps e =
      let r = plain_first library (is_msvc (info_seen library.target.now)) (batches_of library.paths.now) library.paths.now p ps (no_batches library.paths.now) (sym (in_batches false) ∙ e) in
      (r.0, in_batches true ∙ r.1)

  -- there is no command
  pub begins_none : (left : List Coded) (forms : List Planned) (part : List Event) → forms ≡ commands_for library (by false) → forms ≡ [] → stages_seen left ≡ in_turn forms ++ copies_of library → part ≡ [] → Begins shows library here left part
  begins_none left forms part are none is still = (
    false,
    [],
    (forms_tried false ∙ ap (λ l. tried false l ++ copies_of library) (sym are ∙ none) ∙ sym (is ∙ ap (λ l. in_turn l ++ copies_of library) none), λ total patience x. went_none (terms shows total patience) part x still),
  )

  module _ (p : Planned) (rest : List Planned) (is : commands_for library (by false) ≡ p ∷ rest) (part : List Event) where
    -- the run ended at the first command
    pub begin_untried : (e : ErrorSeen) → ((total patience : Option ℕ) (refused : Bool) (x : Means) → Halted (terms shows total patience) None (Tries refused p ∷ []) part e x x) → BeginStops shows library here e part
    begin_untried e h = (
      false,
      λ total patience x.
          subst (λ (l : List Stage). Halted (terms shows total patience) None (l ++ Asks ∷ []) part e x x) (sym (forms_tried false ∙ ap (λ l. tried false l ++ copies_of library) is))
          (halted_more (terms shows total patience) None (Tries false p ∷ []) ((in_turn rest ++ copies_of library) ++ Asks ∷ []) part e x x (h total patience false x)),
    )

    module _ (is_plain : Bool) (w : (total patience : Option ℕ) (x : Means) → Went (terms shows total patience) (Tries is_plain p ∷ []) part x x) where
      -- it was tried, and the others are left
      pub begins_tried : (left : List Coded) → stages_seen left ≡ in_turn (behind_first (commands_for library (by is_plain))) ++ copies_of library → Begins shows library here left part
      begins_tried left others =
          let f = form_first is_plain p rest is in
          (is_plain, Tries is_plain p ∷ [], (forms_tried is_plain ∙ ap (λ l. tried is_plain l ++ copies_of library) f.1 ∙ ap (λ l. Tries is_plain p ∷ l) (sym (others ∙ ap (λ l. in_turn (behind_first l) ++ copies_of library) f.1)), w))

      -- memory was wanted for the others
      pub begin_stopped : (e : ErrorSeen) → e ≡ no_memory → BeginStops shows library here e part
      begin_stopped e memory =
          let f = form_first is_plain p rest is in
          let behind = in_turn f.0 ++ copies_of library in (
            is_plain,
            λ total patience x.
                subst (λ (l : List Stage). Halted (terms shows total patience) None (l ++ Asks ∷ []) part e x x) (sym (forms_tried is_plain ∙ ap (λ l. tried is_plain l ++ copies_of library) f.1))
                (halted_among (terms shows total patience) None (Tries is_plain p ∷ []) (behind ++ Asks ∷ []) part e x x (w total patience x) memory (λ none. absurd (some_last behind none))),
          )

-- ---- the library is written

-- calls of the host were made, and then others, or weren't
pub calls_then : {T : Type 0} (a b : List Step) (old mid new : List Event) (r : Result T ErrorSeen) → mid ≡ old ++ since old mid → new ≡ mid ++ since mid new → CallsEnd {T = Unit {0}} a (since old mid) (Ok tt) → CallsEnd b (since mid new) r → CallsEnd (a ++ b) (since old new) r
calls_then a b old mid new r first last done ends = λ t x.
    subst (λ (l : List Stage). Ends t None l (since old new) r x x) (sym (map-append Calls a b)) (ends_from t None old mid new (calls a) (calls b) r x x x first last (done t x).1 (ends t x))

-- the first of them weren't
pub calls_stopped : (a b : List Step) (part : List Event) (e : ErrorSeen) → CallsEnd {T = Unit {0}} a part (Err e) → CallsEnd {T = Unit {0}} (a ++ b) part (Err e)
calls_stopped a b part e h = λ t x.
    subst (λ (l : List Stage). Halted t None l part e x x) (sym (map-append Calls a b)) (halted_more t None (calls a) (calls b) part e x x (h t x))

-- memory was wanted before any of them
pub calls_wanting : (step : Step) (steps : List Step) (part : List Event) (e : ErrorSeen) → part ≡ [] → e ≡ no_memory → CallsEnd {T = Unit {0}} (step ∷ steps) part (Err e)
calls_wanting step steps part e none memory = λ t x. halted_none t None (calls (step ∷ steps)) part e x none memory (λ empty. absurd (cc))

-- the folder that is asked for, as it is found
found_steps : (asks : Bool) (here : Option (List ℕ)) → is_some here ≡ asks → finding_steps here ≡ asking_steps asks (unwrap_or here [])
found_steps true None is = absurd (cc)
found_steps true (Some path) is = refl
found_steps false None is = refl
found_steps false (Some path) is = absurd (cc)

pub asked_here : (asks : Bool) (here : Option (List ℕ)) (part : List Event) → HereEnds asks (Ok here) part → CallsEnd {T = Unit {0}} (asking_steps asks (unwrap_or here [])) part (Ok tt)
asked_here asks here part h = subst (λ (steps : List Step). CallsEnd {T = Unit {0}} steps part (Ok tt)) (found_steps asks here h.0) h.1

-- it wasn't told
pub unasked_here : (asks : Bool) (e : ErrorSeen) (part : List Event) → HereEnds asks (Err e) part → (here : List ℕ) → CallsEnd {T = Unit {0}} (asking_steps asks here) part (Err e)
unasked_here true e part h here = h (Some here) refl
unasked_here false e part h here = h None refl

-- the old library was removed, and then its list was written, or wasn't
pub ready_then : {T : Type 0} (step : Step) (steps : List Step) (old mid new : List Event) (r : Result T ErrorSeen) → mid ≡ old ++ since old mid → new ≡ mid ++ since mid new → CallsEnd {T = Unit {0}} (step ∷ []) (since old mid) (Ok tt) → CallsEnd steps (since mid new) r → CallsEnd (step ∷ steps) (since old new) r
ready_then step steps old mid new r first last a b = λ t x. ends_from t None old mid new (calls (step ∷ [])) (calls steps) r x x x first last (a t x).1 (b t x)

-- the old library couldn't be removed
pub unready : (step : Step) (steps : List Step) (part : List Event) (e : ErrorSeen) → CallsEnd {T = Unit {0}} (step ∷ []) part (Err e) → CallsEnd {T = Unit {0}} (step ∷ steps) part (Err e)
unready step steps part e h = λ t x. halted_more t None (calls (step ∷ [])) (calls steps) part e x x (h t x)

module _ (shows : Shows) (library : Library) (total patience : Option ℕ) where
  abbrev readies : List ℕ → List Stage
  readies here = calls (ready_steps library here)

  abbrev of_shows : Option ℕ → Terms
  of_shows m = terms shows total m

  -- it wasn't made ready
  pub write_unready : (part : List Event) (e : ErrorSeen) (x : Means) → ((here : List ℕ) → CallsEnd {T = Unit {0}} (ready_steps library here) part (Err e)) → WriteEnds {T = Unit {0}} shows library (Err e) part (course total patience x x)
  write_unready part e x h =
      let writing = writing_of false [] in (
        writing,
        halted_more (of_shows patience) None (library_seen library writing) (Asks ∷ []) part e x x (halted_more (of_shows patience) None (readies []) (form_stages library writing) part e x x (h [] (of_shows patience) x)),
      )

  module _ (old made new : List Event) (x : Means) (first : made ≡ old ++ since old made) (last : new ≡ made ++ since made new) (here : List ℕ) (ready : CallsEnd {T = Unit {0}} (ready_steps library here) (since old made) (Ok tt)) where
    -- it wasn't begun
    pub write_stopped : (e : ErrorSeen) → BeginStops shows library here e (since made new) → WriteEnds {T = Unit {0}} shows library (Err e) (since old new) (course total patience x x)
    write_stopped e s =
        let form = form_stages library (writing_of s.0 here) in (
          writing_of s.0 here,
          subst (λ (l : List Stage). Halted (of_shows patience) None l (since old new) e x x) (sym (append_assoc (readies here) form (Asks ∷ [])))
              (halted_from (of_shows patience) None old made new (readies here) (form ++ Asks ∷ []) e x x x first last (ready (of_shows patience) x).1 (s.1 total patience x)),
        )

    module _ (left : List Coded) (begins : Begins shows library here left (since made new)) (end : List Event) (z : Means) (before : Option ℕ) (grew : end ≡ new ++ since new end) (patient : before ≡ patience) where
      abbrev begun : List Stage
      begun = readies here ++ begins.1

      abbrev how : Writing
      how = writing_of begins.0 here

      split : begun ++ stages_seen left ≡ library_seen library how
      split = append_assoc (readies here) begins.1 (stages_seen left) ∙ ap (λ l. readies here ++ l) (sym begins.2.0)

      went : Went (of_shows patience) begun (since old new) x x
      went = went_from (of_shows patience) old made new (readies here) begins.1 x x x first last (ready (of_shows patience) x).1 (begins.2.1 total patience x)

      -- what was left was done, or the run ended among it
      pub write_ends : {T : Type 0} (r : Result T ErrorSeen) → Ends (of_shows before) None (stages_seen left) (since new end) r x z → WriteEnds shows library r (since old end) (course total patience x z)
      write_ends (Ok v) o = (
        how,
        subst (λ (l : List Stage). Went (of_shows patience) l (since old end) x z) split
            (went_from (of_shows patience) old new end begun (stages_seen left) x x z (since_extends old made new first last) grew went (subst (λ (m : Option ℕ). Went (of_shows m) (stages_seen left) (since new end) x z) patient o.1)),
      )
      write_ends (Err e) h = (
        how,
        halted_more (of_shows patience) None (library_seen library how) (Asks ∷ []) (since old end) e x z
            (subst (λ (l : List Stage). Halted (of_shows patience) None l (since old end) e x z) split
            (halted_from (of_shows patience) None old new end begun (stages_seen left) e x x z (since_extends old made new first last) grew went (subst (λ (m : Option ℕ). Halted (of_shows m) None (stages_seen left) (since new end) e x z) patient h))),
      )

some_eq : {a b : Planned} → Some a ≡ Some b → a ≡ b
some_eq h = cc

-- the first of these commands
pub first_command : (l k : List Planned) (p : Planned) → Some p ≡ slice_get l 0 → l ≡ k → (rest : List Planned) × (k ≡ p ∷ rest)
first_command [] k p at is = absurd (let none : Some p ≡ None = at in cc)
first_command (q ∷ l) k p at is = (l, sym is ∙ ap (λ o. o ∷ l) (some_eq (sym at)))

-- ---- one part after another

module _ (t : Terms) (f : PlanError → ErrorSeen) where
  -- the whole of two parts: the first was done
  pub part_then : {T : Type 0} (p : Option PlanError) (refusal : Option ErrorSeen) (a b : List Stage) (old mid new : List Event) (r : Result T ErrorSeen) (x y z : Means) → mid ≡ old ++ since old mid → new ≡ mid ++ since mid new → p ≡ None → Went t (Asks ∷ a) (since old mid) x y → Ends t refusal b (since mid new) r y z → Ends t (first_of (option_map f p) refusal) (asked_then p (a ++ b)) (since old new) r x z
  part_then p refusal a b old mid new r x y z first last allowed w o =
      subst (λ (part : List Event). Ends t (first_of (option_map f p) refusal) (asked_then p (a ++ b)) part r x z) (sym (since_since old mid new first last))
      (ends_join t f p refusal a b (since old mid) (since mid new) r x y z allowed w o)

  -- the run ended before the questions of the second
  pub part_before : (p q : Option PlanError) (refusal : Option ErrorSeen) (a b : List Stage) (part : List Event) (e : ErrorSeen) (x z : Means) → Halted t (option_map f p) (asked_then p (a ++ Asks ∷ [])) part e x z → Halted t (first_of (option_map f p) refusal) (asked_then p (a ++ asked_then q b)) part e x z
  part_before p q refusal a b part e x z h =
      subst (λ (l : List Stage). Halted t (first_of (option_map f p) refusal) (asked_then p l) part e x z) (append_assoc a (Asks ∷ []) _)
      (halted_join t f p refusal (a ++ Asks ∷ []) _ part e x z h)

-- ---- the parts behind the opening

module _ (t : Terms) (task : Task) (look : Look) (cmds : List Planned) where
  abbrev error_of : PlanError → ErrorSeen
  error_of = plan_error task.set.now task.env.now task.output.now

  abbrev archive_stop : Option PlanError
  archive_stop = archive_refusal task.set.now task.env.now look

  abbrev links : Option PlanError
  links = link_refusal task.set.now task.env.now look

  abbrev behind : Option ErrorSeen
  behind = first_of (error_in task archive_stop) (error_in task links)

  abbrev writes : Writing → List Stage
  writes writing = library_stages task.set.now task.env.now writing look task.output.now

  abbrev ending : Way → List Stage
  ending way = ending_stages task.set.now task.env.now way look task.output.now

  abbrev later : Way → List Stage
  later way = later_stages task.set.now task.env.now way look task.output.now

  later_is : (way : Way) → asked_then archive_stop (writes way.writing ++ ending way) ≡ later way
  unfolding later_stages
  later_is way = refl

  -- the commands were run, and the run ended at the library
  pub library_halted : (found : Found) (writing : Writing) (old mid new : List Event) (e : ErrorSeen) (x y z : Means) → mid ≡ old ++ since old mid → new ≡ mid ++ since mid new → Went t (beside cmds) (since old mid) x y → Halted t (error_in task archive_stop) (asked_then archive_stop (writes writing ++ Asks ∷ [])) (since mid new) e y z → Halted t behind (beside cmds ++ later (way_of found writing all_firsts)) (since old new) e x z
  library_halted found writing old mid new e x y z first last w h =
      let way = way_of found writing all_firsts in
      let links_in = link_stages task.set.now task.env.now (is_some found.here) look all_firsts task.output.now in
      halted_from t behind old mid new (beside cmds) (later way) e x y z first last w
      (subst (λ (l : List Stage). Halted t behind l (since mid new) e y z) (later_is way) (part_before t error_of archive_stop links (error_in task links) (writes writing) links_in (since mid new) e y z h))

  -- all of it, to the link lines
  pub links_end : {T : Type 0} (found : Found) (writing : Writing) (firsts : Firsts) (old mid made new : List Event) (r : Result T ErrorSeen) (x y z u : Means) → mid ≡ old ++ since old mid → made ≡ mid ++ since mid made → new ≡ made ++ since made new → Went t (beside cmds) (since old mid) x y → archive_stop ≡ None → Went t (Asks ∷ writes writing) (since mid made) y z → Ends t (error_in task links) (asked_then links (link_stages task.set.now task.env.now (is_some found.here) look firsts task.output.now)) (since made new) r z u → Ends t behind (beside cmds ++ later (way_of found writing firsts)) (since old new) r x u
  links_end found writing firsts old mid made new r x y z u first next last w allowed wrote o =
      let way = way_of found writing firsts in
      ends_from t behind old mid new (beside cmds) (later way) r x y u first (since_extends mid made new next last) w
      (subst (λ (l : List Stage). Ends t behind l (since mid new) r y u) (later_is way) (part_then t error_of archive_stop (error_in task links) (writes writing) (ending way) mid made new r y z u next last allowed wrote o))

-- ---- the library of a part

module _ (task : Task) (library : Library) (look : Look) (total patience before : Option ℕ) (old mid new : List Event) (x z : Means) (patient : before ≡ patience) (first : mid ≡ old ++ since old mid) (last : new ≡ mid ++ since mid new) (asked : list_all is_asked (since old mid) ≡ true) (plan : Archives task library.archiver.now look) (listed : archived_refusal task.set.now task.env.now library.archiver.now (archived_of task.set.now task.env.now) ≡ None) (target : info_seen library.target.now ≡ target_info task.set.now task.env.now) (env : library.env.now ≡ task.env.now) (name : library.name.now ≡ library_name task.output.now) (path : library.path.now ≡ library_of task.set.now task.env.now task.output.now) (paths : library.paths.now ≡ archived_of task.set.now task.env.now) where
  abbrev in_terms : Option ℕ → Terms
  in_terms p = terms task.reporting.shows total p

  allowed : archive_refusal task.set.now task.env.now look ≡ None
  allowed = archive_allowed task library.archiver.now look plan listed

  same_stages : (writing : Writing) → library_seen library writing ≡ library_stages task.set.now task.env.now writing look task.output.now
  same_stages writing = library_is task library look writing plan target env name path paths

  pub library_ends : {T : Type 0} (r : Result T ErrorSeen) → WriteEnds task.reporting.shows library r (since mid new) (course total before x z) → LibraryEnds task r look (since old new) (course total patience x z)
  library_ends (Ok v) w = (
    w.0,
    (
      allowed,
      phase_went_on (in_terms patience) (plan_error task.set.now task.env.now task.output.now) (archive_refusal task.set.now task.env.now look) (library_stages task.set.now task.env.now w.0 look task.output.now) old mid new x first last asked allowed
          (library_seen library w.0) z (same_stages w.0) (subst (λ (p : Option ℕ). Went (in_terms p) (library_seen library w.0) (since mid new) x z) patient w.1),
    ),
  )
  library_ends (Err e) h = (
    h.0,
    phase_halted (in_terms patience) (plan_error task.set.now task.env.now task.output.now) (archive_refusal task.set.now task.env.now look) (library_stages task.set.now task.env.now h.0 look task.output.now ++ Asks ∷ []) old mid new x first last asked allowed
        (library_seen library h.0 ++ Asks ∷ []) e z (ap (λ l. l ++ Asks ∷ []) (same_stages h.0)) (subst (λ (p : Option ℕ). Halted (in_terms p) None (library_seen library h.0 ++ Asks ∷ []) (since mid new) e x z) patient h.1),
  )

-- the link lines of a task's own library are those of its run
pub own_links : {T : Type 0} (task : Task) (reads : Reads) (name library : List ℕ) (r : Result T ErrorSeen) (look : Look) (part : List Event) (c : Course) → reads ≡ run_reads task.set.now → name ≡ library_name task.output.now → library ≡ library_of task.set.now task.env.now task.output.now → LinkedEnds task reads name library r look part c → LinkEnds task r look part c
unfolding link_stages link_lines
own_links task reads name library r look part c d n l h =
    subst (λ (m : List ℕ). LinkedEnds task (run_reads task.set.now) m (library_of task.set.now task.env.now task.output.now) r look part c) n
    (subst (λ (path : List ℕ). LinkedEnds task (run_reads task.set.now) name path r look part c) l
    (subst (λ (rd : Reads). LinkedEnds task rd name library r look part c) d h))

-- the link lines, by the name and the folder that the plan was given
pub links_by : (set : BuildConfig) (env : EnvSeen) (look : Look) (name library name' folder : List ℕ) (lines : List LinkLine) → name' ≡ name → folder ≡ folder_in library → lines_of set env name' folder look ≡ lines → links_of set env name library look ≡ lines
links_by set env look name library name' folder lines n f is = ap (λ m. lines_of set env m (folder_in library) look) (sym n) ∙ ap (λ k. lines_of set env name' k look) (sym f) ∙ is
