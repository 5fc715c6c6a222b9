-- What an archive alone answers, and what follows from it.
use Rattle.cc_build.specs.Way.{all_firsts, Writing, writing_of}
use Rattle.cc_plan.specs.Reruns.{rerun_names}
use Rattle.std.proofs.Common.{◌≡◌, ◌⊎◌, inl, inr, ℕ, ◌+◌, ◌<◌, List, [], ◌∷◌, ◌++◌, length, map, Bool, true, false, if◌then◌else◌, is_some, Option, Some, None, option_map, Result, Ok, Err, refl, sym, ◌∙◌, ap, ap₂, subst, append_assoc, append-nil, arith}
use Rattle.std.specs.Prelude.{◌≤◌, ◌*◌}
use Rattle.std.proofs.Math.Nat.{mul-le-mul_left}
use Rattle.cc_env.specs.Env.{EnvSeen}
use Rattle.cc_host.specs.Question.{Look, answers}
use Rattle.cc_host.specs.Part.{Step}
use Rattle.cc_host.specs.Part.Step.{Lists}
use Rattle.cc_host.specs.declared.event.Event.{Event}
use Rattle.cc_host.specs.declared.event.Event.TheVariants.{Listed}
use Rattle.cc_host.specs.declared.event.LineKind.TheVariants.{Rerun}
use Rattle.cc_host.specs.declared.question.Outcome.{Outcome}
use Rattle.cc_host.specs.declared.question.Question.{Question}
use Rattle.cc_jobs.specs.Seats.{Rose}
use Rattle.cc_flags.specs.Given.{is_disabled}
use Rattle.cc_plan.specs.Plan.{archive_refusal, lists_of_run, removal_steps, run_asks_folder, copy_steps, run_has_one_form}
use Rattle.cc_plan.specs.Questions.{RunAsks, PlanAsks, ArchiverAsks, RanlibAsks}
use Rattle.cc_plan.specs.Quiet.{quiet_warnings}
use Rattle.cc_plan.specs.Refusal.{name_refusal, early_refusal, path_refusal, link_refusal}
use Rattle.cc_flags.specs.Given.{first_of}
use Rattle.cc_plan.specs.declared.error.PlanError.{PlanError}
use Rattle.cc_flags.specs.declared.settings.BuildConfig.{BuildConfig}
use Rattle.cc_run.specs.Part.{turns}
use Rattle.cc_run.specs.Planned.{asked}
use Rattle.cc_run.specs.declared.planned.Planned.{Planned}
use Rattle.cc_tool.proofs.Asides.{asked_none, asked_around}
use Rattle.cc_tool.proofs.SomeLemmas.{some_agree}
use Rattle.cc_tool.specs.Asked.{question_events}
use Rattle.cc_build.specs.Archiving.{archive_reads, unarchived_error}
use Rattle.cc_build.specs.Attempts.{to_attempt}
use Rattle.cc_build.specs.Build.{BuildSeen, AsksByRun, probes}
use Rattle.cc_build.specs.Captured.{with_vars, Captures, CaptureEnds}
use Rattle.cc_build.specs.Course.{course_alone}
use Rattle.cc_build.specs.Error.{ErrorSeen}
use Rattle.cc_build.specs.Failed.{Failed, HasFault}
use Rattle.cc_build.specs.Linking.{linked_name, link_reads}
use Rattle.cc_build.specs.Promises.{terms_for, AreFirst, NothingRuns}
use Rattle.cc_build.specs.Refusal.{plan_error}
use Rattle.cc_build.specs.Shows.{shows_of}
use Rattle.cc_build.specs.Stage.{Stage, asked_then, archive_stages as library_archive, calls, commands_in, children_in, removal_stages, library_commands, library_stages, links_of, name_stages, printed_stages, written, written_children, writings, ending_steps, rerun_lines, ready_stages, copy_stages, asking_steps}
use Rattle.cc_build.specs.Stage.Stage.{Asks, Calls}
use Rattle.cc_build.specs.Went.{Terms, Means, Ends, Partly}
use Rattle.cc_build.proofs.FormLaws.{FormFirst, formed_then, formed_unless, library_first, none_first}
use Rattle.cc_build.proofs.Going.{called, halted_among, halted_more, ends_then}
use Rattle.cc_build.proofs.OrderLaws.{ended_partly, no_line_archives, no_note_archives}
use Rattle.cc_build.proofs.RerunLaws.{name_commands, name_children}
use Rattle.cc_build.proofs.RunLaws.{commands_then, commands_calls, commands_written, children_then, children_calls, children_written, went_started, went_well}
use Rattle.cc_build.proofs.SettledLaws.{went_attempts, partly_first}
use Rattle.cc_build.proofs.SourceLaws.{AreNotes, ending_notes}
use Rattle.cc_build.proofs.StopLaws.{ArePlain, plain_then, plain_lines, plain_notes, plain_unless, plain_library}
use Rattle.cc_build.proofs.TurnLaws.{halted_bound}
use Rattle.cc_command.specs.Answer.{AnswersError, error_line, heard, repeating, told, ended_well, ended_wanting}
use Rattle.cc_command.specs.Archived.{alone, library_at, directed_stages, behind_library, archive_stages, archive_refused, Agree, Archiving, build_in, wished_stages, wished_refusal, WishEnds, Says, Archived, Written, ArchivePromises}
use Rattle.cc_command.specs.Promises.{PrintsLast, IsLine, FaultsLast, EndsSpent}
use Rattle.cc_command.specs.Asks.{AsksAlone}
use Rattle.cc_command.specs.Shown.{AsksTools}
use Rattle.cc_command.specs.Read.{Request}
use Rattle.cc_command.specs.declared.ended.Ended.{Ended}
use Rattle.cc_command.proofs.EnoughLaws.{count, unless_few, ended_count, mapped, disabled_or, first_never, NeverSpent}
use Rattle.cc_command.proofs.PromiseLaws.{line_of, heard_same, turns_same, same_error, stages_last, spends}
use Rattle.cc_command.proofs.SettledPromises.{stages_settled, attempts_same}

-- ---- what was done for it

-- stages that are none go with a refusal
archive_open : (b : BuildSeen) (listens : Bool) (look links : Look) (output : List ℕ) (writing : Writing) → archive_stages b listens writing look links output ≡ [] → is_some (archive_refused b look links output) ≡ true
archive_open b listens look links output writing = by_early (unarchived_error (alone b).config (alone b).env output) _ _
  where
    by_early : (early late : Option ErrorSeen) (run : List Stage) → (if is_some early then [] else Asks ∷ run) ≡ [] → is_some (first_of early late) ≡ true
    by_early None late run h = absurd (cc)
    by_early (Some e) late run h = refl

-- nothing of a library was found out
abbrev unwritten : Writing
unwritten = writing_of false []

module _ (listens : Bool) (steady : Bool) (world : Question → Outcome) (patience : Option ℕ) (turns : ℕ) where
  none_asked : (b : BuildSeen) → AsksByRun steady world b []
  none_asked b = asked_none steady world (probes b) (RunAsks b.config b.env) [] refl

  -- the variables were not listed, or memory for their snapshot was wanted
  module _ (request : Request) (run : List Event) (e : ErrorSeen) where
    abbrev idle : Means
    idle = (course_alone patience turns turns).before

    unlisted_ends : (look links : Look) → CaptureEnds run (Err e) → WishEnds listens request patience turns (Err e) look links run
    unlisted_ends look links h = (turns, unwritten, stopped h)
      where
        b : BuildSeen
        b = build_in request run

        t : Terms
        t = terms_for (alone b) listens (course_alone patience turns turns)

        stopped : CaptureEnds run (Err e) → Ends {T = Unit {0}} t (archive_refused b look links request.0) (Calls Lists ∷ archive_stages b listens unwritten look links request.0) run (Err e) idle idle
        stopped (inl k) = halted_more t (archive_refused b look links request.0) (Calls Lists ∷ []) (archive_stages b listens unwritten look links request.0) run e idle idle (k t idle)
        stopped (inr k) = halted_among t (archive_refused b look links request.0) (Calls Lists ∷ []) (archive_stages b listens unwritten look links request.0) run e idle idle (k.1 t idle).1 k.0 (archive_open b listens look links request.0 unwritten)

    pub unlisted : (line part : List Event) (ended : Ended) → part ≡ run ++ line → question_events run ≡ [] → CaptureEnds run (Err e) → AnswersError e line ended → Archived listens steady world request patience turns part ended
    unlisted line part ended cut none h says = record {
      run = run;
      line = line;
      cut = cut;
      made = run;
      linked = [];
      parts = sym (append-nil run);
      made_asks = asked_none steady world (probes (alone (build_in request run))) (RunAsks (alone (build_in request run)).config (alone (build_in request run)).env) run none;
      linked_asks = none_asked (build_in request run);
      result = Err e;
      ends = λ look links agree. unlisted_ends look links h;
      says = says;
    }

  -- they were listed, and then the archive and its link lines ended so
  module _ (name : List ℕ) (before after : BuildSeen) (listing part : List Event) (k : Captures before after listing) (result : Result (Unit {0}) ErrorSeen) where
    abbrev listed_run : List Event
    listed_run = Listed k.vars ∷ part

    abbrev taken : BuildSeen
    taken = record before { env = with_vars before.env k.vars }

    listed_ends : (look links : Look) (left : ℕ) (writing : Writing) → Ends (terms_for (alone taken) listens (course_alone patience turns left)) (archive_refused taken look links name) (archive_stages taken listens writing look links name) part result (course_alone patience turns left).before (course_alone patience turns left).after → Ends (terms_for (alone taken) listens (course_alone patience turns left)) (archive_refused taken look links name) (Calls Lists ∷ archive_stages taken listens writing look links name) listed_run result (course_alone patience turns left).before (course_alone patience turns left).after
    listed_ends look links left writing o =
        let c = course_alone patience turns left in
        ends_then (terms_for (alone taken) listens c) (archive_refused taken look links name) (Calls Lists ∷ []) (archive_stages taken listens writing look links name) (Listed k.vars ∷ []) part result c.before c.before c.after (called (terms_for (alone taken) listens c) Lists (Listed k.vars) (Listed k.vars ∷ []) c.before refl refl) o

    of_taken : Archiving listens steady world after patience turns name part result → Archiving listens steady world taken patience turns name part result
    of_taken h = subst (λ (b : BuildSeen). Archiving listens steady world b patience turns name part result) k.is h

    pub archived_so : (line whole : List Event) (ended : Ended) → whole ≡ (listing ++ part) ++ line → Archiving listens steady world after patience turns name part result → Says result line ended → Archived listens steady world (name, before) patience turns whole ended
    archived_so line whole ended cut after_so says =
        let h : Archiving listens steady world taken patience turns name part result = of_taken after_so in
        record {
          run = listed_run;
          line = line;
          cut = cut ∙ ap (λ l. (l ++ part) ++ line) k.listed;
          made = Listed k.vars ∷ h.made;
          linked = h.linked;
          parts = ap (λ l. Listed k.vars ∷ l) h.cut;
          made_asks = subst (λ (l : List Event). AsksByRun steady world (alone taken) (Listed k.vars ∷ l)) (append-nil h.made) (asked_around steady world (probes (alone taken)) (RunAsks (alone taken).config (alone taken).env) (Listed k.vars ∷ []) h.made [] refl refl h.made_asks);
          linked_asks = h.linked_asks;
          result = result;
          ends = λ look links agree. let o = h.ends look links agree in (o.0, o.1, listed_ends look links o.0 o.1 o.2);
          says = says;
        }

-- ---- the commands of a library

module _ (set : BuildConfig) (env : EnvSeen) (writing : Writing) (look : Look) (output : List ℕ) where
  abbrev old : List Stage
  old = calls (removal_steps set env output)

  abbrev readying : List Step
  readying = writings (lists_of_run set env look output) ++ asking_steps (run_asks_folder set env look output) writing.here

  abbrev ready : List Stage
  ready = calls readying

  abbrev run : List Stage
  run = written (run_has_one_form set env look) writing.is_plain (library_commands set env look writing output)

  abbrev copy : List Stage
  copy = calls (copy_steps set env output)

  commands_library : commands_in (library_stages set env writing look output) ≡ library_commands set env look writing output
  unfolding removal_stages ready_stages library_archive copy_stages
  commands_library =
      commands_then old (ready ++ (run ++ copy)) ∙ ap (λ l. l ++ commands_in (ready ++ (run ++ copy))) (commands_calls (removal_steps set env output))
      ∙ commands_then ready (run ++ copy) ∙ ap (λ l. l ++ commands_in (run ++ copy)) (commands_calls readying)
      ∙ commands_then run copy ∙ ap (λ l. commands_in run ++ l) (commands_calls (copy_steps set env output)) ∙ append-nil (commands_in run)
      ∙ commands_written (run_has_one_form set env look) writing.is_plain (library_commands set env look writing output)

  children_library : children_in (library_stages set env writing look output) ≡ written_children (run_has_one_form set env look) (library_commands set env look writing output)
  unfolding removal_stages ready_stages library_archive copy_stages
  children_library =
      children_then old (ready ++ (run ++ copy)) ∙ ap (λ l. l ++ children_in (ready ++ (run ++ copy))) (children_calls (removal_steps set env output))
      ∙ children_then ready (run ++ copy) ∙ ap (λ l. l ++ children_in (run ++ copy)) (children_calls readying)
      ∙ children_then run copy ∙ ap (λ l. children_in run ++ l) (children_calls (copy_steps set env output)) ∙ append-nil (children_in run)
      ∙ children_written (run_has_one_form set env look) writing.is_plain (library_commands set env look writing output)

-- ---- its stages

module _ (b : BuildSeen) (listens : Bool) (writing : Writing) (look links : Look) (output : List ℕ) where
  abbrev texts : List (List ℕ)
  texts = quiet_warnings b.config b.env links

  abbrev lines : List Stage
  lines = printed_stages listens texts all_firsts (links_of b.config b.env (linked_name b.config b.env (library_at b output)) (library_at b output) links) (rerun_names link_reads b.config b.env links)

  abbrev unlinked : Bool
  unlinked = is_some (first_of (path_refusal b.config b.env (library_at b output)) (link_refusal b.config b.env links))

  abbrev names : List Stage
  names = name_stages (alone b).config (alone b).env archive_reads look all_firsts

  abbrev read : List (List ℕ)
  read = rerun_lines (rerun_names archive_reads (alone b).config (alone b).env look)

  abbrev shown : List Step
  shown = ending_steps listens texts all_firsts (links_of b.config b.env (linked_name b.config b.env (library_at b output)) (library_at b output) links) (rerun_names link_reads b.config b.env links)

  shown_notes : AreNotes shown
  shown_notes = ending_notes listens texts all_firsts (links_of b.config b.env (linked_name b.config b.env (library_at b output)) (library_at b output) links) (rerun_names link_reads b.config b.env links)

  abbrev behind : List Stage
  behind = behind_library b listens look links output

  behind_plain : ArePlain behind
  behind_plain = (tt, plain_then names (directed_stages b listens links (library_at b output)) (plain_lines Rerun read) (tt, plain_unless unlinked lines (plain_notes shown shown_notes)))

  alone_plain : ArePlain (Calls Lists ∷ archive_stages b listens writing look links output)
  alone_plain = (
    tt,
    plain_unless (is_some (unarchived_error (alone b).config (alone b).env output)) _
        (tt, plain_unless (is_some (archive_refusal (alone b).config (alone b).env look)) _ (plain_library (alone b).config (alone b).env writing look output behind behind_plain)),
  )

  behind_first : FormFirst behind
  behind_first = inr (refl, formed_then names (directed_stages b listens links (library_at b output)) (no_line_archives Rerun read) (inr (refl, formed_unless unlinked lines (none_first lines (no_note_archives shown shown_notes)))))

  alone_first : run_has_one_form (alone b).config (alone b).env look ≡ false → FormFirst (Calls Lists ∷ archive_stages b listens writing look links output)
  alone_first other = inr (
    refl,
    formed_unless (is_some (unarchived_error (alone b).config (alone b).env output)) _
        (inr (refl, formed_unless (is_some (archive_refusal (alone b).config (alone b).env look)) _ (library_first (alone b).config (alone b).env (repeating None writing) look output behind behind_first other))),
  )

  unless_commands : (d : Bool) (stages : List Stage) → commands_in stages ≡ [] → commands_in (if d then [] else stages) ≡ []
  unless_commands true stages h = refl
  unless_commands false stages h = h

  unless_children : (d : Bool) (stages : List Stage) → children_in stages ≡ [] → children_in (if d then [] else stages) ≡ []
  unless_children true stages h = refl
  unless_children false stages h = h

  -- no command stands behind the library
  behind_commands : commands_in behind ≡ []
  behind_commands = commands_then names (directed_stages b listens links (library_at b output)) ∙ ap₂ (λ u v. u ++ v) (name_commands (alone b).config (alone b).env archive_reads look all_firsts) (unless_commands unlinked lines (commands_calls shown))

  behind_children : children_in behind ≡ []
  behind_children = children_then names (directed_stages b listens links (library_at b output)) ∙ ap₂ (λ u v. u ++ v) (name_children (alone b).config (alone b).env archive_reads look all_firsts) (unless_children unlinked lines (children_calls shown))

  alone_count : count (Calls Lists ∷ archive_stages b listens writing look links output) ≤ length b.config.objects + 2
  alone_count =
      let few : count (archive_stages b listens writing look links output) ≤ 0 + length b.config.objects + 2 =
      unless_few (is_some (unarchived_error (alone b).config (alone b).env output)) _ (0 + length b.config.objects + 2)
      (unless_few (is_some (archive_refusal (alone b).config (alone b).env look)) _ (0 + length b.config.objects + 2)
      (ended_count (alone b).config (alone b).env look writing output behind (ap length behind_commands))) in
      omega arith

  -- no settings that are refused spend the turns
  alone_never : NeverSpent (archive_refused b look links output)
  alone_never =
      let set = (alone b).config in
      let env = (alone b).env in
      first_never (unarchived_error set env output) _ (first_never _ _ (mapped set env output (name_refusal output)) (disabled_or (is_disabled env) _ (mapped set env output (early_refusal set env output))))
      (first_never _ _ (mapped set env output (archive_refusal set env look)) (first_never _ _ (mapped b.config b.env (library_at b output) (path_refusal b.config b.env (library_at b output))) (mapped b.config b.env (library_at b output) (link_refusal b.config b.env links))))

  -- ---- those of settings that nothing refuses

  all_stages : (early : Option ErrorSeen) (ar : Option PlanError) (f : PlanError → ErrorSeen) (late : Option ErrorSeen) (run : List Stage) → first_of early (first_of (option_map f ar) late) ≡ None → (if is_some early then [] else asked_then ar run) ≡ Asks ∷ run
  all_stages (Some e) ar f late run none = absurd (cc)
  all_stages None (Some e) f late run none = absurd (cc)
  all_stages None None f late run none = refl

  module _ (accepted : archive_refused b look links output ≡ None) where
    stages_are : archive_stages b listens writing look links output ≡ Asks ∷ (library_stages (alone b).config (alone b).env writing look output ++ behind)
    stages_are = all_stages (unarchived_error (alone b).config (alone b).env output) (archive_refusal (alone b).config (alone b).env look) (plan_error (alone b).config (alone b).env output) _ (library_stages (alone b).config (alone b).env writing look output ++ behind) accepted

    abbrev commands : List Planned
    commands = library_commands (alone b).config (alone b).env look writing output

    commands_are : commands_in (Calls Lists ∷ archive_stages b listens writing look links output) ≡ commands
    commands_are =
        ap commands_in stages_are ∙ commands_then (library_stages (alone b).config (alone b).env writing look output) behind ∙ ap (λ l. commands_in (library_stages (alone b).config (alone b).env writing look output) ++ l) behind_commands
        ∙ append-nil (commands_in (library_stages (alone b).config (alone b).env writing look output)) ∙ commands_library (alone b).config (alone b).env writing look output

    children_are : children_in (Calls Lists ∷ archive_stages b listens writing look links output) ≡ written_children (run_has_one_form (alone b).config (alone b).env look) commands
    children_are =
        ap children_in stages_are ∙ children_then (library_stages (alone b).config (alone b).env writing look output) behind ∙ ap (λ l. children_in (library_stages (alone b).config (alone b).env writing look output) ++ l) behind_children
        ∙ append-nil (children_in (library_stages (alone b).config (alone b).env writing look output)) ∙ children_library (alone b).config (alone b).env writing look output

-- ---- its line

pub says_line : (result : Result (Unit {0}) ErrorSeen) (line : List Event) (ended : Ended) → Says result line ended → IsLine line
says_line (Ok done) line ended says = inl says.1
says_line (Err e) line ended (inl printed) = line_of (error_line e) line printed.2
says_line (Err e) line ended (inr wanting) = inl wanting.1

pub says_last : (result : Result (Unit {0}) ErrorSeen) (part run line : List Event) (ended : Ended) → part ≡ run ++ line → Says result line ended → PrintsLast part ended
says_last (Ok done) part run line ended cut says = inl (ap told says.0)
says_last (Err e) part run line ended cut (inl printed) = inr (inl (e, (ap told printed.0, record { before = run; end = line; cut = cut; printed = printed.2 })))
says_last (Err e) part run line ended cut (inr wanting) = inr (inr (inr (ap told wanting.0)))

never_rose : Rose 0 0 → ⊥
never_rose rose = absurd (let less : 0 < 0 = rose (omega arith) in omega arith)

-- fewer turns than the patience with each command, of which there are no more than the added objects and two
too_few : (p n objects most turned : ℕ) → turned < p * n → n ≤ objects + 2 → p * (objects + 2) ≤ most → turned ≡ most → ⊥
too_few p n objects most turned few counted enough same =
    let more : p * n ≤ p * (objects + 2) = mul-le-mul_left p (omega (arith, counted)) in
    omega arith

module _ (listens : Bool) (q : Request) (patience : Option ℕ) (turned : ℕ) (part run line : List Event) (ended : Ended) (look links : Look) (left : ℕ) (writing : Writing) (cut : part ≡ run ++ line) where
  abbrev b : BuildSeen
  b = build_in q run

  abbrev t : Terms
  t = terms_for (alone b) listens (course_alone patience turned left)

  abbrev x : Means
  x = (course_alone patience turned left).before

  abbrev y : Means
  y = (course_alone patience turned left).after

  abbrev refusal : Option ErrorSeen
  refusal = wished_refusal q look links run

  abbrev stages : List Stage
  stages = wished_stages q listens writing look links run

  -- status 0: nothing was refused, and the library was written
  written_of : (result : Result (Unit {0}) ErrorSeen) → Says result line ended → ended.status ≡ 0 → Ends t refusal stages run result x y → (line ≡ []) × Written listens b patience turned look links q.0 run
  written_of (Ok done) says zero_is o = (
    says.1,
    record {
      accepted = o.0;
      writing = writing;
      left = left;
      went = o.1;
      writes = went_attempts t stages run x y (alone_plain b listens writing look links q.0) o.1 ∙ ap (map to_attempt) (commands_are b listens writing look links q.0 o.0);
      others = went_started t stages run x y o.1 ∙ ap (asked (shows_of (alone b).config (alone b).env listens)) (children_are b listens writing look links q.0 o.0);
      ended = went_well t stages run x y o.1;
    },
  )
  written_of (Err e) (inl printed) zero_is o = let s : ended.status ≡ 1 = ap (λ (v : Ended). v.status) printed.0 in absurd (cc)
  written_of (Err e) (inr wanting) zero_is o = let s : ended.status ≡ 3 = ap (λ (v : Ended). v.status) wanting.0 in absurd (cc)

  -- what is done where nothing is refused and nothing failed
  complete_of : (result : Result (Unit {0}) ErrorSeen) → Says result line ended → Ends t refusal stages run result x y → refusal ≡ None → (Failed (run_has_one_form (alone b).config (alone b).env look) part → ⊥) → (HasFault part → ⊥) → (ended ≡ ended_well) ⊎ (EndsSpent turned part ended ⊎ (ended ≡ ended_wanting))
  complete_of (Ok done) says o allowed failed fault = inl says.0
  complete_of (Err e) (inr wanting) o allowed failed fault = inr (inr wanting.0)
  complete_of (Err e) (inl printed) o allowed failed fault =
      inr (inl (spends t (run_has_one_form (alone b).config (alone b).env look) refusal stages part run line e ended x y cut (line_of (error_line e) line printed.2) o printed.1 printed.0 (alone_plain b listens writing look links q.0) (alone_first b listens writing look links q.0)
      (λ is. let clash : None ≡ Some e = sym allowed ∙ is in cc) failed fault never_rose))

  -- the turns are enough
  enough_of : (result : Result (Unit {0}) ErrorSeen) → Says result line ended → Ends t refusal stages run result x y → (p : ℕ) → patience ≡ Some p → p * (length q.1.config.objects + 2) ≤ turned → EndsSpent turned part ended → ⊥
  enough_of (Ok done) says o p patient enough spent =
      let s : ended.status ≡ 0 = ap (λ (v : Ended). v.status) says.0 in
      let r : ended.status ≡ 1 = ap (λ (v : Ended). v.status) spent.1.0 in
      cc
  enough_of (Err e) (inr wanting) o p patient enough spent =
      let s : ended.status ≡ 3 = ap (λ (v : Ended). v.status) wanting.0 in
      let r : ended.status ≡ 1 = ap (λ (v : Ended). v.status) spent.1.0 in
      cc
  enough_of (Err e) (inl printed) o p patient enough spent =
      let same : e ≡ spent.0 = same_error e spent.0 ended printed.0 spent.1.0 in
      let few : turns run < p * length (commands_in stages) = halted_bound t refusal stages run e x y 1 p refl patient (alone_never b listens writing look links q.0) o (ap (λ (v : ErrorSeen). v.kind) same ∙ spent.1.1) in
      too_few p (length (commands_in stages)) (length q.1.config.objects) turned (turns run) few (alone_count b listens writing look links q.0) enough
      (sym (turns_same part run line cut (line_of (error_line e) line printed.2)) ∙ spent.1.2)

-- ---- what it promises

module _ (listens : Bool) (steady : Bool) (world : Question → Outcome) (q : Request) (patience : Option ℕ) (turned : ℕ) (part : List Event) (ended : Ended) (h : Archived listens steady world q patience turned part ended) where
  its_line : IsLine h.line
  its_line = says_line h.result h.line ended h.says

  -- some verdicts agree with its answers
  some_looks : (look links : Look) × Agree h.made h.linked look links
  some_looks =
      let first = some_agree (answers h.made) h.made_asks.once in
      let second = some_agree (answers h.linked) h.linked_asks.once in
      (first.0, second.0, (first.1, second.1))

  begun : (look links : Look) (agree : Agree h.made h.linked look links) → Partly (t listens q patience turned part h.run h.line ended look links (h.ends look links agree).0 (h.ends look links agree).1 h.cut) (wished_stages q listens (h.ends look links agree).1 look links h.run) h.run (course_alone patience turned (h.ends look links agree).0).before (course_alone patience turned (h.ends look links agree).0).after
  begun look links agree =
      let o = h.ends look links agree in
      let c = course_alone patience turned o.0 in
      ended_partly (terms_for (alone (build_in q h.run)) listens c) (wished_refusal q look links h.run) (wished_stages q listens o.1 look links h.run) h.run h.result c.before c.after o.2

  pub archived_last : PrintsLast part ended
  archived_last = says_last h.result part h.run h.line ended h.cut h.says

  pub archived_faults : FaultsLast part
  archived_faults =
      let some = some_looks in
      let o = h.ends some.0 some.1 some.2 in
      let c = course_alone patience turned o.0 in
      stages_last (terms_for (alone (build_in q h.run)) listens c) (wished_stages q listens o.1 some.0 some.1 h.run) part h.run h.line c.before c.after h.cut (begun some.0 some.1 some.2) its_line

  pub archived_settled : NothingRuns part
  archived_settled =
      let some = some_looks in
      let o = h.ends some.0 some.1 some.2 in
      let c = course_alone patience turned o.0 in
      stages_settled (terms_for (alone (build_in q h.run)) listens c) (wished_stages q listens o.1 some.0 some.1 h.run) part h.run h.line c.before c.after h.cut (begun some.0 some.1 some.2) its_line

  -- the line lists no variables
  heard_too : heard part ≡ heard h.run
  heard_too = heard_same part h.run h.line h.cut its_line

  -- so what the run's variables give, those of the part give
  abbrev with_heard : List (List ℕ × List ℕ) → BuildSeen
  with_heard vars = record q.1 { env = with_vars q.1.env vars }

  its_written : ended.status ≡ 0 → (look links : Look) → Agree h.made h.linked look links → Written listens (build_in q part) patience turned look links q.0 part
  its_written zero_is look links agree =
      let o = h.ends look links agree in
      let w = written_of listens q patience turned part h.run h.line ended look links o.0 o.1 h.cut h.result h.says zero_is o.2 in
      let same : part ≡ h.run = h.cut ∙ ap (λ l. h.run ++ l) w.0 ∙ append-nil h.run in
      subst (λ (p : List Event). Written listens (build_in q p) patience turned look links q.0 p) (sym same) w.1

  its_prefix : (look links : Look) → Agree h.made h.linked look links → (writing : Writing) × AreFirst (wished_stages q listens writing look links part) part
  its_prefix look links agree =
      let o = h.ends look links agree in
      let c = course_alone patience turned o.0 in
      let b = build_in q h.run in
      let p = partly_first (terms_for (alone b) listens c) (wished_stages q listens o.1 look links h.run) h.run c.before c.after (alone_plain b listens o.1 look links q.0) (begun look links agree) in
      let same = attempts_same part h.run h.line h.cut its_line in (
        o.1,
        (
          p.0,
          ap (λ (vars : List (List ℕ × List ℕ)). map to_attempt (commands_in (Calls Lists ∷ archive_stages (with_heard vars) listens o.1 look links q.0))) heard_too ∙ p.1 ∙ ap (λ l. l ++ p.0) (sym same),
        ),
      )

  its_complete : (look links : Look) → Agree h.made h.linked look links → wished_refusal q look links part ≡ None → (Failed (run_has_one_form (alone (build_in q part)).config (alone (build_in q part)).env look) part → ⊥) → (HasFault part → ⊥) → (ended ≡ ended_well) ⊎ (EndsSpent turned part ended ⊎ (ended ≡ ended_wanting))
  its_complete look links agree allowed failed fault =
      let o = h.ends look links agree in
      complete_of listens q patience turned part h.run h.line ended look links o.0 o.1 h.cut h.result h.says o.2
      (subst (λ (vars : List (List ℕ × List ℕ)). archive_refused (with_heard vars) look links q.0 ≡ None) heard_too allowed)
      (subst (λ (vars : List (List ℕ × List ℕ)). Failed (run_has_one_form (alone (with_heard vars)).config (alone (with_heard vars)).env look) part → ⊥) heard_too failed) fault

  its_enough : (p : ℕ) → patience ≡ Some p → p * (length q.1.config.objects + 2) ≤ turned → EndsSpent turned part ended → ⊥
  its_enough p patient enough spent =
      let some = some_looks in
      let o = h.ends some.0 some.1 some.2 in
      enough_of listens q patience turned part h.run h.line ended some.0 some.1 o.0 o.1 h.cut h.result h.says o.2 p patient enough spent

  no_question : (line : List Event) → IsLine line → question_events line ≡ []
  no_question line (inl none) = ap question_events none
  no_question line (inr (inl printed)) = ap question_events printed.1
  no_question line (inr (inr faulted)) = ap question_events faulted.1

  -- its questions, with the line behind them
  pub archived_asks : AsksAlone steady world q part
  archived_asks =
      let b = build_in q h.run in
      let behind : AsksByRun steady world b (h.linked ++ h.line) = asked_around steady world (probes b) (RunAsks b.config b.env) [] h.linked h.line refl (no_question h.line its_line) h.linked_asks in (
        h.made,
        h.linked ++ h.line,
        (
          h.cut ∙ ap (λ l. l ++ h.line) h.parts ∙ append_assoc h.made h.linked h.line,
          subst (λ (vars : List (List ℕ × List ℕ)). AsksByRun steady world (alone (with_heard vars)) h.made) (sym heard_too) h.made_asks,
          subst (λ (vars : List (List ℕ × List ℕ)). AsksByRun steady world (with_heard vars) (h.linked ++ h.line)) (sym heard_too) behind,
        ),
      )

  pub archive_promised : ArchivePromises listens steady world q patience turned part ended
  archive_promised = record {
    answer = h;
    written = its_written;
    prefix = its_prefix;
    complete = its_complete;
    enough = its_enough;
  }

-- ---- nothing was asked

-- a part without a question asks for no tool
pub no_tools_asked : (steady : Bool) (world : Question → Outcome) (b : BuildSeen) (part : List Event) → question_events part ≡ [] → AsksTools steady world b part
no_tools_asked steady world b part none = record {
  compiler = [];
  archiver = [];
  ranlib = [];
  rest = part;
  cut = refl;
  compiler_asks = asked_none steady world (probes b) (PlanAsks b.config b.env) [] refl;
  archiver_asks = asked_none steady world (probes b) (ArchiverAsks b.config b.env) [] refl;
  ranlib_asks = asked_none steady world (probes b) (RanlibAsks b.config b.env) [] refl;
  quiet = none;
}
