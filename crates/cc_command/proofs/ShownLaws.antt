-- What the program answers where it shows the tools of a build, and what follows from it.
use Rattle.std.proofs.Common.{◌≡◌, ◌⊎◌, inl, inr, ◌∙◌, refl, sym, ap, subst, ℕ, List, [], ◌∷◌, ◌++◌, Bool, true, false, Option, Some, None, option_map, Result, Ok, Err, append-nil, append_assoc}
use Rattle.std.specs.List.{list_all, list_any}
use Rattle.cc_host.specs.Command.{CommandSeen}
use Rattle.cc_host.specs.Part.{Step, done, IsPartly, IsWhole}
use Rattle.cc_host.specs.Part.Step.{Lists}
use Rattle.cc_host.specs.Question.{Look, Agrees, answers, Holds}
use Rattle.cc_host.specs.declared.event.Event.{Event}
use Rattle.cc_host.specs.declared.event.Event.TheVariants.{Started, Ended as EndedChild, Abandoned, Turn, Listed}
use Rattle.cc_host.specs.declared.event.LineKind.TheVariants.{Rerun, Shown as ShownLine}
use Rattle.cc_host.specs.declared.question.Outcome.{Outcome as Verdicts}
use Rattle.cc_host.specs.declared.question.Question.{Question}
use Rattle.cc_host.proofs.Parts.{partly_whole, whole_step}
use Rattle.cc_plan.specs.Archive.{archiver_of}
use Rattle.cc_plan.specs.Asking.{is_of_children}
use Rattle.cc_plan.specs.Planned.{tool_of, warnings_of}
use Rattle.cc_plan.specs.Questions.{PlanAsks, ArchiverAsks, RanlibAsks}
use Rattle.cc_plan.specs.Refusal.{archiver_refusal, ranlib_refusal}
use Rattle.cc_plan.specs.Reruns.{rerun_names}
use Rattle.cc_flags.specs.declared.variables.Reads.{Reads}
use Rattle.cc_tool.proofs.Asides.{asked_around, asked_none, none_then}
use Rattle.cc_tool.proofs.SomeLemmas.{some_agree}
use Rattle.cc_tool.specs.Asked.{question_events}
use Rattle.cc_tool.specs.Tool.{ToolSeen}
use Rattle.cc_build.specs.Build.{BuildSeen, AsksByPlan, probes}
use Rattle.cc_build.specs.Captured.{with_vars, Captures, CaptureEnds}
use Rattle.cc_build.specs.Compiler.{tool_error, tool_steps, IsTool, CompilerEnds}
use Rattle.cc_build.specs.Course.{CallsEnd}
use Rattle.cc_build.specs.Error.{ErrorSeen}
use Rattle.cc_build.specs.Failed.{HasFault, is_fault}
use Rattle.cc_build.specs.Outcome.{Outcome, IsRefused, IsCausedBy}
use Rattle.cc_build.specs.Promises.{NothingRuns}
use Rattle.cc_build.specs.Refusal.{plan_error}
use Rattle.cc_build.specs.Stage.{rerun_lines}
use Rattle.cc_build.specs.Told.{compiler_reads, archiver_reads, ranlib_reads, name_steps, unless_refused, DoesAndTells}
use Rattle.cc_build.specs.Tools.{IsArchiver, IsRanlib, archiver_error, ranlib_error, ArchiverEnds, RanlibEnds, AsksForArchiver, AsksForRanlib}
use Rattle.cc_build.specs.Way.{Firsts}
use Rattle.cc_build.proofs.ChildLaws.{IsAside, AreAside, aside_well}
use Rattle.cc_build.proofs.FaultLaws.{partly_faults, stopped_fault}
use Rattle.cc_build.proofs.Outcomes.{outcome_then}
use Rattle.cc_build.proofs.PrintedLaws.{is_told, told_both, told_prints, told_printed, told_warned, neither, IsChildless, childless_then, calls_outcome, refused_more}
use Rattle.cc_command.specs.Answer.{AnswersError, ended_well, ended_wanting}
use Rattle.cc_command.specs.Archived.{Says}
use Rattle.cc_command.specs.Lines.{shows}
use Rattle.cc_command.specs.Promises.{PrintsLast, FaultsLast, IsLine}
use Rattle.cc_command.specs.Shown.{tool_lines, Looks, lines_of, read_steps, compiler_steps, tools_steps, show_steps, show_error, AsksTools, Agree, Showing, listed_build, Shown, ShowPromises}
use Rattle.cc_command.specs.declared.ended.Ended.{Ended}
use Rattle.cc_command.proofs.ArchivedLaws.{no_tools_asked, says_last, says_line}
use Rattle.cc_command.proofs.PromiseLaws.{any_before, faults_behind, known_memory}

-- ---- calls that tell of the variables that they read

unless_is : (refusal : Option ErrorSeen) (names : List Step) → refusal ≡ None → unless_refused refusal names ≡ names
unless_is None names h = refl
unless_is (Some e) names h = absurd (cc)

more_refused : (refusal wider : Option ErrorSeen) (steps names more : List Step) (part : List Event) (e : ErrorSeen) → (refusal ≡ Some e → wider ≡ Some e) → IsRefused refusal (steps ++ unless_refused refusal names) part e → IsRefused wider ((steps ++ names) ++ more) part e
more_refused None wider steps names more part e carries h = refused_more None wider (steps ++ names) more part e carries h
more_refused (Some x) wider steps names more part e carries h =
    subst (λ (l : List Step). IsRefused wider l part e) (append_assoc steps [] (names ++ more) ∙ sym (append_assoc steps names more))
    (refused_more (Some x) wider (steps ++ []) (names ++ more) part e carries h)

module _ (reads : Reads) (b : BuildSeen) (repeats : b.config.repeat_lines ≡ true) (look : Look) (refusal : Option ErrorSeen) (steps : List Step) (part : List Event) where
  -- it did its steps, and told of them all
  told_whole : {T : Type 0} (x : T) → DoesAndTells reads b.config b.env refusal steps (Ok x) look part → (refusal ≡ None) × IsWhole (steps ++ read_steps reads b look) part
  told_whole x h =
      let names : List Step = name_steps reads b.config b.env h.0 look in (
        h.1.1.0,
        subst (λ (n : List Step). IsWhole (steps ++ n) part) (unless_is refusal names h.1.1.0 ∙ ap (λ (f : Firsts). name_steps reads b.config b.env f look) (h.1.0 repeats)) h.1.1.1,
      )

  -- it was refused, among more steps, for a cause that has its refusal
  told_refused_so : (e : ErrorSeen) (wider : Option ErrorSeen) (more : List Step) → (refusal ≡ Some e → wider ≡ Some e) → DoesAndTells {T = Unit {0}} reads b.config b.env refusal steps (Err e) look part → IsRefused wider ((steps ++ read_steps reads b look) ++ more) part e
  told_refused_so e wider more carries h =
      subst (λ (f : Firsts). IsRefused wider ((steps ++ name_steps reads b.config b.env f look) ++ more) part e) (h.1.0 repeats)
      (more_refused refusal wider steps (name_steps reads b.config b.env h.0 look) more part e carries h.1.1)

-- ---- the tools, found one after another

module _ (listens : Bool) (steady : Bool) (world : Question → Verdicts) (b : BuildSeen) where
  none_compiler : AsksByPlan steady world b []
  none_compiler = asked_none steady world (probes b) (PlanAsks b.config b.env) [] refl

  none_archiver : AsksForArchiver steady world b []
  none_archiver = asked_none steady world (probes b) (ArchiverAsks b.config b.env) [] refl

  none_ranlib : AsksForRanlib steady world b []
  none_ranlib = asked_none steady world (probes b) (RanlibAsks b.config b.env) [] refl

  first_refused : (looks : Looks) (e : ErrorSeen) → tool_error b.config b.env looks.compiler ≡ Some e → show_error b looks ≡ Some e
  first_refused looks e h = rw h refl

  second_refused : (looks : Looks) (e : ErrorSeen) → tool_error b.config b.env looks.compiler ≡ None → option_map (plan_error b.config b.env []) (archiver_refusal b.config b.env looks.archiver) ≡ Some e → show_error b looks ≡ Some e
  second_refused looks e first h = rw (first, h) refl

  third_refused : (looks : Looks) (e : ErrorSeen) → tool_error b.config b.env looks.compiler ≡ None → archiver_refusal b.config b.env looks.archiver ≡ None → option_map (plan_error b.config b.env []) (ranlib_refusal b.config b.env looks.ranlib) ≡ Some e → show_error b looks ≡ Some e
  third_refused looks e first second h = rw (first, second, h) refl

  all_found : (looks : Looks) → tool_error b.config b.env looks.compiler ≡ None → archiver_refusal b.config b.env looks.archiver ≡ None → ranlib_refusal b.config b.env looks.ranlib ≡ None → show_error b looks ≡ None
  all_found looks first second third = rw (first, second, third) refl

  module _ (repeats : b.config.repeat_lines ≡ true) where
    abbrev archiver_in : Looks → Option ErrorSeen
    archiver_in looks = archiver_error b.config b.env looks.archiver

    abbrev behind_ranlib : Looks → List Step
    behind_ranlib looks = shows (lines_of b looks)

    abbrev behind_archiver : Looks → List Step
    behind_archiver looks = read_steps ranlib_reads b looks.ranlib ++ behind_ranlib looks

    abbrev behind_compiler : Looks → List Step
    behind_compiler looks = read_steps archiver_reads b looks.archiver ++ behind_archiver looks

    -- no compiler is found, or a line of what was read for it couldn't be printed
    pub no_compiler : (part : List Event) (e : ErrorSeen) → AsksByPlan steady world b part → IsChildless part → Holds (answers part) (λ look. CompilerEnds {T = ToolSeen} b.config b.env listens (Err e) look part) → Showing listens steady world b part (Err e)
    no_compiler part e asks childless ends = record {
      asks = record {
        compiler = part;
        archiver = [];
        ranlib = [];
        rest = [];
        cut = sym (append-nil part);
        compiler_asks = asks;
        archiver_asks = none_archiver;
        ranlib_asks = none_ranlib;
        quiet = refl;
      };
      childless = childless;
      ends = λ looks agree.
          let o = ends.under looks.compiler agree.0 in
          (o.0, told_refused_so compiler_reads b repeats looks.compiler (tool_error b.config b.env looks.compiler) (tool_steps b.config b.env listens o.0 looks.compiler) part e (show_error b looks) (behind_compiler looks) (first_refused looks e) o.1);
    }

    module _ (tool : ToolSeen) (compiler : List Event) (compiler_asks : AsksByPlan steady world b compiler) (no_child : IsChildless compiler) (is_tool : Holds (answers compiler) (λ look. IsTool b.config b.env tool look)) (found : Holds (answers compiler) (λ look. CompilerEnds b.config b.env listens (Ok tool) look compiler)) where
      -- the compiler was found, and a part behind it comes so
      behind_first : (looks : Looks) (rest part : List Event) (r : Result (Unit {0}) ErrorSeen) → part ≡ compiler ++ rest → Agrees looks.compiler (answers compiler) → ((tool_error b.config b.env looks.compiler ≡ None) → Outcome (show_error b looks) (behind_compiler looks) rest r) → (warns_of_link : Bool) × Outcome (show_error b looks) (tools_steps listens b warns_of_link looks) part r
      behind_first looks rest part r cut agree so =
          let o = found.under looks.compiler agree in
          let whole = told_whole compiler_reads b repeats looks.compiler (tool_error b.config b.env looks.compiler) (tool_steps b.config b.env listens o.0 looks.compiler) compiler tool o.1 in (
            o.0,
            subst (λ (l : List Event). Outcome (show_error b looks) (tools_steps listens b o.0 looks) l r) (sym cut)
                (outcome_then (show_error b looks) (compiler_steps listens b o.0 looks.compiler) (behind_compiler looks) compiler rest r whole.1 (so whole.0)),
          )

      -- no archiver is found
      pub no_archiver : (archiver part : List Event) (e : ErrorSeen) → part ≡ compiler ++ archiver → AsksForArchiver steady world b archiver → IsChildless archiver → Holds (answers archiver) (λ look. ArchiverEnds {T = CommandSeen} b.config b.env (Err e) look archiver) → Showing listens steady world b part (Err e)
      no_archiver archiver part e cut archiver_asks childless lacks = record {
        asks = record {
          compiler = compiler;
          archiver = archiver;
          ranlib = [];
          rest = [];
          cut = cut ∙ ap (λ l. compiler ++ l) (sym (append-nil archiver));
          compiler_asks = compiler_asks;
          archiver_asks = archiver_asks;
          ranlib_asks = none_ranlib;
          quiet = refl;
        };
        childless = ap (list_any is_of_children) cut ∙ childless_then compiler archiver no_child childless;
        ends = λ looks agree.
            behind_first looks archiver part (Err e) cut agree.0
            (λ first. told_refused_so archiver_reads b repeats looks.archiver (archiver_in looks) [] archiver e (show_error b looks) (behind_archiver looks) (second_refused looks e first) (lacks.under looks.archiver agree.1));
      }

      module _ (archiver_cmd : CommandSeen) (archiver : List Event) (archiver_asks : AsksForArchiver steady world b archiver) (no_child_of : IsChildless archiver) (is_archiver : Holds (answers archiver) (λ look. IsArchiver b.config b.env archiver_cmd look)) (found_archiver : Holds (answers archiver) (λ look. ArchiverEnds b.config b.env (Ok archiver_cmd) look archiver)) where
        -- so was the archiver
        behind_second : (looks : Looks) (rest part : List Event) (r : Result (Unit {0}) ErrorSeen) → part ≡ compiler ++ (archiver ++ rest) → Agrees looks.compiler (answers compiler) → Agrees looks.archiver (answers archiver) → ((tool_error b.config b.env looks.compiler ≡ None) → Outcome (show_error b looks) (behind_archiver looks) rest r) → (warns_of_link : Bool) × Outcome (show_error b looks) (tools_steps listens b warns_of_link looks) part r
        behind_second looks rest part r cut agree agree_of so =
            let whole = told_whole archiver_reads b repeats looks.archiver (archiver_in looks) [] archiver archiver_cmd (found_archiver.under looks.archiver agree_of) in
            behind_first looks (archiver ++ rest) part r cut agree
            (λ first. outcome_then (show_error b looks) (read_steps archiver_reads b looks.archiver) (behind_archiver looks) archiver rest r whole.1 (so first))

        -- no tool is found that writes an index
        pub no_ranlib : (ranlib part : List Event) (e : ErrorSeen) → part ≡ compiler ++ (archiver ++ ranlib) → AsksForRanlib steady world b ranlib → IsChildless ranlib → Holds (answers ranlib) (λ look. RanlibEnds {T = CommandSeen} b.config b.env (Err e) look ranlib) → Showing listens steady world b part (Err e)
        no_ranlib ranlib part e cut ranlib_asks childless lacks = record {
          asks = record {
            compiler = compiler;
            archiver = archiver;
            ranlib = ranlib;
            rest = [];
            cut = cut ∙ ap (λ l. compiler ++ (archiver ++ l)) (sym (append-nil ranlib));
            compiler_asks = compiler_asks;
            archiver_asks = archiver_asks;
            ranlib_asks = ranlib_asks;
            quiet = refl;
          };
          childless = ap (list_any is_of_children) cut ∙ childless_then compiler (archiver ++ ranlib) no_child (childless_then archiver ranlib no_child_of childless);
          ends = λ looks agree.
              behind_second looks ranlib part (Err e) cut agree.0 agree.1
              (λ first. told_refused_so ranlib_reads b repeats looks.ranlib (ranlib_error b.config b.env looks.ranlib) [] ranlib e (show_error b looks) (behind_ranlib looks) (third_refused looks e first (is_archiver.under looks.archiver agree.1).allowed) (lacks.under looks.ranlib agree.2));
        }

        -- all are found, and their lines are printed
        pub tools_shown : (ranlib_cmd : CommandSeen) (ranlib shown part : List Event) (r : Result (Unit {0}) ErrorSeen) → part ≡ compiler ++ (archiver ++ (ranlib ++ shown)) → AsksForRanlib steady world b ranlib → IsChildless ranlib → Holds (answers ranlib) (λ look. IsRanlib b.config b.env ranlib_cmd look) → Holds (answers ranlib) (λ look. RanlibEnds b.config b.env (Ok ranlib_cmd) look ranlib) → question_events shown ≡ [] → CallsEnd (shows (tool_lines tool archiver_cmd ranlib_cmd)) shown r → Showing listens steady world b part r
        tools_shown ranlib_cmd ranlib shown part r cut ranlib_asks childless is_ranlib found_ranlib none printed = record {
          asks = record {
            compiler = compiler;
            archiver = archiver;
            ranlib = ranlib;
            rest = shown;
            cut = cut;
            compiler_asks = compiler_asks;
            archiver_asks = archiver_asks;
            ranlib_asks = ranlib_asks;
            quiet = none;
          };
          childless = ap (list_any is_of_children) cut ∙ childless_then compiler (archiver ++ (ranlib ++ shown)) no_child (childless_then archiver (ranlib ++ shown) no_child_of (childless_then ranlib shown childless (calls_outcome b None (shows (tool_lines tool archiver_cmd ranlib_cmd)) shown r refl (told_prints ShownLine (tool_lines tool archiver_cmd ranlib_cmd)) printed).1));
          ends = λ looks agree.
              let found_tool : tool ≡ tool_of b.config b.env looks.compiler = is_tool.under looks.compiler agree.0 in
              let the_archiver = is_archiver.under looks.archiver agree.1 in
              let the_ranlib = is_ranlib.under looks.ranlib agree.2 in
              let refusal = show_error b looks in
              let lines = shows (lines_of b looks) in
              let same : tool_lines tool archiver_cmd ranlib_cmd ≡ lines_of b looks =
              ap (λ (v : ToolSeen). tool_lines v archiver_cmd ranlib_cmd) found_tool
              ∙ ap (λ (v : CommandSeen). tool_lines (tool_of b.config b.env looks.compiler) v ranlib_cmd) the_archiver.is
              ∙ ap (λ (v : CommandSeen). tool_lines (tool_of b.config b.env looks.compiler) (archiver_of b.config b.env looks.archiver).cmd v) the_ranlib.is in
              let printed_so : CallsEnd lines shown r = subst (λ (l : List (List ℕ)). CallsEnd (shows l) shown r) same printed in
              let whole = told_whole ranlib_reads b repeats looks.ranlib (ranlib_error b.config b.env looks.ranlib) [] ranlib ranlib_cmd (found_ranlib.under looks.ranlib agree.2) in
              behind_second looks (ranlib ++ shown) part r cut agree.0 agree.1
              (λ first. outcome_then refusal (read_steps ranlib_reads b looks.ranlib) lines ranlib shown r whole.1
              (calls_outcome b refusal lines shown r (all_found looks first the_archiver.allowed the_ranlib.allowed) (told_prints ShownLine (lines_of b looks)) printed_so).0);
        }

  -- ---- behind the listing of the variables

  no_question : (line : List Event) → IsLine line → question_events line ≡ []
  no_question line (inl none) = ap question_events none
  no_question line (inr (inl printed)) = ap question_events printed.1
  no_question line (inr (inr faulted)) = ap question_events faulted.1

  -- the variables were not listed, or memory for their snapshot was wanted
  pub unshown : (listing line part : List Event) (e : ErrorSeen) (ended : Ended) → part ≡ listing ++ line → question_events listing ≡ [] → CaptureEnds listing (Err e) → AnswersError e line ended → Shown listens steady world b part ended
  unshown listing line part e ended cut none h says = record {
    asks = no_tools_asked steady world (listed_build b part) part (ap question_events cut ∙ none_then listing line none (no_question line (says_line (Err e) line ended says)));
    run = listing;
    line = line;
    cut = cut;
    childless = (refused_so h).1;
    result = Err e;
    ends = λ looks agree. (true, refused_more None (show_error (listed_build b part) looks) (Lists ∷ []) (tools_steps listens (listed_build b part) true looks) listing e (λ no. absurd (let clash : None ≡ Some e = no in cc)) (refused_so h).0);
    says = says;
  }
    where
      refused_so : CaptureEnds listing (Err e) → IsRefused None (Lists ∷ []) listing e × IsChildless listing
      refused_so (inl k) = calls_outcome {T = Unit {0}} b None (Lists ∷ []) listing (Err e) refl refl k
      refused_so (inr k) = let o = calls_outcome {T = Unit {0}} b None (Lists ∷ []) listing (Ok tt) refl refl k.1 in ((partly_whole (Lists ∷ []) listing o.0.1, inl k.0), o.1)

  -- they were listed, and then the tools were shown so
  module _ (after : BuildSeen) (listing run : List Event) (k : Captures b after listing) (result : Result (Unit {0}) ErrorSeen) (line : List Event) (ended : Ended) where
    abbrev taken : BuildSeen
    taken = record b { env = with_vars b.env k.vars }

    abbrev whole : List Event
    whole = Listed k.vars ∷ (run ++ line)

    listed_cut : (s : AsksTools steady world taken run) → whole ≡ (Listed k.vars ∷ s.compiler) ++ (s.archiver ++ (s.ranlib ++ (s.rest ++ line)))
    listed_cut s =
        ap (λ l. Listed k.vars ∷ l)
        (ap (λ l. l ++ line) s.cut ∙ append_assoc s.compiler (s.archiver ++ (s.ranlib ++ s.rest)) line
        ∙ ap (λ l. s.compiler ++ l) (append_assoc s.archiver (s.ranlib ++ s.rest) line ∙ ap (λ l. s.archiver ++ l) (append_assoc s.ranlib s.rest line)))

    abbrev listed_asks : AsksTools steady world taken run → IsLine line → AsksTools steady world taken whole
    listed_asks s printed = record {
      compiler = Listed k.vars ∷ s.compiler;
      archiver = s.archiver;
      ranlib = s.ranlib;
      rest = s.rest ++ line;
      cut = listed_cut s;
      compiler_asks = subst (λ (l : List Event). AsksByPlan steady world taken (Listed k.vars ∷ l)) (append-nil s.compiler) (asked_around steady world (probes taken) (PlanAsks taken.config taken.env) (Listed k.vars ∷ []) s.compiler [] refl refl s.compiler_asks);
      archiver_asks = s.archiver_asks;
      ranlib_asks = s.ranlib_asks;
      quiet = none_then s.rest line s.quiet (no_question line printed);
    }

    shown_listed : Showing listens steady world taken run result → Says result line ended → Shown listens steady world b whole ended
    shown_listed s says = record {
      asks = listed_asks s.asks (says_line result line ended says);
      run = Listed k.vars ∷ run;
      line = line;
      cut = refl;
      childless = s.childless;
      result = result;
      ends = λ looks agree.
          let o = s.ends looks agree in
          (o.0, outcome_then (show_error taken looks) (Lists ∷ []) (tools_steps listens taken o.0 looks) (Listed k.vars ∷ []) run result (whole_step Lists (Listed k.vars) refl refl) o.1);
      says = says;
    }

    pub shown_so : (part : List Event) → part ≡ (listing ++ run) ++ line → Showing listens steady world after run result → Says result line ended → Shown listens steady world b part ended
    shown_so part cut s says =
        subst (λ (l : List Event). Shown listens steady world b l ended) (sym (cut ∙ ap (λ l. (l ++ run) ++ line) k.listed))
        (shown_listed (subst (λ (v : BuildSeen). Showing listens steady world v run result) k.is s) says)

-- ---- what follows from it

event_aside : (event : Event) → is_of_children event ≡ false → IsAside event
event_aside (Started id role cmd pipes held) h = absurd (cc)
event_aside (EndedChild id status) h = absurd (cc)
event_aside (Abandoned id) h = absurd (cc)
event_aside (Turn count) h = absurd (cc)
event_aside event h = ((λ ls. refl), (λ ls. refl))

all_aside : (part : List Event) → IsChildless part → AreAside part
all_aside [] h = tt
all_aside (event ∷ part) h =
    let k = neither (is_of_children event) (list_any is_of_children part) h in
    (event_aside event k.0, all_aside part k.1)

pub childless_settled : (part : List Event) → IsChildless part → NothingRuns part
childless_settled part h = (aside_well part (all_aside part h)).settled

pub childless_line : (line : List Event) → IsLine line → IsChildless line
childless_line line (inl none) = ap (list_any is_of_children) none
childless_line line (inr (inl printed)) = ap (list_any is_of_children) printed.1
childless_line line (inr (inr faulted)) = ap (list_any is_of_children) faulted.1

pub outcome_partly : (refusal : Option ErrorSeen) (steps : List Step) (part : List Event) (r : Result (Unit {0}) ErrorSeen) → Outcome refusal steps part r → IsPartly steps part
outcome_partly refusal steps part (Ok done) o = partly_whole steps part o.1
outcome_partly refusal steps part (Err e) o = o.0

-- all that is shown are lines and a listing
told_all : (listens : Bool) (b : BuildSeen) (warns_of_link : Bool) (looks : Looks) → list_all is_told (show_steps listens b warns_of_link looks) ≡ true
told_all listens b warns_of_link looks =
    told_both (compiler_steps listens b warns_of_link looks.compiler) (read_steps archiver_reads b looks.archiver ++ (read_steps ranlib_reads b looks.ranlib ++ shows (lines_of b looks)))
    (told_both (tool_steps b.config b.env listens warns_of_link looks.compiler) (read_steps compiler_reads b looks.compiler) (told_warned b.config listens (warnings_of b.config b.env warns_of_link looks.compiler)) (told_printed Rerun (rerun_lines (rerun_names compiler_reads b.config b.env looks.compiler))))
    (told_both (read_steps archiver_reads b looks.archiver) (read_steps ranlib_reads b looks.ranlib ++ shows (lines_of b looks)) (told_printed Rerun (rerun_lines (rerun_names archiver_reads b.config b.env looks.archiver)))
    (told_both (read_steps ranlib_reads b looks.ranlib) (shows (lines_of b looks)) (told_printed Rerun (rerun_lines (rerun_names ranlib_reads b.config b.env looks.ranlib))) (told_prints ShownLine (lines_of b looks))))

module _ (listens : Bool) (steady : Bool) (world : Question → Verdicts) (b : BuildSeen) (part : List Event) (ended : Ended) where
  module _ (s : Shown listens steady world b part ended) where
    its_line : IsLine s.line
    its_line = says_line s.result s.line ended s.says

    some_looks : (looks : Looks) × Agree s.asks.compiler s.asks.archiver s.asks.ranlib looks
    some_looks =
        let first = some_agree (answers s.asks.compiler) s.asks.compiler_asks.once in
        let second = some_agree (answers s.asks.archiver) s.asks.archiver_asks.once in
        let third = some_agree (answers s.asks.ranlib) s.asks.ranlib_asks.once in
        (record { compiler = first.0; archiver = second.0; ranlib = third.0 }, (first.1, second.1, third.1))

    pub shown_last : PrintsLast part ended
    shown_last = says_last s.result part s.run s.line ended s.cut s.says

    pub shown_faults : FaultsLast part
    shown_faults =
        let some = some_looks in
        let o = s.ends some.0 some.1 in
        let steps = show_steps listens (listed_build b part) o.0 some.0 in
        faults_behind part s.run s.line s.cut (partly_faults steps s.run (outcome_partly (show_error (listed_build b part) some.0) steps s.run s.result o.1)) its_line

    pub shown_settled : NothingRuns part
    shown_settled =
        childless_settled part (ap (list_any is_of_children) s.cut ∙ childless_then s.run s.line s.childless (childless_line s.line its_line))

    not_done : (e : ErrorSeen) (line : List Event) → Says (Err e) line ended → ended.status ≡ 0 → ⊥
    not_done e line (inl printed) zero_is = let is : ended.status ≡ 1 = ap (λ (v : Ended). v.status) printed.0 in absurd (cc)
    not_done e line (inr wanting) zero_is = let is : ended.status ≡ 3 = ap (λ (v : Ended). v.status) wanting.0 in absurd (cc)

    shown_by : (refusal : Option ErrorSeen) (steps : List Step) (run line : List Event) (r : Result (Unit {0}) ErrorSeen) → part ≡ run ++ line → Says r line ended → ended.status ≡ 0 → Outcome refusal steps run r → (refusal ≡ None) × IsWhole steps part
    shown_by refusal steps run line (Err e) cut says zero_is o = absurd (not_done e line says zero_is)
    shown_by refusal steps run line (Ok done) cut says zero_is o =
        (o.0, subst (λ (l : List Event). IsWhole steps l) (sym (cut ∙ ap (λ l. run ++ l) says.1 ∙ append-nil run)) o.1)

    complete_by : (refusal : Option ErrorSeen) (steps : List Step) (run line : List Event) (r : Result (Unit {0}) ErrorSeen) → list_all is_told steps ≡ true → part ≡ run ++ line → Says r line ended → refusal ≡ None → (HasFault part → ⊥) → Outcome refusal steps run r → (ended ≡ ended_well) ⊎ (ended ≡ ended_wanting)
    complete_by refusal steps run line (Ok done) told cut says none fault o = inl says.0
    complete_by refusal steps run line (Err e) told cut (inr wanting) none fault o = inr wanting.0
    complete_by refusal steps run line (Err e) told cut (inl printed) none fault o = absurd (by_cause o.1)
      where
        by_cause : IsCausedBy refusal steps run e → ⊥
        by_cause (inl memory) = known_memory e printed.1 memory
        by_cause (inr (inl refused)) = let clash : None ≡ Some e = sym none ∙ refused in cc
        by_cause (inr (inr stopped)) = fault (ap (list_any is_fault) cut ∙ any_before is_fault run line (stopped_fault steps run e told o.0 stopped))

    pub show_promises : ShowPromises listens steady world b part ended
    show_promises = record {
      answer = s;
      shown = λ zero_is looks agree.
          let o = s.ends looks agree in
          (o.0, shown_by (show_error (listed_build b part) looks) (show_steps listens (listed_build b part) o.0 looks) s.run s.line s.result s.cut s.says zero_is o.1);
      complete = λ looks agree none fault.
          let o = s.ends looks agree in
          complete_by (show_error (listed_build b part) looks) (show_steps listens (listed_build b part) o.0 looks) s.run s.line s.result (told_all listens (listed_build b part) o.0 looks) s.cut s.says none fault o.1;
    }
