-- How the parts of a refresh make up the whole.
use Rattle.std.proofs.Common.{◌≡◌, ◌≤◌, inl, inr, ℕ, List, [], ◌∷◌, ◌++◌, Bool, true, false, Option, Some, None, Result, Ok, Err, refl, sym, ◌∙◌, ap, ap₂, subst, append_assoc, append-nil}
use Rattle.std.specs.List.{list_all}
use Rattle.cc_host.specs.Part.{since}
use Rattle.cc_host.specs.Part.Step.{Writes}
use Rattle.cc_host.specs.Question.{Look, exists_question, is_yes}
use Rattle.cc_host.specs.declared.event.Event.{Event}
use Rattle.cc_host.specs.declared.files.Held.{Held}
use Rattle.cc_host.specs.declared.files.Held.TheVariants.{Absent}
use Rattle.cc_plan.specs.Plan.{objects_of}
use Rattle.cc_run.specs.declared.planned.Planned.{Planned}
use Rattle.cc_run.specs.declared.planned.Shows.{Shows}
use Rattle.cc_tool.specs.Probing.{is_asked}
use Rattle.cc_build.specs.Build.{BuildSeen}
use Rattle.cc_build.specs.Course.{Course, CallsEnd, course}
use Rattle.cc_build.specs.Error.{ErrorSeen, no_memory}
use Rattle.cc_build.specs.Refusal.{refusal_error}
use Rattle.cc_build.specs.RunPlan.{PlanRunEnds, RunPlanEnds}
use Rattle.cc_build.specs.Shows.{shows_of}
use Rattle.cc_build.specs.Stage.{Stage, beside, calls, compiles_planned, later_stages}
use Rattle.cc_build.specs.Stage.Stage.{Asks}
use Rattle.cc_build.specs.Way.{Way, Found, Hears, Writing, Firsts, all_firsts, way_of, writing_of, chosen}
use Rattle.cc_build.specs.Went.{Terms, Means, terms, Went, Halted, Ends}
use Rattle.cc_build.specs.declared.run_plan.RunPlan.{RunPlan}
use Rattle.cc_build.proofs.Going.{went_from, went_one, halted_among}
use Rattle.cc_fresh.specs.Choice.{Chooses, ByEntry, HasReason, IsState, MayChoose, choices_of, entry_for}
use Rattle.cc_fresh.specs.Entries.{AreEntries, IsEntry, entry_by}
use Rattle.cc_fresh.specs.InTurn.{InTurn, InTurnSome, pairs}
use Rattle.cc_fresh.specs.Made.{Dep}
use Rattle.cc_fresh.specs.Reads.{Read, Adds, AddsFirst, EndsAt}
use Rattle.cc_fresh.specs.Reason.{IsRead}
use Rattle.cc_fresh.specs.Record.{record_text}
use Rattle.cc_fresh.specs.Refresh.{FilesSeen, EndsWith, Refreshed, chosen_stages, later_error, refresh_stages, units_for}
use Rattle.cc_fresh.specs.Refreshing.{IsChoice, IsErrorOf, IsPrepared, PrepareEnds, FinishEnds, PerformEnds}
use Rattle.cc_fresh.specs.Unit.{units_of}
use Rattle.cc_fresh.specs.declared.choice.Choice.{Choice}
use Rattle.cc_fresh.specs.declared.file.ReadError.{ReadError}
use Rattle.cc_fresh.specs.declared.reason.Reason.{Reason}
use Rattle.cc_fresh.specs.declared.record.Entry.{Entry}
use Rattle.cc_fresh.specs.declared.refresh.Prepared.{Prepared}
use Rattle.cc_fresh.specs.declared.unit.TranslationUnit.{TranslationUnit}
use Rattle.cc_fresh.specs.declared.unit.UnitState.{UnitState}
use Rattle.cc_fresh.proofs.ChoiceLaws.{may_choose}
use Rattle.cc_fresh.proofs.EndsLaws.{opened, ends_as, ends_sooner, refused_more, ends_from_both, halted_before, ends_last, unread_behind, unread_before, stages_are, refusal_is, later_left}
use Rattle.cc_fresh.proofs.EntryLaws.{may_enter}
use Rattle.cc_fresh.proofs.InTurnLaws.{may_all}

-- ---- it is prepared

module _ (b : BuildSeen) (listens : Bool) (output path : List ℕ) (files : FilesSeen) (look : Look) where
  -- the plan was refused, or the run ended at its opening
  pub unplanned : (part : List Event) (e : ErrorSeen) → files.new ≡ files.old → PlanRunEnds b listens output (Err e) look part → PrepareEnds b listens output path (Err e) files look part
  unplanned part e same h =
      let may = may_choose path (units_for b h.0 look) look in
      (h.0, [], may.0, (h.1.0, same ∙ sym (append-nil files.old), may.1, (λ t x refusal rest some. inl (h.1.1 t x refusal (Asks ∷ rest) (λ none. absurd (cc))))))

  module _ (plan : RunPlan) (old mid new : List Event) (first : mid ≡ old ++ since old mid) (last : new ≡ mid ++ since mid new) (h : PlanRunEnds b listens output (Ok plan) look (since old mid)) where
    abbrev found : Found
    found = h.0

    -- it was opened, and memory was wanted
    pub unlisted : (e : ErrorSeen) → e ≡ no_memory → files.new ≡ files.old → PrepareEnds b listens output path (Err e) files look (since old mid)
    unlisted e memory same =
        let may = may_choose path (units_for b found look) look in
        let o = h.1.3 in (
          found,
          [],
          may.0,
          (
            h.1.0,
            same ∙ sym (append-nil files.old),
            may.1,
            (λ t x refusal rest some.
                ends_as t files.before files.now {T = Unit {0}} refusal _ (opened b found look ++ Asks ∷ rest) _ may.0 (Err e) (since old mid) x x
                (refusal_is b output found look h.1.1 o.enabled o.allowed refusal) (stages_are b output found look h.1.1 o.enabled o.allowed (Asks ∷ rest))
                (inl (halted_among t refusal (opened b found look) (Asks ∷ rest) (since old mid) e x x (o.went t x) memory (λ none. absurd (cc))))),
          ),
        )

    module _ (units : List TranslationUnit) (are : units ≡ units_of (objects_of b.config b.env) plan.commands.items) (asked : list_all is_asked (since mid new) ≡ true) where
      same_units : units ≡ units_for b found look
      same_units = are ∙ ap (units_of (objects_of b.config b.env)) h.1.3.commands

      -- files were read no further
      pub unchosen : (r : ReadError) (e : ErrorSeen) → IsErrorOf r e → AddsFirst files.old files.new (MayChoose path units look) r files.before files.now → PrepareEnds b listens output path (Err e) files look (since old new)
      unchosen r e is k =
          let o = h.1.3 in (
            found,
            k.0,
            k.1,
            (
              h.1.0,
              k.2.0,
              subst (λ (us : List TranslationUnit). MayChoose path us look (k.0 ++ k.1)) same_units k.2.1,
              (λ t x refusal rest some.
                  ends_as t files.before files.now {T = Unit {0}} refusal _ (opened b found look ++ Asks ∷ rest) _ k.1 (Err e) (since old new) x x
                  (refusal_is b output found look h.1.1 o.enabled o.allowed refusal) (stages_are b output found look h.1.1 o.enabled o.allowed (Asks ∷ rest))
                  (unread_behind t files.before files.now refusal old mid new (opened b found look) rest k.1 r e x some first last (o.went t x) asked is k.2.2)),
            ),
          )

      -- the choice was made
      pub prepared : (p : Prepared) → p.plan ≡ plan → p.units.items ≡ units → Adds files.old files.new (IsChoice path units look p.choice) → PrepareEnds b listens output path (Ok p) files look (since old new)
      prepared p its these read =
          let o = h.1.3 in
          let plans : p.plan.commands.items ≡ plan.commands.items = ap (λ (q : RunPlan). q.commands.items) its in (
            found,
            (
              h.1.0,
              record {
                early = h.1.1;
                enabled = o.enabled;
                late = o.allowed;
                shows = ap (λ (q : RunPlan). q.shows) its ∙ h.1.2;
                commands = plans ∙ o.commands;
                units = these ∙ are ∙ ap (units_of (objects_of b.config b.env)) (sym plans);
                read = subst (λ (us : List TranslationUnit). Adds files.old files.new (IsChoice path us look p.choice)) (sym these) read;
                went = λ t x. went_from t old mid new (opened b found look) (Asks ∷ []) x x x first last (o.went t x) (went_one t Asks (since mid new) x x (asked, refl));
              },
            ),
          )

-- ---- the record is written

module _ (checks : Bool) (path : List ℕ) (units : List TranslationUnit) (choice : Choice) (files : FilesSeen) (part : List Event) where
  -- files were read no further
  pub unfinished : (r : ReadError) (e : ErrorSeen) → part ≡ [] → IsErrorOf r e → AddsFirst files.old files.new (InTurnSome (IsEntry checks choice.kept) (pairs units choice.states.items)) r files.before files.now → FinishEnds checks path units choice (Err e) files part
  unfinished r e none is k = (
    k.2.1.0,
    k.0,
    k.1,
    (k.2.0, k.2.1.1, tt, (λ t x. unread_before t files.before files.now None (calls (Writes path (record_text k.2.1.0) ∷ [])) k.1 r e part x (λ empty. absurd (cc)) none is k.2.2)),
  )

  module _ (kept : List Entry) (states : List UnitState) (entries : List Entry) (same : kept ≡ choice.kept) (also : states ≡ choice.states.items) (read : Adds files.old files.new (AreEntries checks kept units states entries)) where
    its : AreEntries checks choice.kept units choice.states.items entries (read.0 ++ [])
    its =
        subst (λ (l : List Read). AreEntries checks choice.kept units choice.states.items entries l) (sym (append-nil read.0))
        (subst (λ (k : List Entry). AreEntries checks k units choice.states.items entries read.0) same (subst (λ (l : List UnitState). AreEntries checks kept units l entries read.0) also read.1.1))

    -- the record was written
    pub finished : CallsEnd {T = Unit {0}} (Writes path (record_text entries) ∷ []) part (Ok tt) → FinishEnds checks path units choice (Ok choice.reasons) files part
    finished ends = (entries, read.0, [], (read.1.0, its, refl, (λ t x. let done = ends t x in (refl, done.0, done.1))))

    -- it wasn't
    pub unwritten : (e : ErrorSeen) → CallsEnd {T = Unit {0}} (Writes path (record_text entries) ∷ []) part (Err e) → FinishEnds checks path units choice (Err e) files part
    unwritten e ends = (entries, read.0, [], (read.1.0, its, tt, (λ t x. inl (ends t x))))

-- ---- its commands are run

module _ (b : BuildSeen) (output path : List ℕ) (checks : Bool) (p : Prepared) (files : FilesSeen) (look : Look) where
  abbrev cmds : List Planned
  cmds = chosen p.choice.choices.items p.plan.commands.items

  -- the run ended before the record
  pub unperformed : (part : List Event) (e : ErrorSeen) (c : Course) → files.new ≡ files.old → RunPlanEnds {T = Unit {0}} b output p.plan p.choice.choices.items (Err e) look part c → PerformEnds b output path checks p (Err e) files look part c
  unperformed part e c same h = λ found hears.
      let run = h found hears in
      let may = may_all (IsEntry checks p.choice.kept) (may_enter checks p.choice.kept) (pairs p.units.items p.choice.states.items) in (
        run.0,
        run.1,
        may.1.0,
        [],
        may.0,
        (
          run.2.0,
          same ∙ sym (append-nil files.old),
          may.1.1,
          tt,
          inl (halted_before (terms p.plan.shows c.total c.patience) files.before files.now (later_error b look output) (beside cmds ++ later_stages b.config b.env (way_of found run.0 run.1) look output) (calls (Writes path (record_text may.1.0) ∷ [])) part e c.before c.after run.2.1),
        ),
      )

  -- the library was made, and then the record was written or not
  pub performed : (old mid new : List Event) (result : Result (List Reason) ErrorSeen) (total patience : Option ℕ) (x z : Means) → mid ≡ old ++ since old mid → new ≡ mid ++ since mid new → RunPlanEnds {T = Unit {0}} b output p.plan p.choice.choices.items (Ok tt) look (since old mid) (course total patience x z) → FinishEnds checks path p.units.items p.choice result files (since mid new) → PerformEnds b output path checks p result files look (since old new) (course total patience x z)
  performed old mid new result total patience x z first last h k = λ found hears.
      let run = h found hears in
      let t = terms p.plan.shows total patience in (
        run.0,
        run.1,
        k.0,
        k.1,
        k.2,
        (
          run.2.0,
          k.3.0,
          k.3.1,
          k.3.2,
          ends_last t files.before files.now (later_error b look output) old mid new (beside cmds ++ later_stages b.config b.env (way_of found run.0 run.1) look output) (calls (Writes path (record_text k.0) ∷ [])) k.2 result x z z run.2.1.0 first last run.2.1.1 (k.3.3 t z),
        ),
      )

-- ---- the whole

module _ (b : BuildSeen) (listens : Bool) (output path : List ℕ) (checks : Bool) (look : Look) where
  -- it ended before its choice
  pub unrefreshed : (files : FilesSeen) (part : List Event) (e : ErrorSeen) (total patience : Option ℕ) (x : Means) → PrepareEnds b listens output path (Err e) files look part → Refreshed b listens output path checks (Err e) files look part (course total patience x x)
  unrefreshed files part e total patience x h =
      let found = h.0 in
      let way = way_of found (writing_of false []) all_firsts in
      let choice = h.1 ++ h.2 in
      let m = h.3.2 in
      let units = units_for b found look in
      let may = may_all (IsEntry checks m.0) (may_enter checks m.0) (pairs units m.2) in
      let t = terms (shows_of b.config b.env listens) total patience in
      let its : (choices : List Bool) (bytes : List ℕ) → EndsWith {T = List Reason} t (refusal_error b.config b.env look output) (refresh_stages b way look output choices path bytes) (h.2 ++ may.0) (Err e) part x x files.before files.now =
      λ choices bytes.
      refused_more t files.before files.now (refusal_error b.config b.env look output) (refresh_stages b way look output choices path bytes) h.2 may.0 e part x x
      (h.3.3 t x (later_error b look output) (chosen_stages b way look output (chosen choices (compiles_planned b.config b.env found.here look)) path bytes) (later_left b way look output (beside (chosen choices (compiles_planned b.config b.env found.here look))) _)) in
      record {
        way = way;
        hears = h.3.0;
        repeats = λ _. refl;
        told = h.1;
        more = h.2 ++ may.0;
        adds = h.3.1;
        choice = choice;
        made = may.0;
        cut = sym (append_assoc h.1 h.2 may.0);
        kept = m.0;
        reasons = m.1;
        states = m.2;
        entries = may.1.0;
        chooses = m.3;
        entries_are = may.1.1;
        answer = tt;
        outcome = its (choices_of m.1) (record_text may.1.0);
        chosen_first = inr its;
      }

  -- the choice was made, and then it ended so
  module _ (p : Prepared) (r0 r1 r2 : List Read) (f0 f1 f2 : ℕ) (sooner : f0 ≤ f1) (old mid new : List Event) (first : mid ≡ old ++ since old mid) (last : new ≡ mid ++ since mid new) where
    abbrev begun : FilesSeen
    begun = record { old = r0; new = r1; before = f0; now = f1 }

    abbrev behind : FilesSeen
    behind = record { old = r1; new = r2; before = f1; now = f2 }

    abbrev all : FilesSeen
    all = record { old = r0; new = r2; before = f0; now = f2 }

    pub refreshed : (result : Result (List Reason) ErrorSeen) (total patience patience' : Option ℕ) (x z : Means) → patience' ≡ patience → PrepareEnds b listens output path (Ok p) begun look (since old mid) → PerformEnds b output path checks p result behind look (since mid new) (course total patience' x z) → Refreshed b listens output path checks result all look (since old new) (course total patience x z)
    refreshed result total patience patience' x z patient h k =
        let found = h.0 in
        let q = h.1.1 in
        let heard : Hears p.plan.shows.listens found = h.1.0 ∙ sym (ap (λ (s : Shows). s.listens) q.shows) in
        let run = k found heard in
        let writing = run.0 in
        let firsts = run.1 in
        let entries = run.2 in
        let told = run.3 in
        let more = run.4 in
        let way = way_of found writing firsts in
        let t = terms (shows_of b.config b.env listens) total patience in
        let these : p.units.items ≡ units_for b found look = q.units ∙ ap (units_of (objects_of b.config b.env)) q.commands in
        let chooses = subst (λ (us : List TranslationUnit). Chooses path us look p.choice.kept p.choice.reasons p.choice.states.items q.read.0) these q.read.1.1.0 in
        let bytes = record_text entries in
        let front = opened b found look ++ Asks ∷ [] in
        let planned = compiles_planned b.config b.env found.here look in
        let cmds : chosen p.choice.choices.items p.plan.commands.items ≡ chosen (choices_of p.choice.reasons) planned = ap₂ (λ (c : List Bool) (l : List Planned). chosen c l) q.read.1.1.1 q.commands in
        let rest = chosen_stages b way look output (chosen (choices_of p.choice.reasons) planned) path bytes in
        let later = later_error b look output in
        let ended : EndsWith t later rest more result (since mid new) x z f0 f2 =
        ends_sooner t f0 f1 f2 sooner later rest more result (since mid new) x z
        (subst (λ (l : List Planned). EndsWith t later (chosen_stages b way look output l path bytes) more result (since mid new) x z f1 f2) cmds
        (subst (λ (s : Shows). EndsWith (terms s total patience) later (chosen_stages b way look output (chosen p.choice.choices.items p.plan.commands.items) path bytes) more result (since mid new) x z f1 f2) q.shows
        (subst (λ (n : Option ℕ). EndsWith (terms p.plan.shows total n) later (chosen_stages b way look output (chosen p.choice.choices.items p.plan.commands.items) path bytes) more result (since mid new) x z f1 f2) patient run.5.4))) in
        let whole : EndsWith t later (front ++ rest) more result (since old new) x z f0 f2 =
        ends_from_both t f0 f2 later old mid new front rest more result x x z first last (q.went t x) ended in
        record {
          way = way;
          hears = h.1.0;
          repeats = run.5.0;
          told = q.read.0 ++ told;
          more = more;
          adds = run.5.1 ∙ ap (λ l. l ++ told) q.read.1.0 ∙ append_assoc r0 q.read.0 told;
          choice = q.read.0;
          made = told ++ more;
          cut = append_assoc q.read.0 told more;
          kept = p.choice.kept;
          reasons = p.choice.reasons;
          states = p.choice.states.items;
          entries = entries;
          chooses = chooses;
          entries_are = subst (λ (us : List TranslationUnit). AreEntries checks p.choice.kept us p.choice.states.items entries (told ++ more)) these run.5.2;
          answer = run.5.3;
          outcome = ends_as t f0 f2 later _ (front ++ rest) _ more result (since old new) x z
              (refusal_is b output found look q.early q.enabled q.late later)
              (append_assoc (opened b found look) (Asks ∷ []) rest ∙ stages_are b output found look q.early q.enabled q.late (Asks ∷ rest)) whole;
          chosen_first = inl (told, refl);
        }
