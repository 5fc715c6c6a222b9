-- How a compile run goes that is recorded, from its calls to its answer.
use Rattle.std.proofs.Common.{◌≡◌, inl, inr, ℕ, List, [], ◌∷◌, ◌++◌, true, Option, Result, Ok, Err, refl, sym, ◌∙◌, ap, subst, append_assoc, append-nil, Bool}
use Rattle.std.specs.Prelude.{◌≢◌}
use Rattle.cc_db.specs.Database.{database}
use Rattle.cc_host.specs.Part.{since}
use Rattle.cc_host.specs.Question.{Look}
use Rattle.cc_host.specs.declared.event.Event.{Event}
use Rattle.cc_host.specs.declared.event.Event.TheVariants.{Listed, Here, Wrote}
use Rattle.cc_host.specs.declared.event.HostCall.TheVariants.{CurrentDir}
use Rattle.cc_plan.specs.Plan.{objects_of}
use Rattle.cc_build.specs.Build.{BuildSeen}
use Rattle.cc_build.specs.Built.{Built}
use Rattle.cc_build.specs.Captured.{Captures, CaptureEnds}
use Rattle.cc_build.specs.Course.{Course, course}
use Rattle.cc_build.specs.Error.{ErrorSeen}
use Rattle.cc_build.specs.Promises.{terms_for, IsBuilt, Promises}
use Rattle.cc_build.specs.Went.{Means}
use Rattle.cc_command.specs.Answer.{Answers, AnswersError, AnswersRecord, ended_well, database_in}
use Rattle.cc_command.specs.Database.{Faults, entries_of, logged_entries}
use Rattle.cc_command.specs.Read.{Request}
use Rattle.cc_command.specs.Recording.{EndsBehind, IsRecord}
use Rattle.cc_command.specs.declared.ended.Ended.{Ended}
use Rattle.cc_command.proofs.AnswerLaws.{answers_built, answers_refused, halted_listed}
use Rattle.cc_command.proofs.EntryLaws.{built_starts, planned_log}

-- ---- between the two calls

-- the three calls, one after another
pub between_so : (listens : Bool) (look : Look) (b : BuildSeen) (output path here : List ℕ) (ran result : Result (Unit {0}) ErrorSeen) (first run rest part : List Event) → part ≡ (first ++ run) ++ rest → first ≡ Here here ∷ [] → (total p q : Option ℕ) → p ≡ q → (x y : Means) → IsBuilt b listens output ran look run (course total p x y) → Promises b listens output ran look run (course total p x y) → EndsBehind path (database (entries_of b.config b.env look here)) ran rest result → IsRecord listens output path b result look part (course total q x y)
between_so listens look b output path here ran result first run rest part cut told total p q same x y built promises behind =
    inr (record {
      here = here;
      run = run;
      rest = rest;
      cut = cut ∙ ap (λ l. (l ++ run) ++ rest) told;
      ran = ran;
      built = subst (λ (patience : Option ℕ). IsBuilt b listens output ran look run (course total patience x y)) same built;
      promises = subst (λ (patience : Option ℕ). Promises b listens output ran look run (course total patience x y)) same promises;
      behind = behind;
    })

-- what was written behind a library that was built
pub wrote_so : (listens : Bool) (look : Look) (b : BuildSeen) (output path here named : List ℕ) (c : Course) (mid end part : List Event) → end ≡ mid ++ since mid end → Built (terms_for b listens c) b.config b.env look output (since mid end) → named ≡ here → part ≡ Wrote path (database (logged_entries named (objects_of b.config b.env) end)) ∷ [] → part ≡ Wrote path (database (entries_of b.config b.env look here)) ∷ []
wrote_so listens look b output path here named c mid end part extends built same wrote =
    let entries : logged_entries here (objects_of b.config b.env) end ≡ entries_of b.config b.env look here =
    ap (logged_entries here (objects_of b.config b.env)) extends ∙ planned_log b.config b.env look here mid (since mid end) (built_starts (terms_for b listens c) b.config b.env look output (since mid end) built) in
    wrote ∙ ap (λ (folder : List ℕ). Wrote path (database (logged_entries folder (objects_of b.config b.env) end)) ∷ []) same ∙ ap (λ entries. Wrote path (database entries) ∷ []) entries

pub unfound_so : (listens : Bool) (look : Look) (b : BuildSeen) (output path : List ℕ) (e : ErrorSeen) (part : List Event) (c : Course) → Faults CurrentDir [] part e → c.after ≡ c.before → IsRecord listens output path b (Err e) look part c
unfound_so listens look b output path e part c faults same = inl (e, (refl, faults, same))

-- ---- with the variables before it

refused_differs : (e : ErrorSeen) (line : List Event) (ended : Ended) → AnswersError e line ended → ended ≢ ended_well
refused_differs e line ended (inl printed) = λ well.
    let s : ended.status ≡ 1 = ap (λ (x : Ended). x.status) printed.0 in
    let z : ended.status ≡ 0 = ap (λ (x : Ended). x.status) well in
    cc
refused_differs e line ended (inr wanting) = λ well.
    let s : ended.status ≡ 3 = ap (λ (x : Ended). x.status) wanting.0 in
    let z : ended.status ≡ 0 = ap (λ (x : Ended). x.status) well in
    cc

-- the variables weren't listed
pub unlisted_record : (listens : Bool) (look : Look) (path : List ℕ) (q : Request) (front line part : List Event) (e : ErrorSeen) (ended : Ended) (c : Course) → part ≡ front ++ line → CaptureEnds front (Err e) → AnswersError e line ended → c.after ≡ c.before → AnswersRecord listens look path q part ended c
unlisted_record listens look path q front line part e ended c cut ends says same = inl (record { error = e; front = front; line = line; cut = cut; cause = inl ends; says = says; idle = same })

module _ (listens : Bool) (look : Look) (path name : List ℕ) (before after : BuildSeen) (listed : List Event) (k : Captures before after listed) (total p q : Option ℕ) (same : p ≡ q) (x y : Means) (repeats : before.config.repeat_lines ≡ true) where
  abbrev c : Course
  c = course total q x y

  -- the same listing, from an empty log on
  alone : Captures before after (Listed k.vars ∷ [])
  alone = record { vars = k.vars; listed = refl; is = k.is }

  answered : (run : List Event) → Built (terms_for after listens (course total p x y)) after.config after.env look name run → Promises {T = Unit {0}} after listens name (Ok tt) look run (course total p x y) → Answers listens look (name, before) (Listed k.vars ∷ run) ended_well c
  answered run built promises = answers_built listens look name before after (Listed k.vars ∷ []) run (Listed k.vars ∷ run) refl alone total p q same x y repeats ended_well refl built promises

  refused : (run line : List Event) (e : ErrorSeen) (ended : Ended) → Promises {T = Unit {0}} after listens name (Err e) look run (course total p x y) → AnswersError e line ended → Answers listens look (name, before) (Listed k.vars ∷ (run ++ line)) ended c
  refused run line e ended promises says =
      answers_refused listens look (name, before) (Listed k.vars ∷ run) line (Listed k.vars ∷ (run ++ line)) e ended c refl (halted_listed listens look name before after (Listed k.vars ∷ []) run (Listed k.vars ∷ run) refl alone total p q same x y repeats e promises) says

  bytes_same : (here : List ℕ) → database (entries_of after.config after.env look here) ≡ database_in look (name, before) k.vars here
  bytes_same here = ap (λ (b : BuildSeen). database (entries_of b.config b.env look here)) k.is

  -- it was done
  pub recorded_done : (part more : List Event) (ended : Ended) → part ≡ listed ++ more → IsRecord listens name path after (Ok tt) look more (course total p x y) → ended ≡ ended_well → AnswersRecord listens look path (name, before) part ended c
  recorded_done part more ended cut (inl f) is = let clash : Ok tt ≡ Err f.0 = f.1.0 in absurd (cc)
  recorded_done part more ended cut (inr w) is = by_run w.ran w.built w.promises w.behind
    where
      by_run : (ran : Result (Unit {0}) ErrorSeen) → IsBuilt after listens name ran look w.run (course total p x y) → Promises after listens name ran look w.run (course total p x y) → EndsBehind path (database (entries_of after.config after.env look w.here)) ran w.rest (Ok tt) → AnswersRecord listens look path (name, before) part ended c
      by_run (Ok done) built promises behind =
          inr (record {
            vars = k.vars;
            here = w.here;
            run = w.run;
            rest = w.rest;
            cut = cut ∙ ap (λ l. l ++ more) k.listed ∙ ap (λ l. Listed k.vars ∷ l) w.cut;
            ran = ended_well;
            answer = answered w.run built promises;
            behind = inl (refl, inl (is, behind ∙ ap (λ bytes. Wrote path bytes ∷ []) (bytes_same w.here)));
          })
      by_run (Err e) built promises behind = let clash : Ok tt ≡ Err e = behind.0 in absurd (cc)

  -- it was refused, with a line behind it
  pub recorded_refused : (part more line : List Event) (e : ErrorSeen) (ended : Ended) → part ≡ (listed ++ more) ++ line → IsRecord listens name path after (Err e) look more (course total p x y) → AnswersError e line ended → AnswersRecord listens look path (name, before) part ended c
  recorded_refused part more line e ended cut (inl f) says =
      let same_error : f.0 ≡ e = let g : Err e ≡ Err f.0 = f.1.0 in cc in
      inl (record {
        error = e;
        front = listed ++ more;
        line = line;
        cut = cut;
        cause = inr (k.vars, more, (ap (λ l. l ++ more) k.listed, subst (Faults CurrentDir [] more) same_error f.1.1));
        says = says;
        idle = f.1.2;
      })
  recorded_refused part more line e ended cut (inr w) says = by_run w.ran w.built w.promises w.behind
    where
      whole : part ≡ Listed k.vars ∷ Here w.here ∷ ((w.run ++ w.rest) ++ line)
      whole = cut ∙ ap (λ l. (l ++ more) ++ line) k.listed ∙ ap (λ l. (Listed k.vars ∷ l) ++ line) w.cut

      by_run : (ran : Result (Unit {0}) ErrorSeen) → IsBuilt after listens name ran look w.run (course total p x y) → Promises after listens name ran look w.run (course total p x y) → EndsBehind path (database (entries_of after.config after.env look w.here)) ran w.rest (Err e) → AnswersRecord listens look path (name, before) part ended c
      by_run (Ok done) built promises behind =
          inr (record {
            vars = k.vars;
            here = w.here;
            run = w.run;
            rest = w.rest ++ line;
            cut = whole ∙ ap (λ l. Listed k.vars ∷ Here w.here ∷ l) (append_assoc w.run w.rest line);
            ran = ended_well;
            answer = answered w.run built promises;
            behind = inl (refl, inr (record { error = e; front = w.rest; line = line; cut = refl; cause = behind; says = says }));
          })
      by_run (Err f) built promises behind =
          let same_error : f ≡ e = let g : Err e ≡ Err f = behind.0 in cc in
          let its : Promises {T = Unit {0}} after listens name (Err e) look w.run (course total p x y) = subst (λ (d : ErrorSeen). Promises {T = Unit {0}} after listens name (Err d) look w.run (course total p x y)) same_error promises in
          inr (record {
            vars = k.vars;
            here = w.here;
            run = w.run ++ line;
            rest = [];
            cut = whole ∙ ap (λ l. Listed k.vars ∷ Here w.here ∷ (l ++ line)) (ap (λ l. w.run ++ l) behind.1 ∙ append-nil w.run) ∙ ap (λ l. Listed k.vars ∷ Here w.here ∷ l) (sym (append-nil (w.run ++ line)));
            ran = ended;
            answer = refused w.run line e ended its says;
            behind = inr (refl, refl, refused_differs e line ended says);
          })
