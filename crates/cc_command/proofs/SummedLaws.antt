-- What the program answers to a large run from a number, and what follows from it.
use Rattle.std.proofs.Common.{◌≡◌, ◌⊎◌, inl, inr, ◌∙◌, refl, sym, ap, subst, ℕ, ◌+◌, ◌≤◌, List, [], ◌∷◌, ◌++◌, map, Bool, true, false, ◌||◌, Option, Some, None, Result, Ok, Err, append-nil, if◌then◌else◌}
use Rattle.std.specs.Prelude.{◌*◌}
use Rattle.std.specs.List.{list_any, flat_map}
use Rattle.std.proofs.lemmas.List.Folds.{list_any-append}
use Rattle.cc_host.specs.Bench.{BenchSeen}
use Rattle.cc_host.specs.Event.{apart}
use Rattle.cc_host.specs.Part.{step_of, Refuses}
use Rattle.cc_host.specs.Part.Step.{Runs, Prints, Lists}
use Rattle.cc_host.specs.declared.event.Event.{Event}
use Rattle.cc_host.specs.declared.event.Event.TheVariants.{Ran, Made, Removed, Wrote, Copied, Here, Said, Printed, Listed, Fault}
use Rattle.cc_host.specs.declared.event.HostCall.{HostCall}
use Rattle.cc_host.specs.declared.event.HostCall.TheVariants.{Print, Vars}
use Rattle.cc_host.specs.declared.event.LineKind.TheVariants.{Shown}
use Rattle.cc_host.specs.declared.event.Scope.TheVariants.{Build as Building, Probe as ForProbes}
use Rattle.cc_host.specs.declared.event.Why.{Why}
use Rattle.cc_host.specs.Status.{is_success}
use Rattle.cc_tool.proofs.SomeLemmas.{some_agree}
use Rattle.cc_host.specs.Question.{answers}
use Rattle.cc_build.specs.Captured.{CaptureEnds}
use Rattle.cc_build.specs.Error.{ErrorSeen, no_memory}
use Rattle.cc_build.specs.Failed.{HasFault, is_fault}
use Rattle.cc_build.specs.Promises.{NothingRuns, terms_for}
use Rattle.cc_build.specs.Stage.{Stage, calls}
use Rattle.cc_build.specs.Stage.Stage.{Calls}
use Rattle.cc_build.specs.Stop.{stop_error, fault_error}
use Rattle.cc_build.specs.Went.{Terms, Means, means, Did, Went, Halted, Halts, Stops, Partly, IsOf}
use Rattle.cc_build.specs.declared.error.ErrorKind.TheVariants.{TurnsSpent}
use Rattle.cc_build.proofs.OrderLaws.{ended_partly}
use Rattle.cc_command.specs.Answer.{AnswersError, told, ended_refused, ended_wanting}
use Rattle.cc_command.specs.Archived.{Says}
use Rattle.cc_command.specs.Generated.{gen_build, gen_course, GeneratedRun, summary}
use Rattle.cc_command.specs.Promises.{PrintsLast, FaultsLast, IsLine}
use Rattle.cc_command.specs.Lines.{shows}
use Rattle.cc_command.specs.Summary.{log_lines, SumsUp, Generating, Summed, Sums, BuiltAlone, SpentAlone, GeneratePromises}
use Rattle.cc_command.specs.declared.ended.Ended.{Ended}
use Rattle.cc_command.proofs.ArchivedLaws.{says_last, says_line}
use Rattle.cc_command.proofs.PromiseLaws.{any_before, known_memory, same_error, stages_last}
use Rattle.cc_command.proofs.SettledPromises.{stages_settled}
use Rattle.cc_command.proofs.CountLaws.{lent_lines}
use Rattle.cc_command.proofs.SummaryLaws.{summary_is}

-- ---- the run is summed up

-- by its log, as its host lends the events of it
pub lent_sums : (count : ℕ) (log events : List Event) (run : Result (Unit {0}) ErrorSeen) (part : List Event) (result : Result (Unit {0}) ErrorSeen) → flat_map apart events ≡ log → SumsUp (log_lines count events) run part result → SumsUp (log_lines count log) run part result
lent_sums count log events run part result lent s = subst (λ (lines : List (List ℕ)). SumsUp lines run part result) (lent_lines count events log lent) s

-- the lines that sum up its log are those of the summary
pub summed_up : (count turned : ℕ) (log : List Event) (run : Result (Unit {0}) ErrorSeen) (part : List Event) (result : Result (Unit {0}) ErrorSeen) → GeneratedRun count turned log run → SumsUp (log_lines count log) run part result → SumsUp (summary count) run part result
summed_up count turned log (Err e) part result g s = s
summed_up count turned log (Ok done) part result g s =
    let some = some_agree (answers log) g.run.once in
    let built = g.run.built.under some.0 some.1 in
    let t = terms_for (gen_build count) false (gen_course turned built.0 built.1 built.2) in
    subst (λ (lines : List (List ℕ)). SumsUp lines (Ok done) part result) (summary_is count some.0 t log g.run.plain built.3) s

-- ---- lines that are printed

module _ (t : Terms) where
  -- the one event that prints a line
  one_shown : (line : List ℕ) (event : Event) → step_of event ≡ Prints Shown line ∷ [] → event ≡ Printed Shown line
  one_shown line (Printed kind bytes) e = let same : Prints kind bytes ≡ Prints Shown line = cc in cc
  one_shown line (Ran role cmd pipes status out err) e = by_status (is_success status) e
    where
      by_status : (b : Bool) → (if b then Runs role cmd ∷ [] else []) ≡ Prints Shown line ∷ [] → Ran role cmd pipes status out err ≡ Printed Shown line
      by_status true h = absurd (cc)
      by_status false h = absurd (cc)
  one_shown line (Made Building path) e = absurd (cc)
  one_shown line (Made ForProbes path) e = absurd (cc)
  one_shown line (Removed path how) e = absurd (cc)
  one_shown line (Wrote path bytes) e = absurd (cc)
  one_shown line (Copied from to) e = absurd (cc)
  one_shown line (Here path) e = absurd (cc)
  one_shown line (Said message) e = absurd (cc)
  one_shown line (Listed vars) e = absurd (cc)
  one_shown line event e = absurd (cc)

  all_shown : (lines : List (List ℕ)) (part : List Event) (x y : Means) → Went t (calls (shows lines)) part x y → part ≡ map (Printed Shown) lines
  all_shown [] part x y w = w.0
  all_shown (line ∷ lines) part x y w =
      let event : w.0 ≡ Printed Shown line ∷ [] = w.3.1.1.0 ∙ ap (λ e. e ∷ []) (one_shown line w.3.1.0 w.3.1.1.1) in
      w.3.0 ∙ ap (λ l. l ++ w.1) event ∙ ap (λ l. Printed Shown line ∷ l) (all_shown lines w.1 w.2 y w.3.2)

-- a stage among those that print lines prints one
abbrev IsShow : Stage → Type 0
IsShow s = (line : List ℕ) × (s ≡ Calls (Prints Shown line))

is_show : (lines : List (List ℕ)) (before : List Stage) (s : Stage) (after : List Stage) → calls (shows lines) ≡ before ++ s ∷ after → IsShow s
is_show [] [] s after e = absurd (cc)
is_show [] (b ∷ before) s after e = absurd (cc)
is_show (line ∷ lines) [] s after e = let same : Calls (Prints Shown line) ≡ s = cc in (line, sym same)
is_show (line ∷ lines) (b ∷ before) s after e = let rest : calls (shows lines) ≡ before ++ s ∷ after = cc in is_show lines before s after rest

-- lines were not all printed for want of memory, or for a fault of the host, which no want of turns is
abbrev IsUnprinted : ErrorSeen → List Event → Type 0
IsUnprinted e part = (e ≡ no_memory) ⊎ (HasFault part × (e.kind ≡ TurnsSpent → ⊥))

or_right : (a b : Bool) → b ≡ true → (a || b) ≡ true
or_right true b h = refl
or_right false b h = h

fault_last : (part front : List Event) (why : Why) → part ≡ front ++ Fault Print why ∷ [] → HasFault part
fault_last part front why cut = ap (list_any is_fault) cut ∙ list_any-append is_fault front (Fault Print why ∷ []) ∙ or_right (list_any is_fault front) (list_any is_fault (Fault Print why ∷ [])) refl

not_spent : (call : HostCall) (why : Why) (e : ErrorSeen) → e ≡ fault_error call why [] → e.kind ≡ TurnsSpent → ⊥
unfolding fault_error
not_spent call why e is spent = let kind : (fault_error call why []).kind ≡ TurnsSpent = ap (λ (v : ErrorSeen). v.kind) (sym is) ∙ spent in cc

by_event : (line : List ℕ) (part front : List Event) (e : ErrorSeen) (event : Event) → part ≡ front ++ event ∷ [] → Refuses (Prints Shown line) event → IsOf (stop_error (Prints Shown line) event) e → IsUnprinted e part
by_event line part front e (Fault call why) cut refuses (inl memory) = inl memory
by_event line part front e (Fault call why) cut refuses (inr is) = inr (
  fault_last part front why (cut ∙ ap (λ c. front ++ Fault c why ∷ []) refuses),
  not_spent Print why e (is ∙ ap (λ c. fault_error c why []) refuses),
)
by_event line part front e _ cut refuses is = absurd refuses

unprinted : (t : Terms) (lines : List (List ℕ)) (part : List Event) (e : ErrorSeen) (x y : Means) → Halted t None (calls (shows lines)) part e x y → IsUnprinted e part
unprinted t lines part e x y h = by_after h.after h.stages_are h.halts
  where
    by_after : (after : List Stage) → calls (shows lines) ≡ h.before ++ after → Halts t None after h.rest e h.y y → IsUnprinted e part
    by_after [] is halts = let clash : false ≡ true = halts.3 in absurd (cc)
    by_after (s ∷ ss) is (inl memory) = inl memory.0
    by_after (s ∷ ss) is (inr stop) =
        let show = is_show lines h.before s ss is in
        let d = subst (λ (v : Stage). Stops t v h.rest e h.y y) show.1 stop in
        by_event show.0 part h.front e d.0 (h.cut ∙ ap (λ l. h.front ++ l) d.1.0) d.1.1 d.1.2

-- the variables were not listed for want of memory, or for a fault of the host, which no want of turns is
listing_event : (part front : List Event) (e : ErrorSeen) (event : Event) → part ≡ front ++ event ∷ [] → Refuses Lists event → IsOf (stop_error Lists event) e → IsUnprinted e part
listing_event part front e (Fault call why) cut refuses (inl memory) = inl memory
listing_event part front e (Fault call why) cut refuses (inr is) = inr (
  ap (list_any is_fault) cut ∙ list_any-append is_fault front (Fault call why ∷ []) ∙ or_right (list_any is_fault front) (list_any is_fault (Fault call why ∷ [])) (ap (λ c. list_any is_fault (Fault c why ∷ [])) refuses),
  not_spent Vars why e (is ∙ ap (λ c. fault_error c why []) refuses),
)
listing_event part front e _ cut refuses is = absurd refuses

unlisted_cause : (t : Terms) (part : List Event) (e : ErrorSeen) (x : Means) → CaptureEnds part (Err e) → IsUnprinted e part
unlisted_cause t part e x (inr memory) = inl memory.0
unlisted_cause t part e x (inl k) = by_after (k t x).before (k t x).after (k t x).stages_are (k t x).halts
  where
    h : Halted t None (Calls Lists ∷ []) part e x x
    h = k t x

    by_after : (before after : List Stage) → Calls Lists ∷ [] ≡ before ++ after → Halts t None after h.rest e h.y x → IsUnprinted e part
    by_after before [] is halts = let clash : false ≡ true = halts.3 in absurd (cc)
    by_after [] (s ∷ ss) is (inl memory) = inl memory.0
    by_after [] (s ∷ ss) is (inr stop) =
        let same : s ≡ Calls Lists = cc in
        let d = subst (λ (v : Stage). Stops t v h.rest e h.y x) same stop in
        listing_event part h.front e d.0 (h.cut ∙ ap (λ l. h.front ++ l) d.1.0) d.1.1 d.1.2
    by_after (b ∷ []) (s ∷ ss) is halts = absurd (cc)
    by_after (b ∷ b' ∷ before) (s ∷ ss) is halts = absurd (cc)

-- ---- what is done on the host

module _ (count turned : ℕ) (part : List Event) (ended : Ended) where
  abbrev t : Terms
  t = terms_for (gen_build count) false (gen_course turned 0 0 0)

  abbrev idle : Means
  idle = means 0 0 0 0

  -- the stages of the summary were begun
  begun_sum : (lines : List (List ℕ)) (run : Result (Unit {0}) ErrorSeen) (shown : List Event) (result : Result (Unit {0}) ErrorSeen) → SumsUp lines run shown result → (stages : List Stage) × Partly t stages shown idle idle
  begun_sum lines (Ok done) shown result sums = (calls (shows lines), ended_partly t None (calls (shows lines)) shown result idle idle (sums t idle))
  begun_sum lines (Err e) shown result sums = ([], (sums.1, refl))

  begun_job : (bench : Option BenchSeen) (shown : List Event) (result : Result (Unit {0}) ErrorSeen) → Generating count turned shown result bench → (stages : List Stage) × Partly t stages shown idle idle
  begun_job (Some bench) shown result g = begun_sum (summary count) g.0 shown result g.1.1
  begun_job None shown result g = ([], (g.1, refl))

  listing_done : (vars : List (List ℕ × List ℕ)) → Did t (Calls Lists) (Listed vars ∷ []) idle idle
  listing_done vars = (Listed vars, (refl, refl, refl))

  -- so were the listing and they
  begun_listed : (s : Summed count turned part ended) → (stages : List Stage) × Partly t stages (Listed s.vars ∷ s.shown) idle idle
  begun_listed s =
      let b = begun_job ended.bench s.shown s.result s.generating in
      (Calls Lists ∷ b.0, inr (inr (Listed s.vars ∷ [], s.shown, idle, (refl, listing_done s.vars, b.1))))

  begun_unlisted : (front : List Event) (e : ErrorSeen) → CaptureEnds front (Err e) → Partly t (Calls Lists ∷ []) front idle idle
  begun_unlisted front e (inl k) = ended_partly {T = Unit {0}} t None (Calls Lists ∷ []) front (Err e) idle idle (k t idle)
  begun_unlisted front e (inr k) = ended_partly {T = Unit {0}} t None (Calls Lists ∷ []) front (Ok tt) idle idle (k.1 t idle)

  -- whichever it was, stages were begun, and a line stands behind them
  pub record Goes : Type 0 where
    pub stages : List Stage
    pub run : List Event
    pub line : List Event
    pub cut : part ≡ run ++ line
    pub begun : Partly t stages run idle idle
    pub printed : IsLine line

  goes : Sums count turned part ended → Goes
  goes (inl s) =
      let b = begun_listed s in
      record { stages = b.0; run = Listed s.vars ∷ s.shown; line = s.line; cut = s.cut; begun = b.1; printed = says_line s.result s.line (told ended) s.says }
  goes (inr u) = record { stages = Calls Lists ∷ []; run = u.front; line = u.line; cut = u.cut; begun = begun_unlisted u.front u.error u.cause; printed = says_line (Err u.error) u.line ended u.says }

  pub summed_last : Sums count turned part ended → PrintsLast part ended
  summed_last (inl s) = says_last s.result part (Listed s.vars ∷ s.shown) s.line (told ended) s.cut s.says
  summed_last (inr u) = says_last (Err u.error) part u.front u.line ended u.cut u.says

  pub summed_faults : Sums count turned part ended → FaultsLast part
  summed_faults s = let g = goes s in stages_last t g.stages part g.run g.line idle idle g.cut g.begun g.printed

  pub summed_settled : Sums count turned part ended → NothingRuns part
  summed_settled s = let g = goes s in stages_settled t g.stages part g.run g.line idle idle g.cut g.begun g.printed

  -- ---- what it promises

  not_done : (e : ErrorSeen) (line : List Event) → Says (Err e) line (told ended) → ended.status ≡ 0 → ⊥
  not_done e line (inl printed) zero_is = let s : ended.status ≡ 1 = ap (λ (v : Ended). v.status) printed.0 in absurd (cc)
  not_done e line (inr wanting) zero_is = let s : ended.status ≡ 3 = ap (λ (v : Ended). v.status) wanting.0 in absurd (cc)

  wanted : (e : ErrorSeen) (line : List Event) → e ≡ no_memory → Says (Err e) line (told ended) → told ended ≡ ended_wanting
  wanted e line memory (inl printed) = absurd (known_memory e printed.1 memory)
  wanted e line memory (inr wanting) = wanting.0

  -- an end that is told without its host
  told_so : (e : ErrorSeen) (line : List Event) → AnswersError e line ended → Says (Err e) line (told ended)
  told_so e line (inl printed) = inl (ap told printed.0, printed.1, printed.2)
  told_so e line (inr wanting) = inr (ap told wanting.0, wanting.1)

  built_by : (s : Summed count turned part ended) (bench : Option BenchSeen) (result : Result (Unit {0}) ErrorSeen) → ended.bench ≡ bench → Generating count turned s.shown result bench → Says result s.line (told ended) → ended.status ≡ 0 → BuiltAlone count turned part ended
  built_by s None result back g says zero_is = absurd (not_done no_memory s.line (subst (λ (r : Result (Unit {0}) ErrorSeen). Says r s.line (told ended)) g.0 says) zero_is)
  built_by s (Some bench) (Err e) back g says zero_is = absurd (not_done e s.line says zero_is)
  built_by s (Some bench) (Ok printed) back g says zero_is = by_run g.0 g.1.0 g.1.1
    where
      by_run : (run : Result (Unit {0}) ErrorSeen) → GeneratedRun count turned bench.log run → SumsUp (summary count) run s.shown (Ok printed) → BuiltAlone count turned part ended
      by_run (Err e) ran sums = let clash : Ok printed ≡ Err e = sums.0 in absurd (cc)
      by_run (Ok done) ran sums =
          let all : s.shown ≡ map (Printed Shown) (summary count) = all_shown t (summary count) s.shown idle idle (sums t idle).1 in
          record {
            bench = bench;
            back = back;
            run = ran;
            built = ran.run.built;
            vars = s.vars;
            shown = s.cut ∙ ap (λ l. Listed s.vars ∷ (s.shown ++ l)) says.1 ∙ ap (λ l. Listed s.vars ∷ l) (append-nil s.shown ∙ all);
          }

  its_built : Sums count turned part ended → ended.status ≡ 0 → BuiltAlone count turned part ended
  its_built (inl s) zero_is = built_by s ended.bench s.result refl s.generating s.says zero_is
  its_built (inr u) zero_is = absurd (not_done u.error u.line (told_so u.error u.line u.says) zero_is)

  -- a run with turns enough was done, or wanted memory: so is the job, unless the host faulted
  complete_run : (run result : Result (Unit {0}) ErrorSeen) (shown line : List Event) → (run ≡ Ok tt) ⊎ (run ≡ Err no_memory) → SumsUp (summary count) run shown result → Says result line (told ended) → (HasFault shown → ⊥) → (ended.status ≡ 0) ⊎ (told ended ≡ ended_wanting)
  complete_run (Err e) result shown line (inl done) sums says fault = absurd (cc)
  complete_run (Err e) result shown line (inr memory) sums says fault =
      let is : e ≡ no_memory = cc in
      inr (wanted e line is (subst (λ (r : Result (Unit {0}) ErrorSeen). Says r line (told ended)) sums.0 says))
  complete_run (Ok done) (Ok printed) shown line enough sums says fault = inl (ap (λ (v : Ended). v.status) says.0)
  complete_run (Ok done) (Err e) shown line enough sums says fault = by_cause (unprinted t (summary count) shown e idle idle (sums t idle))
    where
      by_cause : IsUnprinted e shown → (ended.status ≡ 0) ⊎ (told ended ≡ ended_wanting)
      by_cause (inl memory) = inr (wanted e line memory says)
      by_cause (inr faulted) = absurd (fault faulted.0)

  complete_by : (bench : Option BenchSeen) (result : Result (Unit {0}) ErrorSeen) (shown line : List Event) → 2 * count + 2 ≤ turned → Generating count turned shown result bench → Says result line (told ended) → (HasFault shown → ⊥) → (ended.status ≡ 0) ⊎ (told ended ≡ ended_wanting)
  complete_by None result shown line enough g says fault = inr (wanted no_memory line refl (subst (λ (r : Result (Unit {0}) ErrorSeen). Says r line (told ended)) g.0 says))
  complete_by (Some bench) result shown line enough g says fault = complete_run g.0 result shown line (g.1.0.enough enough) g.1.1 says fault

  its_complete : Sums count turned part ended → 2 * count + 2 ≤ turned → (HasFault part → ⊥) → (ended.status ≡ 0) ⊎ (told ended ≡ ended_wanting)
  its_complete (inl s) enough fault = complete_by ended.bench s.result s.shown s.line enough s.generating s.says (λ some. fault (ap (list_any is_fault) s.cut ∙ any_before is_fault s.shown s.line some))
  its_complete (inr u) enough fault = by_cause (unlisted_cause t u.front u.error idle u.cause)
    where
      by_cause : IsUnprinted u.error u.front → (ended.status ≡ 0) ⊎ (told ended ≡ ended_wanting)
      by_cause (inl memory) = inr (wanted u.error u.line memory (told_so u.error u.line u.says))
      by_cause (inr faulted) = absurd (fault (ap (list_any is_fault) u.cut ∙ any_before is_fault u.front u.line faulted.0))

  -- the error of the answer is that of the run
  told_error : (e f : ErrorSeen) (line : List Event) → Says (Err f) line (told ended) → told ended ≡ ended_refused e → f ≡ e
  told_error e f line (inl printed) is = same_error f e (told ended) printed.0 is
  told_error e f line (inr wanting) is =
      let three : ended.status ≡ 3 = ap (λ (v : Ended). v.status) wanting.0 in
      let one : ended.status ≡ 1 = ap (λ (v : Ended). v.status) is in
      absurd (cc)

  -- want of memory, and a fault, are no want of turns
  no_turns : (e f : ErrorSeen) (shown line : List Event) → Says (Err f) line (told ended) → told ended ≡ ended_refused e → e.kind ≡ TurnsSpent → IsUnprinted f shown → ⊥
  no_turns e f shown line says is spent cause = by_cause cause
    where
      kind : f.kind ≡ TurnsSpent
      kind = ap (λ (v : ErrorSeen). v.kind) (told_error e f line says is) ∙ spent

      by_cause : IsUnprinted f shown → ⊥
      by_cause (inl memory) = let none : (no_memory).kind ≡ TurnsSpent = ap (λ (v : ErrorSeen). v.kind) (sym memory) ∙ kind in cc
      by_cause (inr faulted) = faulted.1 kind

  spent_by : (bench : BenchSeen) (back : ended.bench ≡ Some bench) (run result : Result (Unit {0}) ErrorSeen) (shown line : List Event) → GeneratedRun count turned bench.log run → SumsUp (summary count) run shown result → Says result line (told ended) → (e : ErrorSeen) → told ended ≡ ended_refused e → e.kind ≡ TurnsSpent → SpentAlone turned ended
  spent_by bench back (Ok done) (Ok printed) shown line g sums says e is spent =
      let zero_is : ended.status ≡ 0 = ap (λ (v : Ended). v.status) says.0 in
      let one : ended.status ≡ 1 = ap (λ (v : Ended). v.status) is in
      absurd (cc)
  spent_by bench back (Ok done) (Err f) shown line g sums says e is spent = absurd (no_turns e f shown line says is spent (unprinted t (summary count) shown f idle idle (sums t idle)))
  spent_by bench back (Err f) result shown line g sums says e is spent =
      let same : f ≡ e = told_error e f line (subst (λ (r : Result (Unit {0}) ErrorSeen). Says r line (told ended)) sums.0 says) is in
      record { bench = bench; back = back; spent = g.spent f refl (ap (λ (v : ErrorSeen). v.kind) same ∙ spent) }

  spent_job : (bench : Option BenchSeen) (result : Result (Unit {0}) ErrorSeen) (shown line : List Event) → ended.bench ≡ bench → Generating count turned shown result bench → Says result line (told ended) → (e : ErrorSeen) → told ended ≡ ended_refused e → e.kind ≡ TurnsSpent → SpentAlone turned ended
  spent_job None result shown line back g says e is spent = absurd (no_turns e no_memory shown line (subst (λ (r : Result (Unit {0}) ErrorSeen). Says r line (told ended)) g.0 says) is spent (inl refl))
  spent_job (Some bench) result shown line back g says e is spent = spent_by bench back g.0 result shown line g.1.0 g.1.1 says e is spent

  its_spent : Sums count turned part ended → (e : ErrorSeen) → told ended ≡ ended_refused e → e.kind ≡ TurnsSpent → SpentAlone turned ended
  its_spent (inl s) e is spent = spent_job ended.bench s.result s.shown s.line refl s.generating s.says e is spent
  its_spent (inr u) e is spent = absurd (no_turns e u.error u.front u.line (told_so u.error u.line u.says) is spent (unlisted_cause t u.front u.error idle u.cause))

  pub sums_promise : Sums count turned part ended → GeneratePromises count turned part ended
  sums_promise s = record {
    answer = s;
    built = its_built s;
    spent = its_spent s;
    complete = its_complete s;
  }
