-- What follows from an answer.
use Rattle.std.proofs.Common.{◌≡◌, ◌⊎◌, inl, inr, ℕ, ◌+◌, ◌<◌, List, [], ◌∷◌, ◌++◌, length, map, Bool, true, false, ◌||◌, if◌then◌else◌, Option, None, Some, refl, sym, ◌∙◌, ap, subst, append-nil, arith}
use Rattle.std.specs.Prelude.{◌≤◌, ◌*◌}
use Rattle.std.specs.List.{list_any}
use Rattle.std.proofs.Math.Nat.{mul-le-mul_left}
use Rattle.std.proofs.lemmas.Grind.{flat_map-append}
use Rattle.std.proofs.lemmas.List.Sums.{sum_by-append}
use Rattle.cc_plan.specs.Plan.{run_has_one_form}
use Rattle.cc_env.specs.Env.{EnvSeen}
use Rattle.cc_host.specs.Children.{live_from, running}
use Rattle.cc_host.specs.Question.{Look}
use Rattle.cc_host.specs.Part.{listings}
use Rattle.cc_host.specs.Part.Step.{Lists}
use Rattle.cc_host.proofs.Parts.{listings_then}
use Rattle.cc_host.specs.declared.event.Event.{Event}
use Rattle.cc_host.specs.declared.event.Event.TheVariants.{Printed, Fault, Abandoned}
use Rattle.cc_host.specs.declared.event.HostCall.TheVariants.{Print}
use Rattle.cc_host.specs.declared.event.LineKind.TheVariants.{Fault as FaultLine}
use Rattle.cc_jobs.specs.Seats.{Rose}
use Rattle.cc_flags.specs.declared.settings.BuildConfig.{BuildConfig}
use Rattle.cc_plan.specs.Valid.{Valid}
use Rattle.cc_plan.proofs.ValidLaws.{early_accepted, late_accepted, archive_accepted, links_accepted}
use Rattle.cc_run.specs.Part.{missing, missing_of, turns, turns_of}
use Rattle.cc_build.specs.Captured.{with_vars}
use Rattle.cc_build.specs.Children.{fails_from, has_failure}
use Rattle.cc_build.specs.Error.{ErrorSeen, no_memory}
use Rattle.cc_build.specs.Course.{Course}
use Rattle.cc_build.specs.Failed.{Failed, HasFault, is_fault, is_form, form_aside, unforgiven, ran_badly}
use Rattle.cc_build.specs.Order.{is_archive_event}
use Rattle.cc_build.specs.Refusal.{refusal_error}
use Rattle.cc_build.specs.Stage.{Stage, commands_in, folder_stages, compile_stages, planned_stages}
use Rattle.cc_build.specs.Stage.Stage.{Asks, Calls}
use Rattle.cc_build.specs.Went.{Terms, Means, Halted, Partly, Goes}
use Rattle.cc_build.specs.declared.error.ErrorKind.TheVariants.{TurnsSpent}
use Rattle.cc_build.specs.Promises.{FaultsEnd}
use Rattle.cc_build.proofs.ChildLaws.{fails_then}
use Rattle.cc_build.proofs.OrderLaws.{NoArchive, planned, archives_behind, no_source_archives, went_partly, halted_partly}
use Rattle.cc_build.proofs.PromiseLaws.{none_inside, fault_ends}
use Rattle.cc_build.proofs.FormLaws.{FormFirst, planned_first, halted_cause}
use Rattle.cc_build.proofs.StopLaws.{ArePlain, HasCause, planned_plain}
use Rattle.cc_build.proofs.TurnLaws.{halted_turns, halted_bound}
use Rattle.cc_command.specs.Answer.{Answers, AnswersBad, BuiltBy, Refused, PrintsLine, first_listing, heard, env_in, terms_of, terms_in, warning, repeating, Findings, stages_of, error_of, error_line, word_line, is_wanting, told, ended_well, ended_refused, ended_wanting}
use Rattle.cc_command.specs.Promises.{PrintsLast, IsLine, Begun, ArchivesBehind, EndsAlone, FaultsLast, EndsSpent}
use Rattle.cc_command.specs.Read.{Request}
use Rattle.cc_command.specs.declared.ended.Ended.{Ended}
use Rattle.cc_command.specs.declared.words.BadWord.{BadWord}
use Rattle.cc_command.proofs.EnoughLaws.{planned_count, never_spent}

-- ---- the headline

pub built_of : (listens : Bool) (look : Look) (q : Request) (part : List Event) (ended : Ended) (c : Course) → Answers listens look q part ended c → ended.status ≡ 0 → BuiltBy listens look q part c
built_of listens look q part ended c (inl well) zero_is = well.1.0
built_of listens look q part ended c (inr (inl r)) zero_is = let s : ended.status ≡ 1 = ap (λ (x : Ended). x.status) r.is in absurd (cc)
built_of listens look q part ended c (inr (inr wanting)) zero_is = let s : ended.status ≡ 3 = ap (λ (x : Ended). x.status) wanting.0 in absurd (cc)

-- ---- the line of it is last

pub request_last : (listens : Bool) (look : Look) (q : Request) (part : List Event) (ended : Ended) (c : Course) → Answers listens look q part ended c → PrintsLast part ended
request_last listens look q part ended c (inl well) = inl (ap told well.0)
request_last listens look q part ended c (inr (inl r)) = inr (inl (r.error, (ap told r.is, record { before = r.run; end = r.line; cut = r.cut; printed = r.printed })))
request_last listens look q part ended c (inr (inr wanting)) = inr (inr (inr (ap told wanting.0)))

pub word_last : (bad : BadWord) (part : List Event) (ended : Ended) → AnswersBad bad part ended → PrintsLast part ended
word_last bad part ended (inl printed) = inr (inr (inl (bad, (ap told printed.0, record { before = []; end = part; cut = refl; printed = printed.1 }))))
word_last bad part ended (inr wanting) = inr (inr (inr (ap told wanting.0)))

pub line_of : (line : List ℕ) (part : List Event) → PrintsLine line part → IsLine part
line_of line part (inl printed) = inr (inl (line, printed))
line_of line part (inr faulted) = inr (inr faulted)

-- ---- the first stages were done

pub begun_of : (listens : Bool) (look : Look) (q : Request) (part : List Event) (ended : Ended) (c : Course) → Answers listens look q part ended c → Begun listens look q part c
begun_of listens look q part ended c (inl well) = record { run = part; line = []; cut = sym (append-nil part); finds = well.1.1.0; partly = went_partly (terms_in listens q part c) (stages_of listens look q well.1.1.0 part) part c.before c.after well.1.1.1; printed = inl refl }
begun_of listens look q part ended c (inr (inl r)) = record {
  run = r.run;
  line = r.line;
  cut = r.cut;
  finds = r.finds;
  partly = halted_partly (terms_in listens q r.run c) (error_of look q r.run) (stages_of listens look q r.finds r.run) r.run r.error c.before c.after r.refused;
  printed = line_of (error_line r.error) r.line r.printed;
}
begun_of listens look q part ended c (inr (inr wanting)) = record {
  run = part;
  line = [];
  cut = sym (append-nil part);
  finds = wanting.1.0;
  partly = halted_partly (terms_in listens q part c) (error_of look q part) (stages_of listens look q wanting.1.0 part) part wanting.1.1.0 c.before c.after wanting.1.1.1;
  printed = inl refl;
}

-- ---- the line behind a run

-- an event of a list with one more behind it is the last one, or stands before it
module _ (event x : Event) (after : List Event) where
  last_or_before : (before run : List Event) → run ++ x ∷ [] ≡ before ++ event ∷ after → ((after ≡ []) × (event ≡ x)) ⊎ ((rest : List Event) × ((run ≡ before ++ event ∷ rest) × (after ≡ rest ++ x ∷ [])))
  last_or_before [] [] e = inl (cc, cc)
  last_or_before [] (r ∷ run) e =
      let same : r ≡ event = cc in
      inr (run, (ap (λ h. h ∷ run) same, cc))
  last_or_before (b ∷ before) [] e = let none : [] ≡ before ++ event ∷ after = cc in absurd (none_inside before after event none)
  last_or_before (b ∷ before) (r ∷ run) e =
      let same : r ≡ b = cc in
      let rest : run ++ x ∷ [] ≡ before ++ event ∷ after = cc in
      longer same (last_or_before before run rest)
    where
      longer : r ≡ b → ((after ≡ []) × (event ≡ x)) ⊎ ((rest : List Event) × ((run ≡ before ++ event ∷ rest) × (after ≡ rest ++ x ∷ []))) → ((after ≡ []) × (event ≡ x)) ⊎ ((rest : List Event) × ((r ∷ run ≡ b ∷ (before ++ event ∷ rest)) × (after ≡ rest ++ x ∷ [])))
      longer same (inl last) = inl last
      longer same (inr found) = inr (found.0, (ap (λ l. r ∷ l) found.1.0 ∙ ap (λ h. h ∷ (before ++ event ∷ found.0)) same, found.1.1))

-- an event of a run with a line behind it, which is no such line, stands in the run
in_run : (before after run : List Event) (event x : Event) → run ++ x ∷ [] ≡ before ++ event ∷ after → (event ≡ x → ⊥) → (rest : List Event) × ((run ≡ before ++ event ∷ rest) × (after ≡ rest ++ x ∷ []))
in_run before after run event x e other = decide (last_or_before event x after before run e)
  where
    decide : ((after ≡ []) × (event ≡ x)) ⊎ ((rest : List Event) × ((run ≡ before ++ event ∷ rest) × (after ≡ rest ++ x ∷ []))) → (rest : List Event) × ((run ≡ before ++ event ∷ rest) × (after ≡ rest ++ x ∷ []))
    decide (inl last) = absurd (other last.1)
    decide (inr found) = found

no_listing : (line : List Event) → IsLine line → listings line ≡ []
no_listing line (inl none) = ap listings none
no_listing line (inr (inl printed)) = ap listings printed.1
no_listing line (inr (inr faulted)) = ap listings faulted.1

-- a line behind a run lists no variables
pub heard_same : (part run line : List Event) → part ≡ run ++ line → IsLine line → heard part ≡ heard run
heard_same part run line cut printed =
    ap first_listing (ap listings cut ∙ listings_then run line ∙ ap (λ l. listings run ++ l) (no_listing line printed) ∙ append-nil (listings run))

no_turn : (line : List Event) → IsLine line → turns line ≡ 0
no_turn line (inl none) = ap turns none
no_turn line (inr (inl printed)) = ap turns printed.1
no_turn line (inr (inr faulted)) = ap turns faulted.1

-- nor is a turn made
pub turns_same : (part run line : List Event) → part ≡ run ++ line → IsLine line → turns part ≡ turns run
turns_same part run line cut printed =
    let all : turns part ≡ turns run + turns line = ap turns cut ∙ sum_by-append turns_of run line in
    let none : turns line ≡ 0 = no_turn line printed in
    omega arith

-- it starts no child
pub line_settled : (line : List Event) → IsLine line → running line ≡ []
line_settled line (inl none) = ap running none
line_settled line (inr (inl printed)) = ap running printed.1
line_settled line (inr (inr faulted)) = ap running faulted.1

-- a failure before it is one with it
pub failure_same : (part run line : List Event) → part ≡ run ++ line → has_failure run ≡ true → has_failure part ≡ true
failure_same part run line cut failed = ap has_failure cut ∙ fails_then [] run line ∙ ap (λ b. b || fails_from (live_from [] run) line) failed

-- ---- the sources are compiled first

-- behind these stages alone a part archives
abbrev Behind : Terms → List Stage → List Event → Type 0
Behind t first part = (before after : List Event) (event : Event) → part ≡ before ++ event ∷ after → is_archive_event event ≡ true → (runs rest : List Event) × ((before ≡ runs ++ rest) × Goes t first runs)

-- a line behind a run adds no archive command
still_behind : (t : Terms) (first : List Stage) (part run line : List Event) → part ≡ run ++ line → IsLine line → Behind t first run → Behind t first part
still_behind t first part run line cut (inl none) order before after event is archive =
    order before after event (sym (cut ∙ ap (λ l. run ++ l) none ∙ append-nil run) ∙ is) archive
still_behind t first part run line cut (inr (inl printed)) order before after event is archive =
    let e : run ++ Printed FaultLine printed.0 ∷ [] ≡ before ++ event ∷ after = sym (cut ∙ ap (λ l. run ++ l) printed.1) ∙ is in
    let found = in_run before after run event (Printed FaultLine printed.0) e (λ same. let t : false ≡ true = sym (ap is_archive_event same) ∙ archive in cc) in
    order before found.0 event found.1.0 archive
still_behind t first part run line cut (inr (inr faulted)) order before after event is archive =
    let e : run ++ Fault Print faulted.0 ∷ [] ≡ before ++ event ∷ after = sym (cut ∙ ap (λ l. run ++ l) faulted.1) ∙ is in
    let found = in_run before after run event (Fault Print faulted.0) e (λ same. let t : false ≡ true = sym (ap is_archive_event same) ∙ archive in cc) in
    order before found.0 event found.1.0 archive

-- the variables are listed, the folder is made and the sources are compiled
abbrev first_stages : Option (List ℕ) → Look → Request → List (List ℕ × List ℕ) → List Stage
first_stages here look q vars = Calls Lists ∷ (folder_stages q.1.config (with_vars q.1.env vars) ++ Asks ∷ compile_stages q.1.config (with_vars q.1.env vars) (warning here) look)

-- the stages of a request begin with these, or none of them archives
listed_first : (first stages : List Stage) → ((rest : List Stage) × (stages ≡ first ++ rest)) ⊎ NoArchive stages → ((rest : List Stage) × (Calls Lists ∷ stages ≡ (Calls Lists ∷ first) ++ rest)) ⊎ NoArchive (Calls Lists ∷ stages)
listed_first first stages (inl k) = inl (k.0, ap (λ l. Calls Lists ∷ l) k.1)
listed_first first stages (inr none) = inr none

order_in : (listens : Bool) (look : Look) (q : Request) (finds : Findings listens) (run : List Event) (c : Course) → Partly (terms_in listens q run c) (stages_of listens look q finds run) run c.before c.after → Behind (terms_in listens q run c) (first_stages finds.here look q (heard run)) run
order_in listens look q finds run c p =
    archives_behind (terms_in listens q run c) (first_stages finds.here look q (heard run)) (stages_of listens look q finds run) run c.before c.after (no_source_archives q.1.config (env_in q run) (warning finds.here) look) p
    (listed_first (folder_stages q.1.config (env_in q run) ++ Asks ∷ compile_stages q.1.config (env_in q run) (warning finds.here) look) (planned_stages q.1.config (env_in q run) (repeating finds.here finds.writing) look q.0) (planned q.1.config (env_in q run) (repeating finds.here finds.writing) look q.0))

order_of : (listens : Bool) (look : Look) (q : Request) (part : List Event) (c : Course) → Begun listens look q part c → ArchivesBehind listens look q part c
order_of listens look q part c b before after event is archive =
    let order : Behind (terms_in listens q part c) (first_stages b.finds.here look q (heard part)) part =
    subst (λ (vars : List (List ℕ × List ℕ)). Behind (terms_of listens q.1.config (with_vars q.1.env vars) c) (first_stages b.finds.here look q vars) part) (sym (heard_same part b.run b.line b.cut b.printed))
    (still_behind (terms_in listens q b.run c) (first_stages b.finds.here look q (heard b.run)) part b.run b.line b.cut b.printed (order_in listens look q b.finds b.run c b.partly)) in
    let found = order before after event is archive in
    record { runs = found.0; rest = found.1; cut = found.2.0; here = b.finds.here; hears = b.finds.hears; compiled = found.2.1 }

pub compiles_first : (listens : Bool) (look : Look) (q : Request) (part : List Event) (ended : Ended) (c : Course) → Answers listens look q part ended c → ArchivesBehind listens look q part c
compiles_first listens look q part ended c a = order_of listens look q part c (begun_of listens look q part ended c a)

-- ---- a fault is last

-- children that were abandoned behind a fault, and then a line
line_behind : (ids : List ℕ) (rest after : List Event) (x : Event) → rest ≡ map Abandoned ids → after ≡ rest ++ x ∷ [] → IsLine (x ∷ []) → EndsAlone after
line_behind ids rest after x ends is line = (ids, x ∷ [], (is ∙ ap (λ l. l ++ x ∷ []) ends, line))

-- a run that has its fault last, with a line behind it
pub faults_behind : (part run line : List Event) → part ≡ run ++ line → FaultsEnd run → IsLine line → FaultsLast part
faults_behind part run line cut ends_so printed before after call why real is = by_line printed
  where
    in_it : (rest : List Event) → run ≡ before ++ Fault call why ∷ rest → (ids : List ℕ) × (rest ≡ map Abandoned ids)
    in_it rest e = ends_so before rest call why real e

    by_line : IsLine line → EndsAlone after
    by_line (inl none) =
        let ends = in_it after (sym (cut ∙ ap (λ l. run ++ l) none ∙ append-nil run) ∙ is) in
        (ends.0, [], (ends.1 ∙ sym (append-nil (map Abandoned ends.0)), inl refl))
    by_line (inr (inl shown)) =
        let found = in_run before after run (Fault call why) (Printed FaultLine shown.0) (sym (cut ∙ ap (λ l. run ++ l) shown.1) ∙ is) (λ same. cc) in
        let ends = in_it found.0 found.1.0 in
        line_behind ends.0 found.0 after (Printed FaultLine shown.0) ends.1 found.1.1 (inr (inl (shown.0, refl)))
    by_line (inr (inr faulted)) =
        either_way (last_or_before (Fault call why) (Fault Print faulted.0) after before run (sym (cut ∙ ap (λ l. run ++ l) faulted.1) ∙ is))
      where
        either_way : ((after ≡ []) × (Fault call why ≡ Fault Print faulted.0)) ⊎ ((rest : List Event) × ((run ≡ before ++ Fault call why ∷ rest) × (after ≡ rest ++ Fault Print faulted.0 ∷ []))) → EndsAlone after
        either_way (inl last) = ([], [], (last.0, inl refl))
        either_way (inr found) =
            let ends = in_it found.0 found.1.0 in
            line_behind ends.0 found.0 after (Fault Print faulted.0) ends.1 found.1.1 (inr (inr (faulted.0, refl)))

-- stages that were begun, with a line behind them, have their fault last
pub stages_last : (t : Terms) (stages : List Stage) (part run line : List Event) (x y : Means) → part ≡ run ++ line → Partly t stages run x y → IsLine line → FaultsLast part
stages_last t stages part run line x y cut begun printed =
    faults_behind part run line cut (λ before rest call why real e. fault_ends t stages run x y before rest call why real e begun) printed

alone_last : (x : Event) (before after : List Event) (event : Event) → x ∷ [] ≡ before ++ event ∷ after → after ≡ []
alone_last x [] after event e = cc
alone_last x (b ∷ before) after event e = let none : [] ≡ before ++ event ∷ after = cc in absurd (none_inside before after event none)

pub request_faults : (listens : Bool) (look : Look) (q : Request) (part : List Event) (c : Course) → Begun listens look q part c → FaultsLast part
request_faults listens look q part c b = stages_last (terms_in listens q b.run c) (stages_of listens look q b.finds b.run) part b.run b.line c.before c.after b.cut b.partly b.printed

pub word_faults : (bad : BadWord) (part : List Event) (ended : Ended) → AnswersBad bad part ended → FaultsLast part
word_faults bad part ended (inl (is, inl printed)) = λ before after call why _real e. ([], [], (alone_last (Printed FaultLine (word_line bad)) before after (Fault call why) (sym printed ∙ e), inl refl))
word_faults bad part ended (inl (is, inr faulted)) = λ before after call why _real e. ([], [], (alone_last (Fault Print faulted.0) before after (Fault call why) (sym faulted.1 ∙ e), inl refl))
word_faults bad part ended (inr (is, none)) = λ before after call why _real e. absurd (none_inside before after (Fault call why) (sym none ∙ e))

-- ---- a refused request of valid settings has its cause in the part

pub no_refusal : (look : Look) (set : BuildConfig) (env : EnvSeen) (name : List ℕ) (e : ErrorSeen) → Valid set env look name → refusal_error set env look name ≡ Some e → ⊥
no_refusal look set env name e valid refused =
    let none : refusal_error set env look name ≡ None = rw (early_accepted set env look name valid, valid.enabled, late_accepted set env look name valid, archive_accepted set env look name valid, links_accepted set env look name valid) refl in cc

pub front_empty : {X : Type 0} (a b : List X) → a ++ b ≡ [] → a ≡ []
front_empty [] b h = refl
front_empty (x ∷ a) b h = absurd (cc)

or_first : (a b d : Bool) → (b ≡ true → d ≡ true) → (a || b) ≡ true → (a || d) ≡ true
or_first true b d h is = refl
or_first false b d h is = h is

-- an event of a list is one of a longer list
pub any_before : (f : Event → Bool) (a b : List Event) → list_any f a ≡ true → list_any f (a ++ b) ≡ true
any_before f [] b h = absurd (cc)
any_before f (x ∷ a) b h = or_first (f x) (list_any f a) (list_any f (a ++ b)) (any_before f a b) h

valid_in : (listens : Bool) (look : Look) (q : Request) (part : List Event) (ended : Ended) (c : Course) (r : Refused listens look q part ended c) → Valid q.1.config (env_in q part) look q.0 → Valid q.1.config (env_in q r.run) look q.0
valid_in listens look q part ended c r valid =
    subst (λ (vars : List (List ℕ × List ℕ)). Valid q.1.config (with_vars q.1.env vars) look q.0) (heard_same part r.run r.line r.cut (line_of (error_line r.error) r.line r.printed)) valid

failed_then : (listens : Bool) (look : Look) (q : Request) (part : List Event) (ended : Ended) (c : Course) (r : Refused listens look q part ended c) → (Failed (run_has_one_form q.1.config (env_in q part) look) part → ⊥) → Failed (run_has_one_form q.1.config (env_in q r.run) look) part → ⊥
failed_then listens look q part ended c r none =
    subst (λ (vars : List (List ℕ × List ℕ)). Failed (run_has_one_form q.1.config (with_vars q.1.env vars) look) part → ⊥) (heard_same part r.run r.line r.cut (line_of (error_line r.error) r.line r.printed)) none

pub known_memory : (e : ErrorSeen) → is_wanting e.kind ≡ false → e ≡ no_memory → ⊥
known_memory e known memory = let t : true ≡ false = sym (ap (λ (x : ErrorSeen). is_wanting x.kind) memory) ∙ known in cc

-- the first form of a run is not in the line behind it
aside_none : (line : List Event) → IsLine line → form_aside line ≡ line
aside_none line (inl none) = ap form_aside none ∙ sym none
aside_none line (inr (inl printed)) = ap form_aside printed.1 ∙ sym printed.1
aside_none line (inr (inr faulted)) = ap form_aside faulted.1 ∙ sym faulted.1

aside_line : (run line : List Event) → IsLine line → form_aside (run ++ line) ≡ form_aside run ++ line
aside_line [] line printed = aside_none line printed
aside_line (event ∷ run) line printed = by_form (is_form event) (aside_line run line printed)
  where
    by_form : (b : Bool) → form_aside (run ++ line) ≡ form_aside run ++ line → (if b then run ++ line else event ∷ form_aside (run ++ line)) ≡ (if b then run else event ∷ form_aside run) ++ line
    by_form true e = refl
    by_form false e = ap (λ l. event ∷ l) e

-- nor is what can't be forgiven
pub unforgiven_line : (one_form : Bool) (run line : List Event) → IsLine line → unforgiven one_form (run ++ line) ≡ unforgiven one_form run ++ line
unforgiven_line true run line printed = refl
unforgiven_line false run line printed = aside_line run line printed

-- stages that ended so, with a line behind them, ended for want of turns where nothing else is a cause
module _ (t : Terms) (one_form : Bool) (refusal : Option ErrorSeen) (stages : List Stage) (part run line : List Event) (e : ErrorSeen) (ended : Ended) (x y : Means) (cut : part ≡ run ++ line) (printed : IsLine line) (halted : Halted t refusal stages run e x y) (known : is_wanting e.kind ≡ false) (is : ended ≡ ended_refused e) (plain : ArePlain stages) (first : one_form ≡ false → FormFirst stages) (allowed : refusal ≡ Some e → ⊥) (nothing_failed : Failed one_form part → ⊥) (no_fault : HasFault part → ⊥) (none_rose : Rose x.faults y.faults → ⊥) where
  -- what the run has, the part with its line has
  fault_in : HasFault run → HasFault part
  fault_in h = ap (list_any is_fault) cut ∙ any_before is_fault run line h

  aside : unforgiven one_form part ≡ unforgiven one_form run ++ line
  aside = ap (unforgiven one_form) cut ∙ unforgiven_line one_form run line printed

  failed_in : Failed one_form run → Failed one_form part
  failed_in (inl some) = inl (λ none. some (front_empty (missing (unforgiven one_form run)) (missing line) (sym (flat_map-append missing_of (unforgiven one_form run) line) ∙ sym (ap missing aside) ∙ none)))
  failed_in (inr (inl some)) = inr (inl (failure_same part run line cut some))
  failed_in (inr (inr some)) = inr (inr (ap (list_any ran_badly) aside ∙ any_before ran_badly (unforgiven one_form run) line some))

  spent_of : (e.kind ≡ TurnsSpent) × (y.left ≡ 0) → EndsSpent x.left part ended
  spent_of spent =
      let sum : y.left + turns run ≡ x.left = halted_turns t refusal stages run e x y halted in
      let all : turns part ≡ turns run = turns_same part run line cut printed in
      let none : y.left ≡ 0 = spent.1 in
      (e, (is, spent.0, omega arith))

  by_cause : HasCause one_form refusal run e x y → EndsSpent x.left part ended
  by_cause (inl memory) = absurd (known_memory e known memory)
  by_cause (inr (inl refused)) = absurd (allowed refused)
  by_cause (inr (inr (inl fault))) = absurd (no_fault (fault_in fault))
  by_cause (inr (inr (inr (inl failed)))) = absurd (nothing_failed (failed_in failed))
  by_cause (inr (inr (inr (inr (inl rose))))) = absurd (none_rose rose)
  by_cause (inr (inr (inr (inr (inr spent))))) = spent_of spent

  pub spends : EndsSpent x.left part ended
  spends = by_cause (halted_cause t one_form refusal stages run e x y plain first halted)

-- so does a refused request with valid settings
request_spends : (listens : Bool) (look : Look) (q : Request) (part : List Event) (ended : Ended) (c : Course) (r : Refused listens look q part ended c) → Valid q.1.config (env_in q r.run) look q.0 → (Failed (run_has_one_form q.1.config (env_in q r.run) look) part → ⊥) → (HasFault part → ⊥) → (Rose c.before.faults c.after.faults → ⊥) → EndsSpent c.before.left part ended
request_spends listens look q part ended c r valid nothing_failed no_fault none_rose =
    spends (terms_in listens q r.run c) (run_has_one_form q.1.config (env_in q r.run) look) (error_of look q r.run) (stages_of listens look q r.finds r.run) part r.run r.line r.error ended c.before c.after r.cut (line_of (error_line r.error) r.line r.printed) r.refused r.known r.is
    (tt, planned_plain q.1.config (env_in q r.run) (repeating r.finds.here r.finds.writing) look q.0) (λ other. inr (refl, planned_first q.1.config (env_in q r.run) (repeating r.finds.here r.finds.writing) look q.0 other))
    (no_refusal look q.1.config (env_in q r.run) q.0 r.error valid) nothing_failed no_fault none_rose

pub complete : (listens : Bool) (look : Look) (q : Request) (part : List Event) (ended : Ended) (c : Course) → Answers listens look q part ended c → Valid q.1.config (env_in q part) look q.0 → (Failed (run_has_one_form q.1.config (env_in q part) look) part → ⊥) → (HasFault part → ⊥) → (Rose c.before.faults c.after.faults → ⊥) → (ended ≡ ended_well) ⊎ (EndsSpent c.before.left part ended ⊎ (ended ≡ ended_wanting))
complete listens look q part ended c (inl well) valid failed fault rose = inl well.0
complete listens look q part ended c (inr (inl r)) valid failed fault rose = inr (inl (request_spends listens look q part ended c r (valid_in listens look q part ended c r valid) (failed_then listens look q part ended c r failed) fault rose))
complete listens look q part ended c (inr (inr wanting)) valid failed fault rose = inr (inr wanting.0)

-- ---- the turns are enough

pub same_error : (e f : ErrorSeen) (ended : Ended) → ended ≡ ended_refused e → ended ≡ ended_refused f → e ≡ f
same_error e f ended a b = let s : Some e ≡ Some f = ap (λ (x : Ended). x.error) (sym a ∙ b) in cc

-- fewer turns than the patience with each command, of which there are no more than twice the sources, the added objects and two
too_few : (p n files objects most turned : ℕ) → turned < p * n → n ≤ 2 * files + objects + 2 → p * (2 * files + objects + 2) ≤ most → turned ≡ most → ⊥
too_few p n files objects most turned few count enough same =
    let more : p * n ≤ p * (2 * files + objects + 2) = mul-le-mul_left p (omega (arith, count)) in
    omega arith

pub enough : (listens : Bool) (look : Look) (q : Request) (part : List Event) (ended : Ended) (c : Course) → Answers listens look q part ended c → (total p : ℕ) → c.total ≡ Some total → c.patience ≡ Some p → p * (2 * length q.1.config.files + length q.1.config.objects + 2) ≤ c.before.left → EndsSpent c.before.left part ended → ⊥
enough listens look q part ended c (inl well) total p one patient many spent =
    let s : ended.status ≡ 0 = ap (λ (x : Ended). x.status) well.0 in
    let r : ended.status ≡ 1 = ap (λ (x : Ended). x.status) spent.1.0 in
    cc
enough listens look q part ended c (inr (inr wanting)) total p one patient many spent =
    let s : ended.status ≡ 3 = ap (λ (x : Ended). x.status) wanting.0 in
    let r : ended.status ≡ 1 = ap (λ (x : Ended). x.status) spent.1.0 in
    cc
enough listens look q part ended c (inr (inl r)) total p one patient many spent =
    let same : r.error ≡ spent.0 = same_error r.error spent.0 ended r.is spent.1.0 in
    let few : turns r.run < p * length (commands_in (stages_of listens look q r.finds r.run)) =
    halted_bound (terms_in listens q r.run c) (error_of look q r.run) (stages_of listens look q r.finds r.run) r.run r.error c.before c.after total p one patient
    (never_spent q.1.config (env_in q r.run) look q.0) r.refused (ap (λ (x : ErrorSeen). x.kind) same ∙ spent.1.1) in
    too_few p (length (commands_in (stages_of listens look q r.finds r.run))) (length q.1.config.files) (length q.1.config.objects) c.before.left (turns r.run) few (planned_count q.1.config (env_in q r.run) (repeating r.finds.here r.finds.writing) look q.0) many
    (sym (turns_same part r.run r.line r.cut (line_of (error_line r.error) r.line r.printed)) ∙ spent.1.2)
