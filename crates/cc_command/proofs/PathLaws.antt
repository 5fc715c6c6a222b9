-- The library that an archive writes is linked by its path, which is never refused: no answer of the program is about
-- the path of a library.
use Rattle.std.proofs.Common.{◌≡◌, ◌⊎◌, inl, inr, ◌∙◌, refl, sym, ap, subst, ℕ, List, [], ◌∷◌, Bool, true, false, Option, Some, None, option_map, Result, Ok, Err, if◌then◌else◌}
use Rattle.std.specs.Prelude.{String}
use Rattle.cc_env.specs.Env.{EnvSeen}
use Rattle.cc_host.specs.Bench.{BenchSeen}
use Rattle.cc_host.specs.Part.{Step}
use Rattle.cc_host.specs.Part.Step.{Lists, Prints}
use Rattle.cc_host.specs.Question.{Look, answers}
use Rattle.cc_host.specs.declared.event.Event.{Event}
use Rattle.cc_host.specs.declared.event.HostCall.{HostCall}
use Rattle.cc_host.specs.declared.event.LineKind.TheVariants.{Expanded as ExpandedLine}
use Rattle.cc_host.specs.declared.question.Outcome.{Outcome as Verdicts}
use Rattle.cc_host.specs.declared.question.Question.{Question}
use Rattle.cc_flags.specs.Given.{is_disabled, first_of}
use Rattle.cc_flags.specs.Names.{library_name}
use Rattle.cc_flags.specs.Target.{target_info}
use Rattle.cc_flags.specs.declared.settings.BuildConfig.{BuildConfig}
use Rattle.cc_plan.specs.Plan.{link_lines}
use Rattle.cc_plan.specs.Refusal.{name_refusal, early_refusal, path_refusal}
use Rattle.cc_plan.specs.Planned.{tool_of}
use Rattle.cc_plan.specs.declared.error.PlanError.{PlanError}
use Rattle.cc_plan.proofs.LinkedLaws.{output_linked, path_accepted}
use Rattle.cc_tool.proofs.SomeLemmas.{some_agree}
use Rattle.cc_build.specs.Archiving.{unarchived_error}
use Rattle.cc_build.specs.Build.{BuildSeen}
use Rattle.cc_build.specs.Captured.{with_vars, CaptureEnds}
use Rattle.cc_build.specs.Compiler.{tool_error, tool_steps}
use Rattle.cc_build.specs.Course.{Course, course_alone, CallsEnd}
use Rattle.cc_build.specs.Error.{ErrorSeen, no_memory}
use Rattle.cc_build.specs.Expand.{expansion, ExpandEnds, ExpandedEnds}
use Rattle.cc_build.specs.Linking.{name_or_none, linked_name, directive_error}
use Rattle.cc_build.specs.Promises.{terms_for, stages_for}
use Rattle.cc_build.specs.Refusal.{no_library_error, disabled_error, plan_error, archive_error, link_error, refusal_error}
use Rattle.cc_build.specs.Shows.{shows_of}
use Rattle.cc_build.specs.Stage.{links_of, calls}
use Rattle.cc_build.specs.Stop.{fault_error}
use Rattle.cc_build.specs.Tools.{archiver_error, ranlib_error}
use Rattle.cc_build.specs.Told.{expand_reads, name_steps}
use Rattle.cc_build.specs.Went.{Terms, Means, terms, means}
use Rattle.cc_build.proofs.CauseLaws.{IsPathless, ArePathless, pathless, memory_pathless, of_pathless, run_pathless, halted_pathless, ends_pathless, outcome_pathless, first_pathless, none_pathless, archive_pathless, links_pathless, run_refusal_pathless, unarchived_pathless, tool_pathless, archiver_pathless, ranlib_pathless, unexpanded_pathless}
use Rattle.cc_fleet.specs.Fleet.{MemberSeen, IsFleet, site}
use Rattle.cc_fleet.specs.declared.members.FleetEnd.{FleetEnd}
use Rattle.cc_fleet.specs.declared.members.FleetEnd.TheVariants.{Built, Refused}
use Rattle.cc_fleet.proofs.PathLaws.{EndPathless, members_pathless, fleet_pathless}
use Rattle.cc_command.specs.Answer.{AnswersError, AnswersBad, Answers, Untold, Behind, AnswersRecord, asked_for, env_in, terms_in, stages_of, error_of, told}
use Rattle.cc_command.specs.Archived.{alone, library_at, archive_refused, build_in, wished_stages, wished_refusal, Says, Archived}
use Rattle.cc_command.specs.Call.{Call, course_of}
use Rattle.cc_command.specs.Database.{Faults}
use Rattle.cc_command.specs.Driven.{Drives}
use Rattle.cc_command.specs.Expanded.{ExpandsSource, ExpandJobEnds, Expanded}
use Rattle.cc_command.specs.Asks.{AsksWords}
use Rattle.cc_command.specs.Fleets.{listed_members, refusals, ended_fleet, TellsFleet, SaysFleet, AnswersFleet}
use Rattle.cc_command.specs.Generated.{gen_build, gen_settings, gen_name, no_variables, gen_course, GeneratedRun}
use Rattle.cc_command.specs.Lines.{shows}
use Rattle.cc_command.specs.Promised.{Promised}
use Rattle.cc_command.specs.Read.{Request, Wish}
use Rattle.cc_command.specs.Read.Wish.{Compiles, Records, Archives, Generates, Expands, Shows, Fleets}
use Rattle.cc_command.specs.Shown.{Looks, show_error, show_steps, listed_build, Shown}
use Rattle.cc_command.specs.Summary.{SumsUp, Generating, Sums}
use Rattle.cc_command.specs.Generated.{summary}
use Rattle.cc_command.specs.declared.ended.Ended.{Ended}
use Rattle.cc_command.specs.declared.words.BadWord.{BadWord}

-- ---- an archive and its link lines

passed : (set : BuildConfig) (env : EnvSeen) (output : List ℕ) → unarchived_error set env output ≡ None → early_refusal set env output ≡ None
passed set env output h = by_name (name_refusal output) (is_disabled env) (early_refusal set env output) h
  where
    by_name : (name : Option PlanError) (disabled : Bool) (early : Option PlanError) → first_of (option_map (plan_error set env output) name) (if disabled then Some disabled_error else option_map (plan_error set env output) early) ≡ None → early ≡ None
    by_name (Some x) disabled early k = absurd (cc)
    by_name None true early k = absurd (cc)
    by_name None false None k = refl
    by_name None false (Some x) k = absurd (cc)

-- where the checks before it pass, its path does too
module _ (b : BuildSeen) (output : List ℕ) (fine : unarchived_error (alone b).config (alone b).env output ≡ None) where
  pub path_passes : path_refusal b.config b.env (library_at b output) ≡ None
  path_passes = path_accepted (alone b).config (alone b).env output (passed (alone b).config (alone b).env output fine) b.config

  -- and it is linked as a compile run links the library of the same output
  pub links_alike : (links : Look) → links_of b.config b.env (linked_name b.config b.env (library_at b output)) (library_at b output) links ≡ link_lines b.config b.env links output
  unfolding link_lines
  links_alike links =
      let name : linked_name b.config b.env (library_at b output) ≡ library_name output = ap name_or_none (output_linked (alone b).config (alone b).env output (passed (alone b).config (alone b).env output fine) (target_info b.config b.env)) in
      ap (λ n. links_of b.config b.env n (library_at b output) links) name

-- so it is refused for what the archive or its link lines want, and not for the path
pub refused_alike : (b : BuildSeen) (look links : Look) (output : List ℕ) → archive_refused b look links output ≡ first_of (unarchived_error (alone b).config (alone b).env output) (first_of (archive_error (alone b).config (alone b).env look output) (link_error b.config b.env links (library_at b output)))
refused_alike b look links output = by_checks (unarchived_error (alone b).config (alone b).env output) (path_passes b output)
  where
    f : PlanError → ErrorSeen
    f = plan_error b.config b.env (library_at b output)

    by_checks : (early : Option ErrorSeen) → (early ≡ None → path_refusal b.config b.env (library_at b output) ≡ None) → first_of early (first_of (archive_error (alone b).config (alone b).env look output) (directive_error b.config b.env links (library_at b output))) ≡ first_of early (first_of (archive_error (alone b).config (alone b).env look output) (link_error b.config b.env links (library_at b output)))
    by_checks (Some e) h = refl
    by_checks None h = ap (λ r. first_of (archive_error (alone b).config (alone b).env look output) (first_of (option_map (plan_error b.config b.env (library_at b output)) r) (link_error b.config b.env links (library_at b output)))) (h refl)

refused_pathless : (b : BuildSeen) (look links : Look) (output : List ℕ) → ArePathless (archive_refused b look links output)
refused_pathless b look links output =
    subst ArePathless (sym (refused_alike b look links output))
    (first_pathless (unarchived_error (alone b).config (alone b).env output) _ (unarchived_pathless (alone b).config (alone b).env look output)
    (first_pathless (archive_error (alone b).config (alone b).env look output) (link_error b.config b.env links (library_at b output)) (archive_pathless (alone b).config (alone b).env look output) (links_pathless b.config b.env links (library_at b output))))

-- ---- what is told of an error

-- the answer isn't about the path of a library
abbrev pub IsUnlinkable : Ended → Type 0
IsUnlinkable ended = (path : List ℕ) × (ended.error ≡ Some (no_library_error path))

same_error : (ended : Ended) (e x : ErrorSeen) → ended.error ≡ Some e → ended.error ≡ Some x → e ≡ x
same_error ended e x p q = let both : Some e ≡ Some x = sym p ∙ q in cc

refused_never : (ended : Ended) (e : ErrorSeen) → ended.error ≡ Some e → IsPathless e → IsUnlinkable ended → ⊥
refused_never ended e is h u = h u.0 (same_error ended e (no_library_error u.0) is u.1)

silent_never : (ended : Ended) → ended.error ≡ None → IsUnlinkable ended → ⊥
silent_never ended none u = let clash : None ≡ Some (no_library_error u.0) = sym none ∙ u.1 in cc

error_never : (e : ErrorSeen) (line : List Event) (ended : Ended) → AnswersError e line ended → IsPathless e → IsUnlinkable ended → ⊥
error_never e line ended (inl refused) h u = refused_never ended e (ap (λ (v : Ended). v.error) refused.0) h u
error_never e line ended (inr wanting) h u = silent_never ended (ap (λ (v : Ended). v.error) wanting.0) u

says_never : (result : Result (Unit {0}) ErrorSeen) (line : List Event) (ended : Ended) → Says result line ended → ((e : ErrorSeen) → result ≡ Err e → IsPathless e) → IsUnlinkable ended → ⊥
says_never (Ok done) line ended says h u = silent_never ended (ap (λ (v : Ended). v.error) says.0) u
says_never (Err e) line ended says h u = error_never e line ended says (h e refl) u

-- some terms and means, of which nothing is wanted
module _ (b : BuildSeen) where
  abbrev some_terms : Terms
  some_terms = terms (shows_of b.config b.env false) None None

  abbrev some_means : Means
  some_means = means 0 0 0 0

  calls_pathless : (steps : List Step) (part : List Event) (e : ErrorSeen) → CallsEnd {T = Unit {0}} steps part (Err e) → IsPathless e
  calls_pathless steps part e h = halted_pathless some_terms None (calls steps) part e some_means some_means none_pathless (h some_terms some_means)

  capture_pathless : (part : List Event) (e : ErrorSeen) → CaptureEnds part (Err e) → IsPathless e
  capture_pathless part e (inl k) = calls_pathless (Lists ∷ []) part e k
  capture_pathless part e (inr k) = memory_pathless e k.0

faults_pathless : (call : HostCall) (subject : List ℕ) (part : List Event) (e : ErrorSeen) → Faults call subject part e → IsPathless e
unfolding fault_error
faults_pathless call subject part e (inl memory) = memory_pathless e memory.0
faults_pathless call subject part e (inr fault) = of_pathless (fault_error call fault.0 subject) e (pathless (fault_error call fault.0 subject) (λ kind. cc)) fault.1.1

-- ---- a compile run

module _ (listens : Bool) (look : Look) (q : Request) where
  answers_never : (part : List Event) (ended : Ended) (c : Course) → Answers listens look q part ended c → IsUnlinkable ended → ⊥
  answers_never part ended c (inl done) u = silent_never ended (ap (λ (v : Ended). v.error) done.0) u
  answers_never part ended c (inr (inl r)) u =
      refused_never ended r.error (ap (λ (v : Ended). v.error) r.is)
      (halted_pathless (terms_in listens q r.run c) (error_of look q r.run) (stages_of listens look q r.finds r.run) r.run r.error c.before c.after (run_refusal_pathless q.1.config (env_in q r.run) look q.0) r.refused) u
  answers_never part ended c (inr (inr wanting)) u = silent_never ended (ap (λ (v : Ended). v.error) wanting.0) u

  behind_never : (file bytes : List ℕ) (ran : Ended) (rest : List Event) (ended : Ended) → Behind file bytes ran rest ended → (IsUnlinkable ran → ⊥) → IsUnlinkable ended → ⊥
  behind_never file bytes ran rest ended (inl (well, inl written)) h u = silent_never ended (ap (λ (v : Ended). v.error) written.0) u
  behind_never file bytes ran rest ended (inl (well, inr unwritten)) h u = error_never unwritten.error unwritten.line ended unwritten.says (faults_pathless _ file unwritten.front unwritten.error unwritten.cause) u
  behind_never file bytes ran rest ended (inr same) h u = h (u.0, ap (λ (v : Ended). v.error) (sym same.0) ∙ u.1)

  record_never : (file : List ℕ) (part : List Event) (ended : Ended) (c : Course) → AnswersRecord listens look file q part ended c → IsUnlinkable ended → ⊥
  record_never file part ended c (inl n) u = error_never n.error n.line ended n.says (by_cause n.cause) u
    where
      by_cause : CaptureEnds n.front (Err n.error) ⊎ Untold n.front n.error → IsPathless n.error
      by_cause (inl unlisted) = capture_pathless q.1 n.front n.error unlisted
      by_cause (inr untold) = faults_pathless _ [] untold.1 n.error untold.2.1
  record_never file part ended c (inr r) u = behind_never file _ r.ran r.rest ended r.behind (answers_never _ r.ran c r.answer) u

-- ---- an archive alone

archived_never : (listens steady : Bool) (world : Question → Verdicts) (q : Request) (patience : Option ℕ) (turns : ℕ) (part : List Event) (ended : Ended) → Archived listens steady world q patience turns part ended → IsUnlinkable ended → ⊥
archived_never listens steady world q patience turns part ended a u =
    let first = some_agree (answers a.made) a.made_asks.once in
    let second = some_agree (answers a.linked) a.linked_asks.once in
    let o = a.ends first.0 second.0 (first.1, second.1) in
    let t : Terms = terms_for (alone (build_in q a.run)) listens (course_alone patience turns o.0) in
    let x : Means = (course_alone patience turns o.0).before in
    let y : Means = (course_alone patience turns o.0).after in
    says_never a.result a.line ended a.says (ends_pathless t (wished_refusal q first.0 second.0 a.run) (wished_stages q listens o.1 first.0 second.0 a.run) a.run a.result x y (refused_pathless (build_in q a.run) first.0 second.0 q.0) o.2) u

-- ---- a source that is expanded

module _ (listens : Bool) (b : BuildSeen) (look : Look) where
  gives_pathless : (part : List Event) (e : ErrorSeen) → ExpandEnds b listens (Err e) look part → IsPathless e
  gives_pathless part e (inl (none, inl memory)) = memory_pathless e memory
  gives_pathless part e (inl (none, inr refused)) = unexpanded_pathless b.config b.env e refused
  gives_pathless part e (inr (fine, inl lacks)) = outcome_pathless {T = Unit {0}} (tool_error b.config b.env look) (tool_steps b.config b.env listens lacks.0 look) part (Err e) (tool_pathless b.config b.env look) lacks.1 e refl
  gives_pathless part e (inr (fine, inr ran)) = run_pathless (expansion b.config (tool_of b.config b.env look) ∷ []) ran.gives.0 e ran.gives.1.1

  expanded_pathless : (part : List Event) (e : ErrorSeen) → ExpandedEnds b listens (Err e) look part → IsPathless e
  expanded_pathless part e (inl h) = gives_pathless part e h
  expanded_pathless part e (inr h) =
      outcome_pathless {T = List ℕ} None (name_steps expand_reads b.config b.env h.1.told.0 look) h.1.telling (Err e) none_pathless h.1.told.1.1 e refl

  source_pathless : (part : List Event) (e : ErrorSeen) → ExpandsSource listens b (Err e) look part → IsPathless e
  source_pathless part e (inl h) = expanded_pathless part e h
  source_pathless part e (inr h) = calls_pathless b (Prints ExpandedLine h.output ∷ []) h.printed e h.prints

job_pathless : (listens : Bool) (b : BuildSeen) (look : Look) (part : List Event) (r : Result (Unit {0}) ErrorSeen) → ExpandJobEnds listens b r look part → (e : ErrorSeen) → r ≡ Err e → IsPathless e
job_pathless listens b look part (Ok done) h e is = absurd (cc)
job_pathless listens b look part (Err error) h e is =
    let same : error ≡ e = cc in
    λ path at. by_cause h path (same ∙ at)
  where
    by_cause : ExpandJobEnds listens b (Err error) look part → IsPathless error
    by_cause (inl unlisted) = capture_pathless b part error unlisted
    by_cause (inr k) = source_pathless listens (record b { env = with_vars b.env k.vars }) look k.rest error k.expands

expanded_never : (listens steady : Bool) (world : Question → Verdicts) (b : BuildSeen) (part : List Event) (ended : Ended) → Expanded listens steady world b part ended → IsUnlinkable ended → ⊥
expanded_never listens steady world b part ended s u =
    let some = some_agree (answers part) s.asks.once in
    says_never s.result s.line ended s.says (job_pathless listens b some.0 s.run s.result (s.ends some.0 some.1)) u

-- ---- the tools of a build

shown_pathless : (b : BuildSeen) (looks : Looks) → ArePathless (show_error b looks)
shown_pathless b looks =
    first_pathless (tool_error b.config b.env looks.compiler) _ (tool_pathless b.config b.env looks.compiler)
    (first_pathless (archiver_error b.config b.env looks.archiver) (ranlib_error b.config b.env looks.ranlib) (archiver_pathless b.config b.env looks.archiver) (ranlib_pathless b.config b.env looks.ranlib))

shown_never : (listens steady : Bool) (world : Question → Verdicts) (b : BuildSeen) (part : List Event) (ended : Ended) → Shown listens steady world b part ended → IsUnlinkable ended → ⊥
shown_never listens steady world b part ended s u =
    let first = some_agree (answers s.asks.compiler) s.asks.compiler_asks.once in
    let second = some_agree (answers s.asks.archiver) s.asks.archiver_asks.once in
    let third = some_agree (answers s.asks.ranlib) s.asks.ranlib_asks.once in
    let looks : Looks = record { compiler = first.0; archiver = second.0; ranlib = third.0 } in
    let o = s.ends looks (first.1, second.1, third.1) in
    says_never s.result s.line ended s.says (outcome_pathless (show_error (listed_build b part) looks) (show_steps listens (listed_build b part) o.0 looks) s.run s.result (shown_pathless (listed_build b part) looks) o.1) u

-- ---- a large run from a number

sums_pathless : (count turned : ℕ) (log : List Event) (run : Result (Unit {0}) ErrorSeen) → GeneratedRun count turned log run → (part : List Event) (result : Result (Unit {0}) ErrorSeen) → SumsUp (summary count) run part result → (e : ErrorSeen) → result ≡ Err e → IsPathless e
sums_pathless count turned log (Ok done) g part result h e is = ends_pathless some_terms_of None (calls (shows (summary count))) part result some_means_of some_means_of none_pathless (h some_terms_of some_means_of) e is
  where
    some_terms_of : Terms
    some_terms_of = some_terms (gen_build count)

    some_means_of : Means
    some_means_of = some_means (gen_build count)
sums_pathless count turned log (Err error) g part result h e is =
    let some = some_agree (answers log) g.run.once in
    let k = g.run.promises.under some.0 some.1 in
    let c : Course = gen_course turned k.0 k.1 k.2 in
    let same : error ≡ e = (let both : Err error ≡ Err e = sym h.0 ∙ is in cc) in
    λ path at. ends_pathless {T = Unit {0}} (terms_for (gen_build count) false c) (refusal_error (gen_settings count) no_variables some.0 gen_name) (stages_for (gen_build count) k.3.way some.0 gen_name) log (Err error) c.before c.after (run_refusal_pathless (gen_settings count) no_variables some.0 gen_name) k.3.outcome error refl path (same ∙ at)

generating_pathless : (count turned : ℕ) (part : List Event) (result : Result (Unit {0}) ErrorSeen) (bench : Option BenchSeen) → Generating count turned part result bench → (e : ErrorSeen) → result ≡ Err e → IsPathless e
generating_pathless count turned part result (Some bench) h e is = sums_pathless count turned bench.log h.0 h.1.0 part result h.1.1 e is
generating_pathless count turned part result None h e is = memory_pathless e (let both : Err e ≡ Err no_memory = sym is ∙ h.0 in cc)

sums_never : (count turned : ℕ) (part : List Event) (ended : Ended) → Sums count turned part ended → IsUnlinkable ended → ⊥
sums_never count turned part ended (inl s) u = says_never s.result s.line (told ended) s.says (generating_pathless count turned s.shown s.result ended.bench s.generating) u
sums_never count turned part ended (inr n) u = error_never n.error n.line ended n.says (capture_pathless (gen_build count) n.front n.error n.cause) u

-- ---- a fleet

first_refused : (ends : List FleetEnd) → EndPathless ends → (e : ErrorSeen) (es : List ErrorSeen) → refusals ends ≡ e ∷ es → IsPathless e
first_refused [] h e es is = absurd (cc)
first_refused (Built ∷ ends) h e es is = first_refused ends h e es is
first_refused (Refused f ∷ ends) h e es is = let same : f ≡ e = cc in subst IsPathless same h.0

module _ (ended : Ended) where
  told_never : (ends : List FleetEnd) (lines : List Event) → EndPathless ends → TellsFleet ends lines ended → IsUnlinkable ended → ⊥
  told_never ends lines h (inl all) u = by_refusals (refusals ends) refl all.0
    where
      by_refusals : (es : List ErrorSeen) → refusals ends ≡ es → ended ≡ ended_fleet ends es → ⊥
      by_refusals [] is told = silent_never ended (ap (λ (v : Ended). v.error) told) u
      by_refusals (e ∷ es) is told = refused_never ended e (ap (λ (v : Ended). v.error) told) (first_refused ends h e es is) u
  told_never ends lines h (inr wanting) u = silent_never ended (ap (λ (v : Ended). v.error) wanting.0) u

  fleet_never : (c : Call) (ms : List MemberSeen) → AnswersFleet c ms ended → IsUnlinkable ended → ⊥
  fleet_never c ms (inl r) u = by_result r.result r.fleet r.says
    where
      by_result : (result : Result (List FleetEnd) ErrorSeen) → IsFleet c.steady c.world (listed_members r.vars ms) result r.run (course_of c r.left) → SaysFleet result r.lines ended → ⊥
      by_result (Ok ends) f says =
          let k = course_of c r.left in
          told_never ends r.lines (members_pathless (site c.steady c.world k.patience) k.total (listed_members r.vars ms) r.run k.before k.after ends f) says u
      by_result (Err e) f says =
          let k = course_of c r.left in
          error_never e r.lines ended says (fleet_pathless (site c.steady c.world k.patience) k.total (listed_members r.vars ms) r.run k.before k.after e f) u
  fleet_never c ms (inr n) u = error_never n.2.error n.2.line ended n.2.says (capture_pathless (gen_build 1) n.2.front n.2.error n.2.cause) u

-- ---- whatever the words ask for

module _ (c : Call) (ended : Ended) where
  bad_never : (bad : BadWord) → AnswersBad bad c.part ended → IsUnlinkable ended → ⊥
  bad_never bad (inl h) u = silent_never ended (ap (λ (v : Ended). v.error) h.0) u
  bad_never bad (inr h) u = silent_never ended (ap (λ (v : Ended). v.error) h.0) u

  promised_never : (wish : Result Wish BadWord) → Promised c wish ended → AsksWords c.steady c.world wish c.part → IsUnlinkable ended → ⊥
  promised_never (Ok (Compiles q)) h asks u =
      let some = some_agree (answers c.part) asks.once in
      let k = h.under some.0 some.1 in
      answers_never c.listens some.0 q c.part ended (course_of c k.0) k.1.answer u
  promised_never (Ok (Records file q)) h asks u =
      let some = some_agree (answers c.part) asks.once in
      let k = h.under some.0 some.1 in
      record_never c.listens some.0 q file c.part ended (course_of c k.0) k.1.answer u
  promised_never (Ok (Archives q)) h asks u = archived_never c.listens c.steady c.world q c.patience c.turns c.part ended h.1.answer u
  promised_never (Ok (Generates count)) h asks u = sums_never count c.turns c.part ended h.1.answer u
  promised_never (Ok (Expands b)) h asks u = expanded_never c.listens c.steady c.world b c.part ended h.1.answer u
  promised_never (Ok (Shows b)) h asks u = shown_never c.listens c.steady c.world b c.part ended h.1.answer u
  promised_never (Ok (Fleets ms)) h asks u = fleet_never ended c ms h.answer u
  promised_never (Err bad) h asks u = bad_never bad h.1 u

  -- No words are refused for the path of a library.
  pub never_unlinkable : {Z : Type 0} (words : List (String Z)) → Drives c words ended → IsUnlinkable ended → ⊥
  never_unlinkable words h u = promised_never (asked_for words) h.promised h.asked u
