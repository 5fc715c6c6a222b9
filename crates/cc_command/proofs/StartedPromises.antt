-- Sources of a request that are compiled beside each other: where in the part they are, and what a failed one stops.
use Rattle.std.proofs.Common.{◌≡◌, ◌⊎◌, inl, inr, ℕ, List, [], ◌∷◌, ◌++◌, length, take, Option, refl, sym, ◌∙◌, ap, subst, append_assoc, append-nil, Bool, true, false, if◌then◌else◌}
use Rattle.std.specs.Prelude.{◌≤◌}
use Rattle.std.specs.List.{list_any}
use Rattle.std.proofs.lemmas.Grind.{flat_map-append}
use Rattle.cc_env.specs.Env.{EnvSeen}
use Rattle.cc_flags.specs.declared.settings.BuildConfig.{BuildConfig}
use Rattle.cc_host.specs.Part.Step.{Lists}
use Rattle.cc_host.specs.Question.{Look}
use Rattle.cc_host.specs.declared.event.Event.{Event}
use Rattle.cc_host.specs.declared.event.Event.TheVariants.{Printed, Fault}
use Rattle.cc_host.specs.declared.event.HostCall.TheVariants.{Print}
use Rattle.cc_host.specs.declared.event.LineKind.TheVariants.{Fault as FaultLine}
use Rattle.cc_host.specs.declared.event.Role.TheVariants.{Compile}
use Rattle.cc_plan.specs.Plan.{compiles_of}
use Rattle.cc_run.specs.Part.{started, started_of, abandoned, abandoned_of}
use Rattle.cc_run.specs.Planned.{asked}
use Rattle.cc_run.specs.declared.planned.Planned.{Planned}
use Rattle.cc_build.specs.Attempts.{attempt_of, attempts}
use Rattle.cc_build.specs.Captured.{with_vars}
use Rattle.cc_build.specs.Course.{Course}
use Rattle.cc_build.specs.Error.{ErrorSeen}
use Rattle.cc_build.specs.Failed.{HasFault}
use Rattle.cc_build.specs.Promises.{is_compiling, RunBeside, AllStarted, StartsTill}
use Rattle.cc_build.specs.Shows.{shows_of}
use Rattle.cc_build.specs.Stage.{planned, planned_stages}
use Rattle.cc_build.specs.Went.{Terms}
use Rattle.cc_build.specs.declared.error.ErrorKind.TheVariants.{ToolExecError}
use Rattle.cc_build.proofs.BesideLaws.{AreQuiet, Shape, sources, source_count, shape_of, shape_behind, shaped_beside}
use Rattle.cc_build.proofs.FailedLaws.{never_ran, all_started, all_stopped}
use Rattle.cc_build.proofs.SourceLaws.{asked_planned}
use Rattle.cc_build.proofs.StopLaws.{ArePlain, planned_plain}
use Rattle.cc_command.specs.Answer.{PrintsLine, Answers, Refused, env_in, terms_in, repeating, stages_of, error_of, error_line, ended_well, ended_refused, ended_wanting}
use Rattle.cc_command.specs.Promises.{Begun, IsLine, IsBeside, is_own_line, before_line, StartsAll, StopsAtFailure}
use Rattle.cc_command.specs.Read.{Request}
use Rattle.cc_command.specs.declared.ended.Ended.{Ended}
use Rattle.cc_command.proofs.PromiseLaws.{begun_of, line_of, heard_same, failure_same, same_error}

-- ---- one stretch of the part

pub no_attempt : (line : List Event) → IsLine line → attempts line ≡ []
no_attempt line (inl none) = ap attempts none
no_attempt line (inr (inl printed)) = ap attempts printed.1
no_attempt line (inr (inr faulted)) = ap attempts faulted.1

-- a line behind a run compiles nothing
beside_line : (total : Option ℕ) (stop : Bool) (n : ℕ) (part run line : List Event) → part ≡ run ++ line → IsLine line → RunBeside total stop n run → RunBeside total stop n part
beside_line total stop n part run line cut printed r = record {
  front = r.front;
  run = r.run;
  rest = r.rest ++ line;
  cut = cut ∙ ap (λ l. l ++ line) r.cut ∙ append_assoc r.front (r.run ++ r.rest) line ∙ ap (λ l. r.front ++ l) (append_assoc r.run r.rest line);
  idle = r.idle;
  still = r.still;
  within = r.within;
  greedy = r.greedy;
  stops = r.stops;
  others = ap (list_any is_compiling) (flat_map-append attempt_of r.rest line ∙ ap (λ l. attempts r.rest ++ l) (no_attempt line printed) ∙ append-nil (attempts r.rest)) ∙ r.others;
}

beside_of : (listens : Bool) (look : Look) (q : Request) (part : List Event) (c : Course) → Begun listens look q part c → 2 ≤ length q.1.config.files → RunBeside c.total q.1.config.stop_on_failure (length q.1.config.files) part
beside_of listens look q part c b many =
    let set = q.1.config in
    let env = env_in q b.run in
    beside_line c.total set.stop_on_failure (length set.files) part b.run b.line b.cut b.printed
    (subst (λ (n : ℕ). RunBeside c.total set.stop_on_failure n b.run) (source_count set env (repeating b.finds.here b.finds.writing) look q.0)
    (shaped_beside (terms_in listens q b.run c) (sources set env (repeating b.finds.here b.finds.writing) look q.0) (stages_of listens look q b.finds b.run) b.run c.before c.after (tt, planned_plain set env (repeating b.finds.here b.finds.writing) look q.0)
    (shape_behind (sources set env (repeating b.finds.here b.finds.writing) look q.0) Lists (planned_stages set env (repeating b.finds.here b.finds.writing) look q.0) (shape_of set env (repeating b.finds.here b.finds.writing) look q.0 many)) b.partly))

pub beside : (listens : Bool) (look : Look) (q : Request) (part : List Event) (ended : Ended) (c : Course) → Answers listens look q part ended c → IsBeside q part c
beside listens look q part ended c a = beside_of listens look q part c (begun_of listens look q part ended c a)

-- ---- the part without its own last line

last_left : (run : List Event) (event : Event) → is_own_line event ≡ true → before_line (run ++ event ∷ []) ≡ run
last_left [] event is = ap (λ (b : Bool). if b then [] else event ∷ []) is
last_left (first ∷ []) event is = ap (λ l. first ∷ l) (last_left [] event is)
last_left (first ∷ next ∷ run) event is = ap (λ l. first ∷ l) (last_left (next ∷ run) event is)

behind_line : (run line : List Event) (text : List ℕ) → PrintsLine text line → before_line (run ++ line) ≡ run
behind_line run line text (inl printed) = ap (λ l. before_line (run ++ l)) printed ∙ last_left run (Printed FaultLine text) refl
behind_line run line text (inr faulted) = ap (λ l. before_line (run ++ l)) faulted.1 ∙ last_left run (Fault Print faulted.0) refl

-- ---- what a failed child stops

no_start : (line : List Event) → IsLine line → started line ≡ []
no_start line (inl none) = ap started none
no_start line (inr (inl printed)) = ap started printed.1
no_start line (inr (inr faulted)) = ap started faulted.1

none_left : (line : List Event) → IsLine line → abandoned line ≡ []
none_left line (inl none) = ap abandoned none
none_left line (inr (inl printed)) = ap abandoned printed.1
none_left line (inr (inr faulted)) = ap abandoned faulted.1

-- a line behind a run starts and leaves none
module _ (part run line : List Event) (cut : part ≡ run ++ line) (printed : IsLine line) where
  same_started : started part ≡ started run
  same_started = ap started cut ∙ flat_map-append started_of run line ∙ ap (λ l. started run ++ l) (no_start line printed) ∙ append-nil (started run)

  same_left : abandoned part ≡ abandoned run
  same_left = ap abandoned cut ∙ flat_map-append abandoned_of run line ∙ ap (λ l. abandoned run ++ l) (none_left line printed) ∙ append-nil (abandoned run)

module _ (listens : Bool) (look : Look) (q : Request) (part : List Event) (ended : Ended) (c : Course) (r : Refused listens look q part ended c) (many : 2 ≤ length q.1.config.files) (badly : r.error.kind ≡ ToolExecError) (sound : HasFault (before_line part) → ⊥) where
  abbrev set : BuildConfig
  set = q.1.config

  abbrev env : EnvSeen
  env = env_in q r.run

  abbrev ps : List Planned
  ps = sources set env (repeating r.finds.here r.finds.writing) look q.0

  abbrev t : Terms
  t = terms_in listens q r.run c

  printed : IsLine r.line
  printed = line_of (error_line r.error) r.line r.printed

  sound_run : HasFault r.run → ⊥
  sound_run fault = sound (subst HasFault (sym (ap before_line r.cut ∙ behind_line r.run r.line (error_line r.error) r.printed)) fault)

  plain : ArePlain (stages_of listens look q r.finds r.run)
  plain = (tt, planned_plain set env (repeating r.finds.here r.finds.writing) look q.0)

  shape : AreQuiet (stages_of listens look q r.finds r.run) ⊎ Shape ps (stages_of listens look q r.finds r.run)
  shape = shape_behind ps Lists (planned_stages set env (repeating r.finds.here r.finds.writing) look q.0) (shape_of set env (repeating r.finds.here r.finds.writing) look q.0 many)

  -- they were asked for as commands without a message
  same_asked : asked (shows_of set env listens) ps ≡ asked (shows_of set env listens) (planned Compile (compiles_of set env look))
  same_asked = asked_planned (shows_of set env listens) set env r.finds.here look

  -- the line lists no variables
  by_part : (fact : EnvSeen → Type 0) → fact env → fact (env_in q part)
  by_part fact h = subst (λ (vars : List (List ℕ × List ℕ)). fact (with_vars q.1.env vars)) (sym (heard_same part r.run r.line r.cut printed)) h

  failed_of : set.stop_on_failure ≡ false → AllStarted (shows_of set (env_in q part) listens) (compiles_of set (env_in q part) look) part
  failed_of going =
      let s = all_started t ps (error_of look q r.run) (stages_of listens look q r.finds r.run) r.run r.error c.before c.after (never_ran set env look q.0) plain shape r.refused badly going sound_run in
      by_part (λ v. AllStarted (shows_of set v listens) (compiles_of set v look) part)
      ((s.0.0, same_started part r.run r.line r.cut printed ∙ s.0.1 ∙ ap (λ l. l ++ s.0.0) same_asked), same_left part r.run r.line r.cut printed ∙ s.1)

  stopped_of : StartsTill (shows_of set (env_in q part) listens) (compiles_of set (env_in q part) look) part
  stopped_of =
      let s = all_stopped t ps (error_of look q r.run) (stages_of listens look q r.finds r.run) r.run r.error c.before c.after (never_ran set env look q.0) plain shape r.refused badly sound_run in
      by_part (λ v. StartsTill (shows_of set v listens) (compiles_of set v look) part)
      (elim s [
        | inl k ↦ inl ((k.0.0, same_started part r.run r.line r.cut printed ∙ k.0.1 ∙ ap (λ l. l ++ k.0.0) same_asked), same_left part r.run r.line r.cut printed ∙ k.1)
        | inr k ↦ inr ((k.0.0, same_started part r.run r.line r.cut printed ∙ k.0.1 ∙ ap (take k.0.0) same_asked), failure_same part r.run r.line r.cut k.1, same_left part r.run r.line r.cut printed ∙ k.2)
      ])

-- an answer with another status is none of an error
not_refused : (e : ErrorSeen) (ended other : Ended) → ended ≡ other → (other.status ≡ 1 → ⊥) → ended ≡ ended_refused e → ⊥
not_refused e ended other so never is = never (sym (ap (λ (x : Ended). x.status) so) ∙ ap (λ (x : Ended). x.status) is)

pub failed : (listens : Bool) (look : Look) (q : Request) (part : List Event) (ended : Ended) (c : Course) → Answers listens look q part ended c → StartsAll listens look q part ended
failed listens look q part ended c (inl well) = λ going e many is badly sound. absurd (not_refused e ended ended_well well.0 (λ k. cc) is)
failed listens look q part ended c (inr (inl r)) = λ going e many is badly sound. failed_of listens look q part ended c r many (ap (λ (x : ErrorSeen). x.kind) (same_error r.error e ended r.is is) ∙ badly) sound going
failed listens look q part ended c (inr (inr wanting)) = λ going e many is badly sound. absurd (not_refused e ended ended_wanting wanting.0 (λ k. cc) is)

pub stopped : (listens : Bool) (look : Look) (q : Request) (part : List Event) (ended : Ended) (c : Course) → Answers listens look q part ended c → StopsAtFailure listens look q part ended
stopped listens look q part ended c (inl well) = λ stops e many is badly sound. absurd (not_refused e ended ended_well well.0 (λ k. cc) is)
stopped listens look q part ended c (inr (inl r)) = λ stops e many is badly sound. stopped_of listens look q part ended c r many (ap (λ (x : ErrorSeen). x.kind) (same_error r.error e ended r.is is) ∙ badly) sound
stopped listens look q part ended c (inr (inr wanting)) = λ stops e many is badly sound. absurd (not_refused e ended ended_wanting wanting.0 (λ k. cc) is)
