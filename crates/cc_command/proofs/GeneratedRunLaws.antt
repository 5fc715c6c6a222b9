-- What a large run from a number comes to, over a host on which nothing is set.
use Rattle.std.proofs.Common.{◌≡◌, ◌⊎◌, inl, inr, refl, sym, ◌∙◌, ap, subst, ℕ, ◌+◌, ◌^◌, ◌<◌, List, [], ◌∷◌, ◌++◌, append_assoc, append-nil, length, Bool, Option, Some, Result, Ok, Err, arith, false}
use Rattle.std.specs.Prelude.{◌≤◌, ◌*◌}
use Rattle.cc_plan.specs.Plan.{run_has_one_form}
use Rattle.cc_host.specs.Bench.{BenchSeen, fresh}
use Rattle.cc_host.specs.Part.{since}
use Rattle.cc_host.specs.Question.{Look, answers, Holds, NoTwice}
use Rattle.cc_host.specs.declared.event.Event.{Event}
use Rattle.cc_host.specs.declared.question.Outcome.{Outcome}
use Rattle.cc_host.specs.declared.question.Question.{Question}
use Rattle.cc_hosts.specs.Plain.{IsPlainLog}
use Rattle.cc_run.specs.Part.{turns}
use Rattle.cc_tool.proofs.SomeLemmas.{some_agree}
use Rattle.cc_build.specs.Build.{BuildSeen, AsksByRun, Sets}
use Rattle.cc_build.specs.Course.{Course, course}
use Rattle.cc_build.specs.Error.{ErrorSeen, no_memory}
use Rattle.cc_build.specs.Promises.{IsBuilt, Promises, terms_for, stages_for}
use Rattle.cc_build.specs.Refusal.{refusal_error}
use Rattle.cc_build.specs.Stage.{Stage, commands_in}
use Rattle.cc_build.specs.Way.{Way}
use Rattle.cc_build.specs.Went.{Terms, Means, means, Halted}
use Rattle.cc_build.specs.declared.error.ErrorKind.TheVariants.{TurnsSpent}
use Rattle.cc_build.proofs.FormLaws.{planned_first, halted_cause}
use Rattle.cc_build.proofs.StopLaws.{HasCause, planned_plain}
use Rattle.cc_build.proofs.TurnLaws.{halted_turns, halted_bound}
use Rattle.cc_command.specs.Generated.{gen_source, gen_sources, gen_settings, gen_name, gen_build, gen_course, no_variables, OnGenerated, PlainRun, GeneratedRun}
use Rattle.cc_command.proofs.EnoughLaws.{planned_count, never_spent}
use Rattle.cc_command.proofs.GeneratedLaws.{gen_valid, sources_count, sources_next}
use Rattle.cc_command.proofs.PlainRunLaws.{plain_sound, plain_faultless}
use Rattle.cc_command.proofs.PromiseLaws.{no_refusal}

-- ---- by the clauses of the compile run

-- the log and the counts before a run, as the code has them and as they are
module _ (turned taken' load' : ℕ) (log : List Event) (fact : Look → List Event → Course → Type 0) where
  abbrev On : List Event → ℕ → ℕ → ℕ → Type 0
  On start total taken load =
      Holds (answers (since start log)) (λ look. (left : ℕ) × fact look (since start log) (course (Some total) (Some 1) (means turned 0 taken load) (means left 0 taken' load')))

  on_generated : (start : List Event) (total taken load : ℕ) → start ≡ [] → total ≡ 4 → taken ≡ 0 → load ≡ 0 → On start total taken load → OnGenerated turned log fact
  on_generated start total taken load no_log four no_taken no_load h =
      let at_start = subst (λ l. On l total taken load) no_log h in
      let at_total = subst (λ n. On [] n taken load) four at_start in
      let at_taken = subst (λ n. On [] 4 n load) no_taken at_total in
      let at_load = subst (λ n. On [] 4 0 n) no_load at_taken in
      record { under = λ look agree. let r = at_load.under look agree in (r.0, taken', load', r.1) }

pub plain_run : (steady : Bool) (world : Question → Outcome) (b : BuildSeen) (turned taken' load' : ℕ) (bench old new : BenchSeen) (total taken load : ℕ) (result : Result (Unit {0}) ErrorSeen) → old ≡ fresh → total ≡ 4 → taken ≡ 0 → load ≡ 0 → bench ≡ new → IsPlainLog bench.log → AsksByRun steady world b (since old.log new.log) → On turned taken' load' new.log (Promises b old.listens gen_name result) old.log total taken load → On turned taken' load' new.log (IsBuilt b old.listens gen_name result) old.log total taken load → PlainRun b turned bench.log result
plain_run steady world b turned taken' load' bench old new total taken load result first four no_taken no_load same plain asked promised built =
    let no_log : old.log ≡ [] = ap (λ (h : BenchSeen). h.log) first in
    let once : NoTwice (answers new.log) = subst (λ l. NoTwice (answers (since l new.log))) no_log asked.once in
    let deaf : old.listens ≡ false = ap (λ (h : BenchSeen). h.listens) first in
    let log_same : new.log ≡ bench.log = ap (λ (h : BenchSeen). h.log) (sym same) in
    record {
      plain = plain;
      once = subst (λ l. NoTwice (answers l)) log_same once;
      promises = subst (λ l. OnGenerated turned l (Promises b false gen_name result)) log_same (on_generated turned taken' load' new.log (Promises b false gen_name result) old.log total taken load no_log four no_taken no_load
          (subst (λ (l : Bool). On turned taken' load' new.log (Promises b l gen_name result) old.log total taken load) deaf promised));
      built = subst (λ l. OnGenerated turned l (IsBuilt b false gen_name result)) log_same (on_generated turned taken' load' new.log (IsBuilt b false gen_name result) old.log total taken load no_log four no_taken no_load
          (subst (λ (l : Bool). On turned taken' load' new.log (IsBuilt b l gen_name result) old.log total taken load) deaf built));
    }

-- ---- turns enough

-- a run that ended before it was done, on which nothing was set and with turns enough, wanted memory
module _ (count turned left taken load : ℕ) (log : List Event) (e : ErrorSeen) (look : Look) (way : Way) (small : count < 2 ^ 64) (plain : IsPlainLog log) (enough : 2 * count + 2 ≤ turned) where
  abbrev c : Course
  c = gen_course turned left taken load

  abbrev t : Terms
  t = terms_for (gen_build count) false c

  abbrev one_form : Bool
  one_form = run_has_one_form (gen_settings count) no_variables look

  abbrev refusal : Option ErrorSeen
  refusal = refusal_error (gen_settings count) no_variables look gen_name

  abbrev stages : List Stage
  stages = stages_for (gen_build count) way look gen_name

  too_few : turns log < 1 * length (commands_in stages) → left + turns log ≡ turned → left ≡ 0 → ⊥
  too_few few sum none =
      let most : length (commands_in stages) ≤ 2 * length (gen_sources count) + 0 + 2 = planned_count (gen_settings count) no_variables way look gen_name in
      let sources : length (gen_sources count) ≡ count = sources_count count in
      omega arith

  by_cause : Halted t refusal stages log e c.before c.after → HasCause one_form refusal log e c.before c.after → e ≡ no_memory
  by_cause halted (inl memory) = memory
  by_cause halted (inr (inl refused)) = absurd (no_refusal look (gen_settings count) no_variables gen_name e (gen_valid count look small) refused)
  by_cause halted (inr (inr (inl fault))) = absurd (plain_faultless log plain fault)
  by_cause halted (inr (inr (inr (inl failed)))) = absurd (plain_sound one_form log plain failed)
  by_cause halted (inr (inr (inr (inr (inl rose))))) = absurd (let less : 0 < 0 = rose (omega arith) in omega arith)
  by_cause halted (inr (inr (inr (inr (inr spent))))) =
      absurd (too_few (halted_bound t refusal stages log e c.before c.after 4 1 refl refl (never_spent (gen_settings count) no_variables look gen_name) halted spent.0) (halted_turns t refusal stages log e c.before c.after halted) spent.1)

  wanted_memory : Halted t refusal stages log e c.before c.after → e ≡ no_memory
  wanted_memory halted =
      by_cause halted (halted_cause t one_form refusal stages log e c.before c.after (planned_plain (gen_settings count) no_variables way look gen_name) (λ other. planned_first (gen_settings count) no_variables way look gen_name other) halted)

is_enough : (count turned : ℕ) (log : List Event) (result : Result (Unit {0}) ErrorSeen) → count < 2 ^ 64 → PlainRun (gen_build count) turned log result → 2 * count + 2 ≤ turned → (result ≡ Ok tt) ⊎ (result ≡ Err no_memory)
is_enough count turned log (Ok done) small run enough = inl refl
is_enough count turned log (Err e) small run enough =
    let some = some_agree (answers log) run.once in
    let promised = run.promises.under some.0 some.1 in
    let p = promised.3 in
    inr (ap Err (wanted_memory count turned promised.0 promised.1 promised.2 log e some.0 p.way small run.plain enough p.outcome))

-- ---- turns spent

-- a run for which the turns were too few made as many
spent_of : (count turned left taken load : ℕ) (log : List Event) (e : ErrorSeen) (look : Look) (way : Way) → count < 2 ^ 64 → IsPlainLog log → e.kind ≡ TurnsSpent → Halted (terms_for (gen_build count) false (gen_course turned left taken load)) (refusal_error (gen_settings count) no_variables look gen_name) (stages_for (gen_build count) way look gen_name) log e (gen_course turned left taken load).before (gen_course turned left taken load).after → turns log ≡ turned
spent_of count turned left taken load log e look way small plain kind halted =
    by_cause (halted_cause run_terms one_form refused_by run_stages log e x y (planned_plain (gen_settings count) no_variables way look gen_name) (λ other. planned_first (gen_settings count) no_variables way look gen_name other) halted)
  where
    run_terms : Terms
    run_terms = terms_for (gen_build count) false (gen_course turned left taken load)

    one_form : Bool
    one_form = run_has_one_form (gen_settings count) no_variables look

    refused_by : Option ErrorSeen
    refused_by = refusal_error (gen_settings count) no_variables look gen_name

    run_stages : List Stage
    run_stages = stages_for (gen_build count) way look gen_name

    x : Means
    x = (gen_course turned left taken load).before

    y : Means
    y = (gen_course turned left taken load).after

    by_cause : HasCause one_form refused_by log e x y → turns log ≡ turned
    by_cause (inl memory) = absurd (let none : (no_memory).kind ≡ TurnsSpent = ap (λ (v : ErrorSeen). v.kind) (sym memory) ∙ kind in cc)
    by_cause (inr (inl refused)) = absurd (no_refusal look (gen_settings count) no_variables gen_name e (gen_valid count look small) refused)
    by_cause (inr (inr (inl fault))) = absurd (plain_faultless log plain fault)
    by_cause (inr (inr (inr (inl failed)))) = absurd (plain_sound one_form log plain failed)
    by_cause (inr (inr (inr (inr (inl rose))))) = absurd (let less : 0 < 0 = rose (omega arith) in omega arith)
    by_cause (inr (inr (inr (inr (inr spent))))) =
        let sum : left + turns log ≡ turned = halted_turns run_terms refused_by run_stages log e x y halted in
        let none : left ≡ 0 = spent.1 in
        omega arith

is_spent : (count turned : ℕ) (log : List Event) (result : Result (Unit {0}) ErrorSeen) → count < 2 ^ 64 → PlainRun (gen_build count) turned log result → (e : ErrorSeen) → result ≡ Err e → e.kind ≡ TurnsSpent → turns log ≡ turned
is_spent count turned log (Ok done) small run e is kind = absurd (cc)
is_spent count turned log (Err f) small run e is kind =
    let same : e ≡ f = cc in
    let some = some_agree (answers log) run.once in
    let promised = run.promises.under some.0 some.1 in
    let p = promised.3 in
    spent_of count turned promised.0 promised.1 promised.2 log f some.0 p.way small run.plain (ap (λ (v : ErrorSeen). v.kind) (sym same) ∙ kind) p.outcome

-- a run of the build of so many sources
pub generated_run : (count turned : ℕ) (b : BuildSeen) (log : List Event) (result : Result (Unit {0}) ErrorSeen) → count < 2 ^ 64 → b ≡ gen_build count → PlainRun b turned log result → GeneratedRun count turned log result
generated_run count turned b log result small is run =
    let of_count = subst (λ b. PlainRun b turned log result) is run in
    record { run = of_count; enough = is_enough count turned log result small of_count; spent = is_spent count turned log result small of_count }

-- ---- its sources

pub sources_none : (b : BuildSeen) → Sets b b (λ c. record c { files = c.files ++ gen_sources 0 })
unfolding gen_sources
sources_none b = ap (λ (l : List (List ℕ)). record b { config = record b.config { files = l } }) (sym (append-nil b.config.files))

pub sources_more : (first old new : BuildSeen) (place : ℕ) → Sets first old (λ c. record c { files = c.files ++ gen_sources place }) → Sets old new (λ c. record c { files = c.files ++ gen_source place ∷ [] }) → Sets first new (λ c. record c { files = c.files ++ gen_sources (place + 1) })
sources_more first old new place so more =
    subst (λ (o : BuildSeen). new ≡ record o { config = record o.config { files = o.config.files ++ gen_source place ∷ [] } }) so more
    ∙ ap (λ (l : List (List ℕ)). record first { config = record first.config { files = l } })
    (append_assoc first.config.files (gen_sources place) (gen_source place ∷ []) ∙ ap (λ l. first.config.files ++ l) (sym (sources_next place)))
