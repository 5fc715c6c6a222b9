-- What follows from how a compile run ended.
use Rattle.std.proofs.Common.{◌≡◌, ◌≤◌, inl, inr, ℕ, List, [], ◌∷◌, ◌++◌, length, map, take, false, not, Result, Ok, Err, sym, ◌∙◌, ap, subst, Bool}
use Rattle.cc_host.specs.Part.{is_probing}
use Rattle.cc_host.specs.Question.{Look}
use Rattle.cc_host.specs.declared.event.Event.{Event}
use Rattle.cc_host.specs.declared.event.Event.TheVariants.{Fault, Abandoned}
use Rattle.cc_host.specs.declared.event.HostCall.{HostCall}
use Rattle.cc_host.specs.declared.event.Role.TheVariants.{Compile}
use Rattle.cc_host.specs.declared.event.Why.{Why}
use Rattle.cc_run.specs.Planned.{asked}
use Rattle.cc_build.specs.Build.{BuildSeen}
use Rattle.cc_build.specs.Course.{Course}
use Rattle.cc_build.specs.Error.{ErrorSeen}
use Rattle.cc_build.specs.Failed.{HasFault}
use Rattle.cc_build.specs.Promises.{terms_for, stages_for, AllStarted, StartsTill, RunEnds, IsBuilt, Promises, NothingRuns, FaultsEnd}
use Rattle.cc_build.specs.Refusal.{refusal_error}
use Rattle.cc_build.specs.Stage.{Stage, planned}
use Rattle.cc_build.specs.Shows.{shows_of}
use Rattle.cc_build.proofs.SourceLaws.{asked_planned}
use Rattle.cc_build.specs.Went.{Terms, Means, Halted, Partly, Ends}
use Rattle.cc_build.specs.declared.error.ErrorKind.TheVariants.{ToolExecError}
use Rattle.cc_plan.specs.Plan.{compiles_of}
use Rattle.cc_build.proofs.BesideLaws.{sources, shape_of, compiled_beside}
use Rattle.cc_build.proofs.BuiltLaws.{built_on_ok}
use Rattle.cc_build.proofs.FailedLaws.{never_ran, all_started, all_stopped}
use Rattle.cc_build.proofs.Going.{went_one}
use Rattle.cc_build.proofs.OrderLaws.{ended_partly, ordered}
use Rattle.cc_build.proofs.SettledLaws.{partly_settled, partly_first}
use Rattle.cc_build.proofs.StopLaws.{went_faultless, stop_faults, planned_plain}
use Rattle.cc_build.proofs.Trying.{beyond}

-- ---- a fault is last

pub none_inside : (before after : List Event) (event : Event) → [] ≡ before ++ event ∷ after → ⊥
none_inside [] after event h = cc
none_inside (b ∷ before) after event h = cc

-- behind a fault of a run children are abandoned, and nothing else is done
pub fault_ends : (t : Terms) (stages : List Stage) (run : List Event) (x z : Means) (before after : List Event) (call : HostCall) (why : Why) → is_probing call ≡ false → run ≡ before ++ Fault call why ∷ after → Partly t stages run x z → (ids : List ℕ) × (after ≡ map Abandoned ids)
fault_ends t [] run x z before after call why real is p = absurd (none_inside before after (Fault call why) (sym p.0 ∙ is))
fault_ends t (s ∷ stages) run x z before after call why real is (inl p) = absurd (none_inside before after (Fault call why) (sym p.0 ∙ is))
fault_ends t (s ∷ stages) run x z before after call why real is (inr (inl stop)) = stop_faults t s run stop.0 x z stop.1 before after call why real is
fault_ends t (s ∷ stages) run x z before after call why real is (inr (inr d)) =
    let found = beyond d.0 d.1 before after (Fault call why) (went_faultless t (s ∷ []) d.0 x d.2 (went_one t s d.0 x d.2 d.3.1)) (ap not real) (sym d.3.0 ∙ is) in
    fault_ends t stages d.1 d.2 z found.0 after call why real found.1 d.3.2

-- ---- the promises

module _ {T : Type 0} (b : BuildSeen) (listens : Bool) (output : List ℕ) (result : Result T ErrorSeen) (look : Look) (part : List Event) (c : Course) (run : RunEnds b listens output result look part c) where
  partly : Partly (terms_for b listens c) (stages_for b run.0 look output) part c.before c.after
  partly = ended_partly (terms_for b listens c) (refusal_error b.config b.env look output) (stages_for b run.0 look output) part result c.before c.after run.1.2

  pub built_so : IsBuilt b listens output result look part c
  built_so = built_on_ok (terms_for b listens c) b.config b.env run.0 look output part result c.before c.after run.1.1 run.1.0 run.1.2

  pub nothing_runs : NothingRuns part
  nothing_runs = partly_settled (terms_for b listens c) (stages_for b run.0 look output) part c.before c.after partly

  pub faults_end : FaultsEnd part
  faults_end before after call why real is = fault_ends (terms_for b listens c) (stages_for b run.0 look output) part c.before c.after before after call why real is partly

  abbrev its_terms : Terms
  its_terms = terms_for b listens c

  abbrev its_stages : List Stage
  its_stages = stages_for b run.0 look output

  halted : (r : Result T ErrorSeen) → Ends its_terms (refusal_error b.config b.env look output) its_stages part r c.before c.after → (e : ErrorSeen) → r ≡ Err e → Halted its_terms (refusal_error b.config b.env look output) its_stages part e c.before c.after
  halted (Ok v) o e is = absurd (cc)
  halted (Err f) o e is = let same : f ≡ e = cc in subst (λ (k : ErrorSeen). Halted its_terms (refusal_error b.config b.env look output) its_stages part k c.before c.after) same o

  -- a host is asked for the commands of the sources as for commands without a message
  same_asked : asked its_terms.shows (sources b.config b.env run.0 look output) ≡ asked its_terms.shows (planned Compile (compiles_of b.config b.env look))
  same_asked = asked_planned its_terms.shows b.config b.env run.0.found.here look

  module _ (e : ErrorSeen) (many : 2 ≤ length b.config.files) (is : result ≡ Err e) (badly : e.kind ≡ ToolExecError) where
    its_all : b.config.stop_on_failure ≡ false → (HasFault part → ⊥) → AllStarted (shows_of b.config b.env listens) (compiles_of b.config b.env look) part
    its_all going sound =
        let all = all_started its_terms (sources b.config b.env run.0 look output) (refusal_error b.config b.env look output) its_stages part e c.before c.after
        (never_ran b.config b.env look output) (planned_plain b.config b.env run.0 look output) (shape_of b.config b.env run.0 look output many) (halted result run.1.2 e is) badly going sound in
        ((all.0.0, all.0.1 ∙ ap (λ l. l ++ all.0.0) same_asked), all.1)

    its_first : (HasFault part → ⊥) → StartsTill (shows_of b.config b.env listens) (compiles_of b.config b.env look) part
    its_first sound =
        let first = all_stopped its_terms (sources b.config b.env run.0 look output) (refusal_error b.config b.env look output) its_stages part e c.before c.after
        (never_ran b.config b.env look output) (planned_plain b.config b.env run.0 look output) (shape_of b.config b.env run.0 look output many) (halted result run.1.2 e is) badly sound in
        elim first [
          | inl k ↦ inl ((k.0.0, k.0.1 ∙ ap (λ l. l ++ k.0.0) same_asked), k.1)
          | inr k ↦ inr ((k.0.0, k.0.1 ∙ ap (take k.0.0) same_asked), k.1, k.2)
        ]

  pub promised : Promises b listens output result look part c
  promised = record {
    way = run.0;
    repeats = run.1.1;
    hears = run.1.0;
    outcome = run.1.2;
    order = ordered its_terms b.config b.env run.0 look output part result c.before c.after run.1.2;
    prefix = partly_first its_terms its_stages part c.before c.after (planned_plain b.config b.env run.0 look output) partly;
    beside = λ many. compiled_beside its_terms b.config b.env run.0 look output part c.before c.after (planned_plain b.config b.env run.0 look output) many partly;
    failed = λ going e many is badly sound. its_all e many is badly going sound;
    stopped = λ stops e many is badly sound. its_first e many is badly sound;
  }
