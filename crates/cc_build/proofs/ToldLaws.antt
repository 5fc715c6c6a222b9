-- A call that asks and does something, and then prints the lines of the variables that it read.
use Rattle.std.proofs.Common.{◌≡◌, ◌⊎◌, inl, inr, ℕ, List, [], ◌∷◌, ◌++◌, Bool, true, false, not, Option, Some, None, Result, Ok, Err, refl, sym, ◌∙◌, ap, ap₂, subst}
use Rattle.cc_env.specs.Env.{EnvSeen}
use Rattle.cc_host.specs.Part.{Step, since}
use Rattle.cc_host.specs.Question.{Look, Answer, answers, Agrees, NoTwice, Holds}
use Rattle.cc_host.specs.declared.event.Event.{Event}
use Rattle.cc_host.specs.declared.event.LineKind.TheVariants.{Rerun}
use Rattle.cc_host.specs.declared.question.Outcome.{Outcome as WorldOutcome}
use Rattle.cc_host.specs.declared.question.Question.{Question}
use Rattle.cc_host.proofs.Parts.{since_since}
use Rattle.cc_plan.specs.Plan.{prints}
use Rattle.cc_plan.specs.Questions.{ArchiverAsks, RanlibAsks, NameAsks, PlanAsks, SupportAsks, ToolsAsks, RunAsks}
use Rattle.cc_plan.specs.Refusal.{is_empty}
use Rattle.std.proofs.lemmas.Bool.{and_parts}
use Rattle.cc_flags.specs.declared.link_line.LinkLine.{LinkLine}
use Rattle.cc_flags.specs.declared.settings.BuildConfig.{BuildConfig}
use Rattle.cc_flags.specs.declared.variables.Reads.{Reads}
use Rattle.cc_plan.proofs.QuestionLemmas.{NameCase, name_cases, compiler_in_plan, plan_in_tools, pair_in_support, tools_for_compile}
use Rattle.cc_tool.specs.Asked.{Asked}
use Rattle.cc_tool.specs.Own.{AnswersAmong}
use Rattle.cc_build.specs.Error.{ErrorSeen}
use Rattle.cc_build.specs.Kept.{AsksOn}
use Rattle.cc_build.specs.Outcome.{Outcome, IsRefused}
use Rattle.cc_build.specs.Archiving.{archive_reads}
use Rattle.cc_build.specs.Intermediates.{source_reads}
use Rattle.cc_build.specs.Linking.{link_reads}
use Rattle.cc_build.specs.Stage.{IsRun, Stage, calls, run_reads, printed_stages, rerun_lines}
use Rattle.cc_build.specs.Told.{compiler_reads, flag_reads, archiver_reads, ranlib_reads, expand_reads, name_steps, NamesTold, unless_refused, DoesAndTells}
use Rattle.cc_build.specs.Way.{Firsts, all_firsts, chosen}
use Rattle.cc_build.specs.Went.{Terms, Means, Ends}
use Rattle.cc_build.proofs.Growing.{on_then, on_asked}
use Rattle.cc_build.proofs.Looks.{agrees_since}
use Rattle.cc_build.proofs.Outcomes.{outcome_then, outcome_from}
use Rattle.cc_build.proofs.PrintedLaws.{IsChildless, told_printed, ends_outcome, refused_more}

-- ---- which questions

no_more : {b : Bool} → b ≡ false → b ≡ true → ⊥
no_more e t = let clash : false ≡ true = sym e ∙ t in absurd (cc)

module _ (reads : Reads) (set : BuildConfig) (env : EnvSeen) (look : Look) (q : Question) where
  for_compile : is_empty set.files ≡ false → ToolsAsks set env look q → RunAsks set env look q
  unfolding RunAsks
  for_compile some h = inl (tools_for_compile set env some look q h)

  for_archive : ArchiverAsks set env look q → RunAsks set env look q
  unfolding RunAsks
  for_archive h = inr (inl h)

  -- a run asks them
  pub names_in_run : IsRun set reads → NameAsks reads set env look q → RunAsks set env look q
  names_in_run plain asked = go (name_cases look q set env reads asked)
    where
      go : NameCase look q set env reads → RunAsks set env look q
      go (inl h) = for_compile (plain.1.0 h.0) (plan_in_tools look q set env (compiler_in_plan look q set env h.1))
      go (inr (inl h)) = absurd (no_more plain.0.1 h.0)
      go (inr (inr (inl h))) = for_compile (plain.1.1 (and_parts _ _ h.0).0) h.1
      go (inr (inr (inr (inl h)))) = for_archive h.1
      go (inr (inr (inr (inr h)))) = absurd (no_more plain.0.0 h.0)

some_files : (b : Bool) → not b ≡ true → b ≡ false
some_files true h = absurd (cc)
some_files false h = refl

-- what each kind of run reads variables for
module _ (set : BuildConfig) where
  pub run_is : IsRun set (run_reads set)
  run_is = ((refl, refl), (some_files (is_empty set.files), some_files (is_empty set.files)))

  pub sources_are : IsRun set (source_reads set)
  sources_are = ((refl, refl), (some_files (is_empty set.files), some_files (is_empty set.files)))

  pub archive_is : IsRun set archive_reads
  archive_is = ((refl, refl), (λ h. let clash : false ≡ true = h in absurd (cc), λ h. let clash : false ≡ true = h in absurd (cc)))

  pub links_are : IsRun set link_reads
  links_are = ((refl, refl), (λ h. let clash : false ≡ true = h in absurd (cc), λ h. let clash : false ≡ true = h in absurd (cc)))

module _ (set : BuildConfig) (env : EnvSeen) where
  -- so do the calls that find a tool
  pub names_in_plan : (look : Look) (q : Question) → NameAsks compiler_reads set env look q → PlanAsks set env look q
  names_in_plan look q asked = go (name_cases look q set env compiler_reads asked)
    where
      go : NameCase look q set env compiler_reads → PlanAsks set env look q
      go (inl h) = compiler_in_plan look q set env h.1
      go (inr (inl h)) = let clash : false ≡ true = h.0 in absurd (cc)
      go (inr (inr (inl h))) = let clash : false ≡ true = h.0 in absurd (cc)
      go (inr (inr (inr (inl h)))) = let clash : false ≡ true = h.0 in absurd (cc)
      go (inr (inr (inr (inr h)))) = let clash : false ≡ true = h.0 in absurd (cc)

  pub names_in_expand : (look : Look) (q : Question) → NameAsks expand_reads set env look q → PlanAsks set env look q
  names_in_expand look q asked = go (name_cases look q set env expand_reads asked)
    where
      go : NameCase look q set env expand_reads → PlanAsks set env look q
      go (inl h) = compiler_in_plan look q set env h.1
      go (inr (inl h)) = let clash : false ≡ true = h.0 in absurd (cc)
      go (inr (inr (inl h))) = let clash : false ≡ true = h.0 in absurd (cc)
      go (inr (inr (inr (inl h)))) = let clash : false ≡ true = h.0 in absurd (cc)
      go (inr (inr (inr (inr h)))) = let clash : false ≡ true = h.0 in absurd (cc)

  pub names_in_support : (flag : List ℕ) (look : Look) (q : Question) → NameAsks flag_reads set env look q → SupportAsks set env flag look q
  names_in_support flag look q asked = go (name_cases look q set env flag_reads asked)
    where
      go : NameCase look q set env flag_reads → SupportAsks set env flag look q
      go (inl h) = let clash : false ≡ true = h.0 in absurd (cc)
      go (inr (inl h)) = pair_in_support look q set env flag h.1
      go (inr (inr (inl h))) = let clash : false ≡ true = h.0 in absurd (cc)
      go (inr (inr (inr (inl h)))) = let clash : false ≡ true = h.0 in absurd (cc)
      go (inr (inr (inr (inr h)))) = let clash : false ≡ true = h.0 in absurd (cc)

  pub names_in_archiver : (look : Look) (q : Question) → NameAsks archiver_reads set env look q → ArchiverAsks set env look q
  names_in_archiver look q asked = go (name_cases look q set env archiver_reads asked)
    where
      go : NameCase look q set env archiver_reads → ArchiverAsks set env look q
      go (inl h) = let clash : false ≡ true = h.0 in absurd (cc)
      go (inr (inl h)) = let clash : false ≡ true = h.0 in absurd (cc)
      go (inr (inr (inl h))) = let clash : false ≡ true = h.0 in absurd (cc)
      go (inr (inr (inr (inl h)))) = h.1
      go (inr (inr (inr (inr h)))) = let clash : false ≡ true = h.0 in absurd (cc)

  pub names_in_ranlib : (look : Look) (q : Question) → NameAsks ranlib_reads set env look q → RanlibAsks set env look q
  names_in_ranlib look q asked = go (name_cases look q set env ranlib_reads asked)
    where
      go : NameCase look q set env ranlib_reads → RanlibAsks set env look q
      go (inl h) = let clash : false ≡ true = h.0 in absurd (cc)
      go (inr (inl h)) = let clash : false ≡ true = h.0 in absurd (cc)
      go (inr (inr (inl h))) = let clash : false ≡ true = h.0 in absurd (cc)
      go (inr (inr (inr (inl h)))) = let clash : false ≡ true = h.0 in absurd (cc)
      go (inr (inr (inr (inr h)))) = h.1

-- ---- one part behind another

module _ (steady : Bool) (world : Question → WorldOutcome) (dir : List ℕ) where
  -- a part of questions among others
  pub on_more : (narrow wide : Look → Question → Type 0) (part : List Event) (known after : List Answer) → ((look : Look) (q : Question) → narrow look q → wide look q) → AsksOn steady world dir narrow part known after → AsksOn steady world dir wide part known after
  on_more narrow wide part known after among k = record {
    answered = k.answered;
    once = k.once;
    closed = k.closed;
    excused = k.excused;
    founded = k.founded;
    probing = k.probing;
    dropped = k.dropped;
    honest = k.honest;
    own = record { under = λ look agree i d l. among look _ (k.own.under look agree i d l) };
  }

  -- a whole call, whose answers began empty
  on_alone : (questions : Look → Question → Type 0) (part : List Event) (known : List Answer) → known ≡ answers part → Asked steady world dir questions part → AsksOn steady world dir questions part [] known
  on_alone questions part known is k = record {
    answered = is;
    once = λ n. subst NoTwice (sym is) k.once;
    closed = k.closed;
    excused = k.excused;
    founded = k.founded;
    probing = k.probing;
    dropped = k.dropped;
    honest = k.honest;
    own = subst (λ (l : List Answer). Holds l (λ look. AnswersAmong (questions look) part)) (sym is) k.own;
  }

  module _ (wide narrow : Look → Question → Type 0) (among : (look : Look) (q : Question) → narrow look q → wide look q) (old mid new : List Event) (known after : List Answer) (first : mid ≡ old ++ since old mid) (last : new ≡ mid ++ since mid new) (asked : Asked steady world dir wide (since old mid)) (answered : known ≡ answers (since old mid)) (more : AsksOn steady world dir narrow (since mid new) known after) where
    all : AsksOn steady world dir wide (since old new) [] after
    all =
        subst (λ (p : List Event). AsksOn steady world dir wide p [] after) (sym (since_since old mid new first last))
        (on_then steady world dir wide (since old mid) (since mid new) [] known after (on_alone wide (since old mid) known answered asked) (on_more narrow wide (since mid new) known after among more))

    both : Asked steady world dir wide (since old new) × (after ≡ answers (since old new))
    both = on_asked steady world dir wide (since old new) after all

    pub told_asked : Asked steady world dir wide (since old new)
    told_asked = both.0

    -- what holds of either part, whichever verdicts agree with the answers
    pub told_holds : {F G P : Look → Type 0} → Holds (answers (since old mid)) F → Holds after G → ((look : Look) → F look → G look → P look) → Holds (answers (since old new)) P
    told_holds f g so = record {
      under = λ look agree. so look (f.under look (agrees_since look old mid new first last agree).0) (g.under look (subst (Agrees look) (sym both.1) agree));
    }

-- ---- outcomes

-- the lines of such names are printed
pub told_lines : {T : Type 0} (t : Terms) (listens : Bool) (texts : List (List ℕ)) (firsts : Firsts) (links : List LinkLine) (names : List (List ℕ)) (these : List Stage) (part : List Event) (r : Result T ErrorSeen) (x y : Means) → these ≡ printed_stages listens texts firsts links names → texts ≡ [] → links ≡ [] → Ends t None these part r x y → Outcome None (prints Rerun (rerun_lines (chosen firsts.names names))) part r × IsChildless part
unfolding prints
told_lines t listens texts firsts links names these part r x y is silent none ends =
    let steps = prints Rerun (rerun_lines (chosen firsts.names names)) in
    let same : these ≡ calls steps = is ∙ ap₂ (λ m l. printed_stages listens m firsts l names) silent none in
    ends_outcome t None steps part r x y refl (told_printed Rerun (rerun_lines (chosen firsts.names names))) (subst (λ (l : List Stage). Ends t None l part r x y) same ends)

pub names_when : {T : Type 0} (refusal : Option ErrorSeen) (names : List Step) (part : List Event) (r : Result T ErrorSeen) → refusal ≡ None → Outcome None names part r → Outcome refusal (unless_refused refusal names) part r
names_when None names part r none o = o
names_when (Some e) names part r none o = absurd (cc)

module _ (reads : Reads) (set : BuildConfig) (env : EnvSeen) (look : Look) (refusal : Option ErrorSeen) (steps : List Step) where
  -- the steps were done, and then the lines were printed
  pub does_told : {X T : Type 0} (x : X) (r : Result T ErrorSeen) (old mid new : List Event) → mid ≡ old ++ since old mid → new ≡ mid ++ since mid new → Outcome {T = X} refusal steps (since old mid) (Ok x) → NamesTold reads set env r look (since mid new) → DoesAndTells reads set env refusal steps r look (since old new)
  does_told x r old mid new first last done told =
      let names = name_steps reads set env told.0 look in (
        told.0,
        (
          told.1.0,
          subst (λ (p : List Event). Outcome refusal (steps ++ unless_refused refusal names) p r) (sym (since_since old mid new first last))
              (outcome_then refusal steps (unless_refused refusal names) (since old mid) (since mid new) r done.1 (names_when refusal names (since mid new) r done.0 told.1.1)),
        ),
      )

  -- the first of them were, and nothing was told
  pub refused_told : (T : Type 0) (e : ErrorSeen) (part : List Event) → IsRefused refusal steps part e → DoesAndTells {T = T} reads set env refusal steps (Err e) look part
  refused_told T e part h = (all_firsts, ((λ _. refl), refused_more refusal refusal steps (unless_refused refusal (name_steps reads set env all_firsts look)) part e (λ k. k) h))
