-- How an archive alone ends, by what it checked and did.
use Rattle.std.proofs.Common.{◌≡◌, ◌⊎◌, inl, inr, ℕ, ◌+◌, List, [], ◌∷◌, Bool, false, if◌then◌else◌, is_some, Option, Some, None, option_map, Result, Err, refl, sym, ◌∙◌, ap, subst, arith}
use Rattle.cc_env.specs.Env.{EnvSeen}
use Rattle.cc_host.specs.Question.{Look, Answer, Agrees, answers, Holds}
use Rattle.cc_host.specs.declared.question.Outcome.{Outcome}
use Rattle.cc_host.specs.declared.question.Question.{Question}
use Rattle.cc_host.specs.declared.event.Event.{Event}
use Rattle.cc_host.specs.declared.event.Event.TheVariants.{Fault}
use Rattle.cc_flags.specs.Given.{is_disabled, probe_folder}
use Rattle.cc_plan.specs.Plan.{archive_refusal}
use Rattle.cc_plan.specs.Questions.{RunAsks}
use Rattle.cc_plan.specs.Refusal.{name_refusal, early_refusal}
use Rattle.cc_flags.specs.Given.{first_of}
use Rattle.cc_flags.specs.declared.settings.BuildConfig.{BuildConfig}
use Rattle.cc_flags.specs.declared.variables.Reads.{Reads}
use Rattle.cc_run.specs.Part.{turns as turns_in}
use Rattle.cc_run.specs.declared.planned.Shows.{Shows}
use Rattle.cc_build.specs.Archiving.{archive_reads, unarchived_error, creation_error, creation_stages, Creates}
use Rattle.cc_build.specs.Build.{BuildSeen}
use Rattle.cc_build.specs.Course.{Course, course_alone}
use Rattle.cc_build.specs.Error.{ErrorSeen, no_memory}
use Rattle.cc_build.specs.Kept.{AsksOn}
use Rattle.cc_build.specs.Promises.{terms_for, NothingRuns, FaultsEnd}
use Rattle.cc_build.specs.Refusal.{plan_error, disabled_error, archive_error}
use Rattle.cc_build.specs.Shows.{shows_of}
use Rattle.cc_build.specs.Stage.{Stage, asked_then, library_stages, name_stages, told_library}
use Rattle.cc_build.specs.Stage.Stage.{Asks}
use Rattle.cc_build.specs.Way.{Firsts, Repeats, all_firsts, Writing, writing_of}
use Rattle.cc_build.specs.Went.{Terms, Means, terms, means, Halted, Ends, Partly}
use Rattle.cc_tool.proofs.SomeLemmas.{some_agree}
use Rattle.cc_tool.specs.Asked.{Asked}
use Rattle.cc_build.proofs.AloneLaws.{AreAlone, alone_then, alone_unless, alone_calls, alone_library, ends_alone}
use Rattle.cc_build.proofs.Growing.{on_asked}
use Rattle.cc_build.proofs.Going.{went_none, halted_none, halted_end}
use Rattle.cc_build.proofs.OrderLaws.{ended_partly}
use Rattle.cc_build.proofs.PromiseLaws.{none_inside, fault_ends}
use Rattle.cc_build.proofs.SettledLaws.{partly_settled}
use Rattle.cc_build.proofs.TurnLaws.{ended_turns}

-- ---- the checks

-- the name is refused
pub name_stops : (set : BuildConfig) (env : EnvSeen) (output : List ℕ) (e : ErrorSeen) → (e ≡ no_memory) ⊎ (option_map (plan_error set env output) (name_refusal output) ≡ Some e) → (e ≡ no_memory) ⊎ (unarchived_error set env output ≡ Some e)
name_stops set env output e (inl memory) = inl memory
name_stops set env output e (inr is) = inr (ap (λ r. first_of r (if is_disabled env then Some disabled_error else option_map (plan_error set env output) (early_refusal set env output))) is)

-- it isn't, and what comes then is refused
pub then_stops : (set : BuildConfig) (env : EnvSeen) (output : List ℕ) (e : ErrorSeen) → name_refusal output ≡ None → is_disabled env ≡ false → (e ≡ no_memory) ⊎ (option_map (plan_error set env output) (early_refusal set env output) ≡ Some e) → (e ≡ no_memory) ⊎ (unarchived_error set env output ≡ Some e)
then_stops set env output e named enabled (inl memory) = inl memory
then_stops set env output e named enabled (inr is) = inr (rw (named, enabled) is)

-- ---- how it ends

never_created : (t : Terms) (early late : Option ErrorSeen) (run : List Stage) (part : List Event) (e : ErrorSeen) (x : Means) → part ≡ [] → (e ≡ no_memory) ⊎ (early ≡ Some e) → Halted t (first_of early late) (if is_some early then [] else Asks ∷ run) part e x x
never_created t None late run part e x none (inl memory) = halted_none t late (Asks ∷ run) part e x none memory (λ empty. absurd (cc))
never_created t None late run part e x none (inr is) = absurd (cc)
never_created t (Some error) late run part e x none (inl memory) = halted_none t (Some error) [] part e x none memory (λ empty. refl)
never_created t (Some error) late run part e x none (inr is) = halted_end t (Some error) [] part e x x (went_none t part x none) is

behind_checks : {T : Type 0} (t : Terms) (early late : Option ErrorSeen) (stages : List Stage) (part : List Event) (r : Result T ErrorSeen) (x z : Means) → early ≡ None → Ends t late stages part r x z → Ends t (first_of early late) (if is_some early then [] else stages) part r x z
behind_checks t None late stages part r x z is o = o
behind_checks t (Some error) late stages part r x z is o = absurd (cc)

-- what a call asked that began with no answers
module _ (set : BuildConfig) (env : EnvSeen) (part : List Event) (steady : Bool) (world : Question → Outcome) (fresh known : List Answer) (none : fresh ≡ []) (on : AsksOn steady world (probe_folder set env) (RunAsks set env) part fresh known) where
  asked_all : Asked steady world (probe_folder set env) (RunAsks set env) part × (known ≡ answers part)
  asked_all = on_asked steady world (probe_folder set env) (RunAsks set env) part known (subst (λ (l : List Answer). AsksOn steady world (probe_folder set env) (RunAsks set env) part l known) none on)

  -- some verdicts agree with its answers
  pub agreed : (look : Look) × Agrees look (answers part)
  agreed = some_agree (answers part) asked_all.0.once

module _ (set : BuildConfig) (env : EnvSeen) (listens : Bool) (patience : Option ℕ) (turns : ℕ) (output : List ℕ) (part : List Event) where
  abbrev pub seen : BuildSeen
  seen = record { config = set; env = env }

  abbrev told_with : Look → Writing → Firsts → List Stage
  told_with look writing firsts = asked_then (archive_refusal set env look) (told_library set env archive_reads writing look firsts output)

  -- nothing was asked: the checks refused it, or memory was wanted
  pub uncreated : (T : Type 0) (look : Look) (e : ErrorSeen) → part ≡ [] → (e ≡ no_memory) ⊎ (unarchived_error set env output ≡ Some e) → Creates {T = T} seen listens patience turns output (Err e) look part
  uncreated T look e none cause =
      let run : List Stage = if is_some (archive_refusal set env look) then [] else told_library set env archive_reads (writing_of false []) look all_firsts output in
      (turns, (writing_of false [], all_firsts, ((λ _. refl), never_created (terms (shows_of set env listens) (Some 1) patience) (unarchived_error set env output) (archive_error set env look output) run part e (means turns 0 0 0) none cause)))

  module _ (shows : Shows) (c : Course) (reads : Reads) (same : shows ≡ shows_of set env listens) (patient : c.patience ≡ patience) (given : c.before.left ≡ turns) (those : reads ≡ archive_reads) (passed : unarchived_error set env output ≡ None) where
    -- the terms of a run that takes no token of a pool
    abbrev in_run : Shows → Option ℕ → Terms
    in_run shown p = terms shown (Some 1) p

    told_alone : (look : Look) (writing : Writing) (firsts : Firsts) → AreAlone (told_with look writing firsts)
    told_alone look writing firsts = (
      tt,
      alone_unless (is_some (archive_refusal set env look)) (told_library set env archive_reads writing look firsts output)
          (alone_then (library_stages set env writing look output) (Asks ∷ name_stages set env archive_reads look firsts) (alone_library set env writing look output) (tt, alone_calls _)),
    )

    -- the library was written and the lines were printed, or it ended before
    created : {T : Type 0} (r : Result T ErrorSeen) (look : Look) → (writing : Writing) × (firsts : Firsts) × (Repeats set firsts × Ends (terms shows c.total c.patience) (archive_error set env look output) (asked_then (archive_refusal set env look) (told_library set env reads writing look firsts output)) part r c.before c.after) → Creates seen listens patience turns output r look part
    created r look h =
        let error = archive_error set env look output in
        let stages = told_with look h.0 h.1 in
        let its : Ends (terms shows c.total c.patience) error stages part r c.before c.after =
        subst (λ (rd : Reads). Ends (terms shows c.total c.patience) error (asked_then (archive_refusal set env look) (told_library set env rd h.0 look h.1 output)) part r c.before c.after) those h.2.1 in
        let alone : Ends (in_run shows c.patience) error stages part r (means c.before.left 0 0 0) (means c.after.left 0 0 0) =
        ends_alone shows c.patience c.total (Some 1) 0 0 0 error stages part r c.before c.after (told_alone look h.0 h.1) its in (
          c.after.left,
          (
            h.0,
            h.1,
            (
              h.2.0,
              behind_checks (in_run (shows_of set env listens) patience) (unarchived_error set env output) error stages part r (means turns 0 0 0) (means c.after.left 0 0 0) passed
                  (subst (λ (s : Shows). Ends (in_run s patience) error stages part r (means turns 0 0 0) (means c.after.left 0 0 0)) same
                  (subst (λ (p : Option ℕ). Ends (in_run shows p) error stages part r (means turns 0 0 0) (means c.after.left 0 0 0)) patient
                  (subst (λ (n : ℕ). Ends (in_run shows c.patience) error stages part r (means n 0 0 0) (means c.after.left 0 0 0)) given alone))),
            ),
          ),
        )

    -- the same of a call that began with no answers
    module _ (steady : Bool) (world : Question → Outcome) (fresh known : List Answer) (none : fresh ≡ []) (on : AsksOn steady world (probe_folder set env) (RunAsks set env) part fresh known) where
      pub created_by : {T : Type 0} (r : Result T ErrorSeen) → Holds known (λ look. (writing : Writing) × (firsts : Firsts) × (Repeats set firsts × Ends (terms shows c.total c.patience) (archive_error set env look output) (asked_then (archive_refusal set env look) (told_library set env reads writing look firsts output)) part r c.before c.after)) → Holds (answers part) (λ look. Creates seen listens patience turns output r look part)
      created_by r h = record { under = λ look agree. created r look (h.under look (subst (Agrees look) (sym (asked_all set env part steady world fresh known none on).1) agree)) }

      -- what is left of the turns, and those of the part, are what was given
      pub turns_left : {T : Type 0} (r : Result T ErrorSeen) → Holds known (λ look. (writing : Writing) × (firsts : Firsts) × (Repeats set firsts × Ends (terms shows c.total c.patience) (archive_error set env look output) (asked_then (archive_refusal set env look) (told_library set env reads writing look firsts output)) part r c.before c.after)) → c.after.left + turns_in part ≡ turns
      turns_left r h =
          let all = asked_all set env part steady world fresh known none on in
          let some = agreed set env part steady world fresh known none on in
          let its = h.under some.0 (subst (Agrees some.0) (sym all.1) some.1) in
          ended_turns (terms shows c.total c.patience) (archive_error set env some.0 output) (asked_then (archive_refusal set env some.0) (told_library set env reads its.0 some.0 its.1 output)) part r c.before c.after its.2.1 ∙ given

-- ---- what follows from how it ends

-- without events no turn is made
pub no_turns : (part : List Event) (left : ℕ) → part ≡ [] → left + turns_in part ≡ left
no_turns part left none = let zero : turns_in part ≡ 0 = ap turns_in none in omega arith

pub no_faults : (part : List Event) → part ≡ [] → FaultsEnd part
no_faults part none before after call why real is = absurd (none_inside before after (Fault call why) (sym none ∙ is))

module _ {T : Type 0} (b : BuildSeen) (listens : Bool) (patience : Option ℕ) (turns : ℕ) (output : List ℕ) (look : Look) (part : List Event) (result : Result T ErrorSeen) (h : Creates b listens patience turns output result look part) where
  abbrev its_course : Course
  its_course = course_alone patience turns h.0

  abbrev its_stages : List Stage
  its_stages = creation_stages b.config b.env h.1.0 look h.1.1 output

  partly_created : Partly (terms_for b listens its_course) its_stages part its_course.before its_course.after
  partly_created = ended_partly (terms_for b listens its_course) (creation_error b.config b.env look output) its_stages part result its_course.before its_course.after h.1.2.1

  pub creates_settled : NothingRuns part
  creates_settled = partly_settled (terms_for b listens its_course) its_stages part its_course.before its_course.after partly_created

  pub creates_faults : FaultsEnd part
  creates_faults before after call why real is = fault_ends (terms_for b listens its_course) its_stages part its_course.before its_course.after before after call why real is partly_created
