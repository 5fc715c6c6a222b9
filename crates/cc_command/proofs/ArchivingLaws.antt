-- How an archive and its link lines make up one list of stages.
use Rattle.cc_build.specs.Way.{Firsts, all_firsts}
use Rattle.cc_plan.specs.Quiet.{quiet_warnings}
use Rattle.cc_plan.specs.Reruns.{rerun_names}
use Rattle.std.proofs.Common.{◌≡◌, ◌⊎◌, inl, inr, ℕ, List, [], ◌∷◌, ◌++◌, Bool, true, if◌then◌else◌, is_some, Option, Some, None, option_map, Result, Ok, Err, refl, sym, ◌∙◌, ap, subst, append_assoc, append-nil}
use Rattle.cc_host.specs.Question.{Look, Holds, answers}
use Rattle.cc_host.specs.declared.event.Event.{Event}
use Rattle.cc_host.specs.declared.question.Outcome.{Outcome}
use Rattle.cc_host.specs.declared.question.Question.{Question}
use Rattle.cc_plan.specs.Plan.{archive_refusal}
use Rattle.cc_plan.specs.Refusal.{path_refusal, link_refusal}
use Rattle.cc_flags.specs.Given.{first_of}
use Rattle.cc_plan.specs.declared.error.PlanError.{PlanError}
use Rattle.cc_build.specs.Archiving.{archive_reads, unarchived_error, creation_stages, Creates}
use Rattle.cc_build.specs.Build.{BuildSeen, AsksByRun}
use Rattle.cc_build.specs.Course.{course_alone}
use Rattle.cc_build.specs.Error.{ErrorSeen, no_memory}
use Rattle.cc_build.specs.Linking.{DirectivesEnd, directive_stages, linked_name, link_reads}
use Rattle.cc_build.specs.Promises.{terms_for}
use Rattle.cc_build.specs.Refusal.{plan_error, archive_error}
use Rattle.cc_build.specs.Stage.{Stage, asked_then, library_stages, links_of, name_stages, printed_stages}
use Rattle.cc_build.specs.Stage.Stage.{Asks}
use Rattle.cc_build.specs.Went.{Terms, Means, Went, Halts, Halted, Ends}
use Rattle.cc_build.proofs.Going.{went_one, halted_more, halted_among, halted_end, ends_then}
use Rattle.cc_command.specs.Archived.{alone, library_at, Archiving}

-- ---- a run without stages

no_front : {X : Type 0} (a b : List X) → [] ≡ a ++ b → a ≡ []
no_front [] b h = refl
no_front (x ∷ a) b h = absurd (cc)

no_rest : {X : Type 0} (a b : List X) → [] ≡ a ++ b → b ≡ []
no_rest [] b h = sym h
no_rest (x ∷ a) b h = absurd (cc)

module _ (t : Terms) (refusal : Option ErrorSeen) (e : ErrorSeen) where
  unbegun : (stages : List Stage) (part : List Event) (x z : Means) → stages ≡ [] → Halts t refusal stages part e x z → ((e ≡ no_memory) ⊎ (refusal ≡ Some e)) × (part ≡ []) × (z ≡ x)
  unbegun [] part x z none h = (h.0, h.1, h.2)
  unbegun (s ∷ stages) part x z none h = absurd (cc)

  unmoved : (stages : List Stage) (part : List Event) (x z : Means) → stages ≡ [] → Went t stages part x z → (part ≡ []) × (z ≡ x)
  unmoved [] part x z none w = w
  unmoved (s ∷ stages) part x z none w = absurd (cc)

  -- it ended before it began
  halted_empty : (part : List Event) (x z : Means) → Halted t refusal [] part e x z → ((e ≡ no_memory) ⊎ (refusal ≡ Some e)) × (part ≡ []) × (z ≡ x)
  halted_empty part x z h =
      let w = unmoved h.before h.front x h.y (no_front h.before h.after h.stages_are) h.went in
      let k = unbegun h.after h.rest h.y z (no_rest h.before h.after h.stages_are) h.halts in
      (k.0, h.cut ∙ ap (λ l. l ++ h.rest) w.0 ∙ k.1, k.2 ∙ w.1)

-- ---- an archive, and its link lines

module _ (t : Terms) (early : Option ErrorSeen) (f g : PlanError → ErrorSeen) (library names lines : List Stage) where
  -- the stages of the archive, which ends with the lines of its variables
  abbrev archived : Option PlanError → List Stage
  archived ar = if is_some early then [] else asked_then ar (library ++ Asks ∷ names)

  -- those of both, where these are the refusals of the archive, of the path and of the link lines
  abbrev wholly : Option PlanError → Option PlanError → Option PlanError → List Stage
  wholly ar path link = if is_some early then [] else asked_then ar (library ++ Asks ∷ (names ++ asked_then (first_of path link) lines))

  abbrev refused_by : Option PlanError → Option PlanError → Option PlanError → Option ErrorSeen
  refused_by ar path link = first_of early (first_of (option_map f ar) (first_of (option_map g path) (option_map g link)))

-- an archive that ended ended the whole
pub halted_made : (t : Terms) (early : Option ErrorSeen) (f g : PlanError → ErrorSeen) (library names lines : List Stage) (ar path link : Option PlanError) (part : List Event) (e : ErrorSeen) (x z : Means) → Halted t (first_of early (option_map f ar)) (archived t early f g library names lines ar) part e x z → Halted t (refused_by t early f g library names lines ar path link) (wholly t early f g library names lines ar path link) part e x z
halted_made t (Some error) f g library names lines ar path link part e x z h = h
halted_made t None f g library names lines (Some error) path link part e x z h = h
halted_made t None f g library names lines None path link part e x z h =
    let rest : List Stage = asked_then (first_of path link) lines in
    let refusal = first_of (option_map g path) (option_map g link) in
    subst (λ (stages : List Stage). Halted t refusal (Asks ∷ stages) part e x z) (append_assoc library (Asks ∷ names) rest) (halted_more t refusal (Asks ∷ (library ++ Asks ∷ names)) rest part e x z h)

-- the link lines ended so, whatever their path
directed : {T : Type 0} (t : Terms) (g : PlanError → ErrorSeen) (lines : List Stage) (path link : Option PlanError) (part : List Event) (r : Result T ErrorSeen) (x z : Means) → Ends t (first_of (option_map g path) (option_map g link)) (if is_some path then [] else asked_then link lines) part r x z → Ends t (first_of (option_map g path) (option_map g link)) (asked_then (first_of path link) lines) part r x z
directed t g lines None link part r x z o = o
directed t g lines (Some error) link part (Ok v) x z o = absurd (let none : Some (g error) ≡ None = o.0 in cc)
directed t g lines (Some error) link part (Err e) x z o =
    let k = halted_empty t (Some (g error)) e part x z o in
    let went : Went t (Asks ∷ []) [] x x = went_one t Asks [] x x (refl, refl) in
    subst (λ (l : List Event). Halted t (Some (g error)) (Asks ∷ []) l e x z) (sym k.1) (subst (λ (y : Means). Halted t (Some (g error)) (Asks ∷ []) [] e x y) (sym k.2) (by_cause k.0 went))
  where
    by_cause : (e ≡ no_memory) ⊎ (Some (g error) ≡ Some e) → Went t (Asks ∷ []) [] x x → Halted t (Some (g error)) (Asks ∷ []) [] e x x
    by_cause (inl memory) w = halted_among t (Some (g error)) (Asks ∷ []) [] [] e x x w memory (λ none. refl)
    by_cause (inr is) w = halted_end t (Some (g error)) (Asks ∷ []) [] e x x w is

-- the archive was made, and the link lines ended so
pub linked_then : {P T : Type 0} (t : Terms) (early : Option ErrorSeen) (f g : PlanError → ErrorSeen) (library names lines : List Stage) (ar path link : Option PlanError) (made linked : List Event) (v : P) (r : Result T ErrorSeen) (x y z : Means) → Ends t (first_of early (option_map f ar)) (archived t early f g library names lines ar) made (Ok v) x y → Ends t (first_of (option_map g path) (option_map g link)) (if is_some path then [] else asked_then link lines) linked r y z → Ends t (refused_by t early f g library names lines ar path link) (wholly t early f g library names lines ar path link) (made ++ linked) r x z
linked_then t (Some error) f g library names lines ar path link made linked v r x y z m o = absurd (let none : Some error ≡ None = m.0 in cc)
linked_then t None f g library names lines (Some error) path link made linked v r x y z m o = absurd (let none : Some (f error) ≡ None = m.0 in cc)
linked_then t None f g library names lines None path link made linked v r x y z m o =
    let rest : List Stage = asked_then (first_of path link) lines in
    let refusal = first_of (option_map g path) (option_map g link) in
    subst (λ (stages : List Stage). Ends t refusal (Asks ∷ stages) (made ++ linked) r x z) (append_assoc library (Asks ∷ names) rest)
    (ends_then t refusal (Asks ∷ (library ++ Asks ∷ names)) rest made linked r x y z m.1 (directed t g lines path link linked r y z o))

-- ---- of a build

module _ (listens : Bool) (steady : Bool) (world : Question → Outcome) (b : BuildSeen) (patience : Option ℕ) (turns : ℕ) (output : List ℕ) where
  abbrev first_error : PlanError → ErrorSeen
  first_error = plan_error (alone b).config (alone b).env output

  abbrev link_error : PlanError → ErrorSeen
  link_error = plan_error b.config b.env (library_at b output)

  abbrev lines_by : Look → List Stage
  lines_by links = printed_stages listens (quiet_warnings b.config b.env links) all_firsts (links_of b.config b.env (linked_name b.config b.env (library_at b output)) (library_at b output) links) (rerun_names link_reads b.config b.env links)

  abbrev names_by : Look → List Stage
  names_by look = name_stages (alone b).config (alone b).env archive_reads look all_firsts

  -- all lines of the variables were printed
  module _ {P : Type 0} (r : Result P ErrorSeen) (repeats : b.config.repeat_lines ≡ true) (look : Look) (part : List Event) (h : Creates (alone b) listens patience turns output r look part) where
    abbrev its_terms : Terms
    its_terms = terms_for (alone b) listens (course_alone patience turns h.0)

    made_so : Ends its_terms (first_of (unarchived_error (alone b).config (alone b).env output) (archive_error (alone b).config (alone b).env look output)) (creation_stages (alone b).config (alone b).env h.1.0 look all_firsts output) part r (course_alone patience turns h.0).before (course_alone patience turns h.0).after
    made_so =
        let all : h.1.1 ≡ all_firsts = h.1.2.0 repeats in
        subst (λ (firsts : Firsts). Ends its_terms (first_of (unarchived_error (alone b).config (alone b).env output) (archive_error (alone b).config (alone b).env look output)) (creation_stages (alone b).config (alone b).env h.1.0 look firsts output) part r (course_alone patience turns h.0).before (course_alone patience turns h.0).after) all h.1.2.1

  -- the archive ended
  pub archive_ended : (part : List Event) (e : ErrorSeen) → b.config.repeat_lines ≡ true → AsksByRun steady world (alone b) part → AsksByRun steady world b [] → Holds (answers part) (λ look. Creates {T = List ℕ} (alone b) listens patience turns output (Err e) look part) → Archiving listens steady world b patience turns output part (Err e)
  archive_ended part e repeats asks none h = record {
    made = part;
    linked = [];
    cut = sym (append-nil part);
    made_asks = asks;
    linked_asks = none;
    ends = λ look links agree.
        let k = h.under look agree.0 in (
          k.0,
          k.1.0,
          halted_made (terms_for (alone b) listens (course_alone patience turns k.0)) (unarchived_error (alone b).config (alone b).env output) first_error link_error (library_stages (alone b).config (alone b).env k.1.0 look output) (names_by look) (lines_by links)
              (archive_refusal (alone b).config (alone b).env look) (path_refusal b.config b.env (library_at b output)) (link_refusal b.config b.env links) part e (course_alone patience turns k.0).before (course_alone patience turns k.0).after (made_so {P = List ℕ} (Err e) repeats look part k),
        );
  }

  -- it was made, and the link lines ended so
  pub directives_ended : {P : Type 0} (path : P) (made linked : List Event) (r : Result (Unit {0}) ErrorSeen) → b.config.repeat_lines ≡ true → AsksByRun steady world (alone b) made → AsksByRun steady world b linked → Holds (answers made) (λ look. Creates (alone b) listens patience turns output (Ok path) look made) → Holds (answers linked) (λ links. DirectivesEnd b listens (library_at b output) r links linked) → Archiving listens steady world b patience turns output (made ++ linked) r
  directives_ended path made linked r repeats made_asks linked_asks h k = record {
    made = made;
    linked = linked;
    cut = refl;
    made_asks = made_asks;
    linked_asks = linked_asks;
    ends = λ look links agree.
        let c = h.under look agree.0 in
        let d = k.under links agree.1 in
        let t = terms_for (alone b) listens (course_alone patience turns c.0) in
        let y = (course_alone patience turns c.0).after in
        let all : d.0 ≡ all_firsts = d.1.0 repeats in (
          c.0,
          c.1.0,
          linked_then t (unarchived_error (alone b).config (alone b).env output) first_error link_error (library_stages (alone b).config (alone b).env c.1.0 look output) (names_by look) (lines_by links)
              (archive_refusal (alone b).config (alone b).env look) (path_refusal b.config b.env (library_at b output)) (link_refusal b.config b.env links) made linked path r (course_alone patience turns c.0).before y y (made_so (Ok path) repeats look made c)
              (subst (λ (firsts : Firsts). Ends t (first_of (option_map link_error (path_refusal b.config b.env (library_at b output))) (option_map link_error (link_refusal b.config b.env links))) (directive_stages b.config b.env listens links firsts (library_at b output)) linked r y y) all (d.1.1 t y)),
        );
  }
