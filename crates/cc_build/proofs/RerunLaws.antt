-- A part of a run, and behind it the lines of the variables that the call read.
use Rattle.std.proofs.Common.{◌≡◌, ℕ, List, [], ◌∷◌, ◌++◌, Bool, Option, Some, None, Result, Ok, Err, refl, sym, ◌∙◌, ap, ap₂, subst, option_map}
use Rattle.cc_env.specs.Env.{EnvSeen}
use Rattle.cc_host.specs.Part.{since}
use Rattle.cc_host.specs.Question.{Look}
use Rattle.cc_host.specs.declared.event.Event.{Event}
use Rattle.cc_host.specs.declared.event.LineKind.TheVariants.{Rerun}
use Rattle.cc_plan.specs.Plan.{archive_refusal, prints}
use Rattle.cc_flags.specs.Given.{first_of}
use Rattle.cc_plan.specs.Reruns.{rerun_names}
use Rattle.cc_plan.specs.declared.error.PlanError.{PlanError}
use Rattle.cc_flags.specs.declared.link_line.LinkLine.{LinkLine}
use Rattle.cc_flags.specs.declared.settings.BuildConfig.{BuildConfig}
use Rattle.cc_flags.specs.declared.variables.Reads.{Reads}
use Rattle.cc_build.specs.Course.{course}
use Rattle.cc_build.specs.Error.{ErrorSeen}
use Rattle.cc_build.specs.Phases.{LibraryEnds, NamesEnd, WrittenEnds}
use Rattle.cc_build.specs.Refusal.{plan_error}
use Rattle.cc_build.specs.Stage.{Stage, calls, commands_in, children_in, asked_then, library_stages, name_stages, printed_stages, rerun_lines}
use Rattle.cc_build.specs.Stage.Stage.{Asks}
use Rattle.cc_build.specs.Way.{Firsts, all_firsts, chosen}
use Rattle.cc_build.specs.Went.{Terms, Means, terms, Went, Halted, Ends}
use Rattle.cc_build.specs.declared.task.Task.{Task}
use Rattle.cc_build.proofs.PhaseLaws.{part_then, part_before}
use Rattle.cc_build.proofs.RunLaws.{commands_calls, children_calls}

-- lines without a link line are those of the variables
pub named_stages : (set : BuildConfig) (env : EnvSeen) (reads : Reads) (look : Look) (listens : Bool) (texts : List (List ℕ)) (firsts : Firsts) (links : List LinkLine) (names : List (List ℕ)) (these : List Stage) → these ≡ printed_stages listens texts firsts links names → texts ≡ [] → links ≡ [] → rerun_names reads set env look ≡ names → these ≡ name_stages set env reads look firsts
unfolding prints
named_stages set env reads look listens texts firsts links names these is silent none are =
    is ∙ ap₂ (λ m l. printed_stages listens m firsts l names) silent none ∙ ap (λ n. calls (prints Rerun (rerun_lines (chosen firsts.names n)))) (sym are)

-- they have no command, and start no child
pub name_commands : (set : BuildConfig) (env : EnvSeen) (reads : Reads) (look : Look) (firsts : Firsts) → commands_in (name_stages set env reads look firsts) ≡ []
name_commands set env reads look firsts = commands_calls (prints Rerun (rerun_lines (chosen firsts.names (rerun_names reads set env look))))

pub name_children : (set : BuildConfig) (env : EnvSeen) (reads : Reads) (look : Look) (firsts : Firsts) → children_in (name_stages set env reads look firsts) ≡ []
name_children set env reads look firsts = children_calls (prints Rerun (rerun_lines (chosen firsts.names (rerun_names reads set env look))))

pub first_alone : {X : Type 0} (a : Option X) → first_of a None ≡ a
first_alone None = refl
first_alone (Some x) = refl

module _ (t : Terms) (f : PlanError → ErrorSeen) (p : Option PlanError) (a names : List Stage) where
  -- the run ended among the stages of the part, or before the questions behind them
  pub told_before : (part : List Event) (e : ErrorSeen) (x z : Means) → Halted t (option_map f p) (asked_then p (a ++ Asks ∷ [])) part e x z → Halted t (option_map f p) (asked_then p (a ++ Asks ∷ names)) part e x z
  told_before part e x z h =
      subst (λ (refusal : Option ErrorSeen). Halted t refusal (asked_then p (a ++ Asks ∷ names)) part e x z) (first_alone (option_map f p)) (part_before t f p None None a names part e x z h)

  -- the part was done, and the lines ended so
  pub told_then : {T : Type 0} (old mid new : List Event) (r : Result T ErrorSeen) (x y z : Means) → mid ≡ old ++ since old mid → new ≡ mid ++ since mid new → p ≡ None → Went t (Asks ∷ a) (since old mid) x y → Ends t None (Asks ∷ names) (since mid new) r y z → Ends t (option_map f p) (asked_then p (a ++ Asks ∷ names)) (since old new) r x z
  told_then old mid new r x y z first last allowed w o =
      subst (λ (refusal : Option ErrorSeen). Ends t refusal (asked_then p (a ++ Asks ∷ names)) (since old new) r x z) (first_alone (option_map f p)) (part_then t f p None a (Asks ∷ names) old mid new r x y z first last allowed w o)

module _ (task : Task) (reads : Reads) (look : Look) where
  abbrev shown : Option ℕ → Option ℕ → Terms
  shown total patience = terms task.reporting.shows total patience

  abbrev error_of : PlanError → ErrorSeen
  error_of = plan_error task.set.now task.env.now task.output.now

  abbrev archive_stop : Option PlanError
  archive_stop = archive_refusal task.set.now task.env.now look

  abbrev names : Firsts → List Stage
  names firsts = name_stages task.set.now task.env.now reads look firsts

  -- the run ended at the library
  pub writing_stopped : (total patience : Option ℕ) (part : List Event) (e : ErrorSeen) (x z : Means) → LibraryEnds {T = Unit {0}} task (Err e) look part (course total patience x z) → WrittenEnds {T = Unit {0}} task reads (Err e) look part (course total patience x z)
  writing_stopped total patience part e x z h =
      (h.0, all_firsts, ((λ _. refl), told_before (shown total patience) error_of archive_stop (library_stages task.set.now task.env.now h.0 look task.output.now) (names all_firsts) part e x z h.1))

  module _ (total patience total' patience' : Option ℕ) (old mid new : List Event) (x y z : Means) (v : Unit {0}) (first : mid ≡ old ++ since old mid) (last : new ≡ mid ++ since mid new) (same_total : total' ≡ total) (patient : patience' ≡ patience) {T : Type 0} (r : Result T ErrorSeen) (lines : NamesEnd task reads r look (since mid new) (course total' patience' y z)) where
    told : NamesEnd task reads r look (since mid new) (course total patience y z)
    told =
        subst (λ (n : Option ℕ). NamesEnd task reads r look (since mid new) (course n patience y z)) same_total
        (subst (λ (n : Option ℕ). NamesEnd task reads r look (since mid new) (course total' n y z)) patient lines)

    -- the library was written, and the lines ended so
    pub writing_told : LibraryEnds task (Ok v) look (since old mid) (course total patience x y) → WrittenEnds task reads r look (since old new) (course total patience x z)
    writing_told h =
        let stages = library_stages task.set.now task.env.now h.0 look task.output.now in
        (h.0, told.0, (told.1.0, told_then (shown total patience) error_of archive_stop stages (names told.0) old mid new r x y z first last h.1.0 h.1.1 told.1.1))
