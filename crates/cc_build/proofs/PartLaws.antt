-- How the parts of a run behind its opening, one after another, make up the whole of them.
use Rattle.std.proofs.Common.{◌≡◌, ℕ, List, [], ◌++◌, Bool, false, Option, None, is_some, Result, Ok, Err, refl, sym, ◌∙◌, subst}
use Rattle.cc_host.specs.Part.{since}
use Rattle.cc_host.specs.Question.{Look}
use Rattle.cc_host.specs.declared.event.Event.{Event}
use Rattle.cc_flags.specs.Given.{first_of}
use Rattle.cc_plan.specs.Plan.{archive_refusal}
use Rattle.cc_plan.specs.Refusal.{link_refusal}
use Rattle.cc_run.specs.declared.planned.Planned.{Planned}
use Rattle.cc_build.specs.Course.{course}
use Rattle.cc_build.specs.Error.{ErrorSeen}
use Rattle.cc_build.specs.Phases.{error_in, LibraryEnds, LinkEnds, PartsEnd}
use Rattle.cc_build.specs.Stage.{asked_then, beside, link_stages, later_stages}
use Rattle.cc_build.specs.Way.{all_firsts, way_of, writing_of}
use Rattle.cc_build.specs.Went.{Terms, Means, terms, Went, Halted, Ends}
use Rattle.cc_build.specs.declared.task.Task.{Task}
use Rattle.cc_build.proofs.Going.{halted_more}
use Rattle.cc_build.proofs.PhaseLaws.{library_halted, links_end}

module _ (task : Task) (look : Look) (cmds : List Planned) (total patience : Option ℕ) where
  abbrev shown : Terms
  shown = terms task.reporting.shows total patience

  abbrev behind : Option ErrorSeen
  behind = first_of (error_in task (archive_refusal task.set.now task.env.now look)) (error_in task (link_refusal task.set.now task.env.now look))

  -- the run ended among the commands
  pub commands_stopped : (part : List Event) (e : ErrorSeen) (x z : Means) → Halted shown None (beside cmds) part e x z → PartsEnd {T = Unit {0}} task cmds (Err e) look part (course total patience x z)
  commands_stopped part e x z h = λ found hears. (
    writing_of false [],
    all_firsts,
    ((λ _. refl), halted_more shown behind (beside cmds) (later_stages task.set.now task.env.now (way_of found (writing_of false []) all_firsts) look task.output.now) part e x z h),
  )

  module _ (old mid : List Event) (x y : Means) (first : mid ≡ old ++ since old mid) (ran : Went shown (beside cmds) (since old mid) x y) where
    -- it ended at the library
    pub library_stopped : (total' patience' : Option ℕ) (new : List Event) (e : ErrorSeen) (z : Means) → total' ≡ total → patience' ≡ patience → new ≡ mid ++ since mid new → LibraryEnds {T = Unit {0}} task (Err e) look (since mid new) (course total' patience' y z) → PartsEnd {T = Unit {0}} task cmds (Err e) look (since old new) (course total patience x z)
    library_stopped total' patience' new e z same_total patient last l = λ found hears.
        let at : LibraryEnds {T = Unit {0}} task (Err e) look (since mid new) (course total patience y z) =
        subst (λ (n : Option ℕ). LibraryEnds {T = Unit {0}} task (Err e) look (since mid new) (course n patience y z)) same_total
        (subst (λ (n : Option ℕ). LibraryEnds {T = Unit {0}} task (Err e) look (since mid new) (course total' n y z)) patient l) in
        (at.0, all_firsts, ((λ _. refl), library_halted shown task look cmds found at.0 old mid new e x y z first last ran at.1))

    -- all was done up to the link lines, which ended so
    pub links_ended : {T : Type 0} (t' p' t'' p'' : Option ℕ) (made new : List Event) (u : Unit {0}) (r : Result T ErrorSeen) (z end : Means) → t' ≡ total → p' ≡ patience → t'' ≡ t' → p'' ≡ p' → made ≡ mid ++ since mid made → new ≡ made ++ since made new → LibraryEnds task (Ok u) look (since mid made) (course t' p' y z) → LinkEnds task r look (since made new) (course t'' p'' z end) → PartsEnd task cmds r look (since old new) (course total patience x end)
    links_ended t' p' t'' p'' made new u r z end a b a' b' next last l k = λ found hears.
        let library : LibraryEnds task (Ok u) look (since mid made) (course total patience y z) =
        subst (λ (n : Option ℕ). LibraryEnds task (Ok u) look (since mid made) (course n patience y z)) a
        (subst (λ (n : Option ℕ). LibraryEnds task (Ok u) look (since mid made) (course t' n y z)) b l) in
        let links : LinkEnds task r look (since made new) (course total patience z end) =
        subst (λ (n : Option ℕ). LinkEnds task r look (since made new) (course n patience z end)) (a' ∙ a)
        (subst (λ (n : Option ℕ). LinkEnds task r look (since made new) (course t'' n z end)) (b' ∙ b) k) in
        let refusal = link_refusal task.set.now task.env.now look in
        let printed : Ends shown (error_in task refusal) (asked_then refusal (link_stages task.set.now task.env.now (is_some found.here) look links.0 task.output.now)) (since made new) r z end =
        subst (λ (listens : Bool). Ends shown (error_in task refusal) (asked_then refusal (link_stages task.set.now task.env.now listens look links.0 task.output.now)) (since made new) r z end) (sym hears) links.1.1 in
        (library.0, links.0, (links.1.0, links_end shown task look cmds found library.0 links.0 old mid made new r x y z end first next last ran library.1.0 library.1.1 printed))
