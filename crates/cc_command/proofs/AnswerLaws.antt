-- What the answers of the program say.
use Rattle.std.proofs.Common.{◌≡◌, ◌⊎◌, inl, inr, ℕ, List, [], ◌∷◌, ◌++◌, Bool, true, Option, Some, Result, Ok, Err, refl, sym, ◌∙◌, ap, subst, append-nil}
use Rattle.cc_host.specs.Question.{Look}
use Rattle.cc_host.specs.Part.Step.{Lists}
use Rattle.cc_host.specs.declared.event.Event.{Event}
use Rattle.cc_host.specs.declared.event.Event.TheVariants.{Listed}
use Rattle.cc_build.specs.Build.{BuildSeen}
use Rattle.cc_build.specs.Built.{Built}
use Rattle.cc_build.specs.Captured.{with_vars, Captures, CaptureEnds}
use Rattle.cc_build.specs.Course.{Course, course}
use Rattle.cc_build.specs.Error.{ErrorSeen}
use Rattle.cc_build.specs.Promises.{terms_for, Promises}
use Rattle.cc_build.specs.Refusal.{refusal_error}
use Rattle.cc_build.specs.Stage.{planned_stages}
use Rattle.cc_build.specs.Stage.Stage.{Calls}
use Rattle.cc_build.specs.Went.{Terms, Means, Did, Went, Halted}
use Rattle.cc_build.proofs.Going.{called, halted_among, halted_then, halted_more}
use Rattle.cc_build.proofs.Stages.{planned_open}
use Rattle.cc_command.specs.Answer.{IsHalted, Answers, AnswersError, env_in, terms_in, error_of, repeating, Findings, stages_of, ended_well}
use Rattle.cc_command.proofs.RepeatLaws.{finds_of, unfound, went_same, halted_same}
use Rattle.cc_command.specs.Read.{Request, Wish, refusal_of}
use Rattle.cc_command.specs.declared.ended.Ended.{Ended}
use Rattle.cc_command.specs.declared.words.BadWord.{BadWord}
use Rattle.cc_command.specs.declared.words.ReadError.{ReadError}
use Rattle.cc_command.specs.declared.words.ReadError.TheVariants.{Bad, NoMemory as WantsMemory}

-- a request that was refused, and the line behind it
pub answers_refused : (listens : Bool) (look : Look) (q : Request) (run line part : List Event) (e : ErrorSeen) (ended : Ended) (c : Course) → part ≡ run ++ line → (finds : Findings listens) × Halted (terms_in listens q run c) (error_of look q run) (stages_of listens look q finds run) run e c.before c.after → AnswersError e line ended → Answers listens look q part ended c
answers_refused listens look q run line part e ended c cut refused (inl printed) =
    inr (inl (record { error = e; run = run; line = line; cut = cut; printed = printed.2; finds = refused.0; refused = refused.1; known = printed.1; is = printed.0 }))
answers_refused listens look q run line part e ended c cut refused (inr wanting) =
    let same : part ≡ run = cut ∙ ap (λ l. run ++ l) wanting.1 ∙ append-nil run in
    inr (inr (
      wanting.0,
      (refused.0, subst (λ (p : List Event). IsHalted (terms_in listens q p c) (error_of look q p) (stages_of listens look q refused.0 p) p c.before c.after) (sym same) (e, refused.1)),
    ))

-- the variables were not listed, or memory for their snapshot was wanted
pub uncaptured : (listens : Bool) (look : Look) (q : Request) (run : List Event) (e : ErrorSeen) (t : Terms) (x : Means) → CaptureEnds run (Err e) → (finds : Findings listens) × Halted t (error_of look q run) (stages_of listens look q finds run) run e x x
uncaptured listens look q run e t x (inl h) = (unfound listens, halted_more t (error_of look q run) (Calls Lists ∷ []) (planned_stages q.1.config (env_in q run) (repeating (unfound listens).here (unfound listens).writing) look q.0) run e x x (h t x))
uncaptured listens look q run e t x (inr w) = (
  unfound listens,
  halted_among t (error_of look q run) (Calls Lists ∷ []) (planned_stages q.1.config (env_in q run) (repeating (unfound listens).here (unfound listens).writing) look q.0) run e x x (w.1 t x).1 w.0 (planned_open q.1.config (env_in q run) (repeating (unfound listens).here (unfound listens).writing) look q.0),
)

-- the host listed its variables
listing_done : (t : Terms) (vars : List (List ℕ × List ℕ)) (x : Means) → Did t (Calls Lists) (Listed vars ∷ []) x x
listing_done t vars x = (Listed vars, (refl, refl, refl))

module _ (listens : Bool) (look : Look) (name : List ℕ) (before after : BuildSeen) (front run part : List Event) (cut : part ≡ front ++ run) (k : Captures before after front) (total p q : Option ℕ) (same : p ≡ q) (x y : Means) (repeats : before.config.repeat_lines ≡ true) where
  -- the build with the variables that were listed
  abbrev taken : BuildSeen
  taken = record before { env = with_vars before.env k.vars }

  listed : part ≡ Listed k.vars ∷ run
  listed = cut ∙ ap (λ l. l ++ run) k.listed

  abbrev t : Terms
  t = terms_for taken listens (course total q x y)

  -- the run is that of the listed variables, with the patience that the host had before
  as_taken : {T : Type 0} (r : Result T ErrorSeen) → Promises after listens name r look run (course total p x y) → Promises taken listens name r look run (course total q x y)
  as_taken r h =
      subst (λ (patience : Option ℕ). Promises taken listens name r look run (course total patience x y)) same
      (subst (λ (b : BuildSeen). Promises b listens name r look run (course total p x y)) k.is h)

  built_taken : Built (terms_for after listens (course total p x y)) after.config after.env look name run → Built t taken.config taken.env look name run
  built_taken h =
      subst (λ (patience : Option ℕ). Built (terms_for taken listens (course total patience x y)) taken.config taken.env look name run) same
      (subst (λ (b : BuildSeen). Built (terms_for b listens (course total p x y)) b.config b.env look name run) k.is h)

  -- the library was built
  pub answers_built : (ended : Ended) → ended ≡ ended_well → Built (terms_for after listens (course total p x y)) after.config after.env look name run → Promises {T = Unit {0}} after listens name (Ok tt) look run (course total p x y) → Answers listens look (name, before) part ended (course total q x y)
  answers_built ended is built h =
      let promises = as_taken {T = Unit {0}} (Ok tt) h in
      let way = promises.way in
      let ran : Went t (planned_stages before.config taken.env (repeating way.found.here way.writing) look name) run x y = went_same before.config taken.env way look name t run x y repeats promises.repeats promises.outcome.1 in
      let went : Went t (Calls Lists ∷ planned_stages before.config taken.env (repeating way.found.here way.writing) look name) (Listed k.vars ∷ run) x y = (Listed k.vars ∷ [], run, x, (refl, listing_done t k.vars x, ran)) in
      subst (λ (l : List Event). Answers listens look (name, before) l ended (course total q x y)) (sym listed)
      (inl (is, (record { vars = k.vars; run = run; cut = refl; built = built_taken built }, (finds_of listens way promises.hears, went))))

  -- it was refused behind the listing
  pub halted_listed : (e : ErrorSeen) → Promises {T = Unit {0}} after listens name (Err e) look run (course total p x y) → (finds : Findings listens) × Halted (terms_in listens (name, before) part (course total q x y)) (error_of look (name, before) part) (stages_of listens look (name, before) finds part) part e x y
  halted_listed e h =
      let promises = as_taken {T = Unit {0}} (Err e) h in
      let way = promises.way in
      let refusal = refusal_error before.config taken.env look name in
      let ran : Halted t refusal (planned_stages before.config taken.env (repeating way.found.here way.writing) look name) run e x y = halted_same before.config taken.env way look name t refusal run e x y repeats promises.repeats promises.outcome in (
        finds_of listens way promises.hears,
        subst (λ (l : List Event). Halted (terms_in listens (name, before) l (course total q x y)) (error_of look (name, before) l) (stages_of listens look (name, before) (finds_of listens way promises.hears) l) l e x y) (sym listed)
            (halted_then t refusal (Calls Lists ∷ []) (planned_stages before.config taken.env (repeating way.found.here way.writing) look name) (Listed k.vars ∷ []) run e x x y (called t Lists (Listed k.vars) (Listed k.vars ∷ []) x refl refl) ran),
      )

-- a bad word that was read is the first of the words
pub bad_read : (words : Result Wish BadWord) (e : ReadError) (bad : BadWord) → e ≡ Bad bad → (e ≡ WantsMemory) ⊎ (refusal_of words ≡ Some e) → words ≡ Err bad
bad_read words e bad is (inl wants) = let clash : Bad bad ≡ WantsMemory = sym is ∙ wants in absurd (cc)
bad_read (Ok wish) e bad is (inr refused) = absurd (cc)
bad_read (Err found) e bad is (inr refused) = let same : Some (Bad found) ≡ Some (Bad bad) = refused ∙ ap Some is in let one : found ≡ bad = cc in ap Err one
