-- A compile run that is recorded: what its part is cut into, and what follows from that.
use Rattle.std.proofs.Common.{◌≡◌, ◌⊎◌, inl, inr, ℕ, List, [], ◌∷◌, ◌++◌, None, Err, refl, sym, ◌∙◌, ap, subst, append_assoc, append-nil, Bool}
use Rattle.std.specs.Prelude.{◌≢◌}
use Rattle.cc_host.specs.Part.{Refuses}
use Rattle.cc_host.specs.Part.Step.{Lists, Finds, Writes}
use Rattle.cc_host.specs.Question.{Look}
use Rattle.cc_host.specs.declared.event.Event.{Event}
use Rattle.cc_host.specs.declared.event.Event.TheVariants.{Listed, Here, Wrote, Printed, Fault}
use Rattle.cc_host.specs.declared.event.HostCall.TheVariants.{CurrentDir, Write, Print}
use Rattle.cc_host.specs.declared.event.LineKind.TheVariants.{Fault as FaultLine}
use Rattle.cc_build.specs.Captured.{CaptureEnds}
use Rattle.cc_build.specs.Course.{Course}
use Rattle.cc_build.specs.Error.{ErrorSeen}
use Rattle.cc_build.specs.Promises.{NothingRuns}
use Rattle.cc_build.specs.Stage.{Stage, planned_stages}
use Rattle.cc_build.specs.Stage.Stage.{Calls}
use Rattle.cc_build.specs.Went.{Terms, Means, Went, Partly}
use Rattle.cc_build.proofs.OrderLaws.{went_partly, halted_partly}
use Rattle.cc_command.specs.Answer.{Answers, AnswersError, AnswersRecord, Behind, Recorded, Unbegun, Untold, PrintsLine, database_in, ended_well, env_in, error_line, repeating, terms_in, told}
use Rattle.cc_command.specs.Database.{Faults}
use Rattle.cc_command.specs.Promises.{EndsWith, FaultsLast, IsLine, PrintsLast}
use Rattle.cc_command.specs.Read.{Request}
use Rattle.cc_command.specs.declared.ended.Ended.{Ended}
use Rattle.cc_command.proofs.PromiseLaws.{begun_of, line_of, request_last, stages_last}
use Rattle.cc_command.proofs.SettledPromises.{stages_settled}

-- ---- the line of an error is last

said_line : (e : ErrorSeen) (line : List Event) (ended : Ended) → AnswersError e line ended → IsLine line
said_line e line ended (inl printed) = line_of (error_line e) line printed.2
said_line e line ended (inr wanting) = inl wanting.1

said_last : (part front line : List Event) (e : ErrorSeen) (ended : Ended) → part ≡ front ++ line → AnswersError e line ended → PrintsLast part ended
said_last part front line e ended cut (inl printed) = inr (inl (e, (ap told printed.0, record { before = front; end = line; cut = cut; printed = printed.2 })))
said_last part front line e ended cut (inr wanting) = inr (inr (inr (ap told wanting.0)))

-- the line of a part that begins with a listing is its last, with the folder behind the listing too
ends_told : (line : List ℕ) (vars : List (List ℕ × List ℕ)) (here : List ℕ) (run : List Event) → EndsWith line (Listed vars ∷ run) → EndsWith line (Listed vars ∷ Here here ∷ run)
ends_told line vars here run w = by_front w.before w.end w.cut w.printed
  where
    by_front : (before end : List Event) → Listed vars ∷ run ≡ before ++ end → PrintsLine line end → EndsWith line (Listed vars ∷ Here here ∷ run)
    by_front [] end cut (inl printed) = let clash : Listed vars ∷ run ≡ Printed FaultLine line ∷ [] = cut ∙ printed in absurd (cc)
    by_front [] end cut (inr faulted) = let clash : Listed vars ∷ run ≡ Fault Print faulted.0 ∷ [] = cut ∙ faulted.1 in absurd (cc)
    by_front (b ∷ before) end cut printed = record { before = b ∷ Here here ∷ before; end = end; cut = cc; printed = printed }

last_told : (vars : List (List ℕ × List ℕ)) (here : List ℕ) (run : List Event) (ended : Ended) → PrintsLast (Listed vars ∷ run) ended → PrintsLast (Listed vars ∷ Here here ∷ run) ended
last_told vars here run ended (inl well) = inl well
last_told vars here run ended (inr (inl error)) = inr (inl (error.0, (error.1.0, ends_told (error_line error.0) vars here run error.1.1)))
last_told vars here run ended (inr (inr (inl word))) = inr (inr (inl (word.0, (word.1.0, ends_told _ vars here run word.1.1))))
last_told vars here run ended (inr (inr (inr wanting))) = inr (inr (inr wanting))

pub record_last : (listens : Bool) (look : Look) (path : List ℕ) (q : Request) (part : List Event) (ended : Ended) (c : Course) → AnswersRecord listens look path q part ended c → PrintsLast part ended
record_last listens look path q part ended c (inl u) = said_last part u.front u.line u.error ended u.cut u.says
record_last listens look path q part ended c (inr r) = by_rest r.behind
  where
    by_rest : Behind path (database_in look q r.vars r.here) r.ran r.rest ended → PrintsLast part ended
    by_rest (inl (well, inl written)) = inl (ap told written.0)
    by_rest (inl (well, inr u)) =
        said_last part (Listed r.vars ∷ Here r.here ∷ (r.run ++ u.front)) u.line u.error ended
        (r.cut ∙ ap (λ l. Listed r.vars ∷ Here r.here ∷ (r.run ++ l)) u.cut ∙ ap (λ l. Listed r.vars ∷ Here r.here ∷ l) (sym (append_assoc r.run u.front u.line))) u.says
    by_rest (inr refused) =
        let all : part ≡ Listed r.vars ∷ Here r.here ∷ r.run = r.cut ∙ ap (λ l. Listed r.vars ∷ Here r.here ∷ (r.run ++ l)) refused.1 ∙ ap (λ l. Listed r.vars ∷ Here r.here ∷ l) (append-nil r.run) in
        let last : PrintsLast (Listed r.vars ∷ r.run) ended = subst (λ (x : Ended). PrintsLast (Listed r.vars ∷ r.run) x) (sym refused.0) (request_last listens look q (Listed r.vars ∷ r.run) r.ran c r.answer) in
        subst (λ (p : List Event). PrintsLast p ended) (sym all) (last_told r.vars r.here r.run ended last)

-- ---- the stages of such a run

-- some stages were begun, with a line behind them
record Gone (part : List Event) (c : Course) : Type 0 where
  t : Terms
  stages : List Stage
  run : List Event
  line : List Event
  cut : part ≡ run ++ line
  partly : Partly t stages run c.before c.after
  printed : IsLine line

partly_behind : (t : Terms) (a b : List Stage) (p q : List Event) (x y z : Means) → Went t a p x y → Partly t b q y z → Partly t (a ++ b) (p ++ q) x z
partly_behind t [] b p q x y z w k = subst (λ (l : List Event). Partly t b (l ++ q) x z) (sym w.0) (subst (λ (m : Means). Partly t b q m z) w.1 k)
partly_behind t (s ∷ a) b p q x y z w k = inr (inr (w.0, w.1 ++ q, w.2, (ap (λ l. l ++ q) w.3.0 ∙ append_assoc w.0 w.1 q, w.3.1, partly_behind t a b w.1 q w.2 y z w.3.2 k)))

-- the host couldn't tell its folder
folder_partly : (t : Terms) (rest : List Event) (e : ErrorSeen) (x : Means) → Faults CurrentDir [] rest e → Partly t (Calls (Finds []) ∷ []) rest x x
folder_partly t rest e x (inl wanting) = inl (wanting.1, refl)
folder_partly t rest e x (inr fault) = inr (inl (e, (Fault CurrentDir fault.0, (fault.1.0, refl, fault.1.1, refl))))

-- it couldn't write the file
file_partly : (t : Terms) (path bytes : List ℕ) (rest : List Event) (e : ErrorSeen) (x : Means) → Faults Write path rest e → Partly t (Calls (Writes path bytes) ∷ []) rest x x
file_partly t path bytes rest e x (inl wanting) = inl (wanting.1, refl)
file_partly t path bytes rest e x (inr fault) = inr (inl (e, (Fault Write fault.0, (fault.1.0, refl, fault.1.1, refl))))

listed_partly : (t : Terms) (vars : List (List ℕ × List ℕ)) (stages : List Stage) (rest : List Event) (x z : Means) → Partly t stages rest x z → Partly t (Calls Lists ∷ stages) (Listed vars ∷ rest) x z
listed_partly t vars stages rest x z p = inr (inr (Listed vars ∷ [], rest, x, (refl, (Listed vars, (refl, refl, refl)), p)))

told_partly : (t : Terms) (here : List ℕ) (stages : List Stage) (rest : List Event) (x z : Means) → Partly t stages rest x z → Partly t (Calls (Finds here) ∷ stages) (Here here ∷ rest) x z
told_partly t here stages rest x z p = inr (inr (Here here ∷ [], rest, x, (refl, (Here here, (refl, refl, refl)), p)))

captured_partly : (t : Terms) (front : List Event) (e : ErrorSeen) (x : Means) → CaptureEnds front (Err e) → Partly t (Calls Lists ∷ []) front x x
captured_partly t front e x (inl h) = halted_partly t None (Calls Lists ∷ []) front e x x (h t x)
captured_partly t front e x (inr w) = went_partly t (Calls Lists ∷ []) front x x (w.1 t x).1

untold_partly : (t : Terms) (front : List Event) (e : ErrorSeen) (x : Means) → Untold front e → Partly t (Calls Lists ∷ Calls (Finds []) ∷ []) front x x
untold_partly t front e x u = subst (λ (l : List Event). Partly t (Calls Lists ∷ Calls (Finds []) ∷ []) l x x) (sym u.2.0) (listed_partly t u.0 (Calls (Finds []) ∷ []) u.1 x x (folder_partly t u.1 e x u.2.1))

-- a part that was begun with a listing goes on behind it
pub behind_listing : (t : Terms) (vars : List (List ℕ × List ℕ)) (stages : List Stage) (run front line : List Event) (x z : Means) → Listed vars ∷ run ≡ front ++ line → IsLine line → Partly t (Calls Lists ∷ stages) front x z → (more : List Event) × ((run ≡ more ++ line) × Partly t stages more x z)
behind_listing t vars stages run front line x z cut (inl none) (inl p) = let clash : Listed vars ∷ run ≡ [] = cut ∙ ap (λ l. l ++ line) p.0 ∙ none in absurd (cc)
behind_listing t vars stages run front line x z cut (inr (inl printed)) (inl p) = let clash : Listed vars ∷ run ≡ Printed FaultLine printed.0 ∷ [] = cut ∙ ap (λ l. l ++ line) p.0 ∙ printed.1 in absurd (cc)
behind_listing t vars stages run front line x z cut (inr (inr faulted)) (inl p) = let clash : Listed vars ∷ run ≡ Fault Print faulted.0 ∷ [] = cut ∙ ap (λ l. l ++ line) p.0 ∙ faulted.1 in absurd (cc)
behind_listing t vars stages run front line x z cut printed (inr (inl stop)) =
    let whole : Listed vars ∷ run ≡ stop.1.0 ∷ line = cut ∙ ap (λ l. l ++ line) stop.1.1.0 in
    let same : stop.1.0 ≡ Listed vars = cc in
    absurd (subst (λ (event : Event). Refuses Lists event) same stop.1.1.1)
behind_listing t vars stages run front line x z cut printed (inr (inr d)) =
    let whole : Listed vars ∷ run ≡ d.3.1.0 ∷ (d.1 ++ line) = cut ∙ ap (λ l. l ++ line) (d.3.0 ∙ ap (λ l. l ++ d.1) d.3.1.1.0) in
    (d.1, (cc, subst (λ (m : Means). Partly t stages d.1 m z) d.3.1.1.2 d.3.2))

-- all of it was done, with the folder told behind the listing
told_went : (t : Terms) (vars : List (List ℕ × List ℕ)) (here : List ℕ) (stages : List Stage) (run : List Event) (x z : Means) → Went t (Calls Lists ∷ stages) (Listed vars ∷ run) x z → Went t (Calls Lists ∷ Calls (Finds here) ∷ stages) (Listed vars ∷ Here here ∷ run) x z
told_went t vars here stages run x z w =
    let whole : Listed vars ∷ run ≡ w.3.1.0 ∷ w.1 = w.3.0 ∙ ap (λ l. l ++ w.1) w.3.1.1.0 in
    let same : w.1 ≡ run = cc in
    let rest : Went t stages run x z = subst (λ (l : List Event). Went t stages l x z) same (subst (λ (m : Means). Went t stages w.1 m z) w.3.1.1.2 w.3.2) in
    (Listed vars ∷ [], Here here ∷ run, x, (refl, (Listed vars, (refl, refl, refl)), (Here here ∷ [], run, x, (refl, (Here here, (refl, refl, refl)), rest))))

module _ (listens : Bool) (look : Look) (path : List ℕ) (q : Request) (part : List Event) (ended : Ended) (c : Course) where
  unbegun : Unbegun part ended c → Gone part c
  unbegun u = by_cause u.cause
    where
      made : (stages : List Stage) → Partly (terms_in listens q part c) stages u.front c.before c.before → Gone part c
      made stages p = record {
        t = terms_in listens q part c;
        stages = stages;
        run = u.front;
        line = u.line;
        cut = u.cut;
        partly = subst (λ (m : Means). Partly (terms_in listens q part c) stages u.front c.before m) (sym u.idle) p;
        printed = said_line u.error u.line ended u.says;
      }

      by_cause : CaptureEnds u.front (Err u.error) ⊎ Untold u.front u.error → Gone part c
      by_cause (inl h) = made (Calls Lists ∷ []) (captured_partly (terms_in listens q part c) u.front u.error c.before h)
      by_cause (inr h) = made (Calls Lists ∷ Calls (Finds []) ∷ []) (untold_partly (terms_in listens q part c) u.front u.error c.before h)

  recorded : Recorded listens look path q part ended c → Gone part c
  recorded r = by_rest r.behind
    where
      refused : (ended ≡ r.ran) × (r.rest ≡ []) × (ended ≢ ended_well) → Gone part c
      refused h =
          let b = begun_of listens look q (Listed r.vars ∷ r.run) r.ran c r.answer in
          let t = terms_in listens q b.run c in
          let planned = planned_stages q.1.config (env_in q b.run) (repeating b.finds.here b.finds.writing) look q.0 in
          let more = behind_listing t r.vars planned r.run b.run b.line c.before c.after b.cut b.printed b.partly in
          record {
            t = t;
            stages = Calls Lists ∷ Calls (Finds r.here) ∷ planned;
            run = Listed r.vars ∷ Here r.here ∷ more.0;
            line = b.line;
            cut = r.cut ∙ ap (λ l. Listed r.vars ∷ Here r.here ∷ (r.run ++ l)) h.1 ∙ ap (λ l. Listed r.vars ∷ Here r.here ∷ l) (append-nil r.run ∙ more.1.0);
            partly = listed_partly t r.vars (Calls (Finds r.here) ∷ planned) (Here r.here ∷ more.0) c.before c.after (told_partly t r.here planned more.0 c.before c.after more.1.1);
            printed = b.printed;
          }

      -- behind a run that was done
      after : (stages : List Stage) (front line : List Event) → r.ran ≡ ended_well → r.rest ≡ front ++ line → IsLine line → ((t : Terms) (x : Means) → Partly t stages front x x) → Gone part c
      after stages front line well cut printed p = by_answer r.answer
        where
          by_answer : Answers listens look q (Listed r.vars ∷ r.run) r.ran c → Gone part c
          by_answer (inl a) =
              let t = terms_in listens q (Listed r.vars ∷ r.run) c in
              let planned = planned_stages q.1.config (env_in q (Listed r.vars ∷ r.run)) (repeating a.1.1.0.here a.1.1.0.writing) look q.0 in
              let w : Went t (Calls Lists ∷ planned) (Listed r.vars ∷ r.run) c.before c.after = a.1.1.1 in
              let here : Went t (Calls Lists ∷ Calls (Finds r.here) ∷ planned) (Listed r.vars ∷ Here r.here ∷ r.run) c.before c.after = told_went t r.vars r.here planned r.run c.before c.after w in
              record {
                t = t;
                stages = (Calls Lists ∷ Calls (Finds r.here) ∷ planned) ++ stages;
                run = (Listed r.vars ∷ Here r.here ∷ r.run) ++ front;
                line = line;
                cut = r.cut ∙ ap (λ l. Listed r.vars ∷ Here r.here ∷ (r.run ++ l)) cut ∙ ap (λ l. Listed r.vars ∷ Here r.here ∷ l) (sym (append_assoc r.run front line));
                partly = partly_behind t (Calls Lists ∷ Calls (Finds r.here) ∷ planned) stages (Listed r.vars ∷ Here r.here ∷ r.run) front c.before c.after c.after here (p t c.after);
                printed = printed;
              }
          by_answer (inr (inl a)) =
              let s : r.ran.status ≡ 1 = ap (λ (x : Ended). x.status) a.is in
              let z : r.ran.status ≡ 0 = ap (λ (x : Ended). x.status) well in
              absurd (cc)
          by_answer (inr (inr a)) =
              let s : r.ran.status ≡ 3 = ap (λ (x : Ended). x.status) a.0 in
              let z : r.ran.status ≡ 0 = ap (λ (x : Ended). x.status) well in
              absurd (cc)

      by_rest : Behind path (database_in look q r.vars r.here) r.ran r.rest ended → Gone part c
      by_rest (inl (well, inl written)) =
          after (Calls (Writes path (database_in look q r.vars r.here)) ∷ []) r.rest [] well (sym (append-nil r.rest)) (inl refl)
          (λ t x. inr (inr (r.rest, [], x, (sym (append-nil r.rest), (Wrote path (database_in look q r.vars r.here), (written.1, refl, refl)), (refl, refl)))))
      by_rest (inl (well, inr u)) =
          after (Calls (Writes path (database_in look q r.vars r.here)) ∷ []) u.front u.line well u.cut (said_line u.error u.line ended u.says) (λ t x. file_partly t path (database_in look q r.vars r.here) u.front u.error x u.cause)
      by_rest (inr h) = refused h

  gone : AnswersRecord listens look path q part ended c → Gone part c
  gone (inl u) = unbegun u
  gone (inr r) = recorded r

  pub record_faults : AnswersRecord listens look path q part ended c → FaultsLast part
  record_faults a = let g = gone a in stages_last g.t g.stages part g.run g.line c.before c.after g.cut g.partly g.printed

  pub record_settled : AnswersRecord listens look path q part ended c → NothingRuns part
  record_settled a = let g = gone a in stages_settled g.t g.stages part g.run g.line c.before c.after g.cut g.partly g.printed
