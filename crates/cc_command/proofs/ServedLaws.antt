-- What the program answers to a job, between the listing of the variables and the line of its error.
use Rattle.std.proofs.Common.{◌≡◌, inl, inr, ◌∙◌, refl, sym, ap, subst, ℕ, List, [], ◌∷◌, ◌++◌, Bool, true, Option, Some, None, Result, Ok, Err, append-nil, append_assoc}
use Rattle.cc_host.specs.Bench.{BenchSeen}
use Rattle.cc_host.specs.Question.{Look, Agrees, answers}
use Rattle.cc_host.specs.declared.event.Event.{Event}
use Rattle.cc_host.specs.declared.event.Event.TheVariants.{Listed}
use Rattle.cc_host.specs.declared.question.Outcome.{Outcome}
use Rattle.cc_host.specs.declared.question.Question.{Question}
use Rattle.cc_flags.specs.Given.{probe_folder}
use Rattle.cc_plan.specs.Questions.{RunAsks}
use Rattle.cc_tool.specs.Asked.{question_events}
use Rattle.cc_tool.proofs.Asides.{asked_around, asked_none, none_then}
use Rattle.cc_build.specs.Build.{BuildSeen, AsksByRun}
use Rattle.cc_build.specs.Captured.{with_vars, Captures, CaptureEnds}
use Rattle.cc_build.specs.Course.{Course}
use Rattle.cc_build.specs.Error.{ErrorSeen, no_memory}
use Rattle.cc_build.specs.Promises.{IsBuilt, Promises}
use Rattle.cc_build.specs.Stage.Stage.{Calls}
use Rattle.cc_build.specs.Went.{Means, Halted}
use Rattle.cc_build.proofs.Going.{halted_none}
use Rattle.cc_build.proofs.Looks.{agrees_parts}
use Rattle.cc_host.specs.Part.Step.{Lists}
use Rattle.cc_command.specs.Answer.{Answers, AnswersError, AnswersRecord, Findings, env_in, terms_in, error_of, stages_of, told, ended_wanting}
use Rattle.cc_command.specs.Answered.{Answered}
use Rattle.cc_command.specs.Archived.{Archiving, Says}
use Rattle.cc_command.specs.Asks.{AsksFor}
use Rattle.cc_command.specs.Call.{Call, Counts, KeepsSeat, means_of, course_of}
use Rattle.cc_command.specs.Jobs.{CompileJob, JobEnds}
use Rattle.cc_command.specs.Read.{Request, Wish, wish_of}
use Rattle.cc_command.specs.Read.Wish.{Compiles, Records, Archives, Generates, Expands, Shows, Fleets}
use Rattle.cc_command.specs.Recording.{IsRecord}
use Rattle.cc_command.specs.Summary.{Generating}
use Rattle.cc_command.specs.declared.ended.Ended.{Ended}
use Rattle.cc_command.specs.declared.words.BadWord.{BadWord}
use Rattle.cc_command.specs.declared.words.Job.{Job}
use Rattle.cc_command.specs.declared.words.Job.TheVariants.{Compile, Archive, Generate, Expand, Show}
use Rattle.cc_command.proofs.AnswerLaws.{answers_built, answers_refused, halted_listed, uncaptured}
use Rattle.cc_command.proofs.ArchivedLaws.{archived_so, unlisted}
use Rattle.cc_command.proofs.ExpandedLaws.{expanded_so, unlisted as unexpanded}
use Rattle.cc_command.proofs.RecordingLaws.{recorded_done, recorded_refused, unlisted_record}
use Rattle.cc_command.proofs.ShownLaws.{shown_so, unshown}

-- ---- the variables were not listed, or memory was wanted before that

-- nothing was done, for want of memory
pub nothing_listed : CaptureEnds [] (Err no_memory)
nothing_listed = inl (λ t x. halted_none t None (Calls Lists ∷ []) [] no_memory x refl refl (λ empty. absurd (cc)))

module _ (c : Call) (front line : List Event) (e : ErrorSeen) (ended : Ended) (cut : c.part ≡ front ++ line) (cause : CaptureEnds front (Err e)) (says : AnswersError e line ended) (kept : KeepsSeat c) (quiet : question_events front ≡ []) (still : question_events line ≡ []) where
  none_asked : question_events c.part ≡ []
  none_asked = ap question_events cut ∙ none_then front line quiet still

  same_means : means_of c.turns c.after ≡ means_of c.turns c.before
  same_means = ap (means_of c.turns) kept

  abbrev k : Course
  k = course_of c c.turns

  asked_none_of : (q : Request) → AsksFor c.steady c.world q c.part
  asked_none_of q = asked_none c.steady c.world (probe_folder q.1.config (env_in q c.part)) (RunAsks q.1.config (env_in q c.part)) c.part none_asked

  answers_unlisted : (q : Request) (look : Look) → Answers c.listens look q c.part ended k
  answers_unlisted q look =
      answers_refused c.listens look q front line c.part e ended k cut
      (subst (λ (y : Means). (finds : Findings c.listens) × Halted (terms_in c.listens q front k) (error_of look q front) (stages_of c.listens look q finds front) front e k.before y) (sym same_means)
      (uncaptured c.listens look q front e (terms_in c.listens q front k) k.before cause)) says

  pub unlisted_answered : (wish : Wish) → Answered c (Ok wish) ended
  unlisted_answered (Compiles q) = (asked_none_of q, record { under = λ look agree. (c.turns, answers_unlisted q look) })
  unlisted_answered (Records path q) = (asked_none_of q, record { under = λ look agree. (c.turns, unlisted_record c.listens look path q front line c.part e ended k cut cause says same_means) })
  unlisted_answered (Archives q) = (kept, unlisted c.listens c.steady c.world c.patience c.turns q front e line c.part ended cut quiet cause says)
  unlisted_answered (Generates count) = (kept, none_asked, inr (record { error = e; front = front; line = line; cut = cut; cause = cause; says = says }))
  unlisted_answered (Expands b) = (kept, unexpanded c.listens c.steady c.world b front line c.part e ended cut quiet cause says)
  unlisted_answered (Shows b) = (kept, unshown c.listens c.steady c.world b front line c.part e ended cut quiet cause says)
  unlisted_answered (Fleets ms) = inr (kept, none_asked, record { error = e; front = front; line = line; cut = cut; cause = cause; says = says })

-- words that were not read for want of memory
pub unread_answered : (c : Call) (words : Result Wish BadWord) (ended : Ended) → c.part ≡ [] → KeepsSeat c → ended ≡ ended_wanting → Answered c words ended
unread_answered c (Ok wish) ended none kept is = unlisted_answered c [] [] no_memory ended none nothing_listed (inr (is, refl)) kept refl refl wish
unread_answered c (Err bad) ended none kept is = (kept, inr (is, none))

-- ---- they were listed, and a job was done

-- an end without a host of its own
told_same : (ended : Ended) → ended.bench ≡ None → told ended ≡ ended
told_same ended none = ap (λ (b : Option BenchSeen). record ended { bench = b }) (sym none)

module _ (listens steady : Bool) (world : Question → Outcome) (p q total : Option ℕ) (same : p ≡ q) (turns : ℕ) (x y : Counts) (before after : BuildSeen) (front run line part : List Event) (k : Captures before after front) (cut : part ≡ (front ++ run) ++ line) (still : question_events line ≡ []) (repeats : before.config.repeat_lines ≡ true) (ended : Ended) where
  -- the call of the job, and that of the program
  abbrev inner : Call
  inner = record { listens = listens; patience = p; steady = steady; world = world; total = total; turns = turns; before = x; after = y; part = run }

  abbrev outer : Call
  outer = record { listens = listens; patience = q; steady = steady; world = world; total = total; turns = turns; before = x; after = y; part = part }

  none_front : question_events front ≡ []
  none_front = ap question_events k.listed

  agreed : (look : Look) → Agrees look (answers part) → Agrees look (answers run)
  agreed look agree = (agrees_parts look front run (agrees_parts look (front ++ run) line (subst (λ (l : List Event). Agrees look (answers l)) cut agree)).0).1

  -- its questions are those of its build with the variables that were listed
  asks_of : (name : List ℕ) → AsksByRun steady world after run → AsksFor steady world (name, before) part
  asks_of name h =
      let taken : AsksByRun steady world (record before { env = with_vars before.env k.vars }) run = subst (λ (b : BuildSeen). AsksByRun steady world b run) k.is h in
      let whole : part ≡ (Listed k.vars ∷ []) ++ (run ++ line) = cut ∙ append_assoc front run line ∙ ap (λ l. l ++ (run ++ line)) k.listed in
      subst (λ (l : List Event). AsksFor steady world (name, before) l) (sym whole)
      (asked_around steady world (probe_folder before.config (with_vars before.env k.vars)) (RunAsks before.config (with_vars before.env k.vars)) (Listed k.vars ∷ []) run line refl still taken)

  compiled : (name : List ℕ) (look : Look) (left : ℕ) (r : Result (Unit {0}) ErrorSeen) → IsBuilt after listens name r look run (course_of inner left) → Promises after listens name r look run (course_of inner left) → Says r line ended → Answers listens look (name, before) part ended (course_of outer left)
  compiled name look left (Ok done) built promises says =
      let whole : part ≡ front ++ run = cut ∙ ap (λ l. (front ++ run) ++ l) says.1 ∙ append-nil (front ++ run) in
      answers_built listens look name before after front run part whole k total p q same (means_of turns x) (means_of left y) repeats ended says.0 built promises
  compiled name look left (Err e) built promises says =
      answers_refused listens look (name, before) (front ++ run) line part e ended (course_of outer left) cut
      (halted_listed listens look name before after front run (front ++ run) refl k total p q same (means_of turns x) (means_of left y) repeats e promises) says

  recorded : (path name : List ℕ) (look : Look) (left : ℕ) (r : Result (Unit {0}) ErrorSeen) → IsRecord listens name path after r look run (course_of inner left) → Says r line ended → AnswersRecord listens look path (name, before) part ended (course_of outer left)
  recorded path name look left (Ok done) h says =
      let whole : part ≡ front ++ run = cut ∙ ap (λ l. (front ++ run) ++ l) says.1 ∙ append-nil (front ++ run) in
      recorded_done listens look path name before after front k total p q same (means_of turns x) (means_of left y) repeats part run ended whole h says.0
  recorded path name look left (Err e) h says =
      recorded_refused listens look path name before after front k total p q same (means_of turns x) (means_of left y) repeats part run line e ended cut h says

  by_database : (database : Option (List ℕ)) (name : List ℕ) (r : Result (Unit {0}) ErrorSeen) → AsksByRun steady world after run → CompileJob inner database name after r → Says r line ended → Answered outer (Ok (wish_of (Compile name) database before)) ended
  by_database None name r asks h says = (
    asks_of name asks,
    record {
      under = λ look agree.
          let b = h.0.under look (agreed look agree) in
          let o = h.1.under look (agreed look agree) in
          (o.0, compiled name look o.0 r b.1 o.1 says);
    },
  )
  by_database (Some path) name r asks h says = (
    asks_of name asks,
    record {
      under = λ look agree. let o = h.under look (agreed look agree) in (o.0, recorded path name look o.0 r o.1 says);
    },
  )

  -- the line of its error is said of an end without a host
  says_so : (bench : Option BenchSeen) (r : Result (Unit {0}) ErrorSeen) → bench ≡ None → ended.bench ≡ bench → Says r line (told ended) → Says r line ended
  says_so bench r none back says = subst (λ (d : Ended). Says r line d) (told_same ended (back ∙ none)) says

  pub served : (job : Job) (database : Option (List ℕ)) (r : Result (Unit {0}) ErrorSeen) (bench : Option BenchSeen) → JobEnds inner job database after r bench → ended.bench ≡ bench → Says r line (told ended) → Answered outer (Ok (wish_of job database before)) ended
  served (Compile name) database r bench h back says = by_database database name r h.1 h.2 (says_so bench r h.0 back says)
  served (Archive name) database r bench h back says =
      let so : Archiving listens steady world after q turns name run r = subst (λ (v : Option ℕ). Archiving listens steady world after v turns name run r) same h.2 in
      (h.1, archived_so listens steady world q turns name before after front run k r line part ended cut so (says_so bench r h.0 back says))
  served (Generate count) database r bench h back says = (
    h.1,
    ap question_events cut ∙ none_then (front ++ run) line (none_then front run none_front h.0) still,
    inl (record {
      vars = k.vars;
      shown = run;
      line = line;
      cut = cut ∙ ap (λ l. (l ++ run) ++ line) k.listed;
      result = r;
      generating = subst (λ (b : Option BenchSeen). Generating count turns run r b) (sym back) h.2;
      says = says;
    }),
  )
  served Expand database r bench h back says = (h.1, expanded_so listens steady world before after front run k r line ended part cut h.2 (says_so bench r h.0 back says))
  served Show database r bench h back says = (h.1, shown_so listens steady world before after front run k r line ended part cut h.2 (says_so bench r h.0 back says))
