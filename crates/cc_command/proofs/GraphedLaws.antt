-- Of a call that runs commands from a file: how its parts come together, and what follows from its answer.
use Rattle.std.proofs.Common.{◌≡◌, ◌⊎◌, inl, inr, ◌<◌, ◌≤◌, ◌+◌, ℕ, zero, suc, List, [], ◌∷◌, ◌++◌, length, map, drop, take, Bool, Option, Some, None, Result, Ok, Err, refl, sym, ◌∙◌, ap, ap₂, subst, add-one, append_assoc, append-nil, take_all, ◌-◌, arith, string_bytes, String}
use Rattle.std.specs.List.{slice_get}
use Rattle.std.specs.Option.{option_map}
use Rattle.cc_env.specs.Snapshot.{snapshot_of}
use Rattle.cc_host.specs.Children.{running}
use Rattle.cc_host.specs.Part.{since}
use Rattle.cc_host.specs.declared.event.Event.{Event}
use Rattle.cc_host.specs.declared.event.Event.TheVariants.{Listed}
use Rattle.cc_host.specs.declared.files.Held.{Held}
use Rattle.cc_host.proofs.Parts.{since_append, since_since}
use Rattle.cc_run.specs.Children.{nothing_kept}
use Rattle.cc_run.specs.Rules.{Rules}
use Rattle.cc_run.specs.Seat.{SeatSeen}
use Rattle.cc_run.specs.State.{State}
use Rattle.cc_run.specs.declared.error.RunError.TheVariants.{NoMemory as RunWantsMemory}
use Rattle.cc_run.specs.declared.planned.Turns.{Turns as TurnsSeen}
use Rattle.cc_run.proofs.Ends.{ran_extends, ran_patient, ran_total, ran_idle}
use Rattle.cc_graph.specs.Read.{Env}
use Rattle.cc_graph.specs.Run.{RanGraph, GraphRun}
use Rattle.cc_graph.specs.declared.ends.NodeEnd.{NodeEnd}
use Rattle.cc_graph.specs.declared.error.GraphError.{GraphError}
use Rattle.cc_graph.specs.declared.error.GraphError.TheVariants.{OutOfRange, Cycle, Run as Stopped, NoMemory}
use Rattle.cc_graph.specs.declared.node.Node.{Node}
use Rattle.cc_build.specs.Course.{Course, CallsEnd, course}
use Rattle.cc_build.specs.Error.{ErrorSeen, no_memory}
use Rattle.cc_build.specs.Stage.{calls}
use Rattle.cc_build.specs.Went.{Terms, Means, terms, means}
use Rattle.cc_build.proofs.ChildLaws.{running_behind}
use Rattle.cc_build.proofs.OrderLaws.{ended_partly}
use Rattle.cc_build.proofs.SettledLaws.{partly_settled}
use Rattle.cc_command.specs.Answer.{AnswersBad, AnswersError, told, error_line}
use Rattle.cc_command.specs.Database.{optional}
use Rattle.cc_command.specs.Failing.{failed_last}
use Rattle.cc_command.specs.Graphed.{Shelf, EndsListed, IsListed, IsUnread, IsNoGraph, failure_error, graph_shows, RanTo, graph_rules, begins, lines_from, end_line, IsFailure, IsTold, Finished, Running, IsUnlisted, Holding, HasRead, Unread, Heard, graph_in, Graphing, Concludes, SaysGraph, Graphed, AnswersGraph, ToldGraph, IfGraph, ungraphed, GraphPromises, PrintsEnd}
use Rattle.cc_command.specs.Lines.{shows}
use Rattle.cc_command.specs.Promises.{PrintsLast, IsLine}
use Rattle.cc_command.specs.declared.ended.Ended.{Ended}
use Rattle.cc_command.specs.declared.graph.Outcome.{Outcome}
use Rattle.cc_command.specs.declared.words.BadWord.{BadWord}
use Rattle.cc_command.proofs.FailingLaws.{failed_since}
use Rattle.cc_command.proofs.GraphLaws.{failure_is}
use Rattle.cc_command.proofs.PromiseLaws.{line_of, line_settled, word_last}
use Rattle.cc_command.proofs.SettledPromises.{word_settled}

-- ---- lines

line_step : (ends : List NodeEnd) (i n : ℕ) → i < length ends → map (end_line n) (optional (slice_get ends i)) ++ lines_from (suc n) (drop (suc i) ends) ≡ lines_from n (drop i ends)
line_step (e ∷ es) zero n l = refl
line_step (e ∷ es) (suc i) n l = line_step es i n (omega arith)
line_step [] i n l = absurd (omega arith)

-- a line more, and those of the rest
pub lines_next : (ends : List NodeEnd) (i : ℕ) → i < length ends → map (end_line i) (optional (slice_get ends i)) ++ lines_from (i + 1) (drop (i + 1) ends) ≡ lines_from i (drop i ends)
lines_next ends i l = rw add-one (line_step ends i i l)

-- ---- a run

unchanged : (log log' : List Event) → log' ≡ log → log' ≡ log ++ since log log'
unchanged log log' e = e ∙ sym (append-nil log) ∙ ap (λ l. log ++ l) (sym (since_append log []) ∙ ap (since log) (append-nil log ∙ sym e))

module _ (count : ℕ) (R : Rules) (total : Option ℕ) (old : State) (log : List Event) (patience : Option ℕ) (seat : SeatSeen) (turns : TurnsSeen) where
  pub graph_extends : (result : Result (List NodeEnd) GraphError) → RanGraph count R total old result log patience seat turns → log ≡ old.log ++ since old.log log
  graph_extends (Ok ends) r = ran_extends R total old (Ok r.marks) log patience seat turns r.ran
  graph_extends (Err (Stopped e)) r = ran_extends R total old (Err e) log patience seat turns r
  graph_extends (Err NoMemory) r = ran_extends R total old (Err RunWantsMemory) log patience seat turns r
  graph_extends (Err (OutOfRange node need)) r = unchanged old.log log r.same_log
  graph_extends (Err (Cycle places)) r = unchanged old.log log r.same_log

  pub graph_patient : (result : Result (List NodeEnd) GraphError) → RanGraph count R total old result log patience seat turns → patience ≡ old.patience
  graph_patient (Ok ends) r = ran_patient R total old (Ok r.marks) log patience seat turns r.ran
  graph_patient (Err (Stopped e)) r = ran_patient R total old (Err e) log patience seat turns r
  graph_patient (Err NoMemory) r = ran_patient R total old (Err RunWantsMemory) log patience seat turns r
  graph_patient (Err (OutOfRange node need)) r = r.same_patience
  graph_patient (Err (Cycle places)) r = r.same_patience

  pub graph_total : (result : Result (List NodeEnd) GraphError) → RanGraph count R total old result log patience seat turns → seat.total ≡ old.seat.total
  graph_total (Ok ends) r = ran_total R total old (Ok r.marks) log patience seat turns r.ran
  graph_total (Err (Stopped e)) r = ran_total R total old (Err e) log patience seat turns r
  graph_total (Err NoMemory) r = ran_total R total old (Err RunWantsMemory) log patience seat turns r
  graph_total (Err (OutOfRange node need)) r = ap (λ s. s.total) r.same_seat
  graph_total (Err (Cycle places)) r = ap (λ s. s.total) r.same_seat

  graph_idle : (result : Result (List NodeEnd) GraphError) → old.kept ≡ nothing_kept → RanGraph count R total old result log patience seat turns → running (since old.log log) ≡ []
  graph_idle (Ok ends) fresh r = ran_idle R total old (Ok r.marks) log patience seat turns r.ran fresh
  graph_idle (Err (Stopped e)) fresh r = ran_idle R total old (Err e) log patience seat turns r fresh
  graph_idle (Err NoMemory) fresh r = ran_idle R total old (Err RunWantsMemory) log patience seat turns r fresh
  graph_idle (Err (OutOfRange node need)) fresh r = ap (λ l. running (since old.log l)) r.same_log ∙ ap running (ap (since old.log) (sym (append-nil old.log)) ∙ since_append old.log [])
  graph_idle (Err (Cycle places)) fresh r = ap (λ l. running (since old.log l)) r.same_log ∙ ap running (ap (since old.log) (sym (append-nil old.log)) ∙ since_append old.log [])

-- a seat that holds nothing, of a pool of this total
abbrev pub idle : SeatSeen → Option ℕ → SeatSeen
idle seat total = record { held = 0; total = total; taken = seat.taken; load = seat.load; faults = seat.faults }

same_seat : (seat : SeatSeen) (total : Option ℕ) → seat.held ≡ 0 → seat.total ≡ total → seat ≡ idle seat total
same_seat seat total h t = ap₂ (λ n o. record { held = n; total = o; taken = seat.taken; load = seat.load; faults = seat.faults }) h t

-- the same of seats that hold nothing, of one log that goes on
pub graph_to : (count : ℕ) (R : Rules) (result : Result (List NodeEnd) GraphError) (total patience patience' : Option ℕ) (log log' : List Event) (seat seat' : SeatSeen) (turns turns' : TurnsSeen)
    → seat.held ≡ 0 → seat.total ≡ total → seat'.held ≡ 0
    → RanGraph count R total (record { log = log; patience = patience; kept = nothing_kept; seat = seat; turns = turns }) result log' patience' seat' turns'
    → RanGraph count R total (record { log = log; patience = patience; kept = nothing_kept; seat = idle seat total; turns = turns }) result (log ++ since log log') patience (idle seat' total) turns'
graph_to count R result total patience patience' log log' seat seat' turns turns' held is held' r =
    subst (λ s. RanGraph count R total (record { log = log; patience = patience; kept = nothing_kept; seat = s; turns = turns }) result (log ++ since log log') patience (idle seat' total) turns') (same_seat seat total held is)
    (subst (λ s. RanGraph count R total old result (log ++ since log log') patience s turns') (same_seat seat' total held' (graph_total count R total old log' patience' seat' turns' result r ∙ is))
    (subst (λ p. RanGraph count R total old result (log ++ since log log') p seat' turns') (graph_patient count R total old log' patience' seat' turns' result r)
    (subst (λ l. RanGraph count R total old result l patience' seat' turns') (graph_extends count R total old log' patience' seat' turns' result r) r)))
  where
    old : State
    old = record { log = log; patience = patience; kept = nothing_kept; seat = seat; turns = turns }

-- ---- no child runs

ran_settled : (listens : Bool) (env : Env) (nodes : List Node) (result : Result (List NodeEnd) GraphError) (part : List Event) (c : Course) → RanTo listens env nodes result part c → running part ≡ []
ran_settled listens env nodes result part c r =
    ap running (sym (since_append r.log part)) ∙ graph_idle (length nodes) (graph_rules listens env nodes) c.total (begins r.log c) (r.log ++ part) c.patience _ _ result refl r.run

some_terms : Bool → Env → List Node → Terms
some_terms listens env nodes = terms (graph_rules listens env nodes).shows None None

lines_settled : (t : Terms) (lines : List (List ℕ)) (part : List Event) (r : Result (Unit {0}) ErrorSeen) → CallsEnd (shows lines) part r → running part ≡ []
lines_settled t lines part r ends =
    partly_settled t (calls (shows lines)) part (means 0 0 0 0) (means 0 0 0 0) (ended_partly t None (calls (shows lines)) part r (means 0 0 0 0) (means 0 0 0 0) (ends t (means 0 0 0 0)))

told_settled : (t : Terms) (nodes : List Node) (R : Rules) (ends : List NodeEnd) (run lines : List Event) (result : Result Outcome ErrorSeen) → IsTold nodes R ends run lines result → running lines ≡ []
told_settled t nodes R ends run lines result (inl wanting) = ap running wanting.1
told_settled t nodes R ends run lines result (inr (inl refused)) = lines_settled t (lines_from 0 ends) lines (Err refused.0) refused.1.1
told_settled t nodes R ends run lines result (inr (inr told)) = lines_settled t (lines_from 0 ends) lines (Ok tt) told.1.1

running_settled : (listens : Bool) (path : List ℕ) (env : Env) (nodes : List Node) (result : Result Outcome ErrorSeen) (part : List Event) (c : Course) → Running listens path env nodes result part c → running part ≡ []
running_settled listens path env nodes result part c (inl f) =
    ap running f.cut ∙ running_behind f.run f.lines (ran_settled listens env nodes (Ok f.ends) f.run c f.ran) ∙ told_settled (some_terms listens env nodes) nodes (graph_rules listens env nodes) f.ends f.run f.lines result f.told
running_settled listens path env nodes result part c (inr u) = ran_settled listens env nodes (Err u.why) part c u.ran

graphing_settled : (listens : Bool) (path : List ℕ) (old new : Shelf) (result : Result Outcome ErrorSeen) (part : List Event) (c : Course) → Graphing listens path old new result part c → running part ≡ []
graphing_settled listens path old new result part c (inl u) = by_cause u.why
  where
    by_cause : IsUnlisted part u.error → running part ≡ []
    by_cause (inl (inl wanting)) = ap running wanting.1
    by_cause (inl (inr fault)) = ap running fault.1.0
    by_cause (inr listed) = ap running listed.1.1
graphing_settled listens path old new result part c (inr h) = ap running h.cut ∙ running_behind (Listed h.vars ∷ []) h.rest refl ∙ by_read h.read
  where
    by_held : (held : Held) → Holding listens path (snapshot_of h.vars) held result h.rest c → running h.rest ≡ []
    by_held held (inl n) = ap running n.none
    by_held held (inr ran) = running_settled listens path (snapshot_of h.vars) ran.0 result h.rest c ran.1.1

    by_read : Unread path old new result h.rest c ⊎ HasRead listens path (snapshot_of h.vars) old new result h.rest c → running h.rest ≡ []
    by_read (inl u) = ap running u.nothing.none
    by_read (inr r) = by_held r.held r.holding

says_line : (result : Result Outcome ErrorSeen) (line : List Event) (ended : Ended) → SaysGraph result line ended → IsLine line
says_line (Ok o) line ended s = step o.failure s
  where
    step : (f : Option ErrorSeen) → Concludes o.ends f line ended → IsLine line
    step None k = inl k.1
    step (Some e) (inl printed) = line_of (error_line e) line printed.2
    step (Some e) (inr wanting) = inl wanting.1
says_line (Err e) line ended (inl printed) = line_of (error_line e) line printed.2
says_line (Err e) line ended (inr wanting) = inl wanting.1

-- ---- the line is last

says_last : (result : Result Outcome ErrorSeen) (part run line : List Event) (ended : Ended) → part ≡ run ++ line → SaysGraph result line ended → PrintsLast part (ungraphed ended)
says_last (Ok o) part run line ended cut s = step o.failure s
  where
    step : (f : Option ErrorSeen) → Concludes o.ends f line ended → PrintsLast part (ungraphed ended)
    step None k = inl (ap (λ v. told (ungraphed v)) k.0)
    step (Some e) (inl printed) = inr (inl (e, (ap (λ v. told (ungraphed v)) printed.0, record { before = run; end = line; cut = cut; printed = printed.2 })))
    step (Some e) (inr wanting) = inr (inr (inr (ap (λ v. told (ungraphed v)) wanting.0)))
says_last (Err e) part run line ended cut (inl printed) = inr (inl (e, (ap (λ v. told (ungraphed v)) printed.0, record { before = run; end = line; cut = cut; printed = printed.2 })))
says_last (Err e) part run line ended cut (inr wanting) = inr (inr (inr (ap (λ v. told (ungraphed v)) wanting.0)))

-- ---- the ends

no_ends : (e : ErrorSeen) (line : List Event) (ended : Ended) (ends : List NodeEnd) → AnswersError e line ended → ended.graph ≡ Some ends → ⊥
no_ends e line ended ends (inl printed) g = let k : ended.graph ≡ None = ap (λ (v : Ended). v.graph) printed.0 in absurd (cc)
no_ends e line ended ends (inr wanting) g = let k : ended.graph ≡ None = ap (λ (v : Ended). v.graph) wanting.0 in absurd (cc)

same_ends : (ends given : List NodeEnd) (failure : Option ErrorSeen) (line : List Event) (ended : Ended) → Concludes given failure line ended → ended.graph ≡ Some ends → given ≡ ends
same_ends ends given None line ended k g = let a : ended.graph ≡ Some given = ap (λ (v : Ended). v.graph) k.0 in cc
same_ends ends given (Some e) line ended (inl printed) g = let a : ended.graph ≡ Some given = ap (λ (v : Ended). v.graph) printed.0 in cc
same_ends ends given (Some e) line ended (inr wanting) g = let a : ended.graph ≡ None = ap (λ (v : Ended). v.graph) wanting.0 in absurd (cc)

module _ (listens : Bool) (path : List ℕ) (old new : Shelf) (ended : Ended) (part : List Event) (c : Course) (ends : List NodeEnd) (g : ended.graph ≡ Some ends) where
  refused_so : (e : ErrorSeen) (line : List Event) (result : Result Outcome ErrorSeen) → result ≡ Err e → SaysGraph result line ended → ⊥
  refused_so e line result is says = no_ends e line ended ends (subst (λ r. SaysGraph r line ended) is says) g

  module _ (d : Graphed listens path old new ended part c) where
    module _ (h : Heard listens path old new d.result d.run c) (r : HasRead listens path (snapshot_of h.vars) old new d.result h.rest c) where
      abbrev R : List Node → Rules
      R nodes = graph_rules listens (snapshot_of h.vars) nodes

      by_told : (nodes : List Node) → graph_in (snapshot_of h.vars) r.held ≡ Some nodes → (f : Finished listens (snapshot_of h.vars) nodes d.result h.rest c) → IsTold nodes (R nodes) f.ends f.run f.lines d.result → ToldGraph listens path old new ends ended part c
      by_told nodes given f (inl wanting) = absurd (refused_so no_memory d.line d.result wanting.0 d.says)
      by_told nodes given f (inr (inl refused)) = absurd (refused_so refused.0 d.line d.result refused.1.0 d.says)
      by_told nodes given f (inr (inr t)) =
          let o = t.0 in
          let says : Concludes o.ends o.failure d.line ended = subst (λ r. SaysGraph r d.line ended) t.1.0 d.says in
          let same : f.ends ≡ ends = sym t.1.2 ∙ same_ends ends o.ends o.failure d.line ended says g in
          record {
            vars = h.vars;
            held = r.held;
            nodes = nodes;
            reads = r.reads;
            are = given;
            run = f.run;
            lines = f.lines;
            line = d.line;
            cut = d.cut ∙ ap (λ l. l ++ d.line) (h.cut ∙ ap (λ l. Listed h.vars ∷ l) f.cut) ∙ ap (λ l. Listed h.vars ∷ l) (append_assoc f.run f.lines d.line);
            ran = subst (λ es. RanTo listens (snapshot_of h.vars) nodes (Ok es) f.run c) same f.ran;
            graph = subst (λ es. GraphRun nodes (R nodes) c.total f.run es) same f.graph;
            shown = subst (λ es. CallsEnd {T = Unit {0}} (shows (lines_from 0 es)) f.lines (Ok tt)) same t.1.1;
            failure = o.failure;
            failed = subst (λ es. IsFailure nodes (R nodes) es f.run o.failure) same t.1.3;
            concludes = subst (λ es. Concludes es o.failure d.line ended) (t.1.2 ∙ same) says;
          }

      by_run : (nodes : List Node) → graph_in (snapshot_of h.vars) r.held ≡ Some nodes → Running listens path (snapshot_of h.vars) nodes d.result h.rest c → ToldGraph listens path old new ends ended part c
      by_run nodes given (inr u) = absurd (refused_so u.error d.line d.result u.is d.says)
      by_run nodes given (inl f) = by_told nodes given f f.told

      by_held : Holding listens path (snapshot_of h.vars) r.held d.result h.rest c → ToldGraph listens path old new ends ended part c
      by_held (inl n) = absurd (refused_so n.error d.line d.result n.is d.says)
      by_held (inr ran) = by_run ran.0 ran.1.0 ran.1.1

    by_read : (h : Heard listens path old new d.result d.run c) → Unread path old new d.result h.rest c ⊎ HasRead listens path (snapshot_of h.vars) old new d.result h.rest c → ToldGraph listens path old new ends ended part c
    by_read h (inl u) = absurd (refused_so u.nothing.error d.line d.result u.nothing.is d.says)
    by_read h (inr r) = by_held h r r.holding

    by_graphing : Graphing listens path old new d.result d.run c → ToldGraph listens path old new ends ended part c
    by_graphing (inl u) = absurd (refused_so u.error d.line d.result u.is d.says)
    by_graphing (inr h) = by_read h h.read

    told_so : ToldGraph listens path old new ends ended part c
    told_so = by_graphing d.graphing

-- ---- all of it

-- what an answer promises
pub graph_promises : (listens : Bool) (words : Result (List ℕ) BadWord) (old new : Shelf) (ended : Ended) (part : List Event) (c : Course) → AnswersGraph listens words old new ended part c → GraphPromises listens words old new ended part c
graph_promises listens (Ok path) old new ended part c d = record {
  answer = d;
  graph = λ ends g. told_so listens path old new ended part c ends g d;
  printed = says_last d.result part d.run d.line ended d.cut d.says;
  settled = ap running d.cut ∙ running_behind d.run d.line (graphing_settled listens path old new d.result d.run c d.graphing) ∙ line_settled d.line (says_line d.result d.line ended d.says);
}
graph_promises listens (Err bad) old new ended part c d = record {
  answer = d;
  graph = tt;
  printed = by_word d.0;
  settled = word_settled bad part ended d.0;
}
  where
    by_word : AnswersBad bad part ended → PrintsLast part (ungraphed ended)
    by_word w = word_last bad part (ungraphed ended) (elim w [
      | inl printed ↦ inl (ap ungraphed printed.0, printed.1)
      | inr wanting ↦ inr (ap ungraphed wanting.0, wanting.1)
    ])

-- ---- parts of a call

-- the failure that is read off the log is that of the run
pub failed_of_run : (old mid : List Event) → EndsListed old → mid ≡ old ++ since old mid → failed_last mid ≡ failed_last (since old mid)
failed_of_run old mid listed e =
    ap failed_last (e ∙ ap (λ l. l ++ since old mid) listed.1.1 ∙ append_assoc listed.0 (Listed listed.1.0 ∷ []) (since old mid)) ∙ failed_since listed.0 listed.1.0 (since old mid)

module _ (listens : Bool) (path : List ℕ) (env : Env) (nodes : List Node) (ends : List NodeEnd) (old mid new : List Event) (c : Course) (first : mid ≡ old ++ since old mid) (last : new ≡ mid ++ since mid new) (ran : RanTo listens env nodes (Ok ends) (since old mid) c) (graph : GraphRun nodes (graph_rules listens env nodes) c.total (since old mid) ends) where
  told_then : (result : Result Outcome ErrorSeen) → IsTold nodes (graph_rules listens env nodes) ends (since old mid) (since mid new) result → Running listens path env nodes result (since old new) c
  told_then result told = inl (record { ends = ends; run = since old mid; lines = since mid new; cut = since_since old mid new first last; ran = ran; graph = graph; told = told })

  -- a line couldn't be printed
  pub unprinted_so : (e : ErrorSeen) → PrintsEnd (lines_from 0 ends) (since mid new) (Err e) → Running listens path env nodes (Err e) (since old new) c
  unprinted_so e (inl wanting) = told_then (Err e) (inl ((let k : e ≡ no_memory = cc in ap Err k), wanting.1))
  unprinted_so e (inr refused) = told_then (Err e) (inr (inl (e, (refl, refused))))

  -- all were printed
  pub printed_so : (failure : Option ErrorSeen) → EndsListed old → failure ≡ option_map failure_error (failed_last mid) → (r : Result (Unit {0}) ErrorSeen) → r ≡ Ok tt → PrintsEnd (lines_from 0 ends) (since mid new) r → Running listens path env nodes (Ok (record { ends = ends; failure = failure })) (since old new) c
  printed_so failure listed is r ok (inl wanting) = absurd (let k : Ok tt ≡ Err no_memory = sym ok ∙ wanting.0 in cc)
  printed_so failure listed is r ok (inr printed) =
      let same : failure ≡ option_map failure_error (failed_last (since old mid)) = is ∙ ap (option_map failure_error) (failed_of_run old mid listed first) in
      let why : IsFailure nodes (graph_rules listens env nodes) ends (since old mid) failure = subst (IsFailure nodes (graph_rules listens env nodes) ends (since old mid)) (sym same) (failure_is nodes (graph_shows listens env) c.total (since old mid) ends graph ran.checked) in
      told_then (Ok (record { ends = ends; failure = failure })) (inr (inr (record { ends = ends; failure = failure }, (refl, subst (CallsEnd {T = Unit {0}} (shows (lines_from 0 ends)) (since mid new)) ok printed, refl, why))))

-- the file was read behind the listing, and its commands were run
pub heard_so : (listens listens' : Bool) (path : List ℕ) (env : Env) (nodes : List Node) (held : Held) (total p p' : Option ℕ) (before after : Means) (old mid new : List Event) (shelf shelf' : Shelf) (result : Result Outcome ErrorSeen)
    → mid ≡ old ++ since old mid → new ≡ mid ++ since mid new → IsListed (since old mid) env → listens' ≡ listens → p' ≡ p
    → shelf'.reads ≡ shelf.reads ++ (path, held) ∷ [] → graph_in env held ≡ Some nodes
    → Running listens' path env nodes result (since mid new) (course total p' before after) → Graphing listens path shelf shelf' result (since old new) (course total p before after)
heard_so listens listens' path env nodes held total p p' before after old mid new shelf shelf' result first last listed ear patient reads are ran =
    let run : Running listens path env nodes result (since mid new) (course total p before after) = subst (λ (b : Bool). Running b path env nodes result (since mid new) (course total p before after)) ear (subst (λ (o : Option ℕ). Running listens' path env nodes result (since mid new) (course total o before after)) patient ran) in
    inr (record {
      vars = listed.0;
      rest = since mid new;
      cut = since_since old mid new first last ∙ ap (λ l. l ++ since mid new) listed.1.0;
      read = inr (subst (λ (e : Env). HasRead listens path e shelf shelf' result (since mid new) (course total p before after)) listed.1.1 (record { held = held; reads = reads; holding = inr (nodes, (are, run)) }));
    })

-- it was read, and has no commands
pub held_so : (listens : Bool) (path : List ℕ) (env : Env) (held : Held) (part : List Event) (shelf shelf' : Shelf) (e : ErrorSeen) (c : Course) → IsListed part env → shelf'.reads ≡ shelf.reads ++ (path, held) ∷ [] → IsNoGraph path env held e → c.after ≡ c.before → Graphing listens path shelf shelf' (Err e) part c
held_so listens path env held part shelf shelf' e c listed reads why idle =
    inr (record {
      vars = listed.0;
      rest = [];
      cut = listed.1.0;
      read = inr (subst (λ (v : Env). HasRead listens path v shelf shelf' (Err e) [] c) listed.1.1 (record { held = held; reads = reads; holding = inl (record { error = e; is = refl; why = why; none = refl; idle = idle }) }));
    })

-- it couldn't be read
pub unread_so : (listens : Bool) (path : List ℕ) (env : Env) (part : List Event) (shelf shelf' : Shelf) (e : ErrorSeen) (c : Course) → IsListed part env → shelf'.reads ≡ shelf.reads → IsUnread path shelf shelf' e → c.after ≡ c.before → Graphing listens path shelf shelf' (Err e) part c
unread_so listens path env part shelf shelf' e c listed reads why idle =
    inr (record { vars = listed.0; rest = []; cut = listed.1.0; read = inl (record { nothing = record { error = e; is = refl; why = why; none = refl; idle = idle }; reads = reads }) })

-- words of which the first asks for a graph, and those behind it
pub graph_words : {Z : Type 0} (words : List (String Z)) (fact : List (List ℕ) → Type 0) → 1 ≤ length words → fact (map string_bytes (take (length words - 1) (drop 1 words))) → IfGraph (map string_bytes words) fact
graph_words [] fact l f = tt
graph_words (word ∷ words) fact l f = λ is.
    let n : length words ≤ length (word ∷ words) - 1 = omega arith in
    subst (λ ws. fact (map string_bytes ws)) (take_all (length (word ∷ words) - 1) words n) f
