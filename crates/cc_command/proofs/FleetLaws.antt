-- What follows from the answer to a fleet: no child runs behind it, what it asks, and which ends are told.
use Rattle.std.proofs.Common.{◌≡◌, ◌⊎◌, inl, inr, ℕ, suc, ◌+◌, ◌<◌, List, [], ◌∷◌, ◌++◌, length, map, flat_map, Bool, false, Option, Some, None, Result, Ok, Err, refl, sym, ◌∙◌, ap, subst, append-nil, append_assoc, arith}
use Rattle.std.specs.List.{Contains}
use Rattle.std.proofs.lemmas.List.Elements.{Contains-append_right}
use Rattle.cc_host.specs.Children.{running}
use Rattle.cc_host.specs.Part.Step.{Lists}
use Rattle.cc_host.specs.Question.{Look, answers}
use Rattle.cc_host.specs.declared.event.Event.{Event}
use Rattle.cc_host.specs.declared.event.Event.TheVariants.{Listed}
use Rattle.cc_host.specs.declared.event.OutputKind.TheVariants.{Discard}
use Rattle.cc_run.specs.Children.{nothing_kept}
use Rattle.cc_run.specs.Outcome.{list_result}
use Rattle.cc_run.specs.declared.error.RunError.{RunError}
use Rattle.cc_run.specs.declared.mark.Mark.{Mark}
use Rattle.cc_run.specs.declared.planned.Planned.{Planned}
use Rattle.cc_run.proofs.PrintingLemmas.{printed_list}
use Rattle.cc_tool.specs.Asked.{question_events}
use Rattle.cc_tool.proofs.Asides.{none_then}
use Rattle.cc_tool.proofs.SomeLemmas.{some_agree}
use Rattle.cc_build.specs.Archiving.{with_objects, creation_error, creation_stages}
use Rattle.cc_build.specs.Build.{BuildSeen, AsksByRun}
use Rattle.cc_build.specs.Captured.{CaptureEnds}
use Rattle.cc_build.specs.Course.{course_alone}
use Rattle.cc_build.specs.Error.{ErrorSeen}
use Rattle.cc_build.specs.Linking.{directive_error, directive_stages}
use Rattle.cc_build.specs.Planning.{planning_error, planning_stages}
use Rattle.cc_build.specs.Promises.{NothingRuns, terms_for}
use Rattle.cc_build.specs.Stage.{Stage}
use Rattle.cc_build.specs.Stage.Stage.{Calls}
use Rattle.cc_build.specs.Way.{Found, Firsts, Writing}
use Rattle.cc_build.specs.Went.{Terms, Means, Partly, RanAll, beside_rules, means, terms}
use Rattle.cc_build.specs.declared.planning.CompilePlan.{CompilePlan}
use Rattle.cc_build.proofs.ChildLaws.{running_behind}
use Rattle.cc_build.proofs.OrderLaws.{ended_partly}
use Rattle.cc_build.proofs.RanLaws.{said_all, said_one}
use Rattle.cc_build.proofs.Running.{own_asks_none}
use Rattle.cc_build.proofs.SettledLaws.{partly_settled}
use Rattle.cc_fleet.specs.Failures.{Failure, failure_of}
use Rattle.cc_fleet.specs.Fleet.{Site, MemberSeen, Fleet, Finished, IsPlanned, PlansEach, PlansUntil, Segment, LinksBehind, EndsBuilt, EndsMember, EndsEach, EndsUntil, EndsTo, fleet_terms, joined, objects_at, owners}
use Rattle.cc_fleet.specs.Run.{RanJoined, RanSeveral}
use Rattle.cc_fleet.specs.declared.members.FleetEnd.{FleetEnd}
use Rattle.cc_fleet.specs.declared.members.FleetEnd.TheVariants.{Built, Refused}
use Rattle.cc_command.specs.Answer.{AnswersError, PrintsLine, error_line, heard}
use Rattle.cc_command.specs.Call.{Call, course_of}
use Rattle.cc_command.specs.FleetRules.{ToldFleet, AreBuilt, IsAllBuilt, site_of}
use Rattle.cc_command.specs.Fleets.{AnswersFleet, AsksOne, AreStretches, AsksInTurn, askers, askers_of, ended_fleet, listed_members, refusals, PrintsEach, SaysFleet}
use Rattle.cc_command.specs.declared.ended.Ended.{Ended}
use Rattle.cc_command.proofs.PromiseLaws.{line_of, line_settled}

-- a fact of each member
abbrev pub Each : (MemberSeen → Type 0) → List MemberSeen → Type 0
Each M [] = Unit {0}
Each M (m ∷ ms) = M m × Each M ms

-- ---- a fact of parts that holds where they are put together

module _ (s : Site) (M : MemberSeen → Type 0) (Q : List Event → Type 0) (none : Q []) (both : (a b : List Event) → Q a → Q b → Q (a ++ b)) (planned : (m : MemberSeen) (answer : Result CompilePlan ErrorSeen) (part : List Event) → M m → IsPlanned s m answer part → Q part) (segment : (m : MemberSeen) (answer : Result (Unit {0}) ErrorSeen) (part : List Event) (given : ℕ) → M m → Segment s m answer part given → Q part) (ran : (t : Terms) (ps : List Planned) (part : List Event) (answer : Result (List Mark) RunError) (x y : Means) → RanJoined t ps part answer x y → Q part) where
  empty : (part : List Event) → part ≡ [] → Q part
  empty part is = subst Q (sym is) none

  parted : (part a b : List Event) → part ≡ a ++ b → Q a → Q b → Q part
  parted part a b cut p q = subst Q (sym cut) (both a b p q)

  pub plans_each : (ms : List MemberSeen) (plans : List CompilePlan) (part : List Event) → Each M ms → PlansEach s ms plans part → Q part
  plans_each [] [] part all h = empty part h
  plans_each [] (p ∷ ps) part all h = absurd h
  plans_each (m ∷ ms) [] part all h = absurd h
  plans_each (m ∷ ms) (p ∷ ps) part all h = parted part h.0 h.1 h.2.0 (planned m (Ok p) h.0 all.0 h.2.1) (plans_each ms ps h.1 all.1 h.2.2)

  pub plans_until : (ms : List MemberSeen) (e : ErrorSeen) (part : List Event) → Each M ms → PlansUntil s ms e part → Q part
  plans_until [] e part all h = empty part h.1
  plans_until (m ∷ ms) e part all (inl h) = empty part h.1
  plans_until (m ∷ ms) e part all (inr (inl h)) = planned m (Err e) part all.0 h
  plans_until (m ∷ ms) e part all (inr (inr h)) = parted part h.1 h.2 h.3.0 (planned m (Ok h.0) h.1 all.0 h.3.1) (plans_until ms e h.2 all.1 h.3.2)

  end_built : (m : MemberSeen) (answer : Result FleetEnd ErrorSeen) (part : List Event) (given left : ℕ) → M m → EndsBuilt s m answer part given left → Q part
  end_built m (Ok Built) part given left is h = segment m (Ok tt) part given is h.0
  end_built m (Ok (Refused e)) part given left is h = segment m (Err e) part given is h.0
  end_built m (Err e) part given left is h = segment m (Err e) part given is h.0

  end_member : (cmds : List Planned) (m : MemberSeen) (failure : Option Failure) (answer : Result FleetEnd ErrorSeen) (part : List Event) (given left : ℕ) → M m → EndsMember s cmds m failure answer part given left → Q part
  end_member cmds m (Some f) answer part given left is h = empty part h.1
  end_member cmds m None answer part given left is h = end_built m answer part given left is h

  ends_each : (cmds : List Planned) (failure : ℕ → Option Failure) (place : ℕ) (ms : List MemberSeen) (ends : List FleetEnd) (part : List Event) (given left : ℕ) → Each M ms → EndsEach s cmds failure place ms ends part given left → Q part
  ends_each cmds failure place [] [] part given left all h = empty part h.0
  ends_each cmds failure place [] (x ∷ xs) part given left all h = absurd h
  ends_each cmds failure place (m ∷ ms) [] part given left all h = absurd h
  ends_each cmds failure place (m ∷ ms) (x ∷ xs) part given left all h = parted part h.0 h.1 h.3.0 (end_member cmds m (failure place) (Ok x) h.0 given h.2 all.0 h.3.1) (ends_each cmds failure (suc place) ms xs h.1 h.2 left all.1 h.3.2)

  ends_until : (cmds : List Planned) (failure : ℕ → Option Failure) (place : ℕ) (ms : List MemberSeen) (e : ErrorSeen) (part : List Event) (given left : ℕ) → Each M ms → EndsUntil s cmds failure place ms e part given left → Q part
  ends_until cmds failure place [] e part given left all h = empty part h.1
  ends_until cmds failure place (m ∷ ms) e part given left all (inl h) = empty part h.1
  ends_until cmds failure place (m ∷ ms) e part given left all (inr (inl h)) = end_member cmds m (failure place) (Err e) part given left all.0 h
  ends_until cmds failure place (m ∷ ms) e part given left all (inr (inr h)) = parted part h.1 h.2 h.4.0 (end_member cmds m (failure place) (Ok h.0) h.1 given h.3 all.0 h.4.1) (ends_until cmds failure (suc place) ms e h.2 h.3 left all.1 h.4.2)

  pub ends_to : (cmds : List Planned) (failure : ℕ → Option Failure) (ms : List MemberSeen) (answer : Result (List FleetEnd) ErrorSeen) (part : List Event) (given left : ℕ) → Each M ms → EndsTo s cmds failure ms answer part given left → Q part
  ends_to cmds failure ms (Ok ends) part given left all h = ends_each cmds failure 0 ms ends part given left all h
  ends_to cmds failure ms (Err e) part given left all h = ends_until cmds failure 0 ms e part given left all h

  finished : (total : Option ℕ) (ms : List MemberSeen) (answer : Result (List FleetEnd) ErrorSeen) (part : List Event) (x y : Means) → Each M ms → Finished s total ms answer part x y → Q part
  finished total ms answer part x y all f =
      parted part f.planning (f.running ++ f.segments) f.cut (plans_each ms f.plans f.planning all f.prepared.planned)
      (both f.running f.segments (ran (fleet_terms s total f.plans) (joined f.plans) f.running (Ok f.marks) x f.mid f.ran)
      (ends_to (joined f.plans) (failure_of (owners f.plans) f.marks) ms answer f.segments f.mid.left y.left all f.ended))

  pub whole : (total : Option ℕ) (ms : List MemberSeen) (answer : Result (List FleetEnd) ErrorSeen) (part : List Event) (x y : Means) → Each M ms → Fleet s total ms answer part x y → Q part
  whole total ms (Ok ends) part x y all f = finished total ms (Ok ends) part x y all f
  whole total ms (Err e) part x y all (inl h) = plans_until ms e part all h.0
  whole total ms (Err e) part x y all (inr (inl h)) = plans_each ms h.plans part all h.planned
  whole total ms (Err e) part x y all (inr (inr (inl h))) = parted part h.planning h.running h.cut (plans_each ms h.plans h.planning all h.prepared.planned) (ran (fleet_terms s total h.plans) (joined h.plans) h.running h.answer x y h.ran)
  whole total ms (Err e) part x y all (inr (inr (inr f))) = finished total ms (Err e) part x y all f

-- ---- plans, libraries and link lines as stages

abbrev pub no_terms : Terms
no_terms = terms (record { warnings = false; debug = false; out = Discard; listens = false; stop = false }) None None

abbrev pub no_means : Means
no_means = means 0 0 0 0

-- the first stages of the plan of a member
pub record IsBegun (m : MemberSeen) (part : List Event) : Type 0 where
  pub look : Look
  pub found : Found
  pub firsts : Firsts
  pub partly : Partly no_terms (planning_stages m.build.config m.build.env found look firsts m.output) part no_means no_means

pub planned_begun : (s : Site) (m : MemberSeen) (answer : Result CompilePlan ErrorSeen) (part : List Event) → IsPlanned s m answer part → IsBegun m part
planned_begun s m answer part p =
    let some = some_agree (answers part) p.asked.once in
    let h = p.ends.under some.0 some.1 in
    record {
      look = some.0;
      found = h.0;
      firsts = h.1;
      partly = ended_partly no_terms (planning_error m.build.config m.build.env some.0 m.output) (planning_stages m.build.config m.build.env h.0 some.0 h.1 m.output) part answer no_means no_means (h.2.3 no_terms no_means);
    }

-- the first stages of its library
pub record IsMade (b : BuildSeen) (output : List ℕ) (part : List Event) : Type 0 where
  pub look : Look
  pub writing : Writing
  pub firsts : Firsts
  pub t : Terms
  pub x : Means
  pub y : Means
  pub partly : Partly t (creation_stages b.config b.env writing look firsts output) part x y

pub segment_made : (s : Site) (m : MemberSeen) (answer : Result (Unit {0}) ErrorSeen) (part : List Event) (given : ℕ) (g : Segment s m answer part given) → IsMade (with_objects m.build (objects_at m)) m.output g.made
segment_made s m answer part given g =
    let b : BuildSeen = with_objects m.build (objects_at m) in
    let some = some_agree (answers g.made) g.made_asks.once in
    let h = g.creates.under some.0 some.1 in
    let c = course_alone s.patience given h.0 in
    let t = terms_for b g.listens c in
    record {
      look = some.0;
      writing = h.1.0;
      firsts = h.1.1;
      t = t;
      x = c.before;
      y = c.after;
      partly = ended_partly t (creation_error b.config b.env some.0 m.output) (creation_stages b.config b.env h.1.0 some.0 h.1.1 m.output) g.made g.written c.before c.after h.1.2.1;
    }

-- the first stages of its link lines, if they were begun
pub record IsLinked (m : MemberSeen) (library : List ℕ) (part : List Event) : Type 0 where
  pub look : Look
  pub listens : Bool
  pub firsts : Firsts
  pub partly : Partly no_terms (directive_stages m.build.config m.build.env listens look firsts library) part no_means no_means

pub links_begun : (s : Site) (listens : Bool) (m : MemberSeen) (written : Result (List ℕ) ErrorSeen) (answer : Result (Unit {0}) ErrorSeen) (part : List Event) → LinksBehind s listens m written answer part → (part ≡ []) ⊎ ((library : List ℕ) × IsLinked m library part)
links_begun s listens m (Err e) answer part l = inl l.1
links_begun s listens m (Ok library) answer part l =
    let some = some_agree (answers part) l.0.once in
    let h = l.1.under some.0 some.1 in
    inr (
      library,
      record {
        look = some.0;
        listens = listens;
        firsts = h.0;
        partly = ended_partly no_terms (directive_error m.build.config m.build.env some.0 library) (directive_stages m.build.config m.build.env listens some.0 h.0 library) part answer no_means no_means (h.1.1 no_terms no_means);
      },
    )

-- several commands were run as a list, whose answer is by its marks
pub as_list : (t : Terms) (ps : List Planned) (part : List Event) (answer : Result (List Mark) RunError) (x y : Means) → RanSeveral t ps part answer x y → RanAll t ps part (list_result answer) x y
as_list t ps part answer x y r = record {
  log = r.log;
  before = r.before;
  behind = r.behind;
  least = r.least;
  run = record { general = answer; answer = refl; ran = r.run };
  lines = printed_list (beside_rules t ps) nothing_kept answer part r.lines;
}

-- ---- no child runs

abbrev Settled : List Event → Type 0
Settled part = running part ≡ []

settled_both : (a b : List Event) → Settled a → Settled b → Settled (a ++ b)
settled_both a b p q = running_behind a b p ∙ q

abbrev any : MemberSeen → Type 0
any m = Unit {0}

each_any : (ms : List MemberSeen) → Each any ms
each_any [] = tt
each_any (m ∷ ms) = (tt, each_any ms)

planned_settled : (s : Site) (m : MemberSeen) (answer : Result CompilePlan ErrorSeen) (part : List Event) → any m → IsPlanned s m answer part → Settled part
planned_settled s m answer part is p =
    let b = planned_begun s m answer part p in
    partly_settled no_terms (planning_stages m.build.config m.build.env b.found b.look b.firsts m.output) part no_means no_means b.partly

links_settled : (m : MemberSeen) (part : List Event) → (part ≡ []) ⊎ ((library : List ℕ) × IsLinked m library part) → Settled part
links_settled m part (inl none) = ap running none
links_settled m part (inr l) = partly_settled no_terms (directive_stages m.build.config m.build.env l.1.listens l.1.look l.1.firsts l.0) part no_means no_means l.1.partly

segment_settled : (s : Site) (m : MemberSeen) (answer : Result (Unit {0}) ErrorSeen) (part : List Event) (given : ℕ) → any m → Segment s m answer part given → Settled part
segment_settled s m answer part given is g =
    let b : BuildSeen = with_objects m.build (objects_at m) in
    let k = segment_made s m answer part given g in
    ap running g.cut
    ∙ settled_both g.made g.linked (partly_settled k.t (creation_stages b.config b.env k.writing k.look k.firsts m.output) g.made k.x k.y k.partly)
    (links_settled m g.linked (links_begun s g.listens m g.written answer g.linked g.links))

ran_settled : (t : Terms) (ps : List Planned) (part : List Event) (answer : Result (List Mark) RunError) (x y : Means) → RanJoined t ps part answer x y → Settled part
ran_settled t [] part answer x y h = ap running h.0
ran_settled t (p ∷ []) part answer x y h = (said_one t p part h.0 x y h.1.0).idle
ran_settled t (p ∷ q ∷ ps) part answer x y h = (said_all t (p ∷ q ∷ ps) part (list_result answer) x y (as_list t (p ∷ q ∷ ps) part answer x y h)).idle

each_settled : (es : List ErrorSeen) (part : List Event) → PrintsEach es part → Settled part
each_settled [] part h = ap running h
each_settled (e ∷ es) part h = ap running h.2.0 ∙ settled_both h.0 h.1 (line_settled h.0 (line_of (error_line e) h.0 h.2.1)) (each_settled es h.1 h.2.2)

error_settled : (e : ErrorSeen) (line : List Event) (ended : Ended) → AnswersError e line ended → Settled line
error_settled e line ended (inl printed) = line_settled line (line_of (error_line e) line printed.2)
error_settled e line ended (inr wanting) = ap running wanting.1

says_settled : (result : Result (List FleetEnd) ErrorSeen) (lines : List Event) (ended : Ended) → SaysFleet result lines ended → Settled lines
says_settled (Ok ends) lines ended (inl told) = each_settled (refusals ends) lines told.1
says_settled (Ok ends) lines ended (inr wanting) = each_settled wanting.1.0 lines wanting.1.2.1
says_settled (Err e) lines ended says = error_settled e lines ended says

listing_settled : (front : List Event) (e : ErrorSeen) → CaptureEnds front (Err e) → Settled front
listing_settled front e (inl k) = partly_settled no_terms (Calls Lists ∷ []) front no_means no_means (ended_partly {T = Unit {0}} no_terms None (Calls Lists ∷ []) front (Err e) no_means no_means (k no_terms no_means))
listing_settled front e (inr k) = partly_settled no_terms (Calls Lists ∷ []) front no_means no_means (ended_partly {T = Unit {0}} no_terms None (Calls Lists ∷ []) front (Ok tt) no_means no_means (k.1 no_terms no_means))

pub fleet_settled : (c : Call) (ms : List MemberSeen) (ended : Ended) → AnswersFleet c ms ended → NothingRuns c.part
fleet_settled c ms ended (inl r) =
    let members = listed_members r.vars ms in
    let k = course_of c r.left in
    let run : Settled r.run = whole (site_of c) any Settled refl settled_both (planned_settled (site_of c)) (segment_settled (site_of c)) ran_settled c.total members r.result r.run k.before k.after (each_any members) r.fleet in
    ap running r.cut ∙ settled_both (Listed r.vars ∷ []) (r.run ++ r.lines) refl (settled_both r.run r.lines run (says_settled r.result r.lines ended r.says))
fleet_settled c ms ended (inr u) = ap running u.2.cut ∙ settled_both u.2.front u.2.line (listing_settled u.2.front u.2.error u.2.cause) (error_settled u.2.error u.2.line ended u.2.says)

-- ---- questions

module _ (s : Site) (builds : List BuildSeen) where
  abbrev Asks : List Event → Type 0
  Asks = AsksOne s.steady s.world builds

  abbrev Asking : List Event → Type 0
  Asking = AsksInTurn s.steady s.world builds

  stretches_then : (ss ts : List (List Event)) (a b : List Event) → AreStretches Asks ss a → AreStretches Asks ts b → AreStretches Asks (ss ++ ts) (a ++ b)
  stretches_then [] ts a b p q = subst (λ l. AreStretches Asks ts (l ++ b)) (sym p) q
  stretches_then (x ∷ ss) ts a b p q = (p.0 ++ b, (ap (λ l. l ++ b) p.1.0 ∙ append_assoc x p.0 b, p.1.1, stretches_then ss ts p.0 b p.1.2 q))

  asking_both : (a b : List Event) → Asking a → Asking b → Asking (a ++ b)
  asking_both a b p q = (p.0 ++ q.0, stretches_then p.0 q.0 a b p.1 q.1)

  asking_one : (part : List Event) → Asks part → Asking part
  asking_one part asks = (part ∷ [], ([], (sym (append-nil part), asks, refl)))

  asking_none : (part : List Event) → question_events part ≡ [] → Asking part
  asking_none part none = asking_one part (inl none)

  -- both builds of a member are among those that ask
  abbrev Asker : MemberSeen → Type 0
  Asker m = Contains builds m.build × Contains builds (with_objects m.build (objects_at m))

  planned_asks : (m : MemberSeen) (answer : Result CompilePlan ErrorSeen) (part : List Event) → Asker m → IsPlanned s m answer part → Asking part
  planned_asks m answer part is p = asking_one part (inr (m.build, (is.0, p.asked)))

  links_ask : (listens : Bool) (m : MemberSeen) (written : Result (List ℕ) ErrorSeen) (answer : Result (Unit {0}) ErrorSeen) (part : List Event) → Asker m → LinksBehind s listens m written answer part → Asking part
  links_ask listens m (Err e) answer part is l = asking_none part (ap question_events l.1)
  links_ask listens m (Ok library) answer part is l = asking_one part (inr (m.build, (is.0, l.0)))

  segment_asks : (m : MemberSeen) (answer : Result (Unit {0}) ErrorSeen) (part : List Event) (given : ℕ) → Asker m → Segment s m answer part given → Asking part
  segment_asks m answer part given is g =
      subst Asking (sym g.cut) (asking_both g.made g.linked (asking_one g.made (inr (with_objects m.build (objects_at m), (is.1, g.made_asks)))) (links_ask g.listens m g.written answer g.linked is g.links))

  ran_asks : (t : Terms) (ps : List Planned) (part : List Event) (answer : Result (List Mark) RunError) (x y : Means) → RanJoined t ps part answer x y → Asking part
  ran_asks t [] part answer x y h = asking_none part (ap question_events h.0)
  ran_asks t (p ∷ []) part answer x y h = asking_none part (own_asks_none part (said_one t p part h.0 x y h.1.0).own)
  ran_asks t (p ∷ q ∷ ps) part answer x y h = asking_none part (own_asks_none part (said_all t (p ∷ q ∷ ps) part (list_result answer) x y (as_list t (p ∷ q ∷ ps) part answer x y h)).own)

  fleet_asking : (total : Option ℕ) (ms : List MemberSeen) (answer : Result (List FleetEnd) ErrorSeen) (part : List Event) (x y : Means) → Each Asker ms → Fleet s total ms answer part x y → Asking part
  fleet_asking total ms answer part x y all f = whole s Asker Asking ([], refl) asking_both planned_asks segment_asks ran_asks total ms answer part x y all f

-- they are, of members behind others
behind_askers : (more builds : List BuildSeen) (s : Site) (ms : List MemberSeen) → Each (Asker s builds) ms → Each (Asker s (more ++ builds)) ms
behind_askers more builds s [] all = tt
behind_askers more builds s (m ∷ ms) all =
    ((Contains-append_right more builds m.build all.0.0, Contains-append_right more builds (with_objects m.build (objects_at m)) all.0.1), behind_askers more builds s ms all.1)

each_asker : (s : Site) (ms : List MemberSeen) → Each (Asker s (askers ms)) ms
each_asker s [] = tt
each_asker s (m ∷ ms) = (((0, omega arith, refl), (1, omega arith, refl)), behind_askers (askers_of m) (askers ms) s ms (each_asker s ms))

line_asks : (line : List ℕ) (part : List Event) → PrintsLine line part → question_events part ≡ []
line_asks line part (inl printed) = ap question_events printed
line_asks line part (inr faulted) = ap question_events faulted.1

lines_ask : (es : List ErrorSeen) (part : List Event) → PrintsEach es part → question_events part ≡ []
lines_ask [] part h = ap question_events h
lines_ask (e ∷ es) part h = ap question_events h.2.0 ∙ none_then h.0 h.1 (line_asks (error_line e) h.0 h.2.1) (lines_ask es h.1 h.2.2)

says_ask : (result : Result (List FleetEnd) ErrorSeen) (lines : List Event) (ended : Ended) → SaysFleet result lines ended → question_events lines ≡ []
says_ask (Ok ends) lines ended (inl told) = lines_ask (refusals ends) lines told.1
says_ask (Ok ends) lines ended (inr wanting) = lines_ask wanting.1.0 lines wanting.1.2.1
says_ask (Err e) lines ended (inl printed) = line_asks (error_line e) lines printed.2
says_ask (Err e) lines ended (inr wanting) = ap question_events wanting.1

pub fleet_asks : (c : Call) (ms : List MemberSeen) (ended : Ended) → AnswersFleet c ms ended → AsksInTurn c.steady c.world (askers (listed_members (heard c.part) ms)) c.part
fleet_asks c ms ended (inl r) =
    let s = site_of c in
    let members = listed_members r.vars ms in
    let builds = askers members in
    let k = course_of c r.left in
    let run : Asking s builds r.run = fleet_asking s builds c.total members r.result r.run k.before k.after (each_asker s members) r.fleet in
    let lines : Asking s builds r.lines = asking_none s builds r.lines (says_ask r.result r.lines ended r.says) in
    let all : Asking s builds (Listed r.vars ∷ (r.run ++ r.lines)) =
    asking_both s builds (Listed r.vars ∷ []) (r.run ++ r.lines) (asking_none s builds (Listed r.vars ∷ []) refl) (asking_both s builds r.run r.lines run lines) in
    subst (λ l. AsksInTurn c.steady c.world (askers (listed_members (heard l) ms)) l) (sym r.cut) all
fleet_asks c ms ended (inr u) = asking_none (site_of c) (askers (listed_members (heard c.part) ms)) c.part u.1

-- ---- the ends

none_refused : (ends : List FleetEnd) → refusals ends ≡ [] → AreBuilt ends
none_refused [] none = tt
none_refused (Built ∷ ends) none = none_refused ends none
none_refused (Refused e ∷ ends) none = absurd (cc)

fleet_of : (ends : List FleetEnd) (es : List ErrorSeen) → (ended_fleet ends es).fleet ≡ Some ends
fleet_of ends [] = refl
fleet_of ends (e ∷ es) = refl

well_of : (ends : List FleetEnd) (es : List ErrorSeen) → (ended_fleet ends es).status ≡ 0 → es ≡ []
well_of ends [] zero_is = refl
well_of ends (e ∷ es) zero_is = absurd (cc)

not_well : (e : ErrorSeen) (line : List Event) (ended : Ended) → AnswersError e line ended → ended.status ≡ 0 → ⊥
not_well e line ended (inl printed) zero_is = let s : ended.status ≡ 1 = ap (λ (v : Ended). v.status) printed.0 in absurd (cc)
not_well e line ended (inr wanting) zero_is = let s : ended.status ≡ 3 = ap (λ (v : Ended). v.status) wanting.0 in absurd (cc)

no_fleet : (e : ErrorSeen) (line : List Event) (ended : Ended) (ends : List FleetEnd) → AnswersError e line ended → ended.fleet ≡ Some ends → ⊥
no_fleet e line ended ends (inl printed) is = let n : ended.fleet ≡ None = ap (λ (v : Ended). v.fleet) printed.0 in absurd (cc)
no_fleet e line ended ends (inr wanting) is = let n : ended.fleet ≡ None = ap (λ (v : Ended). v.fleet) wanting.0 in absurd (cc)

-- status 0: all are built
says_built : (result : Result (List FleetEnd) ErrorSeen) (lines : List Event) (ended : Ended) → SaysFleet result lines ended → ended.status ≡ 0 → IsAllBuilt ended
says_built (Ok ends) lines ended (inl told) zero_is =
    let status : (ended_fleet ends (refusals ends)).status ≡ 0 = ap (λ (v : Ended). v.status) (sym told.0) ∙ zero_is in
    (ends, (ap (λ (v : Ended). v.fleet) told.0 ∙ fleet_of ends (refusals ends), none_refused ends (well_of ends (refusals ends) status)))
says_built (Ok ends) lines ended (inr wanting) zero_is = let s : ended.status ≡ 3 = ap (λ (v : Ended). v.status) wanting.0 in absurd (cc)
says_built (Err e) lines ended says zero_is = absurd (not_well e lines ended says zero_is)

pub fleet_built : (c : Call) (ms : List MemberSeen) (ended : Ended) → AnswersFleet c ms ended → ended.status ≡ 0 → IsAllBuilt ended
fleet_built c ms ended (inl r) zero_is = says_built r.result r.lines ended r.says zero_is
fleet_built c ms ended (inr u) zero_is = absurd (not_well u.2.error u.2.line ended u.2.says zero_is)

-- the ends that are told are those that the fleet came to
told_ends : (result : Result (List FleetEnd) ErrorSeen) (lines : List Event) (ended : Ended) (ends : List FleetEnd) → SaysFleet result lines ended → ended.fleet ≡ Some ends → result ≡ Ok ends
told_ends (Ok these) lines ended ends (inl told) is = let same : ended.fleet ≡ Some these = ap (λ (v : Ended). v.fleet) told.0 ∙ fleet_of these (refusals these) in cc
told_ends (Ok these) lines ended ends (inr wanting) is = let n : ended.fleet ≡ None = ap (λ (v : Ended). v.fleet) wanting.0 in absurd (cc)
told_ends (Err e) lines ended ends says is = absurd (no_fleet e lines ended ends says is)

pub fleet_told : (c : Call) (ms : List MemberSeen) (ended : Ended) → AnswersFleet c ms ended → (ends : List FleetEnd) → ended.fleet ≡ Some ends → ToldFleet c ms ends ended
fleet_told c ms ended (inl r) ends is =
    let same : r.result ≡ Ok ends = told_ends r.result r.lines ended ends r.says is in
    let k = course_of c r.left in
    record {
      vars = r.vars;
      run = r.run;
      lines = r.lines;
      cut = r.cut;
      left = r.left;
      finished = subst (λ (a : Result (List FleetEnd) ErrorSeen). Fleet (site_of c) c.total (listed_members r.vars ms) a r.run k.before k.after) same r.fleet;
      told = subst (λ (a : Result (List FleetEnd) ErrorSeen). SaysFleet a r.lines ended) same r.says;
    }
fleet_told c ms ended (inr u) ends is = absurd (no_fleet u.2.error u.2.line ended ends u.2.says is)
