-- What stands behind a fault in the part of a fleet.
use Rattle.std.proofs.Common.{◌≡◌, ◌⊎◌, inl, inr, ℕ, suc, ◌+◌, List, [], ◌∷◌, ◌++◌, length, map, Bool, true, false, Option, Some, None, Result, Ok, Err, refl, sym, ◌∙◌, ap, subst, append_assoc, append-nil, arith}
use Rattle.std.specs.Prelude.{not}
use Rattle.std.specs.List.{list_all, list_any}
use Rattle.std.proofs.lemmas.Bool.{and_parts}
use Rattle.cc_host.specs.Part.{is_probing}
use Rattle.cc_host.specs.Part.Step.{Lists}
use Rattle.cc_host.specs.Question.{answers, Holds}
use Rattle.cc_host.specs.declared.event.Event.{Event}
use Rattle.cc_host.specs.declared.event.Event.TheVariants.{Listed, Fault, Abandoned}
use Rattle.cc_host.specs.declared.event.HostCall.{HostCall}
use Rattle.cc_host.specs.declared.event.Why.{Why}
use Rattle.cc_run.specs.declared.planned.Planned.{Planned}
use Rattle.cc_tool.proofs.SomeLemmas.{some_agree}
use Rattle.cc_build.specs.Archiving.{Creates, creation_stages, with_objects}
use Rattle.cc_build.specs.Build.{BuildSeen}
use Rattle.cc_build.specs.Captured.{CaptureEnds}
use Rattle.cc_build.specs.Course.{course_alone}
use Rattle.cc_build.specs.Error.{ErrorSeen}
use Rattle.cc_build.specs.Failed.{is_fault}
use Rattle.cc_build.specs.Linking.{directive_stages}
use Rattle.cc_build.specs.Planning.{planning_stages}
use Rattle.cc_build.specs.Promises.{terms_for}
use Rattle.cc_build.specs.Stage.{beside}
use Rattle.cc_build.specs.Stage.Stage.{Calls}
use Rattle.cc_build.proofs.OrderLaws.{ended_partly}
use Rattle.cc_build.proofs.PromiseLaws.{none_inside, fault_ends}
use Rattle.cc_build.proofs.StopLaws.{went_faultless}
use Rattle.cc_fleet.specs.Failures.{Failure, failure_of}
use Rattle.cc_fleet.specs.Fleet.{Site, MemberSeen, Fleet, Finished, IsPlanned, PlansUntil, Segment, LinksBehind, EndsBuilt, EndsMember, EndsEach, EndsUntil, EndsTo, fleet_terms, joined, objects_at, owners}
use Rattle.cc_fleet.specs.declared.members.FleetEnd.{FleetEnd}
use Rattle.cc_fleet.specs.declared.members.FleetEnd.TheVariants.{Built, Refused}
use Rattle.cc_build.specs.declared.planning.CompilePlan.{CompilePlan}
use Rattle.cc_command.specs.Answer.{AnswersError, PrintsLine, Unlisted, error_line}
use Rattle.cc_command.specs.Call.{Call}
use Rattle.cc_command.specs.FleetRules.{EndsAtFaults, EndsFrom, FaultEnds, LaterLibraries, site_of}
use Rattle.cc_command.specs.Fleets.{AnswersFleet, RanFleet, refusals, PrintsEach, SaysFleet}
use Rattle.cc_command.specs.Promises.{is_own_line}
use Rattle.cc_command.specs.declared.ended.Ended.{Ended}
use Rattle.cc_command.proofs.FleetLaws.{IsBegun, IsLinked, links_begun, no_means, no_terms, planned_begun, segment_made}
use Rattle.cc_command.proofs.FleetOrder.{Among, among_first, among_next, in_library, part_is, sound_member, members, s, x, y}
use Rattle.cc_command.proofs.FleetParts.{past, nowhere, which, none_both, planned_sound, plans_sound, ran_partly, ran_sound}

-- ---- the lines behind a fleet

line_own : (line : List ℕ) (part : List Event) → PrintsLine line part → list_all is_own_line part ≡ true
line_own line part (inl printed) = ap (list_all is_own_line) printed
line_own line part (inr faulted) = ap (list_all is_own_line) faulted.1

all_both : (test : Event → Bool) (a b : List Event) → list_all test a ≡ true → list_all test b ≡ true → list_all test (a ++ b) ≡ true
all_both test [] b p q = q
all_both test (e ∷ a) b p q = let k = and_parts (test e) (list_all test a) p in rw k.0 (all_both test a b k.1 q)

-- those behind an event are such, too
all_behind : (test : Event → Bool) (more after : List Event) (event : Event) → list_all test (more ++ event ∷ after) ≡ true → list_all test after ≡ true
all_behind test [] after event h = (and_parts (test event) (list_all test after) h).1
all_behind test (m ∷ more) after event h = all_behind test more after event (and_parts (test m) (list_all test (more ++ event ∷ after)) h).1

lines_own : (es : List ErrorSeen) (part : List Event) → PrintsEach es part → list_all is_own_line part ≡ true
lines_own [] part h = ap (list_all is_own_line) h
lines_own (e ∷ es) part h = ap (list_all is_own_line) h.2.0 ∙ all_both is_own_line h.0 h.1 (line_own (error_line e) h.0 h.2.1) (lines_own es h.1 h.2.2)

error_own : (e : ErrorSeen) (line : List Event) (ended : Ended) → AnswersError e line ended → list_all is_own_line line ≡ true
error_own e line ended (inl printed) = line_own (error_line e) line printed.2
error_own e line ended (inr wanting) = ap (list_all is_own_line) wanting.1

says_own : (result : Result (List FleetEnd) ErrorSeen) (lines : List Event) (ended : Ended) → SaysFleet result lines ended → list_all is_own_line lines ≡ true
says_own (Ok ends) lines ended (inl told) = lines_own (refusals ends) lines told.1
says_own (Ok ends) lines ended (inr wanting) = lines_own wanting.1.0 lines wanting.1.2.1
says_own (Err e) lines ended says = error_own e lines ended says

-- ---- libraries

-- children were abandoned
abbrev Gone : List Event → Type 0
Gone after = (ids : List ℕ) × (after ≡ map Abandoned ids)

module _ (call : HostCall) (why : Why) (real : is_probing call ≡ false) where
  abbrev fault : Event
  fault = Fault call why

  is_one : is_fault fault ≡ true
  is_one = ap not real

  no_more : (ids : List ℕ) (rest more after : List Event) → rest ≡ map Abandoned ids → more ≡ [] → after ≡ rest ++ more → Gone after
  no_more ids rest more after is none cut = (ids, cut ∙ ap (λ l. rest ++ l) none ∙ append-nil rest ∙ is)

  planned_faults : (t : Site) (m : MemberSeen) (answer : Result CompilePlan ErrorSeen) (part before after : List Event) → IsPlanned t m answer part → part ≡ before ++ fault ∷ after → Gone after
  planned_faults t m answer part before after p is =
      let b : IsBegun m part = planned_begun t m answer part p in
      fault_ends no_terms (planning_stages m.build.config m.build.env b.found b.look b.firsts m.output) part no_means no_means before after call why real is b.partly

  linked_faults : (m : MemberSeen) (part before after : List Event) → (part ≡ []) ⊎ ((library : List ℕ) × IsLinked m library part) → part ≡ before ++ fault ∷ after → Gone after
  linked_faults m part before after (inl none) is = absurd (none_inside before after fault (sym none ∙ is))
  linked_faults m part before after (inr l) is =
      fault_ends no_terms (directive_stages m.build.config m.build.env l.1.listens l.1.look l.1.firsts l.0) part no_means no_means before after call why real is l.1.partly

  -- where a library was written no call of the host failed
  written_sound : (t : Site) (m : MemberSeen) (answer : Result (Unit {0}) ErrorSeen) (part : List Event) (given : ℕ) (g : Segment t m answer part given) (library : List ℕ) → g.written ≡ Ok library → list_any is_fault g.made ≡ false
  written_sound t m answer part given g library is =
      let b : BuildSeen = with_objects m.build (objects_at m) in
      let some = some_agree (answers g.made) g.made_asks.once in
      let h = subst (λ w. Creates b g.listens t.patience given m.output w some.0 g.made) is (g.creates.under some.0 some.1) in
      let c = course_alone t.patience given h.0 in
      went_faultless (terms_for b g.listens c) (creation_stages b.config b.env h.1.0 some.0 h.1.1 m.output) g.made c.before c.after h.1.2.1.1

  made_faults : (t : Site) (m : MemberSeen) (answer : Result (Unit {0}) ErrorSeen) (part : List Event) (given : ℕ) (g : Segment t m answer part given) (written : Result (List ℕ) ErrorSeen) (before rest after : List Event) → g.written ≡ written → LinksBehind t g.listens m written answer g.linked → g.made ≡ before ++ fault ∷ rest → after ≡ rest ++ g.linked → Gone after
  made_faults t m answer part given g (Ok library) before rest after is links at cut = absurd (nowhere is_fault g.made before rest fault (written_sound t m answer part given g library is) is_one at)
  made_faults t m answer part given g (Err e) before rest after is links at cut =
      let b : BuildSeen = with_objects m.build (objects_at m) in
      let k = segment_made t m answer part given g in
      let gone = fault_ends k.t (creation_stages b.config b.env k.writing k.look k.firsts m.output) g.made k.x k.y before rest call why real at k.partly in
      no_more gone.0 rest g.linked after gone.1 links.1 cut

  -- a fault in a library ends it
  segment_faults : (t : Site) (m : MemberSeen) (answer : Result (Unit {0}) ErrorSeen) (part before after : List Event) (given : ℕ) → Segment t m answer part given → part ≡ before ++ fault ∷ after → Gone after
  segment_faults t m answer part before after given g is = by_side (which g.made g.linked before after fault (sym g.cut ∙ is))
    where
      by_side : ((rest : List Event) × ((g.made ≡ before ++ fault ∷ rest) × (after ≡ rest ++ g.linked))) ⊎ ((more : List Event) × ((before ≡ g.made ++ more) × (g.linked ≡ more ++ fault ∷ after))) → Gone after
      by_side (inl q) = made_faults t m answer part given g g.written before q.0 after refl g.links q.1.0 q.1.1
      by_side (inr q) = linked_faults m g.linked q.0 after (links_begun t g.listens m g.written answer g.linked g.links) q.1.1

  built_faults : (t : Site) (m : MemberSeen) (answer : Result FleetEnd ErrorSeen) (part before after : List Event) (given left : ℕ) → EndsBuilt t m answer part given left → part ≡ before ++ fault ∷ after → Gone after
  built_faults t m (Ok Built) part before after given left h is = segment_faults t m (Ok tt) part before after given h.0 is
  built_faults t m (Ok (Refused e)) part before after given left h is = segment_faults t m (Err e) part before after given h.0 is
  built_faults t m (Err e) part before after given left h is = segment_faults t m (Err e) part before after given h.0 is

  member_faults : (t : Site) (cmds : List Planned) (m : MemberSeen) (f : Option Failure) (answer : Result FleetEnd ErrorSeen) (part before after : List Event) (given left : ℕ) → EndsMember t cmds m f answer part given left → part ≡ before ++ fault ∷ after → Gone after
  member_faults t cmds m (Some f) answer part before after given left h is = absurd (none_inside before after fault (sym h.1 ∙ is))
  member_faults t cmds m None answer part before after given left h is = built_faults t m answer part before after given left h is

  -- ---- members, one after another

  module _ (t : Site) (cmds : List Planned) (failure : ℕ → Option Failure) where
    -- the libraries of these members, of which the first has that place
    record Later (place : ℕ) (ms : List MemberSeen) (part : List Event) : Type 0 where
      result : Result (List FleetEnd) ErrorSeen
      given : ℕ
      left : ℕ
      ends : EndsFrom t cmds failure place ms result part given left

    -- behind a fault in one of their libraries
    record FaultIn (place : ℕ) (ms : List MemberSeen) (after : List Event) : Type 0 where
      ids : List ℕ
      rest : List Event
      cut : after ≡ map Abandoned ids ++ rest
      among : Among failure place ms
      stands : (rest ≡ []) ⊎ Later (suc (place + length among.earlier)) among.later rest

    -- it stands in the library of the first
    fault_first : (place : ℕ) (m : MemberSeen) (ms : List MemberSeen) (rest after more : List Event) → failure place ≡ None → Gone rest → after ≡ rest ++ more → (more ≡ []) ⊎ Later (suc place) ms more → FaultIn place (m ∷ ms) after
    fault_first place m ms rest after more sound gone cut stands = record {
      ids = gone.0;
      rest = more;
      cut = cut ∙ ap (λ l. l ++ more) gone.1;
      among = among_first t cmds failure place m ms sound;
      stands = let here : suc place ≡ suc (place + 0) = omega arith in subst (λ n. (more ≡ []) ⊎ Later n ms more) here stands;
    }

    fault_next : (place : ℕ) (m : MemberSeen) (ms : List MemberSeen) (after : List Event) → FaultIn (suc place) ms after → FaultIn place (m ∷ ms) after
    fault_next place m ms after f = record {
      ids = f.ids;
      rest = f.rest;
      cut = f.cut;
      among = among_next t cmds failure place m ms f.among;
      stands = let here : suc (suc place + length f.among.earlier) ≡ suc (place + suc (length f.among.earlier)) = omega arith in subst (λ n. (f.rest ≡ []) ⊎ Later n f.among.later f.rest) here f.stands;
    }

    faults_each : (place : ℕ) (ms : List MemberSeen) (ends : List FleetEnd) (part before after : List Event) (given left : ℕ) → EndsEach t cmds failure place ms ends part given left → part ≡ before ++ fault ∷ after → FaultIn place ms after
    faults_each place [] [] part before after given left h is = absurd (none_inside before after fault (sym h.0 ∙ is))
    faults_each place [] (e ∷ es) part before after given left h is = absurd h
    faults_each place (m ∷ ms) [] part before after given left h is = absurd h
    faults_each place (m ∷ ms) (e ∷ es) part before after given left h is = by_side (which h.0 h.1 before after fault (sym h.3.0 ∙ is)) (λ more at. faults_each (suc place) ms es h.1 more after h.2 left h.3.2 at)
      where
        by_side : ((rest : List Event) × ((h.0 ≡ before ++ fault ∷ rest) × (after ≡ rest ++ h.1))) ⊎ ((more : List Event) × ((before ≡ h.0 ++ more) × (h.1 ≡ more ++ fault ∷ after))) → ((more : List Event) → h.1 ≡ more ++ fault ∷ after → FaultIn (suc place) ms after) → FaultIn place (m ∷ ms) after
        by_side (inl q) go =
            fault_first place m ms q.0 after h.1 (sound_member t cmds failure (failure place) m (Ok e) h.0 before q.0 fault given h.2 h.3.1 q.1.0) (member_faults t cmds m (failure place) (Ok e) h.0 before q.0 given h.2 h.3.1 q.1.0) q.1.1
            (inr (record { result = Ok es; given = h.2; left = left; ends = h.3.2 }))
        by_side (inr q) go = fault_next place m ms after (go q.0 q.1.1)

    faults_until : (place : ℕ) (ms : List MemberSeen) (error : ErrorSeen) (part before after : List Event) (given left : ℕ) → EndsUntil t cmds failure place ms error part given left → part ≡ before ++ fault ∷ after → FaultIn place ms after
    faults_until place [] error part before after given left h is = absurd (none_inside before after fault (sym h.1 ∙ is))
    faults_until place (m ∷ ms) error part before after given left (inl h) is = absurd (none_inside before after fault (sym h.1 ∙ is))
    faults_until place (m ∷ ms) error part before after given left (inr (inl h)) is =
        fault_first place m ms after after [] (sound_member t cmds failure (failure place) m (Err error) part before after fault given left h is) (member_faults t cmds m (failure place) (Err error) part before after given left h is) (sym (append-nil after)) (inl refl)
    faults_until place (m ∷ ms) error part before after given left (inr (inr h)) is = by_side (which h.1 h.2 before after fault (sym h.4.0 ∙ is)) (λ more at. faults_until (suc place) ms error h.2 more after h.3 left h.4.2 at)
      where
        by_side : ((rest : List Event) × ((h.1 ≡ before ++ fault ∷ rest) × (after ≡ rest ++ h.2))) ⊎ ((more : List Event) × ((before ≡ h.1 ++ more) × (h.2 ≡ more ++ fault ∷ after))) → ((more : List Event) → h.2 ≡ more ++ fault ∷ after → FaultIn (suc place) ms after) → FaultIn place (m ∷ ms) after
        by_side (inl q) go =
            fault_first place m ms q.0 after h.2 (sound_member t cmds failure (failure place) m (Ok h.0) h.1 before q.0 fault given h.3 h.4.1 q.1.0) (member_faults t cmds m (failure place) (Ok h.0) h.1 before q.0 given h.3 h.4.1 q.1.0) q.1.1
            (inr (record { result = Err error; given = h.3; left = left; ends = h.4.2 }))
        by_side (inr q) go = fault_next place m ms after (go q.0 q.1.1)

    faults_to : (ms : List MemberSeen) (answer : Result (List FleetEnd) ErrorSeen) (part before after : List Event) (given left : ℕ) → EndsTo t cmds failure ms answer part given left → part ≡ before ++ fault ∷ after → FaultIn 0 ms after
    faults_to ms (Ok ends) part before after given left h is = faults_each 0 ms ends part before after given left h is
    faults_to ms (Err e) part before after given left h is = faults_until 0 ms e part before after given left h is

  -- ---- the whole part

  module _ (c : Call) (ms : List MemberSeen) (ended : Ended) (r : RanFleet c ms ended) where
    abbrev t : Site
    t = s c ms ended r

    abbrev all : List MemberSeen
    all = members c ms ended r

    -- behind a fault in the lines come only lines
    in_lines : (before more after : List Event) → r.lines ≡ more ++ fault ∷ after → FaultEnds c ms before after
    in_lines before more after is = record {
      ids = [];
      later = [];
      lines = after;
      cut = refl;
      stands = inl refl;
      own = all_behind is_own_line more after fault (sym (ap (list_all is_own_line) is) ∙ says_own r.result r.lines ended r.says);
    }

    finished_faults : Finished t c.total all r.result r.run (x c ms ended r) (y c ms ended r) → (before after : List Event) → c.part ≡ before ++ fault ∷ after → FaultEnds c ms before after
    finished_faults f before after is = by_side (which f.segments r.lines p.0 after fault p.1.1)
      where
        front : List Event
        front = Listed r.vars ∷ (f.planning ++ f.running)

        sound : list_any is_fault front ≡ false
        sound = none_both is_fault f.planning f.running (plans_sound t all f.plans f.planning f.prepared.planned) (ran_sound (fleet_terms t c.total f.plans) (joined f.plans) f.running f.marks (x c ms ended r) f.mid f.ran)

        p : (more : List Event) × ((before ≡ (Listed r.vars ∷ (f.planning ++ f.running)) ++ more) × (f.segments ++ r.lines ≡ more ++ fault ∷ after))
        p = past is_fault front (f.segments ++ r.lines) before after fault sound is_one (sym (part_is c ms ended r f) ∙ is)

        in_segments : (rest : List Event) → after ≡ rest ++ r.lines → FaultIn t (joined f.plans) (failure_of (owners f.plans) f.marks) 0 all rest → FaultEnds c ms before after
        in_segments rest cut i = record {
          ids = i.ids;
          later = i.rest;
          lines = r.lines;
          cut = cut ∙ ap (λ l. l ++ r.lines) i.cut ∙ append_assoc (map Abandoned i.ids) i.rest r.lines;
          stands = by_later i.stands;
          own = says_own r.result r.lines ended r.says;
        }
          where
            by_later : (i.rest ≡ []) ⊎ Later t (joined f.plans) (failure_of (owners f.plans) f.marks) (suc (0 + length i.among.earlier)) i.among.later i.rest → (i.rest ≡ []) ⊎ LaterLibraries c ms before i.rest
            by_later (inl none) = inl none
            by_later (inr l) = inr (record {
              at = in_library c ms ended r f before p.0 p.1.0 i.among;
              result = l.result;
              given = l.given;
              left = l.left;
              ends =
                  let here : suc (0 + length i.among.earlier) ≡ suc (length i.among.earlier) = omega arith in
                  subst (λ n. EndsFrom t (joined f.plans) (failure_of (owners f.plans) f.marks) n i.among.later l.result i.rest l.given l.left) here l.ends;
            })

        by_side : ((rest : List Event) × ((f.segments ≡ p.0 ++ fault ∷ rest) × (after ≡ rest ++ r.lines))) ⊎ ((more : List Event) × ((p.0 ≡ f.segments ++ more) × (r.lines ≡ more ++ fault ∷ after))) → FaultEnds c ms before after
        by_side (inl q) = in_segments q.0 q.1.1 (faults_to t (joined f.plans) (failure_of (owners f.plans) f.marks) all r.result f.segments p.0 q.0 f.mid.left (y c ms ended r).left f.ended q.1.0)
        by_side (inr q) = in_lines before q.0 after q.1.1

    -- a run that a fault ends
    early_faults : ((first rest : List Event) → r.run ≡ first ++ fault ∷ rest → Gone rest) → (before after : List Event) → c.part ≡ before ++ fault ∷ after → FaultEnds c ms before after
    early_faults ends before after is = by_side (which r.run r.lines p.0 after fault p.1.1)
      where
        p : (more : List Event) × ((before ≡ (Listed r.vars ∷ []) ++ more) × (r.run ++ r.lines ≡ more ++ fault ∷ after))
        p = past is_fault (Listed r.vars ∷ []) (r.run ++ r.lines) before after fault refl is_one (sym r.cut ∙ is)

        by_side : ((rest : List Event) × ((r.run ≡ p.0 ++ fault ∷ rest) × (after ≡ rest ++ r.lines))) ⊎ ((more : List Event) × ((p.0 ≡ r.run ++ more) × (r.lines ≡ more ++ fault ∷ after))) → FaultEnds c ms before after
        by_side (inl q) =
            let gone = ends p.0 q.0 q.1.0 in
            record { ids = gone.0; later = []; lines = r.lines; cut = q.1.1 ∙ ap (λ l. l ++ r.lines) gone.1; stands = inl refl; own = says_own r.result r.lines ended r.says }
        by_side (inr q) = in_lines before q.0 after q.1.1

    until_faults : (ns : List MemberSeen) (e : ErrorSeen) (part first rest : List Event) → PlansUntil t ns e part → part ≡ first ++ fault ∷ rest → Gone rest
    until_faults [] e part first rest h is = absurd (none_inside first rest fault (sym h.1 ∙ is))
    until_faults (m ∷ ns) e part first rest (inl h) is = absurd (none_inside first rest fault (sym h.1 ∙ is))
    until_faults (m ∷ ns) e part first rest (inr (inl h)) is = planned_faults t m (Err e) part first rest h is
    until_faults (m ∷ ns) e part first rest (inr (inr h)) is =
        let q = past is_fault h.1 h.2 first rest fault (planned_sound t m h.0 h.1 h.3.1) is_one (sym h.3.0 ∙ is) in
        until_faults ns e h.2 q.0 rest h.3.2 q.1.1

    ran_faults : (before after : List Event) → c.part ≡ before ++ fault ∷ after → FaultEnds c ms before after
    ran_faults before after is = by_result r.result r.fleet (λ f. finished_faults f before after is)
      where
        by_result : (result : Result (List FleetEnd) ErrorSeen) → Fleet t c.total all result r.run (x c ms ended r) (y c ms ended r) → (Finished t c.total all result r.run (x c ms ended r) (y c ms ended r) → FaultEnds c ms before after) → FaultEnds c ms before after
        by_result (Ok ends) f go = go f
        by_result (Err e) (inl h) go = early_faults (λ first rest at. until_faults all e r.run first rest h.0 at) before after is
        by_result (Err e) (inr (inl h)) go = early_faults (λ first rest at. absurd (nowhere is_fault r.run first rest fault (plans_sound t all h.plans r.run h.planned) is_one at)) before after is
        by_result (Err e) (inr (inr (inl h))) go =
            early_faults (λ first rest at.
            let q = past is_fault h.planning h.running first rest fault (plans_sound t all h.plans h.planning h.prepared.planned) is_one (sym h.cut ∙ at) in
            fault_ends (fleet_terms t c.total h.plans) (beside (joined h.plans)) h.running (x c ms ended r) (y c ms ended r) q.0 rest call why real q.1.1 (ran_partly (fleet_terms t c.total h.plans) (joined h.plans) h.running h.answer (x c ms ended r) (y c ms ended r) h.ran))
            before after is
        by_result (Err e) (inr (inr (inr f))) go = go f

  listing_faults : (front before after : List Event) (e : ErrorSeen) → CaptureEnds front (Err e) → front ≡ before ++ fault ∷ after → Gone after
  listing_faults front before after e (inl k) is = fault_ends no_terms (Calls Lists ∷ []) front no_means no_means before after call why real is (ended_partly {T = Unit {0}} no_terms None (Calls Lists ∷ []) front (Err e) no_means no_means (k no_terms no_means))
  listing_faults front before after e (inr k) is = fault_ends no_terms (Calls Lists ∷ []) front no_means no_means before after call why real is (ended_partly {T = Unit {0}} no_terms None (Calls Lists ∷ []) front (Ok tt) no_means no_means (k.1 no_terms no_means))

  unlisted_faults : (c : Call) (ms : List MemberSeen) (ended : Ended) (u : Unlisted c.part ended) (before after : List Event) → c.part ≡ before ++ fault ∷ after → FaultEnds c ms before after
  unlisted_faults c ms ended u before after is = by_side (which u.front u.line before after fault (sym u.cut ∙ is))
    where
      by_side : ((rest : List Event) × ((u.front ≡ before ++ fault ∷ rest) × (after ≡ rest ++ u.line))) ⊎ ((more : List Event) × ((before ≡ u.front ++ more) × (u.line ≡ more ++ fault ∷ after))) → FaultEnds c ms before after
      by_side (inl q) =
          let gone = listing_faults u.front before q.0 u.error u.cause q.1.0 in
          record { ids = gone.0; later = []; lines = u.line; cut = q.1.1 ∙ ap (λ l. l ++ u.line) gone.1; stands = inl refl; own = error_own u.error u.line ended u.says }
      by_side (inr q) = record { ids = []; later = []; lines = after; cut = refl; stands = inl refl; own = all_behind is_own_line q.0 after fault (sym (ap (list_all is_own_line) q.1.1) ∙ error_own u.error u.line ended u.says) }

pub fleet_faults : (c : Call) (ms : List MemberSeen) (ended : Ended) → AnswersFleet c ms ended → EndsAtFaults c ms
fleet_faults c ms ended (inl r) = λ before after call why real is. ran_faults call why real c ms ended r before after is
fleet_faults c ms ended (inr u) = λ before after call why real is. unlisted_faults call why real c ms ended u.2 before after is
