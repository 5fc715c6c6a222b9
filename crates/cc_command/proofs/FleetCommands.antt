-- The commands of a fleet are the first of its members' planned ones, and then of those of each library.
use Rattle.std.proofs.Common.{◌≡◌, ◌⊎◌, inl, inr, ℕ, suc, ◌+◌, ◌≤◌, List, [], ◌∷◌, ◌++◌, length, map, take, Bool, true, false, if◌then◌else◌, is_some, Option, Some, None, Result, Ok, Err, refl, sym, ◌∙◌, ap, subst, append_assoc, append-nil, arith}
use Rattle.std.proofs.lemmas.Grind.{flat_map-append, common_steps}
use Rattle.std.proofs.lemmas.List.{length-map, length-append, nil_from_length}
use Rattle.cc_env.specs.Env.{EnvSeen}
use Rattle.cc_flags.specs.Given.{is_disabled}
use Rattle.cc_flags.specs.declared.settings.BuildConfig.{BuildConfig}
use Rattle.cc_host.specs.Command.{CommandSeen}
use Rattle.cc_host.specs.Part.{Step}
use Rattle.cc_host.specs.Part.Step.{Lists}
use Rattle.cc_host.specs.Question.{Look, answers, Holds}
use Rattle.cc_host.specs.declared.event.Event.{Event}
use Rattle.cc_host.specs.declared.event.Event.TheVariants.{Listed, Started, Missing, Ran}
use Rattle.cc_host.specs.declared.event.LineKind.TheVariants.{Rerun}
use Rattle.cc_host.specs.declared.event.Role.{Role}
use Rattle.cc_plan.specs.Plan.{folder_steps, prints}
use Rattle.cc_plan.specs.Quiet.{quiet_warnings}
use Rattle.cc_plan.specs.Refusal.{early_refusal, late_refusal, path_refusal, link_refusal}
use Rattle.cc_plan.specs.Reruns.{rerun_names}
use Rattle.cc_run.specs.Outcome.{by_failure, list_result}
use Rattle.cc_run.specs.Marks.{last_failure}
use Rattle.cc_run.specs.Part.{started, started_of}
use Rattle.cc_run.specs.Planned.{asked, asked_by}
use Rattle.cc_run.specs.declared.error.RunError.{RunError}
use Rattle.cc_run.specs.declared.error.RunError.TheVariants.{Failed}
use Rattle.cc_run.specs.declared.mark.Mark.{Mark}
use Rattle.cc_run.specs.declared.planned.Planned.{Planned}
use Rattle.cc_run.specs.declared.planned.Shows.{Shows}
use Rattle.cc_build.specs.Archiving.{ArchivesFirst, creation_stages, with_objects}
use Rattle.cc_build.specs.Attempts.{attempt_of, attempts, to_attempt}
use Rattle.cc_build.specs.Build.{BuildSeen}
use Rattle.cc_build.specs.Captured.{CaptureEnds}
use Rattle.cc_build.specs.Error.{ErrorSeen}
use Rattle.cc_build.specs.Intermediates.{source_reads}
use Rattle.cc_build.specs.Linking.{directive_stages, linked_name, link_reads}
use Rattle.cc_build.specs.Planning.{planning_stages}
use Rattle.cc_build.specs.Stage.{Stage, asked_then, beside, calls, commands_in, ending_steps, folder_stages, links_of, name_stages, opening_steps, printed_stages, rerun_lines}
use Rattle.cc_build.specs.Stage.Stage.{Asks, Calls, RunsOne, RunsAll}
use Rattle.cc_build.specs.Way.{Found, Firsts, chosen}
use Rattle.cc_build.specs.Went.{Terms, Means, Partly}
use Rattle.cc_build.specs.declared.planning.CompilePlan.{CompilePlan}
use Rattle.cc_build.proofs.OrderLaws.{ended_partly}
use Rattle.cc_build.proofs.PrefixLaws.{archives_first, archives_none}
use Rattle.cc_build.proofs.RanLaws.{IsEnd, said_all, said_one}
use Rattle.cc_build.proofs.RunLaws.{commands_then, commands_calls, commands_beside}
use Rattle.cc_build.proofs.SettledLaws.{partly_first}
use Rattle.cc_build.proofs.SourceLaws.{opening_notes, ending_notes}
use Rattle.cc_build.proofs.StopLaws.{ArePlain, plain_then, plain_lines, plain_notes, plain_unless, plain_folder}
use Rattle.cc_fleet.specs.Failures.{Failure, failure_of}
use Rattle.cc_fleet.specs.Fleet.{Site, MemberSeen, Fleet, Finished, IsPlanned, PlansEach, PlansUntil, Segment, EndsBuilt, EndsMember, EndsEach, EndsUntil, EndsTo, fleet_terms, joined, objects_at, owners, shown_first}
use Rattle.cc_fleet.specs.Run.{RanJoined, marks_of, shown_by}
use Rattle.cc_fleet.specs.declared.members.FleetEnd.{FleetEnd}
use Rattle.cc_fleet.specs.declared.members.FleetEnd.TheVariants.{Built, Refused}
use Rattle.cc_command.specs.Answer.{AnswersError, PrintsLine, Unlisted, error_line}
use Rattle.cc_command.specs.Call.{Call}
use Rattle.cc_command.specs.FleetRules.{FirstJoined, AllJoined, AreArchived, IsPrefix, site_of}
use Rattle.cc_command.specs.Fleets.{AnswersFleet, RanFleet, listed_members, refusals, PrintsEach, SaysFleet}
use Rattle.cc_command.specs.declared.ended.Ended.{Ended}
use Rattle.cc_command.proofs.FleetLaws.{IsBegun, IsLinked, as_list, links_begun, no_means, no_terms, planned_begun}
use Rattle.cc_command.proofs.FleetOrder.{members, s, x, y}
use Rattle.cc_command.proofs.FleetParts.{ran_partly}
use Rattle.cc_command.proofs.PromiseLaws.{front_empty, line_of}
use Rattle.cc_command.proofs.StartedPromises.{no_attempt}

-- ---- stages without a command

attempts_then : (a b : List Event) → attempts (a ++ b) ≡ attempts a ++ attempts b
attempts_then a b = flat_map-append attempt_of a b

-- nothing is tried by stages that have no command
none_tried : (t : Terms) (stages : List Stage) (part : List Event) (x z : Means) → ArePlain stages → commands_in stages ≡ [] → Partly t stages part x z → attempts part ≡ []
none_tried t stages part x z plain none p =
    let k = partly_first t stages part x z plain p in
    front_empty (attempts part) k.0 (sym k.1 ∙ ap (map to_attempt) none)

no_unless : (b : Bool) (stages : List Stage) → commands_in stages ≡ [] → commands_in (if b then [] else stages) ≡ []
no_unless true stages none = refl
no_unless false stages none = none

module _ (set : BuildConfig) (env : EnvSeen) (found : Found) (look : Look) (firsts : Firsts) (output : List ℕ) where
  abbrev opening : List Stage
  opening = calls (opening_steps set env found look)

  abbrev names : List Stage
  names = name_stages set env (source_reads set) look firsts

  abbrev told : List Stage
  told = (calls (opening_steps set env found look) ++ Asks ∷ name_stages set env (source_reads set) look firsts)

  abbrev late : List Stage
  late = asked_then (late_refusal set env look) told

  no_folder : commands_in (folder_stages set env) ≡ []
  unfolding folder_stages
  no_folder = commands_calls (folder_steps set env)

  no_told : commands_in told ≡ []
  no_told = commands_then opening (Asks ∷ names) ∙ ap (λ l. l ++ commands_in names) (commands_calls (opening_steps set env found look)) ∙ commands_calls (prints Rerun (rerun_lines (chosen firsts.names (rerun_names (source_reads set) set env look))))

  no_planning : commands_in (planning_stages set env found look firsts output) ≡ []
  no_planning =
      no_unless (is_some (early_refusal set env output)) (folder_stages set env ++ (if is_disabled env then [] else late))
      (commands_then (folder_stages set env) (if is_disabled env then [] else late) ∙ ap (λ l. l ++ commands_in (if is_disabled env then [] else late)) no_folder
      ∙ no_unless (is_disabled env) late (no_unless (is_some (late_refusal set env look)) told no_told))

  plain_told : ArePlain told
  plain_told =
      plain_then opening (Asks ∷ names) (plain_notes (opening_steps set env found look) (opening_notes set env found look))
      (tt, plain_lines Rerun (rerun_lines (chosen firsts.names (rerun_names (source_reads set) set env look))))

  plain_planning : ArePlain (planning_stages set env found look firsts output)
  plain_planning =
      plain_unless (is_some (early_refusal set env output)) (folder_stages set env ++ (if is_disabled env then [] else late))
      (plain_then (folder_stages set env) (if is_disabled env then [] else late) (plain_folder set env) (plain_unless (is_disabled env) late (tt, plain_unless (is_some (late_refusal set env look)) told plain_told)))

planned_tries : (t : Site) (m : MemberSeen) (answer : Result CompilePlan ErrorSeen) (part : List Event) → IsPlanned t m answer part → attempts part ≡ []
planned_tries t m answer part p =
    let b : IsBegun m part = planned_begun t m answer part p in
    none_tried no_terms (planning_stages m.build.config m.build.env b.found b.look b.firsts m.output) part no_means no_means
    (plain_planning m.build.config m.build.env b.found b.look b.firsts m.output) (no_planning m.build.config m.build.env b.found b.look b.firsts m.output) b.partly

plans_try : (t : Site) (ms : List MemberSeen) (plans : List CompilePlan) (part : List Event) → PlansEach t ms plans part → attempts part ≡ []
plans_try t [] [] part h = ap attempts h
plans_try t [] (p ∷ ps) part h = absurd h
plans_try t (m ∷ ms) [] part h = absurd h
plans_try t (m ∷ ms) (p ∷ ps) part h = ap attempts h.2.0 ∙ attempts_then h.0 h.1 ∙ ap (λ l. l ++ attempts h.1) (planned_tries t m (Ok p) h.0 h.2.1) ∙ plans_try t ms ps h.1 h.2.2

until_tries : (t : Site) (ms : List MemberSeen) (e : ErrorSeen) (part : List Event) → PlansUntil t ms e part → attempts part ≡ []
until_tries t [] e part h = ap attempts h.1
until_tries t (m ∷ ms) e part (inl h) = ap attempts h.1
until_tries t (m ∷ ms) e part (inr (inl h)) = planned_tries t m (Err e) part h
until_tries t (m ∷ ms) e part (inr (inr h)) = ap attempts h.3.0 ∙ attempts_then h.1 h.2 ∙ ap (λ l. l ++ attempts h.2) (planned_tries t m (Ok h.0) h.1 h.3.1) ∙ until_tries t ms e h.2 h.3.2

module _ (b : BuildSeen) (listens : Bool) (look : Look) (firsts : Firsts) (library : List ℕ) where
  abbrev steps : List Step
  steps = ending_steps listens (quiet_warnings b.config b.env look) firsts (links_of b.config b.env (linked_name b.config b.env library) library look) (rerun_names link_reads b.config b.env look)

  no_directives : commands_in (directive_stages b.config b.env listens look firsts library) ≡ []
  no_directives = no_unless (is_some (path_refusal b.config b.env library)) (asked_then (link_refusal b.config b.env look) (calls steps)) (no_unless (is_some (link_refusal b.config b.env look)) (calls steps) (commands_calls steps))

  plain_directives : ArePlain (directive_stages b.config b.env listens look firsts library)
  plain_directives =
      plain_unless (is_some (path_refusal b.config b.env library)) (asked_then (link_refusal b.config b.env look) (calls steps))
      (tt, plain_unless (is_some (link_refusal b.config b.env look)) (calls steps) (plain_notes steps (ending_notes listens (quiet_warnings b.config b.env look) firsts (links_of b.config b.env (linked_name b.config b.env library) library look) (rerun_names link_reads b.config b.env look))))

linked_tries : (m : MemberSeen) (part : List Event) → (part ≡ []) ⊎ ((library : List ℕ) × IsLinked m library part) → attempts part ≡ []
linked_tries m part (inl none) = ap attempts none
linked_tries m part (inr l) =
    none_tried no_terms (directive_stages m.build.config m.build.env l.1.listens l.1.look l.1.firsts l.0) part no_means no_means
    (plain_directives m.build l.1.listens l.1.look l.1.firsts l.0) (no_directives m.build l.1.listens l.1.look l.1.firsts l.0) l.1.partly

-- ---- the run of all commands

plain_beside : (ps : List Planned) → ArePlain (beside ps)
plain_beside [] = tt
plain_beside (p ∷ []) = (tt, tt)
plain_beside (p ∷ q ∷ ps) = (tt, tt)

-- its commands are the first of the list
ran_first : (t : Terms) (ps : List Planned) (part : List Event) (answer : Result (List Mark) RunError) (x y : Means) → RanJoined t ps part answer x y → (rest : List (Role × CommandSeen)) × (map to_attempt ps ≡ attempts part ++ rest)
ran_first t ps part answer x y h =
    let k = partly_first t (beside ps) part x y (plain_beside ps) (ran_partly t ps part answer x y h) in
    (k.0, ap (map to_attempt) (sym (commands_beside ps)) ∙ k.1)

-- each command that was started was tried
one_tried : (e : Event) → length (started_of e) ≤ length (attempt_of e)
one_tried (Started id role cmd pipes held) = omega arith
one_tried event = omega arith

all_tried : (part : List Event) → length (started part) ≤ length (attempts part)
all_tried [] = omega arith
all_tried (e ∷ part) =
    let a : length (started (e ∷ part)) ≡ length (started_of e) + length (started part) = length-append (started_of e) (started part) in
    let b : length (attempts (e ∷ part)) ≡ length (attempt_of e) + length (attempts part) = length-append (attempt_of e) (attempts part) in
    omega (arith, a, b, one_tried e, all_tried part)

-- a list that was started whole was tried whole
whole_tried : (shows : Shows) (ps : List Planned) (part : List Event) (rest : List (Role × CommandSeen)) → started part ≡ asked shows ps → map to_attempt ps ≡ attempts part ++ rest → attempts part ≡ map to_attempt ps
whole_tried shows ps part rest all first =
    let a : length (started part) ≡ length ps = ap length all ∙ length-map ps (asked_by shows) in
    let b : length ps ≡ length (attempts part) + length rest = sym (length-map ps to_attempt) ∙ ap length first ∙ length-append (attempts part) rest in
    let none : rest ≡ [] = nil_from_length rest (omega (arith, a, b, all_tried part)) in
    sym (first ∙ ap (λ l. attempts part ++ l) none ∙ append-nil (attempts part))

-- where a list was run to its end, and none stops it, all of it was started
started_by : (shows : Shows) (ps : List Planned) (count : ℕ) (part tail : List Event) (live : List (ℕ × ℕ)) (o : Option _) → IsEnd shows false ps count part tail live (by_failure o) → started part ≡ asked shows ps
started_by shows ps count part tail live None h = h.2
started_by shows ps count part tail live (Some f) h = h.3 refl

lone_started : (shows : Shows) (ps : List Planned) (count : ℕ) (part tail : List Event) (live : List (ℕ × ℕ)) (own : Result (Unit {0}) RunError) (marks : List Mark) → Ok marks ≡ marks_of own → IsEnd shows false ps count part tail live own → started part ≡ asked shows ps
lone_started shows ps count part tail live (Ok done) marks is h = h.2
lone_started shows ps count part tail live (Err (Failed place status)) marks is h = h.3 refl
lone_started shows ps count part tail live (Err error) marks is h = absurd (cc)

stop_off : (o : Option Shows) → (shown_by o).stop ≡ false
stop_off None = refl
stop_off (Some shows) = refl

ran_whole : (t : Terms) (ps : List Planned) (part : List Event) (marks : List Mark) (x y : Means) → t.shows.stop ≡ false → RanJoined t ps part (Ok marks) x y → attempts part ≡ map to_attempt ps
ran_whole t [] part marks x y off h = ap attempts h.0
ran_whole t (p ∷ []) part marks x y off h =
    let said = said_one t p part h.0 x y h.1.0 in
    let first = ran_first t (p ∷ []) part (Ok marks) x y h in
    whole_tried t.shows (p ∷ []) part first.0 (lone_started t.shows (p ∷ []) said.count part said.tail said.live h.0 marks h.1.1 said.ends) first.1
ran_whole t (p ∷ q ∷ ps) part marks x y off h =
    let said = said_all t (p ∷ q ∷ ps) part (list_result (Ok marks)) x y (as_list t (p ∷ q ∷ ps) part (Ok marks) x y h) in
    let first = ran_first t (p ∷ q ∷ ps) part (Ok marks) x y h in
    whole_tried t.shows (p ∷ q ∷ ps) part first.0
    (started_by t.shows (p ∷ q ∷ ps) said.count part said.tail said.live (last_failure marks) (subst (λ b. IsEnd t.shows b (p ∷ q ∷ ps) said.count part said.tail said.live (list_result (Ok marks))) off said.ends)) first.1

-- ---- libraries

-- without a command in its part, a member's library has none
none_first : (m : MemberSeen) → Holds (answers []) (λ look. ArchivesFirst (with_objects m.build (objects_at m)) m.output look [])
none_first m = record { under = λ look agree. archives_none (with_objects m.build (objects_at m)) m.output look [] refl }

none_archived : (ms : List MemberSeen) → AreArchived ms []
none_archived [] = refl
none_archived (m ∷ ms) = ([], [], (refl, none_first m, none_archived ms))

-- a member whose library was begun, and those behind it
one_archived : (t : Site) (m : MemberSeen) (ms : List MemberSeen) (answer : Result (Unit {0}) ErrorSeen) (part : List Event) (given : ℕ) (rest : List (Role × CommandSeen)) → Segment t m answer part given → AreArchived ms rest → AreArchived (m ∷ ms) (attempts part ++ rest)
one_archived t m ms answer part given rest g behind =
    let b : BuildSeen = with_objects m.build (objects_at m) in
    let own : attempts part ≡ attempts g.made = ap attempts g.cut ∙ attempts_then g.made g.linked ∙ ap (λ l. attempts g.made ++ l) (linked_tries m g.linked (links_begun t g.listens m g.written answer g.linked g.links)) ∙ append-nil (attempts g.made) in
    (g.made, rest, (ap (λ l. l ++ rest) own, record { under = λ look agree. archives_first b g.listens t.patience given m.output look g.made g.written (g.creates.under look agree) }, behind))

built_archived : (t : Site) (m : MemberSeen) (ms : List MemberSeen) (answer : Result FleetEnd ErrorSeen) (part : List Event) (given left : ℕ) (rest : List (Role × CommandSeen)) → EndsBuilt t m answer part given left → AreArchived ms rest → AreArchived (m ∷ ms) (attempts part ++ rest)
built_archived t m ms (Ok Built) part given left rest h behind = one_archived t m ms (Ok tt) part given rest h.0 behind
built_archived t m ms (Ok (Refused e)) part given left rest h behind = one_archived t m ms (Err e) part given rest h.0 behind
built_archived t m ms (Err e) part given left rest h behind = one_archived t m ms (Err e) part given rest h.0 behind

member_archived : (t : Site) (cmds : List Planned) (m : MemberSeen) (ms : List MemberSeen) (f : Option Failure) (answer : Result FleetEnd ErrorSeen) (part : List Event) (given left : ℕ) (rest : List (Role × CommandSeen)) → EndsMember t cmds m f answer part given left → AreArchived ms rest → AreArchived (m ∷ ms) (attempts part ++ rest)
member_archived t cmds m ms (Some f) answer part given left rest h behind = ([], rest, (ap (λ l. attempts l ++ rest) h.1, none_first m, behind))
member_archived t cmds m ms None answer part given left rest h behind = built_archived t m ms answer part given left rest h behind

module _ (t : Site) (cmds : List Planned) (failure : ℕ → Option Failure) where
  each_archived : (place : ℕ) (ms : List MemberSeen) (ends : List FleetEnd) (part : List Event) (given left : ℕ) → EndsEach t cmds failure place ms ends part given left → AreArchived ms (attempts part)
  each_archived place [] [] part given left h = ap attempts h.0
  each_archived place [] (e ∷ es) part given left h = absurd h
  each_archived place (m ∷ ms) [] part given left h = absurd h
  each_archived place (m ∷ ms) (e ∷ es) part given left h =
      subst (AreArchived (m ∷ ms)) (sym (ap attempts h.3.0 ∙ attempts_then h.0 h.1)) (member_archived t cmds m ms (failure place) (Ok e) h.0 given h.2 (attempts h.1) h.3.1 (each_archived (suc place) ms es h.1 h.2 left h.3.2))

  until_archived : (place : ℕ) (ms : List MemberSeen) (error : ErrorSeen) (part : List Event) (given left : ℕ) → EndsUntil t cmds failure place ms error part given left → AreArchived ms (attempts part)
  until_archived place [] error part given left h = ap attempts h.1
  until_archived place (m ∷ ms) error part given left (inl h) = subst (AreArchived (m ∷ ms)) (sym (ap attempts h.1)) (none_archived (m ∷ ms))
  until_archived place (m ∷ ms) error part given left (inr (inl h)) =
      subst (AreArchived (m ∷ ms)) (append-nil (attempts part)) (member_archived t cmds m ms (failure place) (Err error) part given left [] h (none_archived ms))
  until_archived place (m ∷ ms) error part given left (inr (inr h)) =
      subst (AreArchived (m ∷ ms)) (sym (ap attempts h.4.0 ∙ attempts_then h.1 h.2)) (member_archived t cmds m ms (failure place) (Ok h.0) h.1 given h.3 (attempts h.2) h.4.1 (until_archived (suc place) ms error h.2 h.3 left h.4.2))

  to_archived : (ms : List MemberSeen) (answer : Result (List FleetEnd) ErrorSeen) (part : List Event) (given left : ℕ) → EndsTo t cmds failure ms answer part given left → AreArchived ms (attempts part)
  to_archived ms (Ok ends) part given left h = each_archived 0 ms ends part given left h
  to_archived ms (Err e) part given left h = until_archived 0 ms e part given left h

-- ---- the whole part

lines_try : (es : List ErrorSeen) (part : List Event) → PrintsEach es part → attempts part ≡ []
lines_try [] part h = ap attempts h
lines_try (e ∷ es) part h = ap attempts h.2.0 ∙ attempts_then h.0 h.1 ∙ ap (λ l. l ++ attempts h.1) (no_attempt h.0 (line_of (error_line e) h.0 h.2.1)) ∙ lines_try es h.1 h.2.2

error_tries : (e : ErrorSeen) (line : List Event) (ended : Ended) → AnswersError e line ended → attempts line ≡ []
error_tries e line ended (inl printed) = no_attempt line (line_of (error_line e) line printed.2)
error_tries e line ended (inr wanting) = ap attempts wanting.1

says_try : (result : Result (List FleetEnd) ErrorSeen) (lines : List Event) (ended : Ended) → SaysFleet result lines ended → attempts lines ≡ []
says_try (Ok ends) lines ended (inl told) = lines_try (refusals ends) lines told.1
says_try (Ok ends) lines ended (inr wanting) = lines_try wanting.1.0 lines wanting.1.2.1
says_try (Err e) lines ended says = error_tries e lines ended says

listing_tries : (front : List Event) (e : ErrorSeen) → CaptureEnds front (Err e) → attempts front ≡ []
listing_tries front e (inl k) = none_tried no_terms (Calls Lists ∷ []) front no_means no_means (tt, tt) refl (ended_partly {T = Unit {0}} no_terms None (Calls Lists ∷ []) front (Err e) no_means no_means (k no_terms no_means))
listing_tries front e (inr k) = none_tried no_terms (Calls Lists ∷ []) front no_means no_means (tt, tt) refl (ended_partly {T = Unit {0}} no_terms None (Calls Lists ∷ []) front (Ok tt) no_means no_means (k.1 no_terms no_means))

module _ (c : Call) (ms : List MemberSeen) (ended : Ended) (r : RanFleet c ms ended) where
  -- the lines try nothing
  of_run : attempts c.part ≡ attempts r.run
  of_run = ap attempts r.cut ∙ attempts_then r.run r.lines ∙ ap (λ l. attempts r.run ++ l) (says_try r.result r.lines ended r.says) ∙ append-nil (attempts r.run)

  finished_prefix : Finished (site_of c) c.total (members c ms ended r) r.result r.run (x c ms ended r) (y c ms ended r) → IsPrefix c ms
  finished_prefix f = inr (inr (record {
    vars = r.vars;
    planning = f.planning;
    plans = f.plans;
    prepared = f.prepared;
    archived = attempts f.segments;
    cut =
        of_run ∙ ap attempts f.cut ∙ attempts_then f.planning (f.running ++ f.segments) ∙ ap (λ l. l ++ attempts (f.running ++ f.segments)) (plans_try (site_of c) (members c ms ended r) f.plans f.planning f.prepared.planned)
        ∙ attempts_then f.running f.segments
        ∙ ap (λ l. l ++ attempts f.segments) (ran_whole (fleet_terms (site_of c) c.total f.plans) (joined f.plans) f.running f.marks (x c ms ended r) f.mid (stop_off (shown_first f.plans)) f.ran);
    libraries = to_archived (site_of c) (joined f.plans) (failure_of (owners f.plans) f.marks) (members c ms ended r) r.result f.segments f.mid.left (y c ms ended r).left f.ended;
  }))

  by_result : (result : Result (List FleetEnd) ErrorSeen) → Fleet (site_of c) c.total (members c ms ended r) result r.run (x c ms ended r) (y c ms ended r) → (Finished (site_of c) c.total (members c ms ended r) result r.run (x c ms ended r) (y c ms ended r) → IsPrefix c ms) → IsPrefix c ms
  by_result (Ok ends) f go = go f
  by_result (Err e) (inl h) go = inl (of_run ∙ until_tries (site_of c) (members c ms ended r) e r.run h.0)
  by_result (Err e) (inr (inl h)) go = inl (of_run ∙ plans_try (site_of c) (members c ms ended r) h.plans r.run h.planned)
  by_result (Err e) (inr (inr (inl h))) go =
      let first = ran_first (fleet_terms (site_of c) c.total h.plans) (joined h.plans) h.running h.answer (x c ms ended r) (y c ms ended r) h.ran in
      let own : attempts c.part ≡ attempts h.running = of_run ∙ ap attempts h.cut ∙ attempts_then h.planning h.running ∙ ap (λ l. l ++ attempts h.running) (plans_try (site_of c) (members c ms ended r) h.plans h.planning h.prepared.planned) in
      inr (inl (record { vars = r.vars; planning = h.planning; plans = h.plans; prepared = h.prepared; rest = first.0; first = first.1 ∙ ap (λ l. l ++ first.0) (sym own) }))
  by_result (Err e) (inr (inr (inr f))) go = go f

pub fleet_prefix : (c : Call) (ms : List MemberSeen) (ended : Ended) → AnswersFleet c ms ended → IsPrefix c ms
fleet_prefix c ms ended (inl r) = by_result c ms ended r r.result r.fleet (finished_prefix c ms ended r)
fleet_prefix c ms ended (inr u) =
    inl (ap attempts u.2.cut ∙ attempts_then u.2.front u.2.line ∙ ap (λ l. l ++ attempts u.2.line) (listing_tries u.2.front u.2.error u.2.cause) ∙ error_tries u.2.error u.2.line ended u.2.says)
