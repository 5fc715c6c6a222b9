-- Where the commands of archives stand in the part of a fleet.
use Rattle.std.proofs.Common.{◌≡◌, ◌⊎◌, inl, inr, ℕ, suc, ◌+◌, List, [], ◌∷◌, ◌++◌, length, true, Option, Some, None, Result, Ok, Err, refl, sym, ◌∙◌, ap, subst, append_assoc, arith}
use Rattle.std.specs.List.{list_any}
use Rattle.cc_host.specs.Part.Step.{Lists}
use Rattle.cc_host.specs.declared.event.Event.{Event}
use Rattle.cc_host.specs.declared.event.Event.TheVariants.{Listed}
use Rattle.cc_run.specs.declared.planned.Planned.{Planned}
use Rattle.cc_build.specs.Captured.{CaptureEnds}
use Rattle.cc_build.specs.Error.{ErrorSeen}
use Rattle.cc_build.specs.Order.{is_archive_event}
use Rattle.cc_build.specs.Stage.Stage.{Calls}
use Rattle.cc_build.specs.Went.{Means}
use Rattle.cc_build.proofs.OrderLaws.{IsSilent, ended_partly, partly_silent}
use Rattle.cc_build.proofs.PromiseLaws.{none_inside}
use Rattle.cc_fleet.specs.Failures.{Failure, failure_of}
use Rattle.cc_fleet.specs.Fleet.{Site, MemberSeen, Fleet, Finished, PlansUntil, EndsMember, EndsEach, EndsUntil, EndsTo, fleet_terms, joined, owners}
use Rattle.cc_fleet.specs.declared.members.FleetEnd.{FleetEnd}
use Rattle.cc_command.specs.Answer.{AnswersError, PrintsLine, error_line}
use Rattle.cc_command.specs.Call.{Call, means_of}
use Rattle.cc_command.specs.FleetRules.{HasRun, InLibrary, ArchivesBehind, site_of}
use Rattle.cc_command.specs.Fleets.{AnswersFleet, RanFleet, listed_members, refusals, PrintsEach, SaysFleet}
use Rattle.cc_command.specs.declared.ended.Ended.{Ended}
use Rattle.cc_command.proofs.FleetLaws.{no_means, no_terms}
use Rattle.cc_command.proofs.FleetParts.{past, nowhere, which, none_both, planned_silent, plans_silent, ran_silent, joined_compile}

-- ---- the lines behind a fleet

line_silent : (line : List ℕ) (part : List Event) → PrintsLine line part → IsSilent part
line_silent line part (inl printed) = ap (list_any is_archive_event) printed
line_silent line part (inr faulted) = ap (list_any is_archive_event) faulted.1

lines_silent : (es : List ErrorSeen) (part : List Event) → PrintsEach es part → IsSilent part
lines_silent [] part h = ap (list_any is_archive_event) h
lines_silent (e ∷ es) part h = ap (list_any is_archive_event) h.2.0 ∙ none_both is_archive_event h.0 h.1 (line_silent (error_line e) h.0 h.2.1) (lines_silent es h.1 h.2.2)

error_silent : (e : ErrorSeen) (line : List Event) (ended : Ended) → AnswersError e line ended → IsSilent line
error_silent e line ended (inl printed) = line_silent (error_line e) line printed.2
error_silent e line ended (inr wanting) = ap (list_any is_archive_event) wanting.1

says_silent : (result : Result (List FleetEnd) ErrorSeen) (lines : List Event) (ended : Ended) → SaysFleet result lines ended → IsSilent lines
says_silent (Ok ends) lines ended (inl told) = lines_silent (refusals ends) lines told.1
says_silent (Ok ends) lines ended (inr wanting) = lines_silent wanting.1.0 lines wanting.1.2.1
says_silent (Err e) lines ended says = error_silent e lines ended says

-- ---- archives

-- one of these members, the first of which has that place, has no failed command, and these stand before and behind it
pub record Among (failure : ℕ → Option Failure) (place : ℕ) (ms : List MemberSeen) : Type 0 where
  pub earlier : List MemberSeen
  pub member : MemberSeen
  pub later : List MemberSeen
  pub are : ms ≡ earlier ++ member ∷ later
  pub sound : failure (place + length earlier) ≡ None

module _ (s : Site) (cmds : List Planned) (failure : ℕ → Option Failure) where
  abbrev pub among_first : (place : ℕ) (m : MemberSeen) (ms : List MemberSeen) → failure place ≡ None → Among failure place (m ∷ ms)
  among_first place m ms sound = record {
    earlier = [];
    member = m;
    later = ms;
    are = refl;
    sound = let here : place ≡ place + 0 = omega arith in subst (λ n. failure n ≡ None) here sound;
  }

  abbrev pub among_next : (place : ℕ) (m : MemberSeen) (ms : List MemberSeen) → Among failure (suc place) ms → Among failure place (m ∷ ms)
  among_next place m ms a = record {
    earlier = m ∷ a.earlier;
    member = a.member;
    later = a.later;
    are = ap (λ l. m ∷ l) a.are;
    sound = let here : suc place + length a.earlier ≡ place + suc (length a.earlier) = omega arith in subst (λ n. failure n ≡ None) here a.sound;
  }

  -- an event of the library of a member is one of a member of which no command failed
  pub sound_member : (f : Option Failure) (m : MemberSeen) (answer : Result FleetEnd ErrorSeen) (part before after : List Event) (event : Event) (given left : ℕ) → EndsMember s cmds m f answer part given left → part ≡ before ++ event ∷ after → f ≡ None
  sound_member None m answer part before after event given left h is = refl
  sound_member (Some f) m answer part before after event given left h is = absurd (none_inside before after event (sym h.1 ∙ is))

  among_each : (place : ℕ) (ms : List MemberSeen) (ends : List FleetEnd) (part before after : List Event) (event : Event) (given left : ℕ) → EndsEach s cmds failure place ms ends part given left → part ≡ before ++ event ∷ after → Among failure place ms
  among_each place [] [] part before after event given left h is = absurd (none_inside before after event (sym h.0 ∙ is))
  among_each place [] (x ∷ xs) part before after event given left h is = absurd h
  among_each place (m ∷ ms) [] part before after event given left h is = absurd h
  among_each place (m ∷ ms) (x ∷ xs) part before after event given left h is = by_side (which h.0 h.1 before after event (sym h.3.0 ∙ is)) (λ more at. among_each (suc place) ms xs h.1 more after event h.2 left h.3.2 at)
    where
      by_side : ((rest : List Event) × ((h.0 ≡ before ++ event ∷ rest) × (after ≡ rest ++ h.1))) ⊎ ((more : List Event) × ((before ≡ h.0 ++ more) × (h.1 ≡ more ++ event ∷ after))) → ((more : List Event) → h.1 ≡ more ++ event ∷ after → Among failure (suc place) ms) → Among failure place (m ∷ ms)
      by_side (inl r) go = among_first place m ms (sound_member (failure place) m (Ok x) h.0 before r.0 event given h.2 h.3.1 r.1.0)
      by_side (inr r) go = among_next place m ms (go r.0 r.1.1)

  among_until : (place : ℕ) (ms : List MemberSeen) (e : ErrorSeen) (part before after : List Event) (event : Event) (given left : ℕ) → EndsUntil s cmds failure place ms e part given left → part ≡ before ++ event ∷ after → Among failure place ms
  among_until place [] e part before after event given left h is = absurd (none_inside before after event (sym h.1 ∙ is))
  among_until place (m ∷ ms) e part before after event given left (inl h) is = absurd (none_inside before after event (sym h.1 ∙ is))
  among_until place (m ∷ ms) e part before after event given left (inr (inl h)) is = among_first place m ms (sound_member (failure place) m (Err e) part before after event given left h is)
  among_until place (m ∷ ms) e part before after event given left (inr (inr h)) is = by_side (which h.1 h.2 before after event (sym h.4.0 ∙ is)) (λ more at. among_until (suc place) ms e h.2 more after event h.3 left h.4.2 at)
    where
      by_side : ((rest : List Event) × ((h.1 ≡ before ++ event ∷ rest) × (after ≡ rest ++ h.2))) ⊎ ((more : List Event) × ((before ≡ h.1 ++ more) × (h.2 ≡ more ++ event ∷ after))) → ((more : List Event) → h.2 ≡ more ++ event ∷ after → Among failure (suc place) ms) → Among failure place (m ∷ ms)
      by_side (inl r) go = among_first place m ms (sound_member (failure place) m (Ok h.0) h.1 before r.0 event given h.3 h.4.1 r.1.0)
      by_side (inr r) go = among_next place m ms (go r.0 r.1.1)

  among_to : (ms : List MemberSeen) (answer : Result (List FleetEnd) ErrorSeen) (part before after : List Event) (event : Event) (given left : ℕ) → EndsTo s cmds failure ms answer part given left → part ≡ before ++ event ∷ after → Among failure 0 ms
  among_to ms (Ok ends) part before after event given left h is = among_each 0 ms ends part before after event given left h is
  among_to ms (Err e) part before after event given left h is = among_until 0 ms e part before after event given left h is

module _ (c : Call) (ms : List MemberSeen) (ended : Ended) (r : RanFleet c ms ended) where
  abbrev pub s : Site
  s = site_of c

  abbrev pub members : List MemberSeen
  members = listed_members r.vars ms

  abbrev pub x : Means
  x = means_of c.turns c.before

  abbrev pub y : Means
  y = means_of r.left c.after

  -- how the part goes behind the plans and the run
  abbrev pub Ran : Type 0
  Ran = Finished s c.total members r.result r.run x y

  abbrev pub has_run : (f : Ran) → HasRun c ms (Listed r.vars ∷ (f.planning ++ f.running))
  has_run f = record {
    vars = r.vars;
    planning = f.planning;
    running = f.running;
    cut = refl;
    plans = f.plans;
    prepared = f.prepared;
    marks = f.marks;
    mid = f.mid;
    ran = f.ran;
  }

  -- a place in the libraries
  abbrev pub in_library : (f : Ran) (before more : List Event) → before ≡ (Listed r.vars ∷ (f.planning ++ f.running)) ++ more → Among (failure_of (owners f.plans) f.marks) 0 members → InLibrary c ms before
  in_library f before more cut a = record {
    front = Listed r.vars ∷ (f.planning ++ f.running);
    rest = more;
    cut = cut;
    run = has_run f;
    earlier = a.earlier;
    member = a.member;
    later = a.later;
    are = a.are;
    sound = let here : 0 + length a.earlier ≡ length a.earlier = omega arith in subst (λ n. failure_of (owners f.plans) f.marks n ≡ None) here a.sound;
  }

  -- the part, cut behind the run
  pub part_is : (f : Ran) → c.part ≡ (Listed r.vars ∷ (f.planning ++ f.running)) ++ (f.segments ++ r.lines)
  part_is f =
      r.cut ∙ ap (λ l. Listed r.vars ∷ (l ++ r.lines)) (f.cut ∙ sym (append_assoc f.planning f.running f.segments))
      ∙ ap (λ l. Listed r.vars ∷ l) (append_assoc (f.planning ++ f.running) f.segments r.lines)

  front_silent : (f : Ran) → IsSilent (Listed r.vars ∷ (f.planning ++ f.running))
  front_silent f =
      none_both is_archive_event f.planning f.running (plans_silent s members f.plans f.planning f.prepared.planned)
      (ran_silent (fleet_terms s c.total f.plans) (joined f.plans) f.running (Ok f.marks) x f.mid (joined_compile s members f.plans f.planning f.prepared.planned) f.ran)

  finished_order : (f : Ran) (before after : List Event) (event : Event) → c.part ≡ before ++ event ∷ after → is_archive_event event ≡ true → InLibrary c ms before
  finished_order f before after event is archives = by_side (which f.segments r.lines p.0 after event p.1.1)
    where
      p : (more : List Event) × ((before ≡ (Listed r.vars ∷ (f.planning ++ f.running)) ++ more) × (f.segments ++ r.lines ≡ more ++ event ∷ after))
      p = past is_archive_event (Listed r.vars ∷ (f.planning ++ f.running)) (f.segments ++ r.lines) before after event (front_silent f) archives (sym (part_is f) ∙ is)

      by_side : ((rest : List Event) × ((f.segments ≡ p.0 ++ event ∷ rest) × (after ≡ rest ++ r.lines))) ⊎ ((more : List Event) × ((p.0 ≡ f.segments ++ more) × (r.lines ≡ more ++ event ∷ after))) → InLibrary c ms before
      by_side (inl q) =
          in_library f before p.0 p.1.0 (among_to s (joined f.plans) (failure_of (owners f.plans) f.marks) members r.result f.segments p.0 q.0 event f.mid.left y.left f.ended q.1.0)
      by_side (inr q) = absurd (nowhere is_archive_event r.lines q.0 after event (says_silent r.result r.lines ended r.says) archives q.1.1)

  -- where no library was begun, no archive command stands in the part
  silent_order : IsSilent r.run → (before after : List Event) (event : Event) → c.part ≡ before ++ event ∷ after → is_archive_event event ≡ true → InLibrary c ms before
  silent_order none before after event is archives =
      let all : IsSilent (Listed r.vars ∷ (r.run ++ r.lines)) = none_both is_archive_event r.run r.lines none (says_silent r.result r.lines ended r.says) in
      absurd (nowhere is_archive_event (Listed r.vars ∷ (r.run ++ r.lines)) before after event all archives (sym r.cut ∙ is))

  until_silent : (ns : List MemberSeen) (e : ErrorSeen) (part : List Event) → PlansUntil s ns e part → IsSilent part
  until_silent [] e part h = ap (list_any is_archive_event) h.1
  until_silent (m ∷ ns) e part (inl h) = ap (list_any is_archive_event) h.1
  until_silent (m ∷ ns) e part (inr (inl h)) = planned_silent s m (Err e) part h
  until_silent (m ∷ ns) e part (inr (inr h)) = ap (list_any is_archive_event) h.3.0 ∙ none_both is_archive_event h.1 h.2 (planned_silent s m (Ok h.0) h.1 h.3.1) (until_silent ns e h.2 h.3.2)

  by_result : (result : Result (List FleetEnd) ErrorSeen) → Fleet s c.total members result r.run x y → (Finished s c.total members result r.run x y → ArchivesBehind c ms) → ArchivesBehind c ms
  by_result (Ok ends) f go = go f
  by_result (Err e) (inl h) go = silent_order (until_silent members e r.run h.0)
  by_result (Err e) (inr (inl h)) go = silent_order (plans_silent s members h.plans r.run h.planned)
  by_result (Err e) (inr (inr (inl h))) go =
      silent_order (ap (list_any is_archive_event) h.cut ∙ none_both is_archive_event h.planning h.running (plans_silent s members h.plans h.planning h.prepared.planned)
      (ran_silent (fleet_terms s c.total h.plans) (joined h.plans) h.running h.answer x y (joined_compile s members h.plans h.planning h.prepared.planned) h.ran))
  by_result (Err e) (inr (inr (inr f))) go = go f

  pub ran_order : ArchivesBehind c ms
  ran_order = by_result r.result r.fleet finished_order

listing_silent : (front : List Event) (e : ErrorSeen) → CaptureEnds front (Err e) → IsSilent front
listing_silent front e (inl k) = partly_silent no_terms (Calls Lists ∷ []) front no_means no_means refl (ended_partly {T = Unit {0}} no_terms None (Calls Lists ∷ []) front (Err e) no_means no_means (k no_terms no_means))
listing_silent front e (inr k) = partly_silent no_terms (Calls Lists ∷ []) front no_means no_means refl (ended_partly {T = Unit {0}} no_terms None (Calls Lists ∷ []) front (Ok tt) no_means no_means (k.1 no_terms no_means))

pub fleet_order : (c : Call) (ms : List MemberSeen) (ended : Ended) → AnswersFleet c ms ended → ArchivesBehind c ms
fleet_order c ms ended (inl r) = ran_order c ms ended r
fleet_order c ms ended (inr u) = λ before after event is archives.
    let all : IsSilent c.part = ap (list_any is_archive_event) u.2.cut ∙ none_both is_archive_event u.2.front u.2.line (listing_silent u.2.front u.2.error u.2.cause) (error_silent u.2.error u.2.line ended u.2.says) in
    absurd (nowhere is_archive_event c.part before after event all archives is)
