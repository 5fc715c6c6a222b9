-- How plans are put together, and members planned one after another.
use Rattle.std.proofs.Common.{◌≡◌, inl, inr, ℕ, Bool, List, [], ◌∷◌, ◌++◌, length, map, replicate, take, drop, get_or, ◌<◌, ◌+◌, None, Result, Ok, Err, refl, sym, ◌∙◌, ap, subst, append_assoc, append-nil}
use Rattle.std.proofs.lemmas.Grind.{flat_map-append}
use Rattle.std.proofs.lemmas.List.{length-map, map-append}
use Rattle.cc_host.specs.Part.{since}
use Rattle.cc_host.specs.Question.{answers, Holds}
use Rattle.cc_host.proofs.Parts.{since_since}
use Rattle.cc_host.specs.declared.event.Event.{Event}
use Rattle.cc_plan.specs.Archive.{paths_of}
use Rattle.cc_tool.proofs.SomeLemmas.{some_agree}
use Rattle.cc_build.specs.Build.{AsksByRun}
use Rattle.cc_build.specs.Error.{ErrorSeen, no_memory}
use Rattle.cc_build.specs.Planning.{PlanningEnds}
use Rattle.cc_build.specs.declared.planning.CompilePlan.{CompilePlan}
use Rattle.cc_fleet.specs.Failures.{owners_of}
use Rattle.cc_fleet.specs.Joined.{first_shows}
use Rattle.cc_fleet.specs.Fleet.{Site, MemberSeen, IsPlanned, PlansEach, PlansUntil, Gathers, Joins, commands_of, joined, owners, objects_in, objects_at, shown_first, member_seen, members_seen}
use Rattle.cc_fleet.specs.declared.joined.Joined.{Joined}
use Rattle.cc_fleet.specs.declared.members.Member.{Member}
use Rattle.cc_fleet.proofs.MemberLemmas.{parted, longer}
use Rattle.cc_fleet.proofs.OwnerLemmas.{owners_next}

-- ---- plans, put together

-- no plan
pub gathers_none : (all : Joined) → all.commands.items ≡ [] → all.owners.items ≡ [] → all.objects.items ≡ [] → all.shows ≡ None → Gathers all []
gathers_none all c o p s = record { commands_are = c; owners_are = o; objects_are = p; shows_are = s }

shown_next : (plans : List CompilePlan) (plan : CompilePlan) → first_shows (shown_first plans) plan.shows ≡ shown_first (plans ++ plan ∷ [])
shown_next [] plan = refl
shown_next (p ∷ plans) plan = refl

-- one plan more
pub gathers_more : (old new : Joined) (plans : List CompilePlan) (plan : CompilePlan) → Gathers old plans → Joins old new plan → Gathers new (plans ++ plan ∷ [])
gathers_more old new plans plan g j = record {
  commands_are = j.commands_are ∙ ap (λ c. c ++ plan.commands.items) g.commands_are
      ∙ sym (flat_map-append commands_of plans (plan ∷ []) ∙ ap (λ c. joined plans ++ c) (append-nil plan.commands.items));
  owners_are = j.owners_are ∙ ap (λ o. o ++ replicate (length plan.commands.items) (length old.objects.items)) g.owners_are
      ∙ ap (λ n. owners plans ++ replicate (length plan.commands.items) n) count
      ∙ sym (ap owners_of (map-append commands_of plans (plan ∷ [])) ∙ owners_next (map commands_of plans) plan.commands.items);
  objects_are = j.objects_are ∙ ap (λ o. o ++ objects_in plan ∷ []) g.objects_are ∙ sym (map-append objects_in plans (plan ∷ []));
  shows_are = j.shows_are ∙ ap (λ s. first_shows s plan.shows) g.shows_are ∙ shown_next plans plan;
}
  where
    count : length old.objects.items ≡ length (map commands_of plans)
    count = ap length g.objects_are ∙ length-map plans objects_in ∙ sym (length-map plans commands_of)

-- ---- members, one after another

module _ (s : Site) where
  -- one member more was planned
  pub plans_more : (ms : List MemberSeen) (ps : List CompilePlan) (m : MemberSeen) (p : CompilePlan) (part more : List Event) → PlansEach s ms ps part → IsPlanned s m (Ok p) more → PlansEach s (ms ++ m ∷ []) (ps ++ p ∷ []) (part ++ more)
  plans_more [] [] m p part more before is = (more, [], (ap (λ l. l ++ more) before ∙ sym (append-nil more), is, refl))
  plans_more [] (q ∷ ps) m p part more before is = absurd before
  plans_more (n ∷ ms) [] m p part more before is = absurd before
  plans_more (n ∷ ms) (q ∷ ps) m p part more before is =
      (before.0, before.1 ++ more, (ap (λ l. l ++ more) before.2.0 ∙ append_assoc before.0 before.1 more, before.2.1, plans_more ms ps m p before.1 more before.2.2 is))

  -- behind the first members the next one was refused, or memory was wanted
  pub plans_stop : (ms : List MemberSeen) (ps : List CompilePlan) (rest : List MemberSeen) (e : ErrorSeen) (part more : List Event) → PlansEach s ms ps part → PlansUntil s rest e more → PlansUntil s (ms ++ rest) e (part ++ more)
  plans_stop [] [] rest e part more before stops = subst (λ l. PlansUntil s rest e (l ++ more)) (sym before) stops
  plans_stop [] (q ∷ ps) rest e part more before stops = absurd before
  plans_stop (n ∷ ms) [] rest e part more before stops = absurd before
  plans_stop (n ∷ ms) (q ∷ ps) rest e part more before stops =
      inr (inr (q, before.0, before.1 ++ more, (ap (λ l. l ++ more) before.2.0 ∙ append_assoc before.0 before.1 more, before.2.1, plans_stop ms ps rest e before.1 more before.2.2 stops)))

  -- the objects of a plan are those of its member
  planned_objects : (m : MemberSeen) (p : CompilePlan) (part : List Event) → IsPlanned s m (Ok p) part → objects_in p ≡ objects_at m
  planned_objects m p part is =
      let some = some_agree (answers part) is.asked.once in
      ap paths_of ((is.ends.under some.0 some.1).2.2.objects)

  pub plans_objects : (ms : List MemberSeen) (ps : List CompilePlan) (part : List Event) → PlansEach s ms ps part → map objects_in ps ≡ map objects_at ms
  plans_objects [] [] part each = refl
  plans_objects [] (p ∷ ps) part each = absurd each
  plans_objects (m ∷ ms) [] part each = absurd each
  plans_objects (m ∷ ms) (p ∷ ps) part each =
      ap (λ o. o ∷ map objects_in ps) (planned_objects m p each.0 each.2.1) ∙ ap (λ os. objects_at m ∷ os) (plans_objects ms ps each.1 each.2.2)

  -- memory was wanted before the next one
  pub wanting : (ms : List MemberSeen) → PlansUntil s ms no_memory []
  wanting [] = (refl, refl)
  wanting (m ∷ ms) = inl (refl, refl)

-- a call that plans a member says so
pub planned_so : (s : Site) (m : MemberSeen) (listens : Bool) (output : List ℕ) (answer : Result CompilePlan ErrorSeen) (part : List Event) → output ≡ m.output → AsksByRun s.steady s.world m.build part → Holds (answers part) (λ look. PlanningEnds m.build listens output answer look part) → IsPlanned s m answer part
planned_so s m listens output answer part named asked ends = record {
  listens = listens;
  asked = asked;
  ends = subst (λ (n : List ℕ). Holds (answers part) (λ look. PlanningEnds m.build listens n answer look part)) named ends;
}

-- one call behind another extends the log by both parts
pub extends_both : (old mid new : List Event) → mid ≡ old ++ since old mid → new ≡ mid ++ since mid new → new ≡ old ++ since old new
extends_both old mid new first second =
    second ∙ ap (λ l. l ++ since mid new) first ∙ append_assoc old (since old mid) (since mid new) ∙ ap (λ l. old ++ l) (sym (since_since old mid new first second))

-- ---- members of a list

module _ {W : Type 0} (s : Site) (members : List (Member W)) (i : ℕ) (m : Member W) (old mid new : List Event) (within : i < length members) (is : m ≡ get_or members i m) (first : mid ≡ old ++ since old mid) (second : new ≡ mid ++ since mid new) where
  both : since old mid ++ since mid new ≡ since old new
  both = sym (since_since old mid new first second)

  -- it was planned
  pub plans_next : (ps : List CompilePlan) (p : CompilePlan) → PlansEach s (members_seen (take i members)) ps (since old mid) → IsPlanned s (member_seen m) (Ok p) (since mid new) → PlansEach s (members_seen (take (i + 1) members)) (ps ++ p ∷ []) (since old new)
  plans_next ps p before planned =
      subst (λ ms. PlansEach s ms (ps ++ p ∷ []) (since old new)) (sym (longer members i m within is))
      (subst (λ l. PlansEach s (members_seen (take i members) ++ member_seen m ∷ []) (ps ++ p ∷ []) l) both
      (plans_more s (members_seen (take i members)) ps (member_seen m) p (since old mid) (since mid new) before planned))

  -- its plan was refused
  pub plans_refused : (ps : List CompilePlan) (e : ErrorSeen) → PlansEach s (members_seen (take i members)) ps (since old mid) → IsPlanned s (member_seen m) (Err e) (since mid new) → PlansUntil s (members_seen members) e (since old new)
  plans_refused ps e before refused =
      subst (λ ms. PlansUntil s ms e (since old new)) (sym (parted members i m within is))
      (subst (λ l. PlansUntil s (members_seen (take i members) ++ (member_seen m ∷ members_seen (drop (i + 1) members))) e l) both
      (plans_stop s (members_seen (take i members)) ps (member_seen m ∷ members_seen (drop (i + 1) members)) e (since old mid) (since mid new) before (inr (inl refused))))

  -- it was planned, and memory was wanted for its commands
  pub plans_wanting : (ps : List CompilePlan) (p : CompilePlan) → PlansEach s (members_seen (take i members)) ps (since old mid) → IsPlanned s (member_seen m) (Ok p) (since mid new) → PlansUntil s (members_seen members) no_memory (since old new)
  plans_wanting ps p before planned =
      subst (λ ms. PlansUntil s ms no_memory (since old new)) (sym (parted members i m within is))
      (subst (λ l. PlansUntil s (members_seen (take i members) ++ (member_seen m ∷ members_seen (drop (i + 1) members))) no_memory l) both
      (plans_stop s (members_seen (take i members)) ps (member_seen m ∷ members_seen (drop (i + 1) members)) no_memory (since old mid) (since mid new) before
      (inr (inr (p, since mid new, [], (sym (append-nil (since mid new)), planned, wanting s (members_seen (drop (i + 1) members))))))))
