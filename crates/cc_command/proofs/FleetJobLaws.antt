-- The job of a fleet: members that take the variables of the host, and the whole of it.
use Rattle.std.proofs.Common.{◌≡◌, inl, ℕ, zero, suc, ◌+◌, ◌<◌, List, [], ◌∷◌, ◌++◌, length, map, take, drop, get_or, slice_set, Bool, Option, Result, Ok, Err, OnOk, refl, sym, ◌∙◌, ap, ap₂, subst, append-nil, take_all, ◌≤◌, arith}
use Rattle.cc_env.specs.Snapshot.{snapshot_of}
use Rattle.cc_env.proofs.SnapshotLemmas.{snapshot_distinct, snapshot_own}
use Rattle.cc_host.specs.declared.event.Event.{Event}
use Rattle.cc_host.specs.declared.event.Event.TheVariants.{Listed}
use Rattle.cc_host.specs.declared.question.Outcome.{Outcome}
use Rattle.cc_host.specs.declared.question.Question.{Question}
use Rattle.cc_build.specs.Build.{BuildSeen}
use Rattle.cc_build.specs.Captured.{Captures, with_vars}
use Rattle.cc_build.specs.Course.{course}
use Rattle.cc_build.specs.Error.{ErrorSeen}
use Rattle.cc_build.specs.Went.{Means}
use Rattle.cc_fleet.specs.Fleet.{MemberSeen, IsFleet, member_seen, members_seen}
use Rattle.cc_fleet.specs.declared.members.FleetEnd.{FleetEnd}
use Rattle.cc_fleet.specs.declared.members.Member.{Member}
use Rattle.cc_command.specs.Answer.{AnswersError}
use Rattle.cc_command.specs.Call.{Call, Counts, means_of}
use Rattle.cc_command.specs.Fleets.{AnswersFleet, SaysFleet, TakesListed, listed_member, listed_members}
use Rattle.cc_command.specs.declared.ended.Ended.{Ended}

-- a member, as the code has it, with the snapshot of these variables
abbrev pub with_listed : {W : Type 0} → List (List ℕ × List ℕ) → Member W → Member W
with_listed vars m = record m { build = record m.build { env = with_vars m.build.env vars } }

pub seen_listed : {W : Type 0} (vars : List (List ℕ × List ℕ)) (ms : List (Member W)) → members_seen (map (with_listed vars) ms) ≡ listed_members vars (members_seen ms)
seen_listed vars [] = refl
seen_listed vars (m ∷ ms) = ap (λ l. listed_member vars (member_seen m) ∷ l) (seen_listed vars ms)

-- one member more
module _ {X : Type 0} (f : X → X) where
  get_next : (xs : List X) (i : ℕ) (d : X) → i < length xs → get_or (map f (take i xs) ++ drop i xs) i d ≡ get_or xs i d
  get_next [] i d within = absurd (omega (arith, within))
  get_next (x ∷ xs) zero d within = refl
  get_next (x ∷ xs) (suc i) d within = get_next xs i d (omega (arith, within))

  set_next : (xs : List X) (i : ℕ) (d : X) → i < length xs → slice_set (map f (take i xs) ++ drop i xs) i (f (get_or xs i d)) ≡ map f (take (suc i) xs) ++ drop (suc i) xs
  set_next [] i d within = absurd (omega (arith, within))
  set_next (x ∷ xs) zero d within = refl
  set_next (x ∷ xs) (suc i) d within = ap (λ l. f x ∷ l) (set_next xs i d (omega (arith, within)))

  pub put_next : (xs ys : List X) (i : ℕ) (d new : X) → i < length xs → ys ≡ map f (take i xs) ++ drop i xs → new ≡ f (get_or ys i d) → slice_set ys i new ≡ map f (take (i + 1) xs) ++ drop (i + 1) xs
  put_next xs ys i d new within is made =
      let next : suc i ≡ i + 1 = omega arith in
      let here : get_or ys i d ≡ get_or xs i d = ap (λ l. get_or l i d) is ∙ get_next xs i d within in
      ap (λ n. slice_set ys i n) (made ∙ ap f here) ∙ ap (λ l. slice_set l i (f (get_or xs i d))) is ∙ set_next xs i d within
      ∙ ap (λ n. map f (take n xs) ++ drop n xs) next

none_behind : {X : Type 0} (n : ℕ) (xs : List X) → length xs ≤ n → drop n xs ≡ []
none_behind zero [] all = refl
none_behind (suc n) [] all = refl
none_behind zero (x ∷ xs) all = absurd (omega (arith, all))
none_behind (suc n) (x ∷ xs) all = none_behind n xs (omega (arith, all))

pub all_put : {W : Type 0} (vars : List (List ℕ × List ℕ)) (ms items : List (Member W)) (i n : ℕ) → length ms ≤ i → n ≡ length ms → length items ≡ length ms → items ≡ map (with_listed vars) (take i ms) ++ drop i ms → members_seen (take n (items ++ drop (length items) ms)) ≡ listed_members vars (members_seen ms)
all_put vars ms items i n done count same is =
    let whole : items ≡ map (with_listed vars) ms = is ∙ ap₂ (λ a b. map (with_listed vars) a ++ b) (take_all i ms done) (none_behind i ms done) ∙ append-nil (map (with_listed vars) ms) in
    let tail : items ++ drop (length items) ms ≡ items = ap (λ l. items ++ l) (none_behind (length items) ms (omega (arith, same))) ∙ append-nil items in
    ap members_seen (ap (take n) tail ∙ take_all n items (omega (arith, count, same)) ∙ whole) ∙ seen_listed vars ms

pub on_ok_map : {X E : Type 0} {P Q : Type 0} (r : Result X E) → (P → Q) → OnOk r P → OnOk r Q
on_ok_map (Ok x) f h = f h
on_ok_map (Err e) f h = h

-- the snapshot of a snapshot is that
listed_again : (vars : List (List ℕ × List ℕ)) (ms : List MemberSeen) → listed_members (snapshot_of vars) ms ≡ listed_members vars ms
listed_again vars ms =
    ap (λ (v : List (List ℕ × List ℕ)). map (λ (m : MemberSeen). record { output = m.output; build = record m.build { env = record m.build.env { inherited = v } } }) ms) (snapshot_own (snapshot_of vars) (snapshot_distinct vars))

-- what a build captured, members took
pub takes_listed : (old new : BuildSeen) (part : List Event) (ms ns : List MemberSeen) (vars : List (List ℕ × List ℕ)) → Captures old new part → vars ≡ new.env.inherited → ns ≡ listed_members vars ms → TakesListed ms ns part
takes_listed old new part ms ns vars k are is =
    let taken : vars ≡ snapshot_of k.vars = are ∙ ap (λ (b : BuildSeen). b.env.inherited) k.is in
    (k.vars, (k.listed, is ∙ ap (λ v. listed_members v ms) taken ∙ listed_again k.vars ms))

-- the variables were listed, and the fleet came to this
pub ran_so : (listens steady : Bool) (world : Question → Outcome) (p q total : Option ℕ) → p ≡ q → (turns left : ℕ) (before after : Counts) (front run lines part : List Event) (ms ns : List MemberSeen) (result : Result (List FleetEnd) ErrorSeen) (ended : Ended)
    → TakesListed ms ns front → part ≡ (front ++ run) ++ lines → IsFleet steady world ns result run (course total p (means_of turns before) (means_of left after)) → SaysFleet result lines ended
    → AnswersFleet (record { listens = listens; patience = q; steady = steady; world = world; total = total; turns = turns; before = before; after = after; part = part }) ms ended
ran_so listens steady world p q total same turns left before after front run lines part ms ns result ended k cut fleet says = inl (record {
  vars = k.0;
  run = run;
  lines = lines;
  cut = cut ∙ ap (λ l. (l ++ run) ++ lines) k.1.0;
  left = left;
  result = result;
  fleet =
      subst (λ (l : List MemberSeen). IsFleet steady world l result run (course total q (means_of turns before) (means_of left after))) k.1.1
      (subst (λ (o : Option ℕ). IsFleet steady world ns result run (course total o (means_of turns before) (means_of left after))) same fleet);
  says = says;
})
