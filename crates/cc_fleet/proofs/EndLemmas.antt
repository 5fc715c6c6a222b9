-- How members are ended, one after another.
use Rattle.std.proofs.Common.{◌≡◌, ◌⊎◌, inl, inr, ℕ, suc, ◌+◌, ◌<◌, List, [], ◌∷◌, ◌++◌, length, take, drop, get_or, Option, Some, None, Result, Ok, Err, Bool, false, refl, sym, ◌∙◌, ap, subst, append_assoc, append-nil, arith}
use Rattle.std.proofs.lemmas.List.Sums.{sum_by-append}
use Rattle.cc_host.specs.Part.{since}
use Rattle.cc_host.specs.Question.{answers, Holds}
use Rattle.cc_host.proofs.Parts.{since_since}
use Rattle.cc_host.specs.declared.event.Event.{Event}
use Rattle.cc_host.specs.Command.{CommandSeen}
use Rattle.cc_host.specs.declared.event.Status.{Status}
use Rattle.cc_host.specs.declared.question.Outcome.{Outcome}
use Rattle.cc_host.specs.declared.question.Question.{Question}
use Rattle.cc_host.specs.declared.event.OutputKind.TheVariants.{Discard}
use Rattle.cc_plan.specs.Plan.{library_of}
use Rattle.cc_run.specs.Part.{turns, turns_of}
use Rattle.cc_run.specs.declared.error.RunError.TheVariants.{Failed}
use Rattle.cc_run.specs.declared.planned.Planned.{Planned}
use Rattle.cc_tool.proofs.SomeLemmas.{some_agree}
use Rattle.cc_build.specs.Archiving.{with_objects, Creates}
use Rattle.cc_build.specs.Build.{AsksByRun}
use Rattle.cc_build.specs.Error.{ErrorSeen, no_memory}
use Rattle.cc_build.specs.Linking.{DirectivesEnd, directive_error, directive_stages}
use Rattle.cc_build.specs.RunErrors.{run_error, command_at, error_of}
use Rattle.cc_build.specs.Stop.{failed_error}
use Rattle.cc_build.specs.Went.{Terms, Means, terms, means}
use Rattle.cc_build.specs.declared.error.ErrorKind.TheVariants.{NoMemory}
use Rattle.cc_build.proofs.TurnLaws.{ended_turns}
use Rattle.cc_fleet.specs.Failures.{Failure}
use Rattle.cc_fleet.specs.Fleet.{Site, MemberSeen, Segment, EndsBy, EndsBuilt, EndsMember, EndsEach, EndsUntil, library_at, objects_at, member_seen, members_seen, site}
use Rattle.cc_fleet.specs.declared.members.FleetEnd.{FleetEnd}
use Rattle.cc_fleet.specs.declared.members.Member.{Member}
use Rattle.cc_fleet.proofs.MemberLemmas.{parted, longer, before_it}

-- ---- the segment of a member

-- its library was refused, or was written and the link lines came behind it
module _ (s : Site) (m : MemberSeen) (listens : Bool) (objects : List (List ℕ)) (output : List ℕ) (own : objects ≡ objects_at m) (named : output ≡ m.output) (given : ℕ) (made : List Event) (asks : AsksByRun s.steady s.world (with_objects m.build objects) made) where
  its_asks : AsksByRun s.steady s.world (with_objects m.build (objects_at m)) made
  its_asks = subst (λ (o : List (List ℕ)). AsksByRun s.steady s.world (with_objects m.build o) made) own asks

  its_creates : (written : Result (List ℕ) ErrorSeen) → Holds (answers made) (λ look. Creates (with_objects m.build objects) listens s.patience given output written look made) → Holds (answers made) (λ look. Creates (with_objects m.build (objects_at m)) listens s.patience given m.output written look made)
  its_creates written creates =
      subst (λ (o : List (List ℕ)). Holds (answers made) (λ look. Creates (with_objects m.build o) listens s.patience given m.output written look made)) own
      (subst (λ (n : List ℕ). Holds (answers made) (λ look. Creates (with_objects m.build objects) listens s.patience given n written look made)) named creates)

  its_path : (library : List ℕ) → library ≡ library_of (with_objects m.build objects).config m.build.env output → library ≡ library_at m
  its_path library is = is ∙ ap (λ n. library_of m.build.config m.build.env n) named

  pub segment_refused : (e : ErrorSeen) → Holds (answers made) (λ look. Creates {T = List ℕ} (with_objects m.build objects) listens s.patience given output (Err e) look made) → Segment s m (Err e) made given
  segment_refused e creates = record {
    listens = listens;
    made = made;
    linked = [];
    cut = sym (append-nil made);
    written = Err e;
    path = tt;
    made_asks = its_asks;
    creates = its_creates (Err e) creates;
    links = (refl, refl);
  }

  pub segment_linked : (library path : List ℕ) (heard : Bool) (answer : Result (Unit {0}) ErrorSeen) (linked part : List Event) → Holds (answers made) (λ look. Creates (with_objects m.build objects) listens s.patience given output (Ok library) look made) → library ≡ library_of (with_objects m.build objects).config m.build.env output → part ≡ made ++ linked → path ≡ library → heard ≡ listens → AsksByRun s.steady s.world m.build linked → Holds (answers linked) (λ look. DirectivesEnd m.build heard path answer look linked) → Segment s m answer part given
  segment_linked library path heard answer linked part creates is cut at hears asked ends = record {
    listens = listens;
    made = made;
    linked = linked;
    cut = cut;
    written = Ok library;
    path = its_path library is;
    made_asks = its_asks;
    creates = its_creates (Ok library) creates;
    links = (
      asked,
      subst (λ (l : List ℕ). Holds (answers linked) (λ look. DirectivesEnd m.build listens l answer look linked)) at
          (subst (λ (h : Bool). Holds (answers linked) (λ look. DirectivesEnd m.build h path answer look linked)) hears ends),
    );
  }

-- ---- its turns

abbrev pub no_terms : Terms
no_terms = terms (record { warnings = false; debug = false; out = Discard; listens = false; stop = false }) None None

abbrev pub no_means : Means
no_means = means 0 0 0 0

-- link lines make none
pub links_still : (s : Site) (m : MemberSeen) (heard : Bool) (path : List ℕ) (answer : Result (Unit {0}) ErrorSeen) (linked : List Event) → AsksByRun s.steady s.world m.build linked → Holds (answers linked) (λ look. DirectivesEnd m.build heard path answer look linked) → turns linked ≡ 0
links_still s m heard path answer linked asked holds =
    let some = some_agree (answers linked) asked.once in
    let ends = holds.under some.0 some.1 in
    let sum : no_means.left + turns linked ≡ no_means.left = ended_turns no_terms (directive_error m.build.config m.build.env some.0 path) (directive_stages m.build.config m.build.env heard some.0 ends.0 path) linked answer no_means no_means (ends.1.1 no_terms no_means) in
    omega (arith, sum)

-- so what is left behind the library is left behind them
pub left_behind : (old mid new : List Event) (left given : ℕ) → mid ≡ old ++ since old mid → new ≡ mid ++ since mid new → left + turns (since old mid) ≡ given → turns (since mid new) ≡ 0 → left + turns (since old new) ≡ given
left_behind old mid new left given first second made still =
    let both : turns (since old new) ≡ turns (since old mid) + turns (since mid new) = ap turns (since_since old mid new first second) ∙ sum_by-append turns_of (since old mid) (since mid new) in
    omega (arith, both, made, still)

-- ---- what it makes of the member

-- a segment and what its answer makes of the member
pub built_by : (s : Site) (m : MemberSeen) (answer : Result (Unit {0}) ErrorSeen) (end : Result FleetEnd ErrorSeen) (part : List Event) (given left : ℕ) → Segment s m answer part given → EndsBy answer end → left + turns part ≡ given → EndsBuilt s m end part given left
built_by s m (Ok done) end part given left segment by sum = subst (λ e. EndsBuilt s m e part given left) (sym by) (segment, sum)
built_by s m (Err e) (Ok end) part given left segment by sum = subst (λ x. EndsBuilt s m (Ok x) part given left) (sym by.0) (segment, by.1, sum)
built_by s m (Err e) (Err error) part given left segment by sum = subst (λ x. EndsBuilt s m (Err x) part given left) (sym by.0) (segment, by.1, sum)

-- the error of a command that failed is want of memory where its place has none
failed_memory : (status : Status) (cmd : Option CommandSeen) → (error_of (failed_error status) cmd).kind ≡ NoMemory → error_of (failed_error status) cmd ≡ no_memory
unfolding failed_error
failed_memory status (Some cmd) kind = absurd (cc)
failed_memory status None kind = refl

pub failed_by_memory : (cmds : List Planned) (place : ℕ) (status : Status) (e : ErrorSeen) → (e ≡ run_error cmds (Failed place status)) ⊎ (e ≡ no_memory) → e.kind ≡ NoMemory → e ≡ no_memory
failed_by_memory cmds place status e (inl is) kind = is ∙ failed_memory status (command_at cmds place) (ap (λ (x : ErrorSeen). x.kind) (sym is) ∙ kind)
failed_by_memory cmds place status e (inr is) kind = is

pub failed_by_error : (cmds : List Planned) (place : ℕ) (status : Status) (e : ErrorSeen) → (e ≡ run_error cmds (Failed place status)) ⊎ (e ≡ no_memory) → (e.kind ≡ NoMemory → ⊥) → e ≡ run_error cmds (Failed place status)
failed_by_error cmds place status e (inl is) other = is
failed_by_error cmds place status e (inr is) other = absurd (other (ap (λ (x : ErrorSeen). x.kind) is))

-- on a host of the same patience, and of the same commands
pub ended_so : (steady : Bool) (world : Question → Outcome) (p q : Option ℕ) (cmds ds : List Planned) (m : MemberSeen) (failed : Option Failure) (answer : Result FleetEnd ErrorSeen) (part : List Event) (given left : ℕ) → p ≡ q → cmds ≡ ds → EndsMember (site steady world p) cmds m failed answer part given left → EndsMember (site steady world q) ds m failed answer part given left
ended_so steady world p q cmds ds m failed answer part given left same are h =
    subst (λ (o : Option ℕ). EndsMember (site steady world o) ds m failed answer part given left) same
    (subst (λ (l : List Planned). EndsMember (site steady world p) l m failed answer part given left) are h)

-- ---- members, one after another

module _ (s : Site) (cmds : List Planned) (failure : ℕ → Option Failure) where
  at_next : (place count : ℕ) → suc place + count ≡ place + suc count
  at_next place count = omega arith

  -- one member more has its end
  pub ends_more : (place : ℕ) (ms : List MemberSeen) (ends : List FleetEnd) (m : MemberSeen) (end : FleetEnd) (part more : List Event) (given mid left : ℕ) → EndsEach s cmds failure place ms ends part given mid → EndsMember s cmds m (failure (place + length ms)) (Ok end) more mid left → EndsEach s cmds failure place (ms ++ m ∷ []) (ends ++ end ∷ []) (part ++ more) given left
  ends_more place [] [] m end part more given mid left before is =
      let here : place + 0 ≡ place = omega arith in
      (more, [], left, (ap (λ l. l ++ more) before.0 ∙ sym (append-nil more), subst (λ g. EndsMember s cmds m (failure place) (Ok end) more g left) before.1 (subst (λ p. EndsMember s cmds m (failure p) (Ok end) more mid left) here is), (refl, refl)))
  ends_more place [] (x ∷ ends) m end part more given mid left before is = absurd before
  ends_more place (n ∷ ms) [] m end part more given mid left before is = absurd before
  ends_more place (n ∷ ms) (x ∷ ends) m end part more given mid left before is = (
    before.0,
    before.1 ++ more,
    before.2,
    (
      ap (λ l. l ++ more) before.3.0 ∙ append_assoc before.0 before.1 more,
      before.3.1,
      ends_more (suc place) ms ends m end before.1 more before.2 mid left before.3.2 (subst (λ p. EndsMember s cmds m (failure p) (Ok end) more mid left) (sym (at_next place (length ms))) is),
    ),
  )

  -- behind the first members the next one ended the call, or memory was wanted
  pub ends_stop : (place : ℕ) (ms : List MemberSeen) (ends : List FleetEnd) (rest : List MemberSeen) (e : ErrorSeen) (part more : List Event) (given mid left : ℕ) → EndsEach s cmds failure place ms ends part given mid → EndsUntil s cmds failure (place + length ms) rest e more mid left → EndsUntil s cmds failure place (ms ++ rest) e (part ++ more) given left
  ends_stop place [] [] rest e part more given mid left before stops =
      let here : place + 0 ≡ place = omega arith in
      subst (λ l. EndsUntil s cmds failure place rest e (l ++ more) given left) (sym before.0)
      (subst (λ g. EndsUntil s cmds failure place rest e more g left) before.1 (subst (λ p. EndsUntil s cmds failure p rest e more mid left) here stops))
  ends_stop place [] (x ∷ ends) rest e part more given mid left before stops = absurd before
  ends_stop place (n ∷ ms) [] rest e part more given mid left before stops = absurd before
  ends_stop place (n ∷ ms) (x ∷ ends) rest e part more given mid left before stops =
      inr (inr (
        x,
        before.0,
        before.1 ++ more,
        before.2,
        (
          ap (λ l. l ++ more) before.3.0 ∙ append_assoc before.0 before.1 more,
          before.3.1,
          ends_stop (suc place) ms ends rest e before.1 more before.2 mid left before.3.2 (subst (λ p. EndsUntil s cmds failure p rest e more mid left) (sym (at_next place (length ms))) stops),
        ),
      ))

  -- memory was wanted before the next one
  pub ends_want : (place : ℕ) (rest : List MemberSeen) (given : ℕ) → EndsUntil s cmds failure place rest no_memory [] given given
  ends_want place [] given = (refl, refl, refl)
  ends_want place (m ∷ ms) given = inl (refl, refl, refl)

  -- by another table of failures, which has the same for each of them
  pub each_by : (other : ℕ → Option Failure) (place : ℕ) (ms : List MemberSeen) (ends : List FleetEnd) (part : List Event) (given left : ℕ) → ((k : ℕ) → k < place + length ms → failure k ≡ other k) → EndsEach s cmds failure place ms ends part given left → EndsEach s cmds other place ms ends part given left
  each_by other place [] [] part given left same h = h
  each_by other place [] (x ∷ ends) part given left same h = absurd h
  each_by other place (m ∷ ms) [] part given left same h = absurd h
  each_by other place (m ∷ ms) (x ∷ ends) part given left same h =
      let here : place < place + length (m ∷ ms) = omega arith in
      let next : (k : ℕ) → k < suc place + length ms → failure k ≡ other k = λ k l. same k (let n = at_next place (length ms) in omega (arith, n, l)) in
      (h.0, h.1, h.2, (h.3.0, subst (λ (f : Option Failure). EndsMember s cmds m f (Ok x) h.0 given h.2) (same place here) h.3.1, each_by other (suc place) ms ends h.1 h.2 left next h.3.2))

  pub until_by : (other : ℕ → Option Failure) (place : ℕ) (ms : List MemberSeen) (e : ErrorSeen) (part : List Event) (given left : ℕ) → ((k : ℕ) → k < place + length ms → failure k ≡ other k) → EndsUntil s cmds failure place ms e part given left → EndsUntil s cmds other place ms e part given left
  until_by other place [] e part given left same h = h
  until_by other place (m ∷ ms) e part given left same (inl h) = inl h
  until_by other place (m ∷ ms) e part given left same (inr (inl h)) =
      let here : place < place + length (m ∷ ms) = omega arith in
      inr (inl (subst (λ (f : Option Failure). EndsMember s cmds m f (Err e) part given left) (same place here) h))
  until_by other place (m ∷ ms) e part given left same (inr (inr h)) =
      let here : place < place + length (m ∷ ms) = omega arith in
      let next : (k : ℕ) → k < suc place + length ms → failure k ≡ other k = λ k l. same k (let n = at_next place (length ms) in omega (arith, n, l)) in
      inr (inr (h.0, h.1, h.2, h.3, (h.4.0, subst (λ (f : Option Failure). EndsMember s cmds m f (Ok h.0) h.1 given h.3) (same place here) h.4.1, until_by other (suc place) ms e h.2 h.3 left next h.4.2)))

  -- ---- members of a list

  module _ {W : Type 0} (members : List (Member W)) (i : ℕ) (m : Member W) (old mid new : List Event) (within : i < length members) (is : m ≡ get_or members i m) (first : mid ≡ old ++ since old mid) (second : new ≡ mid ++ since mid new) (ends : List FleetEnd) (given middle left : ℕ) (before : EndsEach s cmds failure 0 (members_seen (take i members)) ends (since old mid) given middle) where
    both : since old mid ++ since mid new ≡ since old new
    both = sym (since_since old mid new first second)

    here : i ≡ 0 + length (members_seen (take i members))
    here = let n = before_it members i m within is in omega (arith, n)

    -- it has its end
    pub ends_next : (end : FleetEnd) → EndsMember s cmds (member_seen m) (failure i) (Ok end) (since mid new) middle left → EndsEach s cmds failure 0 (members_seen (take (i + 1) members)) (ends ++ end ∷ []) (since old new) given left
    ends_next end ended =
        subst (λ (ms : List MemberSeen). EndsEach s cmds failure 0 ms (ends ++ end ∷ []) (since old new) given left) (sym (longer members i m within is))
        (subst (λ (l : List Event). EndsEach s cmds failure 0 (members_seen (take i members) ++ member_seen m ∷ []) (ends ++ end ∷ []) l given left) both
        (ends_more 0 (members_seen (take i members)) ends (member_seen m) end (since old mid) (since mid new) given middle left before
        (subst (λ (n : ℕ). EndsMember s cmds (member_seen m) (failure n) (Ok end) (since mid new) middle left) here ended)))

    stopped : (e : ErrorSeen) → EndsUntil s cmds failure (0 + length (members_seen (take i members))) (member_seen m ∷ members_seen (drop (i + 1) members)) e (since mid new) middle left → EndsUntil s cmds failure 0 (members_seen members) e (since old new) given left
    stopped e stops =
        subst (λ (ms : List MemberSeen). EndsUntil s cmds failure 0 ms e (since old new) given left) (sym (parted members i m within is))
        (subst (λ (l : List Event). EndsUntil s cmds failure 0 (members_seen (take i members) ++ (member_seen m ∷ members_seen (drop (i + 1) members))) e l given left) both
        (ends_stop 0 (members_seen (take i members)) ends (member_seen m ∷ members_seen (drop (i + 1) members)) e (since old mid) (since mid new) given middle left before stops))

    -- it ended the call
    pub ends_refused : (e : ErrorSeen) → EndsMember s cmds (member_seen m) (failure i) (Err e) (since mid new) middle left → EndsUntil s cmds failure 0 (members_seen members) e (since old new) given left
    ends_refused e ended = stopped e (inr (inl (subst (λ (n : ℕ). EndsMember s cmds (member_seen m) (failure n) (Err e) (since mid new) middle left) here ended)))

    -- it has its end, for which memory was wanted
    pub ends_wanting : (end : FleetEnd) → EndsMember s cmds (member_seen m) (failure i) (Ok end) (since mid new) middle left → EndsUntil s cmds failure 0 (members_seen members) no_memory (since old new) given left
    ends_wanting end ended =
        let at_it : EndsMember s cmds (member_seen m) (failure (0 + length (members_seen (take i members)))) (Ok end) (since mid new) middle left =
        subst (λ (n : ℕ). EndsMember s cmds (member_seen m) (failure n) (Ok end) (since mid new) middle left) here ended in
        let behind = ends_want (suc (0 + length (members_seen (take i members)))) (members_seen (drop (i + 1) members)) left in
        stopped no_memory (inr (inr (end, since mid new, [], left, (sym (append-nil (since mid new)), at_it, behind))))
