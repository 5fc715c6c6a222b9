-- A call asks its questions between steps that ask none.
use Rattle.std.proofs.Common.{◌≡◌, ℕ, List, [], ◌∷◌, ◌++◌, Bool, true, false, if◌then◌else◌, refl, sym, ◌∙◌, ap, subst, add-zero, append-nil, rules}
use Rattle.std.specs.List.{All}
use Rattle.std.proofs.lemmas.Grind.{flat_map-append}
use Rattle.std.proofs.Math.Seq.{drop-append_seam}
use Rattle.cc_host.specs.declared.event.Event.{Event}
use Rattle.cc_host.specs.declared.event.Event.TheVariants.{Answered, Reused, Unasked, Drawn, Opened, Taken, Dropped, Made, Fault, Ran, Missing, Removed, Wrote, Copied, Here, Said, Printed, Listed}
use Rattle.cc_host.specs.declared.event.HostCall.{HostCall}
use Rattle.cc_host.specs.declared.event.HostCall.TheVariants.{Probe, MakeDir, CreateProbe}
use Rattle.cc_host.specs.declared.event.Scope.TheVariants.{Build, Probe as ForProbes}
use Rattle.cc_host.specs.declared.event.Why.{Why}
use Rattle.cc_host.specs.declared.question.Outcome.{Outcome}
use Rattle.cc_host.specs.declared.question.Question.{Question}
use Rattle.std.specs.List.{list_all}
use Rattle.std.proofs.lemmas.Bool.{and_parts}
use Rattle.cc_host.specs.Part.{since, is_probing, step_of, done, stop_of, stops, IsWhole}
use Rattle.cc_host.proofs.Parts.{since_since}
use Rattle.cc_host.specs.Probe.{open_of, opens, drop_of, drops}
use Rattle.cc_host.specs.Question.{Look, Answer, answers, answer_of, NoTwice, Agrees, Holds}
use Rattle.cc_tool.specs.Asked.{question_event, question_events, start, Asked}
use Rattle.cc_tool.specs.Asks.{Asks, IsWorlds}
use Rattle.cc_tool.specs.Excused.{Excused, IsExcused, weight, weight_after}
use Rattle.cc_tool.specs.Founded.{Founded, IsFounded, is_probe_fault}
use Rattle.cc_tool.specs.Own.{AnswersAmong}
use Rattle.cc_tool.proofs.ProbingLemmas.{founded_then}
use Rattle.cc_tool.specs.Probing.{is_asked, Follows, May, Stand, stand, stand_after}

-- an event that no question leaves
abbrev IsAside : Event → Type 0
IsAside event = is_asked event ≡ false

front_none : (b : Bool) (event : Event) (rest : List Event) → (if b then event ∷ [] else []) ++ rest ≡ [] → (b ≡ false) × (rest ≡ [])
front_none true event rest e = absurd (cc)
front_none false event rest e = (refl, e)

aside : (event : Event) (part : List Event) → question_events (event ∷ part) ≡ [] → IsAside event × (question_events part ≡ [])
aside event part e = front_none (is_asked event) event (question_events part) e

no_answer : (event : Event) → IsAside event → answer_of event ≡ []
no_answer (Answered question files outcome) h = absurd (cc)
no_answer (Reused question verdict) h = absurd (cc)
no_answer (Unasked question) h = absurd (cc)
no_answer event h = refl

pub aside_answers : (part : List Event) → question_events part ≡ [] → answers part ≡ []
aside_answers [] e = refl
aside_answers (event ∷ part) e = let k = aside event part e in ap (λ l. l ++ answers part) (no_answer event k.0) ∙ aside_answers part k.1

no_open : (event : Event) → IsAside event → open_of event ≡ []
no_open (Opened path bytes) h = absurd (cc)
no_open event h = refl

aside_opens : (part : List Event) → question_events part ≡ [] → opens part ≡ []
aside_opens [] e = refl
aside_opens (event ∷ part) e = let k = aside event part e in ap (λ l. l ++ opens part) (no_open event k.0) ∙ aside_opens part k.1

no_drop : (event : Event) → IsAside event → drop_of event ≡ []
no_drop (Dropped path) h = absurd (cc)
no_drop event h = refl

aside_drops : (part : List Event) → question_events part ≡ [] → drops part ≡ []
aside_drops [] e = refl
aside_drops (event ∷ part) e = let k = aside event part e in ap (λ l. l ++ drops part) (no_drop event k.0) ∙ aside_drops part k.1

real_weight : (n : ℕ) (call : HostCall) (why : Why) → is_probing call ≡ false → weight_after n (Fault call why) ≡ n
real_weight n Probe why h = absurd (cc)
real_weight n CreateProbe why h = absurd (cc)
real_weight n (MakeDir ForProbes) why h = absurd (cc)
real_weight n (MakeDir Build) why h = add-zero n
real_weight n call why h = add-zero n

no_weight : (n : ℕ) (event : Event) → IsAside event → weight_after n event ≡ n
no_weight n (Answered question files outcome) h = absurd (cc)
no_weight n (Reused question verdict) h = absurd (cc)
no_weight n (Unasked question) h = absurd (cc)
no_weight n (Taken path) h = absurd (cc)
no_weight n (Fault call why) h = real_weight n call why h
no_weight n event h = add-zero n

aside_weight : (n : ℕ) (part : List Event) → question_events part ≡ [] → weight n part ≡ n
aside_weight n [] e = refl
aside_weight n (event ∷ part) e = let k = aside event part e in ap (λ m. weight m part) (no_weight n event k.0) ∙ aside_weight n part k.1

no_excuse : (n : ℕ) (event : Event) → IsAside event → IsExcused n event
no_excuse n (Unasked question) h = absurd (cc)
no_excuse n event h = tt

aside_excused : (n : ℕ) (part : List Event) → question_events part ≡ [] → Excused n part
aside_excused n [] e = tt
aside_excused n (event ∷ part) e = let k = aside event part e in (no_excuse n event k.0, aside_excused (weight_after n event) part k.1)

founded_event : (failed : Bool) (event : Event) → IsAside event → IsFounded failed event
founded_event failed (Answered question files outcome) h = absurd (cc)
founded_event failed (Reused question verdict) h = absurd (cc)
founded_event failed event h = tt

aside_founded : (failed : Bool) (part : List Event) → question_events part ≡ [] → Founded failed part
aside_founded failed [] e = tt
aside_founded failed (event ∷ part) e = let k = aside event part e in (founded_event failed event k.0, aside_founded (is_probe_fault event) part k.1)

may_aside : (dir : List ℕ) (s : Stand) (event : Event) → IsAside event → May dir s event
may_aside dir s (Answered question files outcome) h = absurd (cc)
may_aside dir s (Opened path bytes) h = absurd (cc)
may_aside dir s (Taken path) h = absurd (cc)
may_aside dir s (Made ForProbes path) h = absurd (cc)
may_aside dir s event h = tt

aside_follows : (dir : List ℕ) (s : Stand) (part : List Event) → question_events part ≡ [] → Follows dir s part
aside_follows dir s [] e = tt
aside_follows dir s (event ∷ part) e = let k = aside event part e in (may_aside dir s event k.0, aside_follows dir (stand_after s event) part k.1)

same_files : (s : Stand) (event : Event) → IsAside event → (stand_after s event).files ≡ s.files
same_files s (Opened path bytes) h = absurd (cc)
same_files s (Dropped path) h = absurd (cc)
same_files s (Drawn word) h = absurd (cc)
same_files s event h = refl

aside_files : (s : Stand) (part : List Event) → question_events part ≡ [] → (stand s part).files ≡ s.files
aside_files s [] e = refl
aside_files s (event ∷ part) e = let k = aside event part e in aside_files (stand_after s event) part k.1 ∙ same_files s event k.0

at_start : (event : Event) → IsAside event → stand_after start event ≡ start
at_start (Opened path bytes) h = absurd (cc)
at_start (Dropped path) h = refl
at_start (Drawn word) h = absurd (cc)
at_start event h = refl

aside_stand : (part : List Event) → question_events part ≡ [] → stand start part ≡ start
aside_stand [] e = refl
aside_stand (event ∷ part) e = let k = aside event part e in ap (λ s. stand s part) (at_start event k.0) ∙ aside_stand part k.1

excused_on : (n : ℕ) (a b : List Event) → Excused n a → Excused (weight n a) b → Excused n (a ++ b)
excused_on n [] b h k = k
excused_on n (event ∷ a) b h k = (h.0, excused_on (weight_after n event) a b h.1 k)

follows_on : (dir : List ℕ) (s : Stand) (a b : List Event) → Follows dir s a → Follows dir (stand s a) b → Follows dir s (a ++ b)
follows_on dir s [] b h k = k
follows_on dir s (event ∷ a) b h k = (h.0, follows_on dir (stand_after s event) a b h.1 k)

stand_on : (s : Stand) (a b : List Event) → stand s (a ++ b) ≡ stand (stand s a) b
stand_on s [] b = refl
stand_on s (event ∷ a) b = stand_on (stand_after s event) a b

-- the questions of one part are those of another with the same answers
own_same : (asks : Look → Question → Type 0) (part other : List Event) → answers other ≡ answers part → Holds (answers part) (λ look. AnswersAmong (asks look) part) → Holds (answers other) (λ look. AnswersAmong (asks look) other)
own_same asks part other e h = record { under = λ look a. subst (λ (l : List Answer). All (λ p. asks look p.0) l) (sym e) (h.under look (subst (λ (l : List Answer). Agrees look l) e a)) }

-- a part that asks nothing
pub asked_none : (steady : Bool) (world : Question → Outcome) (dir : List ℕ) (asks : Look → Question → Type 0) (part : List Event) → question_events part ≡ [] → Asked steady world dir asks part
asked_none steady world dir asks part e =
    let none : answers part ≡ [] = aside_answers part e in
    record {
      once = subst NoTwice (sym none) tt;
      closed = aside_drops part e ∙ sym (aside_opens part e);
      excused = aside_excused 0 part e;
      founded = aside_founded false part e;
      probing = aside_follows dir start part e;
      dropped = aside_files start part e;
      honest = λ _. subst (All (IsWorlds world)) (sym none) (search rules);
      own = record { under = λ look _. subst (λ (l : List Answer). All (λ p. asks look p.0) l) (sym none) (search rules) };
    }

module _ (steady : Bool) (world : Question → Outcome) (dir : List ℕ) (asks : Look → Question → Type 0) (a b c : List Event) (first : question_events a ≡ []) (last : question_events c ≡ []) where
  same_answers : answers (a ++ (b ++ c)) ≡ answers b
  same_answers =
      flat_map-append answer_of a (b ++ c) ∙ ap (λ l. l ++ answers (b ++ c)) (aside_answers a first) ∙ flat_map-append answer_of b c ∙ ap (λ l. answers b ++ l) (aside_answers c last) ∙ append-nil (answers b)

  opened : opens (a ++ (b ++ c)) ≡ opens b
  opened =
      flat_map-append open_of a (b ++ c) ∙ ap (λ l. l ++ opens (b ++ c)) (aside_opens a first) ∙ flat_map-append open_of b c ∙ ap (λ l. opens b ++ l) (aside_opens c last) ∙ append-nil (opens b)

  closed_too : drops (a ++ (b ++ c)) ≡ drops b
  closed_too =
      flat_map-append drop_of a (b ++ c) ∙ ap (λ l. l ++ drops (b ++ c)) (aside_drops a first) ∙ flat_map-append drop_of b c ∙ ap (λ l. drops b ++ l) (aside_drops c last) ∙ append-nil (drops b)

  -- questions between steps that ask nothing
  pub asked_around : Asked steady world dir asks b → Asked steady world dir asks (a ++ (b ++ c))
  asked_around k = record {
    once = subst NoTwice (sym same_answers) k.once;
    closed = closed_too ∙ k.closed ∙ sym opened;
    excused = excused_on 0 a (b ++ c) (aside_excused 0 a first) (subst (λ (n : ℕ). Excused n (b ++ c)) (sym (aside_weight 0 a first)) (excused_on 0 b c k.excused (aside_excused (weight 0 b) c last)));
    founded = founded_then a (b ++ c) (aside_founded false a first) (founded_then b c k.founded (aside_founded false c last));
    probing = follows_on dir start a (b ++ c) (aside_follows dir start a first) (subst (λ (s : Stand). Follows dir s (b ++ c)) (sym (aside_stand a first)) (follows_on dir start b c k.probing (aside_follows dir (stand start b) c last)));
    dropped = ap (λ (s : Stand). s.files) (stand_on start a (b ++ c) ∙ ap (λ s. stand s (b ++ c)) (aside_stand a first) ∙ stand_on start b c) ∙ aside_files (stand start b) c last ∙ k.dropped;
    honest = λ h. subst (All (IsWorlds world)) (sym same_answers) (k.honest h);
    own = own_same asks b (a ++ (b ++ c)) same_answers k.own;
  }

-- what a call that asks does alone
pub asked_by : (steady : Bool) (world : Question → Outcome) (dir : List ℕ) (asks : Look → Question → Type 0) (before after : List Event) (new : List Answer) → Asks steady world dir before after [] new → Holds new (λ look. AnswersAmong (asks look) (since before after)) → Asked steady world dir asks (since before after) × (new ≡ answers (since before after))
asked_by steady world dir asks before after new k own =
    let part : since before after ≡ k.part = ap (λ l. since before l) k.extends ∙ drop-append_seam before k.part in
    let given : new ≡ answers (since before after) = k.answered ∙ ap answers (sym part) in
    let here : Holds (answers k.part) (λ look. AnswersAmong (asks look) k.part) = subst (λ (p : List Event). Holds (answers p) (λ look. AnswersAmong (asks look) p)) part (subst (λ (l : List Answer). Holds l (λ look. AnswersAmong (asks look) (since before after))) given own) in
    let all : Asked steady world dir asks k.part = record { once = subst NoTwice k.answered (k.once tt); closed = k.closed; excused = k.excused; founded = k.founded; probing = k.probing; dropped = k.dropped; honest = k.honest; own = here } in
    (subst (λ (p : List Event). Asked steady world dir asks p) (sym part) all, given)

fault_quiet : (b : Bool) (event : Event) → b ≡ true → (if b then [] else event ∷ []) ≡ []
fault_quiet true event h = refl
fault_quiet false event h = absurd (cc)

asked_step : (event : Event) → is_asked event ≡ true → step_of event ≡ []
asked_step (Ran role cmd pipes status out err) h = absurd (cc)
asked_step (Made Build path) h = absurd (cc)
asked_step (Removed path how) h = absurd (cc)
asked_step (Wrote path bytes) h = absurd (cc)
asked_step (Copied from to) h = absurd (cc)
asked_step (Here path) h = absurd (cc)
asked_step (Said message) h = absurd (cc)
asked_step (Printed kind bytes) h = absurd (cc)
asked_step (Listed vars) h = absurd (cc)
asked_step event h = refl

asked_stop : (event : Event) → is_asked event ≡ true → stop_of event ≡ []
asked_stop (Ran role cmd pipes status out err) h = absurd (cc)
asked_stop (Missing role cmd) h = absurd (cc)
asked_stop (Fault call why) h = fault_quiet (is_probing call) (Fault call why) h
asked_stop event h = refl

-- what questions leave is no step, and ends no run
quiet_of : (part : List Event) → list_all is_asked part ≡ true → IsWhole [] part
quiet_of [] h = record { done_all = refl; unstopped = refl }
quiet_of (event ∷ part) h =
    let k = and_parts (is_asked event) (list_all is_asked part) h in
    let rest = quiet_of part k.1 in
    record {
      done_all = ap (λ l. l ++ done part) (asked_step event k.0) ∙ rest.done_all;
      unstopped = ap (λ l. l ++ stops part) (asked_stop event k.0) ∙ rest.unstopped;
    }

pub asks_quiet : (steady : Bool) (world : Question → Outcome) (dir : List ℕ) (before after : List Event) (old new : List Answer) → Asks steady world dir before after old new → IsWhole [] (since before after)
asks_quiet steady world dir before after old new k =
    let part : since before after ≡ k.part = ap (λ l. since before l) k.extends ∙ drop-append_seam before k.part in
    subst (λ (p : List Event). IsWhole [] p) (sym part) (quiet_of k.part k.asked)

pub asks_extends : (steady : Bool) (world : Question → Outcome) (dir : List ℕ) (before after : List Event) (old new : List Answer) → Asks steady world dir before after old new → after ≡ before ++ since before after
asks_extends steady world dir before after old new k =
    let part : since before after ≡ k.part = ap (λ l. since before l) k.extends ∙ drop-append_seam before k.part in
    k.extends ∙ ap (λ l. before ++ l) (sym part)

-- no question is asked by two parts that ask none
pub none_then : (a b : List Event) → question_events a ≡ [] → question_events b ≡ [] → question_events (a ++ b) ≡ []
none_then a b h k = flat_map-append question_event a b ∙ ap (λ l. l ++ question_events b) h ∙ k

pub none_since : (old mid new : List Event) → mid ≡ old ++ since old mid → new ≡ mid ++ since mid new → question_events (since old mid) ≡ [] → question_events (since mid new) ≡ [] → question_events (since old new) ≡ []
none_since old mid new e f h k = ap question_events (since_since old mid new e f) ∙ none_then (since old mid) (since mid new) h k

-- questions behind a part that asks none, and before one that asks none
pub asked_behind : (steady : Bool) (world : Question → Outcome) (dir : List ℕ) (asks : Look → Question → Type 0) (old mid new : List Event) → mid ≡ old ++ since old mid → new ≡ mid ++ since mid new → question_events (since old mid) ≡ [] → Asked steady world dir asks (since mid new) → Asked steady world dir asks (since old new)
asked_behind steady world dir asks old mid new e f none k =
    subst (λ (p : List Event). Asked steady world dir asks p) (sym (since_since old mid new e f))
    (subst (λ (p : List Event). Asked steady world dir asks (since old mid ++ p)) (append-nil (since mid new)) (asked_around steady world dir asks (since old mid) (since mid new) [] none refl k))

pub asked_before : (steady : Bool) (world : Question → Outcome) (dir : List ℕ) (asks : Look → Question → Type 0) (old mid new : List Event) → mid ≡ old ++ since old mid → new ≡ mid ++ since mid new → Asked steady world dir asks (since old mid) → question_events (since mid new) ≡ [] → Asked steady world dir asks (since old new)
asked_before steady world dir asks old mid new e f k none =
    subst (λ (p : List Event). Asked steady world dir asks p) (sym (since_since old mid new e f)) (asked_around steady world dir asks [] (since old mid) (since mid new) refl none k)

-- a wider description of the questions
pub asked_more : {steady : Bool} {world : Question → Outcome} {dir : List ℕ} {asks wider : Look → Question → Type 0} {part : List Event} → Asked steady world dir asks part → Holds (answers part) (λ look. (q : Question) → asks look q → wider look q) → Asked steady world dir wider part
asked_more k so = record {
  once = k.once;
  closed = k.closed;
  excused = k.excused;
  founded = k.founded;
  probing = k.probing;
  dropped = k.dropped;
  honest = k.honest;
  own = record { under = λ look a i d l. so.under look a _ (k.own.under look a i d l) };
}
