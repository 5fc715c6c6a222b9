-- Probe files as a log grows.
use Rattle.std.proofs.Common.{◌≡◌, ◌≢◌, subst, append_assoc, ℕ, zero, suc, ◌+◌, ◌<◌, Bool, true, false, ◌-◌, ◌^◌, List, [], ◌∷◌, ◌++◌, length, get_or, take, flat_map, bytes_eq, refl, sym, ◌∙◌, ap, arith, append-nil, replicate, Result, Ok, Err, if◌then◌else◌}
use Rattle.std.specs.List.{remove}
use Rattle.std.proofs.lemmas.List.Sums.{count_by_more_no}
use Rattle.std.proofs.lemmas.Slice.Eq.{bytes_eq-Decides}
use Rattle.std.proofs.lemmas.Grind.{common_steps, flat_map-append}
use Rattle.cc_host.specs.Probe.{open_of, drop_of, opens, drops, times, IsOpen, IsTidy}
use Rattle.cc_host.specs.Journal.{IsKept, IsQuiet, turn_of, turns, MayFollow, AreJoined}
use Rattle.cc_host.specs.Event.{apart, created}
use Rattle.cc_host.specs.declared.event.Created.{Created}
use Rattle.cc_host.specs.declared.event.Created.TheVariants.{New, Exists}
use Rattle.cc_host.specs.declared.event.HostError.{HostError}
use Rattle.cc_host.specs.declared.event.HostError.TheVariants.{Fault as Failed, NoMemory}
use Rattle.cc_host.specs.declared.event.Event.{Event}
use Rattle.cc_host.specs.declared.event.Event.TheVariants.{Opened, Dropped, Turn}

pub times_then : (path : List ℕ) (a b : List (List ℕ)) → times path (a ++ b) ≡ times path a + times path b
times_then path [] b = grind (arith, common_steps)
times_then path (p ∷ a) b = grind (arith, common_steps, times_then path a b)

same_events : (log es : List Event) → opens es ≡ [] → drops es ≡ [] → (opens (log ++ es) ≡ opens log) × (drops (log ++ es) ≡ drops log)
same_events log es o d = (
  flat_map-append open_of log es ∙ ap (λ l. opens log ++ l) o ∙ append-nil (opens log),
  flat_map-append drop_of log es ∙ ap (λ l. drops log ++ l) d ∙ append-nil (drops log),
)

-- events of no probe file leave the files as they were
pub kept_quiet : (log es : List Event) (files : List (List ℕ)) → opens es ≡ [] → drops es ≡ [] → IsKept log files → IsKept (log ++ es) files
kept_quiet log es files o d kept path =
    let s = same_events log es o d in
    rw (s.0, s.1) (kept path)

pub kept_open : (log : List Event) (files : List (List ℕ)) (path bytes : List ℕ) → IsKept log files → IsKept (log ++ Opened path bytes ∷ []) (files ++ path ∷ [])
kept_open log files path bytes kept other =
    let o : opens (log ++ Opened path bytes ∷ []) ≡ opens log ++ path ∷ [] = flat_map-append open_of log (Opened path bytes ∷ []) in
    let d : drops (log ++ Opened path bytes ∷ []) ≡ drops log ++ [] = flat_map-append drop_of log (Opened path bytes ∷ []) in
    rw (o, d, append-nil (drops log), times_then other files (path ∷ []), times_then other (opens log) (path ∷ [])) (omega (arith, kept other))

times_remove : (other path : List ℕ) (files : List (List ℕ)) (at : ℕ) → at < length files → get_or files at path ≡ path → times other files ≡ times other (remove files at) + times other (path ∷ [])
times_remove other path [] at lt is = absurd (omega arith)
times_remove other path (f ∷ files) zero lt is = grind (arith, common_steps)
times_remove other path (f ∷ files) (suc at) lt is = grind (arith, common_steps, times_remove other path files at (omega arith) is)

pub kept_drop : (log : List Event) (files : List (List ℕ)) (path : List ℕ) (at : ℕ) → at < length files → get_or files at path ≡ path → IsKept log files → IsKept (log ++ Dropped path ∷ []) (remove files at)
kept_drop log files path at lt is kept other =
    let o : opens (log ++ Dropped path ∷ []) ≡ opens log ++ [] = flat_map-append open_of log (Dropped path ∷ []) in
    let d : drops (log ++ Dropped path ∷ []) ≡ drops log ++ path ∷ [] = flat_map-append drop_of log (Dropped path ∷ []) in
    rw (o, d, append-nil (opens log), times_then other (drops log) (path ∷ [])) (omega (arith, kept other, times_remove other path files at lt is))

pub kept_tidy : (log : List Event) (files : List (List ℕ)) → IsKept log files → IsTidy log
kept_tidy log files kept path = omega (arith, kept path)

pub kept_has : (log : List Event) (files : List (List ℕ)) (path : List ℕ) → IsKept log files → IsOpen path log → times path files ≡ 0 → ⊥
kept_has log files path kept o none = omega (arith, kept path)

turns_open : (count : ℕ) → opens (replicate count (Turn 1)) ≡ []
turns_open zero = refl
turns_open (suc count) = turns_open count

turns_drop : (count : ℕ) → drops (replicate count (Turn 1)) ≡ []
turns_drop zero = refl
turns_drop (suc count) = turns_drop count

open_apart : (event : Event) → opens (apart event) ≡ open_of event
open_apart (Turn count) = turns_open count
open_apart (Opened path bytes) = refl
open_apart event = refl

drop_apart : (event : Event) → drops (apart event) ≡ drop_of event
drop_apart (Turn count) = turns_drop count
drop_apart (Dropped path) = refl
drop_apart event = refl

opens_apart : (es : List Event) → opens (flat_map apart es) ≡ opens es
opens_apart [] = refl
opens_apart (e ∷ es) = flat_map-append open_of (apart e) (flat_map apart es) ∙ ap (λ l. l ++ opens (flat_map apart es)) (open_apart e) ∙ ap (λ l. open_of e ++ l) (opens_apart es)

drops_apart : (es : List Event) → drops (flat_map apart es) ≡ drops es
drops_apart [] = refl
drops_apart (e ∷ es) = flat_map-append drop_of (apart e) (flat_map apart es) ∙ ap (λ l. l ++ drops (flat_map apart es)) (drop_apart e) ∙ ap (λ l. drop_of e ++ l) (drops_apart es)

-- the files stay as events of none are added to the list that stands for the log
pub kept_note : (events more es : List Event) (files : List (List ℕ)) → more ≡ events ++ es → IsQuiet es → IsKept (flat_map apart events) files → IsKept (flat_map apart more) files
kept_note events more es files e quiet kept =
    let all : flat_map apart more ≡ flat_map apart events ++ flat_map apart es = ap (flat_map apart) e ∙ flat_map-append apart events es in
    subst (λ log. IsKept log files) (sym all) (kept_quiet (flat_map apart events) (flat_map apart es) files (opens_apart es ∙ quiet.0) (drops_apart es ∙ quiet.1) kept)

pub kept_turn : (log new : List Event) (files : List (List ℕ)) → new ≡ log ++ Turn 1 ∷ [] → IsKept log files → IsKept new files
kept_turn log new files e kept = subst (λ l. IsKept l files) (sym e) (kept_quiet log (Turn 1 ∷ []) files refl refl kept)

-- the files stay as the list is only moved
pub kept_same : (events more : List Event) (files others : List (List ℕ)) → more ≡ events → others ≡ files → IsKept (flat_map apart events) files → IsKept (flat_map apart more) others
kept_same events more files others e f kept path = rw (e, f) (kept path)

pub kept_opened : (events more : List Event) (files others : List (List ℕ)) (path kept_path bytes : List ℕ) → more ≡ events ++ Opened path bytes ∷ [] → others ≡ files ++ kept_path ∷ [] → kept_path ≡ path → IsKept (flat_map apart events) files → IsKept (flat_map apart more) others
kept_opened events more files others path kept_path bytes e f same kept other =
    rw (e, f, same, flat_map-append apart events (Opened path bytes ∷ [])) (kept_open (flat_map apart events) files path bytes kept other)

pub kept_dropped : (events more : List Event) (files others : List (List ℕ)) (path gone : List ℕ) (at : ℕ) → more ≡ events ++ Dropped gone ∷ [] → others ≡ remove files at → gone ≡ path → at < length files → get_or files at path ≡ path → IsKept (flat_map apart events) files → IsKept (flat_map apart more) others
kept_dropped events more files others path gone at e f same lt is kept other =
    rw (e, f, same, flat_map-append apart events (Dropped path ∷ [])) (kept_drop (flat_map apart events) files path at lt is kept other)

-- the first places have none of the path
pub times_more : (path : List ℕ) (files : List (List ℕ)) (at : ℕ) (d : List ℕ) → at < length files → path ≢ get_or files at d → times path (take (at + 1) files) ≡ times path (take at files)
times_more path files at d lt differ = count_by_more_no (bytes_eq path) files at d lt (no_bytes path (get_or files at d) (bytes_eq path (get_or files at d)) refl differ)
  where
    no_bytes : (a b : List ℕ) (r : Bool) → bytes_eq a b ≡ r → a ≢ b → bytes_eq a b ≡ false
    no_bytes a b false e h = e
    no_bytes a b true e h = absurd (h ((bytes_eq-Decides a b).0 e))

no_drop : (path bytes : List ℕ) (r : Result Created HostError) → drops (created path bytes r) ≡ []
no_drop path bytes (Ok New) = refl
no_drop path bytes (Ok Exists) = refl
no_drop path bytes (Err NoMemory) = refl
no_drop path bytes (Err (Failed call why)) = refl

one_if : (b : Bool) → b ≡ true → 0 + (if b then 1 else 0) ≡ 1
one_if true e = refl
one_if false e = absurd (cc)

times_one : (path : List ℕ) → times path (path ∷ []) ≡ 1
times_one path = one_if (bytes_eq path path) ((bytes_eq-Decides path path).1 refl)

stands : (log part : List Event) (path bytes : List ℕ) → IsTidy log → drops part ≡ [] → IsOpen path ((log ++ Opened path bytes ∷ []) ++ part)
stands log part path bytes tidy none =
    let made : List Event = log ++ Opened path bytes ∷ [] in
    let o : opens (made ++ part) ≡ opens log ++ path ∷ opens part = flat_map-append open_of made part ∙ ap (λ l. l ++ opens part) (flat_map-append open_of log (Opened path bytes ∷ [])) ∙ append_assoc (opens log) (path ∷ []) (opens part) in
    let d : drops (made ++ part) ≡ drops log = flat_map-append drop_of made part ∙ ap (λ l. l ++ drops part) (flat_map-append drop_of log (Opened path bytes ∷ [])) ∙ ap (λ l. (drops log ++ []) ++ l) none ∙ append-nil (drops log ++ []) ∙ append-nil (drops log) in
    let t = tidy path in
    let one = times_one path in
    rw (o, d, times_then path (opens log) (path ∷ opens part), times_then path (path ∷ []) (opens part)) (omega (arith, t, one))

-- a probe file that was made stands behind the making of another
pub still_open : (a b c : List Event) (path bytes other more : List ℕ) (first second : Result Created HostError) → first ≡ Ok New → IsTidy a → b ≡ a ++ created path bytes first → c ≡ b ++ created other more second → IsOpen path c
still_open a b c path bytes other more first second new tidy is after =
    let e : b ≡ a ++ Opened path bytes ∷ [] = is ∙ ap (λ r. a ++ created path bytes r) new in
    subst (IsOpen path) (sym (after ∙ ap (λ l. l ++ created other more second) e)) (stands a (created other more second) path bytes tidy (no_drop other more second))

-- turns that stand as one event

may_follow : (e f : Event) → turn_of f ≡ [] → MayFollow e f
may_follow (Turn m) (Turn n) h = absurd (cc)
may_follow (Turn m) f h = tt
may_follow e f h = tt

both_nil : (a b : List ℕ) → a ++ b ≡ [] → (a ≡ []) × (b ≡ [])
both_nil [] b h = (refl, h)
both_nil (n ∷ a) b h = absurd (cc)

joined_from : (e : Event) (es : List Event) → turns es ≡ [] → AreJoined (e ∷ es)
joined_from e [] h = tt
joined_from e (f ∷ es) h =
    let none = both_nil (turn_of f) (turns es) h in
    (may_follow e f none.0, joined_from f es none.1)

joined_then : (events es : List Event) → turns es ≡ [] → AreJoined events → AreJoined (events ++ es)
joined_then [] [] h joined = tt
joined_then [] (f ∷ es) h joined = joined_from f es (both_nil (turn_of f) (turns es) h).1
joined_then (e ∷ []) es h joined = joined_from e es h
joined_then (e ∷ f ∷ events) es h joined = (joined.0, joined_then (f ∷ events) es h joined.1)

-- events of no turn are added
pub joined_note : (events more es : List Event) → more ≡ events ++ es → turns es ≡ [] → AreJoined events → AreJoined more
joined_note events more es e none joined = subst AreJoined (sym e) (joined_then events es none joined)

-- the list is only moved
pub joined_same : (events more : List Event) → more ≡ events → AreJoined events → AreJoined more
joined_same events more e joined = subst AreJoined (sym e) joined

any_count : (e : Event) (m n : ℕ) → MayFollow e (Turn m) → MayFollow e (Turn n)
any_count (Turn k) m n h = h
any_count e m n h = tt

another_count : (events : List Event) (m n : ℕ) → AreJoined (events ++ Turn m ∷ []) → AreJoined (events ++ Turn n ∷ [])
another_count [] m n joined = tt
another_count (e ∷ []) m n joined = (any_count e m n joined.0, tt)
another_count (e ∷ f ∷ events) m n joined = (joined.0, another_count (f ∷ events) m n joined.1)

-- the turns that stand last get another count
pub joined_count : (events more : List Event) (m n : ℕ) → more ≡ events ++ Turn n ∷ [] → AreJoined (events ++ Turn m ∷ []) → AreJoined more
joined_count events more m n e joined = subst AreJoined (sym e) (another_count events m n joined)

full_then : (events : List Event) (m n : ℕ) → m ≡ 2 ^ 64 - 1 → AreJoined (events ++ Turn m ∷ []) → AreJoined ((events ++ Turn m ∷ []) ++ Turn n ∷ [])
full_then [] m n full joined = (full, tt)
full_then (e ∷ []) m n full joined = (joined.0, (full, tt))
full_then (e ∷ f ∷ events) m n full joined = (joined.0, full_then (f ∷ events) m n full joined.1)

-- a turn is added behind others whose count is at its last value
pub joined_full : (events some more : List Event) (m n : ℕ) → m ≡ 2 ^ 64 - 1 → some ≡ events ++ Turn m ∷ [] → more ≡ some ++ Turn n ∷ [] → AreJoined (events ++ Turn m ∷ []) → AreJoined more
joined_full events some more m n full e g joined = subst AreJoined (sym (g ∙ ap (λ l. l ++ Turn n ∷ []) e)) (full_then events m n full joined)

may_lead : (e : Event) (n : ℕ) → turn_of e ≡ [] → MayFollow e (Turn n)
may_lead (Turn m) n h = absurd (cc)
may_lead e n h = tt

turn_then : (events : List Event) (e : Event) (n : ℕ) → turn_of e ≡ [] → AreJoined (events ++ e ∷ []) → AreJoined ((events ++ e ∷ []) ++ Turn n ∷ [])
turn_then [] e n none joined = (may_lead e n none, tt)
turn_then (f ∷ []) e n none joined = (joined.0, (may_lead e n none, tt))
turn_then (f ∷ g ∷ events) e n none joined = (joined.0, turn_then (g ∷ events) e n none joined.1)

-- a turn is added behind an event of no turn
pub joined_turn : (events some more : List Event) (e : Event) (n : ℕ) → turn_of e ≡ [] → some ≡ events ++ e ∷ [] → more ≡ some ++ Turn n ∷ [] → AreJoined (events ++ e ∷ []) → AreJoined more
joined_turn events some more e n none is g joined = subst AreJoined (sym (g ∙ ap (λ l. l ++ Turn n ∷ []) is)) (turn_then events e n none joined)
