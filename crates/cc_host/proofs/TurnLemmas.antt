-- A turn of the children of a host.
use Rattle.std.proofs.Common.{◌≡◌, ℕ, ◌<◌, Bool, true, false, ◌||◌, ◌==◌, List, [], ◌∷◌, ◌++◌, length, map, filter, Option, Some, None, is_some, if◌then◌else◌, refl, sym, ◌∙◌, ap, subst, arith, append-nil, append_assoc, eq-eqb, ⊎_elim}
use Rattle.std.specs.List.{flat_map, Contains}
use Rattle.std.proofs.lemmas.Bool.{ne_eqb}
use Rattle.std.proofs.lemmas.List.{map-append}
use Rattle.std.proofs.lemmas.List.Elements.{Contains-append_cases}
use Rattle.std.proofs.lemmas.Grind.{flat_map-append}
use Rattle.cc_host.specs.Children.{Live, live, live_from, polled, without, id_of, started_ids, unread_of, unreads}
use Rattle.cc_host.specs.Event.{apart, heard, unread, ended, reported}
use Rattle.cc_host.specs.Journal.{IsQuiet, turn_of, turns}
use Rattle.cc_host.specs.Probe.{open_of, drop_of, opens, drops}
use Rattle.cc_host.specs.Script.{script_at}
use Rattle.cc_host.specs.ChildLog.{AreRunning, AreTold, live_of, ids, news_by, news_of, has_news, child_after, left_by, Below, Above, Rising, Heeds}
use Rattle.cc_host.specs.declared.event.Event.{Event}
use Rattle.cc_host.specs.declared.event.Event.TheVariants.{Turn}
use Rattle.cc_host.specs.declared.event.News.{News}
use Rattle.cc_host.specs.declared.event.Status.{Status}
use Rattle.cc_host.specs.declared.child.RunningChild.{RunningChild}
use Rattle.cc_host.specs.declared.script.Scripted.{Scripted}
use Rattle.cc_host.proofs.Order.{or_false}
use Rattle.cc_host.proofs.ChildLogLemmas.{live_then, below_both, below_lacks, above_lacks}

-- what one child reported

abbrev pub mutes_if : Bool → ℕ → List ℕ
mutes_if true id = id ∷ []
mutes_if false id = []

abbrev pub mutes_of : News → List ℕ
mutes_of n = mutes_if n.unread n.id

abbrev pub gone_if : Option Status → ℕ → List Live → List Live
gone_if end id l = if is_some end then without id l else l

pub reported_live : (l : List Live) (id : ℕ) (piece : Option (List ℕ)) (un : Bool) (end : Option Status) → live_from l (heard id piece ++ unread id un ++ ended id end) ≡ gone_if end id l
reported_live l id None false None = refl
reported_live l id None false (Some s) = refl
reported_live l id None true None = refl
reported_live l id None true (Some s) = refl
reported_live l id (Some p) false None = refl
reported_live l id (Some p) false (Some s) = refl
reported_live l id (Some p) true None = refl
reported_live l id (Some p) true (Some s) = refl

pub reported_starts : (id : ℕ) (piece : Option (List ℕ)) (un : Bool) (end : Option Status) → flat_map id_of (heard id piece ++ unread id un ++ ended id end) ≡ []
reported_starts id None false None = refl
reported_starts id None false (Some s) = refl
reported_starts id None true None = refl
reported_starts id None true (Some s) = refl
reported_starts id (Some p) false None = refl
reported_starts id (Some p) false (Some s) = refl
reported_starts id (Some p) true None = refl
reported_starts id (Some p) true (Some s) = refl

pub reported_mutes : (id : ℕ) (piece : Option (List ℕ)) (un : Bool) (end : Option Status) → flat_map unread_of (heard id piece ++ unread id un ++ ended id end) ≡ mutes_if un id
reported_mutes id None false None = refl
reported_mutes id None false (Some s) = refl
reported_mutes id None true None = refl
reported_mutes id None true (Some s) = refl
reported_mutes id (Some p) false None = refl
reported_mutes id (Some p) false (Some s) = refl
reported_mutes id (Some p) true None = refl
reported_mutes id (Some p) true (Some s) = refl

reported_opens : (id : ℕ) (piece : Option (List ℕ)) (un : Bool) (end : Option Status) → flat_map open_of (heard id piece ++ unread id un ++ ended id end) ≡ []
reported_opens id None false None = refl
reported_opens id None false (Some s) = refl
reported_opens id None true None = refl
reported_opens id None true (Some s) = refl
reported_opens id (Some p) false None = refl
reported_opens id (Some p) false (Some s) = refl
reported_opens id (Some p) true None = refl
reported_opens id (Some p) true (Some s) = refl

reported_drops : (id : ℕ) (piece : Option (List ℕ)) (un : Bool) (end : Option Status) → flat_map drop_of (heard id piece ++ unread id un ++ ended id end) ≡ []
reported_drops id None false None = refl
reported_drops id None false (Some s) = refl
reported_drops id None true None = refl
reported_drops id None true (Some s) = refl
reported_drops id (Some p) false None = refl
reported_drops id (Some p) false (Some s) = refl
reported_drops id (Some p) true None = refl
reported_drops id (Some p) true (Some s) = refl

reported_turns : (id : ℕ) (piece : Option (List ℕ)) (un : Bool) (end : Option Status) → flat_map turn_of (heard id piece ++ unread id un ++ ended id end) ≡ []
reported_turns id None false None = refl
reported_turns id None false (Some s) = refl
reported_turns id None true None = refl
reported_turns id None true (Some s) = refl
reported_turns id (Some p) false None = refl
reported_turns id (Some p) false (Some s) = refl
reported_turns id (Some p) true None = refl
reported_turns id (Some p) true (Some s) = refl

reported_apart : (id : ℕ) (piece : Option (List ℕ)) (un : Bool) (end : Option Status) → flat_map apart (heard id piece ++ unread id un ++ ended id end) ≡ heard id piece ++ unread id un ++ ended id end
reported_apart id None false None = refl
reported_apart id None false (Some s) = refl
reported_apart id None true None = refl
reported_apart id None true (Some s) = refl
reported_apart id (Some p) false None = refl
reported_apart id (Some p) false (Some s) = refl
reported_apart id (Some p) true None = refl
reported_apart id (Some p) true (Some s) = refl

reported_none : (id : ℕ) (piece : Option (List ℕ)) (un : Bool) (end : Option Status) → (is_some piece || un || is_some end) ≡ false → heard id piece ++ unread id un ++ ended id end ≡ []
reported_none id None false None h = refl
reported_none id None false (Some s) h = absurd (cc)
reported_none id None true None h = absurd (cc)
reported_none id None true (Some s) h = absurd (cc)
reported_none id (Some p) false None h = absurd (cc)
reported_none id (Some p) false (Some s) h = absurd (cc)
reported_none id (Some p) true None h = absurd (cc)
reported_none id (Some p) true (Some s) h = absurd (cc)

-- what all reported

pub all_quiet : (news : List News) → IsQuiet (flat_map reported news)
all_quiet [] = (refl, refl, refl)
all_quiet (n ∷ news) =
    let rest = all_quiet news in (
      flat_map-append open_of (reported n) (flat_map reported news) ∙ ap (λ l. l ++ opens (flat_map reported news)) (reported_opens n.id n.piece n.unread n.ended) ∙ rest.0,
      flat_map-append drop_of (reported n) (flat_map reported news) ∙ ap (λ l. l ++ drops (flat_map reported news)) (reported_drops n.id n.piece n.unread n.ended) ∙ rest.1,
      flat_map-append turn_of (reported n) (flat_map reported news) ∙ ap (λ l. l ++ turns (flat_map reported news)) (reported_turns n.id n.piece n.unread n.ended) ∙ rest.2,
    )

pub all_apart : (news : List News) → flat_map apart (flat_map reported news) ≡ flat_map reported news
all_apart [] = refl
all_apart (n ∷ news) = flat_map-append apart (reported n) (flat_map reported news) ∙ ap (λ l. l ++ flat_map apart (flat_map reported news)) (reported_apart n.id n.piece n.unread n.ended) ∙ ap (λ l. reported n ++ l) (all_apart news)

all_starts : (news : List News) → flat_map id_of (flat_map reported news) ≡ []
all_starts [] = refl
all_starts (n ∷ news) = flat_map-append id_of (reported n) (flat_map reported news) ∙ ap (λ l. l ++ flat_map id_of (flat_map reported news)) (reported_starts n.id n.piece n.unread n.ended) ∙ all_starts news

all_mutes : (news : List News) → flat_map unread_of (flat_map reported news) ≡ flat_map mutes_of news
all_mutes [] = refl
all_mutes (n ∷ news) = flat_map-append unread_of (reported n) (flat_map reported news) ∙ ap (λ l. l ++ flat_map unread_of (flat_map reported news)) (reported_mutes n.id n.piece n.unread n.ended) ∙ ap (λ l. mutes_of n ++ l) (all_mutes news)

said_by : (n : News) (told : List News) (b : Bool) → has_news n ≡ b → flat_map reported (filter has_news told) ≡ flat_map reported told → flat_map reported (filter has_news (n ∷ told)) ≡ flat_map reported (n ∷ told)
said_by n told true e h = rw e (ap (λ l. reported n ++ l) h)
said_by n told false e h = rw e (h ∙ sym (ap (λ l. l ++ flat_map reported told) (reported_none n.id n.piece n.unread n.ended e)))

-- who did nothing reported nothing
pub said : (told : List News) → flat_map reported (filter has_news told) ≡ flat_map reported told
said [] = refl
said (n ∷ told) = said_by n told (has_news n) refl (said told)

-- the news are of the child

news_id_by : (k : RunningChild) (o : Option Scripted) → (news_by k o).id ≡ k.id
news_id_by k None = refl
news_id_by k (Some s) = refl

pub news_id : (scripts : List Scripted) (k : RunningChild) → (news_of scripts k).id ≡ k.id
news_id scripts k = news_id_by k (script_at scripts k.place)

-- rising lists

above_at : (m : ℕ) (a : List ℕ) (n : ℕ) (b : List ℕ) → Above m (a ++ n ∷ b) → m < n
above_at m [] n b h = h.0
above_at m (k ∷ a) n b h = above_at m a n b h.1

rising_below : (a : List ℕ) (n : ℕ) (b : List ℕ) → Rising (a ++ n ∷ b) → Below a n
rising_below [] n b h = tt
rising_below (m ∷ a) n b h = (above_at m a n b h.0, rising_below a n b h.1)

above_drop : (m : ℕ) (a : List ℕ) (n : ℕ) (b : List ℕ) → Above m (a ++ n ∷ b) → Above m (a ++ b)
above_drop m [] n b h = h.1
above_drop m (k ∷ a) n b h = (h.0, above_drop m a n b h.1)

rising_drop : (a : List ℕ) (n : ℕ) (b : List ℕ) → Rising (a ++ n ∷ b) → Rising (a ++ b)
rising_drop [] n b h = h.1
rising_drop (m ∷ a) n b h = (above_drop m a n b h.0, rising_drop a n b h.1)

-- the children that run on

abbrev lids : List Live → List ℕ
lids = map (λ c. c.id)

without_by : (id : ℕ) (d : Live) (done : List Live) (p : Live) (rest : List Live) (b : Bool) → (d.id == id) ≡ b → b ≡ false → without id (done ++ p ∷ rest) ≡ done ++ rest → without id (d ∷ done ++ p ∷ rest) ≡ d ∷ done ++ rest
without_by id d done p rest true e f h = absurd (cc)
without_by id d done p rest false e f h = rw e (ap (λ l. d ∷ l) h)

less_differs : (m n : ℕ) → m < n → (m == n) ≡ false
less_differs m n lt = ne_eqb m n (λ e. omega arith)

without_seam : (id : ℕ) (done : List Live) (p : Live) (rest : List Live) → Below (lids done) id → p.id ≡ id → without id (done ++ p ∷ rest) ≡ done ++ rest
without_seam id [] p rest h is = rw (eq-eqb p.id id is) refl
without_seam id (d ∷ done) p rest h is = without_by id d done p rest (d.id == id) refl (less_differs d.id id h.0) (without_seam id done p rest h.1 is)

abbrev pub next_live : RunningChild → Live
next_live k = polled 1 (live_of k)

turn_by : (told : List News) (done : List Live) (k : RunningChild) (children : List RunningChild) (n : News) (b : Bool) → is_some n.ended ≡ b → Rising (lids done ++ k.id ∷ ids children) → ((d : List Live) → Rising (lids d ++ ids children) → live_from (d ++ map next_live children) (flat_map reported told) ≡ d ++ map live_of (left_by children told)) → live_from (gone_if n.ended k.id (done ++ next_live k ∷ map next_live children)) (flat_map reported told) ≡ done ++ map live_of (left_by (k ∷ children) (n ∷ told))
turn_by told done k children n true e rising rest =
    rw e (ap (λ l. live_from l (flat_map reported told)) (without_seam k.id done (next_live k) (map next_live children) (rising_below (lids done) k.id (ids children) rising) refl) ∙ rest done (rising_drop (lids done) k.id (ids children) rising))
turn_by told done k children n false e rising rest =
    let more : List Live = done ++ next_live k ∷ [] in
    let on : Rising (lids more ++ ids children) = subst (λ l. Rising (l ++ ids children)) (sym (map-append (λ (c : Live). c.id) done (next_live k ∷ []))) (subst Rising (sym (append_assoc (lids done) (k.id ∷ []) (ids children))) rising) in
    rw e (ap (λ l. live_from l (flat_map reported told)) (sym (append_assoc done (next_live k ∷ []) (map next_live children))) ∙ rest more on ∙ append_assoc done (next_live k ∷ []) (map live_of (left_by children told)))

turn_live : (children : List RunningChild) (told : List News) (done : List Live) → AreTold children told → Rising (lids done ++ ids children) → live_from (done ++ map next_live children) (flat_map reported told) ≡ done ++ map live_of (left_by children told)
turn_live [] [] done are rising = refl
turn_live [] (n ∷ told) done are rising = absurd are
turn_live (k ∷ children) [] done are rising = absurd are
turn_live (k ∷ children) (n ∷ told) done are rising =
    live_then (done ++ next_live k ∷ map next_live children) (reported n) (flat_map reported told)
    ∙ ap (λ l. live_from l (flat_map reported told)) (reported_live (done ++ next_live k ∷ map next_live children) n.id n.piece n.unread n.ended ∙ ap (λ id. gone_if n.ended id (done ++ next_live k ∷ map next_live children)) are.0)
    ∙ turn_by told done k children n (is_some n.ended) refl rising (λ d. turn_live children told d are.2)

pub polled_children : (children : List RunningChild) → map (polled 1) (map live_of children) ≡ map next_live children
polled_children [] = refl
polled_children (k ∷ children) = ap (λ l. next_live k ∷ l) (polled_children children)

above_left_by : (m : ℕ) (k : RunningChild) (n : News) (rest : List RunningChild) (b : Bool) → is_some n.ended ≡ b → m < k.id → Above m (ids rest) → Above m (ids (child_after k n ++ rest))
above_left_by m k n rest true e lt h = rw e h
above_left_by m k n rest false e lt h = rw e (lt, h)

above_left : (m : ℕ) (children : List RunningChild) (told : List News) → Above m (ids children) → Above m (ids (left_by children told))
above_left m [] told h = tt
above_left m (k ∷ children) [] h = tt
above_left m (k ∷ children) (n ∷ told) h = above_left_by m k n (left_by children told) (is_some n.ended) refl h.0 (above_left m children told h.1)

below_left_by : (m : ℕ) (k : RunningChild) (n : News) (rest : List RunningChild) (b : Bool) → is_some n.ended ≡ b → k.id < m → Below (ids rest) m → Below (ids (child_after k n ++ rest)) m
below_left_by m k n rest true e lt h = rw e h
below_left_by m k n rest false e lt h = rw e (lt, h)

below_left : (m : ℕ) (children : List RunningChild) (told : List News) → Below (ids children) m → Below (ids (left_by children told)) m
below_left m [] told h = tt
below_left m (k ∷ children) [] h = tt
below_left m (k ∷ children) (n ∷ told) h = below_left_by m k n (left_by children told) (is_some n.ended) refl h.0 (below_left m children told h.1)

rising_left_by : (k : RunningChild) (n : News) (rest : List RunningChild) (b : Bool) → is_some n.ended ≡ b → Above k.id (ids rest) → Rising (ids rest) → Rising (ids (child_after k n ++ rest))
rising_left_by k n rest true e a h = rw e h
rising_left_by k n rest false e a h = rw e (a, h)

rising_left : (children : List RunningChild) (told : List News) → Rising (ids children) → Rising (ids (left_by children told))
rising_left [] told h = tt
rising_left (k ∷ children) [] h = tt
rising_left (k ∷ children) (n ∷ told) h = rising_left_by k n (left_by children told) (is_some n.ended) refl (above_left k.id children told h.0) (rising_left children told h.1)

-- the children whose standard error fails to be read

abbrev mutes : List News → List ℕ
mutes = flat_map mutes_of

mutes_by : (n : News) (told : List News) (b : Bool) → has_news n ≡ b → mutes (filter has_news told) ≡ mutes told → mutes (filter has_news (n ∷ told)) ≡ mutes (n ∷ told)
mutes_by n told true e h = rw e (ap (λ l. mutes_of n ++ l) h)
mutes_by n told false e h = rw e (h ∙ sym (ap (λ l. l ++ mutes told) (none n.id n.piece n.unread n.ended e)))
  where
    none : (id : ℕ) (piece : Option (List ℕ)) (un : Bool) (end : Option Status) → (is_some piece || un || is_some end) ≡ false → mutes_if un id ≡ []
    none id piece false end h = refl
    none id None true end h = absurd (cc)
    none id (Some p) true end h = absurd (cc)

mutes_said : (told : List News) → mutes (filter has_news told) ≡ mutes told
mutes_said [] = refl
mutes_said (n ∷ told) = mutes_by n told (has_news n) refl (mutes_said told)

above_if : (m id : ℕ) (un : Bool) (rest : List ℕ) → m < id → Above m rest → Above m (mutes_if un id ++ rest)
above_if m id true rest lt h = (lt, h)
above_if m id false rest lt h = h

above_mutes : (m : ℕ) (children : List RunningChild) (told : List News) → AreTold children told → Above m (ids children) → Above m (mutes told)
above_mutes m [] [] are h = tt
above_mutes m [] (n ∷ told) are h = absurd are
above_mutes m (k ∷ children) [] are h = absurd are
above_mutes m (k ∷ children) (n ∷ told) are h = above_if m n.id n.unread (mutes told) (subst (λ id. m < id) (sym are.0) h.0) (above_mutes m children told are.2 h.1)

below_if : (m id : ℕ) (un : Bool) (rest : List ℕ) → id < m → Below rest m → Below (mutes_if un id ++ rest) m
below_if m id true rest lt h = (lt, h)
below_if m id false rest lt h = h

below_mutes : (m : ℕ) (children : List RunningChild) (told : List News) → AreTold children told → Below (ids children) m → Below (mutes told) m
below_mutes m [] [] are h = tt
below_mutes m [] (n ∷ told) are h = absurd are
below_mutes m (k ∷ children) [] are h = absurd are
below_mutes m (k ∷ children) (n ∷ told) are h = below_if m n.id n.unread (mutes told) (subst (λ id. id < m) (sym are.0) h.0) (below_mutes m children told are.2 h.1)

-- the first of these has only lower ids before it
abbrev BeforeFirst : List ℕ → List RunningChild → Type 0
BeforeFirst earlier [] = Unit {0}
BeforeFirst earlier (k ∷ children) = Below earlier k.id

below_up : (ns : List ℕ) (m n : ℕ) → m < n → Below ns m → Below ns n
below_up [] m n lt h = tt
below_up (k ∷ ns) m n lt h = let less = h.0 in (omega arith, below_up ns m n lt h.1)

before_next : (earlier : List ℕ) (n : News) (k : RunningChild) (children : List RunningChild) → n.id ≡ k.id → Below earlier k.id → Above k.id (ids children) → BeforeFirst (earlier ++ mutes_of n) children
before_next earlier n k [] is b a = tt
before_next earlier n k (j ∷ children) is b a =
    below_both earlier (mutes_of n) j.id (below_up earlier k.id j.id a.0 b) (one n.unread)
  where
    one : (un : Bool) → Below (mutes_if un n.id) j.id
    one true = (subst (λ id. id < j.id) (sym is) a.0, tt)
    one false = tt

-- a child that stays heard isn't among those that fail to be read
heed_here : (us earlier : List ℕ) (k : RunningChild) (children : List RunningChild) (n : News) (told : List News) → AreTold children told → (k.mute ≡ false → Contains us k.id → ⊥) → Below earlier k.id → Above k.id (ids children) → (k.mute || n.unread) ≡ false → Contains (us ++ (earlier ++ (mutes_of n ++ mutes told))) k.id → ⊥
heed_here us earlier k children n told are h b a heard_on c = deeper (mutes_of n ++ mutes told) (ap (λ x. mutes_if x n.id ++ mutes told) off.1) off.0 c
  where
    off : (k.mute ≡ false) × (n.unread ≡ false)
    off = or_false k.mute n.unread heard_on

    deeper : (rest : List ℕ) → rest ≡ mutes told → k.mute ≡ false → Contains (us ++ (earlier ++ rest)) k.id → ⊥
    deeper rest e m all = ⊎_elim (h m) (λ later. ⊎_elim (below_lacks earlier k.id b) (λ last. above_lacks k.id (mutes told) (above_mutes k.id children told are a) (subst (λ l. Contains l k.id) e last)) (Contains-append_cases earlier rest k.id later)) (Contains-append_cases us (earlier ++ rest) k.id all)

heeds_step : (all : List ℕ) (k : RunningChild) (n : News) (rest : List RunningChild) (b : Bool) → is_some n.ended ≡ b → ((k.mute || n.unread) ≡ false → Contains all k.id → ⊥) → Heeds all rest → Heeds all (child_after k n ++ rest)
heeds_step all k n rest true e one h = rw e h
heeds_step all k n rest false e one h = rw e (one, h)

heeds_turn : (us : List ℕ) (children : List RunningChild) (told : List News) (earlier : List ℕ) → AreTold children told → BeforeFirst earlier children → Rising (ids children) → Heeds us children → Heeds (us ++ (earlier ++ mutes told)) (left_by children told)
heeds_turn us [] told earlier are b r h = tt
heeds_turn us (k ∷ children) [] earlier are b r h = absurd are
heeds_turn us (k ∷ children) (n ∷ told) earlier are b r h =
    let rest = heeds_turn us children told (earlier ++ mutes_of n) are.2 (before_next earlier n k children are.0 b r.0) r.1 h.1 in
    heeds_step (us ++ (earlier ++ mutes (n ∷ told))) k n (left_by children told) (is_some n.ended) refl (heed_here us earlier k children n told are.2 h.0 b r.0)
    (subst (λ l. Heeds (us ++ l) (left_by children told)) (append_assoc earlier (mutes_of n) (mutes told)) rest)

before_none : (children : List RunningChild) → BeforeFirst [] children
before_none [] = tt
before_none (k ∷ children) = tt

pub alive_turn : (log new : List Event) (next : ℕ) (children : List RunningChild) (told : List News) → AreTold children told → new ≡ log ++ Turn 1 ∷ flat_map reported (filter has_news told) → AreRunning log next children → AreRunning new next (left_by children told)
alive_turn log new next children told are is alive =
    let news = filter has_news told in
    let events : List Event = Turn 1 ∷ flat_map reported news in
    let u : unreads new ≡ unreads log ++ mutes told = ap unreads is ∙ flat_map-append unread_of log events ∙ ap (λ l. unreads log ++ l) (all_mutes news ∙ mutes_said told) in
    let s : started_ids new ≡ started_ids log = ap started_ids is ∙ flat_map-append id_of log events ∙ ap (λ l. started_ids log ++ l) (all_starts news) ∙ append-nil (started_ids log) in
    record {
      run = ap live is ∙ live_then [] log events ∙ ap (λ l. live_from (map (polled 1) l) (flat_map reported news)) alive.run ∙ ap (λ l. live_from l (flat_map reported news)) (polled_children children) ∙ ap (live_from (map next_live children)) (said told) ∙ turn_live children told [] are alive.rising;
      count = alive.count ∙ ap length (sym s);
      drawn = subst (λ l. Below l next) (sym s) alive.drawn;
      rising = rising_left children told alive.rising;
      below = below_left next children told alive.below;
      heard = subst (λ l. Below l next) (sym u) (below_both (unreads log) (mutes told) next alive.heard (below_mutes next children told are alive.below));
      heeds = subst (λ l. Heeds l (left_by children told)) (sym u) (heeds_turn (unreads log) children told [] are (before_none children) alive.rising alive.heeds);
    }
