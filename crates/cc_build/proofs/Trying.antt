-- What a part says of a command that was tried: it was run in one call of the host.
use Rattle.std.proofs.Common.{◌≡◌, ◌⊎◌, inl, inr, ℕ, List, [], ◌∷◌, ◌++◌, take, Bool, true, false, not, ◌||◌, ◌&&◌, if◌then◌else◌, None, Err, refl, sym, ◌∙◌, ap, ap₂, append_assoc, append-nil}
use Rattle.std.specs.List.{list_all, list_any, flat_map}
use Rattle.std.proofs.lemmas.Bool.{and_parts, and_from}
use Rattle.std.proofs.lemmas.Grind.{flat_map-append}
use Rattle.std.proofs.lemmas.List.Folds.{list_all-append, list_any-append}
use Rattle.cc_host.specs.Command.{CommandSeen}
use Rattle.cc_host.specs.Part.{is_probing}
use Rattle.cc_host.specs.Status.{is_success}
use Rattle.cc_host.specs.declared.event.Event.{Event}
use Rattle.cc_host.specs.declared.event.Event.TheVariants.{Ran, Missing, Printed, Said, Fault}
use Rattle.cc_host.specs.declared.event.HostCall.{HostCall}
use Rattle.cc_host.specs.declared.event.HostCall.TheVariants.{Output}
use Rattle.cc_host.specs.declared.event.LineKind.{LineKind}
use Rattle.cc_host.specs.declared.event.Message.{Message}
use Rattle.cc_host.specs.declared.event.OutputKind.TheVariants.{Discard}
use Rattle.cc_host.specs.declared.event.Role.{Role}
use Rattle.cc_host.specs.declared.event.Status.{Status}
use Rattle.cc_host.specs.declared.event.Why.{Why}
use Rattle.cc_run.specs.Outcome.{IsNotice}
use Rattle.cc_run.specs.Output.{behind, IsSilentRun}
use Rattle.cc_run.specs.Part.{started, missing, missing_of, turns, abandoned}
use Rattle.cc_run.specs.Prints.{prints}
use Rattle.cc_run.specs.Texts.{announced}
use Rattle.cc_run.specs.declared.error.RunError.{RunError}
use Rattle.cc_run.specs.declared.error.RunError.TheVariants.{ToolNotFound, Failed as Fails, StartFault, WaitFault, HostFault, JobFault, TurnsSpent, NoMemory}
use Rattle.cc_run.specs.declared.planned.Planned.{Planned}
use Rattle.cc_run.specs.declared.planned.Shows.{Shows}
use Rattle.cc_run.specs.declared.print.Notice.{Notice}
use Rattle.cc_run.specs.declared.print.Notice.TheVariants.{Shown, Told}
use Rattle.cc_tool.specs.Asked.{question_event, question_events}
use Rattle.cc_build.specs.Attempts.{attempt_of, attempts, to_attempt, tried_of, all_tried}
use Rattle.cc_build.specs.Failed.{is_fault, is_form}
use Rattle.cc_build.specs.Order.{is_archive_role, is_archive_event}
use Rattle.cc_build.specs.Went.{Terms, is_refusal, Tried}
use Rattle.cc_build.proofs.ChildLaws.{AreAside}

-- no line and no message is a question
pub notice_unprobed : (call : HostCall) → IsNotice call → is_probing call ≡ false
notice_unprobed call (inl e) = ap is_probing e
notice_unprobed call (inr e) = ap is_probing e

-- ---- lines

abbrev pub is_line : Event → Bool
is_line (Printed kind bytes) = true
is_line (Said message) = true
is_line _ = false

pub all_lines : (lines : List Notice) → list_all is_line (prints lines) ≡ true
all_lines [] = refl
all_lines (Shown kind bytes ∷ lines) = all_lines lines
all_lines (Told message ∷ lines) = all_lines lines

lines_none : {X : Type 0} (f : Event → List X) → ((kind : LineKind) (bytes : List ℕ) → f (Printed kind bytes) ≡ []) → ((message : Message) → f (Said message) ≡ []) → (part : List Event) → list_all is_line part ≡ true → flat_map f part ≡ []
lines_none f quiet silent [] h = refl
lines_none f quiet silent (Printed kind bytes ∷ part) h = ap (λ l. l ++ flat_map f part) (quiet kind bytes) ∙ lines_none f quiet silent part h
lines_none f quiet silent (Said message ∷ part) h = ap (λ l. l ++ flat_map f part) (silent message) ∙ lines_none f quiet silent part h
lines_none f quiet silent (event ∷ part) h = absurd (cc)

lines_any : (g : Event → Bool) → ((kind : LineKind) (bytes : List ℕ) → g (Printed kind bytes) ≡ false) → ((message : Message) → g (Said message) ≡ false) → (part : List Event) → list_all is_line part ≡ true → list_any g part ≡ false
lines_any g quiet silent [] h = refl
lines_any g quiet silent (Printed kind bytes ∷ part) h = ap (λ b. b || list_any g part) (quiet kind bytes) ∙ lines_any g quiet silent part h
lines_any g quiet silent (Said message ∷ part) h = ap (λ b. b || list_any g part) (silent message) ∙ lines_any g quiet silent part h
lines_any g quiet silent (event ∷ part) h = absurd (cc)

-- ---- a command that was tried

-- it is this command, and it was refused or ended with 0
abbrev pub IsTry : Planned → Bool → Event → Type 0
IsTry p refused (Ran role cmd pipes status out err) = (role ≡ p.role) × (cmd ≡ p.cmd) × (is_success status ≡ not refused)
IsTry p refused (Missing role cmd) = (role ≡ p.role) × (cmd ≡ p.cmd) × (false ≡ not refused)
IsTry p refused _ = ⊥

-- it stands alone between lines
pub record Done (p : Planned) (refused : Bool) (part : List Event) : Type 0 where
  pub front : List Event
  pub event : Event
  pub rest : List Event
  pub cut : part ≡ front ++ event ∷ rest
  pub lines_before : list_all is_line front ≡ true
  pub lines_behind : list_all is_line rest ≡ true
  pub try : IsTry p refused event

-- the command as it ran
abbrev ran : Shows → Planned → Status → List ℕ → List ℕ → Event
ran shows p status output stderr = Ran p.role p.cmd (record { out = Discard; hear = shows.warnings || shows.listens }) status output stderr

module _ (t : Terms) (p : Planned) (part : List Event) where
  refused_done : (error : RunError) → is_refusal error ≡ true → IsSilentRun t.shows p (Err error) part → Done p true part
  refused_done (ToolNotFound place) r h = record { front = prints (announced t.shows p.cmd); event = Missing p.role p.cmd; rest = []; cut = h.1; lines_before = all_lines (announced t.shows p.cmd); lines_behind = refl; try = (refl, refl, refl) }
  refused_done (Fails place status) r h = record {
    front = prints (announced t.shows p.cmd);
    event = ran t.shows p status h.2.0 h.2.1.stderr;
    rest = prints (behind t.shows p.cmd false None status h.2.1.stderr);
    cut = h.2.1.is;
    lines_before = all_lines (announced t.shows p.cmd);
    lines_behind = all_lines (behind t.shows p.cmd false None status h.2.1.stderr);
    try = (refl, refl, h.1);
  }
  refused_done (StartFault place) r h = absurd (cc)
  refused_done WaitFault r h = absurd (cc)
  refused_done (HostFault call why) r h = absurd (cc)
  refused_done JobFault r h = absurd (cc)
  refused_done TurnsSpent r h = absurd (cc)
  refused_done NoMemory r h = absurd (cc)

  pub done_of : (refused : Bool) → Tried t p refused part → Done p refused part
  done_of false d = record {
    front = prints (announced t.shows p.cmd);
    event = ran t.shows p d.1.0 d.0 d.1.1.1.stderr;
    rest = prints (behind t.shows p.cmd false None d.1.0 d.1.1.1.stderr);
    cut = d.1.1.1.is;
    lines_before = all_lines (announced t.shows p.cmd);
    lines_behind = all_lines (behind t.shows p.cmd false None d.1.0 d.1.1.1.stderr);
    try = (refl, refl, d.1.1.0);
  }
  done_of true d = refused_done d.0 d.1.0 d.1.1

-- ---- a command at which the run ended

-- nothing, or the command
abbrev pub IsTriedOf : Planned → List Event → Type 0
IsTriedOf p [] = Unit {0}
IsTriedOf p (Ran role cmd pipes status out err ∷ []) = (role ≡ p.role) × (cmd ≡ p.cmd)
IsTriedOf p _ = ⊥

-- nothing, or a fault that no question made
abbrev pub IsLast : List Event → Type 0
IsLast [] = Unit {0}
IsLast (Fault call why ∷ []) = is_probing call ≡ false
IsLast _ = ⊥

-- the command between lines, and the fault behind them
pub record Broken (p : Planned) (part : List Event) : Type 0 where
  pub front : List Event
  pub tried : List Event
  pub rest : List Event
  pub last : List Event
  pub cut : part ≡ front ++ (tried ++ (rest ++ last))
  pub lines_before : list_all is_line front ≡ true
  pub lines_behind : list_all is_line rest ≡ true
  pub of_command : IsTriedOf p tried
  pub ended : IsLast last

module _ (shows : Shows) (p : Planned) (part : List Event) where
  pub broken_of : (error : RunError) → is_refusal error ≡ false → IsSilentRun shows p (Err error) part → Broken p part
  broken_of (StartFault place) r h = record { front = prints (announced shows p.cmd); tried = []; rest = []; last = Fault Output h.1.0 ∷ []; cut = h.1.1; lines_before = all_lines (announced shows p.cmd); lines_behind = refl; of_command = tt; ended = refl }
  broken_of (HostFault call why) r (is, inl alone) = record { front = []; tried = []; rest = []; last = Fault call why ∷ []; cut = alone; lines_before = refl; lines_behind = refl; of_command = tt; ended = notice_unprobed call is }
  broken_of (HostFault call why) r (is, inr (w, last)) = record {
    front = prints (announced shows p.cmd);
    tried = ran shows p w.status w.output w.stderr ∷ [];
    rest = prints (take w.count (behind shows p.cmd false None w.status w.stderr));
    last = Fault call why ∷ [];
    cut = w.is ∙ append_assoc (prints (announced shows p.cmd)) (ran shows p w.status w.output w.stderr ∷ prints (take w.count (behind shows p.cmd false None w.status w.stderr))) w.rest ∙ ap (λ l. prints (announced shows p.cmd) ++ (ran shows p w.status w.output w.stderr ∷ (prints (take w.count (behind shows p.cmd false None w.status w.stderr)) ++ l))) last;
    lines_before = all_lines (announced shows p.cmd);
    lines_behind = all_lines (take w.count (behind shows p.cmd false None w.status w.stderr));
    of_command = (refl, refl);
    ended = notice_unprobed call is;
  }
  broken_of NoMemory r (inl none) = record { front = []; tried = []; rest = []; last = []; cut = none; lines_before = refl; lines_behind = refl; of_command = tt; ended = tt }
  broken_of NoMemory r (inr (inl lines)) = record { front = prints (announced shows p.cmd); tried = []; rest = []; last = []; cut = lines ∙ sym (append-nil (prints (announced shows p.cmd))); lines_before = all_lines (announced shows p.cmd); lines_behind = refl; of_command = tt; ended = tt }
  broken_of NoMemory r (inr (inr (w, last))) = record {
    front = prints (announced shows p.cmd);
    tried = ran shows p w.status w.output w.stderr ∷ [];
    rest = prints (take w.count (behind shows p.cmd false None w.status w.stderr));
    last = [];
    cut = w.is ∙ append_assoc (prints (announced shows p.cmd)) (ran shows p w.status w.output w.stderr ∷ prints (take w.count (behind shows p.cmd false None w.status w.stderr))) w.rest ∙ ap (λ l. prints (announced shows p.cmd) ++ (ran shows p w.status w.output w.stderr ∷ (prints (take w.count (behind shows p.cmd false None w.status w.stderr)) ++ l))) last;
    lines_before = all_lines (announced shows p.cmd);
    lines_behind = all_lines (take w.count (behind shows p.cmd false None w.status w.stderr));
    of_command = (refl, refl);
    ended = tt;
  }
  broken_of (ToolNotFound place) r h = absurd (cc)
  broken_of (Fails place status) r h = absurd (cc)
  broken_of WaitFault r h = absurd h
  broken_of JobFault r h = absurd h
  broken_of TurnsSpent r h = absurd h

  -- a run that ended otherwise than for want of memory has a fault
  pub broken_fault : (error : RunError) → is_refusal error ≡ false → IsSilentRun shows p (Err error) part → (error ≡ NoMemory) ⊎ (list_any is_fault part ≡ true)
  broken_fault (StartFault place) r h = inr (ap (list_any is_fault) h.1.1 ∙ list_any-append is_fault (prints (announced shows p.cmd)) (Fault Output h.1.0 ∷ []) ∙ either_true (list_any is_fault (prints (announced shows p.cmd))))
    where
      either_true : (b : Bool) → (b || true) ≡ true
      either_true true = refl
      either_true false = refl
  broken_fault (HostFault call why) r (is, inl alone) = inr (ap (list_any is_fault) alone ∙ ap (λ b. not b || false) (notice_unprobed call is))
  broken_fault (HostFault call why) r (is, inr (w, last)) =
      inr (ap (list_any is_fault) (w.is ∙ append_assoc (prints (announced shows p.cmd)) (ran shows p w.status w.output w.stderr ∷ prints (take w.count (behind shows p.cmd false None w.status w.stderr))) w.rest)
      ∙ list_any-append is_fault (prints (announced shows p.cmd)) (ran shows p w.status w.output w.stderr ∷ (prints (take w.count (behind shows p.cmd false None w.status w.stderr)) ++ w.rest))
      ∙ or_second (list_any is_fault (prints (announced shows p.cmd))) _ (list_any-append is_fault (prints (take w.count (behind shows p.cmd false None w.status w.stderr))) w.rest
      ∙ or_second (list_any is_fault (prints (take w.count (behind shows p.cmd false None w.status w.stderr)))) (list_any is_fault w.rest) (ap (list_any is_fault) last ∙ ap (λ b. not b || false) (notice_unprobed call is))))
    where
      or_second : (a b : Bool) → b ≡ true → (a || b) ≡ true
      or_second true b h = refl
      or_second false b h = h
  broken_fault NoMemory r h = inl refl
  broken_fault (ToolNotFound place) r h = absurd (cc)
  broken_fault (Fails place status) r h = absurd (cc)
  broken_fault WaitFault r h = absurd h
  broken_fault JobFault r h = absurd h
  broken_fault TurnsSpent r h = absurd h

-- ---- the events of such a run

-- a line, the end of a command, or a fault that no question made
abbrev pub is_sole : Event → Bool
is_sole (Printed kind bytes) = true
is_sole (Said message) = true
is_sole (Ran role cmd pipes status out err) = true
is_sole (Missing role cmd) = true
is_sole (Fault call why) = not (is_probing call)
is_sole _ = false

sole_lines : (part : List Event) → list_all is_line part ≡ true → list_all is_sole part ≡ true
sole_lines [] h = refl
sole_lines (Printed kind bytes ∷ part) h = sole_lines part h
sole_lines (Said message ∷ part) h = sole_lines part h
sole_lines (event ∷ part) h = absurd (cc)

sole_then : (a b : List Event) → list_all is_sole a ≡ true → list_all is_sole b ≡ true → list_all is_sole (a ++ b) ≡ true
sole_then a b p q = list_all-append is_sole a b ∙ and_from _ _ p q

sole_try : (p : Planned) (refused : Bool) (event : Event) (rest : List Event) → IsTry p refused event → list_all is_sole rest ≡ true → list_all is_sole (event ∷ rest) ≡ true
sole_try p refused (Ran role cmd pipes status out err) rest h k = k
sole_try p refused (Missing role cmd) rest h k = k
sole_try p refused event rest h k = absurd h

pub done_sole : (p : Planned) (refused : Bool) (part : List Event) → Done p refused part → list_all is_sole part ≡ true
done_sole p refused part d = ap (list_all is_sole) d.cut ∙ sole_then d.front (d.event ∷ d.rest) (sole_lines d.front d.lines_before) (sole_try p refused d.event d.rest d.try (sole_lines d.rest d.lines_behind))

sole_tried : (p : Planned) (tried : List Event) → IsTriedOf p tried → list_all is_sole tried ≡ true
sole_tried p [] h = refl
sole_tried p (Ran role cmd pipes status out err ∷ []) h = refl
sole_tried p _ h = absurd h

sole_last : (last : List Event) → IsLast last → list_all is_sole last ≡ true
sole_last [] h = refl
sole_last (Fault call why ∷ []) h = ap (λ b. not b && true) h
sole_last _ h = absurd h

pub broken_sole : (p : Planned) (part : List Event) → Broken p part → list_all is_sole part ≡ true
broken_sole p part b =
    ap (list_all is_sole) b.cut
    ∙ sole_then b.front (b.tried ++ (b.rest ++ b.last)) (sole_lines b.front b.lines_before) (sole_then b.tried (b.rest ++ b.last) (sole_tried p b.tried b.of_command) (sole_then b.rest b.last (sole_lines b.rest b.lines_behind) (sole_last b.last b.ended)))

-- it starts no child, and none ends
pub sole_aside : (part : List Event) → list_all is_sole part ≡ true → AreAside part
sole_aside [] h = tt
sole_aside (Printed kind bytes ∷ part) h = (((λ ls. refl), (λ ls. refl)), sole_aside part h)
sole_aside (Said message ∷ part) h = (((λ ls. refl), (λ ls. refl)), sole_aside part h)
sole_aside (Ran role cmd pipes status out err ∷ part) h = (((λ ls. refl), (λ ls. refl)), sole_aside part h)
sole_aside (Missing role cmd ∷ part) h = (((λ ls. refl), (λ ls. refl)), sole_aside part h)
sole_aside (Fault call why ∷ part) h = (((λ ls. refl), (λ ls. refl)), sole_aside part (and_parts _ _ h).1)
sole_aside (event ∷ part) h = absurd (cc)

pub sole_started : (part : List Event) → list_all is_sole part ≡ true → started part ≡ []
sole_started [] h = refl
sole_started (Printed kind bytes ∷ part) h = sole_started part h
sole_started (Said message ∷ part) h = sole_started part h
sole_started (Ran role cmd pipes status out err ∷ part) h = sole_started part h
sole_started (Missing role cmd ∷ part) h = sole_started part h
sole_started (Fault call why ∷ part) h = sole_started part (and_parts _ _ h).1
sole_started (event ∷ part) h = absurd (cc)

pub sole_kept : (part : List Event) → list_all is_sole part ≡ true → abandoned part ≡ []
sole_kept [] h = refl
sole_kept (Printed kind bytes ∷ part) h = sole_kept part h
sole_kept (Said message ∷ part) h = sole_kept part h
sole_kept (Ran role cmd pipes status out err ∷ part) h = sole_kept part h
sole_kept (Missing role cmd ∷ part) h = sole_kept part h
sole_kept (Fault call why ∷ part) h = sole_kept part (and_parts _ _ h).1
sole_kept (event ∷ part) h = absurd (cc)

pub sole_turns : (part : List Event) → list_all is_sole part ≡ true → turns part ≡ 0
sole_turns [] h = refl
sole_turns (Printed kind bytes ∷ part) h = sole_turns part h
sole_turns (Said message ∷ part) h = sole_turns part h
sole_turns (Ran role cmd pipes status out err ∷ part) h = sole_turns part h
sole_turns (Missing role cmd ∷ part) h = sole_turns part h
sole_turns (Fault call why ∷ part) h = sole_turns part (and_parts _ _ h).1
sole_turns (event ∷ part) h = absurd (cc)

unasked : (call : HostCall) (why : Why) → not (is_probing call) ≡ true → question_event (Fault call why) ≡ []
unasked call why h = by_call (is_probing call) h
  where
    by_call : (b : Bool) → not b ≡ true → (if b then Fault call why ∷ [] else []) ≡ []
    by_call true k = absurd (cc)
    by_call false k = refl

-- it asks nothing
pub sole_asks_none : (part : List Event) → list_all is_sole part ≡ true → question_events part ≡ []
sole_asks_none [] h = refl
sole_asks_none (Printed kind bytes ∷ part) h = sole_asks_none part h
sole_asks_none (Said message ∷ part) h = sole_asks_none part h
sole_asks_none (Ran role cmd pipes status out err ∷ part) h = sole_asks_none part h
sole_asks_none (Missing role cmd ∷ part) h = sole_asks_none part h
sole_asks_none (Fault call why ∷ part) h = let k = and_parts _ _ h in ap (λ l. l ++ question_events part) (unasked call why k.0) ∙ sole_asks_none part k.1
sole_asks_none (event ∷ part) h = absurd (cc)

-- ---- what it tells

module _ {X : Type 0} (f : Event → List X) (quiet : (kind : LineKind) (bytes : List ℕ) → f (Printed kind bytes) ≡ []) (silent : (message : Message) → f (Said message) ≡ []) (p : Planned) (part : List Event) where
  pub done_tells : (refused : Bool) → (d : Done p refused part) → flat_map f part ≡ f d.event
  done_tells refused d =
      ap (flat_map f) d.cut ∙ flat_map-append f d.front (d.event ∷ d.rest) ∙ ap (λ l. l ++ flat_map f (d.event ∷ d.rest)) (lines_none f quiet silent d.front d.lines_before)
      ∙ ap (λ l. f d.event ++ l) (lines_none f quiet silent d.rest d.lines_behind) ∙ append-nil (f d.event)

  pub broken_tells : (b : Broken p part) → flat_map f part ≡ flat_map f b.tried ++ flat_map f b.last
  broken_tells b =
      ap (flat_map f) b.cut ∙ flat_map-append f b.front (b.tried ++ (b.rest ++ b.last)) ∙ ap (λ l. l ++ flat_map f (b.tried ++ (b.rest ++ b.last))) (lines_none f quiet silent b.front b.lines_before)
      ∙ flat_map-append f b.tried (b.rest ++ b.last) ∙ ap (λ l. flat_map f b.tried ++ l) (flat_map-append f b.rest b.last ∙ ap (λ l. l ++ flat_map f b.last) (lines_none f quiet silent b.rest b.lines_behind))

try_attempt : (p : Planned) (refused : Bool) (event : Event) → IsTry p refused event → attempt_of event ≡ to_attempt p ∷ []
try_attempt p refused (Ran role cmd pipes status out err) h = ap₂ (λ r c. (r, c) ∷ []) h.0 h.1
try_attempt p refused (Missing role cmd) h = ap₂ (λ r c. (r, c) ∷ []) h.0 h.1
try_attempt p refused event h = absurd h

-- the command is tried once
pub done_attempts : (p : Planned) (refused : Bool) (part : List Event) → Done p refused part → attempts part ≡ to_attempt p ∷ []
done_attempts p refused part d = done_tells attempt_of (λ kind bytes. refl) (λ message. refl) p part refused d ∙ try_attempt p refused d.event d.try

try_tried : (p : Planned) (refused : Bool) (event : Event) → IsTry p refused event → tried_of event ≡ (p.cmd, not refused) ∷ []
try_tried p refused (Ran role cmd pipes status out err) h = ap₂ (λ c b. (c, b) ∷ []) h.1 h.2
try_tried p refused (Missing role cmd) h = ap₂ (λ c b. (c, b) ∷ []) h.1 h.2
try_tried p refused event h = absurd h

-- and it was refused, or ended with 0
pub done_tried : (p : Planned) (refused : Bool) (part : List Event) → Done p refused part → all_tried part ≡ (p.cmd, not refused) ∷ []
done_tried p refused part d = done_tells tried_of (λ kind bytes. refl) (λ message. refl) p part refused d ∙ try_tried p refused d.event d.try

last_found : (last : List Event) → IsLast last → missing last ≡ []
last_found [] h = refl
last_found (Fault call why ∷ []) h = refl
last_found _ h = absurd h

tried_found : (p : Planned) (tried : List Event) → IsTriedOf p tried → missing tried ≡ []
tried_found p [] h = refl
tried_found p (Ran role cmd pipes status out err ∷ []) h = refl
tried_found p _ h = absurd h

-- where the run ended at it, its program isn't the missing one
pub broken_missing : (p : Planned) (part : List Event) → Broken p part → missing part ≡ []
broken_missing p part b = broken_tells missing_of (λ kind bytes. refl) (λ message. refl) p part b ∙ ap₂ (λ u v. u ++ v) (tried_found p b.tried b.of_command) (last_found b.last b.ended)

last_untried : (last : List Event) → IsLast last → attempts last ≡ []
last_untried [] h = refl
last_untried (Fault call why ∷ []) h = refl
last_untried _ h = absurd h

tried_once : (p : Planned) (tried : List Event) → IsTriedOf p tried → (attempts tried ≡ []) ⊎ (attempts tried ≡ to_attempt p ∷ [])
tried_once p [] h = inl refl
tried_once p (Ran role cmd pipes status out err ∷ []) h = inr (ap₂ (λ r c. (r, c) ∷ []) h.0 h.1)
tried_once p _ h = absurd h

-- where the run ended at it, it was tried at most once
pub broken_first : (p : Planned) (part : List Event) → Broken p part → (rest : List (Role × CommandSeen)) × (to_attempt p ∷ [] ≡ attempts part ++ rest)
broken_first p part b = by_tried (tried_once p b.tried b.of_command)
  where
    same : attempts part ≡ attempts b.tried
    same = broken_tells attempt_of (λ kind bytes. refl) (λ message. refl) p part b ∙ ap (λ l. attempts b.tried ++ l) (last_untried b.last b.ended) ∙ append-nil (attempts b.tried)

    by_tried : (attempts b.tried ≡ []) ⊎ (attempts b.tried ≡ to_attempt p ∷ []) → (rest : List (Role × CommandSeen)) × (to_attempt p ∷ [] ≡ attempts part ++ rest)
    by_tried (inl none) = (to_attempt p ∷ [], ap (λ l. l ++ to_attempt p ∷ []) (sym (same ∙ none)))
    by_tried (inr one) = ([], sym (ap (λ l. l ++ []) (same ∙ one)))

or_false : (a b : Bool) → a ≡ false → b ≡ false → (a || b) ≡ false
or_false true b p q = absurd (cc)
or_false false b p q = q

module _ (g : Event → Bool) (quiet : (kind : LineKind) (bytes : List ℕ) → g (Printed kind bytes) ≡ false) (silent : (message : Message) → g (Said message) ≡ false) (p : Planned) (part : List Event) where
  done_any : (refused : Bool) (d : Done p refused part) → g d.event ≡ false → list_any g part ≡ false
  done_any refused d none =
      ap (list_any g) d.cut ∙ list_any-append g d.front (d.event ∷ d.rest) ∙ or_false (list_any g d.front) (g d.event || list_any g d.rest) (lines_any g quiet silent d.front d.lines_before) (or_false (g d.event) (list_any g d.rest) none (lines_any g quiet silent d.rest d.lines_behind))

  pub broken_any : (b : Broken p part) → list_any g b.tried ≡ false → list_any g b.last ≡ false → list_any g part ≡ false
  broken_any b none last =
      ap (list_any g) b.cut ∙ list_any-append g b.front (b.tried ++ (b.rest ++ b.last))
      ∙ or_false (list_any g b.front) (list_any g (b.tried ++ (b.rest ++ b.last))) (lines_any g quiet silent b.front b.lines_before)
      (list_any-append g b.tried (b.rest ++ b.last) ∙ or_false (list_any g b.tried) (list_any g (b.rest ++ b.last)) none (list_any-append g b.rest b.last ∙ or_false (list_any g b.rest) (list_any g b.last) (lines_any g quiet silent b.rest b.lines_behind) last))

try_faultless : (p : Planned) (refused : Bool) (event : Event) → IsTry p refused event → is_fault event ≡ false
try_faultless p refused (Ran role cmd pipes status out err) h = refl
try_faultless p refused (Missing role cmd) h = refl
try_faultless p refused event h = absurd h

-- it has no fault
pub done_faultless : (p : Planned) (refused : Bool) (part : List Event) → Done p refused part → list_any is_fault part ≡ false
done_faultless p refused part d = done_any is_fault (λ kind bytes. refl) (λ message. refl) p part refused d (try_faultless p refused d.event d.try)

try_form : (p : Planned) (refused : Bool) (event : Event) → is_archive_role p.role ≡ true → IsTry p refused event → is_form event ≡ true
try_form p refused (Ran role cmd pipes status out err) is h = ap is_archive_role h.0 ∙ is
try_form p refused (Missing role cmd) is h = ap is_archive_role h.0 ∙ is
try_form p refused event is h = absurd h

or_there : (a b : Bool) → b ≡ true → (a || b) ≡ true
or_there true b h = refl
or_there false b h = h

-- it is the first form, where it is a command of the archive
pub done_forms : (p : Planned) (refused : Bool) (part : List Event) → is_archive_role p.role ≡ true → Done p refused part → list_any is_form part ≡ true
done_forms p refused part is d =
    ap (list_any is_form) d.cut ∙ list_any-append is_form d.front (d.event ∷ d.rest) ∙ or_there (list_any is_form d.front) (is_form d.event || list_any is_form d.rest) (ap (λ b. b || list_any is_form d.rest) (try_form p refused d.event is d.try))

try_silent : (p : Planned) (refused : Bool) (event : Event) → is_archive_role p.role ≡ false → IsTry p refused event → is_archive_event event ≡ false
try_silent p refused (Ran role cmd pipes status out err) none h = ap is_archive_role h.0 ∙ none
try_silent p refused (Missing role cmd) none h = ap is_archive_role h.0 ∙ none
try_silent p refused event none h = absurd h

pub done_silent : (p : Planned) (refused : Bool) (part : List Event) → is_archive_role p.role ≡ false → Done p refused part → list_any is_archive_event part ≡ false
done_silent p refused part none d = done_any is_archive_event (λ kind bytes. refl) (λ message. refl) p part refused d (try_silent p refused d.event none d.try)

tried_silent : (p : Planned) (tried : List Event) → is_archive_role p.role ≡ false → IsTriedOf p tried → list_any is_archive_event tried ≡ false
tried_silent p [] none h = refl
tried_silent p (Ran role cmd pipes status out err ∷ []) none h = or_false (is_archive_role role) false (ap is_archive_role h.0 ∙ none) refl
tried_silent p _ none h = absurd h

last_silent : (last : List Event) → IsLast last → list_any is_archive_event last ≡ false
last_silent [] h = refl
last_silent (Fault call why ∷ []) h = refl
last_silent _ h = absurd h

pub broken_silent : (p : Planned) (part : List Event) → is_archive_role p.role ≡ false → Broken p part → list_any is_archive_event part ≡ false
broken_silent p part none b = broken_any is_archive_event (λ kind bytes. refl) (λ message. refl) p part b (tried_silent p b.tried none b.of_command) (last_silent b.last b.ended)

-- ---- behind its fault

pub no_clash : (a b : Bool) → (a || b) ≡ false → a ≡ true → ⊥
no_clash true b none is = cc
no_clash false b none is = cc

pub or_rest : (a b : Bool) → (a || b) ≡ false → b ≡ false
or_rest true b none = absurd (cc)
or_rest false b none = none

-- a fault of a list stands behind its first events, of which none is one
pub beyond : (front rest before after : List Event) (event : Event) → list_any is_fault front ≡ false → is_fault event ≡ true → front ++ rest ≡ before ++ event ∷ after → (more : List Event) × (rest ≡ more ++ event ∷ after)
beyond [] rest before after event none fault e = (before, e)
beyond (x ∷ front) rest [] after event none fault e =
    let same : x ≡ event = cc in
    absurd (no_clash (is_fault x) (list_any is_fault front) none (ap is_fault same ∙ fault))
beyond (x ∷ front) rest (b ∷ before) after event none fault e =
    let others : front ++ rest ≡ before ++ event ∷ after = cc in
    beyond front rest before after event (or_rest (is_fault x) (list_any is_fault front) none) fault others

-- where the events before the last one have no fault, nothing stands behind a fault
last_one : (last more after : List Event) (event : Event) → IsLast last → last ≡ more ++ event ∷ after → after ≡ []
last_one [] [] after event h e = absurd (cc)
last_one [] (m ∷ more) after event h e = absurd (cc)
last_one (Fault call why ∷ []) [] after event h e = cc
last_one (Fault call why ∷ []) (m ∷ []) after event h e = absurd (cc)
last_one (Fault call why ∷ []) (m ∷ n ∷ more) after event h e = absurd (cc)
last_one _ more after event h e = absurd h

tried_faultless : (p : Planned) (tried : List Event) → IsTriedOf p tried → list_any is_fault tried ≡ false
tried_faultless p [] h = refl
tried_faultless p (Ran role cmd pipes status out err ∷ []) h = refl
tried_faultless p _ h = absurd h

-- behind the fault of such a run is nothing
pub broken_last : (p : Planned) (part before after : List Event) (call : HostCall) (why : Why) → Broken p part → is_probing call ≡ false → part ≡ before ++ Fault call why ∷ after → after ≡ []
broken_last p part before after call why b real here =
    let fault : is_fault (Fault call why) ≡ true = ap not real in
    let one = beyond b.front (b.tried ++ (b.rest ++ b.last)) before after (Fault call why) (lines_any is_fault (λ kind bytes. refl) (λ message. refl) b.front b.lines_before) fault (sym b.cut ∙ here) in
    let two = beyond b.tried (b.rest ++ b.last) one.0 after (Fault call why) (tried_faultless p b.tried b.of_command) fault one.1 in
    let three = beyond b.rest b.last two.0 after (Fault call why) (lines_any is_fault (λ kind bytes. refl) (λ message. refl) b.rest b.lines_behind) fault two.1 in
    last_one b.last three.0 after (Fault call why) b.ended three.1

-- where no event is a fault, none is this one
pub no_such_fault : (part before after : List Event) (call : HostCall) (why : Why) → list_any is_fault part ≡ false → is_probing call ≡ false → part ≡ before ++ Fault call why ∷ after → ⊥
no_such_fault part before after call why none real here =
    let found = beyond part [] before after (Fault call why) none (ap not real) (append-nil part ∙ here) in
    none_of found.0 found.1
  where
    none_of : (more : List Event) → [] ≡ more ++ Fault call why ∷ after → ⊥
    none_of [] e = cc
    none_of (m ∷ more) e = cc
