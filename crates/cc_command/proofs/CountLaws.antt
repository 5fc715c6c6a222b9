-- What is counted in a log: the commands of a role that begin, and the link lines of a run.
use Rattle.cc_host.specs.declared.event.Status.{Status}
use Rattle.cc_host.specs.Status.{is_success}
use Rattle.cc_host.specs.CommandLine.{command_line}
use Rattle.std.proofs.Common.{◌≡◌, ◌∙◌, refl, sym, ap, ap₂, ℕ, zero, suc, ◌+◌, List, [], ◌∷◌, ◌++◌, length, map, Bool, true, false, None, Err, zero-add, length-append, arith, codes, ◌&&◌, ◌||◌}
use Rattle.std.specs.Prelude.{cond, filter, replicate}
use Rattle.std.specs.List.{list_all, flat_map}
use Rattle.std.proofs.lemmas.Bool.{and_parts, and_from, false≢true}
use Rattle.std.proofs.lemmas.List.Elements.{filter-append}
use Rattle.std.proofs.lemmas.List.Folds.{list_all-append}
use Rattle.cc_host.specs.Command.{CommandSeen}
use Rattle.cc_host.specs.Event.{apart}
use Rattle.cc_host.specs.Script.{same_role}
use Rattle.cc_host.specs.declared.event.Event.{Event}
use Rattle.cc_host.specs.declared.event.Event.TheVariants.{Started, Ran, Missing, Turn, Printed}
use Rattle.cc_host.specs.declared.event.LineKind.TheVariants.{Link, Rerun, Warning, Stderr, Debug, Fault as FaultLine, Expanded, Shown}
use Rattle.cc_host.specs.declared.event.Role.{Role}
use Rattle.cc_host.specs.declared.event.Role.TheVariants.{Compile, Archive, Index}
use Rattle.cc_hosts.specs.Plain.{IsPlainLog}
use Rattle.cc_run.specs.Lines.{warnings}
use Rattle.cc_run.specs.Messages.{warned_of}
use Rattle.cc_run.specs.Output.{behind, map_warnings, IsSilentRun}
use Rattle.cc_run.specs.Own.{is_run_line, is_run_notice, is_of_run, AreRunLines}
use Rattle.cc_run.specs.Prints.{prints}
use Rattle.cc_run.specs.Texts.{announced, cargo_line, debug_line, ended_text}
use Rattle.cc_run.specs.declared.error.RunError.{RunError}
use Rattle.cc_run.specs.declared.error.RunError.TheVariants.{ToolNotFound, Failed as Fails, StartFault, WaitFault, HostFault, JobFault, TurnsSpent, NoMemory}
use Rattle.cc_run.specs.declared.planned.Planned.{Planned}
use Rattle.cc_run.specs.declared.print.Notice.{Notice}
use Rattle.cc_run.specs.declared.print.Notice.TheVariants.{Shown as Line, Told}
use Rattle.cc_text.specs.Words.{when}
use Rattle.cc_tool.specs.Probing.{is_asked}
use Rattle.cc_build.specs.Attempts.{attempts, to_attempt}
use Rattle.cc_build.specs.Stage.{planned}
use Rattle.cc_build.specs.Went.{Terms, is_refusal, Tried}
use Rattle.cc_command.specs.Generated.{counted_lines}
use Rattle.cc_command.specs.Summary.{begins, links, number, log_lines}
use Rattle.cc_command.proofs.PlainRunLaws.{plain_cut}

-- ---- numbers

number_one : {X : Type 0} (b : Bool) (x : X) (xs : List X) → length (cond b (x ∷ xs) xs) ≡ cond b 1 0 + length xs
number_one true x xs = omega arith
number_one false x xs = omega arith

number_cons : {X : Type 0} (f : X → Bool) (x : X) (xs : List X) → number f (x ∷ xs) ≡ cond (f x) 1 0 + number f xs
number_cons f x xs = number_one (f x) x (filter f xs)

pub number_both : {X : Type 0} (f : X → Bool) (xs ys : List X) → number f (xs ++ ys) ≡ number f xs + number f ys
number_both f xs ys = ap length (filter-append f xs ys) ∙ length-append (filter f xs) (filter f ys)

-- ---- turns that stand as one event

no_turn : (f : Event → Bool) → ((n : ℕ) → f (Turn n) ≡ false) → (n : ℕ) → number f (replicate n (Turn 1)) ≡ 0
no_turn f still zero = refl
no_turn f still (suc n) =
    number_cons f (Turn 1) (replicate n (Turn 1)) ∙ ap (λ b. cond b 1 0 + number f (replicate n (Turn 1))) (still 1)
    ∙ zero-add (number f (replicate n (Turn 1))) ∙ no_turn f still n

-- what is no turn is as often in a log that has them apart
number_apart : (f : Event → Bool) → ((n : ℕ) → f (Turn n) ≡ false) → (log : List Event) → number f (flat_map apart log) ≡ number f log
number_apart f still [] = refl
number_apart f still (Turn n ∷ log) =
    number_both f (replicate n (Turn 1)) (flat_map apart log) ∙ ap (λ k. k + number f (flat_map apart log)) (no_turn f still n)
    ∙ zero-add (number f (flat_map apart log)) ∙ number_apart f still log
    ∙ sym (number_cons f (Turn n) log ∙ ap (λ b. cond b 1 0 + number f log) (still n) ∙ zero-add (number f log))
number_apart f still (event ∷ log) =
    number_cons f event (flat_map apart log) ∙ ap (λ k. cond (f event) 1 0 + k) (number_apart f still log) ∙ sym (number_cons f event log)

number_of : (f : Event → Bool) → ((n : ℕ) → f (Turn n) ≡ false) → (events log : List Event) → flat_map apart events ≡ log → number f events ≡ number f log
number_of f still events log is = sym (number_apart f still events) ∙ ap (number f) is

-- the events that a host lends say the same as its log
pub lent_lines : (count : ℕ) (events log : List Event) → flat_map apart events ≡ log → log_lines count events ≡ log_lines count log
unfolding log_lines
lent_lines count events log is =
    let c = number_of (begins Compile) (λ n. refl) events log is in
    let a = number_of (begins Archive) (λ n. refl) events log is in
    let i = number_of (begins Index) (λ n. refl) events log is in
    let l = number_of links (λ n. refl) events log is in
    ap (λ n. counted_lines count n (number (begins Archive) events) (number (begins Index) events) (number links events)) c
    ∙ ap (λ n. counted_lines count (number (begins Compile) log) n (number (begins Index) events) (number links events)) a
    ∙ ap (λ n. counted_lines count (number (begins Compile) log) (number (begins Archive) log) n (number links events)) i
    ∙ ap (λ n. counted_lines count (number (begins Compile) log) (number (begins Archive) log) (number (begins Index) log) n) l

-- ---- commands of a role

abbrev pub is_for : Role → Role × CommandSeen → Bool
is_for wanted attempt = same_role attempt.0 wanted

-- where no program is missing, each attempt begins
pub begun_attempts : (wanted : Role) (part : List Event) → IsPlainLog part → number (begins wanted) part ≡ number (is_for wanted) (attempts part)
begun_attempts wanted [] p = refl
begun_attempts wanted (Started id role cmd pipes held ∷ part) p =
    number_cons (begins wanted) (Started id role cmd pipes held) part
    ∙ ap (λ n. cond (same_role role wanted) 1 0 + n) (begun_attempts wanted part (plain_cut (Started id role cmd pipes held) part p).1)
    ∙ sym (number_cons (is_for wanted) (role, cmd) (attempts part))
begun_attempts wanted (Ran role cmd pipes status out err ∷ part) p =
    number_cons (begins wanted) (Ran role cmd pipes status out err) part
    ∙ ap (λ n. cond (same_role role wanted) 1 0 + n) (begun_attempts wanted part (plain_cut (Ran role cmd pipes status out err) part p).1)
    ∙ sym (number_cons (is_for wanted) (role, cmd) (attempts part))
begun_attempts wanted (Missing role cmd ∷ part) p = absurd (false≢true (plain_cut (Missing role cmd) part p).0)
begun_attempts wanted (event ∷ part) p = begun_attempts wanted part (plain_cut event part p).1

pub one_more : {X : Type 0} (x : X) (xs : List X) → 1 + length xs ≡ length (x ∷ xs)
one_more x xs = omega arith

-- all commands that are planned in the role
pub planned_all : (role wanted : Role) → same_role role wanted ≡ true → (cmds : List CommandSeen) → number (is_for wanted) (map to_attempt (planned role cmds)) ≡ length cmds
planned_all role wanted same [] = refl
planned_all role wanted same (cmd ∷ cmds) =
    number_cons (is_for wanted) (role, cmd) (map to_attempt (planned role cmds))
    ∙ ap (λ b. cond b 1 0 + number (is_for wanted) (map to_attempt (planned role cmds))) same
    ∙ ap (λ n. 1 + n) (planned_all role wanted same cmds) ∙ one_more cmd cmds

-- and none that is planned in another
pub planned_none : (role wanted : Role) → same_role role wanted ≡ false → (cmds : List CommandSeen) → number (is_for wanted) (map to_attempt (planned role cmds)) ≡ 0
planned_none role wanted other [] = refl
planned_none role wanted other (cmd ∷ cmds) =
    number_cons (is_for wanted) (role, cmd) (map to_attempt (planned role cmds))
    ∙ ap (λ b. cond b 1 0 + number (is_for wanted) (map to_attempt (planned role cmds))) other
    ∙ zero-add (number (is_for wanted) (map to_attempt (planned role cmds))) ∙ planned_none role wanted other cmds

-- ---- link lines of a part

pub asked_links : (part : List Event) → list_all is_asked part ≡ true → number links part ≡ 0
asked_links [] h = refl
asked_links (Printed kind bytes ∷ part) h = absurd (cc)
asked_links (event ∷ part) h = asked_links part (and_parts (is_asked event) (list_all is_asked part) h).1

pub own_links : (part : List Event) → list_all is_of_run part ≡ true → number links part ≡ 0
own_links [] h = refl
own_links (Printed Link bytes ∷ part) h = absurd (cc)
own_links (Printed Rerun bytes ∷ part) h = absurd (cc)
own_links (Printed Warning bytes ∷ part) h = own_links part (and_parts true (list_all is_of_run part) h).1
own_links (Printed (Stderr id) bytes ∷ part) h = own_links part (and_parts true (list_all is_of_run part) h).1
own_links (Printed Debug bytes ∷ part) h = own_links part (and_parts true (list_all is_of_run part) h).1
own_links (Printed FaultLine bytes ∷ part) h = absurd (cc)
own_links (Printed Expanded bytes ∷ part) h = absurd (cc)
own_links (Printed Shown bytes ∷ part) h = absurd (cc)
own_links (event ∷ part) h = own_links part (and_parts (is_of_run event) (list_all is_of_run part) h).1

lines_when : (wanted : Bool) (ls : List Notice) → AreRunLines ls → AreRunLines (when wanted ls)
lines_when true ls h = h
lines_when false ls h = refl

lines_warned : (texts : List (List ℕ)) → AreRunLines (map (cargo_line Warning) texts)
lines_warned [] = refl
lines_warned (text ∷ texts) = lines_warned texts

lines_before : (debug : Bool) (text : List ℕ) → AreRunLines (when debug (debug_line text ∷ []))
lines_before debug text = lines_when debug (debug_line text ∷ []) refl

lines_both : (a b : List Notice) → AreRunLines a → AreRunLines b → AreRunLines (a ++ b)
lines_both a b p q = list_all-append is_run_notice a b ∙ and_from _ _ p q

own_notices : (ls : List Notice) → AreRunLines ls → list_all is_of_run (prints ls) ≡ true
own_notices [] h = refl
own_notices (Line kind bytes ∷ ls) h = let k = and_parts (is_run_line kind) (list_all is_run_notice ls) h in and_from _ _ k.0 (own_notices ls k.1)
own_notices (Told message ∷ ls) h = own_notices ls h

-- an event between lines of a run is none of them
between : (front rest : List Notice) (event : Event) (part : List Event) → AreRunLines front → AreRunLines rest → links event ≡ false → part ≡ prints front ++ event ∷ prints rest → number links part ≡ 0
between front rest event part before after other cut =
    let a : number links (prints front) ≡ 0 = own_links (prints front) (own_notices front before) in
    let b : number links (prints rest) ≡ 0 = own_links (prints rest) (own_notices rest after) in
    ap (number links) cut ∙ number_both links (prints front) (event ∷ prints rest)
    ∙ ap₂ (λ m n. m + n) a (number_cons links event (prints rest) ∙ ap₂ (λ c n. cond c 1 0 + n) other b)

module _ (t : Terms) (p : Planned) (part : List Event) where
  announces : AreRunLines (announced t.shows p.cmd)
  unfolding announced
  announces = lines_before t.shows.debug (codes "running: " ++ command_line p.cmd)

  lines_behind : (status : Status) (stderr : List ℕ) → AreRunLines (behind t.shows p.cmd false None status stderr)
  unfolding behind
  lines_behind status stderr =
      let succeeded = false || is_success status in
      let warned : List Notice = when (t.shows.warnings && succeeded) (map_warnings None stderr) in
      let said : List Notice = when (t.shows.listens && succeeded) (map (warned_of p.cmd) (warnings None stderr)) in
      let debug : List Notice = when t.shows.debug (debug_line (ended_text status) ∷ []) in
      lines_both ((warned ++ said) ++ debug) []
      (lines_both (warned ++ said) debug
      (lines_both warned said (lines_when (t.shows.warnings && succeeded) (map_warnings None stderr) (lines_warned (warnings None stderr))) (lines_when (t.shows.listens && succeeded) _ (lines_said (warnings None stderr))))
      (lines_before t.shows.debug (ended_text status)))
      refl
    where
      lines_said : (texts : List (List ℕ)) → AreRunLines (map (warned_of p.cmd) texts)
      lines_said [] = refl
      lines_said (text ∷ texts) = lines_said texts

  refused_links : (error : RunError) → is_refusal error ≡ true → IsSilentRun t.shows p (Err error) part → number links part ≡ 0
  unfolding behind
  refused_links (ToolNotFound place) r h = between (announced t.shows p.cmd) [] (Missing p.role p.cmd) part announces refl refl h.1
  refused_links (Fails place status) r h =
      between (announced t.shows p.cmd) (behind t.shows p.cmd false None status h.2.1.stderr) _ part announces
      (lines_behind status h.2.1.stderr) refl h.2.1.is
  refused_links (StartFault place) r h = absurd (cc)
  refused_links WaitFault r h = absurd (cc)
  refused_links (HostFault call why) r h = absurd (cc)
  refused_links JobFault r h = absurd (cc)
  refused_links TurnsSpent r h = absurd (cc)
  refused_links NoMemory r h = absurd (cc)

  pub tried_links : (refused : Bool) → Tried t p refused part → number links part ≡ 0
  unfolding behind
  tried_links false d =
      between (announced t.shows p.cmd) (behind t.shows p.cmd false None d.1.0 d.1.1.1.stderr) _ part announces
      (lines_behind d.1.0 d.1.1.1.stderr) refl d.1.1.1.is
  tried_links true d = refused_links d.0 d.1.0 d.1.1
