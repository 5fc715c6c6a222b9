-- Sources that are compiled beside each other: where in the part they are.
use Rattle.cc_plan.specs.Reruns.{rerun_names}
use Rattle.std.proofs.Common.{◌≡◌, ◌⊎◌, inl, inr, ℕ, ◌+◌, ◌≤◌, List, [], ◌∷◌, ◌++◌, length, map, Bool, true, false, ◌||◌, if◌then◌else◌, is_some, Option, Result, Ok, Err, refl, sym, ◌∙◌, ap, ap₂, subst, append_assoc, append-nil, arith}
use Rattle.std.specs.List.{list_any}
use Rattle.std.proofs.lemmas.Grind.{flat_map-append}
use Rattle.std.proofs.lemmas.List.{length-map, map-append}
use Rattle.std.proofs.lemmas.List.Folds.{list_any-append}
use Rattle.std.proofs.lemmas.List.Sums.{sum_by-append}
use Rattle.cc_env.specs.Env.{EnvSeen}
use Rattle.cc_host.specs.Command.{CommandSeen}
use Rattle.cc_host.specs.Part.{Step}
use Rattle.cc_host.specs.Question.{Look}
use Rattle.cc_host.specs.declared.event.Event.{Event}
use Rattle.cc_host.specs.declared.event.Event.TheVariants.{Started, Turn}
use Rattle.cc_host.specs.declared.event.Role.{Role}
use Rattle.cc_host.specs.declared.event.Role.TheVariants.{Archive, Index}
use Rattle.cc_flags.specs.Given.{is_disabled}
use Rattle.cc_plan.specs.Plan.{archives_of, indexes_of, lists_of_run, archive_refusal, objects_of, folder_steps, removal_steps, link_lines, run_has_one_form, run_asks_folder, copy_steps}
use Rattle.cc_plan.specs.Refusal.{early_refusal, late_refusal, link_refusal}
use Rattle.cc_plan.specs.Quiet.{quiet_warnings}
use Rattle.cc_flags.specs.declared.settings.BuildConfig.{BuildConfig}
use Rattle.cc_run.specs.Part.{turns, turns_of}
use Rattle.cc_run.specs.declared.error.RunError.{RunError}
use Rattle.cc_run.specs.declared.planned.Planned.{Planned}
use Rattle.cc_build.specs.Attempts.{attempt_of, attempts, to_attempt}
use Rattle.cc_build.specs.Error.{ErrorSeen}
use Rattle.cc_build.specs.Promises.{is_compiling, RunBeside}
use Rattle.cc_build.specs.Stage.{Stage, commands_in, calls, planned, beside, compiles_planned, opening_steps, writings, asking_steps, folder_stages, compile_stages, removal_stages, library_commands, ready_stages, archive_stages, copy_stages, writing_stages, link_stages, library_stages, ending_stages, later_stages, late_stages, planned_stages, run_reads, ending_steps}
use Rattle.cc_build.specs.Way.{Way}
use Rattle.cc_build.proofs.SourceLaws.{planned_count}
use Rattle.cc_build.specs.Stage.Stage.{Calls, Asks, Tries, RunsOne, RunsAll}
use Rattle.cc_build.specs.Went.{Terms, Means, RanAll, Did, Stops, Partly}
use Rattle.cc_build.proofs.RunLaws.{commands_then, commands_calls, commands_written}
use Rattle.cc_build.proofs.SettledLaws.{partly_first}
use Rattle.cc_build.proofs.StopLaws.{ArePlain}
use Rattle.cc_build.proofs.TogetherLaws.{all_counted, all_busy, all_stops}
use Rattle.cc_build.proofs.TurnLaws.{step_turns, asked_turns, refused_turns}

-- ---- stages without a command

abbrev pub is_quiet : Stage → Bool
is_quiet (Calls step) = true
is_quiet Asks = true
is_quiet (Tries refused p) = false
is_quiet (RunsOne p) = false
is_quiet (RunsAll ps) = false

abbrev pub AreQuiet : List Stage → Type 0
AreQuiet [] = Unit {0}
AreQuiet (s ∷ ss) = (is_quiet s ≡ true) × AreQuiet ss

pub quiet_commands : (stages : List Stage) → AreQuiet stages → commands_in stages ≡ []
quiet_commands [] q = refl
quiet_commands (Calls step ∷ ss) q = quiet_commands ss q.1
quiet_commands (Asks ∷ ss) q = quiet_commands ss q.1
quiet_commands (Tries refused p ∷ ss) q = absurd (let k : false ≡ true = q.0 in cc)
quiet_commands (RunsOne p ∷ ss) q = absurd (let k : false ≡ true = q.0 in cc)
quiet_commands (RunsAll ps ∷ ss) q = absurd (let k : false ≡ true = q.0 in cc)

pub quiet_then : (a b : List Stage) → AreQuiet a → AreQuiet b → AreQuiet (a ++ b)
quiet_then [] b p q = q
quiet_then (s ∷ a) b p q = (p.0, quiet_then a b p.1 q)

quiet_calls : (steps : List Step) → AreQuiet (calls steps)
quiet_calls [] = tt
quiet_calls (step ∷ steps) = (refl, quiet_calls steps)

did_turnless : (t : Terms) (s : Stage) (part : List Event) (x y : Means) → is_quiet s ≡ true → Did t s part x y → turns part ≡ 0
did_turnless t (Calls step) part x y q d = ap turns d.1.0 ∙ step_turns step d.0 d.1.1
did_turnless t Asks part x y q d = asked_turns part d.0
did_turnless t (Tries refused p) part x y q d = absurd (let k : false ≡ true = q in cc)
did_turnless t (RunsOne p) part x y q d = absurd (let k : false ≡ true = q in cc)
did_turnless t (RunsAll ps) part x y q d = absurd (let k : false ≡ true = q in cc)

stop_turnless : (t : Terms) (s : Stage) (part : List Event) (e : ErrorSeen) (x y : Means) → is_quiet s ≡ true → Stops t s part e x y → turns part ≡ 0
stop_turnless t (Calls step) part e x y q d = ap turns d.1.0 ∙ refused_turns step d.0 d.1.1
stop_turnless t Asks part e x y q d = asked_turns part d.1
stop_turnless t (Tries refused p) part e x y q d = absurd (let k : false ≡ true = q in cc)
stop_turnless t (RunsOne p) part e x y q d = absurd (let k : false ≡ true = q in cc)
stop_turnless t (RunsAll ps) part e x y q d = absurd (let k : false ≡ true = q in cc)

both_none : (part a b : List Event) → part ≡ a ++ b → turns a ≡ 0 → turns b ≡ 0 → turns part ≡ 0
both_none part a b cut p q = let all : turns part ≡ turns a + turns b = ap turns cut ∙ sum_by-append turns_of a b in omega arith

partly_turnless : (t : Terms) (stages : List Stage) (part : List Event) (x z : Means) → AreQuiet stages → Partly t stages part x z → turns part ≡ 0
partly_turnless t [] part x z q p = ap turns p.0
partly_turnless t (s ∷ ss) part x z q (inl p) = ap turns p.0
partly_turnless t (s ∷ ss) part x z q (inr (inl stop)) = stop_turnless t s part stop.0 x z q.0 stop.1
partly_turnless t (s ∷ ss) part x z q (inr (inr d)) = both_none part d.0 d.1 d.3.0 (did_turnless t s d.0 x d.2 q.0 d.3.1) (partly_turnless t ss d.1 d.2 z q.1 d.3.2)

front_none : {X : Type 0} (a b : List X) → a ++ b ≡ [] → a ≡ []
front_none [] b h = refl
front_none (x ∷ a) b h = absurd (cc)

partly_untried : (t : Terms) (stages : List Stage) (part : List Event) (x z : Means) → AreQuiet stages → ArePlain stages → Partly t stages part x z → attempts part ≡ []
partly_untried t stages part x z q plain p =
    let r = partly_first t stages part x z plain p in
    front_none (attempts part) r.0 (sym r.1 ∙ ap (map to_attempt) (quiet_commands stages q))

-- ---- the stretch of the compile commands

not_there : {X : Type 0} (before after : List X) (x : X) → [] ≡ before ++ x ∷ after → ⊥
not_there [] after x h = cc
not_there (b ∷ before) after x h = cc

-- nothing was tried
resting : (total : Option ℕ) (stop : Bool) (count : ℕ) (part : List Event) → attempts part ≡ [] → turns part ≡ 0 → RunBeside total stop count part
resting total stop count part untried turnless = record {
  front = part;
  run = [];
  rest = [];
  cut = sym (append-nil part);
  idle = untried;
  still = turnless;
  within = λ before after id role cmd pipes held is. absurd (not_there before after (Started id role cmd pipes held) is);
  greedy = λ before after count is. absurd (not_there before after (Turn count) is);
  stops = λ on before after id role cmd pipes held is. absurd (not_there before after (Started id role cmd pipes held) is);
  others = refl;
}

none_resting : (total : Option ℕ) (stop : Bool) (count : ℕ) (part : List Event) → part ≡ [] → RunBeside total stop count part
none_resting total stop count part none = resting total stop count part (ap attempts none) (ap turns none)

or_kept : (k m n : Bool) → (m ≡ false → n ≡ false) → (k || m) ≡ false → (k || n) ≡ false
or_kept true m n h e = absurd (cc)
or_kept false m n h e = h e

front_false : (f : Role × CommandSeen → Bool) (a b : List (Role × CommandSeen)) → list_any f (a ++ b) ≡ false → list_any f a ≡ false
front_false f [] b h = refl
front_false f (x ∷ a) b h = or_kept (f x) (list_any f (a ++ b)) (list_any f a) (front_false f a b) h

-- none of these stages compiles
abbrev CompileNone : List Stage → Type 0
CompileNone stages = list_any is_compiling (map to_attempt (commands_in stages)) ≡ false

module _ (t : Terms) (ps : List Planned) where
  -- they ran here, and nothing was compiled behind them
  ran_here : (result : Result (Unit {0}) RunError) (part run rest : List Event) (x y : Means) → RanAll t ps run result x y → part ≡ run ++ rest → list_any is_compiling (attempts rest) ≡ false → RunBeside t.total t.shows.stop (length ps) part
  ran_here result part run rest x y h cut none = record {
    front = [];
    run = run;
    rest = rest;
    cut = cut;
    idle = refl;
    still = refl;
    within = all_counted t ps run result x y h;
    greedy = all_busy t ps run result x y h;
    stops = all_stops t ps run result x y h;
    others = none;
  }

  -- the same with quiet events before it
  later : (part front rest : List Event) → part ≡ front ++ rest → attempts front ≡ [] → turns front ≡ 0 → RunBeside t.total t.shows.stop (length ps) rest → RunBeside t.total t.shows.stop (length ps) part
  later part front rest cut untried turnless r = record {
    front = front ++ r.front;
    run = r.run;
    rest = r.rest;
    cut = cut ∙ ap (λ l. front ++ l) r.cut ∙ sym (append_assoc front r.front (r.run ++ r.rest));
    idle = flat_map-append attempt_of front r.front ∙ ap₂ (λ u v. u ++ v) untried r.idle;
    still = both_none (front ++ r.front) front r.front refl turnless r.still;
    within = r.within;
    greedy = r.greedy;
    stops = r.stops;
    others = r.others;
  }

  beside_in : (first more : List Stage) (part : List Event) (x z : Means) → AreQuiet first → ArePlain (first ++ RunsAll ps ∷ more) → CompileNone more → Partly t (first ++ RunsAll ps ∷ more) part x z → RunBeside t.total t.shows.stop (length ps) part
  beside_in [] more part x z q plain none (inl p) = none_resting t.total t.shows.stop (length ps) part p.0
  beside_in [] more part x z q plain none (inr (inl stop)) = ran_here (Err stop.1.0) part part [] x z stop.1.1.0 (sym (append-nil part)) refl
  beside_in [] more part x z q plain none (inr (inr d)) =
      let r = partly_first t more d.1 d.2 z plain.1 d.3.2 in
      ran_here (Ok tt) part d.0 d.1 x d.2 d.3.1 d.3.0 (front_false is_compiling (attempts d.1) r.0 (ap (list_any is_compiling) (sym r.1) ∙ none))
  beside_in (s ∷ first) more part x z q plain none (inl p) = none_resting t.total t.shows.stop (length ps) part p.0
  beside_in (s ∷ first) more part x z q plain none (inr (inl stop)) =
      resting t.total t.shows.stop (length ps) part (partly_untried t (s ∷ []) part x z (q.0, tt) (plain.0, tt) (inr (inl stop))) (stop_turnless t s part stop.0 x z q.0 stop.1)
  beside_in (s ∷ first) more part x z q plain none (inr (inr d)) =
      later part d.0 d.1 d.3.0
      (partly_untried t (s ∷ []) d.0 x d.2 (q.0, tt) (plain.0, tt) (inr (inr (d.0, [], d.2, (sym (append-nil d.0), d.3.1, (refl, refl))))))
      (did_turnless t s d.0 x d.2 q.0 d.3.1)
      (beside_in first more d.1 d.2 z q.1 plain.1 none d.3.2)

-- ---- the stages of a compile run

-- these commands run beside each other behind quiet stages, and nothing is compiled behind them
pub record Shape (ps : List Planned) (stages : List Stage) : Type 0 where
  pub first : List Stage
  pub more : List Stage
  pub are : stages ≡ first ++ RunsAll ps ∷ more
  pub quiet : AreQuiet first
  pub others : CompileNone more

two_beside : (ps : List Planned) → 2 ≤ length ps → beside ps ≡ RunsAll ps ∷ []
two_beside [] h = absurd (omega arith)
two_beside (p ∷ []) h = absurd (omega arith)
two_beside (p ∷ q ∷ ps) h = refl

by_checks : (early disabled late : Bool) (folder lines : List Stage) (ps : List Planned) (more : List Stage) → AreQuiet folder → AreQuiet lines → CompileNone more → AreQuiet (if early then [] else folder ++ (if disabled then [] else Asks ∷ (if late then [] else (lines ++ RunsAll ps ∷ []) ++ more))) ⊎ Shape ps (if early then [] else folder ++ (if disabled then [] else Asks ∷ (if late then [] else (lines ++ RunsAll ps ∷ []) ++ more)))
by_checks true disabled late folder lines ps more f l none = inl tt
by_checks false true late folder lines ps more f l none = inl (quiet_then folder [] f tt)
by_checks false false true folder lines ps more f l none = inl (quiet_then folder (Asks ∷ []) f (refl, tt))
by_checks false false false folder lines ps more f l none = inr (record {
  first = folder ++ Asks ∷ lines;
  more = more;
  are = ap (λ k. folder ++ Asks ∷ k) (append_assoc lines (RunsAll ps ∷ []) more) ∙ sym (append_assoc folder (Asks ∷ lines) (RunsAll ps ∷ more));
  quiet = quiet_then folder (Asks ∷ lines) f (refl, l);
  others = none;
})

none_archive : (cmds : List CommandSeen) → list_any is_compiling (map to_attempt (planned Archive cmds)) ≡ false
none_archive [] = refl
none_archive (cmd ∷ cmds) = none_archive cmds

none_index : (cmds : List CommandSeen) → list_any is_compiling (map to_attempt (planned Index cmds)) ≡ false
none_index [] = refl
none_index (cmd ∷ cmds) = none_index cmds

none_calls : (steps : List Step) → CompileNone (calls steps)
none_calls steps = ap (λ l. list_any is_compiling (map to_attempt l)) (commands_calls steps)

or_none : (a b : Bool) → a ≡ false → b ≡ false → (a || b) ≡ false
or_none true b p q = absurd (cc)
or_none false b p q = q

none_then : (a b : List Stage) → CompileNone a → CompileNone b → CompileNone (a ++ b)
none_then a b p q =
    ap (λ l. list_any is_compiling (map to_attempt l)) (commands_then a b)
    ∙ ap (list_any is_compiling) (map-append to_attempt (commands_in a) (commands_in b))
    ∙ list_any-append is_compiling (map to_attempt (commands_in a)) (map to_attempt (commands_in b))
    ∙ or_none (list_any is_compiling (map to_attempt (commands_in a))) (list_any is_compiling (map to_attempt (commands_in b))) p q

none_unless : (b : Bool) (stages : List Stage) → CompileNone stages → CompileNone (if b then [] else stages)
none_unless true stages p = refl
none_unless false stages p = p

module _ (set : BuildConfig) (env : EnvSeen) (way : Way) (look : Look) (output : List ℕ) where
  none_removal : CompileNone (removal_stages set env output)
  unfolding removal_stages
  none_removal = none_calls (removal_steps set env output)

  none_ready : CompileNone (ready_stages set env look way.writing.here output)
  unfolding ready_stages
  none_ready = none_calls (writings (lists_of_run set env look output) ++ asking_steps (run_asks_folder set env look output) way.writing.here)

  none_copy : CompileNone (copy_stages set env output)
  unfolding copy_stages
  none_copy = none_calls (copy_steps set env output)

  none_links : CompileNone (link_stages set env (is_some way.found.here) look way.firsts output)
  unfolding link_stages
  none_links = none_calls (ending_steps (is_some way.found.here) (quiet_warnings set env look) way.firsts (link_lines set env look output) (rerun_names (run_reads set) set env look))

  none_archives : CompileNone (archive_stages set env look way.writing output)
  unfolding archive_stages
  none_archives =
      let archives = archives_of set env look way.writing.is_plain way.writing.here output in
      let indexes = indexes_of set env look way.writing.is_plain output in
      ap (λ l. list_any is_compiling (map to_attempt l)) (commands_written (run_has_one_form set env look) way.writing.is_plain (library_commands set env look way.writing output))
      ∙ ap (list_any is_compiling) (map-append to_attempt (planned Archive archives) (planned Index indexes))
      ∙ list_any-append is_compiling (map to_attempt (planned Archive archives)) (map to_attempt (planned Index indexes))
      ∙ or_none (list_any is_compiling (map to_attempt (planned Archive archives))) (list_any is_compiling (map to_attempt (planned Index indexes))) (none_archive archives) (none_index indexes)

  none_ending : CompileNone (ending_stages set env way look output)
  none_ending = none_unless (is_some (link_refusal set env look)) (link_stages set env (is_some way.found.here) look way.firsts output) none_links

  none_library : CompileNone (library_stages set env way.writing look output ++ ending_stages set env way look output)
  none_library =
      none_then (library_stages set env way.writing look output) (ending_stages set env way look output)
      (none_then (removal_stages set env output) (writing_stages set env way.writing look output) none_removal
      (none_then (ready_stages set env look way.writing.here output) (archive_stages set env look way.writing output ++ copy_stages set env output) none_ready
      (none_then (archive_stages set env look way.writing output) (copy_stages set env output) none_archives none_copy)))
      none_ending

  none_behind : CompileNone (later_stages set env way look output)
  unfolding later_stages
  none_behind = none_unless (is_some (archive_refusal set env look)) (library_stages set env way.writing look output ++ ending_stages set env way look output) none_library

quiet_folder : (set : BuildConfig) (env : EnvSeen) → AreQuiet (folder_stages set env)
unfolding folder_stages
quiet_folder set env = quiet_calls (folder_steps set env)

module _ (set : BuildConfig) (env : EnvSeen) (way : Way) (look : Look) (output : List ℕ) where
  abbrev pub sources : List Planned
  sources = compiles_planned set env way.found.here look

  -- one command a source
  pub source_count : length sources ≡ length set.files
  source_count = planned_count set env way.found.here look ∙ length-map (objects_of set env) _ ∙ length-map set.files _

  compiled : 2 ≤ length set.files → compile_stages set env way.found look ≡ calls (opening_steps set env way.found look) ++ RunsAll sources ∷ []
  unfolding compile_stages
  compiled many = ap (λ l. calls (opening_steps set env way.found look) ++ l) (two_beside sources (subst (λ (n : ℕ). 2 ≤ n) (sym source_count) many))

  pub shape_of : 2 ≤ length set.files → AreQuiet (planned_stages set env way look output) ⊎ Shape sources (planned_stages set env way look output)
  unfolding planned_stages late_stages
  shape_of many =
      let same = compiled many in
      rw same
      (by_checks (is_some (early_refusal set env output)) (is_disabled env) (is_some (late_refusal set env look)) (folder_stages set env) (calls (opening_steps set env way.found look)) sources
      (later_stages set env way look output)
      (quiet_folder set env) (quiet_calls (opening_steps set env way.found look)) (none_behind set env way look output))

-- commands of such stages run in one stretch of the part
pub shaped_beside : (t : Terms) (ps : List Planned) (stages : List Stage) (part : List Event) (x z : Means) → ArePlain stages → AreQuiet stages ⊎ Shape ps stages → Partly t stages part x z → RunBeside t.total t.shows.stop (length ps) part
shaped_beside t ps stages part x z plain (inl q) p = resting t.total t.shows.stop (length ps) part (partly_untried t stages part x z q plain p) (partly_turnless t stages part x z q p)
shaped_beside t ps stages part x z plain (inr s) p = beside_in t ps s.first s.more part x z s.quiet (subst ArePlain s.are plain) s.others (subst (λ (l : List Stage). Partly t l part x z) s.are p)

-- they stay such stages behind a call of the host
pub shape_behind : (ps : List Planned) (step : Step) (stages : List Stage) → AreQuiet stages ⊎ Shape ps stages → AreQuiet (Calls step ∷ stages) ⊎ Shape ps (Calls step ∷ stages)
shape_behind ps step stages (inl q) = inl (refl, q)
shape_behind ps step stages (inr s) = inr (record { first = Calls step ∷ s.first; more = s.more; are = ap (λ l. Calls step ∷ l) s.are; quiet = (refl, s.quiet); others = s.others })

-- the sources are compiled in one stretch of the part
pub compiled_beside : (t : Terms) (set : BuildConfig) (env : EnvSeen) (way : Way) (look : Look) (output : List ℕ) (part : List Event) (x z : Means) → ArePlain (planned_stages set env way look output) → 2 ≤ length set.files → Partly t (planned_stages set env way look output) part x z → RunBeside t.total t.shows.stop (length set.files) part
compiled_beside t set env way look output part x z plain many p =
    subst (λ (n : ℕ). RunBeside t.total t.shows.stop n part) (source_count set env way look output)
    (shaped_beside t (sources set env way look output) (planned_stages set env way look output) part x z plain (shape_of set env way look output many) p)
