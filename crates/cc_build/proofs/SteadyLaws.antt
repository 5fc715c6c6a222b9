-- Calls by clones in a steady world: a list of them gives what it gives with empty caches.
use Rattle.std.proofs.Common.{◌≡◌, ◌≢◌, ◌⊎◌, inl, inr, ◌∙◌, refl, sym, ap, ap₂, subst, ℕ, List, [], ◌∷◌, ◌++◌, map, Bool, true, false, ◌||◌, Option, Some, None, is_some, IfOk, Result, Ok, Err, if◌then◌else◌}
use Rattle.std.specs.List.{All, list_all, list_any}
use Rattle.std.proofs.lemmas.List.Elements.{All-nil, All-cons, All-head, All-tail}
use Rattle.cc_host.specs.Command.{CommandSeen}
use Rattle.cc_host.specs.Part.{Step}
use Rattle.cc_host.specs.Question.{Look, Answer, Agrees, answers, Holds, is_yes}
use Rattle.cc_host.specs.Verdict.{verdict_of}
use Rattle.cc_host.specs.declared.event.Event.{Event}
use Rattle.cc_host.specs.declared.event.Event.TheVariants.{Answered, Reused, Unasked, Fault}
use Rattle.cc_host.specs.declared.event.HostCall.TheVariants.{Probe}
use Rattle.cc_host.specs.declared.event.LineKind.TheVariants.{Rerun}
use Rattle.cc_host.specs.declared.question.Ask.{Ask}
use Rattle.cc_host.specs.declared.question.Ask.TheVariants.{Exists}
use Rattle.cc_host.specs.declared.question.Outcome.{Outcome}
use Rattle.cc_host.specs.declared.question.Question.{Question}
use Rattle.cc_host.specs.declared.question.Verdict.{Verdict}
use Rattle.cc_host.specs.declared.question.Verdict.TheVariants.{Unanswered}
use Rattle.cc_tool.specs.Asked.{Asked}
use Rattle.cc_tool.specs.Asks.{IsWorlds}
use Rattle.cc_tool.specs.Founded.{IsFounded, Founded, is_probe_fault}
use Rattle.cc_tool.specs.Known.{MayKeep}
use Rattle.cc_tool.specs.Tool.{ToolSeen}
use Rattle.cc_tool.proofs.OwnLemmas.{no_outcome}
use Rattle.cc_flags.specs.declared.variables.Reads.{Reads}
use Rattle.cc_plan.specs.Archive.{archiver_of, ranlib_cmd_of}
use Rattle.cc_plan.specs.FlagSupport.{flag_verdict, support_warnings}
use Rattle.cc_plan.specs.Planned.{tool_of, warnings_of}
use Rattle.cc_plan.specs.Questions.{PlanAsks, ArchiverAsks, RanlibAsks, SupportAsks, RunAsks}
use Rattle.cc_plan.specs.Reruns.{rerun_names}
use Rattle.cc_build.specs.Build.{BuildSeen, probes, AsksByPlan, AsksByFlag}
use Rattle.cc_build.specs.Compiler.{IsTool, tool_error, tool_steps, CompilerEnds}
use Rattle.cc_build.specs.Error.{ErrorSeen, no_memory}
use Rattle.cc_build.specs.Failed.{HasFault, is_fault}
use Rattle.cc_build.specs.FlagSupport.{IsVerdict, support_error, support_steps, TrialEnds}
use Rattle.cc_build.specs.Outcome.{IsCausedBy}
use Rattle.cc_build.specs.Stage.{rerun_lines}
use Rattle.cc_build.specs.Told.{compiler_reads, flag_reads, archiver_reads, ranlib_reads, name_steps, unless_refused, DoesAndTells}
use Rattle.cc_build.specs.Tools.{IsArchiver, IsRanlib, archiver_error, ranlib_error, ArchiverEnds, RanlibEnds, AsksForArchiver, AsksForRanlib}
use Rattle.cc_build.specs.Way.{Firsts, chosen}
use Rattle.cc_build.proofs.FaultLaws.{stopped_fault}
use Rattle.cc_build.proofs.PrintedLaws.{is_told, told_both, told_printed, told_warned}
use Rattle.std.proofs.lemmas.List.Folds.{list_any-append}
use Rattle.cc_env.specs.Env.{EnvSeen}
use Rattle.cc_flags.specs.Given.{is_disabled}
use Rattle.cc_flags.specs.declared.object.Object.{Object}
use Rattle.cc_flags.specs.declared.settings.BuildConfig.{BuildConfig}
use Rattle.cc_plan.specs.Plan.{objects_of, compile_in, compiles_of}
use Rattle.cc_plan.specs.Refusal.{early_refusal, late_refusal}
use Rattle.cc_build.specs.Build.{AsksByRun}
use Rattle.cc_build.specs.Intermediates.{source_reads}
use Rattle.cc_build.specs.Planning.{planning_stages, planning_error, PlanningEnds}
use Rattle.cc_build.specs.Shows.{shows_of}
use Rattle.cc_build.specs.Stage.{Stage, calls, opening_steps, compile_planned, compiles_planned, folder_stages, name_stages}
use Rattle.cc_build.specs.Stage.Stage.{Calls, Asks, Tries, RunsOne, RunsAll}
use Rattle.cc_build.specs.Way.{Found}
use Rattle.cc_build.specs.Went.{Terms, Means, terms, means, Halts, Halted}
use Rattle.cc_build.specs.declared.planning.CompilePlan.{CompilePlan}
use Rattle.cc_build.proofs.AloneLaws.{AreStill, still_behind}
use Rattle.cc_build.proofs.PlanningLaws.{still_planning}
use Rattle.cc_build.proofs.SourceLaws.{opening_notes}
use Rattle.cc_build.proofs.StopLaws.{ArePlain, call_cause, plain_then, plain_unless, plain_lines, plain_notes, plain_folder}

-- ---- what a question comes to

-- it is for a file, which may come and go
abbrev pub asks_file : Ask → Bool
asks_file Exists = true
asks_file ask = false

-- what a question comes to in a steady world, where these files are there
abbrev pub world_look : (Question → Outcome) → Look → Look
world_look world files q = if asks_file q.ask then files q else verdict_of q (world q)

-- an answer about a file is that of these files
abbrev pub IsOfFiles : Look → Answer → Type 0
IsOfFiles files a = asks_file a.0.ask ≡ true → files a.0 ≡ a.1

-- the command of a question couldn't be run, or the question not asked
abbrev pub is_unheard : Event → Bool
is_unheard (Fault Probe why) = true
is_unheard (Unasked question) = true
is_unheard event = false

-- each question of a part was answered, and where one is for a file by these files
pub record Heard (files : Look) (part : List Event) : Type 0 where
  pub sound : list_any is_unheard part ≡ false
  pub there : All (IsOfFiles files) (answers part)

-- ---- a question that is heard of has a verdict

abbrev IsAnswered : Answer → Type 0
IsAnswered a = a.1 ≢ Unanswered

neither : (a b : Bool) → (a || b) ≡ false → (a ≡ false) × (b ≡ false)
neither true b h = absurd (cc)
neither false b h = (refl, h)

no_fault : (event : Event) → is_unheard event ≡ false → is_probe_fault event ≡ false
no_fault (Fault Probe why) h = h
no_fault event h = refl

kept : (q : Question) (v : Verdict) → MayKeep q v → v ≢ Unanswered
kept q v keep none = let off : MayKeep q Unanswered = subst (λ (x : Verdict). MayKeep q x) none keep in let clash = off.0 in cc

answered : (part : List Event) → Founded false part → list_any is_unheard part ≡ false → All IsAnswered (answers part)
answered [] h sound = All-nil IsAnswered
answered (event ∷ part) h sound =
    let k = neither (is_unheard event) (list_any is_unheard part) sound in
    by_event event h.0 k.0 (answered part (subst (λ (failed : Bool). Founded failed part) (no_fault event k.0) h.1) k.1)
  where
    by_event : (event : Event) → IsFounded false event → is_unheard event ≡ false → All IsAnswered (answers part) → All IsAnswered (answers (event ∷ part))
    by_event (Answered q files outcome) founded heard rest =
        All-cons IsAnswered (q, verdict_of q outcome) (answers part)
        (λ none. let clash : false ≡ true = subst (λ (o : Outcome). IsFounded false (Answered q files o)) (no_outcome q outcome none) founded in cc) rest
    by_event (Reused q v) founded heard rest = All-cons IsAnswered (q, v) (answers part) (kept q v founded) rest
    by_event (Unasked q) founded heard rest = absurd (cc)
    by_event event founded heard rest = rest

-- so in a steady world it has the world's
agrees : (world : Question → Outcome) (files : Look) (known : List Answer) → All (IsWorlds world) known → All IsAnswered known → All (IsOfFiles files) known → Agrees (world_look world files) known
agrees world files [] honest heard there = tt
agrees world files (a ∷ rest) honest heard there = (
  by_file (asks_file a.0.ask) refl,
  agrees world files rest (All-tail (IsWorlds world) a rest honest) (All-tail IsAnswered a rest heard) (All-tail (IsOfFiles files) a rest there),
)
  where
    by_file : (file : Bool) → asks_file a.0.ask ≡ file → (if file then files a.0 else verdict_of a.0 (world a.0)) ≡ a.1
    by_file true is = All-head (IsOfFiles files) a rest there is
    by_file false is = sym (All-head (IsWorlds world) a rest honest (All-head IsAnswered a rest heard) (λ asks. let clash : true ≡ false = sym (ap asks_file asks) ∙ is in cc))

-- What holds of a call by its answers holds by the world: its caches, and who filled them, are of no matter.
module _ (world : Question → Outcome) (files : Look) (dir : List ℕ) (asks : Look → Question → Type 0) (part : List Event) (asked : Asked true world dir asks part) (heard : Heard files part) where
  pub world_agrees : Agrees (world_look world files) (answers part)
  world_agrees = agrees world files (answers part) (asked.honest refl) (answered part asked.founded heard.sound) heard.there

  pub by_world : (P : Look → Type 0) → Holds (answers part) P → P (world_look world files)
  by_world P h = h.under (world_look world files) world_agrees

-- ---- calls that plan or try

-- what a build is asked: its compiler, its archiver, the tool that writes an index, whether its compiler takes a flag,
-- or the commands that compile for the library of an output
pub data Request : Type 0 where
  Compiler : Request
  Archiver : Request
  Ranlib : Request
  Support : List ℕ → Request
  Compiles : List ℕ → Request

-- and what it answers: a tool, a command, whether, or commands
pub data Reply : Type 0 where
  Tool : ToolSeen → Reply
  Program : CommandSeen → Reply
  Whether : Bool → Reply
  Commands : List CommandSeen → Reply

-- the questions that it may ask for that
abbrev pub AsksFor : BuildSeen → Request → Look → Question → Type 0
AsksFor b Compiler look q = PlanAsks b.config b.env look q
AsksFor b Archiver look q = ArchiverAsks b.config b.env look q
AsksFor b Ranlib look q = RanlibAsks b.config b.env look q
AsksFor b (Support flag) look q = SupportAsks b.config b.env flag look q
AsksFor b (Compiles output) look q = RunAsks b.config b.env look q

-- the error of settings that are refused
abbrev pub refusal_of : BuildSeen → Request → Look → Option ErrorSeen
refusal_of b Compiler look = tool_error b.config b.env look
refusal_of b Archiver look = archiver_error b.config b.env look
refusal_of b Ranlib look = ranlib_error b.config b.env look
refusal_of b (Support flag) look = support_error b.config b.env flag look
refusal_of b (Compiles output) look = planning_error b.config b.env look output

-- the reply to others
abbrev pub reply_of : BuildSeen → Request → Look → Reply
reply_of b Compiler look = Tool (tool_of b.config b.env look)
reply_of b Archiver look = Program (archiver_of b.config b.env look).cmd
reply_of b Ranlib look = Program (ranlib_cmd_of b.config b.env look)
reply_of b (Support flag) look = Whether (is_yes (flag_verdict b.config b.env flag look))
reply_of b (Compiles output) look = Commands (compiles_of b.config b.env look)

-- the reply, unless it is refused
abbrev pub unless : {X : Type 0} → Option ErrorSeen → X → Result X ErrorSeen
unless None x = Ok x
unless (Some e) x = Err e

-- what a build gives under these verdicts
abbrev pub given : BuildSeen → Request → Look → Result Reply ErrorSeen
given b request look = unless (refusal_of b request look) (reply_of b request look)

-- a call: the build, what it was asked, what it did, and what it gave
pub record Call : Type 0 where
  pub build : BuildSeen
  pub request : Request
  pub part : List Event
  pub result : Result Reply ErrorSeen

abbrev pub call : {X : Type 0} → BuildSeen → Request → List Event → (X → Reply) → Result X ErrorSeen → Call
call b request part reply (Ok x) = record { build = b; request = request; part = part; result = Ok (reply x) }
call b request part reply (Err e) = record { build = b; request = request; part = part; result = Err e }

-- memory was wanted, or a call of the host faulted that no question made
abbrev pub IsCutOff : Result Reply ErrorSeen → List Event → Type 0
IsCutOff result part = (result ≡ Err no_memory) ⊎ HasFault part

-- It keeps its contract in this world: it asked only what it may ask, and gave what a build gives, whichever verdicts
-- agree with the answers, unless it was cut off.
pub record Kept (world : Question → Outcome) (c : Call) : Type 0 where
  pub asked : Asked true world (probes c.build) (AsksFor c.build c.request) c.part
  pub gives : Holds (answers c.part) (λ look. (c.result ≡ given c.build c.request look) ⊎ IsCutOff c.result c.part)

-- ---- each such call of a build keeps it

-- lines of variables are printed alone
told_names : (reads : Reads) (b : BuildSeen) (refusal : Option ErrorSeen) (firsts : Firsts) (look : Look) → list_all is_told (unless_refused refusal (name_steps reads b.config b.env firsts look)) ≡ true
told_names reads b None firsts look = told_printed Rerun (rerun_lines (chosen firsts.names (rerun_names reads b.config b.env look)))
told_names reads b (Some e) firsts look = refl

-- a call that does such steps and tells of its variables
module _ {X : Type 0} (reads : Reads) (b : BuildSeen) (request : Request) (refusal : Option ErrorSeen) (steps : List Step) (told : list_all is_told steps ≡ true) (look : Look) (part : List Event) (reply : X → Reply) where
  refused_or_cut : (e : ErrorSeen) → DoesAndTells {T = X} reads b.config b.env refusal steps (Err e) look part → (refusal ≡ Some e) ⊎ IsCutOff (Err e) part
  refused_or_cut e h = by_cause h.1.1.1
    where
      by_cause : IsCausedBy refusal (steps ++ unless_refused refusal (name_steps reads b.config b.env h.0 look)) part e → (refusal ≡ Some e) ⊎ IsCutOff (Err e) part
      by_cause (inl memory) = inr (inl (ap (λ x. Err x) memory))
      by_cause (inr (inl refused)) = inl refused
      by_cause (inr (inr stopped)) = inr (inr (stopped_fault (steps ++ unless_refused refusal (name_steps reads b.config b.env h.0 look)) part e (told_both steps _ told (told_names reads b refusal h.0 look)) h.1.1.0 stopped))

  gave : (r : Result X ErrorSeen) (value : Reply) → IfOk r (λ x. reply x ≡ value) → DoesAndTells reads b.config b.env refusal steps r look part → ((call b request part reply r).result ≡ unless refusal value) ⊎ IsCutOff (call b request part reply r).result part
  gave (Ok x) value is h = let none : refusal ≡ None = h.1.1.0 in inl (rw none (ap (λ v. Ok v) is))
  gave (Err e) value is h = by_cause (refused_or_cut e h)
    where
      by_cause : (refusal ≡ Some e) ⊎ IsCutOff (Err e) part → (Err e ≡ unless refusal value) ⊎ IsCutOff (Err e) part
      by_cause (inl refused) = inl (rw refused refl)
      by_cause (inr cut) = inr cut

-- what is known of each answer, under verdicts that agree
under_ok : {X : Type 0} (known : List Answer) (P : X → Look → Type 0) (Q : X → Type 0) (r : Result X ErrorSeen) (look : Look) → Agrees look known → ((x : X) → P x look → Q x) → IfOk r (λ x. Holds known (P x)) → IfOk r Q
under_ok known P Q (Ok x) look agree more h = more x (h.under look agree)
under_ok known P Q (Err e) look agree more h = tt

module _ (world : Question → Outcome) (b : BuildSeen) (part : List Event) where
  kept_so : {X : Type 0} (request : Request) (reply : X → Reply) (r : Result X ErrorSeen) → Asked true world (probes b) (AsksFor b request) part → ((look : Look) → Agrees look (answers part) → ((call b request part reply r).result ≡ given b request look) ⊎ IsCutOff (call b request part reply r).result part) → Kept world (call b request part reply r)
  kept_so request reply (Ok x) asked gives = record { asked = asked; gives = record { under = gives } }
  kept_so request reply (Err e) asked gives = record { asked = asked; gives = record { under = gives } }

  pub compiler_kept : (listens : Bool) (r : Result ToolSeen ErrorSeen) → AsksByPlan true world b part → IfOk r (λ tool. Holds (answers part) (IsTool b.config b.env tool)) → Holds (answers part) (λ look. CompilerEnds b.config b.env listens r look part) → Kept world (call b Compiler part Tool r)
  compiler_kept listens r asked is ends = kept_so Compiler Tool r asked (λ look agree.
      let h = ends.under look agree in
      gave compiler_reads b Compiler (tool_error b.config b.env look) (tool_steps b.config b.env listens h.0 look) (told_warned b.config listens (warnings_of b.config b.env h.0 look)) look part Tool r (reply_of b Compiler look)
      (under_ok (answers part) (λ tool. IsTool b.config b.env tool) (λ tool. Tool tool ≡ reply_of b Compiler look) r look agree (λ tool same. ap (λ t. Tool t) same) is) h.1)

  pub archiver_kept : (r : Result CommandSeen ErrorSeen) → AsksForArchiver true world b part → IfOk r (λ cmd. Holds (answers part) (IsArchiver b.config b.env cmd)) → Holds (answers part) (λ look. ArchiverEnds b.config b.env r look part) → Kept world (call b Archiver part Program r)
  archiver_kept r asked is ends = kept_so Archiver Program r asked (λ look agree.
      gave archiver_reads b Archiver (archiver_error b.config b.env look) [] refl look part Program r (reply_of b Archiver look)
      (under_ok (answers part) (λ cmd. IsArchiver b.config b.env cmd) (λ cmd. Program cmd ≡ reply_of b Archiver look) r look agree (λ cmd same. ap (λ c. Program c) same.is) is) (ends.under look agree))

  pub ranlib_kept : (r : Result CommandSeen ErrorSeen) → AsksForRanlib true world b part → IfOk r (λ cmd. Holds (answers part) (IsRanlib b.config b.env cmd)) → Holds (answers part) (λ look. RanlibEnds b.config b.env r look part) → Kept world (call b Ranlib part Program r)
  ranlib_kept r asked is ends = kept_so Ranlib Program r asked (λ look agree.
      gave ranlib_reads b Ranlib (ranlib_error b.config b.env look) [] refl look part Program r (reply_of b Ranlib look)
      (under_ok (answers part) (λ cmd. IsRanlib b.config b.env cmd) (λ cmd. Program cmd ≡ reply_of b Ranlib look) r look agree (λ cmd same. ap (λ c. Program c) same.is) is) (ends.under look agree))

  pub support_kept : (listens : Bool) (flag : List ℕ) (r : Result Bool ErrorSeen) → AsksByFlag true world b flag part → IfOk r (λ yes. Holds (answers part) (IsVerdict b.config b.env flag yes)) → Holds (answers part) (λ look. TrialEnds b.config b.env listens flag r look part) → Kept world (call b (Support flag) part Whether r)
  support_kept listens flag r asked is ends = kept_so (Support flag) Whether r asked (λ look agree.
      gave flag_reads b (Support flag) (support_error b.config b.env flag look) (support_steps b.config b.env listens look) (told_warned b.config listens (support_warnings b.config b.env look)) look part Whether r (reply_of b (Support flag) look)
      (under_ok (answers part) (λ yes. IsVerdict b.config b.env flag yes) (λ yes. Whether yes ≡ reply_of b (Support flag) look) r look agree (λ yes same. ap (λ v. Whether v) same) is) (ends.under look agree))

-- ---- and a plan that isn't begun

-- calls of the host and questions alone end for want of memory, by a fault, or by a refusal
module _ (t : Terms) (refusal : Option ErrorSeen) where
  fault_behind : (front rest : List Event) → HasFault rest → HasFault (front ++ rest)
  fault_behind front rest h = list_any-append is_fault front rest ∙ or_last (list_any is_fault front) (list_any is_fault rest) h
    where
      or_last : (a b : Bool) → b ≡ true → (a || b) ≡ true
      or_last true b h = refl
      or_last false b h = h

  plain_behind : (a b : List Stage) → ArePlain (a ++ b) → ArePlain b
  plain_behind [] b h = h
  plain_behind (s ∷ a) b h = plain_behind a b h.1

  halts_cause : (stages : List Stage) (part : List Event) (e : ErrorSeen) (x y : Means) → ArePlain stages → AreStill stages → Halts t refusal stages part e x y → (refusal ≡ Some e) ⊎ ((e ≡ no_memory) ⊎ HasFault part)
  halts_cause [] part e x y plain still h = by_cause h.0
    where
      by_cause : (e ≡ no_memory) ⊎ (refusal ≡ Some e) → (refusal ≡ Some e) ⊎ ((e ≡ no_memory) ⊎ HasFault part)
      by_cause (inl memory) = inr (inl memory)
      by_cause (inr refused) = inl refused
  halts_cause (s ∷ ss) part e x y plain still (inl memory) = inr (inl memory.0)
  halts_cause (Calls step ∷ ss) part e x y plain still (inr d) = inr (inr (subst HasFault (sym d.1.0) (call_cause step d.0 plain.0 d.1.1)))
  halts_cause (Asks ∷ ss) part e x y plain still (inr d) = inr (inl d.0)
  halts_cause (Tries refused p ∷ ss) part e x y plain still (inr d) = absurd still.0
  halts_cause (RunsOne p ∷ ss) part e x y plain still (inr d) = absurd still.0
  halts_cause (RunsAll ps ∷ ss) part e x y plain still (inr d) = absurd still.0

  halted_cause : (stages : List Stage) (part : List Event) (e : ErrorSeen) (x z : Means) → ArePlain stages → AreStill stages → Halted t refusal stages part e x z → (refusal ≡ Some e) ⊎ ((e ≡ no_memory) ⊎ HasFault part)
  halted_cause stages part e x z plain still h =
      by_cause (halts_cause h.after h.rest e h.y z (plain_behind h.before h.after (subst ArePlain h.stages_are plain)) (still_behind h.before h.after (subst AreStill h.stages_are still)) h.halts)
    where
      by_cause : (refusal ≡ Some e) ⊎ ((e ≡ no_memory) ⊎ HasFault h.rest) → (refusal ≡ Some e) ⊎ ((e ≡ no_memory) ⊎ HasFault part)
      by_cause (inl refused) = inl refused
      by_cause (inr (inl memory)) = inr (inl memory)
      by_cause (inr (inr fault)) = inr (inr (subst HasFault (sym h.cut) (fault_behind h.front h.rest fault)))

module _ (set : BuildConfig) (env : EnvSeen) (found : Found) (look : Look) (firsts : Firsts) (output : List ℕ) where
  planning_plain : ArePlain (planning_stages set env found look firsts output)
  planning_plain =
      let opening : List Step = opening_steps set env found look in
      let names : List Stage = name_stages set env (source_reads set) look firsts in
      let told : List Stage = calls opening ++ Asks ∷ names in
      let asked : List Stage = Asks ∷ (if is_some (late_refusal set env look) then [] else told) in
      let rest : List Stage = if is_disabled env then [] else asked in
      let behind : ArePlain (Asks ∷ names) = (tt, plain_lines Rerun (rerun_lines (chosen firsts.names (rerun_names (source_reads set) set env look)))) in
      plain_unless (is_some (early_refusal set env output)) (folder_stages set env ++ rest)
      (plain_then (folder_stages set env) rest (plain_folder set env)
      (plain_unless (is_disabled env) asked (tt, plain_unless (is_some (late_refusal set env look)) told (plain_then (calls opening) (Asks ∷ names) (plain_notes opening (opening_notes set env found look)) behind))))

commands_of : (set : BuildConfig) (env : EnvSeen) (here : Option (List ℕ)) (look : Look) → map (λ p. p.cmd) (compiles_planned set env here look) ≡ compiles_of set env look
unfolding compiles_planned
commands_of set env here look = each (objects_of set env)
  where
    each : (objects : List Object) → map (λ p. p.cmd) (map (λ object. compile_planned here object (compile_in set env look object)) objects) ≡ map (compile_in set env look) objects
    each [] = refl
    each (object ∷ objects) = ap (λ cmds. compile_in set env look object ∷ cmds) (each objects)

abbrev pub planned_commands : CompilePlan → Reply
planned_commands plan = Commands (map (λ p. p.cmd) plan.commands.items)

module _ (world : Question → Outcome) (b : BuildSeen) (part : List Event) (listens : Bool) (output : List ℕ) where
  abbrev some_terms : Terms
  some_terms = terms (shows_of b.config b.env listens) None None

  abbrev some_means : Means
  some_means = means 0 0 0 0

  planned_so : (r : Result CompilePlan ErrorSeen) (look : Look) → PlanningEnds b listens output r look part → ((call b (Compiles output) part planned_commands r).result ≡ given b (Compiles output) look) ⊎ IsCutOff (call b (Compiles output) part planned_commands r).result part
  planned_so (Ok plan) look h =
      let none : planning_error b.config b.env look output ≡ None = (h.2.3 some_terms some_means).0 in
      let cmds : map (λ p. p.cmd) plan.commands.items ≡ compiles_of b.config b.env look = ap (map (λ p. p.cmd)) h.2.2.commands ∙ commands_of b.config b.env h.0.here look in
      inl (rw none (ap (λ c. Ok (Commands c)) cmds))
  planned_so (Err e) look h =
      by_cause (halted_cause some_terms (planning_error b.config b.env look output) (planning_stages b.config b.env h.0 look h.1 output) part e some_means some_means (planning_plain b.config b.env h.0 look h.1 output) (still_planning b.config b.env look output h.0 h.1) (h.2.3 some_terms some_means))
    where
      by_cause : (planning_error b.config b.env look output ≡ Some e) ⊎ ((e ≡ no_memory) ⊎ HasFault part) → (Err e ≡ given b (Compiles output) look) ⊎ IsCutOff (Err e) part
      by_cause (inl refused) = inl (rw refused refl)
      by_cause (inr (inl memory)) = inr (inl (ap (λ x. Err x) memory))
      by_cause (inr (inr fault)) = inr (inr fault)

  pub plan_kept : (r : Result CompilePlan ErrorSeen) → AsksByRun true world b part → Holds (answers part) (λ look. PlanningEnds b listens output r look part) → Kept world (call b (Compiles output) part planned_commands r)
  plan_kept r asked ends = kept_so world b part (Compiles output) planned_commands r asked (λ look agree. planned_so r look (ends.under look agree))

-- ---- a list of them

-- Two calls ask the same of equal builds, while the same files are there, and each question of theirs was answered.
-- Neither was cut off.
pub record AreAlike (c d : Call) : Type 0 where
  pub build : c.build ≡ d.build
  pub request : c.request ≡ d.request
  pub files : Look
  pub first_heard : Heard files c.part
  pub second_heard : Heard files d.part
  pub first_whole : IsCutOff c.result c.part → ⊥
  pub second_whole : IsCutOff d.result d.part → ⊥

-- one by one
abbrev pub EachAlike : List Call → List Call → Type 0
EachAlike [] [] = Unit {0}
EachAlike (c ∷ cs) (d ∷ ds) = AreAlike c d × EachAlike cs ds
EachAlike _ _ = ⊥

module _ (world : Question → Outcome) where
  -- a call gives what the world settles
  settled : (c : Call) (files : Look) → Kept world c → Heard files c.part → (IsCutOff c.result c.part → ⊥) → c.result ≡ given c.build c.request (world_look world files)
  settled c files k heard whole = by_case (by_world world files (probes c.build) (AsksFor c.build c.request) c.part k.asked heard (λ look. (c.result ≡ given c.build c.request look) ⊎ IsCutOff c.result c.part) k.gives)
    where
      by_case : (c.result ≡ given c.build c.request (world_look world files)) ⊎ IsCutOff c.result c.part → c.result ≡ given c.build c.request (world_look world files)
      by_case (inl is) = is
      by_case (inr cut) = absurd (whole cut)

  -- In a steady world calls give what the same calls give with other caches, empty ones among them: it is of no matter
  -- which builds share them, what they keep, and who was asked before.
  pub clones_alike : (cs ds : List Call) → All (Kept world) cs → All (Kept world) ds → EachAlike cs ds → map (λ c. c.result) cs ≡ map (λ d. d.result) ds
  clones_alike [] [] first second alike = refl
  clones_alike [] (d ∷ ds) first second alike = absurd alike
  clones_alike (c ∷ cs) [] first second alike = absurd alike
  clones_alike (c ∷ cs) (d ∷ ds) first second alike =
      let a = alike.0 in
      let here : given c.build c.request (world_look world a.files) ≡ given d.build d.request (world_look world a.files) = ap₂ (λ (b : BuildSeen) (r : Request). given b r (world_look world a.files)) a.build a.request in
      let one : c.result ≡ d.result = settled c a.files (All-head (Kept world) c cs first) a.first_heard a.first_whole ∙ here ∙ sym (settled d a.files (All-head (Kept world) d ds second) a.second_heard a.second_whole) in
      ap₂ (λ (r : Result Reply ErrorSeen) (rs : List (Result Reply ErrorSeen)). r ∷ rs) one (clones_alike cs ds (All-tail (Kept world) c cs first) (All-tail (Kept world) d ds second) alike.1)
