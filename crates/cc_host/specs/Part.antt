-- How the part of a call is read. A part is what the call appended to the log of its host.
use Rattle.std.specs.Prelude.{◌≡◌, ℕ, List, [], ◌∷◌, ◌++◌, drop, length, map, Bool, true, false, if◌then◌else◌}
use Rattle.std.specs.List.{flat_map}
use Rattle.cc_host.specs.Command.{CommandSeen}
use Rattle.cc_host.specs.Status.{is_success}
use Rattle.cc_host.specs.declared.event.Role.{Role}
use Rattle.cc_host.specs.declared.event.Scope.{Scope}
use Rattle.cc_host.specs.declared.event.Scope.TheVariants.{Build, Probe as ForProbes}
use Rattle.cc_host.specs.declared.event.HostCall.{HostCall}
use Rattle.cc_host.specs.declared.event.LineKind.{LineKind}
use Rattle.cc_host.specs.declared.event.HostCall.TheVariants.{Output, Probe, MakeDir, CreateProbe, Write, Copy, Remove, CurrentDir, Print, Say, Vars}
use Rattle.cc_host.specs.declared.event.Event.{Event}
use Rattle.cc_host.specs.declared.event.Event.TheVariants.{Ran, Missing, Fault, Made, Removed, Wrote, Copied, Here, Printed, Said, Listed}
use Rattle.cc_host.specs.declared.event.Message.{Message}

-- the events since an earlier log
abbrev pub since : List Event → List Event → List Event
since old new = drop (length old) new

-- a fault of what a question wants: its command, its folder or its files. It ends no run.
abbrev pub is_probing : HostCall → Bool
is_probing Probe = true
is_probing (MakeDir ForProbes) = true
is_probing CreateProbe = true
is_probing _ = false

-- what a run asks of its host
pub data Step : Type 0 where
  Runs : Role → CommandSeen → Step
  Makes : Scope → List ℕ → Step
  Removes : List ℕ → Step
  Writes : List ℕ → List ℕ → Step
  Copies : List ℕ → List ℕ → Step
  Finds : List ℕ → Step
  Says : Message → Step
  Prints : LineKind → List ℕ → Step
  Lists : Step

-- the step that an event did: a command that ended with 0, a folder for objects made, a file removed, a file written,
-- a file copied, the current folder found, a line printed, a message said, the variables listed. What a question leaves in the log is no step.
abbrev pub step_of : Event → List Step
step_of (Ran role cmd pipes status out err) = if is_success status then Runs role cmd ∷ [] else []
step_of (Made Build path) = Makes Build path ∷ []
step_of (Removed path how) = Removes path ∷ []
step_of (Wrote path bytes) = Writes path bytes ∷ []
step_of (Copied from to) = Copies from to ∷ []
step_of (Here path) = Finds path ∷ []
step_of (Said message) = Says message ∷ []
step_of (Printed kind bytes) = Prints kind bytes ∷ []
step_of (Listed vars) = Lists ∷ []
step_of _ = []

-- the steps that were done, in order
abbrev pub done : List Event → List Step
done = flat_map step_of

-- an event that ends a run: a missing program, another end than 0, a fault but one of a question
abbrev pub stop_of : Event → List Event
stop_of (Ran role cmd pipes status out err) = if is_success status then [] else Ran role cmd pipes status out err ∷ []
stop_of (Missing role cmd) = Missing role cmd ∷ []
stop_of (Fault call why) = if is_probing call then [] else Fault call why ∷ []
stop_of _ = []

-- the events that end a run
abbrev pub stops : List Event → List Event
stops = flat_map stop_of

-- an event that ends no run
abbrev pub calm_of : Event → List Event
calm_of (Ran role cmd pipes status out err) = if is_success status then Ran role cmd pipes status out err ∷ [] else []
calm_of (Missing role cmd) = []
calm_of (Fault call why) = if is_probing call then Fault call why ∷ [] else []
calm_of event = event ∷ []

-- the events that end no run
abbrev pub calm : List Event → List Event
calm = flat_map calm_of

-- the steps that are left
abbrev pub left : List Step → List Event → List Step
left steps part = drop (length (done part)) steps

-- this event is the refusal of this step
abbrev pub Refuses : Step → Event → Type 0
Refuses (Runs role cmd) (Ran r c pipes status out err) = (r ≡ role) × (c ≡ cmd)
Refuses (Runs role cmd) (Missing r c) = (r ≡ role) × (c ≡ cmd)
Refuses (Runs role cmd) (Fault call why) = call ≡ Output
Refuses (Makes scope path) (Fault call why) = call ≡ MakeDir scope
Refuses (Removes path) (Fault call why) = call ≡ Remove
Refuses (Writes path bytes) (Fault call why) = call ≡ Write
Refuses (Copies from to) (Fault call why) = call ≡ Copy
Refuses (Finds path) (Fault call why) = call ≡ CurrentDir
Refuses (Says message) (Fault call why) = call ≡ Say
Refuses (Prints kind bytes) (Fault call why) = call ≡ Print
Refuses Lists (Fault call why) = call ≡ Vars
Refuses _ _ = ⊥

-- nothing ended the run, or one event did, which refused the next step
abbrev pub StopsAt : List Step → List Event → Type 0
StopsAt steps [] = Unit {0}
StopsAt (step ∷ steps) (event ∷ []) = Refuses step event
StopsAt _ _ = ⊥

-- The steps that were done are the first of these. At most one event more stands behind them, the refusal of the next step.
pub record IsPartly (steps : List Step) (part : List Event) : Type 0 where
  pub begun : steps ≡ done part ++ left steps part
  pub stop : StopsAt (left steps part) (stops part)
  pub last : part ≡ calm part ++ stops part

-- all of these steps were done, and nothing else
pub record IsWhole (steps : List Step) (part : List Event) : Type 0 where
  pub done_all : done part ≡ steps
  pub unstopped : stops part ≡ []

-- the variables that an event listed
abbrev pub listing_of : Event → List (List (List ℕ × List ℕ))
listing_of (Listed vars) = vars ∷ []
listing_of _ = []

-- the variables that were listed, call by call, in order
abbrev pub listings : List Event → List (List (List ℕ × List ℕ))
listings = flat_map listing_of

-- each of these commands, in order
abbrev pub runs : Role → List CommandSeen → List Step
runs role cmds = map (Runs role) cmds
