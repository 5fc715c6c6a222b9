-- The database of a compile run, and the calls of the host that are made for it.
use Rattle.std.specs.Prelude.{◌≡◌, ◌⊎◌, ◌-◌, ℕ, List, [], ◌∷◌, drop, length, map, Option, None, Some, if◌then◌else◌}
use Rattle.std.specs.List.{flat_map}
use Rattle.cc_env.specs.Env.{EnvSeen}
use Rattle.cc_host.specs.Command.{CommandSeen}
use Rattle.cc_host.specs.CompileCommand.{CompileCommandSeen, compile_command}
use Rattle.cc_host.specs.Question.{Look}
use Rattle.cc_host.specs.Script.{same_role}
use Rattle.cc_host.specs.declared.event.Event.{Event}
use Rattle.cc_host.specs.declared.event.Event.TheVariants.{Started, Fault}
use Rattle.cc_host.specs.declared.event.HostCall.{HostCall}
use Rattle.cc_host.specs.declared.event.Role.TheVariants.{Compile}
use Rattle.cc_host.specs.declared.event.Why.{Why}
use Rattle.cc_plan.specs.Plan.{compile_in, objects_of}
use Rattle.cc_flags.specs.declared.object.Object.{Object}
use Rattle.cc_flags.specs.declared.settings.BuildConfig.{BuildConfig}
use Rattle.cc_build.specs.Error.{ErrorSeen, no_memory}
use Rattle.cc_build.specs.Stop.{fault_error}
use Rattle.cc_build.specs.Went.{IsOf}

-- the entry of a source with its object, in a folder: the words are those of its compile command
abbrev pub entry_of : List ℕ → Object → CommandSeen → CompileCommandSeen
entry_of here object cmd = compile_command cmd object.src object.dst here

-- one entry for each source, in the order added
abbrev pub entries_of : BuildConfig → EnvSeen → Look → List ℕ → List CompileCommandSeen
entries_of set env look here =
    map (λ object. entry_of here object (compile_in set env look object)) (objects_of set env)

-- a command that was started to compile
abbrev pub compile_start : Event → List CommandSeen
compile_start (Started id role cmd pipes held) = if same_role role Compile then cmd ∷ [] else []
compile_start _ = []

-- what an option has, as a list
abbrev pub optional : {X : Type 0} → Option X → List X
optional None = []
optional (Some x) = x ∷ []

-- the commands that were started to compile, in order
abbrev pub compile_starts : List Event → List CommandSeen
compile_starts = flat_map compile_start

-- the entries of objects, each with the command at its place
abbrev pub entries_by : List ℕ → List Object → List CommandSeen → List CompileCommandSeen
entries_by here (object ∷ objects) (cmd ∷ cmds) = entry_of here object cmd ∷ entries_by here objects cmds
entries_by here _ _ = []

-- so many of a list, the last ones
abbrev pub last_of : {X : Type 0} → ℕ → List X → List X
last_of n xs = drop (length xs - n) xs

-- the entries of objects by a log whose last compile commands are theirs
abbrev pub logged_entries : List ℕ → List Object → List Event → List CompileCommandSeen
logged_entries here objects log = entries_by here objects (last_of (length objects) (compile_starts log))

-- this call of the host faulted, and the error is about the subject; or memory was wanted
abbrev pub Faults : HostCall → List ℕ → List Event → ErrorSeen → Type 0
Faults call subject part e =
    ((e ≡ no_memory) × (part ≡ []))
    ⊎ ((why : Why) × ((part ≡ Fault call why ∷ []) × IsOf (fault_error call why subject) e))
