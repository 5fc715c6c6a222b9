-- Link lines by the path of a library, which is there already.
use Rattle.std.specs.Prelude.{ℕ, Bool, true, false, List, [], Option, Some, None, Result, is_some, if◌then◌else◌}
use Rattle.std.specs.Option.{option_map}
use Rattle.cc_env.specs.Env.{EnvSeen}
use Rattle.cc_host.specs.Question.{Look}
use Rattle.cc_host.specs.declared.event.Event.{Event}
use Rattle.cc_flags.specs.Names.{linked_library}
use Rattle.cc_plan.specs.Quiet.{quiet_warnings}
use Rattle.cc_plan.specs.Refusal.{path_refusal, link_refusal}
use Rattle.cc_flags.specs.Given.{first_of}
use Rattle.cc_plan.specs.Reruns.{rerun_names}
use Rattle.cc_flags.specs.Target.{target_info}
use Rattle.cc_flags.specs.declared.variables.Reads.{Reads}
use Rattle.cc_flags.specs.declared.settings.BuildConfig.{BuildConfig}
use Rattle.cc_build.specs.Build.{BuildSeen}
use Rattle.cc_build.specs.Error.{ErrorSeen}
use Rattle.cc_build.specs.Refusal.{plan_error}
use Rattle.cc_build.specs.Stage.{Stage, asked_then, links_of, printed_stages}
use Rattle.cc_build.specs.Way.{Firsts, Repeats}
use Rattle.cc_build.specs.Went.{Terms, Means, Ends}

abbrev pub name_or_none : Option (List ℕ × List ℕ) → List ℕ
name_or_none None = []
name_or_none (Some found) = found.0

-- the name of the library at a path
abbrev pub linked_name : BuildConfig → EnvSeen → List ℕ → List ℕ
linked_name set env library = name_or_none (linked_library (target_info set env) library)

-- what the lines read variables for
abbrev pub link_reads : Reads
link_reads =
    record {
      disabled = false;
      debug = false;
      compiler = false;
      assembler = false;
      flag = false;
      archiver = false;
      ranlib = false;
      links = true;
    }

-- The lines are planned by questions, and printed with those of the variables that were read; none where the path is no
-- library's. A host that listens is told of the compiler that decides on the C++ library.
abbrev pub directive_stages : BuildConfig → EnvSeen → Bool → Look → Firsts → List ℕ → List Stage
directive_stages set env listens look firsts library =
    if is_some (path_refusal set env library) then []
    else asked_then (link_refusal set env look)
    (printed_stages listens (quiet_warnings set env look) firsts
    (links_of set env (linked_name set env library) library look) (rerun_names link_reads set env look))

-- the error of a path that is no library's, or of settings that are refused
abbrev pub directive_error : BuildConfig → EnvSeen → Look → List ℕ → Option ErrorSeen
directive_error set env look library =
    first_of (option_map (plan_error set env library) (path_refusal set env library))
    (option_map (plan_error set env library) (link_refusal set env look))

-- Ok: nothing is refused, and the lines were printed. Else the first were, and the error has its cause. No child is
-- started, so this holds on any terms and uses nothing up.
abbrev pub DirectivesEnd : {T : Type 0} → BuildSeen → Bool → List ℕ → Result T ErrorSeen → Look → List Event → Type 0
DirectivesEnd b listens library result look part =
    (firsts : Firsts)
    × (Repeats b.config firsts
    × ((t : Terms) (x : Means)
    → Ends t (directive_error b.config b.env look library)
    (directive_stages b.config b.env listens look firsts library) part result x x))
