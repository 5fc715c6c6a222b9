-- The settings of words repeat their lines: a run of them warns of flags for the linker whenever it leaves some off.
use Rattle.std.proofs.Common.{◌≡◌, ℕ, List, [], ◌++◌, Bool, true, false, Option, Some, None, is_some, refl, ap, subst}
use Rattle.cc_env.specs.Env.{EnvSeen}
use Rattle.cc_host.specs.Question.{Look}
use Rattle.cc_host.specs.declared.event.Event.{Event}
use Rattle.cc_text.specs.declared.family.ToolFamily.{ToolFamily}
use Rattle.cc_plan.specs.Compiler.{compiler_of}
use Rattle.cc_plan.specs.Plan.{plan_warnings, warned_steps}
use Rattle.cc_plan.specs.Planned.{planned, warnings_of, supported_of}
use Rattle.cc_plan.specs.Tool.{other_warnings}
use Rattle.cc_flags.specs.Warnings.{link_warnings}
use Rattle.cc_flags.specs.declared.settings.BuildConfig.{BuildConfig}
use Rattle.cc_build.specs.Error.{ErrorSeen}
use Rattle.cc_build.specs.Stage.{Stage, calls, beside, finding_steps, compiles_planned, compile_stages, later_stages, late_stages, planned_stages}
use Rattle.cc_build.specs.Way.{Way, Found, Hears, Repeats, all_firsts, writing_of}
use Rattle.cc_command.specs.Answer.{warning, repeating, Findings}
use Rattle.cc_build.specs.Went.{Terms, Means, Went, Halted}

link_same : (set : BuildConfig) (env : EnvSeen) (family : ToolFamily) (warns_of_link : Bool) → set.repeat_lines ≡ true → link_warnings set env family warns_of_link ≡ link_warnings set env family true
unfolding link_warnings
link_same set env family warns_of_link repeats = rw repeats refl

warnings_same : (set : BuildConfig) (env : EnvSeen) (warns_of_link : Bool) (look : Look) → set.repeat_lines ≡ true → warnings_of set env warns_of_link look ≡ warnings_of set env true look
warnings_same set env warns_of_link look repeats =
    ap (λ w. other_warnings (planned set env look) (supported_of set env look) ++ w) (link_same set env (compiler_of set env look).family warns_of_link repeats)

opening_same : (set : BuildConfig) (env : EnvSeen) (found : Found) (look : Look) → set.repeat_lines ≡ true → plan_warnings set env found.warns_of_link look ≡ plan_warnings set env true look
opening_same set env found look repeats = let same = warnings_same set env found.warns_of_link look repeats in rw same refl

compile_same : (set : BuildConfig) (env : EnvSeen) (found : Found) (look : Look) → set.repeat_lines ≡ true → compile_stages set env found look ≡ compile_stages set env (warning found.here) look
unfolding compile_stages
compile_same set env found look repeats =
    ap (λ (texts : List (List ℕ)). calls (warned_steps set (is_some found.here) texts ++ finding_steps found.here) ++ beside (compiles_planned set env found.here look)) (opening_same set env found look repeats)

-- what such a run finds out
abbrev pub finds_of : (listens : Bool) (way : Way) → Hears listens way.found → Findings listens
finds_of listens way hears = record { here = way.found.here; hears = hears; writing = way.writing }

-- a run that ended before it found anything out
pub unfound : (listens : Bool) → Findings listens
unfound true = record { here = Some []; hears = refl; writing = writing_of false [] }
unfound false = record { here = None; hears = refl; writing = writing_of false [] }

pub stages_same : (set : BuildConfig) (env : EnvSeen) (way : Way) (look : Look) (output : List ℕ) → set.repeat_lines ≡ true → Repeats set way.firsts → planned_stages set env way look output ≡ planned_stages set env (repeating way.found.here way.writing) look output
unfolding planned_stages late_stages later_stages
stages_same set env way look output repeats all =
    let same = compile_same set env way.found look repeats in
    let first : way.firsts ≡ all_firsts = all repeats in
    rw (same, first) refl

-- a run of such settings, whether it warns or not
pub went_same : (set : BuildConfig) (env : EnvSeen) (way : Way) (look : Look) (output : List ℕ) (t : Terms) (part : List Event) (x y : Means) → set.repeat_lines ≡ true → Repeats set way.firsts → Went t (planned_stages set env way look output) part x y → Went t (planned_stages set env (repeating way.found.here way.writing) look output) part x y
went_same set env way look output t part x y repeats all w = subst (λ (stages : List Stage). Went t stages part x y) (stages_same set env way look output repeats all) w

pub halted_same : (set : BuildConfig) (env : EnvSeen) (way : Way) (look : Look) (output : List ℕ) (t : Terms) (refusal : Option ErrorSeen) (part : List Event) (e : ErrorSeen) (x y : Means) → set.repeat_lines ≡ true → Repeats set way.firsts → Halted t refusal (planned_stages set env way look output) part e x y → Halted t refusal (planned_stages set env (repeating way.found.here way.writing) look output) part e x y
halted_same set env way look output t refusal part e x y repeats all h = subst (λ (stages : List Stage). Halted t refusal stages part e x y) (stages_same set env way look output repeats all) h
