-- What the words of a compiler are refused for.
use Rattle.std.specs.Prelude.{ℕ, Bool, ◌&&◌, List, Option, Some, None, is_none, codes, if◌then◌else◌}
use Rattle.cc_text.specs.declared.family.ToolFamily.{ToolFamily}
use Rattle.cc_target.specs.Targets.{Info}
use Rattle.cc_flags.specs.Compilation.{CompilationSeen}
use Rattle.cc_flags.specs.Given.{has_no_defaults}
use Rattle.cc_plan.specs.declared.error.PlanError.{PlanError}
use Rattle.cc_plan.specs.declared.error.PlanError.TheVariants.{NotSet, QnxArch, Flag, NoMemory}
use Rattle.cc_flags.specs.DefaultWords.{lacks_qnx_variant, is_wasm_linux}
use Rattle.std.specs.Option.{option_map}
use Rattle.cc_flags.specs.declared.error.FlagError.{FlagError}
use Rattle.cc_flags.specs.declared.error.FlagError.TheVariants.{InvalidFlag, NoMemory as WantsMemory}
use Rattle.cc_flags.specs.Inherited.{inherited_wrong}
use Rattle.cc_flags.specs.ToolWords.{names_target, musl_sysroot}

-- the one of two refusals that comes first
abbrev pub first_refusal : Option PlanError → Option PlanError → Option PlanError
first_refusal None second = second
first_refusal (Some refusal) second = Some refusal

-- QNX on an architecture for which its compiler has no variant is refused
unfoldable pub qnx_refusal : ToolFamily → Info → Option PlanError
qnx_refusal family target = if lacks_qnx_variant family target then Some (QnxArch target.full_arch) else None

-- the sysroot of musl for WebAssembly isn't set
unfoldable pub sysroot_refusal : Info → Option (List ℕ) → Option PlanError
sysroot_refusal target sysroot =
    if is_wasm_linux target && is_none sysroot then Some (NotSet (codes "WASM_MUSL_SYSROOT")) else None

-- Clang is told a target whose sysroot isn't set
unfoldable pub clang_refusal : CompilationSeen → Option PlanError
clang_refusal c = if names_target c then sysroot_refusal c.target (musl_sysroot c) else None

-- why there are no words of the target and the level, where they aren't left out
unfoldable pub defaults_refusal : CompilationSeen → Option PlanError
defaults_refusal c =
    if has_no_defaults c.set c.env then None
    else first_refusal (qnx_refusal c.compiler.family c.target) (clang_refusal c)

abbrev pub plan_refusal : FlagError → PlanError
plan_refusal (InvalidFlag flag) = Flag flag
plan_refusal WantsMemory = NoMemory

-- why they are refused
unfoldable pub inherited_refusal : Bool → List (List ℕ × List ℕ) → Option PlanError
inherited_refusal inherits env = option_map plan_refusal (inherited_wrong inherits env)
