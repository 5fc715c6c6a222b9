-- The target of a compilation is what is known of the one that its settings name.
use Rattle.std.proofs.Common.{◌≡◌, ap}
use Rattle.cc_env.specs.Env.{EnvSeen}
use Rattle.cc_target.specs.Targets.{Info}
use Rattle.cc_flags.specs.Compilation.{CompilationSeen, compilation_of}
use Rattle.cc_flags.specs.Target.{target_info}
use Rattle.cc_flags.specs.declared.compiler.Compiler.{Compiler}
use Rattle.cc_flags.specs.declared.settings.BuildConfig.{BuildConfig}

abbrev pub with_target : BuildConfig → EnvSeen → Compiler → Info → CompilationSeen
with_target set env compiler target = record { set = set; env = env; target = target; compiler = compiler }

pub is_known : (set : BuildConfig) (env : EnvSeen) (compiler : Compiler) {target : Info} → target ≡ target_info set env → with_target set env compiler target ≡ compilation_of set env compiler
is_known set env compiler e = ap (with_target set env compiler) e
