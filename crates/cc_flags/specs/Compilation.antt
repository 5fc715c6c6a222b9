-- A compilation: the settings in their environment, the target, and a compiler.
use Rattle.cc_env.specs.Env.{EnvSeen}
use Rattle.cc_target.specs.Targets.{Info, info_seen}
use Rattle.cc_flags.specs.Target.{target_info}
use Rattle.cc_flags.specs.declared.compilation.Compilation.{Compilation}
use Rattle.cc_flags.specs.declared.compiler.Compiler.{Compiler}
use Rattle.cc_flags.specs.declared.settings.BuildConfig.{BuildConfig}

pub record CompilationSeen : Type 0 where
  pub set : BuildConfig
  pub env : EnvSeen
  pub target : Info
  pub compiler : Compiler

-- what is behind the borrows
abbrev pub seen : Compilation → CompilationSeen
seen c = record { set = c.set.now; env = c.env.now; target = info_seen c.target.now; compiler = c.compiler.now }

-- the compilation of these settings by a compiler
abbrev pub compilation_of : BuildConfig → EnvSeen → Compiler → CompilationSeen
compilation_of set env compiler = record { set = set; env = env; target = target_info set env; compiler = compiler }
