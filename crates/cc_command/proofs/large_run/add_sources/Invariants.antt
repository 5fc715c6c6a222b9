use Rattle.std.proofs.Common.{◌++◌}
use Rattle.cc_build.specs.Build.{Sets}
use Rattle.cc_command.specs.Generated.{gen_sources}
use Rattle.cc_command.proofs.large_run.add_sources.Given as goal

abbrev pub invariant-loop-place : goal.invariant-loop-place
invariant-loop-place l = Sets l.fn.build l.build (λ c. record c { files = c.files ++ gen_sources l.place })
