-- The sources of a build, as far as a refresh knows them.
use Rattle.std.specs.Prelude.{List, map}
use Rattle.cc_flags.specs.declared.object.Object.{Object}
use Rattle.cc_run.specs.declared.planned.Planned.{Planned}
use Rattle.cc_fresh.specs.Digests.{command_digest}
use Rattle.cc_fresh.specs.InTurn.{pairs}
use Rattle.cc_fresh.specs.declared.unit.TranslationUnit.{TranslationUnit}

-- a source with its object, and the digest of the command that compiles it
abbrev pub unit_of : Object × Planned → TranslationUnit
unit_of source = record { source = source.0.src; object = source.0.dst; command = command_digest source.1.cmd }

-- one for each source, in order
abbrev pub units_of : List Object → List Planned → List TranslationUnit
units_of objects commands = map unit_of (pairs objects commands)
