use Rattle.std.proofs.Common.{false, map, string_bytes}
use Rattle.cc_command.proofs.WordLaws.{shows_so, repeats_so}
use Rattle.cc_command.proofs.commands.read_shown.Goals as goal

pub returns-clause-ok : goal.returns-clause-ok
returns-clause-ok g c = shows_so (map string_bytes c.args.words.now) c.in_ok-build.build c.in_ok-build.ensures.ok

pub returns-clause-repeats : goal.returns-clause-repeats
returns-clause-repeats g c = repeats_so false 1 (map string_bytes c.args.words.now) c.in_ok-build.build c.in_ok-build.ensures.ok
