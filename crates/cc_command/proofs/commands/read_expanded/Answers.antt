use Rattle.std.proofs.Common.{false, map, string_bytes}
use Rattle.cc_command.proofs.WordLaws.{expands_so, repeats_so}
use Rattle.cc_command.proofs.commands.read_expanded.Goals as goal

pub returns-clause-ok : goal.returns-clause-ok
returns-clause-ok g c = expands_so (map string_bytes c.args.words.now) c.in_ok-set.set c.in_ok-set.ensures.ok

pub returns-clause-repeats : goal.returns-clause-repeats
returns-clause-repeats g c = repeats_so false 1 (map string_bytes c.args.words.now) c.in_ok-set.set c.in_ok-set.ensures.ok
