use Rattle.std.proofs.Common.{◌≡◌, string_bytes, refl, arith}
use Rattle.std.specs.Option.{option_copied}
use Rattle.cc_command.specs.Read.{database_in, values}
use Rattle.cc_command.proofs.SettingLaws.{or_before, path_here}
use Rattle.cc_command.proofs.settings.database_of.Goals as goal
use Rattle.cc_command.proofs.settings.database_of.Goals.{in-Some, in_default}

pub loop-word-init : goal.loop-word-init
unfolding values
loop-word-init c = refl

pub loop-word-preserved : goal.loop-word-preserved
loop-word-preserved c =
    let new : option_copied c.match-database_in.last ≡ or_before (database_in (string_bytes c.word-item.result)) (option_copied c.loop-word.last) =
    elim c.match-database_in.branch [
      | in-Some w ↦ grind (arith, c.database_in.ensures, c.as_str.ensures.value, w.in-Some, w.last-is)
      | in_default w ↦ grind (arith, c.database_in.ensures, c.as_str.ensures.value, w.in_default, w.last-is)
    ] in
    path_here string_bytes c.args.words.now c.loop-word.word-index c.word-item.result (option_copied c.loop-word.last) (option_copied c.match-database_in.last) c.loop-word-test.true c.word-item.is c.loop-word.invariant new
