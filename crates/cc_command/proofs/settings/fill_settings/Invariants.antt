use Rattle.std.proofs.Common.{◌≡◌, ◌+◌, map, take, drop, string_bytes}
use Rattle.cc_command.specs.Read.{first_bad, settings_of}
use Rattle.cc_command.proofs.settings.fill_settings.Given as goal

-- the words so far were good, and are set
abbrev pub invariant-loop-place : goal.invariant-loop-place
invariant-loop-place g l = record {
  rest : first_bad l.recorded (l.from + l.place) (map string_bytes (drop l.place l.words)) ≡ first_bad l.recorded l.from (map string_bytes l.words);
  build : l.build ≡ settings_of (map string_bytes (take l.place l.words));
}
