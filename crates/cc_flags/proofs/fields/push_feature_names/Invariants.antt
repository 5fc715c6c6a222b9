use Rattle.std.proofs.Common.{◌≡◌, ◌++◌, take, length, nat_lt}
use Rattle.std.specs.List.{filter}
use Rattle.cc_text.specs.Words.{texts}
use Rattle.cc_flags.proofs.fields.push_feature_names.Given as goal

abbrev pub invariant-loop-name : goal.invariant-loop-name
invariant-loop-name l = l.words ≡ l.initial.words ++ filter (λ name. nat_lt 0 (length name)) (texts (take l.name-index l.name-items))
