use Rattle.std.proofs.Common.{append_assoc, refl}
use Rattle.cc_flags.proofs.words.predefine.push_predefined.Goals as goal

pub returns : goal.returns
returns c = rw (c.in_ok-push_symbol.ensures, c.in_ok-push.ensures.ok, append_assoc) refl
