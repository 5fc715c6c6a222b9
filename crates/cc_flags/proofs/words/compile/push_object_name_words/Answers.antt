use Rattle.std.proofs.Common.{append_assoc, refl}
use Rattle.cc_flags.specs.CompileWords.{object_name_words}
use Rattle.cc_flags.proofs.words.compile.push_object_name_words.Goals as goal

pub returns : goal.returns
unfolding object_name_words
returns c = rw (c.in_ok-push_joined.ensures.ok, c.in_ok-push.ensures.ok, append_assoc) refl
