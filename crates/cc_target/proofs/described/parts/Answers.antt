-- Each part is what the name or its variable says.
use Rattle.std.proofs.Common.{refl}
use Rattle.cc_target.proofs.described.parts.Goals as goal

pub returns : goal.returns
returns c = rw (c.full_arch_of.ensures, c.value.ensures, c.value-2.ensures, c.value-3.ensures, c.value-4.ensures, c.value-5.ensures) refl
