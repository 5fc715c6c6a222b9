use Rattle.std.proofs.Common.{◌∙◌, ap, sym}
use Rattle.std.specs.Str.{is_utf8}
use Rattle.std.proofs.lemmas.Str.{IsUtf8-from_is_utf8}
use Rattle.cc_host.proofs.verdicts.search_dirs.Goals as goal

pub dirs_at-requires-clause-text : goal.dirs_at-requires-clause-text
dirs_at-requires-clause-text c =
    rw c.as_slice-2.ensures at c.in-Some.ensures.text (IsUtf8-from_is_utf8 c.args.out (ap is_utf8 (sym c.as_slice.ensures) ∙ sym c.is_text.ensures ∙ c.if-not-is_text.false))
